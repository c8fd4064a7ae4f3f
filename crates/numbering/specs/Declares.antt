-- What the first walk keeps of the work slice, and with it the declared domains in their table. Assumes nothing.
use Rattle.std.specs.Prelude.{◌≡◌, List, ℕ, ◌+◌, ◌*◌, ℤ, pos, get_or, drop}
use Rattle.std.proofs.Common.{sym, ap, ◌∙◌, arith, get_or-drop}
use Rattle.memory.specs.Places.{ifs_word, declared_domains}
use Rattle.syntax.specs.Syntax.{Domain}
use Rattle.declared.specs.DomainTable.{word_at, Declares}

-- the words from here on
abbrev pub upper : ℕ
upper = ifs_word

word_kept : (w w' : List ℤ) (v k : ℕ) → drop upper w' ≡ drop upper w → word_at w' v k ≡ word_at w v k
unfolding word_at
word_kept w w' v k e =
    let i = 4 + 3 * v + k in
    let j : declared_domains + 3 * v + k ≡ upper + i = omega arith in
    ap (λ (n : ℕ). get_or w' n (pos 0)) j ∙ sym (get_or-drop upper w' i (pos 0)) ∙ ap (λ (l : List ℤ). get_or l i (pos 0)) e ∙ get_or-drop upper w i (pos 0) ∙ ap (λ (n : ℕ). get_or w n (pos 0)) (sym j)

pub declares_kept : (ds : List Domain) (w w' : List ℤ) → drop upper w' ≡ drop upper w → Declares ds w → Declares ds w'
declares_kept ds w w' e h v i = rw (word_kept w w' v 0 e, word_kept w w' v 1 e, word_kept w w' v 2 e) (h v i)
