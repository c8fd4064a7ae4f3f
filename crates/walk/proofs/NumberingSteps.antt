-- The part of the work slice that is read: its length, its words, and that a store behind it leaves it.
use Rattle.std.specs.Prelude.{◌≡◌, List, ℕ, ◌≤◌, ◌<◌, ℤ, pos, length, get_or, set}
use Rattle.std.proofs.Common.{sym, ap, ◌∙◌, arith, length-take, get_or-take}
use Rattle.std.proofs.lemmas.List.{take-set-le}
use Rattle.memory.specs.Places.{folded_end}
use Rattle.walk.specs.Decode.{read_part}

pub part_short : (w : List ℤ) → length (read_part w) ≤ folded_end
unfolding read_part
part_short w = omega (arith, length-take folded_end w)

pub part_length : (w : List ℤ) → folded_end ≤ length w → length (read_part w) ≡ folded_end
unfolding read_part
part_length w h = omega (arith, length-take folded_end w)

-- slices whose parts are the same have the same words there
pub part_word : (w w' : List ℤ) → read_part w' ≡ read_part w → (k : ℕ) → k < folded_end → get_or w' k (pos 0) ≡ get_or w k (pos 0)
unfolding read_part
part_word w w' e k h = sym (get_or-take folded_end w' k (pos 0) h) ∙ ap (λ (l : List ℤ). get_or l k (pos 0)) e ∙ get_or-take folded_end w k (pos 0) h

pub part_set : (w : List ℤ) (p : ℕ) (x : ℤ) → folded_end ≤ p → read_part (set w p x) ≡ read_part w
unfolding read_part
part_set w p x h = take-set-le folded_end w p x h
