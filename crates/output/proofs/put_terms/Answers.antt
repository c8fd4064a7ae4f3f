use mathlib.Core.Path.{◌≡◌, refl, ◌∙◌}
use mathlib.Core.List.{◌∷◌}
use Prim.Native.Nat.{ℕ, ◌+◌, ◌≤◌, ◌<◌}
use native.Mathlib.Omega.{arith}
use native.Mathlib.Numerals.{add-one}
use lib.IntN.{pos}
use lib.ListN.{length, get_or, drop}
use mir.Syntax.{w32}
use mir.Val.{SFits}
use Rattle.sums.specs.declared.LinearSum.{LinearSum}
use Rattle.sums.specs.LinearSum.{term}
use Rattle.sums.specs.Struct.{terms}
use Rattle.sums.proofs.Laws.{is_param, drop_term, length_terms}
use Rattle.walks.specs.Totals.{Word}
use Rattle.laws.specs.Writes.{wrote_length}
use Rattle.output.proofs.Laws.{open_next, put_word, put_cast, terms_step, terms_end, each_more}
use borrow.Author.Rules.{rules}
use Rattle.output.proofs.put_terms.Goals as goal

here : (s : LinearSum) (i : ℕ) → length s.vars ≡ 64 → length s.coefs ≡ 64 → s.count ≤ 64 → i < s.count → drop i (terms s) ≡ term (get_or s.vars i 0) (get_or s.coefs i (pos 0)) ∷ drop (i + 1) (terms s)
here s i hv hc h l = rw add-one (drop_term s hv hc (is_param s hv hc h).room i l)

pub loop-i-init : goal.loop-i-init
loop-i-init c = (c.requires.2, refl, c.requires.1, λ c q h. h)

pub overflow_cast-s : goal.overflow_cast-s
overflow_cast-s c =
    let l = c.loop-i in
    let z : Word (get_or c.args.s.vars l.i 0) = (each_more Word _ _ _ _ (here c.args.s l.i (search rules) (search rules) c.requires.0 c.loop-i-test.true) l.invariant.2).0 in
    record { sfits = omega arith }

pub put-q-requires : goal.put-q-requires
put-q-requires c = c.loop-i.invariant.0

pub put-p-requires : goal.put-p-requires
put-p-requires c = open_next c.loop-i.invariant.0 c.put-q.ensures

pub loop-i-preserved : goal.loop-i-preserved
loop-i-preserved c =
    let l = c.loop-i in
    let h = here c.args.s l.i (search rules) (search rules) c.requires.0 c.loop-i-test.true in
    let m = each_more Word _ _ _ _ h l.invariant.2 in
    let f : SFits w32 (get_or c.args.s.coefs l.i (pos 0)) = search rules in
    let x = put_cast m.0 c.put-q.ensures in
    let y = put_word f refl c.put-p.ensures in
    (open_next (open_next l.invariant.0 x) y, wrote_length y ∙ wrote_length x ∙ l.invariant.1, m.1, λ c q z. l.invariant.3 c q (terms_step _ _ _ _ h l.invariant.0.room x y z))

pub returns : goal.returns
returns c = c.loop-i.invariant.3 _ _ (terms_end _ _ (terms c.args.s) c.loop-i.i (omega (arith, length_terms c.args.s (search rules) (search rules) c.requires.0, c.loop-i-test.false)) c.loop-i.invariant.0.low)
