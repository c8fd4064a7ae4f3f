-- The words of comparisons, from the sums that are computed of their sides.
use mathlib.Core.Path.{◌≡◌, subst}
use mathlib.Core.Bool.{Bool}
use mathlib.Core.List.{List, []}
use Prim.Native.Nat.{ℕ}
use lib.IntN.{ℤ}
use Rattle.laws.specs.Writes.{Wrote}
use Rattle.syntax.specs.Syntax.{op_at}
use Rattle.sums.specs.LinearSum.{LinearSum, sub_sum}
use Rattle.sums.specs.Struct.{sum_of, Stands}
use Rattle.sums.specs.declared.LinearSum.{LinearSum as Sum}
use Rattle.clauses.specs.Clause.{linear}
use Rattle.clauses.specs.Normalize.{negate_op_if}
use Rattle.answer.specs.Answer.{linear_words}
use Rattle.sums.proofs.Laws.{stands_sum}
use Rattle.walk.specs.declared.Counters.{Counters}
use Rattle.walks.specs.Tree.{Splitting}
use Rattle.walks.specs.Item.{comparison, form_int_item}
use Rattle.rulewriter.specs.Places.{left_at, right_at, compared}

pub compared_sums : (w : List ℤ) (l : ℕ) (m : Splitting) (at base : ℕ) (n : Counters) (k : ℕ) (g : Bool) (r : Sum)
    → Stands r (sub_sum ((form_int_item [] (left_at w l m at base)).total w n) ((form_int_item [] (right_at w l m at base)).total w ((form_int_item [] (left_at w l m at base)).behind w n)))
    → {out a : List ℤ} {o p : ℕ} → Wrote out o (linear_words (linear (negate_op_if g (op_at k)) (sum_of r))) a p → Wrote out o (compared w l m at base n (op_at k) g) a p
unfolding comparison
compared_sums w l m at base n k g r h {out} {a} {o} {p} x =
    let b = form_int_item [] (left_at w l m at base) in
    let e : sum_of r ≡ sub_sum (b.total w n) ((form_int_item [] (right_at w l m at base)).total w (b.behind w n)) = stands_sum r _ h in
    subst (λ (s : LinearSum). Wrote out o (linear_words (linear (negate_op_if g (op_at k)) s)) a p) e x
