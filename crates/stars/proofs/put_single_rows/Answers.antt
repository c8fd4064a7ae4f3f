use mathlib.Core.Path.{◌≡◌, refl, sym, ap, ◌∙◌}
use Prim.Native.Nat.{ℕ, ◌+◌, ◌-◌, ◌*◌}
use native.Mathlib.Nat.{zero-mul}
use native.Mathlib.Omega.{arith}
use lib.ListN.{drop}
use Rattle.sorting.specs.Columns.{vars_of}
use Rattle.sorting.proofs.Sorting.{next_row}
use Rattle.rows.specs.Stars.{is_single}
use Rattle.rows.proofs.Counting.{single_not}
use Rattle.stars.proofs.Laws.{left_start, left_next, left_skip, left_end, single_yes, single_no, single_none, rows_next, row_here}
use Rattle.stars.proofs.put_single_rows.Goals.{then-row_values-eq1, else-row_values-eq1}
use Rattle.stars.proofs.put_single_rows.Goals as goal

pub loop-i-init : goal.loop-i-init
loop-i-init c =
    let e : c.args.k - 0 ≡ c.args.k = omega arith in
    let g : c.args.at + 0 * c.args.n ≡ c.args.at = omega (arith, zero-mul c.args.n) in
    rw (e, g) (c.requires.0, left_start c.requires.1)

pub overflow_add-a : goal.overflow_add-a
overflow_add-a c =
    let i : ℕ = c.loop-i.i in
    let z : c.args.k - i ≡ 0 → ⊥ = λ e. omega (arith, e, c.loop-i-test.true) in
    omega (arith, (row_here c.args.work.now c.args.n (c.args.at + i * c.args.n) (c.args.k - i) c.args.cols z c.loop-i.invariant.0).within, c.well_formed)

pub row_values-requires : goal.row_values-requires
row_values-requires c =
    let i : ℕ = c.loop-i.i in
    let z : c.args.k - i ≡ 0 → ⊥ = λ e. omega (arith, e, c.loop-i-test.true) in
    (row_here c.args.work.now c.args.n (c.args.at + i * c.args.n) (c.args.k - i) c.args.cols z c.loop-i.invariant.0).within

pub put_values-q-requires : goal.put_values-q-requires
put_values-q-requires c =
    let i : ℕ = c.loop-i.i in
    let z : c.args.k - i ≡ 0 → ⊥ = λ e. omega (arith, e, c.loop-i-test.true) in
    (row_here c.args.work.now c.args.n (c.args.at + i * c.args.n) (c.args.k - i) c.args.cols z c.loop-i.invariant.0, c.loop-i.invariant.1.room)

pub loop-i-preserved : goal.loop-i-preserved
loop-i-preserved c =
    let i : ℕ = c.loop-i.i in
    let p : ℕ = c.args.at + i * c.args.n in
    let left : ℕ = c.args.k - i in
    let z : left ≡ 0 → ⊥ = λ e. omega (arith, e, c.loop-i-test.true) in
    let e : c.args.k - (i + 1) ≡ left - 1 = omega arith in
    let g : c.args.at + (i + 1) * c.args.n ≡ p + c.args.n = omega (arith, next_row i c.args.n (i * c.args.n) refl) in
    let next = rows_next c.args.work.now c.args.n p left c.args.cols z c.loop-i.invariant.0 in
    elim c.if-row_values-eq1.branch [
      | then-row_values-eq1 w ↦
          let one : c.row_values.result ≡ 1 = omega (arith, w.if-row_values-eq1.true) in
          rw (e, g, w.out-is, w.q-is) (next, left_next _ _ c.loop-i.invariant.1 (single_yes c.args.work.now c.args.n p left z (vars_of c.args.n (drop c.args.cols c.args.work.now)) (ap is_single (sym c.row_values.ensures.0 ∙ one))) w.put_values-q.ensures)
      | else-row_values-eq1 w ↦ rw (e, g, w.out-is, w.q-is) (next, left_skip _ c.loop-i.invariant.1 (single_no c.args.work.now c.args.n p left z (vars_of c.args.n (drop c.args.cols c.args.work.now)) (ap is_single (sym c.row_values.ensures.0) ∙ single_not _ w.if-row_values-eq1.false)))
    ]

pub returns : goal.returns
returns c =
    let i : ℕ = c.loop-i.i in
    left_end c.loop-i.invariant.1 (single_none c.args.work.now c.args.n (c.args.at + i * c.args.n) (vars_of c.args.n (drop c.args.cols c.args.work.now)) (c.args.k - i) (omega (arith, c.loop-i-test.false)))
