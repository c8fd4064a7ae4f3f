use mathlib.Core.Path.{◌≡◌, refl, sym, ap, ◌∙◌}
use Prim.Native.Nat.{ℕ, ◌+◌, ◌-◌, ◌*◌}
use native.Mathlib.Nat.{zero-mul}
use native.Mathlib.Omega.{arith}
use lib.ListN.{drop}
use Rattle.sorting.specs.Columns.{vars_of}
use Rattle.sorting.proofs.Sorting.{next_row}
use Rattle.rows.specs.Stars.{is_longer}
use Rattle.rows.proofs.Counting.{longer_is}
use Rattle.stars.proofs.Laws.{rest_start, rest_next, rest_skip, rest_end, long_yes, long_no, long_none, longer_no, rows_next, row_here}
use Rattle.stars.proofs.put_long_rows.Goals as goal

pub loop-i-init : goal.loop-i-init
loop-i-init c =
    let e : c.args.k - 0 ≡ c.args.k = omega arith in
    let g : c.args.at + 0 * c.args.n ≡ c.args.at = omega (arith, zero-mul c.args.n) in
    rw (e, g) (c.requires.0, omega arith, rest_start c.requires.2)

pub overflow_add-a : goal.overflow_add-a
overflow_add-a c =
    let i : ℕ = c.loop-i.i in
    let z : c.args.k - i ≡ 0 → ⊥ = λ e. omega (arith, e, c.loop-i-test.true) in
    omega (arith, (row_here c.args.work.now c.args.n (c.args.at + i * c.args.n) (c.args.k - i) c.args.cols z c.loop-i.invariant.0).within, c.well_formed)

pub row_values-requires : goal.row_values-requires
row_values-requires c =
    let i : ℕ = c.loop-i.i in
    let z : c.args.k - i ≡ 0 → ⊥ = λ e. omega (arith, e, c.loop-i-test.true) in
    (row_here c.args.work.now c.args.n (c.args.at + i * c.args.n) (c.args.k - i) c.args.cols z c.loop-i.invariant.0).within

pub loop-i-preserved-then-row_values-lt2 : goal.loop-i-preserved-then-row_values-lt2
loop-i-preserved-then-row_values-lt2 c =
    let i : ℕ = c.loop-i.i in
    let p : ℕ = c.args.at + i * c.args.n in
    let left : ℕ = c.args.k - i in
    let z : left ≡ 0 → ⊥ = λ e. omega (arith, e, c.loop-i-test.true) in
    let e : c.args.k - (i + 1) ≡ left - 1 = omega arith in
    let g : c.args.at + (i + 1) * c.args.n ≡ p + c.args.n = omega (arith, next_row i c.args.n (i * c.args.n) refl) in
    rw (e, g) (
      rows_next c.args.work.now c.args.n p left c.args.cols z c.loop-i.invariant.0,
      omega (arith, c.loop-i.invariant.1),
      rest_skip _ c.loop-i.invariant.2 (long_no c.args.work.now c.args.n p left z (vars_of c.args.n (drop c.args.cols c.args.work.now)) c.args.mode c.args.m c.loop-i.j (ap is_longer (sym c.row_values.ensures.0) ∙ longer_no c.row_values.result (omega (arith, c.if-row_values-lt2.true)))),
    )

pub put_row-w-requires : goal.put_row-w-requires
put_row-w-requires c =
    let i : ℕ = c.loop-i.i in
    let z : c.args.k - i ≡ 0 → ⊥ = λ e. omega (arith, e, c.loop-i-test.true) in
    (row_here c.args.work.now c.args.n (c.args.at + i * c.args.n) (c.args.k - i) c.args.cols z c.loop-i.invariant.0, c.requires.1, omega (arith, c.loop-i.invariant.1, c.requires.0.few), c.loop-i.invariant.2.behind)

pub loop-i-preserved : goal.loop-i-preserved
loop-i-preserved c =
    let i : ℕ = c.loop-i.i in
    let p : ℕ = c.args.at + i * c.args.n in
    let left : ℕ = c.args.k - i in
    let z : left ≡ 0 → ⊥ = λ e. omega (arith, e, c.loop-i-test.true) in
    let e : c.args.k - (i + 1) ≡ left - 1 = omega arith in
    let g : c.args.at + (i + 1) * c.args.n ≡ p + c.args.n = omega (arith, next_row i c.args.n (i * c.args.n) refl) in
    rw (e, g) (
      rows_next c.args.work.now c.args.n p left c.args.cols z c.loop-i.invariant.0,
      omega (arith, c.loop-i.invariant.1),
      rest_next _ _ c.loop-i.invariant.2 (long_yes c.args.work.now c.args.n p left z (vars_of c.args.n (drop c.args.cols c.args.work.now)) c.args.mode c.args.m c.loop-i.j (ap is_longer (sym c.row_values.ensures.0) ∙ longer_is c.row_values.result (λ e. omega (arith, e, c.if-row_values-lt2.false)) (λ e. omega (arith, e, c.if-row_values-lt2.false)))) c.put_row-w.ensures,
    )

pub returns : goal.returns
returns c =
    let i : ℕ = c.loop-i.i in
    rest_end c.loop-i.invariant.2 (long_none c.args.work.now c.args.n (c.args.at + i * c.args.n) (vars_of c.args.n (drop c.args.cols c.args.work.now)) c.args.mode c.args.m (c.args.k - i) c.loop-i.j (omega (arith, c.loop-i-test.false)))
