-- By the cell's word: constant branches, a number of its own, a number that equal Ifs share.
use native.Mathlib.Omega.{arith}
use mathlib.Core.Path.{ap, ◌∙◌}
use Prim.Native.Nat.{◌-◌}
use lib.IntN.{ℤ, pos, negsuc, ◌-ℤ◌}
use lib.Signed.{lt_z}
use mir.Syntax.{w32}
use mir.Val.{SFits, of_z}
use mir.Facts.{to_z-of_z}
use Rattle.laws.specs.Signed.{test_of, value_is}
use Rattle.memory.specs.Number.{nat}
use Rattle.totals.proofs.Numbers.{turned_fits, number_constant, number_own, number_shared}
use borrow.Author.Rules.{rules}
use Rattle.totals.proofs.if_number.Goals as goal

pub returns-then-ints-eq0 : goal.returns-then-ints-eq0
returns-then-ints-eq0 c = let f : SFits w32 c.cell-z.result = search rules in
    (number_constant c.args.work.now c.args.at c.args.ints c.cell-z.result c.cell-z.ensures (value_is f c.if-z.true) 0 (omega (arith, c.if-ints-eq0.true)), omega arith)

pub returns-then-z : goal.returns-then-z
returns-then-z c = let f : SFits w32 c.cell-z.result = search rules in
    (number_constant c.args.work.now c.args.at c.args.ints c.cell-z.result c.cell-z.ensures (value_is f c.if-z.true) _ (omega arith), omega (arith, c.requires.1))

pub overflow_sub-z : goal.overflow_sub-z
overflow_sub-z c = let f : SFits w32 c.cell-z.result = search rules in
    rw (to_z-of_z f) (turned_fits c.cell-z.result f (test_of (λ z. lt_z z (pos 0)) f c.if-z-lt0.true))

pub returns-then-z-lt0 : goal.returns-then-z-lt0
returns-then-z-lt0 c = let f : SFits w32 c.cell-z.result = search rules in
    let h = test_of (λ z. lt_z z (pos 0)) f c.if-z-lt0.true in
    let g : SFits w32 (negsuc 0 -ℤ c.cell-z.result) = turned_fits c.cell-z.result f h in
    (number_own c.args.work.now c.args.at c.args.ints c.cell-z.result c.cell-z.ensures h (λ q. c.if-z.false (ap (of_z w32) q)) _ (rw (to_z-of_z f, to_z-of_z g) at c.number_in.ensures.0), c.number_in.ensures.1)

pub returns : goal.returns
returns c = let f : SFits w32 c.cell-z.result = search rules in
    (number_shared c.args.work.now c.args.at c.args.ints c.cell-z.result c.cell-z.ensures (test_of (λ z. lt_z z (pos 0)) f c.if-z-lt0.false) _ (c.number_in-2.ensures.0 ∙ ap (λ (x : ℤ). nat x - 1) (to_z-of_z f)), c.number_in-2.ensures.1)
