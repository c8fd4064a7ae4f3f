use mathlib.Core.Path.{refl, sym, ◌∙◌}
use Prim.Native.Nat.{◌-◌}
use lib.ListN.{length, drop, length-take, length-drop}
use native.Mathlib.Omega.{arith}
use Rattle.page.proofs.Bytes.{put_sets, numbers_none, numbers_first, numbers_more, numbers_written, left_start}
use borrow.Author.Rules.{rules}
use borrow.Author.Tests.{eqb-true, eqb-false}
use Rattle.page.proofs.put_numbers.Goals as goal

pub returns-then-is_empty : goal.returns-then-is_empty
returns-then-is_empty c = (numbers_none _ _ _ (eqb-true _ 0 (sym c.is_empty.ensures ∙ c.if-is_empty.true)), omega arith)

pub loop-z-init : goal.loop-z-init
loop-z-init c = (omega arith, refl, left_start _ _ _)

pub loop-z-preserved : goal.loop-z-preserved
loop-z-preserved c = (omega (arith, c.width-in-loop-z.ensures.1, c.loop-z.invariant.0), c.put_number-in-loop-z.ensures.size ∙ c.put_byte.ensures.size ∙ c.loop-z.invariant.1, numbers_more _ _ _ _ _ _ _ c.loop-z.invariant.2 c.loop-z-test.true _ _ (put_sets c.put_byte.ensures) _ (search rules) (put_sets c.put_number-in-loop-z.ensures) _ c.width-in-loop-z.ensures.0)

pub shape_of-out : goal.shape_of-out
shape_of-out c = c.loop-z.invariant.1 ∙ c.put_number.ensures.size

pub returns : goal.returns
returns c = (numbers_first _ _ _ _ _ _ _ (eqb-false _ 0 (sym c.is_empty.ensures ∙ c.if-is_empty.false)) _ (search rules) (put_sets c.put_number.ensures) c.width.ensures.0 (numbers_written _ _ _ _ _ _ _ c.loop-z.invariant.2 c.loop-z-test.false), omega (arith, c.loop-z.invariant.0, c.loop-z-test.false, c.loop-z.auto.z-index-end, length-take (length c.args.part.now - 1) (drop 1 c.args.part.now), length-drop 1 c.args.part.now, c.width.ensures.1))
