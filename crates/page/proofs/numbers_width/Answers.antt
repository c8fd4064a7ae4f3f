use native.Mathlib.Omega.{arith}
use Rattle.page.proofs.Bytes.{numbers_next, numbers_end}
use borrow.Author.Rules.{rules}
use Rattle.page.proofs.numbers_width.Goals as goal

pub loop-z-init : goal.loop-z-init
loop-z-init c = (omega arith, omega arith)

pub loop-z-preserved : goal.loop-z-preserved
loop-z-preserved c = (numbers_next _ _ _ c.loop-z.invariant.0 c.loop-z-test.true _ (search rules) _ c.width.ensures.0, omega (arith, c.width.ensures.1))

pub returns : goal.returns
returns c = let e = numbers_end _ _ _ c.loop-z.invariant.0 c.loop-z-test.false in (omega (arith, e), omega (arith, c.loop-z.invariant.1))
