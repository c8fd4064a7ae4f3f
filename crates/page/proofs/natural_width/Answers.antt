use native.Mathlib.Omega.{arith}
use Rattle.page.proofs.Bytes.{width_next, width_end, tenth_less}
use Rattle.page.proofs.natural_width.Goals as goal

pub loop-m-init : goal.loop-m-init
loop-m-init c = omega arith

pub overflow_add-w : goal.overflow_add-w
overflow_add-w c = record { fits = omega (arith, tenth_less c.loop-m.m c.loop-m-test.true) }

pub loop-m-smaller : goal.loop-m-smaller
loop-m-smaller c = omega (arith, tenth_less c.loop-m.m c.loop-m-test.true)

pub loop-m-preserved : goal.loop-m-preserved
loop-m-preserved c = (width_next _ _ _ c.loop-m.invariant.0 c.loop-m-test.true, omega (arith, tenth_less c.loop-m.m c.loop-m-test.true))

pub returns : goal.returns
returns c = width_end _ _ _ c.loop-m.invariant.0 c.loop-m-test.false
