-- `line_start` meets its contract.
use native.Mathlib.Omega.{arith}
use Prim.Native.Nat.{◌+◌, ◌-◌, ◌≤◌}
use mathlib.Core.Path.{◌≡◌}
use lib.ListN.{length}
use Rattle.roster.proofs.Laws.{start_found, start_next, start_none, start_begin}
use Rattle.roster.proofs.check.line_start.Goals as goal

pub loop-i-init : goal.loop-i-init
loop-i-init c = start_begin _

pub returns-then-lines-i-eq10 : goal.returns-then-lines-i-eq10
returns-then-lines-i-eq10 c = omega (arith, start_found _ c.loop-i.i (omega arith) (omega arith) c.loop-i.invariant c.if-lines-i-eq10.true)

pub loop-i-preserved : goal.loop-i-preserved
loop-i-preserved c = start_next _ _ (omega arith) (omega arith) c.loop-i.invariant c.if-lines-i-eq10.false

pub returns : goal.returns
returns c = start_none _ _ (omega arith) c.loop-i.invariant
