use mathlib.Core.Bool.{cond}
use Prim.Native.Nat.{◌+◌}
use lib.Dec.{eqb}
use Rattle.passes.specs.Want.{rank}
use Rattle.folding.specs.Steps.{fixed_in}
use Rattle.propagate.specs.Passes.{open_count}
use Rattle.propagate.proofs.PassLaws.{Between}
use Rattle.propagate.proofs.run_passes.Given as goal

abbrev pub invariant-loop-status : goal.invariant-loop-status
invariant-loop-status l = Between l.words l.at l.count l.initial.work l.work (rank l.status) l.end

abbrev pub decreases-loop-status : goal.decreases-loop-status
decreases-loop-status l = cond (eqb (rank l.status) 1) (open_count (fixed_in l.work) + 1) 0
