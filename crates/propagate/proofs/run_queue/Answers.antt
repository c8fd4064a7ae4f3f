use mathlib.Core.Path.{refl, ◌∙◌}
use native.Mathlib.Omega.{arith}
use Rattle.propagate.proofs.WorklistLaws.{moving_first, moving_stop, moving_next, moves_as}
use Rattle.propagate.proofs.Statuses.{unsatisfiable, satisfiable}
use Rattle.propagate.proofs.run_queue.Goals as goal

pub loop-k-init : goal.loop-k-init
loop-k-init c = (moving_first _ _ _ _ c.requires.queued_bound c.requires.ready_worklist, omega arith, refl, refl)

pub again-a-requires : goal.again-a-requires
again-a-requires c = record { ready_worklist = c.loop-k.invariant.0.ready; count_bound = c.loop-k.invariant.0.few }

pub returns-then-eq : goal.returns-then-eq
returns-then-eq c = let two = unsatisfiable _ _ c.eq.ensures c.if-eq.true in rw two (moving_stop _ _ _ _ _ _ c.loop-k.invariant.0 _ _ _ _ c.again-a.ensures two)

pub loop-k-preserved : goal.loop-k-preserved
loop-k-preserved c = (moving_next _ _ _ _ _ _ c.loop-k.invariant.0 _ _ _ _ c.again-a.ensures (satisfiable _ _ c.eq.ensures c.if-eq.false) c.again-a.auto.work, omega (arith, c.loop-k.invariant.0.few, c.loop-k-test.true), c.again-a.auto.places ∙ c.loop-k.invariant.2, c.again-a.auto.watches ∙ c.store.auto.a ∙ c.loop-k.invariant.3)

pub returns : goal.returns
returns c = moves_as _ _ _ _ _ 0 1 (omega arith) (omega arith) c.loop-k.invariant.0.moves
