use Rattle.propagate.proofs.WorklistLaws.{places_none, run_worklist_stop, run_worklist_ready, run_worklist_end}
use Rattle.propagate.proofs.Statuses.{unsatisfiable, satisfiable}
use Rattle.propagate.proofs.run_worklist.Goals as goal

pub sweep-a-requires : goal.sweep-a-requires
sweep-a-requires c = record { ready_passes = c.requires; places = places_none _ _ _ 2048 }

pub returns-then-eq : goal.returns-then-eq
returns-then-eq c = let two = unsatisfiable _ _ c.eq.ensures c.if-eq.true in rw two (run_worklist_stop _ _ _ _ _ _ _ _ two c.sweep-a.ensures)

pub run_queue-requires : goal.run_queue-requires
run_queue-requires c = record { ready_worklist = run_worklist_ready _ _ _ _ _ _ _ _ c.sweep-a.ensures c.sweep-a.auto.work c.requires; queued_bound = c.sweep-a.ensures.2 }

pub returns : goal.returns
returns c = run_worklist_end _ _ _ _ _ _ _ _ (satisfiable _ _ c.eq.ensures c.if-eq.false) c.sweep-a.ensures c.sweep-a.auto.work _ _ _ c.run_queue.ensures
