use Rattle.propagate.proofs.WorklistLaws.{after_none, after_stop, after_run_worklist}
use Rattle.propagate.proofs.Statuses.{unsatisfiable, satisfiable, updated_where}
use Rattle.propagate.proofs.after_pass.Goals as goal

pub returns-then-ne : goal.returns-then-ne
returns-then-ne c = after_none _ _ _ _ _ _

pub returns-then-eq : goal.returns-then-eq
returns-then-eq c = after_stop _ _ _ _ _ _ _ _ (updated_where _ _ c.ne.ensures c.if-ne.false) (unsatisfiable _ _ c.eq.ensures c.if-eq.true) c.run_worklist-s.ensures

pub returns : goal.returns
returns c = after_run_worklist _ _ _ _ _ _ _ _ (updated_where _ _ c.ne.ensures c.if-ne.false) (satisfiable _ _ c.eq.ensures c.if-eq.false) c.run_worklist-s.ensures
