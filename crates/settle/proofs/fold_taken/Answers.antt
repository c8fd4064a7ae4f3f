-- `fold_taken` meets its contract.
use Rattle.settle.proofs.Laws.{fold_contradiction, fold_settled}
use Rattle.propagate.proofs.Statuses.{changed, unchanged}
use Rattle.settle.proofs.fold_taken.Goals as goal

pub returns-then-ne : goal.returns-then-ne
returns-then-ne c = λ p h. fold_contradiction p _ _ _ _ _ h _ _ (c.optimize-o.ensures p h.words h.well) (changed _ _ c.ne.ensures c.if-ne.true) _ c.clear.ensures c.optimize-o.auto.work

pub returns : goal.returns
returns c = λ p h. fold_settled p _ _ _ _ _ h _ _ (c.optimize-o.ensures p h.words h.well) (unchanged _ _ c.ne.ensures c.if-ne.false) c.optimize-o.auto.work
