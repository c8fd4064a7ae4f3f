-- `settle_set` meets its contract.
use native.Mathlib.Omega.{arith}
use Rattle.remaining.proofs.Laws.{copy_ready, remains_refused, remains_contradiction, remains_folded}
use Rattle.remaining.proofs.settle_set.Goals as goal

pub copy_folded-n-requires : goal.copy_folded-n-requires
copy_folded-n-requires c = copy_ready _ _ _ _ c.settle.ensures c.args.out.now _ c.clear.ensures _ c.in-Folded.is

pub overflow_add-result : goal.overflow_add-result
overflow_add-result c = let h = copy_ready _ _ _ _ c.settle.ensures c.args.out.now _ c.clear.ensures _ c.in-Folded.is in omega (arith, c.copy_folded-n.ensures.count, h.0, h.2)

pub returns-in-Refused : goal.returns-in-Refused
returns-in-Refused c = remains_refused _ _ _ _ c.settle.ensures c.args.out.now _ c.clear.ensures _ c.in-Refused.is

pub returns-in-Contradiction : goal.returns-in-Contradiction
returns-in-Contradiction c = remains_contradiction _ _ _ _ c.settle.ensures c.args.out.now _ c.clear.ensures c.in-Contradiction.is

pub returns-in-Folded : goal.returns-in-Folded
returns-in-Folded c = remains_folded _ _ _ _ c.settle.ensures c.args.out.now _ c.clear.ensures _ c.in-Folded.is _ _ _ c.copy_folded-n.ensures c.clear-in-Folded.ensures c.settle.auto.work
