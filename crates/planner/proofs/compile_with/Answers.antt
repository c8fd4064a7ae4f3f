use mathlib.Core.Path.{ap, ◌∙◌}
use Rattle.planner.proofs.Cases.{some_emits, gives_refused, gives_contradiction, gives_emitted, left_zeros}
use Rattle.planner.proofs.Claims.{compiles}
use Rattle.laws.specs.Slices.{zeros}
use Rattle.planner.proofs.compile_with.Goals as goal

pub emit-r-requires : goal.emit-r-requires
emit-r-requires c = some_emits c.args.choices _ _ _ _ c.settle.ensures c.args.output.now _ c.clear.ensures _ c.in-Folded.is

pub returns-in-Refused : goal.returns-in-Refused
returns-in-Refused c = compiles c.args.choices _ _ _ _ _ _ (gives_refused c.args.choices _ _ _ _ c.settle.ensures c.args.output.now _ c.clear.ensures _ c.in-Refused.is) ((left_zeros c.args.choices _ _ _ _ c.settle.ensures c.args.output.now _ c.clear.ensures).0 _ c.in-Refused.is)

pub returns-in-Contradiction : goal.returns-in-Contradiction
returns-in-Contradiction c = compiles c.args.choices _ _ _ _ _ _ (gives_contradiction c.args.choices _ _ _ _ c.settle.ensures c.args.output.now _ c.clear.ensures c.in-Contradiction.is) ((left_zeros c.args.choices _ _ _ _ c.settle.ensures c.args.output.now _ c.clear.ensures).1 c.in-Contradiction.is)

pub returns-in-Folded : goal.returns-in-Folded
returns-in-Folded c = compiles c.args.choices _ c.args.output.now c.args.work.now _ _ _ (gives_emitted c.args.choices _ _ _ _ c.settle.ensures c.args.output.now _ c.clear.ensures _ c.in-Folded.is _ _ c.emit-r.ensures) (c.clear-in-Folded.ensures ∙ ap zeros (c.emit-r.auto.work ∙ c.settle.auto.work))
