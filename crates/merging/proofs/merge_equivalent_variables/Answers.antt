use mathlib.Core.Bool.{true, false}
use Rattle.merging.proofs.Loop.{unmerged, merged_as}
use Rattle.merging.proofs.merge_equivalent_variables.Goals as goal

pub shape_of-work-then-merge : goal.shape_of-work-then-merge
shape_of-work-then-merge c = c.merge_statements.ensures.aside.size

pub returns-then-merge : goal.returns-then-merge
returns-then-merge c = merged_as _ true c.if-merge.true c.merge_statements.ensures

pub returns : goal.returns
returns c = merged_as _ false c.if-merge.false (unmerged _ _)
