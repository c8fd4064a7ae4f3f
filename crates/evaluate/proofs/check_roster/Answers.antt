use mathlib.Core.Path.{ap, ◌∙◌}
use Rattle.laws.specs.Slices.{zeros}
use Rattle.evaluate.proofs.check_roster.Goals as goal

pub returns : goal.returns
returns c = record { answer = c.judge-answer.ensures; zeroed = c.clear.ensures ∙ ap zeros c.judge-answer.auto.work }
