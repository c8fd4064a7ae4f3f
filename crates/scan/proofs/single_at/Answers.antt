use mathlib.Core.Path.{ap, ◌∙◌}
use Rattle.scan.specs.SurveyLaws.{scanned, single_of}
use Rattle.scan.proofs.single_at.Goals as goal

pub returns : goal.returns
unfolding single_of
returns c = c.with_ints.ensures ∙ ap (λ x. scanned x c.args.n.ints) c.single.ensures
