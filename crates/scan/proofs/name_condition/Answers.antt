use mathlib.Core.Path.{refl}
use Rattle.scan.specs.SurveyLaws.{named}
use Rattle.scan.proofs.name_condition.Goals as goal

pub returns : goal.returns
unfolding named
returns c = rw (c.bump-y.ensures, c.fresh-2.ensures, c.bump-x.ensures, c.fresh.ensures) refl
