use mathlib.Core.Path.{refl}
use Rattle.station.specs.Returned.{choices_of}
use Rattle.station.proofs.choices_of.Goals as goal

pub returns : goal.returns
unfolding choices_of
returns c = refl
