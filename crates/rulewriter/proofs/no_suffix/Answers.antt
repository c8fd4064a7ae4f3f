use mathlib.Core.Path.{refl}
use native.Mathlib.Omega.{arith}
use Rattle.rulewriter.proofs.no_suffix.Goals as goal

pub returns : goal.returns
returns c = (refl, record { size = refl; room = omega arith; inside = omega arith })
