use mathlib.Core.Path.{refl}
use native.Mathlib.Omega.{arith}
use Rattle.laws.specs.Slices.{heads_one}
use Rattle.folding.specs.Steps.{not_step}
use Rattle.folding.proofs.close_not.Goals as goal

pub returns-in-None : goal.returns-in-None
unfolding not_step
returns-in-None c = rw (c.in-None.is, c.put.ensures) (refl, refl, heads_one _ _ _ _ (omega arith) (omega arith))
