use mathlib.Core.Path.{refl}
use Rattle.rulewriter.proofs.two_ties.Goals as goal

pub returns : goal.returns
returns c = rw c.bump.ensures refl
