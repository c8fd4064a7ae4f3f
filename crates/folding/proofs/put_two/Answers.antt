use Rattle.laws.specs.Slices.{stored_two}
use Rattle.folding.proofs.put_two.Goals as goal

pub returns : goal.returns
returns c = rw (c.put-2.ensures, c.put.ensures) (stored_two _ _ _ _ c.requires.0)
