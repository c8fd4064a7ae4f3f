-- The pairs, then the values.
use Rattle.differing.proofs.Statements.{different_wrote}
use Rattle.differing.proofs.put_different.Goals as goal

pub returns : goal.returns
returns c = different_wrote c.requires.1 c.put_pairs-w.ensures c.put_values.ensures
