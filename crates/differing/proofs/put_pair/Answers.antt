-- No literal, one comparison.
use Rattle.differing.proofs.Pairs.{pair_wrote}
use Rattle.differing.proofs.put_pair.Goals as goal

pub returns : goal.returns
returns c = pair_wrote c.requires.1.room c.put-p.ensures c.put-q.ensures c.put_comparison.ensures
