use Rattle.scan.specs.LeafLaws.{swapped}
use Rattle.scan.proofs.swapped.Goals as goal

pub returns-then-f : goal.returns-then-f
unfolding swapped
returns-then-f c = rw c.if-f.true

pub returns-else-f : goal.returns-else-f
unfolding swapped
returns-else-f c = rw c.if-f.false
