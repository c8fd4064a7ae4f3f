use Rattle.propagate.proofs.WorklistLaws.{number_at}
use Rattle.propagate.proofs.entry.Goals as goal

pub returns-then-n-lt8192 : goal.returns-then-n-lt8192
returns-then-n-lt8192 c = (number_at _ _ c.entry-n.ensures, c.if-n-lt8192.true)
