use Rattle.scan.proofs.Meeting.{int_new, int_old}
use Rattle.scan.proofs.met_int.Goals as goal

pub returns-then-entry-n : goal.returns-then-entry-n
returns-then-entry-n c = int_new _ _ c.args.n _ _ c.entry.ensures c.if-entry-n.true c.more_ints.ensures

pub returns : goal.returns
returns c = int_old _ _ c.args.n _ c.entry.ensures c.if-entry-n.false
