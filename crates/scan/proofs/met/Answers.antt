use Rattle.scan.proofs.Meeting.{bool_new, bool_old}
use Rattle.scan.proofs.met.Goals as goal

pub returns-then-entry-b : goal.returns-then-entry-b
returns-then-entry-b c = bool_new _ _ c.args.n _ _ c.entry.ensures c.if-entry-b.true c.bump.ensures

pub returns : goal.returns
returns c = bool_old _ _ c.args.n _ c.entry.ensures c.if-entry-b.false
