-- The end that the scan finds.
use Rattle.differing.proofs.Loops.{end_is}
use Rattle.differing.proofs.end_of.Goals as goal

pub returns : goal.returns
returns c = end_is c.args.work.now c.args.p c.skip_int-s.ensures
