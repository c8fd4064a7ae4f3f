-- One number or one constant.
use Rattle.scan.specs.Skip.{split_by}
use Rattle.totals.proofs.Steps.{alone_linear}
use Rattle.totals.proofs.alone.Goals as goal

pub returns : goal.returns
returns c = alone_linear c.args.work.now c.args.left (split_by c.args.m) c.args.at c.args.base c.args.n _ _ c.requires.1.1.1.1 c.end_of-e.ensures c.lone_at.ensures.0 c.lone_at.ensures.1 c.lone_sum-s.ensures
