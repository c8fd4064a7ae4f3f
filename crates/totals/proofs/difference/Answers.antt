-- The left side, then less the right one.
use Rattle.scan.specs.Skip.{split_by}
use Rattle.totals.proofs.Steps.{side_subtracts, difference_is}
use Rattle.totals.proofs.difference.Goals as goal

pub linear_of-a-requires : goal.linear_of-a-requires
linear_of-a-requires c = let p = c.requires in let h = p.1.1.1.1 in (p.0, (p.1.0, (p.1.1.0, (p.1.1.1.0, record { domains = h.domains; steps = h.fits.left }))))

pub less_side-requires : goal.less_side-requires
less_side-requires c = (c.requires.0, (c.linear_of-a.ensures.behind.skips.inside, side_subtracts c.args.work.now c.args.left (split_by c.args.m) c.args.at c.args.base c.args.n c.requires.1.1.1.1 c.linear_of-a.result c.linear_of-a.ensures))

pub returns : goal.returns
returns c = difference_is c.args.work.now c.args.left (split_by c.args.m) c.args.at c.args.base c.args.n c.requires.1.1.1.1 c.linear_of-a.result c.linear_of-a.ensures c.less_side.result c.less_side.ensures
