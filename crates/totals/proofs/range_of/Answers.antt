-- The sum, then its bounds.
use Rattle.scan.specs.Skip.{split_by}
use Rattle.totals.proofs.Adding.{range_bounded, range_is}
use Rattle.totals.proofs.range_of.Goals as goal

pub linear_of-l-requires : goal.linear_of-l-requires
linear_of-l-requires c = let p = c.requires in
    let h = p.1.1.1.1 in
    (p.0, (p.1.0, (p.1.1.0, (p.1.1.1.0, record { domains = h.domains; steps = h.steps }))))

pub bounds-requires : goal.bounds-requires
bounds-requires c = let p = c.requires in (p.0, (p.1.0, (p.1.1.0, (p.1.1.1.0, range_bounded c.args.work.now c.args.left (split_by c.args.m) c.args.at c.args.base c.args.n c.linear_of-l.result c.linear_of-l.ensures p.1.1.1.1))))

pub returns : goal.returns
returns c = range_is c.args.work.now c.args.left (split_by c.args.m) c.args.at c.args.base c.args.n c.linear_of-l.result c.linear_of-l.ensures _ _ c.bounds.ensures
