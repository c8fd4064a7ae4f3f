-- The difference of the two sums, and its words.
use Rattle.differing.proofs.Pairs.{first_asks, second_asks, linear_asks, sums_wrote}
use Rattle.differing.proofs.put_sums.Goals as goal

pub linear_of-x-requires : goal.linear_of-x-requires
linear_of-x-requires c = (c.requires.0.size, (c.requires.0.first, first_asks c.args.work.now c.args.n c.args.a c.args.b c.requires.0))

pub less_side-y-requires : goal.less_side-y-requires
less_side-y-requires c = (c.requires.0.size, (c.requires.0.second, second_asks c.args.work.now c.args.n c.args.a c.args.b c.requires.0 c.linear_of-x.result c.linear_of-x.ensures))

pub put_linear-requires : goal.put_linear-requires
put_linear-requires c = let l = linear_asks c.args.work.now c.args.n c.args.a c.args.b c.requires.0 c.linear_of-x.result c.linear_of-x.ensures c.less_side-y.result c.less_side-y.ensures in (l.0, l.1, c.requires.1)

pub returns : goal.returns
returns c = sums_wrote c.args.work.now c.args.n c.args.a c.args.b c.requires.0 c.linear_of-x.result c.linear_of-x.ensures c.less_side-y.result c.less_side-y.ensures c.put_linear.ensures
