use Rattle.laws.specs.Writes.{wrote_length}
use Rattle.rulewriter.proofs.PoolLaws.{cmp_none, cmp_some}
use Rattle.rulewriter.proofs.pool_cmp.Goals as goal

pub returns-then-b : goal.returns-then-b
returns-then-b c = cmp_none _ _ c.if-b.true c.requires.1

pub put_sides-x-requires : goal.put_sides-x-requires
put_sides-x-requires c = c.requires

pub shape_of-out : goal.shape_of-out
shape_of-out c = wrote_length c.put_sides-x.ensures.1

pub returns : goal.returns
returns c = cmp_some _ _ c.if-b.false c.put_sides-x.ensures.1
