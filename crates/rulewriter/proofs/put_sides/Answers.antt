use mathlib.Core.List.{[]}
use Rattle.laws.specs.Writes.{wrote_length}
use Rattle.rulewriter.proofs.Sums.{compared_sums}
use Rattle.rulewriter.proofs.put_sides.Goals as goal

pub difference-x-requires : goal.difference-x-requires
difference-x-requires c = let p = c.requires.0 in (p.size, (p.inside, (p.low_base, (p.low, record { domains = c.requires.2.domains; fits = c.requires.2.fits c.args.work.now c.args.n }))))

pub put_linear-p-requires : goal.put_linear-p-requires
put_linear-p-requires c = ((c.difference-x.ensures.sum []).room, c.difference-x.ensures.words, c.requires.1)

pub shape_of-out : goal.shape_of-out
shape_of-out c = wrote_length c.put_linear-p.ensures

pub returns : goal.returns
returns c = let d = c.difference-x.ensures in (record { middle = d.middle; first = d.first; last = d.last }, compared_sums c.args.work.now _ _ _ _ _ c.args.k c.args.g _ (d.sum []) c.put_linear-p.ensures)
