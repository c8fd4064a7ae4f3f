use Rattle.laws.specs.Writes.{wrote_length}
use Rattle.output.proofs.Laws.{open_next}
use Rattle.rulewriter.proofs.Registered.{puts_length}
use Rattle.rulewriter.proofs.Pairs.{unequal_block}
use mathlib.Core.Path.{◌∙◌}
use Rattle.rulewriter.proofs.write_unequal.Goals as goal

pub register_pair-a-requires : goal.register_pair-a-requires
register_pair-a-requires c = c.requires

pub put_unequal-x-requires : goal.put_unequal-x-requires
put_unequal-x-requires c = let h = c.requires in (h.0, h.1, open_next h.2 c.register_pair-a.ensures.wrote, h.3)

pub shape_of-out : goal.shape_of-out
shape_of-out c = wrote_length c.put_unequal-x.ensures.0 ∙ puts_length c.register_pair-a.ensures

pub returns : goal.returns
returns c = let h = c.requires in unequal_block c.args.work.now c.args.p c.args.q c.args.base c.args.n _ _ h.2 c.register_pair-a.ensures c.put_unequal-x.ensures.0 c.put_unequal-x.ensures.1 c.put_unequal-x.ensures.2 c.bump.ensures
