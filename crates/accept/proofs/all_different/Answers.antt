use Rattle.accept.proofs.DifferentLaws.{whole_split, different_done}
use Rattle.accept.proofs.all_different.Goals as goal

pub differ-own-requires : goal.differ-own-requires
differ-own-requires c = (whole_split c.args.walk.now.set.now c.args.walk.now.work.now c.args.at c.args.n c.args.walk.now.ints c.requires)

pub returns : goal.returns
returns c = different_done c.args.walk.now.set.now c.args.walk.now.work.now c.args.at c.args.n c.args.walk.now.ints _ _ _ _ _ c.heavy_pairs-w.ensures c.differ-own.ensures c.first-refusal.ensures
