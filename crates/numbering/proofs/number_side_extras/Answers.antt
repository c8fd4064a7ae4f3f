use Rattle.walk.specs.Decode.{read_part}
use Rattle.walks.specs.Tree.{here}
use Rattle.scan.specs.Skip.{split_by}
use Rattle.numbering.specs.Pairs.{no_int_extras}
use Rattle.numbering.proofs.number_side_extras.Goals as goal

pub number_int_ties-e-requires : goal.number_int_ties-e-requires
unfolding split_by
number_int_ties-e-requires c = c.requires.0

pub returns-then-is_split : goal.returns-then-is_split
unfolding split_by
returns-then-is_split c = c.number_int_ties-e.ensures.0

pub returns : goal.returns
returns c = no_int_extras c.args.room.records c.args.room.cap _ (read_part c.args.work.now) 64 here c.args.at c.args.n c.args.next c.requires.0.low (c.is_split.ensures c.if-is_split.false) c.requires.1
