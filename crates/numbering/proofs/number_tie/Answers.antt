use Rattle.scan.specs.Skip.{split_by}
use Rattle.numbering.specs.Task.{state_of}
use Rattle.numbering.specs.Ties.{tie_first, tie_second, tie_done}
use Rattle.numbering.proofs.number_tie.Goals as goal

pub number-d-requires : goal.number-d-requires
number-d-requires c = tie_first c.args.room.records c.args.room.cap (state_of c.args.work.now c.args.out.now c.args.c) c.args.left (split_by c.args.m) c.args.at c.args.base c.requires

pub number-e-requires : goal.number-e-requires
number-e-requires c = tie_second c.args.room.records c.args.room.cap (state_of c.args.work.now c.args.out.now c.args.c) c.args.left (split_by c.args.m) c.args.at c.args.base c.requires _ c.number-d.ensures.0

pub returns : goal.returns
returns c = tie_done c.args.room.records c.args.room.cap (state_of c.args.work.now c.args.out.now c.args.c) c.args.left (split_by c.args.m) c.args.at c.args.base c.requires _ c.number-d.ensures.0 _ c.number-e.ensures.0
