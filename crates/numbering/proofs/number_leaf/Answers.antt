use Rattle.numbering.proofs.Results.{leaf_index}
use Rattle.numbering.specs.Task.{state_of}
use Rattle.numbering.specs.IntSteps.{leaf_ready, leaf_declared, leaf_constant}
use Rattle.numbering.proofs.number_leaf.Goals as goal

pub declare_int-requires : goal.declare_int-requires
declare_int-requires c = (leaf_index c.word-x.result _ c.below.ensures, (c.requires.records, (c.requires.low.bools, (c.requires.low.ints, (c.requires.low.used, leaf_ready c.args.room.records c.args.room.cap (state_of c.args.work.now c.args.out.now c.args.c) c.args.at c.args.code c.requires c.if-code-eq21.true _ _ c.word-x.ensures c.below.ensures)))))

pub returns-then-code-eq21 : goal.returns-then-code-eq21
returns-then-code-eq21 c = leaf_declared c.args.room.records c.args.room.cap (state_of c.args.work.now c.args.out.now c.args.c) c.args.at c.args.code c.requires c.if-code-eq21.true _ _ c.word-x.ensures c.below.ensures _ c.declare_int.ensures

pub returns : goal.returns
returns c = leaf_constant c.args.room.records c.args.room.cap (state_of c.args.work.now c.args.out.now c.args.c) c.args.at c.args.code c.requires c.if-code-eq21.false
