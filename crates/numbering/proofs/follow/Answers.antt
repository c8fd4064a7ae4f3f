use mir.Syntax.{w32}
use mir.Val.{SFits}
use Rattle.numbering.proofs.Results.{literal_small, followed}
use borrow.Author.Rules.{rules}
use Rattle.numbering.proofs.follow.Goals as goal

pub put_two-requires : goal.put_two-requires
put_two-requires c = let f : SFits w32 c.literal-l.result = search rules in
    (c.requires.1.0, ((c.declare-d.ensures.0 c.args.out.now).low.ints, literal_small c.args.v c.args.work.now _ c.args.out.now c.args.c _ c.literal-l.result c.requires.1.1.1.1.1 (c.declare-d.ensures.0 c.args.out.now) f c.literal-l.ensures))

pub returns : goal.returns
returns c = let f : SFits w32 c.literal-l.result = search rules in
    followed c.args.work.now c.args.out.now c.args.c c.args.v c.args.room.records c.args.x c.args.y _ _ _ _ c.literal-l.result f c.ranges.x c.ranges.y (c.declare-d.ensures.0 c.args.out.now) c.literal-l.ensures c.put_two.ensures.0 c.count_int.ensures
