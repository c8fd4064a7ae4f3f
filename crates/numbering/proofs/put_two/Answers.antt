use Prim.Native.Nat.{◌+◌, ◌*◌}
use Rattle.numbering.proofs.Words.{minus_fits, rising_put, same_put, falling_put}
use Rattle.numbering.proofs.put_two.Goals as goal

pub overflow_sub-l : goal.overflow_sub-l
overflow_sub-l c = minus_fits c.args.l c.ranges.l c.requires.1.1

pub returns-then-x-y : goal.returns-then-x-y
returns-then-x-y c = (rising_put c.args.l c.args.x c.args.y c.ranges.l c.ranges.x c.ranges.y c.args.out.now _ (c.args.records + 4 * c.args.k) c.requires.1.1 c.if-x-y.true c.put_record.ensures.0, c.put_record.ensures.1)

pub returns-then-x-y-2 : goal.returns-then-x-y-2
returns-then-x-y-2 c = (same_put c.args.l c.args.x c.args.y c.ranges.l c.ranges.x c.ranges.y c.args.out.now _ (c.args.records + 4 * c.args.k) c.if-x-y.false c.if-x-y-2.true c.put_record-then-x-y-2.ensures.0, c.put_record-then-x-y-2.ensures.1)

pub returns : goal.returns
returns c = (falling_put c.args.l c.args.x c.args.y c.ranges.l c.ranges.x c.ranges.y c.args.out.now _ (c.args.records + 4 * c.args.k) c.if-x-y.false c.if-x-y-2.false c.put_record-2.ensures.0, c.put_record-2.ensures.1)
