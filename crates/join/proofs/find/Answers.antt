use Rattle.join.proofs.FindLaws.{find_few, first_ready, second_ready, find_zero, find_first, find_second, find_beyond}
use Rattle.join.proofs.find.Goals as goal

pub returns-then-number-eq0 : goal.returns-then-number-eq0
returns-then-number-eq0 c = find_zero c.args.first.now c.args.second.now c.args.work.now c.args.d c.requires c.args.number c.if-number-eq0.true

pub part_of-requires : goal.part_of-requires
part_of-requires c = (first_ready c.args.first.now c.args.second.now c.args.work.now c.args.d c.requires _ c.if-k-d.true, find_few c.args.first.now c.args.second.now c.args.work.now c.args.d c.requires)

pub returns-then-k-d : goal.returns-then-k-d
returns-then-k-d c = find_first c.args.first.now c.args.second.now c.args.work.now c.args.d c.requires c.args.number c.if-number-eq0.false _ c.if-k-d.true c.part_of.ensures.0 c.part_of.ensures.1

pub part_of-requires-then-j-d : goal.part_of-requires-then-j-d
part_of-requires-then-j-d c = (second_ready c.args.first.now c.args.second.now c.args.work.now c.args.d c.requires _ c.if-j-d.true, find_few c.args.first.now c.args.second.now c.args.work.now c.args.d c.requires)

pub returns-then-j-d : goal.returns-then-j-d
returns-then-j-d c = find_second c.args.first.now c.args.second.now c.args.work.now c.args.d c.requires c.args.number c.if-number-eq0.false c.if-k-d.false _ c.if-j-d.true c.part_of-then-j-d.ensures.0 c.part_of-then-j-d.ensures.1

pub returns : goal.returns
returns c = find_beyond c.args.first.now c.args.second.now c.args.work.now c.args.d c.requires c.args.number c.if-number-eq0.false c.if-k-d.false c.if-j-d.false
