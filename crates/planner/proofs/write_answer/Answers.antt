use mathlib.Core.Path.{◌∙◌}
use native.Mathlib.Omega.{arith}
use Rattle.planner.proofs.Whole.{some_settles, some_asks, some_low, answer_full, answer_short, front_asks, some_numbered, answer_overrun, count_asks, answer_fits, answer_long}
use Rattle.planner.proofs.write_answer.Goals as goal

pub begin_walk-n-requires : goal.begin_walk-n-requires
begin_walk-n-requires c = some_settles c.args.merge _ _ _ _ _ _ _ c.prepare.ensures c.requires

pub number_statements-c-requires : goal.number_statements-c-requires
number_statements-c-requires c = some_asks c.args.merge _ _ _ _ _ _ _ c.prepare.ensures _ _ c.begin_walk-n.ensures c.requires

pub returns-then-room-c : goal.returns-then-room-c
returns-then-room-c c = answer_full c.args.merge _ _ _ _ _ _ _ c.prepare.ensures _ _ c.begin_walk-n.ensures _ c.number_statements-c.ensures (omega (arith, c.if-room-c.true)) _

pub overflow_mul-count : goal.overflow_mul-count
overflow_mul-count c = record { fits = omega (arith, (some_low c.args.merge _ _ _ _ _ _ _ c.prepare.ensures _ _ c.begin_walk-n.ensures _ c.number_statements-c.ensures c.requires).ints) }

pub overflow_add-count : goal.overflow_add-count
overflow_add-count c = record { fits = omega (arith, (some_low c.args.merge _ _ _ _ _ _ _ c.prepare.ensures _ _ c.begin_walk-n.ensures _ c.number_statements-c.ensures c.requires).ints, c.requires.writes.bools, c.requires.writes.held.ints, c.requires.writes.held.settles.set.well.few_bools, c.requires.writes.held.settles.set.well.few_ints) }

pub overflow_add-result : goal.overflow_add-result
overflow_add-result c = record { fits = omega (arith, (some_low c.args.merge _ _ _ _ _ _ _ c.prepare.ensures _ _ c.begin_walk-n.ensures _ c.number_statements-c.ensures c.requires).ints, c.requires.writes.bools, c.requires.writes.held.ints, c.requires.writes.held.settles.set.well.few_bools, c.requires.writes.held.settles.set.well.few_ints) }

pub returns-then-room-count : goal.returns-then-room-count
returns-then-room-count c = answer_short c.args.merge _ _ _ _ _ _ _ c.prepare.ensures _ _ c.begin_walk-n.ensures _ c.number_statements-c.ensures (omega (arith, c.if-room-c.false)) (omega (arith, c.if-room-count.true)) _

pub write_front-requires : goal.write_front-requires
write_front-requires c = (front_asks c.args.merge _ _ _ _ _ _ _ c.prepare.ensures _ _ c.begin_walk-n.ensures _ c.number_statements-c.ensures (omega (arith, c.if-room-c.false)) c.requires, ((some_low c.args.merge _ _ _ _ _ _ _ c.prepare.ensures _ _ c.begin_walk-n.ensures _ c.number_statements-c.ensures c.requires).bools, (some_low c.args.merge _ _ _ _ _ _ _ c.prepare.ensures _ _ c.begin_walk-n.ensures _ c.number_statements-c.ensures c.requires).ints))

pub overflow_add-count-2 : goal.overflow_add-count-2
overflow_add-count-2 c = record { fits = omega (arith, c.if-room-count.false, c.requires.writes.part) }

pub write_clauses-w-requires : goal.write_clauses-w-requires
write_clauses-w-requires c = some_numbered c.args.merge _ _ _ _ _ _ _ c.prepare.ensures _ _ c.begin_walk-n.ensures _ c.number_statements-c.ensures (omega (arith, c.if-room-c.false)) (omega (arith, c.if-room-count.false)) _ _ c.write_front.ensures c.requires

pub shape_of-work-then-room-w : goal.shape_of-work-then-room-w
shape_of-work-then-room-w c = c.write_clauses-w.auto.work ∙ c.number_statements-c.auto.work ∙ c.begin_walk-n.auto.work ∙ c.prepare.auto.work

pub shape_of-part-then-room-w : goal.shape_of-part-then-room-w
shape_of-part-then-room-w c = c.write_clauses-w.auto.part ∙ c.write_front.auto.out ∙ c.number_statements-c.auto.out

pub returns-then-room-w : goal.returns-then-room-w
returns-then-room-w c = answer_overrun c.args.merge _ _ _ _ _ _ _ c.prepare.ensures _ _ c.begin_walk-n.ensures _ c.number_statements-c.ensures (omega (arith, c.if-room-c.false)) (omega (arith, c.if-room-count.false)) _ _ c.write_front.ensures _ _ _ _ c.write_clauses-w.ensures (omega (arith, c.if-room-w.true))

pub put-requires : goal.put-requires
put-requires c = count_asks c.args.merge _ _ _ _ _ _ _ c.prepare.ensures _ _ c.begin_walk-n.ensures _ c.number_statements-c.ensures (omega (arith, c.if-room-c.false)) (omega (arith, c.if-room-count.false)) _ _ c.write_front.ensures _ _ _ _ c.write_clauses-w.ensures (omega (arith, c.if-room-w.false)) c.requires (omega (arith, c.if-at-room.true))

pub shape_of-work-then-at-room : goal.shape_of-work-then-at-room
shape_of-work-then-at-room c = c.write_clauses-w.auto.work ∙ c.number_statements-c.auto.work ∙ c.begin_walk-n.auto.work ∙ c.prepare.auto.work

pub shape_of-part-then-at-room : goal.shape_of-part-then-at-room
shape_of-part-then-at-room c = c.put.auto.work ∙ c.write_clauses-w.auto.part ∙ c.write_front.auto.out ∙ c.number_statements-c.auto.out

pub returns-then-at-room : goal.returns-then-at-room
returns-then-at-room c = answer_fits c.args.merge _ _ _ _ _ _ _ c.prepare.ensures _ _ c.begin_walk-n.ensures _ c.number_statements-c.ensures (omega (arith, c.if-room-c.false)) (omega (arith, c.if-room-count.false)) _ _ c.write_front.ensures _ _ _ _ c.write_clauses-w.ensures (omega (arith, c.if-room-w.false)) (omega (arith, c.if-at-room.true)) c.put.ensures

pub shape_of-work-else-at-room : goal.shape_of-work-else-at-room
shape_of-work-else-at-room c = c.write_clauses-w.auto.work ∙ c.number_statements-c.auto.work ∙ c.begin_walk-n.auto.work ∙ c.prepare.auto.work

pub shape_of-part-else-at-room : goal.shape_of-part-else-at-room
shape_of-part-else-at-room c = c.write_clauses-w.auto.part ∙ c.write_front.auto.out ∙ c.number_statements-c.auto.out

pub returns-else-at-room : goal.returns-else-at-room
returns-else-at-room c = answer_long c.args.merge _ _ _ _ _ _ _ c.prepare.ensures _ _ c.begin_walk-n.ensures _ c.number_statements-c.ensures (omega (arith, c.if-room-c.false)) (omega (arith, c.if-room-count.false)) _ _ c.write_front.ensures _ _ _ _ c.write_clauses-w.ensures (omega (arith, c.if-room-w.false)) (omega (arith, c.if-at-room.false))
