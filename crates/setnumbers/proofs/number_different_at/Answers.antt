use mathlib.Core.Path.{refl}
use native.Mathlib.Omega.{arith}
use Rattle.walk.specs.Decode.{word, read_part}
use Rattle.numbering.specs.Task.{state_of}
use Rattle.stmtwords.proofs.Words.{different_inside}
use Rattle.stmtwords.proofs.Ends.{some_different, different_ends}
use Rattle.setnumbers.proofs.Statements.{different_asks, different_plain, different_done}
use Rattle.setnumbers.proofs.number_different_at.Goals as goal

pub overflow_add-at : goal.overflow_add-at
overflow_add-at c = omega (arith, different_inside c.args.work.now c.args.at (some_different c.args.work.now c.args.at (word (read_part c.args.work.now) c.args.at) refl (record { stmt = c.requires.1.1.stmt; stands = c.requires.1.1.stands }) c.requires.1.0))

pub overflow_add-at-2 : goal.overflow_add-at-2
overflow_add-at-2 c = omega (arith, different_inside c.args.work.now c.args.at (some_different c.args.work.now c.args.at (word (read_part c.args.work.now) c.args.at) refl (record { stmt = c.requires.1.1.stmt; stands = c.requires.1.1.stands }) c.requires.1.0))

pub columns_end-end-requires : goal.columns_end-end-requires
columns_end-end-requires c = (omega (arith, c.requires.1.1.asks.long), different_inside c.args.work.now c.args.at (some_different c.args.work.now c.args.at (word (read_part c.args.work.now) c.args.at) refl (record { stmt = c.requires.1.1.stmt; stands = c.requires.1.1.stands }) c.requires.1.0))

pub overflow_add-at-3 : goal.overflow_add-at-3
overflow_add-at-3 c = omega (arith, different_inside c.args.work.now c.args.at (some_different c.args.work.now c.args.at (word (read_part c.args.work.now) c.args.at) refl (record { stmt = c.requires.1.1.stmt; stands = c.requires.1.1.stands }) c.requires.1.0))

pub number_all_different-d-requires : goal.number_all_different-d-requires
number_all_different-d-requires c = (c.requires.0, (different_inside c.args.work.now c.args.at (some_different c.args.work.now c.args.at (word (read_part c.args.work.now) c.args.at) refl (record { stmt = c.requires.1.1.stmt; stands = c.requires.1.1.stands }) c.requires.1.0), (different_asks _ _ c.args.at (state_of c.args.work.now c.args.out.now c.args.c) (word (read_part c.args.work.now) c.args.at) refl _ c.word-n.ensures c.requires.1.0 c.requires.1.1, different_plain _ _ c.args.at (state_of c.args.work.now c.args.out.now c.args.c) (word (read_part c.args.work.now) c.args.at) refl _ c.word-n.ensures c.requires.1.0 c.requires.1.1)))

pub shape_of-work : goal.shape_of-work
shape_of-work c = c.number_all_different-d.ensures.kept.size

pub shape_of-out : goal.shape_of-out
shape_of-out c = c.number_all_different-d.ensures.kept.room

pub returns : goal.returns
returns c = (different_done _ _ c.args.at (state_of c.args.work.now c.args.out.now c.args.c) (word (read_part c.args.work.now) c.args.at) refl _ c.word-n.ensures c.requires.1.0 _ c.number_all_different-d.ensures, (c.number_all_different-d.ensures.kept.size, c.number_all_different-d.ensures.kept.room), different_ends c.args.work.now c.args.at (word (read_part c.args.work.now) c.args.at) refl _ _ c.requires.1.0 c.word-n.ensures c.columns_end-end.ensures.0)
