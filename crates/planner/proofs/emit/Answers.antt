use mathlib.Core.Path.{sym}
use native.Mathlib.Omega.{arith}
use lib.Seq.{length-take-le}
use Rattle.planner.proofs.Zeros.{zeros_again}
use Rattle.planner.proofs.Measured.{some_writes, emit_compiled, emit_long}
use borrow.Author.Rules.{rules}
use Rattle.planner.proofs.emit.Goals as goal

pub slice_bounds-write_answer-end-2 : goal.slice_bounds-write_answer-end-2
slice_bounds-write_answer-end-2 c = sym (length-take-le _ c.args.out.now (omega (arith, c.lent-room.ensures)))

pub write_answer-words-requires : goal.write_answer-words-requires
write_answer-words-requires c = some_writes c.args.merge _ _ _ _ _ _ _ c.lent-room.ensures c.requires

pub returns-then-words-room : goal.returns-then-words-room
returns-then-words-room c = emit_compiled _ _ _ _ _ _ _ _ c.lent-room.ensures _ _ c.write_answer-words.ensures (omega (arith, c.if-words-room.true))

pub shape_of-out : goal.shape_of-out
shape_of-out c = search rules

pub returns : goal.returns
returns c = emit_long _ _ _ _ _ _ _ _ c.lent-room.ensures _ _ c.write_answer-words.ensures (omega (arith, c.if-words-room.false)) _ (zeros_again c.clear.auto.s c.clear.ensures (shape_of-out c))
