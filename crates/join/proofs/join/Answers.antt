use mathlib.Core.Path.{ap, ◌∙◌}
use Rattle.join.proofs.JoinLaws.{join_refused, join_over, join_ready, join_done}
use Rattle.words.specs.Refusal.{by_number}
use Rattle.laws.specs.Slices.{zeros}
use Rattle.join.proofs.join.Goals as goal

pub returns-then-words-buffer : goal.returns-then-words-buffer
returns-then-words-buffer c = join_over c.args.first.now c.args.second.now c.args.buffer.now c.args.work.now _ _ c.agree-answer.ensures _ (ap by_number c.in-Ok.is) _ c.clear.ensures _ c.if-words-buffer.true (c.clear-2.ensures ∙ ap zeros c.agree-answer.auto.work)

pub write_both-requires : goal.write_both-requires
write_both-requires c = join_ready c.args.first.now c.args.second.now c.args.buffer.now c.args.work.now _ _ c.agree-answer.ensures _ (ap by_number c.in-Ok.is) _ c.clear.ensures c.if-words-buffer.false

pub returns-in-Err : goal.returns-in-Err
returns-in-Err c = rw c.number.ensures (join_refused c.args.first.now c.args.second.now c.args.buffer.now c.args.work.now _ _ c.agree-answer.ensures _ _ _ (ap by_number c.in-Err.is) c.clear.ensures (c.clear-2.ensures ∙ ap zeros c.agree-answer.auto.work))

pub returns-else-words-buffer : goal.returns-else-words-buffer
returns-else-words-buffer c = join_done c.args.first.now c.args.second.now c.args.buffer.now c.args.work.now _ _ c.agree-answer.ensures _ (ap by_number c.in-Ok.is) _ c.clear.ensures c.if-words-buffer.false _ _ c.write_both.ensures (c.clear-2.ensures ∙ ap zeros c.agree-answer.auto.work)
