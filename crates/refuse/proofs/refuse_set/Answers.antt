-- `refuse_set` meets its contract: the answer's number, and a work slice of zeros.
use mathlib.Core.Path.{sym, ap, ◌∙◌}
use Rattle.laws.specs.Slices.{zeros}
use Rattle.words.specs.Refusal.{by_number}
use Rattle.refuse.specs.Refuse.{refusal_of}
use Rattle.refuse.proofs.refuse_set.Goals as goal

pub returns-in-Ok : goal.returns-in-Ok
returns-in-Ok c = (ap refusal_of (ap by_number (sym c.in-Ok.is) ∙ c.accept-answer.ensures.0), c.clear.ensures ∙ ap zeros c.accept-answer.auto.work)

pub returns-in-Err : goal.returns-in-Err
returns-in-Err c = (c.number.ensures ∙ ap refusal_of (ap by_number (sym c.in-Err.is) ∙ c.accept-answer.ensures.0), c.clear.ensures ∙ ap zeros c.accept-answer.auto.work)
