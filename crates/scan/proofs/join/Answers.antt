use mathlib.Core.Path.{ap, ◌∙◌}
use Rattle.scan.specs.SurveyLaws.{scanned, joined_of}
use Rattle.scan.proofs.join.Goals as goal

pub returns-then-d : goal.returns-then-d
unfolding joined_of
returns-then-d c = rw c.if-d.true (c.with_ints.ensures ∙ ap (λ x. scanned x c.args.s.ints) c.close_disj.ensures)

pub returns : goal.returns
unfolding joined_of
returns c = rw c.if-d.false (c.with_ints-2.ensures ∙ ap (λ x. scanned x c.args.s.ints) c.longer.ensures)
