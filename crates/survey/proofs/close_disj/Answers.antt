use mathlib.Core.Path.{◌∙◌}
use Rattle.walk.specs.Decode.{closed_disj}
use Rattle.survey.proofs.Leaves.{disj_none, disj_long}
use Rattle.survey.proofs.close_disj.Goals as goal

pub returns-then-s-eq0 : goal.returns-then-s-eq0
unfolding closed_disj
returns-then-s-eq0 c = disj_none c.args.s c.if-s-eq0.true

pub returns : goal.returns
unfolding closed_disj
returns c = c.longer.ensures ∙ rw (c.disj_lines.ensures, c.bump-n.ensures, c.fresh.ensures) (disj_long c.args.s c.if-s-eq0.false)
