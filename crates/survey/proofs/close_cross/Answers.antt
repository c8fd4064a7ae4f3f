use mathlib.Core.Path.{◌∙◌}
use Rattle.walk.specs.Decode.{closed_cross}
use Rattle.survey.proofs.close_cross.Goals as goal

pub returns : goal.returns
unfolding closed_cross
returns c = c.longer.ensures ∙ rw (c.bump.ensures, c.disj_lines-b.ensures, c.disj_lines-a.ensures, c.bump-n.ensures, c.fresh-2.ensures, c.bump-p.ensures, c.fresh.ensures)
