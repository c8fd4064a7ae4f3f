use mathlib.Core.Path.{ap, ◌∙◌}
use Rattle.laws.specs.Writes.{wrote_length}
use Rattle.walk.specs.declared.Surveyed.{Surveyed}
use Rattle.scan.specs.SurveyLaws.{scanned}
use Rattle.rulewriter.proofs.write_none.Goals as goal

pub put_none-p-requires : goal.put_none-p-requires
put_none-p-requires c = c.requires

pub shape_of-out : goal.shape_of-out
shape_of-out c = wrote_length c.put_none-p.ensures

pub returns : goal.returns
returns c = (c.with_ints-x.ensures ∙ ap (λ (s : Surveyed). scanned s c.args.n.ints) c.single.ensures, c.put_none-p.ensures)
