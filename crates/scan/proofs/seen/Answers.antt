use mir.Syntax.{w32}
use mir.Val.{SFits}
use mir.Facts.{to_z-of_z}
use mathlib.Core.Path.{ap, ◌∙◌}
use Rattle.walks.specs.Item.{seen_in}
use Rattle.scan.specs.IfLaws.{seen_code}
use borrow.Author.Rules.{rules}
use Rattle.scan.proofs.seen.Goals as goal

pub returns : goal.returns
returns c = let f : SFits w32 c.cell.result = search rules in c.code_of.ensures ∙ ap (λ z. seen_code (seen_in z)) (to_z-of_z f ∙ c.cell.ensures)
