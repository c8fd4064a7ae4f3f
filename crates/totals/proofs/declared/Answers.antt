-- Two words of the table.
use mathlib.Core.Path.{refl}
use mir.Syntax.{w32}
use mir.Val.{SFits}
use mir.Facts.{to_z-of_z}
use Rattle.totals.proofs.Looks.{table_words}
use borrow.Author.Rules.{rules}
use Rattle.totals.proofs.declared.Goals as goal

pub returns : goal.returns
returns c = let f : SFits w32 c.plain-low.result = search rules in
    let g : SFits w32 c.plain-high.result = search rules in
    rw (to_z-of_z f, to_z-of_z g) (table_words c.args.work.now c.args.v _ c.plain-low.result c.plain-high.result c.plain-low.ensures c.plain-high.ensures refl)
