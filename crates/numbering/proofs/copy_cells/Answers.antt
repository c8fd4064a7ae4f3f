use mir.Syntax.{w32}
use mir.Val.{SFits}
use Rattle.numbering.proofs.Stores.{cells_copied}
use borrow.Author.Rules.{rules}
use Rattle.numbering.proofs.copy_cells.Goals as goal

pub returns : goal.returns
returns c = let f : SFits w32 c.cell-x.result = search rules in
    let g : SFits w32 c.cell-y.result = search rules in
    let h : SFits w32 c.cell-z.result = search rules in
    (cells_copied c.args.work.now _ c.args.p c.args.q c.cell-x.result c.cell-y.result c.cell-z.result f g h c.cell-x.ensures c.cell-y.ensures c.cell-z.ensures c.store_cells.ensures.0, c.store_cells.ensures.1)
