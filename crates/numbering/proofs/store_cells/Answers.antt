use mathlib.Core.Path.{◌∙◌}
use Rattle.numbering.proofs.Stores.{cells_stored}
use Rattle.numbering.proofs.store_cells.Goals as goal

pub returns : goal.returns
returns c = (cells_stored c.args.work.now _ _ _ c.args.p c.args.x c.args.y c.args.z c.ranges.x c.ranges.y c.ranges.z c.store.ensures.0 c.store-2.ensures.0 c.store-3.ensures.0, c.store-3.ensures.1 ∙ c.store-2.ensures.1 ∙ c.store.ensures.1)
