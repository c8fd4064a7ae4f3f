-- `clear_maps` meets its contract.
use Rattle.settle.proofs.Laws.{cleared_is}
use Rattle.settle.proofs.clear_maps.Goals as goal

pub returns : goal.returns
returns c = cleared_is _ _ c.requires c.clear.ensures
