-- `lines::put_part` meets its contract. Assumes nothing.
use Rattle.lines.proofs.Parts.{part_shown}
use Rattle.lines.proofs.put_part.Goals as goal

pub returns : goal.returns
returns c = part_shown _ _ _ _ _ _ _ _ c.stop-e.ensures c.put_numbers-o.ensures
