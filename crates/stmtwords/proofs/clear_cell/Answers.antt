use native.Mathlib.Omega.{arith}
use mathlib.Core.Path.{refl}
use lib.IntN.{pos}
use lib.ListN.{length-set}
use Rattle.stmtwords.proofs.Clearing.{cell_cleared, cell_stays}
use Rattle.stmtwords.proofs.clear_cell.Goals as goal

pub returns-then-base-next : goal.returns-then-base-next
returns-then-base-next c = ((λ end. cell_cleared c.args.work.now c.args.at end c.args.base c.args.next (omega (arith, c.if-base-next.true))), length-set c.args.work.now _ (pos 0))

pub returns-else-base-next : goal.returns-else-base-next
returns-else-base-next c = ((λ end. cell_stays c.args.work.now c.args.at end c.args.base c.args.next (omega (arith, c.if-base-next.false))), refl)
