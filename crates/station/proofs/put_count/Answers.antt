-- `put_count` meets its contract.
use mathlib.Core.Path.{sym}
use lib.Seq.{set_out}
use Rattle.station.proofs.put_count.Goals as goal

pub returns-else-counts-gt0 : goal.returns-else-counts-gt0
returns-else-counts-gt0 c = sym (set_out _ _ _ c.if-counts-gt0.false)
