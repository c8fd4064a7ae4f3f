use mathlib.Core.Path.{refl, sym}
use lib.Seq.{set_out}
use Rattle.memory.proofs.store.Goals as goal

pub returns-else-i-slice : goal.returns-else-i-slice
returns-else-i-slice c = (sym (set_out c.args.slice.now _ _ c.if-i-slice.false), refl)
