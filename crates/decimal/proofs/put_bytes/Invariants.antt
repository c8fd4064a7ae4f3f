-- `decimal::put_bytes` meets its contract. Assumes nothing.
use Rattle.std.proofs.Common.{◌≡◌, length, drop}
use Rattle.decimal.specs.Puts.{puts}
use Rattle.decimal.proofs.put_bytes.Given as goal

abbrev pub invariant-loop-b : goal.invariant-loop-b
invariant-loop-b l = (length l.out ≡ length l.initial.out) × (puts l.out l.o (drop l.b-index l.bytes) ≡ puts l.initial.out l.at l.bytes)
