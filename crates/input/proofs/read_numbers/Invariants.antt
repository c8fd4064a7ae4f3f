-- `input::read_numbers` meets its contract. Assumes nothing.
use Prim.Native.Nat.{◌+◌, ◌-◌, ◌≤◌}
use mathlib.Core.Path.{◌≡◌}
use lib.ListN.{length, drop}
use Rattle.decimal.specs.Bytes.{comma}
use Rattle.input.specs.ReadText.{split, read_numbers as numbers}
use Rattle.input.specs.Input.{fill}
use Rattle.input.proofs.read_numbers.Given as goal

abbrev pub invariant-loop-words : goal.invariant-loop-words
invariant-loop-words l = (l.i ≤ length l.part) × (l.n ≤ l.k + l.i) × (length l.words ≡ length l.initial.words) × (fill l.words l.n (numbers (split comma (drop l.i l.part))) ≡ fill l.initial.words l.k (numbers (split comma l.part)))

abbrev pub decreases-loop-words : goal.decreases-loop-words
decreases-loop-words l = length l.part - l.i
