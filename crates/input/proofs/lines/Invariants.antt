-- `input::lines` meets its contract. Assumes nothing.
use Prim.Native.Nat.{◌-◌, ◌≤◌}
use mathlib.Core.Path.{◌≡◌}
use mathlib.Core.List.{[]}
use mathlib.Core.Option.{none}
use lib.ListN.{length}
use Rattle.input.specs.ReadText.{Reader, lines as all_lines}
use Rattle.input.specs.Input.{left_at}
use Rattle.input.proofs.lines.Given as goal

abbrev pub invariant-loop-i : goal.invariant-loop-i
invariant-loop-i l = (l.i ≤ length l.text) × (l.n ≤ l.i) × (length l.words ≡ length l.initial.words) × ((next : Reader) → next [] ≡ none → left_at (all_lines l.key next) l.text l.initial.words l.at l.k ≡ left_at (all_lines l.key next) l.text l.words l.i l.n)

abbrev pub decreases-loop-i : goal.decreases-loop-i
decreases-loop-i l = length l.text - l.i
