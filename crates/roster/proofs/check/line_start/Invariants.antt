-- `line_start` meets its contract.
use mathlib.Core.Path.{◌≡◌}
use lib.ListN.{take}
use Rattle.roster.specs.RosterText.{last_feed}
use Rattle.roster.proofs.check.line_start.Given as goal

abbrev pub invariant-loop-i : goal.invariant-loop-i
invariant-loop-i l = last_feed (take l.i l.lines) ≡ last_feed l.lines
