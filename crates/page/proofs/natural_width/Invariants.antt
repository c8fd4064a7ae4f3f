use mathlib.Core.Path.{◌≡◌}
use Prim.Native.Nat.{◌+◌, ◌≤◌}
use lib.ListN.{length}
use Rattle.decimal.specs.Decimal.{print_natural}
use Rattle.page.proofs.natural_width.Given as goal

abbrev pub invariant-loop-m : goal.invariant-loop-m
invariant-loop-m l = (l.w + length (print_natural l.m) ≡ 1 + length (print_natural l.n)) × (l.w + l.m ≤ l.n + 1)

abbrev pub decreases-loop-m : goal.decreases-loop-m
decreases-loop-m l = l.m
