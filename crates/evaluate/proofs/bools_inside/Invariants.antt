use Prim.Native.Nat.{◌-◌, ◌≤◌}
use mathlib.Core.Path.{◌≡◌}
use mathlib.Core.Bool.{Bool}
use lib.IntN.{pos}
use lib.ListN.{get_or}
use Rattle.laws.specs.Lists.{all, from, below}
use Rattle.verdict.specs.Roster.{is_bit}
use Rattle.evaluate.proofs.bools_inside.Given as goal

abbrev pub invariant-loop-v : goal.invariant-loop-v
invariant-loop-v l = let v = l.v in (v ≤ l.nb) × ((r : Bool) → r ≡ all (λ v. is_bit (get_or l.values v (pos 0))) (from v (l.nb - v)) → r ≡ all (λ v. is_bit (get_or l.values v (pos 0))) (below l.nb))
