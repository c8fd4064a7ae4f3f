use Prim.Native.Nat.{ℕ, ◌+◌, ◌*◌}
use mathlib.Core.Path.{◌≡◌}
use mathlib.Core.List.{List}
use lib.IntN.{ℤ}
use Rattle.laws.specs.Writes.{Wrote}
use Rattle.walks.specs.Item.{tallies, pools as pools-of}
use Rattle.scan.specs.Skip.{split_by}
use Rattle.rulewriter.specs.Places.{items_at, share}
use Rattle.rulewriter.proofs.Steps.{Sofar}
use Rattle.rulewriter.proofs.+pool.Given as goal

abbrev pub decreases-pool : goal.decreases-pool
decreases-pool l = 2 * l.left

abbrev pub decreases-pools : goal.decreases-pools
decreases-pools l = 2 * l.left + 1

abbrev pub invariant-pools-loop-k : goal.invariant-pools-loop-k
invariant-pools-loop-k l =
    Sofar l.work l.initial.out l.left (split_by l.m) l.h l.q l.rest l.f l.c l.e l.p l.out × (l.k ≡ share l.b (tallies (items_at l.work l.left (split_by l.m) l.rest l.f l.h l.q l.c)))
    × ((d : List ℤ) (r : ℕ) → Wrote l.out l.p (pools-of (items_at l.work l.left (split_by l.m) l.rest l.f l.h l.q l.c) l.b l.work l.e) d r → Wrote l.initial.out l.o (pools-of (items_at l.work l.left (split_by l.m) l.count l.g l.h l.at l.base) l.b l.work l.initial.e) d r)

abbrev pub decreases-pools-loop-k : goal.decreases-pools-loop-k
decreases-pools-loop-k l = l.rest
