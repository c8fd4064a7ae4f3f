use Prim.Native.Nat.{ℕ}
use mathlib.Core.Path.{◌≡◌}
use mathlib.Core.List.{List}
use Prim.Native.Nat.{◌+◌, ◌-◌, ◌*◌, ◌≤◌}
use lib.IntN.{ℤ}
use lib.ListN.{length}
use Rattle.folding.specs.Known.{known}
use Rattle.passes.specs.Want.{worst_num, rank}
use Rattle.passes.specs.Contract.{StandMembers, MembersPost}
use Rattle.passes.proofs.+constant_prop.Given as goal

abbrev pub decreases-constant_prop_bool : goal.decreases-constant_prop_bool
decreases-constant_prop_bool l = 2 * (length l.work.now - l.at)

abbrev pub decreases-constant_prop_members : goal.decreases-constant_prop_members
decreases-constant_prop_members l = 2 * (length l.work.now - l.at) + 1

abbrev pub invariant-constant_prop_members-loop : goal.invariant-constant_prop_members-loop
invariant-constant_prop_members-loop l = (l.at ≤ l.next) × (length l.work ≡ length l.initial.work) × StandMembers l.work l.next (l.count - l.counter) × ((out' : List ℤ) (next' s : ℕ) → MembersPost l.work l.next (l.count - l.counter) (known l.want) out' next' s → MembersPost l.initial.work l.at l.count (known l.want) out' next' (worst_num (rank l.status) s))
