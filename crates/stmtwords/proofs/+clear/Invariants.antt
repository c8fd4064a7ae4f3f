use Prim.Native.Nat.{◌+◌, ◌-◌, ◌*◌}
use Rattle.stmtwords.proofs.Clearing.{Clearing, TermClearing}
use Rattle.stmtwords.proofs.+clear.Given as goal

abbrev pub decreases-clear_bool : goal.decreases-clear_bool
decreases-clear_bool l = 2 * l.left

abbrev pub decreases-clear_int : goal.decreases-clear_int
decreases-clear_int l = 2 * l.left

abbrev pub decreases-clear_members : goal.decreases-clear_members
decreases-clear_members l = 2 * l.left + 1

abbrev pub decreases-clear_terms : goal.decreases-clear_terms
decreases-clear_terms l = 2 * l.left + 1

abbrev pub invariant-clear_members-loop : goal.invariant-clear_members-loop
invariant-clear_members-loop l = Clearing l.initial.work l.left l.count l.at l.base (l.count - l.counter) l.q l.b l.work

abbrev pub invariant-clear_terms-loop : goal.invariant-clear_terms-loop
invariant-clear_terms-loop l = TermClearing l.initial.work l.left l.count l.at l.base (l.count - l.counter) l.q l.b l.work
