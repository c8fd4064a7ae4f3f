-- Requiring with a third want, nothing, under which the walk only passes over an expression; its status in numbers; and the fixed
-- values as the first words of the work slice.
use Rattle.std.specs.Prelude.{ℕ, ◌≤◌, ◌<◌, ◌≡◌, refl, Bool, true, false, not, cond, List, ltb, ℤ, pos, drop, get_or, set}
use Rattle.std.specs.Bool.{beq}
use Rattle.std.proofs.Math.Option.{Option, none, some}
use Rattle.std.proofs.Common.{arith, le-ltb}
use Rattle.syntax.specs.Words.{max_bools}
use Rattle.syntax.specs.Syntax.{BoolExpr, Not, Members, more}
use Rattle.fold.specs.Fold.{Fixed, is_value, Op, op_xor, op_iff, op_imp, expr_of}
use Rattle.fold.specs.Optimize.{Status, unsatisfiable, updated, worst, and_then, constant_prop_bool, constant_prop_members}
use Rattle.fold.specs.Table.{bit, state_num}
use Rattle.fold.proofs.Forms.{list_of}
use Rattle.passes.specs.declared.Status.{Status as Code-status}
use Rattle.passes.specs.declared.Status.TheVariants.{Unchanged, Updated, Unsatisfiable}

-- ---- what is required, or nothing

abbrev pub prop_want : Option Bool → BoolExpr → Fixed → Status
prop_want none e = λ f. updated false f
prop_want (some b) e = constant_prop_bool e b

abbrev pub members_want : Option Bool → Members → Fixed → Status
members_want none ms = λ f. updated false f
members_want (some b) ms = constant_prop_members ms b

abbrev pub flip : Option Bool → Option Bool
flip none = none
flip (some b) = some (not b)

-- of each member; b is the value that settles the list
abbrev pub member_want : Bool → Option Bool → Option Bool
member_want b none = none
member_want b (some c) = cond (beq b c) none (some c)

abbrev pub left_want : Op → Option Bool → Option Bool
left_want op_imp (some false) = some true
left_want op_imp (some true) = none
left_want op_imp none = none
left_want op_xor k = none
left_want op_iff k = none

abbrev pub right_want : Op → Option Bool → Option Bool
right_want op_imp (some false) = some false
right_want op_imp (some true) = none
right_want op_imp none = none
right_want op_xor k = none
right_want op_iff k = none

pub want_not : (k : Option Bool) (e : BoolExpr) (f : Fixed) → prop_want k (Not e) f ≡ prop_want (flip k) e f
unfolding constant_prop_bool
want_not none e f = refl
want_not (some b) e f = refl

pub want_list : (k : Option Bool) (b : Bool) (ms : Members) (f : Fixed) → prop_want k (list_of b ms) f ≡ members_want (member_want b k) ms f
unfolding constant_prop_bool
want_list none b ms f = refl
want_list (some false) false ms f = refl
want_list (some false) true ms f = refl
want_list (some true) false ms f = refl
want_list (some true) true ms f = refl

pub want_binary : (k : Option Bool) (o : Op) (a b : BoolExpr) (f : Fixed) → prop_want k (expr_of o a b) f ≡ and_then (prop_want (left_want o k) a f) (prop_want (right_want o k) b)
unfolding constant_prop_bool
want_binary none op_xor a b f = refl
want_binary none op_iff a b f = refl
want_binary none op_imp a b f = refl
want_binary (some c) op_xor a b f = refl
want_binary (some c) op_iff a b f = refl
want_binary (some true) op_imp a b f = refl
want_binary (some false) op_imp a b f = refl

pub want_more : (k : Option Bool) (e : BoolExpr) (ms : Members) (f : Fixed) → members_want k (more e ms) f ≡ and_then (prop_want k e f) (members_want k ms)
unfolding constant_prop_members
want_more none e ms f = refl
want_more (some b) e ms f = refl

-- ---- the same in the code's numbers

abbrev pub status_num : Status → ℕ
status_num unsatisfiable = 2
status_num (updated c f) = bit c

-- the code's statuses, the worse the greater
abbrev pub rank : Code-status → ℕ
rank Unchanged = 0
rank Updated = 1
rank Unsatisfiable = 2

abbrev pub worst_num : ℕ → ℕ → ℕ
worst_num a b = cond (ltb a b) b a

unfoldable pub clash_status : Bool → Option Bool → ℕ
clash_status b want = cond (is_value (not b) want) 2 0

unfoldable pub set_status : Option Bool → Option Bool → ℕ
set_status s none = 0
set_status none (some b) = 1
set_status (some c) (some b) = cond (beq c b) 0 2

unfoldable pub set_words : Option Bool → ℕ → Option Bool → List ℤ → List ℤ
set_words s v none l = l
set_words none v (some b) l = set l v (pos (bit b))
set_words (some c) v (some b) l = l

pub status_small : (s : Status) → status_num s ≤ 2
status_small unsatisfiable = omega arith
status_small (updated true f) = omega arith
status_small (updated false f) = omega arith

-- the worst of two statuses, the second taken under what the first fixed
pub worst_two : (n : ℕ) → n ≤ 2 → worst_num 2 n ≡ 2
worst_two n h = rw (le-ltb 2 n h) refl

pub worst_is : (c : Bool) (s : Status) → worst_num (bit c) (status_num s) ≡ status_num (worst c s)
worst_is true unsatisfiable = refl
worst_is false unsatisfiable = refl
worst_is true (updated true f) = refl
worst_is true (updated false f) = refl
worst_is false (updated true f) = refl
worst_is false (updated false f) = refl

-- ---- the fixed values in the slice

-- 0 false, 1 true, 2 open
pub record Values (out : List ℤ) (f : Fixed) : Type 0 where
  pub cells : (v : ℕ) → v < max_bools → get_or out v (pos 0) ≡ pos (state_num (f v))
  pub others : (v : ℕ) → max_bools ≤ v → f v ≡ none

-- after requiring: what is fixed now, and nothing above the values touched
pub record Propagates (s : Status) (out out' : List ℤ) (status : ℕ) : Type 0 where
  pub statuses : status ≡ status_num s
  pub after : Fixed
  pub values : Values out' after
  pub same : (c : Bool) (g : Fixed) → s ≡ updated c g → after ≡ g
  pub high : drop max_bools out' ≡ drop max_bools out
