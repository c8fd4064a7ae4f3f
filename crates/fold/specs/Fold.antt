-- Folding (constant_folding_bool, constant_folding_int): fixed variables and one-value integers become constants.
use Rattle.std.specs.Prelude.{Bool, true, false, not, ◌||◌, cond, List, map, ℕ, ℤ, pos}
use Rattle.std.specs.Bool.{beq}
use Rattle.std.proofs.Math.Option.{Option, none, some}
use Rattle.laws.specs.Ints.{eqZ}
use Rattle.syntax.specs.Syntax.{Domain, as_constant, domain_of, IfIsRead, IntExpr, IConst, IVar, Linear, If, Terms, tnil, tmore, BoolExpr, Const, Var, NVar, And, Or, Not, Xor, Iff, Imp, Cmp, Members, mnil, more, Stmt, Rule, Table, AllDifferent}

-- the Boolean variables fixed so far
abbrev pub Fixed : Type 0
Fixed = ℕ → Option Bool

-- is_const
abbrev pub is_const : BoolExpr → Option Bool
is_const (Const b) = some b
is_const (Var v) = none
is_const (NVar n) = none
is_const (And ms) = none
is_const (Or ms) = none
is_const (Not e) = none
is_const (Xor a b) = none
is_const (Iff a b) = none
is_const (Imp a b) = none
is_const (Cmp o a b) = none

-- ---- the table of 27 entries

pub data Op : Type 0 where
  op_xor op_iff op_imp : Op

pub data Action : Type 0 where
  be_false be_true left not_left right not_right keep : Action

-- operator, left side, right side; `nothing` is unknown
abbrev pub action : Op → Option Bool → Option Bool → Action
action op_xor (some false) (some false) = be_false
action op_xor (some false) (some true) = be_true
action op_xor (some false) none = right
action op_xor (some true) (some false) = be_true
action op_xor (some true) (some true) = be_false
action op_xor (some true) none = not_right
action op_xor none (some false) = left
action op_xor none (some true) = not_left
action op_xor none none = keep
action op_iff (some false) (some false) = be_true
action op_iff (some false) (some true) = be_false
action op_iff (some false) none = not_right
action op_iff (some true) (some false) = be_false
action op_iff (some true) (some true) = be_true
action op_iff (some true) none = right
action op_iff none (some false) = not_left
action op_iff none (some true) = left
action op_iff none none = keep
action op_imp (some false) (some false) = be_true
action op_imp (some false) (some true) = be_true
action op_imp (some false) none = be_true
action op_imp (some true) (some false) = be_false
action op_imp (some true) (some true) = be_true
action op_imp (some true) none = right
action op_imp none (some false) = not_left
action op_imp none (some true) = be_true
action op_imp none none = keep

abbrev pub expr_of : Op → BoolExpr → BoolExpr → BoolExpr
expr_of op_xor = Xor
expr_of op_iff = Iff
expr_of op_imp = Imp

abbrev pub act : Action → Op → BoolExpr → BoolExpr → BoolExpr
act be_false o a b = Const false
act be_true o a b = Const true
act left o a b = a
act not_left o a b = Not a
act right o a b = b
act not_right o a b = Not b
act keep o a b = expr_of o a b

unfoldable pub fold_binary : Op → BoolExpr → BoolExpr → BoolExpr
fold_binary o a b = act (action o (is_const a) (is_const b)) o a b

-- ---- And, Or, Not

-- whether a member is the constant b
abbrev pub is_value : Bool → Option Bool → Bool
is_value b none = false
is_value b (some c) = beq b c

unfoldable pub has_const : Bool → Members → Bool
has_const b mnil = false
has_const b (more e ms) = is_value b (is_const e) || has_const b ms

-- the members that are no constant
abbrev pub keep_member : Option Bool → BoolExpr → Members → Members
keep_member none e ms = more e ms
keep_member (some b) e ms = ms

unfoldable pub kept : Members → Members
kept mnil = mnil
kept (more e ms) = keep_member (is_const e) e (kept ms)

-- one member left replaces its parent
abbrev pub join_and : Members → BoolExpr
join_and mnil = Const true
join_and (more e mnil) = e
join_and (more e (more f ms)) = And (more e (more f ms))

abbrev pub join_or : Members → BoolExpr
join_or mnil = Const false
join_or (more e mnil) = e
join_or (more e (more f ms)) = Or (more e (more f ms))

unfoldable pub fold_and : Members → BoolExpr
fold_and ms = cond (has_const false ms) (Const false) (join_and (kept ms))

unfoldable pub fold_or : Members → BoolExpr
fold_or ms = cond (has_const true ms) (Const true) (join_or (kept ms))

abbrev pub not_of : Option Bool → BoolExpr → BoolExpr
not_of none e = Not e
not_of (some b) e = Const (not b)

unfoldable pub fold_not : BoolExpr → BoolExpr
fold_not e = not_of (is_const e) e

abbrev pub fold_var : Option Bool → ℕ → BoolExpr
fold_var none v = Var v
fold_var (some b) v = Const b

-- ---- integers

abbrev pub fold_int_var : Option ℤ → ℕ → IntExpr
fold_int_var none v = IVar v
fold_int_var (some c) v = IConst c

-- an empty sum is 0; a single term with coefficient 1 replaces its sum
abbrev pub fold_sum : Terms → IntExpr
fold_sum tnil = IConst (pos 0)
fold_sum (tmore k e tnil) = cond (eqZ k (pos 1)) e (Linear (tmore k e tnil))
fold_sum (tmore k e (tmore l f ts)) = Linear (tmore k e (tmore l f ts))

-- a known condition picks its branch
abbrev pub fold_if : Option Bool → IfIsRead → BoolExpr → IntExpr → IntExpr → IntExpr
fold_if none i c t e = If i c t e
fold_if (some true) i c t e = t
fold_if (some false) i c t e = e

-- ---- all of it

module _ (ds : List Domain) where
  module _ (f : Fixed) where
    unfoldable mutual
      pub constant_folding_int : IntExpr → IntExpr
      constant_folding_int (IConst c) = IConst c
      constant_folding_int (IVar v) = fold_int_var (as_constant (domain_of ds v)) v
      constant_folding_int (Linear ts) = fold_sum (constant_folding_terms ts)
      constant_folding_int (If i c t e) = let d = constant_folding_bool c in fold_if (is_const d) i d (constant_folding_int t) (constant_folding_int e)

      pub constant_folding_terms : Terms → Terms
      constant_folding_terms tnil = tnil
      constant_folding_terms (tmore k e ts) = tmore k (constant_folding_int e) (constant_folding_terms ts)

      pub constant_folding_bool : BoolExpr → BoolExpr
      constant_folding_bool (Const b) = Const b
      constant_folding_bool (Var v) = fold_var (f v) v
      constant_folding_bool (NVar n) = NVar n
      constant_folding_bool (And ms) = fold_and (constant_folding_members ms)
      constant_folding_bool (Or ms) = fold_or (constant_folding_members ms)
      constant_folding_bool (Not e) = fold_not (constant_folding_bool e)
      constant_folding_bool (Xor a b) = fold_binary op_xor (constant_folding_bool a) (constant_folding_bool b)
      constant_folding_bool (Iff a b) = fold_binary op_iff (constant_folding_bool a) (constant_folding_bool b)
      constant_folding_bool (Imp a b) = fold_binary op_imp (constant_folding_bool a) (constant_folding_bool b)
      constant_folding_bool (Cmp o a b) = Cmp o (constant_folding_int a) (constant_folding_int b)

      pub constant_folding_members : Members → Members
      constant_folding_members mnil = mnil
      constant_folding_members (more e ms) = more (constant_folding_bool e) (constant_folding_members ms)

    unfoldable pub constant_folding_stmt : Stmt → Stmt
    constant_folding_stmt (Rule e) = Rule (constant_folding_bool e)
    constant_folding_stmt (Table es rows) = Table (map constant_folding_int es) rows
    constant_folding_stmt (AllDifferent es) = AllDifferent (map constant_folding_int es)
