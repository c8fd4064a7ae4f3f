-- Requiring each rule to be true (constant_prop_bool), and the passes of folding and requiring (optimize).
use Rattle.std.specs.Prelude.{Bool, true, false, not, ◌||◌, cond, List, [], ◌∷◌, map, ℕ, zero, suc, eqb}
use Rattle.std.specs.Bool.{beq}
use Rattle.std.proofs.Math.Option.{Option, none, some}
use Rattle.syntax.specs.Syntax.{Domain, BoolExpr, Const, Var, NVar, And, Or, Not, Xor, Iff, Imp, Cmp, Members, mnil, more, Stmt, Rule, Table, AllDifferent, Problem}
use Rattle.fold.specs.Fold.{Fixed, constant_folding_stmt}

-- unsatisfiable; or whether a variable changed, and what is fixed now
pub data Status : Type 0 where
  unsatisfiable : Status
  updated : Bool → Fixed → Status

abbrev pub fix : Fixed → ℕ → Bool → Fixed
fix f v b = λ w. cond (eqb w v) (some b) (f w)

-- set_infeasible
abbrev pub set_infeasible : Option Bool → ℕ → Bool → Fixed → Status
set_infeasible none v want f = updated true (fix f v want)
set_infeasible (some b) v want f = cond (beq b want) (updated false f) unsatisfiable

-- the worst counts
abbrev pub worst : Bool → Status → Status
worst c unsatisfiable = unsatisfiable
worst c (updated d f) = updated (c || d) f

abbrev pub and_then : Status → (Fixed → Status) → Status
and_then unsatisfiable k = unsatisfiable
and_then (updated c f) k = worst c (k f)

unfoldable mutual
  pub constant_prop_bool : BoolExpr → Bool → Fixed → Status
  constant_prop_bool (Const c) want = λ f. cond (beq c want) (updated false f) unsatisfiable
  constant_prop_bool (Var v) want = λ f. set_infeasible (f v) v want f
  constant_prop_bool (NVar n) want = λ f. updated false f
  constant_prop_bool (And ms) true = constant_prop_members ms true
  constant_prop_bool (And ms) false = λ f. updated false f
  constant_prop_bool (Or ms) true = λ f. updated false f
  constant_prop_bool (Or ms) false = constant_prop_members ms false
  constant_prop_bool (Not e) want = constant_prop_bool e (not want)
  constant_prop_bool (Xor a b) want = λ f. updated false f
  constant_prop_bool (Iff a b) want = λ f. updated false f
  constant_prop_bool (Imp a b) true = λ f. updated false f
  constant_prop_bool (Imp a b) false = λ f. and_then (constant_prop_bool a true f) (constant_prop_bool b false)
  constant_prop_bool (Cmp o a b) want = λ f. updated false f

  pub constant_prop_members : Members → Bool → Fixed → Status
  constant_prop_members mnil want = λ f. updated false f
  constant_prop_members (more e ms) want = λ f. and_then (constant_prop_bool e want f) (constant_prop_members ms want)

unfoldable pub constant_prop_stmts : List Stmt → Fixed → Status
constant_prop_stmts [] f = updated false f
constant_prop_stmts (Rule e ∷ ss) f = and_then (constant_prop_bool e true f) (constant_prop_stmts ss)
constant_prop_stmts (Table es rows ∷ ss) f = constant_prop_stmts ss f
constant_prop_stmts (AllDifferent es ∷ ss) f = constant_prop_stmts ss f

-- ---- the passes

pub data Outcome : Type 0 where
  inconsistent : Outcome
  settled : Fixed → List Stmt → Outcome

abbrev pub next_pass : Status → List Stmt → (Fixed → Outcome) → Outcome
next_pass unsatisfiable ss again = inconsistent
next_pass (updated false f) ss again = settled f ss
next_pass (updated true f) ss again = again f

-- every pass but the last fixes a variable: B + 1 passes are enough
unfoldable pub passes : List Domain → ℕ → Fixed → List Stmt → Outcome
passes ds zero f ss = settled f ss
passes ds (suc n) f ss =
    let folded = map (constant_folding_stmt ds f) ss in
    next_pass (constant_prop_stmts folded f) folded (λ g. passes ds n g folded)

unfoldable pub optimize : Problem → Outcome
optimize p = passes p.domains (suc p.bools) (λ v. none) p.stmts
