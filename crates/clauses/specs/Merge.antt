-- Merging (merge_equivalent_variables): before any clause, rules that tie two variables give them one number, negated where they differ.
-- ---- the pass
use Rattle.std.specs.Prelude.{◌≡◌, Bool, not, cond, ℕ, eqb}
use Rattle.std.proofs.Math.Path.{refl}
use Rattle.std.proofs.Common.{sym, ap, ◌∙◌, eqb-true, eq-eqb}
use Rattle.std.proofs.Math.Bool.{true, false}
use Rattle.std.specs.Bool.{beq}
use Rattle.std.proofs.Math.Option.{Option, none, some}
use mathlib.Core.List.{List, [], ◌∷◌}
use Rattle.laws.specs.Bools.{and_l, and_r, beq_eq, never}
use Rattle.laws.specs.Lists.{all}
use Rattle.syntax.specs.Written.{Any}
use Rattle.syntax.specs.Syntax.{Domain, IntExpr, BoolExpr, Const, Var, NVar, And, Or, Not, Xor, Iff, Imp, Cmp, Stmt, Rule, Table, AllDifferent}
use Rattle.syntax.specs.Satisfies.{Val, IVal, holds, stmt_holds}
use Rattle.clauses.specs.Clause.{negate_if, BoolLit, lit, lit_true}
use Rattle.clauses.specs.Log.{declared, aux, side, bool, merged, int, added, defined, known, Log, next_bool, next_int, negate_lit, get_bool_var, get_if, clauses_of}
use Rattle.clauses.specs.Valuation.{Agrees, negated_true}

abbrev pub as_var : BoolExpr → Option ℕ
as_var (Const b) = none
as_var (Var v) = some v
as_var (NVar n) = none
as_var (And ms) = none
as_var (Or ms) = none
as_var (Not e) = none
as_var (Xor a b) = none
as_var (Iff a b) = none
as_var (Imp a b) = none
as_var (Cmp o a b) = none

-- the one without a literal takes the other's; of two without, the first is met and the second takes its literal
abbrev pub tie_found : Option BoolLit → Option BoolLit → ℕ → ℕ → Bool → Log → Log
tie_found (some l) (some m) x y g s = s
tie_found (some l) none x y g s = merged y x g ∷ s
tie_found none (some m) x y g s = merged x y g ∷ s
tie_found none none x y g s = merged y x g ∷ bool (declared x) ∷ s

-- a variable and itself: passed over
unfoldable pub tie : Option ℕ → Option ℕ → Bool → Log → Log
tie none y g s = s
tie (some x) none g s = s
tie (some x) (some y) g s = cond (eqb x y) s (tie_found (get_bool_var x s) (get_bool_var y s) x y g s)

unfoldable pub merge_rule : BoolExpr → Log → Log
merge_rule (Const b) s = s
merge_rule (Var v) s = s
merge_rule (NVar n) s = s
merge_rule (And ms) s = s
merge_rule (Or ms) s = s
merge_rule (Not e) s = s
merge_rule (Xor a b) s = tie (as_var a) (as_var b) true s
merge_rule (Iff a b) s = tie (as_var a) (as_var b) false s
merge_rule (Imp a b) s = s
merge_rule (Cmp o a b) s = s

abbrev pub merge_stmt : Stmt → Log → Log
merge_stmt (Rule e) s = merge_rule e s
merge_stmt (Table es rows) s = s
merge_stmt (AllDifferent es) s = s

unfoldable pub merge_stmts : List Stmt → Log → Log
merge_stmts [] s = s
merge_stmts (t ∷ ts) s = merge_stmts ts (merge_stmt t s)

-- ---- whoever satisfies the rules keeps the ties

pub record Known (w : ℕ) (s : Log) : Type 0 where
  pub literal : BoolLit
  pub has : get_bool_var w s ≡ some literal

abbrev pub WellMerged : Log → Type 0
WellMerged [] = Unit {0}
WellMerged (bool (declared v) ∷ s) = (get_bool_var v s ≡ none) × WellMerged s
WellMerged (merged v w g ∷ s) = (get_bool_var v s ≡ none) × (Known w s × WellMerged s)
WellMerged (bool (aux cs) ∷ s) = ⊥
WellMerged (bool (side e) ∷ s) = ⊥
WellMerged (int m ∷ s) = ⊥
WellMerged (added cs ∷ s) = ⊥
WellMerged (defined cs ∷ s) = ⊥
WellMerged (known e n ∷ s) = ⊥
