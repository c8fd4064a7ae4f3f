-- Every log that normalising statements makes is well made (clauses/Entries): of declared variables only; and so is the log of merging.
use Rattle.std.specs.Prelude.{Bool, cond, ℕ, ◌<◌, eqb, ℤ}
use Rattle.std.proofs.Math.Bool.{true, false}
use Rattle.std.proofs.Math.Option.{Option, none, some}
use mathlib.Core.List.{List, [], ◌∷◌, ◌++◌, map}
use Rattle.laws.specs.Lists.{any}
use Rattle.syntax.specs.Syntax.{Domain, Ne, IntExpr, BoolExpr, Const, Var, NVar, And, Or, Not, Xor, Iff, Imp, Cmp, Cell, Stmt, Rule, Table, AllDifferent}
use Rattle.syntax.specs.Written.{Any, EveryIntOf, EveryColumnOf, EveryOf, Every, EveryMember, EveryStmt, EveryStmts}
use Rattle.clauses.specs.Clause.{BoolLit}
use Rattle.clauses.specs.Merge.{as_var, tie_found, tie, merge_rule, merge_stmts}
use Rattle.clauses.specs.Log.{Log, get_bool_var}
use Rattle.clauses.specs.Disjunction.{Out}
use Rattle.clauses.specs.Normalize.{register}
use Rattle.clauses.proofs.Entries.{WellMade, WellAll, KeepsLog, all_append_well, disjunction_well, rule_well}
use Rattle.tables.specs.Tables.{star_table, is_star, normalize_extension_supports, normalize_table}
use Rattle.tables.proofs.ColumnEntries.{columns_well}
use Rattle.different.specs.Different.{pair_rules, each_equals, value_rule, values_used_up, different_rules, normalize_rules}
use Rattle.answer.specs.Answer.{normalize_stmt, normalize_stmts}

-- of declared variables: b Booleans, i integers
abbrev pub Declared : List Domain → ℕ → ℕ → Log → Type 0
Declared ds b i s = WellMade ds (λ v. v < b) (λ v. v < i) s

module _ (ds : List Domain) (P Q : ℕ → Type 0) where
  supports_well : (t : Bool) (x y : Out) → WellMade ds P Q x.1 → WellMade ds P Q y.1 → WellMade ds P Q (cond t x y).1
  supports_well true x y h k = h
  supports_well false x y h k = k

  table_well : (es : List IntExpr) (rows : List (List Cell)) → EveryColumnOf Any P Q es → KeepsLog ds P Q (normalize_table ds es rows)
  unfolding normalize_table normalize_extension_supports star_table register
  table_well es rows h s k =
      let c = columns_well ds P Q es h s k in
      (tt, supports_well (any (any is_star) rows) _ _ (disjunction_well ds P Q _ _ c) c)

  -- ---- AllDifferent

  rules_well : (es : List BoolExpr) → WellAll ds P Q es → KeepsLog ds P Q (normalize_rules ds es)
  unfolding normalize_rules
  rules_well [] h s k = k
  rules_well (e ∷ es) h s k = rules_well es h.1 _ (rule_well ds P Q e h.0 s k)

  row_well : (e : IntExpr) (es : List IntExpr) → EveryIntOf Any P Q e → EveryColumnOf Any P Q es → WellAll ds P Q (map (Cmp Ne e) es)
  unfolding EveryColumnOf EveryOf
  row_well e [] h k = tt
  row_well e (f ∷ es) h k = ((h, k.0), row_well e es h k.1)

  pairs_well : (es : List IntExpr) → EveryColumnOf Any P Q es → WellAll ds P Q (pair_rules es)
  unfolding EveryColumnOf pair_rules
  pairs_well [] h = tt
  pairs_well (e ∷ es) h = all_append_well ds P Q (map (Cmp Ne e) es) (pair_rules es) (row_well e es h.0 h.1) (pairs_well es h.1)

  equals_well : (x : ℤ) (es : List IntExpr) → EveryColumnOf Any P Q es → EveryMember P Q (each_equals x es)
  unfolding EveryColumnOf EveryOf EveryIntOf
  equals_well x [] h = tt
  equals_well x (e ∷ es) h = ((h.0, tt), equals_well x es h.1)

  values_well : (es : List IntExpr) (xs : List ℤ) → EveryColumnOf Any P Q es → WellAll ds P Q (map (value_rule es) xs)
  unfolding EveryOf
  values_well es [] h = tt
  values_well es (x ∷ xs) h = (equals_well x es h, values_well es xs h)

  different_well : (es : List IntExpr) → EveryColumnOf Any P Q es → KeepsLog ds P Q (normalize_rules ds (different_rules ds es))
  unfolding different_rules
  different_well es h = rules_well (pair_rules es ++ map (value_rule es) (values_used_up ds es)) (all_append_well ds P Q (pair_rules es) (map (value_rule es) (values_used_up ds es)) (pairs_well es h) (values_well es (values_used_up ds es) h))

  -- ---- statements

  pub stmt_well : (t : Stmt) → EveryStmt P Q t → KeepsLog ds P Q (normalize_stmt ds t)
  unfolding normalize_stmt EveryStmt
  stmt_well (Rule e) h s k = rule_well ds P Q e h s k
  stmt_well (Table es rows) h s k = table_well es rows h s k
  stmt_well (AllDifferent es) h s k = different_well es h s k

  pub stmts_well : (ts : List Stmt) → EveryStmts P Q ts → KeepsLog ds P Q (normalize_stmts ds ts)
  unfolding normalize_stmts EveryStmts
  stmts_well [] h s k = k
  stmts_well (t ∷ ts) h s k = stmts_well ts h.1 _ (stmt_well t h.0 s k)

  -- ---- merging

  found_well : (o p : Option BoolLit) (x y : ℕ) (g : Bool) (s : Log) → P x → P y → WellMade ds P Q s → WellMade ds P Q (tie_found o p x y g s)
  found_well (some l) (some m) x y g s h k d = d
  found_well (some l) none x y g s h k d = (k, d)
  found_well none (some m) x y g s h k d = (h, d)
  found_well none none x y g s h k d = (k, (h, d))

  apart_well : (t : Bool) (s r : Log) → WellMade ds P Q s → WellMade ds P Q r → WellMade ds P Q (cond t s r)
  apart_well true s r h k = h
  apart_well false s r h k = k

  abbrev HasVar : Option ℕ → Type 0
  HasVar none = Unit {0}
  HasVar (some v) = P v

  tie_well : (x y : Option ℕ) (g : Bool) (s : Log) → HasVar x → HasVar y → WellMade ds P Q s → WellMade ds P Q (tie x y g s)
  unfolding tie
  tie_well none y g s h k d = d
  tie_well (some x) none g s h k d = d
  tie_well (some x) (some y) g s h k d = apart_well (eqb x y) s _ d (found_well (get_bool_var x s) (get_bool_var y s) x y g s h k d)

  var_well : (e : BoolExpr) → Every P Q e → HasVar (as_var e)
  unfolding EveryOf
  var_well (Const c) h = tt
  var_well (Var v) h = h
  var_well (NVar n) h = tt
  var_well (And ms) h = tt
  var_well (Or ms) h = tt
  var_well (Not e) h = tt
  var_well (Xor x y) h = tt
  var_well (Iff x y) h = tt
  var_well (Imp x y) h = tt
  var_well (Cmp o x y) h = tt

  merge_rule_made : (e : BoolExpr) (s : Log) → Every P Q e → WellMade ds P Q s → WellMade ds P Q (merge_rule e s)
  unfolding merge_rule EveryOf
  merge_rule_made (Const c) s h d = d
  merge_rule_made (Var v) s h d = d
  merge_rule_made (NVar n) s h d = d
  merge_rule_made (And ms) s h d = d
  merge_rule_made (Or ms) s h d = d
  merge_rule_made (Not e) s h d = d
  merge_rule_made (Xor x y) s h d = tie_well (as_var x) (as_var y) true s (var_well x h.0) (var_well y h.1) d
  merge_rule_made (Iff x y) s h d = tie_well (as_var x) (as_var y) false s (var_well x h.0) (var_well y h.1) d
  merge_rule_made (Imp x y) s h d = d
  merge_rule_made (Cmp o x y) s h d = d

  pub merge_made : (ts : List Stmt) (s : Log) → EveryStmts P Q ts → WellMade ds P Q s → WellMade ds P Q (merge_stmts ts s)
  unfolding merge_stmts EveryStmts EveryStmt
  merge_made [] s h d = d
  merge_made (Rule e ∷ ts) s h d = merge_made ts (merge_rule e s) h.1 (merge_rule_made e s h.0 d)
  merge_made (Table es rows ∷ ts) s h d = merge_made ts s h.1 d
  merge_made (AllDifferent es ∷ ts) s h d = merge_made ts s h.1 d
