-- How many Boolean numbers merging gives: at most one for each statement.
use Rattle.std.specs.Prelude.{Bool, true, false, cond, List, [], ◌∷◌, map, ℕ, ◌+◌, ◌≤◌, eqb, length}
use Rattle.std.proofs.Math.Option.{Option, none, some}
use Rattle.std.proofs.Common.{arith, length-append}
use Rattle.laws.specs.Lists.{flat}
use Rattle.syntax.specs.Syntax.{BoolExpr, Const, Var, NVar, And, Or, Not, Xor, Iff, Imp, Cmp, Stmt, Rule, Table, AllDifferent, encode_stmt}
use Rattle.clauses.specs.Clause.{BoolLit}
use Rattle.clauses.specs.Log.{Log, next_bool, get_bool_var}
use Rattle.clauses.specs.Merge.{as_var, tie_found, tie as merge-tie, merge_rule, merge_stmt, merge_stmts}
use Rattle.answer.specs.Answer.{start_log}

stmt_words : (t : Stmt) → 1 ≤ length (encode_stmt t)
unfolding encode_stmt
stmt_words (Rule e) = omega arith
stmt_words (Table es rows) = omega arith
stmt_words (AllDifferent es) = omega arith

-- no fewer numbers, and at most one more
abbrev OneMore : Log → Log → Type 0
OneMore s t = (next_bool s ≤ next_bool t) × (next_bool t ≤ next_bool s + 1)

found_more : (o p : Option BoolLit) (x y : ℕ) (g : Bool) (s : Log) → OneMore s (tie_found o p x y g s)
found_more (some l) (some m) x y g s = (omega arith, omega arith)
found_more (some l) none x y g s = (omega arith, omega arith)
found_more none (some m) x y g s = (omega arith, omega arith)
found_more none none x y g s = (omega arith, omega arith)

tie_more : (a b : Option ℕ) (g : Bool) (s : Log) → OneMore s (merge-tie a b g s)
unfolding merge-tie
tie_more none b g s = (omega arith, omega arith)
tie_more (some x) none g s = (omega arith, omega arith)
tie_more (some x) (some y) g s = go (eqb x y)
  where
    go : (t : Bool) → OneMore s (cond t s (tie_found (get_bool_var x s) (get_bool_var y s) x y g s))
    go true = (omega arith, omega arith)
    go false = found_more (get_bool_var x s) (get_bool_var y s) x y g s

rule_more : (e : BoolExpr) (s : Log) → OneMore s (merge_rule e s)
unfolding merge_rule
rule_more (Const b) s = (omega arith, omega arith)
rule_more (Var v) s = (omega arith, omega arith)
rule_more (NVar n) s = (omega arith, omega arith)
rule_more (And ms) s = (omega arith, omega arith)
rule_more (Or ms) s = (omega arith, omega arith)
rule_more (Not e) s = (omega arith, omega arith)
rule_more (Xor a b) s = tie_more (as_var a) (as_var b) true s
rule_more (Iff a b) s = tie_more (as_var a) (as_var b) false s
rule_more (Imp a b) s = (omega arith, omega arith)
rule_more (Cmp o a b) s = (omega arith, omega arith)

stmt_more : (t : Stmt) (s : Log) → OneMore s (merge_stmt t s)
stmt_more (Rule e) s = rule_more e s
stmt_more (Table es rows) s = (omega arith, omega arith)
stmt_more (AllDifferent es) s = (omega arith, omega arith)

pub merge_grows : (ts : List Stmt) (s : Log) → next_bool s ≤ next_bool (merge_stmts ts s)
unfolding merge_stmts
merge_grows [] s = omega arith
merge_grows (t ∷ ts) s = omega (arith, (stmt_more t s).0, merge_grows ts (merge_stmt t s))

merge_low : (ts : List Stmt) (s : Log) → next_bool (merge_stmts ts s) ≤ next_bool s + length (flat (map encode_stmt ts))
unfolding merge_stmts
merge_low [] s = omega arith
merge_low (t ∷ ts) s = omega (arith, (stmt_more t s).1, merge_low ts (merge_stmt t s), stmt_words t, length-append (encode_stmt t) (flat (map encode_stmt ts)))

pub start_low : (m : Bool) (ts : List Stmt) → next_bool (start_log m ts) ≤ length (flat (map encode_stmt ts))
unfolding start_log
start_low false ts = omega arith
start_low true ts = omega (arith, merge_low ts [])
