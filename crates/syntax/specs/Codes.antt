-- The code word that an expression's, and a statement's, words begin with.
use Rattle.std.specs.Prelude.{◌≡◌, List, ℕ, ℤ, pos, get_or}
use Rattle.laws.specs.Slices.{Has, has_word}
use Rattle.syntax.specs.Syntax.{BoolExpr, Const, Var, NVar, And, Or, Not, Xor, Iff, Imp, Cmp, Stmt, Rule, Table, AllDifferent, encode_stmt}

-- 0: no expression of a set
abbrev pub bool_code : BoolExpr → ℕ
bool_code (Const b) = 10
bool_code (Var v) = 11
bool_code (NVar n) = 0
bool_code (And ms) = 12
bool_code (Or ms) = 13
bool_code (Not e) = 14
bool_code (Xor a b) = 15
bool_code (Iff a b) = 16
bool_code (Imp a b) = 17
bool_code (Cmp o a b) = 18

abbrev pub stmt_code : Stmt → ℕ
stmt_code (Rule e) = 1
stmt_code (Table es rows) = 2
stmt_code (AllDifferent es) = 3

pub stmt_code_word : (ws : List ℤ) (at : ℕ) (s : Stmt) → Has ws at (encode_stmt s) → get_or ws at (pos 0) ≡ pos (stmt_code s)
unfolding encode_stmt
stmt_code_word ws at (Rule e) h = has_word ws at _ _ (pos 0) h
stmt_code_word ws at (Table es rows) h = has_word ws at _ _ (pos 0) h
stmt_code_word ws at (AllDifferent es) h = has_word ws at _ _ (pos 0) h
