-- What reading accepts is declared, and its rows are as wide as their tables.
use Rattle.std.specs.Prelude.{ℕ, ◌≤◌, ◌<◌, length}
use mathlib.Core.List.{List, [], ◌∷◌}
use Rattle.std.proofs.Common.{arith}
use Rattle.syntax.specs.Words.{max_depth}
use Rattle.syntax.specs.Syntax.{Stmt, Rule, Table, AllDifferent, Problem}
use Rattle.syntax.specs.Written.{None}
use Rattle.words.specs.Exact.{Each}
use Rattle.read.specs.WellFormed.{WellStmt, WellFormed}
use Rattle.read.proofs.Vars.{columns_vars, bool_vars, rows_wide}
use Rattle.passes.specs.Statements.{DeclaredStmt, DeclaredStmts}

-- m: any number that the Booleans' count does not pass
module _ (nb ni m : ℕ) (few : nb ≤ m) where
  below : (v : ℕ) → v < nb → v < m
  below v k = omega (arith, k)

  stmts_well : (ss : List Stmt) → Each (WellStmt nb ni) ss → DeclaredStmts m ni ss
  unfolding DeclaredStmts DeclaredStmt
  stmts_well [] h = tt
  stmts_well (Rule e ∷ ss) h = (bool_vars None (λ v. v < m) nb ni below max_depth e h.0, stmts_well ss h.1)
  stmts_well (Table es rows ∷ ss) h = ((columns_vars None (λ v. v < m) nb ni below max_depth es h.0.2, rows_wide (length es) rows h.0.3), stmts_well ss h.1)
  stmts_well (AllDifferent es ∷ ss) h = (columns_vars None (λ v. v < m) nb ni below max_depth es h.0.1, stmts_well ss h.1)

pub well_stmts : (p : Problem) → WellFormed p → (m : ℕ) → p.bools ≤ m → DeclaredStmts m (length p.domains) p.stmts
well_stmts p w m few = stmts_well p.bools (length p.domains) m few p.stmts w.stmts_well
