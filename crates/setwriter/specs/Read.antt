-- What reading has of a folded statement: its rows, and how many expressions an AllDifferent has.
use Rattle.std.proofs.Math.Path.{◌≡◌, ap}
use Rattle.std.proofs.Common.{sym, ◌∙◌, subst, arith}
use mathlib.Core.List.{List, [], map}
use Rattle.std.specs.Prelude.{ℕ, ◌≤◌}
use Rattle.std.proofs.Math.ListN.{length, length-map}
use Rattle.syntax.specs.Words.{max_count}
use Rattle.syntax.specs.Syntax.{IntExpr, Stmt, Rule, Table, AllDifferent, Problem}
use Rattle.syntax.specs.Codes.{stmt_code}
use Rattle.read.specs.WellFormed.{WellStmt}
use Rattle.fold.specs.Fold.{Fixed, constant_folding_int as fold-int, constant_folding_stmt as fold-stmt}
use Rattle.stmtwords.specs.Stands.{WellRows}
use Rattle.stmtwords.specs.Rows.{rows_folded}
use Rattle.setwriter.specs.Statements.{Folds}

module _ (p : Problem) (f : Fixed) where
  pub folds_rows : (t : Stmt) → Folds p f t → WellRows t
  folds_rows t h = subst WellRows (sym h.folded) (rows_folded p.domains f p.bools (length p.domains) h.origin h.well)

  abbrev exprs_of : Stmt → List IntExpr
  exprs_of (Rule e) = []
  exprs_of (Table es rows) = []
  exprs_of (AllDifferent es) = es

  few_of : (es : List IntExpr) (o : Stmt) → AllDifferent es ≡ fold-stmt p.domains f o → WellStmt p.bools (length p.domains) o → length es ≤ max_count
  unfolding fold-stmt
  few_of es (Rule e) q h = let z : ◌≡◌ {A = ℕ} 3 1 = ap stmt_code q in absurd (omega (arith, z))
  few_of es (Table us vs) q h = let z : ◌≡◌ {A = ℕ} 3 2 = ap stmt_code q in absurd (omega (arith, z))
  few_of es (AllDifferent us) q h =
      let a : es ≡ map (fold-int p.domains f) us = ap exprs_of q in
      omega (arith, ap length a ∙ length-map us (fold-int p.domains f), h.0)

  pub folds_few : (es : List IntExpr) → Folds p f (AllDifferent es) → length es ≤ max_count
  folds_few es h = few_of es h.origin h.folded h.well
