-- The passes one at a time: what each makes of the fixed values, from the original statements. What is declared stays declared.
use Rattle.std.specs.Prelude.{ℕ, suc, ◌≤◌, ◌<◌, ◌≡◌, true, false, length}
use Rattle.std.proofs.Math.Path.{refl}
use Rattle.std.proofs.Common.{ap, ◌∙◌, arith}
use mathlib.Core.List.{List, [], ◌∷◌, map}
use Rattle.syntax.specs.Words.{max_bools}
use Rattle.syntax.specs.Syntax.{Domain, IntExpr, Stmt, Rule, Table, AllDifferent}
use Rattle.syntax.specs.Written.{EveryStmt, EveryStmts, EveryColumnOf, every_map, every_column_map, Any, None}
use Rattle.fold.specs.Fold.{Fixed, constant_folding_int, constant_folding_stmt}
use Rattle.fold.specs.Optimize.{unsatisfiable, updated, constant_prop_stmts, inconsistent, settled, passes}
use Rattle.fold.proofs.Ends.{prop_stmts_after, prop_extends, passes_original, opens, opens_most, Fewer, fewer_steps}
use Rattle.fold.proofs.Kept.{fold_columns_every, fold_every}
use Rattle.passes.specs.Statements.{DeclaredColumns, DeclaredStmt, DeclaredStmts}

-- ---- declared, in the words of the theorems on folding

module _ (nb ni : ℕ) where
  columns_every : (es : List IntExpr) → DeclaredColumns nb ni es → EveryColumnOf Any (λ v. v < nb) (λ v. v < ni) es
  columns_every es h = every_column_map None (λ v. v < nb) (λ v. v < ni) Any (λ v. v < nb) (λ v. v < ni) (λ n k. tt) (λ v k. k) (λ v k. k) es h

  pub stmts_every : (ss : List Stmt) → DeclaredStmts nb ni ss → EveryStmts (λ v. v < nb) (λ v. v < ni) ss
  unfolding DeclaredStmts DeclaredStmt EveryStmts EveryStmt
  stmts_every [] h = tt
  stmts_every (Rule e ∷ ss) h = (every_map None (λ v. v < nb) (λ v. v < ni) Any (λ v. v < nb) (λ v. v < ni) (λ n k. tt) (λ v k. k) (λ v k. k) e h.0, stmts_every ss h.1)
  stmts_every (Table es rows ∷ ss) h = (columns_every es h.0.0, stmts_every ss h.1)
  stmts_every (AllDifferent es ∷ ss) h = (columns_every es h.0, stmts_every ss h.1)

  -- ---- folding keeps it

  module _ (ds : List Domain) (f : Fixed) where
    map_length : (es : List IntExpr) → length (map (constant_folding_int ds f) es) ≡ length es
    map_length [] = refl
    map_length (e ∷ es) = ap suc (map_length es)

    pub stmt_kept : (s : Stmt) → DeclaredStmt nb ni s → DeclaredStmt nb ni (constant_folding_stmt ds f s)
    unfolding DeclaredStmt constant_folding_stmt
    stmt_kept (Rule e) h = fold_every None (λ v. v < nb) (λ v. v < ni) ds f e h
    stmt_kept (Table es rows) h = (fold_columns_every None (λ v. v < nb) (λ v. v < ni) ds f es h.0, rw (map_length es) h.1)
    stmt_kept (AllDifferent es) h = fold_columns_every None (λ v. v < nb) (λ v. v < ni) ds f es h

    pub stmts_kept : (ss : List Stmt) → DeclaredStmts nb ni ss → DeclaredStmts nb ni (map (constant_folding_stmt ds f) ss)
    unfolding DeclaredStmts
    stmts_kept [] h = tt
    stmts_kept (s ∷ ss) h = (stmt_kept s h.0, stmts_kept ss h.1)

pub stmts_length : (ds : List Domain) (f : Fixed) (ss : List Stmt) → length (map (constant_folding_stmt ds f) ss) ≡ length ss
stmts_length ds f [] = refl
stmts_length ds f (s ∷ ss) = ap suc (stmts_length ds f ss)

-- ---- open variables

-- how many Booleans are open
unfoldable pub open_count : Fixed → ℕ
open_count f = opens max_bools f

pub open_most : (f : Fixed) → open_count f ≤ max_bools
unfolding open_count
open_most f = opens_most max_bools f

opens_fewer : (B ni : ℕ) (ss : List Stmt) (f g : Fixed) → DeclaredStmts B ni ss → constant_prop_stmts ss f ≡ updated true g → opens B g < opens B f
opens_fewer B ni ss f g h e =
    let a = prop_stmts_after (λ v. v < B) (λ v. v < ni) (Fewer B) (fewer_steps B) ss f (stmts_every B ni ss h) in
    let b : Fewer B f true g = rw e at a in
    omega (arith, b)

pub open_fewer : (ni : ℕ) (ss : List Stmt) (f g : Fixed) → DeclaredStmts max_bools ni ss → constant_prop_stmts ss f ≡ updated true g → open_count g < open_count f
unfolding open_count
open_fewer ni ss f g h e = opens_fewer max_bools ni ss f g h e

-- ---- a pass

module _ (ds : List Domain) (n : ℕ) (f : Fixed) (ss : List Stmt) where
  pub pass_unsatisfiable : constant_prop_stmts (map (constant_folding_stmt ds f) ss) f ≡ unsatisfiable → passes ds (suc n) f ss ≡ inconsistent
  unfolding passes
  pass_unsatisfiable e = rw e refl

  pub pass_settled : (g : Fixed) → constant_prop_stmts (map (constant_folding_stmt ds f) ss) f ≡ updated false g → passes ds (suc n) f ss ≡ settled g (map (constant_folding_stmt ds f) ss)
  unfolding passes
  pass_settled g e = rw e refl

pub pass_again : (ds : List Domain) (n : ℕ) (f : Fixed) (ss : List Stmt) (g : Fixed) → constant_prop_stmts (map (constant_folding_stmt ds f) ss) f ≡ updated true g → passes ds (suc (suc n)) f ss ≡ passes ds (suc n) g ss
unfolding passes
pass_again ds n f ss g e = first ∙ passes_original ds n f g ss (prop_extends (map (constant_folding_stmt ds f) ss) f g true e)
  where
    first : passes ds (suc (suc n)) f ss ≡ passes ds (suc n) g (map (constant_folding_stmt ds f) ss)
    first = rw e refl
