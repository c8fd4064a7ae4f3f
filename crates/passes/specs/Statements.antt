-- Statements: what is asked of their parts, their words, and what folding and requiring them ask and give.
use Rattle.std.specs.Prelude.{ℕ, ◌+◌, ◌≤◌, ◌<◌, ◌≡◌, List, [], ◌∷◌, map, ℤ, length, drop}
use Rattle.laws.specs.Lists.{flat}
use Rattle.laws.specs.Slices.{Has, Pushed}
use Rattle.syntax.specs.Words.{max_bools}
use Rattle.syntax.specs.Syntax.{Domain, IntExpr, Stmt, Rule, Table, AllDifferent, encode_int, encode_stmt}
use Rattle.syntax.specs.Lengths.{Wide}
use Rattle.syntax.specs.Written.{EveryColumnOf, None}
use Rattle.fold.specs.Fold.{Fixed, constant_folding_int, constant_folding_stmt}
use Rattle.fold.specs.Optimize.{constant_prop_stmts}
use Rattle.fold.proofs.Ahead.{prop_stmt}
use Rattle.fold.proofs.Forms.{Declared}
use Rattle.domains.specs.Declared.{Domains}
use Rattle.folding.specs.Steps.{fixed_in}
use Rattle.passes.specs.Want.{Values, Propagates}

-- ---- declared, and every row as wide as its table

abbrev pub DeclaredColumns : ℕ → ℕ → List IntExpr → Type 0
DeclaredColumns nb ni es = EveryColumnOf None (λ v. v < nb) (λ v. v < ni) es

unfoldable pub DeclaredStmt : ℕ → ℕ → Stmt → Type 0
DeclaredStmt nb ni (Rule e) = Declared nb ni e
DeclaredStmt nb ni (Table es rows) = DeclaredColumns nb ni es × Wide (length es) rows
DeclaredStmt nb ni (AllDifferent es) = DeclaredColumns nb ni es

unfoldable pub DeclaredStmts : ℕ → ℕ → List Stmt → Type 0
DeclaredStmts nb ni [] = Unit {0}
DeclaredStmts nb ni (s ∷ ss) = DeclaredStmt nb ni s × DeclaredStmts nb ni ss

-- ---- columns

pub record ReadsColumns (ni : ℕ) (ws : List ℤ) (at n : ℕ) (es : List IntExpr) : Type 0 where
  pub words : Has ws at (flat (map encode_int es))
  pub vars : DeclaredColumns max_bools ni es
  pub size : n ≡ length es

pub record ReadyColumns (ws : List ℤ) (d at n : ℕ) (out : List ℤ) (o : ℕ) : Type 0 where
  pub ds : List Domain
  pub domains : Domains ws d ds
  pub them : List IntExpr
  pub reads : ReadsColumns (length ds) ws at n them
  pub low : max_bools ≤ o
  pub room : o + length (flat (map encode_int them)) ≤ length out

pub record FoldsColumns (ds : List Domain) (out : List ℤ) (at o : ℕ) (es : List IntExpr) (out' : List ℤ) (next end : ℕ) : Type 0 where
  pub nexts : next ≡ at + length (flat (map encode_int es))
  pub pushed : Pushed out o (flat (map encode_int (map (constant_folding_int ds (fixed_in out)) es))) out' end
  pub above : drop (o + length (flat (map encode_int es))) out' ≡ drop (o + length (flat (map encode_int es))) out

abbrev pub ColumnsPost : List ℤ → ℕ → ℕ → ℕ → List ℤ → ℕ → List ℤ → ℕ → ℕ → Type 0
ColumnsPost ws d at n out o out' next end = (ds : List Domain) (es : List IntExpr) → Domains ws d ds → ReadsColumns (length ds) ws at n es → FoldsColumns ds out at o es out' next end

-- ---- statements

pub record ReadsStmt (ni : ℕ) (ws : List ℤ) (at : ℕ) (s : Stmt) : Type 0 where
  pub words : Has ws at (encode_stmt s)
  pub vars : DeclaredStmt max_bools ni s

pub record ReadsStmts (ni : ℕ) (ws : List ℤ) (at n : ℕ) (ss : List Stmt) : Type 0 where
  pub words : Has ws at (flat (map encode_stmt ss))
  pub vars : DeclaredStmts max_bools ni ss
  pub size : n ≡ length ss

pub record ReadyStmt (ws : List ℤ) (d at : ℕ) (out : List ℤ) (o : ℕ) : Type 0 where
  pub ds : List Domain
  pub domains : Domains ws d ds
  pub it : Stmt
  pub reads : ReadsStmt (length ds) ws at it
  pub low : max_bools ≤ o
  pub room : o + length (encode_stmt it) ≤ length out

pub record ReadyStmts (ws : List ℤ) (d at n : ℕ) (out : List ℤ) (o : ℕ) : Type 0 where
  pub ds : List Domain
  pub domains : Domains ws d ds
  pub them : List Stmt
  pub reads : ReadsStmts (length ds) ws at n them
  pub low : max_bools ≤ o
  pub room : o + length (flat (map encode_stmt them)) ≤ length out

pub record FoldsStmt (ds : List Domain) (out : List ℤ) (at o : ℕ) (s : Stmt) (out' : List ℤ) (next end : ℕ) : Type 0 where
  pub nexts : next ≡ at + length (encode_stmt s)
  pub pushed : Pushed out o (encode_stmt (constant_folding_stmt ds (fixed_in out) s)) out' end
  pub above : drop (o + length (encode_stmt s)) out' ≡ drop (o + length (encode_stmt s)) out

pub record FoldsStmts (ds : List Domain) (out : List ℤ) (at o : ℕ) (ss : List Stmt) (out' : List ℤ) (next end : ℕ) : Type 0 where
  pub nexts : next ≡ at + length (flat (map encode_stmt ss))
  pub pushed : Pushed out o (flat (map encode_stmt (map (constant_folding_stmt ds (fixed_in out)) ss))) out' end
  pub above : drop (o + length (flat (map encode_stmt ss))) out' ≡ drop (o + length (flat (map encode_stmt ss))) out

abbrev pub StmtPost : List ℤ → ℕ → ℕ → List ℤ → ℕ → List ℤ → ℕ → ℕ → Type 0
StmtPost ws d at out o out' next end = (ds : List Domain) (s : Stmt) → Domains ws d ds → ReadsStmt (length ds) ws at s → FoldsStmt ds out at o s out' next end

abbrev pub StmtsPost : List ℤ → ℕ → ℕ → ℕ → List ℤ → ℕ → List ℤ → ℕ → ℕ → Type 0
StmtsPost ws d at n out o out' next end = (ds : List Domain) (ss : List Stmt) → Domains ws d ds → ReadsStmts (length ds) ws at n ss → FoldsStmts ds out at o ss out' next end

-- ---- requiring

pub record StandsStmt (out : List ℤ) (at : ℕ) : Type 0 where
  pub fixed : Fixed
  pub values : Values out fixed
  pub ints : ℕ
  pub it : Stmt
  pub reads : ReadsStmt ints out at it
  pub low : max_bools ≤ at

pub record StandStmts (out : List ℤ) (at n : ℕ) : Type 0 where
  pub fixed : Fixed
  pub values : Values out fixed
  pub ints : ℕ
  pub them : List Stmt
  pub reads : ReadsStmts ints out at n them
  pub low : max_bools ≤ at

pub record RequiresStmt (f : Fixed) (s : Stmt) (out : List ℤ) (at : ℕ) (out' : List ℤ) (next status : ℕ) : Type 0 where
  pub nexts : next ≡ at + length (encode_stmt s)
  pub props : Propagates (prop_stmt s f) out out' status

abbrev pub PropStmtPost : List ℤ → ℕ → List ℤ → ℕ → ℕ → Type 0
PropStmtPost out at out' next status = (ni : ℕ) (f : Fixed) (s : Stmt) → Values out f → ReadsStmt ni out at s → max_bools ≤ at → RequiresStmt f s out at out' next status

abbrev pub PropStmtsPost : List ℤ → ℕ → ℕ → List ℤ → ℕ → Type 0
PropStmtsPost out at n out' status = (ni : ℕ) (f : Fixed) (ss : List Stmt) → Values out f → ReadsStmts ni out at n ss → max_bools ≤ at → Propagates (constant_prop_stmts ss f) out out' status

-- ---- passing over columns and statements

abbrev pub SkipColumnsPost : List ℤ → ℕ → ℕ → ℕ → Type 0
SkipColumnsPost ws at n r = (ni : ℕ) (es : List IntExpr) → ReadsColumns ni ws at n es → r ≡ at + length (flat (map encode_int es))

pub record SomeColumns (ws : List ℤ) (at n : ℕ) : Type 0 where
  pub ints : ℕ
  pub them : List IntExpr
  pub reads : ReadsColumns ints ws at n them

abbrev pub SkipStmtPost : List ℤ → ℕ → ℕ → Type 0
SkipStmtPost ws at r = (ni : ℕ) (s : Stmt) → ReadsStmt ni ws at s → r ≡ at + length (encode_stmt s)
