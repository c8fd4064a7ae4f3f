-- A folded statement where it stands among the folded words of the work slice.
use Rattle.std.specs.Prelude.{◌≡◌, List, ℕ, ◌+◌, ℤ, length}
use Rattle.laws.specs.Slices.{Has}
use Rattle.syntax.specs.Syntax.{IntExpr, Cell, Stmt, Rule, Table, AllDifferent, encode_stmt}
use Rattle.words.specs.Exact.{Each}
use Rattle.read.specs.WellFormed.{WellRow}
use Rattle.walk.specs.Decode.{read_part}
use Rattle.stages.specs.StatementsPlaces.{LegalStmt}

-- what reading has of a table's rows
abbrev pub WellRows : Stmt → Type 0
WellRows (Rule e) = Unit {0}
WellRows (Table es rows) = Each (WellRow (length es)) rows
WellRows (AllDifferent es) = Unit {0}

pub record Stands (w : List ℤ) (at : ℕ) (t : Stmt) : Type 0 where
  pub words : Has (read_part w) at (encode_stmt t)
  pub legal : LegalStmt t
  pub rows : WellRows t

-- what a function is lent: some statement stands there
pub record SomeStmt (w : List ℤ) (at : ℕ) : Type 0 where
  pub stmt : Stmt
  pub stands : Stands w at stmt

pub record SomeTable (w : List ℤ) (at : ℕ) : Type 0 where
  pub columns : List IntExpr
  pub cells : List (List Cell)
  pub stands : Stands w at (Table columns cells)

pub record SomeDifferent (w : List ℤ) (at : ℕ) : Type 0 where
  pub exprs : List IntExpr
  pub stands : Stands w at (AllDifferent exprs)

-- r: where whatever statement stands there ends
abbrev pub StmtEnds : List ℤ → ℕ → ℕ → Type 0
StmtEnds w at r = (t : Stmt) → Stands w at t → r ≡ at + length (encode_stmt t)

-- where whatever table stands there ends
abbrev pub TableEnds : List ℤ → ℕ → ℕ → Type 0
TableEnds w at r = (es : List IntExpr) (rows : List (List Cell)) → Stands w at (Table es rows) → r ≡ at + length (encode_stmt (Table es rows))
