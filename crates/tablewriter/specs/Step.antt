-- What the writing of a table's clauses asks and gives, in terms of the logs before and behind it: the work slice holds the final maps, the numbers by place
-- and the table of the declared domains, as the first walk leaves them (stages/specs/Table).
use Rattle.std.specs.Prelude.{◌≡◌, Bool, List, ℕ, ◌+◌, ◌≤◌, ℤ, length, take, drop}
use Rattle.laws.specs.Slices.{Has}
use Rattle.memory.specs.Places.{table as table-place, limit}
use Rattle.syntax.specs.Words.{max_count, min_work_words}
use Rattle.syntax.specs.Syntax.{Domain, IntExpr, Cell, Table, encode_stmt}
use Rattle.words.specs.Exact.{Each}
use Rattle.read.specs.WellFormed.{WellRow}
use Rattle.clauses.specs.Log.{Log, next_bool}
use Rattle.clauses.proofs.Since.{clauses_since}
use Rattle.tables.specs.Tables.{Columns, equivalent_int_vars, star_table, normalize_extension_supports, normalize_table}
use Rattle.walk.specs.Decode.{read_part}
use Rattle.walk.specs.declared.Counters.{Counters}
use Rattle.walks.specs.Implements.{at, Ready}
use Rattle.walks.specs.SumsFit.{WithinColumns}
use Rattle.declared.specs.DomainTable.{Declares}
use Rattle.declared.specs.InSet.{Declared}
use Rattle.stages.specs.Columns.{PlacedColumns, columns_words, ColumnsStand}
use Rattle.sorting.specs.Columns.{vars_of}
use Rattle.rows.specs.Emit.{Clauses}
use Rattle.stmtwords.specs.Fresh.{RowsStand}
use Rattle.tablewriter.specs.declared.Columned.{Columned}
use Rattle.tablewriter.specs.Describing.{AllTold}

-- a table, the declared domains and the log before it
pub record Place : Type 0 where
  pub domains : List Domain
  pub exprs : List IntExpr
  pub rows : List (List Cell)
  pub before : Log

-- the log behind it; the variables of its columns with the log behind those
abbrev pub after : Place → Log
after x = normalize_table x.domains x.exprs x.rows x.before

abbrev pub columns_of : Place → Columns
columns_of x = equivalent_int_vars x.domains x.exprs x.before

-- it stands at q, and its walk begins with the counters n
pub record At (x : Place) (set w : List ℤ) (q : ℕ) (n : Counters) : Type 0 where
  pub declared : Declared set x.domains
  pub table : Declares x.domains w
  pub ready : Ready w (after x)
  pub placed : PlacedColumns x.domains w (q + 3) x.exprs x.before
  pub parted : ℕ → Bool
  pub with_ifs : Bool
  pub stand : ColumnsStand (read_part w) parted with_ifs x.exprs (q + 3)
  pub stands : Has (read_part w) q (encode_stmt (Table x.exprs x.rows))
  pub within : WithinColumns x.domains x.exprs
  pub told : AllTold x.domains (read_part w) (length x.exprs) (q + 3) w (at w x.before)
  pub well : Each (WellRow (length x.exprs)) x.rows
  pub few : length x.rows ≤ max_count
  pub narrow : length x.exprs ≤ max_count
  pub counters : n ≡ at w x.before
  pub size : min_work_words ≤ length w

pub record SomeAt (set w : List ℤ) (q : ℕ) (n : Counters) : Type 0 where
  pub place : Place
  pub it : At place set w q n

-- its clauses are written behind k others, and the work slice is kept below the table's place
pub record Did (x : Place) (w : List ℤ) (q : ℕ) (out : List ℤ) (o k : ℕ) (w' out' : List ℤ) (r : Columned) : Type 0 where
  pub clauses : Clauses out o k (clauses_since x.before (after x)) out' r.at r.clauses
  pub next : r.next ≡ q + length (encode_stmt (Table x.exprs x.rows))
  pub counters : r.n ≡ at w (after x)
  pub kept : take table-place w' ≡ take table-place w
  pub size : length w' ≡ length w

-- ---- its rows: k of them, each of c cells, from p on; m: the next Boolean's number behind the columns

pub record RowsAt (x : Place) (set w : List ℤ) (q p c k : ℕ) (n : Counters) (m : ℕ) : Type 0 where
  pub at : At x set w q n
  pub width : c ≡ length x.exprs
  pub height : k ≡ length x.rows
  pub cells : p ≡ q + 3 + length (columns_words x.exprs)
  pub bools : m ≡ next_bool (columns_of x).log

pub record SomeRowsAt (set w : List ℤ) (q p c k : ℕ) (n : Counters) (m : ℕ) : Type 0 where
  pub place : Place
  pub it : RowsAt place set w q p c k n m

-- their clauses are written behind j others
pub record RowsDid (x : Place) (w out : List ℤ) (o j : ℕ) (w' out' : List ℤ) (o' j' : ℕ) : Type 0 where
  pub clauses : Clauses out o j (normalize_extension_supports x.domains (columns_of x).vars x.rows (columns_of x).log).0 out' o' j'
  pub kept : take table-place w' ≡ take table-place w
  pub size : length w' ≡ length w

-- the clauses of a starred table, whatever rows stand at p and whatever log has m for its next number; its columns' words are at cols
pub record StarsDid (w : List ℤ) (p c k cols m : ℕ) (out : List ℤ) (o j : ℕ) (out' : List ℤ) (o' j' : ℕ) : Type 0 where
  pub clauses : (rows : List (List Cell)) (z : Log) → RowsStand w p c k rows → next_bool z ≡ m → next_bool (star_table (vars_of c (drop cols w)) rows z).1 ≤ limit
      → Clauses out o j (star_table (vars_of c (drop cols w)) rows z).0 out' o' j'
