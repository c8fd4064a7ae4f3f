-- What the writing of a starred table's rows assumes and leaves.
use Rattle.std.specs.Prelude.{◌≡◌, true, false, List, ℕ, ◌+◌, ◌*◌, ◌≤◌, ◌<◌, ℤ, pos, length, drop}
use Rattle.std.specs.Int.Signed.{le_z}
use Rattle.laws.specs.Slices.{Has}
use Rattle.laws.specs.Writes.{cap}
use Rattle.memory.specs.Places.{limit}
use Rattle.syntax.specs.Words.{max_count}
use Rattle.syntax.specs.Syntax.{Cell}
use Rattle.words.specs.Exact.{Each}
use Rattle.read.specs.WellFormed.{WellRow}
use Rattle.clauses.specs.Log.{Log, next_bool}
use Rattle.tables.specs.Tables.{star_table}
use Rattle.sorting.specs.Columns.{word, EachColumn, vars_of}
use Rattle.rows.specs.Stands.{cells_words}
use Rattle.rows.specs.Emit.{Clauses}
use Rattle.statements.specs.Star.{any_free}

-- k rows of n words at `at`, the columns' words at cols; m: the next Boolean's number
pub record StarRows (work : List ℤ) (at n k cols m : ℕ) : Type 0 where
  pub few : k ≤ max_count
  pub narrow : n ≤ max_count
  pub within : at + k * n ≤ length work
  pub fits : cols + 3 * n ≤ length work
  pub each : EachColumn n (drop cols work)
  pub next : m ≤ limit

-- the clauses of whatever rows stand there, none of stars only, in whatever log has m for its next number
pub record Starred (work : List ℤ) (at n k cols m : ℕ) (out : List ℤ) (o c : ℕ) (out' : List ℤ) (o' c' : ℕ) : Type 0 where
  pub clauses : (rows : List (List Cell)) (s : Log) → Has work at (cells_words rows) → k ≡ length rows → Each (WellRow n) rows
      → any_free (vars_of n (drop cols work)) rows ≡ false
      → next_bool s ≡ m → next_bool (star_table (vars_of n (drop cols work)) rows s).1 ≤ limit
      → Clauses out o c (star_table (vars_of n (drop cols work)) rows s).0 out' o' c'
  pub place : o' ≤ cap
  pub low : c' ≤ o'

-- n words at a and the columns' words at cols, each a number first
pub record RowAt (work : List ℤ) (a n cols : ℕ) : Type 0 where
  pub within : a + n ≤ length work
  pub fits : cols + 3 * n ≤ length work
  pub named : (i : ℕ) → i < n → le_z (pos 0) (word work (cols + 3 * i)) ≡ true

-- k such rows
pub record RowsAt (work : List ℤ) (at n k cols : ℕ) : Type 0 where
  pub few : k ≤ max_count
  pub within : at + k * n ≤ length work
  pub fits : cols + 3 * n ≤ length work
  pub named : (i : ℕ) → i < n → le_z (pos 0) (word work (cols + 3 * i)) ≡ true
