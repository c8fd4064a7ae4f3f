-- The words of a starred table's clauses, by the words of its rows; and clauses' words written one after another and counted.
use Rattle.std.specs.Prelude.{◌≡◌, cond, List, [], ◌∷◌, ◌++◌, map, ℕ, ◌+◌, ◌≤◌, ◌<◌, ℤ, pos, length}
use Rattle.laws.specs.Lists.{keep_if, flat}
use Rattle.laws.specs.Writes.{cap, Wrote}
use Rattle.clauses.specs.Clause.{LinearLit}
use Rattle.answer.specs.Answer.{linear_words}
use Rattle.tables.specs.Tables.{Row, linear_eq}
use Rattle.walk.specs.Item.{extra, block, mode_in}
use Rattle.walk.specs.declared.Mode.{Mode}
use Rattle.walk.specs.declared.Mode.TheVariants.{Pool, One, Two, Each}
use Rattle.rows.specs.Emit.{linears_words}
use Rattle.rows.specs.Stars.{is_value, values_in, is_single, is_longer, count_rows}

-- the equalities of a row; vs: the columns' variables
unfoldable pub row_linears : List ℕ → Row → List LinearLit
row_linears [] r = []
row_linears (v ∷ vs) [] = []
row_linears (v ∷ vs) (x ∷ r) = keep_if (is_value x) (linear_eq v x) (row_linears vs r)

-- literals' words with their count in front
abbrev pub counted_lits : List ℤ → List ℤ
counted_lits ls = pos (length ls) ∷ ls

-- the clause of an equality, with the literals' words ls
abbrev pub equality : List ℤ → LinearLit → List ℤ
equality ls k = counted_lits ls ++ (pos 1 ∷ linear_words k)

abbrev pub row_lines : List ℤ → List ℕ → Row → List (List ℤ)
row_lines ls vs r = map (equality ls) (row_linears vs r)

-- the clauses of the longer rows, j of them being past; m: the next Boolean's number
unfoldable pub long_lines : Mode → ℕ → List ℕ → List Row → ℕ → List (List ℤ)
long_lines o m vs [] j = []
long_lines o m vs (r ∷ rs) j = cond (is_longer (values_in r)) (row_lines (extra o m [] j) vs r ++ long_lines o m vs rs (j + 1)) (long_lines o m vs rs j)

-- the equalities of the rows that have one each
unfoldable pub single_linears : List ℕ → List Row → List LinearLit
single_linears vs [] = []
single_linears vs (r ∷ rs) = cond (is_single (values_in r)) (row_linears vs r ++ single_linears vs rs) (single_linears vs rs)

-- the pool's clause: the numbers of x longer rows, y equalities
abbrev pub pool_line : ℕ → ℕ → ℕ → List LinearLit → List ℤ
pool_line m x y ks = pos x ∷ block m x ++ (pos y ∷ linears_words ks)

abbrev pub pool_lines : Mode → List ℤ → List (List ℤ)
pool_lines Pool l = l ∷ []
pool_lines One l = []
pool_lines Two l = []
pool_lines Each l = l ∷ []

abbrev pub lines_in_mode : Mode → ℕ → ℕ → ℕ → List ℕ → List Row → List (List ℤ)
lines_in_mode o m x y vs rs = long_lines o m vs rs 0 ++ pool_lines o (pool_line m x y (single_linears vs rs))

unfoldable pub star_lines : ℕ → List ℕ → List Row → List (List ℤ)
star_lines m vs rs = lines_in_mode (mode_in (count_rows is_longer rs) 0 (count_rows is_single rs)) m (count_rows is_longer rs) (count_rows is_single rs) vs rs

-- from o on, behind c clauses, the words of clauses. The count is exact where the answer is not too long
pub record Lines (out : List ℤ) (o c : ℕ) (ts : List (List ℤ)) (out' : List ℤ) (o' c' : ℕ) : Type 0 where
  pub words : Wrote out o (flat ts) out' o'
  pub count : o' < cap → c' ≡ c + length ts
  pub low : c' ≤ o'
