-- The rows of a starred table by how many values they have: none, one, or more.
use Rattle.std.specs.Prelude.{Bool, true, false, not, List, ℕ, zero, suc, ℤ, length}
use Rattle.laws.specs.Ints.{eqZ}
use Rattle.laws.specs.Lists.{select}
use Rattle.syntax.specs.Words.{star_word}
use Rattle.tables.specs.Tables.{Row}

abbrev pub is_value : ℤ → Bool
is_value w = not (eqZ w star_word)

unfoldable pub values_in : Row → ℕ
values_in r = length (select is_value r)

-- a row of stars only; of one equality; of more
abbrev pub is_free : ℕ → Bool
is_free zero = true
is_free (suc n) = false

abbrev pub is_single : ℕ → Bool
is_single zero = false
is_single (suc zero) = true
is_single (suc (suc n)) = false

abbrev pub is_longer : ℕ → Bool
is_longer zero = false
is_longer (suc zero) = false
is_longer (suc (suc n)) = true

-- how many rows have such a number of values
unfoldable pub count_rows : (ℕ → Bool) → List Row → ℕ
count_rows f rows = length (select (λ r. f (values_in r)) rows)
