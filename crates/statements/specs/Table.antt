-- How many new numbers a table takes, by the count of equalities of each of its rows.
use Rattle.std.specs.Prelude.{◌≡◌, refl, Bool, true, false, cond, List, [], ◌∷◌, ℕ, zero, suc, ◌+◌, length}
use Rattle.laws.specs.Lists.{any, any_cong}
use Rattle.syntax.specs.Syntax.{Cell, star, value}
use Rattle.tables.specs.Tables.{is_star}
use Rattle.walk.specs.Item.{mode_in, fresh_in}
use Rattle.statements.specs.Star.{no_equality, any_free}

abbrev pub values : ℕ → List Cell → ℕ
values zero cs = 0
values (suc n) [] = 0
values (suc n) (star ∷ cs) = values n cs
values (suc n) (value x ∷ cs) = suc (values n cs)

-- whether a row has two equalities or more, or just one
abbrev pub is_long : ℕ → ℕ
is_long zero = 0
is_long (suc zero) = 0
is_long (suc (suc m)) = 1

abbrev pub is_one : ℕ → ℕ
is_one zero = 0
is_one (suc zero) = 1
is_one (suc (suc m)) = 0

unfoldable pub long_rows : ℕ → List (List Cell) → ℕ
long_rows n [] = 0
long_rows n (cs ∷ rows) = is_long (values n cs) + long_rows n rows

unfoldable pub single_rows : ℕ → List (List Cell) → ℕ
single_rows n [] = 0
single_rows n (cs ∷ rows) = is_one (values n cs) + single_rows n rows

unfoldable pub star_fresh : ℕ → List (List Cell) → ℕ
star_fresh n rows = fresh_in (mode_in (long_rows n rows) 0 (single_rows n rows)) (long_rows n rows)

abbrev is_zero : ℕ → Bool
is_zero zero = true
is_zero (suc n) = false

-- a row of stars only, by the count of columns
abbrev pub free_rows : ℕ → List (List Cell) → Bool
free_rows n rows = any (λ cs. is_zero (values n cs)) rows

free_row : (vs : List ℕ) (cs : List Cell) → is_zero (values (length vs) cs) ≡ no_equality vs cs
free_row [] cs = refl
free_row (v ∷ vs) [] = refl
free_row (v ∷ vs) (star ∷ cs) = free_row vs cs
free_row (v ∷ vs) (value x ∷ cs) = refl

pub free_is : (vs : List ℕ) (rows : List (List Cell)) → free_rows (length vs) rows ≡ any_free vs rows
free_is vs rows = any_cong (λ cs. is_zero (values (length vs) cs)) (no_equality vs) rows (free_row vs)

abbrev pub starred : List (List Cell) → Bool
starred rows = any (any is_star) rows

-- the new Boolean numbers of a table of n columns
unfoldable pub table_fresh : ℕ → List (List Cell) → ℕ
table_fresh n rows = cond (starred rows) (cond (free_rows n rows) 0 (star_fresh n rows)) 0
