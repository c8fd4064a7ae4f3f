-- The new Boolean numbers of a table, from the counts of its rows' words. Cells are taken to hold values, as reading has it.
use Rattle.std.specs.Prelude.{◌≡◌, Bool, not, ◌||◌, cond, ℕ, zero, suc, ◌+◌, ◌*◌, ℤ, nat_abs, leb, length, drop}
use Rattle.std.proofs.Math.Path.{refl, sym, ap}
use Rattle.std.proofs.Common.{◌∙◌, arith, le-leb}
use Rattle.std.proofs.Math.Bool.{true, false}
use mathlib.Core.List.{List, [], ◌∷◌, map}
use Rattle.laws.specs.Bools.{and_i}
use Rattle.laws.specs.Ints.{eqZ}
use Rattle.laws.specs.Lists.{any, all, keep_if, select}
use Rattle.laws.specs.Slices.{Has}
use Rattle.syntax.specs.Words.{max_value, star_word}
use Rattle.syntax.specs.Syntax.{Cell, star, value, encode_cell}
use Rattle.words.specs.Exact.{Each}
use Rattle.read.specs.WellFormed.{WellCell, WellRow}
use Rattle.read.proofs.Vars.{rows_wide as rows-of-width}
use Rattle.tables.specs.Tables.{Row, is_star}
use Rattle.sorting.specs.Rows.{rows_of, row_at}
use Rattle.rows.specs.Stars.{values_in, is_free, is_single, is_longer, count_rows}
use Rattle.rows.specs.Stands.{small, cells_words, length_cells, cells_stand, stars_stand, values_stand}
use Rattle.walk.specs.Item.{mode_in, fresh_in}
use Rattle.statements.specs.Table.{values, is_long, is_one, long_rows, single_rows, star_fresh, free_rows, starred, table_fresh}
use Rattle.call.specs.WellRead.{rows_wide}

-- k rows of n cells stand at a place of the work slice
pub record RowsStand (w : List ℤ) (at n k : ℕ) (rows : List (List Cell)) : Type 0 where
  pub stands : Has w at (cells_words rows)
  pub count : k ≡ length rows
  pub well : Each (WellRow n) rows

-- r: the new Boolean numbers of whatever rows stand there
abbrev pub Freshens : List ℤ → ℕ → ℕ → ℕ → ℕ → Type 0
Freshens w at n k r = (rows : List (List Cell)) → RowsStand w at n k rows → r ≡ table_fresh n rows

-- ---- well-formed rows by tests

well_cells : (cs : List Cell) → Each WellCell cs → all small cs ≡ true
well_cells [] h = refl
well_cells (star ∷ cs) h = well_cells cs h.1
well_cells (value x ∷ cs) h = and_i (leb (nat_abs x) max_value) (all small cs) (le-leb (nat_abs x) max_value h.0) (well_cells cs h.1)

pub rows_small : (n : ℕ) (rows : List (List Cell)) → Each (WellRow n) rows → all (all small) rows ≡ true
rows_small n [] h = refl
rows_small n (cs ∷ rows) h = and_i (all small cs) (all (all small) rows) (well_cells cs h.0.1) (rows_small n rows h.1)

-- ---- their counts

select_values : (n : ℕ) (cs : List Cell) → length cs ≡ n → length (select (λ c. not (is_star c)) cs) ≡ values n cs
select_values zero [] h = refl
select_values (suc n) [] h = refl
select_values zero (c ∷ cs) h = absurd (omega (arith, h))
select_values (suc n) (star ∷ cs) h = select_values n cs (omega (arith, h))
select_values (suc n) (value x ∷ cs) h = ap suc (select_values n cs (omega (arith, h)))

row_values : (n : ℕ) (cs : List Cell) → WellRow n cs → values_in (map encode_cell cs) ≡ values n cs
row_values n cs h = values_stand cs (well_cells cs h.1) ∙ select_values n cs h.0

-- one row more
count_step : (f : ℕ → Bool) (r : Row) (rs : List Row) → count_rows f (r ∷ rs) ≡ cond (f (values_in r)) (suc (count_rows f rs)) (count_rows f rs)
unfolding count_rows
count_step f r rs = go (f (values_in r))
  where
    go : (t : Bool) → length (keep_if t r (select (λ x. f (values_in x)) rs)) ≡ cond t (suc (length (select (λ x. f (values_in x)) rs))) (length (select (λ x. f (values_in x)) rs))
    go true = refl
    go false = refl

-- whether a count is not 0
abbrev pub some_of : ℕ → Bool
some_of zero = false
some_of (suc m) = true

module _ (n : ℕ) where
  long_step : (m x : ℕ) → cond (is_longer m) (suc x) x ≡ is_long m + x
  long_step zero x = omega arith
  long_step (suc zero) x = omega arith
  long_step (suc (suc m)) x = omega arith

  longer_count : (rows : List (List Cell)) → Each (WellRow n) rows → count_rows is_longer (map (map encode_cell) rows) ≡ long_rows n rows
  unfolding long_rows
  longer_count [] h = unfold count_rows in refl
  longer_count (cs ∷ rows) h = count_step is_longer (map encode_cell cs) (map (map encode_cell) rows) ∙ rw (row_values n cs h.0, longer_count rows h.1) (long_step (values n cs) (long_rows n rows))

  one_step : (m x : ℕ) → cond (is_single m) (suc x) x ≡ is_one m + x
  one_step zero x = omega arith
  one_step (suc zero) x = omega arith
  one_step (suc (suc m)) x = omega arith

  single_count : (rows : List (List Cell)) → Each (WellRow n) rows → count_rows is_single (map (map encode_cell) rows) ≡ single_rows n rows
  unfolding single_rows
  single_count [] h = unfold count_rows in refl
  single_count (cs ∷ rows) h = count_step is_single (map encode_cell cs) (map (map encode_cell) rows) ∙ rw (row_values n cs h.0, single_count rows h.1) (one_step (values n cs) (single_rows n rows))

  free_step : (m x : ℕ) → some_of (cond (is_free m) (suc x) x) ≡ is_free m || some_of x
  free_step zero x = refl
  free_step (suc m) x = refl

  pub free_count : (rows : List (List Cell)) → Each (WellRow n) rows → some_of (count_rows is_free (map (map encode_cell) rows)) ≡ free_rows n rows
  free_count [] h = unfold count_rows in refl
  free_count (cs ∷ rows) h =
      ap some_of (count_step is_free (map encode_cell cs) (map (map encode_cell) rows))
      ∙ rw (row_values n cs h.0) (free_step (values n cs) _ ∙ rw (free_count rows h.1) refl)

-- ---- the table's new numbers

pub some_not : (m : ℕ) → (m ≡ 0 → ⊥) → some_of m ≡ true
some_not zero h = absurd (h refl)
some_not (suc m) h = refl

module _ (w : List ℤ) (at n k : ℕ) (rows : List (List Cell)) (h : RowsStand w at n k rows) where
  pub stars_are : any (λ x. eqZ x star_word) (row_at (k * n) at w) ≡ starred rows
  stars_are =
      let l : k * n ≡ length (cells_words rows) = sym (length_cells n rows (rows_wide n rows h.well) ∙ ap (λ (m : ℕ). m * n) (sym h.count)) in
      ap (λ (m : ℕ). any (λ x. eqZ x star_word) (row_at m at w)) l ∙ ap (any (λ x. eqZ x star_word)) h.stands ∙ stars_stand rows (rows_small n rows h.well)

  rows_are : rows_of n k (drop at w) ≡ map (map encode_cell) rows
  rows_are = ap (λ (m : ℕ). rows_of n m (drop at w)) h.count ∙ cells_stand w at n rows h.stands (rows-of-width n rows h.well)

  pub counts_are : (f : ℕ → Bool) (m : ℕ) → m ≡ count_rows f (rows_of n k (drop at w)) → m ≡ count_rows f (map (map encode_cell) rows)
  counts_are f m e = e ∙ ap (count_rows f) rows_are

  -- without a star; with a row of stars only; else
  pub fresh_plain : false ≡ any (λ x. eqZ x star_word) (row_at (k * n) at w) → 0 ≡ table_fresh n rows
  unfolding table_fresh
  fresh_plain e = let s : starred rows ≡ false = sym (e ∙ stars_are) in rw s refl

  pub fresh_free : (m : ℕ) → true ≡ any (λ x. eqZ x star_word) (row_at (k * n) at w) → m ≡ count_rows is_free (rows_of n k (drop at w)) → (m ≡ 0 → ⊥) → 0 ≡ table_fresh n rows
  unfolding table_fresh
  fresh_free m e hm z =
      let s : starred rows ≡ true = sym (e ∙ stars_are) in
      let f : free_rows n rows ≡ true = sym (free_count n rows h.well) ∙ ap some_of (sym (counts_are is_free m hm)) ∙ some_not m z in
      rw (s, f) refl

  pub fresh_starred : (m a b r : ℕ) → true ≡ any (λ x. eqZ x star_word) (row_at (k * n) at w) → m ≡ count_rows is_free (rows_of n k (drop at w)) → m ≡ 0 → a ≡ count_rows is_longer (rows_of n k (drop at w)) → b ≡ count_rows is_single (rows_of n k (drop at w))
      → r ≡ fresh_in (mode_in a 0 b) a → r ≡ table_fresh n rows
  unfolding table_fresh star_fresh
  fresh_starred m a b r e hm z ha hb hr =
      let s : starred rows ≡ true = sym (e ∙ stars_are) in
      let f : free_rows n rows ≡ false = sym (free_count n rows h.well) ∙ ap some_of (sym (counts_are is_free m hm) ∙ z) in
      let x : a ≡ long_rows n rows = counts_are is_longer a ha ∙ longer_count n rows h.well in
      let y : b ≡ single_rows n rows = counts_are is_single b hb ∙ single_count n rows h.well in
      rw (hr, s, f, x, y) refl
