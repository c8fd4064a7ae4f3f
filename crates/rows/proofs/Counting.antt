-- The values of a row, and the rows by their number, counted. Assumes nothing.
use mathlib.Core.Path.{◌≡◌, refl, sym, ap, ◌∙◌}
use mathlib.Core.Bool.{Bool, true, false}
use mathlib.Core.List.{List, [], ◌∷◌}
use Prim.Native.Nat.{ℕ, zero, suc, ◌+◌, ◌-◌, ◌*◌, ◌<◌, ◌≤◌}
use native.Mathlib.Omega.{arith}
use native.Mathlib.Numerals.{add-one}
use lib.IntN.{ℤ, pos}
use lib.ListN.{length, get_or, drop, drop_of_length-le}
use lib.Seq.{drop-cons, drop-drop}
use mir.Syntax.{w32}
use mir.Val.{SFits, of_z, to_z}
use mir.Facts.{to_z-of_z}
use Rattle.laws.specs.Order.{is_eqZ, not_eqZ}
use Rattle.laws.specs.Lists.{keep_if, select}
use Rattle.syntax.specs.Words.{star_word}
use Rattle.tables.specs.Tables.{Row}
use Rattle.sorting.specs.Rows.{rows_of, row_at}
use Rattle.rows.specs.Stars.{is_value, values_in, is_free, is_single, is_longer, count_rows}
use Rattle.sorting.proofs.Sorting.{length_rows, row_is}

-- ---- the values of a row

module _ (r : Row) (i : ℕ) where
  pub values_end : length r ≤ i → values_in (drop i r) ≡ 0
  unfolding values_in
  values_end h = rw (drop_of_length-le r h) refl

  module _ (h : i < length r) (fw : SFits w32 (get_or r i (pos 0))) where
    values_step : values_in (drop i r) ≡ length (keep_if (is_value (get_or r i (pos 0))) (get_or r i (pos 0)) (select is_value (drop (i + 1) r)))
    unfolding values_in
    values_step = rw (drop-cons r i (pos 0) h, add-one i) refl

    pub values_star : of_z w32 (get_or r i (pos 0)) ≡ 2147483648 → values_in (drop i r) ≡ values_in (drop (i + 1) r)
    unfolding values_in
    values_star e = values_step ∙ rw (is_eqZ (get_or r i (pos 0)) star_word (sym (to_z-of_z fw) ∙ ap (to_z w32) e)) refl

    pub values_one : (of_z w32 (get_or r i (pos 0)) ≡ 2147483648 → ⊥) → values_in (drop i r) ≡ suc (values_in (drop (i + 1) r))
    unfolding values_in
    values_one e = values_step ∙ rw (not_eqZ (get_or r i (pos 0)) star_word (λ z. e (ap (of_z w32) z))) refl

-- ---- the rows

module _ (n k at : ℕ) (s : List ℤ) where
  abbrev R : List Row
  R = rows_of n k (drop at s)

  pub counted_start : (f : ℕ → Bool) → 0 ≡ count_rows f (drop k R)
  unfolding count_rows
  counted_start f = let q : length R ≤ k = omega (arith, length_rows n k (drop at s)) in sym (rw (drop_of_length-le R q) refl)

  module _ (j : ℕ) (h : 0 < j) (l : j ≤ k) where
    row_here : drop (j - 1) R ≡ row_at n (at + (j - 1) * n) s ∷ drop j R
    row_here =
        let q : j - 1 < length R = rw (length_rows n k (drop at s)) (omega arith) in
        let z : suc (j - 1) ≡ j = omega arith in
        drop-cons R (j - 1) [] q ∙ rw (row_is n k (drop at s) (j - 1) (omega arith), z, drop-drop ((j - 1) * n) at s) refl

    counted : (f : ℕ → Bool) (t : Bool) → f (values_in (row_at n (at + (j - 1) * n) s)) ≡ t → count_rows f (drop (j - 1) R) ≡ length (keep_if t (row_at n (at + (j - 1) * n) s) (select (λ r. f (values_in r)) (drop j R)))
    unfolding count_rows
    counted f t e = rw (row_here, e) refl

    pub counted_yes : (f : ℕ → Bool) (c m : ℕ) → c ≡ values_in (row_at n (at + (j - 1) * n) s) → f c ≡ true → m ≡ count_rows f (drop j R) → m + 1 ≡ count_rows f (drop (j - 1) R)
    unfolding count_rows
    counted_yes f c m e t q = omega (arith, counted f true (ap f (sym e) ∙ t))

    pub counted_no : (f : ℕ → Bool) (c m : ℕ) → c ≡ values_in (row_at n (at + (j - 1) * n) s) → f c ≡ false → m ≡ count_rows f (drop j R) → m ≡ count_rows f (drop (j - 1) R)
    unfolding count_rows
    counted_no f c m e t q = q ∙ sym (counted f false (ap f (sym e) ∙ t))

-- ---- by the number of values

pub free_not : (c : ℕ) → (c ≡ 0 → ⊥) → is_free c ≡ false
free_not zero h = absurd (h refl)
free_not (suc c) h = refl

pub single_not : (c : ℕ) → (c ≡ 1 → ⊥) → is_single c ≡ false
single_not zero h = refl
single_not (suc zero) h = absurd (h refl)
single_not (suc (suc c)) h = refl

pub longer_is : (c : ℕ) → (c ≡ 0 → ⊥) → (c ≡ 1 → ⊥) → is_longer c ≡ true
longer_is zero h k = absurd (h refl)
longer_is (suc zero) h k = absurd (k refl)
longer_is (suc (suc c)) h k = refl
