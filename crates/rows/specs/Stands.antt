-- A table's cells as words: what stands as the words of cells is the rows of their values, has no star's word but the stars, and is starless without stars.
-- Cells are taken to hold values, as reading has it.
use Rattle.std.specs.Prelude.{◌≡◌, refl, Bool, true, false, not, List, [], ◌∷◌, map, ℕ, suc, ◌+◌, ◌*◌, ℤ, pos, negsuc, nat_abs, leb, length, take, drop}
use Rattle.std.proofs.Common.{sym, ap, ◌∙◌, arith, suc-mul, zero-mul, length-append, drop-drop, leb-true, lt-ltb, ne_eqb}
use Rattle.std.specs.Int.Signed.{lt_z}
use Rattle.std.proofs.lemmas.List.{length-map}
use Rattle.laws.specs.Bools.{never, and_l, and_r, and_i, or_no_l, or_no_r}
use Rattle.laws.specs.Ints.{eqZ}
use Rattle.laws.specs.Order.{eqZ_refl}
use Rattle.laws.specs.Lists.{any, all, keep_if, select, flat, any_append, all_append}
use Rattle.laws.specs.Slices.{Has, has_front, has_back}
use Rattle.syntax.specs.Words.{max_value, star_word}
use Rattle.syntax.specs.Syntax.{Cell, star, value, encode_cell}
use Rattle.syntax.specs.Lengths.{Wide}
use Rattle.tables.specs.Tables.{is_star, cell_value}
use Rattle.tables.proofs.Agree.{wide, wide_is}
use Rattle.sorting.specs.Rows.{rows_of}
use Rattle.rows.specs.Emit.{Starless}
use Rattle.rows.specs.Stars.{values_in}

-- a value, as reading has it
abbrev pub small : Cell → Bool
small star = true
small (value x) = leb (nat_abs x) max_value

abbrev pub cells_words : List (List Cell) → List ℤ
cells_words rows = flat (map (map encode_cell) rows)

pub length_cells : (n : ℕ) (rows : List (List Cell)) → all (wide n) rows ≡ true → length (cells_words rows) ≡ length rows * n
length_cells n [] h = sym (zero-mul n)
length_cells n (cs ∷ rows) h =
    let e = suc-mul (length rows) n in
    let q = wide_is n cs (and_l (wide n cs) (all (wide n) rows) h) in
    length-append (map encode_cell cs) (cells_words rows) ∙ omega (arith, length-map cs encode_cell, length_cells n rows (and_r (wide n cs) (all (wide n) rows) h))

-- ---- the rows

plain_row : (cs : List Cell) → any is_star cs ≡ false → map encode_cell cs ≡ map cell_value cs
plain_row [] h = refl
plain_row (star ∷ cs) h = never (sym h)
plain_row (value x ∷ cs) h = ap (λ (l : List ℤ). x ∷ l) (plain_row cs h)

pub rows_stand : (n : ℕ) (ws : List ℤ) (at : ℕ) (rows : List (List Cell)) → Has ws at (cells_words rows) → all (wide n) rows ≡ true → any (any is_star) rows ≡ false → rows_of n (length rows) (drop at ws) ≡ map (map cell_value) rows
unfolding rows_of
rows_stand n ws at [] h w s = refl
rows_stand n ws at (cs ∷ rows) h w s =
    let l : length (map encode_cell cs) ≡ n = length-map cs encode_cell ∙ wide_is n cs (and_l (wide n cs) (all (wide n) rows) w) in
    let a : take n (drop at ws) ≡ map cell_value cs = ap (λ (m : ℕ). take m (drop at ws)) (sym l) ∙ has_front ws at (map encode_cell cs) (cells_words rows) h ∙ plain_row cs (or_no_l (any is_star cs) (any (any is_star) rows) s) in
    let b : rows_of n (length rows) (drop (at + n) ws) ≡ map (map cell_value) rows = rows_stand n ws (at + n) rows (ap (λ (m : ℕ). take (length (cells_words rows)) (drop (at + m) ws)) (sym l) ∙ has_back ws at (map encode_cell cs) (cells_words rows) h) (and_r (wide n cs) (all (wide n) rows) w) (or_no_r (any is_star cs) (any (any is_star) rows) s) in
    rw (a, drop-drop n at ws, b) refl

pub cells_stand : (ws : List ℤ) (at n : ℕ) (rows : List (List Cell)) → Has ws at (cells_words rows) → Wide n rows → rows_of n (length rows) (drop at ws) ≡ map (map encode_cell) rows
unfolding rows_of Wide
cells_stand ws at n [] h w = refl
cells_stand ws at n (cs ∷ rows) h w =
    let l : length (map encode_cell cs) ≡ n = length-map cs encode_cell ∙ w.0 in
    let a : take n (drop at ws) ≡ map encode_cell cs = ap (λ (m : ℕ). take m (drop at ws)) (sym l) ∙ has_front ws at (map encode_cell cs) (cells_words rows) h in
    let b : rows_of n (length rows) (drop (at + n) ws) ≡ map (map encode_cell) rows = cells_stand ws (at + n) n rows (ap (λ (m : ℕ). take (length (cells_words rows)) (drop (at + m) ws)) (sym l) ∙ has_back ws at (map encode_cell cs) (cells_words rows) h) w.1 in
    rw (a, drop-drop n at ws, b) refl

-- ---- the stars

star_cell : (c : Cell) → small c ≡ true → eqZ (encode_cell c) star_word ≡ is_star c
star_cell star h = eqZ_refl star_word
star_cell (value (pos m)) h = refl
star_cell (value (negsuc m)) h = ne_eqb m 2147483647 (λ e. omega (arith, leb-true (suc m) max_value h))

star_row : (cs : List Cell) → all small cs ≡ true → any (λ w. eqZ w star_word) (map encode_cell cs) ≡ any is_star cs
star_row [] h = refl
star_row (c ∷ cs) h = rw (star_cell c (and_l (small c) (all small cs) h), star_row cs (and_r (small c) (all small cs) h)) refl

pub stars_stand : (rows : List (List Cell)) → all (all small) rows ≡ true → any (λ w. eqZ w star_word) (cells_words rows) ≡ any (any is_star) rows
stars_stand [] h = refl
stars_stand (cs ∷ rows) h =
    any_append (λ w. eqZ w star_word) (map encode_cell cs) (cells_words rows)
    ∙ rw (star_row cs (and_l (all small cs) (all (all small) rows) h), stars_stand rows (and_r (all small cs) (all (all small) rows) h)) refl

above_star : (x : ℤ) → leb (nat_abs x) max_value ≡ true → lt_z star_word x ≡ true
above_star (pos m) h = refl
above_star (negsuc m) h = lt-ltb m 2147483647 (omega (arith, leb-true (suc m) max_value h))

starless_row : (cs : List Cell) → all small cs ≡ true → any is_star cs ≡ false → all (lt_z star_word) (map encode_cell cs) ≡ true
starless_row [] h s = refl
starless_row (star ∷ cs) h s = never (sym s)
starless_row (value x ∷ cs) h s = and_i (lt_z star_word x) _ (above_star x (and_l (small (value x)) (all small cs) h)) (starless_row cs (and_r (small (value x)) (all small cs) h) s)

pub starless_stand : (rows : List (List Cell)) → all (all small) rows ≡ true → any (any is_star) rows ≡ false → Starless (cells_words rows)
starless_stand [] h s = refl
starless_stand (cs ∷ rows) h s =
    all_append (lt_z star_word) (map encode_cell cs) (cells_words rows)
    ∙ and_i (all (lt_z star_word) (map encode_cell cs)) _ (starless_row cs (and_l (all small cs) (all (all small) rows) h) (or_no_l (any is_star cs) (any (any is_star) rows) s)) (starless_stand rows (and_r (all small cs) (all (all small) rows) h) (or_no_r (any is_star cs) (any (any is_star) rows) s))

-- ---- how many values a row has

pub values_stand : (cs : List Cell) → all small cs ≡ true → values_in (map encode_cell cs) ≡ length (select (λ c. not (is_star c)) cs)
unfolding values_in
values_stand [] h = refl
values_stand (c ∷ cs) h = go (is_star c) (star_cell c (and_l (small c) (all small cs) h)) (values_stand cs (and_r (small c) (all small cs) h))
  where
    go : (t : Bool) → eqZ (encode_cell c) star_word ≡ t → values_in (map encode_cell cs) ≡ length (select (λ c. not (is_star c)) cs) → values_in (map encode_cell (c ∷ cs)) ≡ length (keep_if (not t) c (select (λ c. not (is_star c)) cs))
    go true e q = rw e q
    go false e q = rw e (ap suc q)
