-- What the columns' values and the rows ask and give at each step, over variables. Assumes nothing.
use Prim.Native.Nat.{ℕ, suc, ◌+◌, ◌-◌, ◌≤◌, ◌<◌}
use mathlib.Core.Path.{◌≡◌, refl, sym, ap, ◌∙◌}
use mathlib.Core.Bool.{Bool, true, false, ◌||◌}
use mathlib.Core.List.{List, [], ◌∷◌, map}
use native.Mathlib.Omega.{arith}
use native.Mathlib.Numerals.{add-one}
use lib.IntN.{ℤ, pos, nat_abs}
use lib.ListN.{length, get_or, set, length-append, length-set, length-map}
use Rattle.laws.specs.Bools.{or_no_l, or_no_r}
use Rattle.laws.specs.Lists.{flat}
use Rattle.laws.specs.Order.{not_eqZ}
use Rattle.laws.specs.Slices.{has_fits, has_front, has_back, has_word, has_rest}
use Rattle.syntax.specs.Words.{star_word}
use Rattle.syntax.specs.Syntax.{Domain, IntExpr, encode_int, Cell, star, value, encode_cell}
use Rattle.syntax.specs.Satisfies.{permits}
use Rattle.syntax.specs.Written.{EveryColumnOf}
use Rattle.read.specs.WellFormed.{WellCell}
use Rattle.limits.specs.Limits.{heavy}
use Rattle.evaluate.specs.Contract.{heavy_inside, IntAt, ReadyInt, IntPost, ColumnsAt, ReadyColumns, ColumnsPost, ValuesAt, RowStandsAt, RowsStandAt, ReadyRow, ReadyRows, word_permits, row_permits, RowPost, RowsPost}

-- ---- `column_values`

pub columns_none : (ws values : List ℤ) (nb at n : ℕ) (work : List ℤ) (o : ℕ) → n ≡ 0 → ColumnsPost ws values nb at n work o work at
columns_none ws values nb at n work o z ds [] b r = (omega arith, refl)
columns_none ws values nb at n work o z ds (e ∷ es) b r = absurd (let s : n ≡ suc (length es) = r.size in omega arith)

module _ (ws values : List ℤ) (nb at n : ℕ) (work : List ℤ) (o : ℕ) (z : n ≡ 0 → ⊥) where
  the_column : {X : Type 0} (ds : List Domain) (es : List IntExpr) → ColumnsAt nb ds ws at n es
      → ((e : IntExpr) (us : List IntExpr) → es ≡ e ∷ us → IntAt nb ds ws at e → ColumnsAt nb ds ws (at + length (encode_int e)) (n - 1) us → X) → X
  unfolding EveryColumnOf
  the_column ds [] r go = absurd (z r.size)
  the_column ds (e ∷ us) r go =
      let s : n ≡ suc (length us) = r.size in
      let l = or_no_l (heavy ds e || heavy_inside ds e) _ r.light in
      go e us refl (record { stands = record { words = has_front ws at (encode_int e) _ r.words; vars = r.vars.0 }; light = or_no_l (heavy ds e) _ l; inside = or_no_r (heavy ds e) _ l })
      (record { words = has_back ws at (encode_int e) _ r.words; vars = r.vars.1; light = or_no_r (heavy ds e || heavy_inside ds e) _ r.light; size = omega arith })

  pub column_ready : ReadyColumns ws values nb at n work o → ReadyInt ws values nb at
  column_ready r = the_column r.ds r.them r.reads λ e us q h g. record { ds = r.ds; roster = r.roster; it = e; reads = h }

  pub column_room : ReadyColumns ws values nb at n work o → o < length work
  column_room r = omega (arith, r.room)

  module _ (next : ℕ) (v : ℤ) (p : IntPost ws values nb at next v) (x : ℤ) (hx : x ≡ v) where
    pub columns_ready : ReadyColumns ws values nb at n work o → ReadyColumns ws values nb next (n - 1) (set work o x) (o + 1)
    columns_ready r =
        the_column r.ds r.them r.reads λ e us q h g.
        let l : next ≡ at + length (encode_int e) = (p r.ds e r.roster h).0 in
        record { ds = r.ds; roster = r.roster; them = us; reads = rw l g; room = omega (arith, r.room, length-set work o x) }

    pub columns_more : (work' : List ℤ) (next' : ℕ) → ColumnsPost ws values nb next (n - 1) (set work o x) (o + 1) work' next' → ColumnsPost ws values nb at n work o work' next'
    columns_more work' next' p' ds es b r =
        the_column ds es r λ e us q h g.
        let y = p ds e b h in
        let l : next ≡ at + length (encode_int e) = y.0 in
        let y' = p' ds us b (rw l g) in
        let l' : next' ≡ next + length (flat (map encode_int us)) = y'.0 in
        rw q (omega (arith, length-append (encode_int e) (flat (map encode_int us))), y'.1 ∙ rw (add-one o, hx ∙ y.1) refl)

-- ---- `row_holds`

-- a cell's word, by what the cell permits
permits_is : (c : Cell) (x : ℤ) → WellCell c → word_permits (encode_cell c) x ≡ permits c x
permits_is star x h = refl
permits_is (value c) x h = rw (not_eqZ c star_word (λ e. let s : nat_abs c ≡ 2147483648 = ap nat_abs e in omega arith)) refl

pub row_none : (ws : List ℤ) (at n : ℕ) (work : List ℤ) (i : ℕ) → n ≡ 0 → RowPost ws at n work i true
row_none ws at n work i z cs [] r v = refl
row_none ws at n work i z cs (x ∷ xs) r v = absurd (let s : n ≡ suc (length xs) = v.size in omega arith)

module _ (ws : List ℤ) (at n : ℕ) (work : List ℤ) (i : ℕ) (z : n ≡ 0 → ⊥) where
  the_cell : {X : Type 0} (cs : List Cell) (xs : List ℤ) → RowStandsAt ws at n cs → ValuesAt work i n xs
      → ((c : Cell) (us : List Cell) (x : ℤ) (ys : List ℤ) → cs ≡ c ∷ us → xs ≡ x ∷ ys → get_or ws at (pos 0) ≡ encode_cell c → WellCell c → get_or work i (pos 0) ≡ x
      → RowStandsAt ws (at + 1) (n - 1) us → ValuesAt work (i + 1) (n - 1) ys → X) → X
  the_cell [] xs r v go = absurd (z r.size)
  the_cell (c ∷ us) [] r v go = absurd (z v.size)
  the_cell (c ∷ us) (x ∷ ys) r v go =
      let s : n ≡ suc (length us) = r.size in
      let t : n ≡ suc (length ys) = v.size in
      go c us x ys refl refl (has_word ws at _ _ (pos 0) r.words) r.well.0 (has_word work i _ _ (pos 0) v.words)
      (record { words = has_rest ws at _ _ r.words; well = r.well.1; size = omega arith }) (record { words = has_rest work i _ _ v.words; size = omega arith })

  pub row_inside : ReadyRow ws at n work i → (at < length ws) × (i < length work)
  row_inside r =
      the_cell r.cells r.values r.row r.stored λ c us x ys q y h w g k l. (
        omega (arith, has_fits ws at (map encode_cell r.cells) r.row.words (omega (arith, length-map r.cells encode_cell, r.row.size)), length-map r.cells encode_cell, r.row.size),
        omega (arith, has_fits work i r.values r.stored.words (omega (arith, r.stored.size)), r.stored.size),
      )

  pub row_rest : ReadyRow ws at n work i → ReadyRow ws (at + 1) (n - 1) work (i + 1)
  row_rest r = the_cell r.cells r.values r.row r.stored λ c us x ys q y h w g k l. record { cells = us; row = k; values = ys; stored = l }

  module _ (t : Bool) (ht : t ≡ word_permits (get_or ws at (pos 0)) (get_or work i (pos 0))) where
    pub row_stop : t ≡ false → RowPost ws at n work i false
    row_stop f cs xs r v =
        the_cell cs xs r v λ c us x ys q y h w g k l.
        let p : permits c x ≡ false = sym (permits_is c x w) ∙ rw (h, g) at (sym ht ∙ f) in
        rw (q, y, p) refl

    pub row_more : t ≡ true → (b : Bool) → RowPost ws (at + 1) (n - 1) work (i + 1) b → RowPost ws at n work i b
    row_more f b o cs xs r v =
        the_cell cs xs r v λ c us x ys q y h w g k l.
        let p : permits c x ≡ true = sym (permits_is c x w) ∙ rw (h, g) at (sym ht ∙ f) in
        rw (q, y, p) (o us ys k l)

-- ---- `rows_hold`

pub rows_none : (ws : List ℤ) (at n k : ℕ) (work : List ℤ) → k ≡ 0 → RowsPost ws at n k work false
rows_none ws at n k work z [] xs r v = refl
rows_none ws at n k work z (c ∷ cs) xs r v = absurd (let s : k ≡ suc (length cs) = r.size in omega arith)

module _ (ws : List ℤ) (at n k : ℕ) (work : List ℤ) (z : k ≡ 0 → ⊥) where
  the_row : {X : Type 0} (rows : List (List Cell)) → RowsStandAt ws at n k rows
      → ((cs : List Cell) (us : List (List Cell)) → rows ≡ cs ∷ us → RowStandsAt ws at n cs → RowsStandAt ws (at + n) n (k - 1) us → X) → X
  the_row [] r go = absurd (z r.size)
  the_row (cs ∷ us) r go =
      let s : k ≡ suc (length us) = r.size in
      let l : length (map encode_cell cs) ≡ n = length-map cs encode_cell ∙ r.well.0.0 in
      go cs us refl (record { words = has_front ws at (map encode_cell cs) _ r.words; well = r.well.0.1; size = sym r.well.0.0 })
      (record { words = rw l at (has_back ws at (map encode_cell cs) _ r.words); well = r.well.1; size = omega arith })

  pub row_ready : ReadyRows ws at n k work → ReadyRow ws at n work 0
  row_ready r = the_row r.them r.rows λ cs us q h g. record { cells = cs; row = h; values = r.values; stored = r.stored }

  pub rows_room : ReadyRows ws at n k work → at + n ≤ length ws
  rows_room r = the_row r.them r.rows λ cs us q h g. go cs h
    where
      go : (cs : List Cell) → RowStandsAt ws at n cs → at + n ≤ length ws
      go [] h = omega (arith, h.size, r.inside)
      go (c ∷ cs) h = omega (arith, h.size, length-map (c ∷ cs) encode_cell, has_fits ws at (map encode_cell (c ∷ cs)) h.words (omega arith))

  pub rows_rest : ReadyRows ws at n k work → ReadyRows ws (at + n) n (k - 1) work
  rows_rest r = the_row r.them r.rows λ cs us q h g. record { them = us; rows = g; values = r.values; stored = r.stored; inside = rows_room r }

  module _ (t : Bool) (p : RowPost ws at n work 0 t) where
    pub rows_hit : t ≡ true → RowsPost ws at n k work true
    rows_hit f rows xs r v = the_row rows r λ cs us q h g. let y : row_permits xs cs ≡ true = sym (p cs xs h v) ∙ f in rw (q, y) refl

    pub rows_more : t ≡ false → (b : Bool) → RowsPost ws (at + n) n (k - 1) work b → RowsPost ws at n k work b
    rows_more f b o rows xs r v = the_row rows r λ cs us q h g. let y : row_permits xs cs ≡ false = sym (p cs xs h v) ∙ f in rw (q, y) (o us xs g v)
