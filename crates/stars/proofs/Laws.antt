-- Clauses' words written one after another; the cells of a row and the rows of a table one after another. Assumes nothing.
use mathlib.Core.Path.{◌≡◌, refl, sym, ap, ◌∙◌, subst}
use mathlib.Core.Bool.{Bool, true, false, not}
use mathlib.Core.List.{List, [], ◌∷◌, ◌++◌, append-nil, map, map-append}
use Prim.Native.Nat.{ℕ, zero, suc, ◌+◌, ◌-◌, ◌*◌, ◌<◌, ◌≤◌}
use native.Mathlib.Omega.{arith}
use native.Mathlib.Numerals.{add-one}
use native.Mathlib.Nat.{suc-mul}
use lib.IntN.{ℤ, pos, negsuc, nat_abs}
use lib.Signed.{le_z, lt_z}
use lib.ListN.{length, get_or, drop, length-append}
use lib.Seq.{drop-cons, drop-drop, get_or-drop}
use borrow.Author.Tests.{lt-ltb}
use mir.Syntax.{w32}
use mir.Val.{SFits, of_z, to_z}
use mir.Facts.{to_z-of_z}
use Rattle.laws.specs.Lists.{keep_if, flat, flat_append}
use Rattle.laws.specs.Order.{is_eqZ, not_eqZ}
use Rattle.laws.specs.Writes.{cap, Wrote, wrote_none, wrote_length, wrote_then, wrote_to, sets_out, Open}
use Rattle.syntax.specs.Words.{star_word}
use Rattle.clauses.specs.Clause.{LinearLit}
use Rattle.answer.specs.Answer.{linear_words}
use Rattle.tables.specs.Tables.{linear_eq}
use Rattle.walk.specs.Item.{extra, block}
use Rattle.walk.proofs.Texts.{linears_more}
use Rattle.walk.specs.declared.Mode.{Mode}
use Rattle.sorting.specs.Rows.{rows_of, row_at}
use Rattle.sorting.specs.Columns.{word, vars_of}
use Rattle.rows.specs.Emit.{comparison, linears_words, Behind}
use Rattle.rows.specs.Stars.{is_value, values_in, is_single, is_longer}
use Rattle.rows.proofs.Emitting.{room_after}
use Rattle.stars.specs.Lines.{row_linears, counted_lits, row_lines, equality, long_lines, single_linears, pool_line, Lines}
use Rattle.stars.specs.Stars.{RowAt, RowsAt}

-- ---- lines after lines

pub lines_none : {out : List ℤ} {o c : ℕ} → Behind out o c → Lines out o c [] out o c
lines_none {out} {o} b = record { words = wrote_none out o b.room.low; count = λ h. omega arith; low = b.low }

lines_one : {out out' : List ℤ} {o o' c : ℕ} (x : ℤ) (t : List ℤ) → c ≤ o → o < cap → Wrote out o (x ∷ t) out' o' → Lines out o c ((x ∷ t) ∷ []) out' o' (c + 1)
lines_one x t h l w = record { words = wrote_to (sym (append-nil (x ∷ t))) w; count = λ k. refl; low = omega (arith, w.at) }

-- too long: nothing more is written
pub lines_stop : {out : List ℤ} {o c : ℕ} → Behind out o c → o ≡ cap → (ts : List (List ℤ)) → Lines out o c ts out o c
lines_stop {out} {o} b e ts = record {
  words = record { words = sym (sets_out out o (flat ts) (omega (arith, b.room.room))); at = omega arith };
  count = λ h. absurd (omega arith);
  low = b.low;
}

pub lines_then : {out a b : List ℤ} {o p q c d e : ℕ} {xs ys : List (List ℤ)} → length out ≤ cap → Lines out o c xs a p d → Lines a p d ys b q e → Lines out o c (xs ++ ys) b q e
lines_then {p = p} {d = d} {xs = xs} {ys = ys} l x y = record {
  words = wrote_to (sym (flat_append xs ys)) (wrote_then l x.words y.words);
  count = λ h.
      let before : p < cap = omega (arith, y.words.at) in
      omega (arith, x.count before, y.count h, length-append xs ys);
  low = y.low;
}

pub lines_to : {out out' : List ℤ} {o o' c c' : ℕ} {xs ys : List (List ℤ)} → xs ≡ ys → Lines out o c xs out' o' c' → Lines out o c ys out' o' c'
lines_to {out} {out'} {o} {o'} {c} {c'} e w = subst (λ (zs : List (List ℤ)). Lines out o c zs out' o' c') e w

pub behind_after : {out out' : List ℤ} {o o' c c' : ℕ} {ts : List (List ℤ)} → Behind out o c → Lines out o c ts out' o' c' → Behind out' o' c'
behind_after b w = record { room = room_after b.room w.words; low = w.low }

-- ---- loops: whatever writes the rest writes the whole

pub record Rest (out₀ : List ℤ) (o c : ℕ) (whole rest : List (List ℤ)) (out : List ℤ) (q d : ℕ) : Type 0 where
  pub behind : Behind out q d
  pub same : length out ≡ length out₀
  pub to : (out' : List ℤ) (q' d' : ℕ) → Lines out q d rest out' q' d' → Lines out₀ o c whole out' q' d'

pub rest_start : {out : List ℤ} {o c : ℕ} {whole : List (List ℤ)} → Behind out o c → Rest out o c whole whole out o c
rest_start b = record { behind = b; same = refl; to = λ out' q' d' w. w }

pub rest_next : {out₀ out out' : List ℤ} {o c q d q' d' : ℕ} {whole rest : List (List ℤ)} (here later : List (List ℤ)) → Rest out₀ o c whole rest out q d → rest ≡ here ++ later → Lines out q d here out' q' d' → Rest out₀ o c whole later out' q' d'
rest_next here later v e w = record {
  behind = behind_after v.behind w;
  same = wrote_length w.words ∙ v.same;
  to = λ out'' q'' d'' u. v.to out'' q'' d'' (lines_to (sym e) (lines_then v.behind.room.room w u));
}

pub rest_skip : {out₀ out : List ℤ} {o c q d : ℕ} {whole rest : List (List ℤ)} (later : List (List ℤ)) → Rest out₀ o c whole rest out q d → rest ≡ later → Rest out₀ o c whole later out q d
rest_skip later v e = record { behind = v.behind; same = v.same; to = λ out' q' d' w. v.to out' q' d' (lines_to (sym e) w) }

pub rest_end : {out₀ out : List ℤ} {o c q d : ℕ} {whole rest : List (List ℤ)} → Rest out₀ o c whole rest out q d → rest ≡ [] → Lines out₀ o c whole out q d
rest_end {out = out} {q = q} {d = d} v e = v.to out q d (lines_to (sym e) (lines_none v.behind))

-- the same of words that are no clauses
pub record Left (out₀ : List ℤ) (o : ℕ) (whole rest : List ℤ) (out : List ℤ) (q : ℕ) : Type 0 where
  pub room : Open out q
  pub same : length out ≡ length out₀
  pub to : (out' : List ℤ) (q' : ℕ) → Wrote out q rest out' q' → Wrote out₀ o whole out' q'

pub left_start : {out : List ℤ} {o : ℕ} {whole : List ℤ} → Open out o → Left out o whole whole out o
left_start r = record { room = r; same = refl; to = λ out' q' w. w }

pub left_next : {out₀ out out' : List ℤ} {o q q' : ℕ} {whole rest : List ℤ} (here later : List ℤ) → Left out₀ o whole rest out q → rest ≡ here ++ later → Wrote out q here out' q' → Left out₀ o whole later out' q'
left_next here later v e w = record {
  room = room_after v.room w;
  same = wrote_length w ∙ v.same;
  to = λ out'' q'' u. v.to out'' q'' (wrote_to (sym e) (wrote_then v.room.room w u));
}

pub left_skip : {out₀ out : List ℤ} {o q : ℕ} {whole rest : List ℤ} (later : List ℤ) → Left out₀ o whole rest out q → rest ≡ later → Left out₀ o whole later out q
left_skip later v e = record { room = v.room; same = v.same; to = λ out' q' w. v.to out' q' (wrote_to (sym e) w) }

pub left_end : {out₀ out : List ℤ} {o q : ℕ} {whole rest : List ℤ} → Left out₀ o whole rest out q → rest ≡ [] → Wrote out₀ o whole out q
left_end {out = out} {q = q} v e = v.to out q (wrote_to (sym e) (wrote_none out q v.room.low))

-- ---- one cell

module _ (x : ℤ) (f : SFits w32 x) where
  pub is_star : of_z w32 x ≡ 2147483648 → is_value x ≡ false
  is_star e = ap not (is_eqZ x star_word (sym (to_z-of_z f) ∙ ap (to_z w32) e))

  pub no_star : (of_z w32 x ≡ 2147483648 → ⊥) → is_value x ≡ true
  no_star e = ap not (not_eqZ x star_word (λ z. e (ap (of_z w32) z)))

pub above_star : (x : ℤ) → SFits w32 x → (of_z w32 x ≡ 2147483648 → ⊥) → lt_z star_word x ≡ true
above_star (pos n) f e = refl
above_star (negsuc n) f e =
    let k = f.sfits in
    let d : n ≡ 2147483647 → ⊥ = λ z. e (ap (λ (i : ℕ). of_z w32 (negsuc i)) z) in
    lt-ltb n 2147483647 (omega (arith, k, d))

module _ (ls : List ℤ) (v : ℕ) (x : ℤ) where
  cell_none : is_value x ≡ false → row_linears (v ∷ []) (x ∷ []) ≡ []
  unfolding row_linears
  cell_none e = rw e refl

  cell_one : is_value x ≡ true → row_linears (v ∷ []) (x ∷ []) ≡ linear_eq v x ∷ []
  unfolding row_linears
  cell_one e = rw e refl

  pub equality_none : {out : List ℤ} {o c : ℕ} → is_value x ≡ false → Behind out o c → Lines out o c (row_lines ls (v ∷ []) (x ∷ [])) out o c
  equality_none e b = lines_to (ap (map (equality ls)) (sym (cell_none e))) (lines_none b)

  -- op, y: the operator and the value as the code has them
  pub equality_one : {out out₁ out₂ out₃ : List ℤ} {o a b d c : ℕ} (op y : ℤ) → is_value x ≡ true → Behind out o c → (o ≡ cap → ⊥) → op ≡ pos 0 → y ≡ x
      → Wrote out o (counted_lits ls) out₁ a → Wrote out₁ a (pos 1 ∷ []) out₂ b → Wrote out₂ b (comparison op v y) out₃ d
      → Lines out o c (row_lines ls (v ∷ []) (x ∷ [])) out₃ d (c + 1)
  equality_one {out} {out₁} {out₂} {out₃} {o} {a} {b} {d} op y e h n eo ey w₁ w₂ w₃ =
      let l₁ : length out₁ ≤ cap = omega (arith, wrote_length w₁, h.room.room) in
      let w : Wrote out o (equality ls (linear_eq v x)) out₃ d = wrote_to (rw (eo, ey) refl) (wrote_then h.room.room w₁ (wrote_then l₁ w₂ w₃)) in
      lines_to (ap (map (equality ls)) (sym (cell_one e))) (lines_one (pos (length ls)) (ls ++ (pos 1 ∷ linear_words (linear_eq v x))) h.low (omega (arith, h.room.low, n)) w)

  pub value_none : {out : List ℤ} {o : ℕ} → is_value x ≡ false → Open out o → Wrote out o (linears_words (row_linears (v ∷ []) (x ∷ []))) out o
  value_none {out} {o} e r = wrote_to (ap linears_words (sym (cell_none e))) (wrote_none out o r.low)

  pub value_one : {out out' : List ℤ} {o d : ℕ} (op y : ℤ) → is_value x ≡ true → op ≡ pos 0 → y ≡ x → Wrote out o (comparison op v y) out' d → Wrote out o (linears_words (row_linears (v ∷ []) (x ∷ []))) out' d
  value_one op y e eo ey w = wrote_to (rw (eo, ey) refl ∙ sym (append-nil (linear_words (linear_eq v x))) ∙ ap linears_words (sym (cell_one e))) w

-- ---- the cells of a row

kept : {A : Type 0} (t : Bool) (x : A) (xs : List A) → keep_if t x xs ≡ keep_if t x [] ++ xs
kept true x xs = refl
kept false x xs = refl

module _ (w : List ℤ) (p col : ℕ) where
  abbrev cells : ℕ → ℕ → ℕ → List LinearLit
  cells l c a = row_linears (vars_of l (drop c w)) (row_at l a w)

  -- the first of them
  abbrev cell : List LinearLit
  cell = row_linears (nat_abs (word w col) ∷ []) (get_or w p (pos 0) ∷ [])

  cells_more : (l : ℕ) → p + suc l ≤ length w → cells (suc l) col p ≡ cell ++ cells l (col + 3) (p + 1)
  unfolding row_linears vars_of
  cells_more l h =
      let z : col + 0 ≡ col = omega arith in
      let a : word (drop col w) 0 ≡ word w col = get_or-drop col w 0 (pos 0) ∙ ap (λ (i : ℕ). get_or w i (pos 0)) z in
      rw (a, drop-drop 3 col w, drop-cons w p (pos 0) (omega arith), ← add-one p)
      (kept (is_value (get_or w p (pos 0))) (linear_eq (nat_abs (word w col)) (get_or w p (pos 0))) (cells l (col + 3) (p + 1)))

  cells_step : (left : ℕ) → (left ≡ 0 → ⊥) → p + left ≤ length w → cells left col p ≡ cell ++ cells (left - 1) (col + 3) (p + 1)
  cells_step zero n h = absurd (n refl)
  cells_step (suc l) n h = let e : suc l - 1 ≡ l = omega arith in rw e (cells_more l h)

  -- v, x: the number and the word as the code has them
  module _ (left : ℕ) (n : left ≡ 0 → ⊥) (h : p + left ≤ length w) (v : ℕ) (x : ℤ) (ev : v ≡ nat_abs (word w col)) (ex : x ≡ get_or w p (pos 0)) where
    abbrev later : List LinearLit
    later = cells (left - 1) (col + 3) (p + 1)

    here : cells left col p ≡ row_linears (v ∷ []) (x ∷ []) ++ later
    here = rw (ev, ex) (cells_step left n h)

    pub lines_step : (ls : List ℤ) → map (equality ls) (cells left col p) ≡ row_lines ls (v ∷ []) (x ∷ []) ++ map (equality ls) later
    lines_step ls = ap (map (equality ls)) here ∙ map-append (equality ls) (row_linears (v ∷ []) (x ∷ [])) later

    pub words_step : linears_words (cells left col p) ≡ linears_words (row_linears (v ∷ []) (x ∷ [])) ++ linears_words later
    words_step = ap linears_words here ∙ sym (linears_more (row_linears (v ∷ []) (x ∷ [])) later)

  pub cells_none : (left : ℕ) → left ≡ 0 → cells left col p ≡ []
  unfolding row_linears vars_of
  cells_none left e = rw e refl

  pub row_next : (left : ℕ) → (left ≡ 0 → ⊥) → RowAt w p left col → RowAt w (p + 1) (left - 1) (col + 3)
  row_next left n r = record {
    within = omega (arith, r.within);
    fits = omega (arith, r.fits);
    named = λ i h. let e : col + 3 * (i + 1) ≡ col + 3 + 3 * i = omega arith in subst (λ (k : ℕ). le_z (pos 0) (word w k) ≡ true) e (r.named (i + 1) (omega arith));
  }

  pub row_named : (left : ℕ) → (left ≡ 0 → ⊥) → RowAt w p left col → le_z (pos 0) (word w col) ≡ true
  row_named left n r = let e : col + 3 * 0 ≡ col = omega arith in subst (λ (k : ℕ). le_z (pos 0) (word w k) ≡ true) e (r.named 0 (omega arith))

-- ---- the rows

module _ (w : List ℤ) (n p : ℕ) where
  rows_step : (left : ℕ) → (left ≡ 0 → ⊥) → rows_of n left (drop p w) ≡ row_at n p w ∷ rows_of n (left - 1) (drop (p + n) w)
  unfolding rows_of
  rows_step zero h = absurd (h refl)
  rows_step (suc l) h = let e : suc l - 1 ≡ l = omega arith in rw (e, drop-drop n p w) refl

  module _ (left : ℕ) (h : left ≡ 0 → ⊥) (vs : List ℕ) where
    pub long_yes : (o : Mode) (m j : ℕ) → is_longer (values_in (row_at n p w)) ≡ true
        → long_lines o m vs (rows_of n left (drop p w)) j ≡ row_lines (extra o m [] j) vs (row_at n p w) ++ long_lines o m vs (rows_of n (left - 1) (drop (p + n) w)) (j + 1)
    unfolding long_lines
    long_yes o m j t = rw (rows_step left h, t) refl

    pub long_no : (o : Mode) (m j : ℕ) → is_longer (values_in (row_at n p w)) ≡ false → long_lines o m vs (rows_of n left (drop p w)) j ≡ long_lines o m vs (rows_of n (left - 1) (drop (p + n) w)) j
    unfolding long_lines
    long_no o m j t = rw (rows_step left h, t) refl

    pub single_yes : is_single (values_in (row_at n p w)) ≡ true → linears_words (single_linears vs (rows_of n left (drop p w))) ≡ linears_words (row_linears vs (row_at n p w)) ++ linears_words (single_linears vs (rows_of n (left - 1) (drop (p + n) w)))
    unfolding single_linears
    single_yes t = rw (rows_step left h, t) (sym (linears_more (row_linears vs (row_at n p w)) (single_linears vs (rows_of n (left - 1) (drop (p + n) w)))))

    pub single_no : is_single (values_in (row_at n p w)) ≡ false → linears_words (single_linears vs (rows_of n left (drop p w))) ≡ linears_words (single_linears vs (rows_of n (left - 1) (drop (p + n) w)))
    unfolding single_linears
    single_no t = rw (rows_step left h, t) refl

  module _ (vs : List ℕ) where
    pub long_none : (o : Mode) (m left j : ℕ) → left ≡ 0 → long_lines o m vs (rows_of n left (drop p w)) j ≡ []
    unfolding long_lines rows_of
    long_none o m left j e = rw e refl

    pub single_none : (left : ℕ) → left ≡ 0 → linears_words (single_linears vs (rows_of n left (drop p w))) ≡ []
    unfolding single_linears rows_of
    single_none left e = rw e refl

  pub rows_next : (left cols : ℕ) → (left ≡ 0 → ⊥) → RowsAt w p n left cols → RowsAt w (p + n) n (left - 1) cols
  rows_next zero cols h r = absurd (h refl)
  rows_next (suc l) cols h r =
      let e : suc l - 1 ≡ l = omega arith in
      let f = suc-mul l n in
      rw e (record { few = omega (arith, r.few); within = omega (arith, r.within); fits = r.fits; named = r.named })

  pub row_here : (left cols : ℕ) → (left ≡ 0 → ⊥) → RowsAt w p n left cols → RowAt w p n cols
  row_here zero cols h r = absurd (h refl)
  row_here (suc l) cols h r = let f = suc-mul l n in record { within = omega (arith, r.within); fits = r.fits; named = r.named }

-- ---- the pool's clause

-- u, v: the counts' words as the code has them
pub pool_one : {out out₁ out₂ out₃ out₄ : List ℤ} {o a b d e c : ℕ} (m x y : ℕ) (ks : List LinearLit) (u v : ℤ) → Behind out o c → (o ≡ cap → ⊥) → u ≡ pos x → v ≡ pos y
    → Wrote out o (u ∷ []) out₁ a → Wrote out₁ a (block m x) out₂ b → Wrote out₂ b (v ∷ []) out₃ d → Wrote out₃ d (linears_words ks) out₄ e
    → Lines out o c (pool_line m x y ks ∷ []) out₄ e (c + 1)
pool_one {out} {out₁} {out₂} {out₃} {out₄} {o} {a} {b} {d} {e} m x y ks u v h n eu ev w₁ w₂ w₃ w₄ =
    let l₁ : length out₁ ≤ cap = omega (arith, wrote_length w₁, h.room.room) in
    let l₂ : length out₂ ≤ cap = omega (arith, wrote_length w₂) in
    let w : Wrote out o (pool_line m x y ks) out₄ e = wrote_to (rw (eu, ev) refl) (wrote_then h.room.room w₁ (wrote_then l₁ w₂ (wrote_then l₂ w₃ w₄))) in
    lines_one (pos x) (block m x ++ (pos y ∷ linears_words ks)) h.low (omega (arith, h.room.low, n)) w

-- ---- by the number of values

pub longer_no : (c : ℕ) → c < 2 → is_longer c ≡ false
longer_no zero h = refl
longer_no (suc zero) h = refl
longer_no (suc (suc c)) h = absurd (omega arith)
