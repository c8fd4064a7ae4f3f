-- What the steps of writing comparisons and clauses say of the words written. Assumes nothing.
use mathlib.Core.Path.{◌≡◌, refl, sym, ap, ◌∙◌}
use mathlib.Core.Bool.{true}
use mathlib.Core.List.{List, [], ◌∷◌, ◌++◌, map}
use Prim.Native.Nat.{ℕ, zero, suc, ◌+◌, ◌*◌, ◌<◌, ◌≤◌}
use native.Mathlib.Omega.{arith}
use native.Mathlib.Numerals.{add-one}
use lib.IntN.{ℤ, pos, negsuc, neg_ℤ, nat_abs, ◌-ℤ◌, +ℤ_idl}
use lib.Signed.{lt_z}
use lib.ListN.{length, get_or, set, take, drop, length-append, length-set}
use lib.Seq.{get_or-drop, get_or-take}
use borrow.Author.Tests.{ltb-true}
use mir.Syntax.{w32}
use mir.Val.{SFits, of_z, to_z}
use mir.Facts.{to_z-of_z}
use Rattle.laws.specs.Lists.{select, flat, flat_append}
use Rattle.laws.specs.Writes.{cap, Wrote, wrote_none, wrote_length, wrote_low, wrote_then, wrote_to, Open}
use Rattle.syntax.specs.Words.{star_word}
use Rattle.syntax.specs.Syntax.{Domain, enumerate, domain_of}
use Rattle.clauses.specs.Clause.{LinearLit, clause}
use Rattle.answer.specs.Answer.{linear_words, clause_words}
use Rattle.tables.specs.Tables.{Row, cell_at, linear_eq, linear_ne, takes, variable, differs, column_clause}
use Rattle.tables.proofs.ValuesLaws.{after}
use Rattle.std.specs.Prelude.{Some, None}
use Rattle.sorting.specs.Rows.{rows_of}
use Rattle.sorting.specs.Columns.{word, vars_of}
use Rattle.rows.specs.Next.{next_of, Holds}
use Rattle.rows.specs.Emit.{comparison, linears_words, Starless, group_of}
use Rattle.rows.proofs.Next.{all_left, left_none, left_next}

-- ---- one comparison

neg_mag : (x : ℤ) → SFits w32 x → lt_z star_word x ≡ true → SFits w32 (neg_ℤ x)
neg_mag (pos zero) f h = f
neg_mag (pos (suc n)) f h = record { sfits = omega (arith, f.sfits) }
neg_mag (negsuc n) f h = record { sfits = let q = ltb-true n 2147483647 h in omega arith }

pub neg_fits : (x : ℤ) → SFits w32 x → lt_z star_word x ≡ true → SFits w32 (pos 0 -ℤ to_z w32 (of_z w32 x))
neg_fits x f h = rw (to_z-of_z f, +ℤ_idl (neg_ℤ x)) (neg_mag x f h)

pub neg_is : (x : ℤ) → SFits w32 x → lt_z star_word x ≡ true → to_z w32 (of_z w32 (pos 0 -ℤ to_z w32 (of_z w32 x))) ≡ neg_ℤ x
neg_is x f h = to_z-of_z (neg_fits x f h) ∙ rw (to_z-of_z f, +ℤ_idl (neg_ℤ x))

pub put_one : (out : List ℤ) (o : ℕ) (w z : ℤ) → z ≡ w → o < length out → length out ≤ cap → Wrote out o (w ∷ []) (set out o z) (o + 1)
put_one out o w z e h l = record { words = ap (set out o) e; at = omega arith }

pub room_after : {out out' vs : List ℤ} {o o' : ℕ} → Open out o → Wrote out o vs out' o' → Open out' o'
room_after r w = record { low = wrote_low w; room = omega (arith, wrote_length w, r.room) }

-- a word moves the place
pub wrote_moves : {s s' us : List ℤ} {o o' : ℕ} {w : ℤ} → Wrote s o (w ∷ us) s' o' → o < cap → o < o'
wrote_moves {us = us} r h = omega (arith, r.at)

pub wrote_on : {s s' us : List ℤ} {o o' : ℕ} → Wrote s o us s' o' → o ≤ cap → o ≤ o'
wrote_on {us = us} r h = omega (arith, r.at)

pub five : (o a b c d r : ℕ) (s s1 s2 s3 s4 s5 : List ℤ) (w1 w2 w3 w4 w5 u1 u2 u3 u4 u5 : ℤ) → length s ≤ cap
    → Wrote s o (w1 ∷ []) s1 a → Wrote s1 a (w2 ∷ []) s2 b → Wrote s2 b (w3 ∷ []) s3 c → Wrote s3 c (w4 ∷ []) s4 d → Wrote s4 d (w5 ∷ []) s5 r
    → w1 ≡ u1 → w2 ≡ u2 → w3 ≡ u3 → w4 ≡ u4 → w5 ≡ u5 → Wrote s o (u1 ∷ u2 ∷ u3 ∷ u4 ∷ u5 ∷ []) s5 r
five o a b c d r s s1 s2 s3 s4 s5 w1 w2 w3 w4 w5 u1 u2 u3 u4 u5 l p1 p2 p3 p4 p5 e1 e2 e3 e4 e5 =
    let l1 : length s1 ≤ cap = omega (arith, wrote_length p1) in
    let l2 : length s2 ≤ cap = omega (arith, wrote_length p2) in
    let l3 : length s3 ≤ cap = omega (arith, wrote_length p3) in
    wrote_to (rw (e1, e2, e3, e4, e5) refl) (wrote_then l p1 (wrote_then l1 p2 (wrote_then l2 p3 (wrote_then l3 p4 p5))))

-- where there is room for five words
pub set_inside : (s : List ℤ) (o i : ℕ) (w : ℤ) → i < length s → i < length (set s o w)
set_inside s o i w h = omega (arith, h, length-set s o w)

pub stored_five : (s : List ℤ) (o : ℕ) (w1 w2 w3 w4 w5 u1 u2 u3 u4 u5 : ℤ) → o + 5 ≤ length s → length s ≤ cap → w1 ≡ u1 → w2 ≡ u2 → w3 ≡ u3 → w4 ≡ u4 → w5 ≡ u5
    → Wrote s o (u1 ∷ u2 ∷ u3 ∷ u4 ∷ u5 ∷ []) (set (set (set (set (set s o w1) (o + 1) w2) (o + 2) w3) (o + 3) w4) (o + 4) w5) (o + 5)
stored_five s o w1 w2 w3 w4 w5 u1 u2 u3 u4 u5 h l e1 e2 e3 e4 e5 = five o (o + 1) (o + 2) (o + 3) (o + 4) (o + 5) s _ _ _ _ _ w1 w2 w3 w4 w5 u1 u2 u3 u4 u5 l (one s o (o + 1) w1 (omega arith) (omega arith)) (one _ (o + 1) (o + 2) w2 (omega arith) (omega arith)) (one _ (o + 2) (o + 3) w3 (omega arith) (omega arith)) (one _ (o + 3) (o + 4) w4 (omega arith) (omega arith)) (one _ (o + 4) (o + 5) w5 (omega arith) (omega arith)) e1 e2 e3 e4 e5
  where
    one : (t : List ℤ) (i j : ℕ) (w : ℤ) → j ≡ i + 1 → j ≤ cap → Wrote t i (w ∷ []) (set t i w) j
    one t i j w e k = record { words = refl; at = omega arith }

-- ---- the prefix

var_is : (n : ℕ) (cs : List ℤ) (i : ℕ) → i < n → get_or (vars_of n cs) i 0 ≡ nat_abs (word cs (3 * i))
unfolding vars_of
var_is zero cs i h = absurd (omega arith)
var_is (suc n) cs zero h = refl
var_is (suc n) cs (suc i) h = var_is n (drop 3 cs) i (omega arith) ∙ ap nat_abs (later cs i)
  where
    later : (cs : List ℤ) (i : ℕ) → word (drop 3 cs) (3 * i) ≡ word cs (3 * suc i)
    later cs i = get_or-drop 3 cs (3 * i) (pos 0) ∙ ap (λ (m : ℕ). get_or cs m (pos 0)) (omega arith)

map-append : (as₁ bs : List LinearLit) → map linear_words (as₁ ++ bs) ≡ map linear_words as₁ ++ map linear_words bs
map-append [] bs = refl
map-append (a ∷ as₁) bs = ap (λ (l : List (List ℤ)). linear_words a ∷ l) (map-append as₁ bs)

linears_append : (as₁ bs : List LinearLit) → linears_words (as₁ ++ bs) ≡ linears_words as₁ ++ linears_words bs
linears_append as₁ bs = ap flat (map-append as₁ bs) ∙ flat_append (map linear_words as₁) (map linear_words bs)

pub record Prefix (out₀ : List ℤ) (o : ℕ) (t cs : List ℤ) (p : ℕ) (out : List ℤ) (q j : ℕ) : Type 0 where
  pub few : j ≤ p
  pub room : Open out q
  pub same : length out ≡ length out₀
  pub words : (n : ℕ) (ds : List Domain) → p ≤ n → Wrote out₀ o (linears_words (differs (vars_of n cs) ds j t)) out q

pub prefix_start : (out : List ℤ) (o : ℕ) (t cs : List ℤ) (p : ℕ) → Open out o → Prefix out o t cs p out o 0
prefix_start out o t cs p r = record { few = omega arith; room = r; same = refl; words = λ n ds h. unfold differs in wrote_none out o r.low }

pub prefix_next : (out₀ : List ℤ) (o : ℕ) (t cs : List ℤ) (p : ℕ) (out : List ℤ) (q j : ℕ) (out' : List ℤ) (q' k : ℕ) (op x : ℤ) → length out₀ ≤ cap → j < p → Prefix out₀ o t cs p out q j
    → k ≡ nat_abs (word cs (3 * j)) → op ≡ pos 1 → x ≡ get_or t j (pos 0) → Wrote out q (comparison op k x) out' q' → Prefix out₀ o t cs p out' q' (j + 1)
unfolding differs
prefix_next out₀ o t cs p out q j out' q' k op x l h v ek eo ex w = record {
  few = omega arith;
  room = room_after v.room w;
  same = wrote_length w ∙ v.same;
  words = λ n ds b. wrote_to (next n ds b) (wrote_then l (v.words n ds b) w);
}
  where
    next : (n : ℕ) (ds : List Domain) → p ≤ n → linears_words (differs (vars_of n cs) ds j t) ++ comparison op k x ≡ linears_words (differs (vars_of n cs) ds (j + 1) t)
    next n ds b =
        rw (eo, ek, ex, ← (var_is n cs j (omega arith)), add-one j)
        (sym (linears_append (differs (vars_of n cs) ds j t) (linear_ne (variable (vars_of n cs) ds j) (cell_at t j) ∷ [])))

pub prefix_end : (out₀ : List ℤ) (o : ℕ) (t cs : List ℤ) (p : ℕ) (out : List ℤ) (q j : ℕ) → p ≤ j → Prefix out₀ o t cs p out q j
    → (n : ℕ) (ds : List Domain) → p ≤ n → Wrote out₀ o (linears_words (differs (vars_of n cs) ds p t)) out q
prefix_end out₀ o t cs p out q j h v n ds b = let e : j ≡ p = omega (arith, v.few) in wrote_to (ap (λ (m : ℕ). linears_words (differs (vars_of n cs) ds m t)) e) (v.words n ds b)

-- ---- the values

module _ (n m i : ℕ) (t : List ℤ) (out₀ : List ℤ) (o v : ℕ) where
  abbrev g : List Row
  g = rows_of n m t

  abbrev equals : List ℤ → List ℤ
  equals xs = linears_words (map (linear_eq v) xs)

  -- the values up to last are written: whatever writes the rest writes the whole
  pub record Values (last : ℤ) (out : List ℤ) (q : ℕ) : Type 0 where
    pub room : Open out q
    pub on : o ≤ q
    pub same : length out ≡ length out₀
    pub rest : (ds : List ℤ) → Holds ds i g → (out' : List ℤ) (q' : ℕ) → Wrote out q (equals (after (takes i g) last ds)) out' q' → Wrote out₀ o (equals (select (takes i g) ds)) out' q'

  -- z is x, as the code has it
  pub values_next : (last x z y op : ℤ) (out out' : List ℤ) (q q' : ℕ) → z ≡ x → next_of last i g ≡ Some x → y ≡ x → op ≡ pos 0 → Wrote out q (comparison op v y) out' q' → Values last out q → Values z out' q'
  values_next last x z y op out out' q q' ez e ey eo w r = record {
    room = room_after r.room w;
    on = omega (arith, r.on, wrote_on w r.room.low);
    same = wrote_length w ∙ r.same;
    rest = λ ds a out'' q'' u.
        let f : after (takes i g) last ds ≡ z ∷ after (takes i g) z ds = rw ez (left_next last i g ds x a.rising a.inside e) in
        let c : comparison op v y ++ equals (after (takes i g) z ds) ≡ equals (after (takes i g) last ds) = rw (eo, ey ∙ sym ez, f) refl in
        r.rest ds a out'' q'' (wrote_to c (wrote_then r.room.room w u));
  }

  pub values_end : (last : ℤ) (out : List ℤ) (q : ℕ) → next_of last i g ≡ None → Values last out q → (ds : List ℤ) → Holds ds i g → Wrote out₀ o (equals (select (takes i g) ds)) out q
  values_end last out q e r ds a = r.rest ds a out q (wrote_to (ap equals (sym (left_none last i g ds e))) (wrote_none out q r.room.low))

pub values_start : (n m i : ℕ) (t : List ℤ) → length t ≡ m * n → i < n → Starless t → (out : List ℤ) (o v : ℕ) → Open out o → Values n m i t out o v star_word out o
values_start n m i t l h s out o v r = record { room = r; on = omega arith; same = refl; rest = λ ds a out' q' w. wrote_to (ap (equals n m i t out o v) (all_left n m i t l h s ds)) w }

-- ---- a clause

differs_cells : (p n : ℕ) (vs : List ℕ) (ds : List Domain) (t : List ℤ) → p ≤ n → differs vs ds p (take n t) ≡ differs vs ds p t
unfolding differs
differs_cells zero n vs ds t h = refl
differs_cells (suc p) n vs ds t h = rw (differs_cells p n vs ds t (omega arith), get_or-take n t p (pos 0) h)

length_differs : (p : ℕ) (vs : List ℕ) (ds : List Domain) (r : Row) → length (differs vs ds p r) ≡ p
unfolding differs
length_differs zero vs ds r = refl
length_differs (suc p) vs ds r = length-append (differs vs ds p r) (linear_ne (variable vs ds p) (cell_at r p) ∷ []) ∙ (let e = length_differs p vs ds r in omega arith)

length_equals : (v : ℕ) (xs : List ℤ) → length (map (linear_eq v) xs) ≡ length xs
length_equals v [] = refl
length_equals v (x ∷ xs) = ap suc (length_equals v xs)

module _ (cs : List ℤ) (ds : List Domain) (n m p i : ℕ) (t : List ℤ) (l : p ≤ n) (h : i < n) where
  abbrev vs : List ℕ
  vs = vars_of n cs

  abbrev E : List ℤ
  E = select (takes i (rows_of n m t)) (enumerate (domain_of ds i))

  abbrev v : ℕ
  v = nat_abs (word cs (3 * i))

  clause_is : column_clause vs ds p i (group_of n m t) ≡ clause [] (differs vs ds p t ++ map (linear_eq v) E)
  unfolding column_clause
  clause_is = rw (differs_cells p n vs ds t l, var_is n cs i h) refl

  clause_said : clause_words (column_clause vs ds p i (group_of n m t)) ≡ pos 0 ∷ pos (p + length E) ∷ (linears_words (differs vs ds p t) ++ linears_words (map (linear_eq v) E))
  clause_said =
      let z : length (differs vs ds p t ++ map (linear_eq v) E) ≡ p + length E = length-append (differs vs ds p t) (map (linear_eq v) E) ∙ (let a = length_differs p vs ds t in let b = length_equals v E in omega arith) in
      ap clause_words clause_is
      ∙ ap (λ (k : ℕ). pos 0 ∷ pos k ∷ linears_words (differs vs ds p t ++ map (linear_eq v) E)) z
      ∙ ap (λ (u : List ℤ). pos 0 ∷ pos (p + length E) ∷ u) (linears_append (differs vs ds p t) (map (linear_eq v) E))

  pub clause_done : (c v' o a b d r : ℕ) (s s1 s2 s3 s4 : List ℤ) (w0 w : ℤ) → length s ≤ cap → v' ≡ v → c ≡ length E → w0 ≡ pos 0 → w ≡ pos (p + c)
      → Wrote s o (w0 ∷ []) s1 a → Wrote s1 a (w ∷ []) s2 b → Wrote s2 b (linears_words (differs vs ds p t)) s3 d → Wrote s3 d (linears_words (map (linear_eq v') E)) s4 r
      → Wrote s o (clause_words (column_clause vs ds p i (group_of n m t))) s4 r
  clause_done c v' o a b d r s s1 s2 s3 s4 w0 w ls ev ec e0 ew p1 p2 p3 p4 =
      let l1 : length s1 ≤ cap = omega (arith, wrote_length p1) in
      let l2 : length s2 ≤ cap = omega (arith, wrote_length p2) in
      wrote_to (ap (λ (k : ℕ). w0 ∷ w ∷ (linears_words (differs vs ds p t) ++ linears_words (map (linear_eq k) E))) ev ∙ rw (e0, ew, ec) refl ∙ sym clause_said) (wrote_then ls p1 (wrote_then l1 p2 (wrote_then l2 p3 p4)))
