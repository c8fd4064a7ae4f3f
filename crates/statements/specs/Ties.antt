-- Merging in the work slice: what the pass over the folded rules makes of the Boolean map, read from the rules' words, is the map of the merged log.
-- F: the folded words in the work slice, in which the statements stand from a place on.
use Rattle.std.specs.Prelude.{◌≡◌, refl, Bool, true, false, ◌&&◌, cond, List, [], ◌∷◌, map, ℕ, suc, ◌+◌, ◌≤◌, ◌<◌, eqb, ltb, ℤ, length, set}
use Rattle.std.proofs.Common.{sym, ◌∙◌, subst, arith, length-set, get_or-set_same}
use Rattle.std.proofs.Math.Path.{ap}
use Rattle.std.proofs.lemmas.Bool.{false≢true}
use Rattle.std.proofs.Math.Option.{Option, none, some}
use borrow.Author.Tests.{eqb-true, eq-eqb, ne_eqb, lt-ltb}
use Rattle.std.proofs.Math.IntN.{pos}
use Rattle.laws.specs.Ints.{is_zero}
use Rattle.laws.specs.Slices.{Has, has_back, has_word}
use Rattle.memory.specs.Places.{bool_map, limit}
use Rattle.memory.specs.Number.{nat}
use Rattle.syntax.specs.Syntax.{Stmt, encode_stmt}
use Rattle.syntax.specs.Words.{max_bools}
use Rattle.clauses.specs.Clause.{BoolLit, lit}
use Rattle.clauses.specs.Log.{declared, bool, merged, Log, next_bool, negate_lit, negate_found, get_bool_var, get_int_var}
use Rattle.clauses.specs.Merge.{tie_found, tie}
use Rattle.answer.specs.Answer.{bool_word}
use Rattle.walk.specs.Item.{bump, bool_at, signed, State, new_bool, meet_bool}
use Rattle.walk.specs.Decode.{word}
use Rattle.walk.proofs.Grow.{bool_below, bool_here, lit_word, signed_lit}
use Rattle.walk.proofs.Num.{Numbered, word_some, bool_other, int_other, bool_num}

-- ---- two variables

-- v gets a word
abbrev pub give : ℕ → ℤ → State → State
give v z st = record { work = set st.work (bool_map + v) z; bools = st.bools; ints = st.ints }

-- by whether x, and whether y, is without a word
abbrev pub tie_words : Bool → Bool → ℕ → ℕ → Bool → State → State
tie_words true true x y g st = give y (signed (pos (bump st.bools 1)) g) (new_bool x st)
tie_words true false x y g st = give x (signed (bool_at st.work y) g) st
tie_words false true x y g st = give y (signed (bool_at st.work x) g) st
tie_words false false x y g st = st

unfoldable pub meet_tie : ℕ → ℕ → Bool → State → State
meet_tie x y g st = cond (eqb x y) st (tie_words (is_zero (bool_at st.work x)) (is_zero (bool_at st.work y)) x y g st)

-- ---- the rule at a place

-- the two sides from a place on, if both are variables
unfoldable pub meet_sides : List ℤ → ℕ → Bool → State → State
meet_sides F at g st =
    cond (eqb (word F at) 11 && (eqb (word F (at + 2)) 11 && (ltb (word F (at + 1)) max_bools && ltb (word F (at + 3)) max_bools)))
    (meet_tie (word F (at + 1)) (word F (at + 3)) g st) st

unfoldable pub meet_ties_at : List ℤ → ℕ → State → State
meet_ties_at F at st =
    cond (eqb (word F at) 1)
    (cond (eqb (word F (at + 1)) 15) (meet_sides F (at + 2) true st)
    (cond (eqb (word F (at + 1)) 16) (meet_sides F (at + 2) false st) st)) st

unfoldable pub meet_ties : List ℤ → ℕ → List Stmt → State → State
meet_ties F at [] st = st
meet_ties F at (t ∷ ts) st = meet_ties F (at + length (encode_stmt t)) ts (meet_ties_at F at st)

-- ---- the map is the log's

zero_some : (l : BoolLit) → is_zero (bool_word (some l)) ≡ false
zero_some (lit n false) = ne_eqb (suc n) 0 (λ q. omega arith)
zero_some (lit n true) = refl

give_num : (u v : ℕ) (g : Bool) (st : State) (s : Log) (l : BoolLit) → get_bool_var u s ≡ some l → v < max_bools → Numbered st s → next_bool s ≤ limit → Numbered (give v (signed (lit_word l) g) st) (merged v u g ∷ s)
unfolding get_bool_var get_int_var bool_at
give_num u v g st s l e hv h low = record {
  map = λ x hx. mp x hx (eqb x v) refl;
  map_int = λ x hx. int_other st.work (bool_map + v) _ x (λ q. omega arith) ∙ h.map_int x hx;
  bools = h.bools;
  low = λ x n q. lw x n (eqb x v) refl q;
  size = rw length-set h.size;
}
  where
    sign : signed (lit_word l) g ≡ bool_word (some (negate_lit g l))
    sign = signed_lit l g (omega (arith, bool_below s u l e)) ∙ sym (word_some (negate_lit g l) (some (negate_lit g l)) refl)

    mp : (x : ℕ) → x < max_bools → (c : Bool) → eqb x v ≡ c → bool_at (set st.work (bool_map + v) (signed (lit_word l) g)) x ≡ bool_word (cond c (negate_found g (get_bool_var u s)) (get_bool_var x s))
    mp x hx true q =
        let p : x ≡ v = eqb-true x v q in
        rw (e, p) (get_or-set_same st.work (bool_map + v) _ (pos 0) (omega (arith, h.size)) ∙ sign)
    mp x hx false q = bool_other st.work (bool_map + v) _ x (λ k. false≢true (sym q ∙ eq-eqb x v (omega arith))) ∙ h.map x hx

    lw : (x : ℕ) (n : BoolLit) (c : Bool) → eqb x v ≡ c → cond c (negate_found g (get_bool_var u s)) (get_bool_var x s) ≡ some n → x < max_bools
    lw x n true q f = let p : x ≡ v = eqb-true x v q in omega arith
    lw x n false q f = h.low x n f

-- x has l
old_num : (x y : ℕ) (g : Bool) (st : State) (s : Log) (l : BoolLit) → get_bool_var x s ≡ some l → x < max_bools → y < max_bools → Numbered st s → next_bool s ≤ limit → Numbered (give y (signed (bool_at st.work x) g) st) (merged y x g ∷ s)
old_num x y g st s l e hx hy h low = let z : bool_at st.work x ≡ lit_word l = h.map x hx ∙ word_some l (get_bool_var x s) e in rw z (give_num x y g st s l e hy h low)

-- neither has
new_num : (x y : ℕ) (g : Bool) (st : State) (s : Log) → get_bool_var x s ≡ none → x < max_bools → y < max_bools → Numbered st s → suc (next_bool s) ≤ limit → Numbered (give y (signed (pos (bump st.bools 1)) g) (new_bool x st)) (merged y x g ∷ bool (declared x) ∷ s)
unfolding meet_bool
new_num x y g st s e hx hy h low =
    let z : is_zero (bool_at st.work x) ≡ true = ap is_zero (h.map x hx ∙ ap bool_word e) in
    let k : Numbered (new_bool x st) (bool (declared x) ∷ s) = rw z at (bool_num x st s none e hx h low) in
    let n : bump st.bools 1 ≡ suc (next_bool s) = omega (arith, h.bools) in
    subst (λ (z : ℤ). Numbered (give y (signed z g) (new_bool x st)) (merged y x g ∷ bool (declared x) ∷ s)) (ap pos (sym n)) (give_num x y g (new_bool x st) (bool (declared x) ∷ s) (lit (next_bool s) false) (bool_here x s) hy k low)

found_num : (x y : ℕ) (g : Bool) (st : State) (s : Log) (a b : Option BoolLit) → get_bool_var x s ≡ a → get_bool_var y s ≡ b → x < max_bools → y < max_bools → Numbered st s → next_bool (tie_found a b x y g s) ≤ limit
    → Numbered (tie_words (is_zero (bool_word a)) (is_zero (bool_word b)) x y g st) (tie_found a b x y g s)
found_num x y g st s (some l) (some m) p q hx hy h low = rw (zero_some l, zero_some m) h
found_num x y g st s (some l) none p q hx hy h low = rw (zero_some l) (old_num x y g st s l p hx hy h low)
found_num x y g st s none (some m) p q hx hy h low = rw (zero_some m) (old_num y x g st s m q hy hx h low)
found_num x y g st s none none p q hx hy h low = new_num x y g st s p hx hy h low

tie_num : (x y : ℕ) (g : Bool) (st : State) (s : Log) → x < max_bools → y < max_bools → Numbered st s → next_bool (tie (some x) (some y) g s) ≤ limit → Numbered (meet_tie x y g st) (tie (some x) (some y) g s)
unfolding meet_tie tie
tie_num x y g st s hx hy h low = go (eqb x y) low
  where
    a : is_zero (bool_at st.work x) ≡ is_zero (bool_word (get_bool_var x s))
    a = ap is_zero (h.map x hx)

    b : is_zero (bool_at st.work y) ≡ is_zero (bool_word (get_bool_var y s))
    b = ap is_zero (h.map y hy)

    go : (c : Bool) → next_bool (cond c s (tie_found (get_bool_var x s) (get_bool_var y s) x y g s)) ≤ limit
        → Numbered (cond c st (tie_words (is_zero (bool_at st.work x)) (is_zero (bool_at st.work y)) x y g st)) (cond c s (tie_found (get_bool_var x s) (get_bool_var y s) x y g s))
    go true l = h
    go false l = rw (a, b) (found_num x y g st s (get_bool_var x s) (get_bool_var y s) refl refl hx hy h l)

-- ---- the words of a rule

module _ (F : List ℤ) where
  pub word_is : (at n : ℕ) (us : List ℤ) → Has F at (pos n ∷ us) → word F at ≡ n
  unfolding word nat
  word_is at n us h = ap nat (has_word F at (pos n) us (pos 0) h)

  -- two variables
  pub two_num : (st : State) (s : Log) → Numbered st s → (at : ℕ) (g : Bool) (x y : ℕ) → Has F at (pos 11 ∷ pos x ∷ pos 11 ∷ pos y ∷ []) → x < max_bools → y < max_bools → next_bool (tie (some x) (some y) g s) ≤ limit → Numbered (meet_sides F at g st) (tie (some x) (some y) g s)
  unfolding meet_sides
  two_num st s h at g x y k hx hy low =
      let w0 = word_is at 11 _ k in
      let w1 = word_is (at + 1) x _ (has_back F at (pos 11 ∷ []) _ k) in
      let w2 = word_is (at + 2) 11 _ (has_back F at (pos 11 ∷ pos x ∷ []) _ k) in
      let w3 = word_is (at + 3) y _ (has_back F at (pos 11 ∷ pos x ∷ pos 11 ∷ []) _ k) in
      rw (w0, w1, w2, w3, lt-ltb x max_bools hx, lt-ltb y max_bools hy) (tie_num x y g st s hx hy h low)
