-- Equal Ifs: their words compared one by one, and the first place where one has its number.
use Rattle.std.specs.Prelude.{Option as Found, None, Some, ◌≡◌, Bool, ◌&&◌, List, ◌∷◌, ℤ, pos, negsuc, length, get_or, take, drop}
use Rattle.std.proofs.Math.Path.{refl}
use Rattle.std.proofs.Common.{sym, ap, ◌∙◌, sub-one, length-take, length-drop, drop-cons, get_or-take, leb-true, eqb-true}
use Rattle.std.proofs.Math.Bool.{true, false, cond}
use Rattle.std.proofs.Math.Option.{Option, none, some}
use Prim.Native.Nat.{ℕ, zero, suc, ◌+◌, ◌-◌, ◌≤◌, ◌<◌, min}
use native.Mathlib.Omega.{arith}
use Rattle.std.specs.Int.Signed.{le_z}
use Rattle.laws.specs.Bools.{never}
use Rattle.laws.specs.Ints.{eqZ}
use Rattle.laws.specs.Order.{eqZ_refl}
use Rattle.laws.specs.Same.{same_words, same_is}
use Rattle.memory.specs.Places.{folded, folded_end}
use Rattle.walk.specs.Decode.{read_part}
use Rattle.walk.proofs.NumberingSteps.{part_length}
use Rattle.walks.specs.Tree.{Place}
use Rattle.walks.specs.Item.{cell, seen_in, seen}
use Rattle.walks.specs.Meet.{is_unseen, is_shared, words_at, equal_from, find_equal}

-- the place that the code found, as the walk has it
abbrev pub option_of : Found ℕ → Option ℕ
option_of None = none
option_of (Some q) = some q

-- an If of the same n words has its number at q
abbrev pub equal_at : List ℤ → ℕ → ℕ → ℕ → Bool
equal_at w p q n = is_shared (seen_in (cell w (q + 1))) && same_words (words_at w q n) (words_at w p n)

-- ---- word by word

words_more : (w : List ℤ) (p n : ℕ) → folded_end ≤ length w → p < folded_end → words_at w p (suc n) ≡ get_or w p (pos 0) ∷ words_at w (suc p) n
unfolding words_at read_part
words_more w p n h i = ap (take (suc n)) (drop-cons (take folded_end w) p (pos 0) (omega (arith, length-take folded_end w))) ∙ ap (λ (x : ℤ). x ∷ take n (drop (suc p) (take folded_end w))) (get_or-take folded_end w p (pos 0) i)

-- the first i words are the same
pub record Sofar (w : List ℤ) (p q n i : ℕ) : Type 0 where
  pub same : same_words (words_at w (q + i) (n - i)) (words_at w (p + i) (n - i)) ≡ same_words (words_at w q n) (words_at w p n)
  pub some : i ≤ n

module _ (w : List ℤ) (p q n : ℕ) where
  pub sofar_none : Sofar w p q n 0
  sofar_none =
      let a : q + 0 ≡ q = omega arith in
      let b : p + 0 ≡ p = omega arith in
      let c : n - 0 ≡ n = omega arith in
      record { same = rw (a, b, c) refl; some = omega arith }

  module _ (h : folded_end ≤ length w) (a : p + n ≤ folded_end) (b : q + n ≤ folded_end) (i : ℕ) (x : Sofar w p q n i) where
    step : i < n → same_words (words_at w (q + i) (n - i)) (words_at w (p + i) (n - i)) ≡ eqZ (get_or w (q + i) (pos 0)) (get_or w (p + i) (pos 0)) && same_words (words_at w (q + (i + 1)) (n - (i + 1))) (words_at w (p + (i + 1)) (n - (i + 1)))
    unfolding same_words
    step l =
        let e : n - i ≡ suc (n - (i + 1)) = omega arith in
        let f : suc (q + i) ≡ q + (i + 1) = omega arith in
        let g : suc (p + i) ≡ p + (i + 1) = omega arith in
        rw (e, words_more w (q + i) (n - (i + 1)) h (omega arith), words_more w (p + i) (n - (i + 1)) h (omega arith), f, g) refl

    pub sofar_more : i < n → get_or w (q + i) (pos 0) ≡ get_or w (p + i) (pos 0) → Sofar w p q n (i + 1)
    sofar_more l e = record { same = sym (step l ∙ rw (e, eqZ_refl (get_or w (p + i) (pos 0))) refl) ∙ x.same; some = omega arith }

    pub sofar_not : i < n → eqZ (get_or w (q + i) (pos 0)) (get_or w (p + i) (pos 0)) ≡ false → false ≡ same_words (words_at w q n) (words_at w p n)
    sofar_not l e = sym (step l ∙ rw e refl) ∙ x.same

    pub sofar_all : n ≤ i → true ≡ same_words (words_at w q n) (words_at w p n)
    unfolding words_at same_words
    sofar_all l = let e : n - i ≡ 0 = omega arith in rw e at x.same

-- ---- at one place

pub not_shared : (w : List ℤ) (p q n : ℕ) (z : ℤ) → z ≡ cell w (q + 1) → le_z z (pos 0) ≡ true → false ≡ equal_at w p q n
not_shared w p q n z e h = rw (← e) (go z h)
  where
    go : (z : ℤ) → le_z z (pos 0) ≡ true → false ≡ is_shared (seen_in z) && same_words (words_at w q n) (words_at w p n)
    go (pos zero) h = refl
    go (pos (suc v)) h = absurd (let l = leb-true (suc v) 0 h in omega arith)
    go (negsuc zero) h = refl
    go (negsuc (suc v)) h = refl

shared : (z : ℤ) → le_z z (pos 0) ≡ false → is_shared (seen_in z) ≡ true
shared (pos zero) h = never (sym h)
shared (pos (suc v)) h = refl
shared (negsuc zero) h = never (sym h)
shared (negsuc (suc v)) h = never (sym h)

pub is_shared_at : (w : List ℤ) (p q n : ℕ) (z : ℤ) (b : Bool) → z ≡ cell w (q + 1) → le_z z (pos 0) ≡ false → b ≡ same_words (words_at w q n) (words_at w p n) → b ≡ equal_at w p q n
is_shared_at w p q n z b e h i = rw (← e, shared z h) i

words_size : (w : List ℤ) (k n : ℕ) → folded_end ≤ length w → length (words_at w k n) ≡ min n (folded_end - k)
unfolding words_at
words_size w k n h = length-take n (drop k (read_part w)) ∙ ap (min n) (length-drop k (read_part w) ∙ ap (λ (m : ℕ). m - k) (part_length w h))

-- past the end there are fewer words
pub too_long : (w : List ℤ) (p q n : ℕ) → folded_end ≤ length w → p + n ≤ folded_end → folded_end < q + n → q ≤ folded_end → false ≡ same_words (words_at w q n) (words_at w p n)
too_long w p q n h a b c = go (same_words (words_at w q n) (words_at w p n)) refl
  where
    go : (t : Bool) → same_words (words_at w q n) (words_at w p n) ≡ t → false ≡ t
    go false e = refl
    go true e = absurd (let l = ap length (same_is (words_at w q n) (words_at w p n) e) in omega (arith, words_size w q n h, words_size w p n h))

-- ---- from place to place

-- none before q is equal; so many places are left
pub record Seeking (w : List ℤ) (p : Place) (k q : ℕ) : Type 0 where
  pub rest : equal_from w p k q ≡ equal_from w p 4096 folded
  pub place : q + k ≡ folded_end
  pub start : folded ≤ q

module _ (w : List ℤ) (p : Place) where
  pub seeking_first : Seeking w p 4096 folded
  seeking_first = record { rest = refl; place = refl; start = omega arith }

  pub seeking_next : (k q : ℕ) → Seeking w p k q → (k ≡ 0 → ⊥) → equal_at w p.at q p.size ≡ false → Seeking w p (k - 1) (q + 1)
  unfolding equal_from
  seeking_next zero q x z e = absurd (z refl)
  seeking_next (suc k) q x z e = let f : q + 1 ≡ suc q = omega arith in record { rest = rw (sub-one, f) (rw e at x.rest); place = omega (arith, x.place); start = omega (arith, x.start) }

  found : (k q : ℕ) → Seeking w p k q → (k ≡ 0 → ⊥) → equal_at w p.at q p.size ≡ true → some q ≡ equal_from w p 4096 folded
  unfolding equal_from
  found zero q x z e = absurd (z refl)
  found (suc k) q x z e = rw e at x.rest

  none_left : (k q : ℕ) → Seeking w p k q → k ≡ 0 → none ≡ equal_from w p 4096 folded
  unfolding equal_from
  none_left zero q x e = x.rest
  none_left (suc k) q x e = absurd (omega arith)

  pub seek_not_whole : p.whole ≡ false → none ≡ find_equal w p
  unfolding find_equal
  seek_not_whole e = go (is_unseen (seen w p)) e
    where
      go : (b : Bool) → p.whole ≡ false → none ≡ cond (b && p.whole) (equal_from w p 4096 folded) none
      go true e = rw e refl
      go false e = refl

  unseen_not : (z : ℤ) → eqZ z (pos 0) ≡ false → is_unseen (seen_in z) ≡ false
  unseen_not (pos zero) h = never (sym h)
  unseen_not (pos (suc v)) h = refl
  unseen_not (negsuc zero) h = refl
  unseen_not (negsuc (suc v)) h = refl

  unseen_is : (z : ℤ) → eqZ z (pos 0) ≡ true → is_unseen (seen_in z) ≡ true
  unseen_is (pos zero) h = refl
  unseen_is (pos (suc v)) h = absurd (let l = eqb-true (suc v) 0 h in omega arith)
  unseen_is (negsuc v) h = never h

  pub seek_seen : (z : ℤ) → z ≡ cell w (p.at + 1) → eqZ z (pos 0) ≡ false → none ≡ find_equal w p
  unfolding find_equal seen
  seek_seen z e h = rw (← e, unseen_not z h) refl

  module _ (z : ℤ) (e : z ≡ cell w (p.at + 1)) (h : eqZ z (pos 0) ≡ true) (whole : p.whole ≡ true) where
    unseen_whole : equal_from w p 4096 folded ≡ find_equal w p
    unfolding find_equal seen
    unseen_whole = rw (← e, unseen_is z h, whole) refl

    pub seek_found : (k q : ℕ) → Seeking w p k q → (k ≡ 0 → ⊥) → equal_at w p.at q p.size ≡ true → (some q ≡ find_equal w p) × (q ≤ folded_end)
    seek_found k q x y i = (found k q x y i ∙ unseen_whole, omega (arith, x.place))

    pub seek_none : (k q : ℕ) → Seeking w p k q → k ≡ 0 → none ≡ find_equal w p
    seek_none k q x y = none_left k q x y ∙ unseen_whole
