-- Reading is exact: a parser accepts words exactly when they are the words of a value that fits, and then the rest; and it gives that value back.
-- Assumes nothing.
use Rattle.std.specs.Prelude.{◌≡◌, Bool, true, false, cond, ℤ, pos, negsuc, nat_abs, length, leb, ltb}
use Rattle.std.proofs.Math.Path.{refl, sym, ap}
use Rattle.std.proofs.Common.{◌∙◌, arith, ltb-true, leb-true, lt-ltb, le-leb}
use mathlib.Core.List.{List, [], ◌∷◌, ◌++◌, map, append_assoc}
use Prim.Native.Nat.{ℕ, zero, suc, ◌≤◌, ◌<◌}
use Rattle.laws.specs.Lists.{flat}
use Rattle.syntax.specs.Words.{max_count, max_value}
use Rattle.words.specs.Parse.{Parsed, ok, refuse, Parser, parse_then, times, word, up_to_at, up_to, count, index_at, index, in_value_range, number}

pub record Exact {A : Type 0} (words : A → List ℤ) (Fits : A → Type 0) (p : Parser A) : Type 0 where
  pub sound : (xs : List ℤ) (a : A) (r : List ℤ) → p xs ≡ ok a r → (xs ≡ words a ++ r) × Fits a
  pub complete : (a : A) (r : List ℤ) → Fits a → p (words a ++ r) ≡ ok a r

pub refuse_ok : {A X : Type 0} (k : ℕ) (a : A) (r : List ℤ) → refuse k ≡ ok a r → X
refuse_ok k a r h = absurd (let z : ◌≡◌ {A = ℕ} 0 1 = cc in omega arith)

pub parse_then_ok : {A B X : Type 0} (q : Parsed A) (f : A → Parser B) (b : B) (s : List ℤ) → parse_then q f ≡ ok b s
    → ((a : A) (r : List ℤ) → q ≡ ok a r → f a r ≡ ok b s → X) → X
parse_then_ok (ok a r) f b s h go = go a r refl h
parse_then_ok (refuse k) f b s h go = refuse_ok k b s h

-- a test that was passed
pub cond_ok : {A X : Type 0} (t : Bool) (q : Parsed A) (k : ℕ) (a : A) (r : List ℤ) → cond t q (refuse k) ≡ ok a r → (t ≡ true → q ≡ ok a r → X) → X
cond_ok true q k a r h go = go refl h
cond_ok false q k a r h go = refuse_ok k a r h

pub word_ok : (xs : List ℤ) (w : ℤ) (r : List ℤ) → word xs ≡ ok w r → xs ≡ w ∷ r
word_ok [] w r h = refuse_ok 3 w r h
word_ok (x ∷ xs) w r h = cc

-- ---- numbers

abbrev pub number_words : ℕ → List ℤ
number_words n = pos n ∷ []

abbrev pub value_words : ℤ → List ℤ
value_words z = z ∷ []

-- a value, a coefficient or a constant
abbrev pub Value : ℤ → Type 0
Value z = nat_abs z ≤ max_value

pub up_to_exact : (limit k : ℕ) → Exact number_words (λ n. n ≤ limit) (up_to limit k)
unfolding up_to
up_to_exact limit k = record {
  sound = λ xs n r h. parse_then_ok (word xs) (up_to_at limit k) n r h λ w s hw hs. rw (word_ok xs w s hw) (at w s n r hs);
  complete = λ n r h. rw (le-leb n limit h) refl;
}
  where
    at : (w : ℤ) (s : List ℤ) (n : ℕ) (r : List ℤ) → up_to_at limit k w s ≡ ok n r → (w ∷ s ≡ pos n ∷ r) × (n ≤ limit)
    at (pos m) s n r e = cond_ok (leb m limit) (ok m s) k n r e λ t q. let i : m ≡ n = cc in (cc, rw (← i) (leb-true m limit t))
    at (negsuc m) s n r e = refuse_ok k n r e

pub count_exact : Exact number_words (λ n. n ≤ max_count) count
unfolding count
count_exact = up_to_exact max_count 4

pub index_exact : (n : ℕ) → Exact number_words (λ i. i < n) (index n)
unfolding index
index_exact n = record {
  sound = λ xs i r h. parse_then_ok (word xs) (index_at n) i r h λ w s hw hs. rw (word_ok xs w s hw) (at w s i r hs);
  complete = λ i r h. rw (lt-ltb i n h) refl;
}
  where
    at : (w : ℤ) (s : List ℤ) (i : ℕ) (r : List ℤ) → index_at n w s ≡ ok i r → (w ∷ s ≡ pos i ∷ r) × (i < n)
    at (pos m) s i r e = cond_ok (ltb m n) (ok m s) 6 i r e λ t q. let j : m ≡ i = cc in (cc, rw (← j) (ltb-true m n t))
    at (negsuc m) s i r e = refuse_ok 6 i r e

pub number_exact : Exact value_words Value number
unfolding number
number_exact = record {
  sound = λ xs z r h. parse_then_ok (word xs) _ z r h λ w s hw hs. rw (word_ok xs w s hw) (at w s z r hs);
  complete = λ z r h. rw (le-leb (nat_abs z) max_value h) refl;
}
  where
    at : (w : ℤ) (s : List ℤ) (z : ℤ) (r : List ℤ) → cond (in_value_range w) (ok w s) (refuse 4) ≡ ok z r → (w ∷ s ≡ z ∷ r) × Value z
    at w s z r e = cond_ok (in_value_range w) (ok w s) 4 z r e λ t q. let j : w ≡ z = cc in (cc, rw (← j) (leb-true (nat_abs w) max_value t))

-- ---- lists

-- every element fits
abbrev pub Each : {A : Type 0} → (A → Type 0) → List A → Type 0
Each P [] = Unit {0}
Each P (x ∷ xs) = P x × Each P xs

module _ {A : Type 0} (words : A → List ℤ) (Fits : A → Type 0) (p : Parser A) (x : Exact words Fits p) where
  times_sound : (n : ℕ) (xs : List ℤ) (vs : List A) (r : List ℤ) → times n p xs ≡ ok vs r → (xs ≡ flat (map words vs) ++ r) × ((length vs ≡ n) × Each Fits vs)
  unfolding times
  times_sound zero xs vs r h =
      let m : [] ≡ vs = cc in
      let e : xs ≡ r = cc in
      rw (e, ← m) (refl, (refl, tt))
  times_sound (suc n) xs vs r h =
      parse_then_ok (p xs) _ vs r h λ a s ha h1.
      parse_then_ok (times n p s) _ vs r h1 λ bs t hb h2.
      let m : a ∷ bs ≡ vs = cc in
      let e : t ≡ r = cc in
      let i = x.sound xs a s ha in
      let j = times_sound n s bs t hb in
      rw (← m, ← e) (i.0 ∙ ap (λ l. words a ++ l) j.0 ∙ sym (append_assoc (words a) (flat (map words bs)) t), (ap suc j.1.0, (i.1, j.1.1)))

  times_complete : (vs : List A) (r : List ℤ) → Each Fits vs → times (length vs) p (flat (map words vs) ++ r) ≡ ok vs r
  unfolding times
  times_complete [] r h = refl
  times_complete (a ∷ vs) r h =
      rw (append_assoc (words a) (flat (map words vs)) r, x.complete a (flat (map words vs) ++ r) h.0, times_complete vs r h.1) refl

  pub times_exact : (n : ℕ) → Exact (λ vs. flat (map words vs)) (λ vs. (length vs ≡ n) × Each Fits vs) (times n p)
  times_exact n = record {
    sound = times_sound n;
    complete = λ vs r h. rw (← h.0) (times_complete vs r h.1);
  }
