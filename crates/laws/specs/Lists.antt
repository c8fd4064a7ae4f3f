-- Lists: tests of every element, filters, counted lists, runs of numbers; and their laws. Assumes nothing.
use Rattle.std.specs.Prelude.{length, take, drop, ◌≡◌, refl, Bool, true, false, ◌&&◌, ◌||◌, cond, List, [], ◌∷◌, ◌++◌, map, ℕ, zero, suc, ◌+◌, ◌≤◌, ◌<◌, ℤ, pos, eqb, ltb}
use Rattle.std.proofs.Common.{sym, ap, ◌∙◌, append_assoc, arith, eqb-true, ltb-true, ltb-false}
use Rattle.std.proofs.lemmas.Bool.{eqb-false}
use Rattle.laws.specs.Bools.{and_l, and_r, and_i, or_assoc, and_assoc, or_l, or_r}

module _ {A : Type 0} where
  abbrev pub any : (A → Bool) → List A → Bool
  any f [] = false
  any f (x ∷ xs) = f x || any f xs

  abbrev pub all : (A → Bool) → List A → Bool
  all f [] = true
  all f (x ∷ xs) = f x && all f xs

  abbrev pub keep_if : Bool → A → List A → List A
  keep_if true x xs = x ∷ xs
  keep_if false x xs = xs

  abbrev pub select : (A → Bool) → List A → List A
  select f [] = []
  select f (x ∷ xs) = keep_if (f x) x (select f xs)

  abbrev pub flat : List (List A) → List A
  flat [] = []
  flat (xs ∷ xss) = xs ++ flat xss

-- a count, then the words of each
abbrev pub counted : {A : Type 0} → (A → List ℤ) → List A → List ℤ
counted words xs = pos (length xs) ∷ flat (map words xs)

-- n numbers from i on
abbrev pub from : ℕ → ℕ → List ℕ
from i zero = []
from i (suc n) = i ∷ from (suc i) n

abbrev pub below : ℕ → List ℕ
below n = from 0 n

-- how many different numbers a list has
abbrev pub different : List ℕ → ℕ
different [] = 0
different (x ∷ xs) = cond (any (eqb x) xs) (different xs) (suc (different xs))

-- ---- laws

module _ {A : Type 0} where
  pub any_append : (f : A → Bool) (xs ys : List A) → any f (xs ++ ys) ≡ any f xs || any f ys
  any_append f [] ys = refl
  any_append f (x ∷ xs) ys = ap (λ b. f x || b) (any_append f xs ys) ∙ sym (or_assoc (f x) (any f xs) (any f ys))

  pub all_append : (f : A → Bool) (xs ys : List A) → all f (xs ++ ys) ≡ all f xs && all f ys
  all_append f [] ys = refl
  all_append f (x ∷ xs) ys = ap (λ b. f x && b) (all_append f xs ys) ∙ sym (and_assoc (f x) (all f xs) (all f ys))

  pub flat_append : (xss yss : List (List A)) → flat (xss ++ yss) ≡ flat xss ++ flat yss
  flat_append [] yss = refl
  flat_append (xs ∷ xss) yss = ap (λ l. xs ++ l) (flat_append xss yss) ∙ sym (append_assoc xs (flat xss) (flat yss))

-- ---- tests that follow from tests

module _ {A : Type 0} where
  pub any_cong : (f g : A → Bool) (xs : List A) → ((x : A) → f x ≡ g x) → any f xs ≡ any g xs
  any_cong f g [] h = refl
  any_cong f g (x ∷ xs) h = rw (h x, any_cong f g xs h)

  pub any_split : (f : A → Bool) (k : ℕ) (xs : List A) → any f xs ≡ any f (take k xs) || any f (drop k xs)
  any_split f zero xs = refl
  any_split f (suc k) [] = refl
  any_split f (suc k) (x ∷ xs) = rw (any_split f k xs) (sym (or_assoc (f x) (any f (take k xs)) (any f (drop k xs))))

  pub any_mono : (f g : A → Bool) (xs : List A) → ((x : A) → f x ≡ true → g x ≡ true) → any f xs ≡ true → any g xs ≡ true
  any_mono f g [] h k = k
  any_mono f g (x ∷ xs) h k = go (f x) refl k (any_mono f g xs h)
    where
      go : (t : Bool) → f x ≡ t → t || any f xs ≡ true → (any f xs ≡ true → any g xs ≡ true) → g x || any g xs ≡ true
      go true e k q = or_l (g x) (any g xs) (h x e)
      go false e k q = or_r (g x) (any g xs) (q k)

  pub all_mono : (f g : A → Bool) (xs : List A) → ((x : A) → f x ≡ true → g x ≡ true) → all f xs ≡ true → all g xs ≡ true
  all_mono f g [] h k = refl
  all_mono f g (x ∷ xs) h k = and_i (g x) (all g xs) (h x (and_l (f x) (all f xs) k)) (all_mono f g xs h (and_r (f x) (all f xs) k))

  -- where f holds of all, and g never with f, g holds of none
  pub none_of : (f g : A → Bool) (xs : List A) → ((x : A) → f x ≡ true → g x ≡ false) → all f xs ≡ true → any g xs ≡ false
  none_of f g [] h k = refl
  none_of f g (x ∷ xs) h k = rw (h x (and_l (f x) (all f xs) k), none_of f g xs h (and_r (f x) (all f xs) k))

  pub length_select : (f : A → Bool) (xs : List A) → length (select f xs) ≤ length xs
  length_select f [] = omega arith
  length_select f (x ∷ xs) = go (f x) (length_select f xs)
    where
      go : (t : Bool) → length (select f xs) ≤ length xs → length (keep_if t x (select f xs)) ≤ suc (length xs)
      go true h = omega arith
      go false h = omega arith

  pub all_select : (f g : A → Bool) (xs : List A) → all f xs ≡ true → all f (select g xs) ≡ true
  all_select f g [] h = refl
  all_select f g (x ∷ xs) h = go (g x) (all_select f g xs (and_r (f x) (all f xs) h))
    where
      go : (t : Bool) → all f (select g xs) ≡ true → all f (keep_if t x (select g xs)) ≡ true
      go true q = and_i (f x) (all f (select g xs)) (and_l (f x) (all f xs) h) q
      go false q = q

  pub all_take : (f : A → Bool) (k : ℕ) (xs : List A) → all f xs ≡ true → all f (take k xs) ≡ true
  all_take f zero xs h = refl
  all_take f (suc k) [] h = refl
  all_take f (suc k) (x ∷ xs) h = and_i (f x) _ (and_l (f x) (all f xs) h) (all_take f k xs (and_r (f x) (all f xs) h))

  pub all_drop : (f : A → Bool) (k : ℕ) (xs : List A) → all f xs ≡ true → all f (drop k xs) ≡ true
  all_drop f zero xs h = h
  all_drop f (suc k) [] h = refl
  all_drop f (suc k) (x ∷ xs) h = all_drop f k xs (and_r (f x) (all f xs) h)

-- ---- every number of a run

-- the first number of a run from i on that holds v, or a later one
pub least : {X : Type 0} (i v : ℕ) (t : Bool) → ltb i v ≡ t → i ≤ v → (i < v → X) → (i ≡ v → X) → X
least i v true q l f g = f (ltb-true i v q)
least i v false q l f g = g (omega (arith, ltb-false i v q))

all_from : (f : ℕ → Bool) (i n v : ℕ) → all f (from i n) ≡ true → i ≤ v → v < i + n → f v ≡ true
all_from f i zero v h a b = absurd (omega arith)
all_from f i (suc n) v h a b = go (eqb i v) refl (λ c. all_from f (suc i) n v (and_r (f i) (all f (from (suc i) n)) h) c (omega arith))
  where
    go : (t : Bool) → eqb i v ≡ t → (suc i ≤ v → f v ≡ true) → f v ≡ true
    go true e k = rw (sym (eqb-true i v e)) (and_l (f i) (all f (from (suc i) n)) h)
    go false e k = let ne = eqb-false i v e in k (omega arith)

pub all_below : (f : ℕ → Bool) (n v : ℕ) → all f (below n) ≡ true → v < n → f v ≡ true
all_below f n v h b = all_from f 0 n v h (omega arith) (omega arith)

from_all : (f : ℕ → Bool) (i n : ℕ) → ((v : ℕ) → v < i + n → f v ≡ true) → all f (from i n) ≡ true
from_all f i zero h = refl
from_all f i (suc n) h = and_i (f i) (all f (from (suc i) n)) (h i (omega arith)) (from_all f (suc i) n (λ v k. h v (omega arith)))

pub below_all : (f : ℕ → Bool) (n : ℕ) → ((v : ℕ) → v < n → f v ≡ true) → all f (below n) ≡ true
below_all f n h = from_all f 0 n (λ v k. h v (omega arith))

pub length_from : (k n : ℕ) → length (from k n) ≡ n
length_from k zero = refl
length_from k (suc n) = ap suc (length_from (suc k) n)
