-- The same words, as a test. Assumes nothing.
use Rattle.std.specs.Prelude.{◌≡◌, refl, Bool, true, false, ◌&&◌, List, [], ◌∷◌, ℤ}
use Rattle.laws.specs.Bools.{and_l, and_r, and_i, never}
use Rattle.laws.specs.Ints.{eqZ}
use Rattle.laws.specs.Order.{eqZ_is, eqZ_refl}

unfoldable pub same_words : List ℤ → List ℤ → Bool
same_words [] [] = true
same_words [] (y ∷ ys) = false
same_words (x ∷ xs) [] = false
same_words (x ∷ xs) (y ∷ ys) = eqZ x y && same_words xs ys

pub same_is : (xs ys : List ℤ) → same_words xs ys ≡ true → xs ≡ ys
unfolding same_words
same_is [] [] h = refl
same_is [] (y ∷ ys) h = never h
same_is (x ∷ xs) [] h = never h
same_is (x ∷ xs) (y ∷ ys) h = rw (eqZ_is x y (and_l (eqZ x y) _ h), same_is xs ys (and_r (eqZ x y) _ h)) refl

pub same_refl : (xs : List ℤ) → same_words xs xs ≡ true
unfolding same_words
same_refl [] = refl
same_refl (x ∷ xs) = and_i (eqZ x x) (same_words xs xs) (eqZ_refl x) (same_refl xs)
