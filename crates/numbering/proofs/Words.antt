-- Laws of the words of Ifs and of the records, as signed words. Assumes nothing.
use mathlib.Core.Path.{◌≡◌, refl, ap, ◌∙◌}
use mathlib.Core.Bool.{Bool, true, false}
use mathlib.Core.List.{List, [], ◌∷◌}
use Prim.Native.Nat.{ℕ, zero, suc, ◌+◌, ◌-◌, ◌≤◌}
use native.Mathlib.Omega.{arith}
use native.Mathlib.Numerals.{sub-one, add-one}
use lib.IntN.{ℤ, pos, negsuc, neg_ℤ, nat_abs, ◌-ℤ◌, ◌+ℤ◌, +ℤ_idl, +ℤ_invr}
use lib.Seq.{sets}
use lib.Signed.{lt_z, non_neg}
use lib.Dec.{T, ltb}
use mir.Syntax.{w32, w64}
use mir.Val.{SFits, Fits, of_z, to_z}
use mir.Facts.{to_z-of_z, Fits-nat_abs}
use borrow.Author.Tests.{ltb-true, ltb-false, le-ltb}
use Rattle.laws.specs.Bools.{never}
use Rattle.laws.specs.Ints.{eqZ, natAbs_add, natAbs_negℤ, sfits_natAbs}
use Rattle.laws.specs.Order.{eqZ_is, eqZ_refl}
use Rattle.laws.specs.Signed.{tests_of, same_value}
use Rattle.memory.specs.Places.{limit}
use Rattle.memory.proofs.Laws.{number_is}
use Rattle.syntax.specs.Syntax.{Range}
use Rattle.syntax.specs.Words.{max_weight}
use Rattle.walks.specs.Item.{seen_in, known_in}
use Rattle.walks.specs.Meet.{number_word, range_record, two_record}

pub differ : (y z : ℤ) → (of_z w32 y ≡ of_z w32 z → ⊥) → eqZ y z ≡ false
differ y z h = go (eqZ y z) refl
  where
    go : (b : Bool) → eqZ y z ≡ b → b ≡ false
    go true e = absurd (h (ap (of_z w32) (eqZ_is y z e)))
    go false e = refl

-- ---- the number in an If's word

above : (z : ℤ) → lt_z (pos 0) z ≡ true → T (non_neg z) × (1 ≤ nat_abs z)
above (pos n) h = (tt, omega (arith, ltb-true 0 n h))
above (negsuc n) h = never h

pub above_cast : (z : ℤ) → SFits w32 z → lt_z (pos 0) (to_z w32 (of_z w32 z)) ≡ true → T (non_neg (to_z w32 (of_z w32 z))) × Fits w64 (nat_abs (to_z w32 (of_z w32 z)))
above_cast z f h = rw (to_z-of_z f) ((above z (rw (to_z-of_z f) at h)).0, Fits-nat_abs tt f)

pub above_some : (z : ℤ) → SFits w32 z → lt_z (pos 0) (to_z w32 (of_z w32 z)) ≡ true → 1 ≤ nat_abs (to_z w32 (of_z w32 z))
above_some z f h = rw (to_z-of_z f) (above z (rw (to_z-of_z f) at h)).1

pub known_shared : (z : ℤ) (k : ℕ) → SFits w32 z → lt_z (pos 0) (to_z w32 (of_z w32 z)) ≡ true → ltb (nat_abs (to_z w32 (of_z w32 z)) - 1) k ≡ known_in (seen_in z) k
known_shared z k f h = rw (to_z-of_z f) (go z (rw (to_z-of_z f) at h))
  where
    go : (z : ℤ) → lt_z (pos 0) z ≡ true → ltb (nat_abs z - 1) k ≡ known_in (seen_in z) k
    go (pos zero) h = never h
    go (pos (suc v)) h = rw sub-one refl
    go (negsuc n) h = never h

minus_two : (v : ℕ) → negsuc 1 -ℤ negsuc (suc v) ≡ pos v
minus_two v = let e : suc (suc v) - 2 ≡ v = omega arith in rw (le-ltb (suc (suc v)) 2 (omega arith), e) refl

private_is : (z : ℤ) (k : ℕ) → SFits w32 z → lt_z z (negsuc 0) ≡ true → SFits w32 (negsuc 1 -ℤ z) × T (non_neg (negsuc 1 -ℤ z)) × (ltb (nat_abs (negsuc 1 -ℤ z)) k ≡ known_in (seen_in z) k)
private_is (pos n) k f h = never h
private_is (negsuc zero) k f h = never h
private_is (negsuc (suc v)) k f h = rw (minus_two v) (record { sfits = omega (arith, f.sfits) }, tt, refl)

pub private_fits : (z : ℤ) → SFits w32 z → lt_z (to_z w32 (of_z w32 z)) (negsuc 0) ≡ true → SFits w32 (negsuc 1 -ℤ to_z w32 (of_z w32 z))
private_fits z f h = rw (to_z-of_z f) (private_is z 0 f (rw (to_z-of_z f) at h)).0

pub private_cast : (z : ℤ) → SFits w32 z → lt_z (to_z w32 (of_z w32 z)) (negsuc 0) ≡ true → (let x = to_z w32 (of_z w32 (negsuc 1 -ℤ to_z w32 (of_z w32 z))) in T (non_neg x) × Fits w64 (nat_abs x))
private_cast z f h = rw (to_z-of_z (private_fits z f h)) (rw (to_z-of_z f) (private_is z 0 f (rw (to_z-of_z f) at h)).1, Fits-nat_abs tt (private_fits z f h))

pub known_private : (z : ℤ) (k : ℕ) → SFits w32 z → lt_z (to_z w32 (of_z w32 z)) (negsuc 0) ≡ true → ltb (nat_abs (to_z w32 (of_z w32 (negsuc 1 -ℤ to_z w32 (of_z w32 z))))) k ≡ known_in (seen_in z) k
known_private z k f h = rw (to_z-of_z (private_fits z f h)) (rw (to_z-of_z f) (private_is z k f (rw (to_z-of_z f) at h)).2)

pub known_not : (z : ℤ) (k : ℕ) → SFits w32 z → lt_z (pos 0) (to_z w32 (of_z w32 z)) ≡ false → lt_z (to_z w32 (of_z w32 z)) (negsuc 0) ≡ false → false ≡ known_in (seen_in z) k
known_not z k f a b = go z (rw (to_z-of_z f) at a) (rw (to_z-of_z f) at b)
  where
    go : (z : ℤ) → lt_z (pos 0) z ≡ false → lt_z z (negsuc 0) ≡ false → false ≡ known_in (seen_in z) k
    go (pos zero) a b = refl
    go (pos (suc v)) a b = absurd (let l = ltb-false 0 (suc v) a in omega arith)
    go (negsuc zero) a b = refl
    go (negsuc (suc v)) a b = absurd (let l = ltb-false 0 (suc v) b in omega arith)

-- ---- the word of a number

pub word_shared : (b : Bool) (v : ℕ) → v ≤ limit → b ≡ true → to_z w32 (v + 1) ≡ number_word b v
word_shared b v h e = rw e (number_is (v + 1) (omega arith) ∙ ap pos (add-one v))

minus_word : (v : ℕ) → v ≤ limit → pos 0 -ℤ to_z w32 (v + 2) ≡ negsuc (suc v)
minus_word v h = let e : v + 2 ≡ suc (suc v) = omega arith in rw (number_is (v + 2) (omega arith), e) (+ℤ_idl (negsuc (suc v)))

pub word_fits : (v : ℕ) → v ≤ limit → SFits w32 (pos 0 -ℤ to_z w32 (v + 2))
word_fits v h = rw (minus_word v h) (record { sfits = omega arith })

pub word_private : (b : Bool) (v : ℕ) → v ≤ limit → b ≡ false → to_z w32 (of_z w32 (pos 0 -ℤ to_z w32 (v + 2))) ≡ number_word b v
word_private b v h e = rw e (to_z-of_z (word_fits v h) ∙ minus_word v h)

-- ---- the number of values between two words

module _ (x y : ℤ) (f : SFits w32 x) (g : SFits w32 y) (a : nat_abs x ≤ max_weight) (b : nat_abs y ≤ max_weight) where
  span_size : nat_abs (y -ℤ x) ≤ 2147483646
  span_size = omega (arith, natAbs_add y (neg_ℤ x), natAbs_negℤ x)

  pub span_fits : SFits w32 (to_z w32 (of_z w32 y) -ℤ to_z w32 (of_z w32 x))
  span_fits = rw (to_z-of_z f, to_z-of_z g) (sfits_natAbs w32 (y -ℤ x) (omega (arith, span_size)))

  pub count_fits : SFits w32 (to_z w32 (of_z w32 (to_z w32 (of_z w32 y) -ℤ to_z w32 (of_z w32 x))) +ℤ pos 1)
  count_fits = rw (to_z-of_z span_fits, to_z-of_z f, to_z-of_z g) (sfits_natAbs w32 ((y -ℤ x) +ℤ pos 1) (omega (arith, span_size, natAbs_add (y -ℤ x) (pos 1))))

  pub range_put : (o o' : List ℤ) (i : ℕ) → (let z = to_z w32 (of_z w32 y) -ℤ to_z w32 (of_z w32 x) in o' ≡ sets o i (pos 0 ∷ to_z w32 (of_z w32 x) ∷ to_z w32 (of_z w32 y) ∷ to_z w32 (of_z w32 (to_z w32 (of_z w32 z) +ℤ pos 1)) ∷ []))
      → o' ≡ sets o i (range_record (Range x y))
  range_put o o' i e = e ∙ rw (to_z-of_z count_fits, to_z-of_z span_fits, to_z-of_z f, to_z-of_z g) refl

-- ---- two values

pub minus_fits : (l : ℤ) → SFits w32 l → nat_abs l ≤ limit + 1 → SFits w32 (pos 0 -ℤ to_z w32 (of_z w32 l))
minus_fits l f h = rw (to_z-of_z f, +ℤ_idl (neg_ℤ l)) (sfits_natAbs w32 (neg_ℤ l) (omega (arith, natAbs_negℤ l)))

module _ (l x y : ℤ) (e : SFits w32 l) (f : SFits w32 x) (g : SFits w32 y) (o o' : List ℤ) (i : ℕ) where
  pub rising_put : nat_abs l ≤ limit + 1 → lt_z (to_z w32 (of_z w32 x)) (to_z w32 (of_z w32 y)) ≡ true
      → o' ≡ sets o i (pos 1 ∷ to_z w32 (of_z w32 (pos 0 -ℤ to_z w32 (of_z w32 l))) ∷ to_z w32 (of_z w32 x) ∷ to_z w32 (of_z w32 y) ∷ []) → o' ≡ sets o i (two_record l x y)
  rising_put h t p =
      let n : to_z w32 (of_z w32 (pos 0 -ℤ to_z w32 (of_z w32 l))) ≡ neg_ℤ l = to_z-of_z (minus_fits l e h) ∙ rw (to_z-of_z e) (+ℤ_idl (neg_ℤ l)) in
      p ∙ rw (n, to_z-of_z f, to_z-of_z g, tests_of lt_z f g t) refl

  pub same_put : lt_z (to_z w32 (of_z w32 x)) (to_z w32 (of_z w32 y)) ≡ false → of_z w32 x ≡ of_z w32 y → o' ≡ sets o i (pos 0 ∷ to_z w32 (of_z w32 x) ∷ to_z w32 (of_z w32 x) ∷ pos 1 ∷ []) → o' ≡ sets o i (two_record l x y)
  same_put t b p =
      let s : x ≡ y = same_value f g b in
      let z : eqZ x y ≡ true = rw s (eqZ_refl y) in
      p ∙ rw (tests_of lt_z f g t, z, to_z-of_z f, +ℤ_invr x) refl

  pub falling_put : lt_z (to_z w32 (of_z w32 x)) (to_z w32 (of_z w32 y)) ≡ false → (of_z w32 x ≡ of_z w32 y → ⊥) → o' ≡ sets o i (pos 1 ∷ to_z w32 (of_z w32 l) ∷ to_z w32 (of_z w32 y) ∷ to_z w32 (of_z w32 x) ∷ []) → o' ≡ sets o i (two_record l x y)
  falling_put t b p = p ∙ rw (tests_of lt_z f g t, differ x y b, to_z-of_z e, to_z-of_z f, to_z-of_z g) refl
