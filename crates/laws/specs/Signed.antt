-- Tests of an i32, read of the integer: a signed local holds bits, so an order test speaks of `to_z w (of_z w z)` and a test of equality of `of_z w z`.
-- Assumes nothing.
use Rattle.std.specs.Prelude.{◌≡◌, refl, Bool, true, false, ℕ, suc, ◌<◌, ℤ, pos, negsuc, nat_abs, T, leb}
use Rattle.std.proofs.Common.{sym, ap, ◌∙◌, arith, ltb-true, ltb-false, le-leb, Fits, SFits, of_z, to_z, to_z-of_z}
use Rattle.std.specs.Int.Signed.{lt_z, non_neg}
use Rattle.std.proofs.lemmas.Bool.{lt-leb}
use Rattle.std.specs.Int.{Width, w32, w64}
use Rattle.std.proofs.Math.Facts.{Fits-nat_abs}
use Rattle.laws.specs.Bools.{never}
use Rattle.laws.specs.Ints.{apart}

-- the value from its bits: at a literal the right side computes, `to_z w32 10` to `pos 10` and `to_z w32 4294967295` to `negsuc 0`
pub value_is : {z : ℤ} {k : ℕ} → SFits w32 z → of_z w32 z ≡ k → z ≡ to_z w32 k
value_is f e = sym (to_z-of_z f) ∙ ap (to_z w32) e

-- two words with the same bits are the same
pub same_value : {y z : ℤ} → SFits w32 y → SFits w32 z → of_z w32 y ≡ of_z w32 z → y ≡ z
same_value f g e = sym (to_z-of_z f) ∙ ap (to_z w32) e ∙ to_z-of_z g

-- a word that is a number, cast to usize
pub number_cast : (z : ℤ) (n : ℕ) → z ≡ pos n → SFits w32 z → T (non_neg z) × Fits w64 (nat_abs z)
number_cast (pos m) n e f = (tt, Fits-nat_abs tt f)
number_cast (negsuc m) n e f = apart (cc)

pub number_is : (z : ℤ) (n : ℕ) → z ≡ pos n → SFits w32 z → (z ≡ pos (nat_abs z)) × (nat_abs z < 2147483648)
number_is (pos m) n e f = (refl, f.sfits)
number_is (negsuc m) n e f = apart (cc)

-- an order test
pub test_of : {w : Width} {z : ℤ} (t : ℤ → Bool) {b : Bool} → SFits w z → t (to_z w (of_z w z)) ≡ b → t z ≡ b
test_of t f h = sym (ap t (to_z-of_z f)) ∙ h

pub tests_of : {w : Width} {y z : ℤ} (t : ℤ → ℤ → Bool) {b : Bool} → SFits w y → SFits w z → t (to_z w (of_z w y)) (to_z w (of_z w z)) ≡ b → t y z ≡ b
tests_of t f g h = sym (rw (to_z-of_z f, to_z-of_z g) refl) ∙ h

pub not_neg : (z : ℤ) → lt_z z (pos 0) ≡ false → T (non_neg z)
not_neg (pos n) h = tt
not_neg (negsuc n) h = never (sym h)

-- a range from -(m + 1) to m + 1, as two tests
module _ (m : ℕ) where
  pub below_range : (z : ℤ) → lt_z z (negsuc m) ≡ true → leb (nat_abs z) (suc m) ≡ false
  below_range (pos n) h = never h
  below_range (negsuc n) h = lt-leb (suc n) (suc m) (let l = ltb-true m n h in omega arith)

  pub above_range : (z : ℤ) → lt_z (pos (suc m)) z ≡ true → leb (nat_abs z) (suc m) ≡ false
  above_range (pos n) h = lt-leb n (suc m) (let l = ltb-true (suc m) n h in omega arith)
  above_range (negsuc n) h = never h

  pub within_range : (z : ℤ) → lt_z z (negsuc m) ≡ false → lt_z (pos (suc m)) z ≡ false → leb (nat_abs z) (suc m) ≡ true
  within_range (pos n) a b = le-leb n (suc m) (ltb-false (suc m) n b)
  within_range (negsuc n) a b = le-leb (suc n) (suc m) (let l = ltb-false m n a in omega arith)
