-- Laws of literals in the Boolean map, negated within the limit.
use mathlib.Core.Path.{◌≡◌, refl, ap, ◌∙◌}
use mathlib.Core.Bool.{Bool, true, false}
use mathlib.Core.List.{List}
use Prim.Native.Nat.{ℕ, suc, ◌≤◌}
use native.Mathlib.Omega.{arith}
use lib.IntN.{ℤ, pos, negsuc, neg_ℤ, nat_abs, ◌-ℤ◌, +ℤ_idl}
use lib.Signed.{lt_z}
use mir.Syntax.{w32}
use mir.Val.{SFits, of_z, to_z}
use mir.Facts.{to_z-of_z}
use borrow.Author.Tests.{ltb-true, ltb-false, le-leb, lt-leb}
use Rattle.laws.specs.Bools.{never}
use Rattle.laws.specs.Ints.{natAbs_negℤ, sfits_natAbs}
use Rattle.memory.specs.Places.{limit}
use Rattle.walk.specs.Item.{bool_at, signed}

-- ---- beyond the limit

pub signed_above : (z : ℤ) (g : Bool) → lt_z (pos limit) z ≡ true → pos 0 ≡ signed z g
unfolding signed
signed_above (pos n) g h = rw (lt-leb n limit (ltb-true limit n h)) refl
signed_above (negsuc n) g h = never h

pub signed_below : (z : ℤ) (g : Bool) → lt_z z (negsuc 1073741823) ≡ true → pos 0 ≡ signed z g
unfolding signed
signed_below (pos n) g h = never h
signed_below (negsuc n) g h = rw (lt-leb (suc n) limit (let l = ltb-true 1073741823 n h in omega arith)) refl

-- ---- within it

pub near : (z : ℤ) → lt_z (pos limit) z ≡ false → lt_z z (negsuc 1073741823) ≡ false → nat_abs z ≤ limit
near (pos n) h k = let l = ltb-false limit n h in omega arith
near (negsuc n) h k = let l = ltb-false 1073741823 n k in omega arith

minus_size : (z : ℤ) → nat_abs (pos 0 -ℤ z) ≡ nat_abs z
minus_size z = ap nat_abs (+ℤ_idl (neg_ℤ z)) ∙ natAbs_negℤ z

pub minus_fits : (z : ℤ) → SFits w32 z → nat_abs z ≤ limit → SFits w32 (pos 0 -ℤ to_z w32 (of_z w32 z))
minus_fits z f h = rw (to_z-of_z f) (sfits_natAbs w32 (pos 0 -ℤ z) (omega (arith, minus_size z)))

pub signed_minus : (z : ℤ) (g : Bool) → SFits w32 z → nat_abs z ≤ limit → g ≡ true → to_z w32 (of_z w32 (pos 0 -ℤ to_z w32 (of_z w32 z))) ≡ signed z g
unfolding signed
signed_minus z g f h e = to_z-of_z (minus_fits z f h) ∙ rw (to_z-of_z f, le-leb (nat_abs z) limit h, e) (+ℤ_idl (neg_ℤ z))

pub signed_same : (z : ℤ) (g : Bool) → SFits w32 z → nat_abs z ≤ limit → g ≡ false → to_z w32 (of_z w32 z) ≡ signed z g
unfolding signed
signed_same z g f h e = to_z-of_z f ∙ rw (le-leb (nat_abs z) limit h, e) refl

-- a variable's literal: its word in the map, a, and the same negated if g, b
pub literal_word : (w : List ℤ) (v : ℕ) (g : Bool) {a b : ℤ} → SFits w32 a → SFits w32 b → a ≡ bool_at w v → b ≡ signed (to_z w32 (of_z w32 a)) g → to_z w32 (of_z w32 b) ≡ signed (bool_at w v) g
literal_word w v g fa fb e h = to_z-of_z fb ∙ h ∙ ap (λ x. signed x g) (to_z-of_z fa ∙ e)
