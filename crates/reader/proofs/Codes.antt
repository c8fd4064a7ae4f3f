-- What code a word is. Assumes nothing.
use mathlib.Core.Path.{◌≡◌, refl}
use mathlib.Core.Bool.{true, false}
use Prim.Native.Nat.{ℕ, zero, suc, ◌+◌, ◌-◌, ◌<◌}
use native.Mathlib.Omega.{arith}
use lib.IntN.{ℤ, pos, negsuc}
use lib.Signed.{lt_z}
use borrow.Author.Tests.{ne_eqb, ltb-true, ltb-false}
use mir.Syntax.{w32}
use mir.Val.{of_z}
use Rattle.read.specs.Read.{kind_int, i_unknown, kind_bool, k_unknown, too_deep_bool, too_deep_int}

-- ---- no code

pub int_unknown : (z : ℤ) → (of_z w32 z ≡ 20 → ⊥) → (of_z w32 z ≡ 21 → ⊥) → (of_z w32 z ≡ 22 → ⊥) → (of_z w32 z ≡ 23 → ⊥) → kind_int z ≡ i_unknown
unfolding kind_int
int_unknown (pos n) a b c d = rw (ne_eqb n 20 a, ne_eqb n 21 b, ne_eqb n 22 c, ne_eqb n 23 d)
int_unknown (negsuc n) a b c d = refl

pub bool_unknown : (z : ℤ) → (of_z w32 z ≡ 10 → ⊥) → (of_z w32 z ≡ 11 → ⊥) → (of_z w32 z ≡ 12 → ⊥) → (of_z w32 z ≡ 13 → ⊥) → (of_z w32 z ≡ 14 → ⊥)
    → (of_z w32 z ≡ 15 → ⊥) → (of_z w32 z ≡ 16 → ⊥) → (of_z w32 z ≡ 17 → ⊥) → (of_z w32 z ≡ 18 → ⊥) → kind_bool z ≡ k_unknown
unfolding kind_bool
bool_unknown (pos n) a b c d e f g h i =
    rw (ne_eqb n 10 a, ne_eqb n 11 b, ne_eqb n 12 c, ne_eqb n 13 d, ne_eqb n 14 e, ne_eqb n 15 f, ne_eqb n 16 g, ne_eqb n 17 h, ne_eqb n 18 i)
bool_unknown (negsuc n) a b c d e f g h i = refl

-- ---- where no level is left

module _ (z : ℤ) where
  pub bool_below : lt_z z (pos 10) ≡ true → 5 ≡ too_deep_bool (kind_bool z)
  unfolding kind_bool
  bool_below h = go z h
    where
      go : (z : ℤ) → lt_z z (pos 10) ≡ true → 5 ≡ too_deep_bool (kind_bool z)
      go (negsuc n) h = refl
      go (pos n) h =
          let l = ltb-true n 10 h in
          rw (ne_eqb n 10 (λ e. omega arith), ne_eqb n 11 (λ e. omega arith), ne_eqb n 12 (λ e. omega arith), ne_eqb n 13 (λ e. omega arith), ne_eqb n 14 (λ e. omega arith), ne_eqb n 15 (λ e. omega arith), ne_eqb n 16 (λ e. omega arith), ne_eqb n 17 (λ e. omega arith), ne_eqb n 18 (λ e. omega arith)) refl

  pub bool_above : lt_z z (pos 19) ≡ false → 5 ≡ too_deep_bool (kind_bool z)
  unfolding kind_bool
  bool_above h = go z h
    where
      go : (z : ℤ) → lt_z z (pos 19) ≡ false → 5 ≡ too_deep_bool (kind_bool z)
      go (negsuc n) h = refl
      go (pos n) h =
          let l = ltb-false n 19 h in
          rw (ne_eqb n 10 (λ e. omega arith), ne_eqb n 11 (λ e. omega arith), ne_eqb n 12 (λ e. omega arith), ne_eqb n 13 (λ e. omega arith), ne_eqb n 14 (λ e. omega arith), ne_eqb n 15 (λ e. omega arith), ne_eqb n 16 (λ e. omega arith), ne_eqb n 17 (λ e. omega arith), ne_eqb n 18 (λ e. omega arith)) refl

  pub bool_within : lt_z z (pos 10) ≡ false → lt_z z (pos 19) ≡ true → 8 ≡ too_deep_bool (kind_bool z)
  unfolding kind_bool
  bool_within h k = go z h k
    where
      at : (m : ℕ) → m < 9 → 8 ≡ too_deep_bool (kind_bool (pos (m + 10)))
      at zero l = refl
      at (suc zero) l = refl
      at (suc (suc zero)) l = refl
      at (suc (suc (suc zero))) l = refl
      at (suc (suc (suc (suc zero)))) l = refl
      at (suc (suc (suc (suc (suc zero))))) l = refl
      at (suc (suc (suc (suc (suc (suc zero)))))) l = refl
      at (suc (suc (suc (suc (suc (suc (suc zero))))))) l = refl
      at (suc (suc (suc (suc (suc (suc (suc (suc zero)))))))) l = refl
      at (suc (suc (suc (suc (suc (suc (suc (suc (suc m))))))))) l = absurd (omega arith)

      go : (z : ℤ) → lt_z z (pos 10) ≡ false → lt_z z (pos 19) ≡ true → 8 ≡ too_deep_bool (kind_bool z)
      go (negsuc n) h k = absurd (let z : ◌≡◌ {A = ℕ} 0 1 = cc in omega arith)
      go (pos n) h k =
          let l = ltb-false n 10 h in
          let m = ltb-true n 19 k in
          let e : n ≡ n - 10 + 10 = omega arith in
          rw e (at (n - 10) (omega arith))

  pub int_below : lt_z z (pos 20) ≡ true → 5 ≡ too_deep_int (kind_int z)
  unfolding kind_int
  int_below h = go z h
    where
      go : (z : ℤ) → lt_z z (pos 20) ≡ true → 5 ≡ too_deep_int (kind_int z)
      go (negsuc n) h = refl
      go (pos n) h =
          let l = ltb-true n 20 h in
          rw (ne_eqb n 20 (λ e. omega arith), ne_eqb n 21 (λ e. omega arith), ne_eqb n 22 (λ e. omega arith), ne_eqb n 23 (λ e. omega arith)) refl

  pub int_above : lt_z z (pos 24) ≡ false → 5 ≡ too_deep_int (kind_int z)
  unfolding kind_int
  int_above h = go z h
    where
      go : (z : ℤ) → lt_z z (pos 24) ≡ false → 5 ≡ too_deep_int (kind_int z)
      go (negsuc n) h = refl
      go (pos n) h =
          let l = ltb-false n 24 h in
          rw (ne_eqb n 20 (λ e. omega arith), ne_eqb n 21 (λ e. omega arith), ne_eqb n 22 (λ e. omega arith), ne_eqb n 23 (λ e. omega arith)) refl

  pub int_within : lt_z z (pos 20) ≡ false → lt_z z (pos 24) ≡ true → 8 ≡ too_deep_int (kind_int z)
  unfolding kind_int
  int_within h k = go z h k
    where
      at : (m : ℕ) → m < 4 → 8 ≡ too_deep_int (kind_int (pos (m + 20)))
      at zero l = refl
      at (suc zero) l = refl
      at (suc (suc zero)) l = refl
      at (suc (suc (suc zero))) l = refl
      at (suc (suc (suc (suc m)))) l = absurd (omega arith)

      go : (z : ℤ) → lt_z z (pos 20) ≡ false → lt_z z (pos 24) ≡ true → 8 ≡ too_deep_int (kind_int z)
      go (negsuc n) h k = absurd (let z : ◌≡◌ {A = ℕ} 0 1 = cc in omega arith)
      go (pos n) h k =
          let l = ltb-false n 20 h in
          let m = ltb-true n 24 k in
          let e : n ≡ n - 20 + 20 = omega arith in
          rw e (at (n - 20) (omega arith))

pub ruleset bool_levels = (bool_below, bool_within, bool_above)

pub ruleset int_levels = (int_below, int_within, int_above)
