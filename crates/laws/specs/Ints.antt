-- Integers: tests and products with an interval, and the laws of ℤ that the library lacks. Assumes nothing.
use Rattle.std.specs.Prelude.{◌≡◌, refl, Bool, true, false, cond, ℕ, zero, suc, ◌+◌, ◌*◌, ◌<◌, ◌≤◌, ◌^◌, ltb, eqb, ℤ, pos, negsuc, neg_ℤ, nat_abs, ◌+ℤ◌, ◌*ℤ◌}
use Rattle.std.proofs.Common.{sym, ap, ◌∙◌, arith, mul-le-mul_left, ltb-true, ltb-false, eqb-true, eq-eqb, ne_eqb}
use Rattle.std.proofs.Math.IntN.{sub_ℕ, *ℤ_comm, zero-*ℤ, suc_ℤ, pred_ℤ, suc_ℤ-*ℤ, pred_ℤ-*ℤ, +ℤ_assoc, +ℤ_comm, +ℤ_idl, suc_ℤ-+ℤ, pred_ℤ-+ℤ, neg_ℤ-neg_ℤ}
use Rattle.std.specs.Int.Signed.{mag, le_z}
use Rattle.std.specs.Int.{Width, w32}
use mir.Val.{SFits, hbits, of_z}

abbrev pub eqZ : ℤ → ℤ → Bool
eqZ (pos a) (pos b) = eqb a b
eqZ (pos a) (negsuc b) = false
eqZ (negsuc a) (pos b) = false
eqZ (negsuc a) (negsuc b) = eqb a b

abbrev pub is_zero : ℤ → Bool
is_zero z = eqZ z (pos 0)

-- the lower and the higher of two
abbrev pub lower : ℤ → ℤ → ℤ
lower x y = cond (le_z x y) x y

abbrev pub higher : ℤ → ℤ → ℤ
higher x y = cond (le_z x y) y x

-- a word as a count: 0 where it is negative
abbrev pub count_of : ℤ → ℕ
count_of (pos n) = n
count_of (negsuc n) = 0

-- a coefficient times an interval: its lowest and its highest value
abbrev pub times_low : ℤ → ℤ → ℤ → ℤ
times_low (pos k) low high = pos k *ℤ low
times_low (negsuc k) low high = negsuc k *ℤ high

abbrev pub times_high : ℤ → ℤ → ℤ → ℤ
times_high (pos k) low high = pos k *ℤ high
times_high (negsuc k) low high = negsuc k *ℤ low

-- the number that an integer is, is one
pub pos_eq : (z : ℤ) (m n : ℕ) → z ≡ pos m → z ≡ pos n → m ≡ n
pos_eq z m n p q = cc

-- 0 is not 1
pub apart : {X : Type 0} → ◌≡◌ {A = ℕ} 0 1 → X
apart z = absurd (omega arith)

-- ---- sizes

natAbs_sub : (a b : ℕ) → nat_abs (sub_ℕ a b) ≤ a + b
natAbs_sub a b = go (ltb a b) refl
  where
    go : (t : Bool) → ltb a b ≡ t → nat_abs (sub_ℕ a b) ≤ a + b
    go true e = let h : a < b = ltb-true a b e in rw e (omega arith)
    go false e = let h : b ≤ a = ltb-false a b e in rw e (omega arith)

pub natAbs_add : (m k : ℤ) → nat_abs (m +ℤ k) ≤ nat_abs m + nat_abs k
natAbs_add (pos a) (pos b) = omega arith
natAbs_add (pos a) (negsuc b) = natAbs_sub a (suc b)
natAbs_add (negsuc a) (pos b) = omega (arith, natAbs_sub b (suc a))
natAbs_add (negsuc a) (negsuc b) = omega arith

natAbs_neg : (n : ℕ) → nat_abs (neg_ℤ (pos n)) ≡ n
natAbs_neg zero = refl
natAbs_neg (suc n) = refl

pub natAbs_negℤ : (z : ℤ) → nat_abs (neg_ℤ z) ≡ nat_abs z
natAbs_negℤ (pos zero) = refl
natAbs_negℤ (pos (suc n)) = refl
natAbs_negℤ (negsuc n) = refl

pub nat_abs_mul : (m k : ℤ) → nat_abs (m *ℤ k) ≡ nat_abs m * nat_abs k
nat_abs_mul (pos a) (pos b) = refl
nat_abs_mul (pos a) (negsuc b) = natAbs_neg (a * suc b)
nat_abs_mul (negsuc a) (pos b) = natAbs_neg (suc a * b)
nat_abs_mul (negsuc a) (negsuc b) = refl

pub times_low_size : (k a b : ℤ) (n : ℕ) → nat_abs a ≤ n → nat_abs b ≤ n → nat_abs (times_low k a b) ≤ nat_abs k * n
times_low_size (pos k) a b n h g = rw (nat_abs_mul (pos k) a) (mul-le-mul_left k h)
times_low_size (negsuc k) a b n h g = rw (nat_abs_mul (negsuc k) b) (mul-le-mul_left (suc k) g)

-- with the bounds exchanged
pub times_exchanged : (k a b : ℤ) → times_low k b a ≡ times_high k a b
times_exchanged (pos k) a b = refl
times_exchanged (negsuc k) a b = refl

pub times_high_size : (k a b : ℤ) (n : ℕ) → nat_abs a ≤ n → nat_abs b ≤ n → nat_abs (times_high k a b) ≤ nat_abs k * n
times_high_size k a b n h g = rw (← times_exchanged k a b) (times_low_size k b a n g h)

pub mag_natAbs : (z : ℤ) → mag z ≤ nat_abs z
mag_natAbs (pos n) = omega arith
mag_natAbs (negsuc n) = omega arith

pub sfits_natAbs : (w : Width) (z : ℤ) → nat_abs z < 2 ^ hbits w → SFits w z
sfits_natAbs w z h = record { sfits = omega (arith, mag_natAbs z) }

pub is_zero_true : (z : ℤ) → is_zero z ≡ true → z ≡ pos 0
is_zero_true (pos n) e = ap pos (eqb-true n 0 e)
is_zero_true (negsuc n) e = elim_false e
  where
    elim_false : false ≡ true → negsuc n ≡ pos 0
    elim_false e = cc

-- a test against 0 is one of the bits
pub bits_zero : (z : ℤ) → SFits w32 z → of_z w32 z ≡ 0 → is_zero z ≡ true
bits_zero (pos n) h e = eq-eqb n 0 e
bits_zero (negsuc n) h e = absurd (omega (arith, h.sfits))

pub bits_nonzero : (z : ℤ) → (of_z w32 z ≡ 0 → ⊥) → is_zero z ≡ false
bits_nonzero (pos n) h = ne_eqb n 0 h
bits_nonzero (negsuc n) h = refl

module _ (P : ℤ → Type 0) (z : P (pos 0)) (up : (m : ℤ) → P m → P (suc_ℤ m)) (down : (m : ℤ) → P m → P (pred_ℤ m)) where
  ups : (n : ℕ) → P (pos n)
  ups zero = z
  ups (suc n) = up (pos n) (ups n)

  downs : (n : ℕ) → P (negsuc n)
  downs zero = down (pos 0) z
  downs (suc n) = down (negsuc n) (downs n)

  pub steps : (m : ℤ) → P m
  steps (pos n) = ups n
  steps (negsuc n) = downs n

+ℤ_swap_r : (a b c : ℤ) → (a +ℤ b) +ℤ c ≡ (a +ℤ c) +ℤ b
+ℤ_swap_r a b c = +ℤ_assoc a b c ∙ ap (λ (x : ℤ). a +ℤ x) (+ℤ_comm b c) ∙ sym (+ℤ_assoc a c b)

pub +ℤ_swap : (a b c : ℤ) → a +ℤ (b +ℤ c) ≡ b +ℤ (a +ℤ c)
+ℤ_swap a b c = sym (+ℤ_assoc a b c) ∙ ap (λ (x : ℤ). x +ℤ c) (+ℤ_comm a b) ∙ +ℤ_assoc b a c

pub *ℤ_dist : (a b x : ℤ) → (a +ℤ b) *ℤ x ≡ a *ℤ x +ℤ b *ℤ x
*ℤ_dist a b x = steps (λ (a : ℤ). (a +ℤ b) *ℤ x ≡ a *ℤ x +ℤ b *ℤ x)
    (ap (λ (y : ℤ). y *ℤ x) (+ℤ_idl b) ∙ sym (ap (λ (y : ℤ). y +ℤ b *ℤ x) (zero-*ℤ x) ∙ +ℤ_idl (b *ℤ x)))
    (λ m h. ap (λ (y : ℤ). y *ℤ x) (suc_ℤ-+ℤ m b) ∙ suc_ℤ-*ℤ (m +ℤ b) x ∙ ap (λ (y : ℤ). y +ℤ x) h ∙ +ℤ_swap_r (m *ℤ x) (b *ℤ x) x ∙ ap (λ (y : ℤ). y +ℤ b *ℤ x) (sym (suc_ℤ-*ℤ m x)))
    (λ m h. ap (λ (y : ℤ). y *ℤ x) (pred_ℤ-+ℤ m b) ∙ pred_ℤ-*ℤ (m +ℤ b) x ∙ ap (λ (y : ℤ). y +ℤ neg_ℤ x) h ∙ +ℤ_swap_r (m *ℤ x) (b *ℤ x) (neg_ℤ x) ∙ ap (λ (y : ℤ). y +ℤ b *ℤ x) (sym (pred_ℤ-*ℤ m x)))
    a

pub neg_mul : (b x : ℤ) → neg_ℤ b *ℤ x ≡ neg_ℤ (b *ℤ x)
neg_mul (pos zero) x = zero-*ℤ x ∙ ap neg_ℤ (sym (zero-*ℤ x))
neg_mul (pos (suc n)) (pos m) = refl
neg_mul (pos (suc n)) (negsuc m) = sym (neg_ℤ-neg_ℤ (pos (suc n * suc m)))
neg_mul (negsuc n) (pos m) = sym (neg_ℤ-neg_ℤ (pos (suc n * m)))
neg_mul (negsuc n) (negsuc m) = refl

pub *ℤ_assoc : (a b x : ℤ) → (a *ℤ b) *ℤ x ≡ a *ℤ (b *ℤ x)
*ℤ_assoc a b x = steps (λ (a : ℤ). (a *ℤ b) *ℤ x ≡ a *ℤ (b *ℤ x))
    (ap (λ (y : ℤ). y *ℤ x) (zero-*ℤ b) ∙ zero-*ℤ x ∙ sym (zero-*ℤ (b *ℤ x)))
    (λ m h. ap (λ (y : ℤ). y *ℤ x) (suc_ℤ-*ℤ m b) ∙ *ℤ_dist (m *ℤ b) b x ∙ ap (λ (y : ℤ). y +ℤ b *ℤ x) h ∙ sym (suc_ℤ-*ℤ m (b *ℤ x)))
    (λ m h. ap (λ (y : ℤ). y *ℤ x) (pred_ℤ-*ℤ m b) ∙ *ℤ_dist (m *ℤ b) (neg_ℤ b) x ∙ ap (λ (y : ℤ). y +ℤ neg_ℤ b *ℤ x) h ∙ ap (λ (y : ℤ). m *ℤ (b *ℤ x) +ℤ y) (neg_mul b x) ∙ sym (pred_ℤ-*ℤ m (b *ℤ x)))
    a

pub *ℤ_dist_l : (k a b : ℤ) → k *ℤ (a +ℤ b) ≡ k *ℤ a +ℤ k *ℤ b
*ℤ_dist_l k a b = *ℤ_comm k (a +ℤ b) ∙ *ℤ_dist a b k ∙ rw (*ℤ_comm a k, *ℤ_comm b k) refl

pub *ℤ_minus_one : (x : ℤ) → negsuc zero *ℤ x ≡ neg_ℤ x
*ℤ_minus_one x = pred_ℤ-*ℤ (pos zero) x ∙ rw (zero-*ℤ x, +ℤ_idl (neg_ℤ x)) refl
