-- The equality and the order of ℤ, as tests. Assumes nothing.
use Rattle.std.specs.Prelude.{◌≡◌, refl, Bool, true, false, not, ◌||◌, ℕ, zero, suc, ℤ, pos, negsuc, neg_ℤ, ◌+ℤ◌, ◌*ℤ◌, eqb, ltb, leb}
use Rattle.std.proofs.Common.{sym, ap, ◌∙◌, arith, ltb-true, ltb-false, lt-ltb, le-ltb, leb-true, le-leb, eqb-true, eq-eqb}
use Rattle.std.proofs.Math.IntN.{suc_ℤ, pred_ℤ, suc-pred, +ℤ_idr, +ℤ_comm, +ℤ-suc_ℤ, +ℤ-pred_ℤ, zero-*ℤ, suc_ℤ-*ℤ}
use Rattle.std.specs.Int.Signed.{lt_z, le_z}
use Rattle.std.proofs.Math.Dec.{leb-zero, leb-suc-zero, leb-suc-suc, eqb-zero-suc, eqb-suc-zero, eqb-suc-suc}
use Rattle.std.proofs.lemmas.Bool.{lt-leb, eqb-false}
use Rattle.laws.specs.Bools.{never}
use Rattle.laws.specs.Ints.{eqZ, times_low, times_high, steps, neg_mul}

-- ---- equality

pub eqZ_is : (a b : ℤ) → eqZ a b ≡ true → a ≡ b
eqZ_is (pos a) (pos b) h = ap pos (eqb-true a b h)
eqZ_is (pos a) (negsuc b) h = never h
eqZ_is (negsuc a) (pos b) h = never h
eqZ_is (negsuc a) (negsuc b) h = ap negsuc (eqb-true a b h)

pub eqZ_refl : (a : ℤ) → eqZ a a ≡ true
eqZ_refl (pos a) = eq-eqb a a refl
eqZ_refl (negsuc a) = eq-eqb a a refl

pub is_eqZ : (a b : ℤ) → a ≡ b → eqZ a b ≡ true
is_eqZ a b e = rw e (eqZ_refl b)

pub not_eqZ : (a b : ℤ) → (a ≡ b → ⊥) → eqZ a b ≡ false
not_eqZ a b f = go (eqZ a b) refl
  where
    go : (t : Bool) → eqZ a b ≡ t → t ≡ false
    go true h = absurd (f (eqZ_is a b h))
    go false h = refl

pub eqZ_sym : (a b : ℤ) → eqZ a b ≡ eqZ b a
eqZ_sym a b = go (eqZ a b) refl
  where
    go : (t : Bool) → eqZ a b ≡ t → t ≡ eqZ b a
    go true h = sym (is_eqZ b a (sym (eqZ_is a b h)))
    go false h = sym (not_eqZ b a λ e. never (sym h ∙ is_eqZ a b (sym e)))

-- ---- less

pub ltZ_irr : (a : ℤ) → lt_z a a ≡ false
ltZ_irr (pos a) = le-ltb a a (omega arith)
ltZ_irr (negsuc a) = le-ltb a a (omega arith)

pub ltZ_trans : (a b c : ℤ) → lt_z a b ≡ true → lt_z b c ≡ true → lt_z a c ≡ true
ltZ_trans (pos a) (pos b) (pos c) h k = let x = ltb-true a b h in let y = ltb-true b c k in lt-ltb a c (omega arith)
ltZ_trans (pos a) (pos b) (negsuc c) h k = k
ltZ_trans (pos a) (negsuc b) c h k = never h
ltZ_trans (negsuc a) (pos b) (pos c) h k = refl
ltZ_trans (negsuc a) (pos b) (negsuc c) h k = never k
ltZ_trans (negsuc a) (negsuc b) (pos c) h k = refl
ltZ_trans (negsuc a) (negsuc b) (negsuc c) h k = let x = ltb-true b a h in let y = ltb-true c b k in lt-ltb c a (omega arith)

pub ltZ_tri : (a b : ℤ) → lt_z a b ≡ false → eqZ a b ≡ false → lt_z b a ≡ true
ltZ_tri (pos a) (pos b) h k = let x = ltb-false a b h in let y = eqb-false a b k in lt-ltb b a (omega arith)
ltZ_tri (pos a) (negsuc b) h k = refl
ltZ_tri (negsuc a) (pos b) h k = sym h
ltZ_tri (negsuc a) (negsuc b) h k = let x = ltb-false b a h in let y = eqb-false a b k in lt-ltb a b (omega arith)

pub ltZ_asym : (a b : ℤ) → lt_z a b ≡ true → lt_z b a ≡ false
ltZ_asym a b h = go (lt_z b a) refl
  where
    go : (t : Bool) → lt_z b a ≡ t → t ≡ false
    go true k = never (sym (ltZ_irr a) ∙ ltZ_trans a b a h k)
    go false k = refl

pub ltZ_ne : (a b : ℤ) → lt_z a b ≡ true → eqZ a b ≡ false
ltZ_ne a b h = not_eqZ a b λ e. never (sym (ltZ_irr b) ∙ (rw e at h))

-- ---- not greater

pub leZ_not : (a b : ℤ) → le_z a b ≡ not (lt_z b a)
leZ_not (pos a) (pos b) = go (ltb b a) refl
  where
    go : (t : Bool) → ltb b a ≡ t → leb a b ≡ not t
    go true h = let x = ltb-true b a h in lt-leb a b (omega arith)
    go false h = let x = ltb-false b a h in le-leb a b (omega arith)
leZ_not (pos a) (negsuc b) = refl
leZ_not (negsuc a) (pos b) = refl
leZ_not (negsuc a) (negsuc b) = go (ltb a b) refl
  where
    go : (t : Bool) → ltb a b ≡ t → leb b a ≡ not t
    go true h = let x = ltb-true a b h in lt-leb b a (omega arith)
    go false h = let x = ltb-false a b h in le-leb b a (omega arith)

pub leZ_refl : (a : ℤ) → le_z a a ≡ true
leZ_refl a = leZ_not a a ∙ ap not (ltZ_irr a)

pub leZ_trans : (a b c : ℤ) → le_z a b ≡ true → le_z b c ≡ true → le_z a c ≡ true
leZ_trans (pos a) (pos b) (pos c) h k = let x = leb-true a b h in let y = leb-true b c k in le-leb a c (omega arith)
leZ_trans (pos a) (pos b) (negsuc c) h k = k
leZ_trans (pos a) (negsuc b) c h k = never h
leZ_trans (negsuc a) (pos b) (pos c) h k = refl
leZ_trans (negsuc a) (pos b) (negsuc c) h k = never k
leZ_trans (negsuc a) (negsuc b) (pos c) h k = refl
leZ_trans (negsuc a) (negsuc b) (negsuc c) h k = let x = leb-true b a h in let y = leb-true c b k in le-leb c a (omega arith)

-- ---- the successor

-- below the successor: below, or equal
pub lt_suc : (x z : ℤ) → lt_z x (suc_ℤ z) ≡ lt_z x z || eqZ x z
lt_suc (pos a) (pos b) = go (ltb a b) (eqb a b) refl refl
  where
    go : (l e : Bool) → ltb a b ≡ l → eqb a b ≡ e → ltb a (suc b) ≡ l || e
    go true e h k = lt-ltb a (suc b) (let x = ltb-true a b h in omega arith)
    go false true h k = lt-ltb a (suc b) (let x = eqb-true a b k in omega arith)
    go false false h k = le-ltb a (suc b) (let x = ltb-false a b h in let y = eqb-false a b k in omega arith)
lt_suc (pos a) (negsuc zero) = le-ltb a 0 (omega arith)
lt_suc (pos a) (negsuc (suc b)) = refl
lt_suc (negsuc a) (pos b) = refl
lt_suc (negsuc zero) (negsuc zero) = refl
lt_suc (negsuc (suc a)) (negsuc zero) = sym (rw (lt-ltb 0 (suc a) (omega arith)))
lt_suc (negsuc a) (negsuc (suc b)) = go (ltb (suc b) a) (eqb a (suc b)) refl refl
  where
    go : (l e : Bool) → ltb (suc b) a ≡ l → eqb a (suc b) ≡ e → ltb b a ≡ l || e
    go true e h k = lt-ltb b a (let x = ltb-true (suc b) a h in omega arith)
    go false true h k = lt-ltb b a (let x = eqb-true a (suc b) k in omega arith)
    go false false h k = le-ltb b a (let x = ltb-false (suc b) a h in let y = eqb-false a (suc b) k in omega arith)

pub lt_next : (z : ℤ) → lt_z z (suc_ℤ z) ≡ true
lt_next z = lt_suc z z ∙ rw (ltZ_irr z, eqZ_refl z)

-- ---- with sums and products

-- a relation that a step of one on both sides keeps is kept by every shift
module _ (f : ℤ → ℤ → Bool) (step : (a b : ℤ) → f (suc_ℤ a) (suc_ℤ b) ≡ f a b) where
  back : (a b : ℤ) → f (pred_ℤ a) (pred_ℤ b) ≡ f a b
  back a b = sym (step (pred_ℤ a) (pred_ℤ b)) ∙ rw (suc-pred a, suc-pred b) refl

  shift : (a b c : ℤ) → f (a +ℤ c) (b +ℤ c) ≡ f a b
  shift a b c = steps (λ (c : ℤ). f (a +ℤ c) (b +ℤ c) ≡ f a b)
      (rw (+ℤ_idr a, +ℤ_idr b) refl)
      (λ m h. rw (+ℤ-suc_ℤ a m, +ℤ-suc_ℤ b m) (step (a +ℤ m) (b +ℤ m) ∙ h))
      (λ m h. rw (+ℤ-pred_ℤ a m, +ℤ-pred_ℤ b m) (back (a +ℤ m) (b +ℤ m) ∙ h))
      c

pub ltZ_not : (a b : ℤ) → lt_z a b ≡ not (le_z b a)
ltZ_not a b = go (lt_z a b) (leZ_not b a)
  where
    go : (t : Bool) → le_z b a ≡ not t → t ≡ not (le_z b a)
    go true h = rw h refl
    go false h = rw h refl

leZ_step : (a b : ℤ) → le_z (suc_ℤ a) (suc_ℤ b) ≡ le_z a b
leZ_step (pos a) (pos b) = leb-suc-suc a b
leZ_step (pos a) (negsuc zero) = leb-suc-zero a
leZ_step (pos a) (negsuc (suc b)) = refl
leZ_step (negsuc zero) (pos b) = leb-zero (suc b)
leZ_step (negsuc (suc a)) (pos b) = refl
leZ_step (negsuc zero) (negsuc zero) = refl
leZ_step (negsuc zero) (negsuc (suc b)) = sym (leb-suc-zero b)
leZ_step (negsuc (suc a)) (negsuc zero) = sym (leb-zero (suc a))
leZ_step (negsuc (suc a)) (negsuc (suc b)) = sym (leb-suc-suc b a)

eqZ_step : (a b : ℤ) → eqZ (suc_ℤ a) (suc_ℤ b) ≡ eqZ a b
eqZ_step (pos a) (pos b) = eqb-suc-suc a b
eqZ_step (pos a) (negsuc zero) = eqb-suc-zero a
eqZ_step (pos a) (negsuc (suc b)) = refl
eqZ_step (negsuc zero) (pos b) = eqb-zero-suc b
eqZ_step (negsuc (suc a)) (pos b) = refl
eqZ_step (negsuc zero) (negsuc zero) = refl
eqZ_step (negsuc zero) (negsuc (suc b)) = sym (eqb-zero-suc b)
eqZ_step (negsuc (suc a)) (negsuc zero) = sym (eqb-suc-zero a)
eqZ_step (negsuc (suc a)) (negsuc (suc b)) = sym (eqb-suc-suc a b)

ltZ_step : (a b : ℤ) → lt_z (suc_ℤ a) (suc_ℤ b) ≡ lt_z a b
ltZ_step a b = ltZ_not (suc_ℤ a) (suc_ℤ b) ∙ ap not (leZ_step b a) ∙ sym (ltZ_not a b)

pub leZ_shift : (a b c : ℤ) → le_z (a +ℤ c) (b +ℤ c) ≡ le_z a b
leZ_shift = shift le_z leZ_step

pub eqZ_shift : (a b c : ℤ) → eqZ (a +ℤ c) (b +ℤ c) ≡ eqZ a b
eqZ_shift = shift eqZ eqZ_step

pub ltZ_shift : (a b c : ℤ) → lt_z (a +ℤ c) (b +ℤ c) ≡ lt_z a b
ltZ_shift = shift lt_z ltZ_step

pub leZ_lt : (a b : ℤ) → lt_z a b ≡ true → le_z a b ≡ true
leZ_lt (pos a) (pos b) h = le-leb a b (omega (arith, ltb-true a b h))
leZ_lt (pos a) (negsuc b) h = h
leZ_lt (negsuc a) (pos b) h = refl
leZ_lt (negsuc a) (negsuc b) h = le-leb b a (omega (arith, ltb-true b a h))

pub leZ_add : (a b c d : ℤ) → le_z a b ≡ true → le_z c d ≡ true → le_z (a +ℤ c) (b +ℤ d) ≡ true
leZ_add a b c d h k = leZ_trans (a +ℤ c) (b +ℤ c) (b +ℤ d) (leZ_shift a b c ∙ h) (rw (+ℤ_comm b c, +ℤ_comm b d) (leZ_shift c d b ∙ k))

leZ_neg : (a b : ℤ) → le_z (neg_ℤ b) (neg_ℤ a) ≡ le_z a b
leZ_neg (pos zero) (pos zero) = refl
leZ_neg (pos zero) (pos (suc b)) = sym (leb-zero (suc b))
leZ_neg (pos (suc a)) (pos zero) = sym (leb-suc-zero a)
leZ_neg (pos (suc a)) (pos (suc b)) = sym (leb-suc-suc a b)
leZ_neg (pos zero) (negsuc b) = leb-suc-zero b
leZ_neg (pos (suc a)) (negsuc b) = refl
leZ_neg (negsuc a) (pos zero) = leb-zero (suc a)
leZ_neg (negsuc a) (pos (suc b)) = refl
leZ_neg (negsuc a) (negsuc b) = leb-suc-suc b a

-- a product with a number keeps the order, with its negative turns it round
leZ_mul : (k : ℕ) (a b : ℤ) → le_z a b ≡ true → le_z (pos k *ℤ a) (pos k *ℤ b) ≡ true
leZ_mul zero a b h = rw (zero-*ℤ a, zero-*ℤ b) refl
leZ_mul (suc k) a b h = rw (suc_ℤ-*ℤ (pos k) a, suc_ℤ-*ℤ (pos k) b) (leZ_add (pos k *ℤ a) (pos k *ℤ b) a b (leZ_mul k a b h) h)

leZ_mul_neg : (k : ℕ) (a b : ℤ) → le_z a b ≡ true → le_z (negsuc k *ℤ b) (negsuc k *ℤ a) ≡ true
leZ_mul_neg k a b h = rw (neg_mul (pos (suc k)) a, neg_mul (pos (suc k)) b) (leZ_neg (pos (suc k) *ℤ a) (pos (suc k) *ℤ b) ∙ leZ_mul (suc k) a b h)

-- a coefficient's least and greatest product hold every product
pub times_low_le : (k low high x : ℤ) → le_z low x ≡ true → le_z x high ≡ true → le_z (times_low k low high) (k *ℤ x) ≡ true
times_low_le (pos k) low high x h g = leZ_mul k low x h
times_low_le (negsuc k) low high x h g = leZ_mul_neg k x high g

pub times_high_le : (k low high x : ℤ) → le_z low x ≡ true → le_z x high ≡ true → le_z (k *ℤ x) (times_high k low high) ≡ true
times_high_le (pos k) low high x h g = leZ_mul k x high g
times_high_le (negsuc k) low high x h g = leZ_mul_neg k low x h

pub leZ_antisym : (a b : ℤ) → le_z a b ≡ true → le_z b a ≡ true → a ≡ b
leZ_antisym (pos a) (pos b) h k = let x = leb-true a b h in let y = leb-true b a k in ap pos (omega arith)
leZ_antisym (pos a) (negsuc b) h k = never h
leZ_antisym (negsuc a) (pos b) h k = never k
leZ_antisym (negsuc a) (negsuc b) h k = let x = leb-true b a h in let y = leb-true a b k in ap negsuc (omega arith)
