-- No operation makes more than it is given.
use Rattle.std.specs.Prelude.{◌≡◌, Bool, cond, ltb, ℤ, pos, ◌+ℤ◌, ◌*ℤ◌, take}
use Rattle.std.proofs.Math.Path.{refl}
use Rattle.std.proofs.Math.Bool.{true, false}
use mathlib.Core.List.{List, [], ◌∷◌}
use Prim.Native.Nat.{ℕ, zero, suc, ◌+◌, ◌*◌, ◌≤◌, zero-le}
use Rattle.std.proofs.Common.{mul-le-mul_right, add-mul}
use Rattle.std.proofs.Math.Nat.{mul_comm, mul_assoc}
use native.Mathlib.Omega.{arith}
use Rattle.std.proofs.Math.Dec.{eqb}
use Rattle.std.proofs.Math.IntN.{nat_abs}
use borrow.Author.Tests.{eqb-true}
use Rattle.laws.specs.Ints.{is_zero, natAbs_add, nat_abs_mul}
use Rattle.sums.specs.Norm.{norm, load}
use Rattle.sums.specs.LinearSum.{Term, term, LinearSum, linear_sum, constant, singleton, place, insert_coef, add_coef, add_terms, add_sum, mul_terms, mul_sum}

-- w: the weight of each emitted number
module _ (w : ℕ → ℕ) where
  merge : (a b : ℤ) (n : ℕ) → nat_abs (b +ℤ a) * n ≤ nat_abs b * n + nat_abs a * n
  merge a b n = rw (← add-mul) (mul-le-mul_right n (natAbs_add b a))

  insert_norm : (v : ℕ) (a : ℤ) (ts : List Term) → norm w (insert_coef v a ts) ≤ norm w ts + nat_abs a * w v
  unfolding norm insert_coef
  insert_norm v a [] = omega arith
  insert_norm v a (term u b ∷ ts) = go (ltb v u) (eqb v u) refl (is_zero (b +ℤ a)) refl (insert_norm v a ts)
    where
      go : (l e : Bool) → eqb v u ≡ e → (t : Bool) → is_zero (b +ℤ a) ≡ t → norm w (insert_coef v a ts) ≤ norm w ts + nat_abs a * w v
          → norm w (place l e v a u b ts (insert_coef v a ts)) ≤ nat_abs b * w u + norm w ts + nat_abs a * w v
      go true e k t s h = omega arith
      go false true k true s h = rw s (omega arith)
      go false true k false s h = rw (s, eqb-true v u k) (omega (arith, merge a b (w u)))
      go false false k t s h = omega arith

  pub add_coef_norm : (v : ℕ) (a : ℤ) (ts : List Term) → norm w (add_coef v a ts) ≤ norm w ts + nat_abs a * w v
  unfolding add_coef
  add_coef_norm v a ts = go (is_zero a)
    where
      go : (t : Bool) → norm w (cond t ts (insert_coef v a ts)) ≤ norm w ts + nat_abs a * w v
      go true = omega arith
      go false = insert_norm v a ts

  add_terms_norm : (ts us : List Term) → norm w (add_terms ts us) ≤ norm w ts + norm w us
  unfolding norm add_terms
  add_terms_norm ts [] = omega arith
  add_terms_norm ts (term v a ∷ us) = omega (arith, add_terms_norm (add_coef v a ts) us, add_coef_norm v a ts)

  pub mul_terms_norm : (k : ℤ) (ts : List Term) → norm w (mul_terms k ts) ≡ nat_abs k * norm w ts
  unfolding norm mul_terms
  mul_terms_norm k [] = omega arith
  mul_terms_norm k (term v a ∷ ts) = rw (nat_abs_mul a k, mul_comm (nat_abs a) (nat_abs k), mul_assoc (nat_abs k) (nat_abs a) (w v), mul_terms_norm k ts) (omega arith)

  pub constant_load : (c : ℤ) → load w (constant c) ≡ nat_abs c
  unfolding load norm
  constant_load c = omega arith

  pub singleton_load : (v : ℕ) → load w (singleton v) ≡ w v
  unfolding load norm
  singleton_load v = omega arith

  pub add_sum_load : (a b : LinearSum) → load w (add_sum a b) ≤ load w a + load w b
  unfolding load add_sum
  add_sum_load (linear_sum c ts) (linear_sum d us) = omega (arith, natAbs_add c d, add_terms_norm ts us)

  pub mul_sum_load : (k : ℤ) (a : LinearSum) → load w (mul_sum k a) ≤ nat_abs k * load w a
  unfolding load norm mul_sum
  mul_sum_load k (linear_sum c ts) = go (is_zero k)
    where
      go : (t : Bool) → load w (cond t (constant (pos 0)) (linear_sum (c *ℤ k) (mul_terms k ts))) ≤ nat_abs k * (nat_abs c + norm w ts)
      go true = zero-le
      go false = omega (arith, mul_terms_norm k ts, nat_abs_mul c k)

  pub take_norm : (i : ℕ) (ts : List Term) → norm w (take i ts) ≤ norm w ts
  unfolding norm
  take_norm zero ts = zero-le
  take_norm (suc i) [] = zero-le
  take_norm (suc i) (term v a ∷ ts) = omega (arith, take_norm i ts)
