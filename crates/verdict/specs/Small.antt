-- Within refusal 9 every value that the check works out, partial sums included, is an i32. Assumes nothing.
use Rattle.std.specs.Prelude.{Bool, true, false, cond, List, ℕ, ◌*◌, ◌≤◌, max, ℤ, nat_abs, ◌*ℤ◌}
use Rattle.std.proofs.Common.{arith, mul-le-mul_left}
use Rattle.laws.specs.Ints.{natAbs_add, nat_abs_mul}
use Rattle.syntax.specs.Syntax.{Domain, domain_of, IntExpr, IConst, IVar, Linear, If, Terms, tnil, tmore}
use Rattle.syntax.specs.Satisfies.{Val, IVal, int_value, terms_value, holds}
use Rattle.syntax.specs.Written.{EveryInt, EveryTerm, EveryIntOf}
use Rattle.limits.specs.Limits.{domain_weight, weight, terms_weight}

-- a variable's value is no larger than its weight
abbrev pub Light : List Domain → IVal → ℕ → Type 0
Light ds ε v = nat_abs (ε v) ≤ domain_weight (domain_of ds v)

picked_small : (b : Bool) (x y : ℤ) (m n : ℕ) → nat_abs x ≤ m → nat_abs y ≤ n → nat_abs (cond b x y) ≤ max 1 (max m n)
picked_small true x y m n h k = omega arith
picked_small false x y m n h k = omega arith

module _ (ds : List Domain) (δ : Val) (ε : IVal) (ρ : Val) where
  mutual
    unfolding int_value weight EveryIntOf

    pub value_small : (e : IntExpr) → EveryInt (Light ds ε) e → nat_abs (int_value δ ε ρ e) ≤ weight ds e
    value_small (IConst c) h = omega arith
    value_small (IVar v) h = h
    value_small (Linear ts) h = terms_small ts h
    value_small (If i c t f) h = picked_small (holds δ ε ρ c) (int_value δ ε ρ t) (int_value δ ε ρ f) (weight ds t) (weight ds f) (value_small t h.1.0) (value_small f h.1.1)

    pub terms_small : (ts : Terms) → EveryTerm (Light ds ε) ts → nat_abs (terms_value δ ε ρ ts) ≤ terms_weight ds ts
    terms_small tnil h = omega arith
    terms_small (tmore k e ts) h =
        let a = natAbs_add (k *ℤ int_value δ ε ρ e) (terms_value δ ε ρ ts) in
        let b = nat_abs_mul k (int_value δ ε ρ e) in
        let c : nat_abs k * nat_abs (int_value δ ε ρ e) ≤ nat_abs k * weight ds e = mul-le-mul_left (nat_abs k) (value_small e h.0) in
        omega (arith, a, b, c, terms_small ts h.1)
