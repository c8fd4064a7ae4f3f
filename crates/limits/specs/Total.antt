-- The weight as refusal 9 totals it, stopped at a cap: a part at the cap stays there under any coefficient. What 9 lets through has values within its weight.
use Rattle.std.specs.Prelude.{◌≡◌, Bool, ◌||◌, List, ℕ, ◌+◌, ◌*◌, ◌≤◌, max, min, ℤ, nat_abs, eqb}
use Rattle.std.proofs.Math.Path.{refl, sym}
use Rattle.std.proofs.Common.{ap, ◌∙◌}
use Rattle.std.proofs.Math.Bool.{true, false, cond}
use native.Mathlib.Omega.{arith}
use Rattle.std.proofs.Math.Dec.{ltb}
use borrow.Author.Tests.{ltb-true, ltb-false, lt-ltb, le-ltb, ne_eqb}
use Rattle.laws.specs.Bools.{or_no_l}
use Rattle.std.specs.Int.Signed.{le_z}
use Rattle.laws.specs.Ints.{times_low, times_high, lower, higher, natAbs_add, times_low_size, times_high_size}
use Rattle.syntax.specs.Words.{max_weight}
use Rattle.syntax.specs.Syntax.{Domain, lower_bound, upper_bound, domain_of, IntExpr, IConst, IVar, Linear, If, Terms, tnil, tmore}
use Rattle.limits.specs.Limits.{domain_weight, weight, terms_weight, heavy, heavy_terms, heavy_comparison, interval, terms_interval}

abbrev pub cap : ℕ
cap = 1073741824

unfoldable pub joined : ℕ → ℕ → ℕ
joined a b = min (a + b) cap

unfoldable pub product : ℕ → ℕ → ℕ
product k t = cond (eqb t cap) cap (min (k * t) cap)

unfoldable pub constant_total : ℤ → ℕ
constant_total c = min (nat_abs c) cap

-- of a variable with these bounds
unfoldable pub bounds_total : ℤ → ℤ → ℕ
bounds_total low high = min (max 1 (max (nat_abs low) (nat_abs high))) cap

module _ (ds : List Domain) where
  unfoldable mutual
    pub total : IntExpr → ℕ
    total (IConst c) = constant_total c
    total (IVar v) = bounds_total (lower_bound (domain_of ds v)) (upper_bound (domain_of ds v))
    total (Linear ts) = terms_total ts
    total (If i c t f) = max 1 (max (total t) (total f))

    pub terms_total : Terms → ℕ
    terms_total tnil = 0
    terms_total (tmore k e ts) = joined (product (nat_abs k) (total e)) (terms_total ts)

-- ---- laws of the cap

-- every domain's weight is that of its bounds
pub record Bounded (ds : List Domain) : Type 0 where
  pub weights : (v : ℕ) → domain_weight (domain_of ds v) ≡ max 1 (max (nat_abs (lower_bound (domain_of ds v))) (nat_abs (upper_bound (domain_of ds v))))
