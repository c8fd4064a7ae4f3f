-- Within refusal 9 every sum, partial sum and coefficient that the Rust computes stays in i32; room for the terms of a sum.
-- ---- weights
use Rattle.std.specs.Prelude.{ℕ, ◌+◌, ◌≤◌, max, ℤ, pos, negsuc, nat_abs, ◌+ℤ◌}
use mathlib.Core.List.{List, [], ◌∷◌, ◌++◌}
use Rattle.std.proofs.Math.ListN.{length}
use Rattle.syntax.specs.Words.{max_weight}
use Rattle.syntax.specs.Syntax.{Domain, lower_bound, upper_bound, IntExpr, IConst, IVar, Linear, If, Terms, tnil, tmore, encode_int}
use Rattle.sums.specs.LinearSum.{Term, term, LinearSum, linear_sum, constant, singleton, add_coef, add_sum, mul_sum}
use Rattle.sums.specs.Rising.{terms_of, constant_of}
use Rattle.sums.specs.Linear.{linear_of}
use Rattle.sums.specs.Norm.{load}

-- each coefficient counts once
abbrev pub size : LinearSum → ℕ
size = load (λ v. 1)

unfoldable pub Coefficients : ℕ → List Term → Type 0
Coefficients n [] = Unit {0}
Coefficients n (term v a ∷ ts) = (nat_abs a ≤ n) × Coefficients n ts

-- its constant and its coefficients are numbers of i32, with room
pub record Fits (l : LinearSum) : Type 0 where
  pub constant_fits : nat_abs (constant_of l) ≤ max_weight
  pub coefficients_fit : Coefficients max_weight (terms_of l)

unfoldable pub Every : (LinearSum → Type 0) → List LinearSum → Type 0
Every P [] = Unit {0}
Every P (l ∷ ls) = P l × Every P ls

-- add_assign: the sum after each add_coef, and at last with the constant
unfoldable pub add_steps : ℤ → List Term → ℤ → List Term → List LinearSum
add_steps c ts d [] = linear_sum (c +ℤ d) ts ∷ []
add_steps c ts d (term v a ∷ us) = linear_sum c (add_coef v a ts) ∷ add_steps c (add_coef v a ts) d us

unfoldable pub sum_steps : LinearSum → LinearSum → List LinearSum
sum_steps a b = add_steps (constant_of a) (terms_of a) (constant_of b) (terms_of b)

-- normalize_int_expr: every sum on the way
module _ (number made : ℕ → ℕ) where
  unfoldable mutual
    pub computed : ℕ → IntExpr → List LinearSum
    computed at (IConst c) = constant c ∷ []
    computed at (IVar v) = singleton (number v) ∷ []
    computed at (Linear ts) = constant (pos 0) ∷ computed_terms (at + 2) ts (constant (pos 0))
    computed at (If i c t f) = singleton (made at) ∷ []

    pub computed_terms : ℕ → Terms → LinearSum → List LinearSum
    computed_terms at tnil sum = []
    computed_terms at (tmore k e ts) sum =
        let m = mul_sum k (linear_of number made (at + 1) e) in
        computed (at + 1) e ++ (m ∷ sum_steps sum m ++ computed_terms (at + 1 + length (encode_int e)) ts (add_sum sum m))

  -- a comparison: both sides, the right one negated, and the difference term by term
  unfoldable pub computed_comparison : IntExpr → IntExpr → List LinearSum
  computed_comparison a b =
      let m = mul_sum (negsuc 0) (linear_of number made (length (encode_int a)) b) in
      computed 0 a ++ (computed (length (encode_int a)) b ++ (m ∷ sum_steps (linear_of number made 0 a) m))

abbrev pub Small : LinearSum → Type 0
Small l = size l ≤ max_weight

-- the larger size of a domain's bounds
abbrev pub reach : Domain → ℕ
reach d = max (nat_abs (lower_bound d)) (nat_abs (upper_bound d))

unfoldable pub Room : List Term → List Term → Type 0
Room ts [] = Unit {0}
Room ts (term v a ∷ us) = (length (add_coef v a ts) ≤ 64) × Room (add_coef v a ts) us
