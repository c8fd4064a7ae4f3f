-- The linear sum of an integer expression where the numbers of the declared variables and of its Ifs are given.
use Rattle.std.specs.Prelude.{ℕ, ◌+◌, pos, length}
use Rattle.syntax.specs.Syntax.{IntExpr, IConst, IVar, Linear, If, Terms, tnil, tmore, encode_int}
use Rattle.sums.specs.LinearSum.{LinearSum, constant, singleton, add_sum, mul_sum}

-- number: the emitted number of each declared variable; made: that of the If at each place, since an If with constant values gets a number at every meeting.
-- The expression stands at place `at`
module _ (number made : ℕ → ℕ) where
  unfoldable mutual
    pub linear_of : ℕ → IntExpr → LinearSum
    linear_of at (IConst c) = constant c
    linear_of at (IVar v) = singleton (number v)
    linear_of at (Linear ts) = linear_terms (at + 2) ts (constant (pos 0))
    linear_of at (If i c t f) = singleton (made at)

    -- the sum so far and the terms to come
    pub linear_terms : ℕ → Terms → LinearSum → LinearSum
    linear_terms at tnil sum = sum
    linear_terms at (tmore k e ts) sum = linear_terms (at + 1 + length (encode_int e)) ts (add_sum sum (mul_sum k (linear_of (at + 1) e)))

-- a property of each If's number and the If, for the Ifs outside other Ifs
module _ (Q : ℕ → IntExpr → Type 0) (made : ℕ → ℕ) where
  unfoldable mutual
    pub EveryIf : ℕ → IntExpr → Type 0
    EveryIf at (IConst c) = Unit {0}
    EveryIf at (IVar v) = Unit {0}
    EveryIf at (Linear ts) = EveryIfOf (at + 2) ts
    EveryIf at (If i c t f) = Q (made at) (If i c t f)

    pub EveryIfOf : ℕ → Terms → Type 0
    EveryIfOf at tnil = Unit {0}
    EveryIfOf at (tmore k e ts) = EveryIf (at + 1) e × EveryIfOf (at + 1 + length (encode_int e)) ts
