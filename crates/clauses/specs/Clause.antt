-- Clauses over emitted numbers: literals, and comparisons of a linear sum with 0 (BoolLit, LinearLit, Constraint of norm_csp).
use Rattle.std.specs.Prelude.{Bool, true, false, not, ◌||◌, List, ℕ, pos}
use Rattle.laws.specs.Lists.{any}
use Rattle.syntax.specs.Syntax.{CmpOp}
use Rattle.syntax.specs.Satisfies.{Val, IVal, compare}
use Rattle.sums.specs.LinearSum.{LinearSum, sum_value}

-- an emitted number and whether it is negated
pub data BoolLit : Type 0 where
  lit : ℕ → Bool → BoolLit

-- a sum against 0
pub data LinearLit : Type 0 where
  linear : CmpOp → LinearSum → LinearLit

pub data Clause : Type 0 where
  clause : List BoolLit → List LinearLit → Clause

-- ---- when a clause is true; ρ and ι: values of the emitted numbers

abbrev pub negate_if : Bool → Bool → Bool
negate_if false b = b
negate_if true b = not b

abbrev pub lit_true : Val → BoolLit → Bool
lit_true ρ (lit n g) = negate_if g (ρ n)

abbrev pub linear_true : IVal → LinearLit → Bool
linear_true ι (linear o l) = compare o (sum_value ι l) (pos 0)

abbrev pub clause_true : Val → IVal → Clause → Bool
clause_true ρ ι (clause ls ks) = any (lit_true ρ) ls || any (linear_true ι) ks
