-- Sizes of linear sums: the total of |coefficient| × weight of its variable, with the constant's size. Assumes nothing.
use mathlib.Core.List.{List, [], ◌∷◌}
use Prim.Native.Nat.{ℕ, ◌+◌, ◌*◌}
use Rattle.std.proofs.Math.IntN.{nat_abs}
use Rattle.sums.specs.LinearSum.{Term, term, LinearSum, linear_sum}

-- w: the weight of each emitted number
module _ (w : ℕ → ℕ) where
  unfoldable pub norm : List Term → ℕ
  norm [] = 0
  norm (term v a ∷ ts) = nat_abs a * w v + norm ts

  unfoldable pub load : LinearSum → ℕ
  load (linear_sum c ts) = nat_abs c + norm ts
