-- A rule's two sides that are variables with literals. F: the folded words in the work slice w.
use Rattle.std.specs.Prelude.{◌≡◌, false, List, ℕ, ◌+◌, ℤ}
use Rattle.laws.specs.Ints.{is_zero}
use Rattle.walk.specs.Item.{bool_at}
use Rattle.walk.specs.Decode.{word}

-- the two sides from a place on are variables that have literals
pub record KnownSides (F w : List ℤ) (at : ℕ) : Type 0 where
  pub first : word F at ≡ 11
  pub second : word F (at + 2) ≡ 11
  pub left : is_zero (bool_at w (word F (at + 1))) ≡ false
  pub right : is_zero (bool_at w (word F (at + 3))) ≡ false
