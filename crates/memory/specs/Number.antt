-- The number that a word holds. Assumes nothing.
use Rattle.std.specs.Prelude.{ℕ, ℤ, pos, negsuc}

-- 0 for a negative word
unfoldable pub nat : ℤ → ℕ
nat (pos n) = n
nat (negsuc n) = 0
