-- The refusal of a set as a number, 0 where 1 to 11 let it through; and a slice of zeros.
use Rattle.std.specs.Prelude.{ℕ, Result, Ok, Err}
use Rattle.reader.specs.declared.Declared.{Declared}

abbrev pub refusal_of : Result Declared ℕ → ℕ
refusal_of (Ok d) = 0
refusal_of (Err k) = k
