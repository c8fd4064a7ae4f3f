-- What the code that reads numbers answers, given what the definitions read. Assumes nothing.
use Rattle.std.specs.Prelude.{cond, ℕ, leb, Some, None}
use Rattle.std.specs.Prelude as code
use Rattle.std.proofs.Math.Option.{Option, none, some}

-- no i32 has a greater absolute value
unfoldable pub limited : Option ℕ → Option ℕ
limited none = none
limited (some n) = cond (leb n 2147483648) (some n) none

-- the code's Option, for the definitions' one
abbrev pub option_of : {A : Type 0} → Option A → code.Option A
option_of none = None
option_of (some x) = Some x
