-- The limits that a walk tests, and the numbers of their refusals. Assumes nothing.
use Rattle.std.specs.Prelude.{ℕ, Option, Some, None}
use Rattle.words.specs.Refusal.{number_of}
use Rattle.words.specs.declared.refusal.Refusal.{Refusal}
use Rattle.words.specs.declared.refusal.Refusal.TheVariants as refusal
use Rattle.accept.specs.declared.Limit.{Limit}
use Rattle.accept.specs.declared.Limit.TheVariants as limit

abbrev pub refusal_of : Limit → Refusal
refusal_of limit.Weight = refusal.HeavyWeight
refusal_of limit.Variables = refusal.ManyVariables
refusal_of limit.Span = refusal.WideColumn

-- the number of the limit that is passed, or 12
abbrev pub hit : Option Limit → ℕ
hit (Some l) = number_of (refusal_of l)
hit None = 12
