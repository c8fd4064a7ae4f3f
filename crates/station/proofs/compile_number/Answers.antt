-- `compile_number` meets its contract.
use native.Mathlib.Omega.{arith}
use Rattle.station.proofs.Numbers.{number_fits, negated_fits, words_small, refusal_small, returns_words, returns_none, returns_refusal}
use Rattle.station.proofs.compile_number.Goals as goal

pub overflow_cast-result : goal.overflow_cast-result
overflow_cast-result c = number_fits _ (words_small _ _ _ _ _ _ _ c.compile_with.ensures _ c.in-Compiled.is)

pub overflow_cast-result-in-Refused : goal.overflow_cast-result-in-Refused
overflow_cast-result-in-Refused c = number_fits _ (omega (arith, refusal_small _ _ _ _ _ _ _ c.compile_with.ensures _ c.in-Refused.is))

pub overflow_sub-result : goal.overflow_sub-result
overflow_sub-result c = negated_fits _ (refusal_small _ _ _ _ _ _ _ c.compile_with.ensures _ c.in-Refused.is)

pub returns-in-Compiled : goal.returns-in-Compiled
returns-in-Compiled c = returns_words _ _ _ _ _ _ _ c.compile_with.ensures _ c.in-Compiled.is

pub returns-in-Contradiction : goal.returns-in-Contradiction
returns-in-Contradiction c = returns_none _ _ _ _ _ _ _ c.compile_with.ensures c.in-Contradiction.is

pub returns-in-Refused : goal.returns-in-Refused
returns-in-Refused c = returns_refusal _ _ _ _ _ _ _ c.compile_with.ensures _ c.in-Refused.is
