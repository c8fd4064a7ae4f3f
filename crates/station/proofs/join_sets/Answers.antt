use native.Mathlib.Omega.{arith}
use Rattle.station.proofs.JoinNumbers.{small_fits, minus_small_fits, joined_small, refused_small, returns_joined, returns_refused}
use Rattle.station.proofs.join_sets.Goals as goal

pub overflow_cast-result : goal.overflow_cast-result
overflow_cast-result c = small_fits _ (joined_small _ _ _ _ _ _ _ c.join.ensures _ c.in-Words.is)

pub overflow_cast-result-in-Refused : goal.overflow_cast-result-in-Refused
overflow_cast-result-in-Refused c = small_fits _ (omega (arith, refused_small _ _ _ _ _ _ _ c.join.ensures _ c.in-Refused.is))

pub overflow_sub-result : goal.overflow_sub-result
overflow_sub-result c = minus_small_fits _ (refused_small _ _ _ _ _ _ _ c.join.ensures _ c.in-Refused.is)

pub returns-in-Words : goal.returns-in-Words
returns-in-Words c = returns_joined _ _ _ _ _ _ _ c.join.ensures _ c.in-Words.is

pub returns-in-Refused : goal.returns-in-Refused
returns-in-Refused c = returns_refused _ _ _ _ _ _ _ c.join.ensures _ c.in-Refused.is
