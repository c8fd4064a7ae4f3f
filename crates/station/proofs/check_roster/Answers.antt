-- `check_roster` meets its contract.
use Rattle.station.proofs.RosterNumbers.{number_fits, negated_fits, broken_small, refused_small, judges_yes, judges_broken, judges_refused}
use Rattle.station.proofs.check_roster.Goals as goal

pub overflow_cast-result : goal.overflow_cast-result
overflow_cast-result c = number_fits _ (broken_small _ _ _ _ _ c.check_roster.ensures _ c.in-Broken.is)

pub overflow_cast-result-in-Refused : goal.overflow_cast-result-in-Refused
overflow_cast-result-in-Refused c = number_fits _ (refused_small _ _ _ _ _ c.check_roster.ensures _ c.in-Refused.is)

pub overflow_sub-result : goal.overflow_sub-result
overflow_sub-result c = negated_fits _ (refused_small _ _ _ _ _ c.check_roster.ensures _ c.in-Refused.is)

pub returns-in-Yes : goal.returns-in-Yes
returns-in-Yes c = judges_yes _ _ _ _ _ c.check_roster.ensures c.in-Yes.is

pub returns-in-Broken : goal.returns-in-Broken
returns-in-Broken c = judges_broken _ _ _ _ _ c.check_roster.ensures _ c.in-Broken.is

pub returns-in-Refused : goal.returns-in-Refused
returns-in-Refused c = judges_refused _ _ _ _ _ c.check_roster.ensures _ c.in-Refused.is
