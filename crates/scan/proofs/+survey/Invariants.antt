use Prim.Native.Nat.{◌+◌, ◌-◌, ◌*◌}
use Rattle.walks.specs.Item.{counters}
use Rattle.scan.specs.Skip.{split_by}
use Rattle.scan.specs.SurveyLaws.{scanned, Sofar, TermsSofar}
use Rattle.scan.proofs.+survey.Given as goal

abbrev pub decreases-make_if : goal.decreases-make_if
decreases-make_if l = 2 * l.left + 1

abbrev pub decreases-survey : goal.decreases-survey
decreases-survey l = 2 * l.left

abbrev pub decreases-survey_int : goal.decreases-survey_int
decreases-survey_int l = 2 * l.left

abbrev pub decreases-survey_terms : goal.decreases-survey_terms
decreases-survey_terms l = 2 * l.left + 1

abbrev pub decreases-surveys : goal.decreases-surveys
decreases-surveys l = 2 * l.left + 1

abbrev pub invariant-survey_terms-loop : goal.invariant-survey_terms-loop
invariant-survey_terms-loop l = TermsSofar l.work l.left (split_by l.m) l.count l.at l.base l.initial.r.n (l.count - l.counter) l.r

abbrev pub invariant-surveys-loop : goal.invariant-surveys-loop
invariant-surveys-loop l = Sofar l.work l.left (split_by l.m) l.h l.count l.g l.at l.base (counters l.initial.r.n l.initial.ints) (scanned l.r l.ints) (l.count - l.counter) l.turned
