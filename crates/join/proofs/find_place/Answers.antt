use mathlib.Core.Path.{ap, ◌∙◌}
use Rattle.join.specs.Join.{statement_at}
use Rattle.join.specs.Contract.{place_of}
use Rattle.join.proofs.FindLaws.{find_refused, find_ready}
use Rattle.words.specs.Refusal.{by_number}
use Rattle.laws.specs.Slices.{zeros}
use Rattle.join.proofs.find_place.Goals as goal

pub find-r-requires : goal.find-r-requires
find-r-requires c = find_ready c.args.first.now c.args.second.now c.args.work.now _ _ c.agree.auto.work _ (ap by_number c.in-Ok.is) c.agree.ensures

pub returns-in-Err : goal.returns-in-Err
returns-in-Err c = record { place = find_refused c.args.first.now c.args.second.now c.args.work.now _ c.args.number _ _ (ap by_number c.in-Err.is) c.agree.ensures; zeroed = c.clear.ensures ∙ ap zeros c.agree.auto.work }

pub returns-in-Ok : goal.returns-in-Ok
returns-in-Ok c = record { place = c.find-r.ensures ∙ ap (λ n. place_of (statement_at c.args.first.now c.args.second.now n c.args.number)) c.agree.auto.work; zeroed = c.clear-in-Ok.ensures ∙ ap zeros c.agree.auto.work }
