use Rattle.std.specs.Prelude.{refl, Some, None}
use Rattle.accept.specs.Limit.{hit}
use Rattle.accept.proofs.FirstLaws.{hit_some}
use Rattle.accept.proofs.StatementLaws.{check_none, check_hit}
use Rattle.accept.proofs.check.Goals as goal

pub returns-in-Some : goal.returns-in-Some
returns-in-Some c = rw c.from.ensures (check_hit c.args.set.now c.args.work.now c.args.at c.args.n c.args.ni (hit (Some c.in-Some.limit)) c.in-Some.ensures (hit_some c.in-Some.limit))

pub returns-in-None : goal.returns-in-None
returns-in-None c = check_none c.args.set.now c.args.work.now c.args.at c.args.n c.args.ni (hit None) c.in-None.ensures refl
