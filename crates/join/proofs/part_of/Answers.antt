use mathlib.Core.Path.{refl}
use native.Mathlib.Omega.{arith}
use Rattle.join.proofs.NthLaws.{part_ready, part_post}
use Rattle.join.proofs.part_of.Goals as goal

pub statement-s-requires : goal.statement-s-requires
statement-s-requires c = (part_ready c.args.set.now c.args.work.now c.args.at c.args.ni c.args.k _ c.nth-from.ensures c.requires.0, omega (arith, c.requires.1))

pub returns : goal.returns
returns c = (part_post c.args.set.now c.args.work.now c.args.at c.args.ni c.args.k _ c.nth-from.ensures _ _ c.statement-s.ensures, refl)
