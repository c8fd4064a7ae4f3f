use mathlib.Core.Path.{refl}
use native.Mathlib.Omega.{arith}
use Rattle.page.proofs.Bytes.{spaces_start, spaces_next, spaces_end}
use borrow.Author.Rules.{rules}
use Rattle.page.proofs.put_spaces.Goals as goal

pub loop-o-init : goal.loop-o-init
loop-o-init c = (omega arith, refl, spaces_start c.args.out.now c.args.at)

pub loop-o-preserved : goal.loop-o-preserved
loop-o-preserved c = (omega (arith, c.min-end.ensures, c.loop-o-test.true), search rules, spaces_next _ _ _ _ (omega arith) c.loop-o.invariant.2)

pub returns : goal.returns
returns c = (spaces_end _ _ _ _ (omega arith) c.loop-o.invariant.2 _ _ c.loop-o.invariant.0 (omega (arith, c.min-end.ensures)) c.loop-o-test.false, refl)
