-- Value by value; what is left tells what the whole tells.
use mathlib.Core.Path.{refl, ap}
use native.Mathlib.Omega.{arith}
use mir.Syntax.{w32}
use mir.Val.{SFits, of_z}
use Rattle.laws.specs.Signed.{same_value}
use Rattle.differing.proofs.Candidates.{has_value, same_next, same_not, same_end}
use borrow.Author.Rules.{rules}
use Rattle.differing.proofs.same_values.Goals as goal

pub loop-k-init : goal.loop-k-init
loop-k-init c = (omega arith, λ dm em s t. refl)

pub value_at-x-requires : goal.value_at-x-requires
value_at-x-requires c = has_value c.loop-k.k c.requires.0 c.loop-k-test.true

pub value_at-y-requires : goal.value_at-y-requires
value_at-y-requires c = has_value c.loop-k.k c.requires.1 c.loop-k-test.true

pub returns-then-x-y : goal.returns-then-x-y
returns-then-x-y c = same_not c.args.set.now c.args.d c.args.b c.args.n c.loop-k.k c.loop-k-test.true c.value_at-x.ensures c.value_at-y.ensures c.loop-k.invariant.1 (λ e. c.if-x-y.true (ap (of_z w32) e))

pub loop-k-preserved : goal.loop-k-preserved
loop-k-preserved c =
    let f : SFits w32 c.value_at-x.result = search rules in
    let g : SFits w32 c.value_at-y.result = search rules in
    (omega (arith, c.loop-k-test.true), same_next c.args.set.now c.args.d c.args.b c.args.n c.loop-k.k c.loop-k-test.true c.value_at-x.ensures c.value_at-y.ensures c.loop-k.invariant.1 (same_value f g c.if-x-y.false))

pub returns : goal.returns
returns c = same_end c.args.set.now c.args.d c.args.b c.args.n c.loop-k.k c.loop-k-test.false c.loop-k.invariant.1
