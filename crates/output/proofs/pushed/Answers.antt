use mathlib.Core.Path.{ap, ◌∙◌}
use native.Mathlib.Omega.{arith}
use mir.Facts.{to_z-of_z}
use mir.Syntax.{w32}
use mir.Val.{SFits}
use mathlib.Core.List.{◌∷◌}
use Prim.Native.Nat.{◌+◌}
use Rattle.walk.specs.Item.{word_of}
use Rattle.output.specs.Suffix.{suffix}
use Rattle.output.proofs.Laws.{stack_next, stack_down, eqb_zero}
use borrow.Author.Rules.{rules}
use Rattle.output.proofs.pushed.Goals as goal

pub push-requires : goal.push-requires
push-requires c = c.requires.0

pub returns-then-x : goal.returns-then-x
returns-then-x c =
    let z : SFits w32 c.args.x.lit = search rules in
    let e = rw (to_z-of_z z) at c.push.ensures.0 in
    (rw (c.in-One.is, c.if-x.true) e, omega (arith, c.push.ensures.1), stack_next _ _ c.requires.0 c.push.ensures.1 c.push.ensures.2)

pub push-requires-in-Two : goal.push-requires-in-Two
push-requires-in-Two c = c.requires.0

pub push-requires-in-Each : goal.push-requires-in-Each
push-requires-in-Each c = c.requires.0

pub returns-in-Pool : goal.returns-in-Pool
returns-in-Pool c = (rw c.in-Pool.is, omega arith, stack_down 0 c.requires.0 (omega arith))

pub returns-else-x : goal.returns-else-x
returns-else-x c = (rw (c.in-One.is, c.if-x.false), omega arith, stack_down 0 c.requires.0 (omega arith))

pub returns-in-Two : goal.returns-in-Two
returns-in-Two c =
    let z : SFits w32 c.word_of.result = search rules in
    let e = rw (to_z-of_z z) at c.push-in-Two.ensures.0 in
    (rw c.in-Two.is (e ∙ ap (λ w. w ∷ suffix c.args.s) (c.word_of.ensures ∙ ap (word_of (c.args.x.base + 1)) (eqb_zero c.args.k))), omega (arith, c.push-in-Two.ensures.1), stack_next _ _ c.requires.0 c.push-in-Two.ensures.1 c.push-in-Two.ensures.2)

pub returns-in-Each : goal.returns-in-Each
returns-in-Each c =
    let z : SFits w32 c.word_of-in-Each.result = search rules in
    let e = rw (to_z-of_z z) at c.push-in-Each.ensures.0 in
    (rw c.in-Each.is (e ∙ ap (λ w. w ∷ suffix c.args.s) c.word_of-in-Each.ensures), omega (arith, c.push-in-Each.ensures.1), stack_next _ _ c.requires.0 c.push-in-Each.ensures.1 c.push-in-Each.ensures.2)
