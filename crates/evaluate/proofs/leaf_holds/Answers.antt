use native.Mathlib.Omega.{arith}
use mathlib.Core.Path.{refl}
use lib.IntN.{pos}
use lib.ListN.{get_or}
use mir.Syntax.{w32}
use mir.Val.{SFits}
use borrow.Author.Rules.{rules}
use Rattle.passes.proofs.SkipLaws.{bool_inside, bool_second}
use Rattle.evaluate.proofs.BoolLaws.{ready_some, const_held, var_inside, var_held, eq_bits}
use Rattle.evaluate.proofs.leaf_holds.Goals as goal

pub overflow_add-at : goal.overflow_add-at
overflow_add-at c = let q = bool_inside c.args.set.now c.args.at (ready_some c.args.set.now c.args.values.now c.args.nb c.args.at c.requires.0) in search rules

pub number-v-requires : goal.number-v-requires
number-v-requires c = bool_second c.args.set.now c.args.at c.args.code c.requires.1 (ready_some c.args.set.now c.args.values.now c.args.nb c.args.at c.requires.0) (λ l. absurd (omega (arith, l, c.requires.2)))

pub returns-then-code-eq10 : goal.returns-then-code-eq10
returns-then-code-eq10 c = const_held c.args.set.now c.args.values.now c.args.nb c.args.at c.args.code c.requires.1 c.requires.2 _ c.number-v.ensures.0 _ c.if-code-eq10.true refl

pub bounds-values-v : goal.bounds-values-v
bounds-values-v c = let q = var_inside c.args.set.now c.args.values.now c.args.nb c.args.at c.args.code c.requires.1 c.requires.2 _ c.number-v.ensures.0 c.requires.0 c.if-code-eq10.false in search rules

pub returns-else-code-eq10 : goal.returns-else-code-eq10
returns-else-code-eq10 c = let f : SFits w32 (get_or c.args.values.now c.number-v.result (pos 0)) = search rules in var_held c.args.set.now c.args.values.now c.args.nb c.args.at c.args.code c.requires.1 c.requires.2 _ c.number-v.ensures.0 _ c.if-code-eq10.false (eq_bits _ (pos 1) f (search rules))
