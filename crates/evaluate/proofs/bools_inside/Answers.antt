use native.Mathlib.Omega.{arith}
use mathlib.Core.Path.{sym, ◌∙◌}
use lib.IntN.{pos}
use lib.ListN.{get_or}
use mir.Syntax.{w32}
use mir.Val.{SFits}
use mir.Facts.{to_z-of_z}
use borrow.Author.Rules.{rules}
use Rattle.verdict.specs.Roster.{is_bit}
use Rattle.evaluate.proofs.ValueLaws.{bools_start, bools_none, bools_stop, bools_more}
use Rattle.evaluate.proofs.bools_inside.Goals as goal

pub loop-v-init : goal.loop-v-init
loop-v-init c = (omega arith, bools_start (λ v. is_bit (get_or c.args.values.now v (pos 0))) c.args.nb)

pub returns-then-not-bit : goal.returns-then-not-bit
returns-then-not-bit c = let f : SFits w32 (get_or c.args.values.now c.loop-v.v (pos 0)) = search rules in c.loop-v.invariant.1 _ (bools_stop (λ v. is_bit (get_or c.args.values.now v (pos 0))) _ _ (omega arith) (sym (rw (to_z-of_z f) at c.bit.ensures) ∙ c.if-not-bit.true))

pub loop-v-preserved : goal.loop-v-preserved
loop-v-preserved c = let f : SFits w32 (get_or c.args.values.now c.loop-v.v (pos 0)) = search rules in (omega arith, λ r x. c.loop-v.invariant.1 r (bools_more (λ v. is_bit (get_or c.args.values.now v (pos 0))) _ _ (omega arith) (sym (rw (to_z-of_z f) at c.bit.ensures) ∙ c.if-not-bit.false) r x))

pub returns : goal.returns
returns c = c.loop-v.invariant.1 _ (bools_none (λ v. is_bit (get_or c.args.values.now v (pos 0))) _ _ (omega arith))
