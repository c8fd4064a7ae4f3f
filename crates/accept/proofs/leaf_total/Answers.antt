use mathlib.Core.Path.{refl}
use Prim.Native.Nat.{◌+◌}
use native.Mathlib.Omega.{arith}
use lib.IntN.{pos}
use lib.ListN.{get_or}
use mir.Syntax.{w32}
use mir.Val.{SFits}
use mir.Facts.{to_z-of_z}
use borrow.Author.Rules.{sfits_of}
use Rattle.accept.proofs.Laws.{leaf_inside, leaf_second, leaf_const, leaf_ready, leaf_var}
use borrow.Author.Rules.{rules}
use Rattle.accept.proofs.leaf_total.Goals as goal

pub bounds-walk-at : goal.bounds-walk-at
bounds-walk-at c = let q = leaf_inside c.args.walk.now.set.now c.args.walk.now.work.now c.args.at c.args.code c.requires in search rules

pub returns-then-code-eq20 : goal.returns-then-code-eq20
returns-then-code-eq20 c = let f : SFits w32 (get_or c.args.walk.now.set.now (c.args.at + 1) (pos 0)) = sfits_of c.c-1.given in leaf_const c.args.walk.now.set.now c.args.walk.now.work.now c.args.at c.args.code c.requires _ _ c.if-code-eq20.true refl (rw (to_z-of_z f) at c.constant_total.ensures)

pub overflow_add-at : goal.overflow_add-at
overflow_add-at c = let q = leaf_inside c.args.walk.now.set.now c.args.walk.now.work.now c.args.at c.args.code c.requires in omega arith

pub number-v-requires : goal.number-v-requires
number-v-requires c = leaf_second c.args.walk.now.set.now c.args.walk.now.work.now c.args.at c.args.code c.requires c.if-code-eq20.false

pub variable_total-requires : goal.variable_total-requires
variable_total-requires c = leaf_ready c.args.walk.now.set.now c.args.walk.now.work.now c.args.at c.args.code c.requires c.if-code-eq20.false _ c.number-v.ensures.0

pub returns : goal.returns
returns c = leaf_var c.args.walk.now.set.now c.args.walk.now.work.now c.args.at c.args.code c.requires c.if-code-eq20.false _ c.number-v.ensures.0 _ c.variable_total.ensures
