use mathlib.Core.Path.{◌≡◌, refl, ◌∙◌}
use lib.IntN.{nat_abs, ◌-ℤ◌}
use mir.Syntax.{w32}
use mir.Val.{SFits}
use mir.Facts.{to_z-of_z}
use Rattle.accept.proofs.TestLaws.{root_heavy, root_ready, root_many, root_wide, root_none}
use borrow.Author.Rules.{rules}
use Rattle.accept.proofs.root.Goals as goal

pub returns-then-total-gt1073741823 : goal.returns-then-total-gt1073741823
returns-then-total-gt1073741823 c = root_heavy c.args.walk.now.set.now c.args.walk.now.work.now c.args.at c.args.words c.args.total c.args.walk.now.ints c.if-total-gt1073741823.true

pub returns-then-many_column : goal.returns-then-many_column
returns-then-many_column c = root_many c.args.walk.now.set.now c.args.walk.now.work.now c.args.at c.args.words c.args.total c.args.walk.now.ints c.if-total-gt1073741823.false _ c.many_column.ensures c.if-many_column.true

pub int_range-r-requires : goal.int_range-r-requires
int_range-r-requires c = root_ready c.args.walk.now.set.now c.args.walk.now.work.now c.args.at c.args.words c.args.total c.args.walk.now.ints c.if-total-gt1073741823.false c.requires

pub returns-then-d-gt4095 : goal.returns-then-d-gt4095
returns-then-d-gt4095 c = let f : SFits w32 c.int_range-r.result.low = search rules in let g : SFits w32 c.int_range-r.result.high = search rules in let d : c.abs_diff-d.result ≡ nat_abs (c.int_range-r.result.high -ℤ c.int_range-r.result.low) = c.abs_diff-d.ensures ∙ rw (to_z-of_z f, to_z-of_z g) refl in root_wide c.args.walk.now.set.now c.args.walk.now.work.now c.args.at c.args.words c.args.total c.args.walk.now.ints c.if-total-gt1073741823.false _ c.many_column.ensures c.if-many_column.false _ _ _ c.int_range-r.ensures _ d c.if-d-gt4095.true

pub returns : goal.returns
returns c = let f : SFits w32 c.int_range-r.result.low = search rules in let g : SFits w32 c.int_range-r.result.high = search rules in let d : c.abs_diff-d.result ≡ nat_abs (c.int_range-r.result.high -ℤ c.int_range-r.result.low) = c.abs_diff-d.ensures ∙ rw (to_z-of_z f, to_z-of_z g) refl in root_none c.args.walk.now.set.now c.args.walk.now.work.now c.args.at c.args.words c.args.total c.args.walk.now.ints c.if-total-gt1073741823.false _ c.many_column.ensures c.if-many_column.false _ _ _ c.int_range-r.ensures _ d c.if-d-gt4095.false
