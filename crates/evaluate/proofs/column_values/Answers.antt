use Prim.Native.Nat.{◌+◌, ◌-◌}
use mathlib.Core.Path.{◌≡◌}
use native.Mathlib.Omega.{arith}
use mathlib.Core.Path.{refl, ◌∙◌}
use lib.ListN.{length-set}
use mir.Syntax.{w32}
use mir.Val.{SFits}
use mir.Facts.{to_z-of_z}
use Rattle.evaluate.proofs.TableLaws.{columns_none, column_ready, column_room, columns_ready, columns_more}
use borrow.Author.Rules.{rules}
use Rattle.evaluate.proofs.column_values.Goals as goal

pub loop-i-init : goal.loop-i-init
loop-i-init c = let e : c.args.n - 0 ≡ c.args.n = omega arith in rw e (c.requires, refl, λ w' n' p. p)

pub int_value-c-requires : goal.int_value-c-requires
int_value-c-requires c = column_ready c.args.set.now c.args.values.now c.args.nb c.loop-i.next (c.args.n - c.loop-i.i) c.loop-i.work c.loop-i.i (omega arith) c.loop-i.invariant.0

pub offset_bounds-work-i : goal.offset_bounds-work-i
offset_bounds-work-i c = let q = column_room c.args.set.now c.args.values.now c.args.nb c.loop-i.next (c.args.n - c.loop-i.i) c.loop-i.work c.loop-i.i (omega arith) c.loop-i.invariant.0 in search rules

pub bounds-work-i : goal.bounds-work-i
bounds-work-i c = let q = column_room c.args.set.now c.args.values.now c.args.nb c.loop-i.next (c.args.n - c.loop-i.i) c.loop-i.work c.loop-i.i (omega arith) c.loop-i.invariant.0 in search rules

pub loop-i-preserved : goal.loop-i-preserved
loop-i-preserved c = let e : c.args.n - (c.loop-i.i + 1) ≡ c.args.n - c.loop-i.i - 1 = omega arith in let f : SFits w32 c.int_value-c.result.value = search rules in rw e (columns_ready c.args.set.now c.args.values.now c.args.nb c.loop-i.next (c.args.n - c.loop-i.i) c.loop-i.work c.loop-i.i (omega arith) _ _ c.int_value-c.ensures _ (to_z-of_z f) c.loop-i.invariant.0, length-set c.loop-i.work c.loop-i.i _ ∙ c.loop-i.invariant.1, λ w' n' p. c.loop-i.invariant.2 w' n' (columns_more c.args.set.now c.args.values.now c.args.nb c.loop-i.next (c.args.n - c.loop-i.i) c.loop-i.work c.loop-i.i (omega arith) _ _ c.int_value-c.ensures _ (to_z-of_z f) w' n' p))

pub returns : goal.returns
returns c = c.loop-i.invariant.2 _ _ (columns_none _ _ _ _ _ _ _ (omega arith))
