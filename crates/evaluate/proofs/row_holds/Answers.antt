use Prim.Native.Nat.{◌+◌, ◌-◌}
use native.Mathlib.Omega.{arith}
use mathlib.Core.Path.{◌≡◌}
use lib.IntN.{pos}
use lib.ListN.{get_or}
use mir.Syntax.{w32}
use mir.Val.{SFits}
use mir.Facts.{to_z-of_z}
use borrow.Author.Rules.{rules}
use Rattle.evaluate.proofs.TableLaws.{row_none, row_inside, row_rest, row_stop, row_more}
use Rattle.evaluate.proofs.row_holds.Goals as goal

pub loop-i-init : goal.loop-i-init
loop-i-init c =
    let e : c.args.at + 0 ≡ c.args.at = omega arith in
    let m : c.args.n - 0 ≡ c.args.n = omega arith in
    rw (e, m) (c.requires, λ r x. x)

pub overflow_add-at : goal.overflow_add-at
overflow_add-at c = let q = row_inside c.args.set.now (c.args.at + c.loop-i.i) (c.args.n - c.loop-i.i) c.args.work.now c.loop-i.i (omega arith) c.loop-i.invariant.0 in search rules

pub offset_bounds-set-at : goal.offset_bounds-set-at
offset_bounds-set-at c = let q = row_inside c.args.set.now (c.args.at + c.loop-i.i) (c.args.n - c.loop-i.i) c.args.work.now c.loop-i.i (omega arith) c.loop-i.invariant.0 in search rules

pub bounds-set-at : goal.bounds-set-at
bounds-set-at c = let q = row_inside c.args.set.now (c.args.at + c.loop-i.i) (c.args.n - c.loop-i.i) c.args.work.now c.loop-i.i (omega arith) c.loop-i.invariant.0 in search rules

pub offset_bounds-work-i : goal.offset_bounds-work-i
offset_bounds-work-i c = let q = row_inside c.args.set.now (c.args.at + c.loop-i.i) (c.args.n - c.loop-i.i) c.args.work.now c.loop-i.i (omega arith) c.loop-i.invariant.0 in search rules

pub bounds-work-i : goal.bounds-work-i
bounds-work-i c = let q = row_inside c.args.set.now (c.args.at + c.loop-i.i) (c.args.n - c.loop-i.i) c.args.work.now c.loop-i.i (omega arith) c.loop-i.invariant.0 in search rules

pub returns-then-not-permits : goal.returns-then-not-permits
returns-then-not-permits c =
    let f : SFits w32 (get_or c.args.set.now (c.args.at + c.loop-i.i) (pos 0)) = search rules in
    let g : SFits w32 (get_or c.args.work.now c.loop-i.i (pos 0)) = search rules in
    c.loop-i.invariant.1 _ (row_stop c.args.set.now (c.args.at + c.loop-i.i) (c.args.n - c.loop-i.i) c.args.work.now c.loop-i.i (omega arith) _ (rw (to_z-of_z f, to_z-of_z g) at c.permits.ensures) c.if-not-permits.true)

pub loop-i-preserved : goal.loop-i-preserved
loop-i-preserved c =
    let e : c.args.at + (c.loop-i.i + 1) ≡ c.args.at + c.loop-i.i + 1 = omega arith in
    let m : c.args.n - (c.loop-i.i + 1) ≡ c.args.n - c.loop-i.i - 1 = omega arith in
    let f : SFits w32 (get_or c.args.set.now (c.args.at + c.loop-i.i) (pos 0)) = search rules in
    let g : SFits w32 (get_or c.args.work.now c.loop-i.i (pos 0)) = search rules in
    rw (e, m) (row_rest c.args.set.now (c.args.at + c.loop-i.i) (c.args.n - c.loop-i.i) c.args.work.now c.loop-i.i (omega arith) c.loop-i.invariant.0, λ r p. c.loop-i.invariant.1 r (row_more c.args.set.now (c.args.at + c.loop-i.i) (c.args.n - c.loop-i.i) c.args.work.now c.loop-i.i (omega arith) _ (rw (to_z-of_z f, to_z-of_z g) at c.permits.ensures) c.if-not-permits.false r p))

pub returns : goal.returns
returns c = c.loop-i.invariant.1 _ (row_none _ _ _ _ _ (omega arith))
