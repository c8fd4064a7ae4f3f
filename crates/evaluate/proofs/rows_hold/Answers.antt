use Prim.Native.Nat.{◌+◌, ◌-◌}
use mathlib.Core.Path.{◌≡◌}
use native.Mathlib.Omega.{arith}
use Rattle.evaluate.proofs.TableLaws.{rows_none, row_ready, rows_rest, rows_hit, rows_more, rows_room}
use borrow.Author.Rules.{rules}
use Rattle.evaluate.proofs.rows_hold.Goals as goal

pub loop-init : goal.loop-init
loop-init c = let e : c.args.k - 0 ≡ c.args.k = omega arith in rw e (c.requires, λ r x. x)

pub row_holds-requires : goal.row_holds-requires
row_holds-requires c = row_ready c.args.set.now c.loop.p c.args.n (c.args.k - c.loop.counter) c.args.work.now (omega arith) c.loop.invariant.0

pub returns-then-row_holds : goal.returns-then-row_holds
returns-then-row_holds c = c.loop.invariant.1 _ (rows_hit c.args.set.now c.loop.p c.args.n (c.args.k - c.loop.counter) c.args.work.now (omega arith) _ c.row_holds.ensures c.if-row_holds.true)

pub overflow_add-p : goal.overflow_add-p
overflow_add-p c = let q = rows_room c.args.set.now c.loop.p c.args.n (c.args.k - c.loop.counter) c.args.work.now (omega arith) c.loop.invariant.0 in search rules

pub loop-preserved : goal.loop-preserved
loop-preserved c = let e : c.args.k - (c.loop.counter + 1) ≡ c.args.k - c.loop.counter - 1 = omega arith in rw e (rows_rest c.args.set.now c.loop.p c.args.n (c.args.k - c.loop.counter) c.args.work.now (omega arith) c.loop.invariant.0, λ r o. c.loop.invariant.1 r (rows_more c.args.set.now c.loop.p c.args.n (c.args.k - c.loop.counter) c.args.work.now (omega arith) _ c.row_holds.ensures c.if-row_holds.false r o))

pub returns : goal.returns
returns c = c.loop.invariant.1 _ (rows_none _ _ _ _ _ (omega arith))
