use mathlib.Core.Path.{◌≡◌}
use Prim.Native.Nat.{◌+◌, ◌-◌}
use native.Mathlib.Omega.{arith}
use Rattle.accept.proofs.StatementLaws.{stmts_none, stmt_first, stmts_ready, stmts_rest}
use Rattle.accept.specs.Limit.{hit}
use Rattle.accept.proofs.FirstLaws.{hit_most}
use Rattle.accept.proofs.statements.Goals as goal

pub one_statement-t-requires : goal.one_statement-t-requires
one_statement-t-requires c = (stmt_first c.args.walk.now.set.now c.args.walk.now.work.now c.loop.next (c.args.n - c.loop.counter) c.args.walk.now.ints (omega (arith, c.loop-test.true)) c.loop.invariant.0)

pub loop-preserved : goal.loop-preserved
loop-preserved c = let e : c.args.n - (c.loop.counter + 1) ≡ c.args.n - c.loop.counter - 1 = omega arith in rw e ((stmts_ready c.args.walk.now.set.now c.args.walk.now.work.now c.loop.next (c.args.n - c.loop.counter) c.args.walk.now.ints (omega (arith, c.loop-test.true)) _ _ c.one_statement-t.ensures c.loop.invariant.0, λ r x. c.loop.invariant.1 r (stmts_rest c.args.walk.now.set.now c.args.walk.now.work.now c.loop.next (c.args.n - c.loop.counter) c.args.walk.now.ints (omega (arith, c.loop-test.true)) _ _ c.one_statement-t.ensures (hit c.loop.refusal) _ r c.first-refusal.ensures x)))

pub returns : goal.returns
returns c = c.loop.invariant.1 _ (stmts_none c.args.walk.now.set.now c.args.walk.now.work.now c.loop.next (c.args.n - c.loop.counter) c.args.walk.now.ints (hit c.loop.refusal) (omega (arith, c.loop-test.false)) (hit_most c.loop.refusal))
