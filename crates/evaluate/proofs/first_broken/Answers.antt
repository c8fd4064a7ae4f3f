use Prim.Native.Nat.{◌+◌, ◌-◌}
use mathlib.Core.Path.{◌≡◌}
use native.Mathlib.Omega.{arith}
use mathlib.Core.Path.{refl, ◌∙◌}
use Rattle.evaluate.proofs.BoolLaws.{not-true, not-false}
use Rattle.evaluate.proofs.StmtLaws.{stmts_none, stmt_ready, stmts_stop, stmts_ready, stmts_more}
use Rattle.evaluate.proofs.first_broken.Goals as goal

pub loop-k-init : goal.loop-k-init
loop-k-init c = let e : c.args.n - 0 ≡ c.args.n = omega arith in rw e (c.requires, refl, λ r x. x)

pub statement_holds-s-requires : goal.statement_holds-s-requires
statement_holds-s-requires c = stmt_ready c.args.set.now c.args.values.now c.args.nb c.loop-k.next (c.args.n - c.loop-k.k) (omega arith) _ c.loop-k.invariant.0

pub returns-then-not-s : goal.returns-then-not-s
returns-then-not-s c = c.loop-k.invariant.2 _ (stmts_stop c.args.set.now c.args.values.now c.args.nb c.loop-k.next (c.args.n - c.loop-k.k) (omega arith) _ _ c.statement_holds-s.ensures _ (not-true _ c.if-not-s.true))

pub loop-k-preserved : goal.loop-k-preserved
loop-k-preserved c = let e : c.args.n - (c.loop-k.k + 1) ≡ c.args.n - c.loop-k.k - 1 = omega arith in rw e (stmts_ready c.args.set.now c.args.values.now c.args.nb c.loop-k.next (c.args.n - c.loop-k.k) (omega arith) _ _ c.statement_holds-s.ensures c.loop-k.work _ c.statement_holds-s.auto.work c.loop-k.invariant.0, c.statement_holds-s.auto.work ∙ c.loop-k.invariant.1, λ r o. c.loop-k.invariant.2 r (stmts_more c.args.set.now c.args.values.now c.args.nb c.loop-k.next (c.args.n - c.loop-k.k) (omega arith) _ _ c.statement_holds-s.ensures (c.loop-k.k + 1) (not-false _ c.if-not-s.false) r o))

pub returns : goal.returns
returns c = c.loop-k.invariant.2 _ (stmts_none _ _ _ _ _ _ (omega arith))
