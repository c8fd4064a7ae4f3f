use Rattle.propagate.proofs.PassLaws.{between_first, between_next, stand_folded, values_now, falls, less}
use Rattle.propagate.proofs.WorklistLaws.{falls_after, between_after}
use Rattle.propagate.proofs.Statuses.{updated, not_updated}
use Rattle.propagate.proofs.run_passes.Goals as goal

pub loop-status-init : goal.loop-status-init
loop-status-init c = between_first _ _ _ _ _ c.requires

pub constant_prop_stmts-s-requires : goal.constant_prop_stmts-s-requires
constant_prop_stmts-s-requires c = stand_folded _ _ _ _ _ _ _ c.fold_stmts-a.ensures c.fold_stmts-a.auto.work c.loop-status.invariant.ready

pub after_pass-b-requires : goal.after_pass-b-requires
after_pass-b-requires c = values_now _ _ _ _ _ _ _ c.fold_stmts-a.ensures c.fold_stmts-a.auto.work _ _ c.constant_prop_stmts-s.ensures c.loop-status.invariant.ready c.constant_prop_stmts-s.auto.work

pub loop-status-smaller : goal.loop-status-smaller
loop-status-smaller c = less _ _ _ _ (updated _ _ c.eq.ensures c.loop-status-test.true) (falls_after _ _ _ _ _ _ _ _ _ c.after_pass-b.ensures c.after_pass-b.auto.work (values_now _ _ _ _ _ _ _ c.fold_stmts-a.ensures c.fold_stmts-a.auto.work _ _ c.constant_prop_stmts-s.ensures c.loop-status.invariant.ready c.constant_prop_stmts-s.auto.work) _ (falls _ _ _ _ _ _ _ c.fold_stmts-a.ensures c.fold_stmts-a.auto.work _ _ c.constant_prop_stmts-s.ensures c.loop-status.invariant.ready c.constant_prop_stmts-s.auto.work))

pub loop-status-preserved : goal.loop-status-preserved
loop-status-preserved c = between_after _ _ _ _ _ _ _ _ _ c.after_pass-b.ensures c.after_pass-b.auto.work _ (between_next _ _ _ _ _ _ _ _ c.fold_stmts-a.ensures c.fold_stmts-a.auto.work _ _ c.constant_prop_stmts-s.ensures _ _ c.constant_prop_stmts-s.auto.work (updated _ _ c.eq.ensures c.loop-status-test.true) c.loop-status.invariant)

pub returns : goal.returns
returns c = c.loop-status.invariant.ended (not_updated _ _ c.eq.ensures c.loop-status-test.false)
