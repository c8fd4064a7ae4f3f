use mathlib.Core.Path.{refl, ◌∙◌}
use Rattle.propagate.proofs.WorklistLaws.{sweep_first, sweep_ready, sweep_stop, sweep_fits, sweep_next}
use Rattle.propagate.proofs.Statuses.{satisfiable}
use Rattle.propagate.proofs.sweep.Goals as goal

pub loop-i-init : goal.loop-i-init
loop-i-init c = (sweep_first _ _ _ _ _ c.requires.ready_passes c.requires.places, refl, refl)

pub step-a-requires : goal.step-a-requires
step-a-requires c = sweep_ready _ _ _ _ _ _ _ _ _ c.loop-i-test.true c.loop-i.invariant.0

pub returns-then-eq : goal.returns-then-eq
returns-then-eq c = sweep_stop _ _ _ _ _ _ _ _ _ c.loop-i-test.true c.loop-i.invariant.0 _ _ _ _ c.step-a.ensures

pub push_after-count-requires : goal.push_after-count-requires
push_after-count-requires c = record { count_bound = c.loop-i.invariant.0.short; end_in_bounds = sweep_fits _ _ _ _ _ _ _ _ _ c.loop-i-test.true c.loop-i.invariant.0 _ _ _ _ c.step-a.ensures c.step-a.auto.work }

pub loop-i-preserved : goal.loop-i-preserved
loop-i-preserved c = (sweep_next _ _ _ _ _ _ _ _ _ c.loop-i-test.true c.loop-i.invariant.0 _ _ _ _ c.step-a.ensures (satisfiable _ _ c.eq.ensures c.if-eq.false) c.step-a.auto.work _ c.watch_statement.ensures _ c.push_after-count.ensures, c.watch_statement.auto.places ∙ c.loop-i.invariant.1, c.push_after-count.auto.watches ∙ c.watch_statement.auto.watches ∙ c.loop-i.invariant.2)

pub returns : goal.returns
returns c = (c.loop-i.invariant.0.advanced, c.loop-i.invariant.0.placed, c.loop-i.invariant.0.short)
