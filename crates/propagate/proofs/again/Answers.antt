use native.Mathlib.Omega.{arith}
use Rattle.propagate.proofs.WorklistLaws.{moves_none, again_ready, again_moves, again_fits}
use Rattle.propagate.proofs.again.Goals as goal

pub returns-then-at-eq0 : goal.returns-then-at-eq0
returns-then-at-eq0 c = (moves_none _ _ _ 0 (omega arith), c.requires.count_bound)

pub step-a-requires : goal.step-a-requires
step-a-requires c = again_ready _ _ _ _ _ c.if-at-eq0.false (c.entry-at.ensures.0 c.if-at-eq0.false) c.requires.ready_worklist

pub push_after-more-requires : goal.push_after-more-requires
push_after-more-requires c = record { count_bound = c.requires.count_bound; end_in_bounds = again_fits _ _ _ _ _ c.if-at-eq0.false (c.entry-at.ensures.0 c.if-at-eq0.false) _ _ _ c.step-a.ensures.0 c.requires.ready_worklist c.step-a.auto.work }

pub returns : goal.returns
returns c = (again_moves _ _ _ _ _ c.if-at-eq0.false (c.entry-at.ensures.0 c.if-at-eq0.false) _ _ _ c.step-a.ensures.0 _ c.forget_done.ensures, c.push_after-more.ensures)
