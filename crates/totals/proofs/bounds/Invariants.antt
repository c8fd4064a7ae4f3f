-- The loop's invariant is `Adding`.
use Rattle.scan.specs.Skip.{split_by}
use Rattle.totals.proofs.Adding.{Adding}
use Rattle.totals.proofs.bounds.Given as goal

abbrev pub invariant-loop-i : goal.invariant-loop-i
invariant-loop-i l = Adding l.work l.left (split_by l.m) l.at l.base l.n l.s l.low l.high l.i
