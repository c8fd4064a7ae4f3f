use native.Mathlib.Omega.{arith}
use Rattle.merging.proofs.Loop.{all_start, stmt_here, here_inside, size_here, moved, all_again, all_done}
use Rattle.merging.proofs.merge_statements.Goals as goal

pub loop-q-init : goal.loop-q-init
loop-q-init c = all_start _ _

pub statement_end-next-requires : goal.statement_end-next-requires
statement_end-next-requires c = (stmt_here _ _ c.requires _ _ _ c.loop-q.invariant c.loop-q-test.true, size_here _ _ c.requires _ _ _ c.loop-q.invariant)

pub merge_statement-n-requires : goal.merge_statement-n-requires
merge_statement-n-requires c = (here_inside _ _ c.requires _ _ _ c.loop-q.invariant c.loop-q-test.true, c.loop-q.invariant.low)

pub loop-q-smaller : goal.loop-q-smaller
loop-q-smaller c = omega (arith, c.loop-q-test.true, moved _ _ c.requires _ _ _ c.loop-q.invariant _ c.loop-q-test.true c.statement_end-next.ensures)

pub loop-q-preserved : goal.loop-q-preserved
loop-q-preserved c = all_again _ _ c.requires _ _ _ c.loop-q.invariant _ _ _ c.loop-q-test.true c.statement_end-next.ensures c.merge_statement-n.ensures

pub shape_of-work : goal.shape_of-work
shape_of-work c = c.loop-q.invariant.aside.size

pub returns : goal.returns
returns c = all_done _ _ _ _ _ c.loop-q.invariant (omega (arith, c.loop-q-test.false))
