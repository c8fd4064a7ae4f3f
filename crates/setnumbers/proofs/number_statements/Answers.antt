use native.Mathlib.Omega.{arith}
use Rattle.stmtwords.proofs.Ends.{ends_later}
use Rattle.setnumbers.proofs.Statements.{walking_first, stmt_asks, stmt_some, walking_next, walking_full, walking_last}
use Rattle.setnumbers.proofs.number_statements.Goals as goal

pub loop-q-init : goal.loop-q-init
loop-q-init c = walking_first _ _ _ _ _ c.requires.asks.low

pub shape_of-work-then-room-c : goal.shape_of-work-then-room-c
shape_of-work-then-room-c c = c.loop-q.invariant.size

pub shape_of-out-then-room-c : goal.shape_of-out-then-room-c
shape_of-out-then-room-c c = c.loop-q.invariant.room

pub returns-then-room-c : goal.returns-then-room-c
returns-then-room-c c = walking_full _ _ _ _ _ _ _ (omega (arith, c.if-room-c.true)) c.loop-q.invariant

pub number_statement-r-requires : goal.number_statement-r-requires
number_statement-r-requires c = (omega (arith, c.if-room-c.false), stmt_asks _ _ _ _ _ _ _ (omega (arith, c.loop-q-test.true)) c.loop-q.invariant c.requires)

pub loop-q-smaller : goal.loop-q-smaller
loop-q-smaller c = omega (arith, ends_later _ _ _ c.number_statement-r.ensures.2 (stmt_some _ _ _ _ _ _ _ (omega (arith, c.loop-q-test.true)) c.loop-q.invariant c.requires), c.loop-q-test.true)

pub loop-q-preserved : goal.loop-q-preserved
loop-q-preserved c = walking_next _ _ _ _ _ _ _ (omega (arith, c.loop-q-test.true)) c.loop-q.invariant _ _ c.number_statement-r.ensures.2 c.number_statement-r.ensures.0 c.number_statement-r.ensures.1.0 c.number_statement-r.ensures.1.1

pub shape_of-work : goal.shape_of-work
shape_of-work c = c.loop-q.invariant.size

pub shape_of-out : goal.shape_of-out
shape_of-out c = c.loop-q.invariant.room

pub returns : goal.returns
returns c = walking_last _ _ _ _ _ _ _ (omega (arith, c.loop-q-test.false)) c.loop-q.invariant
