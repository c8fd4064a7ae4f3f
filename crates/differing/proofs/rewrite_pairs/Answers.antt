-- The loop stops where the walk is full; Going carries what is left.
use native.Mathlib.Omega.{arith}
use Rattle.differing.proofs.Rewriting.{pairs_begin, pairs_full, pairs_end, pairs_ask, pairs_go}
use Rattle.differing.proofs.rewrite_pairs.Goals as goal

pub loop-rest-init : goal.loop-rest-init
loop-rest-init c = pairs_begin _ _ _ _ _ _ _ _ c.requires.0 c.requires.1.low c.requires.2

pub shape_of-work-then-room-d : goal.shape_of-work-then-room-d
shape_of-work-then-room-d c = c.loop-rest.invariant.1.kept.size

pub shape_of-none-then-room-d : goal.shape_of-none-then-room-d
shape_of-none-then-room-d c = c.loop-rest.invariant.1.kept.room

pub shape_of-out-then-room-d : goal.shape_of-out-then-room-d
shape_of-out-then-room-d c = c.loop-rest.invariant.1.length_same

pub returns-then-room-d : goal.returns-then-room-d
returns-then-room-d c = pairs_full _ _ _ _ _ _ _ _ _ _ _ _ _ _ c.loop-rest.invariant (omega (arith, c.if-room-d.true))

pub end_of-next-requires : goal.end_of-next-requires
end_of-next-requires c = (omega (arith, c.requires.1.long, c.loop-rest.invariant.1.kept.size), c.loop-rest.invariant.0)

pub rewrite_row-r-requires : goal.rewrite_row-r-requires
rewrite_row-r-requires c = (omega (arith, c.loop-rest.invariant.0, c.end_of-next.ensures.1), omega (arith, c.loop-rest.invariant.0, c.end_of-next.ensures.1), pairs_ask _ _ _ _ _ _ _ _ _ _ _ _ _ _ c.loop-rest.invariant (omega arith) (omega (arith, c.if-room-d.false)) _ c.end_of-next.ensures.0 c.requires.1, c.loop-rest.invariant.1.ahead)

pub loop-rest-preserved : goal.loop-rest-preserved
loop-rest-preserved c = pairs_go _ _ _ _ _ _ _ _ _ _ _ _ _ _ c.loop-rest.invariant (omega arith) (omega (arith, c.if-room-d.false)) _ c.end_of-next.ensures.0 _ _ _ _ c.end_of-next.ensures.1 c.rewrite_row-r.ensures

pub shape_of-work : goal.shape_of-work
shape_of-work c = c.loop-rest.invariant.1.kept.size

pub shape_of-none : goal.shape_of-none
shape_of-none c = c.loop-rest.invariant.1.kept.room

pub shape_of-out : goal.shape_of-out
shape_of-out c = c.loop-rest.invariant.1.length_same

pub returns : goal.returns
returns c = pairs_end _ _ _ _ _ _ _ _ _ _ _ _ _ _ c.loop-rest.invariant (omega arith)
