-- The loop stops where the walk is full; Going carries what is left.
use Prim.Native.Nat.{◌+◌, ◌-◌}
use mathlib.Core.Path.{◌≡◌}
use native.Mathlib.Omega.{arith}
use Rattle.differing.proofs.Rewriting.{row_begins, row_full, row_ends, row_asks, row_goes}
use Rattle.differing.proofs.rewrite_row.Goals as goal

pub loop-init : goal.loop-init
loop-init c = let e : c.args.count - 0 ≡ c.args.count = omega arith in rw e (row_begins _ _ _ _ _ _ _ _ _ c.requires.1 c.requires.2.low c.requires.3)

pub shape_of-work-then-room-d : goal.shape_of-work-then-room-d
shape_of-work-then-room-d c = c.loop.invariant.1.kept.size

pub shape_of-none-then-room-d : goal.shape_of-none-then-room-d
shape_of-none-then-room-d c = c.loop.invariant.1.kept.room

pub shape_of-out-then-room-d : goal.shape_of-out-then-room-d
shape_of-out-then-room-d c = c.loop.invariant.1.length_same

pub returns-then-room-d : goal.returns-then-room-d
returns-then-room-d c = row_full _ _ _ _ _ _ _ _ _ _ _ _ _ _ _ c.loop.invariant (omega (arith, c.if-room-d.true))

pub end_of-next-requires : goal.end_of-next-requires
end_of-next-requires c = (omega (arith, c.requires.2.long, c.loop.invariant.1.kept.size), omega (arith, c.requires.0, c.loop.invariant.0))

pub rewrite_pair-r-requires : goal.rewrite_pair-r-requires
rewrite_pair-r-requires c = (omega (arith, c.if-room-d.false), omega (arith, c.requires.0, c.loop.invariant.0), omega (arith, c.requires.0, c.loop.invariant.0), row_asks _ _ _ _ _ _ _ _ _ _ _ _ _ _ _ c.loop.invariant (omega arith) (omega (arith, c.if-room-d.false)) c.requires.2, c.loop.invariant.1.ahead)

pub loop-preserved : goal.loop-preserved
loop-preserved c = let e : c.args.count - (c.loop.counter + 1) ≡ c.args.count - c.loop.counter - 1 = omega arith in rw e (row_goes _ _ _ _ _ _ _ _ _ _ _ _ _ _ _ c.loop.invariant (omega arith) (omega (arith, c.if-room-d.false)) _ _ _ _ _ c.end_of-next.ensures.0 c.end_of-next.ensures.1 c.rewrite_pair-r.ensures)

pub shape_of-work : goal.shape_of-work
shape_of-work c = c.loop.invariant.1.kept.size

pub shape_of-none : goal.shape_of-none
shape_of-none c = c.loop.invariant.1.kept.room

pub shape_of-out : goal.shape_of-out
shape_of-out c = c.loop.invariant.1.length_same

pub returns : goal.returns
returns c = row_ends _ _ _ _ _ _ _ _ _ _ _ _ _ _ _ c.loop.invariant (omega arith)
