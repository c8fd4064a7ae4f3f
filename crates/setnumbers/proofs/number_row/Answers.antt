use Prim.Native.Nat.{◌+◌, ◌-◌}
use mathlib.Core.Path.{◌≡◌}
use native.Mathlib.Omega.{arith}
use Rattle.setnumbers.proofs.Numbering.{starts_of, row_first, row_full, pair_asks, row_next, row_last}
use Rattle.setnumbers.proofs.number_row.Goals as goal

pub loop-init : goal.loop-init
loop-init c = let e : c.args.count - 0 ≡ c.args.count = omega arith in rw e (row_first _ _ _ _ _ _ c.requires.1.0 c.requires.1.1.low)

pub shape_of-work-then-room-d : goal.shape_of-work-then-room-d
shape_of-work-then-room-d c = c.loop.invariant.1.kept.size

pub shape_of-out-then-room-d : goal.shape_of-out-then-room-d
shape_of-out-then-room-d c = c.loop.invariant.1.kept.room

pub returns-then-room-d : goal.returns-then-room-d
returns-then-room-d c = row_full _ _ _ _ _ _ _ _ _ (omega (arith, c.if-room-d.true)) c.loop.invariant

pub skip_int-s-requires : goal.skip_int-s-requires
skip_int-s-requires c = (omega (arith, c.requires.1.1.long, c.loop.invariant.1.kept.size), (c.loop.invariant.0, omega arith))

pub clear_pair-requires : goal.clear_pair-requires
clear_pair-requires c = (omega (arith, c.requires.1.1.long, c.loop.invariant.1.kept.size), (c.requires.0, c.loop.invariant.0))

pub number_pair-d-requires : goal.number_pair-d-requires
number_pair-d-requires c = (starts_of c.requires.0 (pair_asks _ _ _ _ _ _ _ _ _ (omega arith) (omega (arith, c.if-room-d.false)) c.loop.invariant _ c.clear_pair.ensures c.requires.1.1), c.loop.invariant.0)

pub loop-preserved : goal.loop-preserved
loop-preserved c = let e : c.args.count - (c.loop.counter + 1) ≡ c.args.count - c.loop.counter - 1 = omega arith in rw e (row_next _ _ _ _ _ _ _ _ _ (omega arith) (omega (arith, c.if-room-d.false)) c.loop.invariant _ c.clear_pair.ensures _ _ _ c.skip_int-s.ensures c.number_pair-d.ensures)

pub shape_of-work : goal.shape_of-work
shape_of-work c = c.loop.invariant.1.kept.size

pub shape_of-out : goal.shape_of-out
shape_of-out c = c.loop.invariant.1.kept.room

pub returns : goal.returns
returns c = row_last _ _ _ _ _ _ _ _ _ (omega arith) c.loop.invariant
