use Prim.Native.Nat.{◌+◌, ◌-◌}
use mathlib.Core.Path.{◌≡◌}
use native.Mathlib.Omega.{arith}
use Rattle.setnumbers.proofs.Numbering.{starts_of, columns_first, column_asks, columns_next, columns_last}
use Rattle.setnumbers.proofs.number_columns.Goals as goal

pub loop-init : goal.loop-init
loop-init c = let e : c.args.count - 0 ≡ c.args.count = omega arith in rw e (columns_first _ _ _ _ _ c.requires.0 c.requires.1.low)

pub number_column-s-requires : goal.number_column-s-requires
number_column-s-requires c = starts_of c.loop.invariant.0 (column_asks _ _ _ _ _ _ _ _ (omega arith) c.loop.invariant c.requires.1)

pub loop-preserved : goal.loop-preserved
loop-preserved c = let e : c.args.count - (c.loop.counter + 1) ≡ c.args.count - c.loop.counter - 1 = omega arith in rw e (columns_next _ _ _ _ _ _ _ _ (omega arith) c.loop.invariant _ _ _ c.number_column-s.ensures.1 c.number_column-s.ensures.0)

pub shape_of-work : goal.shape_of-work
shape_of-work c = c.loop.invariant.1.kept.size

pub shape_of-out : goal.shape_of-out
shape_of-out c = c.loop.invariant.1.kept.room

pub returns : goal.returns
returns c = columns_last _ _ _ _ _ _ _ _ (omega arith) c.loop.invariant
