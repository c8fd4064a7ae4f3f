use Prim.Native.Nat.{◌+◌, ◌-◌}
use mathlib.Core.Path.{◌≡◌}
use native.Mathlib.Omega.{arith}
use Rattle.setnumbers.proofs.Numbering.{each_first, each_asks, each_next, each_last}
use Rattle.setnumbers.proofs.number_each.Goals as goal

pub loop-init : goal.loop-init
loop-init c = let e : c.args.count - 0 ≡ c.args.count = omega arith in rw e (each_first _ _ _ _ _ c.requires.0 c.requires.1.low)

pub number_int-s-requires : goal.number_int-s-requires
number_int-s-requires c = each_asks _ _ _ _ _ _ _ _ (omega arith) c.loop.invariant c.requires.1

pub loop-preserved : goal.loop-preserved
loop-preserved c = let e : c.args.count - (c.loop.counter + 1) ≡ c.args.count - c.loop.counter - 1 = omega arith in rw e (each_next _ _ _ _ _ _ _ _ (omega arith) c.loop.invariant _ _ _ c.number_int-s.ensures)

pub shape_of-work : goal.shape_of-work
shape_of-work c = c.loop.invariant.1.kept.size

pub shape_of-out : goal.shape_of-out
shape_of-out c = c.loop.invariant.1.kept.room

pub returns : goal.returns
returns c = each_last _ _ _ _ _ _ _ _ (omega arith) c.loop.invariant
