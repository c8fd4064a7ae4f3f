use mathlib.Core.Path.{refl}
use Prim.Native.Nat.{◌-◌, ◌<◌}
use native.Mathlib.Omega.{arith}
use lib.ListN.{length, length-set}
use mir.Facts.{to_z-of_z}
use Rattle.output.proofs.Laws.{push_suffix}
use Rattle.output.proofs.push.Goals as goal

pub overflow_sub-i : goal.overflow_sub-i
overflow_sub-i c = omega (arith, c.requires.room)

pub bounds-a-i : goal.bounds-a-i
bounds-a-i c = omega (arith, c.requires.room, c.requires.inside)

pub returns : goal.returns
returns c =
    let h : c.args.s.from - 1 < length c.args.s.words = omega (arith, c.requires.size, c.requires.room, c.requires.inside) in
    (rw (to_z-of_z c.ranges.w) (push_suffix _ _ _ c.requires.room h), refl, simp length-set c.requires.size)
