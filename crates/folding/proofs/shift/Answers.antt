use native.Mathlib.Omega.{arith}
use lib.IntN.{pos}
use lib.ListN.{get_or}
use mir.Facts.{to_z-of_z}
use mir.Syntax.{w32}
use mir.Val.{SFits}
use borrow.Author.Rules.{rules}
use Rattle.laws.specs.Slices.{moving_none, moving_next, moving_end}
use Rattle.folding.proofs.shift.Goals as goal

pub loop-i-init : goal.loop-i-init
loop-i-init c = moving_none _ _ _

pub loop-i-preserved : goal.loop-i-preserved
loop-i-preserved c =
    let l = c.loop-i in
    let f : SFits w32 (get_or l.work l.i (pos 0)) = search rules in
    rw (to_z-of_z f) (moving_next _ _ _ _ _ _ _ c.requires.0 (omega arith) l.invariant)

pub shape_of-work : goal.shape_of-work
shape_of-work c = c.loop-i.invariant.size

pub returns : goal.returns
returns c = moving_end _ _ _ _ _ _ _ (omega arith) c.requires.2 c.loop-i.invariant
