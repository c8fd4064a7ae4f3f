use mathlib.Core.Path.{◌∙◌, ap}
use native.Mathlib.Omega.{arith}
use mir.Syntax.{w32}
use mir.Val.{SFits}
use mir.Facts.{to_z-of_z}
use Prim.Native.Nat.{◌≤◌}
use Rattle.memory.specs.Places.{limit}
use Rattle.walk.specs.Item.{signed}
use Rattle.survey.proofs.Leaves.{pos_is}
use Rattle.merging.proofs.Laws.{ties_new}
use borrow.Author.Rules.{rules}
use Rattle.merging.proofs.merge_new.Goals as goal

pub overflow_cast-z : goal.overflow_cast-z
overflow_cast-z c = omega (arith, c.bump-k.ensures)

pub give-requires : goal.give-requires
give-requires c = c.requires.0

pub give-requires-2 : goal.give-requires-2
give-requires-2 c = c.requires.1.0

pub shape_of-work : goal.shape_of-work
shape_of-work c = c.give-2.ensures.1 ∙ c.give.ensures.1

pub returns : goal.returns
returns c =
    let l : c.bump-k.result ≤ limit = omega (arith, c.bump-k.ensures) in
    let f : SFits w32 c.signed.result = search rules in
    ties_new _ _ _ _ _ _ _ _ _ c.args.g c.requires.0 c.requires.1.0 c.requires.1.1 c.bump-k.ensures (pos_is _ l) (to_z-of_z f ∙ c.signed.ensures ∙ ap (λ z. signed z c.args.g) (pos_is _ l)) c.give.ensures.0 c.give-2.ensures.0
