-- An entry of the map.
use mathlib.Core.Path.{ap, ◌∙◌}
use Prim.Native.Nat.{◌-◌}
use lib.IntN.{ℤ}
use mir.Syntax.{w32}
use mir.Val.{SFits}
use mir.Facts.{to_z-of_z}
use Rattle.memory.specs.Number.{nat}
use Rattle.totals.proofs.Numbers.{entry_is}
use borrow.Author.Rules.{rules}
use Rattle.totals.proofs.number_at.Goals as goal

pub returns : goal.returns
returns c = let f : SFits w32 c.plain.result = search rules in
    (entry_is c.args.work.now c.args.v _ (c.number_in.ensures.0 ∙ ap (λ (x : ℤ). nat x - 1) (to_z-of_z f ∙ c.plain.ensures)), c.number_in.ensures.1)
