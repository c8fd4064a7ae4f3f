-- An entry of the map, and none behind the slice's end.
use borrow.Author.Rules.{sfits_of}
use native.Mathlib.Omega.{arith}
use mathlib.Core.Path.{◌≡◌, refl, ap, ◌∙◌}
use mathlib.Core.List.{List}
use Prim.Native.Nat.{ℕ, ◌+◌, ◌-◌, ◌≤◌}
use lib.IntN.{ℤ, pos}
use lib.ListN.{length, get_or, get_or-eq_default}
use mir.Syntax.{w32}
use mir.Val.{SFits}
use mir.Facts.{to_z-of_z}
use Rattle.memory.specs.Places.{int_map}
use Rattle.memory.specs.Number.{nat}
use Rattle.walk.specs.Item.{int_entry, int_number}
use Rattle.totals.proofs.Numbers.{entry_is}
use Rattle.differing.proofs.number_at.Goals as goal

entry_past : (w : List ℤ) (v : ℕ) → length w ≤ int_map + v → 0 ≡ int_number w v
unfolding int_entry nat
entry_past w v h = rw (get_or-eq_default w (pos 0) h) refl

pub returns-then-i-work : goal.returns-then-i-work
returns-then-i-work c = let z = get_or c.args.work.now (int_map + c.args.v) (pos 0) in
    let f : SFits w32 z = sfits_of c.z-1.given in
    (entry_is c.args.work.now c.args.v _ (c.number_in.ensures.0 ∙ ap (λ (x : ℤ). nat x - 1) (to_z-of_z f)), c.number_in.ensures.1)

pub returns : goal.returns
returns c = (entry_past c.args.work.now c.args.v c.if-i-work.false, omega arith)
