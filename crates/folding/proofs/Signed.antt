-- The signed leaves: what a word says as a number. Assumes nothing.
use mathlib.Core.Path.{◌≡◌, refl, ap}
use Prim.Native.Nat.{zero, suc}
use lib.IntN.{ℤ, pos, negsuc}
use mir.Syntax.{w32}
use mir.Val.{SFits, of_z}
use mathlib.Core.Bool.{true, false}
use borrow.Author.Tests.{ne_eqb}
use Rattle.laws.specs.Ints.{eqZ}
use Rattle.laws.specs.Signed.{value_is}
use Rattle.folding.specs.Steps.{state_of}
use mathlib.Core.Option.{none}

pub state_else : (z : ℤ) → (of_z w32 z ≡ 0 → ⊥) → (of_z w32 z ≡ 1 → ⊥) → none ≡ state_of z
unfolding state_of
state_else (pos zero) a b = absurd (a refl)
state_else (pos (suc zero)) a b = absurd (b refl)
state_else (pos (suc (suc n))) a b = refl
state_else (negsuc n) a b = refl

pub one_is : (z : ℤ) → SFits w32 z → of_z w32 z ≡ 1 → eqZ z (pos 1) ≡ true
one_is z f e = ap (λ y. eqZ y (pos 1)) (value_is f e)

pub one_not : (z : ℤ) → (of_z w32 z ≡ 1 → ⊥) → eqZ z (pos 1) ≡ false
one_not (pos n) h = ne_eqb n 1 h
one_not (negsuc n) h = refl
