-- Words that stand in the part of the work slice that is read stand in the whole.
use Rattle.std.specs.Prelude.{refl, List, [], ◌∷◌, ◌++◌, ℕ, ◌+◌, ◌≤◌, ◌<◌, ℤ, length, take, drop}
use Rattle.std.proofs.Common.{ap, ◌∙◌, subst, arith, take-append-drop, length-drop}
use Rattle.std.proofs.lemmas.List.{drop-append-le, take-append-le}
use Rattle.laws.specs.Slices.{Has, has_fits}
use Rattle.memory.specs.Places.{folded_end}
use Rattle.walk.specs.Decode.{read_part}

has_wider : (xs ys : List ℤ) (at : ℕ) (us : List ℤ) → 0 < length us → Has xs at us → Has (xs ++ ys) at us
has_wider xs ys at us z h =
    let i : at + length us ≤ length xs = has_fits xs at us h z in
    ap (take (length us)) (drop-append-le at xs ys (omega arith)) ∙ take-append-le (length us) (drop at xs) ys (omega (arith, length-drop at xs)) ∙ h

pub has_part : (w : List ℤ) (at : ℕ) (us : List ℤ) → Has (read_part w) at us → Has w at us
unfolding read_part
has_part w at [] h = refl
has_part w at (u ∷ us) h = subst (λ (l : List ℤ). Has l at (u ∷ us)) (take-append-drop folded_end w) (has_wider (take folded_end w) (drop folded_end w) at (u ∷ us) (omega arith) h)
