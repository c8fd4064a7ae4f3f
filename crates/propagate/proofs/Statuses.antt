-- What a test of a status says of its rank.
use mathlib.Core.Path.{◌≡◌, refl, sym, ◌∙◌}
use mathlib.Core.Bool.{Bool, true, false, not}
use denote.Enum.Bare.{sameb}
use Rattle.passes.specs.declared.Status.{Status}
use Rattle.passes.specs.declared.Status.TheVariants.{Unchanged, Updated, Unsatisfiable}
use Rattle.passes.specs.contracts.Status.{the_type}
use Rattle.passes.specs.Want.{rank}

is_two : (s : Status) → sameb the_type s Unsatisfiable ≡ true → rank s ≡ 2
is_two Unchanged h = cc
is_two Updated h = cc
is_two Unsatisfiable h = refl

no_two : (s : Status) → sameb the_type s Unsatisfiable ≡ false → rank s ≡ 2 → ⊥
no_two Unchanged h e = cc
no_two Updated h e = cc
no_two Unsatisfiable h e = cc

is_one : (s : Status) → sameb the_type s Updated ≡ true → rank s ≡ 1
is_one Unchanged h = cc
is_one Updated h = refl
is_one Unsatisfiable h = cc

no_one : (s : Status) → sameb the_type s Updated ≡ false → rank s ≡ 1 → ⊥
no_one Unchanged h e = cc
no_one Updated h e = cc
no_one Unsatisfiable h e = cc

pub unsatisfiable : (s : Status) (b : Bool) → b ≡ sameb the_type s Unsatisfiable → b ≡ true → rank s ≡ 2
unsatisfiable s b e h = is_two s (sym e ∙ h)

pub satisfiable : (s : Status) (b : Bool) → b ≡ sameb the_type s Unsatisfiable → b ≡ false → rank s ≡ 2 → ⊥
satisfiable s b e h = no_two s (sym e ∙ h)

pub updated : (s : Status) (b : Bool) → b ≡ sameb the_type s Updated → b ≡ true → rank s ≡ 1
updated s b e h = is_one s (sym e ∙ h)

pub not_updated : (s : Status) (b : Bool) → b ≡ sameb the_type s Updated → b ≡ false → rank s ≡ 1 → ⊥
not_updated s b e h = no_one s (sym e ∙ h)

pub updated_where : (s : Status) (b : Bool) → b ≡ not (sameb the_type s Updated) → b ≡ false → rank s ≡ 1
updated_where s b e h = go s (sym e ∙ h)
  where
    go : (s : Status) → not (sameb the_type s Updated) ≡ false → rank s ≡ 1
    go Unchanged h = cc
    go Updated h = refl
    go Unsatisfiable h = cc

pub unchanged : (s : Status) (b : Bool) → b ≡ not (sameb the_type s Unchanged) → b ≡ false → rank s ≡ 0
unchanged s b e h = go s (sym e ∙ h)
  where
    go : (s : Status) → not (sameb the_type s Unchanged) ≡ false → rank s ≡ 0
    go Unchanged h = refl
    go Updated h = cc
    go Unsatisfiable h = cc

pub changed : (s : Status) (b : Bool) → b ≡ not (sameb the_type s Unchanged) → b ≡ true → rank s ≡ 0 → ⊥
changed s b e h = go s (sym e ∙ h)
  where
    go : (s : Status) → not (sameb the_type s Unchanged) ≡ true → rank s ≡ 0 → ⊥
    go Unchanged h z = cc
    go Updated h z = cc
    go Unsatisfiable h z = cc
