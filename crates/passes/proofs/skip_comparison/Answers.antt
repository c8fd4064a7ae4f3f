use mathlib.Core.Path.{refl}
use native.Mathlib.Omega.{arith}
use Rattle.passes.proofs.PropLaws.{stands_inside, left_int, right_int, both_ints}
use Rattle.passes.proofs.skip_comparison.Goals as goal

pub overflow_add-at : goal.overflow_add-at
overflow_add-at c = let q = stands_inside _ _ _ c.requires.pos_value c.requires.stands in omega (arith, c.well_formed.0.0)

pub skip_int-m-requires : goal.skip_int-m-requires
skip_int-m-requires c = left_int _ _ _ c.requires.pos_value refl c.requires.stands

pub skip_int-requires : goal.skip_int-requires
skip_int-requires c = right_int _ _ _ c.requires.pos_value refl _ c.skip_int-m.ensures c.requires.stands

pub returns : goal.returns
returns c = both_ints _ _ _ c.requires.pos_value refl _ c.skip_int-m.ensures _ c.skip_int.ensures
