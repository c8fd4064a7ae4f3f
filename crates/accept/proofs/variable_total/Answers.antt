use mathlib.Core.Path.{refl}
use Prim.Native.Nat.{◌+◌, ◌*◌}
use lib.IntN.{pos}
use lib.ListN.{get_or}
use mir.Syntax.{w32}
use mir.Val.{SFits}
use mir.Facts.{to_z-of_z}
use borrow.Author.Rules.{rules, sfits_of}
use Rattle.memory.specs.Places.{bounds}
use Rattle.accept.proofs.Laws.{var_inside, var_post}
use borrow.Author.Rules.{rules}
use Rattle.accept.proofs.variable_total.Goals as goal

pub overflow_mul-low : goal.overflow_mul-low
overflow_mul-low c = let q = var_inside _ _ c.requires in search rules

pub overflow_add-low : goal.overflow_add-low
overflow_add-low c = let q = var_inside _ _ c.requires in search rules

pub offset_bounds-work-v : goal.offset_bounds-work-v
offset_bounds-work-v c = let q = var_inside _ _ c.requires in search rules

pub bounds-work-v : goal.bounds-work-v
bounds-work-v c = let q = var_inside _ _ c.requires in search rules

pub overflow_mul-high : goal.overflow_mul-high
overflow_mul-high c = let q = var_inside _ _ c.requires in search rules

pub overflow_add-high : goal.overflow_add-high
overflow_add-high c = let q = var_inside _ _ c.requires in search rules

pub overflow_add-high-2 : goal.overflow_add-high-2
overflow_add-high-2 c = let q = var_inside _ _ c.requires in search rules

pub offset_bounds-work-v-2 : goal.offset_bounds-work-v-2
offset_bounds-work-v-2 c = let q = var_inside _ _ c.requires in search rules

pub bounds-work-v-2 : goal.bounds-work-v-2
bounds-work-v-2 c = let q = var_inside _ _ c.requires in search rules

pub returns : goal.returns
returns c = let f : SFits w32 (get_or c.args.work.now (bounds + 2 * c.args.v) (pos 0)) = sfits_of c.low-1.given in let g : SFits w32 (get_or c.args.work.now (bounds + (2 * c.args.v + 1)) (pos 0)) = sfits_of c.high-1.given in var_post c.args.work.now c.args.v c.bounds_total.result (get_or c.args.work.now (bounds + 2 * c.args.v) (pos 0)) (get_or c.args.work.now (bounds + (2 * c.args.v + 1)) (pos 0)) refl refl (rw (to_z-of_z f, to_z-of_z g) at c.bounds_total.ensures)
