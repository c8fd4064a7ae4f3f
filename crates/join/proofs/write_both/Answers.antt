use native.Mathlib.Omega.{arith}
use Prim.Native.Nat.{◌+◌}
use mir.Syntax.{w32}
use mir.Val.{to_z}
use mir.Facts.{to_z_pos}
use Rattle.join.proofs.WriteLaws.{write_first, write_few, write_place, write_second, write_post}
use borrow.Author.Rules.{rules}
use Rattle.join.proofs.write_both.Goals as goal

pub copy_words-requires : goal.copy_words-requires
copy_words-requires c = let q = write_first _ _ _ _ c.requires in (omega arith, omega (arith, q))

pub overflow_add-count : goal.overflow_add-count
overflow_add-count c = let q = write_few _ _ _ _ c.requires in search rules

pub overflow_cast-buffer : goal.overflow_cast-buffer
overflow_cast-buffer c = let q = write_few _ _ _ _ c.requires in search rules

pub overflow_sub-at : goal.overflow_sub-at
overflow_sub-at c = (write_place _ _ _ _ c.requires).0

pub offset_bounds-buffer-at : goal.offset_bounds-buffer-at
offset_bounds-buffer-at c = let q = write_place _ _ _ _ c.requires in let s = write_first _ _ _ _ c.requires in search rules

pub bounds-buffer-at : goal.bounds-buffer-at
bounds-buffer-at c = let q = write_place _ _ _ _ c.requires in let s = write_first _ _ _ _ c.requires in omega (arith, q.1, c.copy_words.auto.work)

pub overflow_sub-second : goal.overflow_sub-second
overflow_sub-second c = let q = write_place _ _ _ _ c.requires in omega (arith, q.2)

pub copy_words-requires-2 : goal.copy_words-requires-2
copy_words-requires-2 c = write_second _ _ _ _ c.requires c.copy_words.new.work (to_z w32 (c.args.d.first + c.args.d.second)) c.copy_words.auto.work

pub returns : goal.returns
returns c = write_post _ _ _ _ c.requires _ _ _ _ _ c.copy_words.ensures (to_z_pos w32 (let q = write_few _ _ _ _ c.requires in omega (arith, q))) c.copy_words-2.ensures c.copy_words.auto.work
