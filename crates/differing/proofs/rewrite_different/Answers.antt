-- The pairs; then the values, unless the walk is full.
use native.Mathlib.Omega.{arith}
use Rattle.differing.proofs.DifferentAgain.{some_place, some_asks, behind_ahead, rewrites_full, some_over, ahead_behind, rewrites}
use Rattle.differing.proofs.rewrite_different.Goals as goal

pub overflow_add-at : goal.overflow_add-at
overflow_add-at c = omega (arith, c.requires.0.it.to, c.requires.0.it.inside)

pub overflow_add-at-2 : goal.overflow_add-at-2
overflow_add-at-2 c = omega (arith, c.requires.0.it.to, c.requires.0.it.inside)

pub rewrite_pairs-r-requires : goal.rewrite_pairs-r-requires
rewrite_pairs-r-requires c = (some_place c.word-n.ensures c.requires.0, some_asks c.word-n.ensures c.requires.0, behind_ahead c.requires.1)

pub shape_of-work-then-room-r : goal.shape_of-work-then-room-r
shape_of-work-then-room-r c = c.rewrite_pairs-r.ensures.kept.size

pub shape_of-none-then-room-r : goal.shape_of-none-then-room-r
shape_of-none-then-room-r c = c.rewrite_pairs-r.ensures.kept.room

pub shape_of-out-then-room-r : goal.shape_of-out-then-room-r
shape_of-out-then-room-r c = c.rewrite_pairs-r.ensures.length_same

pub returns-then-room-r : goal.returns-then-room-r
returns-then-room-r c = rewrites_full c.word-n.ensures c.rewrite_pairs-r.ensures (omega (arith, c.if-room-r.true))

pub overflow_add-at-3 : goal.overflow_add-at-3
overflow_add-at-3 c = omega (arith, c.requires.0.it.to, c.requires.0.it.inside)

pub put_values-w-requires : goal.put_values-w-requires
put_values-w-requires c = (some_over c.word-n.ensures c.rewrite_pairs-r.ensures c.requires.0, ahead_behind c.rewrite_pairs-r.ensures.ahead c.lesser-m.ensures)

pub shape_of-work : goal.shape_of-work
shape_of-work c = c.rewrite_pairs-r.ensures.kept.size

pub shape_of-none : goal.shape_of-none
shape_of-none c = c.rewrite_pairs-r.ensures.kept.room

pub returns : goal.returns
returns c = rewrites c.word-n.ensures c.rewrite_pairs-r.ensures c.lesser-m.ensures c.requires.0 c.requires.1 (omega (arith, c.if-room-r.false)) c.put_values-w.ensures
