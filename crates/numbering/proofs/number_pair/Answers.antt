use mathlib.Core.Path.{sym, ap, ◌∙◌}
use mathlib.Core.List.{List}
use lib.IntN.{ℤ}
use Rattle.walks.specs.Tree.{here}
use Rattle.walks.specs.Decode.{decode_int}
use Rattle.scan.specs.Skip.{split_by}
use Rattle.numbering.specs.Task.{state_of}
use Rattle.numbering.specs.Walk.{starts_as}
use Rattle.numbering.specs.Rules.{done_as}
use Rattle.numbering.specs.Pairs.{pair_first, pair_second, pair_third, pair_fourth, pair_done}
use Rattle.numbering.proofs.number_pair.Goals as goal

pub skip_int-a-requires : goal.skip_int-a-requires
skip_int-a-requires c = (c.requires.0.size, (c.requires.0.inside, c.requires.0.low.bools))

pub skip_int-b-requires : goal.skip_int-b-requires
skip_int-b-requires c = (c.requires.0.size, (c.requires.1, c.skip_int-a.ensures.low))

pub number_side_extras-e-requires : goal.number_side_extras-e-requires
unfolding split_by
number_side_extras-e-requires c = (starts_as _ c.args.work.now c.args.out.now _ c.advance-d.result _ _ _ c.advance-d.ensures (pair_first c.args.room.records c.args.room.cap (state_of c.args.work.now c.args.out.now c.args.c) c.args.p c.args.q c.requires.0 c.requires.1 c.skip_int-a.result.base c.skip_int-b.result.base _ c.skip_int-a.ensures.low c.skip_int-a.ensures.next c.skip_int-b.ensures.next c.saturating_sub.ensures), c.skip_int-a.ensures.next)

pub number_side_extras-f-requires : goal.number_side_extras-f-requires
unfolding split_by
number_side_extras-f-requires c = (pair_second c.args.room.records c.args.room.cap (state_of c.args.work.now c.args.out.now c.args.c) c.args.p c.args.q c.requires.0 c.requires.1 c.skip_int-a.result.base c.skip_int-b.result.base _ c.skip_int-a.ensures.low c.skip_int-a.ensures.next c.skip_int-b.ensures.next c.saturating_sub.ensures _ (done_as _ c.args.work.now c.args.out.now _ c.advance-d.result _ c.advance-d.ensures c.number_side_extras-e.ensures), c.skip_int-b.ensures.next ∙ ap (λ (ws : List ℤ). (decode_int ws 64 here c.args.q c.skip_int-a.result.base).next) (sym c.number_side_extras-e.ensures.kept.part))

pub number_int-g-requires : goal.number_int-g-requires
unfolding split_by
number_int-g-requires c = pair_third c.args.room.records c.args.room.cap (state_of c.args.work.now c.args.out.now c.args.c) c.args.p c.args.q c.requires.0 c.requires.1 c.skip_int-a.result.base c.skip_int-b.result.base _ c.skip_int-a.ensures.low c.skip_int-a.ensures.next c.skip_int-b.ensures.next c.saturating_sub.ensures _ (done_as _ c.args.work.now c.args.out.now _ c.advance-d.result _ c.advance-d.ensures c.number_side_extras-e.ensures) _ c.number_side_extras-f.ensures

pub number_int-h-requires : goal.number_int-h-requires
unfolding split_by
number_int-h-requires c = pair_fourth c.args.room.records c.args.room.cap (state_of c.args.work.now c.args.out.now c.args.c) c.args.p c.args.q c.requires.0 c.requires.1 c.skip_int-a.result.base c.skip_int-b.result.base _ c.skip_int-a.ensures.low c.skip_int-a.ensures.next c.skip_int-b.ensures.next c.saturating_sub.ensures _ (done_as _ c.args.work.now c.args.out.now _ c.advance-d.result _ c.advance-d.ensures c.number_side_extras-e.ensures) _ c.number_side_extras-f.ensures _ c.number_int-g.ensures.0

pub shape_of-work : goal.shape_of-work
shape_of-work c = c.number_int-h.ensures.0.kept.size ∙ c.number_int-g.ensures.0.kept.size ∙ c.number_side_extras-f.ensures.kept.size ∙ c.number_side_extras-e.ensures.kept.size

pub shape_of-out : goal.shape_of-out
shape_of-out c = c.number_int-h.ensures.0.kept.room ∙ c.number_int-g.ensures.0.kept.room ∙ c.number_side_extras-f.ensures.kept.room ∙ c.number_side_extras-e.ensures.kept.room

pub returns : goal.returns
unfolding split_by
returns c = pair_done c.args.room.records c.args.room.cap (state_of c.args.work.now c.args.out.now c.args.c) c.args.p c.args.q c.requires.0 c.requires.1 c.skip_int-a.result.base c.skip_int-b.result.base _ c.skip_int-a.ensures.low c.skip_int-a.ensures.next c.skip_int-b.ensures.next c.saturating_sub.ensures _ (done_as _ c.args.work.now c.args.out.now _ c.advance-d.result _ c.advance-d.ensures c.number_side_extras-e.ensures) _ c.number_side_extras-f.ensures _ c.number_int-g.ensures.0 _ c.number_int-h.ensures.0
