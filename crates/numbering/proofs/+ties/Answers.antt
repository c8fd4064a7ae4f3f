use Prim.Native.Nat.{◌+◌, ◌-◌}
use mathlib.Core.Path.{◌≡◌, refl, sym, ap, ◌∙◌}
use mathlib.Core.Bool.{false}
use native.Mathlib.Omega.{arith}
use Rattle.walk.specs.Item.{bump}
use Rattle.walk.specs.Decode.{read_part}
use Rattle.scan.specs.Skip.{split_by, Skips, SkipsAll, IntSkips, inner_some, inside_same, inside_more, skips_none, int_none, skips_var, skips_cmp, skips_not, skips_join, skips_cross, int_leaf, int_sum, int_if}
use Rattle.numbering.specs.Task.{state_of}
use Rattle.numbering.specs.Ties.{ties_of, int_ties_of, sides_of, ties_zero, ties_var, ties_not_starts, ties_not, ties_join_starts, ties_join, ties_cross_starts, ties_cross, ties_split_starts, ties_split, ties_cmp_first, ties_cmp_second, ties_cmp, int_ties_zero, int_ties_leaf, int_ties_sum_starts, int_ties_sum, int_ties_if_starts, int_ties_if, sides_first, sides_second, sides_third, sides_fourth, sides_done, if_ties_first, if_ties_second, if_ties_third, if_ties_done}
use Rattle.numbering.specs.Walk.{split_below, split_here}
use Rattle.numbering.specs.TieWalk.{int_skips_as, skips_as, walked_to, both_skip, each_start, each_member, each_again, each_done, term_ties_start, term_ties_term, term_ties_again, term_ties_leaf, term_ties_done}
use Rattle.numbering.specs.declared.NumberedInt.{NumberedInt}
use Rattle.numbering.proofs.+ties.Goals as goal

pub number_each_ties-loop-init : goal.number_each_ties-loop-init
number_each_ties-loop-init t c = let e : c.args.count - 0 ≡ c.args.count = omega arith in rw e (each_start c.args.room.records c.args.room.cap c.args.left (split_by c.args.m) c.args.count c.args.at c.args.base c.args.work.now c.args.out.now c.args.c _ c.ended-r.ensures c.requires)

pub number_each_ties-number_ties-r-requires : goal.number_each_ties-number_ties-r-requires
number_each_ties-number_ties-r-requires t c = (omega (arith, c.decreases), each_member c.args.room.records c.args.room.cap c.args.left (split_by c.args.m) c.args.count c.args.at c.args.base c.args.work.now c.args.out.now c.args.c c.ended-r.result.progress (ap (λ (x : NumberedInt). x.progress) c.ended-r.ensures) c.requires _ _ c.loop.r (c.args.count - c.loop.counter) c.loop.invariant (omega arith))

pub number_each_ties-loop-preserved : goal.number_each_ties-loop-preserved
number_each_ties-loop-preserved t c = let e : c.args.count - (c.loop.counter + 1) ≡ c.args.count - c.loop.counter - 1 = omega arith in rw e (each_again c.args.room.records c.args.room.cap c.args.left (split_by c.args.m) c.args.count c.args.at c.args.base c.args.work.now c.args.out.now c.args.c c.ended-r.result.progress (ap (λ (x : NumberedInt). x.progress) c.ended-r.ensures) c.requires _ _ c.loop.r (c.args.count - c.loop.counter) c.loop.invariant (omega arith) _ _ c.number_ties-r.result c.number_ties-r.ensures)

pub number_each_ties-shape_of-work : goal.number_each_ties-shape_of-work
number_each_ties-shape_of-work t c = c.loop.invariant.left.kept.size

pub number_each_ties-shape_of-out : goal.number_each_ties-shape_of-out
number_each_ties-shape_of-out t c = c.loop.invariant.left.kept.room

pub number_each_ties-returns : goal.number_each_ties-returns
number_each_ties-returns t c = each_done c.args.room.records c.args.room.cap c.args.left (split_by c.args.m) c.args.count c.args.at c.args.base c.args.work.now c.args.out.now c.args.c c.ended-r.result.progress (ap (λ (x : NumberedInt). x.progress) c.ended-r.ensures) c.requires _ _ c.loop.r (c.args.count - c.loop.counter) c.loop.invariant (omega arith)

pub number_int_ties-returns-then-left-eq0 : goal.number_int_ties-returns-then-left-eq0
number_int_ties-returns-then-left-eq0 t c = walked_to (int_ties_of c.args.room.records c.args.room.cap (read_part c.args.work.now) c.args.left (split_by c.args.m) c.args.at c.args.base) (λ q b. IntSkips (read_part c.args.work.now) c.args.left (split_by c.args.m) c.args.at c.args.base q b) (state_of c.args.work.now c.args.out.now c.args.c) c.args.work.now c.args.out.now c.args.c _ _ _ c.ended.ensures (int_ties_zero c.args.room.records c.args.room.cap (state_of c.args.work.now c.args.out.now c.args.c) c.args.left (split_by c.args.m) c.args.at c.args.base c.requires c.if-left-eq0.true) (int_none c.args.work.now c.requires.size c.args.left (split_by c.args.m) c.args.at c.args.base c.requires.inside c.requires.low_base c.if-left-eq0.true)

pub number_int_ties-number_term_ties-requires : goal.number_int_ties-number_term_ties-requires
number_int_ties-number_term_ties-requires t c = (omega (arith, c.decreases, c.if-left-eq0.false), int_ties_sum_starts c.args.room.records c.args.room.cap (state_of c.args.work.now c.args.out.now c.args.c) c.args.left (split_by c.args.m) c.args.at c.args.base c.requires _ c.if-left-eq0.false refl _ c.word-code.ensures _ _ c.word-x.ensures c.within-two.ensures c.if-code-eq22.true)

pub number_int_ties-returns-then-code-eq22 : goal.number_int_ties-returns-then-code-eq22
number_int_ties-returns-then-code-eq22 t c = (int_ties_sum c.args.room.records c.args.room.cap (state_of c.args.work.now c.args.out.now c.args.c) c.args.left (split_by c.args.m) c.args.at c.args.base c.requires _ c.if-left-eq0.false refl _ c.word-code.ensures _ _ c.word-x.ensures c.within-two.ensures c.if-code-eq22.true _ c.number_term_ties.ensures.0, int_sum c.args.work.now c.requires.size c.args.left (split_by c.args.m) c.args.at c.args.base c.requires.inside c.requires.low_base _ c.if-left-eq0.false refl _ _ _ _ _ c.word-code.ensures c.if-code-eq22.true c.within-two.ensures c.word-x.ensures c.number_term_ties.ensures.1)

pub number_int_ties-number_ties-a-requires : goal.number_int_ties-number_ties-a-requires
number_int_ties-number_ties-a-requires t c = (omega (arith, c.decreases, c.if-left-eq0.false), if_ties_first c.args.room.records c.args.room.cap (state_of c.args.work.now c.args.out.now c.args.c) _ (split_by c.args.m) _ c.args.base (int_ties_if_starts c.args.room.records c.args.room.cap (state_of c.args.work.now c.args.out.now c.args.c) c.args.left (split_by c.args.m) c.args.at c.args.base c.requires _ c.if-left-eq0.false refl _ c.word-code.ensures _ c.within.ensures c.if-code-eq23.true))

pub number_int_ties-number_int_ties-b-requires : goal.number_int_ties-number_int_ties-b-requires
number_int_ties-number_int_ties-b-requires t c = (omega (arith, c.decreases, c.if-left-eq0.false), if_ties_second c.args.room.records c.args.room.cap (state_of c.args.work.now c.args.out.now c.args.c) _ (split_by c.args.m) _ c.args.base (int_ties_if_starts c.args.room.records c.args.room.cap (state_of c.args.work.now c.args.out.now c.args.c) c.args.left (split_by c.args.m) c.args.at c.args.base c.requires _ c.if-left-eq0.false refl _ c.word-code.ensures _ c.within.ensures c.if-code-eq23.true) _ _ _ c.number_ties-a.ensures.1 c.number_ties-a.ensures.0)

pub number_int_ties-number_int_ties-requires : goal.number_int_ties-number_int_ties-requires
number_int_ties-number_int_ties-requires t c = (omega (arith, c.decreases, c.if-left-eq0.false), if_ties_third c.args.room.records c.args.room.cap (state_of c.args.work.now c.args.out.now c.args.c) _ (split_by c.args.m) _ c.args.base (int_ties_if_starts c.args.room.records c.args.room.cap (state_of c.args.work.now c.args.out.now c.args.c) c.args.left (split_by c.args.m) c.args.at c.args.base c.requires _ c.if-left-eq0.false refl _ c.word-code.ensures _ c.within.ensures c.if-code-eq23.true) _ _ _ c.number_ties-a.ensures.1 c.number_ties-a.ensures.0 _ _ _ (int_skips_as c.number_ties-a.ensures.0.kept.part c.number_int_ties-b.ensures.1) c.number_int_ties-b.ensures.0)

pub number_int_ties-returns-then-code-eq23 : goal.number_int_ties-returns-then-code-eq23
number_int_ties-returns-then-code-eq23 t c = (int_ties_if c.args.room.records c.args.room.cap (state_of c.args.work.now c.args.out.now c.args.c) c.args.left (split_by c.args.m) c.args.at c.args.base c.requires _ c.if-left-eq0.false refl _ c.word-code.ensures _ c.within.ensures c.if-code-eq23.true _ (if_ties_done c.args.room.records c.args.room.cap (state_of c.args.work.now c.args.out.now c.args.c) _ (split_by c.args.m) _ c.args.base (int_ties_if_starts c.args.room.records c.args.room.cap (state_of c.args.work.now c.args.out.now c.args.c) c.args.left (split_by c.args.m) c.args.at c.args.base c.requires _ c.if-left-eq0.false refl _ c.word-code.ensures _ c.within.ensures c.if-code-eq23.true) _ _ _ c.number_ties-a.ensures.1 c.number_ties-a.ensures.0 _ _ _ (int_skips_as c.number_ties-a.ensures.0.kept.part c.number_int_ties-b.ensures.1) c.number_int_ties-b.ensures.0 _ c.number_int_ties.ensures.0), int_if c.args.work.now c.requires.size c.args.left (split_by c.args.m) c.args.at c.args.base c.requires.inside c.requires.low_base _ c.if-left-eq0.false refl _ _ _ _ _ _ _ _ c.word-code.ensures c.if-code-eq23.true c.within.ensures c.number_ties-a.ensures.1 (int_skips_as c.number_ties-a.ensures.0.kept.part c.number_int_ties-b.ensures.1) (int_skips_as (c.number_int_ties-b.ensures.0.kept.part ∙ c.number_ties-a.ensures.0.kept.part) c.number_int_ties.ensures.1))

pub number_int_ties-returns : goal.number_int_ties-returns
number_int_ties-returns t c = walked_to (int_ties_of c.args.room.records c.args.room.cap (read_part c.args.work.now) c.args.left (split_by c.args.m) c.args.at c.args.base) (λ q b. IntSkips (read_part c.args.work.now) c.args.left (split_by c.args.m) c.args.at c.args.base q b) (state_of c.args.work.now c.args.out.now c.args.c) c.args.work.now c.args.out.now c.args.c _ _ _ c.ended-2.ensures (int_ties_leaf c.args.room.records c.args.room.cap (state_of c.args.work.now c.args.out.now c.args.c) c.args.left (split_by c.args.m) c.args.at c.args.base c.requires _ c.if-left-eq0.false refl _ c.word-code.ensures c.if-code-eq22.false c.if-code-eq23.false) (int_leaf c.args.work.now c.requires.size c.args.left (split_by c.args.m) c.args.at c.args.base c.requires.inside c.requires.low_base _ c.if-left-eq0.false refl _ _ c.word-code.ensures c.if-code-eq22.false c.if-code-eq23.false c.within-two.ensures)

pub number_sides-number_ties-a-requires : goal.number_sides-number_ties-a-requires
unfolding split_by
number_sides-number_ties-a-requires t c = (omega (arith, c.decreases), sides_first c.args.room.records c.args.room.cap (state_of c.args.work.now c.args.out.now c.args.c) c.args.left c.args.at c.args.base _ c.requires c.bump-n.ensures)

pub number_sides-number_tie-b-requires : goal.number_sides-number_tie-b-requires
unfolding split_by
number_sides-number_tie-b-requires t c = sides_second c.args.room.records c.args.room.cap (state_of c.args.work.now c.args.out.now c.args.c) c.args.left c.args.at c.args.base _ c.requires c.bump-n.ensures _ _ _ c.number_ties-a.ensures.1 c.number_ties-a.ensures.0

pub number_sides-number_ties-d-requires : goal.number_sides-number_ties-d-requires
unfolding split_by
number_sides-number_ties-d-requires t c = (omega (arith, c.decreases), sides_third c.args.room.records c.args.room.cap (state_of c.args.work.now c.args.out.now c.args.c) c.args.left c.args.at c.args.base _ c.requires c.bump-n.ensures _ _ _ c.number_ties-a.ensures.1 c.number_ties-a.ensures.0 _ c.number_tie-b.ensures)

pub number_sides-number_tie-e-requires : goal.number_sides-number_tie-e-requires
unfolding split_by
number_sides-number_tie-e-requires t c = sides_fourth c.args.room.records c.args.room.cap (state_of c.args.work.now c.args.out.now c.args.c) c.args.left c.args.at c.args.base _ c.requires c.bump-n.ensures _ _ _ c.number_ties-a.ensures.1 c.number_ties-a.ensures.0 _ c.number_tie-b.ensures _ c.number_ties-d.ensures.0

pub number_sides-shape_of-work : goal.number_sides-shape_of-work
number_sides-shape_of-work t c = c.number_tie-e.ensures.kept.size ∙ c.number_ties-d.ensures.0.kept.size ∙ c.number_tie-b.ensures.kept.size ∙ c.number_ties-a.ensures.0.kept.size

pub number_sides-shape_of-out : goal.number_sides-shape_of-out
number_sides-shape_of-out t c = c.number_tie-e.ensures.kept.room ∙ c.number_ties-d.ensures.0.kept.room ∙ c.number_tie-b.ensures.kept.room ∙ c.number_ties-a.ensures.0.kept.room

pub number_sides-returns : goal.number_sides-returns
unfolding split_by
number_sides-returns t c = walked_to (sides_of c.args.room.records c.args.room.cap (read_part c.args.work.now) c.args.left c.args.at c.args.base) (λ q b. SkipsAll (read_part c.args.work.now) c.args.left (split_by 2) 2 c.args.at (bump c.args.base 2) q b) (state_of c.args.work.now c.args.out.now c.args.c) _ _ _ _ _ _ c.ended.ensures (sides_done c.args.room.records c.args.room.cap (state_of c.args.work.now c.args.out.now c.args.c) c.args.left c.args.at c.args.base _ c.requires c.bump-n.ensures _ _ _ c.number_ties-a.ensures.1 c.number_ties-a.ensures.0 _ c.number_tie-b.ensures _ c.number_ties-d.ensures.0 _ c.number_tie-e.ensures) (rw (← c.bump-n.ensures) (both_skip (read_part c.args.work.now) c.args.left (split_by 2) c.args.at _ _ _ _ _ c.requires.inside (omega (arith, c.bump-n.ensures)) c.number_ties-a.ensures.1 (skips_as (c.number_tie-b.ensures.kept.part ∙ c.number_ties-a.ensures.0.kept.part) c.number_ties-d.ensures.1)))

pub number_term_ties-loop-init : goal.number_term_ties-loop-init
number_term_ties-loop-init t c = let e : c.args.count - 0 ≡ c.args.count = omega arith in rw e (term_ties_start c.args.room.records c.args.room.cap c.args.left (split_by c.args.m) c.args.count c.args.at c.args.base c.args.work.now c.args.out.now c.args.c _ c.ended-r.ensures c.requires)

pub number_term_ties-overflow_add-r : goal.number_term_ties-overflow_add-r
number_term_ties-overflow_add-r t c = omega (arith, (c.is_leaf.ensures c.if-is_leaf.true).1)

pub number_term_ties-loop-preserved-then-is_leaf : goal.number_term_ties-loop-preserved-then-is_leaf
number_term_ties-loop-preserved-then-is_leaf t c = let e : c.args.count - (c.loop.counter + 1) ≡ c.args.count - c.loop.counter - 1 = omega arith in rw e (term_ties_leaf c.args.room.records c.args.room.cap c.args.left (split_by c.args.m) c.args.count c.args.at c.args.base c.args.work.now c.args.out.now c.args.c c.ended-r.result.progress (ap (λ (x : NumberedInt). x.progress) c.ended-r.ensures) c.requires _ _ c.loop.r (c.args.count - c.loop.counter) c.loop.invariant (omega arith) (c.is_leaf.ensures c.if-is_leaf.true) _ c.ended-r-then-is_leaf.ensures)

pub number_term_ties-overflow_add-r-in-loop : goal.number_term_ties-overflow_add-r-in-loop
number_term_ties-overflow_add-r-in-loop t c = omega (arith, c.loop.invariant.skips.inside)

pub number_term_ties-number_int_ties-r-requires : goal.number_term_ties-number_int_ties-r-requires
number_term_ties-number_int_ties-r-requires t c = (omega (arith, c.decreases), term_ties_term c.args.room.records c.args.room.cap c.args.left (split_by c.args.m) c.args.count c.args.at c.args.base c.args.work.now c.args.out.now c.args.c c.ended-r.result.progress (ap (λ (x : NumberedInt). x.progress) c.ended-r.ensures) c.requires _ _ c.loop.r (c.args.count - c.loop.counter) c.loop.invariant (omega arith) _ c.within-p.ensures)

pub number_term_ties-loop-preserved : goal.number_term_ties-loop-preserved
number_term_ties-loop-preserved t c = let e : c.args.count - (c.loop.counter + 1) ≡ c.args.count - c.loop.counter - 1 = omega arith in rw e (term_ties_again c.args.room.records c.args.room.cap c.args.left (split_by c.args.m) c.args.count c.args.at c.args.base c.args.work.now c.args.out.now c.args.c c.ended-r.result.progress (ap (λ (x : NumberedInt). x.progress) c.ended-r.ensures) c.requires _ _ c.loop.r (c.args.count - c.loop.counter) c.loop.invariant (omega arith) _ c.within-p.ensures _ _ c.number_int_ties-r.result c.number_int_ties-r.ensures)

pub number_term_ties-shape_of-work : goal.number_term_ties-shape_of-work
number_term_ties-shape_of-work t c = c.loop.invariant.left.kept.size

pub number_term_ties-shape_of-out : goal.number_term_ties-shape_of-out
number_term_ties-shape_of-out t c = c.loop.invariant.left.kept.room

pub number_term_ties-returns : goal.number_term_ties-returns
number_term_ties-returns t c = term_ties_done c.args.room.records c.args.room.cap c.args.left (split_by c.args.m) c.args.count c.args.at c.args.base c.args.work.now c.args.out.now c.args.c c.ended-r.result.progress (ap (λ (x : NumberedInt). x.progress) c.ended-r.ensures) c.requires _ _ c.loop.r (c.args.count - c.loop.counter) c.loop.invariant (omega arith)

pub number_ties-returns-then-left-eq0 : goal.number_ties-returns-then-left-eq0
number_ties-returns-then-left-eq0 t c = walked_to (ties_of c.args.room.records c.args.room.cap (read_part c.args.work.now) c.args.left (split_by c.args.m) c.args.at c.args.base) (λ q b. Skips (read_part c.args.work.now) c.args.left (split_by c.args.m) c.args.at c.args.base q b) (state_of c.args.work.now c.args.out.now c.args.c) c.args.work.now c.args.out.now c.args.c _ _ _ c.ended.ensures (ties_zero c.args.room.records c.args.room.cap (state_of c.args.work.now c.args.out.now c.args.c) c.args.left (split_by c.args.m) c.args.at c.args.base c.requires c.if-left-eq0.true) (skips_none c.args.work.now c.requires.size c.args.left (split_by c.args.m) c.args.at c.args.base c.requires.inside c.requires.low_base c.if-left-eq0.true)

pub number_ties-node_at-requires : goal.number_ties-node_at-requires
number_ties-node_at-requires t c = (c.requires.size, c.requires.inside)

pub number_ties-number_int_ties-a-requires : goal.number_ties-number_int_ties-a-requires
number_ties-number_int_ties-a-requires t c = (omega (arith, c.decreases, c.if-left-eq0.false), ties_cmp_first c.args.room.records c.args.room.cap (state_of c.args.work.now c.args.out.now c.args.c) c.args.left (split_by c.args.m) c.args.at c.args.base c.requires _ c.if-left-eq0.false refl _ _ _ (sym c.in-Cmp.is ∙ c.node_at.ensures) c.inner-j.ensures)

pub number_ties-number_int_ties-requires : goal.number_ties-number_int_ties-requires
number_ties-number_int_ties-requires t c = (omega (arith, c.decreases, c.if-left-eq0.false), ties_cmp_second c.args.room.records c.args.room.cap (state_of c.args.work.now c.args.out.now c.args.c) c.args.left (split_by c.args.m) c.args.at c.args.base c.requires _ c.if-left-eq0.false refl _ _ _ (sym c.in-Cmp.is ∙ c.node_at.ensures) c.inner-j.ensures _ _ _ c.number_int_ties-a.ensures.1 c.number_int_ties-a.ensures.0)

pub number_ties-number_ties-requires : goal.number_ties-number_ties-requires
number_ties-number_ties-requires t c = (omega (arith, c.decreases, c.if-left-eq0.false), ties_not_starts c.args.room.records c.args.room.cap (state_of c.args.work.now c.args.out.now c.args.c) c.args.left (split_by c.args.m) c.args.at c.args.base c.requires _ c.if-left-eq0.false refl _ (sym c.in-Not.is ∙ c.node_at.ensures))

pub number_ties-number_each_ties-requires : goal.number_ties-number_each_ties-requires
number_ties-number_each_ties-requires t c = (omega (arith, c.decreases, c.if-left-eq0.false), ties_join_starts c.args.room.records c.args.room.cap (state_of c.args.work.now c.args.out.now c.args.c) c.args.left (split_by c.args.m) c.args.at c.args.base c.requires _ c.if-left-eq0.false refl _ _ _ _ _ (sym c.in-Join.is ∙ c.node_at.ensures))

pub number_ties-number_each_ties-requires-then-m-le1 : goal.number_ties-number_each_ties-requires-then-m-le1
number_ties-number_each_ties-requires-then-m-le1 t c = (omega (arith, c.decreases, c.if-left-eq0.false), ties_cross_starts c.args.room.records c.args.room.cap (state_of c.args.work.now c.args.out.now c.args.c) c.args.left (split_by c.args.m) c.args.at c.args.base c.requires _ c.if-left-eq0.false refl _ _ (sym c.in-Cross.is ∙ c.node_at.ensures) _ (split_below c.args.m c.if-m-le1.true) c.inner.ensures)

pub number_ties-returns-then-m-le1 : goal.number_ties-returns-then-m-le1
number_ties-returns-then-m-le1 t c = (ties_cross c.args.room.records c.args.room.cap (state_of c.args.work.now c.args.out.now c.args.c) c.args.left (split_by c.args.m) c.args.at c.args.base c.requires _ c.if-left-eq0.false refl _ _ (sym c.in-Cross.is ∙ c.node_at.ensures) _ (split_below c.args.m c.if-m-le1.true) c.inner.ensures _ c.number_each_ties-then-m-le1.ensures.0, skips_cross c.args.work.now c.requires.size c.args.left (split_by c.args.m) c.args.at c.args.base c.requires.inside c.requires.low_base _ c.if-left-eq0.false refl false _ _ _ _ _ _ (sym c.in-Cross.is ∙ c.node_at.ensures) c.inner.ensures (inside_same c.args.m c.args.base (omega (arith, c.if-m-le1.true))) c.number_each_ties-then-m-le1.ensures.1)

pub number_ties-number_sides-requires : goal.number_ties-number_sides-requires
number_ties-number_sides-requires t c = (omega (arith, c.decreases, c.if-left-eq0.false), ties_split_starts c.args.room.records c.args.room.cap (state_of c.args.work.now c.args.out.now c.args.c) c.args.left (split_by c.args.m) c.args.at c.args.base c.requires _ c.if-left-eq0.false refl _ _ (sym c.in-Cross.is ∙ c.node_at.ensures) (split_here c.args.m c.if-m-le1.false))

pub number_ties-returns-in-Var : goal.number_ties-returns-in-Var
number_ties-returns-in-Var t c = walked_to (ties_of c.args.room.records c.args.room.cap (read_part c.args.work.now) c.args.left (split_by c.args.m) c.args.at c.args.base) (λ q b. Skips (read_part c.args.work.now) c.args.left (split_by c.args.m) c.args.at c.args.base q b) (state_of c.args.work.now c.args.out.now c.args.c) c.args.work.now c.args.out.now c.args.c _ _ _ c.ended-in-Var.ensures (ties_var c.args.room.records c.args.room.cap (state_of c.args.work.now c.args.out.now c.args.c) c.args.left (split_by c.args.m) c.args.at c.args.base c.requires _ c.if-left-eq0.false refl _ _ (sym c.in-Var.is ∙ c.node_at.ensures)) (skips_var c.args.work.now c.requires.size c.args.left (split_by c.args.m) c.args.at c.args.base c.requires.inside c.requires.low_base _ c.if-left-eq0.false refl false _ _ (sym c.in-Var.is ∙ c.node_at.ensures))

pub number_ties-returns-in-Cmp : goal.number_ties-returns-in-Cmp
number_ties-returns-in-Cmp t c = (ties_cmp c.args.room.records c.args.room.cap (state_of c.args.work.now c.args.out.now c.args.c) c.args.left (split_by c.args.m) c.args.at c.args.base c.requires _ c.if-left-eq0.false refl _ _ _ (sym c.in-Cmp.is ∙ c.node_at.ensures) c.inner-j.ensures _ _ _ c.number_int_ties-a.ensures.1 c.number_int_ties-a.ensures.0 _ c.number_int_ties.ensures.0, skips_cmp c.args.work.now c.requires.size c.args.left (split_by c.args.m) c.args.at c.args.base c.requires.inside c.requires.low_base _ c.if-left-eq0.false refl false _ _ _ _ _ _ _ (sym c.in-Cmp.is ∙ c.node_at.ensures) c.inner-j.ensures c.number_int_ties-a.ensures.1 (int_skips_as c.number_int_ties-a.ensures.0.kept.part c.number_int_ties.ensures.1))

pub number_ties-returns-in-Not : goal.number_ties-returns-in-Not
number_ties-returns-in-Not t c = (ties_not c.args.room.records c.args.room.cap (state_of c.args.work.now c.args.out.now c.args.c) c.args.left (split_by c.args.m) c.args.at c.args.base c.requires _ c.if-left-eq0.false refl _ _ (sym c.in-Not.is ∙ c.node_at.ensures) c.number_ties.ensures.0, skips_not c.args.work.now c.requires.size c.args.left (split_by c.args.m) c.args.at c.args.base c.requires.inside c.requires.low_base _ c.if-left-eq0.false refl false _ _ _ (sym c.in-Not.is ∙ c.node_at.ensures) c.number_ties.ensures.1)

pub number_ties-returns-in-Join : goal.number_ties-returns-in-Join
number_ties-returns-in-Join t c = (ties_join c.args.room.records c.args.room.cap (state_of c.args.work.now c.args.out.now c.args.c) c.args.left (split_by c.args.m) c.args.at c.args.base c.requires _ c.if-left-eq0.false refl _ _ _ _ _ _ (sym c.in-Join.is ∙ c.node_at.ensures) c.number_each_ties.ensures.0, skips_join c.args.work.now c.requires.size c.args.left (split_by c.args.m) c.args.at c.args.base c.requires.inside c.requires.low_base _ c.if-left-eq0.false refl false _ _ _ _ _ _ _ (sym c.in-Join.is ∙ c.node_at.ensures) c.number_each_ties.ensures.1)

pub number_ties-returns-else-m-le1 : goal.number_ties-returns-else-m-le1
number_ties-returns-else-m-le1 t c = (ties_split c.args.room.records c.args.room.cap (state_of c.args.work.now c.args.out.now c.args.c) c.args.left (split_by c.args.m) c.args.at c.args.base c.requires _ c.if-left-eq0.false refl _ _ (sym c.in-Cross.is ∙ c.node_at.ensures) (split_here c.args.m c.if-m-le1.false) _ c.number_sides.ensures.0, skips_cross c.args.work.now c.requires.size c.args.left (split_by c.args.m) c.args.at c.args.base c.requires.inside c.requires.low_base _ c.if-left-eq0.false refl false _ _ 2 _ _ _ (sym c.in-Cross.is ∙ c.node_at.ensures) (inner_some c.args.m (λ e. omega (arith, c.if-m-le1.false))) (inside_more c.args.m c.args.base (omega (arith, c.if-m-le1.false))) c.number_sides.ensures.1)
