use mathlib.Core.Path.{subst}
use native.Mathlib.Omega.{arith}
use Rattle.accept.specs.Walk.{WrittenPost}
use Rattle.accept.proofs.CountLaws.{head_plain, head_inside, head_const, head_second, head_var, head_sum, head_condition, head_left, head_right, head_room, head_if, start_pending, start_post, none_pending, pending_behind, pending_inside, pending_next, pending_rest, pending_room, none_counted, counted_next, counted_room}
use Rattle.accept.proofs.+mark.Goals as goal

pub mark_head-number-code-requires : goal.mark_head-number-code-requires
mark_head-number-code-requires t c = head_plain c.args.set.now c.args.at c.args.n c.requires.0

pub mark_head-returns-then-code-eq20 : goal.mark_head-returns-then-code-eq20
mark_head-returns-then-code-eq20 t c = head_const c.args.set.now c.args.at c.args.n c.args.marks.now _ c.number-code.ensures.0 c.requires.2 c.if-code-eq20.true

pub mark_head-skip_members-t-requires : goal.mark_head-skip_members-t-requires
mark_head-skip_members-t-requires t c = head_condition c.args.set.now c.args.at c.args.n c.args.marks.now _ c.number-code.ensures.0 c.if-code-eq23.true c.requires.0

pub mark_head-mark_written-x-requires : goal.mark_head-mark_written-x-requires
mark_head-mark_written-x-requires t c = let q = head_inside c.args.set.now c.args.at c.args.n c.requires.0 in let s = head_left c.args.set.now c.args.at c.args.n c.args.marks.now _ c.number-code.ensures.0 c.if-code-eq23.true _ c.skip_members-t.ensures c.requires.0 in (omega (arith, c.decreases, s.1), (s.0, c.requires.1, c.requires.2))

pub mark_head-mark_written-y-requires : goal.mark_head-mark_written-y-requires
mark_head-mark_written-y-requires t c = let q = head_inside c.args.set.now c.args.at c.args.n c.requires.0 in let s = head_right c.args.set.now c.args.at c.args.n c.args.marks.now _ c.number-code.ensures.0 c.if-code-eq23.true _ c.skip_members-t.ensures _ _ _ c.mark_written-x.ensures c.requires.0 in (omega (arith, c.decreases, s.1), (s.0, c.requires.1, s.2))

pub mark_head-overflow_add-result-then-code-eq23 : goal.mark_head-overflow_add-result-then-code-eq23
mark_head-overflow_add-result-then-code-eq23 t c = let s = head_room c.args.set.now c.args.at c.args.n c.args.marks.now _ c.number-code.ensures.0 c.if-code-eq23.true _ c.skip_members-t.ensures _ _ _ c.mark_written-x.ensures _ _ _ c.mark_written-y.ensures c.requires.0 in omega (arith, s.0, s.1, c.well_formed.0.0, c.requires.1)

pub mark_head-overflow_add-result-then-code-eq23-2 : goal.mark_head-overflow_add-result-then-code-eq23-2
mark_head-overflow_add-result-then-code-eq23-2 t c = let s = head_room c.args.set.now c.args.at c.args.n c.args.marks.now _ c.number-code.ensures.0 c.if-code-eq23.true _ c.skip_members-t.ensures _ _ _ c.mark_written-x.ensures _ _ _ c.mark_written-y.ensures c.requires.0 in omega (arith, s.0, s.1, c.well_formed.0.0, c.requires.1)

pub mark_head-returns-then-code-eq23 : goal.mark_head-returns-then-code-eq23
mark_head-returns-then-code-eq23 t c = head_if c.args.set.now c.args.at c.args.n c.args.marks.now _ c.number-code.ensures.0 c.if-code-eq23.true _ c.skip_members-t.ensures _ _ _ c.mark_written-x.ensures _ _ _ c.mark_written-y.ensures

pub mark_head-overflow_add-at-2 : goal.mark_head-overflow_add-at-2
mark_head-overflow_add-at-2 t c = let q = head_inside c.args.set.now c.args.at c.args.n c.requires.0 in omega (arith, c.well_formed.0.0)

pub mark_head-number-v-requires : goal.mark_head-number-v-requires
mark_head-number-v-requires t c = head_second c.args.set.now c.args.at c.args.n c.args.marks.now _ c.number-code.ensures.0 c.requires.0 c.if-code-eq20.false c.if-code-eq23.false

pub mark_head-returns-then-code-eq21 : goal.mark_head-returns-then-code-eq21
mark_head-returns-then-code-eq21 t c = head_var c.args.set.now c.args.at c.args.n c.args.marks.now _ c.number-code.ensures.0 _ c.number-v.ensures.0 c.if-code-eq21.true _ _ c.mark-count.ensures

pub mark_head-overflow_add-result-2 : goal.mark_head-overflow_add-result-2
mark_head-overflow_add-result-2 t c = let q = head_inside c.args.set.now c.args.at c.args.n c.requires.0 in omega (arith, c.well_formed.0.0)

pub mark_head-returns : goal.mark_head-returns
mark_head-returns t c = head_sum c.args.set.now c.args.at c.args.n c.args.marks.now _ c.number-code.ensures.0 _ c.number-v.ensures.0 c.requires.2 c.if-code-eq20.false c.if-code-eq21.false c.if-code-eq23.false

pub mark_written-loop-rest-init : goal.mark_written-loop-rest-init
mark_written-loop-rest-init t c = (omega (arith, c.requires.0.behind), start_pending c.args.set.now c.args.at c.args.n c.requires.0, c.requires.2, none_counted c.args.marks.now c.args.n c.args.at c.requires.0.behind, λ m y r p. subst (λ i. WrittenPost c.args.set.now c.args.at c.args.n c.args.marks.now m y i) (omega arith) (start_post c.args.set.now c.args.at c.args.n c.requires.0 c.args.marks.now m y r p))

pub mark_written-overflow_add-next : goal.mark_written-overflow_add-next
mark_written-overflow_add-next t c = let q = pending_inside c.args.set.now c.loop-rest.next c.loop-rest.rest c.args.n c.loop-rest-test.true c.loop-rest.invariant.1 in omega (arith, c.well_formed.0.0)

pub mark_written-mark_head-h-requires : goal.mark_written-mark_head-h-requires
mark_written-mark_head-h-requires t c = let q = pending_inside c.args.set.now c.loop-rest.next c.loop-rest.rest c.args.n c.loop-rest-test.true c.loop-rest.invariant.1 in (omega (arith, c.decreases, c.loop-rest.invariant.0), (pending_behind c.args.set.now c.loop-rest.next c.loop-rest.rest c.args.n c.loop-rest-test.true c.loop-rest.invariant.1, c.requires.1, c.loop-rest.invariant.2))

pub mark_written-overflow_add-count : goal.mark_written-overflow_add-count
mark_written-overflow_add-count t c = let q = pending_inside c.args.set.now c.loop-rest.next c.loop-rest.rest c.args.n c.loop-rest-test.true c.loop-rest.invariant.1 in let k = (counted_next c.args.set.now c.args.marks.now c.loop-rest.marks _ c.args.n c.loop-rest.count c.args.at c.loop-rest.next c.loop-rest.rest _ _ _ c.loop-rest-test.true c.loop-rest.invariant.3 c.loop-rest.invariant.1 c.mark_head-h.ensures) in omega (arith, counted_room _ _ _ _ _ _ k.0, k.2, c.well_formed.0.0, c.requires.1)

pub mark_written-overflow_add-rest : goal.mark_written-overflow_add-rest
mark_written-overflow_add-rest t c = let s = pending_room _ _ _ _ (pending_next c.args.set.now c.loop-rest.next c.loop-rest.rest c.args.n c.loop-rest-test.true c.loop-rest.marks _ _ _ _ c.mark_head-h.ensures c.loop-rest.invariant.1).0 in omega (arith, s, c.well_formed.0.0)

pub mark_written-loop-rest-smaller : goal.mark_written-loop-rest-smaller
mark_written-loop-rest-smaller t c = let q = pending_inside c.args.set.now c.loop-rest.next c.loop-rest.rest c.args.n c.loop-rest-test.true c.loop-rest.invariant.1 in let s = (pending_next c.args.set.now c.loop-rest.next c.loop-rest.rest c.args.n c.loop-rest-test.true c.loop-rest.marks _ _ _ _ c.mark_head-h.ensures c.loop-rest.invariant.1).1 in omega (arith, s, q)

pub mark_written-loop-rest-preserved : goal.mark_written-loop-rest-preserved
mark_written-loop-rest-preserved t c = let s = pending_next c.args.set.now c.loop-rest.next c.loop-rest.rest c.args.n c.loop-rest-test.true c.loop-rest.marks _ _ _ _ c.mark_head-h.ensures c.loop-rest.invariant.1 in let k = counted_next c.args.set.now c.args.marks.now c.loop-rest.marks _ c.args.n c.loop-rest.count c.args.at c.loop-rest.next c.loop-rest.rest _ _ _ c.loop-rest-test.true c.loop-rest.invariant.3 c.loop-rest.invariant.1 c.mark_head-h.ensures in (omega (arith, s.1, c.loop-rest.invariant.0), s.0, k.1, k.0, λ m y r p. subst (λ i. WrittenPost c.args.set.now c.args.at c.args.n c.args.marks.now m y i) (omega arith) (c.loop-rest.invariant.4 m y _ (pending_rest c.args.set.now c.loop-rest.next c.loop-rest.rest c.args.n c.loop-rest-test.true c.loop-rest.marks _ _ _ _ c.mark_head-h.ensures m y r p)))

pub mark_written-returns : goal.mark_written-returns
mark_written-returns t c = subst (λ i. WrittenPost c.args.set.now c.args.at c.args.n c.args.marks.now c.loop-rest.marks c.loop-rest.next i) (omega arith) (c.loop-rest.invariant.4 c.loop-rest.marks c.loop-rest.next 0 (none_pending c.args.set.now c.loop-rest.next c.loop-rest.rest c.args.n c.loop-rest.marks c.loop-rest.invariant.2 c.loop-rest-test.false))
