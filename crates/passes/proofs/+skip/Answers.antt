use native.Mathlib.Omega.{arith}
use Rattle.passes.proofs.SkipLaws.{int_inside, int_first, sum_second, step_sum, step_plain, if_condition, if_then, if_else, step_if, body_some, int_skips, term_some, terms_some, terms_skip, terms_none, terms_room, bool_inside, bool_first, bool_second, step_leaf, step_list, step_not, step_two, at_18, step_left, step_right, step_cmp, members_none, members_room, member_some, members_some, members_skip}
use Rattle.passes.proofs.+skip.Goals as goal

pub bool_step-number-code-requires : goal.bool_step-number-code-requires
bool_step-number-code-requires t c = bool_first _ _ c.requires

pub bool_step-overflow_add-result : goal.bool_step-overflow_add-result
bool_step-overflow_add-result t c = let q = bool_inside _ _ c.requires in omega (arith, c.well_formed.0.0)

pub bool_step-returns-then-code-lt12 : goal.bool_step-returns-then-code-lt12
bool_step-returns-then-code-lt12 t c = step_leaf _ _ _ c.number-code.ensures.0 c.if-code-lt12.true

pub bool_step-overflow_add-at : goal.bool_step-overflow_add-at
bool_step-overflow_add-at t c = let q = bool_inside _ _ c.requires in omega (arith, c.well_formed.0.0)

pub bool_step-number-n-requires : goal.bool_step-number-n-requires
bool_step-number-n-requires t c = bool_second _ _ _ c.number-code.ensures.0 c.requires (λ l. absurd (omega (arith, l, c.if-code-lt14.true)))

pub bool_step-overflow_add-result-then-code-lt14 : goal.bool_step-overflow_add-result-then-code-lt14
bool_step-overflow_add-result-then-code-lt14 t c = let q = bool_inside _ _ c.requires in omega (arith, c.well_formed.0.0)

pub bool_step-returns-then-code-lt14 : goal.bool_step-returns-then-code-lt14
bool_step-returns-then-code-lt14 t c = step_list _ _ _ c.number-code.ensures.0 (omega (arith, c.if-code-lt12.false)) c.if-code-lt14.true _ c.number-n.ensures.0

pub bool_step-overflow_add-result-then-code-eq14 : goal.bool_step-overflow_add-result-then-code-eq14
bool_step-overflow_add-result-then-code-eq14 t c = let q = bool_inside _ _ c.requires in omega (arith, c.well_formed.0.0)

pub bool_step-returns-then-code-eq14 : goal.bool_step-returns-then-code-eq14
bool_step-returns-then-code-eq14 t c = step_not _ _ _ c.number-code.ensures.0 c.if-code-eq14.true

pub bool_step-overflow_add-result-then-code-lt18 : goal.bool_step-overflow_add-result-then-code-lt18
bool_step-overflow_add-result-then-code-lt18 t c = let q = bool_inside _ _ c.requires in omega (arith, c.well_formed.0.0)

pub bool_step-returns-then-code-lt18 : goal.bool_step-returns-then-code-lt18
bool_step-returns-then-code-lt18 t c = step_two _ _ _ c.number-code.ensures.0 (omega (arith, c.if-code-lt14.false, c.if-code-eq14.false)) c.if-code-lt18.true

pub bool_step-overflow_add-at-2 : goal.bool_step-overflow_add-at-2
bool_step-overflow_add-at-2 t c = let q = bool_inside _ _ c.requires in omega (arith, c.well_formed.0.0)

pub bool_step-int_end-right-requires : goal.bool_step-int_end-right-requires
bool_step-int_end-right-requires t c = let q = bool_inside _ _ c.requires in (omega (arith, c.decreases), step_left _ _ _ c.number-code.ensures.0 (at_18 _ _ _ c.number-code.ensures.0 c.if-code-lt18.false c.requires) c.requires)

pub bool_step-int_end-next-requires : goal.bool_step-int_end-next-requires
bool_step-int_end-next-requires t c = let q = bool_inside _ _ c.requires in let s = step_right _ _ _ c.number-code.ensures.0 (at_18 _ _ _ c.number-code.ensures.0 c.if-code-lt18.false c.requires) _ c.int_end-right.ensures c.requires in (omega (arith, c.decreases, s.1), s.0)

pub bool_step-returns : goal.bool_step-returns
bool_step-returns t c = step_cmp _ _ _ c.number-code.ensures.0 (at_18 _ _ _ c.number-code.ensures.0 c.if-code-lt18.false c.requires) _ c.int_end-right.ensures _ c.int_end-next.ensures

pub int_end-int_step-s-requires : goal.int_end-int_step-s-requires
int_end-int_step-s-requires t c = (omega (arith, c.decreases), c.requires)

pub int_end-skip_terms-requires : goal.int_end-skip_terms-requires
int_end-skip_terms-requires t c = let q = int_inside _ _ c.requires in let s = body_some _ _ _ _ c.int_step-s.ensures c.requires in (omega (arith, c.decreases, s.1), s.0)

pub int_end-returns : goal.int_end-returns
int_end-returns t c = int_skips _ _ _ _ c.int_step-s.ensures _ c.skip_terms.ensures

pub int_step-number-w-requires : goal.int_step-number-w-requires
int_step-number-w-requires t c = int_first _ _ c.requires

pub int_step-overflow_add-at : goal.int_step-overflow_add-at
int_step-overflow_add-at t c = let q = int_inside _ _ c.requires in omega (arith, c.well_formed.0.0)

pub int_step-number-n-requires : goal.int_step-number-n-requires
int_step-number-n-requires t c = sum_second _ _ _ c.number-w.ensures.0 c.requires c.if-w-eq22.true

pub int_step-overflow_add-result : goal.int_step-overflow_add-result
int_step-overflow_add-result t c = let q = int_inside _ _ c.requires in omega (arith, c.well_formed.0.0)

pub int_step-returns-then-w-eq22 : goal.int_step-returns-then-w-eq22
int_step-returns-then-w-eq22 t c = step_sum _ _ _ c.number-w.ensures.0 _ c.number-n.ensures.0 c.if-w-eq22.true

pub int_step-overflow_add-at-then-w-eq23 : goal.int_step-overflow_add-at-then-w-eq23
int_step-overflow_add-at-then-w-eq23 t c = let q = int_inside _ _ c.requires in omega (arith, c.well_formed.0.0)

pub int_step-skip_members-t-requires : goal.int_step-skip_members-t-requires
int_step-skip_members-t-requires t c = let q = int_inside _ _ c.requires in (omega (arith, c.decreases), if_condition _ _ _ c.number-w.ensures.0 c.if-w-eq23.true c.requires)

pub int_step-int_end-e-requires : goal.int_step-int_end-e-requires
int_step-int_end-e-requires t c = let q = int_inside _ _ c.requires in let s = if_then _ _ _ c.number-w.ensures.0 c.if-w-eq23.true _ c.skip_members-t.ensures c.requires in (omega (arith, c.decreases, s.1), s.0)

pub int_step-int_end-next-requires : goal.int_step-int_end-next-requires
int_step-int_end-next-requires t c = let q = int_inside _ _ c.requires in let s = if_else _ _ _ c.number-w.ensures.0 c.if-w-eq23.true _ c.skip_members-t.ensures _ c.int_end-e.ensures c.requires in (omega (arith, c.decreases, s.1), s.0)

pub int_step-returns-then-w-eq23 : goal.int_step-returns-then-w-eq23
int_step-returns-then-w-eq23 t c = step_if _ _ _ c.number-w.ensures.0 c.if-w-eq23.true _ c.skip_members-t.ensures _ c.int_end-e.ensures _ c.int_end-next.ensures

pub int_step-overflow_add-result-2 : goal.int_step-overflow_add-result-2
int_step-overflow_add-result-2 t c = let q = int_inside _ _ c.requires in omega (arith, c.well_formed.0.0)

pub int_step-returns : goal.int_step-returns
int_step-returns t c = step_plain _ _ _ c.number-w.ensures.0 c.if-w-eq22.false c.if-w-eq23.false

pub skip_members-loop-rest-init : goal.skip_members-loop-rest-init
skip_members-loop-rest-init t c = (omega arith, c.requires, λ r x. x)

pub skip_members-bool_step-s-requires : goal.skip_members-bool_step-s-requires
skip_members-bool_step-s-requires t c = (omega (arith, c.decreases, c.loop-rest.invariant.0), member_some _ _ _ c.loop-rest-test.true c.loop-rest.invariant.1)

pub skip_members-overflow_add-rest : goal.skip_members-overflow_add-rest
skip_members-overflow_add-rest t c = let q = members_room _ _ _ (members_some _ _ _ c.loop-rest-test.true _ _ c.bool_step-s.ensures c.loop-rest.invariant.1).0 in omega (arith, c.well_formed.0.0)

pub skip_members-loop-rest-smaller : goal.skip_members-loop-rest-smaller
skip_members-loop-rest-smaller t c = let q = members_some _ _ _ c.loop-rest-test.true _ _ c.bool_step-s.ensures c.loop-rest.invariant.1 in omega (arith, q.1, q.2)

pub skip_members-loop-rest-preserved : goal.skip_members-loop-rest-preserved
skip_members-loop-rest-preserved t c = let q = members_some _ _ _ c.loop-rest-test.true _ _ c.bool_step-s.ensures c.loop-rest.invariant.1 in (omega (arith, q.1, c.loop-rest.invariant.0), q.0, λ r x. c.loop-rest.invariant.2 r (members_skip _ _ _ c.loop-rest-test.true _ _ c.bool_step-s.ensures r x))

pub skip_members-returns : goal.skip_members-returns
skip_members-returns t c = c.loop-rest.invariant.2 _ (members_none _ _ _ c.loop-rest-test.false)

pub skip_terms-loop-rest-init : goal.skip_terms-loop-rest-init
skip_terms-loop-rest-init t c = (omega arith, c.requires, λ r x. x)

pub skip_terms-overflow_add-next : goal.skip_terms-overflow_add-next
skip_terms-overflow_add-next t c = let q = int_inside _ _ (term_some _ _ _ c.loop-rest-test.true c.loop-rest.invariant.1) in omega (arith, c.well_formed.0.0)

pub skip_terms-int_step-s-requires : goal.skip_terms-int_step-s-requires
skip_terms-int_step-s-requires t c = let q = int_inside _ _ (term_some _ _ _ c.loop-rest-test.true c.loop-rest.invariant.1) in (omega (arith, c.decreases, c.loop-rest.invariant.0), term_some _ _ _ c.loop-rest-test.true c.loop-rest.invariant.1)

pub skip_terms-overflow_add-rest : goal.skip_terms-overflow_add-rest
skip_terms-overflow_add-rest t c = let q = terms_room _ _ _ (terms_some _ _ _ c.loop-rest-test.true _ _ c.int_step-s.ensures c.loop-rest.invariant.1).0 in omega (arith, c.well_formed.0.0)

pub skip_terms-loop-rest-smaller : goal.skip_terms-loop-rest-smaller
skip_terms-loop-rest-smaller t c = let q = terms_some _ _ _ c.loop-rest-test.true _ _ c.int_step-s.ensures c.loop-rest.invariant.1 in omega (arith, q.1, q.2)

pub skip_terms-loop-rest-preserved : goal.skip_terms-loop-rest-preserved
skip_terms-loop-rest-preserved t c = let q = terms_some _ _ _ c.loop-rest-test.true _ _ c.int_step-s.ensures c.loop-rest.invariant.1 in (omega (arith, q.1, c.loop-rest.invariant.0), q.0, λ r x. c.loop-rest.invariant.2 r (terms_skip _ _ _ c.loop-rest-test.true _ _ c.int_step-s.ensures r x))

pub skip_terms-returns : goal.skip_terms-returns
skip_terms-returns t c = c.loop-rest.invariant.2 _ (terms_none _ _ _ c.loop-rest-test.false)
