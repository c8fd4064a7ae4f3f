use Prim.Native.Nat.{◌+◌, ◌-◌}
use mathlib.Core.Path.{◌≡◌, refl}
use native.Mathlib.Omega.{arith}
use lib.IntN.{pos}
use lib.ListN.{get_or}
use mir.Syntax.{w32}
use mir.Val.{SFits, to_z}
use mir.Facts.{to_z-of_z}
use borrow.Author.Rules.{rules}
use Rattle.laws.specs.Bools.{beq_eq}
use Rattle.passes.proofs.SkipLaws.{bool_inside, bool_first, bool_second}
use Rattle.evaluate.proofs.IntLaws.{int_first, int_inside, int_some, const_value, condition_ready, then_ready, else_some, then_value, else_ready, else_value, int_second, var_inside, var_value, sum_ready, sum_value, terms_none, term_ready, term_inside, term_small, rest_ready, terms_more, product_fits, sum_fits, sum_is}
use Rattle.evaluate.proofs.BoolLaws.{ready_some, left_ready, right_ready, comparison_held, list_ready, list_held, not_ready, not_held, first_ready, second_ready, two_held, members_none, member_ready, behind_ready, behind_some, stop_held, members_more, beq_differ, not-true, not-false}
use Rattle.evaluate.proofs.+holds.Goals as goal

pub bool_holds-number-code-requires : goal.bool_holds-number-code-requires
bool_holds-number-code-requires t c = bool_first c.args.set.now c.args.at (ready_some c.args.set.now c.args.values.now c.args.nb c.args.at c.requires)

pub bool_holds-leaf_holds-requires : goal.bool_holds-leaf_holds-requires
bool_holds-leaf_holds-requires t c = (c.requires, c.number-code.ensures.0, c.if-code-lt12.true)

pub bool_holds-overflow_add-result : goal.bool_holds-overflow_add-result
bool_holds-overflow_add-result t c = let q = bool_inside c.args.set.now c.args.at (ready_some c.args.set.now c.args.values.now c.args.nb c.args.at c.requires) in search rules

pub bool_holds-overflow_add-at : goal.bool_holds-overflow_add-at
bool_holds-overflow_add-at t c = let q = bool_inside c.args.set.now c.args.at (ready_some c.args.set.now c.args.values.now c.args.nb c.args.at c.requires) in search rules

pub bool_holds-number-n-requires : goal.bool_holds-number-n-requires
bool_holds-number-n-requires t c = bool_second c.args.set.now c.args.at _ c.number-code.ensures.0 (ready_some c.args.set.now c.args.values.now c.args.nb c.args.at c.requires) (λ l. absurd (omega (arith, l, c.if-code-lt14.true)))

pub bool_holds-overflow_add-at-then-code-lt14 : goal.bool_holds-overflow_add-at-then-code-lt14
bool_holds-overflow_add-at-then-code-lt14 t c = let q = bool_inside c.args.set.now c.args.at (ready_some c.args.set.now c.args.values.now c.args.nb c.args.at c.requires) in search rules

pub bool_holds-members_hold-requires : goal.bool_holds-members_hold-requires
bool_holds-members_hold-requires t c = let q = bool_inside c.args.set.now c.args.at (ready_some c.args.set.now c.args.values.now c.args.nb c.args.at c.requires) in (omega (arith, c.decreases), list_ready c.args.set.now c.args.values.now c.args.nb c.args.at _ c.number-code.ensures.0 (omega (arith, c.if-code-lt12.false)) c.if-code-lt14.true _ c.number-n.ensures.0 c.requires)

pub bool_holds-returns-then-code-lt14 : goal.bool_holds-returns-then-code-lt14
bool_holds-returns-then-code-lt14 t c = list_held c.args.set.now c.args.values.now c.args.nb c.args.at _ c.number-code.ensures.0 (omega (arith, c.if-code-lt12.false)) c.if-code-lt14.true _ c.number-n.ensures.0 _ _ c.members_hold.ensures

pub bool_holds-overflow_add-at-then-code-eq14 : goal.bool_holds-overflow_add-at-then-code-eq14
bool_holds-overflow_add-at-then-code-eq14 t c = let q = bool_inside c.args.set.now c.args.at (ready_some c.args.set.now c.args.values.now c.args.nb c.args.at c.requires) in search rules

pub bool_holds-bool_holds-a-requires : goal.bool_holds-bool_holds-a-requires
bool_holds-bool_holds-a-requires t c = let q = bool_inside c.args.set.now c.args.at (ready_some c.args.set.now c.args.values.now c.args.nb c.args.at c.requires) in (omega (arith, c.decreases), not_ready c.args.set.now c.args.values.now c.args.nb c.args.at _ c.number-code.ensures.0 c.if-code-eq14.true c.requires)

pub bool_holds-returns-then-code-eq14 : goal.bool_holds-returns-then-code-eq14
bool_holds-returns-then-code-eq14 t c = not_held c.args.set.now c.args.values.now c.args.nb c.args.at _ c.number-code.ensures.0 c.if-code-eq14.true _ _ c.bool_holds-a.ensures

pub bool_holds-comparison_holds-requires : goal.bool_holds-comparison_holds-requires
bool_holds-comparison_holds-requires t c = (omega (arith, c.decreases), (c.requires, rw c.if-code-eq18.true at c.number-code.ensures.0))

pub bool_holds-overflow_add-at-2 : goal.bool_holds-overflow_add-at-2
bool_holds-overflow_add-at-2 t c = let q = bool_inside c.args.set.now c.args.at (ready_some c.args.set.now c.args.values.now c.args.nb c.args.at c.requires) in search rules

pub bool_holds-bool_holds-a-requires-2 : goal.bool_holds-bool_holds-a-requires-2
bool_holds-bool_holds-a-requires-2 t c = let q = bool_inside c.args.set.now c.args.at (ready_some c.args.set.now c.args.values.now c.args.nb c.args.at c.requires) in (omega (arith, c.decreases), first_ready c.args.set.now c.args.values.now c.args.nb c.args.at _ c.number-code.ensures.0 (omega (arith, c.if-code-lt14.false, c.if-code-eq14.false)) c.if-code-eq18.false c.requires)

pub bool_holds-bool_holds-b-requires : goal.bool_holds-bool_holds-b-requires
bool_holds-bool_holds-b-requires t c = let q = bool_inside c.args.set.now c.args.at (ready_some c.args.set.now c.args.values.now c.args.nb c.args.at c.requires) in let s = second_ready c.args.set.now c.args.values.now c.args.nb c.args.at _ c.number-code.ensures.0 (omega (arith, c.if-code-lt14.false, c.if-code-eq14.false)) c.if-code-eq18.false _ _ c.bool_holds-a-2.ensures c.requires in (omega (arith, c.decreases, s.1), s.0)

pub bool_holds-returns : goal.bool_holds-returns
bool_holds-returns t c = two_held c.args.set.now c.args.values.now c.args.nb c.args.at _ c.number-code.ensures.0 (omega (arith, c.if-code-lt14.false, c.if-code-eq14.false)) c.if-code-eq18.false _ _ c.bool_holds-a-2.ensures _ _ _ c.bool_holds-b.ensures c.sides_hold.ensures

pub comparison_holds-overflow_add-at : goal.comparison_holds-overflow_add-at
comparison_holds-overflow_add-at t c = let q = bool_inside c.args.set.now c.args.at (ready_some c.args.set.now c.args.values.now c.args.nb c.args.at c.requires.0) in search rules

pub comparison_holds-number-op-requires : goal.comparison_holds-number-op-requires
comparison_holds-number-op-requires t c = bool_second c.args.set.now c.args.at 18 c.requires.1 (ready_some c.args.set.now c.args.values.now c.args.nb c.args.at c.requires.0) (λ l. refl)

pub comparison_holds-overflow_add-at-2 : goal.comparison_holds-overflow_add-at-2
comparison_holds-overflow_add-at-2 t c = let q = bool_inside c.args.set.now c.args.at (ready_some c.args.set.now c.args.values.now c.args.nb c.args.at c.requires.0) in search rules

pub comparison_holds-int_value-a-requires : goal.comparison_holds-int_value-a-requires
comparison_holds-int_value-a-requires t c = let q = bool_inside c.args.set.now c.args.at (ready_some c.args.set.now c.args.values.now c.args.nb c.args.at c.requires.0) in (omega (arith, c.decreases), left_ready c.args.set.now c.args.values.now c.args.nb c.args.at 18 c.requires.1 refl c.requires.0)

pub comparison_holds-int_value-b-requires : goal.comparison_holds-int_value-b-requires
comparison_holds-int_value-b-requires t c = let q = bool_inside c.args.set.now c.args.at (ready_some c.args.set.now c.args.values.now c.args.nb c.args.at c.requires.0) in let s = right_ready c.args.set.now c.args.values.now c.args.nb c.args.at 18 c.requires.1 refl _ _ c.int_value-a.ensures c.requires.0 in (omega (arith, c.decreases, s.1), s.0)

pub comparison_holds-returns : goal.comparison_holds-returns
comparison_holds-returns t c = let fx : SFits w32 c.int_value-a.result.value = search rules in let fy : SFits w32 c.int_value-b.result.value = search rules in comparison_held c.args.set.now c.args.values.now c.args.nb c.args.at 18 c.requires.1 refl _ _ c.int_value-a.ensures _ _ _ _ c.number-op.ensures.0 c.int_value-b.ensures (rw (to_z-of_z fx, to_z-of_z fy) at c.compares.ensures)

pub if_value-overflow_add-at : goal.if_value-overflow_add-at
if_value-overflow_add-at t c = let q = int_inside c.args.set.now c.args.values.now c.args.nb c.args.at c.requires.0 in search rules

pub if_value-bool_holds-c-requires : goal.if_value-bool_holds-c-requires
if_value-bool_holds-c-requires t c = let q = int_inside c.args.set.now c.args.values.now c.args.nb c.args.at c.requires.0 in (omega (arith, c.decreases), condition_ready c.args.set.now c.args.values.now c.args.nb c.args.at 23 c.requires.1 refl c.requires.0)

pub if_value-skip_int-f-requires : goal.if_value-skip_int-f-requires
if_value-skip_int-f-requires t c = int_some _ c.args.values.now c.args.nb _ (then_ready c.args.set.now c.args.values.now c.args.nb c.args.at 23 c.requires.1 refl _ _ c.bool_holds-c.ensures c.requires.0).0

pub if_value-int_value-requires : goal.if_value-int_value-requires
if_value-int_value-requires t c = let q = int_inside c.args.set.now c.args.values.now c.args.nb c.args.at c.requires.0 in let s = else_ready c.args.set.now c.args.values.now c.args.nb c.args.at 23 c.requires.1 refl _ _ c.bool_holds-c.ensures (not-true c.bool_holds-c.result.value c.if-not-c.true) _ c.skip_int-f.ensures c.requires.0 in (omega (arith, c.decreases, s.1), s.0)

pub if_value-returns-then-not-c : goal.if_value-returns-then-not-c
if_value-returns-then-not-c t c = else_value c.args.set.now c.args.values.now c.args.nb c.args.at 23 c.requires.1 refl _ _ c.bool_holds-c.ensures (not-true c.bool_holds-c.result.value c.if-not-c.true) _ c.skip_int-f.ensures _ _ c.int_value.ensures

pub if_value-int_value-t-requires : goal.if_value-int_value-t-requires
if_value-int_value-t-requires t c = let q = int_inside c.args.set.now c.args.values.now c.args.nb c.args.at c.requires.0 in let s = then_ready c.args.set.now c.args.values.now c.args.nb c.args.at 23 c.requires.1 refl _ _ c.bool_holds-c.ensures c.requires.0 in (omega (arith, c.decreases, s.1), s.0)

pub if_value-skip_int-requires : goal.if_value-skip_int-requires
if_value-skip_int-requires t c = else_some c.args.set.now c.args.values.now c.args.nb c.args.at 23 c.requires.1 refl _ _ c.bool_holds-c.ensures (not-false c.bool_holds-c.result.value c.if-not-c.false) _ _ c.int_value-t.ensures c.requires.0

pub if_value-returns : goal.if_value-returns
if_value-returns t c = let f : SFits w32 c.int_value-t.result.value = search rules in then_value c.args.set.now c.args.values.now c.args.nb c.args.at 23 c.requires.1 refl _ _ c.bool_holds-c.ensures (not-false c.bool_holds-c.result.value c.if-not-c.false) _ _ c.int_value-t.ensures _ _ (to_z-of_z f) c.skip_int.ensures

pub int_value-number-code-requires : goal.int_value-number-code-requires
int_value-number-code-requires t c = int_first _ c.args.values.now c.args.nb _ c.requires

pub int_value-returns-then-code-eq20 : goal.int_value-returns-then-code-eq20
int_value-returns-then-code-eq20 t c = let f : SFits w32 (get_or c.args.set.now (c.args.at + 1) (pos 0)) = search rules in const_value c.args.set.now c.args.values.now c.args.nb c.args.at _ c.number-code.ensures.0 _ (to_z-of_z f) c.if-code-eq20.true

pub int_value-if_value-requires : goal.int_value-if_value-requires
int_value-if_value-requires t c = (omega (arith, c.decreases), (c.requires, rw c.if-code-eq23.true at c.number-code.ensures.0))

pub int_value-number-v-requires : goal.int_value-number-v-requires
int_value-number-v-requires t c = int_second c.args.set.now c.args.values.now c.args.nb c.args.at _ c.number-code.ensures.0 c.requires c.if-code-eq20.false c.if-code-eq23.false

pub int_value-returns-then-code-eq21 : goal.int_value-returns-then-code-eq21
int_value-returns-then-code-eq21 t c = let f : SFits w32 (get_or c.args.values.now (c.args.nb + c.number-v.result) (pos 0)) = search rules in var_value c.args.set.now c.args.values.now c.args.nb c.args.at _ c.number-code.ensures.0 _ c.number-v.ensures.0 _ (to_z-of_z f) c.if-code-eq21.true

pub int_value-bounds-set-at : goal.int_value-bounds-set-at
int_value-bounds-set-at t c = let q = int_inside c.args.set.now c.args.values.now c.args.nb c.args.at c.requires in search rules

pub int_value-overflow_add-at : goal.int_value-overflow_add-at
int_value-overflow_add-at t c = let q = int_inside c.args.set.now c.args.values.now c.args.nb c.args.at c.requires in search rules

pub int_value-bounds-values-nb : goal.int_value-bounds-values-nb
int_value-bounds-values-nb t c = let q = var_inside c.args.set.now c.args.values.now c.args.nb c.args.at _ c.number-code.ensures.0 _ c.number-v.ensures.0 c.requires c.if-code-eq21.true in search rules

pub int_value-overflow_add-at-2 : goal.int_value-overflow_add-at-2
int_value-overflow_add-at-2 t c = let q = int_inside c.args.set.now c.args.values.now c.args.nb c.args.at c.requires in search rules

pub int_value-terms_value-requires : goal.int_value-terms_value-requires
int_value-terms_value-requires t c = let q = int_inside c.args.set.now c.args.values.now c.args.nb c.args.at c.requires in (omega (arith, c.decreases), sum_ready c.args.set.now c.args.values.now c.args.nb c.args.at _ c.number-code.ensures.0 _ c.number-v.ensures.0 c.if-code-eq20.false c.if-code-eq21.false c.if-code-eq23.false c.requires)

pub int_value-returns : goal.int_value-returns
int_value-returns t c = sum_value c.args.set.now c.args.values.now c.args.nb c.args.at _ c.number-code.ensures.0 _ c.number-v.ensures.0 c.if-code-eq20.false c.if-code-eq21.false c.if-code-eq23.false _ _ c.terms_value.ensures

pub members_hold-loop-rest-init : goal.members_hold-loop-rest-init
members_hold-loop-rest-init t c = (c.requires, omega arith, λ next' h p. p)

pub members_hold-bool_holds-m-requires : goal.members_hold-bool_holds-m-requires
members_hold-bool_holds-m-requires t c = let r = member_ready c.args.set.now c.args.values.now c.args.nb c.loop-rest.next c.loop-rest.rest (omega arith) c.loop-rest.invariant.0 in let q = bool_inside _ _ (ready_some _ _ _ _ r) in (omega (arith, q, c.decreases, c.loop-rest.invariant.1), r)

pub members_hold-skip_members-requires : goal.members_hold-skip_members-requires
members_hold-skip_members-requires t c = behind_some c.args.set.now c.args.values.now c.args.nb c.loop-rest.next c.loop-rest.rest (omega arith) _ _ c.bool_holds-m.ensures c.loop-rest.invariant.0

pub members_hold-returns-then-m-stop : goal.members_hold-returns-then-m-stop
members_hold-returns-then-m-stop t c = c.loop-rest.invariant.2 _ _ (stop_held c.args.set.now c.args.values.now c.args.nb c.loop-rest.next c.loop-rest.rest (omega arith) _ _ c.bool_holds-m.ensures c.args.stop _ (beq_eq _ _ c.if-m-stop.true) c.skip_members.ensures)

pub members_hold-loop-rest-preserved : goal.members_hold-loop-rest-preserved
members_hold-loop-rest-preserved t c = let s = behind_ready c.args.set.now c.args.values.now c.args.nb c.loop-rest.next c.loop-rest.rest (omega arith) _ _ c.bool_holds-m.ensures c.loop-rest.invariant.0 in (s.0, omega (arith, s.1, c.loop-rest.invariant.1), λ next' h p. c.loop-rest.invariant.2 next' h (members_more c.args.set.now c.args.values.now c.args.nb c.loop-rest.next c.loop-rest.rest (omega arith) _ _ c.bool_holds-m.ensures c.args.stop next' h (beq_differ _ _ c.if-m-stop.false) p))

pub members_hold-returns : goal.members_hold-returns
members_hold-returns t c = c.loop-rest.invariant.2 _ _ (members_none _ _ _ _ _ c.args.stop (omega arith))

pub terms_value-loop-init : goal.terms_value-loop-init
terms_value-loop-init t c = let e : c.args.n - 0 ≡ c.args.n = omega arith in (rw e c.requires, omega arith, λ next' x' p. rw e at p)

pub terms_value-overflow_add-next : goal.terms_value-overflow_add-next
terms_value-overflow_add-next t c = let q = term_inside _ c.args.values.now c.args.nb _ _ _ (omega arith) c.loop.invariant.0 in search rules

pub terms_value-int_value-t-requires : goal.terms_value-int_value-t-requires
terms_value-int_value-t-requires t c = let q = term_inside _ c.args.values.now c.args.nb _ _ _ (omega arith) c.loop.invariant.0 in (omega (arith, c.decreases, c.loop.invariant.1), term_ready _ _ _ _ _ _ (omega arith) c.loop.invariant.0)

pub terms_value-offset_bounds-set-next : goal.terms_value-offset_bounds-set-next
terms_value-offset_bounds-set-next t c = let q = term_inside _ c.args.values.now c.args.nb _ _ _ (omega arith) c.loop.invariant.0 in search rules

pub terms_value-bounds-set-next : goal.terms_value-bounds-set-next
terms_value-bounds-set-next t c = let q = term_inside _ c.args.values.now c.args.nb _ _ _ (omega arith) c.loop.invariant.0 in search rules

pub terms_value-overflow_mul-value : goal.terms_value-overflow_mul-value
terms_value-overflow_mul-value t c = let fk : SFits w32 (get_or c.args.set.now c.loop.next (pos 0)) = search rules in let fx : SFits w32 c.int_value-t.result.value = search rules in product_fits (to_z w32 c.loop.value-bits) _ _ fk fx (term_small c.args.set.now c.args.values.now c.args.nb c.loop.next (c.args.n - c.loop.counter) (to_z w32 c.loop.value-bits) (omega arith) _ _ c.int_value-t.ensures c.loop.invariant.0)

pub terms_value-overflow_add-value : goal.terms_value-overflow_add-value
terms_value-overflow_add-value t c = let fk : SFits w32 (get_or c.args.set.now c.loop.next (pos 0)) = search rules in let fx : SFits w32 c.int_value-t.result.value = search rules in sum_fits (to_z w32 c.loop.value-bits) _ _ fk fx (term_small c.args.set.now c.args.values.now c.args.nb c.loop.next (c.args.n - c.loop.counter) (to_z w32 c.loop.value-bits) (omega arith) _ _ c.int_value-t.ensures c.loop.invariant.0)

pub terms_value-loop-preserved : goal.terms_value-loop-preserved
terms_value-loop-preserved t c = let e : c.args.n - (c.loop.counter + 1) ≡ c.args.n - c.loop.counter - 1 = omega arith in let fk : SFits w32 (get_or c.args.set.now c.loop.next (pos 0)) = search rules in let fx : SFits w32 c.int_value-t.result.value = search rules in let s = sum_is (to_z w32 c.loop.value-bits) _ _ fk fx (term_small c.args.set.now c.args.values.now c.args.nb c.loop.next (c.args.n - c.loop.counter) (to_z w32 c.loop.value-bits) (omega arith) _ _ c.int_value-t.ensures c.loop.invariant.0) in let r = rest_ready c.args.set.now c.args.values.now c.args.nb c.loop.next (c.args.n - c.loop.counter) (to_z w32 c.loop.value-bits) (omega arith) _ _ c.int_value-t.ensures _ s c.loop.invariant.0 in (rw e r.0, omega (arith, r.1, c.loop.invariant.1), λ next' x' p. c.loop.invariant.2 next' x' (terms_more c.args.set.now c.args.values.now c.args.nb c.loop.next (c.args.n - c.loop.counter) (to_z w32 c.loop.value-bits) (omega arith) _ _ c.int_value-t.ensures _ s next' x' (rw e at p)))

pub terms_value-returns : goal.terms_value-returns
terms_value-returns t c = c.loop.invariant.2 _ _ (terms_none _ _ _ _ _ _ (omega arith))
