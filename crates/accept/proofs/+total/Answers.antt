use borrow.Author.Rules.{rules}
use Prim.Native.Nat.{◌+◌, ◌-◌}
use mathlib.Core.Path.{◌≡◌, refl}
use native.Mathlib.Omega.{arith}
use lib.IntN.{pos}
use lib.ListN.{get_or}
use mir.Syntax.{w32}
use mir.Val.{SFits}
use mir.Facts.{to_z-of_z}
use borrow.Author.Rules.{sfits_of}
use Rattle.accept.specs.Limit.{hit}
use Rattle.accept.proofs.FirstLaws.{hit_most}
use Rattle.accept.proofs.Laws.{int_first, int_inside, deep_inside, deep_if, deep_if_done, deep_second, deep_terms, deep_sum, if_rule, if_inside, if_left, if_right, if_branches, if_done, terms_none, term_ready, term_inside, rest_ready, terms_more, joined_under}
use Rattle.accept.proofs.TestLaws.{pair_inside, pair_right, pair_behind, pair_totals, pair_done}
use Rattle.accept.proofs.RuleLaws.{bool_inside, bool_plain, step_leaf, list_plain, step_list, step_not, step_two, cmp_ready, step_cmp, rules_none, rule_first, rules_ready, rules_rest, rules_room}
use Rattle.accept.proofs.+total.Goals as goal

pub comparison-int_total-b-requires : goal.comparison-int_total-b-requires
comparison-int_total-b-requires t c = let q = pair_inside c.args.walk.now.set.now c.args.walk.now.work.now c.args.at c.args.walk.now.ints c.requires in let s = pair_right c.args.walk.now.set.now c.args.walk.now.work.now c.args.at c.args.walk.now.ints _ _ _ c.int_total-a.ensures c.requires in (omega (arith, c.decreases, s.1), (s.0))

pub comparison-overflow_sub-b : goal.comparison-overflow_sub-b
comparison-overflow_sub-b t c = let s = pair_totals c.args.walk.now.set.now c.args.walk.now.work.now c.args.at c.args.walk.now.ints _ _ _ c.int_total-a.ensures _ _ _ c.int_total-b.ensures c.requires in omega (arith, s.2)

pub comparison-overflow_add-a : goal.comparison-overflow_add-a
comparison-overflow_add-a t c = let s = pair_totals c.args.walk.now.set.now c.args.walk.now.work.now c.args.at c.args.walk.now.ints _ _ _ c.int_total-a.ensures _ _ _ c.int_total-b.ensures c.requires in omega (arith, s.0, s.1)

pub comparison-compared-own-requires : goal.comparison-compared-own-requires
comparison-compared-own-requires t c = let s = pair_behind c.args.walk.now.set.now c.args.walk.now.work.now c.args.at c.args.walk.now.ints _ _ _ c.int_total-a.ensures c.requires in (s.0, s.1)

pub comparison-returns : goal.comparison-returns
comparison-returns t c = pair_done c.args.walk.now.set.now c.args.walk.now.work.now c.args.at c.args.walk.now.ints _ _ _ c.int_total-a.ensures _ _ _ c.int_total-b.ensures _ _ _ c.compared-own.ensures c.first-inside.ensures c.first-refusal.ensures

pub deep_total-if_total-requires : goal.deep_total-if_total-requires
deep_total-if_total-requires t c = (omega (arith, c.decreases), (deep_if c.args.walk.now.set.now c.args.walk.now.work.now c.args.at c.args.code c.args.walk.now.ints c.requires c.if-code-eq23.true))

pub deep_total-returns-then-code-eq23 : goal.deep_total-returns-then-code-eq23
deep_total-returns-then-code-eq23 t c = deep_if_done c.args.walk.now.set.now c.args.walk.now.work.now c.args.at c.args.code c.args.walk.now.ints c.requires _ _ _ c.if-code-eq23.true c.if_total.ensures

pub deep_total-number-n-requires : goal.deep_total-number-n-requires
deep_total-number-n-requires t c = deep_second c.args.walk.now.set.now c.args.walk.now.work.now c.args.at c.args.code c.args.walk.now.ints c.requires c.if-code-eq23.false

pub deep_total-terms_total-requires : goal.deep_total-terms_total-requires
deep_total-terms_total-requires t c = let q = deep_inside c.args.walk.now.set.now c.args.walk.now.work.now c.args.at c.args.code c.args.walk.now.ints c.requires in (omega (arith, c.decreases), (deep_terms c.args.walk.now.set.now c.args.walk.now.work.now c.args.at c.args.code c.args.walk.now.ints c.requires c.if-code-eq23.false _ c.number-n.ensures.0))

pub deep_total-returns : goal.deep_total-returns
deep_total-returns t c = deep_sum c.args.walk.now.set.now c.args.walk.now.work.now c.args.at c.args.code c.args.walk.now.ints c.requires c.if-code-eq23.false _ c.number-n.ensures.0 _ _ _ c.terms_total.ensures

pub if_total-overflow_add-at : goal.if_total-overflow_add-at
if_total-overflow_add-at t c = let q = if_inside c.args.walk.now.set.now c.args.walk.now.work.now c.args.at c.args.walk.now.ints c.requires in omega arith

pub if_total-rules-c-requires : goal.if_total-rules-c-requires
if_total-rules-c-requires t c = let q = if_inside c.args.walk.now.set.now c.args.walk.now.work.now c.args.at c.args.walk.now.ints c.requires in (omega (arith, c.decreases), (if_rule c.args.walk.now.set.now c.args.walk.now.work.now c.args.at c.args.walk.now.ints c.requires))

pub if_total-int_total-t-requires : goal.if_total-int_total-t-requires
if_total-int_total-t-requires t c = let q = if_inside c.args.walk.now.set.now c.args.walk.now.work.now c.args.at c.args.walk.now.ints c.requires in let s = if_left c.args.walk.now.set.now c.args.walk.now.work.now c.args.at c.args.walk.now.ints _ _ c.rules-c.ensures c.requires in (omega (arith, c.decreases, s.1), (s.0))

pub if_total-int_total-f-requires : goal.if_total-int_total-f-requires
if_total-int_total-f-requires t c = let q = if_inside c.args.walk.now.set.now c.args.walk.now.work.now c.args.at c.args.walk.now.ints c.requires in let s = if_right c.args.walk.now.set.now c.args.walk.now.work.now c.args.at c.args.walk.now.ints _ _ c.rules-c.ensures _ _ _ c.int_total-t.ensures c.requires in (omega (arith, c.decreases, s.1), (s.0))

pub if_total-branches-b-requires : goal.if_total-branches-b-requires
if_total-branches-b-requires t c = (if_branches c.args.walk.now.set.now c.args.walk.now.work.now c.args.at c.args.walk.now.ints _ _ c.rules-c.ensures _ _ _ c.int_total-t.ensures _ _ _ c.int_total-f.ensures c.requires)

pub if_total-returns : goal.if_total-returns
if_total-returns t c = if_done c.args.walk.now.set.now c.args.walk.now.work.now c.args.at c.args.walk.now.ints _ _ c.rules-c.ensures _ _ _ c.int_total-t.ensures _ _ _ c.int_total-f.ensures _ _ _ _ _ _ c.branches-b.ensures c.max.ensures (omega (arith, c.max-total.ensures)) c.first-inside.ensures c.first.ensures c.first-refusal.ensures

pub int_total-number-code-requires : goal.int_total-number-code-requires
int_total-number-code-requires t c = int_first c.args.walk.now.set.now c.args.walk.now.work.now c.args.at c.args.walk.now.ints c.requires

pub int_total-overflow_add-result : goal.int_total-overflow_add-result
int_total-overflow_add-result t c = let q = int_inside c.args.walk.now.set.now c.args.walk.now.work.now c.args.at c.args.walk.now.ints c.requires in omega arith

pub int_total-returns-then-code-lt22 : goal.int_total-returns-then-code-lt22
int_total-returns-then-code-lt22 t c = c.leaf_total-total.ensures c.args.walk.now.ints

pub rule_step-number-code-requires : goal.rule_step-number-code-requires
rule_step-number-code-requires t c = bool_plain c.args.walk.now.set.now c.args.walk.now.work.now c.args.at c.args.walk.now.ints c.requires

pub rule_step-overflow_add-result : goal.rule_step-overflow_add-result
rule_step-overflow_add-result t c = let q = bool_inside c.args.walk.now.set.now c.args.walk.now.work.now c.args.at c.args.walk.now.ints c.requires in omega arith

pub rule_step-returns-then-code-lt12 : goal.rule_step-returns-then-code-lt12
rule_step-returns-then-code-lt12 t c = step_leaf c.args.walk.now.set.now c.args.walk.now.work.now c.args.at c.args.walk.now.ints _ c.number-code.ensures.0 c.if-code-lt12.true

pub rule_step-number-n-requires : goal.rule_step-number-n-requires
rule_step-number-n-requires t c = list_plain c.args.walk.now.set.now c.args.walk.now.work.now c.args.at c.args.walk.now.ints _ c.number-code.ensures.0 (λ l. omega (arith, l, c.if-code-lt12.false)) c.if-code-lt14.true c.requires

pub rule_step-returns-then-code-lt14 : goal.rule_step-returns-then-code-lt14
rule_step-returns-then-code-lt14 t c = step_list c.args.walk.now.set.now c.args.walk.now.work.now c.args.at c.args.walk.now.ints _ c.number-code.ensures.0 (λ l. omega (arith, l, c.if-code-lt12.false)) c.if-code-lt14.true _ c.number-n.ensures.0

pub rule_step-returns-then-code-eq14 : goal.rule_step-returns-then-code-eq14
rule_step-returns-then-code-eq14 t c = step_not c.args.walk.now.set.now c.args.walk.now.work.now c.args.at c.args.walk.now.ints _ c.number-code.ensures.0 c.if-code-eq14.true

pub rule_step-returns-then-code-lt18 : goal.rule_step-returns-then-code-lt18
rule_step-returns-then-code-lt18 t c = step_two c.args.walk.now.set.now c.args.walk.now.work.now c.args.at c.args.walk.now.ints _ c.number-code.ensures.0 (λ l. omega (arith, l, c.if-code-lt14.false)) c.if-code-eq14.false c.if-code-lt18.true

pub rule_step-comparison-t-requires : goal.rule_step-comparison-t-requires
rule_step-comparison-t-requires t c = let q = bool_inside c.args.walk.now.set.now c.args.walk.now.work.now c.args.at c.args.walk.now.ints c.requires in (omega (arith, c.decreases), (cmp_ready c.args.walk.now.set.now c.args.walk.now.work.now c.args.at c.args.walk.now.ints _ c.number-code.ensures.0 (λ l. omega (arith, l, c.if-code-lt18.false)) c.requires))

pub rule_step-returns : goal.rule_step-returns
rule_step-returns t c = step_cmp c.args.walk.now.set.now c.args.walk.now.work.now c.args.at c.args.walk.now.ints _ c.number-code.ensures.0 (λ l. omega (arith, l, c.if-code-lt18.false)) _ _ c.comparison-t.ensures

pub rules-rule_step-s-requires : goal.rules-rule_step-s-requires
rules-rule_step-s-requires t c = (omega (arith, c.decreases, c.loop-rest.invariant.1), (rule_first c.args.walk.now.set.now c.args.walk.now.work.now c.loop-rest.next c.loop-rest.rest c.args.walk.now.ints c.loop-rest-test.true c.loop-rest.invariant.0))

pub rules-overflow_add-rest : goal.rules-overflow_add-rest
rules-overflow_add-rest t c = let q = rules_room _ _ _ _ _ (rules_ready c.args.walk.now.set.now c.args.walk.now.work.now c.loop-rest.next c.loop-rest.rest c.args.walk.now.ints c.loop-rest-test.true _ _ _ c.rule_step-s.ensures c.loop-rest.invariant.0).0 in omega (arith, q)

pub rules-loop-rest-smaller : goal.rules-loop-rest-smaller
rules-loop-rest-smaller t c = let q = (rules_ready c.args.walk.now.set.now c.args.walk.now.work.now c.loop-rest.next c.loop-rest.rest c.args.walk.now.ints c.loop-rest-test.true _ _ _ c.rule_step-s.ensures c.loop-rest.invariant.0).1 in let p = bool_inside c.args.walk.now.set.now c.args.walk.now.work.now c.loop-rest.next c.args.walk.now.ints (rule_first c.args.walk.now.set.now c.args.walk.now.work.now c.loop-rest.next c.loop-rest.rest c.args.walk.now.ints c.loop-rest-test.true c.loop-rest.invariant.0) in omega (arith, q, p)

pub rules-loop-rest-preserved : goal.rules-loop-rest-preserved
rules-loop-rest-preserved t c = let q = rules_ready c.args.walk.now.set.now c.args.walk.now.work.now c.loop-rest.next c.loop-rest.rest c.args.walk.now.ints c.loop-rest-test.true _ _ _ c.rule_step-s.ensures c.loop-rest.invariant.0 in (q.0, omega (arith, q.1, c.loop-rest.invariant.1), λ y r x. c.loop-rest.invariant.2 y r (rules_rest c.args.walk.now.set.now c.args.walk.now.work.now c.loop-rest.next c.loop-rest.rest c.args.walk.now.ints c.loop-rest-test.true _ _ _ c.rule_step-s.ensures (hit c.loop-rest.refusal) _ y r c.first-refusal.ensures x))

pub rules-returns : goal.rules-returns
rules-returns t c = c.loop-rest.invariant.2 _ _ (rules_none c.args.walk.now.set.now c.args.walk.now.work.now c.loop-rest.next c.loop-rest.rest c.args.walk.now.ints (hit c.loop-rest.refusal) c.loop-rest-test.false (hit_most c.loop-rest.refusal))

pub terms_total-loop-init : goal.terms_total-loop-init
terms_total-loop-init t c = let e : c.args.terms - 0 ≡ c.args.terms = omega arith in rw e (c.requires, omega arith, omega arith, λ y t k x. x)

pub terms_total-overflow_add-next : goal.terms_total-overflow_add-next
terms_total-overflow_add-next t c = let q = term_inside c.args.walk.now.set.now c.args.walk.now.work.now c.loop.next (c.args.terms - c.loop.counter) c.args.walk.now.ints (omega (arith, c.loop-test.true)) c.loop.invariant.0 in omega (arith, q)

pub terms_total-int_total-t-requires : goal.terms_total-int_total-t-requires
terms_total-int_total-t-requires t c = let q = term_inside c.args.walk.now.set.now c.args.walk.now.work.now c.loop.next (c.args.terms - c.loop.counter) c.args.walk.now.ints (omega (arith, c.loop-test.true)) c.loop.invariant.0 in (omega (arith, c.decreases, c.loop.invariant.1, q), (term_ready c.args.walk.now.set.now c.args.walk.now.work.now c.loop.next (c.args.terms - c.loop.counter) c.args.walk.now.ints (omega (arith, c.loop-test.true)) c.loop.invariant.0))

pub terms_total-offset_bounds-walk-next : goal.terms_total-offset_bounds-walk-next
terms_total-offset_bounds-walk-next t c = let q = term_inside c.args.walk.now.set.now c.args.walk.now.work.now c.loop.next (c.args.terms - c.loop.counter) c.args.walk.now.ints (omega (arith, c.loop-test.true)) c.loop.invariant.0 in search rules

pub terms_total-bounds-walk-next : goal.terms_total-bounds-walk-next
terms_total-bounds-walk-next t c = let q = term_inside c.args.walk.now.set.now c.args.walk.now.work.now c.loop.next (c.args.terms - c.loop.counter) c.args.walk.now.ints (omega (arith, c.loop-test.true)) c.loop.invariant.0 in search rules

pub terms_total-add_term-total-requires : goal.terms_total-add_term-total-requires
terms_total-add_term-total-requires t c = ((rest_ready c.args.walk.now.set.now c.args.walk.now.work.now c.loop.next (c.args.terms - c.loop.counter) c.args.walk.now.ints (omega (arith, c.loop-test.true)) _ _ _ c.int_total-t.ensures c.loop.invariant.0).2, c.loop.invariant.2)

pub terms_total-loop-preserved : goal.terms_total-loop-preserved
terms_total-loop-preserved t c = let r = rest_ready c.args.walk.now.set.now c.args.walk.now.work.now c.loop.next (c.args.terms - c.loop.counter) c.args.walk.now.ints (omega (arith, c.loop-test.true)) _ _ _ c.int_total-t.ensures c.loop.invariant.0 in let f : SFits w32 (get_or c.args.walk.now.set.now c.loop.next (pos 0)) = sfits_of c.k-1.given in let s = rw (to_z-of_z f) at c.add_term-total.ensures in let e : c.args.terms - (c.loop.counter + 1) ≡ c.args.terms - c.loop.counter - 1 = omega arith in rw e (r.0, omega (arith, r.1, c.loop.invariant.1), joined_under _ _ _ s, λ y t k x. c.loop.invariant.3 y t k (terms_more c.args.walk.now.set.now c.args.walk.now.work.now c.loop.next (c.args.terms - c.loop.counter) c.args.walk.now.ints (omega (arith, c.loop-test.true)) _ _ _ c.int_total-t.ensures _ c.loop.total _ (hit c.loop.refusal) _ y t k refl s c.first-refusal.ensures x))

pub terms_total-returns : goal.terms_total-returns
terms_total-returns t c = c.loop.invariant.3 _ _ _ (terms_none c.args.walk.now.set.now c.args.walk.now.work.now c.loop.next (c.args.terms - c.loop.counter) c.args.walk.now.ints c.loop.total (hit c.loop.refusal) c.loop.invariant.2 (hit_most c.loop.refusal) (omega (arith, c.loop-test.false)))
