use mathlib.Core.Path.{refl, sym, ◌∙◌, ◌≡◌}
use Prim.Native.Nat.{◌+◌, ◌-◌}
use native.Mathlib.Omega.{arith}
use Rattle.fold.specs.Fold.{is_value}
use Rattle.folding.specs.Known.{known}
use Rattle.folding.proofs.IntLaws.{int_inside, int_first, int_second, const_folds, var_below, var_folds, empty_folds, single_inside, single_ready, single_folds, many_ready, many_folds, terms_none, term_inside, term_ready, rest_ready as terms-rest, terms_more}
use Rattle.folding.proofs.IfLaws.{condition_ready, then_ready, else_ready, if_folds}
use Rattle.folding.proofs.BoolLaws.{ready_inside, ready_first, ready_second, left_side, right_side, cmp_folds, not_ready, not_closes, not_folds, list_ready, list_closes, list_folds, left_ready, right_ready, code_high, binary_closes, binary_folds, members_none, first_ready, rest_ready, members_more, members_sum, binary_low, members_fit, members_start, members_end, kept_room}
use Rattle.folding.proofs.+constant_folding.Goals as goal

pub constant_folding_bool-number-w-requires : goal.constant_folding_bool-number-w-requires
constant_folding_bool-number-w-requires t c = ready_first _ _ _ _ _ c.requires

pub constant_folding_bool-fold_leaf-requires : goal.constant_folding_bool-fold_leaf-requires
constant_folding_bool-fold_leaf-requires t c = record { ready = c.requires; pos_value = (c.number-w.ensures.0, c.if-w-lt12.true) }

pub constant_folding_bool-shape_of-work-then-w-lt12 : goal.constant_folding_bool-shape_of-work-then-w-lt12
constant_folding_bool-shape_of-work-then-w-lt12 t c = c.fold_leaf.auto.work

pub constant_folding_bool-returns-then-w-lt12 : goal.constant_folding_bool-returns-then-w-lt12
constant_folding_bool-returns-then-w-lt12 t c = c.fold_leaf.ensures

pub constant_folding_bool-fold_comparison-requires : goal.constant_folding_bool-fold_comparison-requires
constant_folding_bool-fold_comparison-requires t c = (omega (arith, c.decreases), (c.requires, rw c.if-w-eq18.true at c.number-w.ensures.0))

pub constant_folding_bool-shape_of-work-then-w-eq18 : goal.constant_folding_bool-shape_of-work-then-w-eq18
constant_folding_bool-shape_of-work-then-w-eq18 t c = c.fold_comparison.auto.work

pub constant_folding_bool-returns-then-w-eq18 : goal.constant_folding_bool-returns-then-w-eq18
constant_folding_bool-returns-then-w-eq18 t c = c.fold_comparison.ensures

pub constant_folding_bool-overflow_add-at : goal.constant_folding_bool-overflow_add-at
constant_folding_bool-overflow_add-at t c = let q = (ready_inside _ _ _ _ _ c.requires) in omega (arith, c.well_formed.0.0)

pub constant_folding_bool-overflow_add-o : goal.constant_folding_bool-overflow_add-o
constant_folding_bool-overflow_add-o t c = let q = (ready_inside _ _ _ _ _ c.requires) in omega (arith, c.well_formed.1.1.1.0.0)

pub constant_folding_bool-constant_folding_bool-a-requires : goal.constant_folding_bool-constant_folding_bool-a-requires
constant_folding_bool-constant_folding_bool-a-requires t c = let q = (ready_inside _ _ _ _ _ c.requires) in (omega (arith, c.decreases), not_ready _ _ _ _ _ _ c.number-w.ensures.0 c.requires c.if-w-eq14.true)

pub constant_folding_bool-close_not-requires : goal.constant_folding_bool-close_not-requires
constant_folding_bool-close_not-requires t c = not_closes _ _ _ _ _ _ c.number-w.ensures.0 _ _ _ _ c.constant_folding_bool-a.ensures c.requires c.if-w-eq14.true c.constant_folding_bool-a.auto.work

pub constant_folding_bool-shape_of-work-then-w-eq14 : goal.constant_folding_bool-shape_of-work-then-w-eq14
constant_folding_bool-shape_of-work-then-w-eq14 t c = c.close_not.auto.work ∙ c.constant_folding_bool-a.auto.work

pub constant_folding_bool-returns-then-w-eq14 : goal.constant_folding_bool-returns-then-w-eq14
constant_folding_bool-returns-then-w-eq14 t c = not_folds _ _ _ _ _ _ c.number-w.ensures.0 _ _ _ _ c.constant_folding_bool-a.ensures _ _ _ _ c.requires c.if-w-eq14.true c.close_not.ensures.0 c.close_not.ensures.1 c.close_not.ensures.2

pub constant_folding_bool-overflow_add-at-then-w-lt14 : goal.constant_folding_bool-overflow_add-at-then-w-lt14
constant_folding_bool-overflow_add-at-then-w-lt14 t c = let q = (ready_inside _ _ _ _ _ c.requires) in omega (arith, c.well_formed.0.0)

pub constant_folding_bool-number-n-requires : goal.constant_folding_bool-number-n-requires
constant_folding_bool-number-n-requires t c = ready_second _ _ _ _ _ _ c.number-w.ensures.0 c.requires (λ l. absurd (omega (arith, l, c.if-w-lt14.true)))

pub constant_folding_bool-overflow_add-at-then-w-lt14-2 : goal.constant_folding_bool-overflow_add-at-then-w-lt14-2
constant_folding_bool-overflow_add-at-then-w-lt14-2 t c = let q = (ready_inside _ _ _ _ _ c.requires) in omega (arith, c.well_formed.0.0)

pub constant_folding_bool-overflow_add-o-then-w-lt14 : goal.constant_folding_bool-overflow_add-o-then-w-lt14
constant_folding_bool-overflow_add-o-then-w-lt14 t c = let q = (ready_inside _ _ _ _ _ c.requires) in omega (arith, c.well_formed.1.1.1.0.0)

pub constant_folding_bool-constant_folding_members-m-requires : goal.constant_folding_bool-constant_folding_members-m-requires
constant_folding_bool-constant_folding_members-m-requires t c = let q = (ready_inside _ _ _ _ _ c.requires) in (omega (arith, c.decreases), list_ready _ _ _ _ _ _ c.number-w.ensures.0 c.if-w-lt12.false c.if-w-lt14.true _ c.number-n.ensures.0 c.requires)

pub constant_folding_bool-close_list-requires : goal.constant_folding_bool-close_list-requires
constant_folding_bool-close_list-requires t c = list_closes _ _ _ _ _ _ c.number-w.ensures.0 c.if-w-lt12.false c.if-w-lt14.true _ c.number-n.ensures.0 _ _ _ _ _ c.constant_folding_members-m.ensures c.requires c.constant_folding_members-m.auto.work c.number-n.ensures.1

pub constant_folding_bool-shape_of-work-then-w-lt14 : goal.constant_folding_bool-shape_of-work-then-w-lt14
constant_folding_bool-shape_of-work-then-w-lt14 t c = c.close_list.auto.work ∙ c.constant_folding_members-m.auto.work

pub constant_folding_bool-returns-then-w-lt14 : goal.constant_folding_bool-returns-then-w-lt14
constant_folding_bool-returns-then-w-lt14 t c = list_folds _ _ _ _ _ _ c.number-w.ensures.0 c.if-w-lt12.false c.if-w-lt14.true _ c.number-n.ensures.0 _ _ _ _ _ c.constant_folding_members-m.ensures _ _ _ _ c.requires c.close_list.ensures.0 c.close_list.ensures.1 c.close_list.ensures.2

pub constant_folding_bool-overflow_add-at-2 : goal.constant_folding_bool-overflow_add-at-2
constant_folding_bool-overflow_add-at-2 t c = let q = (ready_inside _ _ _ _ _ c.requires) in omega (arith, c.well_formed.0.0)

pub constant_folding_bool-overflow_add-o-2 : goal.constant_folding_bool-overflow_add-o-2
constant_folding_bool-overflow_add-o-2 t c = let q = (ready_inside _ _ _ _ _ c.requires) in omega (arith, c.well_formed.1.1.1.0.0)

pub constant_folding_bool-fold_side-a-requires : goal.constant_folding_bool-fold_side-a-requires
constant_folding_bool-fold_side-a-requires t c = let q = (ready_inside _ _ _ _ _ c.requires) in (omega (arith, c.decreases), left_ready _ _ _ _ _ _ c.number-w.ensures.0 (binary_low _ c.if-w-eq14.false c.if-w-lt14.false) c.if-w-eq18.false c.requires)

pub constant_folding_bool-fold_side-b-requires : goal.constant_folding_bool-fold_side-b-requires
constant_folding_bool-fold_side-b-requires t c = let q = (ready_inside _ _ _ _ _ c.requires) in let s = right_ready _ _ _ _ _ _ c.number-w.ensures.0 (binary_low _ c.if-w-eq14.false c.if-w-lt14.false) c.if-w-eq18.false _ _ _ _ c.fold_side-a.ensures c.requires c.fold_side-a.auto.work in (omega (arith, c.decreases, s.1), s.0)

pub constant_folding_bool-op_at-requires : goal.constant_folding_bool-op_at-requires
constant_folding_bool-op_at-requires t c = let q = binary_low _ c.if-w-eq14.false c.if-w-lt14.false in (q, code_high _ _ _ _ _ _ c.number-w.ensures.0 q c.if-w-eq18.false c.requires)

pub constant_folding_bool-close_binary-requires : goal.constant_folding_bool-close_binary-requires
constant_folding_bool-close_binary-requires t c = binary_closes _ _ _ _ _ _ c.number-w.ensures.0 (binary_low _ c.if-w-eq14.false c.if-w-lt14.false) c.if-w-eq18.false _ _ _ _ c.fold_side-a.ensures _ _ _ _ c.fold_side-b.ensures c.requires c.fold_side-a.auto.work c.fold_side-b.auto.work

pub constant_folding_bool-shape_of-work : goal.constant_folding_bool-shape_of-work
constant_folding_bool-shape_of-work t c = c.close_binary.auto.work ∙ c.fold_side-b.auto.work ∙ c.fold_side-a.auto.work

pub constant_folding_bool-returns : goal.constant_folding_bool-returns
constant_folding_bool-returns t c = binary_folds _ _ _ _ _ _ c.number-w.ensures.0 (binary_low _ c.if-w-eq14.false c.if-w-lt14.false) c.if-w-eq18.false _ _ _ _ c.fold_side-a.ensures _ _ _ _ c.fold_side-b.ensures _ _ _ _ _ c.requires c.fold_side-a.auto.work c.op_at.ensures c.close_binary.ensures.0 c.close_binary.ensures.1 c.close_binary.ensures.2

pub constant_folding_int-number-w-requires : goal.constant_folding_int-number-w-requires
constant_folding_int-number-w-requires t c = int_first _ _ _ _ _ c.requires

pub constant_folding_int-put-requires : goal.constant_folding_int-put-requires
constant_folding_int-put-requires t c = let q = int_inside _ _ _ _ _ c.requires in (omega arith, omega arith)

pub constant_folding_int-overflow_add-at : goal.constant_folding_int-overflow_add-at
constant_folding_int-overflow_add-at t c = let q = int_inside _ _ _ _ _ c.requires in omega (arith, c.well_formed.0.0)

pub constant_folding_int-overflow_add-o : goal.constant_folding_int-overflow_add-o
constant_folding_int-overflow_add-o t c = let q = int_inside _ _ _ _ _ c.requires in omega (arith, c.well_formed.1.1.1.0.0)

pub constant_folding_int-copy_word-requires : goal.constant_folding_int-copy_word-requires
constant_folding_int-copy_word-requires t c = let q = int_inside _ _ _ _ _ c.requires in (omega arith, omega (arith, c.put.auto.work))

pub constant_folding_int-overflow_add-result : goal.constant_folding_int-overflow_add-result
constant_folding_int-overflow_add-result t c = let q = int_inside _ _ _ _ _ c.requires in omega (arith, c.well_formed.0.0)

pub constant_folding_int-overflow_add-result-then-w-eq20 : goal.constant_folding_int-overflow_add-result-then-w-eq20
constant_folding_int-overflow_add-result-then-w-eq20 t c = let q = int_inside _ _ _ _ _ c.requires in omega (arith, c.well_formed.1.1.1.0.0)

pub constant_folding_int-shape_of-work-then-w-eq20 : goal.constant_folding_int-shape_of-work-then-w-eq20
constant_folding_int-shape_of-work-then-w-eq20 t c = c.copy_word.auto.work ∙ c.put.auto.work

pub constant_folding_int-returns-then-w-eq20 : goal.constant_folding_int-returns-then-w-eq20
constant_folding_int-returns-then-w-eq20 t c = const_folds _ _ _ _ _ _ c.number-w.ensures.0 _ c.if-w-eq20.true (int_inside _ _ _ _ _ c.requires).1 (rw c.put.ensures at c.copy_word.ensures)

pub constant_folding_int-overflow_add-at-then-w-eq21 : goal.constant_folding_int-overflow_add-at-then-w-eq21
constant_folding_int-overflow_add-at-then-w-eq21 t c = let q = int_inside _ _ _ _ _ c.requires in omega (arith, c.well_formed.0.0)

pub constant_folding_int-number-v-requires : goal.constant_folding_int-number-v-requires
constant_folding_int-number-v-requires t c = int_second _ _ _ _ _ _ c.number-w.ensures.0 c.requires c.if-w-eq20.false (λ h. absurd (omega (arith, h, c.if-w-eq21.true)))

pub constant_folding_int-put_int_var-end-requires : goal.constant_folding_int-put_int_var-end-requires
constant_folding_int-put_int_var-end-requires t c = record { domain_below = var_below _ _ _ _ _ _ c.number-w.ensures.0 _ c.number-v.ensures.0 c.requires c.if-w-eq21.true; o_in_bounds = ((int_inside _ _ _ _ _ c.requires).1, c.number-v.ensures.1) }

pub constant_folding_int-overflow_add-result-then-w-eq21 : goal.constant_folding_int-overflow_add-result-then-w-eq21
constant_folding_int-overflow_add-result-then-w-eq21 t c = let q = int_inside _ _ _ _ _ c.requires in omega (arith, c.well_formed.0.0)

pub constant_folding_int-shape_of-work-then-w-eq21 : goal.constant_folding_int-shape_of-work-then-w-eq21
constant_folding_int-shape_of-work-then-w-eq21 t c = c.put_int_var-end.auto.work

pub constant_folding_int-returns-then-w-eq21 : goal.constant_folding_int-returns-then-w-eq21
constant_folding_int-returns-then-w-eq21 t c = var_folds _ _ _ _ _ _ c.number-w.ensures.0 _ c.number-v.ensures.0 _ _ c.if-w-eq21.true c.put_int_var-end.ensures

pub constant_folding_int-fold_if-requires : goal.constant_folding_int-fold_if-requires
constant_folding_int-fold_if-requires t c = (omega (arith, c.decreases), (c.requires, rw c.if-w-eq23.true at c.number-w.ensures.0))

pub constant_folding_int-shape_of-work-then-w-eq23 : goal.constant_folding_int-shape_of-work-then-w-eq23
constant_folding_int-shape_of-work-then-w-eq23 t c = c.fold_if.auto.work

pub constant_folding_int-returns-then-w-eq23 : goal.constant_folding_int-returns-then-w-eq23
constant_folding_int-returns-then-w-eq23 t c = c.fold_if.ensures

pub constant_folding_int-overflow_add-at-2 : goal.constant_folding_int-overflow_add-at-2
constant_folding_int-overflow_add-at-2 t c = let q = int_inside _ _ _ _ _ c.requires in omega (arith, c.well_formed.0.0)

pub constant_folding_int-number-n-requires : goal.constant_folding_int-number-n-requires
constant_folding_int-number-n-requires t c = int_second _ _ _ _ _ _ c.number-w.ensures.0 c.requires c.if-w-eq20.false c.if-w-eq23.false

pub constant_folding_int-put_two-end-requires : goal.constant_folding_int-put_two-end-requires
constant_folding_int-put_two-end-requires t c = ((int_inside _ _ _ _ _ c.requires).1, omega arith, omega arith)

pub constant_folding_int-overflow_add-result-then-n-eq0 : goal.constant_folding_int-overflow_add-result-then-n-eq0
constant_folding_int-overflow_add-result-then-n-eq0 t c = let q = int_inside _ _ _ _ _ c.requires in omega (arith, c.well_formed.0.0)

pub constant_folding_int-shape_of-work-then-n-eq0 : goal.constant_folding_int-shape_of-work-then-n-eq0
constant_folding_int-shape_of-work-then-n-eq0 t c = c.put_two-end.auto.work

pub constant_folding_int-returns-then-n-eq0 : goal.constant_folding_int-returns-then-n-eq0
constant_folding_int-returns-then-n-eq0 t c = empty_folds _ _ _ _ _ _ c.number-w.ensures.0 _ c.number-n.ensures.0 c.if-w-eq20.false c.if-w-eq21.false c.if-w-eq23.false _ _ c.if-n-eq0.true c.put_two-end.ensures

pub constant_folding_int-overflow_add-at-3 : goal.constant_folding_int-overflow_add-at-3
constant_folding_int-overflow_add-at-3 t c = let q = int_inside _ _ _ _ _ c.requires in omega (arith, c.well_formed.0.0)

pub constant_folding_int-is_single-requires : goal.constant_folding_int-is_single-requires
constant_folding_int-is_single-requires t c = λ h. single_inside _ _ _ _ _ _ c.number-w.ensures.0 _ c.number-n.ensures.0 c.if-w-eq20.false c.if-w-eq21.false c.if-w-eq23.false c.requires h

pub constant_folding_int-overflow_add-at-then-is_single : goal.constant_folding_int-overflow_add-at-then-is_single
constant_folding_int-overflow_add-at-then-is_single t c = let q = int_inside _ _ _ _ _ c.requires in omega (arith, c.well_formed.0.0)

pub constant_folding_int-constant_folding_int-requires : goal.constant_folding_int-constant_folding_int-requires
constant_folding_int-constant_folding_int-requires t c = let q = int_inside _ _ _ _ _ c.requires in (omega (arith, c.decreases), single_ready _ _ _ _ _ _ c.number-w.ensures.0 _ c.number-n.ensures.0 c.if-w-eq20.false c.if-w-eq21.false c.if-w-eq23.false c.requires (sym c.is_single.ensures ∙ c.if-is_single.true))

pub constant_folding_int-shape_of-work-then-is_single : goal.constant_folding_int-shape_of-work-then-is_single
constant_folding_int-shape_of-work-then-is_single t c = c.constant_folding_int.auto.work

pub constant_folding_int-returns-then-is_single : goal.constant_folding_int-returns-then-is_single
constant_folding_int-returns-then-is_single t c = single_folds _ _ _ _ _ _ c.number-w.ensures.0 _ c.number-n.ensures.0 c.if-w-eq20.false c.if-w-eq21.false c.if-w-eq23.false _ _ _ (sym c.is_single.ensures ∙ c.if-is_single.true) c.constant_folding_int.ensures

pub constant_folding_int-put_two-m-requires : goal.constant_folding_int-put_two-m-requires
constant_folding_int-put_two-m-requires t c = ((int_inside _ _ _ _ _ c.requires).1, omega arith, c.number-n.ensures.1)

pub constant_folding_int-overflow_add-at-4 : goal.constant_folding_int-overflow_add-at-4
constant_folding_int-overflow_add-at-4 t c = let q = int_inside _ _ _ _ _ c.requires in omega (arith, c.well_formed.0.0)

pub constant_folding_int-constant_folding_terms-requires : goal.constant_folding_int-constant_folding_terms-requires
constant_folding_int-constant_folding_terms-requires t c = let q = int_inside _ _ _ _ _ c.requires in (omega (arith, c.decreases), many_ready _ _ _ _ _ _ c.number-w.ensures.0 _ c.number-n.ensures.0 c.if-w-eq20.false c.if-w-eq21.false c.if-w-eq23.false _ _ c.requires c.put_two-m.auto.work c.put_two-m.ensures.pushed)

pub constant_folding_int-shape_of-work : goal.constant_folding_int-shape_of-work
constant_folding_int-shape_of-work t c = c.constant_folding_terms.auto.work ∙ c.put_two-m.auto.work

pub constant_folding_int-returns : goal.constant_folding_int-returns
constant_folding_int-returns t c = many_folds _ _ _ _ _ _ c.number-w.ensures.0 _ c.number-n.ensures.0 c.if-w-eq20.false c.if-w-eq21.false c.if-w-eq23.false _ _ _ _ _ c.requires c.if-n-eq0.false (sym c.is_single.ensures ∙ c.if-is_single.false) c.put_two-m.ensures c.constant_folding_terms.ensures

pub constant_folding_members-loop-init : goal.constant_folding_members-loop-init
constant_folding_members-loop-init t c = let e : c.args.count - 0 ≡ c.args.count = omega arith in rw e (omega arith, refl, omega arith, c.requires, λ out' next' end' hit' size p. members_start _ _ _ _ _ _ _ _ _ _ _ _ p)

pub constant_folding_members-constant_folding_bool-f-requires : goal.constant_folding_members-constant_folding_bool-f-requires
constant_folding_members-constant_folding_bool-f-requires t c = (omega (arith, c.decreases, c.loop.invariant.0), first_ready _ _ _ _ _ _ (omega arith) c.loop.invariant.3)

pub constant_folding_members-kept_count-kept-requires : goal.constant_folding_members-kept_count-kept-requires
constant_folding_members-kept_count-kept-requires t c = let q = members_fit _ _ _ _ _ _ c.requires in omega (arith, c.loop.invariant.2, c.well_formed.1.1.1.1.0.0)

pub constant_folding_members-loop-preserved : goal.constant_folding_members-loop-preserved
constant_folding_members-loop-preserved t c = let e : c.args.count - (c.loop.counter + 1) ≡ c.args.count - c.loop.counter - 1 = omega arith in rw e (let s = rest_ready _ _ _ _ _ _ (omega arith) _ _ _ _ c.constant_folding_bool-f.ensures _ c.kept_end-end.ensures c.loop.invariant.3 c.constant_folding_bool-f.auto.work in (omega (arith, s.1, c.loop.invariant.0), c.constant_folding_bool-f.auto.work ∙ c.loop.invariant.1, kept_room (known c.constant_folding_bool-f.result.state) _ _ _ _ c.kept_count-kept.ensures (omega arith) c.loop.invariant.2, s.0, λ out' next' end' hit' size p. members_sum _ _ _ _ _ _ _ _ _ _ (is_value c.args.b (known c.constant_folding_bool-f.result.state)) c.loop.hit hit' (known c.constant_folding_bool-f.result.state) c.loop.kept size _ _ c.hits-hit.ensures c.kept_count-kept.ensures (c.loop.invariant.4 out' next' end' _ _ (members_more _ _ _ _ _ _ (omega arith) _ _ _ _ c.constant_folding_bool-f.ensures _ c.kept_end-end.ensures _ _ _ _ _ _ p c.loop.invariant.3))))

pub constant_folding_members-shape_of-work : goal.constant_folding_members-shape_of-work
constant_folding_members-shape_of-work t c = c.loop.invariant.1

pub constant_folding_members-returns : goal.constant_folding_members-returns
constant_folding_members-returns t c = members_end _ _ _ _ _ _ _ _ _ _ _ _ (c.loop.invariant.4 _ _ _ _ _ (members_none _ _ _ _ _ _ _ (omega arith)))

pub constant_folding_terms-loop-init : goal.constant_folding_terms-loop-init
constant_folding_terms-loop-init t c = let e : c.args.count - 0 ≡ c.args.count = omega arith in rw e (omega arith, refl, c.requires, λ out' next' end' p. p)

pub constant_folding_terms-copy_word-requires : goal.constant_folding_terms-copy_word-requires
constant_folding_terms-copy_word-requires t c = let q = (term_inside _ _ _ _ _ _ (omega arith) c.loop.invariant.2) in (omega arith, omega arith)

pub constant_folding_terms-overflow_add-next : goal.constant_folding_terms-overflow_add-next
constant_folding_terms-overflow_add-next t c = let q = (term_inside _ _ _ _ _ _ (omega arith) c.loop.invariant.2) in omega (arith, c.well_formed.0.0)

pub constant_folding_terms-overflow_add-end : goal.constant_folding_terms-overflow_add-end
constant_folding_terms-overflow_add-end t c = let q = (term_inside _ _ _ _ _ _ (omega arith) c.loop.invariant.2) in omega (arith, c.well_formed.1.1.1.1.0.0, c.loop.invariant.1)

pub constant_folding_terms-constant_folding_int-a-requires : goal.constant_folding_terms-constant_folding_int-a-requires
constant_folding_terms-constant_folding_int-a-requires t c = let q = (term_inside _ _ _ _ _ _ (omega arith) c.loop.invariant.2) in (omega (arith, c.decreases, c.loop.invariant.0), term_ready _ _ _ _ _ _ (omega arith) _ _ c.loop.invariant.2 c.copy_word.ensures)

pub constant_folding_terms-loop-preserved : goal.constant_folding_terms-loop-preserved
constant_folding_terms-loop-preserved t c = let e : c.args.count - (c.loop.counter + 1) ≡ c.args.count - c.loop.counter - 1 = omega arith in rw e (let s = terms-rest _ _ _ _ _ _ (omega arith) _ c.copy_word.ensures _ _ _ c.constant_folding_int-a.ensures c.loop.invariant.2 c.constant_folding_int-a.auto.work in (omega (arith, s.1, c.loop.invariant.0), c.constant_folding_int-a.auto.work ∙ c.copy_word.auto.work ∙ c.loop.invariant.1, s.0, λ out' next' end' p. c.loop.invariant.3 out' next' end' (terms_more _ _ _ _ _ _ (omega arith) _ c.copy_word.ensures _ _ _ c.constant_folding_int-a.ensures _ _ _ c.loop.invariant.2 p)))

pub constant_folding_terms-shape_of-work : goal.constant_folding_terms-shape_of-work
constant_folding_terms-shape_of-work t c = c.loop.invariant.1

pub constant_folding_terms-returns : goal.constant_folding_terms-returns
constant_folding_terms-returns t c = c.loop.invariant.3 _ _ _ (terms_none _ _ _ _ _ _ (omega arith))

pub fold_comparison-overflow_add-at : goal.fold_comparison-overflow_add-at
fold_comparison-overflow_add-at t c = let q = (ready_inside _ _ _ _ _ c.requires.ready) in omega (arith, c.well_formed.0.0)

pub fold_comparison-number-v-requires : goal.fold_comparison-number-v-requires
fold_comparison-number-v-requires t c = ready_second _ _ _ _ _ _ c.requires.pos_value c.requires.ready (λ l. refl)

pub fold_comparison-put_two-m-requires : goal.fold_comparison-put_two-m-requires
fold_comparison-put_two-m-requires t c = ((ready_inside _ _ _ _ _ c.requires.ready).1, omega arith, c.number-v.ensures.1)

pub fold_comparison-overflow_add-at-2 : goal.fold_comparison-overflow_add-at-2
fold_comparison-overflow_add-at-2 t c = let q = (ready_inside _ _ _ _ _ c.requires.ready) in omega (arith, c.well_formed.0.0)

pub fold_comparison-constant_folding_int-a-requires : goal.fold_comparison-constant_folding_int-a-requires
fold_comparison-constant_folding_int-a-requires t c = let q = ready_inside _ _ _ _ _ c.requires.ready in (omega (arith, c.decreases), left_side _ _ _ _ _ _ c.requires.pos_value refl _ _ _ c.requires.ready c.put_two-m.auto.work c.put_two-m.ensures)

pub fold_comparison-constant_folding_int-b-requires : goal.fold_comparison-constant_folding_int-b-requires
fold_comparison-constant_folding_int-b-requires t c = let s = right_side _ _ _ _ _ _ c.requires.pos_value refl _ c.number-v.ensures.0 _ _ c.put_two-m.ensures _ _ _ c.constant_folding_int-a.ensures c.requires.ready c.put_two-m.auto.work c.constant_folding_int-a.auto.work in let q = ready_inside _ _ _ _ _ c.requires.ready in (omega (arith, c.decreases, s.1), s.0)

pub fold_comparison-shape_of-work : goal.fold_comparison-shape_of-work
fold_comparison-shape_of-work t c = c.constant_folding_int-b.auto.work ∙ c.constant_folding_int-a.auto.work ∙ c.put_two-m.auto.work

pub fold_comparison-returns : goal.fold_comparison-returns
fold_comparison-returns t c = cmp_folds _ _ _ _ _ _ c.requires.pos_value refl _ c.number-v.ensures.0 _ _ c.put_two-m.ensures _ _ _ c.constant_folding_int-a.ensures _ _ _ c.requires.ready c.put_two-m.auto.work c.constant_folding_int-a.auto.work c.constant_folding_int-b.ensures

pub fold_if-put-requires : goal.fold_if-put-requires
fold_if-put-requires t c = let q = int_inside _ _ _ _ _ c.requires.ready_int in (omega arith, omega arith)

pub fold_if-overflow_add-at : goal.fold_if-overflow_add-at
fold_if-overflow_add-at t c = let q = int_inside _ _ _ _ _ c.requires.ready_int in omega (arith, c.well_formed.0.0)

pub fold_if-overflow_add-o : goal.fold_if-overflow_add-o
fold_if-overflow_add-o t c = let q = int_inside _ _ _ _ _ c.requires.ready_int in omega (arith, c.well_formed.1.1.1.0.0)

pub fold_if-constant_folding_bool-c-requires : goal.fold_if-constant_folding_bool-c-requires
fold_if-constant_folding_bool-c-requires t c = let q = int_inside _ _ _ _ _ c.requires.ready_int in (omega (arith, c.decreases), condition_ready _ _ _ _ _ c.requires.pos_value _ c.put.ensures c.requires.ready_int)

pub fold_if-constant_folding_int-t-requires : goal.fold_if-constant_folding_int-t-requires
fold_if-constant_folding_int-t-requires t c = let s = then_ready _ _ _ _ _ c.requires.pos_value _ c.put.ensures _ _ _ _ c.constant_folding_bool-c.ensures c.constant_folding_bool-c.auto.work _ c.kept_end-p.ensures c.requires.ready_int in let q = int_inside _ _ _ _ _ c.requires.ready_int in (omega (arith, c.decreases, s.1), s.0)

pub fold_if-constant_folding_int-e-requires : goal.fold_if-constant_folding_int-e-requires
fold_if-constant_folding_int-e-requires t c = let s = else_ready _ _ _ _ _ c.requires.pos_value _ c.put.ensures _ _ _ _ c.constant_folding_bool-c.ensures c.constant_folding_bool-c.auto.work _ c.kept_end-p.ensures _ _ _ c.constant_folding_int-t.ensures c.constant_folding_int-t.auto.work _ c.at_state-q.ensures c.requires.ready_int in let q = int_inside _ _ _ _ _ c.requires.ready_int in (omega (arith, c.decreases, s.1), s.0)

pub fold_if-shape_of-work : goal.fold_if-shape_of-work
fold_if-shape_of-work t c = c.constant_folding_int-e.auto.work ∙ c.constant_folding_int-t.auto.work ∙ c.constant_folding_bool-c.auto.work ∙ c.put.auto.work

pub fold_if-returns : goal.fold_if-returns
fold_if-returns t c = if_folds _ _ _ _ _ c.requires.pos_value _ c.put.ensures _ _ _ _ c.constant_folding_bool-c.ensures c.constant_folding_bool-c.auto.work _ c.kept_end-p.ensures _ _ _ c.constant_folding_int-t.ensures c.constant_folding_int-t.auto.work _ c.at_state-q.ensures _ _ _ c.constant_folding_int-e.ensures _ c.at_state-end.ensures c.requires.ready_int

pub fold_side-number-w-requires : goal.fold_side-number-w-requires
fold_side-number-w-requires t c = ready_first _ _ _ _ _ c.requires

pub fold_side-fold_leaf-requires : goal.fold_side-fold_leaf-requires
fold_side-fold_leaf-requires t c = record { ready = c.requires; pos_value = (c.number-w.ensures.0, c.if-w-lt12.true) }

pub fold_side-shape_of-work-then-w-lt12 : goal.fold_side-shape_of-work-then-w-lt12
fold_side-shape_of-work-then-w-lt12 t c = c.fold_leaf.auto.work

pub fold_side-returns-then-w-lt12 : goal.fold_side-returns-then-w-lt12
fold_side-returns-then-w-lt12 t c = c.fold_leaf.ensures

pub fold_side-constant_folding_bool-requires : goal.fold_side-constant_folding_bool-requires
fold_side-constant_folding_bool-requires t c = (omega (arith, c.decreases), c.requires)

pub fold_side-shape_of-work : goal.fold_side-shape_of-work
fold_side-shape_of-work t c = c.constant_folding_bool.auto.work

pub fold_side-returns : goal.fold_side-returns
fold_side-returns t c = c.constant_folding_bool.ensures
