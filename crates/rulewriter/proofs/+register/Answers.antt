use Prim.Native.Nat.{◌+◌, ◌-◌}
use mathlib.Core.Path.{◌≡◌, refl, sym, ◌∙◌}
use mathlib.Core.List.{[]}
use native.Mathlib.Omega.{arith}
use Rattle.laws.specs.Writes.{wrote_length}
use Rattle.scan.specs.IfLaws.{seen_at, more_ints_low, more_bools_low}
use Rattle.output.proofs.Laws.{open_next}
use Rattle.rulewriter.proofs.Steps.{is_here, not_here, okay, placed_at, placed_with, placed_skipped, fit_left, fit_right, fit_not, fit_join, fit_cross, sofar_none, sofar_more, sofar_head}
use Rattle.rulewriter.proofs.Registered.{puts_none, puts_both, puts_length, reg_none, reg_var, reg_cmp, reg_not, reg_join, reg_cross, reg_split, cross_adds, lines_low, regs_none, regs_more, lines_more, second_placed, second_fit, second_adds, int_adds_none, int_adds_leaf, fit_sum, int_adds_sum, fit_if, int_adds_if, parts, if_passed, if_adds, made_open, made_variable, made_named, not_constant, is_constant, named_block, open_block, terms_low, terms_none, term_fit, terms_fit, terms_more, terms_added, zero_bump, next_lines, last_lines, within_past, condition_skips}
use Rattle.rulewriter.proofs.+register.Goals as goal

pub make_if-overflow_add-at : goal.make_if-overflow_add-at
make_if-overflow_add-at t c = omega (arith, c.requires.placed.0.inside)

pub make_if-seen-requires : goal.make_if-seen-requires
make_if-seen-requires t c = c.requires.placed.0.inside

pub make_if-if_number-v-requires : goal.make_if-if_number-v-requires
make_if-if_number-v-requires t c = (c.requires.placed.0.inside, omega arith)

pub make_if-make_open-requires : goal.make_if-make_open-requires
make_if-make_open-requires t c =
    let s = c.requires.placed.3 in
    let h = parts c.args.work.now _ _ _ _ c.args.t s.first c.requires.placed.2 in
    let j = within_past c.args.work.now c.requires.placed.0.size _ _ c.within-c.ensures in
    (omega (arith, c.decreases), ((record { size = c.requires.placed.0.size; inside = omega (arith, c.within-c.ensures); low_base = c.requires.placed.0.low_base; low = rw c.more_ints-k.ensures (more_ints_low c.args.work.now 1 c.args.n c.requires.placed.0.low) }, c.requires.placed.1, rw j h.plain, rw j h.negated), (s.placed, h.first, h.second, c.if_number-v.ensures.1, c.requires.left_bound)))

pub make_if-shape_of-out-then-seen-ne1 : goal.make_if-shape_of-out-then-seen-ne1
make_if-shape_of-out-then-seen-ne1 t c = puts_length c.make_open.ensures

pub make_if-returns-then-seen-ne1 : goal.make_if-returns-then-seen-ne1
make_if-returns-then-seen-ne1 t c = made_open c.args.work.now _ _ _ _ _ _ _ (within_past c.args.work.now c.requires.placed.0.size _ _ c.within-c.ensures) _ _ _ _ _ _ (not_constant (seen_at c.args.work.now c.args.at) (λ q. c.if-seen-ne1.true (c.seen.ensures ∙ q))) c.if_number-v.ensures.0 c.more_ints-k.ensures c.make_open.ensures

pub make_if-returns-then-word-eq11 : goal.make_if-returns-then-word-eq11
make_if-returns-then-word-eq11 t c = made_variable c.args.work.now _ _ _ _ _ _ _ (within_past c.args.work.now c.requires.placed.0.size _ _ c.within-c.ensures) _ _ _ _ (is_constant (seen_at c.args.work.now c.args.at) (sym c.seen.ensures ∙ c.if-seen-ne1.false)) _ c.word.ensures c.if-word-eq11.true (puts_none _ c.requires.placed.1 c.nothing.ensures)

pub make_if-make_named-requires : goal.make_if-make_named-requires
make_if-make_named-requires t c =
    let s = c.requires.placed.3 in
    let h = parts c.args.work.now _ _ _ _ c.args.t s.first c.requires.placed.2 in
    let j = within_past c.args.work.now c.requires.placed.0.size _ _ c.within-c.ensures in
    (omega (arith, c.decreases), ((record { size = c.requires.placed.0.size; inside = omega (arith, c.within-c.ensures); low_base = c.requires.placed.0.low_base; low = c.requires.placed.0.low }, c.requires.placed.1, rw j h.plain, rw j h.negated), c.requires.left_bound))

pub make_if-shape_of-out : goal.make_if-shape_of-out
make_if-shape_of-out t c = puts_length c.make_named.ensures

pub make_if-returns : goal.make_if-returns
make_if-returns t c = made_named c.args.work.now _ _ _ _ _ _ _ (within_past c.args.work.now c.requires.placed.0.size _ _ c.within-c.ensures) _ _ _ _ (is_constant (seen_at c.args.work.now c.args.at) (sym c.seen.ensures ∙ c.if-seen-ne1.false)) _ c.word.ensures c.if-word-eq11.false c.make_named.ensures

pub make_named-register-a-requires : goal.make_named-register-a-requires
make_named-register-a-requires t c = (omega (arith, c.decreases), ((placed_with _ c.requires.placed.0 (rw c.more_bools-k.ensures (more_bools_low 1 c.args.n c.requires.placed.0.low)), c.requires.placed.1, c.requires.placed.3), omega (arith, c.requires.left_bound)))

pub make_named-survey-x-requires : goal.make_named-survey-x-requires
make_named-survey-x-requires t c = (c.requires.placed.0.size, (c.requires.placed.0.inside, (c.requires.placed.0.low_base, rw c.more_bools-k.ensures (more_bools_low 1 c.args.n c.requires.placed.0.low))))

pub make_named-register-b-requires : goal.make_named-register-b-requires
make_named-register-b-requires t c = (omega (arith, c.decreases), ((placed_with _ c.requires.placed.0 (rw c.counters.ensures c.survey-x.ensures.found.low), open_next c.requires.placed.1 c.register-a.ensures.wrote, c.requires.placed.2), omega (arith, c.requires.left_bound)))

pub make_named-put_condition-c-requires : goal.make_named-put_condition-c-requires
make_named-put_condition-c-requires t c = record { placed = (placed_with _ c.requires.placed.0 (rw c.more_bools-k.ensures (more_bools_low 1 c.args.n c.requires.placed.0.low)), open_next (open_next c.requires.placed.1 c.register-a.ensures.wrote) c.register-b.ensures.wrote, c.requires.placed.2, c.requires.placed.3); v_le_limit = (c.requires.placed.0.low.0, c.requires.left_bound) }

pub make_named-shape_of-out : goal.make_named-shape_of-out
make_named-shape_of-out t c = puts_length c.put_condition-c.ensures ∙ puts_length c.register-b.ensures ∙ puts_length c.register-a.ensures

pub make_named-returns : goal.make_named-returns
make_named-returns t c = named_block _ _ c.args.work.now c.args.n _ _ _ _ _ _ _ c.more_bools-k.ensures (c.counters.ensures ∙ c.survey-x.ensures.found.count []) c.requires.placed.1 c.register-a.ensures c.register-b.ensures c.both.ensures c.put_condition-c.ensures c.both-2.ensures

pub make_open-register-a-requires : goal.make_open-register-a-requires
make_open-register-a-requires t c = (omega (arith, c.decreases), ((c.requires.placed.0, c.requires.placed.1, c.requires.placed.2), omega (arith, c.requires.placed_2.4)))

pub make_open-survey-x-requires : goal.make_open-survey-x-requires
make_open-survey-x-requires t c = (c.requires.placed.0.size, (c.requires.placed.0.inside, (c.requires.placed.0.low_base, c.requires.placed.0.low)))

pub make_open-register-b-requires : goal.make_open-register-b-requires
make_open-register-b-requires t c = (omega (arith, c.decreases), ((placed_with _ c.requires.placed.0 (rw c.counters.ensures c.survey-x.ensures.found.low), open_next c.requires.placed.1 c.register-a.ensures.wrote, c.requires.placed.3), omega (arith, c.requires.placed_2.4)))

pub make_open-put_open-c-requires : goal.make_open-put_open-c-requires
make_open-put_open-c-requires t c = record { placed = (c.requires.placed.0, open_next (open_next c.requires.placed.1 c.register-a.ensures.wrote) c.register-b.ensures.wrote, c.requires.placed.2, c.requires.placed.3); placed_2 = c.requires.placed_2 }

pub make_open-shape_of-out : goal.make_open-shape_of-out
make_open-shape_of-out t c = puts_length c.put_open-c.ensures ∙ puts_length c.register-b.ensures ∙ puts_length c.register-a.ensures

pub make_open-returns : goal.make_open-returns
make_open-returns t c = open_block _ _ _ _ _ c.args.work.now _ _ _ _ _ _ _ (c.counters.ensures ∙ c.survey-x.ensures.found.count []) c.requires.placed.1 c.register-a.ensures c.register-b.ensures c.both.ensures c.put_open-c.ensures c.both-2.ensures

pub register-returns-then-left-eq0 : goal.register-returns-then-left-eq0
register-returns-then-left-eq0 t c = reg_none c.args.work.now _ _ _ _ _ _ _ c.if-left-eq0.true (puts_none _ c.requires.placed.1 c.nothing.ensures)

pub register-node_at-requires : goal.register-node_at-requires
register-node_at-requires t c = (c.requires.placed.0.size, c.requires.placed.0.inside)

pub register-register_sides-requires : goal.register-register_sides-requires
register-register_sides-requires t c =
    let e = sym c.in-Cmp.is ∙ c.node_at.ensures in
    let o = okay c.args.g _ c.requires.placed.0 e in
    (omega (arith, c.decreases, c.if-left-eq0.false), ((placed_at _ c.requires.placed.0 o.1, c.requires.placed.1, fit_left c.args.work.now _ _ _ _ _ _ c.if-left-eq0.false refl _ c.inner.ensures _ _ e c.requires.placed.2, fit_right c.args.work.now _ _ _ _ _ _ c.if-left-eq0.false refl _ c.inner.ensures _ _ e c.requires.placed.2), omega (arith, c.requires.left_bound)))

pub register-register-requires : goal.register-register-requires
register-register-requires t c =
    let e = sym c.in-Not.is ∙ c.node_at.ensures in
    let o = okay c.args.g _ c.requires.placed.0 e in
    (omega (arith, c.decreases, c.if-left-eq0.false), ((placed_at _ c.requires.placed.0 o.1, c.requires.placed.1, fit_not c.args.work.now _ _ _ _ _ _ c.if-left-eq0.false refl _ e c.requires.placed.2), omega (arith, c.requires.left_bound)))

pub register-registers-requires : goal.register-registers-requires
register-registers-requires t c =
    let e = sym c.in-Join.is ∙ c.node_at.ensures in
    let o = okay c.args.g _ c.requires.placed.0 e in
    (omega (arith, c.decreases, c.if-left-eq0.false), ((placed_at _ c.requires.placed.0 o.1, c.requires.placed.1, fit_join c.args.work.now _ _ _ _ _ _ c.if-left-eq0.false refl _ _ _ _ _ e c.requires.placed.2), omega (arith, c.requires.left_bound)))

pub register-returns-then-m-gt1 : goal.register-returns-then-m-gt1
register-returns-then-m-gt1 t c = reg_split c.args.work.now _ _ _ _ _ _ c.if-left-eq0.false refl _ _ _ _ _ _ (is_here c.args.m c.if-m-gt1.true) (sym c.in-Cross.is ∙ c.node_at.ensures) (puts_none _ c.requires.placed.1 c.nothing-then-m-gt1.ensures)

pub register-register_cross-requires : goal.register-register_cross-requires
register-register_cross-requires t c =
    let e = sym c.in-Cross.is ∙ c.node_at.ensures in
    let o = okay c.args.g _ c.requires.placed.0 e in
    let f = fit_cross c.args.work.now _ _ _ _ _ _ c.if-left-eq0.false refl _ c.inner-in-Cross.ensures _ _ (not_here c.args.m (omega (arith, c.if-m-gt1.false))) e c.requires.placed.2 in
    (omega (arith, c.decreases, c.if-left-eq0.false), ((placed_at _ c.requires.placed.0 o.1, c.requires.placed.1, f.0, f.1), omega (arith, c.requires.left_bound)))

pub register-returns-in-Var : goal.register-returns-in-Var
register-returns-in-Var t c = reg_var c.args.work.now _ _ _ _ _ _ c.if-left-eq0.false refl _ _ _ _ _ _ _ (sym c.in-Var.is ∙ c.node_at.ensures) (puts_none _ c.requires.placed.1 c.nothing-in-Var.ensures)

pub register-shape_of-out-in-Cmp : goal.register-shape_of-out-in-Cmp
register-shape_of-out-in-Cmp t c = puts_length c.register_sides.ensures

pub register-returns-in-Cmp : goal.register-returns-in-Cmp
register-returns-in-Cmp t c = reg_cmp c.args.work.now _ _ _ _ _ _ c.if-left-eq0.false refl _ _ _ _ _ _ _ _ c.inner.ensures (sym c.in-Cmp.is ∙ c.node_at.ensures) c.register_sides.ensures

pub register-shape_of-out-in-Not : goal.register-shape_of-out-in-Not
register-shape_of-out-in-Not t c = puts_length c.register.ensures

pub register-returns-in-Not : goal.register-returns-in-Not
register-returns-in-Not t c = reg_not c.args.work.now _ _ _ _ _ _ c.if-left-eq0.false refl _ _ _ _ _ _ (sym c.in-Not.is ∙ c.node_at.ensures) c.register.ensures

pub register-shape_of-out-in-Join : goal.register-shape_of-out-in-Join
register-shape_of-out-in-Join t c = puts_length c.registers.ensures

pub register-returns-in-Join : goal.register-returns-in-Join
register-returns-in-Join t c = reg_join c.args.work.now _ _ _ _ _ _ c.if-left-eq0.false refl _ _ _ _ _ _ _ _ _ _ (sym c.in-Join.is ∙ c.node_at.ensures) c.registers.ensures

pub register-shape_of-out-else-m-gt1 : goal.register-shape_of-out-else-m-gt1
register-shape_of-out-else-m-gt1 t c = puts_length c.register_cross.ensures

pub register-returns-else-m-gt1 : goal.register-returns-else-m-gt1
register-returns-else-m-gt1 t c = reg_cross c.args.work.now _ _ _ _ _ _ c.if-left-eq0.false refl _ _ _ _ _ _ _ _ c.inner-in-Cross.ensures (not_here c.args.m (omega (arith, c.if-m-gt1.false))) (sym c.in-Cross.is ∙ c.node_at.ensures) c.register_cross.ensures

pub register_cross-registers-a-requires : goal.register_cross-registers-a-requires
register_cross-registers-a-requires t c = (omega (arith, c.decreases), ((c.requires.placed.0, c.requires.placed.1, c.requires.placed.2), c.requires.left_bound))

pub register_cross-surveys-x-requires : goal.register_cross-surveys-x-requires
register_cross-surveys-x-requires t c = (c.requires.placed.0.size, (c.requires.placed.0.inside, (c.requires.placed.0.low_base, c.requires.placed.0.low)))

pub register_cross-registers-b-requires : goal.register_cross-registers-b-requires
register_cross-registers-b-requires t c = (omega (arith, c.decreases), ((placed_with _ c.requires.placed.0 (rw c.counters.ensures c.surveys-x.ensures.found.low), open_next c.requires.placed.1 c.registers-a.ensures.wrote, c.requires.placed.3), c.requires.left_bound))

pub register_cross-shape_of-out : goal.register_cross-shape_of-out
register_cross-shape_of-out t c = puts_length c.registers-b.ensures ∙ puts_length c.registers-a.ensures

pub register_cross-returns : goal.register_cross-returns
register_cross-returns t c = cross_adds c.args.work.now _ _ _ _ _ _ _ _ c.surveys-x.ensures c.counters.ensures _ _ _ c.requires.placed.1 c.registers-a.ensures c.registers-b.ensures c.both.ensures

pub register_if-is_passed-requires : goal.register_if-is_passed-requires
register_if-is_passed-requires t c = c.requires.placed.0.inside

pub register_if-returns-then-is_passed : goal.register_if-returns-then-is_passed
register_if-returns-then-is_passed t c = if_passed c.args.work.now _ _ _ _ _ _ (sym c.is_passed.ensures ∙ c.if-is_passed.true) (puts_none _ c.requires.placed.1 c.nothing.ensures)

pub register_if-overflow_add-at : goal.register_if-overflow_add-at
register_if-overflow_add-at t c = omega (arith, c.requires.placed.0.inside)

pub register_if-skip-x-requires : goal.register_if-skip-x-requires
register_if-skip-x-requires t c = (c.requires.placed.0.size, (omega (arith, c.within.ensures), c.requires.placed.0.low_base))

pub register_if-register_int-a-requires : goal.register_if-register_int-a-requires
register_if-register_int-a-requires t c =
    let s = condition_skips c.args.work.now _ _ _ _ _ _ _ c.requires.placed.0.size c.within.ensures c.skip-x.ensures in
    let h = parts c.args.work.now _ _ _ _ (record { at = c.skip-x.result.at; base = c.skip-x.result.base; n = c.args.n }) s c.requires.placed.2 in
    (omega (arith, c.decreases), ((placed_skipped c.args.n c.requires.placed.0 c.skip-x.ensures c.requires.placed.0.low, c.requires.placed.1, h.inside_first), omega (arith, c.requires.left_bound)))

pub register_if-survey_int-y-requires : goal.register_if-survey_int-y-requires
register_if-survey_int-y-requires t c = (c.requires.placed.0.size, (c.skip-x.ensures.inside, (c.skip-x.ensures.low, c.requires.placed.0.low)))

pub register_if-register_int-b-requires : goal.register_if-register_int-b-requires
register_if-register_int-b-requires t c =
    let s = condition_skips c.args.work.now _ _ _ _ _ _ _ c.requires.placed.0.size c.within.ensures c.skip-x.ensures in
    let h = parts c.args.work.now _ _ _ _ (record { at = c.skip-x.result.at; base = c.skip-x.result.base; n = c.args.n }) s c.requires.placed.2 in
    let y = c.survey_int-y.ensures in
    (omega (arith, c.decreases), ((second_placed y c.requires.placed.0.size, open_next c.requires.placed.1 c.register_int-a.ensures.wrote, second_fit y h.inside_second), omega (arith, c.requires.left_bound)))

pub register_if-survey_int-z-requires : goal.register_if-survey_int-z-requires
register_if-survey_int-z-requires t c = let p = second_placed c.survey_int-y.ensures c.requires.placed.0.size in (p.size, (p.inside, (p.low_base, p.low)))

pub register_if-make_if-e-requires : goal.register_if-make_if-e-requires
register_if-make_if-e-requires t c = (omega (arith, c.decreases), ((placed_with _ c.requires.placed.0 c.survey_int-z.ensures.low, open_next (open_next c.requires.placed.1 c.register_int-a.ensures.wrote) c.register_int-b.ensures.wrote, c.requires.placed.2, record { placed = placed_skipped c.args.n c.requires.placed.0 c.skip-x.ensures c.requires.placed.0.low; first = condition_skips c.args.work.now _ _ _ _ _ _ _ c.requires.placed.0.size c.within.ensures c.skip-x.ensures }), c.requires.left_bound))

pub register_if-shape_of-out : goal.register_if-shape_of-out
register_if-shape_of-out t c = puts_length c.make_if-e.ensures ∙ puts_length c.register_int-b.ensures ∙ puts_length c.register_int-a.ensures

pub register_if-returns : goal.register_if-returns
register_if-returns t c =
    let s = condition_skips c.args.work.now _ _ _ _ _ _ _ c.requires.placed.0.size c.within.ensures c.skip-x.ensures in
    let y = c.survey_int-y.ensures in
    let z = c.survey_int-z.ensures in
    if_adds c.args.work.now _ _ _ _ (record { at = c.skip-x.result.at; base = c.skip-x.result.base; n = c.args.n }) c.args.n _ s refl (sym c.is_passed.ensures ∙ c.if-is_passed.false) (rw (y.skips.end, y.skips.next, y.behind []) at (z.behind [])) _ _ _ _ _ c.requires.placed.1 c.register_int-a.ensures (second_adds y c.register_int-b.ensures) c.make_if-e.ensures c.both.ensures c.both-2.ensures

pub register_int-returns-then-left-eq0 : goal.register_int-returns-then-left-eq0
register_int-returns-then-left-eq0 t c = int_adds_none c.args.work.now _ _ _ _ _ _ c.if-left-eq0.true (puts_none _ c.requires.placed.1 c.nothing.ensures)

pub register_int-overflow_add-at : goal.register_int-overflow_add-at
register_int-overflow_add-at t c = omega (arith, c.requires.placed.0.inside)

pub register_int-overflow_add-at-2 : goal.register_int-overflow_add-at-2
register_int-overflow_add-at-2 t c = omega (arith, c.requires.placed.0.inside)

pub register_int-register_terms-requires : goal.register_int-register_terms-requires
register_int-register_terms-requires t c = (omega (arith, c.decreases, c.if-left-eq0.false), ((record { size = c.requires.placed.0.size; inside = omega (arith, c.within-two.ensures); low_base = c.requires.placed.0.low_base; low = c.requires.placed.0.low }, c.requires.placed.1, fit_sum c.args.work.now c.requires.placed.0.size _ _ _ _ _ c.if-left-eq0.false refl _ c.word.ensures _ _ c.in-22.is c.within-two.ensures c.word-x.ensures c.requires.placed.2), omega (arith, c.requires.left_bound)))

pub register_int-register_if-requires : goal.register_int-register_if-requires
register_int-register_if-requires t c = (omega (arith, c.decreases, c.if-left-eq0.false), ((c.requires.placed.0, c.requires.placed.1, fit_if c.args.work.now c.requires.placed.0.size _ _ _ _ _ c.if-left-eq0.false refl _ c.word.ensures c.in-23.is c.requires.placed.2), let y = c.if-left-eq0.false in omega (arith, y, c.requires.left_bound)))

pub register_int-shape_of-out-in-22 : goal.register_int-shape_of-out-in-22
register_int-shape_of-out-in-22 t c = puts_length c.register_terms.ensures

pub register_int-returns-in-22 : goal.register_int-returns-in-22
register_int-returns-in-22 t c = int_adds_sum c.args.work.now c.requires.placed.0.size _ _ _ _ _ c.if-left-eq0.false refl _ c.word.ensures _ _ c.in-22.is c.within-two.ensures c.word-x.ensures _ _ c.register_terms.ensures

pub register_int-shape_of-out-in-23 : goal.register_int-shape_of-out-in-23
register_int-shape_of-out-in-23 t c = puts_length c.register_if.ensures

pub register_int-returns-in-23 : goal.register_int-returns-in-23
register_int-returns-in-23 t c = int_adds_if c.args.work.now c.requires.placed.0.size _ _ _ _ _ c.if-left-eq0.false refl _ c.word.ensures c.in-23.is _ _ c.register_if.ensures

pub register_int-returns-in_default : goal.register_int-returns-in_default
register_int-returns-in_default t c = int_adds_leaf c.args.work.now c.requires.placed.0.size _ _ _ _ _ c.if-left-eq0.false refl _ c.word.ensures _ _ c.in_default.in_default-own.rest.0.1 c.in_default.in_default-own.rest.1 (puts_none _ c.requires.placed.1 c.nothing-in_default.ensures)

pub register_sides-register_int-a-requires : goal.register_sides-register_int-a-requires
register_sides-register_int-a-requires t c = (omega (arith, c.decreases), ((c.requires.placed.0, c.requires.placed.1, c.requires.placed.2), c.requires.left_bound))

pub register_sides-survey_int-x-requires : goal.register_sides-survey_int-x-requires
register_sides-survey_int-x-requires t c = (c.requires.placed.0.size, (c.requires.placed.0.inside, (c.requires.placed.0.low_base, c.requires.placed.0.low)))

pub register_sides-register_int-b-requires : goal.register_sides-register_int-b-requires
register_sides-register_int-b-requires t c = let s = c.survey_int-x.ensures in (omega (arith, c.decreases), ((second_placed s c.requires.placed.0.size, open_next c.requires.placed.1 c.register_int-a.ensures.wrote, second_fit s c.requires.placed.3), c.requires.left_bound))

pub register_sides-shape_of-out : goal.register_sides-shape_of-out
register_sides-shape_of-out t c = puts_length c.register_int-b.ensures ∙ puts_length c.register_int-a.ensures

pub register_sides-returns : goal.register_sides-returns
register_sides-returns t c = puts_both _ _ _ c.requires.placed.1 c.register_int-a.ensures (second_adds c.survey_int-x.ensures c.register_int-b.ensures) c.both.ensures

pub register_terms-loop-init : goal.register_terms-loop-init
register_terms-loop-init t c =
    let q : c.args.count - 0 ≡ c.args.count = omega arith in
    rw q ((c.requires.placed.0, c.requires.placed.1, refl, c.requires.placed.2, omega arith, zero_bump _ (terms_low _ _ _), λ d r x. x))

pub register_terms-overflow_add-y : goal.register_terms-overflow_add-y
register_terms-overflow_add-y t c = omega (arith, c.loop.invariant.0.inside)

pub register_terms-register_int-x-requires : goal.register_terms-register_int-x-requires
register_terms-register_int-x-requires t c =
    let i = c.loop.invariant in
    (omega (arith, c.decreases), ((record { size = i.0.size; inside = omega (arith, c.within-q.ensures); low_base = i.0.low_base; low = i.0.low }, i.1, term_fit c.args.work.now i.0.size _ _ _ _ _ (omega arith) _ c.within-q.ensures i.3), c.requires.left_bound))

pub register_terms-survey_int-y-requires : goal.register_terms-survey_int-y-requires
register_terms-survey_int-y-requires t c = let i = c.loop.invariant.0 in (i.size, (omega (arith, c.within-q.ensures), (i.low_base, i.low)))

pub register_terms-loop-preserved : goal.register_terms-loop-preserved
register_terms-loop-preserved t c =
    let q : c.args.count - (c.loop.counter + 1) ≡ c.args.count - c.loop.counter - 1 = omega arith in
    let i = c.loop.invariant in
    let s = c.survey_int-y.ensures in
    let f = c.register_int-x.ensures in
    rw q ((second_placed s i.0.size, open_next i.1 f.wrote, wrote_length f.wrote ∙ i.2, terms_fit c.args.work.now i.0.size _ _ _ _ _ (omega arith) _ c.within-q.ensures _ _ s i.3, omega (arith, c.bump-k.ensures), next_lines _ _ _ _ _ _ _ i.5 (terms_added c.args.work.now i.0.size _ _ _ _ _ (omega arith) _ c.within-q.ensures _ _ s) f.lines c.bump-k.ensures, λ d r x. i.6 d r (terms_more c.args.work.now i.0.size _ _ _ _ _ (omega arith) _ c.within-q.ensures _ _ s i.1 f.wrote x)))

pub register_terms-shape_of-out : goal.register_terms-shape_of-out
register_terms-shape_of-out t c = c.loop.invariant.2

pub register_terms-returns : goal.register_terms-returns
register_terms-returns t c =
    let i = c.loop.invariant in
    let e = terms_none c.args.work.now _ _ _ _ _ _ (omega arith) i.1 in
    record { wrote = i.6 _ _ e.0; lines = last_lines _ _ _ i.5 e.1 i.4 }

pub registers-loop-init : goal.registers-loop-init
registers-loop-init t c =
    let q : c.args.count - 0 ≡ c.args.count = omega arith in
    rw q ((sofar_none c.requires.placed.0 c.requires.placed.1 c.requires.placed.2, omega arith, zero_bump _ (lines_low _ _ _), λ d r x. x))

pub registers-register-x-requires : goal.registers-register-x-requires
registers-register-x-requires t c =
    let i = c.loop.invariant.0 in
    (omega (arith, c.decreases), ((i.placed, i.opened, sofar_head i (omega arith)), c.requires.left_bound))

pub registers-survey-y-requires : goal.registers-survey-y-requires
registers-survey-y-requires t c = let p = c.loop.invariant.0.placed in (p.size, (p.inside, (p.low_base, p.low)))

pub registers-loop-preserved : goal.registers-loop-preserved
registers-loop-preserved t c =
    let q : c.args.count - (c.loop.counter + 1) ≡ c.args.count - c.loop.counter - 1 = omega arith in
    let i = c.loop.invariant in
    let s = c.survey-y.ensures in
    let f = c.register-x.ensures in
    rw q ((sofar_more i.0 (omega arith) s.skips (rw c.counters-e.ensures s.found.low) f.wrote, omega (arith, c.bump-k.ensures), next_lines _ _ _ _ _ _ _ i.2 (lines_more c.args.work.now _ _ _ _ _ _ _ _ (omega arith) _ s _ c.counters-e.ensures) f.lines c.bump-k.ensures, λ d r x. i.3 d r (regs_more c.args.work.now _ _ _ _ _ _ _ _ (omega arith) _ s _ c.counters-e.ensures i.0.opened f.wrote x)))

pub registers-shape_of-out : goal.registers-shape_of-out
registers-shape_of-out t c = c.loop.invariant.0.same

pub registers-returns : goal.registers-returns
registers-returns t c =
    let i = c.loop.invariant in
    let e = regs_none c.args.work.now _ _ _ _ _ _ _ _ (omega arith) i.0.opened in
    record { wrote = i.3 _ _ e.0; lines = last_lines _ _ _ i.2 e.1 i.1 }
