use mathlib.Core.Bool.{not}
use Rattle.syntax.specs.Words.{max_bools, max_ints}
use Prim.Native.Nat.{◌+◌, ◌-◌}
use mathlib.Core.Path.{◌≡◌, refl, sym, ap, ◌∙◌}
use native.Mathlib.Omega.{arith}
use Rattle.walk.proofs.Steps.{below_lt}
use Rattle.walk.proofs.NumberingSteps.{part_length}
use Rattle.scan.specs.Nodes.{okay_at}
use Rattle.scan.specs.Skip.{inside_same, inside_more, skips_none, skips_var, skips_cmp, skips_not, skips_join, skips_cross, int_none, int_leaf, int_sum, int_if}
use Rattle.scan.specs.LeafLaws.{split_here, not_here}
use Rattle.scan.specs.IfLaws.{more_bools_low, more_ints_low}
use Rattle.scan.specs.SurveyLaws.{scanned, survey_none, survey_var, survey_cmp, survey_not, survey_join, survey_split, survey_cross, sofar_none, sofar_more, sofar_done, make_open, make_variable, make_named, ints_none, ints_off, ints_var, ints_const, ints_sum, ints_passed, ints_made, terms_none, terms_more, terms_done}
use Rattle.scan.proofs.+survey.Goals as goal

pub make_if-survey-a-requires : goal.make_if-survey-a-requires
make_if-survey-a-requires t c = ((omega (arith, c.decreases)), (c.requires.0, (c.requires.1.1.0, (c.requires.1.1.1.0, rw c.more_ints-i.ensures (more_ints_low c.args.work.now 1 c.args.n c.requires.1.1.1.1)))))

pub make_if-survey-b-requires : goal.make_if-survey-b-requires
make_if-survey-b-requires t c = ((omega (arith, c.decreases)), (c.requires.0, (c.requires.1.1.0, (c.requires.1.1.1.0, c.survey-a.ensures.found.low))))

pub make_if-returns-then-seen-ne1 : goal.make_if-returns-then-seen-ne1
make_if-returns-then-seen-ne1 t c = make_open c.args.work.now _ _ _ _ _ c.args.n _ _ _ _ _ c.seen.ensures c.if-seen-ne1.true c.more_ints-i.ensures c.survey-a.ensures c.survey-b.ensures c.more_bools.ensures

pub make_if-met-requires : goal.make_if-met-requires
make_if-met-requires t c = (rw c.below-v.ensures (below_lt max_bools c.word-then-word-eq11.result (omega arith)), c.requires.1.1.1.1.0)

pub make_if-returns-then-word-eq11 : goal.make_if-returns-then-word-eq11
make_if-returns-then-word-eq11 t c = make_variable c.args.work.now _ _ _ _ _ c.args.n _ _ _ _ _ c.seen.ensures c.if-seen-ne1.false c.word.ensures c.if-word-eq11.true (c.below-v.ensures ∙ rw c.word-then-word-eq11.ensures refl) c.met.ensures c.more_ints.ensures c.requires.1.1.1.1

pub make_if-survey-a-requires-2 : goal.make_if-survey-a-requires-2
make_if-survey-a-requires-2 t c = ((omega (arith, c.decreases)), (c.requires.0, (c.requires.1.1.0, (c.requires.1.1.1.0, rw c.more_bools-2.ensures (more_bools_low 1 c.args.n c.requires.1.1.1.1)))))

pub make_if-survey-b-requires-2 : goal.make_if-survey-b-requires-2
make_if-survey-b-requires-2 t c = ((omega (arith, c.decreases)), (c.requires.0, (c.requires.1.1.0, (c.requires.1.1.1.0, c.survey-a-2.ensures.found.low))))

pub make_if-name_condition-requires : goal.make_if-name_condition-requires
make_if-name_condition-requires t c = let a = c.survey-a-2.ensures in let b = c.survey-b-2.ensures in (omega (arith, a.found.room, a.skips.inside), omega (arith, b.found.room, b.skips.inside))

pub make_if-returns : goal.make_if-returns
make_if-returns t c = make_named c.args.work.now _ _ _ _ _ c.args.n _ _ _ _ _ _ _ c.seen.ensures c.if-seen-ne1.false c.word.ensures c.if-word-eq11.false c.more_bools-2.ensures c.survey-a-2.ensures c.survey-b-2.ensures c.name_condition.ensures c.more_ints-2.ensures

pub survey-returns-then-left-eq0 : goal.survey-returns-then-left-eq0
survey-returns-then-left-eq0 t c = survey_none c.args.work.now c.requires.0 _ _ c.args.g _ _ c.args.n c.requires.1.0 c.requires.1.1.1 _ c.if-left-eq0.true (skips_none c.args.work.now c.requires.0 _ _ _ _ c.requires.1.0 c.requires.1.1.0 c.if-left-eq0.true) c.single_at.ensures

pub survey-node_at-requires : goal.survey-node_at-requires
survey-node_at-requires t c = (c.requires.0, c.requires.1.0)

pub survey-met-requires : goal.survey-met-requires
survey-met-requires t c = let o = okay_at c.args.work.now c.args.g _ _ c.requires.0 c.requires.1.0 (sym c.in-Var.is ∙ c.node_at.ensures) in (o.2, c.requires.1.1.1.0)

pub survey-survey_int-a-requires : goal.survey-survey_int-a-requires
survey-survey_int-a-requires t c = let o = okay_at c.args.work.now c.args.g _ _ c.requires.0 c.requires.1.0 (sym c.in-Cmp.is ∙ c.node_at.ensures) in ((omega (arith, c.decreases, c.if-left-eq0.false)), (c.requires.0, (omega (arith, o.1, part_length c.args.work.now c.requires.0), (c.requires.1.1.0, c.requires.1.1.1))))

pub survey-survey_int-b-requires : goal.survey-survey_int-b-requires
survey-survey_int-b-requires t c = ((omega (arith, c.decreases, c.if-left-eq0.false)), (c.requires.0, (c.survey_int-a.ensures.skips.inside, (c.survey_int-a.ensures.skips.low, c.survey_int-a.ensures.low))))

pub survey-survey-requires : goal.survey-survey-requires
survey-survey-requires t c = let o = okay_at c.args.work.now c.args.g _ _ c.requires.0 c.requires.1.0 (sym c.in-Not.is ∙ c.node_at.ensures) in ((omega (arith, c.decreases, c.if-left-eq0.false)), (c.requires.0, (omega (arith, o.1, part_length c.args.work.now c.requires.0), (c.requires.1.1.0, c.requires.1.1.1))))

pub survey-surveys-s-requires : goal.survey-surveys-s-requires
survey-surveys-s-requires t c = let o = okay_at c.args.work.now c.args.g _ _ c.requires.0 c.requires.1.0 (sym c.in-Join.is ∙ c.node_at.ensures) in ((omega (arith, c.decreases, c.if-left-eq0.false)), (c.requires.0, (omega (arith, o.1, part_length c.args.work.now c.requires.0), (c.requires.1.1.0, c.requires.1.1.1))))

pub survey-skips-s-requires : goal.survey-skips-s-requires
survey-skips-s-requires t c = let o = okay_at c.args.work.now c.args.g _ _ c.requires.0 c.requires.1.0 (sym c.in-Cross.is ∙ c.node_at.ensures) in (c.requires.0, (omega (arith, o.1, part_length c.args.work.now c.requires.0), omega (arith, c.bump.ensures)))

pub survey-returns-then-m-gt1 : goal.survey-returns-then-m-gt1
survey-returns-then-m-gt1 t c = survey_split c.args.work.now c.requires.0 _ _ c.args.g _ _ c.args.n c.requires.1.0 c.requires.1.1.1 _ c.if-left-eq0.false refl _ _ _ _ _ (split_here _ (omega (arith, c.if-m-gt1.true))) (sym c.in-Cross.is ∙ c.node_at.ensures) c.skips-s.ensures.start (skips_cross c.args.work.now c.requires.0 _ _ _ _ c.requires.1.0 c.requires.1.1.0 _ c.if-left-eq0.false refl c.args.g _ _ _ _ _ _ (sym c.in-Cross.is ∙ c.node_at.ensures) c.inner-j-in-Cross.ensures (c.bump.ensures ∙ inside_more _ _ (omega (arith, c.if-m-gt1.true))) c.skips-s.ensures) (c.with_ints.ensures ∙ ap (λ x. scanned x c.args.n.ints) c.longer.ensures)

pub survey-surveys-s-requires-in-Cross : goal.survey-surveys-s-requires-in-Cross
survey-surveys-s-requires-in-Cross t c = let o = okay_at c.args.work.now c.args.g _ _ c.requires.0 c.requires.1.0 (sym c.in-Cross.is ∙ c.node_at.ensures) in ((omega (arith, c.decreases, c.if-left-eq0.false)), (c.requires.0, (omega (arith, o.1, part_length c.args.work.now c.requires.0), (c.requires.1.1.0, c.requires.1.1.1))))

pub survey-surveys-u-requires : goal.survey-surveys-u-requires
survey-surveys-u-requires t c = let o = okay_at c.args.work.now c.args.g _ _ c.requires.0 c.requires.1.0 (sym c.in-Cross.is ∙ c.node_at.ensures) in ((omega (arith, c.decreases, c.if-left-eq0.false)), (c.requires.0, (omega (arith, o.1, part_length c.args.work.now c.requires.0), (c.requires.1.1.0, c.surveys-s-in-Cross.ensures.found.low))))

pub survey-returns-in-Var : goal.survey-returns-in-Var
survey-returns-in-Var t c = survey_var c.args.work.now c.requires.0 _ _ c.args.g _ _ c.args.n c.requires.1.0 c.requires.1.1.1 _ c.if-left-eq0.false refl _ _ _ _ (sym c.in-Var.is ∙ c.node_at.ensures) (skips_var c.args.work.now c.requires.0 _ _ _ _ c.requires.1.0 c.requires.1.1.0 _ c.if-left-eq0.false refl c.args.g _ _ (sym c.in-Var.is ∙ c.node_at.ensures)) c.met.ensures c.single_at-in-Var.ensures

pub survey-returns-in-Cmp : goal.survey-returns-in-Cmp
survey-returns-in-Cmp t c = survey_cmp c.args.work.now c.requires.0 _ _ c.args.g _ _ c.args.n c.requires.1.0 c.requires.1.1.1 _ c.if-left-eq0.false refl _ _ _ _ _ _ (sym c.in-Cmp.is ∙ c.node_at.ensures) c.inner-j.ensures c.survey_int-a.ensures c.survey_int-b.ensures (skips_cmp c.args.work.now c.requires.0 _ _ _ _ c.requires.1.0 c.requires.1.1.0 _ c.if-left-eq0.false refl c.args.g _ _ _ _ _ _ _ (sym c.in-Cmp.is ∙ c.node_at.ensures) c.inner-j.ensures c.survey_int-a.ensures.skips c.survey_int-b.ensures.skips) c.single_at-in-Cmp.ensures

pub survey-returns-in-Not : goal.survey-returns-in-Not
survey-returns-in-Not t c = survey_not c.args.work.now c.requires.0 _ _ c.args.g _ _ c.args.n c.requires.1.0 c.requires.1.1.1 _ c.if-left-eq0.false refl _ _ (sym c.in-Not.is ∙ c.node_at.ensures) c.survey.ensures (skips_not c.args.work.now c.requires.0 _ _ _ _ c.requires.1.0 c.requires.1.1.0 _ c.if-left-eq0.false refl c.args.g _ _ _ (sym c.in-Not.is ∙ c.node_at.ensures) c.survey.ensures.skips)

pub survey-returns-in-Join : goal.survey-returns-in-Join
survey-returns-in-Join t c = survey_join c.args.work.now c.requires.0 _ _ c.args.g _ _ c.args.n c.requires.1.0 c.requires.1.1.1 _ c.if-left-eq0.false refl _ _ _ _ _ _ _ (sym c.in-Join.is ∙ c.node_at.ensures) c.surveys-s.ensures (skips_join c.args.work.now c.requires.0 _ _ _ _ c.requires.1.0 c.requires.1.1.0 _ c.if-left-eq0.false refl c.args.g _ _ _ _ _ _ _ (sym c.in-Join.is ∙ c.node_at.ensures) c.surveys-s.ensures.skips) c.join.ensures

pub survey-returns-else-m-gt1 : goal.survey-returns-else-m-gt1
survey-returns-else-m-gt1 t c = survey_cross c.args.work.now c.requires.0 _ _ c.args.g _ _ c.args.n c.requires.1.0 c.requires.1.1.1 _ c.if-left-eq0.false refl _ _ _ _ _ _ _ (not_here _ (omega (arith, c.if-m-gt1.false))) (sym c.in-Cross.is ∙ c.node_at.ensures) c.inner-j-in-Cross.ensures c.surveys-s-in-Cross.ensures c.surveys-u.ensures (skips_cross c.args.work.now c.requires.0 _ _ _ _ c.requires.1.0 c.requires.1.1.0 _ c.if-left-eq0.false refl c.args.g _ _ _ _ _ _ (sym c.in-Cross.is ∙ c.node_at.ensures) c.inner-j-in-Cross.ensures (inside_same _ _ (omega (arith, c.if-m-gt1.false))) c.surveys-u.ensures.skips) c.close_cross.ensures c.with_ints-in-Cross.ensures

pub survey_int-returns-then-left-eq0 : goal.survey_int-returns-then-left-eq0
survey_int-returns-then-left-eq0 t c = ints_none c.args.work.now c.requires.0 _ _ _ _ c.args.n c.requires.1.1.1 _ c.if-left-eq0.true (int_none c.args.work.now c.requires.0 _ _ _ _ c.requires.1.0 c.requires.1.1.0 c.if-left-eq0.true) c.behind_of.ensures

pub survey_int-skip_int-s-requires : goal.survey_int-skip_int-s-requires
survey_int-skip_int-s-requires t c = (c.requires.0, (c.requires.1.0, c.requires.1.1.0))

pub survey_int-returns-then-not-has_ifs : goal.survey_int-returns-then-not-has_ifs
survey_int-returns-then-not-has_ifs t c = ints_off c.args.work.now c.requires.0 _ _ _ _ c.args.n c.requires.1.1.1 _ _ _ _ c.has_ifs.ensures (ap not c.if-not-has_ifs.true) c.skip_int-s.ensures c.behind_of-then-not-has_ifs.ensures

pub survey_int-met_int-requires : goal.survey_int-met_int-requires
survey_int-met_int-requires t c = (rw c.below.ensures (below_lt max_ints c.word-x.result (omega arith)), c.requires.1.1.1.1)

pub survey_int-survey_terms-requires : goal.survey_int-survey_terms-requires
survey_int-survey_terms-requires t c = ((omega (arith, c.decreases, c.if-left-eq0.false)), (c.requires.0, (omega (arith, c.within-two.ensures), (c.requires.1.1.0, c.requires.1.1.1))))

pub survey_int-is_passed-requires : goal.survey_int-is_passed-requires
survey_int-is_passed-requires t c = c.requires.1.0

pub survey_int-skip_int-s-requires-then-is_passed : goal.survey_int-skip_int-s-requires-then-is_passed
survey_int-skip_int-s-requires-then-is_passed t c = (c.requires.0, (c.requires.1.0, c.requires.1.1.0))

pub survey_int-returns-then-is_passed : goal.survey_int-returns-then-is_passed
survey_int-returns-then-is_passed t c = ints_passed c.args.work.now c.requires.0 _ _ _ _ c.args.n c.requires.1.1.1 _ c.if-left-eq0.false refl _ c.word.ensures _ _ _ c.in-23.is (sym c.if-is_passed.true ∙ c.is_passed.ensures) c.skip_int-s-then-is_passed.ensures c.behind_of-then-is_passed.ensures

pub survey_int-skip-d-requires : goal.survey_int-skip-d-requires
survey_int-skip-d-requires t c = (c.requires.0, (omega (arith, c.within-one.ensures), c.requires.1.1.0))

pub survey_int-survey_int-t-requires : goal.survey_int-survey_int-t-requires
survey_int-survey_int-t-requires t c = ((omega (arith, c.decreases, c.if-left-eq0.false)), (c.requires.0, (c.skip-d.ensures.inside, (c.skip-d.ensures.low, c.requires.1.1.1))))

pub survey_int-survey_int-f-requires : goal.survey_int-survey_int-f-requires
survey_int-survey_int-f-requires t c = ((omega (arith, c.decreases, c.if-left-eq0.false)), (c.requires.0, (c.survey_int-t.ensures.skips.inside, (c.survey_int-t.ensures.skips.low, c.survey_int-t.ensures.low))))

pub survey_int-make_if-k-requires : goal.survey_int-make_if-k-requires
survey_int-make_if-k-requires t c = ((omega (arith, c.decreases, c.if-left-eq0.false)), (c.requires.0, (c.requires.1.0, (omega (arith, c.within-one.ensures), (c.requires.1.1.0, c.survey_int-f.ensures.low)))))

pub survey_int-returns-in-21 : goal.survey_int-returns-in-21
survey_int-returns-in-21 t c = ints_var c.args.work.now c.requires.0 _ _ _ _ c.args.n c.requires.1.1.1 _ c.if-left-eq0.false refl _ c.word.ensures _ _ _ _ _ c.in-21.is c.word-x.ensures c.below.ensures c.met_int.ensures (int_leaf c.args.work.now c.requires.0 _ _ _ _ c.requires.1.0 c.requires.1.1.0 _ c.if-left-eq0.false refl _ _ c.word.ensures (λ e. omega (arith, e, c.in-21.is)) (λ e. omega (arith, e, c.in-21.is)) c.within-two.ensures) c.behind_of-in-21.ensures

pub survey_int-returns-in-22 : goal.survey_int-returns-in-22
survey_int-returns-in-22 t c = ints_sum c.args.work.now c.requires.0 _ _ _ _ c.args.n c.requires.1.1.1 _ c.if-left-eq0.false refl _ c.word.ensures _ _ _ c.in-22.is c.word-x.ensures c.within-two.ensures c.survey_terms.ensures (int_sum c.args.work.now c.requires.0 _ _ _ _ c.requires.1.0 c.requires.1.1.0 _ c.if-left-eq0.false refl _ _ _ _ _ c.word.ensures c.in-22.is c.within-two.ensures c.word-x.ensures c.survey_terms.ensures.skips)

pub survey_int-returns-else-is_passed : goal.survey_int-returns-else-is_passed
survey_int-returns-else-is_passed t c = ints_made c.args.work.now c.requires.0 _ _ _ _ c.args.n c.requires.1.1.1 _ c.if-left-eq0.false refl _ c.word.ensures _ _ _ _ _ _ _ c.in-23.is (sym c.if-is_passed.false ∙ c.is_passed.ensures) c.within-one.ensures c.skip-d.ensures c.survey_int-t.ensures c.survey_int-f.ensures c.make_if-k.ensures (int_if c.args.work.now c.requires.0 _ _ _ _ c.requires.1.0 c.requires.1.1.0 _ c.if-left-eq0.false refl _ _ _ _ _ _ _ _ c.word.ensures c.in-23.is c.within-one.ensures c.skip-d.ensures c.survey_int-t.ensures.skips c.survey_int-f.ensures.skips) c.behind_of-in-23.ensures

pub survey_int-returns-in_default : goal.survey_int-returns-in_default
survey_int-returns-in_default t c = ints_const c.args.work.now c.requires.0 _ _ _ _ c.args.n c.requires.1.1.1 _ c.if-left-eq0.false refl _ c.word.ensures _ _ c.in_default.in_default-own.rest.0.0.1 c.in_default.in_default-own.rest.0.1 c.in_default.in_default-own.rest.1 (int_leaf c.args.work.now c.requires.0 _ _ _ _ c.requires.1.0 c.requires.1.1.0 _ c.if-left-eq0.false refl _ _ c.word.ensures c.in_default.in_default-own.rest.0.1 c.in_default.in_default-own.rest.1 c.within-two.ensures) c.behind_of-in_default.ensures

pub survey_terms-loop-init : goal.survey_terms-loop-init
survey_terms-loop-init t c = let e : c.args.count - 0 ≡ c.args.count = omega arith in rw e (terms_none c.args.work.now _ _ _ _ _ c.args.n c.requires.1.0 c.requires.1.1.0 c.requires.1.1.1)

pub survey_terms-survey_int-r-requires : goal.survey_terms-survey_int-r-requires
survey_terms-survey_int-r-requires t c = let i = c.loop.invariant in (omega (arith, c.decreases), (c.requires.0, (omega (arith, c.within-p.ensures), (i.skips.low, i.low))))

pub survey_terms-loop-preserved : goal.survey_terms-loop-preserved
survey_terms-loop-preserved t c = let e : c.args.count - (c.loop.counter + 1) ≡ c.args.count - c.loop.counter - 1 = omega arith in rw e (terms_more _ _ _ _ _ _ _ c.requires.0 _ _ _ _ c.loop.invariant (omega arith) c.within-p.ensures c.survey_int-r.ensures)

pub survey_terms-returns : goal.survey_terms-returns
survey_terms-returns t c = terms_done _ _ _ _ _ _ _ _ _ c.loop.invariant (omega arith)

pub surveys-loop-init : goal.surveys-loop-init
surveys-loop-init t c = let e : c.args.count - 0 ≡ c.args.count = omega arith in rw e (sofar_none c.args.work.now _ _ _ _ _ _ _ c.args.n c.requires.1.0 c.requires.1.1.0 c.requires.1.1.1)

pub surveys-survey-s-requires : goal.surveys-survey-s-requires
surveys-survey-s-requires t c = let i = c.loop.invariant in (omega (arith, c.decreases), (c.requires.0, (i.skips.inside, (i.skips.low, i.low))))

pub surveys-add_member-r-requires : goal.surveys-add_member-r-requires
surveys-add_member-r-requires t c = let i = c.loop.invariant in let s = c.survey-s.ensures in omega (arith, i.room, s.found.room, s.skips.inside)

pub surveys-loop-preserved : goal.surveys-loop-preserved
surveys-loop-preserved t c = let e : c.args.count - (c.loop.counter + 1) ≡ c.args.count - c.loop.counter - 1 = omega arith in rw e (sofar_more _ _ _ _ _ _ _ _ _ _ _ _ _ _ c.loop.invariant (omega arith) c.survey-s.ensures c.add_member-r.ensures)

pub surveys-returns : goal.surveys-returns
surveys-returns t c = sofar_done _ _ _ _ _ _ _ _ _ _ _ _ c.loop.invariant (omega arith)
