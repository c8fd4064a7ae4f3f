use borrow.Author.Rules.{sfits_of}
use Prim.Native.Nat.{◌+◌, ◌-◌}
use mathlib.Core.Path.{◌≡◌, refl, sym, ap, ◌∙◌, subst}
use mathlib.Core.Bool.{true}
use native.Mathlib.Omega.{arith}
use mir.Facts.{to_z-of_z}
use mir.Syntax.{w32}
use mir.Val.{SFits}
use lib.IntN.{pos}
use lib.ListN.{length, get_or}
use Rattle.laws.specs.Writes.{Wrote, wrote_length}
use Rattle.walk.specs.Item.{Tally}
use Rattle.walk.specs.Decode.{read_part, added}
use Rattle.walk.specs.declared.Counters.{Counters}
use Rattle.walk.specs.declared.Surveyed.{Surveyed}
use Rattle.walks.specs.Item.{pools, texts}
use Rattle.walks.specs.Decode.{many, decode}
use Rattle.scan.specs.Skip.{split_by, inside_same, inside_more, skips_none, skips_var, skips_cmp, skips_not, skips_join, skips_cross}
use Rattle.scan.specs.SurveyLaws.{scanned, counters_of, SurveysAll, survey_not, survey_split, survey_cross, sofar_none as seen_none, sofar_more as seen_more, sofar_done as Seen-done}
use Rattle.survey.proofs.Leaves.{join_is}
use Rattle.output.specs.Suffix.{suffix}
use Rattle.output.proofs.Laws.{open_next, stack_down}
use Rattle.rulewriter.specs.Places.{items_at}
use Rattle.rulewriter.proofs.Surveying.{survey_none, survey_var, survey_cmp, survey_conj, survey_disj}
use Rattle.rulewriter.proofs.Steps.{is_here, not_here, okay, placed_at, placed_with, fit_cmp, fit_not, fit_join, fit_cross, sofar_none, sofar_more, sofar_skip, sofar_head}
use Rattle.rulewriter.proofs.PoolLaws.{items_lits}
use Rattle.rulewriter.proofs.Longer.{long_seen}
use Rattle.rulewriter.proofs.Written.{write_none, write_var, write_cmp, write_not, write_conj, write_disjoint, write_split, write_cross, cross_text, texts_none, texts_more, longs_none, longs_skip, longs_more, one_lit, disj_pool, disj_pass, disj_two, disj_each, tallied}
use Rattle.rulewriter.proofs.+write.Goals as goal

pub write-write_none-requires : goal.write-write_none-requires
write-write_none-requires t c = (stack_down 0 c.requires.stacked (omega arith), c.requires.placed.1)

pub write-shape_of-out-then-left-eq0 : goal.write-shape_of-out-then-left-eq0
write-shape_of-out-then-left-eq0 t c = wrote_length c.write_none.ensures.1

pub write-returns-then-left-eq0 : goal.write-returns-then-left-eq0
write-returns-then-left-eq0 t c = (survey_none c.args.work.now c.requires.placed.0.size _ _ _ _ _ _ c.requires.placed.0.inside c.requires.placed.0.low _ c.if-left-eq0.true (skips_none c.args.work.now c.requires.placed.0.size _ _ _ _ c.requires.placed.0.inside c.requires.placed.0.low_base c.if-left-eq0.true) c.write_none.ensures.0, write_none c.args.work.now _ _ _ _ _ _ _ c.if-left-eq0.true c.write_none.ensures.1)

pub write-node_at-requires : goal.write-node_at-requires
write-node_at-requires t c = (c.requires.placed.0.size, c.requires.placed.0.inside)

pub write-write_var-requires : goal.write-write_var-requires
write-write_var-requires t c = ((okay c.args.g _ c.requires.placed.0 (sym c.in-Var.is ∙ c.node_at.ensures)).2, c.requires.placed.0.low, stack_down 0 c.requires.stacked (omega arith), c.requires.placed.1)

pub write-write_cmp-requires : goal.write-write_cmp-requires
write-write_cmp-requires t c =
    let e = sym c.in-Cmp.is ∙ c.node_at.ensures in
    let o = okay c.args.g _ c.requires.placed.0 e in
    (placed_at _ c.requires.placed.0 o.1, c.requires.placed.1, fit_cmp c.args.work.now _ _ _ _ _ _ c.if-left-eq0.false refl _ c.inner.ensures _ _ e c.requires.placed.2, stack_down 0 c.requires.stacked (omega arith))

pub write-write-requires : goal.write-write-requires
write-write-requires t c =
    let e = sym c.in-Not.is ∙ c.node_at.ensures in
    let o = okay c.args.g _ c.requires.placed.0 e in
    (omega (arith, c.decreases, c.if-left-eq0.false), ((placed_at _ c.requires.placed.0 o.1, c.requires.placed.1, fit_not c.args.work.now _ _ _ _ _ _ c.if-left-eq0.false refl _ e c.requires.placed.2), stack_down _ c.requires.stacked (omega arith)))

pub write-surveys-x-requires : goal.write-surveys-x-requires
write-surveys-x-requires t c =
    let o = okay c.args.g _ c.requires.placed.0 (sym c.in-Join.is ∙ c.node_at.ensures) in
    let p = placed_at _ c.requires.placed.0 o.1 in
    (p.size, (p.inside, (p.low_base, p.low)))

pub write-write_disj-p-requires : goal.write-write_disj-p-requires
write-write_disj-p-requires t c =
    let e = sym c.in-Join.is ∙ c.node_at.ensures in
    let o = okay c.args.g _ c.requires.placed.0 e in
    (omega (arith, c.decreases, c.if-left-eq0.false), ((placed_at _ c.requires.placed.0 o.1, c.requires.placed.1, fit_join c.args.work.now _ _ _ _ _ _ c.if-left-eq0.false refl _ _ _ _ _ e c.requires.placed.2), (tallied c.surveys-x.ensures, stack_down _ c.requires.stacked (let y = c.if-left-eq0.false in omega arith), c.surveys-x.ensures.found.low.0)))

pub write-shape_of-out-then-d : goal.write-shape_of-out-then-d
write-shape_of-out-then-d t c = wrote_length c.write_disj-p.ensures

pub write-returns-then-d : goal.write-returns-then-d
write-returns-then-d t c = (survey_disj c.args.work.now c.requires.placed.0.size _ _ _ _ _ _ c.requires.placed.0.inside c.requires.placed.0.low _ c.if-left-eq0.false refl _ _ _ _ _ _ _ (join_is (sym c.in-Join.is ∙ c.node_at.ensures) c.if-d.true) c.surveys-x.ensures (skips_join c.args.work.now c.requires.placed.0.size _ _ _ _ c.requires.placed.0.inside c.requires.placed.0.low_base _ c.if-left-eq0.false refl c.args.g _ _ _ _ _ _ _ (sym c.in-Join.is ∙ c.node_at.ensures) c.surveys-x.ensures.skips) c.close_disj.ensures c.with_ints-y.ensures, write_disjoint c.args.work.now _ _ _ _ _ _ c.if-left-eq0.false refl _ _ _ _ _ _ _ _ _ _ (join_is (sym c.in-Join.is ∙ c.node_at.ensures) c.if-d.true) _ c.surveys-x.ensures c.write_disj-p.ensures)

pub write-write_all-z-requires : goal.write-write_all-z-requires
write-write_all-z-requires t c =
    let e = sym c.in-Join.is ∙ c.node_at.ensures in
    let o = okay c.args.g _ c.requires.placed.0 e in
    (omega (arith, c.decreases, c.if-left-eq0.false), ((placed_at _ c.requires.placed.0 o.1, c.requires.placed.1, fit_join c.args.work.now _ _ _ _ _ _ c.if-left-eq0.false refl _ _ _ _ _ e c.requires.placed.2), stack_down _ c.requires.stacked (omega arith)))

pub write-skips-x-requires : goal.write-skips-x-requires
write-skips-x-requires t c =
    let o = okay c.args.g _ c.requires.placed.0 (sym c.in-Cross.is ∙ c.node_at.ensures) in
    let p = placed_at _ c.requires.placed.0 o.1 in
    (p.size, (p.inside, omega (arith, c.bump.ensures)))

pub write-put_split-p-requires : goal.write-put_split-p-requires
write-put_split-p-requires t c = (c.requires.placed.0.low_base, stack_down 0 c.requires.stacked (omega arith), c.requires.placed.1)

pub write-shape_of-out-then-m-gt1 : goal.write-shape_of-out-then-m-gt1
write-shape_of-out-then-m-gt1 t c = wrote_length c.put_split-p.ensures

pub write-returns-then-m-gt1 : goal.write-returns-then-m-gt1
write-returns-then-m-gt1 t c =
    let m = is_here c.args.m c.if-m-gt1.true in
    (survey_split c.args.work.now c.requires.placed.0.size _ _ _ _ _ _ c.requires.placed.0.inside c.requires.placed.0.low _ c.if-left-eq0.false refl _ _ _ _ _ m (sym c.in-Cross.is ∙ c.node_at.ensures) c.skips-x.ensures.start (skips_cross c.args.work.now c.requires.placed.0.size _ _ _ _ c.requires.placed.0.inside c.requires.placed.0.low_base _ c.if-left-eq0.false refl c.args.g _ _ _ _ _ _ (sym c.in-Cross.is ∙ c.node_at.ensures) c.inner-i.ensures (c.bump.ensures ∙ inside_more c.args.m c.args.base (omega (arith, c.if-m-gt1.true))) c.skips-x.ensures) (c.with_ints-y-then-m-gt1.ensures ∙ ap (λ (s : Surveyed). scanned s c.args.n.ints) c.longer-then-m-gt1.ensures), write_split c.args.work.now _ _ _ _ _ _ c.if-left-eq0.false refl _ _ _ _ _ _ _ _ m (sym c.in-Cross.is ∙ c.node_at.ensures) c.put_split-p.ensures)

pub write-write_cross-requires : goal.write-write_cross-requires
write-write_cross-requires t c =
    let e = sym c.in-Cross.is ∙ c.node_at.ensures in
    let o = okay c.args.g _ c.requires.placed.0 e in
    let f = fit_cross c.args.work.now _ _ _ _ _ _ c.if-left-eq0.false refl _ c.inner-i.ensures _ _ (not_here c.args.m (omega (arith, c.if-m-gt1.false))) e c.requires.placed.2 in
    (omega (arith, c.decreases, c.if-left-eq0.false), ((placed_at _ c.requires.placed.0 o.1, c.requires.placed.1, f.0, f.1), stack_down _ c.requires.stacked (let y = c.if-left-eq0.false in omega arith)))

pub write-shape_of-out-in-Var : goal.write-shape_of-out-in-Var
write-shape_of-out-in-Var t c = wrote_length c.write_var.ensures.1

pub write-returns-in-Var : goal.write-returns-in-Var
write-returns-in-Var t c = (survey_var c.args.work.now c.requires.placed.0.size _ _ _ _ _ _ c.requires.placed.0.inside c.requires.placed.0.low _ c.if-left-eq0.false refl _ _ _ _ (sym c.in-Var.is ∙ c.node_at.ensures) (skips_var c.args.work.now c.requires.placed.0.size _ _ _ _ c.requires.placed.0.inside c.requires.placed.0.low_base _ c.if-left-eq0.false refl c.args.g _ _ (sym c.in-Var.is ∙ c.node_at.ensures)) refl c.write_var.ensures.0, write_var c.args.work.now _ _ _ _ _ _ c.if-left-eq0.false refl _ _ _ _ _ _ _ _ (sym c.in-Var.is ∙ c.node_at.ensures) c.write_var.ensures.1)

pub write-shape_of-out-in-Cmp : goal.write-shape_of-out-in-Cmp
write-shape_of-out-in-Cmp t c = wrote_length c.write_cmp.ensures.1

pub write-returns-in-Cmp : goal.write-returns-in-Cmp
write-returns-in-Cmp t c =
    let x = c.write_cmp.ensures.0 in
    (survey_cmp c.args.work.now c.requires.placed.0.size _ _ _ _ _ _ c.requires.placed.0.inside c.requires.placed.0.low _ c.if-left-eq0.false refl _ _ _ _ _ _ (sym c.in-Cmp.is ∙ c.node_at.ensures) c.inner.ensures x.sides.first x.sides.last (skips_cmp c.args.work.now c.requires.placed.0.size _ _ _ _ c.requires.placed.0.inside c.requires.placed.0.low_base _ c.if-left-eq0.false refl c.args.g _ _ _ _ _ _ _ (sym c.in-Cmp.is ∙ c.node_at.ensures) c.inner.ensures x.sides.first.skips x.sides.last.skips) x.is, write_cmp c.args.work.now _ _ _ _ _ _ c.if-left-eq0.false refl _ _ _ _ _ _ _ _ _ c.inner.ensures (sym c.in-Cmp.is ∙ c.node_at.ensures) c.write_cmp.ensures.1)

pub write-shape_of-out-in-Not : goal.write-shape_of-out-in-Not
write-shape_of-out-in-Not t c = wrote_length c.write.ensures.1

pub write-returns-in-Not : goal.write-returns-in-Not
write-returns-in-Not t c = (survey_not c.args.work.now c.requires.placed.0.size _ _ _ _ _ _ c.requires.placed.0.inside c.requires.placed.0.low _ c.if-left-eq0.false refl _ _ (sym c.in-Not.is ∙ c.node_at.ensures) c.write.ensures.0 (skips_not c.args.work.now c.requires.placed.0.size _ _ _ _ c.requires.placed.0.inside c.requires.placed.0.low_base _ c.if-left-eq0.false refl c.args.g _ _ _ (sym c.in-Not.is ∙ c.node_at.ensures) c.write.ensures.0.skips), write_not c.args.work.now _ _ _ _ _ _ c.if-left-eq0.false refl _ _ _ _ _ _ _ (sym c.in-Not.is ∙ c.node_at.ensures) c.write.ensures.1)

pub write-shape_of-out-else-d : goal.write-shape_of-out-else-d
write-shape_of-out-else-d t c = wrote_length c.write_all-z.ensures.1

pub write-returns-else-d : goal.write-returns-else-d
write-returns-else-d t c = (survey_conj c.args.work.now c.requires.placed.0.size _ _ _ _ _ _ c.requires.placed.0.inside c.requires.placed.0.low _ c.if-left-eq0.false refl _ _ _ _ _ _ (join_is (sym c.in-Join.is ∙ c.node_at.ensures) c.if-d.false) c.write_all-z.ensures.0 (skips_join c.args.work.now c.requires.placed.0.size _ _ _ _ c.requires.placed.0.inside c.requires.placed.0.low_base _ c.if-left-eq0.false refl c.args.g _ _ _ _ _ _ _ (sym c.in-Join.is ∙ c.node_at.ensures) c.write_all-z.ensures.0.skips) (c.with_ints-y-in-Join.ensures ∙ ap (λ (s : Surveyed). scanned s c.write_all-z.result.seen.ints) c.longer.ensures), write_conj c.args.work.now _ _ _ _ _ _ c.if-left-eq0.false refl _ _ _ _ _ _ _ _ _ _ (join_is (sym c.in-Join.is ∙ c.node_at.ensures) c.if-d.false) c.write_all-z.ensures.1)

pub write-shape_of-out-else-m-gt1 : goal.write-shape_of-out-else-m-gt1
write-shape_of-out-else-m-gt1 t c = wrote_length c.write_cross.ensures.1

pub write-returns-else-m-gt1 : goal.write-returns-else-m-gt1
write-returns-else-m-gt1 t c =
    let x = c.write_cross.ensures.0 in
    let m = not_here c.args.m (omega (arith, c.if-m-gt1.false)) in
    (survey_cross c.args.work.now c.requires.placed.0.size _ _ _ _ _ _ c.requires.placed.0.inside c.requires.placed.0.low _ c.if-left-eq0.false refl _ _ _ _ _ _ _ m (sym c.in-Cross.is ∙ c.node_at.ensures) c.inner-i.ensures x.first x.second (skips_cross c.args.work.now c.requires.placed.0.size _ _ _ _ c.requires.placed.0.inside c.requires.placed.0.low_base _ c.if-left-eq0.false refl c.args.g _ _ _ _ _ _ (sym c.in-Cross.is ∙ c.node_at.ensures) c.inner-i.ensures (inside_same c.args.m c.args.base (omega (arith, c.if-m-gt1.false))) x.second.skips) refl x.is, write_cross c.args.work.now _ _ _ _ _ _ c.if-left-eq0.false refl _ _ _ _ _ _ _ _ _ c.inner-i.ensures m (sym c.in-Cross.is ∙ c.node_at.ensures) c.write_cross.ensures.1)

pub write_all-loop-init : goal.write_all-loop-init
write_all-loop-init t c =
    let q : c.args.count - 0 ≡ c.args.count = omega arith in
    rw q (rw c.no_members-r.ensures (sofar_none c.requires.placed.0 c.requires.placed.1 c.requires.placed.2, seen_none c.args.work.now _ _ _ _ _ _ _ _ c.requires.placed.0.inside c.requires.placed.0.low_base c.requires.placed.0.low, λ d r x. x))

pub write_all-write-y-requires : goal.write_all-write-y-requires
write_all-write-y-requires t c =
    let i = c.loop.invariant.0 in
    (omega (arith, c.decreases), ((rw c.counters.ensures i.placed, i.opened, sofar_head i (omega arith)), c.requires.stacked))

pub write_all-add_member-requires : goal.write_all-add_member-requires
write_all-add_member-requires t c =
    let i = c.loop.invariant.1 in
    let e = c.write-y.ensures.0 in
    omega (arith, i.room, e.found.room, e.skips.inside)

pub write_all-loop-preserved : goal.write_all-loop-preserved
unfolding added
write_all-loop-preserved t c =
    let q : c.args.count - (c.loop.counter + 1) ≡ c.args.count - c.loop.counter - 1 = omega arith in
    let i = c.loop.invariant in
    let e = rw c.counters.ensures at c.write-y.ensures in
    rw q (rw (c.with_ints-r.ensures, c.add_member.ensures) (sofar_more i.0 (omega arith) e.0.skips e.0.found.low e.1, seen_more _ _ _ _ _ _ _ _ _ _ _ _ _ _ i.1 (omega arith) e.0 refl, λ d r x. i.2 d r (texts_more c.args.work.now _ _ _ _ _ _ _ _ _ (omega arith) _ e.0 i.0.opened e.1 x)))

pub write_all-shape_of-out : goal.write_all-shape_of-out
write_all-shape_of-out t c = c.loop.invariant.0.same

pub write_all-returns : goal.write_all-returns
write_all-returns t c =
    let e : counters_of c.no_members-r.result ≡ c.args.n = ap counters_of c.no_members-r.ensures in
    (subst (λ (k : Counters). SurveysAll c.args.work.now c.args.left (split_by c.args.m) c.args.count c.args.g c.args.h c.args.at c.args.base k c.loop.r) e (Seen-done _ _ _ _ _ _ _ _ _ _ _ _ c.loop.invariant.1 (omega arith)), subst (λ (k : Counters). Wrote c.args.out.now c.args.o (texts (items_at c.args.work.now c.args.left (split_by c.args.m) c.args.count c.args.g c.args.h c.args.at c.args.base) c.args.work.now k (suffix c.args.s)) c.loop.out c.loop.p) e (c.loop.invariant.2 _ _ (texts_none c.args.work.now _ _ _ _ _ _ _ _ _ (omega arith) c.loop.invariant.0.opened)))

pub write_cross-surveys-x-requires : goal.write_cross-surveys-x-requires
write_cross-surveys-x-requires t c = let p = c.requires.placed.0 in (p.size, (p.inside, (p.low_base, p.low)))

pub write_cross-surveys-u-requires : goal.write_cross-surveys-u-requires
write_cross-surveys-u-requires t c = let p = c.requires.placed.0 in (p.size, (p.inside, (p.low_base, rw c.counters-k.ensures c.surveys-x.ensures.found.low)))

pub write_cross-write_disj-r-requires : goal.write_cross-write_disj-r-requires
write_cross-write_disj-r-requires t c = (omega (arith, c.decreases), ((c.requires.placed.0, c.requires.placed.1, c.requires.placed.2), (tallied c.surveys-x.ensures, c.requires.stacked, c.surveys-u.ensures.found.low.0)))

pub write_cross-write_disj-z-requires : goal.write_cross-write_disj-z-requires
write_cross-write_disj-z-requires t c = (omega (arith, c.decreases), ((placed_with _ c.requires.placed.0 (rw c.counters-k.ensures c.surveys-x.ensures.found.low), open_next c.requires.placed.1 c.write_disj-r.ensures, c.requires.placed.3), (tallied c.surveys-u.ensures, c.requires.stacked, omega (arith, c.bump-e.ensures))))

pub write_cross-shape_of-out : goal.write_cross-shape_of-out
write_cross-shape_of-out t c = wrote_length c.write_disj-z.ensures ∙ wrote_length c.write_disj-r.ensures

pub write_cross-returns : goal.write_cross-returns
write_cross-returns t c =
    let b = rw c.counters-k.ensures at c.surveys-u.ensures in
    let v = rw c.counters-k.ensures at c.write_disj-z.ensures in
    (record { one = c.surveys-x.result; two = c.surveys-u.result; first = c.surveys-x.ensures; second = b; is = c.with_ints-y.ensures ∙ ap (λ (s : Surveyed). scanned s c.surveys-u.result.ints) c.close_cross.ensures }, cross_text c.args.work.now _ _ _ _ _ _ _ _ _ c.surveys-x.ensures b _ _ c.fresh.ensures c.bump-e.ensures c.requires.placed.1.room c.write_disj-r.ensures v)

pub write_disj-put_pool-requires : goal.write_disj-put_pool-requires
write_disj-put_pool-requires t c = record { placed = c.requires.placed; tallied = (c.requires.tallied.0, stack_down 0 c.requires.tallied.1 (omega arith), c.requires.tallied.2) }

pub write_disj-pools-requires : goal.write_disj-pools-requires
write_disj-pools-requires t c = record { placed = (c.requires.placed.0, record { low = omega arith; room = omega arith }, c.requires.placed.2); j_value = ap (λ (t : Tally). t.lits) c.requires.tallied.0.unit }

pub write_disj-write_longs-requires : goal.write_disj-write_longs-requires
write_disj-write_longs-requires t c = (omega (arith, c.decreases), (c.requires.placed, (c.requires.tallied.1, c.requires.tallied.2)))

pub write_disj-write_longs-requires-in-Two : goal.write_disj-write_longs-requires-in-Two
write_disj-write_longs-requires-in-Two t c = (omega (arith, c.decreases), (c.requires.placed, (c.requires.tallied.1, c.requires.tallied.2)))

pub write_disj-write_longs-p-requires : goal.write_disj-write_longs-p-requires
write_disj-write_longs-p-requires t c = (omega (arith, c.decreases), (c.requires.placed, (c.requires.tallied.1, c.requires.tallied.2)))

pub write_disj-put_pool-requires-in-Each : goal.write_disj-put_pool-requires-in-Each
write_disj-put_pool-requires-in-Each t c = record { placed = (c.requires.placed.0, open_next c.requires.placed.1 c.write_longs-p.ensures, c.requires.placed.2); tallied = (c.requires.tallied.0, stack_down 0 c.requires.tallied.1 (omega arith), c.requires.tallied.2) }

pub write_disj-shape_of-out-in-Pool : goal.write_disj-shape_of-out-in-Pool
write_disj-shape_of-out-in-Pool t c = wrote_length c.put_pool.ensures

pub write_disj-returns-in-Pool : goal.write_disj-returns-in-Pool
write_disj-returns-in-Pool t c = disj_pool _ _ _ _ _ c.args.x c.requires.tallied.0.unit (sym c.mode_of.ensures ∙ c.in-Pool.is) c.put_pool.ensures

pub write_disj-shape_of-out-in-One : goal.write_disj-shape_of-out-in-One
write_disj-shape_of-out-in-One t c = wrote_length c.write_longs.ensures

pub write_disj-returns-in-One : goal.write_disj-returns-in-One
write_disj-returns-in-One t c =
    let a = c.args in
    let w = a.work.now in
    let one = c.pools.new.out in
    let f : SFits w32 (get_or one 0 (pos 0)) = sfits_of c.y-1.given in
    let i : length (pools (items_at w a.left (split_by a.m) a.count a.g a.h a.at a.base) true w a.n) ≡ a.x.lits =
    items_lits (many (decode (read_part w) a.left (split_by a.m)) a.count a.g a.h a.at a.base).trees w a.n ∙ sym (ap (λ (t : Tally). t.lits) c.requires.tallied.0.unit) in
    let m = sym c.mode_of.ensures ∙ c.in-One.is in
    disj_pass _ _ _ _ _ a.x c.requires.tallied.0.unit _ m (rw (to_z-of_z f) (one_lit _ one _ a.x.longs a.x.lits a.x.cmps i m c.pools.ensures)) c.write_longs.ensures

pub write_disj-shape_of-out-in-Two : goal.write_disj-shape_of-out-in-Two
write_disj-shape_of-out-in-Two t c = wrote_length c.write_longs-in-Two.ensures

pub write_disj-returns-in-Two : goal.write_disj-returns-in-Two
write_disj-returns-in-Two t c = disj_two _ _ _ _ _ c.args.x c.requires.tallied.0.unit _ (sym c.mode_of.ensures ∙ c.in-Two.is) c.write_longs-in-Two.ensures

pub write_disj-shape_of-out-in-Each : goal.write_disj-shape_of-out-in-Each
write_disj-shape_of-out-in-Each t c = wrote_length c.put_pool-in-Each.ensures ∙ wrote_length c.write_longs-p.ensures

pub write_disj-returns-in-Each : goal.write_disj-returns-in-Each
write_disj-returns-in-Each t c = disj_each _ _ _ _ _ c.args.x c.requires.tallied.0.unit _ (sym c.mode_of.ensures ∙ c.in-Each.is) c.requires.placed.1 c.write_longs-p.ensures c.put_pool-in-Each.ensures

pub write_longs-loop-init : goal.write_longs-loop-init
write_longs-loop-init t c =
    let q : c.args.count - 0 ≡ c.args.count = omega arith in
    rw q ((sofar_none c.requires.placed.0 c.requires.placed.1 c.requires.placed.2, omega arith, λ d r y. y))

pub write_longs-probe-y-requires : goal.write_longs-probe-y-requires
write_longs-probe-y-requires t c = c.loop.invariant.0.placed

pub write_longs-loop-preserved-then-a-eq0 : goal.write_longs-loop-preserved-then-a-eq0
write_longs-loop-preserved-then-a-eq0 t c =
    let q : c.args.count - (c.loop.counter + 1) ≡ c.args.count - c.loop.counter - 1 = omega arith in
    let i = c.loop.invariant in
    let u = c.probe-y.ensures.single c.if-a-eq0.true in
    rw q ((sofar_skip i.0 (omega arith) u.skips (rw c.counters-e.ensures u.found.low), omega (arith, i.1, u.found.room), λ d r v. i.2 d r (longs_skip c.args.work.now _ _ _ _ _ _ _ _ _ (omega arith) _ u _ _ _ _ c.if-a-eq0.true (rw c.counters-e.ensures at v))))

pub write_longs-pushed-requires : goal.write_longs-pushed-requires
write_longs-pushed-requires t c =
    let i = c.loop.invariant in
    (stack_down 1 c.requires.stacked.0 (omega arith), c.requires.stacked.1, omega (arith, i.1, i.0.placed.inside))

pub write_longs-write-z-requires : goal.write_longs-write-z-requires
write_longs-write-z-requires t c =
    let i = c.loop.invariant.0 in
    (omega (arith, c.decreases), ((i.placed, i.opened, sofar_head i (omega arith)), record { size = c.pushed.ensures.2.size; room = omega (arith, c.pushed.ensures.1, c.requires.stacked.0.room); inside = c.pushed.ensures.2.inside }))

pub write_longs-overflow_add-j : goal.write_longs-overflow_add-j
write_longs-overflow_add-j t c = omega (arith, c.loop.invariant.1, c.loop.invariant.0.placed.inside)

pub write_longs-loop-preserved : goal.write_longs-loop-preserved
write_longs-loop-preserved t c =
    let q : c.args.count - (c.loop.counter + 1) ≡ c.args.count - c.loop.counter - 1 = omega arith in
    let i = c.loop.invariant in
    let e = c.write-z.ensures in
    let b = long_seen c.probe-y.ensures c.if-a-eq0.false e.0 in
    rw q ((sofar_more i.0 (omega arith) e.0.skips (rw c.counters-e-in-loop.ensures e.0.found.low) e.1, omega (arith, i.1, e.0.found.room, b), λ d r v. i.2 d r (longs_more c.args.work.now _ _ _ _ _ _ _ _ _ (omega arith) _ e.0 _ _ _ _ b i.0.opened _ c.pushed.ensures.0 e.1 (rw c.counters-e-in-loop.ensures at v))))

pub write_longs-shape_of-out : goal.write_longs-shape_of-out
write_longs-shape_of-out t c = c.loop.invariant.0.same

pub write_longs-returns : goal.write_longs-returns
write_longs-returns t c = c.loop.invariant.2 _ _ (longs_none c.args.work.now _ _ _ _ _ _ _ _ _ _ _ _ _ (omega arith) c.loop.invariant.0.opened)
