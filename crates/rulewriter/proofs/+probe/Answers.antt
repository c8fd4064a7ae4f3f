use Prim.Native.Nat.{◌+◌, ◌-◌}
use mathlib.Core.Path.{◌≡◌, refl, sym, ap, ◌∙◌, subst}
use native.Mathlib.Omega.{arith}
use Rattle.walk.specs.Decode.{added}
use Rattle.walk.specs.declared.Counters.{Counters}
use Rattle.scan.specs.Skip.{split_by}
use Rattle.scan.specs.SurveyLaws.{counters_of, sofar_none, sofar_more}
use Rattle.survey.proofs.Leaves.{join_is}
use Rattle.rulewriter.specs.Places.{ProbedAll}
use Rattle.rulewriter.proofs.Steps.{okay, placed_at}
use Rattle.rulewriter.proofs.Longer.{probed_found, probed_not, probed_conj, probed_cross, probed_disj, probed_stop, probed_end}
use Rattle.rulewriter.proofs.+probe.Goals as goal

pub probe-survey-requires : goal.probe-survey-requires
probe-survey-requires t c = let p = c.requires in (p.size, (p.inside, (p.low_base, p.low)))

pub probe-returns-then-left-eq0 : goal.probe-returns-then-left-eq0
probe-returns-then-left-eq0 t c = probed_found c.survey.ensures

pub probe-node_at-requires : goal.probe-node_at-requires
probe-node_at-requires t c = (c.requires.size, c.requires.inside)

pub probe-probe-requires : goal.probe-probe-requires
probe-probe-requires t c = let o = okay c.args.g _ c.requires (sym c.in-Not.is ∙ c.node_at.ensures) in (omega (arith, c.decreases, c.if-left-eq0.false), placed_at _ c.requires o.1)

pub probe-probes-s-requires : goal.probe-probes-s-requires
probe-probes-s-requires t c = let o = okay c.args.g _ c.requires (sym c.in-Join.is ∙ c.node_at.ensures) in (omega (arith, c.decreases, c.if-left-eq0.false), placed_at _ c.requires o.1)

pub probe-returns-then-d : goal.probe-returns-then-d
probe-returns-then-d t c = probed_disj c.args.work.now _ _ _ _ _ _ _ c.requires c.if-left-eq0.false refl _ _ _ _ _ _ _ (join_is (sym c.in-Join.is ∙ c.node_at.ensures) c.if-d.true) c.probes-s.ensures c.close_disj.ensures c.with_ints.ensures

pub probe-survey-requires-in_default : goal.probe-survey-requires-in_default
probe-survey-requires-in_default t c = let p = c.requires in (p.size, (p.inside, (p.low_base, p.low)))

pub probe-returns-in-Not : goal.probe-returns-in-Not
probe-returns-in-Not t c = probed_not c.args.work.now _ _ _ _ _ _ _ c.requires c.if-left-eq0.false refl _ _ (sym c.in-Not.is ∙ c.node_at.ensures) c.probe.ensures

pub probe-returns-else-d : goal.probe-returns-else-d
probe-returns-else-d t c = probed_conj c.args.work.now _ _ _ _ _ _ _ c.requires c.if-left-eq0.false refl _ _ _ _ _ (join_is (sym c.in-Join.is ∙ c.node_at.ensures) c.if-d.false) _ _ c.with_ints-in-Join.ensures c.longer.ensures

pub probe-returns-in-Cross : goal.probe-returns-in-Cross
probe-returns-in-Cross t c = probed_cross c.args.work.now _ _ _ _ _ _ _ c.requires c.if-left-eq0.false refl _ _ _ (sym c.in-Cross.is ∙ c.node_at.ensures) _ _ c.with_ints-in-Cross.ensures c.longer-in-Cross.ensures

pub probe-returns-in_default : goal.probe-returns-in_default
probe-returns-in_default t c = probed_found c.survey-in_default.ensures

pub probes-loop-init : goal.probes-loop-init
probes-loop-init t c =
    let q : c.args.count - 0 ≡ c.args.count = omega arith in
    let p = c.requires in rw q (rw c.no_members-r.ensures (sofar_none c.args.work.now _ _ _ _ _ _ _ _ p.inside p.low_base p.low, refl))

pub probes-probe-s-requires : goal.probes-probe-s-requires
probes-probe-s-requires t c =
    let i = c.loop.invariant.0 in
    (omega (arith, c.decreases), record { size = c.requires.size; inside = i.skips.inside; low_base = i.skips.low; low = rw c.counters.ensures i.low })

pub probes-returns-then-q-ne0 : goal.probes-returns-then-q-ne0
probes-returns-then-q-ne0 t c =
    let e : counters_of c.no_members-r.result ≡ c.args.n = ap counters_of c.no_members-r.ensures in
    subst (λ (k : Counters). ProbedAll c.args.work.now c.args.left (split_by c.args.m) c.args.count c.args.g c.args.h c.args.at c.args.base k c.probe-s.result) e (probed_stop _ _ _ _ _ _ _ _ _ _ _ _ c.loop.invariant.0 c.probe-s.result (omega arith) (rw c.counters.ensures at c.probe-s.ensures) c.if-q-ne0.true)

pub probes-add_member-requires : goal.probes-add_member-requires
probes-add_member-requires t c =
    let i = c.loop.invariant.0 in
    let e = c.probe-s.ensures.single c.if-q-ne0.false in
    omega (arith, i.room, e.found.room, e.skips.inside)

pub probes-loop-preserved : goal.probes-loop-preserved
unfolding added
probes-loop-preserved t c =
    let q : c.args.count - (c.loop.counter + 1) ≡ c.args.count - c.loop.counter - 1 = omega arith in
    let i = c.loop.invariant in
    let z = c.if-q-ne0.false in
    let y = c.probe-s.ensures.single z in
    rw q (rw c.with_ints-r.ensures (sofar_more _ _ _ _ _ _ _ _ _ _ _ _ _ _ i.0 (omega arith) (rw c.counters.ensures at y) c.add_member.ensures, rw c.add_member.ensures (omega (arith, i.1, z))))

pub probes-returns : goal.probes-returns
probes-returns t c =
    let e : counters_of c.no_members-r.result ≡ c.args.n = ap counters_of c.no_members-r.ensures in
    subst (λ (k : Counters). ProbedAll c.args.work.now c.args.left (split_by c.args.m) c.args.count c.args.g c.args.h c.args.at c.args.base k c.loop.r) e (probed_end _ _ _ _ _ _ _ _ _ _ _ _ c.loop.invariant.0 (omega arith) c.loop.invariant.1)
