use mathlib.Core.Path.{refl, sym, ◌∙◌}
use native.Mathlib.Omega.{arith}
use Rattle.laws.specs.Writes.{wrote_length}
use Rattle.survey.proofs.Leaves.{join_is}
use Rattle.rulewriter.proofs.Steps.{okay, placed_at, fit_cmp, fit_not, fit_join, sofar_none, sofar_more, sofar_skip, sofar_head}
use Rattle.rulewriter.proofs.PoolLaws.{pool_none, single_not, pool_var, pool_cmp, pool_not, pool_disj, pool_conj, pool_cross, pools_none, pools_more, pools_next, some_left, share_not, share_disj, share_rest, share_long, share_found, single_found, pool_skip}
use Rattle.rulewriter.proofs.+pool.Goals as goal

pub pool-returns-then-left-eq0 : goal.pool-returns-then-left-eq0
pool-returns-then-left-eq0 t c = pool_none c.args.work.now _ _ _ _ _ _ _ c.if-left-eq0.true c.requires.placed.1

pub pool-node_at-requires : goal.pool-node_at-requires
pool-node_at-requires t c = (c.requires.placed.0.size, c.requires.placed.0.inside)

pub pool-pool_var-requires : goal.pool-pool_var-requires
pool-pool_var-requires t c = ((okay c.args.g _ c.requires.placed.0 (sym c.in-Var.is ∙ c.node_at.ensures)).2, c.requires.placed.1)

pub pool-pool_cmp-requires : goal.pool-pool_cmp-requires
pool-pool_cmp-requires t c =
    let e = sym c.in-Cmp.is ∙ c.node_at.ensures in
    let o = okay c.args.g _ c.requires.placed.0 e in
    (placed_at _ c.requires.placed.0 o.1, c.requires.placed.1, fit_cmp c.args.work.now _ _ _ _ _ _ c.if-left-eq0.false refl _ c.inner.ensures _ _ e c.requires.placed.2)

pub pool-pool-requires : goal.pool-pool-requires
pool-pool-requires t c =
    let e = sym c.in-Not.is ∙ c.node_at.ensures in
    let o = okay c.args.g _ c.requires.placed.0 e in
    (omega (arith, c.decreases, c.if-left-eq0.false), ((placed_at _ c.requires.placed.0 o.1, c.requires.placed.1, fit_not c.args.work.now _ _ _ _ _ _ c.if-left-eq0.false refl _ e c.requires.placed.2), (single_not c.args.work.now _ _ _ _ _ _ c.if-left-eq0.false refl _ e c.requires.base_value.0, share_not c.args.work.now _ _ _ _ _ _ c.if-left-eq0.false refl c.args.b c.args.j _ e c.requires.base_value.1)))

pub pool-pools-requires : goal.pool-pools-requires
pool-pools-requires t c =
    let e = sym c.in-Join.is ∙ c.node_at.ensures in
    let o = okay c.args.g _ c.requires.placed.0 e in
    (omega (arith, c.decreases, c.if-left-eq0.false), ((placed_at _ c.requires.placed.0 o.1, c.requires.placed.1, fit_join c.args.work.now _ _ _ _ _ _ c.if-left-eq0.false refl _ _ _ _ _ e c.requires.placed.2), share_disj c.args.work.now _ _ _ _ _ _ c.if-left-eq0.false refl c.args.b c.args.j _ _ _ _ (join_is (sym c.in-Join.is ∙ c.node_at.ensures) c.if-d.true) c.requires.base_value.0 c.requires.base_value.1))

pub pool-shape_of-out-then-d : goal.pool-shape_of-out-then-d
pool-shape_of-out-then-d t c = wrote_length c.pools.ensures

pub pool-returns-then-d : goal.pool-returns-then-d
pool-returns-then-d t c = pool_disj c.args.work.now _ _ _ _ _ _ c.if-left-eq0.false refl _ _ _ _ _ _ _ _ _ _ (join_is (sym c.in-Join.is ∙ c.node_at.ensures) c.if-d.true) c.requires.base_value.0 c.pools.ensures

pub pool-shape_of-out-in-Var : goal.pool-shape_of-out-in-Var
pool-shape_of-out-in-Var t c = wrote_length c.pool_var.ensures

pub pool-returns-in-Var : goal.pool-returns-in-Var
pool-returns-in-Var t c = pool_var c.args.work.now _ _ _ _ _ _ c.if-left-eq0.false refl _ _ _ _ _ _ _ _ (sym c.in-Var.is ∙ c.node_at.ensures) c.pool_var.ensures

pub pool-shape_of-out-in-Cmp : goal.pool-shape_of-out-in-Cmp
pool-shape_of-out-in-Cmp t c = wrote_length c.pool_cmp.ensures

pub pool-returns-in-Cmp : goal.pool-returns-in-Cmp
pool-returns-in-Cmp t c = pool_cmp c.args.work.now _ _ _ _ _ _ c.if-left-eq0.false refl _ _ _ _ _ _ _ _ _ c.inner.ensures (sym c.in-Cmp.is ∙ c.node_at.ensures) c.pool_cmp.ensures

pub pool-shape_of-out-in-Not : goal.pool-shape_of-out-in-Not
pool-shape_of-out-in-Not t c = wrote_length c.pool.ensures

pub pool-returns-in-Not : goal.pool-returns-in-Not
pool-returns-in-Not t c = pool_not c.args.work.now _ _ _ _ _ _ c.if-left-eq0.false refl _ _ _ _ _ _ _ (sym c.in-Not.is ∙ c.node_at.ensures) c.pool.ensures

pub pool-returns-else-d : goal.pool-returns-else-d
pool-returns-else-d t c = pool_conj c.args.work.now _ _ _ _ _ _ c.if-left-eq0.false refl _ _ c.requires.placed.1 _ _ _ _ (join_is (sym c.in-Join.is ∙ c.node_at.ensures) c.if-d.false)

pub pool-returns-in-Cross : goal.pool-returns-in-Cross
pool-returns-in-Cross t c = pool_cross c.args.work.now _ _ _ _ _ _ c.if-left-eq0.false refl _ _ c.requires.placed.1 _ _ (sym c.in-Cross.is ∙ c.node_at.ensures)

pub pools-loop-k-init : goal.pools-loop-k-init
pools-loop-k-init t c = (sofar_none c.requires.placed.0 c.requires.placed.1 c.requires.placed.2, c.requires.j_value, λ d r x. x)

pub pools-probe-s-requires : goal.pools-probe-s-requires
pools-probe-s-requires t c = c.loop-k.invariant.0.placed

pub pools-pool-p-requires : goal.pools-pool-p-requires
pools-pool-p-requires t c =
    let z = some_left c.args.work.now _ _ _ _ _ _ _ c.args.b _ c.loop-k.invariant.1 c.loop-k-test.true in
    let i = c.loop-k.invariant.0 in
    let v = c.probe-s.ensures.single c.if-a-eq0.true in
    (omega (arith, c.decreases), ((i.placed, i.opened, sofar_head i z), (single_found _ v c.if-a-eq0.true, share_found c.args.b _ _ v c.found-x.ensures)))

pub pools-overflow_sub-k : goal.pools-overflow_sub-k
pools-overflow_sub-k t c =
    let z = some_left c.args.work.now _ _ _ _ _ _ _ c.args.b _ c.loop-k.invariant.1 c.loop-k-test.true in
    let v = c.probe-s.ensures.single c.if-a-eq0.true in
    (share_rest c.args.work.now _ _ _ _ _ _ _ c.args.b _ c.loop-k.invariant.1 z _ _ v.skips _ (share_found c.args.b _ _ v c.found-x.ensures)).0

pub pools-overflow_sub-rest : goal.pools-overflow_sub-rest
pools-overflow_sub-rest t c = let z = some_left c.args.work.now _ _ _ _ _ _ _ c.args.b _ c.loop-k.invariant.1 c.loop-k-test.true in omega (arith, z)

pub pools-loop-k-smaller-then-a-eq0 : goal.pools-loop-k-smaller-then-a-eq0
pools-loop-k-smaller-then-a-eq0 t c = let z = some_left c.args.work.now _ _ _ _ _ _ _ c.args.b _ c.loop-k.invariant.1 c.loop-k-test.true in omega (arith, z)

pub pools-loop-k-preserved-then-a-eq0 : goal.pools-loop-k-preserved-then-a-eq0
pools-loop-k-preserved-then-a-eq0 t c =
    let i = c.loop-k.invariant in
    let z = some_left c.args.work.now _ _ _ _ _ _ _ c.args.b _ c.loop-k.invariant.1 c.loop-k-test.true in
    let v = c.probe-s.ensures.single c.if-a-eq0.true in
    let m = c.pool-p.ensures in
    let e = c.counters-e.ensures in
    (sofar_more i.0 z v.skips (rw e v.found.low) m, (share_rest c.args.work.now _ _ _ _ _ _ _ c.args.b _ i.1 z _ _ v.skips _ (share_found c.args.b _ _ v c.found-x.ensures)).1, λ d r x. i.2 d r (pools_next c.args.work.now _ _ _ _ _ _ _ _ _ z _ v _ e i.0.opened m x))

pub pools-pass-y-requires : goal.pools-pass-y-requires
pools-pass-y-requires t c = c.loop-k.invariant.0.placed

pub pools-overflow_sub-rest-in-loop-k : goal.pools-overflow_sub-rest-in-loop-k
pools-overflow_sub-rest-in-loop-k t c = let z = some_left c.args.work.now _ _ _ _ _ _ _ c.args.b _ c.loop-k.invariant.1 c.loop-k-test.true in omega (arith, z)

pub pools-loop-k-smaller : goal.pools-loop-k-smaller
pools-loop-k-smaller t c = let z = some_left c.args.work.now _ _ _ _ _ _ _ c.args.b _ c.loop-k.invariant.1 c.loop-k-test.true in omega (arith, z)

pub pools-loop-k-preserved : goal.pools-loop-k-preserved
pools-loop-k-preserved t c =
    let i = c.loop-k.invariant in
    let z = some_left c.args.work.now _ _ _ _ _ _ _ c.args.b _ c.loop-k.invariant.1 c.loop-k-test.true in
    let y = c.pass-y.ensures in
    let f = c.probe-s.ensures.longer c.if-a-eq0.false in
    let m = pool_skip c.args.work.now _ _ _ _ _ _ _ f i.0.opened in
    (sofar_skip i.0 z y.skips y.low, share_long c.args.work.now _ _ _ _ _ _ _ c.args.b _ i.1 z _ _ y.skips f, λ d r x. i.2 d r (pools_more c.args.work.now _ _ _ _ _ _ _ _ _ z _ _ y.skips _ (y.same _ _) i.0.opened m x))

pub pools-shape_of-out : goal.pools-shape_of-out
pools-shape_of-out t c = c.loop-k.invariant.0.same

pub pools-returns : goal.pools-returns
pools-returns t c = c.loop-k.invariant.2 _ _ (pools_none c.args.work.now _ _ _ _ _ _ _ c.args.b _ c.loop-k.invariant.1 c.loop-k-test.false _ c.loop-k.invariant.0.opened)
