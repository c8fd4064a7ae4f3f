use Prim.Native.Nat.{◌+◌, ◌-◌}
use mathlib.Core.Path.{◌≡◌, refl, sym, ap, ◌∙◌}
use mathlib.Core.Bool.{false}
use native.Mathlib.Omega.{arith}
use Rattle.walk.specs.Item.{bump}
use Rattle.walk.proofs.NumberingSteps.{part_length}
use Rattle.scan.specs.Nodes.{okay_at}
use Rattle.scan.specs.Skip.{inside_same, skips_none, skips_var, skips_cmp, skips_not, skips_join, skips_cross}
use Rattle.scan.specs.LeafLaws.{as_counted, leaves_none, leaves_var, leaves_cmp, leaves_not, leaves_join, leaves_split, leaves_cross, leaving_first, leaving_next, leaving_last, split_here, not_here}
use Rattle.scan.proofs.+leaves.Goals as goal

pub leaves-returns-then-left-eq0 : goal.leaves-returns-then-left-eq0
leaves-returns-then-left-eq0 t c = as_counted _ _ _ _ _ _ _ _ _ _ c.leaf_count.ensures (leaves_none _ _ _ _ _ _ _ c.if-left-eq0.true (skips_none c.args.work.now c.requires.0 _ _ _ _ c.requires.1.0 c.requires.1.1 c.if-left-eq0.true))

pub leaves-node_at-requires : goal.leaves-node_at-requires
leaves-node_at-requires t c = (c.requires.0, c.requires.1.0)

pub leaves-skip_int-a-requires : goal.leaves-skip_int-a-requires
leaves-skip_int-a-requires t c = let o = okay_at c.args.work.now false _ _ c.requires.0 c.requires.1.0 (sym c.in-Cmp.is ∙ c.node_at.ensures) in
    (c.requires.0, (omega (arith, o.1, part_length c.args.work.now c.requires.0), c.requires.1.1))

pub leaves-skip_int-c-requires : goal.leaves-skip_int-c-requires
leaves-skip_int-c-requires t c = (c.requires.0, (c.skip_int-a.ensures.inside, c.skip_int-a.ensures.low))

pub leaves-leaves-s-requires : goal.leaves-leaves-s-requires
leaves-leaves-s-requires t c = let o = okay_at c.args.work.now false _ _ c.requires.0 c.requires.1.0 (sym c.in-Not.is ∙ c.node_at.ensures) in
    (omega (arith, c.decreases, c.if-left-eq0.false), (c.requires.0, (omega (arith, o.1, part_length c.args.work.now c.requires.0), c.requires.1.1)))

pub leaves-leaves_all-requires : goal.leaves-leaves_all-requires
leaves-leaves_all-requires t c = let o = okay_at c.args.work.now false _ _ c.requires.0 c.requires.1.0 (sym c.in-Join.is ∙ c.node_at.ensures) in
    (omega (arith, c.decreases, c.if-left-eq0.false), (c.requires.0, (omega (arith, o.1, part_length c.args.work.now c.requires.0), c.requires.1.1)))

pub leaves-leaves_all-s-requires : goal.leaves-leaves_all-s-requires
leaves-leaves_all-s-requires t c = let o = okay_at c.args.work.now false _ _ c.requires.0 c.requires.1.0 (sym c.in-Cross.is ∙ c.node_at.ensures) in
    (omega (arith, c.decreases, c.if-left-eq0.false), (c.requires.0, (omega (arith, o.1, part_length c.args.work.now c.requires.0), c.requires.1.1)))

pub leaves-returns-then-m-le1 : goal.leaves-returns-then-m-le1
leaves-returns-then-m-le1 t c = as_counted _ _ _ _ _ _ _ _ _ _ c.leaf_count-then-m-le1.ensures (leaves_cross _ _ _ _ _ _ _ (skips_cross c.args.work.now c.requires.0 _ _ _ _ c.requires.1.0 c.requires.1.1 _ c.if-left-eq0.false refl false _ _ _ _ _ _ (sym c.in-Cross.is ∙ c.node_at.ensures) c.inner.ensures (inside_same c.args.m _ (omega (arith, c.if-m-le1.true))) c.leaves_all-s.ensures.skips) _ c.if-left-eq0.false refl _ _ _ _ _ _ _ _ c.bump-t.ensures (not_here c.args.m (omega (arith, c.if-m-le1.true))) (sym c.in-Cross.is ∙ c.node_at.ensures) c.inner.ensures c.leaves_all-s.ensures)

pub leaves-skip-s-requires : goal.leaves-skip-s-requires
leaves-skip-s-requires t c = (c.requires.0, (c.requires.1.0, c.requires.1.1))

pub leaves-returns-in-Var : goal.leaves-returns-in-Var
leaves-returns-in-Var t c = as_counted _ _ _ _ _ _ _ _ _ _ c.leaf_count-in-Var.ensures (leaves_var _ _ _ _ _ _ _ (skips_var c.args.work.now c.requires.0 _ _ _ _ c.requires.1.0 c.requires.1.1 _ c.if-left-eq0.false refl false _ _ (sym c.in-Var.is ∙ c.node_at.ensures)) _ c.if-left-eq0.false refl _ _ (sym c.in-Var.is ∙ c.node_at.ensures))

pub leaves-returns-in-Cmp : goal.leaves-returns-in-Cmp
leaves-returns-in-Cmp t c = as_counted _ _ _ _ _ _ _ _ _ _ c.leaf_count-in-Cmp.ensures (leaves_cmp _ _ _ _ _ _ _ (skips_cmp c.args.work.now c.requires.0 _ _ _ _ c.requires.1.0 c.requires.1.1 _ c.if-left-eq0.false refl false _ _ _ _ _ _ _ (sym c.in-Cmp.is ∙ c.node_at.ensures) c.inner-j.ensures c.skip_int-a.ensures c.skip_int-c.ensures) _ c.if-left-eq0.false refl _ _ (sym c.in-Cmp.is ∙ c.node_at.ensures))

pub leaves-returns-in-Not : goal.leaves-returns-in-Not
leaves-returns-in-Not t c = as_counted _ _ _ _ _ _ _ _ _ _ c.leaf_count-in-Not.ensures (leaves_not _ _ _ _ _ _ _ (skips_not c.args.work.now c.requires.0 _ _ _ _ c.requires.1.0 c.requires.1.1 _ c.if-left-eq0.false refl false _ _ _ (sym c.in-Not.is ∙ c.node_at.ensures) c.leaves-s.ensures.skips) _ c.if-left-eq0.false refl _ _ _ _ _ (sym c.in-Not.is ∙ c.node_at.ensures) c.leaves-s.ensures)

pub leaves-returns-in-Join : goal.leaves-returns-in-Join
leaves-returns-in-Join t c = leaves_join _ _ _ _ _ _ _ (skips_join c.args.work.now c.requires.0 _ _ _ _ c.requires.1.0 c.requires.1.1 _ c.if-left-eq0.false refl false _ _ _ _ _ _ _ (sym c.in-Join.is ∙ c.node_at.ensures) c.leaves_all.ensures.skips) _ c.if-left-eq0.false refl _ _ _ _ _ _ _ _ _ (sym c.in-Join.is ∙ c.node_at.ensures) c.leaves_all.ensures

pub leaves-returns-else-m-le1 : goal.leaves-returns-else-m-le1
leaves-returns-else-m-le1 t c = as_counted _ _ _ _ _ _ _ _ _ _ c.leaf_count-in-Cross.ensures (leaves_split _ _ _ _ _ _ _ c.skip-s.ensures _ c.if-left-eq0.false refl _ _ (split_here c.args.m (omega (arith, c.if-m-le1.false))) (sym c.in-Cross.is ∙ c.node_at.ensures))

pub leaves_all-loop-init : goal.leaves_all-loop-init
leaves_all-loop-init t c = let e : c.args.count - 0 ≡ c.args.count = omega arith in rw e (leaving_first _ _ _ _ _ _ _ _ c.requires.1.0 c.requires.1.1)

pub leaves_all-leaves-s-requires : goal.leaves_all-leaves-s-requires
leaves_all-leaves-s-requires t c = (omega (arith, c.decreases), (c.requires.0, (c.loop.invariant.skips.inside, c.loop.invariant.skips.low)))

pub leaves_all-loop-preserved : goal.leaves_all-loop-preserved
leaves_all-loop-preserved t c = let e : c.args.count - (c.loop.counter + 1) ≡ c.args.count - c.loop.counter - 1 = omega arith in rw e (leaving_next _ _ _ _ _ _ _ _ _ _ _ _ _ _ _ _ _ _ _ _ c.loop.invariant (omega arith) c.leaves-s.ensures (c.bump-x.ensures ∙ ap (bump c.loop.x) c.swapped.ensures) (c.bump-y.ensures ∙ ap (bump c.loop.y) c.swapped-in-loop.ensures))

pub leaves_all-returns : goal.leaves_all-returns
leaves_all-returns t c = leaving_last _ _ _ _ _ _ _ _ _ _ _ _ _ _ c.loop.invariant (omega arith)
