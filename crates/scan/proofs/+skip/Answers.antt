use Prim.Native.Nat.{◌+◌, ◌-◌}
use mathlib.Core.Path.{◌≡◌, refl, sym, ◌∙◌}
use mathlib.Core.Bool.{false}
use native.Mathlib.Omega.{arith}
use Rattle.walk.proofs.NumberingSteps.{part_length}
use Rattle.scan.specs.Nodes.{okay_at}
use Rattle.scan.specs.Skip.{split_by, inside_low, skips_none, skips_var, skips_cmp, skips_not, skips_join, skips_cross, int_none, int_leaf, int_sum, int_if, skipping_first, skipping_next, skipping_last, terms_first, terms_next, terms_leaf, terms_last}
use Rattle.scan.proofs.+skip.Goals as goal

pub skip-returns-then-left-eq0 : goal.skip-returns-then-left-eq0
skip-returns-then-left-eq0 t c = skips_none c.args.work.now c.requires.0 _ _ _ _ c.requires.1.0 c.requires.1.1 c.if-left-eq0.true

pub skip-node_at-requires : goal.skip-node_at-requires
skip-node_at-requires t c = (c.requires.0, c.requires.1.0)

pub skip-skip_int-a-requires : goal.skip-skip_int-a-requires
skip-skip_int-a-requires t c = let o = okay_at c.args.work.now false _ _ c.requires.0 c.requires.1.0 (sym c.in-Cmp.is ∙ c.node_at.ensures) in
    (omega (arith, c.decreases, c.if-left-eq0.false), (c.requires.0, (omega (arith, o.1, part_length c.args.work.now c.requires.0), c.requires.1.1)))

pub skip-skip_int-requires : goal.skip-skip_int-requires
skip-skip_int-requires t c = (omega (arith, c.decreases, c.if-left-eq0.false), (c.requires.0, (c.skip_int-a.ensures.inside, c.skip_int-a.ensures.low)))

pub skip-skip-requires : goal.skip-skip-requires
skip-skip-requires t c = let o = okay_at c.args.work.now false _ _ c.requires.0 c.requires.1.0 (sym c.in-Not.is ∙ c.node_at.ensures) in
    (omega (arith, c.decreases, c.if-left-eq0.false), (c.requires.0, (omega (arith, o.1, part_length c.args.work.now c.requires.0), c.requires.1.1)))

pub skip-skips-requires : goal.skip-skips-requires
skip-skips-requires t c = let o = okay_at c.args.work.now false _ _ c.requires.0 c.requires.1.0 (sym c.in-Join.is ∙ c.node_at.ensures) in
    (omega (arith, c.decreases, c.if-left-eq0.false), (c.requires.0, (omega (arith, o.1, part_length c.args.work.now c.requires.0), c.requires.1.1)))

pub skip-skips-requires-in-Cross : goal.skip-skips-requires-in-Cross
skip-skips-requires-in-Cross t c = let o = okay_at c.args.work.now false _ _ c.requires.0 c.requires.1.0 (sym c.in-Cross.is ∙ c.node_at.ensures) in
    (omega (arith, c.decreases, c.if-left-eq0.false), (c.requires.0, (omega (arith, o.1, part_length c.args.work.now c.requires.0), inside_low (split_by c.args.m) _ _ c.inside_base.ensures c.requires.1.1)))

pub skip-returns-in-Var : goal.skip-returns-in-Var
skip-returns-in-Var t c = skips_var c.args.work.now c.requires.0 _ _ _ _ c.requires.1.0 c.requires.1.1 _ c.if-left-eq0.false refl false _ _ (sym c.in-Var.is ∙ c.node_at.ensures)

pub skip-returns-in-Cmp : goal.skip-returns-in-Cmp
skip-returns-in-Cmp t c = skips_cmp c.args.work.now c.requires.0 _ _ _ _ c.requires.1.0 c.requires.1.1 _ c.if-left-eq0.false refl false _ _ _ _ _ _ _ (sym c.in-Cmp.is ∙ c.node_at.ensures) c.inner-j.ensures c.skip_int-a.ensures c.skip_int.ensures

pub skip-returns-in-Not : goal.skip-returns-in-Not
skip-returns-in-Not t c = skips_not c.args.work.now c.requires.0 _ _ _ _ c.requires.1.0 c.requires.1.1 _ c.if-left-eq0.false refl false _ _ _ (sym c.in-Not.is ∙ c.node_at.ensures) c.skip.ensures

pub skip-returns-in-Join : goal.skip-returns-in-Join
skip-returns-in-Join t c = skips_join c.args.work.now c.requires.0 _ _ _ _ c.requires.1.0 c.requires.1.1 _ c.if-left-eq0.false refl false _ _ _ _ _ _ _ (sym c.in-Join.is ∙ c.node_at.ensures) c.skips.ensures

pub skip-returns-in-Cross : goal.skip-returns-in-Cross
skip-returns-in-Cross t c = skips_cross c.args.work.now c.requires.0 _ _ _ _ c.requires.1.0 c.requires.1.1 _ c.if-left-eq0.false refl false _ _ _ _ _ _ (sym c.in-Cross.is ∙ c.node_at.ensures) c.inner.ensures c.inside_base.ensures c.skips-in-Cross.ensures

pub skip_int-returns-then-left-eq0 : goal.skip_int-returns-then-left-eq0
skip_int-returns-then-left-eq0 t c = int_none c.args.work.now c.requires.0 _ _ _ _ c.requires.1.0 c.requires.1.1 c.if-left-eq0.true

pub skip_int-skip_terms-requires : goal.skip_int-skip_terms-requires
skip_int-skip_terms-requires t c = (omega (arith, c.decreases, c.if-left-eq0.false), (c.requires.0, (omega (arith, c.within-two.ensures), c.requires.1.1)))

pub skip_int-skip-c-requires : goal.skip_int-skip-c-requires
skip_int-skip-c-requires t c = (omega (arith, c.decreases, c.if-left-eq0.false), (c.requires.0, (omega (arith, c.within-one.ensures), c.requires.1.1)))

pub skip_int-skip_int-t-requires : goal.skip_int-skip_int-t-requires
skip_int-skip_int-t-requires t c = (omega (arith, c.decreases, c.if-left-eq0.false), (c.requires.0, (c.skip-c.ensures.inside, c.skip-c.ensures.low)))

pub skip_int-skip_int-requires : goal.skip_int-skip_int-requires
skip_int-skip_int-requires t c = (omega (arith, c.decreases, c.if-left-eq0.false), (c.requires.0, (c.skip_int-t.ensures.inside, c.skip_int-t.ensures.low)))

pub skip_int-returns-in-22 : goal.skip_int-returns-in-22
skip_int-returns-in-22 t c = int_sum c.args.work.now c.requires.0 _ _ _ _ c.requires.1.0 c.requires.1.1 _ c.if-left-eq0.false refl _ _ _ _ _ c.word.ensures c.in-22.is c.within-two.ensures c.word-x.ensures c.skip_terms.ensures

pub skip_int-returns-in-23 : goal.skip_int-returns-in-23
skip_int-returns-in-23 t c = int_if c.args.work.now c.requires.0 _ _ _ _ c.requires.1.0 c.requires.1.1 _ c.if-left-eq0.false refl _ _ _ _ _ _ _ _ c.word.ensures c.in-23.is c.within-one.ensures c.skip-c.ensures c.skip_int-t.ensures c.skip_int.ensures

pub skip_int-returns-in_default : goal.skip_int-returns-in_default
skip_int-returns-in_default t c = int_leaf c.args.work.now c.requires.0 _ _ _ _ c.requires.1.0 c.requires.1.1 _ c.if-left-eq0.false refl _ _ c.word.ensures c.in_default.in_default-own.rest.0.1 c.in_default.in_default-own.rest.1 c.within-two.ensures

pub skip_terms-loop-init : goal.skip_terms-loop-init
skip_terms-loop-init t c = let e : c.args.count - 0 ≡ c.args.count = omega arith in rw e (terms_first _ _ _ _ _ _ c.requires.1.0 c.requires.1.1)

pub skip_terms-is_leaf-requires : goal.skip_terms-is_leaf-requires
skip_terms-is_leaf-requires t c = c.requires.0

pub skip_terms-overflow_add-q : goal.skip_terms-overflow_add-q
skip_terms-overflow_add-q t c = omega (arith, (c.is_leaf.ensures c.if-is_leaf.true).1)

pub skip_terms-loop-preserved-then-is_leaf : goal.skip_terms-loop-preserved-then-is_leaf
skip_terms-loop-preserved-then-is_leaf t c = let e : c.args.count - (c.loop.counter + 1) ≡ c.args.count - c.loop.counter - 1 = omega arith in rw e (terms_leaf _ _ _ _ _ _ c.requires.0 _ _ _ c.loop.invariant (omega arith) (c.is_leaf.ensures c.if-is_leaf.true))

pub skip_terms-skip_int-s-requires : goal.skip_terms-skip_int-s-requires
skip_terms-skip_int-s-requires t c = (omega (arith, c.decreases), (c.requires.0, (omega (arith, c.within-p.ensures), c.loop.invariant.low)))

pub skip_terms-loop-preserved : goal.skip_terms-loop-preserved
skip_terms-loop-preserved t c = let e : c.args.count - (c.loop.counter + 1) ≡ c.args.count - c.loop.counter - 1 = omega arith in rw e (terms_next _ _ _ _ _ _ c.requires.0 _ _ _ _ _ _ c.loop.invariant (omega arith) c.within-p.ensures c.skip_int-s.ensures)

pub skip_terms-returns : goal.skip_terms-returns
skip_terms-returns t c = terms_last _ _ _ _ _ _ _ _ _ c.loop.invariant (omega arith)

pub skips-loop-init : goal.skips-loop-init
skips-loop-init t c = let e : c.args.count - 0 ≡ c.args.count = omega arith in rw e (skipping_first _ _ _ _ _ _ c.requires.1.0 c.requires.1.1)

pub skips-literal_words-requires : goal.skips-literal_words-requires
skips-literal_words-requires t c = c.requires.0

pub skips-overflow_add-q : goal.skips-overflow_add-q
skips-overflow_add-q t c = let s = c.in-Some.ensures (split_by c.args.m) _ c.loop.invariant.low in omega (arith, s.inside)

pub skips-loop-preserved-in-Some : goal.skips-loop-preserved-in-Some
skips-loop-preserved-in-Some t c = let e : c.args.count - (c.loop.counter + 1) ≡ c.args.count - c.loop.counter - 1 = omega arith in rw e (skipping_next _ _ _ _ _ _ _ _ _ _ _ c.loop.invariant (omega arith) (c.in-Some.ensures _ _ c.loop.invariant.low))

pub skips-skip-s-requires : goal.skips-skip-s-requires
skips-skip-s-requires t c = (omega (arith, c.decreases), (c.requires.0, (c.loop.invariant.inside, c.loop.invariant.low)))

pub skips-loop-preserved : goal.skips-loop-preserved
skips-loop-preserved t c = let e : c.args.count - (c.loop.counter + 1) ≡ c.args.count - c.loop.counter - 1 = omega arith in rw e (skipping_next _ _ _ _ _ _ _ _ _ _ _ c.loop.invariant (omega arith) c.skip-s.ensures)

pub skips-returns : goal.skips-returns
skips-returns t c = skipping_last _ _ _ _ _ _ _ _ _ c.loop.invariant (omega arith)
