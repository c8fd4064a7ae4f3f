use Prim.Native.Nat.{◌+◌, ◌-◌}
use mathlib.Core.Path.{◌≡◌, refl, sym, ◌∙◌}
use mathlib.Core.Bool.{false}
use native.Mathlib.Omega.{arith}
use Rattle.scan.specs.Nodes.{okay_at}
use Rattle.walk.proofs.NumberingSteps.{part_length}
use Rattle.stmtwords.proofs.Clearing.{clears_none, clears_var, clears_cmp, clears_not, clears_join, clears_cross, int_clears_none, int_clears_leaf, int_clears_sum, int_clears_if, clearing_first, clearing_next, clearing_last, term_clearing_first, term_clearing_next, term_clearing_last}
use Rattle.stmtwords.proofs.+clear.Goals as goal

pub clear_bool-returns-then-left-eq0 : goal.clear_bool-returns-then-left-eq0
clear_bool-returns-then-left-eq0 t c = clears_none c.args.work.now (omega (arith, c.requires.0)) _ _ _ c.requires.1.0 c.requires.1.1 c.if-left-eq0.true

pub clear_bool-node_at-requires : goal.clear_bool-node_at-requires
clear_bool-node_at-requires t c = ((omega (arith, c.requires.0)), c.requires.1.0)

pub clear_bool-clear_int-a-requires : goal.clear_bool-clear_int-a-requires
clear_bool-clear_int-a-requires t c = let o = okay_at c.args.work.now false _ _ (omega (arith, c.requires.0)) c.requires.1.0 (sym c.in-Cmp.is ∙ c.node_at.ensures) in ((omega (arith, c.decreases, c.if-left-eq0.false)), (c.requires.0, (omega (arith, o.1, part_length c.args.work.now (omega (arith, c.requires.0))), c.requires.1.1)))

pub clear_bool-clear_int-requires : goal.clear_bool-clear_int-requires
clear_bool-clear_int-requires t c = ((omega (arith, c.decreases, c.if-left-eq0.false)), (omega (arith, c.requires.0, c.clear_int-a.ensures.cleared.size), (c.clear_int-a.ensures.skips.inside, c.clear_int-a.ensures.skips.low)))

pub clear_bool-clear_bool-requires : goal.clear_bool-clear_bool-requires
clear_bool-clear_bool-requires t c = let o = okay_at c.args.work.now false _ _ (omega (arith, c.requires.0)) c.requires.1.0 (sym c.in-Not.is ∙ c.node_at.ensures) in ((omega (arith, c.decreases, c.if-left-eq0.false)), (c.requires.0, (omega (arith, o.1, part_length c.args.work.now (omega (arith, c.requires.0))), c.requires.1.1)))

pub clear_bool-clear_members-requires : goal.clear_bool-clear_members-requires
clear_bool-clear_members-requires t c = let o = okay_at c.args.work.now false _ _ (omega (arith, c.requires.0)) c.requires.1.0 (sym c.in-Join.is ∙ c.node_at.ensures) in ((omega (arith, c.decreases, c.if-left-eq0.false)), (c.requires.0, (omega (arith, o.1, part_length c.args.work.now (omega (arith, c.requires.0))), c.requires.1.1)))

pub clear_bool-clear_members-requires-in-Cross : goal.clear_bool-clear_members-requires-in-Cross
clear_bool-clear_members-requires-in-Cross t c = let o = okay_at c.args.work.now false _ _ (omega (arith, c.requires.0)) c.requires.1.0 (sym c.in-Cross.is ∙ c.node_at.ensures) in ((omega (arith, c.decreases, c.if-left-eq0.false)), (c.requires.0, (omega (arith, o.1, part_length c.args.work.now (omega (arith, c.requires.0))), omega (arith, c.bump.ensures))))

pub clear_bool-returns-in-Var : goal.clear_bool-returns-in-Var
clear_bool-returns-in-Var t c = clears_var c.args.work.now (omega (arith, c.requires.0)) _ _ _ c.requires.1.0 c.requires.1.1 _ c.if-left-eq0.false refl _ _ (sym c.in-Var.is ∙ c.node_at.ensures)

pub clear_bool-shape_of-work-in-Cmp : goal.clear_bool-shape_of-work-in-Cmp
clear_bool-shape_of-work-in-Cmp t c = c.clear_int.ensures.cleared.size ∙ c.clear_int-a.ensures.cleared.size

pub clear_bool-returns-in-Cmp : goal.clear_bool-returns-in-Cmp
clear_bool-returns-in-Cmp t c = clears_cmp c.args.work.now (omega (arith, c.requires.0)) _ _ _ c.requires.1.0 c.requires.1.1 _ c.if-left-eq0.false refl _ _ _ _ _ _ _ _ (sym c.in-Cmp.is ∙ c.node_at.ensures) c.clear_int-a.ensures c.clear_int.ensures

pub clear_bool-shape_of-work-in-Not : goal.clear_bool-shape_of-work-in-Not
clear_bool-shape_of-work-in-Not t c = c.clear_bool.ensures.cleared.size

pub clear_bool-returns-in-Not : goal.clear_bool-returns-in-Not
clear_bool-returns-in-Not t c = clears_not c.args.work.now (omega (arith, c.requires.0)) _ _ _ c.requires.1.0 c.requires.1.1 _ c.if-left-eq0.false refl _ _ _ _ (sym c.in-Not.is ∙ c.node_at.ensures) c.clear_bool.ensures

pub clear_bool-shape_of-work-in-Join : goal.clear_bool-shape_of-work-in-Join
clear_bool-shape_of-work-in-Join t c = c.clear_members.ensures.cleared.size

pub clear_bool-returns-in-Join : goal.clear_bool-returns-in-Join
clear_bool-returns-in-Join t c = clears_join c.args.work.now (omega (arith, c.requires.0)) _ _ _ c.requires.1.0 c.requires.1.1 _ c.if-left-eq0.false refl _ _ _ _ _ _ _ _ (sym c.in-Join.is ∙ c.node_at.ensures) c.clear_members.ensures

pub clear_bool-shape_of-work-in-Cross : goal.clear_bool-shape_of-work-in-Cross
clear_bool-shape_of-work-in-Cross t c = c.clear_members-in-Cross.ensures.cleared.size

pub clear_bool-returns-in-Cross : goal.clear_bool-returns-in-Cross
clear_bool-returns-in-Cross t c = clears_cross c.args.work.now (omega (arith, c.requires.0)) _ _ _ c.requires.1.0 c.requires.1.1 _ c.if-left-eq0.false refl _ _ _ _ _ _ (sym c.in-Cross.is ∙ c.node_at.ensures) c.bump.ensures c.clear_members-in-Cross.ensures

pub clear_int-returns-then-left-eq0 : goal.clear_int-returns-then-left-eq0
clear_int-returns-then-left-eq0 t c = int_clears_none c.args.work.now (omega (arith, c.requires.0)) _ _ _ c.requires.1.0 c.requires.1.1 c.if-left-eq0.true

pub clear_int-clear_terms-requires : goal.clear_int-clear_terms-requires
clear_int-clear_terms-requires t c = ((omega (arith, c.decreases, c.if-left-eq0.false)), (c.requires.0, (omega (arith, c.within-two.ensures), c.requires.1.1)))

pub clear_int-clear_bool-c-requires : goal.clear_int-clear_bool-c-requires
clear_int-clear_bool-c-requires t c = ((omega (arith, c.decreases, c.if-left-eq0.false)), (c.requires.0, (omega (arith, c.within-one.ensures), c.requires.1.1)))

pub clear_int-clear_int-t-requires : goal.clear_int-clear_int-t-requires
clear_int-clear_int-t-requires t c = ((omega (arith, c.decreases, c.if-left-eq0.false)), (omega (arith, c.requires.0, c.clear_bool-c.ensures.cleared.size), (c.clear_bool-c.ensures.skips.inside, c.clear_bool-c.ensures.skips.low)))

pub clear_int-clear_int-f-requires : goal.clear_int-clear_int-f-requires
clear_int-clear_int-f-requires t c = ((omega (arith, c.decreases, c.if-left-eq0.false)), (omega (arith, c.requires.0, c.clear_bool-c.ensures.cleared.size, c.clear_int-t.ensures.cleared.size), (c.clear_int-t.ensures.skips.inside, c.clear_int-t.ensures.skips.low)))

pub clear_int-clear_cell-requires : goal.clear_int-clear_cell-requires
clear_int-clear_cell-requires t c = (omega (arith, c.requires.0, c.clear_bool-c.ensures.cleared.size, c.clear_int-t.ensures.cleared.size, c.clear_int-f.ensures.cleared.size), c.requires.1.0)

pub clear_int-shape_of-work-in-22 : goal.clear_int-shape_of-work-in-22
clear_int-shape_of-work-in-22 t c = c.clear_terms.ensures.cleared.size

pub clear_int-returns-in-22 : goal.clear_int-returns-in-22
clear_int-returns-in-22 t c = int_clears_sum c.args.work.now (omega (arith, c.requires.0)) _ _ _ c.requires.1.0 c.requires.1.1 _ c.if-left-eq0.false refl _ _ _ _ _ _ c.word.ensures c.in-22.is c.within-two.ensures c.word-x.ensures c.clear_terms.ensures

pub clear_int-shape_of-work-in-23 : goal.clear_int-shape_of-work-in-23
clear_int-shape_of-work-in-23 t c = c.clear_cell.ensures.1 ∙ c.clear_int-f.ensures.cleared.size ∙ c.clear_int-t.ensures.cleared.size ∙ c.clear_bool-c.ensures.cleared.size

pub clear_int-returns-in-23 : goal.clear_int-returns-in-23
clear_int-returns-in-23 t c = int_clears_if c.args.work.now (omega (arith, c.requires.0)) _ _ _ c.requires.1.0 c.requires.1.1 _ c.if-left-eq0.false refl _ _ _ _ _ _ _ _ _ _ _ _ c.word.ensures c.in-23.is c.within-one.ensures c.clear_bool-c.ensures c.clear_int-t.ensures c.clear_int-f.ensures (c.clear_cell.ensures.0 _)

pub clear_int-returns-in_default : goal.clear_int-returns-in_default
clear_int-returns-in_default t c = int_clears_leaf c.args.work.now (omega (arith, c.requires.0)) _ _ _ c.requires.1.0 c.requires.1.1 _ c.if-left-eq0.false refl _ _ c.word.ensures c.in_default.in_default-own.rest.0.1 c.in_default.in_default-own.rest.1 c.within-two.ensures

pub clear_members-loop-init : goal.clear_members-loop-init
clear_members-loop-init t c = let e : c.args.count - 0 ≡ c.args.count = omega arith in rw e (clearing_first _ _ _ _ _ c.requires.1.0 c.requires.1.1)

pub clear_members-clear_bool-s-requires : goal.clear_members-clear_bool-s-requires
clear_members-clear_bool-s-requires t c = (omega (arith, c.decreases), (omega (arith, c.requires.0, c.loop.invariant.size), (c.loop.invariant.skipping.inside, c.loop.invariant.skipping.low)))

pub clear_members-loop-preserved : goal.clear_members-loop-preserved
clear_members-loop-preserved t c = let e : c.args.count - (c.loop.counter + 1) ≡ c.args.count - c.loop.counter - 1 = omega arith in rw e (clearing_next _ _ _ _ _ _ _ _ _ _ _ _ c.loop.invariant (omega arith) c.clear_bool-s.ensures)

pub clear_members-shape_of-work : goal.clear_members-shape_of-work
clear_members-shape_of-work t c = c.loop.invariant.size

pub clear_members-returns : goal.clear_members-returns
clear_members-returns t c = clearing_last _ _ _ _ _ _ _ _ _ c.loop.invariant (omega arith)

pub clear_terms-loop-init : goal.clear_terms-loop-init
clear_terms-loop-init t c = let e : c.args.count - 0 ≡ c.args.count = omega arith in rw e (term_clearing_first _ _ _ _ _ c.requires.1.0 c.requires.1.1)

pub clear_terms-clear_int-s-requires : goal.clear_terms-clear_int-s-requires
clear_terms-clear_int-s-requires t c = (omega (arith, c.decreases), (omega (arith, c.requires.0, c.loop.invariant.size), (omega (arith, c.within-p.ensures), c.loop.invariant.skipping.low)))

pub clear_terms-loop-preserved : goal.clear_terms-loop-preserved
clear_terms-loop-preserved t c = let e : c.args.count - (c.loop.counter + 1) ≡ c.args.count - c.loop.counter - 1 = omega arith in rw e (term_clearing_next _ _ _ _ _ (omega (arith, c.requires.0)) _ _ _ _ _ _ _ _ c.loop.invariant (omega arith) c.within-p.ensures c.clear_int-s.ensures)

pub clear_terms-shape_of-work : goal.clear_terms-shape_of-work
clear_terms-shape_of-work t c = c.loop.invariant.size

pub clear_terms-returns : goal.clear_terms-returns
clear_terms-returns t c = term_clearing_last _ _ _ _ _ _ _ _ _ c.loop.invariant (omega arith)
