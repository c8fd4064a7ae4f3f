use Prim.Native.Nat.{◌+◌, ◌-◌}
use mathlib.Core.Path.{◌≡◌, refl, sym, ◌∙◌}
use mathlib.Core.Bool.{false}
use native.Mathlib.Omega.{arith}
use Rattle.laws.specs.Writes.{wrote_length}
use Rattle.walk.specs.Decode.{read_part}
use Rattle.scan.specs.Skip.{split_by, inside_same, inside_more, inner_some, skips_none, skips_var, skips_cmp, skips_not, skips_join, skips_cross, int_none, int_leaf, int_sum, int_if, skipping_first, skipping_next, skipping_last, terms_first as passing-first, terms_next as passing-next, terms_leaf as passing-leaf, terms_last as passing-last}
use Rattle.output.proofs.Laws.{open_next}
use Rattle.rulewriter.proofs.Steps.{is_here, not_here, okay, placed_at, placed_skipped}
use Rattle.rulewriter.proofs.Registered.{within_past}
use Rattle.rulewriter.proofs.Extras.{extra_none, extra_same, extra_open, extra_length, going_none, going_open, going_length, ties_zero, int_ties_zero, ties_var, ties_not, ties_join, ties_split, ties_cross, cmp_first, cmp_second, cmp_extras, int_ties_leaf, int_ties_sum, if_first, if_second, if_third, if_extras, members_last, terms_last, members_fit, members_more, term_fits, terms_more, terms_leaf, both_skipped, split_first, split_tie, tie_blocks, split_second, split_other, split_extras}
use Rattle.rulewriter.proofs.+ties.Goals as goal

pub int_ties-returns-then-left-eq0 : goal.int_ties-returns-then-left-eq0
int_ties-returns-then-left-eq0 t c = rw c.no_ties.ensures (extra_none _ _ (int_ties_zero _ _ _ _ _ c.if-left-eq0.true) c.requires.placed.1 c.requires.placed.0.low, int_none c.args.work.now c.requires.placed.0.size _ _ _ _ c.requires.placed.0.inside c.requires.placed.0.low_base c.if-left-eq0.true)

pub int_ties-overflow_add-at : goal.int_ties-overflow_add-at
int_ties-overflow_add-at t c = omega (arith, c.requires.placed.0.inside)

pub int_ties-overflow_add-at-2 : goal.int_ties-overflow_add-at-2
int_ties-overflow_add-at-2 t c = omega (arith, c.requires.placed.0.inside)

pub int_ties-overflow_add-at-3 : goal.int_ties-overflow_add-at-3
int_ties-overflow_add-at-3 t c = omega (arith, c.requires.placed.0.inside)

pub int_ties-term_ties-requires : goal.int_ties-term_ties-requires
int_ties-term_ties-requires t c = (omega (arith, c.decreases, c.if-left-eq0.false), ((record { size = c.requires.placed.0.size; inside = omega (arith, c.within-two.ensures); low_base = c.requires.placed.0.low_base; low = c.requires.placed.0.low }, c.requires.placed.1, rw (int_ties_sum (read_part c.args.work.now) _ _ _ _ _ c.if-left-eq0.false refl _ c.word.ensures _ _ c.in-22.is c.word-k.ensures (sym (within_past c.args.work.now c.requires.placed.0.size _ _ c.within-two.ensures))) at c.requires.placed.2), omega (arith, c.requires.left_bound, c.if-left-eq0.false)))

pub int_ties-write_ties-a-requires : goal.int_ties-write_ties-a-requires
int_ties-write_ties-a-requires t c = (omega (arith, c.decreases, c.if-left-eq0.false), ((record { size = c.requires.placed.0.size; inside = omega (arith, c.within-one.ensures); low_base = c.requires.placed.0.low_base; low = c.requires.placed.0.low }, c.requires.placed.1, if_first (read_part c.args.work.now) _ _ _ _ _ c.if-left-eq0.false refl _ c.word.ensures _ c.in-23.is (sym (within_past c.args.work.now c.requires.placed.0.size _ _ c.within-one.ensures)) c.requires.placed.2), omega (arith, c.requires.left_bound)))

pub int_ties-int_ties-b-requires : goal.int_ties-int_ties-b-requires
int_ties-int_ties-b-requires t c =
    let x = c.write_ties-a.ensures in
    (omega (arith, c.decreases, c.if-left-eq0.false), ((record { size = c.requires.placed.0.size; inside = x.1.inside; low_base = x.1.low; low = x.0.listed.low }, extra_open c.requires.placed.1 x.0, if_second (read_part c.args.work.now) _ _ _ _ _ c.if-left-eq0.false refl _ c.word.ensures _ c.in-23.is (sym (within_past c.args.work.now c.requires.placed.0.size _ _ c.within-one.ensures)) _ _ x.1 c.requires.placed.2), omega (arith, c.requires.left_bound)))

pub int_ties-int_ties-c-requires : goal.int_ties-int_ties-c-requires
int_ties-int_ties-c-requires t c =
    let x = c.write_ties-a.ensures in
    let y = c.int_ties-b.ensures in
    (omega (arith, c.decreases, c.if-left-eq0.false), ((record { size = c.requires.placed.0.size; inside = y.1.inside; low_base = y.1.low; low = y.0.listed.low }, extra_open (extra_open c.requires.placed.1 x.0) y.0, if_third (read_part c.args.work.now) _ _ _ _ _ c.if-left-eq0.false refl _ c.word.ensures _ c.in-23.is (sym (within_past c.args.work.now c.requires.placed.0.size _ _ c.within-one.ensures)) _ _ x.1 _ _ y.1 c.requires.placed.2), omega (arith, c.requires.left_bound)))

pub int_ties-shape_of-out-in-22 : goal.int_ties-shape_of-out-in-22
int_ties-shape_of-out-in-22 t c = extra_length c.term_ties.ensures.0

pub int_ties-returns-in-22 : goal.int_ties-returns-in-22
int_ties-returns-in-22 t c = (extra_same _ _ (int_ties_sum (read_part c.args.work.now) _ _ _ _ _ c.if-left-eq0.false refl _ c.word.ensures _ _ c.in-22.is c.word-k.ensures (sym (within_past c.args.work.now c.requires.placed.0.size _ _ c.within-two.ensures))) c.term_ties.ensures.0, int_sum c.args.work.now c.requires.placed.0.size _ _ _ _ c.requires.placed.0.inside c.requires.placed.0.low_base _ c.if-left-eq0.false refl _ _ _ _ _ c.word.ensures c.in-22.is c.within-two.ensures c.word-k.ensures c.term_ties.ensures.1)

pub int_ties-shape_of-out-in-23 : goal.int_ties-shape_of-out-in-23
int_ties-shape_of-out-in-23 t c = extra_length c.int_ties-c.ensures.0 ∙ extra_length c.int_ties-b.ensures.0 ∙ extra_length c.write_ties-a.ensures.0

pub int_ties-returns-in-23 : goal.int_ties-returns-in-23
int_ties-returns-in-23 t c =
    let x = c.write_ties-a.ensures in
    let y = c.int_ties-b.ensures in
    let v = c.int_ties-c.ensures in
    rw (c.two_ties-in-23.ensures, c.two_ties.ensures) (if_extras (read_part c.args.work.now) _ _ _ _ _ c.if-left-eq0.false refl _ c.word.ensures _ c.in-23.is (sym (within_past c.args.work.now c.requires.placed.0.size _ _ c.within-one.ensures)) _ _ x.1 _ _ y.1 c.requires.placed.1 x.0 y.0 v.0, int_if c.args.work.now c.requires.placed.0.size _ _ _ _ c.requires.placed.0.inside c.requires.placed.0.low_base _ c.if-left-eq0.false refl _ _ _ _ _ _ _ _ c.word.ensures c.in-23.is c.within-one.ensures x.1 y.1 v.1)

pub int_ties-returns-in_default : goal.int_ties-returns-in_default
int_ties-returns-in_default t c = rw c.no_ties-in_default.ensures (extra_none _ _ (int_ties_leaf (read_part c.args.work.now) _ _ _ _ _ c.if-left-eq0.false refl _ c.word.ensures c.in_default.in_default-own.rest.0.1 c.in_default.in_default-own.rest.1) c.requires.placed.1 c.requires.placed.0.low, int_leaf c.args.work.now c.requires.placed.0.size _ _ _ _ c.requires.placed.0.inside c.requires.placed.0.low_base _ c.if-left-eq0.false refl _ _ c.word.ensures c.in_default.in_default-own.rest.0.1 c.in_default.in_default-own.rest.1 c.within-two.ensures)

pub member_ties-loop-init : goal.member_ties-loop-init
member_ties-loop-init t c =
    let q : c.args.count - 0 ≡ c.args.count = omega arith in
    rw q (rw c.no_ties-x.ensures (c.requires.placed.0, going_none _ _ _ c.requires.placed.1 c.requires.placed.0.low c.requires.placed.2, skipping_first (read_part c.args.work.now) _ _ _ _ _ c.requires.placed.0.inside c.requires.placed.0.low_base))

pub member_ties-write_ties-y-requires : goal.member_ties-write_ties-y-requires
member_ties-write_ties-y-requires t c =
    let i = c.loop.invariant in
    (omega (arith, c.decreases), ((i.0, going_open i.1, members_fit c.args.work.now _ _ _ _ (omega arith) i.1), omega (arith, c.requires.left_bound)))

pub member_ties-loop-preserved : goal.member_ties-loop-preserved
member_ties-loop-preserved t c =
    let q : c.args.count - (c.loop.counter + 1) ≡ c.args.count - c.loop.counter - 1 = omega arith in
    let i = c.loop.invariant in
    let f = c.write_ties-y.ensures in
    rw q (rw c.two_ties-x.ensures (placed_skipped _ i.0 f.1 f.0.listed.low, members_more c.args.work.now _ _ _ _ (omega arith) _ i.1 f.1 f.0, skipping_next (read_part c.args.work.now) _ _ _ _ _ _ _ _ _ _ i.2 (omega arith) f.1))

pub member_ties-shape_of-out : goal.member_ties-shape_of-out
member_ties-shape_of-out t c = going_length c.loop.invariant.1

pub member_ties-returns : goal.member_ties-returns
member_ties-returns t c =
    let i = c.loop.invariant in
    (rw c.no_ties-x.ensures at (members_last c.args.work.now _ _ _ _ i.1 (omega arith)), skipping_last (read_part c.args.work.now) _ _ _ _ _ _ _ _ i.2 (omega arith))

pub split_ties-write_ties-a-requires : goal.split_ties-write_ties-a-requires
split_ties-write_ties-a-requires t c = (omega (arith, c.decreases), ((record { size = c.requires.placed.0.size; inside = c.requires.placed.0.inside; low_base = omega (arith, c.bump-c.ensures); low = c.requires.placed.0.low }, c.requires.placed.1, split_first c.args.work.now _ _ _ _ c.bump-c.ensures c.requires.placed.2), omega (arith, c.requires.left_bound)))

pub split_ties-put_tie-b-requires : goal.split_ties-put_tie-b-requires
split_ties-put_tie-b-requires t c =
    let x = c.write_ties-a.ensures in
    let f = split_tie c.args.work.now _ _ _ _ c.bump-c.ensures c.requires.placed.2 in
    record { placed = (record { size = c.requires.placed.0.size; inside = c.requires.placed.0.inside; low_base = omega (arith, c.bump-c.ensures); low = x.0.listed.low }, extra_open c.requires.placed.1 x.0, f.0, f.1); left_bound = (c.requires.left_bound, omega (arith, c.requires.placed.0.low_base)) }

pub split_ties-write_ties-d-requires : goal.split_ties-write_ties-d-requires
split_ties-write_ties-d-requires t c =
    let x = c.write_ties-a.ensures in
    (omega (arith, c.decreases), ((record { size = c.requires.placed.0.size; inside = x.1.inside; low_base = x.1.low; low = c.put_tie-b.ensures.0.low }, open_next (extra_open c.requires.placed.1 x.0) c.put_tie-b.ensures.0.wrote, split_second c.args.work.now _ _ _ _ c.bump-c.ensures _ _ x.1 c.requires.placed.2), omega (arith, c.requires.left_bound)))

pub split_ties-overflow_add-base : goal.split_ties-overflow_add-base
split_ties-overflow_add-base t c = omega (arith, c.requires.placed.0.low_base)

pub split_ties-put_tie-e-requires : goal.split_ties-put_tie-e-requires
split_ties-put_tie-e-requires t c =
    let x = c.write_ties-a.ensures in
    let y = c.write_ties-d.ensures in
    let f = split_other c.args.work.now _ _ _ _ c.bump-c.ensures _ _ x.1 c.requires.placed.2 in
    record { placed = (record { size = c.requires.placed.0.size; inside = x.1.inside; low_base = x.1.low; low = y.0.listed.low }, extra_open (open_next (extra_open c.requires.placed.1 x.0) c.put_tie-b.ensures.0.wrote) y.0, f.0, f.1); left_bound = (c.requires.left_bound, omega (arith, c.requires.placed.0.low_base)) }

pub split_ties-shape_of-out : goal.split_ties-shape_of-out
split_ties-shape_of-out t c = wrote_length c.put_tie-e.ensures.0.wrote ∙ extra_length c.write_ties-d.ensures.0 ∙ wrote_length c.put_tie-b.ensures.0.wrote ∙ extra_length c.write_ties-a.ensures.0

pub split_ties-returns : goal.split_ties-returns
split_ties-returns t c =
    let x = c.write_ties-a.ensures in
    let y = c.write_ties-d.ensures in
    let h = c.bump-c.ensures in
    rw (c.two_ties-3.ensures, c.two_ties-2.ensures, c.two_ties.ensures) (split_extras c.args.work.now _ _ _ _ h _ _ x.1 c.requires.placed.1 x.0 (tie_blocks c.args.work.now _ c.args.at _ _ h _ _ _ c.put_tie-b.result c.put_tie-b.ensures.0) y.0 (tie_blocks c.args.work.now _ c.args.at _ _ h _ _ _ c.put_tie-e.result c.put_tie-e.ensures.0), rw h at (both_skipped (read_part c.args.work.now) _ _ _ _ _ _ _ _ c.requires.placed.0.inside (omega (arith, h)) x.1 c.put_tie-e.ensures.1))

pub term_ties-loop-init : goal.term_ties-loop-init
term_ties-loop-init t c =
    let q : c.args.count - 0 ≡ c.args.count = omega arith in
    rw q (rw c.no_ties-x.ensures (c.requires.placed.0, going_none _ _ _ c.requires.placed.1 c.requires.placed.0.low c.requires.placed.2, passing-first c.args.work.now _ _ _ _ _ c.requires.placed.0.inside c.requires.placed.0.low_base))

pub term_ties-overflow_add-x : goal.term_ties-overflow_add-x
term_ties-overflow_add-x t c = omega (arith, (c.is_leaf.ensures c.if-is_leaf.true).1)

pub term_ties-loop-preserved-then-is_leaf : goal.term_ties-loop-preserved-then-is_leaf
term_ties-loop-preserved-then-is_leaf t c =
    let q : c.args.count - (c.loop.counter + 1) ≡ c.args.count - c.loop.counter - 1 = omega arith in
    let i = c.loop.invariant in
    let h = c.is_leaf.ensures c.if-is_leaf.true in
    rw q (rw (c.two_ties-x.ensures, c.no_ties-e.ensures) (record { size = i.0.size; inside = omega (arith, h.1); low_base = i.0.low_base; low = i.0.low }, terms_leaf c.args.work.now _ _ _ c.loop.x (omega arith) i.1 i.0.size i.0.low_base i.0.low h, passing-leaf c.args.work.now _ _ _ _ _ i.0.size _ _ _ i.2 (omega arith) h))

pub term_ties-overflow_add-x-in-loop : goal.term_ties-overflow_add-x-in-loop
term_ties-overflow_add-x-in-loop t c = omega (arith, c.loop.invariant.0.inside)

pub term_ties-int_ties-y-requires : goal.term_ties-int_ties-y-requires
term_ties-int_ties-y-requires t c =
    let i = c.loop.invariant in
    (omega (arith, c.decreases), ((record { size = i.0.size; inside = omega (arith, c.within-q.ensures); low_base = i.0.low_base; low = i.0.low }, going_open i.1, term_fits c.args.work.now _ _ _ _ (omega arith) _ (sym (within_past c.args.work.now i.0.size _ _ c.within-q.ensures)) i.1), omega (arith, c.requires.left_bound)))

pub term_ties-loop-preserved : goal.term_ties-loop-preserved
term_ties-loop-preserved t c =
    let q : c.args.count - (c.loop.counter + 1) ≡ c.args.count - c.loop.counter - 1 = omega arith in
    let i = c.loop.invariant in
    let f = c.int_ties-y.ensures in
    rw q (rw c.two_ties-x-in-loop.ensures (record { size = i.0.size; inside = f.1.inside; low_base = f.1.low; low = f.0.listed.low }, terms_more c.args.work.now _ _ _ _ (omega arith) _ (sym (within_past c.args.work.now i.0.size _ _ c.within-q.ensures)) _ i.1 f.1 f.0, passing-next c.args.work.now _ _ _ _ _ i.0.size _ _ _ _ _ _ i.2 (omega arith) c.within-q.ensures f.1))

pub term_ties-shape_of-out : goal.term_ties-shape_of-out
term_ties-shape_of-out t c = going_length c.loop.invariant.1

pub term_ties-returns : goal.term_ties-returns
term_ties-returns t c =
    let i = c.loop.invariant in
    (rw c.no_ties-x.ensures at (terms_last c.args.work.now _ _ _ _ i.1 (omega arith)), passing-last c.args.work.now _ _ _ _ _ _ _ _ i.2 (omega arith))

pub write_ties-returns-then-left-eq0 : goal.write_ties-returns-then-left-eq0
write_ties-returns-then-left-eq0 t c = rw c.no_ties.ensures (extra_none _ _ (ties_zero _ _ _ _ _ c.if-left-eq0.true) c.requires.placed.1 c.requires.placed.0.low, skips_none c.args.work.now c.requires.placed.0.size _ _ _ _ c.requires.placed.0.inside c.requires.placed.0.low_base c.if-left-eq0.true)

pub write_ties-node_at-requires : goal.write_ties-node_at-requires
write_ties-node_at-requires t c = (c.requires.placed.0.size, c.requires.placed.0.inside)

pub write_ties-int_ties-a-requires : goal.write_ties-int_ties-a-requires
write_ties-int_ties-a-requires t c =
    let e = sym c.in-Cmp.is ∙ c.node_at.ensures in
    let o = okay false _ c.requires.placed.0 e in
    (omega (arith, c.decreases, c.if-left-eq0.false), ((placed_at _ c.requires.placed.0 o.1, c.requires.placed.1, cmp_first (read_part c.args.work.now) _ _ _ _ _ c.if-left-eq0.false refl _ _ _ e c.inner-i.ensures c.requires.placed.2), omega (arith, c.requires.left_bound)))

pub write_ties-int_ties-b-requires : goal.write_ties-int_ties-b-requires
write_ties-int_ties-b-requires t c =
    let e = sym c.in-Cmp.is ∙ c.node_at.ensures in
    let x = c.int_ties-a.ensures in
    (omega (arith, c.decreases, c.if-left-eq0.false), ((record { size = c.requires.placed.0.size; inside = x.1.inside; low_base = x.1.low; low = x.0.listed.low }, extra_open c.requires.placed.1 x.0, cmp_second (read_part c.args.work.now) _ _ _ _ _ c.if-left-eq0.false refl _ _ _ e c.inner-i.ensures _ _ x.1 c.requires.placed.2), omega (arith, c.requires.left_bound)))

pub write_ties-write_ties-requires : goal.write_ties-write_ties-requires
write_ties-write_ties-requires t c =
    let e = sym c.in-Not.is ∙ c.node_at.ensures in
    let o = okay false _ c.requires.placed.0 e in
    (omega (arith, c.decreases, c.if-left-eq0.false), ((placed_at _ c.requires.placed.0 o.1, c.requires.placed.1, rw (ties_not (read_part c.args.work.now) _ _ _ _ _ c.if-left-eq0.false refl _ e) at c.requires.placed.2), omega (arith, c.requires.left_bound)))

pub write_ties-member_ties-requires : goal.write_ties-member_ties-requires
write_ties-member_ties-requires t c =
    let e = sym c.in-Join.is ∙ c.node_at.ensures in
    let o = okay false _ c.requires.placed.0 e in
    (omega (arith, c.decreases, c.if-left-eq0.false), ((placed_at _ c.requires.placed.0 o.1, c.requires.placed.1, rw (ties_join (read_part c.args.work.now) _ _ _ _ _ c.if-left-eq0.false refl _ _ _ _ _ e) at c.requires.placed.2), omega (arith, c.requires.left_bound, c.if-left-eq0.false)))

pub write_ties-split_ties-requires : goal.write_ties-split_ties-requires
write_ties-split_ties-requires t c =
    let e = sym c.in-Cross.is ∙ c.node_at.ensures in
    let o = okay false _ c.requires.placed.0 e in
    (omega (arith, c.decreases, c.if-left-eq0.false), ((placed_at _ c.requires.placed.0 o.1, c.requires.placed.1, rw (ties_split (read_part c.args.work.now) _ _ _ _ _ c.if-left-eq0.false refl (split_by 2) _ _ e (is_here c.args.m c.if-m-gt1.true ∙ sym (is_here 2 (omega arith)))) at c.requires.placed.2), omega (arith, c.requires.left_bound, c.if-left-eq0.false)))

pub write_ties-shape_of-out-then-m-gt1 : goal.write_ties-shape_of-out-then-m-gt1
write_ties-shape_of-out-then-m-gt1 t c = extra_length c.split_ties.ensures.0

pub write_ties-returns-then-m-gt1 : goal.write_ties-returns-then-m-gt1
write_ties-returns-then-m-gt1 t c =
    let e = sym c.in-Cross.is ∙ c.node_at.ensures in
    let i = is_here c.args.m c.if-m-gt1.true ∙ sym (is_here 2 (omega arith)) in
    (extra_same _ _ (ties_split (read_part c.args.work.now) _ _ _ _ _ c.if-left-eq0.false refl (split_by 2) _ _ e i) c.split_ties.ensures.0, skips_cross c.args.work.now c.requires.placed.0.size _ _ _ _ c.requires.placed.0.inside c.requires.placed.0.low_base _ c.if-left-eq0.false refl false _ _ 2 _ _ _ e (inner_some c.args.m (λ z. omega (arith, z, c.if-m-gt1.true))) (inside_more c.args.m _ (omega (arith, c.if-m-gt1.true))) c.split_ties.ensures.1)

pub write_ties-member_ties-requires-in-Cross : goal.write_ties-member_ties-requires-in-Cross
write_ties-member_ties-requires-in-Cross t c =
    let e = sym c.in-Cross.is ∙ c.node_at.ensures in
    let o = okay false _ c.requires.placed.0 e in
    (omega (arith, c.decreases, c.if-left-eq0.false), ((placed_at _ c.requires.placed.0 o.1, c.requires.placed.1, rw (ties_cross (read_part c.args.work.now) _ _ _ _ _ c.if-left-eq0.false refl _ _ _ e c.inner.ensures (not_here c.args.m c.if-m-gt1.false)) at c.requires.placed.2), omega (arith, c.requires.left_bound, c.if-left-eq0.false)))

pub write_ties-returns-in-Var : goal.write_ties-returns-in-Var
write_ties-returns-in-Var t c = let e = sym c.in-Var.is ∙ c.node_at.ensures in
    rw c.no_ties-in-Var.ensures (extra_none _ _ (ties_var (read_part c.args.work.now) _ _ _ _ _ c.if-left-eq0.false refl _ _ e) c.requires.placed.1 c.requires.placed.0.low, skips_var c.args.work.now c.requires.placed.0.size _ _ _ _ c.requires.placed.0.inside c.requires.placed.0.low_base _ c.if-left-eq0.false refl false _ _ e)

pub write_ties-shape_of-out-in-Cmp : goal.write_ties-shape_of-out-in-Cmp
write_ties-shape_of-out-in-Cmp t c = extra_length c.int_ties-b.ensures.0 ∙ extra_length c.int_ties-a.ensures.0

pub write_ties-returns-in-Cmp : goal.write_ties-returns-in-Cmp
write_ties-returns-in-Cmp t c =
    let e = sym c.in-Cmp.is ∙ c.node_at.ensures in
    let x = c.int_ties-a.ensures in
    let y = c.int_ties-b.ensures in
    rw c.two_ties.ensures (cmp_extras (read_part c.args.work.now) _ _ _ _ _ c.if-left-eq0.false refl _ _ _ e c.inner-i.ensures _ _ x.1 c.requires.placed.1 x.0 y.0, skips_cmp c.args.work.now c.requires.placed.0.size _ _ _ _ c.requires.placed.0.inside c.requires.placed.0.low_base _ c.if-left-eq0.false refl false _ _ _ _ _ _ _ e c.inner-i.ensures x.1 y.1)

pub write_ties-shape_of-out-in-Not : goal.write_ties-shape_of-out-in-Not
write_ties-shape_of-out-in-Not t c = extra_length c.write_ties.ensures.0

pub write_ties-returns-in-Not : goal.write_ties-returns-in-Not
write_ties-returns-in-Not t c =
    let e = sym c.in-Not.is ∙ c.node_at.ensures in
    (extra_same _ _ (ties_not (read_part c.args.work.now) _ _ _ _ _ c.if-left-eq0.false refl _ e) c.write_ties.ensures.0, skips_not c.args.work.now c.requires.placed.0.size _ _ _ _ c.requires.placed.0.inside c.requires.placed.0.low_base _ c.if-left-eq0.false refl false _ _ _ e c.write_ties.ensures.1)

pub write_ties-shape_of-out-in-Join : goal.write_ties-shape_of-out-in-Join
write_ties-shape_of-out-in-Join t c = extra_length c.member_ties.ensures.0

pub write_ties-returns-in-Join : goal.write_ties-returns-in-Join
write_ties-returns-in-Join t c =
    let e = sym c.in-Join.is ∙ c.node_at.ensures in
    (extra_same _ _ (ties_join (read_part c.args.work.now) _ _ _ _ _ c.if-left-eq0.false refl _ _ _ _ _ e) c.member_ties.ensures.0, skips_join c.args.work.now c.requires.placed.0.size _ _ _ _ c.requires.placed.0.inside c.requires.placed.0.low_base _ c.if-left-eq0.false refl false _ _ _ _ _ _ _ e c.member_ties.ensures.1)

pub write_ties-shape_of-out-else-m-gt1 : goal.write_ties-shape_of-out-else-m-gt1
write_ties-shape_of-out-else-m-gt1 t c = extra_length c.member_ties-in-Cross.ensures.0

pub write_ties-returns-else-m-gt1 : goal.write_ties-returns-else-m-gt1
write_ties-returns-else-m-gt1 t c =
    let e = sym c.in-Cross.is ∙ c.node_at.ensures in
    (extra_same _ _ (ties_cross (read_part c.args.work.now) _ _ _ _ _ c.if-left-eq0.false refl _ _ _ e c.inner.ensures (not_here c.args.m c.if-m-gt1.false)) c.member_ties-in-Cross.ensures.0, skips_cross c.args.work.now c.requires.placed.0.size _ _ _ _ c.requires.placed.0.inside c.requires.placed.0.low_base _ c.if-left-eq0.false refl false _ _ _ _ _ _ e c.inner.ensures (inside_same c.args.m _ (omega (arith, c.if-m-gt1.false))) c.member_ties-in-Cross.ensures.1)
