use borrow.Author.Rules.{rules}
use Prim.Native.Nat.{◌+◌, ◌-◌}
use mathlib.Core.Path.{◌≡◌, refl, sym, ap, ◌∙◌}
use native.Mathlib.Omega.{arith}
use Rattle.walk.specs.Decode.{read_part}
use Rattle.walk.proofs.Steps.{below_lt}
use Rattle.walk.proofs.NumberingSteps.{part_length}
use Rattle.scan.specs.Nodes.{okay_at}
use Rattle.scan.specs.Skip.{split_by, int_none, int_leaf, int_sum}
use Rattle.numbering.specs.Task.{state_of}
use Rattle.numbering.specs.Steps.{cmp_first, cmp_second, not_starts, join_starts, cross_first, cross_second}
use Rattle.numbering.specs.IntSteps.{int_done_zero, leaf_starts, leaf_done, sum_starts, sum_done, if_starts}
use Rattle.numbering.specs.If.{parts_starts, parts_skips, choice_passed, choice_found, new_starts, new_done, whole_is}
use Rattle.numbering.specs.Make.{new_full, first_starts, second_starts, new_late, branches_starts, branches_parts, branches_begin, branches_done, sums_ready, constant_starts, constant_made, open_starts, open_made, sums_bits, range_bits}
use Rattle.numbering.specs.Conditions.{follow_ready, follow_done, constant_full, negated_starts, plain_starts, follows_as, concludes_as, opens_as, settles_as, constant_concluded, open_full, open_plain, open_negated, open_done, own_none}
use Rattle.numbering.specs.Walk.{walked_zero, walked_var, walked_cmp, walked_not, walked_conj, walked_disj, walked_split, walked_cross, numbers_start, numbers_member, numbers_room, numbers_again, numbers_done, walked_int, terms_start, terms_term, terms_again, terms_done, joined_as, split_below, split_here, parts_own, walked_if, walked_choice, found_as}
use lib.IntN.{nat_abs}
use Prim.Native.Nat.{◌≤◌}
use lib.Dec.{leb}
use mir.Syntax.{w32}
use Rattle.std.proofs.Math.Option.{none, some}
use mir.Val.{SFits}
use Rattle.syntax.specs.Words.{max_weight, max_bools}
use Rattle.walks.specs.Meet.{number_word}
use Rattle.numbering.proofs.Results.{pair_bits}
use Rattle.numbering.specs.declared.Numbered.{Numbered}
use Rattle.numbering.specs.declared.NumberedInt.{NumberedInt}
use Rattle.numbering.proofs.+number.Goals as goal

pub number-returns-then-left-eq0 : goal.number-returns-then-left-eq0
number-returns-then-left-eq0 t c = walked_zero c.args.room.records c.args.room.cap (state_of c.args.work.now c.args.out.now c.args.c) c.args.left (split_by c.args.m) c.args.g c.args.at c.args.base c.requires c.args.work.now c.args.out.now c.args.c _ refl c.if-left-eq0.true c.single.ensures

pub number-node_at-requires : goal.number-node_at-requires
number-node_at-requires t c = (c.requires.size, c.requires.inside)

pub number-declare-d-requires : goal.number-declare-d-requires
number-declare-d-requires t c = ((okay_at c.args.work.now c.args.g c.args.at _ c.requires.size c.requires.inside (sym c.in-Var.is ∙ c.node_at.ensures)).2, (c.requires.low.bools, (c.requires.low.ints, c.requires.low.used)))

pub number-number_int-a-requires : goal.number-number_int-a-requires
number-number_int-a-requires t c = (omega (arith, c.decreases, c.if-left-eq0.false), cmp_first c.args.room.records c.args.room.cap (state_of c.args.work.now c.args.out.now c.args.c) c.args.left (split_by c.args.m) c.args.g c.args.at c.args.base c.requires _ c.if-left-eq0.false refl _ _ _ (sym c.in-Cmp.is ∙ c.node_at.ensures) c.inner-j.ensures)

pub number-number_int-b-requires : goal.number-number_int-b-requires
number-number_int-b-requires t c = (omega (arith, c.decreases, c.if-left-eq0.false), cmp_second c.args.room.records c.args.room.cap (state_of c.args.work.now c.args.out.now c.args.c) c.args.left (split_by c.args.m) c.args.g c.args.at c.args.base c.requires _ c.if-left-eq0.false refl _ _ _ (sym c.in-Cmp.is ∙ c.node_at.ensures) c.inner-j.ensures _ _ _ c.number_int-a.ensures.1 c.number_int-a.ensures.0)

pub number-number-requires : goal.number-number-requires
number-number-requires t c = (omega (arith, c.decreases, c.if-left-eq0.false), not_starts c.args.room.records c.args.room.cap (state_of c.args.work.now c.args.out.now c.args.c) c.args.left (split_by c.args.m) c.args.g c.args.at c.args.base c.requires _ c.if-left-eq0.false refl _ (sym c.in-Not.is ∙ c.node_at.ensures))

pub number-numbers-s-requires : goal.number-numbers-s-requires
number-numbers-s-requires t c = (omega (arith, c.decreases, c.if-left-eq0.false), join_starts c.args.room.records c.args.room.cap (state_of c.args.work.now c.args.out.now c.args.c) c.args.left (split_by c.args.m) c.args.g c.args.at c.args.base c.requires _ c.if-left-eq0.false refl _ _ _ _ _ (sym c.in-Join.is ∙ c.node_at.ensures))

pub number-returns-then-d : goal.number-returns-then-d
number-returns-then-d t c = walked_disj c.args.room.records c.args.room.cap (state_of c.args.work.now c.args.out.now c.args.c) c.args.left (split_by c.args.m) c.args.g c.args.at c.args.base c.requires _ c.if-left-eq0.false refl _ _ _ _ _ _ c.numbers-s.result c.close.result c.numbers-s.ensures (joined_as (sym c.in-Join.is ∙ c.node_at.ensures) c.if-d.true) c.close.ensures

pub number-numbers-a-requires : goal.number-numbers-a-requires
number-numbers-a-requires t c = (omega (arith, c.decreases, c.if-left-eq0.false), cross_first c.args.room.records c.args.room.cap (state_of c.args.work.now c.args.out.now c.args.c) c.args.left (split_by c.args.m) c.args.g c.args.at c.args.base c.requires _ c.if-left-eq0.false refl _ _ _ (sym c.in-Cross.is ∙ c.node_at.ensures) (split_below c.args.m c.if-m-le1.true) c.inner-j-then-m-le1.ensures)

pub number-numbers-b-requires : goal.number-numbers-b-requires
number-numbers-b-requires t c = (omega (arith, c.decreases, c.if-left-eq0.false), cross_second c.args.room.records c.args.room.cap (state_of c.args.work.now c.args.out.now c.args.c) c.args.left (split_by c.args.m) c.args.g c.args.at c.args.base c.requires _ c.if-left-eq0.false refl _ _ _ (sym c.in-Cross.is ∙ c.node_at.ensures) (split_below c.args.m c.if-m-le1.true) c.inner-j-then-m-le1.ensures _ c.numbers-a.ensures.0)

pub number-returns-then-m-le1 : goal.number-returns-then-m-le1
number-returns-then-m-le1 t c = walked_cross c.args.room.records c.args.room.cap (state_of c.args.work.now c.args.out.now c.args.c) c.args.left (split_by c.args.m) c.args.g c.args.at c.args.base c.requires _ c.if-left-eq0.false refl _ _ (sym c.in-Cross.is ∙ c.node_at.ensures) _ c.numbers-a.result c.numbers-b.result c.cross.result _ _ _ _ (split_below c.args.m c.if-m-le1.true) c.inner-j-then-m-le1.ensures c.numbers-a.ensures c.numbers-b.ensures c.cross.ensures

pub number-skips-s-requires : goal.number-skips-s-requires
number-skips-s-requires t c = let o = okay_at c.args.work.now c.args.g c.args.at _ c.requires.size c.requires.inside (sym c.in-Cross.is ∙ c.node_at.ensures) in
    (c.requires.size, (omega (arith, o.1, part_length c.args.work.now c.requires.size), omega (arith, c.bump.ensures)))

pub number-returns-in-Var : goal.number-returns-in-Var
number-returns-in-Var t c = walked_var c.args.room.records c.args.room.cap (state_of c.args.work.now c.args.out.now c.args.c) c.args.left (split_by c.args.m) c.args.g c.args.at c.args.base c.requires _ c.if-left-eq0.false refl _ _ _ c.args.out.now _ _ (sym c.in-Var.is ∙ c.node_at.ensures) (c.declare-d.ensures.0 c.args.out.now) c.single-in-Var.ensures

pub number-returns-in-Cmp : goal.number-returns-in-Cmp
number-returns-in-Cmp t c = walked_cmp c.args.room.records c.args.room.cap (state_of c.args.work.now c.args.out.now c.args.c) c.args.left (split_by c.args.m) c.args.g c.args.at c.args.base c.requires _ c.if-left-eq0.false refl _ _ _ (sym c.in-Cmp.is ∙ c.node_at.ensures) c.inner-j.ensures c.number_int-a.result c.number_int-b.result _ _ _ _ _ c.number_int-a.ensures c.number_int-b.ensures c.single-in-Cmp.ensures

pub number-returns-in-Not : goal.number-returns-in-Not
number-returns-in-Not t c = walked_not c.args.room.records c.args.room.cap (state_of c.args.work.now c.args.out.now c.args.c) c.args.left (split_by c.args.m) c.args.g c.args.at c.args.base c.requires _ c.if-left-eq0.false refl _ _ _ c.number.result (sym c.in-Not.is ∙ c.node_at.ensures) c.number.ensures

pub number-returns-else-d : goal.number-returns-else-d
number-returns-else-d t c = walked_conj c.args.room.records c.args.room.cap (state_of c.args.work.now c.args.out.now c.args.c) c.args.left (split_by c.args.m) c.args.g c.args.at c.args.base c.requires _ c.if-left-eq0.false refl _ _ _ _ _ _ c.numbers-s.result c.longer.result c.numbers-s.ensures (joined_as (sym c.in-Join.is ∙ c.node_at.ensures) c.if-d.false) c.longer.ensures

pub number-returns-else-m-le1 : goal.number-returns-else-m-le1
number-returns-else-m-le1 t c = walked_split c.args.room.records c.args.room.cap (state_of c.args.work.now c.args.out.now c.args.c) c.args.left (split_by c.args.m) c.args.g c.args.at c.args.base c.requires _ c.if-left-eq0.false refl _ _ (sym c.in-Cross.is ∙ c.node_at.ensures) _ _ _ c.args.work.now c.args.out.now c.args.c _ refl (split_here c.args.m c.if-m-le1.false) c.bump.ensures c.skips-s.ensures c.longer-in-Cross.ensures

pub number_branches-branch_sums-requires : goal.number_branches-branch_sums-requires
number_branches-branch_sums-requires t c = (c.requires.0.size, (c.requires.1.1, sums_ready c.args.room.records c.args.room.cap c.args.left (split_by c.args.m) c.args.at c.args.base c.args.p c.args.work.now c.args.out.now c.args.c _ _ c.requires.0 c.requires.1.0))

pub number_branches-number_constant-requires : goal.number_branches-number_constant-requires
number_branches-number_constant-requires t c = (omega (arith, c.decreases), constant_starts c.args.room.records c.args.room.cap c.args.left (split_by c.args.m) c.args.at c.args.base c.args.p c.args.work.now c.args.out.now c.args.c _ _ c.requires.0 c.requires.1.0 _ _ _ (sums_bits (let f : SFits w32 c.in-Some.x = search rules in f) (let f : SFits w32 c.in-Some.z = search rules in f) c.in-Some.ensures) refl _ c.store.ensures.0)

pub number_branches-returns-in-Some : goal.number_branches-returns-in-Some
number_branches-returns-in-Some t c = constant_made c.args.room.records c.args.room.cap c.args.left (split_by c.args.m) c.args.at c.args.base c.args.p c.args.work.now c.args.out.now c.args.c _ _ c.requires.0 c.requires.1.0 _ _ _ (sums_bits (let f : SFits w32 c.in-Some.x = search rules in f) (let f : SFits w32 c.in-Some.z = search rules in f) c.in-Some.ensures) refl _ c.store.ensures.0 _ c.number_constant.ensures

pub number_branches-branch_range-d-requires : goal.number_branches-branch_range-d-requires
number_branches-branch_range-d-requires t c = (c.requires.0.size, (c.requires.1.1, sums_ready c.args.room.records c.args.room.cap c.args.left (split_by c.args.m) c.args.at c.args.base c.args.p c.args.work.now c.args.out.now c.args.c _ _ c.requires.0 c.requires.1.0))

pub number_branches-number_open-requires : goal.number_branches-number_open-requires
number_branches-number_open-requires t c = (omega (arith, c.decreases), (open_starts c.args.room.records c.args.room.cap c.args.left (split_by c.args.m) c.args.at c.args.base c.args.p c.args.work.now c.args.out.now c.args.c _ _ c.requires.0 c.requires.1.0 c.in_default.ensures _ _ (range_bits (let f : SFits w32 c.branch_range-d.result.low = search rules in f) (let f : SFits w32 c.branch_range-d.result.high = search rules in f) c.branch_range-d.ensures), (c.requires.1.0, ((range_bits (let f : SFits w32 c.branch_range-d.result.low = search rules in f) (let f : SFits w32 c.branch_range-d.result.high = search rules in f) c.branch_range-d.ensures).lowest, (range_bits (let f : SFits w32 c.branch_range-d.result.low = search rules in f) (let f : SFits w32 c.branch_range-d.result.high = search rules in f) c.branch_range-d.ensures).highest))))

pub number_branches-returns : goal.number_branches-returns
number_branches-returns t c = open_made c.args.room.records c.args.room.cap c.args.left (split_by c.args.m) c.args.at c.args.base c.args.p c.args.work.now c.args.out.now c.args.c _ _ c.requires.0 c.requires.1.0 c.in_default.ensures _ _ (range_bits (let f : SFits w32 c.branch_range-d.result.low = search rules in f) (let f : SFits w32 c.branch_range-d.result.high = search rules in f) c.branch_range-d.ensures) _ c.number_open.ensures

pub number_choice-is_passed-requires : goal.number_choice-is_passed-requires
number_choice-is_passed-requires t c = c.requires.0.inside

pub number_choice-returns-then-is_passed : goal.number_choice-returns-then-is_passed
number_choice-returns-then-is_passed t c = choice_passed c.args.room.records c.args.room.cap c.args.left (split_by c.args.m) c.args.at c.args.base c.args.p c.args.work.now c.args.out.now c.args.c c.requires.0 (sym c.if-is_passed.true ∙ c.is_passed.ensures)

pub number_choice-overflow_sub-p : goal.number_choice-overflow_sub-p
number_choice-overflow_sub-p t c = c.requires.1.1

pub number_choice-find_equal-requires : goal.number_choice-find_equal-requires
number_choice-find_equal-requires t c = (c.requires.0.size, omega (arith, c.requires.1.1, c.requires.1.0.second.inside))

pub number_choice-copy_cells-requires : goal.number_choice-copy_cells-requires
number_choice-copy_cells-requires t c = (c.requires.0.inside, c.in-Some.ensures.1)

pub number_choice-returns-in-Some : goal.number_choice-returns-in-Some
number_choice-returns-in-Some t c = choice_found c.args.room.records c.args.room.cap c.args.left (split_by c.args.m) c.args.at c.args.base c.args.p c.args.work.now c.args.out.now c.args.c c.requires.0 c.in-Some.q _ (sym c.if-is_passed.false ∙ c.is_passed.ensures) (found_as c.args.room.records c.args.room.cap c.args.left (split_by c.args.m) c.args.at c.args.base c.args.p c.args.work.now (some c.in-Some.q) c.in-Some.ensures.0) c.copy_cells.ensures.0

pub number_choice-number_new-requires : goal.number_choice-number_new-requires
number_choice-number_new-requires t c = (omega (arith, c.decreases), (new_starts c.args.room.records c.args.room.cap c.args.left (split_by c.args.m) c.args.at c.args.base c.args.p c.args.work.now c.args.out.now c.args.c c.requires.0 (sym c.if-is_passed.false ∙ c.is_passed.ensures) (found_as c.args.room.records c.args.room.cap c.args.left (split_by c.args.m) c.args.at c.args.base c.args.p c.args.work.now none c.in_default.ensures.0), c.requires.1.0))

pub number_choice-returns : goal.number_choice-returns
number_choice-returns t c = new_done c.args.room.records c.args.room.cap c.args.left (split_by c.args.m) c.args.at c.args.base c.args.p c.args.work.now c.args.out.now c.args.c c.requires.0 _ (sym c.if-is_passed.false ∙ c.is_passed.ensures) (found_as c.args.room.records c.args.room.cap c.args.left (split_by c.args.m) c.args.at c.args.base c.args.p c.args.work.now none c.in_default.ensures.0) c.number_new.ensures

pub number_constant-follow-requires : goal.number_constant-follow-requires
number_constant-follow-requires t c = (rw c.below.ensures (below_lt max_bools c.word-z.result (omega arith)), (c.requires.records, (c.requires.low.bools, (c.requires.low.ints, (c.requires.low.used, follow_ready c.args.room.records c.args.room.cap c.args.left (split_by c.args.m) c.args.at c.args.base c.args.p c.args.work.now c.args.out.now c.args.c c.args.x c.args.y c.requires _ _ _ c.word.ensures c.if-word-eq11.true c.word-z.ensures c.below.ensures)))))

pub number_constant-returns-then-word-eq11 : goal.number_constant-returns-then-word-eq11
number_constant-returns-then-word-eq11 t c = follow_done c.args.room.records c.args.room.cap c.args.left (split_by c.args.m) c.args.at c.args.base c.args.p c.args.work.now c.args.out.now c.args.c c.args.x c.args.y c.requires _ _ _ c.word.ensures c.if-word-eq11.true c.word-z.ensures c.below.ensures _ _ _ (follows_as c.ranges.x c.ranges.y c.follow.ensures)

pub number_constant-leaves_of-k-requires : goal.number_constant-leaves_of-k-requires
number_constant-leaves_of-k-requires t c = (c.requires.size, (c.requires.inside, c.requires.low_base))

pub number_constant-returns-then-is_full : goal.number_constant-returns-then-is_full
number_constant-returns-then-is_full t c = constant_full c.args.room.records c.args.room.cap c.args.left (split_by c.args.m) c.args.at c.args.base c.args.p c.args.work.now c.args.out.now c.args.c c.args.x c.args.y c.requires (own_none _ _ _ c.word.ensures c.if-word-eq11.false) _ c.leaves_of-k.ensures _ c.spend-s.ensures (sym c.if-is_full.true ∙ c.is_full.ensures)

pub number_constant-number-d-requires : goal.number_constant-number-d-requires
number_constant-number-d-requires t c = (omega (arith, c.decreases), negated_starts c.args.room.records c.args.room.cap c.args.left (split_by c.args.m) c.args.at c.args.base c.args.p c.args.work.now c.args.out.now c.args.c c.args.x c.args.y c.requires (own_none _ _ _ c.word.ensures c.if-word-eq11.false) _ c.leaves_of-k.ensures _ c.spend-s.ensures (sym c.if-is_full.false ∙ c.is_full.ensures) _ c.advance.ensures)

pub number_constant-number-e-requires : goal.number_constant-number-e-requires
number_constant-number-e-requires t c = (omega (arith, c.decreases), plain_starts c.args.room.records c.args.room.cap c.args.left (split_by c.args.m) c.args.at c.args.base c.args.p c.args.work.now c.args.out.now c.args.c c.args.x c.args.y c.requires (own_none _ _ _ c.word.ensures c.if-word-eq11.false) _ c.leaves_of-k.ensures _ c.spend-s.ensures (sym c.if-is_full.false ∙ c.is_full.ensures) _ c.advance.ensures _ c.number-d.ensures.0)

pub number_constant-conclude-requires : goal.number_constant-conclude-requires
number_constant-conclude-requires t c = (c.requires.records, (c.requires.low.bools, (c.number-e.ensures.0.low.ints, (omega (arith, c.number-d.ensures.1.room, c.number-d.ensures.1.inside), omega (arith, c.number-e.ensures.1.room, c.number-e.ensures.1.inside)))))

pub number_constant-returns : goal.number_constant-returns
number_constant-returns t c = constant_concluded c.args.room.records c.args.room.cap c.args.left (split_by c.args.m) c.args.at c.args.base c.args.p c.args.work.now c.args.out.now c.args.c c.args.x c.args.y c.requires (own_none _ _ _ c.word.ensures c.if-word-eq11.false) _ c.leaves_of-k.ensures _ c.spend-s.ensures (sym c.if-is_full.false ∙ c.is_full.ensures) _ c.advance.ensures _ c.number-d.ensures.0 _ c.number-e.ensures.0 _ _ _ _ _ _ _ _ _ _ _ _ c.number-d.ensures.1 c.number-e.ensures.1 (concludes_as c.ranges.x c.ranges.y c.conclude.ensures).written c.conclude.ensures.count

pub number_if-parts_of-p-requires : goal.number_if-parts_of-p-requires
number_if-parts_of-p-requires t c = (c.requires.0.size, (c.requires.1.1, c.requires.0.low_base))

pub number_if-number_choice-d-requires : goal.number_if-number_choice-d-requires
number_if-number_choice-d-requires t c = (omega (arith, c.decreases), (parts_starts c.args.room.records c.args.room.cap (read_part c.args.work.now) c.args.left (split_by c.args.m) c.args.at c.args.one c.args.base c.parts_of-p.result c.parts_of-p.ensures (state_of c.args.work.now c.args.out.now c.args.c) c.requires.0, (parts_own (read_part c.args.work.now) c.args.left (split_by c.args.m) c.args.one c.args.base c.parts_of-p.result c.parts_of-p.ensures, (parts_skips c.args.room.records c.args.room.cap (read_part c.args.work.now) c.args.left (split_by c.args.m) c.args.at c.args.one c.args.base c.parts_of-p.result c.parts_of-p.ensures c.requires.1.0).start)))

pub number_if-returns : goal.number_if-returns
number_if-returns t c = walked_choice c.args.room.records c.args.room.cap (state_of c.args.work.now c.args.out.now c.args.c) c.args.left (split_by c.args.m) c.args.at c.args.one c.args.base c.parts_of-p.result c.parts_of-p.ensures c.requires.1.0 _ _ _ _ c.ended.ensures c.number_choice-d.ensures

pub number_int-returns-then-left-eq0 : goal.number_int-returns-then-left-eq0
number_int-returns-then-left-eq0 t c = walked_int c.args.room.records c.args.room.cap (state_of c.args.work.now c.args.out.now c.args.c) c.args.left (split_by c.args.m) c.args.at c.args.base c.args.work.now c.args.out.now c.args.c _ _ _ c.ended.ensures (int_done_zero c.args.room.records c.args.room.cap (state_of c.args.work.now c.args.out.now c.args.c) c.args.left (split_by c.args.m) c.args.at c.args.base c.requires c.if-left-eq0.true) (int_none c.args.work.now c.requires.size c.args.left (split_by c.args.m) c.args.at c.args.base c.requires.inside c.requires.low_base c.if-left-eq0.true)

pub number_int-number_terms-requires : goal.number_int-number_terms-requires
number_int-number_terms-requires t c = (omega (arith, c.decreases, c.if-left-eq0.false), sum_starts c.args.room.records c.args.room.cap (state_of c.args.work.now c.args.out.now c.args.c) c.args.left (split_by c.args.m) c.args.at c.args.base c.requires _ c.if-left-eq0.false refl _ c.word-code.ensures _ _ c.word-x.ensures c.within-two.ensures c.if-code-eq22.true)

pub number_int-returns-then-code-eq22 : goal.number_int-returns-then-code-eq22
number_int-returns-then-code-eq22 t c = (sum_done c.args.room.records c.args.room.cap (state_of c.args.work.now c.args.out.now c.args.c) c.args.left (split_by c.args.m) c.args.at c.args.base c.requires _ c.if-left-eq0.false refl _ c.word-code.ensures _ _ c.word-x.ensures c.within-two.ensures c.if-code-eq22.true _ c.number_terms.ensures.0, int_sum c.args.work.now c.requires.size c.args.left (split_by c.args.m) c.args.at c.args.base c.requires.inside c.requires.low_base _ c.if-left-eq0.false refl _ _ _ _ _ c.word-code.ensures c.if-code-eq22.true c.within-two.ensures c.word-x.ensures c.number_terms.ensures.1)

pub number_int-number_if-requires : goal.number_int-number_if-requires
number_int-number_if-requires t c = (omega (arith, c.decreases, c.if-left-eq0.false), (if_starts c.args.room.records c.args.room.cap (state_of c.args.work.now c.args.out.now c.args.c) c.args.left (split_by c.args.m) c.args.at c.args.base c.requires _ c.if-left-eq0.false refl _ c.word-code.ensures _ c.within.ensures c.if-code-eq23.true, (omega (arith, c.within.ensures, c.requires.inside), omega (arith, c.within.ensures))))

pub number_int-returns-then-code-eq23 : goal.number_int-returns-then-code-eq23
number_int-returns-then-code-eq23 t c = walked_if c.args.room.records c.args.room.cap (state_of c.args.work.now c.args.out.now c.args.c) c.args.left (split_by c.args.m) c.args.at c.args.base c.requires _ c.if-left-eq0.false refl _ c.word-code.ensures _ c.within.ensures c.if-code-eq23.true _ _ c.number_if.result c.number_if.ensures

pub number_int-number_leaf-d-requires : goal.number_int-number_leaf-d-requires
number_int-number_leaf-d-requires t c = leaf_starts c.args.room.records c.args.room.cap (state_of c.args.work.now c.args.out.now c.args.c) c.args.left (split_by c.args.m) c.args.at c.args.base c.requires _ c.if-left-eq0.false refl _ c.word-code.ensures c.if-code-eq22.false c.if-code-eq23.false

pub number_int-returns : goal.number_int-returns
number_int-returns t c = walked_int c.args.room.records c.args.room.cap (state_of c.args.work.now c.args.out.now c.args.c) c.args.left (split_by c.args.m) c.args.at c.args.base _ _ _ _ _ _ c.ended-2.ensures (leaf_done c.args.room.records c.args.room.cap (state_of c.args.work.now c.args.out.now c.args.c) c.args.left (split_by c.args.m) c.args.at c.args.base c.requires _ c.if-left-eq0.false refl _ c.word-code.ensures _ c.if-code-eq22.false c.if-code-eq23.false c.number_leaf-d.ensures) (int_leaf c.args.work.now c.requires.size c.args.left (split_by c.args.m) c.args.at c.args.base c.requires.inside c.requires.low_base _ c.if-left-eq0.false refl _ _ c.word-code.ensures c.if-code-eq22.false c.if-code-eq23.false c.within-two.ensures)

pub number_new-returns-then-is_full : goal.number_new-returns-then-is_full
number_new-returns-then-is_full t c = new_full c.args.room.records c.args.room.cap c.args.left (split_by c.args.m) c.args.at c.args.base c.args.p c.args.work.now c.args.out.now c.args.c _ c.requires.0 c.requires.1 c.spend-s.ensures (sym c.if-is_full.true ∙ c.is_full.ensures)

pub number_new-number_int-a-requires : goal.number_new-number_int-a-requires
number_new-number_int-a-requires t c = (omega (arith, c.decreases), first_starts c.args.room.records c.args.room.cap c.args.left (split_by c.args.m) c.args.at c.args.base c.args.p c.args.work.now c.args.out.now c.args.c _ c.requires.0 c.requires.1 c.spend-s.ensures (sym c.if-is_full.false ∙ c.is_full.ensures))

pub number_new-number_int-b-requires : goal.number_new-number_int-b-requires
number_new-number_int-b-requires t c = (omega (arith, c.decreases), second_starts c.args.room.records c.args.room.cap c.args.left (split_by c.args.m) c.args.at c.args.base c.args.p c.args.work.now c.args.out.now c.args.c _ c.requires.0 c.requires.1 c.spend-s.ensures (sym c.if-is_full.false ∙ c.is_full.ensures) _ c.number_int-a.ensures.0)

pub number_new-returns-then-is_full-2 : goal.number_new-returns-then-is_full-2
number_new-returns-then-is_full-2 t c = new_late c.args.room.records c.args.room.cap c.args.left (split_by c.args.m) c.args.at c.args.base c.args.p c.args.work.now c.args.out.now c.args.c _ c.requires.0 c.requires.1 c.spend-s.ensures (sym c.if-is_full.false ∙ c.is_full.ensures) _ c.number_int-a.ensures.0 _ c.number_int-b.ensures.0 (sym c.if-is_full-2.true ∙ c.is_full-2.ensures)

pub number_new-number_branches-requires : goal.number_new-number_branches-requires
number_new-number_branches-requires t c = (omega (arith, c.decreases), (branches_starts c.args.room.records c.args.room.cap c.args.left (split_by c.args.m) c.args.at c.args.base c.args.p c.args.work.now c.args.out.now c.args.c _ c.requires.0 c.requires.1 c.spend-s.ensures (sym c.if-is_full.false ∙ c.is_full.ensures) _ c.number_int-a.ensures.0 _ c.number_int-b.ensures.0 c.number_int-a.result.progress refl (sym c.if-is_full-2.false ∙ c.is_full-2.ensures), (branches_parts c.args.room.records c.args.room.cap c.args.left (split_by c.args.m) c.args.at c.args.base c.args.p c.args.work.now c.args.out.now c.args.c _ c.requires.0 c.requires.1 c.spend-s.ensures (sym c.if-is_full.false ∙ c.is_full.ensures) _ c.number_int-a.ensures.0 _ c.number_int-b.ensures.0 c.number_int-a.result.progress refl (sym c.if-is_full-2.false ∙ c.is_full-2.ensures), branches_begin c.args.room.records c.args.room.cap c.args.left (split_by c.args.m) c.args.at c.args.base c.args.p c.args.work.now c.args.out.now c.args.c _ c.requires.0 c.requires.1 c.spend-s.ensures (sym c.if-is_full.false ∙ c.is_full.ensures) _ c.number_int-a.ensures.0 _ c.number_int-b.ensures.0 c.number_int-a.result.progress refl (sym c.if-is_full-2.false ∙ c.is_full-2.ensures) c.number_int-a.ensures.0.low)))

pub number_new-returns : goal.number_new-returns
number_new-returns t c = branches_done c.args.room.records c.args.room.cap c.args.left (split_by c.args.m) c.args.at c.args.base c.args.p c.args.work.now c.args.out.now c.args.c _ c.requires.0 c.requires.1 c.spend-s.ensures (sym c.if-is_full.false ∙ c.is_full.ensures) _ c.number_int-a.ensures.0 _ c.number_int-b.ensures.0 c.number_int-a.result.progress refl (sym c.if-is_full-2.false ∙ c.is_full-2.ensures) _ c.number_branches.ensures

pub number_open-leaves_of-k-requires : goal.number_open-leaves_of-k-requires
number_open-leaves_of-k-requires t c = (c.requires.0.size, (c.requires.1.0.inside, c.requires.0.low_base))

pub number_open-start_open-s-requires : goal.number_open-start_open-s-requires
number_open-start_open-s-requires t c = (c.requires.0.records, (c.requires.0.low.ints, pair_bits c.ranges.lo c.ranges.hi (λ a b. (nat_abs a ≤ max_weight) × (nat_abs b ≤ max_weight)) c.requires.1.1))

pub number_open-returns-then-is_full : goal.number_open-returns-then-is_full
number_open-returns-then-is_full t c = open_full c.args.room.records c.args.room.cap c.args.left (split_by c.args.m) c.args.at c.args.base c.args.p c.args.work.now c.args.out.now c.args.c c.args.lo c.args.hi c.requires.0 c.requires.1.0 _ c.leaves_of-k.ensures _ (opens_as c.ranges.lo c.ranges.hi c.start_open-s.ensures).written _ c.start_open-s.ensures.count (sym c.if-is_full.true ∙ c.is_full.ensures)

pub number_open-number-d-requires : goal.number_open-number-d-requires
number_open-number-d-requires t c = (omega (arith, c.decreases), open_plain c.args.room.records c.args.room.cap c.args.left (split_by c.args.m) c.args.at c.args.base c.args.p c.args.work.now c.args.out.now c.args.c c.args.lo c.args.hi c.requires.0 c.requires.1.0 _ c.leaves_of-k.ensures _ (opens_as c.ranges.lo c.ranges.hi c.start_open-s.ensures).written _ c.start_open-s.ensures.count (sym c.if-is_full.false ∙ c.is_full.ensures))

pub number_open-number-e-requires : goal.number_open-number-e-requires
number_open-number-e-requires t c = (omega (arith, c.decreases), open_negated c.args.room.records c.args.room.cap c.args.left (split_by c.args.m) c.args.at c.args.base c.args.p c.args.work.now c.args.out.now c.args.c c.args.lo c.args.hi c.requires.0 c.requires.1.0 _ c.leaves_of-k.ensures _ (opens_as c.ranges.lo c.ranges.hi c.start_open-s.ensures).written _ c.start_open-s.ensures.count (sym c.if-is_full.false ∙ c.is_full.ensures) _ c.number-d.ensures.0)

pub number_open-settle-requires : goal.number_open-settle-requires
number_open-settle-requires t c = (c.requires.0.inside, c.requires.0.low.ints)

pub number_open-shape_of-out : goal.number_open-shape_of-out
number_open-shape_of-out t c = (open_done c.args.room.records c.args.room.cap c.args.left (split_by c.args.m) c.args.at c.args.base c.args.p c.args.work.now c.args.out.now c.args.c c.args.lo c.args.hi c.requires.0 c.requires.1.0 _ c.leaves_of-k.ensures _ (opens_as c.ranges.lo c.ranges.hi c.start_open-s.ensures).written _ c.start_open-s.ensures.count (sym c.if-is_full.false ∙ c.is_full.ensures) _ c.number-d.ensures.0 _ c.number-e.ensures.0 (leb c.args.p.base c.args.base) (number_word (leb c.args.p.base c.args.base) c.args.c.ints) _ _ (whole_is c.args.p.base c.args.base) refl (settles_as c.ranges.lo c.ranges.hi c.settle.ensures).written c.settle.ensures.count).kept.room

pub number_open-returns : goal.number_open-returns
number_open-returns t c = open_done c.args.room.records c.args.room.cap c.args.left (split_by c.args.m) c.args.at c.args.base c.args.p c.args.work.now c.args.out.now c.args.c c.args.lo c.args.hi c.requires.0 c.requires.1.0 _ c.leaves_of-k.ensures _ (opens_as c.ranges.lo c.ranges.hi c.start_open-s.ensures).written _ c.start_open-s.ensures.count (sym c.if-is_full.false ∙ c.is_full.ensures) _ c.number-d.ensures.0 _ c.number-e.ensures.0 (leb c.args.p.base c.args.base) (number_word (leb c.args.p.base c.args.base) c.args.c.ints) _ _ (whole_is c.args.p.base c.args.base) refl (settles_as c.ranges.lo c.ranges.hi c.settle.ensures).written c.settle.ensures.count

pub number_terms-loop-init : goal.number_terms-loop-init
number_terms-loop-init t c = let e : c.args.count - 0 ≡ c.args.count = omega arith in rw e (terms_start c.args.room.records c.args.room.cap c.args.left (split_by c.args.m) c.args.count c.args.at c.args.base c.args.work.now c.args.out.now c.args.c _ c.ended-r.ensures c.requires)

pub number_terms-overflow_add-r : goal.number_terms-overflow_add-r
number_terms-overflow_add-r t c = omega (arith, c.loop.invariant.skips.inside)

pub number_terms-number_leaf-d-requires : goal.number_terms-number_leaf-d-requires
number_terms-number_leaf-d-requires t c = leaf_starts c.args.room.records c.args.room.cap _ c.args.left (split_by c.args.m) _ _ (terms_term c.args.room.records c.args.room.cap c.args.left (split_by c.args.m) c.args.count c.args.at c.args.base c.args.work.now c.args.out.now c.args.c c.ended-r.result.progress (ap (λ (x : NumberedInt). x.progress) c.ended-r.ensures) c.requires _ _ c.loop.r (c.args.count - c.loop.counter) c.loop.invariant (omega arith) _ c.within-p.ensures) _ (c.is_leaf.ensures c.if-is_leaf.true).0 refl _ c.word-k.ensures (c.is_leaf.ensures c.if-is_leaf.true).1.0 (c.is_leaf.ensures c.if-is_leaf.true).1.1

pub number_terms-loop-preserved-then-is_leaf : goal.number_terms-loop-preserved-then-is_leaf
number_terms-loop-preserved-then-is_leaf t c = let e : c.args.count - (c.loop.counter + 1) ≡ c.args.count - c.loop.counter - 1 = omega arith in rw e (terms_again c.args.room.records c.args.room.cap c.args.left (split_by c.args.m) c.args.count c.args.at c.args.base c.args.work.now c.args.out.now c.args.c c.ended-r.result.progress (ap (λ (x : NumberedInt). x.progress) c.ended-r.ensures) c.requires _ _ c.loop.r (c.args.count - c.loop.counter) c.loop.invariant (omega arith) _ c.within-p.ensures _ _ c.ended-r-then-is_leaf.result (walked_int c.args.room.records c.args.room.cap _ c.args.left (split_by c.args.m) _ _ _ _ _ _ _ _ c.ended-r-then-is_leaf.ensures (leaf_done c.args.room.records c.args.room.cap _ c.args.left (split_by c.args.m) _ _ (terms_term c.args.room.records c.args.room.cap c.args.left (split_by c.args.m) c.args.count c.args.at c.args.base c.args.work.now c.args.out.now c.args.c c.ended-r.result.progress (ap (λ (x : NumberedInt). x.progress) c.ended-r.ensures) c.requires _ _ c.loop.r (c.args.count - c.loop.counter) c.loop.invariant (omega arith) _ c.within-p.ensures) _ (c.is_leaf.ensures c.if-is_leaf.true).0 refl _ c.word-k.ensures _ (c.is_leaf.ensures c.if-is_leaf.true).1.0 (c.is_leaf.ensures c.if-is_leaf.true).1.1 c.number_leaf-d.ensures) (int_leaf _ (terms_term c.args.room.records c.args.room.cap c.args.left (split_by c.args.m) c.args.count c.args.at c.args.base c.args.work.now c.args.out.now c.args.c c.ended-r.result.progress (ap (λ (x : NumberedInt). x.progress) c.ended-r.ensures) c.requires _ _ c.loop.r (c.args.count - c.loop.counter) c.loop.invariant (omega arith) _ c.within-p.ensures).size c.args.left (split_by c.args.m) _ _ (terms_term c.args.room.records c.args.room.cap c.args.left (split_by c.args.m) c.args.count c.args.at c.args.base c.args.work.now c.args.out.now c.args.c c.ended-r.result.progress (ap (λ (x : NumberedInt). x.progress) c.ended-r.ensures) c.requires _ _ c.loop.r (c.args.count - c.loop.counter) c.loop.invariant (omega arith) _ c.within-p.ensures).inside (terms_term c.args.room.records c.args.room.cap c.args.left (split_by c.args.m) c.args.count c.args.at c.args.base c.args.work.now c.args.out.now c.args.c c.ended-r.result.progress (ap (λ (x : NumberedInt). x.progress) c.ended-r.ensures) c.requires _ _ c.loop.r (c.args.count - c.loop.counter) c.loop.invariant (omega arith) _ c.within-p.ensures).low_base _ (c.is_leaf.ensures c.if-is_leaf.true).0 refl _ _ c.word-k.ensures (c.is_leaf.ensures c.if-is_leaf.true).1.0 (c.is_leaf.ensures c.if-is_leaf.true).1.1 c.within.ensures)))

pub number_terms-number_int-r-requires : goal.number_terms-number_int-r-requires
number_terms-number_int-r-requires t c = (omega (arith, c.decreases), (terms_term c.args.room.records c.args.room.cap c.args.left (split_by c.args.m) c.args.count c.args.at c.args.base c.args.work.now c.args.out.now c.args.c c.ended-r.result.progress (ap (λ (x : NumberedInt). x.progress) c.ended-r.ensures) c.requires _ _ c.loop.r (c.args.count - c.loop.counter) c.loop.invariant (omega arith) _ c.within-p.ensures))

pub number_terms-loop-preserved : goal.number_terms-loop-preserved
number_terms-loop-preserved t c = let e : c.args.count - (c.loop.counter + 1) ≡ c.args.count - c.loop.counter - 1 = omega arith in rw e (terms_again c.args.room.records c.args.room.cap c.args.left (split_by c.args.m) c.args.count c.args.at c.args.base c.args.work.now c.args.out.now c.args.c c.ended-r.result.progress (ap (λ (x : NumberedInt). x.progress) c.ended-r.ensures) c.requires _ _ c.loop.r (c.args.count - c.loop.counter) c.loop.invariant (omega arith) _ c.within-p.ensures _ _ c.number_int-r.result c.number_int-r.ensures)

pub number_terms-shape_of-work : goal.number_terms-shape_of-work
number_terms-shape_of-work t c = c.loop.invariant.left.kept.size

pub number_terms-shape_of-out : goal.number_terms-shape_of-out
number_terms-shape_of-out t c = c.loop.invariant.left.kept.room

pub number_terms-returns : goal.number_terms-returns
number_terms-returns t c = terms_done c.args.room.records c.args.room.cap c.args.left (split_by c.args.m) c.args.count c.args.at c.args.base c.args.work.now c.args.out.now c.args.c c.ended-r.result.progress (ap (λ (x : NumberedInt). x.progress) c.ended-r.ensures) c.requires _ _ c.loop.r (c.args.count - c.loop.counter) c.loop.invariant (omega arith)

pub numbers-loop-init : goal.numbers-loop-init
numbers-loop-init t c = let e : c.args.count - 0 ≡ c.args.count = omega arith in rw e (numbers_start c.args.room.records c.args.room.cap c.args.left (split_by c.args.m) c.args.h c.args.count c.args.g c.args.at c.args.base c.args.work.now c.args.out.now c.args.c _ c.single-r.ensures c.requires)

pub numbers-number-s-requires : goal.numbers-number-s-requires
numbers-number-s-requires t c = (omega (arith, c.decreases), numbers_member c.args.room.records c.args.room.cap c.args.left (split_by c.args.m) c.args.h c.args.count c.args.g c.args.at c.args.base c.args.work.now c.args.out.now c.args.c c.single-r.result.progress (ap (λ (x : Numbered). x.progress) c.single-r.ensures) c.requires _ _ c.loop.r (c.args.count - c.loop.counter) c.loop.f c.loop.invariant (omega arith))

pub numbers-add-r-requires : goal.numbers-add-r-requires
numbers-add-r-requires t c = numbers_room c.args.room.records c.args.room.cap c.args.left (split_by c.args.m) c.args.h c.args.count c.args.g c.args.at c.args.base c.args.work.now c.args.out.now c.args.c c.single-r.result.progress (ap (λ (x : Numbered). x.progress) c.single-r.ensures) c.requires _ _ c.loop.r (c.args.count - c.loop.counter) c.loop.f c.loop.invariant (omega arith) _ _ c.number-s.result c.number-s.ensures

pub numbers-loop-preserved : goal.numbers-loop-preserved
numbers-loop-preserved t c = let e : c.args.count - (c.loop.counter + 1) ≡ c.args.count - c.loop.counter - 1 = omega arith in rw e (numbers_again c.args.room.records c.args.room.cap c.args.left (split_by c.args.m) c.args.h c.args.count c.args.g c.args.at c.args.base c.args.work.now c.args.out.now c.args.c c.single-r.result.progress (ap (λ (x : Numbered). x.progress) c.single-r.ensures) c.requires _ _ c.loop.r (c.args.count - c.loop.counter) c.loop.f c.loop.invariant (omega arith) _ _ c.number-s.result c.number-s.ensures _ c.add-r.ensures)

pub numbers-shape_of-work : goal.numbers-shape_of-work
numbers-shape_of-work t c = c.loop.invariant.left.kept.size

pub numbers-shape_of-out : goal.numbers-shape_of-out
numbers-shape_of-out t c = c.loop.invariant.left.kept.room

pub numbers-returns : goal.numbers-returns
numbers-returns t c = numbers_done c.args.room.records c.args.room.cap c.args.left (split_by c.args.m) c.args.h c.args.count c.args.g c.args.at c.args.base c.args.work.now c.args.out.now c.args.c c.single-r.result.progress (ap (λ (x : Numbered). x.progress) c.single-r.ensures) c.requires _ _ c.loop.r (c.args.count - c.loop.counter) c.loop.f c.loop.invariant (omega arith)
