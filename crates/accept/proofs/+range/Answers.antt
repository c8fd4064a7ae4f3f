use borrow.Author.Rules.{rules}
use mathlib.Core.Path.{◌≡◌, refl, ◌∙◌}
use Prim.Native.Nat.{◌+◌, ◌-◌, ◌*◌}
use native.Mathlib.Omega.{arith}
use lib.IntN.{pos}
use lib.ListN.{get_or}
use mir.Syntax.{w32}
use mir.Val.{SFits, to_z, of_z}
use mir.Facts.{to_z-of_z}
use borrow.Author.Rules.{sfits_of}
use Rattle.laws.specs.Ints.{times_low}
use Rattle.memory.specs.Places.{bounds}
use Rattle.accept.proofs.Sizes.{lower_min, higher_max}
use Rattle.accept.proofs.Laws.{var_inside}
use Rattle.accept.proofs.RangeLaws.{range_first_word, range_inside, const_range, if_range_ready, if_range_int, range_second, range_var, var_range, sum_ranges, sum_range, range_condition, range_if_inside, range_left, range_right, range_if, ranges_none, ranges_inside, range_first, ranges_next, ranges_more}
use Rattle.accept.proofs.+range.Goals as goal

pub if_range-overflow_add-at : goal.if_range-overflow_add-at
if_range-overflow_add-at t c = let q = range_if_inside c.args.walk.now.set.now c.args.walk.now.work.now c.args.at c.requires in omega arith

pub if_range-skip_members-c-requires : goal.if_range-skip_members-c-requires
if_range-skip_members-c-requires t c = range_condition c.args.walk.now.set.now c.args.walk.now.work.now c.args.at c.requires

pub if_range-int_range-t-requires : goal.if_range-int_range-t-requires
if_range-int_range-t-requires t c = let q = range_if_inside c.args.walk.now.set.now c.args.walk.now.work.now c.args.at c.requires in let s = range_left c.args.walk.now.set.now c.args.walk.now.work.now c.args.at _ c.skip_members-c.ensures c.requires in (omega (arith, c.decreases, s.1), s.0)

pub if_range-int_range-f-requires : goal.if_range-int_range-f-requires
if_range-int_range-f-requires t c = let q = range_if_inside c.args.walk.now.set.now c.args.walk.now.work.now c.args.at c.requires in let s = range_right c.args.walk.now.set.now c.args.walk.now.work.now c.args.at _ c.skip_members-c.ensures _ _ _ c.int_range-t.ensures c.requires in (omega (arith, c.decreases, s.1), s.0)

pub if_range-returns : goal.if_range-returns
if_range-returns t c = let f1 : SFits w32 c.int_range-t.result.low = search rules in let f2 : SFits w32 c.int_range-f.result.low = search rules in let g1 : SFits w32 c.int_range-t.result.high = search rules in let g2 : SFits w32 c.int_range-f.result.high = search rules in let rl : SFits w32 c.min.result = search rules in let rh : SFits w32 c.max.result = search rules in range_if c.args.walk.now.set.now c.args.walk.now.work.now c.args.at _ c.skip_members-c.ensures _ _ _ c.int_range-t.ensures _ _ _ _ _ c.int_range-f.ensures (to_z-of_z rl ∙ c.min.ensures.value ∙ rw (to_z-of_z f1, to_z-of_z f2) (lower_min c.int_range-t.result.low c.int_range-f.result.low)) (to_z-of_z rh ∙ c.max.ensures.value ∙ rw (to_z-of_z g1, to_z-of_z g2) (higher_max c.int_range-t.result.high c.int_range-f.result.high))

pub int_range-number-code-requires : goal.int_range-number-code-requires
int_range-number-code-requires t c = range_first_word c.args.walk.now.set.now c.args.walk.now.work.now c.args.at c.requires

pub int_range-bounds-walk-at : goal.int_range-bounds-walk-at
int_range-bounds-walk-at t c = let q = range_inside c.args.walk.now.set.now c.args.walk.now.work.now c.args.at c.requires in search rules

pub int_range-returns-then-code-eq20 : goal.int_range-returns-then-code-eq20
int_range-returns-then-code-eq20 t c = let f : SFits w32 (get_or c.args.walk.now.set.now (c.args.at + 1) (pos 0)) = sfits_of c.c-1.given in const_range c.args.walk.now.set.now c.args.walk.now.work.now c.args.at _ c.number-code.ensures.0 _ c.if-code-eq20.true (to_z-of_z f)

pub int_range-if_range-requires : goal.int_range-if_range-requires
int_range-if_range-requires t c = (omega (arith, c.decreases), if_range_ready c.args.walk.now.set.now c.args.walk.now.work.now c.args.at _ c.number-code.ensures.0 c.requires c.if-code-eq23.true)

pub int_range-returns-then-code-eq23 : goal.int_range-returns-then-code-eq23
int_range-returns-then-code-eq23 t c = if_range_int c.args.walk.now.set.now c.args.walk.now.work.now c.args.at _ c.number-code.ensures.0 _ _ _ c.if-code-eq23.true c.if_range.ensures

pub int_range-overflow_add-at : goal.int_range-overflow_add-at
int_range-overflow_add-at t c = let q = range_inside c.args.walk.now.set.now c.args.walk.now.work.now c.args.at c.requires in omega arith

pub int_range-number-v-requires : goal.int_range-number-v-requires
int_range-number-v-requires t c = range_second c.args.walk.now.set.now c.args.walk.now.work.now c.args.at _ c.number-code.ensures.0 c.requires c.if-code-eq20.false c.if-code-eq23.false

pub int_range-bounds-walk-v : goal.int_range-bounds-walk-v
int_range-bounds-walk-v t c = let q = var_inside _ _ (range_var c.args.walk.now.set.now c.args.walk.now.work.now c.args.at _ c.number-code.ensures.0 _ c.number-v.ensures.0 c.requires c.if-code-eq21.true) in search rules

pub int_range-bounds-walk-v-then-code-eq21 : goal.int_range-bounds-walk-v-then-code-eq21
int_range-bounds-walk-v-then-code-eq21 t c = let q = var_inside _ _ (range_var c.args.walk.now.set.now c.args.walk.now.work.now c.args.at _ c.number-code.ensures.0 _ c.number-v.ensures.0 c.requires c.if-code-eq21.true) in search rules

pub int_range-returns-then-code-eq21 : goal.int_range-returns-then-code-eq21
int_range-returns-then-code-eq21 t c = let f : SFits w32 (get_or c.args.walk.now.work.now (bounds + 2 * c.number-v.result) (pos 0)) = sfits_of c.low-1.given in let g : SFits w32 (get_or c.args.walk.now.work.now (bounds + (2 * c.number-v.result + 1)) (pos 0)) = sfits_of c.high-1.given in var_range c.args.walk.now.set.now c.args.walk.now.work.now c.args.at _ c.number-code.ensures.0 _ c.number-v.ensures.0 _ _ c.if-code-eq21.true (to_z-of_z f) (to_z-of_z g)

pub int_range-overflow_add-at-2 : goal.int_range-overflow_add-at-2
int_range-overflow_add-at-2 t c = let q = range_inside c.args.walk.now.set.now c.args.walk.now.work.now c.args.at c.requires in omega arith

pub int_range-terms_range-requires : goal.int_range-terms_range-requires
int_range-terms_range-requires t c = let q = range_inside c.args.walk.now.set.now c.args.walk.now.work.now c.args.at c.requires in (omega (arith, c.decreases), sum_ranges c.args.walk.now.set.now c.args.walk.now.work.now c.args.at _ c.number-code.ensures.0 _ c.number-v.ensures.0 c.if-code-eq20.false c.if-code-eq21.false c.if-code-eq23.false c.requires)

pub int_range-returns : goal.int_range-returns
int_range-returns t c = sum_range c.args.walk.now.set.now c.args.walk.now.work.now c.args.at _ c.number-code.ensures.0 _ c.number-v.ensures.0 c.if-code-eq20.false c.if-code-eq21.false c.if-code-eq23.false _ _ _ c.terms_range.ensures

pub terms_range-overflow_add-next : goal.terms_range-overflow_add-next
terms_range-overflow_add-next t c = let q = ranges_inside _ _ _ _ _ _ (omega (arith, c.loop-test.true)) c.loop.invariant.0 in search rules

pub terms_range-int_range-r-requires : goal.terms_range-int_range-r-requires
terms_range-int_range-r-requires t c = let q = ranges_inside _ _ _ _ _ _ (omega (arith, c.loop-test.true)) c.loop.invariant.0 in (omega (arith, c.decreases, c.loop.invariant.1), range_first _ _ _ _ _ _ (omega (arith, c.loop-test.true)) c.loop.invariant.0)

pub terms_range-offset_bounds-walk-next : goal.terms_range-offset_bounds-walk-next
terms_range-offset_bounds-walk-next t c = let q = ranges_inside _ _ _ _ _ _ (omega (arith, c.loop-test.true)) c.loop.invariant.0 in search rules

pub terms_range-bounds-walk-next : goal.terms_range-bounds-walk-next
terms_range-bounds-walk-next t c = let q = ranges_inside _ _ _ _ _ _ (omega (arith, c.loop-test.true)) c.loop.invariant.0 in search rules

pub terms_range-times_low-low-requires : goal.terms_range-times_low-low-requires
terms_range-times_low-low-requires t c = let fk : SFits w32 (get_or c.args.walk.now.set.now c.loop.next (pos 0)) = sfits_of c.k-1.given in let fl : SFits w32 c.int_range-r.result.low = search rules in let fh : SFits w32 c.int_range-r.result.high = search rules in let q = ranges_next c.args.walk.now.set.now c.args.walk.now.work.now c.loop.next (c.args.n - c.loop.counter) (to_z w32 c.loop.low-bits) (to_z w32 c.loop.high-bits) (omega (arith, c.loop-test.true)) _ _ _ c.int_range-r.ensures (get_or c.args.walk.now.set.now c.loop.next (pos 0)) refl c.loop.invariant.0 in rw (to_z-of_z fk, to_z-of_z fl, to_z-of_z fh) (q.0, q.1)

pub terms_range-times_low-high-requires : goal.terms_range-times_low-high-requires
terms_range-times_low-high-requires t c = let fk : SFits w32 (get_or c.args.walk.now.set.now c.loop.next (pos 0)) = sfits_of c.k-1.given in let fl : SFits w32 c.int_range-r.result.low = search rules in let fh : SFits w32 c.int_range-r.result.high = search rules in let q = ranges_next c.args.walk.now.set.now c.args.walk.now.work.now c.loop.next (c.args.n - c.loop.counter) (to_z w32 c.loop.low-bits) (to_z w32 c.loop.high-bits) (omega (arith, c.loop-test.true)) _ _ _ c.int_range-r.ensures (get_or c.args.walk.now.set.now c.loop.next (pos 0)) refl c.loop.invariant.0 in rw (to_z-of_z fk, to_z-of_z fl, to_z-of_z fh) (q.1, q.0)

pub terms_range-overflow_add-low : goal.terms_range-overflow_add-low
terms_range-overflow_add-low t c = let fk : SFits w32 (get_or c.args.walk.now.set.now c.loop.next (pos 0)) = sfits_of c.k-1.given in let fl : SFits w32 c.int_range-r.result.low = search rules in let fh : SFits w32 c.int_range-r.result.high = search rules in let q = ranges_next c.args.walk.now.set.now c.args.walk.now.work.now c.loop.next (c.args.n - c.loop.counter) (to_z w32 c.loop.low-bits) (to_z w32 c.loop.high-bits) (omega (arith, c.loop-test.true)) _ _ _ c.int_range-r.ensures (get_or c.args.walk.now.set.now c.loop.next (pos 0)) refl c.loop.invariant.0 in let ga : SFits w32 c.times_low-low.result = search rules in let pa : to_z w32 (of_z w32 c.times_low-low.result) ≡ times_low (get_or c.args.walk.now.set.now c.loop.next (pos 0)) c.int_range-r.result.low c.int_range-r.result.high = to_z-of_z ga ∙ c.times_low-low.ensures ∙ rw (to_z-of_z fk, to_z-of_z fl, to_z-of_z fh) refl in rw pa q.2

pub terms_range-overflow_add-high : goal.terms_range-overflow_add-high
terms_range-overflow_add-high t c = let fk : SFits w32 (get_or c.args.walk.now.set.now c.loop.next (pos 0)) = sfits_of c.k-1.given in let fl : SFits w32 c.int_range-r.result.low = search rules in let fh : SFits w32 c.int_range-r.result.high = search rules in let q = ranges_next c.args.walk.now.set.now c.args.walk.now.work.now c.loop.next (c.args.n - c.loop.counter) (to_z w32 c.loop.low-bits) (to_z w32 c.loop.high-bits) (omega (arith, c.loop-test.true)) _ _ _ c.int_range-r.ensures (get_or c.args.walk.now.set.now c.loop.next (pos 0)) refl c.loop.invariant.0 in let ga : SFits w32 c.times_low-low.result = search rules in let gb : SFits w32 c.times_low-high.result = search rules in let pa : to_z w32 (of_z w32 c.times_low-low.result) ≡ times_low (get_or c.args.walk.now.set.now c.loop.next (pos 0)) c.int_range-r.result.low c.int_range-r.result.high = to_z-of_z ga ∙ c.times_low-low.ensures ∙ rw (to_z-of_z fk, to_z-of_z fl, to_z-of_z fh) refl in let pb : to_z w32 (of_z w32 c.times_low-high.result) ≡ times_low (get_or c.args.walk.now.set.now c.loop.next (pos 0)) c.int_range-r.result.high c.int_range-r.result.low = to_z-of_z gb ∙ c.times_low-high.ensures ∙ rw (to_z-of_z fk, to_z-of_z fl, to_z-of_z fh) refl in rw pb q.3

pub terms_range-loop-preserved : goal.terms_range-loop-preserved
terms_range-loop-preserved t c = let fk : SFits w32 (get_or c.args.walk.now.set.now c.loop.next (pos 0)) = sfits_of c.k-1.given in let fl : SFits w32 c.int_range-r.result.low = search rules in let fh : SFits w32 c.int_range-r.result.high = search rules in let q = ranges_next c.args.walk.now.set.now c.args.walk.now.work.now c.loop.next (c.args.n - c.loop.counter) (to_z w32 c.loop.low-bits) (to_z w32 c.loop.high-bits) (omega (arith, c.loop-test.true)) _ _ _ c.int_range-r.ensures (get_or c.args.walk.now.set.now c.loop.next (pos 0)) refl c.loop.invariant.0 in let ga : SFits w32 c.times_low-low.result = search rules in let gb : SFits w32 c.times_low-high.result = search rules in let pa : to_z w32 (of_z w32 c.times_low-low.result) ≡ times_low (get_or c.args.walk.now.set.now c.loop.next (pos 0)) c.int_range-r.result.low c.int_range-r.result.high = to_z-of_z ga ∙ c.times_low-low.ensures ∙ rw (to_z-of_z fk, to_z-of_z fl, to_z-of_z fh) refl in let pb : to_z w32 (of_z w32 c.times_low-high.result) ≡ times_low (get_or c.args.walk.now.set.now c.loop.next (pos 0)) c.int_range-r.result.high c.int_range-r.result.low = to_z-of_z gb ∙ c.times_low-high.ensures ∙ rw (to_z-of_z fk, to_z-of_z fl, to_z-of_z fh) refl in let e : c.args.n - (c.loop.counter + 1) ≡ c.args.n - c.loop.counter - 1 = omega arith in rw (e, pa, pb, to_z-of_z q.2, to_z-of_z q.3) (q.4, omega (arith, q.5, c.loop.invariant.1), λ next' low' high' x. c.loop.invariant.2 next' low' high' (ranges_more c.args.walk.now.set.now c.args.walk.now.work.now c.loop.next (c.args.n - c.loop.counter) (to_z w32 c.loop.low-bits) (to_z w32 c.loop.high-bits) (omega (arith, c.loop-test.true)) _ _ _ c.int_range-r.ensures (get_or c.args.walk.now.set.now c.loop.next (pos 0)) refl next' low' high' x))

pub terms_range-returns : goal.terms_range-returns
terms_range-returns t c = c.loop.invariant.2 _ _ _ (ranges_none _ _ _ _ _ _ (omega (arith, c.loop-test.false)))
