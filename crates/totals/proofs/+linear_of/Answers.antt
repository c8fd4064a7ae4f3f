-- The loop's invariant is `Going`, of the sum in the two arrays; the levels left fall at each call.
use mathlib.Core.Path.{◌≡◌, ap}
use mathlib.Core.Bool.{not}
use borrow.Author.Rules.{rules}
use Prim.Native.Nat.{◌+◌, ◌-◌}
use native.Mathlib.Omega.{arith}
use mathlib.Core.Path.{refl, sym, ◌∙◌}
use mir.Syntax.{w32}
use mir.Val.{SFits}
use mir.Facts.{to_z-of_z}
use Rattle.sums.specs.Struct.{sum_of}
use Rattle.sums.proofs.Laws.{stands_sum, nothing_kept}
use Rattle.scan.specs.Skip.{split_by}
use Rattle.totals.specs.Lone.{sum_in, lone_words}
use Rattle.totals.proofs.Steps.{off, on, lone_is, sum_left, going_start, going_end, turn_steps, turn_asks, turn_next}
use Rattle.totals.proofs.+linear_of.Goals as goal

pub alone-requires : goal.alone-requires
alone-requires t c = let p = c.requires in (p.0, (p.1.0, (p.1.1.0, (p.1.1.1.0, off _ _ c.is_sum.ensures (ap not c.if-not-is_sum.true)))))

pub returns-then-not-is_sum : goal.returns-then-not-is_sum
returns-then-not-is_sum t c = c.alone.ensures

pub overflow_sub-under : goal.overflow_sub-under
overflow_sub-under t c = sum_left c.args.work.now c.args.left c.args.at (on _ _ c.is_sum.ensures (ap not c.if-not-is_sum.false))

pub loop-init : goal.loop-init
loop-init t c =
    let e : c.word-count.result - 0 ≡ c.word-count.result = omega arith in
    rw e (let a = c.args in
    let p = c.requires in
    (going_start a.work.now p.0 a.left _ (split_by a.m) a.at a.base a.n (on _ _ c.is_sum.ensures (ap not c.if-not-is_sum.false)) refl _ _ c.word-count.ensures c.within-two.ensures p.1.1.0 p.1.1.1.0 p.1.1.1.1 _ (nothing_kept _ _ (refl, refl)).0, (refl, refl)))

pub overflow_add-r : goal.overflow_add-r
overflow_add-r t c = omega (arith, c.loop.invariant.0.sofar.skips.inside)

pub linear_of-o-requires : goal.linear_of-o-requires
linear_of-o-requires t c =
    let p = c.requires-raw in
    let g = c.loop.invariant.0 in
    (omega (arith, p.0, sum_left c.args.work.now c.args.left c.args.at (on _ _ c.is_sum.ensures (ap not c.if-not-is_sum.false))), (p.1.0, (omega (arith, c.within-p.ensures), (g.sofar.skips.low, (g.sofar.low, turn_steps _ p.1.0 _ _ _ _ _ _ _ _ _ g (omega arith) _ c.within-p.ensures c.word_at-k.result c.word_at-k.ensures)))))

pub add_sum-sum-requires : goal.add_sum-sum-requires
add_sum-sum-requires t c =
    let g = c.loop.invariant.0 in
    let f : SFits w32 c.word_at-k.result = search rules in
    let o = c.linear_of-o.ensures in
    let q = turn_asks _ c.requires.0 _ _ _ _ _ _ _ _ _ g (omega arith) _ c.within-p.ensures c.word_at-k.result c.word_at-k.ensures (sum_of c.linear_of-o.result.sum) (λ ds. stands_sum c.linear_of-o.result.sum _ (o.sum ds)) in
    rw (to_z-of_z f) (q.0, (o.sum g.domains).room, c.loop.invariant.1, q.1, q.2)

pub loop-preserved-then-is_sum : goal.loop-preserved-then-is_sum
loop-preserved-then-is_sum t c =
    let e : c.word-count.result - (c.loop.counter + 1) ≡ c.word-count.result - c.loop.counter - 1 = omega arith in
    rw e (let g = c.loop.invariant.0 in
    let f : SFits w32 c.word_at-k.result = search rules in
    let o = c.linear_of-o.ensures in
    let k = rw (to_z-of_z f) at c.add_sum-sum.ensures in
    (turn_next _ c.requires.0 _ _ _ _ _ _ _ _ _ g (omega arith) _ c.within-p.ensures c.word_at-k.result c.word_at-k.ensures (sum_of c.linear_of-o.result.sum) (λ ds. stands_sum c.linear_of-o.result.sum _ (o.sum ds)) c.linear_of-o.result.behind o.behind o.words _ k.0, k.1))

pub end_of-r-requires : goal.end_of-r-requires
end_of-r-requires t c = let g = c.loop.invariant.0 in (c.requires.0, (omega (arith, c.within-p.ensures), (g.sofar.skips.low, g.sofar.low)))

pub lone_at-x-requires : goal.lone_at-x-requires
lone_at-x-requires t c = (omega (arith, c.within-p.ensures), c.end_of-r.ensures.low.1)

pub add_lone-sum-requires : goal.add_lone-sum-requires
add_lone-sum-requires t c =
    let g = c.loop.invariant.0 in
    let f : SFits w32 c.word_at-k.result = search rules in
    let q = turn_asks _ c.requires.0 _ _ _ _ _ _ _ _ _ g (omega arith) _ c.within-p.ensures c.word_at-k.result c.word_at-k.ensures (sum_in c.lone_at-x.result) (lone_is _ _ _ _ _ _ _ _ (sym c.is_sum-in-loop.ensures ∙ c.if-is_sum.false) c.end_of-r.ensures c.lone_at-x.ensures.0) in
    rw (to_z-of_z f) (q.0, c.loop.invariant.1, q.1, q.2)

pub loop-preserved : goal.loop-preserved
loop-preserved t c =
    let e : c.word-count.result - (c.loop.counter + 1) ≡ c.word-count.result - c.loop.counter - 1 = omega arith in
    rw e (let g = c.loop.invariant.0 in
    let f : SFits w32 c.word_at-k.result = search rules in
    let k = rw (to_z-of_z f) at c.add_lone-sum.ensures in
    (turn_next _ c.requires.0 _ _ _ _ _ _ _ _ _ g (omega arith) _ c.within-p.ensures c.word_at-k.result c.word_at-k.ensures (sum_in c.lone_at-x.result) (lone_is _ _ _ _ _ _ _ _ (sym c.is_sum-in-loop.ensures ∙ c.if-is_sum.false) c.end_of-r.ensures c.lone_at-x.ensures.0) _ c.end_of-r.ensures (lone_words c.lone_at-x.result c.lone_at-x.ensures.1) _ k.0, k.1))

pub returns : goal.returns
returns t c =
    let a = c.args in
    let p = c.requires in
    let f : SFits w32 c.loop.sum.constant = search rules in
    rw (to_z-of_z f) (going_end a.work.now p.0 a.left _ (split_by a.m) a.at a.base a.n (on _ _ c.is_sum.ensures (ap not c.if-not-is_sum.false)) refl _ _ c.word-count.ensures c.within-two.ensures p.1.0 p.1.1.0 p.1.1.1.0 _ _ c.loop.invariant.0 (omega arith))
