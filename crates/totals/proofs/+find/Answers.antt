-- The loop's invariant is `Looking`; the levels left fall at each call.
use mathlib.Core.Path.{◌≡◌, ap}
use mathlib.Core.Bool.{not}
use Prim.Native.Nat.{◌+◌, ◌-◌}
use native.Mathlib.Omega.{arith}
use mathlib.Core.Path.{refl}
use Rattle.scan.specs.Skip.{split_by}
use Rattle.totals.proofs.Steps.{off, on, sum_left}
use Rattle.totals.specs.Ranges.{is_hit}
use Rattle.totals.proofs.Looks.{look_start, look_end, look_branched, look_found, look_next}
use Rattle.totals.proofs.+find.Goals as goal

pub find_lone-requires : goal.find_lone-requires
find_lone-requires t c = let p = c.requires in (p.0, (p.1.0, (p.1.1.0, (p.1.1.1.0, (off _ _ c.is_sum.ensures (ap not c.if-not-is_sum.true), p.1.1.1.1)))))

pub returns-then-not-is_sum : goal.returns-then-not-is_sum
returns-then-not-is_sum t c = c.find_lone.ensures

pub overflow_sub-under : goal.overflow_sub-under
overflow_sub-under t c = sum_left c.args.work.now c.args.left c.args.at (on _ _ c.is_sum.ensures (ap not c.if-not-is_sum.false))

pub loop-init : goal.loop-init
loop-init t c =
    let e : c.word-count.result - 0 ≡ c.word-count.result = omega arith in
    rw e (let p = c.requires in
    look_start c.args.work.now p.0 c.args.left _ (split_by c.args.m) c.args.at c.args.base c.args.n (on _ _ c.is_sum.ensures (ap not c.if-not-is_sum.false)) refl _ _ c.word-count.ensures c.within.ensures c.args.x p.1.1.0 p.1.1.1.0 p.1.1.1.1)

pub overflow_add-r : goal.overflow_add-r
overflow_add-r t c = omega (arith, c.loop.invariant.sofar.skips.inside)

pub find-requires : goal.find-requires
find-requires t c = let p = c.requires-raw in
    let g = c.loop.invariant in
    (omega (arith, p.0, sum_left c.args.work.now c.args.left c.args.at (on _ _ c.is_sum.ensures (ap not c.if-not-is_sum.false))), (p.1.0, (omega (arith, c.within-p.ensures), (g.sofar.skips.low, (g.sofar.low, look_branched c.args.work.now p.1.0 c.args.left _ (split_by c.args.m) c.args.at c.args.base c.args.n (on _ _ c.is_sum.ensures (ap not c.if-not-is_sum.false)) refl _ _ c.word-count.ensures c.within.ensures c.args.x _ _ g (omega arith) _ c.within-p.ensures)))))

pub returns-in-Some : goal.returns-in-Some
returns-in-Some t c = let p = c.requires in
    rw (← c.in-Some.is) (look_found c.args.work.now p.0 c.args.left _ (split_by c.args.m) c.args.at c.args.base c.args.n (on _ _ c.is_sum.ensures (ap not c.if-not-is_sum.false)) refl _ _ c.word-count.ensures c.within.ensures c.args.x _ _ c.loop.invariant (omega arith) _ c.within-p.ensures c.find.result c.find.ensures (ap is_hit c.in-Some.is))

pub end_of-r-requires : goal.end_of-r-requires
end_of-r-requires t c = let g = c.loop.invariant in (c.requires.0, (omega (arith, c.within-p.ensures), (g.sofar.skips.low, g.sofar.low)))

pub loop-preserved : goal.loop-preserved
loop-preserved t c =
    let e : c.word-count.result - (c.loop.counter + 1) ≡ c.word-count.result - c.loop.counter - 1 = omega arith in
    rw e (let p = c.requires in
    look_next c.args.work.now p.0 c.args.left _ (split_by c.args.m) c.args.at c.args.base c.args.n (on _ _ c.is_sum.ensures (ap not c.if-not-is_sum.false)) refl _ _ c.word-count.ensures c.within.ensures c.args.x _ _ c.loop.invariant (omega arith) _ c.within-p.ensures c.find.result c.find.ensures (ap is_hit c.in_default.is) c.end_of-r.result c.end_of-r.ensures)

pub returns : goal.returns
returns t c = let p = c.requires in
    look_end c.args.work.now p.0 c.args.left _ (split_by c.args.m) c.args.at c.args.base c.args.n (on _ _ c.is_sum.ensures (ap not c.if-not-is_sum.false)) refl _ _ c.word-count.ensures c.within.ensures c.args.x _ _ _ c.loop.invariant (omega arith) refl
