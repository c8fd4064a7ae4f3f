-- `lines::put_comparisons` meets its contract. Assumes nothing.
use native.Mathlib.Omega.{arith}
use Prim.Native.Nat.{◌+◌, ◌-◌}
use mathlib.Core.Path.{◌≡◌, refl}
use Rattle.lines.specs.Lines.{print_comparison}
use Rattle.lines.proofs.Writing.{showing_start, showing_out, showing_next, showing_done, sum_out, sum_next, sum_done, comparisons_shown, counted_shown, comparison_less}
use Rattle.lines.proofs.put_comparisons.Goals as goal

pub loop-init : goal.loop-init
loop-init c = let e : c.count_at-n.result - 0 ≡ c.count_at-n.result = omega arith in rw e (showing_start _ _ _ _ _ _ c.stop.ensures.high, omega arith, omega arith)

pub returns-then-p-words : goal.returns-then-p-words
returns-then-p-words c = record { printed = comparisons_shown _ _ _ _ _ _ _ _ _ c.count_at-n.ensures.0 c.stop.ensures (showing_out _ _ _ _ _ _ _ _ _ _ c.loop.invariant.0 c.if-p-words.true); members_value = counted_shown _ _ _ _ _ _ c.count_at-n.ensures.0 c.stop.ensures (sum_out print_comparison (λ k. 1) _ _ _ _ _ c.loop.invariant.1 c.if-p-words.true) c.loop.invariant.2 }

pub put_comparison-q-requires : goal.put_comparison-q-requires
put_comparison-q-requires c = c.loop.invariant.0.high

pub overflow_add-p : goal.overflow_add-p
overflow_add-p c = record { fits = omega (arith, c.loop.invariant.2, c.loop.invariant.0.high) }

pub loop-preserved : goal.loop-preserved
loop-preserved c =
    let e : c.count_at-n.result - (c.loop.counter + 1) ≡ c.count_at-n.result - c.loop.counter - 1 = omega arith in
    let l = comparison_less c.args.words.now c.loop.p.next c.put_comparison-q.result.next (omega (arith, c.loop.invariant.0.high, c.if-p-words.false)) c.put_comparison-q.ensures.high c.put_comparison-q.ensures.rest in
    rw e (
      showing_next _ _ _ _ _ _ _ _ _ _ c.loop.invariant.0 _ _ _ (omega arith) (omega (arith, c.loop.invariant.0.high, c.if-p-words.false)) c.put_comparison-q.ensures,
      sum_next print_comparison (λ k. 1) c.args.words.now _ c.loop.p.next _ c.loop.p.members c.loop.invariant.1 1 c.put_comparison-q.result.next (omega arith) (omega (arith, c.loop.invariant.0.high, c.if-p-words.false)) refl c.put_comparison-q.ensures.rest,
      omega (arith, l, c.loop.invariant.2),
    )

pub returns : goal.returns
returns c = record { printed = comparisons_shown _ _ _ _ _ _ _ _ _ c.count_at-n.ensures.0 c.stop.ensures (showing_done _ _ _ _ _ _ _ _ _ _ c.loop.invariant.0 (omega arith)); members_value = counted_shown _ _ _ _ _ _ c.count_at-n.ensures.0 c.stop.ensures (sum_done print_comparison (λ k. 1) c.args.words.now _ c.loop.p.next _ c.loop.p.members c.loop.invariant.1 (omega arith)) c.loop.invariant.2 }
