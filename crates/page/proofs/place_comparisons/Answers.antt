use mathlib.Core.Path.{◌≡◌, refl, ◌∙◌}
use Prim.Native.Nat.{◌+◌, ◌-◌}
use native.Mathlib.Omega.{arith}
use Rattle.page.proofs.Comparisons.{comparing_start, comparing_next, comparing_done, comparing_out}
use Rattle.page.proofs.place_comparisons.Goals as goal

pub stop-i-requires : goal.stop-i-requires
stop-i-requires c = c.requires.3

pub loop-init : goal.loop-init
loop-init c = let e : c.count_at-n.result - 0 ≡ c.count_at-n.result = omega arith in rw e (c.requires.0, omega arith, refl, comparing_start c.count_at-n.ensures.0 c.stop-i.ensures)

pub returns-then-i-words : goal.returns-then-i-words
returns-then-i-words c = comparing_out c.loop.invariant.3 c.loop.invariant.0 c.if-i-words.true

pub place_comparison-r-requires : goal.place_comparison-r-requires
place_comparison-r-requires c = (c.loop.invariant.0, c.requires.1, omega (arith, c.loop.invariant.1, c.loop.invariant.3.high, c.requires.1, c.requires.2), omega (arith, c.loop.invariant.3.high, c.if-i-words.false), c.requires.4)

pub loop-preserved : goal.loop-preserved
loop-preserved c = let e : c.count_at-n.result - (c.loop.counter + 1) ≡ c.count_at-n.result - c.loop.counter - 1 = omega arith in rw e (c.place_comparison-r.ensures.0.line, omega (arith, c.place_comparison-r.ensures.0.few, c.loop.invariant.1, c.place_comparison-r.ensures.1.low), c.place_comparison-r.ensures.0.size ∙ c.loop.invariant.2, comparing_next c.loop.invariant.3 (omega arith) (omega (arith, c.loop.invariant.3.high, c.if-i-words.false)) c.place_comparison-r.ensures.0 c.place_comparison-r.ensures.1)

pub returns : goal.returns
returns c = comparing_done c.loop.invariant.3 c.loop.invariant.0 (omega arith)
