use mathlib.Core.Path.{refl, ◌∙◌}
use native.Mathlib.Omega.{arith}
use Rattle.page.proofs.Pages.{stop_two, pairs_start, pairs_next, pairs_end}
use borrow.Author.Rules.{rules}
use Rattle.page.proofs.place_pairs.Goals as goal

pub loop-i-init : goal.loop-i-init
loop-i-init c = (search rules, c.requires.0, omega arith, refl, pairs_start)

pub stop-j-requires : goal.stop-j-requires
stop-j-requires c = c.loop-i.invariant.0

pub place_pair-p-requires : goal.place_pair-p-requires
place_pair-p-requires c = (c.loop-i.invariant.1, omega (arith, c.loop-i.invariant.2, c.loop-i-test.true, c.requires.1, c.requires.2), (stop_two _ _ _ c.loop-i-test.true c.stop-j.ensures).2)

pub loop-i-smaller : goal.loop-i-smaller
loop-i-smaller c = omega (arith, (stop_two _ _ _ c.loop-i-test.true c.stop-j.ensures).0, c.stop-j.ensures.high)

pub loop-i-preserved : goal.loop-i-preserved
loop-i-preserved c = (c.stop-j.ensures.high, c.place_pair-p.ensures.line, omega (arith, c.place_pair-p.ensures.few, c.loop-i.invariant.2, (stop_two _ _ _ c.loop-i-test.true c.stop-j.ensures).0), c.place_pair-p.ensures.size ∙ c.loop-i.invariant.3, pairs_next _ c.loop-i.invariant.4 c.loop-i-test.true c.stop-j.ensures refl c.place_pair-p.ensures)

pub returns : goal.returns
returns c = pairs_end c.loop-i.invariant.4 c.loop-i.invariant.1 c.loop-i-test.false
