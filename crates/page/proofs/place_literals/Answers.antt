use mathlib.Core.Path.{refl, ◌∙◌}
use native.Mathlib.Omega.{arith}
use Rattle.page.proofs.Bytes.{put_sets}
use Rattle.page.proofs.Pages.{literal_moves, literals_start, literals_next, literals_end}
use borrow.Author.Rules.{rules}
use Rattle.page.proofs.place_literals.Goals as goal

pub loop-z-init : goal.loop-z-init
loop-z-init c = (c.requires.0, omega arith, refl, literals_start)

pub begin-q-requires : goal.begin-q-requires
begin-q-requires c = (c.loop-z.invariant.0, omega (arith, c.loop-z.invariant.1, c.loop-z-test.true, c.requires.2), omega (arith, c.width-w.ensures.1))

pub overflow_add-p : goal.overflow_add-p
overflow_add-p c = record { fits = omega (arith, c.begin-q.ensures.moves.line.high, c.begin-q.ensures.moves.few, c.loop-z.invariant.1, c.width-w.ensures.1, c.requires.2, c.loop-z-test.true) }

pub loop-z-preserved : goal.loop-z-preserved
loop-z-preserved c = ((literal_moves _ c.loop-z.invariant.0 c.width-w.ensures.0 c.width-w.ensures.1 c.begin-q.ensures (put_sets c.put_number.ensures)).line, omega (arith, c.begin-q.ensures.moves.few, c.loop-z.invariant.1), c.put_number.ensures.size ∙ c.begin-q.ensures.moves.size ∙ c.loop-z.invariant.2, literals_next _ c.loop-z.invariant.3 c.loop-z-test.true (search rules) (literal_moves _ c.loop-z.invariant.0 c.width-w.ensures.0 c.width-w.ensures.1 c.begin-q.ensures (put_sets c.put_number.ensures)))

pub returns : goal.returns
returns c = literals_end c.loop-z.invariant.3 c.loop-z.invariant.0 c.loop-z-test.false
