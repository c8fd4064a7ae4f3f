-- `lines::put_numbers` meets its contract. Assumes nothing.
use mathlib.Core.Path.{sym, ◌∙◌}
use borrow.Author.Rules.{rules}
use borrow.Author.Tests.{eqb-true, eqb-false}
use Rattle.lines.proofs.Parts.{numbers_empty, numbers_first, numbers_next, numbers_end}
use Rattle.lines.proofs.put_numbers.Goals as goal

pub returns-then-is_empty : goal.returns-then-is_empty
returns-then-is_empty c = numbers_empty _ _ _ (eqb-true _ 0 (sym c.is_empty.ensures ∙ c.if-is_empty.true))

pub loop-z-preserved : goal.loop-z-preserved
loop-z-preserved c = (c.put_number-o-in-loop-z.ensures.size ∙ c.put_byte-o.ensures.size ∙ c.loop-z.invariant.0, numbers_next _ _ _ _ _ c.loop-z.invariant.1 _ _ _ _ c.loop-z-test.true c.put_byte-o.ensures _ (search rules) c.put_number-o-in-loop-z.ensures)

pub returns : goal.returns
returns c = record { size = c.loop-z.invariant.0 ∙ c.put_number-o.ensures.size; bytes = sym (numbers_first _ _ _ _ _ (eqb-false _ 0 (sym c.is_empty.ensures ∙ c.if-is_empty.false)) _ (search rules) c.put_number-o.ensures) ∙ numbers_end _ _ _ _ _ c.loop-z.invariant.1 c.loop-z-test.false }
