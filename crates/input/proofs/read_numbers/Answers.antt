-- `input::read_numbers` meets its contract. Assumes nothing.
use mathlib.Core.Path.{refl}
use Rattle.input.proofs.Reading.{numbers_unread, numbers_count, numbers_again}
use borrow.Author.Rules.{rules}
use mathlib.Core.Path.{sym, ◌∙◌}
use mir.Syntax.{w32}
use mir.Val.{SFits}
use mir.Facts.{to_z-of_z}
use borrow.Author.Rules.{rules}
use Rattle.input.proofs.read_numbers.Goals as goal

pub loop-words-init : goal.loop-words-init
loop-words-init c = (search rules, search rules, refl, refl)

pub returns-in_err-read_number : goal.returns-in_err-read_number
returns-in_err-read_number c = rw c.from_residual.ensures (numbers_unread _ _ _ _ _ _ _ c.find-e.ensures c.loop-words.invariant.2 c.loop-words.invariant.3 (sym c.in_err-read_number.was ∙ c.read_number.ensures))

pub returns-then-e-part : goal.returns-then-e-part
returns-then-e-part c = let f : SFits w32 c.in_ok-read_number.field-0 = search rules in numbers_count _ _ _ _ _ _ _ c.find-e.ensures c.loop-words.invariant.2 c.loop-words.invariant.3 c.loop-words.invariant.1 _ _ _ (sym c.in_ok-read_number.was ∙ c.read_number.ensures) (rw (to_z-of_z f) at c.store-n.ensures) c.if-e-part.true

pub loop-words-preserved : goal.loop-words-preserved
loop-words-preserved c = let f : SFits w32 c.in_ok-read_number.field-0 = search rules in numbers_again _ _ _ _ _ _ _ c.find-e.ensures c.loop-words.invariant.2 c.loop-words.invariant.3 c.loop-words.invariant.1 _ _ _ (sym c.in_ok-read_number.was ∙ c.read_number.ensures) (rw (to_z-of_z f) at c.store-n.ensures) c.if-e-part.false
