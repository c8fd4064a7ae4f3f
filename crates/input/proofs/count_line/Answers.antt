-- `input::count_line` meets its contract. Assumes nothing.
use Rattle.input.proofs.Reading.{key_fits, count_last, count_not, count_unread, count_done}
use mathlib.Core.Path.{sym, ◌∙◌}
use mir.Syntax.{w32}
use mir.Val.{SFits}
use mir.Facts.{to_z-of_z}
use borrow.Author.Rules.{rules}
use Rattle.input.proofs.count_line.Goals as goal

pub returns-then-e-text : goal.returns-then-e-text
returns-then-e-text c = count_last _ _ _ c.find-e.ensures _ _ _ c.if-e-text.true

pub returns-then-not-has_key : goal.returns-then-not-has_key
returns-then-not-has_key c = count_not _ _ _ c.find-e.ensures _ _ _ c.has_key.result c.has_key.ensures c.if-e-text.false c.if-not-has_key.true

pub slice_bounds-read_number-start : goal.slice_bounds-read_number-start
slice_bounds-read_number-start c = key_fits _ _ c.has_key.result c.has_key.ensures c.if-not-has_key.false

pub slice_bounds-read_number-count : goal.slice_bounds-read_number-count
slice_bounds-read_number-count c = key_fits _ _ c.has_key.result c.has_key.ensures c.if-not-has_key.false

pub returns-in_err-w : goal.returns-in_err-w
returns-in_err-w c = rw c.from_residual.ensures (count_unread _ _ _ c.find-e.ensures _ _ _ c.has_key.result c.has_key.ensures c.if-e-text.false c.if-not-has_key.false (sym c.in_err-w.was ∙ c.read_number.ensures))

pub returns : goal.returns
returns c = let f : SFits w32 c.in_ok-w.w = search rules in count_done _ _ _ c.find-e.ensures _ _ _ c.has_key.result c.has_key.ensures c.if-e-text.false c.if-not-has_key.false _ (sym c.in_ok-w.was ∙ c.read_number.ensures) _ _ (rw (to_z-of_z f) at c.store.ensures) c.requires.count
