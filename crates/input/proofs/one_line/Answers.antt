-- `input::one_line` meets its contract. Assumes nothing.
use Rattle.input.proofs.Reading.{key_fits, line_not, line_open, line_unread, line_done}
use Rattle.input.proofs.one_line.Goals as goal

pub returns-then-not-has_key : goal.returns-then-not-has_key
returns-then-not-has_key c = line_not _ _ _ c.find-e.ensures _ _ _ c.has_key.result c.has_key.ensures c.if-not-has_key.true

pub returns-then-e-text : goal.returns-then-e-text
returns-then-e-text c = line_open _ _ _ c.find-e.ensures _ _ _ c.has_key.result c.has_key.ensures c.if-not-has_key.false c.if-e-text.true

pub slice_bounds-read_numbers-start : goal.slice_bounds-read_numbers-start
slice_bounds-read_numbers-start c = key_fits _ _ c.has_key.result c.has_key.ensures c.if-not-has_key.false

pub slice_bounds-read_numbers-count : goal.slice_bounds-read_numbers-count
slice_bounds-read_numbers-count c = key_fits _ _ c.has_key.result c.has_key.ensures c.if-not-has_key.false

pub returns-in_err-m : goal.returns-in_err-m
returns-in_err-m c = rw c.from_residual.ensures (line_unread _ _ _ c.find-e.ensures _ _ _ c.has_key.result c.has_key.ensures c.if-e-text.false c.if-not-has_key.false _ _ c.read_numbers.ensures c.in_err-m.was)

pub returns : goal.returns
returns c = line_done _ _ _ c.find-e.ensures _ _ _ c.has_key.result c.has_key.ensures c.if-e-text.false c.if-not-has_key.false _ _ c.read_numbers.ensures _ c.in_ok-m.was c.requires.count
