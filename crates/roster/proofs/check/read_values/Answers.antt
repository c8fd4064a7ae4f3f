-- `read_values` meets its contract.
use borrow.Author.Rules.{rules}
use Rattle.roster.proofs.Laws.{no_key, key_fits, no_values, some_values}
use Rattle.roster.proofs.check.read_values.Goals as goal

pub returns-then-not-has_key : goal.returns-then-not-has_key
returns-then-not-has_key c = no_key c.args.line.now c.args.values.now c.has_key.result c.has_key.ensures c.if-not-has_key.true

pub returns-then-line-eq7 : goal.returns-then-line-eq7
returns-then-line-eq7 c = no_values c.args.line.now c.args.values.now c.has_key.result c.has_key.ensures c.if-not-has_key.false c.if-line-eq7.true

pub slice_bounds-read_numbers-count : goal.slice_bounds-read_numbers-count
slice_bounds-read_numbers-count c = key_fits c.args.line.now c.args.values.now c.has_key.result c.has_key.ensures c.if-not-has_key.false

pub slice_bounds-read_numbers-start : goal.slice_bounds-read_numbers-start
slice_bounds-read_numbers-start c = let q = key_fits c.args.line.now c.args.values.now c.has_key.result c.has_key.ensures c.if-not-has_key.false in search rules

pub returns : goal.returns
returns c = some_values c.args.line.now c.args.values.now c.has_key.result c.has_key.ensures c.if-not-has_key.false c.if-line-eq7.false _ _ c.read_numbers.ensures
