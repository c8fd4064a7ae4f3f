use mathlib.Core.Path.{sym, ◌∙◌}
use native.Mathlib.Omega.{arith}
use Rattle.tablewriter.proofs.Rows.{rows_none, rows_plain, rows_starred, some_inside, some_describable, some_room, some_star_rows, some_plain_table}
use Rattle.tablewriter.proofs.write_rows.Goals as goal

pub returns-then-rows-eq0 : goal.returns-then-rows-eq0
returns-then-rows-eq0 c = λ x h. rows_none h c.if-rows-eq0.true c.put_empty.ensures

pub overflow_mul-cells : goal.overflow_mul-cells
overflow_mul-cells c = omega (arith, some_inside c.requires.0)

pub overflow_add-cols : goal.overflow_add-cols
overflow_add-cols c = omega (arith, some_inside c.requires.0)

pub describe_columns-requires : goal.describe_columns-requires
describe_columns-requires c = some_describable c.requires.0 c.if-rows-eq0.false

pub copy_words-requires : goal.copy_words-requires
copy_words-requires c = (omega (arith, some_inside c.requires.0), some_room c.requires.0 c.if-rows-eq0.false c.describe_columns.ensures)

pub has_star-requires : goal.has_star-requires
has_star-requires c = (some_star_rows c.requires.0 c.if-rows-eq0.false c.describe_columns.ensures c.copy_words.ensures).within

pub write_stars-requires : goal.write_stars-requires
write_stars-requires c = (some_star_rows c.requires.0 c.if-rows-eq0.false c.describe_columns.ensures c.copy_words.ensures, c.requires.1)

pub returns-then-has_star : goal.returns-then-has_star
returns-then-has_star c = λ x h. rows_starred h c.if-rows-eq0.false c.describe_columns.ensures c.copy_words.ensures (sym c.if-has_star.true ∙ c.has_star.ensures) c.write_stars.ensures

pub put_table-requires : goal.put_table-requires
put_table-requires c = (some_plain_table c.requires.0 c.if-rows-eq0.false c.describe_columns.ensures c.copy_words.ensures (sym c.if-has_star.false ∙ c.has_star.ensures), c.requires.1)

pub returns : goal.returns
returns c = λ x h. rows_plain h c.if-rows-eq0.false c.describe_columns.ensures c.copy_words.ensures (sym c.if-has_star.false ∙ c.has_star.ensures) c.put_table.auto.work c.put_table.ensures
