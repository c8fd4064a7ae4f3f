use mathlib.Core.Path.{ap, ◌∙◌}
use mathlib.Core.List.{[]}
use Rattle.walk.specs.Item.{bump}
use Rattle.output.proofs.Laws.{open_next}
use Rattle.tablewriter.proofs.Puts.{variable_put, own_put}
use Rattle.tablewriter.proofs.put_column.Goals as goal

pub returns-then-word-eq21 : goal.returns-then-word-eq21
returns-then-word-eq21 c = variable_put c.put_adds-a.ensures c.pass_column-b.ensures c.word.ensures c.if-word-eq21.true c.bump.ensures

pub put_equation-q-requires : goal.put_equation-q-requires
put_equation-q-requires c = (c.requires.0, c.requires.1, open_next c.requires.2 (c.put_adds-a.ensures.wrote []), c.number_at-v.ensures.1)

pub returns : goal.returns
returns c = own_put c.put_adds-a.ensures c.pass_column-b.ensures c.word.ensures c.if-word-eq21.false c.requires.2.room c.number_at-v.ensures.0 c.put_equation-q.ensures (c.bump-3.ensures ∙ ap (bump c.args.k) c.bump-2.ensures)
