use mathlib.Core.Path.{sym, ◌∙◌}
use native.Mathlib.Omega.{arith}
use Rattle.walk.specs.Decode.{read_part}
use Rattle.walks.specs.Tree.{never}
use Rattle.scan.specs.Skip.{split_by, IntSkips}
use Rattle.numbering.specs.Task.{state_of}
use Rattle.numbering.specs.TieWalk.{walked_to}
use Rattle.numbering.specs.Columns.{column_task, column_first, column_full, column_variable, column_ready, column_made}
use Rattle.numbering.proofs.number_column.Goals as goal

pub number_int-a-requires : goal.number_int-a-requires
unfolding split_by
number_int-a-requires c = column_first c.args.room.records c.args.room.cap c.args.work.now c.args.out.now c.args.c c.args.at c.requires

pub returns-then-is_full : goal.returns-then-is_full
unfolding split_by
returns-then-is_full c = (column_full c.args.room.records c.args.room.cap c.args.work.now c.args.out.now c.args.c c.args.at c.requires _ _ _ c.number_int-a.ensures.0 (sym c.if-is_full.true ∙ c.is_full.ensures), c.number_int-a.ensures.1)

pub returns-then-word-eq21 : goal.returns-then-word-eq21
unfolding split_by
returns-then-word-eq21 c = (column_variable c.args.room.records c.args.room.cap c.args.work.now c.args.out.now c.args.c c.args.at c.requires _ _ _ c.number_int-a.ensures.0 _ c.word.ensures c.if-word-eq21.true, c.number_int-a.ensures.1)

pub make_column-e-requires : goal.make_column-e-requires
unfolding split_by
make_column-e-requires c = (omega (arith, c.requires.size, c.number_int-a.ensures.0.kept.size), (c.requires.inside, (c.requires.records, column_ready c.args.room.records c.args.room.cap c.args.work.now c.args.out.now c.args.c c.args.at c.requires _ _ _ c.number_int-a.ensures.0 (sym c.if-is_full.false ∙ c.is_full.ensures))))

pub returns : goal.returns
unfolding split_by
returns c = walked_to (column_task c.args.room.records c.args.room.cap (read_part c.args.work.now) c.args.at) (λ q b. IntSkips (read_part c.args.work.now) 64 never c.args.at 0 q b) (state_of c.args.work.now c.args.out.now c.args.c) _ _ _ _ _ _ c.ended.ensures (column_made c.args.room.records c.args.room.cap c.args.work.now c.args.out.now c.args.c c.args.at c.requires _ _ _ c.number_int-a.ensures.0 (sym c.if-is_full.false ∙ c.is_full.ensures) _ c.word.ensures c.if-word-eq21.false _ _ _ c.make_column-e.ensures) c.number_int-a.ensures.1
