use native.Mathlib.Omega.{arith}
use lib.ListN.{drop}
use mir.Syntax.{w32}
use mir.Facts.{to_z_pos}
use Rattle.sorting.specs.Rows.{rows_of}
use Rattle.sorting.specs.Columns.{vars_of}
use Rattle.stars.specs.Lines.{single_linears}
use Rattle.stars.proofs.Laws.{lines_stop, pool_one}
use Rattle.stars.proofs.put_pool.Goals as goal

pub returns-then-o-eq-CAP : goal.returns-then-o-eq-CAP
returns-then-o-eq-CAP c = lines_stop c.requires.4 c.if-o-eq-CAP.true _

pub returns : goal.returns
returns c =
    let start = c in
    pool_one start.args.m start.args.x start.args.y (single_linears (vars_of start.args.n (drop start.args.cols start.args.work.now)) (rows_of start.args.n start.args.k (drop start.args.at start.args.work.now))) _ _ start.requires.4 c.if-o-eq-CAP.false (to_z_pos w32 (omega (arith, start.requires.2))) (to_z_pos w32 (omega (arith, start.requires.3))) c.put-a.ensures c.put_block-b.ensures c.put-d.ensures c.put_single_rows-e.ensures
