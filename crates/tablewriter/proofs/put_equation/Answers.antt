use native.Mathlib.Omega.{arith}
use Rattle.output.proofs.Laws.{open_next}
use Rattle.tablewriter.proofs.Equation.{stepping, less_asked, linear_asked, equation_wrote}
use Rattle.tablewriter.proofs.put_equation.Goals as goal

pub linear_of-a-requires : goal.linear_of-a-requires
linear_of-a-requires c = (c.requires.0.size, (c.requires.0.inside, (omega arith, (c.requires.0.low, stepping c.args.work.now c.args.p c.args.n c.requires.1))))

pub less_variable-d-requires : goal.less_variable-d-requires
less_variable-d-requires c = less_asked c.args.work.now c.args.p c.args.n c.linear_of-a.ensures c.requires.1 c.args.v

pub put_linear-requires : goal.put_linear-requires
put_linear-requires c = let l = linear_asked c.args.work.now c.args.p c.args.n c.linear_of-a.ensures c.args.v c.less_variable-d.ensures c.requires.3 in (l.0, l.1, open_next (open_next c.requires.2 c.put-b.ensures) c.put-c.ensures)

pub returns : goal.returns
returns c = equation_wrote c.args.work.now c.args.p c.args.n c.linear_of-a.ensures c.args.v c.less_variable-d.ensures c.requires.2.room c.put-b.ensures c.put-c.ensures c.put_linear.ensures
