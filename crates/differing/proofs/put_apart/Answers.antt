-- One law for each order of the two numbers.
use native.Mathlib.Omega.{arith}
use Rattle.differing.proofs.Leaves.{apart_none, apart_left, apart_right, apart_up, apart_down, none_wrote, one_wrote, two_wrote}
use Rattle.differing.proofs.put_apart.Goals as goal

pub returns-then-m-n : goal.returns-then-m-n
returns-then-m-n c = none_wrote c.requires.2.room (apart_none c.args.m c.args.n c.if-m-n.true) c.put.ensures

pub returns-then-n-eq0 : goal.returns-then-n-eq0
returns-then-n-eq0 c = one_wrote c.requires.2.room (apart_left c.args.m c.args.n c.if-n-eq0.true c.if-m-n.false) c.put-q.ensures c.put_term.ensures

pub returns-then-m-eq0 : goal.returns-then-m-eq0
returns-then-m-eq0 c = one_wrote c.requires.2.room (apart_right c.args.m c.args.n c.if-m-eq0.true c.if-n-eq0.false) c.put-q-then-m-eq0.ensures c.put_term-then-m-eq0.ensures

pub returns-then-m-n-2 : goal.returns-then-m-n-2
returns-then-m-n-2 c = two_wrote c.requires.2.room (apart_up c.args.m c.args.n c.if-m-eq0.false c.if-m-n-2.true) c.put-q-2.ensures c.put_term-r.ensures c.put_term-then-m-n-2.ensures

pub returns : goal.returns
returns c = two_wrote c.requires.2.room (apart_down c.args.m c.args.n c.if-n-eq0.false (omega (arith, c.if-m-n-2.false, c.if-m-n.false))) c.put-q-2.ensures c.put_term-r-2.ensures c.put_term-2.ensures
