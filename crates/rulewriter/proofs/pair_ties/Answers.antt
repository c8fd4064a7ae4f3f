use Rattle.rulewriter.proofs.Extras.{extra_none, extra_open, extra_length}
use Rattle.rulewriter.proofs.Pairs.{extras_none, extras_first, extras_second, extras_written}
use mathlib.Core.Path.{◌∙◌}
use native.Mathlib.Omega.{arith}
use Rattle.rulewriter.proofs.pair_ties.Goals as goal

pub returns-then-next-lt-LIMIT : goal.returns-then-next-lt-LIMIT
returns-then-next-lt-LIMIT c = let h = c.requires-raw in rw c.no_ties.ensures (extra_none _ _ (extras_none c.args.work.now c.args.p c.args.q c.args.base c.args.next h.0.0.low_base h.1 c.if-next-base.true c.if-next-lt-LIMIT.true) h.0.2 h.0.0.low)

pub int_ties-a-requires : goal.int_ties-a-requires
int_ties-a-requires c = let h = c.requires.placed in record { placed = (h.0, h.2, extras_first c.args.work.now c.args.p c.args.q c.args.base h.3); left_bound = omega arith }

pub int_ties-b-requires : goal.int_ties-b-requires
int_ties-b-requires c = let h = c.requires.placed in let x = c.int_ties-a.ensures in record { placed = (record { size = h.0.size; inside = h.1; low_base = x.1.low; low = x.0.listed.low }, extra_open h.2 x.0, extras_second c.args.work.now c.args.p c.args.q c.args.base _ _ x.1 h.3); left_bound = omega arith }

pub shape_of-out : goal.shape_of-out
shape_of-out c = extra_length c.int_ties-b.ensures.0 ∙ extra_length c.int_ties-a.ensures.0

pub returns : goal.returns
returns c = let h = c.requires.placed in rw c.two_ties.ensures (extras_written c.args.work.now c.args.p c.args.q c.args.base _ _ c.int_ties-a.ensures.1 h.2 c.int_ties-a.ensures.0 c.int_ties-b.ensures.0)
