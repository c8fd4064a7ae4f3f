use mathlib.Core.Path.{sym, ◌∙◌}
use mathlib.Core.Bool.{false}
use native.Mathlib.Omega.{arith}
use Rattle.walk.specs.Decode.{read_part}
use Rattle.walks.specs.Tree.{below}
use Rattle.walks.specs.NoTies.{no_ties}
use Rattle.scan.specs.Skip.{split_by}
use Rattle.rulewriter.proofs.Extras.{extra_none, extra_length}
use Rattle.rulewriter.proofs.rule_ties.Goals as goal

pub returns-then-base-lt-LIMIT : goal.returns-then-base-lt-LIMIT
returns-then-base-lt-LIMIT c =
    rw c.no_ties.ensures (extra_none _ _ (no_ties (read_part c.args.work.now) 64 below false _ _ c.if-base-lt-LIMIT.true (sym c.requires.3 ∙ c.if-c-base.true)) c.requires.1 c.requires.0.low)

pub write_ties-requires : goal.write_ties-requires
unfolding split_by
write_ties-requires c = record { placed = (c.requires.0, c.requires.1, c.requires.2); left_bound = omega arith }

pub shape_of-out : goal.shape_of-out
shape_of-out c = extra_length c.write_ties.ensures.0

pub returns : goal.returns
unfolding split_by
returns c = c.write_ties.ensures.0
