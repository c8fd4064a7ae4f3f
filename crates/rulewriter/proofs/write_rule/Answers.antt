use mathlib.Core.Path.{◌∙◌}
use mathlib.Core.Bool.{false}
use native.Mathlib.Omega.{arith}
use Rattle.laws.specs.Writes.{wrote_length}
use Rattle.scan.specs.Skip.{split_by}
use Rattle.rulewriter.proofs.Extras.{extra_open, extra_length}
use Rattle.rulewriter.proofs.Rules.{extras_fit, own_fits, rule_blocks}
use Rattle.rulewriter.proofs.write_rule.Goals as goal

pub rule_ties-x-requires : goal.rule_ties-x-requires
unfolding split_by
rule_ties-x-requires c =
    let p = c.requires.0 in
    let e = c.skip-s.ensures in
    (record { size = p.size; inside = p.inside; low_base = p.low_base; low = (e.low, p.low.1) }, c.requires.1, extras_fit c.args.work.now _ _ c.requires.2, e.next false)

pub write_block-y-requires : goal.write_block-y-requires
unfolding split_by
write_block-y-requires c =
    let p = c.requires.0 in
    let x = c.rule_ties-x.ensures in
    record { placed = (record { size = p.size; inside = p.inside; low_base = p.low_base; low = x.listed.low }, extra_open c.requires.1 x, own_fits c.args.work.now _ _ c.requires.2); left_bound = omega arith }

pub shape_of-out : goal.shape_of-out
shape_of-out c = wrote_length c.write_block-y.ensures.0.wrote ∙ extra_length c.rule_ties-x.ensures

pub returns : goal.returns
unfolding split_by
returns c =
    let e = c.skip-s.ensures in
    let y = c.write_block-y.ensures in
    rw c.two_ties.ensures (rule_blocks c.args.work.now _ c.args.n _ c.rule_ties-x.result c.write_block-y.result (e.next false) c.requires.1 c.rule_ties-x.ensures y.0, y.1)
