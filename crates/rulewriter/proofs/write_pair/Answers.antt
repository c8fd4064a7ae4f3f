use Rattle.rulewriter.proofs.Extras.{extra_open, extra_length}
use Rattle.rulewriter.proofs.Pairs.{next_both, extras_fit, unequal_fit, pair_blocks}
use mathlib.Core.Path.{refl, ◌∙◌}
use native.Mathlib.Omega.{arith}
use Rattle.rulewriter.proofs.write_pair.Goals as goal

pub skip_int-x-requires : goal.skip_int-x-requires
skip_int-x-requires c = let h = c.requires.0 in (h.size, (h.inside, h.low_base))

pub skip_int-y-requires : goal.skip_int-y-requires
skip_int-y-requires c = (c.requires.0.size, (c.requires.1, omega (arith, c.requires.0.low_base, c.skip_int-x.ensures.low)))

pub pair_ties-t-requires : goal.pair_ties-t-requires
pair_ties-t-requires c = let h = c.requires in let y = c.skip_int-y.ensures in record { placed = (record { size = h.0.size; inside = h.0.inside; low_base = h.0.low_base; low = (y.low, h.0.low.1) }, h.1, h.2, extras_fit c.args.work.now c.args.p c.args.q c.args.n.bools h.3); next_value = next_both c.args.work.now c.args.p c.args.q c.args.n.bools _ _ _ _ c.skip_int-x.ensures y }

pub write_unequal-z-requires : goal.write_unequal-z-requires
write_unequal-z-requires c = let h = c.requires in let t = c.pair_ties-t.ensures in (record { size = h.0.size; inside = h.0.inside; low_base = h.0.low_base; low = (omega (arith, c.skip_int-y.ensures.low, t.listed.low.0), omega (arith, h.0.low.1, t.listed.low.1)) }, h.1, extra_open h.2 t, unequal_fit c.args.work.now c.args.p c.args.q c.args.n.bools h.3)

pub shape_of-out : goal.shape_of-out
shape_of-out c = extra_length c.write_unequal-z.ensures ∙ extra_length c.pair_ties-t.ensures

pub returns : goal.returns
returns c = let h = c.requires in rw c.two_ties.ensures (pair_blocks c.args.work.now c.args.p c.args.q c.args.n.bools c.args.n refl h.0.low_base _ (next_both c.args.work.now c.args.p c.args.q c.args.n.bools _ _ _ _ c.skip_int-x.ensures c.skip_int-y.ensures) refl h.2 c.pair_ties-t.ensures c.write_unequal-z.ensures)
