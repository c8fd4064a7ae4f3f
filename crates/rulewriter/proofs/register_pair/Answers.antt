use Rattle.output.proofs.Laws.{open_next}
use Rattle.rulewriter.proofs.Registered.{puts_length}
use Rattle.rulewriter.proofs.Pairs.{first_fit, second_fit, pair_adds}
use mathlib.Core.Path.{◌∙◌}
use native.Mathlib.Omega.{arith}
use Rattle.rulewriter.proofs.register_pair.Goals as goal

pub register_int-a-requires : goal.register_int-a-requires
register_int-a-requires c = let h = c.requires in record { placed = (h.0, h.2, first_fit c.args.work.now c.args.p c.args.q c.args.base h.3); left_bound = omega arith }

pub survey_int-x-requires : goal.survey_int-x-requires
survey_int-x-requires c = let h = c.requires.0 in (h.size, (h.inside, (h.low_base, h.low)))

pub register_int-b-requires : goal.register_int-b-requires
register_int-b-requires c = let h = c.requires in let x = c.survey_int-x.ensures in record { placed = (record { size = h.0.size; inside = h.1; low_base = x.skips.low; low = (omega (arith, h.0.low.0, x.low.0), omega (arith, h.0.low.1, x.low.1)) }, open_next h.2 c.register_int-a.ensures.wrote, second_fit c.args.work.now c.args.p c.args.q c.args.base c.args.n _ x h.3); left_bound = omega arith }

pub shape_of-out : goal.shape_of-out
shape_of-out c = puts_length c.register_int-b.ensures ∙ puts_length c.register_int-a.ensures

pub returns : goal.returns
returns c = let h = c.requires in pair_adds c.args.work.now c.args.p c.args.q c.args.base c.args.n _ c.survey_int-x.ensures _ _ _ h.2 c.register_int-a.ensures c.register_int-b.ensures c.both.ensures
