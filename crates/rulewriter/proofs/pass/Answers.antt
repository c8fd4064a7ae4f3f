use mathlib.Core.Path.{refl, sym, ◌∙◌}
use Rattle.rulewriter.proofs.Longer.{passed_found, passed_off}
use Rattle.rulewriter.proofs.pass.Goals as goal

pub survey-x-requires : goal.survey-x-requires
survey-x-requires c = let p = c.requires in (p.size, (p.inside, (p.low_base, p.low)))

pub returns-then-has_ifs : goal.returns-then-has_ifs
returns-then-has_ifs c = passed_found _ c.survey-x.ensures refl refl c.counters.ensures

pub skip-y-requires : goal.skip-y-requires
skip-y-requires c = let p = c.requires in (p.size, (p.inside, p.low_base))

pub returns : goal.returns
returns c = passed_off (sym c.has_ifs.ensures ∙ c.if-has_ifs.false) c.skip-y.ensures refl c.requires.low
