use mathlib.Core.Path.{◌∙◌}
use mathlib.Core.List.{[]}
use Rattle.laws.specs.Writes.{wrote_length}
use Rattle.output.proofs.Laws.{open_next}
use Rattle.rulewriter.proofs.Steps.{placed_with}
use Rattle.rulewriter.proofs.Making.{condition_puts}
use Rattle.rulewriter.proofs.put_condition.Goals as goal

pub survey-x-requires : goal.survey-x-requires
survey-x-requires c = let p = c.requires.placed.0 in (p.size, (p.inside, (p.low_base, p.low)))

pub put_named-a-requires : goal.put_named-a-requires
put_named-a-requires c = record { placed = (c.requires.placed.0, c.requires.placed.1, c.requires.placed.3); v_le_limit = c.requires.v_le_limit }

pub put_named-b-requires : goal.put_named-b-requires
put_named-b-requires c = record { placed = (placed_with _ c.requires.placed.0 (rw c.counters.ensures c.survey-x.ensures.found.low), open_next c.requires.placed.1 (c.put_named-a.ensures.wrote 0), c.requires.placed.2); v_le_limit = c.requires.v_le_limit }

pub shape_of-out : goal.shape_of-out
shape_of-out c = wrote_length (c.put_named-b.ensures.wrote 0) ∙ wrote_length (c.put_named-a.ensures.wrote 0)

pub returns : goal.returns
returns c = condition_puts _ _ _ c.args.work.now _ _ _ _ _ (c.counters.ensures ∙ c.survey-x.ensures.found.count []) c.requires.placed.1 c.put_named-a.ensures c.put_named-b.ensures c.both.ensures
