use mathlib.Core.Path.{refl, ap, ◌∙◌}
use mathlib.Core.List.{[]}
use native.Mathlib.Omega.{arith}
use Rattle.laws.specs.Writes.{wrote_length}
use Rattle.walk.specs.declared.Counters.{Counters}
use Rattle.output.proofs.Laws.{open_next, stack_down}
use Rattle.rulewriter.proofs.Steps.{placed_with}
use Rattle.rulewriter.proofs.Making.{branch_second, second_total, open_puts}
use Rattle.rulewriter.proofs.put_open.Goals as goal

pub survey-x-requires : goal.survey-x-requires
survey-x-requires c = let p = c.requires.placed.0 in (p.size, (p.inside, (p.low_base, p.low)))

pub survey-y-requires : goal.survey-y-requires
survey-y-requires c = let p = c.requires.placed.0 in (p.size, (p.inside, (p.low_base, rw c.counters-k.ensures c.survey-x.ensures.found.low)))

pub overflow_add-u : goal.overflow_add-u
overflow_add-u c = omega (arith, c.survey-y.ensures.found.low.0)

pub write-a-requires : goal.write-a-requires
write-a-requires c = record { placed = (c.requires.placed.0, c.requires.placed.1, c.requires.placed.2); stacked = stack_down _ c.one_literal-s.ensures.1 (omega (arith, c.requires.placed_2.4)) }

pub put_equal-b-requires : goal.put_equal-b-requires
put_equal-b-requires c = (c.requires.placed_2.0, open_next c.requires.placed.1 c.write-a.ensures.1, c.requires.placed_2.1, stack_down 0 c.one_literal-s.ensures.1 (omega arith), c.requires.placed_2.3)

pub overflow_add-u-2 : goal.overflow_add-u-2
overflow_add-u-2 c = omega (arith, c.survey-y.ensures.found.low.0)

pub write-c-requires : goal.write-c-requires
write-c-requires c = record { placed = (placed_with _ c.requires.placed.0 (rw c.counters-k.ensures c.survey-x.ensures.found.low), open_next (open_next c.requires.placed.1 c.write-a.ensures.1) c.put_equal-b.ensures.1, c.requires.placed.3); stacked = stack_down _ c.one_literal-z.ensures.1 (omega (arith, c.requires.placed_2.4)) }

pub put_equal-d-requires : goal.put_equal-d-requires
put_equal-d-requires c =
    let s = c.put_equal-b.ensures.0 in
    (record { size = c.requires.placed.0.size; inside = s.skips.inside; low_base = s.skips.low; low = s.low }, open_next (open_next (open_next c.requires.placed.1 c.write-a.ensures.1) c.put_equal-b.ensures.1) c.write-c.ensures.1, branch_second s c.requires.placed_2.2, stack_down 0 c.one_literal-z.ensures.1 (omega arith), c.requires.placed_2.3)

pub shape_of-out : goal.shape_of-out
shape_of-out c = wrote_length c.put_equal-d.ensures.1 ∙ wrote_length c.write-c.ensures.1 ∙ wrote_length c.put_equal-b.ensures.1 ∙ wrote_length c.write-a.ensures.1

pub returns : goal.returns
returns c =
    open_puts _ _ _ _ _ _ c.args.work.now _ _ _ _ _ _ _ _ _ _ (second_total c.put_equal-b.ensures.0) (c.counters-k.ensures ∙ c.survey-x.ensures.found.count []) (ap (λ (k : Counters). k.bools) (c.survey-y.ensures.found.count [])) c.one_literal-s.ensures.0 c.one_literal-z.ensures.0 c.requires.placed.1
    c.write-a.ensures.1 c.put_equal-b.ensures.1 c.write-c.ensures.1 c.put_equal-d.ensures.1 (c.survey-x.ensures.found.all []) (c.survey-y.ensures.found.all []) (rw (c.bump-3.ensures, c.bump-2.ensures, c.bump.ensures) refl)
