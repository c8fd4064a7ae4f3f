use mathlib.Core.Path.{sym, ◌∙◌}
use mathlib.Core.List.{[]}
use mathlib.Core.Bool.{true, false}
use Rattle.walk.specs.Decode.{read_part}
use Rattle.walks.specs.Decode.{decode}
use Rattle.scan.specs.Skip.{split_by}
use Rattle.output.proofs.Laws.{open_next}
use Rattle.rulewriter.proofs.Steps.{placed_with}
use Rattle.rulewriter.proofs.Registered.{puts_none, puts_length}
use Rattle.rulewriter.proofs.Blocks.{tie_off, tie_puts}
use Rattle.rulewriter.proofs.add_both.Goals as goal

pub register-a-requires : goal.register-a-requires
register-a-requires c = record { placed = (c.requires.placed.0, c.requires.placed.1, c.requires.placed.2); left_bound = c.requires.left_bound }

pub survey-x-requires : goal.survey-x-requires
survey-x-requires c = let p = c.requires.placed.0 in (p.size, (p.inside, (p.low_base, p.low)))

pub register-b-requires : goal.register-b-requires
register-b-requires c = record { placed = (placed_with _ c.requires.placed.0 (rw c.counters.ensures c.survey-x.ensures.found.low), open_next c.requires.placed.1 c.register-a.ensures.wrote, c.requires.placed.3); left_bound = c.requires.left_bound }

pub shape_of-out-then-has_ifs : goal.shape_of-out-then-has_ifs
shape_of-out-then-has_ifs c = puts_length c.register-b.ensures ∙ puts_length c.register-a.ensures

pub returns-then-has_ifs : goal.returns-then-has_ifs
returns-then-has_ifs c = tie_puts c.args.work.now _ _ _ _ _ _ _ _ (c.counters.ensures ∙ c.survey-x.ensures.found.count []) c.requires.placed.1 c.register-a.ensures c.register-b.ensures c.both.ensures

pub returns : goal.returns
returns c = tie_off c.args.work.now _ _ c.args.n (decode (read_part c.args.work.now) c.args.left (split_by c.args.m) false c.args.at c.args.base).tree (decode (read_part c.args.work.now) c.args.left (split_by c.args.m) true c.args.at c.args.base).tree _ (sym c.has_ifs.ensures ∙ c.if-has_ifs.false) (puts_none _ c.requires.placed.1 c.nothing.ensures)
