use mathlib.Core.Path.{ap, ◌∙◌}
use mathlib.Core.Bool.{false}
use Prim.Native.Nat.{ℕ, ◌-◌}
use Rattle.walk.specs.Decode.{read_part}
use Rattle.walks.specs.Tree.{below}
use Rattle.scan.specs.Skip.{split_by, Skips}
use Rattle.numbering.specs.Task.{state_of}
use Rattle.numbering.specs.Walk.{starts_as}
use Rattle.numbering.specs.TieWalk.{walked_to}
use Rattle.numbering.specs.Rules.{rule_task, done_as, rule_first, rule_second, rule_done}
use Rattle.numbering.proofs.number_rule.Goals as goal

pub skip-s-requires : goal.skip-s-requires
skip-s-requires c = (c.requires.size, (c.requires.inside, c.requires.low.bools))

pub number_extras-e-requires : goal.number_extras-e-requires
unfolding split_by
number_extras-e-requires c = (starts_as _ c.args.work.now c.args.out.now _ c.advance-d.result _ _ _ c.advance-d.ensures (rule_first c.args.room.records c.args.room.cap (state_of c.args.work.now c.args.out.now c.args.c) c.args.at c.requires _ (c.saturating_sub.ensures ∙ ap (λ (b : ℕ). b - c.args.c.bools) (c.skip-s.ensures.next false))), c.skip-s.ensures.next false)

pub number-f-requires : goal.number-f-requires
unfolding split_by
number-f-requires c = rule_second c.args.room.records c.args.room.cap (state_of c.args.work.now c.args.out.now c.args.c) c.args.at c.requires _ (c.saturating_sub.ensures ∙ ap (λ (b : ℕ). b - c.args.c.bools) (c.skip-s.ensures.next false)) _ (done_as _ c.args.work.now c.args.out.now _ c.advance-d.result _ c.advance-d.ensures c.number_extras-e.ensures)

pub returns : goal.returns
unfolding split_by
returns c = walked_to (rule_task c.args.room.records c.args.room.cap (read_part c.args.work.now) c.args.at) (λ q b. Skips (read_part c.args.work.now) 64 below c.args.at c.args.c.bools q b) (state_of c.args.work.now c.args.out.now c.args.c) _ _ _ _ _ _ c.ended.ensures (rule_done c.args.room.records c.args.room.cap (state_of c.args.work.now c.args.out.now c.args.c) c.args.at c.requires _ (c.saturating_sub.ensures ∙ ap (λ (b : ℕ). b - c.args.c.bools) (c.skip-s.ensures.next false)) _ (done_as _ c.args.work.now c.args.out.now _ c.advance-d.result _ c.advance-d.ensures c.number_extras-e.ensures) _ c.number-f.ensures.0) c.skip-s.ensures
