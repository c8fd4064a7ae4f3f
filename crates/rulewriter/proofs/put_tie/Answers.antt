use mathlib.Core.Path.{◌∙◌}
use mathlib.Core.List.{[]}
use native.Mathlib.Omega.{arith}
use Rattle.laws.specs.Writes.{wrote_length}
use Rattle.output.proofs.Laws.{open_next, stack_down}
use Rattle.rulewriter.proofs.Steps.{placed_with}
use Rattle.rulewriter.proofs.Registered.{puts_length}
use Rattle.rulewriter.proofs.Blocks.{block_listed, tied_puts, tied_text, tied_lines, tied_count}
use Rattle.rulewriter.proofs.put_tie.Goals as goal

pub add_both-a-requires : goal.add_both-a-requires
add_both-a-requires c = record { placed = c.requires.placed; left_bound = omega (arith, c.requires.left_bound.0) }

pub overflow_add-v : goal.overflow_add-v
overflow_add-v c = omega (arith, c.requires.left_bound.1)

pub write-b-requires : goal.write-b-requires
write-b-requires c = record { placed = (c.requires.placed.0, open_next c.requires.placed.1 c.add_both-a.ensures.wrote, c.requires.placed.2); stacked = stack_down _ c.one_literal-s.ensures.1 (omega (arith, c.requires.left_bound.0)) }

pub overflow_add-v-2 : goal.overflow_add-v-2
overflow_add-v-2 c = omega (arith, c.requires.left_bound.1)

pub write-c-requires : goal.write-c-requires
write-c-requires c = record { placed = (placed_with _ c.requires.placed.0 (rw c.counters.ensures c.write-b.ensures.0.found.low), open_next (open_next c.requires.placed.1 c.add_both-a.ensures.wrote) c.write-b.ensures.1, c.requires.placed.3); stacked = stack_down _ c.one_literal-z.ensures.1 (omega (arith, c.requires.left_bound.0)) }

pub shape_of-out : goal.shape_of-out
shape_of-out c = wrote_length c.write-c.ensures.1 ∙ wrote_length c.write-b.ensures.1 ∙ puts_length c.add_both-a.ensures

pub returns : goal.returns
returns c =
    let s = c.write-b.ensures.0 in
    let t = c.write-c.ensures.0 in
    let k = c.counters.ensures ∙ s.found.count [] in
    (block_listed c.args.work.now _ _ _ _ _ _ c.requires.placed.1 (tied_puts 0 c.args.v _ _ c.args.work.now _ c.add_both-a.ensures) (tied_text c.args.work.now c.args.v _ _ _ _ _ _ k c.one_literal-s.ensures.0 c.one_literal-z.ensures.0 (open_next c.requires.placed.1 c.add_both-a.ensures.wrote).room c.write-b.ensures.1 c.write-c.ensures.1) (tied_count c.args.work.now c.args.v _ _ _ _ _ k (c.counters-k.ensures ∙ t.found.count [])) (rw c.counters-k.ensures t.found.low) (tied_lines c.args.v _ _ _ _ _ (s.found.all []) (t.found.all []) c.bump.ensures) c.bump-2.ensures, s.skips)
