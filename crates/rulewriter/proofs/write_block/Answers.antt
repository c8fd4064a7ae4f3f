use mathlib.Core.Path.{◌∙◌}
use mathlib.Core.List.{[]}
use native.Mathlib.Omega.{arith}
use Rattle.laws.specs.Writes.{wrote_length}
use Rattle.output.proofs.Laws.{open_next, stack_down}
use Rattle.rulewriter.proofs.Registered.{puts_length}
use Rattle.rulewriter.proofs.Blocks.{block_listed}
use Rattle.rulewriter.proofs.write_block.Goals as goal

pub add_ifs-a-requires : goal.add_ifs-a-requires
add_ifs-a-requires c = record { placed = c.requires.placed; left_bound = c.requires.left_bound }

pub write-q-requires : goal.write-q-requires
write-q-requires c = record { placed = (c.requires.placed.0, open_next c.requires.placed.1 c.add_ifs-a.ensures.wrote, c.requires.placed.2); stacked = stack_down _ c.no_suffix-s.ensures.1 (omega (arith, c.requires.left_bound)) }

pub shape_of-out : goal.shape_of-out
shape_of-out c = wrote_length c.write-q.ensures.1 ∙ puts_length c.add_ifs-a.ensures

pub returns : goal.returns
returns c =
    let s = c.write-q.ensures.0 in
    (block_listed c.args.work.now _ _ _ _ _ _ c.requires.placed.1 c.add_ifs-a.ensures (rw c.no_suffix-s.ensures.0 at c.write-q.ensures.1) (c.counters-k.ensures ∙ s.found.count []) (rw c.counters-k.ensures s.found.low) (s.found.all []) c.bump.ensures, s.skips)
