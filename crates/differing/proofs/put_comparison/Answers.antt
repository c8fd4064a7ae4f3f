-- Two constants or variables at once, others by their sums.
use mathlib.Core.Path.{sym, ◌∙◌}
use Rattle.differing.proofs.Pairs.{leaves_light, leaves_compared}
use Rattle.differing.proofs.put_comparison.Goals as goal

pub leaf_at-x-requires : goal.leaf_at-x-requires
leaf_at-x-requires c = (c.requires.0.size, c.requires.0.first)

pub leaf_at-y-requires : goal.leaf_at-y-requires
leaf_at-y-requires c = (c.requires.0.size, c.requires.0.second)

pub put_leaves-requires : goal.put_leaves-requires
put_leaves-requires c = (c.leaf_at-x.ensures.small, c.leaf_at-y.ensures.small, leaves_light c.args.work.now c.args.n c.args.a c.args.b c.requires.0 (sym c.is_leaf.ensures ∙ c.if-is_leaf.true) (sym c.is_leaf-then-is_leaf.ensures ∙ c.if-is_leaf-2.true) c.leaf_at-x.ensures c.leaf_at-y.ensures, c.requires.1)

pub returns-then-is_leaf-2 : goal.returns-then-is_leaf-2
returns-then-is_leaf-2 c = leaves_compared c.args.work.now c.args.n c.args.a c.args.b c.requires.0 (sym c.is_leaf.ensures ∙ c.if-is_leaf.true) (sym c.is_leaf-then-is_leaf.ensures ∙ c.if-is_leaf-2.true) c.leaf_at-x.ensures c.leaf_at-y.ensures c.put_leaves.ensures
