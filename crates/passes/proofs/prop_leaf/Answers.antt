use native.Mathlib.Omega.{arith}
use Rattle.passes.proofs.PropLaws.{stands_inside, stands_second, const_props, var_below, var_props}
use Rattle.passes.proofs.prop_leaf.Goals as goal

pub overflow_add-at : goal.overflow_add-at
overflow_add-at c = let q = stands_inside _ _ _ c.requires.pos_value.0 c.requires.stands in omega (arith, c.well_formed.0.0)

pub number-v-requires : goal.number-v-requires
number-v-requires c = stands_second _ _ _ c.requires.pos_value.0 c.requires.stands (λ l. omega (arith, l, c.requires.pos_value.1))

pub overflow_add-next : goal.overflow_add-next
overflow_add-next c = let q = stands_inside _ _ _ c.requires.pos_value.0 c.requires.stands in omega (arith, c.well_formed.0.0)

pub returns-then-w-eq10 : goal.returns-then-w-eq10
returns-then-w-eq10 c = const_props _ _ _ c.requires.pos_value.0 _ c.number-v.ensures.0 _ _ c.if-w-eq10.true c.clash-status.ensures

pub set_infeasible-status-requires : goal.set_infeasible-status-requires
set_infeasible-status-requires c = var_below _ _ _ c.requires.pos_value.0 _ c.number-v.ensures.0 c.requires.stands c.requires.pos_value.1 c.if-w-eq10.false

pub returns : goal.returns
returns c = var_props _ _ _ c.requires.pos_value.0 _ c.number-v.ensures.0 _ _ _ c.requires.stands c.requires.pos_value.1 c.if-w-eq10.false c.set_infeasible-status.ensures.0 c.set_infeasible-status.ensures.1
