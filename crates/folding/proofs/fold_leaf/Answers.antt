use native.Mathlib.Omega.{arith}
use Rattle.folding.proofs.BoolLaws.{ready_inside, ready_second, const_folds, var_below, var_folds}
use Rattle.folding.proofs.fold_leaf.Goals as goal

pub overflow_add-at : goal.overflow_add-at
overflow_add-at c = let q = (ready_inside _ _ _ _ _ c.requires.ready) in omega (arith, c.well_formed.0.0)

pub number-v-requires : goal.number-v-requires
number-v-requires c = ready_second _ _ _ _ _ _ c.requires.pos_value.0 c.requires.ready (λ l. omega (arith, l, c.requires.pos_value.1))

pub put_two-end-requires : goal.put_two-end-requires
put_two-end-requires c = ((ready_inside _ _ _ _ _ c.requires.ready).1, omega arith, c.number-v.ensures.1)

pub overflow_add-result : goal.overflow_add-result
overflow_add-result c = let q = (ready_inside _ _ _ _ _ c.requires.ready) in omega (arith, c.well_formed.0.0)

pub returns-then-w-eq10 : goal.returns-then-w-eq10
returns-then-w-eq10 c = const_folds _ _ _ _ _ _ c.requires.pos_value.0 _ c.number-v.ensures.0 _ _ c.if-w-eq10.true c.put_two-end.ensures

pub state_at-s-requires : goal.state_at-s-requires
state_at-s-requires c = let q = (ready_inside _ _ _ _ _ c.requires.ready) in let v = (var_below _ _ _ _ _ _ c.requires.pos_value.0 _ c.number-v.ensures.0 c.requires.ready c.requires.pos_value.1 c.if-w-eq10.false) in omega (arith, c.requires.ready.low)

pub put_var-end-requires : goal.put_var-end-requires
put_var-end-requires c = ((ready_inside _ _ _ _ _ c.requires.ready).1, c.number-v.ensures.1)

pub overflow_add-result-2 : goal.overflow_add-result-2
overflow_add-result-2 c = let q = (ready_inside _ _ _ _ _ c.requires.ready) in omega (arith, c.well_formed.0.0)

pub returns : goal.returns
returns c = var_folds _ _ _ _ _ _ c.requires.pos_value.0 _ c.number-v.ensures.0 _ _ _ c.requires.ready c.requires.pos_value.1 c.if-w-eq10.false c.state_at-s.ensures c.put_var-end.ensures
