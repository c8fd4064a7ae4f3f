use native.Mathlib.Omega.{arith}
use Rattle.passes.proofs.StmtLaws.{no_rule, code_is}
use Rattle.passes.proofs.PropStmtLaws.{stmt_fits, stands_plain, stands_different, rule_stands, rule_props, idle_props}
use Rattle.passes.proofs.prop_stmt.Goals as goal

pub number-w-requires : goal.number-w-requires
number-w-requires c = stands_plain _ _ c.requires

pub overflow_add-at : goal.overflow_add-at
overflow_add-at c = let q = stmt_fits _ _ c.requires in omega (arith, c.well_formed.0.0)

pub constant_prop_bool-requires : goal.constant_prop_bool-requires
constant_prop_bool-requires c = rule_stands _ _ _ c.number-w.ensures.0 c.requires c.if-w-eq1.true

pub shape_of-work-then-w-eq1 : goal.shape_of-work-then-w-eq1
shape_of-work-then-w-eq1 c = c.constant_prop_bool.auto.work

pub returns-then-w-eq1 : goal.returns-then-w-eq1
returns-then-w-eq1 c = rule_props _ _ _ c.number-w.ensures.0 _ _ _ c.if-w-eq1.true c.constant_prop_bool.ensures

pub skip_table-next-requires : goal.skip_table-next-requires
skip_table-next-requires c = record { stands_stmt = c.requires; pos_value = code_is c.args.work.now c.args.at _ _ c.number-w.ensures.0 c.if-w-eq2.true }

pub returns-then-w-eq2 : goal.returns-then-w-eq2
returns-then-w-eq2 c = idle_props _ _ _ (no_rule c.args.work.now c.args.at _ c.number-w.ensures.0 c.if-w-eq1.false) c.skip_table-next.ensures

pub skip_different-next-requires : goal.skip_different-next-requires
skip_different-next-requires c = record { stands_stmt = c.requires; pos_value = stands_different _ _ _ c.number-w.ensures.0 c.if-w-eq1.false c.if-w-eq2.false c.requires }

pub returns : goal.returns
returns c = idle_props _ _ _ (no_rule c.args.work.now c.args.at _ c.number-w.ensures.0 c.if-w-eq1.false) c.skip_different-next.ensures
