use Rattle.accept.proofs.StatementLaws.{stmt_inside, stmt_plain, rule_ready, rule_post, stmt_second, different_ready, different_post, table_inside, table_second, table_ready, table_room, table_post}
use borrow.Author.Rules.{rules}
use Rattle.accept.proofs.one_statement.Goals as goal

pub number-code-requires : goal.number-code-requires
number-code-requires c = stmt_plain c.args.walk.now.set.now c.args.walk.now.work.now c.args.at c.args.walk.now.ints c.requires

pub rules-requires : goal.rules-requires
rules-requires c = (rule_ready c.args.walk.now.set.now c.args.walk.now.work.now c.args.at c.args.walk.now.ints _ c.number-code.ensures.0 c.if-code-eq1.true c.requires)

pub returns-then-code-eq1 : goal.returns-then-code-eq1
returns-then-code-eq1 c = rule_post c.args.walk.now.set.now c.args.walk.now.work.now c.args.at c.args.walk.now.ints _ c.number-code.ensures.0 c.if-code-eq1.true _ _ c.rules.ensures

pub overflow_add-at-2 : goal.overflow_add-at-2
overflow_add-at-2 c = let q = stmt_inside c.args.walk.now.set.now c.args.walk.now.work.now c.args.at c.args.walk.now.ints c.requires in search rules

pub number-n-requires : goal.number-n-requires
number-n-requires c = stmt_second c.args.walk.now.set.now c.args.walk.now.work.now c.args.at c.args.walk.now.ints _ c.number-code.ensures.0 c.if-code-eq1.false c.requires

pub all_different-requires : goal.all_different-requires
all_different-requires c = (different_ready c.args.walk.now.set.now c.args.walk.now.work.now c.args.at c.args.walk.now.ints _ c.number-code.ensures.0 c.if-code-eq3.true _ c.number-n.ensures.0 c.requires)

pub returns-then-code-eq3 : goal.returns-then-code-eq3
returns-then-code-eq3 c = different_post c.args.walk.now.set.now c.args.walk.now.work.now c.args.at c.args.walk.now.ints _ c.number-code.ensures.0 c.if-code-eq3.true _ c.number-n.ensures.0 _ _ c.all_different.ensures

pub overflow_add-at-3 : goal.overflow_add-at-3
overflow_add-at-3 c = let q = table_inside c.args.walk.now.set.now c.args.walk.now.work.now c.args.at c.args.walk.now.ints _ c.number-code.ensures.0 c.if-code-eq1.false c.if-code-eq3.false c.requires in search rules

pub number-k-requires : goal.number-k-requires
number-k-requires c = table_second c.args.walk.now.set.now c.args.walk.now.work.now c.args.at c.args.walk.now.ints _ c.number-code.ensures.0 c.if-code-eq1.false c.if-code-eq3.false c.requires

pub overflow_add-at-4 : goal.overflow_add-at-4
overflow_add-at-4 c = let q = table_inside c.args.walk.now.set.now c.args.walk.now.work.now c.args.at c.args.walk.now.ints _ c.number-code.ensures.0 c.if-code-eq1.false c.if-code-eq3.false c.requires in search rules

pub columns-t-requires : goal.columns-t-requires
columns-t-requires c = (table_ready c.args.walk.now.set.now c.args.walk.now.work.now c.args.at c.args.walk.now.ints _ c.number-code.ensures.0 c.if-code-eq1.false c.if-code-eq3.false _ c.number-n.ensures.0 _ c.number-k.ensures.0 c.requires)

pub overflow_add-result : goal.overflow_add-result
overflow_add-result c = let q = table_room c.args.walk.now.set.now c.args.walk.now.work.now c.args.at c.args.walk.now.ints _ c.number-code.ensures.0 c.if-code-eq1.false c.if-code-eq3.false _ c.number-n.ensures.0 _ c.number-k.ensures.0 _ _ c.columns-t.ensures c.requires in search rules

pub returns : goal.returns
returns c = table_post c.args.walk.now.set.now c.args.walk.now.work.now c.args.at c.args.walk.now.ints _ c.number-code.ensures.0 c.if-code-eq1.false c.if-code-eq3.false _ c.number-n.ensures.0 _ c.number-k.ensures.0 _ _ c.columns-t.ensures
