use native.Mathlib.Omega.{arith}
use Rattle.stmtwords.specs.Stands.{SomeTable}
use Rattle.stmtwords.proofs.Words.{table_inside, table_room, different_inside}
use Rattle.stmtwords.proofs.Ends.{some_inside, second_inside, some_table, some_different, rule_ends, table_ends, different_ends}
use Rattle.stmtwords.proofs.statement_end.Goals as goal

pub overflow_add-at : goal.overflow_add-at
overflow_add-at c = omega (arith, some_inside _ _ c.requires.0)

pub skip-s-requires : goal.skip-s-requires
skip-s-requires c = let s = c.before.before in (s.requires.1, (some_inside _ _ s.requires.0, omega arith))

pub returns-then-kind-eq1 : goal.returns-then-kind-eq1
returns-then-kind-eq1 c = rule_ends _ _ _ c.word-kind.ensures _ _ _ c.if-kind-eq1.true c.skip-s.ensures

pub overflow_add-at-2 : goal.overflow_add-at-2
overflow_add-at-2 c = omega (arith, second_inside _ _ _ c.word-kind.ensures c.requires.0 c.if-kind-eq1.false)

pub overflow_add-at-then-kind-eq3 : goal.overflow_add-at-then-kind-eq3
overflow_add-at-then-kind-eq3 c = omega (arith, different_inside _ _ (some_different _ _ _ c.word-kind.ensures c.requires.0 c.if-kind-eq3.true))

pub columns_end-requires : goal.columns_end-requires
columns_end-requires c = (c.requires.1, different_inside _ _ (some_different _ _ _ c.word-kind.ensures c.requires.0 c.if-kind-eq3.true))

pub returns-then-kind-eq3 : goal.returns-then-kind-eq3
returns-then-kind-eq3 c = different_ends _ _ _ c.word-kind.ensures _ _ c.if-kind-eq3.true c.word-n.ensures c.columns_end.ensures.0

pub overflow_add-at-3 : goal.overflow_add-at-3
overflow_add-at-3 c = omega (arith, table_inside _ _ (some_table _ _ _ c.word-kind.ensures c.requires.0 c.if-kind-eq1.false c.if-kind-eq3.false))

pub overflow_add-at-4 : goal.overflow_add-at-4
overflow_add-at-4 c = omega (arith, table_inside _ _ (some_table _ _ _ c.word-kind.ensures c.requires.0 c.if-kind-eq1.false c.if-kind-eq3.false))

pub columns_end-requires-2 : goal.columns_end-requires-2
columns_end-requires-2 c = (c.requires.1, table_inside _ _ (some_table _ _ _ c.word-kind.ensures c.requires.0 c.if-kind-eq1.false c.if-kind-eq3.false))

pub overflow_mul-result : goal.overflow_mul-result
overflow_mul-result c =
    let t : SomeTable _ _ = some_table _ _ _ c.word-kind.ensures c.requires.0 c.if-kind-eq1.false c.if-kind-eq3.false in
    omega (arith, table_room _ _ t.columns t.cells t.stands _ _ _ c.word-n.ensures c.word-k.ensures c.columns_end-2.ensures.0)

pub overflow_add-result : goal.overflow_add-result
overflow_add-result c =
    let t : SomeTable _ _ = some_table _ _ _ c.word-kind.ensures c.requires.0 c.if-kind-eq1.false c.if-kind-eq3.false in
    omega (arith, table_room _ _ t.columns t.cells t.stands _ _ _ c.word-n.ensures c.word-k.ensures c.columns_end-2.ensures.0)

pub returns : goal.returns
returns c = table_ends _ _ _ c.word-kind.ensures _ _ _ c.if-kind-eq1.false c.if-kind-eq3.false c.word-n.ensures c.word-k.ensures c.columns_end-2.ensures.0
