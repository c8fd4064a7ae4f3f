use native.Mathlib.Omega.{arith}
use mathlib.Core.Path.{refl, sym, ◌∙◌}
use Rattle.scan.specs.Skip.{split_by}
use Rattle.stmtwords.proofs.Ends.{some_inside, rule_ends, table_only}
use Rattle.setnumbers.proofs.Known.{known_ends}
use Rattle.setnumbers.proofs.Numbering.{starts_of}
use Rattle.setnumbers.proofs.Statements.{rule_asks, rule_done, known_done, table_asks, table_stmt_done}
use Rattle.setnumbers.proofs.number_statement.Goals as goal

pub overflow_add-at : goal.overflow_add-at
overflow_add-at c = omega (arith, some_inside _ _ (record { stmt = c.requires.1.stmt; stands = c.requires.1.stands }))

pub known_tie-requires : goal.known_tie-requires
known_tie-requires c = (omega (arith, c.requires.1.asks.long), some_inside _ _ (record { stmt = c.requires.1.stmt; stands = c.requires.1.stands }))

pub overflow_add-at-then-known_tie : goal.overflow_add-at-then-known_tie
overflow_add-at-then-known_tie c = omega (arith, some_inside _ _ (record { stmt = c.requires.1.stmt; stands = c.requires.1.stands }))

pub returns-then-known_tie : goal.returns-then-known_tie
returns-then-known_tie c = (known_done _ _ _ _ _ c.word-kind.ensures c.requires.0 c.if-kind-eq1.true c.requires.1.asks.low (c.known_tie.ensures c.if-known_tie.true), (refl, refl), known_ends _ (omega (arith, c.requires.1.asks.long)) _ _ c.word-kind.ensures _ c.if-kind-eq1.true (c.known_tie.ensures c.if-known_tie.true) c.within.ensures)

pub overflow_add-at-then-kind-eq1 : goal.overflow_add-at-then-kind-eq1
overflow_add-at-then-kind-eq1 c = omega (arith, some_inside _ _ (record { stmt = c.requires.1.stmt; stands = c.requires.1.stands }))

pub number_rule-r-requires : goal.number_rule-r-requires
number_rule-r-requires c = starts_of (some_inside _ _ (record { stmt = c.requires.1.stmt; stands = c.requires.1.stands })) (rule_asks _ _ _ _ _ c.word-kind.ensures c.requires.0 c.if-kind-eq1.true c.requires.1)

pub shape_of-work-then-kind-eq1 : goal.shape_of-work-then-kind-eq1
shape_of-work-then-kind-eq1 c = c.number_rule-r.ensures.0.kept.size

pub shape_of-out-then-kind-eq1 : goal.shape_of-out-then-kind-eq1
shape_of-out-then-kind-eq1 c = c.number_rule-r.ensures.0.kept.room

pub returns-then-kind-eq1 : goal.returns-then-kind-eq1
unfolding split_by
returns-then-kind-eq1 c = (rule_done _ _ _ _ _ c.word-kind.ensures c.requires.0 c.if-kind-eq1.true _ c.number_rule-r.ensures.0, (c.number_rule-r.ensures.0.kept.size, c.number_rule-r.ensures.0.kept.room), rule_ends _ _ _ c.word-kind.ensures _ _ _ c.if-kind-eq1.true c.number_rule-r.ensures.1)

pub number_different_at-requires : goal.number_different_at-requires
number_different_at-requires c = (c.requires.0, (sym c.word-kind.ensures ∙ c.if-kind-eq3.true, c.requires.1))

pub shape_of-work-then-kind-eq3 : goal.shape_of-work-then-kind-eq3
shape_of-work-then-kind-eq3 c = c.number_different_at.ensures.1.0

pub shape_of-out-then-kind-eq3 : goal.shape_of-out-then-kind-eq3
shape_of-out-then-kind-eq3 c = c.number_different_at.ensures.1.1

pub returns-then-kind-eq3 : goal.returns-then-kind-eq3
returns-then-kind-eq3 c = c.number_different_at.ensures

pub number_table-requires : goal.number_table-requires
number_table-requires c = table_asks _ _ _ _ _ c.word-kind.ensures c.requires.0 c.if-kind-eq1.false c.if-kind-eq3.false c.requires.1

pub shape_of-work : goal.shape_of-work
shape_of-work c = c.number_table.ensures.1.0

pub shape_of-out : goal.shape_of-out
shape_of-out c = c.number_table.ensures.1.1

pub returns : goal.returns
returns c = (table_stmt_done _ _ _ _ _ c.word-kind.ensures c.requires.0 c.if-kind-eq1.false c.if-kind-eq3.false _ c.number_table.ensures.0, c.number_table.ensures.1, table_only _ _ _ c.word-kind.ensures _ c.if-kind-eq1.false c.if-kind-eq3.false c.number_table.ensures.2)
