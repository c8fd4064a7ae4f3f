use native.Mathlib.Omega.{arith}
use mathlib.Core.Path.{◌∙◌, ap}
use lib.IntN.{pos}
use Rattle.evaluate.proofs.StmtLaws.{stmt_inside, stmt_first, rule_ready, rule_held, different_code}
use borrow.Author.Rules.{rules}
use Rattle.evaluate.proofs.statement_holds.Goals as goal

pub number-code-requires : goal.number-code-requires
number-code-requires c = stmt_first _ _ _ _ _ c.requires

pub overflow_add-at : goal.overflow_add-at
overflow_add-at c = let q = stmt_inside _ _ _ _ _ c.requires in search rules

pub bool_holds-requires : goal.bool_holds-requires
bool_holds-requires c = rule_ready _ _ _ _ _ _ c.number-code.ensures.0 c.in-1.is c.requires

pub returns-in-1 : goal.returns-in-1
returns-in-1 c = rule_held _ _ _ _ c.args.work.now _ c.number-code.ensures.0 c.in-1.is _ _ c.bool_holds.ensures

pub table_holds-requires : goal.table_holds-requires
table_holds-requires c = (c.requires, c.number-code.ensures.0 ∙ ap pos c.in-2.is)

pub different_holds-requires : goal.different_holds-requires
different_holds-requires c = (c.requires, different_code _ _ _ _ _ c.requires _ c.number-code.ensures.0 (omega arith) (omega arith))
