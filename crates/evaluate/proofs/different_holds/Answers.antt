use Rattle.evaluate.proofs.StmtLaws.{different_inside, different_count, different_columns, different_values, different_held}
use borrow.Author.Rules.{rules}
use Rattle.evaluate.proofs.different_holds.Goals as goal

pub overflow_add-at : goal.overflow_add-at
overflow_add-at c = let q = different_inside _ _ _ _ _ c.requires.1 c.requires.0 in search rules

pub number-n-requires : goal.number-n-requires
number-n-requires c = different_count _ _ _ _ _ c.requires.1 c.requires.0

pub overflow_add-at-2 : goal.overflow_add-at-2
overflow_add-at-2 c = let q = different_inside _ _ _ _ _ c.requires.1 c.requires.0 in search rules

pub column_values-next-requires : goal.column_values-next-requires
column_values-next-requires c = different_columns _ _ _ _ _ c.requires.1 _ c.number-n.ensures.0 c.requires.0

pub differ-requires : goal.differ-requires
differ-requires c = different_values _ _ _ _ _ c.requires.1 _ c.number-n.ensures.0 _ _ c.column_values-next.ensures c.requires.0

pub returns : goal.returns
returns c = different_held _ _ _ _ _ c.requires.1 _ c.number-n.ensures.0 _ _ c.column_values-next.ensures c.requires.0.room _ c.differ.ensures
