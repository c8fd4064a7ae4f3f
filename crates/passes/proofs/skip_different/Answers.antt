use native.Mathlib.Omega.{arith}
use Rattle.passes.proofs.PropStmtLaws.{stmt_fits, different_word, different_columns, different_skips}
use Rattle.passes.proofs.skip_different.Goals as goal

pub overflow_add-at : goal.overflow_add-at
overflow_add-at c = let q = stmt_fits _ _ c.requires.stands_stmt in omega (arith, c.well_formed.0.0)

pub number-n-requires : goal.number-n-requires
number-n-requires c = different_word _ _ c.requires.pos_value c.requires.stands_stmt

pub overflow_add-at-2 : goal.overflow_add-at-2
overflow_add-at-2 c = let q = stmt_fits _ _ c.requires.stands_stmt in omega (arith, c.well_formed.0.0)

pub skip_columns-requires : goal.skip_columns-requires
skip_columns-requires c = different_columns _ _ c.requires.pos_value _ c.number-n.ensures.0 c.requires.stands_stmt

pub returns : goal.returns
returns c = different_skips _ _ c.requires.pos_value _ c.number-n.ensures.0 _ c.skip_columns.ensures
