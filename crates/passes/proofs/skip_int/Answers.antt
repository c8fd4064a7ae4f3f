use native.Mathlib.Omega.{arith}
use Rattle.passes.proofs.SkipLaws.{int_inside, int_first, two_words_skip}
use Rattle.passes.proofs.skip_int.Goals as goal

pub number-w-requires : goal.number-w-requires
number-w-requires c = int_first _ _ c.requires

pub overflow_add-result : goal.overflow_add-result
overflow_add-result c = let q = int_inside _ _ c.requires in omega (arith, c.well_formed.0.0)

pub returns-then-w-lt22 : goal.returns-then-w-lt22
returns-then-w-lt22 c = two_words_skip _ _ _ c.number-w.ensures.0 c.if-w-lt22.true

pub int_end-requires : goal.int_end-requires
int_end-requires c = c.requires

pub returns : goal.returns
returns c = c.int_end.ensures
