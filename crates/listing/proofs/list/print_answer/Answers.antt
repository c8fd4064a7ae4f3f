-- `listing::list::print_answer` meets its contract. Assumes nothing.
use borrow.Author.Rules.{rules}
use Rattle.listing.proofs.Laws.{answered_fits, prints_compiled, prints_contradiction, prints_refused}
use Rattle.listing.proofs.list.print_answer.Goals as goal

pub slice_bounds-text_of_answer-end : goal.slice_bounds-text_of_answer-end
slice_bounds-text_of_answer-end c = answered_fits _ _ _ c.requires c.in-Compiled.is

pub returns-in-Compiled : goal.returns-in-Compiled
returns-in-Compiled c = prints_compiled _ _ _ _ _ _ _ _ c.count_at-bools.ensures.0 c.count_at-ints.ensures.0 _ c.in-Compiled.is (c.text_of_answer.ensures.value, c.text_of_answer.ensures.out_after)

pub returns-in-Contradiction : goal.returns-in-Contradiction
returns-in-Contradiction c = prints_contradiction _ _ _ _ _ _ _ _ c.count_at-bools.ensures.0 c.count_at-ints.ensures.0 _ c.in-Contradiction.is (c.text_of_answer-in-Contradiction.ensures.value, c.text_of_answer-in-Contradiction.ensures.out_after)

pub returns-in-Refused : goal.returns-in-Refused
returns-in-Refused c = prints_refused _ _ _ _ _ _ _ _ c.count_at-bools.ensures.0 c.count_at-ints.ensures.0 _ _ (search rules) c.in-Refused.is (c.text_of_answer-in-Refused.ensures.value, c.text_of_answer-in-Refused.ensures.out_after)
