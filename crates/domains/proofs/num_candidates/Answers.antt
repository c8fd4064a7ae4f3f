use borrow.Author.Rules.{rules}
use Rattle.domains.proofs.num_candidates.Goals as goal

pub returns-in-Range : goal.returns-in-Range
returns-in-Range c = λ dm h. rw (← c.in-Range.ensures dm h) (search rules)
