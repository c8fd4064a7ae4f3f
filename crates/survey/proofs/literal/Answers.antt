use Rattle.walk.specs.Item.{bool_at}
use borrow.Author.Rules.{rules}
use Rattle.survey.proofs.literal.Goals as goal

pub returns : goal.returns
unfolding bool_at
returns c = search rules
