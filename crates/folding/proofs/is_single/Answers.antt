use borrow.Author.Rules.{rules}
use Rattle.folding.specs.Steps.{single_of}
use Rattle.folding.proofs.is_single.Goals as goal

pub returns-then-n-eq1 : goal.returns-then-n-eq1
unfolding single_of
returns-then-n-eq1 c = search rules
