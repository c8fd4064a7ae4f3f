use Rattle.declared.specs.DomainTable.{word_at}
use borrow.Author.Rules.{rules}
use Rattle.numbering.proofs.told.Goals as goal

pub returns : goal.returns
unfolding word_at
returns c = search rules
