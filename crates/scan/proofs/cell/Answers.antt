use Rattle.walks.specs.Item.{cell}
use borrow.Author.Rules.{rules}
use Rattle.scan.proofs.cell.Goals as goal

pub returns : goal.returns
unfolding cell
returns c = search rules
