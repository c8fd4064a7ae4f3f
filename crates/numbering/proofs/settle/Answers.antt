use mir.Syntax.{w32}
use mir.Val.{SFits}
use Rattle.numbering.proofs.Results.{settled}
use borrow.Author.Rules.{rules}
use Rattle.numbering.proofs.settle.Goals as goal

pub returns : goal.returns
returns c = let f : SFits w32 c.number_word-z.result = search rules in
    record { written = settled c.args.work.now _ c.args.at c.number_word-z.result c.args.lo c.args.hi _ f c.ranges.lo c.ranges.hi c.number_word-z.ensures c.store_cells.ensures.0; count = c.advance.ensures }
