use mir.Syntax.{w32}
use mir.Val.{SFits}
use borrow.Author.Rules.{rules}
use Rattle.scan.proofs.Seeing.{word_test}
use Rattle.scan.proofs.has_ifs.Goals as goal

pub returns : goal.returns
returns c = let f : SFits w32 c.plain.result = search rules in word_test _ _ f c.plain.ensures
