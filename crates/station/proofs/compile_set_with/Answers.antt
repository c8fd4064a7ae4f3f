use mir.Syntax.{w64}
use mir.Val.{SFits}
use Rattle.station.proofs.Numbers.{returns_as}
use borrow.Author.Rules.{rules}
use Rattle.station.proofs.compile_set_with.Goals as goal

pub returns : goal.returns
returns c = let f : SFits w64 c.compile_number.result = search rules in returns_as c.choices_of.ensures f c.compile_number.ensures
