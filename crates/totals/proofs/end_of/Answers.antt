-- A constant or a variable where no integer is counted; else as surveyed.
use mathlib.Core.Path.{ap}
use mathlib.Core.Bool.{not}
use Rattle.scan.specs.Skip.{split_by}
use Rattle.totals.proofs.Steps.{leaf_passed}
use Rattle.totals.proofs.end_of.Goals as goal

pub returns-then-not-has_ifs : goal.returns-then-not-has_ifs
returns-then-not-has_ifs c = leaf_passed c.args.work.now c.args.left (split_by c.args.m) c.args.at c.args.base c.args.n c.requires.0 c.requires.1.0 c.requires.1.1.0 c.requires.1.1.1 c.if-left-ne0.true _ c.word.ensures c.if-word-lt22.true _ c.has_ifs.ensures (ap not c.if-not-has_ifs.true) _ c.within.ensures
