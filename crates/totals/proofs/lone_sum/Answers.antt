-- A constant, a number.
use mathlib.Core.Path.{sym, ap}
use mir.Syntax.{w32}
use mir.Val.{SFits}
use mir.Facts.{to_z-of_z}
use Rattle.sums.proofs.Laws.{stands_to}
use Rattle.totals.specs.Lone.{sum_in}
use borrow.Author.Rules.{rules}
use Rattle.totals.proofs.lone_sum.Goals as goal

pub returns-in-Constant : goal.returns-in-Constant
returns-in-Constant c = let f : SFits w32 c.in-Constant.c = search rules in
    stands_to c.constant.result _ _ (rw (to_z-of_z f) at c.constant.ensures) (ap sum_in (sym c.in-Constant.is))

pub returns-in-Number : goal.returns-in-Number
returns-in-Number c = stands_to c.singleton.result _ _ c.singleton.ensures (ap sum_in (sym c.in-Number.is))
