-- `decimal::all_fit` meets its contract. Assumes nothing.
use Rattle.decimal.specs.Widths.{fit_next, fit_all}
use borrow.Author.Rules.{rules, sfits_of}
use Rattle.decimal.proofs.all_fit.Goals as goal

pub loop-w-preserved : goal.loop-w-preserved
loop-w-preserved c = fit_next _ _ c.loop-w-test.true c.loop-w.invariant (sfits_of (search rules))

pub returns : goal.returns
returns c = fit_all _ _ c.loop-w-test.false c.loop-w.invariant
