-- `decimal::all_fit` meets its contract. Assumes nothing.
use Rattle.std.proofs.Common.{◌≡◌, true, take}
use Rattle.laws.specs.Lists.{all}
use Rattle.decimal.specs.Widths.{fitting}
use Rattle.decimal.proofs.all_fit.Given as goal

abbrev pub invariant-loop-w : goal.invariant-loop-w
invariant-loop-w l = all fitting (take l.w-index l.words) ≡ true
