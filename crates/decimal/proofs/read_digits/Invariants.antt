-- `decimal::read_digits` meets its contract. Assumes nothing.
use Rattle.std.proofs.Common.{◌≡◌, ◌≤◌, drop}
use Rattle.decimal.specs.Decimal.{read_digits as digits}
use Rattle.decimal.specs.Numbers.{limited}
use Rattle.decimal.proofs.read_digits.Given as goal

abbrev pub invariant-loop-b : goal.invariant-loop-b
invariant-loop-b l = (l.n ≤ 2147483648) × (limited (digits l.n (drop l.b-index l.part)) ≡ limited (digits 0 l.part))
