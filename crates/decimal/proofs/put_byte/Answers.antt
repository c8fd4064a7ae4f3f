-- `decimal::put_byte` meets its contract. Assumes nothing.
use Rattle.decimal.specs.Puts.{puts_one, puts_past}
use Rattle.decimal.proofs.put_byte.Goals as goal

pub returns-then-at-out : goal.returns-then-at-out
returns-then-at-out c = puts_one _ _ _ c.if-at-out.true

pub returns-else-at-out : goal.returns-else-at-out
returns-else-at-out c = puts_past _ _ _ c.if-at-out.false
