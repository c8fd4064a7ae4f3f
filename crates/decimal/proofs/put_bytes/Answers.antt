-- `decimal::put_bytes` meets its contract. Assumes nothing.
use mathlib.Core.Path.{◌∙◌}
use Rattle.decimal.proofs.Printing.{bytes_next, bytes_end}
use Rattle.decimal.proofs.put_bytes.Goals as goal

pub loop-b-preserved : goal.loop-b-preserved
loop-b-preserved c = (c.put_byte-o.ensures.size ∙ c.loop-b.invariant.0, bytes_next _ _ _ _ _ _ c.loop-b.invariant.1 _ _ c.loop-b-test.true c.put_byte-o.ensures)

pub returns : goal.returns
returns c = bytes_end _ _ _ _ _ _ c.loop-b.invariant.1 c.loop-b-test.false c.loop-b.invariant.0
