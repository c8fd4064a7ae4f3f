-- `lines::put_line` meets its contract. Assumes nothing.
use mathlib.Core.Path.{◌∙◌}
use Rattle.lines.proofs.Parts.{line_shown}
use Rattle.lines.proofs.put_line.Goals as goal

pub shape_of-out : goal.shape_of-out
shape_of-out c = c.put_byte.ensures.size ∙ c.put_part-p.ensures.text.size ∙ c.put_bytes-o.ensures.size

pub returns : goal.returns
returns c = line_shown _ _ _ _ _ _ _ _ _ _ _ _ _ c.put_bytes-o.ensures c.put_part-p.ensures c.put_byte.ensures
