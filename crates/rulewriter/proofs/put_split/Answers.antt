use mathlib.Core.Path.{◌∙◌}
use native.Mathlib.Omega.{arith}
use Rattle.laws.specs.Writes.{wrote_length, wrote_then}
use Rattle.output.proofs.Laws.{open_next}
use Rattle.rulewriter.proofs.put_split.Goals as goal

pub overflow_add-n : goal.overflow_add-n
overflow_add-n c = omega (arith, c.requires.0)

pub put_two-a-requires : goal.put_two-a-requires
put_two-a-requires c = (c.requires.0, omega (arith, c.requires.0), c.requires.1, c.requires.2)

pub overflow_add-n-2 : goal.overflow_add-n-2
overflow_add-n-2 c = omega (arith, c.requires.0)

pub put_two-requires : goal.put_two-requires
put_two-requires c = (c.requires.0, omega (arith, c.requires.0), c.requires.1, open_next c.requires.2 c.put_two-a.ensures)

pub shape_of-out : goal.shape_of-out
shape_of-out c = wrote_length c.put_two.ensures ∙ wrote_length c.put_two-a.ensures

pub returns : goal.returns
returns c = wrote_then c.requires.2.room c.put_two-a.ensures c.put_two.ensures
