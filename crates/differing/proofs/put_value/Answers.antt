-- Two words, and the comparisons.
use native.Mathlib.Omega.{arith}
use mir.Facts.{to_z-of_z}
use Rattle.output.proofs.Laws.{put_cast}
use Rattle.differing.proofs.Literals.{value_wrote}
use Rattle.differing.proofs.put_value.Goals as goal

pub returns : goal.returns
returns c = value_wrote c.requires.2.room c.put-p.ensures (put_cast (omega (arith, c.requires.0.few)) c.put-q.ensures) c.put_literals.ensures (to_z-of_z c.ranges.x)
