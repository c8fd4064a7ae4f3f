use native.Mathlib.Omega.{arith}
use mir.Facts.{to_z-of_z}
use Rattle.laws.specs.Writes.{wrote_one, wrote_past, wrote_capped}
use Rattle.output.proofs.put.Goals as goal

pub returns-then-o-out : goal.returns-then-o-out
returns-then-o-out c = rw (to_z-of_z c.ranges.w) (wrote_one _ _ _ c.if-o-out.true c.requires.room)

pub returns-then-o-lt-CAP : goal.returns-then-o-lt-CAP
returns-then-o-lt-CAP c = wrote_past _ _ _ c.if-o-out.false c.if-o-lt-CAP.true

pub returns : goal.returns
returns c = wrote_capped _ _ _ c.if-o-out.false (omega (arith, c.if-o-lt-CAP.false, c.requires.low))
