use native.Mathlib.Omega.{arith}
use mathlib.Core.Path.{refl, ap}
use mathlib.Core.Bool.{not}
use mir.Facts.{to_z-of_z}
use Rattle.evaluate.proofs.BoolLaws.{eq_bits, op_last}
use Rattle.evaluate.proofs.compares.Goals as goal

pub returns-in-0 : goal.returns-in-0
returns-in-0 c = rw c.in-0.is (eq_bits c.args.x c.args.y c.ranges.x c.ranges.y)

pub returns-in-1 : goal.returns-in-1
returns-in-1 c = rw c.in-1.is (ap not (eq_bits c.args.x c.args.y c.ranges.x c.ranges.y))

pub returns-in-2 : goal.returns-in-2
returns-in-2 c = rw (c.in-2.is, to_z-of_z c.ranges.x, to_z-of_z c.ranges.y) refl

pub returns-in-3 : goal.returns-in-3
returns-in-3 c = rw (c.in-3.is, to_z-of_z c.ranges.x, to_z-of_z c.ranges.y) refl

pub returns-in-4 : goal.returns-in-4
returns-in-4 c = rw (c.in-4.is, to_z-of_z c.ranges.x, to_z-of_z c.ranges.y) refl

pub returns-in_default : goal.returns-in_default
returns-in_default c = rw (op_last c.args.op (omega arith) (omega arith) (omega arith) (omega arith) (omega arith), to_z-of_z c.ranges.x, to_z-of_z c.ranges.y) refl
