use mathlib.Core.Path.{◌≡◌, refl, ◌∙◌}
use mathlib.Core.Bool.{Bool, true, false, not, ◌||◌}
use native.Mathlib.Omega.{arith}
use Rattle.evaluate.proofs.BoolLaws.{xor_is, iff_is, imp_is}
use Rattle.evaluate.proofs.sides_hold.Goals as goal

or_left : (x y : Bool) → x ≡ false → not x ≡ not x || y
or_left true y h = cc
or_left false y h = refl

or_right : (x y : Bool) → x ≡ true → y ≡ not x || y
or_right true y h = refl
or_right false y h = cc

pub returns-in-15 : goal.returns-in-15
returns-in-15 c = xor_is _ _ _ c.in-15.is

pub returns-in-16 : goal.returns-in-16
returns-in-16 c = iff_is _ _ _ (omega arith) c.in-16.is

pub returns-then-not-a : goal.returns-then-not-a
returns-then-not-a c = or_left c.args.a c.args.b c.if-not-a.true ∙ imp_is _ _ _ (omega arith) (omega arith)

pub returns-else-not-a : goal.returns-else-not-a
returns-else-not-a c = or_right c.args.a c.args.b c.if-not-a.false ∙ imp_is _ _ _ (omega arith) (omega arith)
