use mathlib.Core.Path.{refl, ap, ◌∙◌}
use native.Mathlib.Omega.{arith}
use lib.IntN.{pos, nat_abs}
use lib.Signed.{lt_z}
use mir.Facts.{to_z-of_z}
use Rattle.laws.specs.Signed.{test_of, not_neg}
use Rattle.page.proofs.Bytes.{negative_width, plain_width}
use Rattle.page.proofs.width.Goals as goal

pub overflow_add-result : goal.overflow_add-result
overflow_add-result c = let f = c.ranges.z in let h = test_of (λ z. lt_z z (pos 0)) f c.if-z-lt0.true in record { fits = omega (arith, (negative_width c.args.z h f _ _ (c.from.ensures ∙ c.unsigned_abs.ensures.value ∙ ap nat_abs (to_z-of_z f)) c.natural_width.ensures).1) }

pub returns-then-z-lt0 : goal.returns-then-z-lt0
returns-then-z-lt0 c = let f = c.ranges.z in let h = test_of (λ z. lt_z z (pos 0)) f c.if-z-lt0.true in negative_width c.args.z h f _ _ (c.from.ensures ∙ c.unsigned_abs.ensures.value ∙ ap nat_abs (to_z-of_z f)) c.natural_width.ensures

pub returns : goal.returns
returns c = let f = c.ranges.z in plain_width c.args.z (not_neg c.args.z (test_of (λ z. lt_z z (pos 0)) f c.if-z-lt0.false)) f _ _ (rw (to_z-of_z f) refl) c.natural_width-2.ensures
