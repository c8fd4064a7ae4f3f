-- `decimal::put_number` meets its contract. Assumes nothing.
use mathlib.Core.Path.{refl, ap, ◌∙◌}
use lib.IntN.{pos, nat_abs}
use lib.Signed.{lt_z}
use mir.Facts.{to_z-of_z}
use Rattle.laws.specs.Signed.{test_of, not_neg}
use Rattle.decimal.proofs.Printing.{put_negative, put_plain}
use Rattle.decimal.proofs.put_number.Goals as goal

pub returns-then-z-lt0 : goal.returns-then-z-lt0
returns-then-z-lt0 c = let f = c.ranges.z in put_negative c.args.z (test_of (λ z. lt_z z (pos 0)) f c.if-z-lt0.true) c.put_byte-o.ensures _ (c.from.ensures ∙ c.unsigned_abs.ensures.value ∙ ap nat_abs (to_z-of_z f)) c.put_natural.ensures

pub returns : goal.returns
returns c = let f = c.ranges.z in put_plain c.args.z (not_neg c.args.z (test_of (λ z. lt_z z (pos 0)) f c.if-z-lt0.false)) _ (rw (to_z-of_z f) refl) c.put_natural-2.ensures
