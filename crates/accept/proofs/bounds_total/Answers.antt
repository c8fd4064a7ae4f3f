use mathlib.Core.Path.{◌≡◌, refl, ◌∙◌}
use native.Mathlib.Omega.{arith}
use lib.IntN.{nat_abs}
use mir.Facts.{to_z-of_z}
use Rattle.limits.specs.Total.{bounds_total}
use Rattle.accept.proofs.bounds_total.Goals as goal

pub returns : goal.returns
unfolding bounds_total
returns c =
    let a : c.unsigned_abs.result ≡ nat_abs c.args.low = c.unsigned_abs.ensures.value ∙ rw (to_z-of_z c.ranges.low) refl in
    let b : c.unsigned_abs-2.result ≡ nat_abs c.args.high = c.unsigned_abs-2.ensures.value ∙ rw (to_z-of_z c.ranges.high) refl in
    omega arith
