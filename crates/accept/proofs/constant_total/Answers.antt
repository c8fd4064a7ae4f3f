use mathlib.Core.Path.{refl, ap, ◌∙◌}
use Prim.Native.Nat.{min}
use mir.Facts.{to_z-of_z}
use Rattle.limits.specs.Total.{cap, constant_total}
use Rattle.accept.proofs.constant_total.Goals as goal

pub returns : goal.returns
unfolding constant_total
returns c = c.min.ensures ∙ ap (λ n. min n cap) (c.unsigned_abs.ensures.value ∙ rw (to_z-of_z c.ranges.w) refl)
