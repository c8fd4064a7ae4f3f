use mathlib.Core.Path.{ap, ◌∙◌}
use lib.ListN.{set}
use mir.Facts.{to_z-of_z}
use Rattle.merging.proofs.give.Goals as goal

pub returns : goal.returns
returns c = (c.store.ensures.0 ∙ ap (set c.args.work.now _) (to_z-of_z c.ranges.z), c.store.ensures.1)
