use mathlib.Core.Path.{refl}
use mathlib.Core.List.{[]}
use mir.Facts.{to_z-of_z}
use Rattle.stars.proofs.Laws.{is_star, no_star, value_none, value_one}
use Rattle.stars.proofs.put_value.Goals as goal

pub returns-then-x-eqminus2147483648 : goal.returns-then-x-eqminus2147483648
returns-then-x-eqminus2147483648 c =
    value_none [] c.args.v c.args.x (is_star c.args.x c.ranges.x c.if-x-eqminus2147483648.true) c.requires.1

pub returns : goal.returns
returns c =
    value_one [] c.args.v c.args.x _ _ (no_star c.args.x c.ranges.x c.if-x-eqminus2147483648.false) refl (to_z-of_z c.ranges.x) c.put_cmp.ensures
