use mathlib.Core.Path.{refl}
use mathlib.Core.List.{[]}
use mir.Facts.{to_z-of_z}
use Rattle.walk.specs.Item.{extra}
use Rattle.stars.proofs.Laws.{is_star, no_star, lines_stop, equality_none, equality_one}
use Rattle.stars.proofs.put_equality.Goals.{then-x-eqminus2147483648-via-then-x-eqminus2147483648, then-x-eqminus2147483648-via-else-x-eqminus2147483648+then-o-eq-CAP}
use Rattle.stars.proofs.put_equality.Goals as goal

pub returns-then-x-eqminus2147483648 : goal.returns-then-x-eqminus2147483648
returns-then-x-eqminus2147483648 c = elim c.then-x-eqminus2147483648.branch [
  | then-x-eqminus2147483648-via-then-x-eqminus2147483648 w ↦ equality_none (extra c.args.mode c.args.m [] c.args.j) c.args.v c.args.x (is_star c.args.x c.ranges.x w.if-x-eqminus2147483648.true) c.requires.3
  | then-x-eqminus2147483648-via-else-x-eqminus2147483648+then-o-eq-CAP w ↦ lines_stop c.requires.3 w.if-o-eq-CAP.true _
]

pub returns : goal.returns
returns c =
    equality_one (extra c.args.mode c.args.m [] c.args.j) c.args.v c.args.x _ _ (no_star c.args.x c.ranges.x c.if-x-eqminus2147483648.false) c.requires.3 c.if-o-eq-CAP.false refl (to_z-of_z c.ranges.x) c.put_literal-a.ensures c.put-b.ensures c.put_cmp-d.ensures
