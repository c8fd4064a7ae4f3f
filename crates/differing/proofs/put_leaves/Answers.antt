-- Two words, and the terms.
use mathlib.Core.Path.{◌≡◌, refl}
use lib.IntN.{◌-ℤ◌}
use mir.Syntax.{w32}
use mir.Val.{SFits, of_z, to_z}
use mir.Facts.{to_z-of_z}
use Rattle.output.proofs.Laws.{put_word}
use Rattle.differing.proofs.Leaves.{leaves_fit, leaves_wrote}
use borrow.Author.Rules.{rules}
use Rattle.differing.proofs.put_leaves.Goals as goal

pub overflow_sub-c : goal.overflow_sub-c
overflow_sub-c c =
    let f : SFits w32 c.args.a.constant = search rules in
    let g : SFits w32 c.args.b.constant = search rules in
    rw (to_z-of_z f, to_z-of_z g) (leaves_fit c.args.a.constant c.args.b.constant c.requires.2)

pub returns : goal.returns
returns c =
    let f : SFits w32 c.args.a.constant = search rules in
    let g : SFits w32 c.args.b.constant = search rules in
    let e : to_z w32 (of_z w32 c.args.a.constant) -ℤ to_z w32 (of_z w32 c.args.b.constant) ≡ c.args.a.constant -ℤ c.args.b.constant = rw (to_z-of_z f, to_z-of_z g) refl in
    let d : SFits w32 (to_z w32 (of_z w32 c.args.a.constant) -ℤ to_z w32 (of_z w32 c.args.b.constant)) = rw (to_z-of_z f, to_z-of_z g) (leaves_fit c.args.a.constant c.args.b.constant c.requires.2) in
    leaves_wrote c.args.a.number c.args.b.number c.args.a.constant c.args.b.constant c.requires.3.room c.put-p.ensures (put_word d e c.put-q.ensures) c.put_apart.ensures
