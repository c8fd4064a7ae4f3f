use mathlib.Core.Bool.{false, not}
use mathlib.Core.Path.{◌≡◌, sym, ap, ◌∙◌}
use Prim.Native.Nat.{◌+◌}
use Rattle.std.proofs.Common.{leb-false}
use lib.IntN.{pos}
use lib.Signed.{lt_z}
use mir.Syntax.{w32}
use mir.Val.{SFits}
use borrow.Author.Rules.{rules}
use Rattle.laws.specs.Order.{leZ_not}
use Rattle.laws.specs.Signed.{test_of}
use Rattle.memory.specs.Places.{folded_end}
use Rattle.numbering.specs.Equal.{not_shared, is_shared_at, too_long}
use Rattle.numbering.proofs.is_equal.Goals.{then-cell-gt0, else-cell-gt0}
use Rattle.numbering.proofs.is_equal.Goals as goal

pub returns-else-q-n-le-FOLDED_END : goal.returns-else-q-n-le-FOLDED_END
returns-else-q-n-le-FOLDED_END c =
    let f : SFits w32 c.cell.result = search rules in
    let e : c.if-cell-gt0.value ≡ false = c.if-q-n-le-FOLDED_END.false in
    elim c.if-cell-gt0.branch [
      | then-cell-gt0 w ↦ e ∙ is_shared_at c.args.work.now c.args.p c.args.q c.args.n c.cell.result false c.cell.ensures (leZ_not c.cell.result (pos 0) ∙ ap not (test_of (λ z. lt_z (pos 0) z) f w.if-cell-gt0.true)) (too_long c.args.work.now c.args.p c.args.q c.args.n c.requires.0 c.requires.1.0 (leb-false (c.args.q + c.args.n) folded_end (sym w.value-is ∙ e)) c.requires.1.1)
      | else-cell-gt0 w ↦ e ∙ not_shared c.args.work.now c.args.p c.args.q c.args.n c.cell.result c.cell.ensures (leZ_not c.cell.result (pos 0) ∙ ap not (test_of (λ z. lt_z (pos 0) z) f w.if-cell-gt0.false))
    ]
