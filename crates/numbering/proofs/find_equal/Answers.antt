use Prim.Native.Nat.{◌+◌, ◌-◌}
use native.Mathlib.Omega.{arith}
use mathlib.Core.Path.{◌≡◌, sym, ◌∙◌}
use mir.Syntax.{w32}
use mir.Val.{SFits}
use borrow.Author.Rules.{rules}
use Rattle.laws.specs.Ints.{bits_zero, bits_nonzero}
use Rattle.memory.specs.Places.{folded_end}
use Rattle.numbering.specs.Equal.{seeking_next, seek_not_whole, seek_seen, seek_found, seek_none}
use Rattle.numbering.proofs.find_equal.Goals.{then-not-whole-via-then-not-whole, then-not-whole-via-else-not-whole+then-cell-ne0}
use Rattle.numbering.proofs.find_equal.Goals as goal

pub returns-then-not-whole : goal.returns-then-not-whole
returns-then-not-whole c = elim c.then-not-whole.branch [
  | then-not-whole-via-then-not-whole w ↦ (seek_not_whole c.args.work.now (record { at = c.args.at; size = c.args.size; whole = c.args.whole }) w.if-not-whole.true, tt)
  | then-not-whole-via-else-not-whole+then-cell-ne0 w ↦ (seek_seen c.args.work.now (record { at = c.args.at; size = c.args.size; whole = c.args.whole }) w.cell.result w.cell.ensures (bits_nonzero w.cell.result w.if-cell-ne0.true), tt)
]

pub returns-then-is_equal : goal.returns-then-is_equal
returns-then-is_equal c =
    let f : SFits w32 c.cell.result = search rules in
    seek_found c.args.work.now (record { at = c.args.at; size = c.args.size; whole = c.args.whole }) c.cell.result c.cell.ensures (bits_zero c.cell.result f c.if-cell-ne0.false) c.if-not-whole.false _ c.loop-q.q c.loop-q.invariant (omega arith) (sym c.is_equal.ensures ∙ c.if-is_equal.true)

pub loop-q-preserved : goal.loop-q-preserved
loop-q-preserved c =
    let e : folded_end - (c.loop-q.q + 1) ≡ folded_end - c.loop-q.q - 1 = omega arith in
    rw e (seeking_next c.args.work.now (record { at = c.args.at; size = c.args.size; whole = c.args.whole }) _ c.loop-q.q c.loop-q.invariant (omega arith) (sym c.is_equal.ensures ∙ c.if-is_equal.false))

pub returns : goal.returns
returns c =
    let f : SFits w32 c.cell.result = search rules in
    (seek_none c.args.work.now (record { at = c.args.at; size = c.args.size; whole = c.args.whole }) c.cell.result c.cell.ensures (bits_zero c.cell.result f c.if-cell-ne0.false) c.if-not-whole.false _ c.loop-q.q c.loop-q.invariant (omega arith), tt)
