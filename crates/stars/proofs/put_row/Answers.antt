use mathlib.Core.Path.{◌≡◌, ap}
use mathlib.Core.List.{[], map}
use Prim.Native.Nat.{ℕ, ◌+◌, ◌-◌, ◌*◌}
use native.Mathlib.Omega.{arith}
use borrow.Author.Rules.{rules}
use lib.IntN.{pos}
use lib.ListN.{get_or}
use mir.Syntax.{w32}
use mir.Val.{SFits}
use mir.Facts.{to_z-of_z}
use Rattle.walk.specs.Item.{extra}
use Rattle.stars.specs.Lines.{equality}
use Rattle.stars.proofs.Laws.{rest_start, rest_next, rest_end, lines_step, cells_none, row_next}
use Rattle.stars.proofs.put_row.Goals as goal

pub loop-i-init : goal.loop-i-init
loop-i-init c =
    let e : c.args.n - 0 ≡ c.args.n = omega arith in
    let f : c.args.cols + 3 * 0 ≡ c.args.cols = omega arith in
    let g : c.args.a + 0 ≡ c.args.a = omega arith in
    rw (e, f, g) (c.requires.0, rest_start c.requires.3)

pub loop-i-preserved : goal.loop-i-preserved
loop-i-preserved c =
    let i : ℕ = c.loop-i.i in
    let p : ℕ = c.args.a + i in
    let col : ℕ = c.args.cols + 3 * i in
    let left : ℕ = c.args.n - i in
    let z : left ≡ 0 → ⊥ = λ e. omega (arith, e, c.loop-i-test.true) in
    let h : SFits w32 (get_or c.args.work.now p (pos 0)) = search rules in
    let e : c.args.n - (i + 1) ≡ left - 1 = omega arith in
    let f : c.args.cols + 3 * (i + 1) ≡ col + 3 = omega arith in
    let g : c.args.a + (i + 1) ≡ p + 1 = omega arith in
    rw (e, f, g) (
      row_next c.args.work.now p col left z c.loop-i.invariant.0,
      rest_next _ _ c.loop-i.invariant.1 (lines_step c.args.work.now p col left z c.loop-i.invariant.0.within c.number_at-v.result _ c.number_at-v.ensures.0 (to_z-of_z h) (extra c.args.mode c.args.m [] c.args.j)) c.put_equality-w.ensures,
    )

pub returns : goal.returns
returns c =
    let i : ℕ = c.loop-i.i in
    rest_end c.loop-i.invariant.1 (ap (map (equality (extra c.args.mode c.args.m [] c.args.j))) (cells_none c.args.work.now (c.args.a + i) (c.args.cols + 3 * i) (c.args.n - i) (omega (arith, c.loop-i-test.false))))
