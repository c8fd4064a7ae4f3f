use mathlib.Core.Path.{◌≡◌, ap}
use Prim.Native.Nat.{ℕ, ◌+◌, ◌-◌, ◌*◌}
use native.Mathlib.Omega.{arith}
use borrow.Author.Rules.{rules}
use lib.IntN.{pos}
use lib.ListN.{get_or}
use mir.Syntax.{w32}
use mir.Val.{SFits}
use mir.Facts.{to_z-of_z}
use Rattle.rows.specs.Emit.{linears_words}
use Rattle.stars.proofs.Laws.{left_start, left_next, left_end, words_step, cells_none, row_next}
use Rattle.stars.proofs.put_values.Goals as goal

pub loop-j-init : goal.loop-j-init
loop-j-init c =
    let e : c.args.n - 0 ≡ c.args.n = omega arith in
    let f : c.args.cols + 3 * 0 ≡ c.args.cols = omega arith in
    let g : c.args.a + 0 ≡ c.args.a = omega arith in
    rw (e, f, g) (c.requires.0, left_start c.requires.1)

pub loop-j-preserved : goal.loop-j-preserved
loop-j-preserved c =
    let j : ℕ = c.loop-j.j in
    let p : ℕ = c.args.a + j in
    let col : ℕ = c.args.cols + 3 * j in
    let left : ℕ = c.args.n - j in
    let z : left ≡ 0 → ⊥ = λ e. omega (arith, e, c.loop-j-test.true) in
    let h : SFits w32 (get_or c.args.work.now p (pos 0)) = search rules in
    let e : c.args.n - (j + 1) ≡ left - 1 = omega arith in
    let f : c.args.cols + 3 * (j + 1) ≡ col + 3 = omega arith in
    let g : c.args.a + (j + 1) ≡ p + 1 = omega arith in
    rw (e, f, g) (
      row_next c.args.work.now p col left z c.loop-j.invariant.0,
      left_next _ _ c.loop-j.invariant.1 (words_step c.args.work.now p col left z c.loop-j.invariant.0.within c.number_at-v.result _ c.number_at-v.ensures.0 (to_z-of_z h)) c.put_value-q.ensures,
    )

pub returns : goal.returns
returns c =
    let j : ℕ = c.loop-j.j in
    left_end c.loop-j.invariant.1 (ap linears_words (cells_none c.args.work.now (c.args.a + j) (c.args.cols + 3 * j) (c.args.n - j) (omega (arith, c.loop-j-test.false))))
