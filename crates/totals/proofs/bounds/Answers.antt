-- The loop's invariant is `Adding`.
use borrow.Author.Rules.{rules}
use mathlib.Core.Path.{◌≡◌, refl, ◌∙◌}
use lib.IntN.{pos}
use lib.ListN.{get_or}
use mir.Syntax.{w32}
use mir.Val.{SFits, to_z, of_z}
use mir.Facts.{to_z-of_z}
use Rattle.laws.specs.Ints.{times_low}
use Rattle.sums.proofs.Laws.{is_param, drop_term}
use Rattle.scan.specs.Skip.{split_by}
use Rattle.totals.proofs.Adding.{adding_start, adding_end, low_asks, low_fits, high_fits, adding_next}
use Rattle.totals.proofs.bounds.Goals as goal

pub find-requires : goal.find-requires
find-requires c = let p = c.requires in (p.0, (p.1.0, (p.1.1.0, (p.1.1.1.0, record { domains = p.1.1.1.1.domains; branches = p.1.1.1.1.branches }))))

pub loop-i-init : goal.loop-i-init
loop-i-init c = let f : SFits w32 c.args.s.constant = search rules in
    rw (to_z-of_z f) (adding_start c.args.work.now c.args.left (split_by c.args.m) c.args.at c.args.base c.args.n c.args.s c.requires.1.1.1.1)

pub times_low-low-requires : goal.times_low-low-requires
times_low-low-requires c =
    let s = c.args.s in
    let i = c.loop-i.i in
    let k = get_or s.coefs i (pos 0) in
    let d = c.unwrap_or-d.result in
    let f : SFits w32 k = search rules in
    let a : SFits w32 d.low = search rules in
    let b : SFits w32 d.high = search rules in
    let h = drop_term s (search rules) (search rules) c.requires.1.1.1.1.room i c.loop-i-test.true in
    rw (to_z-of_z f, to_z-of_z a, to_z-of_z b) (low_asks c.args.work.now c.args.left (split_by c.args.m) c.args.at c.args.base c.args.n c.args.s _ _ _ c.loop-i.invariant _ _ h c.find.result d c.unwrap_or-d.ensures c.find.ensures)

pub overflow_add-low : goal.overflow_add-low
overflow_add-low c =
    let s = c.args.s in
    let i = c.loop-i.i in
    let k = get_or s.coefs i (pos 0) in
    let d = c.unwrap_or-d.result in
    let f : SFits w32 k = search rules in
    let a : SFits w32 d.low = search rules in
    let b : SFits w32 d.high = search rules in
    let h = drop_term s (search rules) (search rules) c.requires.1.1.1.1.room i c.loop-i-test.true in
    let lf : SFits w32 c.times_low-low.result = search rules in
    let lo : to_z w32 (of_z w32 c.times_low-low.result) ≡ times_low k d.low d.high = to_z-of_z lf ∙ c.times_low-low.ensures ∙ rw (to_z-of_z f, to_z-of_z a, to_z-of_z b) refl in
    rw lo (low_fits c.args.work.now c.args.left (split_by c.args.m) c.args.at c.args.base c.args.n c.args.s _ _ _ c.loop-i.invariant _ _ h c.find.result d c.unwrap_or-d.ensures c.find.ensures)

pub times_low-high-requires : goal.times_low-high-requires
times_low-high-requires c =
    let s = c.args.s in
    let i = c.loop-i.i in
    let k = get_or s.coefs i (pos 0) in
    let d = c.unwrap_or-d.result in
    let f : SFits w32 k = search rules in
    let a : SFits w32 d.low = search rules in
    let b : SFits w32 d.high = search rules in
    let h = drop_term s (search rules) (search rules) c.requires.1.1.1.1.room i c.loop-i-test.true in
    let q = low_asks c.args.work.now c.args.left (split_by c.args.m) c.args.at c.args.base c.args.n c.args.s _ _ _ c.loop-i.invariant _ _ h c.find.result d c.unwrap_or-d.ensures c.find.ensures in
    rw (to_z-of_z f, to_z-of_z a, to_z-of_z b) (q.1, q.0)

pub overflow_add-high : goal.overflow_add-high
overflow_add-high c =
    let s = c.args.s in
    let i = c.loop-i.i in
    let k = get_or s.coefs i (pos 0) in
    let d = c.unwrap_or-d.result in
    let f : SFits w32 k = search rules in
    let a : SFits w32 d.low = search rules in
    let b : SFits w32 d.high = search rules in
    let h = drop_term s (search rules) (search rules) c.requires.1.1.1.1.room i c.loop-i-test.true in
    let hf : SFits w32 c.times_low-high.result = search rules in
    let hi : to_z w32 (of_z w32 c.times_low-high.result) ≡ times_low k d.high d.low = to_z-of_z hf ∙ c.times_low-high.ensures ∙ rw (to_z-of_z f, to_z-of_z a, to_z-of_z b) refl in
    rw hi (high_fits c.args.work.now c.args.left (split_by c.args.m) c.args.at c.args.base c.args.n c.args.s _ _ _ c.loop-i.invariant _ _ h c.find.result d c.unwrap_or-d.ensures c.find.ensures)

pub loop-i-preserved : goal.loop-i-preserved
loop-i-preserved c =
    let s = c.args.s in
    let i = c.loop-i.i in
    let k = get_or s.coefs i (pos 0) in
    let d = c.unwrap_or-d.result in
    let f : SFits w32 k = search rules in
    let a : SFits w32 d.low = search rules in
    let b : SFits w32 d.high = search rules in
    let h = drop_term s (search rules) (search rules) c.requires.1.1.1.1.room i c.loop-i-test.true in
    let lf : SFits w32 c.times_low-low.result = search rules in
    let lo : to_z w32 (of_z w32 c.times_low-low.result) ≡ times_low k d.low d.high = to_z-of_z lf ∙ c.times_low-low.ensures ∙ rw (to_z-of_z f, to_z-of_z a, to_z-of_z b) refl in
    let hf : SFits w32 c.times_low-high.result = search rules in
    let hi : to_z w32 (of_z w32 c.times_low-high.result) ≡ times_low k d.high d.low = to_z-of_z hf ∙ c.times_low-high.ensures ∙ rw (to_z-of_z f, to_z-of_z a, to_z-of_z b) refl in
    let l = low_fits c.args.work.now c.args.left (split_by c.args.m) c.args.at c.args.base c.args.n c.args.s _ _ _ c.loop-i.invariant _ _ h c.find.result d c.unwrap_or-d.ensures c.find.ensures in
    let g = high_fits c.args.work.now c.args.left (split_by c.args.m) c.args.at c.args.base c.args.n c.args.s _ _ _ c.loop-i.invariant _ _ h c.find.result d c.unwrap_or-d.ensures c.find.ensures in
    rw (lo, hi, to_z-of_z l, to_z-of_z g) (adding_next c.args.work.now c.args.left (split_by c.args.m) c.args.at c.args.base c.args.n c.args.s _ _ _ c.loop-i.invariant _ _ h c.find.result d c.unwrap_or-d.ensures c.find.ensures c.loop-i-test.true)

pub returns : goal.returns
returns c = adding_end c.args.work.now c.args.left (split_by c.args.m) c.args.at c.args.base c.args.n c.args.s _ _ _ c.loop-i.invariant c.loop-i-test.false (is_param c.args.s (search rules) (search rules) c.requires.1.1.1.1.room)
