use Prim.Native.Nat.{◌+◌, ◌-◌}
use native.Mathlib.Omega.{arith}
use mathlib.Core.Path.{◌≡◌}
use lib.IntN.{pos}
use lib.ListN.{get_or}
use Rattle.evaluate.specs.Contract.{ListedPost}
use Rattle.evaluate.proofs.ValueLaws.{listed, words_rest, differ_none, differ_stop, differ_more}
use Rattle.evaluate.proofs.differ.Goals as goal

pub loop-i-init : goal.loop-i-init
loop-i-init c = let e : c.args.n - 0 ≡ c.args.n = omega arith in rw e (c.requires, λ r p. p)

pub returns-then-contains : goal.returns-then-contains
returns-then-contains c =
    let m : c.args.n - (c.loop-i.i + 1) ≡ c.args.n - c.loop-i.i - 1 = omega arith in
    let p : ListedPost c.args.work.now (c.loop-i.i + 1) (c.args.n - c.loop-i.i - 1) (get_or c.args.work.now c.loop-i.i (pos 0)) c.contains.result = listed c.args.work.now _ _ _ _ _ m c.contains.ensures.value in
    c.loop-i.invariant.1 _ (differ_stop c.args.work.now c.loop-i.i (c.args.n - c.loop-i.i) (omega arith) _ p c.if-contains.true)

pub loop-i-preserved : goal.loop-i-preserved
loop-i-preserved c =
    let m : c.args.n - (c.loop-i.i + 1) ≡ c.args.n - c.loop-i.i - 1 = omega arith in
    let p : ListedPost c.args.work.now (c.loop-i.i + 1) (c.args.n - c.loop-i.i - 1) (get_or c.args.work.now c.loop-i.i (pos 0)) c.contains.result = listed c.args.work.now _ _ _ _ _ m c.contains.ensures.value in
    rw m (words_rest c.args.work.now c.loop-i.i (c.args.n - c.loop-i.i) (omega arith) c.loop-i.invariant.0, λ r x. c.loop-i.invariant.1 r (differ_more c.args.work.now c.loop-i.i (c.args.n - c.loop-i.i) (omega arith) _ p c.if-contains.false r x))

pub returns : goal.returns
returns c = c.loop-i.invariant.1 _ (differ_none c.args.work.now c.loop-i.i (c.args.n - c.loop-i.i) (omega arith))
