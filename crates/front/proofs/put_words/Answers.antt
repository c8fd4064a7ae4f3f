use mathlib.Core.Path.{◌≡◌, refl, ◌∙◌}
use Prim.Native.Nat.{◌+◌, ◌-◌}
use native.Mathlib.Omega.{arith}
use mir.Syntax.{w32}
use mir.Val.{SFits}
use mir.Facts.{to_z-of_z}
use lib.IntN.{pos}
use lib.ListN.{get_or}
use Rattle.laws.specs.Writes.{wrote_length}
use Rattle.output.proofs.Laws.{open_next, put_word}
use Rattle.front.proofs.Words.{natural_max, naturals_none, naturals_more}
use borrow.Author.Rules.{rules}
use Rattle.front.proofs.put_words.Goals as goal

pub loop-i-init : goal.loop-i-init
loop-i-init c = let e : c.args.from + c.args.n - c.args.from ≡ c.args.n = omega arith in (c.requires.1, refl, rw e (λ c q h. h))

pub put-p-requires : goal.put-p-requires
put-p-requires c = c.loop-i.invariant.0

pub loop-i-preserved : goal.loop-i-preserved
loop-i-preserved c =
    let l = c.loop-i in
    let z = get_or c.args.work.now l.i (pos 0) in
    let f : SFits w32 z = search rules in
    let g : SFits w32 c.max.result = search rules in
    let e = put_word g (rw (to_z-of_z f) at c.max.ensures.value ∙ natural_max z) c.put-p.ensures in
    let k = c.args.from + c.args.n - l.i in
    let r : c.args.from + c.args.n - (l.i + 1) ≡ k - 1 = omega arith in
    (open_next l.invariant.0 e, wrote_length e ∙ l.invariant.1, rw r (λ d q h. l.invariant.2 d q (naturals_more _ l.i k (omega arith) l.invariant.0.room e h)))

pub returns : goal.returns
returns c = c.loop-i.invariant.2 _ _ (naturals_none _ _ _ c.loop-i.i _ (omega arith) c.loop-i.invariant.0.low)
