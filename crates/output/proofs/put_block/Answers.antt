use mathlib.Core.Path.{◌≡◌, refl, ◌∙◌}
use Prim.Native.Nat.{◌+◌, ◌-◌}
use native.Mathlib.Omega.{arith}
use mir.Syntax.{w32}
use mir.Val.{SFits}
use Rattle.laws.specs.Writes.{wrote_length}
use Rattle.output.proofs.Laws.{open_next, put_word, block_none, block_more}
use borrow.Author.Rules.{rules}
use Rattle.output.proofs.put_block.Goals as goal

pub loop-n-init : goal.loop-n-init
loop-n-init c = let e : c.args.b + c.args.k - c.args.b ≡ c.args.k = omega arith in (c.requires.1, refl, rw e (λ c q h. h))

pub put-p-requires : goal.put-p-requires
put-p-requires c = c.loop-n.invariant.0

pub loop-n-preserved : goal.loop-n-preserved
loop-n-preserved c =
    let l = c.loop-n in
    let f : SFits w32 c.word_of.result = search rules in
    let e = put_word f c.word_of.ensures c.put-p.ensures in
    let k = c.args.b + c.args.k - l.n in
    let r : c.args.b + c.args.k - (l.n + 1) ≡ k - 1 = omega arith in
    (open_next l.invariant.0 e, wrote_length e ∙ l.invariant.1, rw r (λ d q h. l.invariant.2 d q (block_more l.n k (omega arith) l.invariant.0.room e h)))

pub returns : goal.returns
returns c = c.loop-n.invariant.2 _ _ (block_none _ _ c.loop-n.n _ (omega arith) c.loop-n.invariant.0.low)
