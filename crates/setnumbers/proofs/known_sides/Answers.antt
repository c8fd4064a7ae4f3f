use mathlib.Core.Bool.{false≢true}
use Rattle.laws.specs.Ints.{bits_nonzero}
use Rattle.setnumbers.proofs.Known.{sides_known}
use Rattle.setnumbers.proofs.known_sides.Goals as goal

pub returns-then-literal-ne0 : goal.returns-then-literal-ne0
returns-then-literal-ne0 c = λ t. sides_known _ c.requires.0 _ _ _ _ _ _ _ _ _ _ c.word.ensures c.if-word-ne11.false c.within-q.ensures c.word-else-word-ne11.ensures c.if-word-ne11-2.false c.word-2.ensures c.below-x.ensures c.literal.ensures (bits_nonzero c.literal.result c.if-literal-ne0.true) c.word-3.ensures c.below-y.ensures c.literal-then-literal-ne0.ensures (bits_nonzero c.literal-then-literal-ne0.result (λ e. false≢true (rw e at t)))
