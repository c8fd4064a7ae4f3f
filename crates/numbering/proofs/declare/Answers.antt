use mathlib.Core.Path.{refl}
use mir.Syntax.{w32}
use mir.Val.{SFits}
use Rattle.laws.specs.Ints.{bits_zero, bits_nonzero}
use Rattle.numbering.specs.Leaf.{bool_old, bool_new}
use borrow.Author.Rules.{rules}
use Rattle.numbering.proofs.declare.Goals as goal

pub returns-then-literal-eq0 : goal.returns-then-literal-eq0
returns-then-literal-eq0 c = let f : SFits w32 c.literal.result = search rules in
    (λ out. bool_new _ out c.args.c (record { bools = c.requires.1.0; ints = c.requires.1.1.0; used = c.requires.1.1.1 }) _ c.literal.result _ _ c.requires.0 c.literal.ensures (bits_zero c.literal.result f c.if-literal-eq0.true) c.store_number.ensures.0 c.advance.ensures, c.store_number.ensures.1)

pub returns : goal.returns
returns c = (λ out. bool_old _ out c.args.c (record { bools = c.requires.1.0; ints = c.requires.1.1.0; used = c.requires.1.1.1 }) _ c.literal.result c.literal.ensures (bits_nonzero c.literal.result c.if-literal-eq0.false), refl)
