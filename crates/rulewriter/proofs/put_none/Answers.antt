use mathlib.Core.Path.{refl, ◌∙◌}
use native.Mathlib.Omega.{arith}
use mir.Syntax.{w32}
use mir.Val.{SFits}
use Rattle.laws.specs.Writes.{wrote_length}
use Rattle.output.proofs.Laws.{open_next, put_word, none_clause}
use borrow.Author.Rules.{rules}
use Rattle.rulewriter.proofs.put_none.Goals as goal

pub overflow_sub-n : goal.overflow_sub-n
overflow_sub-n c = omega (arith, c.requires.0.inside)

pub put-a-requires : goal.put-a-requires
put-a-requires c = c.requires.1

pub put_suffix-b-requires : goal.put_suffix-b-requires
put_suffix-b-requires c = (c.requires.0, open_next c.requires.1 c.put-a.ensures)

pub put-requires : goal.put-requires
put-requires c = open_next (open_next c.requires.1 c.put-a.ensures) c.put_suffix-b.ensures

pub shape_of-out : goal.shape_of-out
shape_of-out c = wrote_length c.put.ensures ∙ wrote_length c.put_suffix-b.ensures ∙ wrote_length c.put-a.ensures

pub returns : goal.returns
returns c =
    let f : SFits w32 c.word_of.result = search rules in
    none_clause _ _ c.requires.1 c.requires.0 refl (put_word f c.word_of.ensures c.put-a.ensures) c.put_suffix-b.ensures c.put.ensures
