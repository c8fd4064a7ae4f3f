use mathlib.Core.Path.{refl, ◌∙◌}
use native.Mathlib.Omega.{arith}
use mir.Syntax.{w32}
use mir.Val.{SFits}
use Rattle.laws.specs.Writes.{wrote_length}
use Rattle.output.proofs.Laws.{open_next, put_word, two_clause}
use borrow.Author.Rules.{rules}
use Rattle.output.proofs.put_two.Goals as goal

pub overflow_sub-k : goal.overflow_sub-k
overflow_sub-k c = omega (arith, c.requires.2.inside)

pub put-a-requires : goal.put-a-requires
put-a-requires c = c.requires.3

pub put-b-requires : goal.put-b-requires
put-b-requires c = open_next c.requires.3 c.put-a.ensures

pub put-c-requires : goal.put-c-requires
put-c-requires c = open_next (open_next c.requires.3 c.put-a.ensures) c.put-b.ensures

pub put_suffix-d-requires : goal.put_suffix-d-requires
put_suffix-d-requires c = (c.requires.2, open_next (open_next (open_next c.requires.3 c.put-a.ensures) c.put-b.ensures) c.put-c.ensures)

pub put-requires : goal.put-requires
put-requires c = open_next (open_next (open_next (open_next c.requires.3 c.put-a.ensures) c.put-b.ensures) c.put-c.ensures) c.put_suffix-d.ensures

pub shape_of-out : goal.shape_of-out
shape_of-out c = wrote_length c.put.ensures ∙ wrote_length c.put_suffix-d.ensures ∙ wrote_length c.put-c.ensures ∙ wrote_length c.put-b.ensures ∙ wrote_length c.put-a.ensures

pub returns : goal.returns
returns c =
    let f : SFits w32 c.word_of.result = search rules in
    let g : SFits w32 c.word_of-2.result = search rules in
    let h : SFits w32 c.word_of-3.result = search rules in
    two_clause _ _ _ _ c.requires.3 c.requires.2 refl (put_word f c.word_of.ensures c.put-a.ensures) (put_word g c.word_of-2.ensures c.put-b.ensures) (put_word h c.word_of-3.ensures c.put-c.ensures) c.put_suffix-d.ensures c.put.ensures
