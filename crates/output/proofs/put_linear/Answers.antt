use mathlib.Core.Path.{refl, ◌∙◌}
use native.Mathlib.Omega.{arith}
use mir.Syntax.{w32}
use mir.Val.{SFits}
use Rattle.sums.proofs.Laws.{length_terms}
use Rattle.laws.specs.Writes.{wrote_length}
use Rattle.output.proofs.Laws.{open_next, put_word, put_cast, linear_clause}
use borrow.Author.Rules.{rules}
use Rattle.output.proofs.put_linear.Goals as goal

pub put-a-requires : goal.put-a-requires
put-a-requires c = c.requires.2

pub put-b-requires : goal.put-b-requires
put-b-requires c = open_next c.requires.2 c.put-a.ensures

pub overflow_cast-n : goal.overflow_cast-n
overflow_cast-n c = omega (arith, c.requires.0)

pub put-d-requires : goal.put-d-requires
put-d-requires c = open_next (open_next c.requires.2 c.put-a.ensures) c.put-b.ensures

pub put_terms-requires : goal.put_terms-requires
put_terms-requires c = (c.requires.0, c.requires.1, open_next (open_next (open_next c.requires.2 c.put-a.ensures) c.put-b.ensures) c.put-d.ensures)

pub shape_of-out : goal.shape_of-out
shape_of-out c = wrote_length c.put_terms.ensures ∙ wrote_length c.put-d.ensures ∙ wrote_length c.put-b.ensures ∙ wrote_length c.put-a.ensures

pub returns : goal.returns
returns c =
    let s = c.args.s in
    let f : SFits w32 c.op_word.result = search rules in
    let g : SFits w32 s.constant = search rules in
    linear_clause s c.args.k c.args.g c.requires.2 (length_terms s (search rules) (search rules) c.requires.0) (put_word f c.op_word.ensures c.put-a.ensures) (put_word g refl c.put-b.ensures) (put_cast (omega (arith, c.requires.0)) c.put-d.ensures) c.put_terms.ensures
