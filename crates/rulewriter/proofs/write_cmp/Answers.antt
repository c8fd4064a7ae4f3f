use borrow.Author.Rules.{rules}
use mathlib.Core.Path.{refl, ap, ◌∙◌}
use native.Mathlib.Omega.{arith}
use mir.Syntax.{w32}
use mir.Val.{SFits}
use Rattle.laws.specs.Writes.{wrote_length}
use Rattle.walk.specs.declared.Surveyed.{Surveyed}
use Rattle.scan.specs.SurveyLaws.{scanned}
use Rattle.output.proofs.Laws.{open_next, put_word, cmp_clause}
use Rattle.rulewriter.proofs.write_cmp.Lts
use Rattle.rulewriter.proofs.write_cmp.Tie
use Rattle.rulewriter.proofs.write_cmp.Reads
use Rattle.rulewriter.proofs.write_cmp.Goals as goal

abbrev After-word_of : Type 0
After-word_of = Lts.After-word_of Tie.the-claims Reads.Pre Reads.Post

word_fits : (c : After-word_of) → SFits w32 c.word_of.result
word_fits c = search rules

pub overflow_sub-j : goal.overflow_sub-j
overflow_sub-j c = omega (arith, c.requires.3.inside)

pub put-a-requires : goal.put-a-requires
put-a-requires c = c.requires.1

pub put_suffix-b-requires : goal.put_suffix-b-requires
put_suffix-b-requires c = (c.requires.3, open_next c.requires.1 c.put-a.ensures)

pub put-c-requires : goal.put-c-requires
put-c-requires c = open_next (open_next c.requires.1 c.put-a.ensures) c.put_suffix-b.ensures

pub put_sides-x-requires : goal.put_sides-x-requires
put_sides-x-requires c = (c.requires.0, open_next (open_next (open_next c.requires.1 c.put-a.ensures) c.put_suffix-b.ensures) c.put-c.ensures, c.requires.2)

pub shape_of-out : goal.shape_of-out
shape_of-out c = wrote_length c.put_sides-x.ensures.1 ∙ wrote_length c.put-c.ensures ∙ wrote_length c.put_suffix-b.ensures ∙ wrote_length c.put-a.ensures

pub returns : goal.returns
returns c =
    (record { behind = c.put_sides-x.result.behind; sides = c.put_sides-x.ensures.0; is = c.with_ints-z.ensures ∙ ap (λ (s : Surveyed). scanned s c.put_sides-x.result.behind.n.ints) c.single.ensures }, cmp_clause _ _ _ c.requires.1 c.requires.3 refl (put_word (word_fits c.before.before.before.before.before.before.before.before.before.before.before.before.before.before.before) c.word_of.ensures c.put-a.ensures) c.put_suffix-b.ensures c.put-c.ensures c.put_sides-x.ensures.1)
