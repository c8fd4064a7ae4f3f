use borrow.Author.Rules.{rules}
use mathlib.Core.Path.{refl, ◌∙◌}
use mathlib.Core.List.{[]}
use native.Mathlib.Omega.{arith}
use mir.Syntax.{w32}
use mir.Val.{SFits}
use Rattle.laws.specs.Writes.{wrote_length}
use Rattle.output.proofs.Laws.{open_next, put_word, cmp_clause}
use Rattle.rulewriter.proofs.Making.{less_asked, less_words, equal_text}
use Rattle.rulewriter.proofs.put_equal.Lts
use Rattle.rulewriter.proofs.put_equal.Tie
use Rattle.rulewriter.proofs.put_equal.Reads
use Rattle.rulewriter.proofs.put_equal.Goals as goal

abbrev After-word_of : Type 0
After-word_of = Lts.After-word_of Tie.the-claims Reads.Pre Reads.Post

word_fits : (c : After-word_of) → SFits w32 c.word_of.result
word_fits c = search rules

pub linear_of-x-requires : goal.linear_of-x-requires
linear_of-x-requires c = let p = c.requires.0 in let b = c.requires.2 in (p.size, (p.inside, (p.low_base, (p.low, record { domains = b.domains; steps = (b.fits c.args.work.now c.args.n c.args.v).steps }))))

pub overflow_cast-v : goal.overflow_cast-v
overflow_cast-v c = omega (arith, c.requires.4)

pub less_variable-d-requires : goal.less_variable-d-requires
less_variable-d-requires c = let b = c.requires.2 in less_asked b.domains c.args.work.now _ c.args.n c.args.v _ (c.linear_of-x.ensures.sum b.domains) (b.fits c.args.work.now c.args.n c.args.v)

pub overflow_sub-j : goal.overflow_sub-j
overflow_sub-j c = omega (arith, c.requires.3.inside)

pub put-a-requires : goal.put-a-requires
put-a-requires c = c.requires.1

pub put_suffix-b-requires : goal.put_suffix-b-requires
put_suffix-b-requires c = (c.requires.3, open_next c.requires.1 c.put-a.ensures)

pub put-c-requires : goal.put-c-requires
put-c-requires c = open_next (open_next c.requires.1 c.put-a.ensures) c.put_suffix-b.ensures

pub put_linear-p-requires : goal.put_linear-p-requires
put_linear-p-requires c = (c.less_variable-d.ensures.room, less_words _ _ c.args.v c.linear_of-x.ensures.words c.requires.4 c.less_variable-d.ensures, open_next (open_next (open_next c.requires.1 c.put-a.ensures) c.put_suffix-b.ensures) c.put-c.ensures)

pub shape_of-out : goal.shape_of-out
shape_of-out c = wrote_length c.put_linear-p.ensures ∙ wrote_length c.put-c.ensures ∙ wrote_length c.put_suffix-b.ensures ∙ wrote_length c.put-a.ensures

pub returns : goal.returns
returns c = (c.linear_of-x.ensures.behind, equal_text _ c.args.v c.args.work.now _ _ _ _ (c.linear_of-x.ensures.sum []) c.less_variable-d.ensures (cmp_clause _ _ _ c.requires.1 c.requires.3 refl (put_word (word_fits c.before.before.before.before.before.before.before.before.before.before.before.before) c.word_of.ensures c.put-a.ensures) c.put_suffix-b.ensures c.put-c.ensures c.put_linear-p.ensures))
