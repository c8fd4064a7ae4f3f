use borrow.Author.Rules.{rules}
use mathlib.Core.Path.{ap, ◌∙◌}
use mir.Syntax.{w32}
use mir.Val.{SFits}
use Rattle.laws.specs.Writes.{wrote_length}
use Rattle.walk.specs.Decode.{surveyed}
use Rattle.walk.specs.declared.Surveyed.{Surveyed}
use Rattle.walk.specs.declared.Counters.{Counters}
use Rattle.scan.specs.SurveyLaws.{scanned}
use Rattle.survey.proofs.Literals.{literal_word}
use Rattle.rulewriter.proofs.Written.{var_text}
use Rattle.rulewriter.proofs.write_var.Goals as goal

pub literal-requires : goal.literal-requires
literal-requires c = c.requires.0

pub put_lit-p-requires : goal.put_lit-p-requires
put_lit-p-requires c = (c.requires.2, c.requires.3)

pub met-k-requires : goal.met-k-requires
met-k-requires c = (c.requires.0, c.requires.1.0)

pub shape_of-out : goal.shape_of-out
shape_of-out c = wrote_length c.put_lit-p.ensures

pub returns : goal.returns
returns c =
    let f : SFits w32 c.literal.result = search rules in
    let h : SFits w32 c.signed.result = search rules in
    (c.with_ints-x.ensures ∙ ap (λ (s : Surveyed). scanned s c.met-k.result.ints) c.single.ensures ∙ ap (λ (k : Counters). scanned (surveyed c.args.q c.args.base k.bools 0 1 0 0 1) k.ints) c.met-k.ensures, var_text c.args.work.now _ _ _ _ _ (literal_word _ _ _ f h c.literal.ensures c.signed.ensures) c.put_lit-p.ensures)
