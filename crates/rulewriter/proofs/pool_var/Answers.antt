use borrow.Author.Rules.{rules}
use mir.Syntax.{w32}
use mir.Val.{SFits}
use Rattle.laws.specs.Writes.{wrote_length}
use Rattle.survey.proofs.Literals.{literal_word}
use Rattle.rulewriter.proofs.PoolLaws.{pool_lit, pool_lit_none}
use Rattle.rulewriter.proofs.pool_var.Goals as goal

pub put-requires : goal.put-requires
put-requires c = c.requires.1

pub shape_of-out-then-b : goal.shape_of-out-then-b
shape_of-out-then-b c = wrote_length c.put.ensures

pub returns-then-b : goal.returns-then-b
returns-then-b c =
    let f : SFits w32 c.literal.result = search rules in
    let h : SFits w32 c.signed.result = search rules in
    pool_lit c.args.work.now _ _ _ _ _ c.if-b.true (literal_word _ _ _ f h c.literal.ensures c.signed.ensures) c.put.ensures

pub returns : goal.returns
returns c = pool_lit_none c.args.work.now _ _ _ c.requires.1 _ c.if-b.false
