use mathlib.Core.Path.{sym, ◌∙◌, ap}
use mathlib.Core.Bool.{true, false}
use mir.Syntax.{w32}
use mir.Val.{SFits}
use Rattle.laws.specs.Ints.{is_zero, bits_zero, bits_nonzero}
use Rattle.survey.proofs.Literals.{literal_word}
use Rattle.merging.proofs.Laws.{ties_none, ties_as, ties_give, tie_same, tie_by}
use borrow.Author.Rules.{rules}
use Rattle.merging.proofs.merge_tie.Goals as goal

pub returns-then-x-y : goal.returns-then-x-y
returns-then-x-y c = ties_none _ _ c.requires.1.1 (tie_same _ _ _ _ _ c.if-x-y.true)

pub literal-a-requires : goal.literal-a-requires
literal-a-requires c = c.requires.0

pub literal-b-requires : goal.literal-b-requires
literal-b-requires c = c.requires.1.0

pub merge_new-requires : goal.merge_new-requires
merge_new-requires c = c.requires

pub shape_of-work-then-b-eq0 : goal.shape_of-work-then-b-eq0
shape_of-work-then-b-eq0 c = c.merge_new.ensures.aside.size

pub returns-then-b-eq0 : goal.returns-then-b-eq0
returns-then-b-eq0 c =
    let f : SFits w32 c.literal-a.result = search rules in
    let h : SFits w32 c.literal-b.result = search rules in
    let a = sym (ap is_zero c.literal-a.ensures) ∙ bits_zero c.literal-a.result f c.if-a-eq0.true in
    let b = sym (ap is_zero c.literal-b.ensures) ∙ bits_zero c.literal-b.result h c.if-b-eq0.true in
    ties_as (tie_by c.args.work.now c.args.n c.args.x c.args.y c.args.g true true c.if-x-y.false a b) c.merge_new.ensures

pub give-requires : goal.give-requires
give-requires c = c.requires.0

pub shape_of-work-then-a-eq0 : goal.shape_of-work-then-a-eq0
shape_of-work-then-a-eq0 c = c.give.ensures.1

pub returns-then-a-eq0 : goal.returns-then-a-eq0
returns-then-a-eq0 c =
    let f : SFits w32 c.literal-a.result = search rules in
    let h : SFits w32 c.literal-b.result = search rules in
    let i : SFits w32 c.signed.result = search rules in
    let a = sym (ap is_zero c.literal-a.ensures) ∙ bits_zero c.literal-a.result f c.if-a-eq0.true in
    let b = sym (ap is_zero c.literal-b.ensures) ∙ bits_nonzero c.literal-b.result c.if-b-eq0.false in
    ties_give c.args.work.now _ _ c.args.x _ _ c.requires.0 c.requires.1.1 (literal_word _ _ _ h i c.literal-b.ensures c.signed.ensures) c.give.ensures.0 (tie_by c.args.work.now c.args.n c.args.x c.args.y c.args.g true false c.if-x-y.false a b)

pub returns-then-b-ne0 : goal.returns-then-b-ne0
returns-then-b-ne0 c =
    let a = sym (ap is_zero c.literal-a.ensures) ∙ bits_nonzero c.literal-a.result c.if-a-eq0.false in
    let b = sym (ap is_zero c.literal-b.ensures) ∙ bits_nonzero c.literal-b.result c.if-b-ne0.true in
    ties_none _ _ c.requires.1.1 (tie_by c.args.work.now c.args.n c.args.x c.args.y c.args.g false false c.if-x-y.false a b)

pub give-requires-2 : goal.give-requires-2
give-requires-2 c = c.requires.1.0

pub shape_of-work : goal.shape_of-work
shape_of-work c = c.give-2.ensures.1

pub returns : goal.returns
returns c =
    let f : SFits w32 c.literal-a.result = search rules in
    let h : SFits w32 c.literal-b.result = search rules in
    let i : SFits w32 c.signed-2.result = search rules in
    let a = sym (ap is_zero c.literal-a.ensures) ∙ bits_nonzero c.literal-a.result c.if-a-eq0.false in
    let b = sym (ap is_zero c.literal-b.ensures) ∙ bits_zero c.literal-b.result h c.if-b-ne0.false in
    ties_give c.args.work.now _ _ c.args.y _ _ c.requires.1.0 c.requires.1.1 (literal_word _ _ _ f i c.literal-a.ensures c.signed-2.ensures) c.give-2.ensures.0 (tie_by c.args.work.now c.args.n c.args.x c.args.y c.args.g false true c.if-x-y.false a b)
