use native.Mathlib.Omega.{arith}
use Rattle.merging.proofs.Laws.{ties_none, ties_as, other_stmt, xor_rule, iff_rule, other_rule}
use Rattle.merging.proofs.merge_statement.Goals as goal

pub returns-then-word-ne1 : goal.returns-then-word-ne1
returns-then-word-ne1 c = ties_none _ _ c.requires.1 (other_stmt _ _ _ _ _ c.word.ensures c.if-word-ne1.true)

pub merge_sides-requires : goal.merge_sides-requires
merge_sides-requires c = (omega (arith, c.requires.0), c.requires.1)

pub shape_of-work-in-15 : goal.shape_of-work-in-15
shape_of-work-in-15 c = c.merge_sides.ensures.aside.size

pub returns-in-15 : goal.returns-in-15
returns-in-15 c = ties_as (xor_rule _ _ _ _ _ _ c.word.ensures c.if-word-ne1.false c.word-2.ensures c.in-15.is) c.merge_sides.ensures

pub merge_sides-requires-in-16 : goal.merge_sides-requires-in-16
merge_sides-requires-in-16 c = (omega (arith, c.requires.0), c.requires.1)

pub shape_of-work-in-16 : goal.shape_of-work-in-16
shape_of-work-in-16 c = c.merge_sides-in-16.ensures.aside.size

pub returns-in-16 : goal.returns-in-16
returns-in-16 c = ties_as (iff_rule _ _ _ _ _ _ c.word.ensures c.if-word-ne1.false c.word-2.ensures (λ e. omega (arith, e, c.in-16.is)) c.in-16.is) c.merge_sides-in-16.ensures

pub returns-in_default : goal.returns-in_default
returns-in_default c = ties_none _ _ c.requires.1 (other_rule _ _ _ _ _ _ c.word.ensures c.if-word-ne1.false c.word-2.ensures (omega arith) (omega arith))
