use Rattle.merging.proofs.Laws.{ties_none, ties_as, sides_first, sides_second, sides_left, sides_right, sides_both}
use Rattle.merging.proofs.merge_sides.Goals as goal
use Rattle.merging.proofs.merge_sides.Goals.{then-word-ne11-via-then-word-ne11, then-word-ne11-via-else-word-ne11+then-word-ne11-2}

pub returns-then-word-ne11 : goal.returns-then-word-ne11
returns-then-word-ne11 c =
    elim c.then-word-ne11.branch [
      | then-word-ne11-via-then-word-ne11 w ↦ ties_none _ _ c.requires.1 (sides_first _ _ _ _ _ _ c.word.ensures w.if-word-ne11.true)
      | then-word-ne11-via-else-word-ne11+then-word-ne11-2 w ↦ ties_none _ _ c.requires.1 (sides_second _ _ _ _ _ _ _ c.word.ensures w.if-word-ne11.false w.word-else-word-ne11.ensures w.if-word-ne11-2.true)
    ]

pub returns-then-x-ge-MAX_BOOLS : goal.returns-then-x-ge-MAX_BOOLS
returns-then-x-ge-MAX_BOOLS c = ties_none _ _ c.requires.1 (sides_left _ _ _ _ _ _ _ _ c.word.ensures c.if-word-ne11.false c.word-else-word-ne11.ensures c.if-word-ne11-2.false c.word-x.ensures c.if-x-ge-MAX_BOOLS.true)

pub returns-then-y-ge-MAX_BOOLS : goal.returns-then-y-ge-MAX_BOOLS
returns-then-y-ge-MAX_BOOLS c = ties_none _ _ c.requires.1 (sides_right _ _ _ _ _ _ _ _ _ c.word.ensures c.if-word-ne11.false c.word-else-word-ne11.ensures c.if-word-ne11-2.false c.word-x.ensures c.if-x-ge-MAX_BOOLS.false c.word-y.ensures c.if-y-ge-MAX_BOOLS.true)

pub merge_tie-requires : goal.merge_tie-requires
merge_tie-requires c = (c.if-x-ge-MAX_BOOLS.false, (c.if-y-ge-MAX_BOOLS.false, c.requires.1))

pub shape_of-work : goal.shape_of-work
shape_of-work c = c.merge_tie.ensures.aside.size

pub returns : goal.returns
returns c = ties_as (sides_both _ _ _ _ _ _ _ _ _ c.word.ensures c.if-word-ne11.false c.word-else-word-ne11.ensures c.if-word-ne11-2.false c.word-x.ensures c.if-x-ge-MAX_BOOLS.false c.word-y.ensures c.if-y-ge-MAX_BOOLS.false) c.merge_tie.ensures
