use native.Mathlib.Omega.{arith}
use borrow.Author.Rules.{rules}
use Rattle.join.proofs.AgreeLaws.{compare_inside, compare_room, compare_apart, compare_differ, compare_long, compare_ok}
use Rattle.join.proofs.WordLaws.{equal_words, other_words}
use Rattle.join.proofs.compare.Goals as goal
use Rattle.join.proofs.compare.Goals.{then-at-e-via-then-at-e, then-at-e-via-else-at-e+then-ne}

pub slice_bounds-ne-count : goal.slice_bounds-ne-count
slice_bounds-ne-count c = let q = compare_inside _ _ _ _ c.requires c.if-at-e.false in omega (arith, q.0)

pub slice_bounds-ne-length : goal.slice_bounds-ne-length
slice_bounds-ne-length c = let q = compare_inside _ _ _ _ c.requires c.if-at-e.false in let p = q.1 in search rules

pub slice_bounds-ne-count-else-at-e : goal.slice_bounds-ne-count-else-at-e
slice_bounds-ne-count-else-at-e c = let q = compare_inside _ _ _ _ c.requires c.if-at-e.false in omega (arith, q.0)

pub slice_bounds-ne-length-else-at-e : goal.slice_bounds-ne-length-else-at-e
slice_bounds-ne-length-else-at-e c = let q = compare_inside _ _ _ _ c.requires c.if-at-e.false in let p = q.2 in search rules

pub returns-then-at-e : goal.returns-then-at-e
returns-then-at-e c = elim c.then-at-e.branch [
  | then-at-e-via-then-at-e w ↦ compare_apart _ _ _ _ w.if-at-e.true
  | then-at-e-via-else-at-e+then-ne w ↦ compare_differ _ _ _ _ w.if-at-e.false (other_words _ _ w.if-ne.ensures)
]

pub overflow_sub-words : goal.overflow_sub-words
overflow_sub-words c = let q = compare_room _ _ _ _ c.requires in omega (arith, q)

pub returns-then-words-gt-MAX_SET_WORDS : goal.returns-then-words-gt-MAX_SET_WORDS
returns-then-words-gt-MAX_SET_WORDS c = compare_long _ _ _ _ c.if-at-e.false (equal_words _ _ c.if-ne.ensures) (omega arith)

pub returns : goal.returns
returns c = compare_ok _ _ _ _ c.if-at-e.false (equal_words _ _ c.if-ne.ensures) (omega arith)
