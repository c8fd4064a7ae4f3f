-- A range by its lowest value, a list by its word.
use mathlib.Core.Path.{◌≡◌, refl}
use native.Mathlib.Omega.{arith}
use lib.IntN.{pos, ◌+ℤ◌}
use mir.Syntax.{w32}
use mir.Val.{SFits, of_z, to_z}
use mir.Facts.{to_z-of_z}
use borrow.Author.Rules.{rules, sfits_of}
use Rattle.survey.proofs.Leaves.{pos_is}
use Rattle.domains.proofs.Laws.{kind_plain}
use Rattle.differing.proofs.Candidates.{sized_at, range_fits, range_value, list_inside, list_value}
use Rattle.differing.proofs.value_at.Lts
use Rattle.differing.proofs.value_at.Tie
use Rattle.differing.proofs.value_at.Reads
use Rattle.differing.proofs.value_at.Goals as goal

abbrev After-lower_bound : Type 0
After-lower_bound = Lts.After-lower_bound Tie.the-claims Reads.Pre Reads.Post

low_fits : (c : After-lower_bound) → SFits w32 c.lower_bound-low.result
low_fits c = search rules

place_is : (c : After-lower_bound) → to_z w32 c.args.k ≡ pos c.args.k
place_is c = pos_is c.args.k (omega (arith, c.requires.below, c.requires.some.few))

pub number-requires : goal.number-requires
number-requires c = kind_plain c.args.set.now c.args.d (sized_at c.requires.some)

pub lower_bound-low-requires : goal.lower_bound-low-requires
lower_bound-low-requires c = sized_at c.requires.some

pub overflow_add-x : goal.overflow_add-x
overflow_add-x c = rw (to_z-of_z (low_fits c), place_is c) (range_fits c.args.set.now c.args.d c.args.k c.number.ensures.0 c.if-number-eq0.true c.lower_bound-low.ensures c.requires)

pub returns-then-number-eq0 : goal.returns-then-number-eq0
returns-then-number-eq0 c =
    let e : to_z w32 (of_z w32 c.lower_bound-low.result) +ℤ to_z w32 c.args.k ≡ c.lower_bound-low.result +ℤ pos c.args.k = rw (to_z-of_z (low_fits c), place_is c) refl in
    rw (to_z-of_z (overflow_add-x c), e) (range_value c.args.set.now c.args.d c.args.k c.number.ensures.0 c.if-number-eq0.true c.lower_bound-low.ensures c.requires)

pub overflow_add-result : goal.overflow_add-result
overflow_add-result c = omega (arith, list_inside c.args.set.now c.args.d c.args.k c.number.ensures.0 c.if-number-eq0.false c.requires)

pub overflow_add-result-2 : goal.overflow_add-result-2
overflow_add-result-2 c = omega (arith, list_inside c.args.set.now c.args.d c.args.k c.number.ensures.0 c.if-number-eq0.false c.requires)

pub offset_bounds-set-d : goal.offset_bounds-set-d
offset_bounds-set-d c = omega (arith, list_inside c.args.set.now c.args.d c.args.k c.number.ensures.0 c.if-number-eq0.false c.requires)

pub bounds-set-d : goal.bounds-set-d
bounds-set-d c = omega (arith, list_inside c.args.set.now c.args.d c.args.k c.number.ensures.0 c.if-number-eq0.false c.requires)

pub returns : goal.returns
returns c = rw (to_z-of_z {w = w32} (sfits_of c.result-1.given)) (list_value c.args.set.now c.args.d c.args.k c.number.ensures.0 c.if-number-eq0.false c.requires)
