-- The first variable, the number of its values, and then all of them; one law for each return.
use mathlib.Core.Path.{ap}
use native.Mathlib.Omega.{arith}
use mir.Syntax.{w32}
use mir.Val.{SFits, of_z}
use Rattle.differing.proofs.Places.{domain_below, sized_at, place_inside}
use Rattle.differing.proofs.Candidates.{count_is}
use Rattle.differing.proofs.Likes.{one_declared, one_sized}
use Rattle.differing.proofs.UsedUp.{used_one, used_few, used_other, used_count, used_unlike, used_like}
use borrow.Author.Rules.{rules}
use Rattle.differing.proofs.used_up.Goals.{then-count-lt2-via-then-count-lt2, then-count-lt2-via-else-count-lt2+then-word-ne21, else-m-count-via-then-m-count+else-all_like, else-m-count-via-else-m-count}
use Rattle.differing.proofs.used_up.Goals as goal

pub returns-then-count-lt2 : goal.returns-then-count-lt2
returns-then-count-lt2 c = elim c.then-count-lt2.branch [
  | then-count-lt2-via-then-count-lt2 w ↦ used_few c.args.set.now c.args.work.now c.args.at c.args.count w.if-count-lt2.true
  | then-count-lt2-via-else-count-lt2+then-word-ne21 w ↦ used_other c.args.set.now c.args.work.now c.args.at c.args.count w.if-count-lt2.false w.word.ensures w.if-word-ne21.true
]

pub overflow_add-at : goal.overflow_add-at
overflow_add-at c = omega (arith, place_inside c.args.work.now c.args.at (used_one c.args.set.now c.args.work.now c.args.at c.args.count c.if-count-lt2.false c.requires).it.stands)

pub domain_of-d-requires : goal.domain_of-d-requires
domain_of-d-requires c = domain_below c.args.set.now _ (one_declared c.args.set.now c.args.work.now c.args.at c.word.ensures c.if-word-ne21.false c.word-v.ensures (used_one c.args.set.now c.args.work.now c.args.at c.args.count c.if-count-lt2.false c.requires))

pub num_candidates-m-requires : goal.num_candidates-m-requires
num_candidates-m-requires c = sized_at c.args.set.now _ _ c.domain_of-d.ensures (one_declared c.args.set.now c.args.work.now c.args.at c.word.ensures c.if-word-ne21.false c.word-v.ensures (used_one c.args.set.now c.args.work.now c.args.at c.args.count c.if-count-lt2.false c.requires))

pub all_like-requires : goal.all_like-requires
all_like-requires c = (c.requires, one_sized c.args.set.now c.args.work.now c.args.at c.word.ensures c.if-word-ne21.false c.word-v.ensures c.domain_of-d.result c.domain_of-d.ensures c.num_candidates-m.ensures c.args.count (count_is (let f : SFits w32 c.num_candidates-m.result = search rules in f) c.requires.it.few c.if-m-count.true) (used_one c.args.set.now c.args.work.now c.args.at c.args.count c.if-count-lt2.false c.requires) c.requires.it.few)

pub returns-then-all_like : goal.returns-then-all_like
returns-then-all_like c = used_like c.args.set.now c.args.work.now c.args.at c.args.count c.if-count-lt2.false c.word.ensures c.if-word-ne21.false c.word-v.ensures c.domain_of-d.result c.domain_of-d.ensures c.num_candidates-m.ensures (count_is (let f : SFits w32 c.num_candidates-m.result = search rules in f) c.requires.it.few c.if-m-count.true) c.all_like.ensures c.if-all_like.true c.requires

pub returns : goal.returns
returns c = elim c.else-m-count.branch [
  | else-m-count-via-then-m-count+else-all_like w ↦ used_unlike c.args.set.now c.args.work.now c.args.at c.args.count c.if-count-lt2.false c.word.ensures c.if-word-ne21.false c.word-v.ensures c.domain_of-d.result c.domain_of-d.ensures c.num_candidates-m.ensures (count_is (let f : SFits w32 c.num_candidates-m.result = search rules in f) c.requires.it.few w.if-m-count.true) w.all_like.ensures w.if-all_like.false
  | else-m-count-via-else-m-count w ↦ used_count c.args.set.now c.args.work.now c.args.at c.args.count c.if-count-lt2.false c.word.ensures c.if-word-ne21.false c.word-v.ensures c.domain_of-d.result c.domain_of-d.ensures c.num_candidates-m.ensures (λ e. w.if-m-count.false (ap (of_z w32) e))
]
