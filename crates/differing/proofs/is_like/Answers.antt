-- A variable, the number of its values, and then the values.
use mathlib.Core.Path.{ap, ◌∙◌}
use borrow.Author.Tests.{ne_eqb}
use native.Mathlib.Omega.{arith}
use mir.Syntax.{w32}
use mir.Val.{SFits, of_z}
use Rattle.differing.proofs.Places.{domain_below, sized_at, place_inside}
use Rattle.differing.proofs.Candidates.{count_is}
use Rattle.differing.proofs.Likes.{one_declared, one_sized, like_same, like_not, other_not}
use borrow.Author.Rules.{rules}
use Rattle.differing.proofs.is_like.Goals as goal

pub overflow_add-p : goal.overflow_add-p
overflow_add-p c = omega (arith, place_inside c.args.work.now c.args.p c.requires.0.it.stands)

pub domain_of-d-requires : goal.domain_of-d-requires
domain_of-d-requires c = domain_below c.args.set.now _ (one_declared c.args.set.now c.args.work.now c.args.p c.word.ensures c.if-word-ne21.false c.word-v.ensures c.requires.0)

pub num_candidates-m-requires : goal.num_candidates-m-requires
num_candidates-m-requires c = sized_at c.args.set.now _ _ c.domain_of-d.ensures (one_declared c.args.set.now c.args.work.now c.args.p c.word.ensures c.if-word-ne21.false c.word-v.ensures c.requires.0)

pub same_values-requires : goal.same_values-requires
same_values-requires c = (one_sized c.args.set.now c.args.work.now c.args.p c.word.ensures c.if-word-ne21.false c.word-v.ensures c.domain_of-d.result c.domain_of-d.ensures c.num_candidates-m.ensures c.args.n (count_is (let f : SFits w32 c.num_candidates-m.result = search rules in f) c.requires.1.few c.if-m-n.true) c.requires.0 c.requires.1.few, c.requires.1)

pub returns-then-m-n : goal.returns-then-m-n
returns-then-m-n c = like_same c.args.set.now c.args.work.now c.args.p c.word.ensures c.if-word-ne21.false c.word-v.ensures c.domain_of-d.result c.domain_of-d.ensures c.num_candidates-m.ensures c.args.n (count_is (let f : SFits w32 c.num_candidates-m.result = search rules in f) c.requires.1.few c.if-m-n.true) c.same_values.ensures

pub returns-else-m-n : goal.returns-else-m-n
returns-else-m-n c = λ ds e dm o s. ne_eqb (of_z w32 c.num_candidates-m.result) c.args.n c.if-m-n.false ∙ like_not c.args.set.now c.args.work.now c.args.p c.word.ensures c.if-word-ne21.false c.word-v.ensures c.domain_of-d.result c.domain_of-d.ensures c.num_candidates-m.ensures c.args.n (λ e. c.if-m-n.false (ap (of_z w32) e)) ds e dm o s

pub returns-then-word-ne21 : goal.returns-then-word-ne21
returns-then-word-ne21 c = other_not c.args.set.now c.args.work.now c.args.p c.word.ensures c.if-word-ne21.true
