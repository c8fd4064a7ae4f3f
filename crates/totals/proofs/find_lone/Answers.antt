-- By the levels left, the code, and whether the number is the one that is looked for.
use native.Mathlib.Omega.{arith}
use mathlib.Core.Path.{refl}
use Prim.Native.Nat.{◌<◌, ◌+◌, min}
use Rattle.syntax.specs.Words.{max_ints}
use Rattle.memory.specs.Places.{folded_end}
use Rattle.scan.specs.Skip.{split_by}
use Rattle.walk.proofs.Steps.{below_lt}
use Rattle.totals.proofs.Looks.{find_none, variable_hit, variable_miss, other_miss, if_branching, if_hit, if_miss}
use Rattle.totals.proofs.find_lone.Goals as goal

pub returns-then-left-eq0 : goal.returns-then-left-eq0
returns-then-left-eq0 c = find_none c.args.work.now c.args.left (split_by c.args.m) c.args.at c.args.base c.args.n c.args.x _ c.if-left-eq0.true refl

pub number_at-requires : goal.number_at-requires
number_at-requires c = rw c.below-v.ensures (below_lt max_ints c.word-in-21.result (omega arith))

pub declared-requires : goal.declared-requires
declared-requires c = rw c.below-v.ensures (below_lt max_ints c.word-in-21.result (omega arith))

pub returns-then-number_at-x : goal.returns-then-number_at-x
returns-then-number_at-x c = let i : c.below-v.result < max_ints = rw c.below-v.ensures (below_lt max_ints c.word-in-21.result (omega arith)) in
    variable_hit c.args.work.now c.requires.0 c.args.left (split_by c.args.m) c.args.at c.args.base c.args.n c.if-left-eq0.false c.word.result c.word.ensures c.args.x c.word-in-21.result c.below-v.result c.number_at.result c.in-21.is c.word-in-21.ensures c.below-v.ensures c.number_at.ensures.0 i c.if-number_at-x.true _ c.declared.ensures

pub if_domain-requires : goal.if_domain-requires
if_domain-requires c = let p = c.requires in
    (p.0, (p.1.0, (omega (arith, c.within-one.ensures), (p.1.1.0, (p.1.1.1.0, if_branching c.args.work.now p.0 c.args.left (split_by c.args.m) c.args.at c.args.base c.args.n c.if-left-eq0.false c.word.result c.word.ensures c.args.x c.within-one.result c.in-23.is c.within-one.ensures p.1.1.1.1.1)))))

pub returns-then-if_number-x : goal.returns-then-if_number-x
returns-then-if_number-x c = if_hit c.args.work.now c.requires.0 c.args.left (split_by c.args.m) c.args.at c.args.base c.args.n c.if-left-eq0.false c.word.result c.word.ensures c.args.x c.within-one.result c.in-23.is c.within-one.ensures c.survey_int-e.result c.survey_int-e.ensures c.if_number.result c.if_number.ensures.0 c.if-if_number-x.true _ c.if_domain.ensures

pub returns-else-number_at-x : goal.returns-else-number_at-x
returns-else-number_at-x c = variable_miss c.args.work.now c.requires.0 c.args.left (split_by c.args.m) c.args.at c.args.base c.args.n c.if-left-eq0.false c.word.result c.word.ensures c.args.x c.word-in-21.result c.below-v.result c.number_at.result c.in-21.is c.word-in-21.ensures c.below-v.ensures c.number_at.ensures.0 c.if-number_at-x.false _ refl

pub returns-else-if_number-x : goal.returns-else-if_number-x
returns-else-if_number-x c = if_miss c.args.work.now c.requires.0 c.args.left (split_by c.args.m) c.args.at c.args.base c.args.n c.if-left-eq0.false c.word.result c.word.ensures c.args.x (min (c.args.at + 1) folded_end) c.in-23.is refl c.survey_int-e.result c.survey_int-e.ensures c.if_number.result c.if_number.ensures.0 c.if-if_number-x.false _ refl

pub returns-in_default : goal.returns-in_default
returns-in_default c = other_miss c.args.work.now c.requires.0 c.args.left (split_by c.args.m) c.args.at c.args.base c.args.n c.if-left-eq0.false c.word.result c.word.ensures c.args.x c.requires.1.1.1.1.0 c.in_default.in_default-own.rest.0.1 c.in_default.in_default-own.rest.1 _ refl
