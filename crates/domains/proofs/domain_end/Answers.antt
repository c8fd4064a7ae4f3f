use borrow.Author.Rules.{rules}
use Rattle.domains.proofs.Laws.{kind_plain, range_fits, range_end, count_plain, enum_fits, enum_end, domain_inside}
use Rattle.domains.proofs.domain_end.Goals as goal

pub number-requires : goal.number-requires
number-requires c = kind_plain _ _ c.requires

pub overflow_add-result : goal.overflow_add-result
overflow_add-result c = let q = range_fits _ _ _ c.number.ensures.0 c.requires c.if-number-eq0.true in search rules

pub returns-then-number-eq0 : goal.returns-then-number-eq0
returns-then-number-eq0 c = range_end _ _ _ c.number.ensures.0 c.if-number-eq0.true

pub number-n-requires : goal.number-n-requires
number-n-requires c = count_plain _ _ _ c.number.ensures.0 c.requires c.if-number-eq0.false

pub returns : goal.returns
returns c = enum_end _ _ _ c.number.ensures.0 _ c.number-n.ensures.0 c.if-number-eq0.false
