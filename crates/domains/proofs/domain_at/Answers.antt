use Rattle.domains.proofs.Laws.{kind_plain, count_plain}
use Rattle.domains.proofs.domain_at.Goals as goal

pub number-requires : goal.number-requires
number-requires c = kind_plain _ _ c.requires

pub number-n-requires : goal.number-n-requires
number-n-requires c = count_plain _ _ _ c.number.ensures.0 c.requires c.if-number-eq0.false
