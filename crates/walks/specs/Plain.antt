-- Expressions without emitted numbers: what reading and folding make, and what stands as words in a slice. Splitting puts emitted numbers in.
use Rattle.syntax.specs.Syntax.{IntExpr, Terms, BoolExpr, Members}
use Rattle.syntax.specs.Written.{EveryIntOf, EveryTermOf, EveryOf, EveryMemberOf, Any, None}

abbrev pub Plain : BoolExpr → Type 0
Plain e = EveryOf None Any Any e

abbrev pub PlainMembers : Members → Type 0
PlainMembers ms = EveryMemberOf None Any Any ms

abbrev pub PlainInt : IntExpr → Type 0
PlainInt e = EveryIntOf None Any Any e

abbrev pub PlainTerms : Terms → Type 0
PlainTerms ts = EveryTermOf None Any Any ts
