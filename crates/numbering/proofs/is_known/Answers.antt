use Rattle.numbering.proofs.Words.{above_cast, above_some, known_shared, private_fits, private_cast, known_private, known_not}
use Rattle.numbering.proofs.is_known.Goals as goal

pub overflow_cast-n : goal.overflow_cast-n
overflow_cast-n c = above_cast c.args.z c.ranges.z c.if-z-gt0.true

pub overflow_sub-result : goal.overflow_sub-result
overflow_sub-result c = above_some c.args.z c.ranges.z c.if-z-gt0.true

pub returns-then-z-gt0 : goal.returns-then-z-gt0
returns-then-z-gt0 c = known_shared c.args.z c.args.k c.ranges.z c.if-z-gt0.true

pub overflow_sub-n : goal.overflow_sub-n
overflow_sub-n c = private_fits c.args.z c.ranges.z c.if-z-ltminus1.true

pub overflow_cast-n-then-z-ltminus1 : goal.overflow_cast-n-then-z-ltminus1
overflow_cast-n-then-z-ltminus1 c = private_cast c.args.z c.ranges.z c.if-z-ltminus1.true

pub returns-then-z-ltminus1 : goal.returns-then-z-ltminus1
returns-then-z-ltminus1 c = known_private c.args.z c.args.k c.ranges.z c.if-z-ltminus1.true

pub returns : goal.returns
returns c = known_not c.args.z c.args.k c.ranges.z c.if-z-gt0.false c.if-z-ltminus1.false
