use Rattle.numbering.specs.Members.{closes_pool, closes_long}
use Rattle.numbering.proofs.close.Goals as goal

pub returns-then-s-eq0 : goal.returns-then-s-eq0
returns-then-s-eq0 c = closes_pool c.args.s _ _ c.if-s-eq0.true c.renew-c.ensures c.single.ensures

pub returns : goal.returns
returns c = closes_long c.args.s _ _ c.if-s-eq0.false c.renew-c.ensures c.longer.ensures
