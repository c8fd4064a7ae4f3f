use Rattle.numbering.proofs.Results.{crossed_is}
use Rattle.numbering.proofs.cross.Goals as goal

pub returns : goal.returns
returns c = crossed_is c.args.a c.args.b _ _ _ c.renew-c.ensures c.renew.ensures c.longer.ensures
