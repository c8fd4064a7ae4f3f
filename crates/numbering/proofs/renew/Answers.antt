use Rattle.numbering.proofs.Results.{renewed_is}
use Rattle.numbering.proofs.renew.Goals as goal

pub returns : goal.returns
returns c = renewed_is c.args.c _ c.args.s _ c.fresh.ensures c.advance.ensures
