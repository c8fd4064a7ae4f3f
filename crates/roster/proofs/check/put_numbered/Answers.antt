-- `put_numbered` meets its contract.
use Rattle.roster.proofs.Laws.{numbered_shown}
use Rattle.roster.proofs.check.put_numbered.Goals as goal

pub returns : goal.returns
returns c = numbered_shown c.args.k c.put_bytes-i.ensures c.put_natural-j.ensures c.put_byte.ensures
