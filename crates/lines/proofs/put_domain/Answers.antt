-- `lines::put_domain` meets its contract. Assumes nothing.
use Rattle.lines.proofs.Writing.{domain_shown}
use Rattle.lines.proofs.put_domain.Goals as goal

pub returns : goal.returns
returns c = domain_shown _ _ _ _ _ _ _ c.put_line.ensures
