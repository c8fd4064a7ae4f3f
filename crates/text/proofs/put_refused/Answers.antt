-- `text::put_refused` meets its contract. Assumes nothing.
use Rattle.text.proofs.Writing.{refused_shown}
use Rattle.text.proofs.put_refused.Goals as goal

pub returns : goal.returns
returns c = refused_shown _ _ _ _ _ _ _ _ c.put_bytes-i.ensures c.put_natural-j.ensures c.put_byte.ensures
