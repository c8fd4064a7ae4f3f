use Rattle.memory.proofs.Laws.{number_or_none}
use Rattle.memory.proofs.entry.Goals as goal

pub returns : goal.returns
returns c = rw (c.unwrap_or.ensures, ← c.plain.ensures) (number_or_none c.try_from.result c.plain.result c.try_from.ensures c.plain.type_inv)
