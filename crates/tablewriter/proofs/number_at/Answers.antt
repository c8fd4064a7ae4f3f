use mathlib.Core.Path.{◌∙◌, ap}
use native.Mathlib.Omega.{arith}
use Rattle.memory.proofs.Laws.{number_or_none}
use Rattle.memory.specs.Number.{nat}
use Rattle.tablewriter.proofs.Tells.{nat_small}
use Rattle.tablewriter.proofs.number_at.Goals as goal

pub returns : goal.returns
returns c =
    let e = c.unwrap_or.ensures ∙ number_or_none c.try_from.result c.plain.result c.try_from.ensures c.plain.type_inv in
    (omega (arith, c.saturating_sub.ensures, e ∙ ap nat c.plain.ensures), omega (arith, c.saturating_sub.ensures, e, nat_small c.plain.result c.plain.type_inv))
