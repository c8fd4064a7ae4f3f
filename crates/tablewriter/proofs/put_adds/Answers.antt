use mathlib.Core.Path.{sym, ◌∙◌}
use native.Mathlib.Omega.{arith}
use Rattle.scan.specs.Skip.{split_by}
use Rattle.tablewriter.proofs.Puts.{registered_added, none_added}
use Rattle.tablewriter.proofs.put_adds.Goals as goal

pub register_int-a-requires : goal.register_int-a-requires
unfolding split_by
register_int-a-requires c =
    let h = c.requires in
    record { placed = (record { size = h.0.size; inside = h.0.inside; low_base = omega arith; low = h.0.low }, h.2, record { domains = h.1.domains; fits = h.1.inside }); left_bound = omega arith }

pub returns-then-has_ifs : goal.returns-then-has_ifs
unfolding split_by
returns-then-has_ifs c = let e = c.args in registered_added e.work.now e.p e.n c.register_int-a.result c.register_int-a.ensures

pub returns : goal.returns
returns c = none_added c.args.work.now c.args.p c.args.n (sym c.has_ifs.ensures ∙ c.if-has_ifs.false) c.requires.2
