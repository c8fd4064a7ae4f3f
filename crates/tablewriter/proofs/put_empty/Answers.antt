use mathlib.Core.List.{[], ◌∷◌}
use Rattle.clauses.specs.Clause.{clause}
use Rattle.rows.proofs.Looping.{clauses_stop}
use Rattle.tablewriter.proofs.Rows.{empty_one}
use Rattle.tablewriter.proofs.put_empty.Goals as goal

pub returns-then-o-eq-CAP : goal.returns-then-o-eq-CAP
returns-then-o-eq-CAP c = clauses_stop c.requires c.if-o-eq-CAP.true (clause [] [] ∷ [])

pub returns : goal.returns
returns c = empty_one c.requires c.if-o-eq-CAP.false c.put-a.ensures c.put-b.ensures
