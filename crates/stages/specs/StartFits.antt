-- What refusals 9 and 10 leave of each folded statement, as walks' SumsFit asks it: then every sum of the walks fits (`settled_within`).
use Rattle.std.specs.Prelude.{◌≡◌, List, [], ◌∷◌}
use Rattle.syntax.specs.Syntax.{Domain, Stmt, Rule, Table, AllDifferent, Problem}
use Rattle.words.specs.Exact.{Each}
use Rattle.read.specs.WellFormed.{WellFormed}
use Rattle.limits.specs.Limits.{check}
use Rattle.fold.specs.Fold.{Fixed}
use Rattle.fold.specs.Optimize.{settled, optimize}
use Rattle.walks.specs.SumsFit.{Within, WithinColumns, WithinPairs, rule_within, table_within, different_within}
use Rattle.statements.specs.Settled.{Light, settled_light}

module _ (ds : List Domain) where
  abbrev pub StmtWithin : Stmt → Type 0
  StmtWithin (Rule e) = Within ds e
  StmtWithin (Table es rows) = WithinColumns ds es
  StmtWithin (AllDifferent es) = WithinPairs ds es

  stmts_within : (ss : List Stmt) → Each (Light ds) ss → Each StmtWithin ss
  stmts_within [] h = tt
  stmts_within (Rule e ∷ ss) h = (rule_within ds e h.0.weight h.0.variables, stmts_within ss h.1)
  stmts_within (Table es rows ∷ ss) h = (table_within ds es rows h.0.weight h.0.variables, stmts_within ss h.1)
  stmts_within (AllDifferent es ∷ ss) h = (different_within ds es h.0.weight h.0.variables, stmts_within ss h.1)

-- an accepted set that settles with fixed values f and statements ss
pub settled_within : (p : Problem) → WellFormed p → (f : Fixed) (ss : List Stmt) → optimize p ≡ settled f ss → check p ≡ 0 → Each (StmtWithin p.domains) ss
settled_within p well f ss end unrefused = stmts_within p.domains ss (settled_light p well f ss end unrefused)
