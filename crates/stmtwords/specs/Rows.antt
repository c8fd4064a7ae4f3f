-- The rows of a set's tables are as read after the passes too (`settled_rows`).
use Rattle.std.specs.Prelude.{◌≡◌, List, [], ◌∷◌, map, ℕ, length}
use Rattle.std.proofs.lemmas.List.{length-map}
use Rattle.syntax.specs.Syntax.{Domain, Stmt, Rule, Table, AllDifferent, Problem}
use Rattle.words.specs.Exact.{Each}
use Rattle.read.specs.WellFormed.{WellStmt, WellFormed}
use Rattle.fold.specs.Fold.{Fixed, constant_folding_int as fold-int, constant_folding_stmt as fold-stmt}
use Rattle.fold.specs.Optimize.{settled, optimize}
use Rattle.fold.proofs.Ends.{optimize_rests}
use Rattle.call.specs.WellRead.{well_declared}
use Rattle.stmtwords.specs.Stands.{WellRows}

-- one statement as read
pub rows_folded : (ds : List Domain) (f : Fixed) (nb ni : ℕ) (t : Stmt) → WellStmt nb ni t → WellRows (fold-stmt ds f t)
unfolding fold-stmt
rows_folded ds f nb ni (Rule e) h = tt
rows_folded ds f nb ni (Table es rows) h = rw (length-map es (fold-int ds f)) h.3
rows_folded ds f nb ni (AllDifferent es) h = tt

all_folded : (ds : List Domain) (f : Fixed) (nb ni : ℕ) (ss : List Stmt) → Each (WellStmt nb ni) ss → Each WellRows (map (fold-stmt ds f) ss)
all_folded ds f nb ni [] h = tt
all_folded ds f nb ni (t ∷ ss) h = (rows_folded ds f nb ni t h.0, all_folded ds f nb ni ss h.1)

-- an accepted set that settles with fixed values f and statements ss
pub settled_rows : (p : Problem) → WellFormed p → (f : Fixed) (ss : List Stmt) → optimize p ≡ settled f ss → Each WellRows ss
settled_rows p well f ss end = rw (optimize_rests p (well_declared p well) f ss end).origin (all_folded p.domains f p.bools (length p.domains) p.stmts well.stmts_well)
