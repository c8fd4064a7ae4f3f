-- Statements folded and required one by one between passes: what this asks and gives. The passes' end is the same (fold/specs/Ahead.antt).
use Rattle.std.specs.Prelude.{ℕ, ◌+◌, ◌≤◌, ◌≡◌, List, ◌∷◌, ◌++◌, map, ℤ, pos, length, drop, get_or}
use Rattle.laws.specs.Lists.{flat}
use Rattle.syntax.specs.Words.{max_bools}
use Rattle.syntax.specs.Syntax.{Domain, Stmt, encode_stmt}
use Rattle.fold.specs.Fold.{Fixed, constant_folding_stmt}
use Rattle.fold.proofs.Refold.{Extends}
use Rattle.fold.proofs.Ahead.{prop_stmt, Below, NoRest}
use Rattle.domains.specs.Declared.{Domains}
use Rattle.passes.specs.Want.{Values, Propagates}
use Rattle.passes.specs.Statements.{ReadsStmt, ReadsStmts, ReadyStmt}
use Rattle.propagate.specs.Optimized.{ReadyPasses}

-- ---- numbers kept in arrays

-- every number in b but 0 and n is as in a
pub record Only (n : ℕ) (a b : List ℤ) : Type 0 where
  pub others : (i p : ℕ) → (p ≡ 0 → ⊥) → (p ≡ n → ⊥) → get_or b i (pos 0) ≡ pos p → get_or a i (pos 0) ≡ pos p

-- ---- places

-- one of the statements stands at p
pub record Place (at : ℕ) (ss : List Stmt) (p : ℕ) : Type 0 where
  pub front : List Stmt
  pub it : Stmt
  pub back : List Stmt
  pub split : ss ≡ front ++ (it ∷ back)
  pub is : p ≡ at + length (flat (map encode_stmt front))

abbrev pub PlaceIn : List ℤ → ℕ → ℕ → ℕ → Type 0
PlaceIn ws at n p = (ds : List Domain) (ss : List Stmt) → Domains ws 2 ds → ReadsStmts (length ds) ws at n ss → Place at ss p

-- the numbers kept are places of statements (0: none)
pub record Places (ws : List ℤ) (at n : ℕ) (places : List ℤ) : Type 0 where
  pub each : (i p : ℕ) → (p ≡ 0 → ⊥) → get_or places i (pos 0) ≡ pos p → PlaceIn ws at n p

-- ---- a step

pub record ReadyStep (ws : List ℤ) (at : ℕ) (out : List ℤ) : Type 0 where
  pub fixed : Fixed
  pub values : Values out fixed
  pub ready : ReadyStmt ws 2 at out max_bools

pub record StepsTo (ds : List Domain) (s : Stmt) (f : Fixed) (out out' : List ℤ) (end status : ℕ) : Type 0 where
  pub fits : end ≤ max_bools + length (encode_stmt s)
  pub folded : List ℤ
  pub props : Propagates (prop_stmt (constant_folding_stmt ds f s) f) folded out' status
  pub above : drop (max_bools + length (encode_stmt s)) out' ≡ drop (max_bools + length (encode_stmt s)) out

abbrev pub StepPost : List ℤ → ℕ → List ℤ → List ℤ → ℕ → ℕ → Type 0
StepPost ws at out out' end status = (ds : List Domain) (s : Stmt) (f : Fixed) → Domains ws 2 ds → ReadsStmt (length ds) ws at s → max_bools + length (encode_stmt s) ≤ length out → Values out f → StepsTo ds s f out out' end status

abbrev pub NextPost : List ℤ → ℕ → ℕ → Type 0
NextPost ws at next = (ds : List Domain) (s : Stmt) → Domains ws 2 ds → ReadsStmt (length ds) ws at s → next ≡ at + length (encode_stmt s)

-- ---- any number of steps

-- status 2: no values at rest have all of f. Any other: what is fixed now is no more than such values have
pub record Advanced (ds : List Domain) (ss : List Stmt) (f : Fixed) (out out' : List ℤ) (status : ℕ) : Type 0 where
  pub now : Fixed
  pub values : Values out' now
  pub ahead : (status ≡ 2 → ⊥) → Extends f now × Below ds ss f now
  pub no_rest : status ≡ 2 → NoRest ds ss f
  pub above : drop (max_bools + length (flat (map encode_stmt ss))) out' ≡ drop (max_bools + length (flat (map encode_stmt ss))) out

abbrev pub WorklistPost : List ℤ → ℕ → ℕ → List ℤ → List ℤ → ℕ → Type 0
WorklistPost ws at n out out' status = (ds : List Domain) (ss : List Stmt) (f : Fixed) → Domains ws 2 ds → ReadsStmts (length ds) ws at n ss → max_bools + length (flat (map encode_stmt ss)) ≤ length out → Values out f → Advanced ds ss f out out' status

pub record ReadyWorklist (ws out places : List ℤ) : Type 0 where
  pub at : ℕ
  pub count : ℕ
  pub ready : ReadyPasses ws at count out
  pub placed : Places ws at count places

abbrev pub Moves : List ℤ → List ℤ → List ℤ → List ℤ → List ℤ → ℕ → Type 0
Moves ws out places out' places' status = (at n : ℕ) → Places ws at n places → WorklistPost ws at n out out' status × Places ws at n places'

-- ---- after a pass

-- a pass that fixed a variable may be followed by steps; after any other nothing is done
pub record AfterPost (ws : List ℤ) (at n : ℕ) (out : List ℤ) (status end : ℕ) (out' : List ℤ) (status' end' : ℕ) : Type 0 where
  pub advanced : status ≡ 1 → WorklistPost ws at n out out' status'
  pub go_on : (status' ≡ 2 → ⊥) → (status' ≡ status) × (end' ≡ end)
  pub stop : status ≡ 1 → status' ≡ 2 → end' ≡ max_bools
  pub same : (status ≡ 1 → ⊥) → (out' ≡ out) × (status' ≡ status) × (end' ≡ end)
