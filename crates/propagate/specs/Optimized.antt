-- What the passes and the whole of optimize ask and give.
use Rattle.std.specs.Prelude.{ℕ, zero, suc, ◌+◌, ◌≤◌, ◌<◌, ◌≡◌, List, map, ℤ, pos, length, drop, get_or}
use Rattle.laws.specs.Lists.{flat}
use Rattle.laws.specs.Slices.{Has}
use Rattle.syntax.specs.Words.{max_bools, max_set_words, min_work_words}
use Rattle.syntax.specs.Syntax.{Domain, Stmt, Problem, encode_domain, encode_stmt, encode}
use Rattle.read.specs.WellFormed.{WellFormed}
use Rattle.fold.specs.Fold.{Fixed}
use Rattle.fold.specs.Optimize.{Outcome, inconsistent, settled, passes, optimize}
use Rattle.domains.specs.Declared.{Domains}
use Rattle.passes.specs.Want.{Values}
use Rattle.passes.specs.Statements.{ReadsStmts, ReadyStmts}
use Rattle.propagate.specs.Passes.{open_count}

-- ---- places in the set's words

pub record SomeDomains (ws : List ℤ) (d n : ℕ) : Type 0 where
  pub ds : List Domain
  pub domains : Domains ws d ds
  pub size : n ≡ length ds

abbrev pub DomainsEndPost : List ℤ → ℕ → ℕ → ℕ → Type 0
DomainsEndPost ws d n r = (ds : List Domain) → Domains ws d ds → n ≡ length ds → r ≡ d + length (flat (map encode_domain ds))

-- ---- every variable open

pub record Opened (out out' : List ℤ) : Type 0 where
  pub cells : (v : ℕ) → v < max_bools → get_or out' v (pos 0) ≡ pos 2
  pub high : drop max_bools out' ≡ drop max_bools out

-- ---- the passes

-- status 0: settled; any other: inconsistent
abbrev pub outcome : ℕ → Fixed → List Stmt → Outcome
outcome zero f ss = settled f ss
outcome (suc n) f ss = inconsistent

pub record ReadyPasses (ws : List ℤ) (at n : ℕ) (out : List ℤ) : Type 0 where
  pub fixed : Fixed
  pub values : Values out fixed
  pub ready : ReadyStmts ws 2 at n out max_bools

-- the fixed values and the folded statements stand in the slice; what lies above the room of the statements is kept,
-- what lies between their end and there is left over from earlier passes
pub record Settles (before : Outcome) (size : ℕ) (out out' : List ℤ) (status end : ℕ) : Type 0 where
  pub fixed : Fixed
  pub folded : List Stmt
  pub is : before ≡ outcome status fixed folded
  pub values : Values out' fixed
  pub words : Has out' max_bools (flat (map encode_stmt folded))
  pub ends : end ≡ max_bools + length (flat (map encode_stmt folded))
  pub fits : end ≤ max_bools + size
  pub above : drop (max_bools + size) out' ≡ drop (max_bools + size) out

abbrev pub PassesPost : List ℤ → ℕ → ℕ → List ℤ → List ℤ → ℕ → ℕ → Type 0
PassesPost ws at n out out' status end = (ds : List Domain) (ss : List Stmt) (f : Fixed) (fuel : ℕ) → Domains ws 2 ds → ReadsStmts (length ds) ws at n ss → max_bools + length (flat (map encode_stmt ss)) ≤ length out → Values out f → open_count f ≤ fuel
    → Settles (passes ds (suc fuel) f ss) (length (flat (map encode_stmt ss))) out out' status end

-- ---- the whole

-- the words of a set that reading accepts, and a work slice of the size that the call asks for
pub record Accepted (words work : List ℤ) : Type 0 where
  pub it : Problem
  pub is : words ≡ encode it
  pub well : WellFormed it
  pub short : length words ≤ max_set_words
  pub room : min_work_words ≤ length work

abbrev pub OptimizePost : List ℤ → List ℤ → List ℤ → ℕ → ℕ → Type 0
OptimizePost words work work' status end = (p : Problem) → words ≡ encode p → WellFormed p → Settles (optimize p) max_set_words work work' status end
