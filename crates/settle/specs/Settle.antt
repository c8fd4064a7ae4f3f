-- What a set's words give before its clauses: a refusal (1 to 11), a contradiction, or folded statements in the work slice.
use Rattle.std.specs.Prelude.{◌≡◌, cond, List, [], ◌++◌, ℕ, zero, suc, ◌+◌, ◌≤◌, ℤ, ltb, length, take, drop}
use Rattle.laws.specs.Slices.{zeros}
use Rattle.memory.specs.Places.{folded, bool_map, maps_end}
use Rattle.syntax.specs.Words.{max_set_words, min_work_words}
use Rattle.syntax.specs.Syntax.{Stmt, Problem, encode}
use Rattle.words.specs.Parse.{Parsed, ok, refuse}
use Rattle.read.specs.Read.{read_set}
use Rattle.read.specs.WellFormed.{WellFormed}
use Rattle.limits.specs.Limits.{check}
use Rattle.accept.specs.Accepted.{table_after}
use Rattle.fold.specs.Fold.{Fixed}
use Rattle.fold.specs.Optimize.{Outcome, inconsistent, settled, optimize}
use Rattle.statements.specs.Whole.{Empty}
use Rattle.statements.specs.Stages as ready
use Rattle.settle.specs.declared.Settling.{Settling}
use Rattle.settle.specs.declared.Settling.TheVariants.{Refused, Contradiction, Folded}

-- ---- the answer, in the order of the call's definition

-- the folded statements stand from 512 on
unfoldable pub settling_of : Problem → Outcome → Settling
settling_of p inconsistent = Contradiction
settling_of p (settled f ss) = Folded (record { end = folded + length (ready.stmts_words ss); bools = p.bools; ints = length p.domains })

unfoldable pub settling_checked : Problem → ℕ → Settling
settling_checked p zero = settling_of p (optimize p)
settling_checked p (suc k) = Refused (suc k)

unfoldable pub settling_read : Parsed Problem → Settling
settling_read (refuse k) = Refused k
settling_read (ok p r) = settling_checked p (check p)

unfoldable pub settling : ℕ → List ℤ → Settling
settling work_length set =
    cond (ltb work_length min_work_words) (Refused 1)
    (cond (ltb max_set_words (length set)) (Refused 2)
    (settling_read (read_set set)))

-- ---- the work slice

-- the maps of variables (the words from 4608 to 5376) emptied
unfoldable pub maps_empty : List ℤ → List ℤ
maps_empty work = take bool_map work ++ (zeros 768 ++ drop maps_end work)

-- the fixed values, the folded statements and empty maps. From 5376 on it is as refusals 9 to 11 left it;
-- what lies between the statements' end and 4608 is left over from earlier passes or was lent so
pub record Holds (set work work' : List ℤ) : Type 0 where
  pub folded : (p : Problem) (f : Fixed) (ss : List Stmt) → read_set set ≡ ok p [] → optimize p ≡ settled f ss → ready.Folded p f ss work'
  pub above : drop bool_map work' ≡ zeros 768 ++ drop maps_end (table_after set work)

abbrev pub Left : Settling → List ℤ → List ℤ → List ℤ → Type 0
Left (Refused k) set work work' = work' ≡ zeros (length work)
Left Contradiction set work work' = work' ≡ zeros (length work)
Left (Folded q) set work work' = Holds set work work'

pub record SettlePost (set work work' : List ℤ) (r : Settling) : Type 0 where
  pub answer : r ≡ settling (length work) set
  pub left : Left r set work work'

-- ---- an accepted set, and a work slice whose maps are empty

pub record TakenIn (p : Problem) (set work : List ℤ) (b i : ℕ) : Type 0 where
  pub words : set ≡ encode p
  pub well : WellFormed p
  pub unrefused : check p ≡ 0
  pub short : length set ≤ max_set_words
  pub empty : Empty work
  pub bools : b ≡ p.bools
  pub ints : i ≡ length p.domains

pub record SomeTaken (set work : List ℤ) (b i : ℕ) : Type 0 where
  pub it : Problem
  pub taken : TakenIn it set work b i

abbrev pub LeftOf : Problem → Settling → List ℤ → List ℤ → Type 0
LeftOf p (Refused k) work work' = work' ≡ zeros (length work)
LeftOf p Contradiction work work' = work' ≡ zeros (length work)
LeftOf p (Folded q) work work' = ((f : Fixed) (ss : List Stmt) → optimize p ≡ settled f ss → ready.Folded p f ss work') × (drop bool_map work' ≡ drop bool_map work)

pub record Folds (p : Problem) (work work' : List ℤ) (r : Settling) : Type 0 where
  pub answer : r ≡ settling_of p (optimize p)
  pub left : LeftOf p r work work'

abbrev pub FoldPost : List ℤ → List ℤ → ℕ → ℕ → List ℤ → Settling → Type 0
FoldPost set work b i work' r = (p : Problem) → TakenIn p set work b i → Folds p work work' r
