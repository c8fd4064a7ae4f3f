-- One statement numbered again with an empty output and then written, where Ifs stand: what it asks and gives. And all statements so.
use Rattle.std.specs.Prelude.{◌≡◌, Bool, true, List, [], ℕ, ◌+◌, ◌*◌, ◌≤◌, ◌<◌, ℤ, length}
use Rattle.memory.specs.Places.{folded, limit}
use Rattle.syntax.specs.Syntax.{Domain, Stmt, encode_stmt, Problem}
use Rattle.syntax.specs.Words.{max_answer_words}
use Rattle.fold.specs.Fold.{Fixed}
use Rattle.clauses.specs.Log.{clauses_of}
use Rattle.clauses.proofs.Since.{clauses_since}
use Rattle.answer.specs.Answer.{start_log}
use Rattle.walk.specs.Decode.{read_part}
use Rattle.walks.specs.Leaves.{words_of}
use Rattle.declared.specs.DomainTable.{Declares}
use Rattle.statements.specs.Stages.{log_of}
use Rattle.stages.specs.StatementsParts.{Standing}
use Rattle.stages.specs.StatementsPlaces.{parted_of}
use Rattle.stages.specs.Start.{Begun}
use Rattle.numbering.specs.declared.Progress.{Progress}
use Rattle.numbering.specs.declared.Room.{Room}
use Rattle.numbering.specs.Task.{state_of}
use Rattle.rows.specs.Emit.{Clauses, Behind}
use Rattle.setwriter.specs.Statements.{Lent}
use Rattle.setwriter.specs.Step.{Place, after, Stands}

-- ---- one statement

-- the state before it is such as the first walk asks, with room for n numbers behind it
pub record Walked (x : Place) (set w : List ℤ) (q : ℕ) (room : Room) (c : Progress) (n : ℕ) : Type 0 where
  pub stands : Stands x set w q true
  pub records : room.records ≤ limit
  pub low : room.cap < limit
  pub standing : Standing x.problem.domains (read_part w) (parted_of folded x.stmts) room.records room.cap true [] low q (49152 * length (encode_stmt x.stmt) + n) (state_of w [] c) x.before
  pub used : c.used ≤ words_of x.before

pub record SomeWalked (set w : List ℤ) (q : ℕ) (room : Room) (c : Progress) : Type 0 where
  pub place : Place
  pub spare : ℕ
  pub it : Walked place set w q room c spare

-- behind a walk that is not full: the next place, the state, and its clauses behind k others
pub record Rewrote (x : Place) (w : List ℤ) (q : ℕ) (room : Room) (low : room.cap < limit) (n : ℕ) (out : List ℤ) (o k : ℕ) (w' out' : List ℤ) (next : ℕ) (c : Progress) (o' k' : ℕ) : Type 0 where
  pub next_is : next ≡ q + length (encode_stmt x.stmt)
  pub standing : Standing x.problem.domains (read_part w) (parted_of folded x.stmts) room.records room.cap true [] low (q + length (encode_stmt x.stmt)) n (state_of w' [] c) (after x)
  pub clauses : Clauses out o k (clauses_since x.before (after x)) out' o' k'

pub record DidAgain (x : Place) (w : List ℤ) (q : ℕ) (room : Room) (low : room.cap < limit) (n : ℕ) (out : List ℤ) (o k : ℕ) (w' out' : List ℤ) (next : ℕ) (c : Progress) (o' k' : ℕ) : Type 0 where
  pub used : c.used ≤ words_of (after x)
  pub rewrote : c.used ≤ room.cap → Rewrote x w q room low n out o k w' out' next c o' k'
  pub domains : (ds : List Domain) → Declares ds w → Declares ds w'
  pub size : length w' ≡ length w
  pub out_size : length out' ≡ length out

-- whatever statement stands there
abbrev pub DoesAgain : List ℤ → List ℤ → ℕ → Room → Progress → List ℤ → ℕ → ℕ → List ℤ → List ℤ → ℕ → Progress → ℕ → ℕ → Type 0
DoesAgain set w q room c out o k w' out' next c' o' k' = (x : Place) (n : ℕ) (h : Walked x set w q room c n) → DidAgain x w q room h.low n out o k w' out' next c' o' k'

-- ---- all statements

-- the work slice as merging leaves it; from: how many numbers it gave
pub record Starts (merge : Bool) (p : Problem) (f : Fixed) (ss : List Stmt) (set w : List ℤ) (end : ℕ) (room : Room) (from : ℕ) (out : List ℤ) (o : ℕ) : Type 0 where
  pub lent : Lent p f ss set (read_part w) end true
  pub domains : Declares p.domains w
  pub records : room.records ≤ limit
  pub small : room.cap ≤ max_answer_words
  pub begun : Begun (read_part w) true w from (start_log merge ss)
  pub room_behind : Behind out o 0

pub record SomeStarts (set w : List ℤ) (end : ℕ) (room : Room) (from : ℕ) (out : List ℤ) (o : ℕ) : Type 0 where
  pub merge : Bool
  pub it : Problem
  pub fixed : Fixed
  pub stmts : List Stmt
  pub starts : Starts merge it fixed stmts set w end room from out o

-- so many words the answer has, or more; where that is not too many, the clauses of all of them are written from o on
pub record RewroteAll (set w : List ℤ) (end : ℕ) (room : Room) (from : ℕ) (out : List ℤ) (o : ℕ) (w' out' : List ℤ) (used o' k' : ℕ) : Type 0 where
  pub words : (merge : Bool) (p : Problem) (f : Fixed) (ss : List Stmt) → Starts merge p f ss set w end room from out o → used ≤ words_of (log_of merge p ss)
  pub clauses : (merge : Bool) (p : Problem) (f : Fixed) (ss : List Stmt) → Starts merge p f ss set w end room from out o → used ≤ room.cap → Clauses out o 0 (clauses_of (log_of merge p ss)) out' o' k'
  pub size : length w' ≡ length w
