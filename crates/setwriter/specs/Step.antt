-- One statement's clauses by a work slice with the final maps, where no If stands: what writing them asks and gives. And those of all statements.
use Rattle.std.specs.Prelude.{◌≡◌, Bool, false, List, [], ◌∷◌, ℕ, ◌+◌, ◌≤◌, ◌<◌, ℤ, length}
use Rattle.memory.specs.Places.{folded, limit}
use Rattle.syntax.specs.Syntax.{Stmt, encode_stmt, Problem}
use Rattle.syntax.specs.Words.{min_work_words}
use Rattle.fold.specs.Fold.{Fixed}
use Rattle.clauses.specs.Log.{Log, next_bool, clauses_of}
use Rattle.clauses.proofs.Since.{clauses_since}
use Rattle.answer.specs.Answer.{start_log, normalize_stmt}
use Rattle.walk.specs.Decode.{read_part}
use Rattle.walk.specs.declared.Counters.{Counters}
use Rattle.walks.specs.Item.{has_ifs}
use Rattle.walks.specs.Implements.{at, Ready}
use Rattle.declared.specs.DomainTable.{Declares}
use Rattle.statements.specs.Stages.{log_of}
use Rattle.stages.specs.StatementsParts.{AllOwn}
use Rattle.stages.specs.Statements.{stmt_stages, stmts_stages}
use Rattle.rows.specs.Emit.{Clauses, Behind}
use Rattle.setwriter.specs.Statements.{Lent, Left}
use Rattle.setwriter.specs.Same.{Same, Declared}

-- ---- one statement

-- a statement of a set, the statements behind it and the log before it; merge: merging chosen, end: where the folded statements end
pub record Place : Type 0 where
  pub merge : Bool
  pub problem : Problem
  pub fixed : Fixed
  pub stmts : List Stmt
  pub end : ℕ
  pub stmt : Stmt
  pub later : List Stmt
  pub before : Log

-- the log behind it
abbrev pub after : Place → Log
after x = normalize_stmt x.problem.domains x.stmt x.before

-- it stands at q in the work slice w
pub record Stands (x : Place) (set w : List ℤ) (q : ℕ) (with_ifs : Bool) : Type 0 where
  pub lent : Lent x.problem x.fixed x.stmts set (read_part w) x.end with_ifs
  pub left : Left x.merge x.problem x.fixed x.stmts (read_part w) x.end q (x.stmt ∷ x.later) x.before
  pub domains : Declares x.problem.domains w
  pub word : has_ifs w ≡ with_ifs
  pub size : min_work_words ≤ length w

-- the maps and the columns' own cells are those of the log behind it; n: the counters before it. rec, cap: as in the first walk
pub record Mapped (x : Place) (set w : List ℤ) (q : ℕ) (n : Counters) : Type 0 where
  pub stands : Stands x set w q false
  pub rec : ℕ
  pub cap : ℕ
  pub low : cap < limit
  pub ready : Ready w (after x)
  pub owned : AllOwn w (stmt_stages x.problem.domains rec cap (read_part w) q x.stmt []) x.before
  pub counters : n ≡ at w x.before

pub record SomeMapped (set w : List ℤ) (q : ℕ) (n : Counters) : Type 0 where
  pub place : Place
  pub it : Mapped place set w q n

-- its clauses are written behind k others
pub record Did (x : Place) (w : List ℤ) (q : ℕ) (out : List ℤ) (o k : ℕ) (w' out' : List ℤ) (next : ℕ) (n : Counters) (o' k' : ℕ) : Type 0 where
  pub next_is : next ≡ q + length (encode_stmt x.stmt)
  pub counters : n ≡ at w (after x)
  pub clauses : Clauses out o k (clauses_since x.before (after x)) out' o' k'
  pub same : Same w w'

-- ---- all statements

-- the work slice as the first walk leaves it; from: how many numbers merging gave
pub record AllMapped (merge : Bool) (p : Problem) (f : Fixed) (ss : List Stmt) (set w : List ℤ) (end from : ℕ) (out : List ℤ) (o : ℕ) : Type 0 where
  pub lent : Lent p f ss set (read_part w) end false
  pub domains : Declares p.domains w
  pub word : has_ifs w ≡ false
  pub size : min_work_words ≤ length w
  pub rec : ℕ
  pub cap : ℕ
  pub low : cap < limit
  pub ready : Ready w (log_of merge p ss)
  pub declared : Declared (log_of merge p ss)
  pub owned : AllOwn w (stmts_stages p.domains rec cap (read_part w) folded ss) (start_log merge ss)
  pub first : from ≡ next_bool (start_log merge ss)
  pub room : Behind out o 0

pub record SomeAllMapped (set w : List ℤ) (end from : ℕ) (out : List ℤ) (o : ℕ) : Type 0 where
  pub merge : Bool
  pub it : Problem
  pub fixed : Fixed
  pub stmts : List Stmt
  pub mapped : AllMapped merge it fixed stmts set w end from out o

-- the clauses of all of them are written from o on
pub record WrittenAll (set w : List ℤ) (end from : ℕ) (out : List ℤ) (o : ℕ) (w' out' : List ℤ) (o' k' : ℕ) : Type 0 where
  pub clauses : (merge : Bool) (p : Problem) (f : Fixed) (ss : List Stmt) → AllMapped merge p f ss set w end from out o → Clauses out o 0 (clauses_of (log_of merge p ss)) out' o' k'
  pub same : Same w w'
