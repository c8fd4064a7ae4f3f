-- What each step of the call is lent and ensures.
use Rattle.std.specs.Prelude.{◌≡◌, Bool, false, List, ℕ, ◌≤◌, ◌<◌, ℤ, pos, length, get_or}
use Rattle.std.proofs.lemmas.List.Edits.{sets}
use Rattle.laws.specs.Slices.{zeros}
use Rattle.memory.specs.Places.{limit}
use Rattle.syntax.specs.Words.{max_answer_words, max_bools, min_work_words}
use Rattle.syntax.specs.Syntax.{Stmt, Problem, encode}
use Rattle.fold.specs.Fold.{Fixed}
use Rattle.clauses.specs.Log.{clauses_of}
use Rattle.answer.specs.Answer.{fixed_word, layout, normalize}
use Rattle.call.specs.Call.{Result, measured, output_after}
use Rattle.walk.specs.Decode.{read_part}
use Rattle.walks.specs.Item.{has_ifs}
use Rattle.walks.specs.Leaves.{words_of}
use Rattle.declared.specs.DomainTable.{Declares}
use Rattle.statements.specs.Stages.{log_of}
use Rattle.rows.specs.Emit.{Clauses, Behind}
use Rattle.numbering.specs.declared.Room.{Room}
use Rattle.setwriter.specs.Statements.{Lent}
use Rattle.setwriter.specs.Begin.{Settles}
use Rattle.setwriter.specs.Step.{AllMapped}
use Rattle.planner.specs.declared.Answer.{Answer}
use Rattle.planner.specs.Contract.{answer_of}

-- the answer of a result, and the output, n words long
pub record Gives (x : Result) (n : ℕ) (out' : List ℤ) (r : Answer) : Type 0 where
  pub answer : r ≡ answer_of x
  pub output : out' ≡ output_after x n

-- ---- a settled set: its words, its folded statements up to `end` in the work slice w; i: how many integers it declares

pub record Held (p : Problem) (f : Fixed) (ss : List Stmt) (set w : List ℤ) (i end : ℕ) : Type 0 where
  pub words : set ≡ encode p
  pub ints : i ≡ length p.domains
  pub settles : Settles p f ss w end

pub record SomeHeld (set w : List ℤ) (i end : ℕ) : Type 0 where
  pub it : Problem
  pub fixed : Fixed
  pub stmts : List Stmt
  pub held : Held it fixed stmts set w i end

-- with the table of its domains and its word for Ifs
pub record Prepared (p : Problem) (f : Fixed) (ss : List Stmt) (set w : List ℤ) (end : ℕ) : Type 0 where
  pub lent : Lent p f ss set (read_part w) end (has_ifs w)
  pub values : (v : ℕ) → v < max_bools → get_or w v (pos 0) ≡ fixed_word (f v)
  pub domains : Declares p.domains w
  pub size : min_work_words ≤ length w

abbrev pub Prepares : List ℤ → List ℤ → ℕ → ℕ → List ℤ → Type 0
Prepares set w i end w' = (p : Problem) (f : Fixed) (ss : List Stmt) → Held p f ss set w i end → Prepared p f ss set w' end

-- ---- the clauses, behind the first walk; from: how many numbers merging gave

pub record Numbered (merge : Bool) (p : Problem) (f : Fixed) (ss : List Stmt) (set w : List ℤ) (end : ℕ) (room : Room) (from : ℕ) (out : List ℤ) (o : ℕ) : Type 0 where
  pub prepared : Prepared p f ss set w end
  pub records : room.records ≤ limit
  pub small : room.cap ≤ max_answer_words
  pub mapped : has_ifs w ≡ false → AllMapped merge p f ss set w end from out o
  pub behind : Behind out o 0

pub record SomeNumbered (merge : Bool) (set w : List ℤ) (end : ℕ) (room : Room) (from : ℕ) (out : List ℤ) (o : ℕ) : Type 0 where
  pub it : Problem
  pub fixed : Fixed
  pub stmts : List Stmt
  pub numbered : Numbered merge it fixed stmts set w end room from out o

-- so many words the answer has, or more; where that is not too many, the clauses of all statements are written from o on
pub record ClausesOf (merge : Bool) (p : Problem) (ss : List Stmt) (room : Room) (out : List ℤ) (o : ℕ) (out' : List ℤ) (used o' k' : ℕ) : Type 0 where
  pub words : used ≤ words_of (log_of merge p ss)
  pub clauses : used ≤ room.cap → Clauses out o 0 (clauses_of (log_of merge p ss)) out' o' k'

abbrev pub WritesClauses : Bool → List ℤ → List ℤ → ℕ → Room → ℕ → List ℤ → ℕ → List ℤ → ℕ → ℕ → ℕ → Type 0
WritesClauses merge set w end room from out o out' used o' k' = (p : Problem) (f : Fixed) (ss : List Stmt) → Numbered merge p f ss set w end room from out o → ClausesOf merge p ss room out o out' used o' k'

-- ---- the answer, into a part of the output

pub record Writes (p : Problem) (f : Fixed) (ss : List Stmt) (set w : List ℤ) (b i end : ℕ) (out : List ℤ) : Type 0 where
  pub held : Held p f ss set w i end
  pub bools : b ≡ p.bools
  pub part : length out ≤ max_answer_words

pub record SomeWrites (set w : List ℤ) (b i end : ℕ) (out : List ℤ) : Type 0 where
  pub it : Problem
  pub fixed : Fixed
  pub stmts : List Stmt
  pub writes : Writes it fixed stmts set w b i end out

-- the words ws are longer than the slice, and so is the number r; or it is their number, and they are written
pub record Fills (ws out out' : List ℤ) (r : ℕ) : Type 0 where
  pub long : length out < r → length out < length ws
  pub exact : r ≤ length out → r ≡ length ws
  pub words : r ≤ length out → out' ≡ sets out 0 ws

-- merge: what was chosen
abbrev pub WrittenAnswer : Bool → List ℤ → List ℤ → ℕ → ℕ → ℕ → List ℤ → List ℤ → ℕ → Type 0
WrittenAnswer merge set w b i end out out' r = (p : Problem) (f : Fixed) (ss : List Stmt) → Writes p f ss set w b i end out → Fills (layout (normalize merge p f ss)) out out' r

-- ---- the answer, into the output

pub record Emits (p : Problem) (f : Fixed) (ss : List Stmt) (set w : List ℤ) (b i end : ℕ) (out : List ℤ) : Type 0 where
  pub held : Held p f ss set w i end
  pub bools : b ≡ p.bools
  pub zeroed : out ≡ zeros (length out)

pub record SomeEmits (set w : List ℤ) (b i end : ℕ) (out : List ℤ) : Type 0 where
  pub it : Problem
  pub fixed : Fixed
  pub stmts : List Stmt
  pub emits : Emits it fixed stmts set w b i end out

abbrev pub EmitPost : Bool → List ℤ → List ℤ → ℕ → ℕ → ℕ → List ℤ → List ℤ → Answer → Type 0
EmitPost merge set w b i end out out' r = (p : Problem) (f : Fixed) (ss : List Stmt) → Emits p f ss set w b i end out → Gives (measured (length out) (layout (normalize merge p f ss))) (length out) out' r
