-- An AllDifferent of a set among whose expressions Ifs may stand, numbered again and written: what it asks and gives, by the log before and behind it.
use Rattle.std.specs.Prelude.{◌≡◌, Bool, true, List, ◌∷◌, ℕ, ◌+◌, ◌*◌, ◌≤◌, ◌<◌, ℤ, length}
use Rattle.laws.specs.Slices.{Has}
use Rattle.memory.specs.Places.{folded, folded_end, limit}
use Rattle.syntax.specs.Syntax.{Domain, IntExpr, Stmt, AllDifferent, encode_stmt}
use Rattle.words.specs.Exact.{Each}
use Rattle.clauses.specs.Log.{Log}
use Rattle.clauses.proofs.Since.{clauses_since}
use Rattle.answer.specs.Answer.{normalize_stmt}
use Rattle.walk.specs.Decode.{read_part}
use Rattle.walks.specs.Leaves.{words_of}
use Rattle.walks.specs.SumsFit.{WithinPairs}
use Rattle.declared.specs.DomainTable.{Declares}
use Rattle.stages.specs.StatementsParts.{Standing}
use Rattle.stages.specs.StatementsPlaces.{LegalStmt, PartedFrom, Marked}
use Rattle.numbering.specs.declared.Progress.{Progress}
use Rattle.numbering.specs.declared.Room.{Room}
use Rattle.numbering.specs.Task.{skip, state_of}
use Rattle.numbering.specs.Tasks.{stmt_task}
use Rattle.rows.specs.Emit.{Clauses}
use Rattle.differing.specs.Values.{Over}

-- the declared domains, its expressions, the statements behind it, the places of Ifs with split parts, where the statements end, the log before it
pub record Place : Type 0 where
  pub domains : List Domain
  pub exprs : List IntExpr
  pub later : List Stmt
  pub parted : ℕ → Bool
  pub end : ℕ
  pub before : Log

abbrev pub stmt : Place → Stmt
stmt x = AllDifferent x.exprs

-- the log behind it
abbrev pub after : Place → Log
after x = normalize_stmt x.domains (stmt x) x.before

-- it stands at q in the work slice w; the state before it is such as the first walk asks, with room for n numbers behind it
pub record Walked (x : Place) (set w none : List ℤ) (q : ℕ) (room : Room) (c : Progress) (n : ℕ) : Type 0 where
  pub over : Over set w (q + 2) (length x.exprs) x.domains x.exprs
  pub within : WithinPairs x.domains x.exprs
  pub declares : Declares x.domains w
  pub legal : Each LegalStmt (stmt x ∷ x.later)
  pub split : PartedFrom x.parted q (stmt x ∷ x.later)
  pub words : Has (read_part w) q (encode_stmt (stmt x))
  pub marked : Marked (read_part w) x.end true
  pub from : folded ≤ q
  pub to : q + length (encode_stmt (stmt x)) ≤ x.end
  pub inside : x.end ≤ folded_end
  pub records : room.records ≤ limit
  pub low : room.cap < limit
  pub standing : Standing x.domains (read_part w) x.parted room.records room.cap true none low q (49152 * length (encode_stmt (stmt x)) + n) (state_of w none c) x.before
  pub used : c.used ≤ words_of x.before
  pub fits : (stmt_task room.records room.cap (read_part w) q (stmt x) skip).fits x.domains (state_of w none c)

pub record SomeWalked (set w none : List ℤ) (q : ℕ) (room : Room) (c : Progress) : Type 0 where
  pub place : Place
  pub spare : ℕ
  pub it : Walked place set w none q room c spare

-- behind a walk that is not full: the state, and its clauses behind k others
pub record Rewrote (x : Place) (w none : List ℤ) (q : ℕ) (room : Room) (low : room.cap < limit) (n : ℕ) (out : List ℤ) (o k : ℕ) (w' none' out' : List ℤ) (c : Progress) (o' k' : ℕ) : Type 0 where
  pub standing : Standing x.domains (read_part w) x.parted room.records room.cap true none low (q + length (encode_stmt (stmt x))) n (state_of w' none' c) (after x)
  pub clauses : Clauses out o k (clauses_since x.before (after x)) out' o' k'

pub record DidAgain (x : Place) (w none : List ℤ) (q : ℕ) (room : Room) (low : room.cap < limit) (n : ℕ) (out : List ℤ) (o k : ℕ) (w' none' out' : List ℤ) (c : Progress) (o' k' : ℕ) : Type 0 where
  pub used : c.used ≤ words_of (after x)
  pub rewrote : c.used ≤ room.cap → Rewrote x w none q room low n out o k w' none' out' c o' k'

-- whatever AllDifferent stands there
pub record Rewrites (set w none : List ℤ) (q : ℕ) (room : Room) (c : Progress) (out : List ℤ) (o k : ℕ) (w' none' out' : List ℤ) (c' : Progress) (o' k' : ℕ) : Type 0 where
  pub did : (x : Place) (n : ℕ) (h : Walked x set w none q room c n) → DidAgain x w none q room h.low n out o k w' none' out' c' o' k'
  pub domains : (ds : List Domain) → Declares ds w → Declares ds w'
  pub size : length w' ≡ length w
  pub none_size : length none' ≡ length none
  pub out_size : length out' ≡ length out
