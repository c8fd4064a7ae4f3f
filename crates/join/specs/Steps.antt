-- What the functions below the entries ask and give. Assumes nothing.
use Rattle.std.specs.Prelude.{◌≡◌, Result, Ok, Err, List, ℕ, ◌+◌, ◌≤◌, ◌<◌, ℤ, length, get_or}
use Rattle.std.proofs.lemmas.List.Edits.{sets}
use Rattle.syntax.specs.Syntax.{Domain, Stmt, encode_stmt, Problem, encode}
use Rattle.reader.specs.declared.Declared.{Declared}
use Rattle.accept.specs.Walk.{Bounds, StmtAt, StmtsAt}
use Rattle.accept.specs.Taken.{Taken}
use Rattle.join.specs.Join.{both, Agreement, agreed, refusal, compared, agreement, Found, nowhere, placed, statements_place}
use Rattle.join.specs.declared.Pair.{Pair}

-- ---- two sets that agree, in the code's values

abbrev pub pair_of : Problem → Problem → Pair
pair_of p q = record { ints = length p.domains; at = statements_place p; first = length p.stmts; second = length q.stmts; words = length (encode (both p q)) }

unfoldable pub agreed_of : Agreement → Result Pair ℕ
agreed_of (agreed p q) = Ok (pair_of p q)
agreed_of (refusal k) = Err k

-- two sets that 1 to 11 let through
pub record ReadyBoth (first second : List ℤ) (d e : Declared) : Type 0 where
  pub size : ℕ
  pub left : Taken size first d
  pub right : Taken size second e

abbrev pub ComparePost : (first second : List ℤ) (d e : Declared) → Result Pair ℕ → Type 0
ComparePost first second d e r = (n : ℕ) (a : Taken n first d) (b : Taken n second e) → r ≡ agreed_of (compared a.it b.it)

-- for all words and lengths; where the sets agree, the bounds of their integers stand in the work slice
pub record AgreePost (first second work work' : List ℤ) (r : Result Pair ℕ) : Type 0 where
  pub answer : r ≡ agreed_of (agreement first second (length work))
  pub bounds : (p q : Problem) → agreement first second (length work) ≡ agreed p q → Bounds work' p.domains

-- ---- writing the joined words

pub record ReadyWrite (first second : List ℤ) (d : Pair) (buffer : List ℤ) : Type 0 where
  pub size : ℕ
  pub left : Problem
  pub right : Problem
  pub agrees : agreement first second size ≡ agreed left right
  pub pair_is : d ≡ pair_of left right
  pub room : length (encode (both left right)) ≤ length buffer

abbrev pub WritePost : (first second : List ℤ) (buffer buffer' : List ℤ) → Type 0
WritePost first second buffer buffer' = (n : ℕ) (p q : Problem) → agreement first second n ≡ agreed p q → buffer' ≡ sets buffer 0 (encode (both p q))

-- ---- one of a set's statements, from 0

-- statements that stand from `at` on
pub record Listed (ws work : List ℤ) (at ni : ℕ) (ds : List Domain) (ss : List Stmt) : Type 0 where
  pub bounds : Bounds work ds
  pub few : ni ≡ length ds
  pub reads : StmtsAt ni ws at (length ss) ss

pub record ReadyNth (ws work : List ℤ) (at ni k : ℕ) : Type 0 where
  pub ds : List Domain
  pub them : List Stmt
  pub listed : Listed ws work at ni ds them
  pub below : k < length them

-- the statement at r is the k-th
pub record Nth (ws : List ℤ) (at ni : ℕ) (ds : List Domain) (ss : List Stmt) (k r : ℕ) : Type 0 where
  pub it : Stmt
  pub reads : StmtAt ni ws r it
  pub found : (f : ℕ → Stmt → Found) → get_or (placed f at ss) k nowhere ≡ f r it

abbrev pub NthPost : (ws work : List ℤ) (at ni k r : ℕ) → Type 0
NthPost ws work at ni k r = (ds : List Domain) (ss : List Stmt) → Listed ws work at ni ds ss → k < length ss → Nth ws at ni ds ss k r

-- and ends at e
pub record Part (at : ℕ) (ss : List Stmt) (k from e : ℕ) : Type 0 where
  pub it : Stmt
  pub end : e ≡ from + length (encode_stmt it)
  pub found : (f : ℕ → Stmt → Found) → get_or (placed f at ss) k nowhere ≡ f from it

abbrev pub PartPost : (ws work : List ℤ) (at ni k from e : ℕ) → Type 0
PartPost ws work at ni k from e = (ds : List Domain) (ss : List Stmt) → Listed ws work at ni ds ss → k < length ss → Part at ss k from e

-- two sets that agree, the bounds in the work slice
pub record ReadyFind (first second work : List ℤ) (d : Pair) : Type 0 where
  pub left : Problem
  pub right : Problem
  pub agrees : agreement first second (length work) ≡ agreed left right
  pub pair_is : d ≡ pair_of left right
  pub bounds : Bounds work left.domains
