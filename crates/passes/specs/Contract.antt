-- What requiring asks and gives.
use Rattle.std.specs.Prelude.{ℕ, ◌+◌, ◌≤◌, ◌≡◌, Bool, List, ℤ, length}
use Rattle.std.proofs.Math.Option.{Option}
use Rattle.syntax.specs.Words.{max_bools}
use Rattle.syntax.specs.Syntax.{BoolExpr, Members, encode_bool, encode_members}
use Rattle.fold.specs.Fold.{Fixed}
use Rattle.folding.specs.Steps.{Reads, ReadsMembers}
use Rattle.passes.specs.Want.{prop_want, members_want, Values, Propagates}

-- the expression stands above the fixed values in the same slice

pub record Stands (out : List ℤ) (at : ℕ) : Type 0 where
  pub fixed : Fixed
  pub values : Values out fixed
  pub ints : ℕ
  pub it : BoolExpr
  pub reads : Reads ints out at it
  pub low : max_bools ≤ at

pub record StandMembers (out : List ℤ) (at n : ℕ) : Type 0 where
  pub fixed : Fixed
  pub values : Values out fixed
  pub ints : ℕ
  pub them : Members
  pub reads : ReadsMembers ints out at n them
  pub low : max_bools ≤ at

abbrev pub ComparisonPost : List ℤ → ℕ → ℕ → Type 0
ComparisonPost ws at r = (ni : ℕ) (e : BoolExpr) → Reads ni ws at e → r ≡ at + length (encode_bool e)

pub record Requires (f : Fixed) (k : Option Bool) (e : BoolExpr) (out : List ℤ) (at : ℕ) (out' : List ℤ) (next status : ℕ) : Type 0 where
  pub nexts : next ≡ at + length (encode_bool e)
  pub props : Propagates (prop_want k e f) out out' status

pub record RequiresMembers (f : Fixed) (k : Option Bool) (ms : Members) (out : List ℤ) (at : ℕ) (out' : List ℤ) (next status : ℕ) : Type 0 where
  pub nexts : next ≡ at + length (encode_members ms)
  pub props : Propagates (members_want k ms f) out out' status

abbrev pub PropPost : List ℤ → ℕ → Option Bool → List ℤ → ℕ → ℕ → Type 0
PropPost out at want out' next status = (ni : ℕ) (f : Fixed) (e : BoolExpr) → Values out f → Reads ni out at e → max_bools ≤ at → Requires f want e out at out' next status

abbrev pub MembersPost : List ℤ → ℕ → ℕ → Option Bool → List ℤ → ℕ → ℕ → Type 0
MembersPost out at n want out' next status = (ni : ℕ) (f : Fixed) (ms : Members) → Values out f → ReadsMembers ni out at n ms → max_bools ≤ at → RequiresMembers f want ms out at out' next status
