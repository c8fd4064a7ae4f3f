-- What passing over expressions asks and gives: at the place stand the words of an expression that reading made.
use Rattle.std.specs.Prelude.{ℕ, ◌+◌, ◌≡◌, List, ℤ, length}
use Rattle.laws.specs.Slices.{Has}
use Rattle.syntax.specs.Syntax.{IntExpr, IConst, IVar, Linear, If, Terms, tnil, BoolExpr, Const, Var, NVar, And, Or, Not, Xor, Iff, Imp, Cmp, Members, mnil, more, count_terms, count_members, encode_int, encode_terms, encode_bool, encode_members}
use Rattle.fold.proofs.Forms.{IntIsDeclared, DeclaredTerms, Declared, DeclaredMembers}

pub record IntAt (nb ni : ℕ) (ws : List ℤ) (at : ℕ) (e : IntExpr) : Type 0 where
  pub words : Has ws at (encode_int e)
  pub vars : IntIsDeclared nb ni e

pub record TermsAt (nb ni : ℕ) (ws : List ℤ) (at n : ℕ) (ts : Terms) : Type 0 where
  pub words : Has ws at (encode_terms ts)
  pub vars : DeclaredTerms nb ni ts
  pub size : n ≡ count_terms ts

pub record BoolAt (nb ni : ℕ) (ws : List ℤ) (at : ℕ) (e : BoolExpr) : Type 0 where
  pub words : Has ws at (encode_bool e)
  pub vars : Declared nb ni e

pub record MembersAt (nb ni : ℕ) (ws : List ℤ) (at n : ℕ) (ms : Members) : Type 0 where
  pub words : Has ws at (encode_members ms)
  pub vars : DeclaredMembers nb ni ms
  pub size : n ≡ count_members ms

pub record SomeInt (ws : List ℤ) (at : ℕ) : Type 0 where
  pub bools : ℕ
  pub ints : ℕ
  pub it : IntExpr
  pub stands : IntAt bools ints ws at it

pub record SomeTerms (ws : List ℤ) (at n : ℕ) : Type 0 where
  pub bools : ℕ
  pub ints : ℕ
  pub them : Terms
  pub stand : TermsAt bools ints ws at n them

pub record SomeBool (ws : List ℤ) (at : ℕ) : Type 0 where
  pub bools : ℕ
  pub ints : ℕ
  pub it : BoolExpr
  pub stands : BoolAt bools ints ws at it

pub record SomeMembers (ws : List ℤ) (at n : ℕ) : Type 0 where
  pub bools : ℕ
  pub ints : ℕ
  pub them : Members
  pub stand : MembersAt bools ints ws at n them

-- ---- integers: an expression's own words, all of an If's, then the terms of a sum

abbrev pub own_int : IntExpr → ℕ
own_int (IConst c) = 2
own_int (IVar v) = 2
own_int (Linear ts) = 2
own_int (If i c t f) = length (encode_int (If i c t f))

abbrev pub body : IntExpr → Terms
body (IConst c) = tnil
body (IVar v) = tnil
body (Linear ts) = ts
body (If i c t f) = tnil

abbrev pub IntStepPost : List ℤ → ℕ → ℕ → ℕ → Type 0
IntStepPost ws at next n = (nb ni : ℕ) (e : IntExpr) → IntAt nb ni ws at e → (next ≡ at + own_int e) × (n ≡ count_terms (body e))

abbrev pub SkipPost : List ℤ → ℕ → ℕ → Type 0
SkipPost ws at r = (nb ni : ℕ) (e : IntExpr) → IntAt nb ni ws at e → r ≡ at + length (encode_int e)

abbrev pub SkipTermsPost : List ℤ → ℕ → ℕ → ℕ → Type 0
SkipTermsPost ws at n r = (nb ni : ℕ) (ts : Terms) → TermsAt nb ni ws at n ts → r ≡ at + length (encode_terms ts)

-- ---- Booleans: an expression's own words, a comparison's sides among them, then the expressions in it

abbrev pub own_bool : BoolExpr → ℕ
own_bool (Const b) = 2
own_bool (Var v) = 2
own_bool (NVar n) = 1
own_bool (And ms) = 2
own_bool (Or ms) = 2
own_bool (Not e) = 1
own_bool (Xor a b) = 1
own_bool (Iff a b) = 1
own_bool (Imp a b) = 1
own_bool (Cmp o a b) = 2 + (length (encode_int a) + length (encode_int b))

abbrev pub inner : BoolExpr → Members
inner (Const b) = mnil
inner (Var v) = mnil
inner (NVar n) = mnil
inner (And ms) = ms
inner (Or ms) = ms
inner (Not e) = more e mnil
inner (Xor a b) = more a (more b mnil)
inner (Iff a b) = more a (more b mnil)
inner (Imp a b) = more a (more b mnil)
inner (Cmp o a b) = mnil

abbrev pub BoolStepPost : List ℤ → ℕ → ℕ → ℕ → Type 0
BoolStepPost ws at next n = (nb ni : ℕ) (e : BoolExpr) → BoolAt nb ni ws at e → (next ≡ at + own_bool e) × (n ≡ count_members (inner e))

abbrev pub SkipMembersPost : List ℤ → ℕ → ℕ → ℕ → Type 0
SkipMembersPost ws at n r = (nb ni : ℕ) (ms : Members) → MembersAt nb ni ws at n ms → r ≡ at + length (encode_members ms)
