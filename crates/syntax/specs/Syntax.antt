-- What a set of words says: domains, integer and Boolean expressions, statements; and the words of each (`encode`).
use Rattle.std.specs.Prelude.{Bool, true, false, ◌&&◌, cond, List, [], ◌∷◌, ◌++◌, map, ℕ, zero, suc, ℤ, pos, negsuc, nat_abs, ◌+ℤ◌, ◌-ℤ◌, length, get_or}
use Rattle.std.proofs.Math.Option.{Option, none, some}
use Rattle.std.proofs.Math.IntN.{suc_ℤ}
use Rattle.std.specs.Int.Signed.{le_z}
use Rattle.laws.specs.Ints.{eqZ}
use Rattle.laws.specs.Lists.{any, flat, counted}
use Rattle.syntax.specs.Words.{star_word}

-- ---- domains (domain.rs)

pub data Domain : Type 0 where
  Range : ℤ → ℤ → Domain
  Enumerative : List ℤ → Domain

abbrev pub last_or : ℤ → List ℤ → ℤ
last_or x [] = x
last_or x (y ∷ ys) = last_or y ys

-- lower_bound_checked, upper_bound_checked, num_candidates, as_constant, enumerate
abbrev pub lower_bound : Domain → ℤ
lower_bound (Range low high) = low
lower_bound (Enumerative []) = pos 1
lower_bound (Enumerative (x ∷ xs)) = x

abbrev pub upper_bound : Domain → ℤ
upper_bound (Range low high) = high
upper_bound (Enumerative []) = pos 0
upper_bound (Enumerative (x ∷ xs)) = last_or x xs

abbrev pub num_candidates : Domain → ℤ
num_candidates (Range low high) = (high -ℤ low) +ℤ pos 1
num_candidates (Enumerative xs) = pos (length xs)

abbrev pub as_constant : Domain → Option ℤ
as_constant (Range low high) = cond (eqZ low high) (some low) none
as_constant (Enumerative []) = none
as_constant (Enumerative (x ∷ [])) = some x
as_constant (Enumerative (x ∷ y ∷ xs)) = none

-- n values from x on
abbrev pub rising : ℤ → ℕ → List ℤ
rising x zero = []
rising x (suc n) = x ∷ rising (suc_ℤ x) n

abbrev pub enumerate : Domain → List ℤ
enumerate (Range low high) = rising low (nat_abs (num_candidates (Range low high)))
enumerate (Enumerative xs) = xs

abbrev pub in_domain : ℤ → Domain → Bool
in_domain x (Range low high) = le_z low x && le_z x high
in_domain x (Enumerative xs) = any (eqZ x) xs

-- the domain of a declared variable
abbrev pub domain_of : List Domain → ℕ → Domain
domain_of ds v = get_or ds v (Range (pos 0) (pos 0))

-- ---- expressions

pub data CmpOp : Type 0 where
  Eq Ne Le Lt Ge Gt : CmpOp

-- one value, which every If carries: it holds nothing, and says that code 23 is read
pub data IfIsRead : Type 0 where
  is_read : IfIsRead

-- If: a condition, the value where it holds, the value where it fails.
-- NVar is an emitted number: splitting makes it, reading never does
mutual
  pub data IntExpr : Type 0 where
    IConst : ℤ → IntExpr
    IVar : ℕ → IntExpr
    Linear : Terms → IntExpr
    If : IfIsRead → BoolExpr → IntExpr → IntExpr → IntExpr

  -- coefficient and expression for each term
  pub data Terms : Type 0 where
    tnil : Terms
    tmore : ℤ → IntExpr → Terms → Terms

  pub data BoolExpr : Type 0 where
    Const : Bool → BoolExpr
    Var : ℕ → BoolExpr
    NVar : ℕ → BoolExpr
    And : Members → BoolExpr
    Or : Members → BoolExpr
    Not : BoolExpr → BoolExpr
    Xor : BoolExpr → BoolExpr → BoolExpr
    Iff : BoolExpr → BoolExpr → BoolExpr
    Imp : BoolExpr → BoolExpr → BoolExpr
    Cmp : CmpOp → IntExpr → IntExpr → BoolExpr

  pub data Members : Type 0 where
    mnil : Members
    more : BoolExpr → Members → Members

-- ---- statements and sets

pub data Cell : Type 0 where
  star : Cell
  value : ℤ → Cell

pub data Stmt : Type 0 where
  Rule : BoolExpr → Stmt
  Table : List IntExpr → List (List Cell) → Stmt
  AllDifferent : List IntExpr → Stmt

pub record Problem : Type 0 where
  pub bools : ℕ
  pub domains : List Domain
  pub stmts : List Stmt

-- ---- the words

abbrev pub encode_domain : Domain → List ℤ
encode_domain (Range low high) = pos 0 ∷ low ∷ high ∷ []
encode_domain (Enumerative xs) = pos 1 ∷ pos (length xs) ∷ xs

abbrev pub encode_op : CmpOp → ℤ
encode_op Eq = pos 0
encode_op Ne = pos 1
encode_op Le = pos 2
encode_op Lt = pos 3
encode_op Ge = pos 4
encode_op Gt = pos 5

-- the operator of a number 0 to 5
abbrev pub op_at : ℕ → CmpOp
op_at zero = Eq
op_at (suc zero) = Ne
op_at (suc (suc zero)) = Le
op_at (suc (suc (suc zero))) = Lt
op_at (suc (suc (suc (suc zero)))) = Ge
op_at (suc (suc (suc (suc (suc n))))) = Gt

abbrev pub count_terms : Terms → ℕ
count_terms tnil = 0
count_terms (tmore k e ts) = suc (count_terms ts)

abbrev pub count_members : Members → ℕ
count_members mnil = 0
count_members (more e ms) = suc (count_members ms)

abbrev pub encode_bit : Bool → ℤ
encode_bit false = pos 0
encode_bit true = pos 1

-- no set holds an emitted number; it is written -(n + 1), so that different expressions have different words
unfoldable mutual
  pub encode_int : IntExpr → List ℤ
  encode_int (IConst c) = pos 20 ∷ c ∷ []
  encode_int (IVar v) = pos 21 ∷ pos v ∷ []
  encode_int (Linear ts) = pos 22 ∷ pos (count_terms ts) ∷ encode_terms ts
  encode_int (If i c t f) = pos 23 ∷ encode_bool c ++ (encode_int t ++ encode_int f)

  pub encode_terms : Terms → List ℤ
  encode_terms tnil = []
  encode_terms (tmore k e ts) = k ∷ encode_int e ++ encode_terms ts

  pub encode_bool : BoolExpr → List ℤ
  encode_bool (Const b) = pos 10 ∷ encode_bit b ∷ []
  encode_bool (Var v) = pos 11 ∷ pos v ∷ []
  encode_bool (NVar n) = negsuc n ∷ []
  encode_bool (And ms) = pos 12 ∷ pos (count_members ms) ∷ encode_members ms
  encode_bool (Or ms) = pos 13 ∷ pos (count_members ms) ∷ encode_members ms
  encode_bool (Not e) = pos 14 ∷ encode_bool e
  encode_bool (Xor a b) = pos 15 ∷ encode_bool a ++ encode_bool b
  encode_bool (Iff a b) = pos 16 ∷ encode_bool a ++ encode_bool b
  encode_bool (Imp a b) = pos 17 ∷ encode_bool a ++ encode_bool b
  encode_bool (Cmp o a b) = pos 18 ∷ encode_op o ∷ encode_int a ++ encode_int b

  pub encode_members : Members → List ℤ
  encode_members mnil = []
  encode_members (more e ms) = encode_bool e ++ encode_members ms

abbrev pub encode_cell : Cell → ℤ
encode_cell star = star_word
encode_cell (value x) = x

unfoldable pub encode_stmt : Stmt → List ℤ
encode_stmt (Rule e) = pos 1 ∷ encode_bool e
encode_stmt (Table es rows) = pos 2 ∷ pos (length es) ∷ pos (length rows) ∷ flat (map encode_int es) ++ flat (map (map encode_cell) rows)
encode_stmt (AllDifferent es) = pos 3 ∷ counted encode_int es

unfoldable pub encode : Problem → List ℤ
encode p = pos p.bools ∷ counted encode_domain p.domains ++ counted encode_stmt p.stmts
