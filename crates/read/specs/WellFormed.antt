-- What document 01 asks of a set's parts: counts and values within limits, indices declared, domains not empty and rising,
-- at most 64 levels, no emitted number, every row as wide as its table. Refusals 3 to 8 are all that it rules out.
use Rattle.std.specs.Prelude.{◌≡◌, true, List, [], ◌∷◌, ℕ, ◌-◌, ◌≤◌, ◌<◌, ℤ, length}
use Rattle.std.specs.Int.Signed.{lt_z, le_z}
use Rattle.syntax.specs.Words.{max_bools, max_ints, max_count, max_depth}
use Rattle.syntax.specs.Syntax.{count_terms, count_members, Domain, Range, Enumerative, IntExpr, IConst, IVar, Linear, If, Terms, tnil, tmore, BoolExpr, Const, Var, NVar, And, Or, Not, Xor, Iff, Imp, Cmp, Members, mnil, more, Cell, star, value, Stmt, Rule, Table, AllDifferent, Problem}
use Rattle.words.specs.Exact.{Value, Each}

-- each value above the one before it
abbrev pub RisingFrom : ℤ → List ℤ → Type 0
RisingFrom before [] = Unit {0}
RisingFrom before (x ∷ xs) = (lt_z before x ≡ true) × RisingFrom x xs

abbrev pub Rising : List ℤ → Type 0
Rising [] = Unit {0}
Rising (x ∷ xs) = RisingFrom x xs

abbrev pub WellDomain : Domain → Type 0
WellDomain (Range low high) = Value low × Value high × (le_z low high ≡ true)
WellDomain (Enumerative xs) = (0 < length xs) × (length xs ≤ max_count) × Each Value xs × Rising xs

-- nb and ni: how many Boolean and integer variables are declared. At most `left` levels, the expression's own among them
module _ (nb ni : ℕ) where
  unfoldable mutual
    pub WellInt : ℕ → IntExpr → Type 0
    WellInt left (IConst c) = (0 < left) × Value c
    WellInt left (IVar v) = (0 < left) × (v < ni)
    WellInt left (Linear ts) = (0 < left) × (count_terms ts ≤ max_count) × WellTerms (left - 1) ts
    WellInt left (If i c t f) = (0 < left) × WellBool (left - 1) c × WellInt (left - 1) t × WellInt (left - 1) f

    pub WellTerms : ℕ → Terms → Type 0
    WellTerms left tnil = Unit {0}
    WellTerms left (tmore k e ts) = Value k × WellInt left e × WellTerms left ts

    pub WellBool : ℕ → BoolExpr → Type 0
    WellBool left (Const b) = 0 < left
    WellBool left (Var v) = (0 < left) × (v < nb)
    WellBool left (NVar n) = ⊥
    WellBool left (And ms) = (0 < left) × (count_members ms ≤ max_count) × WellMembers (left - 1) ms
    WellBool left (Or ms) = (0 < left) × (count_members ms ≤ max_count) × WellMembers (left - 1) ms
    WellBool left (Not e) = (0 < left) × WellBool (left - 1) e
    WellBool left (Xor a b) = (0 < left) × WellBool (left - 1) a × WellBool (left - 1) b
    WellBool left (Iff a b) = (0 < left) × WellBool (left - 1) a × WellBool (left - 1) b
    WellBool left (Imp a b) = (0 < left) × WellBool (left - 1) a × WellBool (left - 1) b
    WellBool left (Cmp o a b) = (0 < left) × WellInt (left - 1) a × WellInt (left - 1) b

    pub WellMembers : ℕ → Members → Type 0
    WellMembers left mnil = Unit {0}
    WellMembers left (more e ms) = WellBool left e × WellMembers left ms

abbrev pub WellCell : Cell → Type 0
WellCell star = Unit {0}
WellCell (value c) = Value c

-- n cells
abbrev pub WellRow : ℕ → List Cell → Type 0
WellRow n cs = (length cs ≡ n) × Each WellCell cs

abbrev pub WellStmt : ℕ → ℕ → Stmt → Type 0
WellStmt nb ni (Rule e) = WellBool nb ni max_depth e
WellStmt nb ni (Table es rows) = (length es ≤ max_count) × (length rows ≤ max_count) × Each (WellInt nb ni max_depth) es × Each (WellRow (length es)) rows
WellStmt nb ni (AllDifferent es) = (length es ≤ max_count) × Each (WellInt nb ni max_depth) es

pub record WellFormed (p : Problem) : Type 0 where
  pub few_bools : p.bools ≤ max_bools
  pub few_ints : length p.domains ≤ max_ints
  pub few_stmts : length p.stmts ≤ max_count
  pub domains_well : Each WellDomain p.domains
  pub stmts_well : Each (WellStmt p.bools (length p.domains)) p.stmts
