-- When an assignment satisfies a set, in whole numbers.
use Rattle.std.specs.Prelude.{Bool, true, false, not, ◌&&◌, ◌||◌, cond, List, [], ◌∷◌, map, ℕ, ℤ, pos, ◌+ℤ◌, ◌*ℤ◌, length}
use Rattle.std.specs.Bool.{beq}
use Rattle.std.specs.Int.Signed.{lt_z, le_z}
use Rattle.laws.specs.Ints.{eqZ}
use Rattle.laws.specs.Lists.{any, all, below}
use Rattle.syntax.specs.Syntax.{in_domain, domain_of, CmpOp, Eq, Ne, Le, Lt, Ge, Gt, IntExpr, IConst, IVar, Linear, If, Terms, tnil, tmore, BoolExpr, Const, Var, NVar, And, Or, Not, Xor, Iff, Imp, Cmp, Members, mnil, more, Cell, star, value, Stmt, Rule, Table, AllDifferent, Problem}

-- values of Booleans and of integers, by their numbers
abbrev pub Val : Type 0
Val = ℕ → Bool

abbrev pub IVal : Type 0
IVal = ℕ → ℤ

abbrev pub compare : CmpOp → ℤ → ℤ → Bool
compare Eq x y = eqZ x y
compare Ne x y = not (eqZ x y)
compare Le x y = le_z x y
compare Lt x y = lt_z x y
compare Ge x y = le_z y x
compare Gt x y = lt_z y x

abbrev pub permits : Cell → ℤ → Bool
permits star x = true
permits (value c) x = eqZ c x

-- the values differ pairwise
unfoldable pub distinct : List ℤ → Bool
distinct [] = true
distinct (x ∷ xs) = not (any (eqZ x) xs) && distinct xs

-- δ, ε: the declared variables. ρ: the emitted numbers, which only splitting writes
module _ (δ : Val) (ε : IVal) (ρ : Val) where
  unfoldable mutual
    pub int_value : IntExpr → ℤ
    int_value (IConst c) = c
    int_value (IVar v) = ε v
    int_value (Linear ts) = terms_value ts
    int_value (If i c t f) = cond (holds c) (int_value t) (int_value f)

    pub terms_value : Terms → ℤ
    terms_value tnil = pos 0
    terms_value (tmore k e ts) = k *ℤ int_value e +ℤ terms_value ts

    pub holds : BoolExpr → Bool
    holds (Const b) = b
    holds (Var v) = δ v
    holds (NVar n) = ρ n
    holds (And ms) = holds_all ms
    holds (Or ms) = holds_any ms
    holds (Not e) = not (holds e)
    holds (Xor a b) = not (beq (holds a) (holds b))
    holds (Iff a b) = beq (holds a) (holds b)
    holds (Imp a b) = not (holds a) || holds b
    holds (Cmp o a b) = compare o (int_value a) (int_value b)

    pub holds_all : Members → Bool
    holds_all mnil = true
    holds_all (more e ms) = holds e && holds_all ms

    pub holds_any : Members → Bool
    holds_any mnil = false
    holds_any (more e ms) = holds e || holds_any ms

  abbrev pub row_holds : List IntExpr → List Cell → Bool
  row_holds [] cs = true
  row_holds (e ∷ es) [] = true
  row_holds (e ∷ es) (c ∷ cs) = permits c (int_value e) && row_holds es cs

  unfoldable pub stmt_holds : Stmt → Bool
  stmt_holds (Rule e) = holds e
  stmt_holds (Table es rows) = any (row_holds es) rows
  stmt_holds (AllDifferent es) = distinct (map int_value es)

-- every declared integer has a value of its domain
unfoldable pub in_domains : Problem → IVal → Bool
in_domains p ε = all (λ v. in_domain (ε v) (domain_of p.domains v)) (below (length p.domains))

unfoldable pub satisfies : Problem → Val → IVal → Bool
satisfies p δ ε = all (stmt_holds δ ε (λ n. false)) p.stmts
