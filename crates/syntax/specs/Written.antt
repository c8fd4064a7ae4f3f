-- The variables that an expression writes: a property of each declared Boolean (P), of each integer (Q) and of each emitted number (N).
-- With v < B and v < I it says that all are declared; N is false of what reading makes, and left out where it does not matter.
use Rattle.std.specs.Prelude.{◌≡◌, true, ℕ, ◌<◌, length}
use mathlib.Core.List.{List, [], ◌∷◌}
use Rattle.laws.specs.Lists.{all_below}
use Rattle.syntax.specs.Syntax.{Domain, in_domain, domain_of, IntExpr, IConst, IVar, Linear, If, Terms, tnil, tmore, BoolExpr, Const, Var, NVar, And, Or, Not, Xor, Iff, Imp, Cmp, Members, mnil, more, Stmt, Rule, Table, AllDifferent, Problem}
use Rattle.syntax.specs.Satisfies.{IVal, in_domains}

module _ (N P Q : ℕ → Type 0) where
  unfoldable mutual
    pub EveryIntOf : IntExpr → Type 0
    EveryIntOf (IConst c) = Unit {0}
    EveryIntOf (IVar v) = Q v
    EveryIntOf (Linear ts) = EveryTermOf ts
    EveryIntOf (If i c t f) = EveryOf c × (EveryIntOf t × EveryIntOf f)

    pub EveryTermOf : Terms → Type 0
    EveryTermOf tnil = Unit {0}
    EveryTermOf (tmore k e ts) = EveryIntOf e × EveryTermOf ts

    pub EveryOf : BoolExpr → Type 0
    EveryOf (Const b) = Unit {0}
    EveryOf (Var v) = P v
    EveryOf (NVar n) = N n
    EveryOf (And ms) = EveryMemberOf ms
    EveryOf (Or ms) = EveryMemberOf ms
    EveryOf (Not e) = EveryOf e
    EveryOf (Xor a b) = EveryOf a × EveryOf b
    EveryOf (Iff a b) = EveryOf a × EveryOf b
    EveryOf (Imp a b) = EveryOf a × EveryOf b
    EveryOf (Cmp o a b) = EveryIntOf a × EveryIntOf b

    pub EveryMemberOf : Members → Type 0
    EveryMemberOf mnil = Unit {0}
    EveryMemberOf (more e ms) = EveryOf e × EveryMemberOf ms

  unfoldable pub EveryColumnOf : List IntExpr → Type 0
  EveryColumnOf [] = Unit {0}
  EveryColumnOf (e ∷ es) = EveryIntOf e × EveryColumnOf es

-- any emitted number; none
abbrev pub Any : ℕ → Type 0
Any n = Unit {0}

abbrev pub None : ℕ → Type 0
None n = ⊥

-- of integers alone
module _ (Q : ℕ → Type 0) where
  abbrev pub EveryInt : IntExpr → Type 0
  EveryInt e = EveryIntOf Any Any Q e

  abbrev pub EveryTerm : Terms → Type 0
  EveryTerm ts = EveryTermOf Any Any Q ts

  abbrev pub EveryColumn : List IntExpr → Type 0
  EveryColumn es = EveryColumnOf Any Any Q es

module _ (P Q : ℕ → Type 0) where
  abbrev pub Every : BoolExpr → Type 0
  Every e = EveryOf Any P Q e

  abbrev pub EveryMember : Members → Type 0
  EveryMember ms = EveryMemberOf Any P Q ms

  unfoldable pub EveryStmt : Stmt → Type 0
  EveryStmt (Rule e) = Every e
  EveryStmt (Table es rows) = EveryColumnOf Any P Q es
  EveryStmt (AllDifferent es) = EveryColumnOf Any P Q es

  unfoldable pub EveryStmts : List Stmt → Type 0
  EveryStmts [] = Unit {0}
  EveryStmts (s ∷ ss) = EveryStmt s × EveryStmts ss

-- every variable that a set's statements write is declared
abbrev pub AllDeclared : Problem → Type 0
AllDeclared p = EveryStmts (λ v. v < p.bools) (λ v. v < length p.domains) p.stmts

-- ---- a weaker property

module _ (N P Q N' P' Q' : ℕ → Type 0) (toN : (n : ℕ) → N n → N' n) (toP : (v : ℕ) → P v → P' v) (toQ : (v : ℕ) → Q v → Q' v) where
  mutual
    unfolding EveryIntOf

    pub every_int_map : (e : IntExpr) → EveryIntOf N P Q e → EveryIntOf N' P' Q' e
    every_int_map (IConst c) h = tt
    every_int_map (IVar v) h = toQ v h
    every_int_map (Linear ts) h = every_term_map ts h
    every_int_map (If i c t f) h = (every_map c h.0, (every_int_map t h.1.0, every_int_map f h.1.1))

    pub every_term_map : (ts : Terms) → EveryTermOf N P Q ts → EveryTermOf N' P' Q' ts
    every_term_map tnil h = tt
    every_term_map (tmore k e ts) h = (every_int_map e h.0, every_term_map ts h.1)

    pub every_map : (e : BoolExpr) → EveryOf N P Q e → EveryOf N' P' Q' e
    every_map (Const b) h = tt
    every_map (Var v) h = toP v h
    every_map (NVar n) h = toN n h
    every_map (And ms) h = every_member_map ms h
    every_map (Or ms) h = every_member_map ms h
    every_map (Not e) h = every_map e h
    every_map (Xor a b) h = (every_map a h.0, every_map b h.1)
    every_map (Iff a b) h = (every_map a h.0, every_map b h.1)
    every_map (Imp a b) h = (every_map a h.0, every_map b h.1)
    every_map (Cmp o a b) h = (every_int_map a h.0, every_int_map b h.1)

    pub every_member_map : (ms : Members) → EveryMemberOf N P Q ms → EveryMemberOf N' P' Q' ms
    every_member_map mnil h = tt
    every_member_map (more e ms) h = (every_map e h.0, every_member_map ms h.1)

  pub every_column_map : (es : List IntExpr) → EveryColumnOf N P Q es → EveryColumnOf N' P' Q' es
  unfolding EveryColumnOf
  every_column_map [] h = tt
  every_column_map (e ∷ es) h = (every_int_map e h.0, every_column_map es h.1)

-- what is said of Booleans left out
module _ (N P Q : ℕ → Type 0) where
  pub ints_of : (e : IntExpr) → EveryIntOf N P Q e → EveryInt Q e
  ints_of e h = every_int_map N P Q Any Any Q (λ n k. tt) (λ v k. tt) (λ v k. k) e h

  pub columns_of : (es : List IntExpr) → EveryColumnOf N P Q es → EveryColumn Q es
  columns_of es h = every_column_map N P Q Any Any Q (λ n k. tt) (λ v k. tt) (λ v k. k) es h

module _ (P Q P' Q' : ℕ → Type 0) (toP : (v : ℕ) → P v → P' v) (toQ : (v : ℕ) → Q v → Q' v) where
  pub every_stmt_map : (s : Stmt) → EveryStmt P Q s → EveryStmt P' Q' s
  unfolding EveryStmt
  every_stmt_map (Rule e) h = every_map Any P Q Any P' Q' (λ n k. k) toP toQ e h
  every_stmt_map (Table es rows) h = every_column_map Any P Q Any P' Q' (λ n k. k) toP toQ es h
  every_stmt_map (AllDifferent es) h = every_column_map Any P Q Any P' Q' (λ n k. k) toP toQ es h

  pub every_stmts_map : (ss : List Stmt) → EveryStmts P Q ss → EveryStmts P' Q' ss
  unfolding EveryStmts
  every_stmts_map [] h = tt
  every_stmts_map (s ∷ ss) h = (every_stmt_map s h.0, every_stmts_map ss h.1)

-- ---- no property at all

mutual
  unfolding EveryIntOf

  any_int : (e : IntExpr) → EveryInt Any e
  any_int (IConst c) = tt
  any_int (IVar v) = tt
  any_int (Linear ts) = any_terms ts
  any_int (If i c t f) = (any_bool c, (any_int t, any_int f))

  any_terms : (ts : Terms) → EveryTerm Any ts
  any_terms tnil = tt
  any_terms (tmore k e ts) = (any_int e, any_terms ts)

  pub any_bool : (e : BoolExpr) → Every Any Any e
  any_bool (Const b) = tt
  any_bool (Var v) = tt
  any_bool (NVar n) = tt
  any_bool (And ms) = any_members ms
  any_bool (Or ms) = any_members ms
  any_bool (Not e) = any_bool e
  any_bool (Xor a b) = (any_bool a, any_bool b)
  any_bool (Iff a b) = (any_bool a, any_bool b)
  any_bool (Imp a b) = (any_bool a, any_bool b)
  any_bool (Cmp o a b) = (any_int a, any_int b)

  pub any_members : (ms : Members) → EveryMember Any Any ms
  any_members mnil = tt
  any_members (more e ms) = (any_bool e, any_members ms)

any_columns : (es : List IntExpr) → EveryColumn Any es
unfolding EveryColumnOf
any_columns [] = tt
any_columns (e ∷ es) = (any_int e, any_columns es)

pub any_stmts : (ss : List Stmt) → EveryStmts Any Any ss
unfolding EveryStmts EveryStmt
any_stmts [] = tt
any_stmts (Rule e ∷ ss) = (any_bool e, any_stmts ss)
any_stmts (Table es rows ∷ ss) = (any_columns es, any_stmts ss)
any_stmts (AllDifferent es ∷ ss) = (any_columns es, any_stmts ss)

-- ---- every declared integer has a value of its domain

-- the value of an integer is in its domain
abbrev pub Within : List Domain → IVal → ℕ → Type 0
Within ds ε v = in_domain (ε v) (domain_of ds v) ≡ true

pub in_domains_within : (p : Problem) (ε : IVal) → in_domains p ε ≡ true → (v : ℕ) → v < length p.domains → Within p.domains ε v
unfolding in_domains
in_domains_within p ε h v b = all_below (λ v. in_domain (ε v) (domain_of p.domains v)) (length p.domains) v h b

pub in_domains_every : (p : Problem) (ε : IVal) → in_domains p ε ≡ true → AllDeclared p → EveryStmts (λ v. v < p.bools) (Within p.domains ε) p.stmts
in_domains_every p ε h d = every_stmts_map (λ v. v < p.bools) (λ v. v < length p.domains) (λ v. v < p.bools) (Within p.domains ε) (λ v k. k) (in_domains_within p ε h) p.stmts d
