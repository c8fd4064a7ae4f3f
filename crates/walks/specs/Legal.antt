-- Folded expressions within the limits.
use Rattle.std.specs.Prelude.{true, ℕ, ◌-◌, ◌≤◌, ◌<◌}
use Rattle.std.proofs.Common.{arith}
use Rattle.syntax.specs.Syntax.{IntExpr, IConst, IVar, Linear, If, Terms, tnil, tmore, BoolExpr, Const, Var, NVar, And, Or, Not, Xor, Iff, Imp, Cmp, Members, mnil, more, count_members}
use Rattle.syntax.specs.Written.{Any, None, EveryInt, EveryIntOf, EveryTermOf, EveryOf, EveryMemberOf}
use Rattle.syntax.specs.Words.{max_bools, max_ints}
use Rattle.clauses.proofs.Bounds.{expr_bound, members_bound, int_bound, terms_numbers}
use Rattle.walks.specs.Thirds.{most_three}
use Rattle.walks.specs.Plain.{Plain, PlainInt}

-- no constant, no number, two members at least, declared variables within l levels
unfoldable mutual
  pub LegalInt : IntExpr → ℕ → Type 0
  LegalInt (IConst c) l = 0 < l
  LegalInt (IVar v) l = (0 < l) × (v < max_ints)
  LegalInt (Linear ts) l = (0 < l) × LegalTerms ts (l - 1)
  LegalInt (If i c t f) l = (0 < l) × Legal c (l - 1) × LegalInt t (l - 1) × LegalInt f (l - 1)

  pub LegalTerms : Terms → ℕ → Type 0
  LegalTerms tnil l = Unit {0}
  LegalTerms (tmore k e ts) l = LegalInt e l × LegalTerms ts l

  pub Legal : BoolExpr → ℕ → Type 0
  Legal (Const b) l = ⊥
  Legal (Var v) l = (0 < l) × (v < max_bools)
  Legal (NVar n) l = ⊥
  Legal (And ms) l = (0 < l) × (2 ≤ count_members ms) × LegalMembers ms (l - 1)
  Legal (Or ms) l = (0 < l) × (2 ≤ count_members ms) × LegalMembers ms (l - 1)
  Legal (Not e) l = (0 < l) × Legal e (l - 1)
  Legal (Xor a b) l = (0 < l) × Legal a (l - 1) × Legal b (l - 1)
  Legal (Iff a b) l = (0 < l) × Legal a (l - 1) × Legal b (l - 1)
  Legal (Imp a b) l = (0 < l) × Legal a (l - 1) × Legal b (l - 1)
  Legal (Cmp o a b) l = (0 < l) × LegalInt a (l - 1) × LegalInt b (l - 1)

  pub LegalMembers : Members → ℕ → Type 0
  LegalMembers mnil l = Unit {0}
  LegalMembers (more e ms) l = Legal e l × LegalMembers ms l

-- a rule that the passes leave: true, or legal
pub data LegalRule : BoolExpr → ℕ → Type 0 where
  true_rule : {l : ℕ} → 0 < l → LegalRule (Const true) l
  legal_rule : {e : BoolExpr} {l : ℕ} → Legal e l → LegalRule e l

-- ---- it names no emitted number

mutual
  unfolding Legal expr_bound

  pub legal_bound : (e : BoolExpr) (l : ℕ) → Legal e l → expr_bound e ≤ 0
  legal_bound (Const b) l h = absurd h
  legal_bound (Var v) l h = omega arith
  legal_bound (NVar n) l h = absurd h
  legal_bound (And ms) l h = legal_members_bound ms (l - 1) h.2
  legal_bound (Or ms) l h = legal_members_bound ms (l - 1) h.2
  legal_bound (Not e) l h = legal_bound e (l - 1) h.1
  legal_bound (Xor a b) l h = omega (arith, legal_bound a (l - 1) h.1, legal_bound b (l - 1) h.2)
  legal_bound (Iff a b) l h = omega (arith, legal_bound a (l - 1) h.1, legal_bound b (l - 1) h.2)
  legal_bound (Imp a b) l h = omega (arith, legal_bound a (l - 1) h.1, legal_bound b (l - 1) h.2)
  legal_bound (Cmp o a b) l h = omega (arith, legal_int_bound a (l - 1) h.1, legal_int_bound b (l - 1) h.2)

  legal_members_bound : (ms : Members) (l : ℕ) → LegalMembers ms l → members_bound ms ≤ 0
  legal_members_bound mnil l h = omega arith
  legal_members_bound (more e ms) l h = omega (arith, legal_bound e l h.0, legal_members_bound ms l h.1)

  pub legal_int_bound : (e : IntExpr) (l : ℕ) → LegalInt e l → int_bound e ≤ 0
  legal_int_bound (IConst c) l h = omega arith
  legal_int_bound (IVar v) l h = omega arith
  legal_int_bound (Linear ts) l h = legal_terms_bound ts (l - 1) h.1
  legal_int_bound (If i c t f) l h = most_three (expr_bound c) (int_bound t) (int_bound f) 0 (legal_bound c (l - 1) h.1) (legal_int_bound t (l - 1) h.2) (legal_int_bound f (l - 1) h.3)

  legal_terms_bound : (ts : Terms) (l : ℕ) → LegalTerms ts l → terms_numbers ts ≤ 0
  legal_terms_bound tnil l h = omega arith
  legal_terms_bound (tmore k e ts) l h = omega (arith, legal_int_bound e l h.0, legal_terms_bound ts l h.1)

-- ---- its integers are declared, and it is plain

module _ (N Q : ℕ → Type 0) (q : (v : ℕ) → v < max_ints → Q v) where
  mutual
    unfolding Legal EveryIntOf

    every_bool : (e : BoolExpr) (l : ℕ) → Legal e l → EveryOf N Any Q e
    every_bool (Const b) l h = absurd h
    every_bool (Var v) l h = tt
    every_bool (NVar n) l h = absurd h
    every_bool (And ms) l h = every_member ms (l - 1) h.2
    every_bool (Or ms) l h = every_member ms (l - 1) h.2
    every_bool (Not e) l h = every_bool e (l - 1) h.1
    every_bool (Xor a b) l h = (every_bool a (l - 1) h.1, every_bool b (l - 1) h.2)
    every_bool (Iff a b) l h = (every_bool a (l - 1) h.1, every_bool b (l - 1) h.2)
    every_bool (Imp a b) l h = (every_bool a (l - 1) h.1, every_bool b (l - 1) h.2)
    every_bool (Cmp o a b) l h = (every_int a (l - 1) h.1, every_int b (l - 1) h.2)

    every_member : (ms : Members) (l : ℕ) → LegalMembers ms l → EveryMemberOf N Any Q ms
    every_member mnil l h = tt
    every_member (more e ms) l h = (every_bool e l h.0, every_member ms l h.1)

    every_int : (e : IntExpr) (l : ℕ) → LegalInt e l → EveryIntOf N Any Q e
    every_int (IConst c) l h = tt
    every_int (IVar v) l h = q v h.1
    every_int (Linear ts) l h = every_term ts (l - 1) h.1
    every_int (If i c t f) l h = (every_bool c (l - 1) h.1, (every_int t (l - 1) h.2, every_int f (l - 1) h.3))

    every_term : (ts : Terms) (l : ℕ) → LegalTerms ts l → EveryTermOf N Any Q ts
    every_term tnil l h = tt
    every_term (tmore k e ts) l h = (every_int e l h.0, every_term ts l h.1)

pub legal_int : (e : IntExpr) (l : ℕ) → LegalInt e l → EveryInt (λ v. v < max_ints) e
legal_int = every_int Any (λ v. v < max_ints) (λ v h. h)

pub legal_plain : (e : BoolExpr) (l : ℕ) → Legal e l → Plain e
legal_plain = every_bool None Any (λ v h. tt)

pub legal_int_plain : (e : IntExpr) (l : ℕ) → LegalInt e l → PlainInt e
legal_int_plain = every_int None Any (λ v h. tt)
