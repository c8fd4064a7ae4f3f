-- Every If of a legal expression is legal itself (`keys_legal`, `keys_int_legal`).
use Rattle.std.specs.Prelude.{ℕ, ◌+◌, ◌-◌, ◌≤◌, length}
use Rattle.std.proofs.Common.{arith}
use Rattle.syntax.specs.Syntax.{IntExpr, IConst, IVar, Linear, If, Terms, tnil, tmore, BoolExpr, Const, Var, NVar, And, Or, Not, Xor, Iff, Imp, Cmp, Members, mnil, more, encode_bool, encode_int}
use Rattle.walks.specs.Tree.{Splitting, inner, own_splits, splits, splits_int}
use Rattle.walks.specs.Cells.{IsIf}
use Rattle.walks.specs.Legal.{LegalInt, LegalTerms, Legal, LegalMembers}
use Rattle.walks.specs.Keys.{Key, keys, keys_members, keys_int, keys_terms, Every, every_none, every_more, every_append}

abbrev pub LegalIf : IntExpr → Type 0
LegalIf e = IsIf e × LegalInt e 64

-- ---- within more levels

mutual
  unfolding Legal

  legal_more : (e : BoolExpr) (l k : ℕ) → l ≤ k → Legal e l → Legal e k
  legal_more (Const b) l k i h = absurd h
  legal_more (Var v) l k i h = (omega (arith, h.0), h.1)
  legal_more (NVar n) l k i h = absurd h
  legal_more (And ms) l k i h = (omega (arith, h.0), h.1, legal_members_more ms (l - 1) (k - 1) (omega arith) h.2)
  legal_more (Or ms) l k i h = (omega (arith, h.0), h.1, legal_members_more ms (l - 1) (k - 1) (omega arith) h.2)
  legal_more (Not e) l k i h = (omega (arith, h.0), legal_more e (l - 1) (k - 1) (omega arith) h.1)
  legal_more (Xor a b) l k i h = (omega (arith, h.0), legal_more a (l - 1) (k - 1) (omega arith) h.1, legal_more b (l - 1) (k - 1) (omega arith) h.2)
  legal_more (Iff a b) l k i h = (omega (arith, h.0), legal_more a (l - 1) (k - 1) (omega arith) h.1, legal_more b (l - 1) (k - 1) (omega arith) h.2)
  legal_more (Imp a b) l k i h = (omega (arith, h.0), legal_more a (l - 1) (k - 1) (omega arith) h.1, legal_more b (l - 1) (k - 1) (omega arith) h.2)
  legal_more (Cmp o a b) l k i h = (omega (arith, h.0), legal_int_more a (l - 1) (k - 1) (omega arith) h.1, legal_int_more b (l - 1) (k - 1) (omega arith) h.2)

  legal_members_more : (ms : Members) (l k : ℕ) → l ≤ k → LegalMembers ms l → LegalMembers ms k
  legal_members_more mnil l k i h = tt
  legal_members_more (more e ms) l k i h = (legal_more e l k i h.0, legal_members_more ms l k i h.1)

  pub legal_int_more : (e : IntExpr) (l k : ℕ) → l ≤ k → LegalInt e l → LegalInt e k
  legal_int_more (IConst c) l k i h = omega (arith, h)
  legal_int_more (IVar v) l k i h = (omega (arith, h.0), h.1)
  legal_int_more (Linear ts) l k i h = (omega (arith, h.0), legal_terms_more ts (l - 1) (k - 1) (omega arith) h.1)
  legal_int_more (If r c t f) l k i h = (omega (arith, h.0), legal_more c (l - 1) (k - 1) (omega arith) h.1, legal_int_more t (l - 1) (k - 1) (omega arith) h.2, legal_int_more f (l - 1) (k - 1) (omega arith) h.3)

  legal_terms_more : (ts : Terms) (l k : ℕ) → l ≤ k → LegalTerms ts l → LegalTerms ts k
  legal_terms_more tnil l k i h = tt
  legal_terms_more (tmore c e ts) l k i h = (legal_int_more e l k i h.0, legal_terms_more ts l k i h.1)

-- ---- keys

-- an If as written
abbrev pub LegalKey : Key → Type 0
LegalKey x = LegalIf x.written

mutual
  unfolding Legal keys

  legal_keys : (e : BoolExpr) (l : ℕ) (m : Splitting) (at n : ℕ) → l ≤ 64 → Legal e l → Every LegalKey (keys e m at n)
  legal_keys (Const b) l m at n i h = every_none
  legal_keys (Var v) l m at n i h = every_none
  legal_keys (NVar k) l m at n i h = every_none
  legal_keys (And ms) l m at n i h = members_keys ms (l - 1) m (at + 2) n (omega arith) h.2
  legal_keys (Or ms) l m at n i h = members_keys ms (l - 1) m (at + 2) n (omega arith) h.2
  legal_keys (Not e) l m at n i h = legal_keys e (l - 1) m (at + 1) n (omega arith) h.1
  legal_keys (Xor a b) l m at n i h =
      every_append (legal_keys a (l - 1) (inner m) (at + 1) (own_splits m + n) (omega arith) h.1) (legal_keys b (l - 1) (inner m) (at + 1 + length (encode_bool a)) (own_splits m + n + splits a (inner m)) (omega arith) h.2)
  legal_keys (Iff a b) l m at n i h =
      every_append (legal_keys a (l - 1) (inner m) (at + 1) (own_splits m + n) (omega arith) h.1) (legal_keys b (l - 1) (inner m) (at + 1 + length (encode_bool a)) (own_splits m + n + splits a (inner m)) (omega arith) h.2)
  legal_keys (Imp a b) l m at n i h = every_append (legal_keys a (l - 1) m (at + 1) n (omega arith) h.1) (legal_keys b (l - 1) m (at + 1 + length (encode_bool a)) (n + splits a m) (omega arith) h.2)
  legal_keys (Cmp o a b) l m at n i h = every_append (int_keys a (l - 1) (inner m) (at + 2) n (omega arith) h.1) (int_keys b (l - 1) (inner m) (at + 2 + length (encode_int a)) (n + splits_int a (inner m)) (omega arith) h.2)

  members_keys : (ms : Members) (l : ℕ) (m : Splitting) (at n : ℕ) → l ≤ 64 → LegalMembers ms l → Every LegalKey (keys_members ms m at n)
  members_keys mnil l m at n i h = every_none
  members_keys (more e ms) l m at n i h = every_append (legal_keys e l m at n i h.0) (members_keys ms l m (at + length (encode_bool e)) (n + splits e m) i h.1)

  int_keys : (e : IntExpr) (l : ℕ) (m : Splitting) (at n : ℕ) → l ≤ 64 → LegalInt e l → Every LegalKey (keys_int e m at n)
  int_keys (IConst c) l m at n i h = every_none
  int_keys (IVar v) l m at n i h = every_none
  int_keys (Linear ts) l m at n i h = term_keys ts (l - 1) m (at + 2) n (omega arith) h.1
  int_keys (If r c t f) l m at n i h =
      let p = at + 1 + length (encode_bool c) in
      every_more (tt, legal_int_more (If r c t f) l 64 i h)
      (every_append (legal_keys c (l - 1) m (at + 1) n (omega arith) h.1) (every_append (int_keys t (l - 1) m p (n + splits c m) (omega arith) h.2) (int_keys f (l - 1) m (p + length (encode_int t)) (n + splits c m + splits_int t m) (omega arith) h.3)))

  term_keys : (ts : Terms) (l : ℕ) (m : Splitting) (at n : ℕ) → l ≤ 64 → LegalTerms ts l → Every LegalKey (keys_terms ts m at n)
  term_keys tnil l m at n i h = every_none
  term_keys (tmore c e ts) l m at n i h = every_append (int_keys e l m (at + 1) n i h.0) (term_keys ts l m (at + 1 + length (encode_int e)) (n + splits_int e m) i h.1)

pub keys_legal : (e : BoolExpr) (m : Splitting) (at n : ℕ) → Legal e 64 → Every LegalKey (keys e m at n)
keys_legal e m at n h = legal_keys e 64 m at n (omega arith) h

pub keys_int_legal : (e : IntExpr) (m : Splitting) (at n : ℕ) → LegalInt e 64 → Every LegalKey (keys_int e m at n)
keys_int_legal e m at n h = int_keys e 64 m at n (omega arith) h
