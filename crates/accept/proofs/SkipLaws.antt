-- What passing over an expression's words (crate passes) asks and gives here: its Boolean variables lie below some number. Assumes nothing.
use Prim.Native.Nat.{ℕ, suc, ◌+◌, ◌≤◌, ◌<◌, max}
use mathlib.Core.Path.{◌≡◌, refl, sym, subst}
use mathlib.Core.List.{List, append-nil}
use native.Mathlib.Omega.{arith}
use lib.IntN.{ℤ}
use lib.ListN.{length, length-append}
use Rattle.laws.specs.Slices.{Has}
use Rattle.syntax.specs.Syntax.{IntExpr, IConst, IVar, Linear, If, Terms, tnil, tmore, encode_int, BoolExpr, Const, Var, NVar, And, Or, Not, Xor, Iff, Imp, Cmp, Members, mnil, more, encode_bool, encode_members}
use Rattle.syntax.specs.Written.{EveryIntOf, EveryTermOf, EveryOf, EveryMemberOf, Any, None}
use Rattle.passes.specs.Skip.{IntAt as Int-stands, MembersAt as Members-stand, SomeInt, SomeMembers, SkipPost, SkipMembersPost}
use Rattle.accept.specs.Walk.{UsableInt, Usable, IntAt, BoolAt}

-- above every Boolean variable written
unfoldable mutual
  top_int : IntExpr → ℕ
  top_int (IConst c) = 0
  top_int (IVar v) = 0
  top_int (Linear ts) = top_terms ts
  top_int (If i c t f) = max (top_bool c) (max (top_int t) (top_int f))

  top_terms : Terms → ℕ
  top_terms tnil = 0
  top_terms (tmore k e ts) = max (top_int e) (top_terms ts)

  top_bool : BoolExpr → ℕ
  top_bool (Const b) = 0
  top_bool (Var v) = suc v
  top_bool (NVar n) = 0
  top_bool (And ms) = top_members ms
  top_bool (Or ms) = top_members ms
  top_bool (Not e) = top_bool e
  top_bool (Xor a b) = max (top_bool a) (top_bool b)
  top_bool (Iff a b) = max (top_bool a) (top_bool b)
  top_bool (Imp a b) = max (top_bool a) (top_bool b)
  top_bool (Cmp o a b) = max (top_int a) (top_int b)

  top_members : Members → ℕ
  top_members mnil = 0
  top_members (more e ms) = max (top_bool e) (top_members ms)

module _ (nb ni : ℕ) where
  mutual
    unfolding top_int EveryIntOf

    int_below : (e : IntExpr) → top_int e ≤ nb → UsableInt ni e → EveryIntOf None (λ v. v < nb) (λ v. v < ni) e
    int_below (IConst c) l h = tt
    int_below (IVar v) l h = h
    int_below (Linear ts) l h = terms_below ts l h
    int_below (If i c t f) l h = (bool_below c (omega arith) h.0, (int_below t (omega arith) h.1.0, int_below f (omega arith) h.1.1))

    terms_below : (ts : Terms) → top_terms ts ≤ nb → EveryTermOf None Any (λ v. v < ni) ts → EveryTermOf None (λ v. v < nb) (λ v. v < ni) ts
    terms_below tnil l h = tt
    terms_below (tmore k e ts) l h = (int_below e (omega arith) h.0, terms_below ts (omega arith) h.1)

    bool_below : (e : BoolExpr) → top_bool e ≤ nb → Usable ni e → EveryOf None (λ v. v < nb) (λ v. v < ni) e
    bool_below (Const b) l h = tt
    bool_below (Var v) l h = l
    bool_below (NVar n) l h = h
    bool_below (And ms) l h = members_below ms l h
    bool_below (Or ms) l h = members_below ms l h
    bool_below (Not e) l h = bool_below e l h
    bool_below (Xor a b) l h = (bool_below a (omega arith) h.0, bool_below b (omega arith) h.1)
    bool_below (Iff a b) l h = (bool_below a (omega arith) h.0, bool_below b (omega arith) h.1)
    bool_below (Imp a b) l h = (bool_below a (omega arith) h.0, bool_below b (omega arith) h.1)
    bool_below (Cmp o a b) l h = (int_below a (omega arith) h.0, int_below b (omega arith) h.1)

    members_below : (ms : Members) → top_members ms ≤ nb → EveryMemberOf None Any (λ v. v < ni) ms → EveryMemberOf None (λ v. v < nb) (λ v. v < ni) ms
    members_below mnil l h = tt
    members_below (more e ms) l h = (bool_below e (omega arith) h.0, members_below ms (omega arith) h.1)

module _ (ni : ℕ) (ws : List ℤ) (at : ℕ) where
  -- ---- an integer expression

  int_stands : (e : IntExpr) → IntAt ni ws at e → Int-stands (top_int e) ni ws at e
  int_stands e r = record { words = r.words; vars = int_below (top_int e) ni e (omega arith) r.vars }

  pub some_int : (e : IntExpr) → IntAt ni ws at e → SomeInt ws at
  some_int e r = record { bools = top_int e; ints = ni; it = e; stands = int_stands e r }

  pub int_skipped : (next : ℕ) → SkipPost ws at next → (e : IntExpr) → IntAt ni ws at e → next ≡ at + length (encode_int e)
  int_skipped next p e r = p (top_int e) ni e (int_stands e r)

  -- ---- a condition

  bool_stands : (c : BoolExpr) → BoolAt ni ws at c → Members-stand (top_bool c) ni ws at 1 (more c mnil)
  unfolding encode_bool EveryOf
  bool_stands c r = record {
    words = subst (λ l. Has ws at l) (sym (append-nil (encode_bool c))) r.words;
    vars = (bool_below (top_bool c) ni c (omega arith) r.usable, tt);
    size = refl;
  }

  pub some_condition : (c : BoolExpr) → BoolAt ni ws at c → SomeMembers ws at 1
  some_condition c r = record { bools = top_bool c; ints = ni; them = more c mnil; stand = bool_stands c r }

  pub condition_skipped : (next : ℕ) → SkipMembersPost ws at 1 next → (c : BoolExpr) → BoolAt ni ws at c → next ≡ at + length (encode_bool c)
  unfolding encode_bool
  condition_skipped next p c r = omega (arith, p (top_bool c) ni (more c mnil) (bool_stands c r), length-append (encode_bool c) (encode_members mnil))
