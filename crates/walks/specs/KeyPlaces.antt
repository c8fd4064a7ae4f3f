-- What the first walk has to know of the places of a rule, a pair or a column (`Places`), from the list of its keys.
use Rattle.std.specs.Prelude.{◌≡◌, refl, Bool, true, false, not, ℕ, ◌+◌, ◌≤◌, ◌<◌, ℤ, length}
use Rattle.std.proofs.Common.{sym, ap, ◌∙◌, subst, arith}
use Rattle.std.proofs.Math.Option.{Option, some}
use mathlib.Core.List.{List, [], ◌∷◌}
use Rattle.laws.specs.Bools.{never as no_bool}
use Rattle.laws.specs.Slices.{Has}
use Rattle.memory.specs.Places.{folded, folded_end}
use Rattle.syntax.specs.Syntax.{Domain, IntExpr, IConst, IVar, Linear, If, Terms, tnil, tmore, BoolExpr, Const, Var, NVar, And, Or, Not, Xor, Iff, Imp, Cmp, Members, mnil, more, encode_bool, encode_int}
use Rattle.syntax.specs.Written.{EveryIntOf}
use Rattle.clauses.proofs.Bounds.{expr_bound, members_bound, int_bound, terms_numbers}
use Rattle.walks.specs.Tree.{Place, Splitting, below, here, inner, own_splits, splits, splits_int}
use Rattle.walks.specs.Thirds.{most_three}
use Rattle.walks.specs.Plain.{Plain, PlainMembers, PlainInt, PlainTerms}
use Rattle.walks.specs.Apart.{ifs_apart}
use Rattle.walks.specs.Cells.{IsIf, Stands, Places}
use Rattle.walks.specs.Keys.{numbers_int, Begins, Between, int_between, Key, keys, keys_members, keys_int, keys_terms, Every, every_none, every_more, every_append, Within, Distinct, distinct_none, keys_within, keys_distinct, keys_written, keys_int_written, counted, every_map, every_found, found_in, Written}
use Rattle.walks.specs.KeyAt.{is_parted, parted_here, found_looked_up, looked_up, parted_in, places, looked_up_found, looked_up_parted, looked_up_one, pair_keys, pair_within, pair_distinct}

-- ---- no emitted number

mutual
  unfolding EveryIntOf expr_bound

  pub plain_bound : (e : BoolExpr) → Plain e → expr_bound e ≤ 0
  plain_bound (Const b) h = omega arith
  plain_bound (Var v) h = omega arith
  plain_bound (NVar n) h = absurd h
  plain_bound (And ms) h = plain_members_bound ms h
  plain_bound (Or ms) h = plain_members_bound ms h
  plain_bound (Not e) h = plain_bound e h
  plain_bound (Xor a b) h = omega (arith, plain_bound a h.0, plain_bound b h.1)
  plain_bound (Iff a b) h = omega (arith, plain_bound a h.0, plain_bound b h.1)
  plain_bound (Imp a b) h = omega (arith, plain_bound a h.0, plain_bound b h.1)
  plain_bound (Cmp o a b) h = omega (arith, plain_int_bound a h.0, plain_int_bound b h.1)

  plain_members_bound : (ms : Members) → PlainMembers ms → members_bound ms ≤ 0
  plain_members_bound mnil h = omega arith
  plain_members_bound (more e ms) h = omega (arith, plain_bound e h.0, plain_members_bound ms h.1)

  pub plain_int_bound : (e : IntExpr) → PlainInt e → int_bound e ≤ 0
  plain_int_bound (IConst c) h = omega arith
  plain_int_bound (IVar v) h = omega arith
  plain_int_bound (Linear ts) h = plain_terms_bound ts h
  plain_int_bound (If i c t f) h = most_three (expr_bound c) (int_bound t) (int_bound f) 0 (plain_bound c h.0) (plain_int_bound t h.1.0) (plain_int_bound f h.1.1)

  plain_terms_bound : (ts : Terms) → PlainTerms ts → terms_numbers ts ≤ 0
  plain_terms_bound tnil h = omega arith
  plain_terms_bound (tmore k e ts) h = omega (arith, plain_int_bound e h.0, plain_terms_bound ts h.1)

-- an If as written is one without numbers
abbrev pub PlainIf : Key → Type 0
PlainIf x = IsIf x.written × PlainInt x.written

mutual
  unfolding EveryIntOf keys

  pub keys_plain : (e : BoolExpr) (m : Splitting) (at n : ℕ) → Plain e → Every PlainIf (keys e m at n)
  keys_plain (Const b) m at n h = every_none
  keys_plain (Var v) m at n h = every_none
  keys_plain (NVar k) m at n h = every_none
  keys_plain (And ms) m at n h = keys_members_plain ms m (at + 2) n h
  keys_plain (Or ms) m at n h = keys_members_plain ms m (at + 2) n h
  keys_plain (Not e) m at n h = keys_plain e m (at + 1) n h
  keys_plain (Xor a b) m at n h = every_append (keys_plain a (inner m) (at + 1) (own_splits m + n) h.0) (keys_plain b (inner m) (at + 1 + length (encode_bool a)) (own_splits m + n + splits a (inner m)) h.1)
  keys_plain (Iff a b) m at n h = every_append (keys_plain a (inner m) (at + 1) (own_splits m + n) h.0) (keys_plain b (inner m) (at + 1 + length (encode_bool a)) (own_splits m + n + splits a (inner m)) h.1)
  keys_plain (Imp a b) m at n h = every_append (keys_plain a m (at + 1) n h.0) (keys_plain b m (at + 1 + length (encode_bool a)) (n + splits a m) h.1)
  keys_plain (Cmp o a b) m at n h = every_append (keys_int_plain a (inner m) (at + 2) n h.0) (keys_int_plain b (inner m) (at + 2 + length (encode_int a)) (n + splits_int a (inner m)) h.1)

  keys_members_plain : (ms : Members) (m : Splitting) (at n : ℕ) → PlainMembers ms → Every PlainIf (keys_members ms m at n)
  keys_members_plain mnil m at n h = every_none
  keys_members_plain (more e ms) m at n h = every_append (keys_plain e m at n h.0) (keys_members_plain ms m (at + length (encode_bool e)) (n + splits e m) h.1)

  pub keys_int_plain : (e : IntExpr) (m : Splitting) (at n : ℕ) → PlainInt e → Every PlainIf (keys_int e m at n)
  keys_int_plain (IConst c) m at n h = every_none
  keys_int_plain (IVar v) m at n h = every_none
  keys_int_plain (Linear ts) m at n h = keys_terms_plain ts m (at + 2) n h
  keys_int_plain (If i c t f) m at n h =
      let p = at + 1 + length (encode_bool c) in
      every_more (tt, h)
      (every_append (keys_plain c m (at + 1) n h.0) (every_append (keys_int_plain t m p (n + splits c m) h.1.0) (keys_int_plain f m (p + length (encode_int t)) (n + splits c m + splits_int t m) h.1.1)))

  keys_terms_plain : (ts : Terms) (m : Splitting) (at n : ℕ) → PlainTerms ts → Every PlainIf (keys_terms ts m at n)
  keys_terms_plain tnil m at n h = every_none
  keys_terms_plain (tmore c e ts) m at n h = every_append (keys_int_plain e m (at + 1) n h.0) (keys_terms_plain ts m (at + 1 + length (encode_int e)) (n + splits_int e m) h.1)

-- ---- a list

pub every_both : {P Q : Key → Type 0} {xs : List Key} → Every P xs → Every Q xs → Every (λ x. P x × Q x) xs
every_both every_none every_none = every_none
every_both (every_more h hs) (every_more k ks) = every_more (h, k) (every_both hs ks)

pub at_least : (at q p : ℕ) → p ≡ q → folded ≤ at → at ≤ p → folded ≤ q
at_least at q p e h k = omega arith

pub at_most : (stop q p : ℕ) → p ≡ q → stop ≤ folded_end → p < stop → q < folded_end
at_most stop q p e h k = omega arith

begins_none : (xs : List ℕ) (a : ℕ) → Begins xs a → Between 0 0 xs → ⊥
begins_none [] a h k = h
begins_none (x ∷ xs) a h k = omega (arith, k.1)

-- F: the folded words; xs: the keys; they stand from `at` to `stop`
module _ (ds : List Domain) (F : List ℤ) (parted : ℕ → Bool) (fixed : IntExpr → Bool) (xs : List Key) {at stop n next size : ℕ}
    (distinct : Distinct xs) (within : Every (Within at stop n next size) xs) (written : Every (Written F) xs) (plain : Every PlainIf xs) (low : folded ≤ at) (high : stop ≤ folded_end)
    (agree : (q : ℕ) → parted_in (places xs) q ≡ true → parted q ≡ true) where
  abbrev At : ℕ → Option IntExpr
  At = looked_up xs

  abbrev StandsAt : ℕ → IntExpr → Type 0
  StandsAt = Stands ds F PlainInt parted At fixed

  stands_apart : (q p : ℕ) (d e : IntExpr) → StandsAt q d → StandsAt p e → q < p → q + 3 ≤ p
  stands_apart q p (IConst c) e h k l = absurd h.is_if
  stands_apart q p (IVar v) e h k l = absurd h.is_if
  stands_apart q p (Linear ts) e h k l = absurd h.is_if
  stands_apart q p (If i c t f) (IConst d) h k l = absurd k.is_if
  stands_apart q p (If i c t f) (IVar v) h k l = absurd k.is_if
  stands_apart q p (If i c t f) (Linear ts) h k l = absurd k.is_if
  stands_apart q p (If i c t f) (If j d x y) h k l = ifs_apart F q p i c t f j d x y h.words k.words h.plain l

  -- the If as written under a key
  record Under (q : ℕ) : Type 0 where
    pub expr : IntExpr
    pub stands : StandsAt q expr

  under_of : (q : ℕ) (e : IntExpr) → looked_up xs q ≡ some e → Under q
  under_of q e h =
      let r = looked_up_found xs q e h in
      found_in (every_both within (every_both written plain)) r.listed (λ x y i j.
      let z : x.place.at ≡ q = ap (λ (u : Place). u.at) i ∙ r.stands in
      record {
        expr = x.written;
        stands = record {
          is_if = y.1.1.0;
          plain = y.1.1.1;
          words = subst (λ (u : ℕ). Has F u (encode_int x.written)) z y.1.0.stands;
          low = at_least at q x.place.at z low y.0.from;
          high = at_most stop q x.place.at z high y.0.to;
        };
      })

  -- a key that is looked up there holds a number
  numbered : (q : ℕ) (e : IntExpr) → looked_up xs q ≡ some e → PlainInt e → ⊥
  numbered q e h l =
      let r = looked_up_found xs q e h in
      found_in within r.listed (λ x w i j.
      let z : x.place.whole ≡ false = ap (λ (u : Place). u.whole) i ∙ r.parted in
      let b : Begins (numbers_int x.key) x.first = w.spans.first (counted x.count x.place.whole w.flag z) in
      begins_none (numbers_int e) x.first (subst (λ (k : IntExpr). Begins (numbers_int k) x.first) j b) (int_between e 0 (plain_int_bound e l)))

  pub list_places : Places ds F PlainInt parted (looked_up xs) fixed
  list_places = record {
    apart = stands_apart;
    parts = λ q e h. agree q (looked_up_parted xs q e h);
    under = λ q e h. (under_of q e h).expr;
    stand = λ q e h. (under_of q e h).stands;
    inj = λ q p e h k. looked_up_one xs q p e distinct h k;
    odd = numbered;
  }

-- of an If of the list: parted says whether it has split parts, and with-ifs that there are Ifs
abbrev pub AgreesWith : (ℕ → Bool) → Bool → Key → Type 0
AgreesWith parted with_ifs x = (parted x.place.at ≡ not x.place.whole) × (with_ifs ≡ true)

pub parted_agrees : (parted : ℕ → Bool) (with_ifs : Bool) {xs : List Key} → Every (AgreesWith parted with_ifs) xs → (q : ℕ) → parted_in (places xs) q ≡ true → parted q ≡ true
unfolding parted_in
parted_agrees parted with_ifs every_none q h = no_bool h
parted_agrees parted with_ifs (every_more {x} {xs} a ks) q h = go (is_parted x.place q) refl (parted_agrees parted with_ifs ks q)
  where
    go : (b : Bool) → is_parted x.place q ≡ b → (parted_in (places xs) q ≡ true → parted q ≡ true) → parted q ≡ true
    go true i r =
        let j = parted_here x.place q i in
        ap parted (sym j.0) ∙ a.0 ∙ ap not j.1
    go false i r = r (rw i at h)

-- the key of each with split parts is looked up at its place
pub list_keyed : (xs : List Key) → Distinct xs → Every (λ x. x.place.whole ≡ false → looked_up xs x.place.at ≡ some x.key) xs
list_keyed xs d = every_map (λ x h w. found_looked_up x.place x.key d h w) (every_found xs)

-- ---- a rule, a pair, a column

module _ (ds : List Domain) (F : List ℤ) (parted : ℕ → Bool) (fixed : IntExpr → Bool) where
  pub rule_places : (e : BoolExpr) (at n : ℕ) → Plain e → Has F at (encode_bool e) → folded ≤ at → at + length (encode_bool e) ≤ folded_end
      → ((q : ℕ) → parted_in (places (keys e below at n)) q ≡ true → parted q ≡ true) → Places ds F PlainInt parted (looked_up (keys e below at n)) fixed
  rule_places e at n h d i j a =
      list_places ds F parted fixed (keys e below at n) (keys_distinct e below at n (plain_bound e h)) (keys_within e below at n (plain_bound e h)) (keys_written F e below at n d) (keys_plain e below at n h) i j a

  -- p and q: where its sides stand
  pub pair_places : (a b : IntExpr) (p q n : ℕ) → PlainInt a → PlainInt b → Has F p (encode_int a) → Has F q (encode_int b) → folded ≤ p → p + length (encode_int a) ≤ q → q + length (encode_int b) ≤ folded_end
      → ((o : ℕ) → parted_in (places (pair_keys a b p q n)) o ≡ true → parted o ≡ true) → Places ds F PlainInt parted (looked_up (pair_keys a b p q n)) fixed
  pair_places a b p q n h k d c i l j o =
      list_places ds F parted fixed (pair_keys a b p q n) (pair_distinct a b p q n (plain_int_bound a h) (plain_int_bound b k) l) (pair_within a b p q n (plain_int_bound a h) (plain_int_bound b k) l)
      (every_append (keys_int_written F a here p n d) (keys_int_written F b here q (n + splits_int a here) c)) (every_append (keys_int_plain a here p n h) (keys_int_plain b here q (n + splits_int a here) k)) i j o

  -- a column has no key of its own
  pub column_places : Places ds F PlainInt parted (looked_up []) fixed
  unfolding parted_in
  column_places = list_places ds F parted fixed [] {at = folded} {stop = folded} {n = 0} {next = 0} {size = 0} distinct_none every_none every_none every_none (omega arith) (omega arith) (λ q h. no_bool h)
