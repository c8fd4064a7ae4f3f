-- What is looked up at a place of a rule or a pair, where the splitting takes numbers inside the If there: one key for one place, one place for one key.
use Rattle.std.specs.Prelude.{◌≡◌, refl, Bool, true, not, ◌&&◌, ◌||◌, cond, List, [], ◌∷◌, ◌++◌, map, ℕ, ◌+◌, ◌≤◌, ◌<◌, ℤ, length, eqb}
use Rattle.std.proofs.Common.{sym, ap, ◌∙◌, subst, arith, eq-eqb, ne_eqb, eqb-true}
use Rattle.std.proofs.Math.Bool.{false}
use Rattle.std.proofs.Math.Option.{Option, none, some}
use Rattle.std.proofs.lemmas.Bool.{eqb-false}
use Rattle.laws.specs.Bools.{never as no_bool, and_l, and_r}
use Rattle.laws.specs.Slices.{Has}
use Rattle.syntax.specs.Syntax.{IntExpr, IConst, IVar, Linear, If, Terms, tnil, tmore, BoolExpr, Const, Var, NVar, And, Or, Not, Xor, Iff, Imp, Cmp, Members, mnil, more, encode_int, encode_bool}
use Rattle.clauses.proofs.Bounds.{int_bound}
use Rattle.walks.specs.Distinct.{none_some, some_is}
use Rattle.walks.specs.Tree.{Place, Tree, IntTree, nil, cons, append, Splitting, below, here, inner, own_splits, splits, splits_int, split_int, resolve, ties, ties_int}
use Rattle.walks.specs.Resolve.{rule_trees, pair_trees}
use Rattle.walks.specs.Keys.{Key, keys, keys_members, keys_int, keys_terms, Every, every_none, every_more, every_map, Within, Differ, Distinct, distinct_none, distinct_more, Found, found, later, found_in, distinct_found, Written, ChoicesAll, Choices, choices_append, int_choices, ties_int_choices, every_append, wide, every_left, every_right, distinct_append, apart, keys_int_within, keys_int_distinct, resolve_choices, ties_choices, Makes}

-- ---- of a list

-- an If at the place, with split parts
abbrev pub is_parted : Place → ℕ → Bool
is_parted p q = eqb p.at q && not p.whole

unfoldable pub looked_up : List Key → ℕ → Option IntExpr
looked_up [] q = none
looked_up (x ∷ xs) q = cond (is_parted x.place q) (some x.key) (looked_up xs q)

unfoldable pub parted_in : List Place → ℕ → Bool
parted_in [] q = false
parted_in (p ∷ ps) q = is_parted p q || parted_in ps q

abbrev pub places : List Key → List Place
places xs = map (λ x. x.place) xs

not-false : (b : Bool) → not b ≡ true → b ≡ false
not-false false h = refl
not-false true h = no_bool h

pub parted_here : (p : Place) (q : ℕ) → is_parted p q ≡ true → (p.at ≡ q) × (p.whole ≡ false)
parted_here p q h = (eqb-true p.at q (and_l (eqb p.at q) (not p.whole) h), not-false p.whole (and_r (eqb p.at q) (not p.whole) h))

-- an expression's words at a place
pub record Standing (w : List ℤ) (q : ℕ) : Type 0 where
  pub written : IntExpr
  pub words : Has w q (encode_int written)

-- the key at a place is one of the list
pub record KeyFound (xs : List Key) (q : ℕ) (e : IntExpr) : Type 0 where
  pub place : Place
  pub listed : Found place e xs
  pub stands : place.at ≡ q
  pub parted : place.whole ≡ false

found_later : (x : Key) (xs : List Key) (q : ℕ) (e : IntExpr) → KeyFound xs q e → KeyFound (x ∷ xs) q e
found_later x xs q e r = record { place = r.place; listed = later r.listed; stands = r.stands; parted = r.parted }

pub looked_up_found : (xs : List Key) (q : ℕ) (e : IntExpr) → looked_up xs q ≡ some e → KeyFound xs q e
unfolding looked_up
looked_up_found [] q e h = none_some h
looked_up_found (x ∷ xs) q e h = go (is_parted x.place q) refl (looked_up_found xs q e)
  where
    go : (b : Bool) → is_parted x.place q ≡ b → (looked_up xs q ≡ some e → KeyFound xs q e) → KeyFound (x ∷ xs) q e
    go true i r =
        let k : some x.key ≡ some e = rw i at h in
        let j = parted_here x.place q i in
        record { place = x.place; listed = found refl (some_is k); stands = j.0; parted = j.1 }
    go false i r = let k : looked_up xs q ≡ some e = rw i at h in found_later x xs q e (r k)

pub looked_up_parted : (xs : List Key) (q : ℕ) (e : IntExpr) → looked_up xs q ≡ some e → parted_in (places xs) q ≡ true
unfolding looked_up parted_in
looked_up_parted [] q e h = none_some h
looked_up_parted (x ∷ xs) q e h = go (is_parted x.place q) refl (looked_up_parted xs q e)
  where
    go : (b : Bool) → is_parted x.place q ≡ b → (looked_up xs q ≡ some e → parted_in (places xs) q ≡ true) → is_parted x.place q || parted_in (places xs) q ≡ true
    go true i r = rw i refl
    go false i r = let k : looked_up xs q ≡ some e = rw i at h in rw i (r k)

-- one place for one key
pub looked_up_one : (xs : List Key) (q p : ℕ) (e : IntExpr) → Distinct xs → looked_up xs q ≡ some e → looked_up xs p ≡ some e → q ≡ p
looked_up_one xs q p e d h k =
    let a = looked_up_found xs q e h in
    let b = looked_up_found xs p e k in
    go a b (eqb q p) refl
  where
    go : KeyFound xs q e → KeyFound xs p e → (t : Bool) → eqb q p ≡ t → q ≡ p
    go a b true i = eqb-true q p i
    go a b false i = absurd ((distinct_found a.place b.place e e d a.listed b.listed).1 a.parted b.parted (λ j. eqb-false q p i (sym a.stands ∙ j ∙ b.stands)) refl)

-- one key for one place: what is found with split parts is the key there; what is found without is not parted
before_found : {xs : List Key} (x : Key) (p : Place) (k : IntExpr) → Every (Differ x) xs → Found p k xs → eqb x.place.at p.at ≡ false
before_found x p k h a = found_in h a (λ y d i j. ne_eqb x.place.at p.at (λ e. let z : y.place.at ≡ p.at = ap (λ (u : Place). u.at) i in omega (arith, d.before, e, z)))

pub found_looked_up : {xs : List Key} (p : Place) (k : IntExpr) → Distinct xs → Found p k xs → p.whole ≡ false → looked_up xs p.at ≡ some k
unfolding looked_up
found_looked_up p k (distinct_more {x} {xs} h hs) (found a b) w = rw (a, eq-eqb p.at p.at refl, w) (ap some b)
found_looked_up p k (distinct_more {x} {xs} h hs) (later a) w = rw (before_found x p k h a) (found_looked_up p k hs a w)
found_looked_up p k distinct_none x5 w = elim x5 [ ]

none_parted : (q : ℕ) {xs : List Key} → Every (λ x. q < x.place.at) xs → parted_in (places xs) q ≡ false
unfolding parted_in
none_parted q every_none = refl
none_parted q (every_more {x} h hs) = rw (ne_eqb x.place.at q (λ e. omega (arith, h, e))) (none_parted q hs)

or_none : (b c : Bool) → c ≡ false → b || c ≡ b
or_none true c h = refl
or_none false c h = h

pub found_parted : {xs : List Key} (p : Place) (k : IntExpr) → Distinct xs → Found p k xs → parted_in (places xs) p.at ≡ not p.whole
unfolding parted_in
found_parted p k (distinct_more {x} {xs} h hs) (found a b) =
    let z : x.place.at ≡ p.at = ap (λ (u : Place). u.at) a in
    let n : parted_in (places xs) p.at ≡ false = none_parted p.at (every_map (λ y d. omega (arith, d.before, z)) h) in
    rw (a, eq-eqb p.at p.at refl) (or_none (not p.whole) (parted_in (places xs) p.at) n)
found_parted p k (distinct_more {x} {xs} h hs) (later a) = rw (before_found x p k h a) (found_parted p k hs a)
found_parted p k distinct_none x3 = elim x3 [ ]

-- the If as it is written there
pub looked_up_written : (w : List ℤ) (xs : List Key) (q : ℕ) (e : IntExpr) → Every (Written w) xs → looked_up xs q ≡ some e → Standing w q
looked_up_written w xs q e h k =
    let r = looked_up_found xs q e k in
    found_in h r.listed (λ x y i j. record { written = x.written; words = subst (λ (z : ℕ). Has w z (encode_int x.written)) (ap (λ (u : Place). u.at) i ∙ r.stands) y.stands })

-- ---- which places have split parts does not depend on the numbers

pub data SamePlaces : List Key → List Key → Type 0 where
  same_none : SamePlaces [] []
  same_more : {x y : Key} {xs ys : List Key} → x.place ≡ y.place → SamePlaces xs ys → SamePlaces (x ∷ xs) (y ∷ ys)

same_append : {xs ys us vs : List Key} → SamePlaces xs us → SamePlaces ys vs → SamePlaces (xs ++ ys) (us ++ vs)
same_append same_none k = k
same_append (same_more e h) k = same_more e (same_append h k)

pub places_are : {xs ys : List Key} → SamePlaces xs ys → places xs ≡ places ys
places_are same_none = refl
places_are (same_more {x} {y} {xs} {ys} e h) = rw (e, places_are h) refl

mutual
  unfolding keys

  pub same_places : (e : BoolExpr) (m : Splitting) (at n k : ℕ) → SamePlaces (keys e m at n) (keys e m at k)
  same_places (Const b) m at n k = same_none
  same_places (Var v) m at n k = same_none
  same_places (NVar j) m at n k = same_none
  same_places (And ms) m at n k = same_places_members ms m (at + 2) n k
  same_places (Or ms) m at n k = same_places_members ms m (at + 2) n k
  same_places (Not e) m at n k = same_places e m (at + 1) n k
  same_places (Xor a b) m at n k =
      same_append (same_places a (inner m) (at + 1) (own_splits m + n) (own_splits m + k)) (same_places b (inner m) (at + 1 + length (encode_bool a)) (own_splits m + n + splits a (inner m)) (own_splits m + k + splits a (inner m)))
  same_places (Iff a b) m at n k =
      same_append (same_places a (inner m) (at + 1) (own_splits m + n) (own_splits m + k)) (same_places b (inner m) (at + 1 + length (encode_bool a)) (own_splits m + n + splits a (inner m)) (own_splits m + k + splits a (inner m)))
  same_places (Imp a b) m at n k = same_append (same_places a m (at + 1) n k) (same_places b m (at + 1 + length (encode_bool a)) (n + splits a m) (k + splits a m))
  same_places (Cmp o a b) m at n k =
      same_append (same_places_int a (inner m) (at + 2) n k) (same_places_int b (inner m) (at + 2 + length (encode_int a)) (n + splits_int a (inner m)) (k + splits_int a (inner m)))

  same_places_members : (ms : Members) (m : Splitting) (at n k : ℕ) → SamePlaces (keys_members ms m at n) (keys_members ms m at k)
  same_places_members mnil m at n k = same_none
  same_places_members (more e ms) m at n k = same_append (same_places e m at n k) (same_places_members ms m (at + length (encode_bool e)) (n + splits e m) (k + splits e m))

  pub same_places_int : (e : IntExpr) (m : Splitting) (at n k : ℕ) → SamePlaces (keys_int e m at n) (keys_int e m at k)
  same_places_int (IConst c) m at n k = same_none
  same_places_int (IVar v) m at n k = same_none
  same_places_int (Linear ts) m at n k = same_places_terms ts m (at + 2) n k
  same_places_int (If i c t f) m at n k =
      let p = at + 1 + length (encode_bool c) in
      same_more refl (same_append (same_places c m (at + 1) n k) (same_append (same_places_int t m p (n + splits c m) (k + splits c m)) (same_places_int f m (p + length (encode_int t)) (n + splits c m + splits_int t m) (k + splits c m + splits_int t m))))

  same_places_terms : (ts : Terms) (m : Splitting) (at n k : ℕ) → SamePlaces (keys_terms ts m at n) (keys_terms ts m at k)
  same_places_terms tnil m at n k = same_none
  same_places_terms (tmore c e ts) m at n k =
      same_append (same_places_int e m (at + 1) n k) (same_places_terms ts m (at + 1 + length (encode_int e)) (n + splits_int e m) (k + splits_int e m))

-- ---- of a rule and of a pair

-- p and q: where a pair's sides stand
abbrev pub pair_keys : IntExpr → IntExpr → ℕ → ℕ → ℕ → List Key
pair_keys a b p q n = keys_int a here p n ++ keys_int b here q (n + splits_int a here)

module _ (P : Place → IntExpr → Tree → Tree → IntTree → IntTree → Type 0) (Q : Key → Type 0) (make : Makes P Q) where
  pub rule_choices : (e : BoolExpr) (at n : ℕ) → Every Q (keys e below at n) → ChoicesAll P (rule_trees e at n)
  unfolding Choices
  rule_choices e at n h = choices_append P (ties e below at n) (cons (resolve e below at n false) nil) (ties_choices P Q make e below at n h) (resolve_choices P Q make e below at n false h, tt)

  pub pair_choices : (a b : IntExpr) (p q n : ℕ) → Every Q (pair_keys a b p q n) → ChoicesAll P (pair_trees a b p q n)
  unfolding Choices
  pair_choices a b p q n h =
      let k = n + splits_int a here in
      let xs = keys_int a here p n in let ys = keys_int b here q k in
      let x = every_left xs ys h in let y = every_right xs ys h in
      choices_append P (append (ties_int a here p n) (ties_int b here q k)) _
      (choices_append P (ties_int a here p n) (ties_int b here q k) (ties_int_choices P Q make a here p n x) (ties_int_choices P Q make b here q k y))
      ((int_choices P Q make a here p n x, int_choices P Q make b here q k y), tt)

module _ (a b : IntExpr) (p q n : ℕ) where
  pub pair_distinct : int_bound a ≤ 0 → int_bound b ≤ 0 → p + length (encode_int a) ≤ q → Distinct (pair_keys a b p q n)
  pair_distinct i j o =
      let k = n + splits_int a here in
      distinct_append (keys_int_distinct a here p n i) (keys_int_distinct b here q k j) (apart o (omega arith) (keys_int_within a here p n i) (keys_int_within b here q k j))

  pub pair_within : int_bound a ≤ 0 → int_bound b ≤ 0 → p + length (encode_int a) ≤ q
      → Every (Within p (q + length (encode_int b)) n (n + splits_int a here + splits_int b here) (length (encode_int (split_int a here n)) + length (encode_int (split_int b here (n + splits_int a here))))) (pair_keys a b p q n)
  pair_within i j o =
      let k = n + splits_int a here in
      every_append (wide (keys_int_within a here p n i) (omega arith) (omega arith) (omega arith) (omega arith) (λ x. omega arith)) (wide (keys_int_within b here q k j) (omega arith) (omega arith) (omega arith) (omega arith) (λ x. omega arith))
