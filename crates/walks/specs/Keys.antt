-- The Ifs of an expression, each with its place and the key by which it is looked up: where the splitting takes no number inside, the key is the If as
-- written; where it takes some, the key's first number is the If's first, so that no other place of the rule and nothing earlier has its words.
-- Assumed: the expression names no emitted number.
use Rattle.std.specs.Prelude.{◌≡◌, Bool, not, List, [], ◌∷◌, ◌++◌, ℕ, zero, suc, ◌+◌, ◌≤◌, ◌<◌, ℤ, length}
use Rattle.std.proofs.Math.Path.{refl}
use Rattle.std.proofs.Common.{sym, ap, ◌∙◌, subst, arith, length-append}
use Rattle.std.proofs.Math.Bool.{true, false}
use Rattle.laws.specs.Bools.{never as no_bool}
use Rattle.laws.specs.Same.{same_words, same_is}
use Rattle.laws.specs.Slices.{Has, has_front, has_back, has_rest}
use Rattle.syntax.specs.Syntax.{IfIsRead, IntExpr, IConst, IVar, Linear, If, Terms, tnil, tmore, BoolExpr, Const, Var, NVar, And, Or, Not, Xor, Iff, Imp, Cmp, Members, mnil, more, encode_bool, encode_members, encode_int, encode_terms}
use Rattle.syntax.specs.Unique.{int_unique_words}
use Rattle.clauses.proofs.Bounds.{expr_bound, members_bound, int_bound, terms_numbers}
use Rattle.clauses.specs.Clause.{negate_if}
use Rattle.walk.specs.Item.{is_none}
use Rattle.walks.specs.Tree.{Place, Tree, var, num, cmp, conj, disj, cross, tied, Trees, nil, cons, append, joined, IntTree, const, ivar, sum, choice, TermTrees, none, term, Splitting, never, below, here, inner, own_splits, splits, splits_members, splits_int, splits_terms, rewritten, split_of, split_members, split_int, split_terms, crossed_at, place_of, resolve, resolves, resolve_int, resolve_terms, tie, sides_tied, ties, ties_members, ties_int, ties_terms}
use Rattle.walks.specs.Resolve.{no_more, unsplit_int}
use Rattle.walks.specs.Thirds.{most_first, most_second, most_third, length_three, whole_three, le_same, le_more, lt_next, le_next, lt_suc}

-- ---- the emitted numbers of an expression in preorder

unfoldable mutual
  pub numbers : BoolExpr → List ℕ
  numbers (Const b) = []
  numbers (Var v) = []
  numbers (NVar n) = n ∷ []
  numbers (And ms) = numbers_members ms
  numbers (Or ms) = numbers_members ms
  numbers (Not e) = numbers e
  numbers (Xor a b) = numbers a ++ numbers b
  numbers (Iff a b) = numbers a ++ numbers b
  numbers (Imp a b) = numbers a ++ numbers b
  numbers (Cmp o a b) = numbers_int a ++ numbers_int b

  pub numbers_members : Members → List ℕ
  numbers_members mnil = []
  numbers_members (more e ms) = numbers e ++ numbers_members ms

  pub numbers_int : IntExpr → List ℕ
  numbers_int (IConst c) = []
  numbers_int (IVar v) = []
  numbers_int (Linear ts) = numbers_terms ts
  numbers_int (If i c t f) = numbers c ++ (numbers_int t ++ numbers_int f)

  pub numbers_terms : Terms → List ℕ
  numbers_terms tnil = []
  numbers_terms (tmore k e ts) = numbers_int e ++ numbers_terms ts

abbrev pub Begins : List ℕ → ℕ → Type 0
Begins [] n = ⊥
Begins (x ∷ xs) n = x ≡ n

-- each is a at least and below b
abbrev pub Between : ℕ → ℕ → List ℕ → Type 0
Between a b [] = Unit {0}
Between a b (x ∷ xs) = (a ≤ x) × (x < b) × Between a b xs

begins_append : (xs ys : List ℕ) (n : ℕ) → Begins xs n → Begins (xs ++ ys) n
begins_append [] ys n h = absurd h
begins_append (x ∷ xs) ys n h = h

between_append : (a b : ℕ) (xs ys : List ℕ) → Between a b xs → Between a b ys → Between a b (xs ++ ys)
between_append a b [] ys h k = k
between_append a b (x ∷ xs) ys h k = (h.0, h.1, between_append a b xs ys h.2 k)

pub between_wider : (a b c d : ℕ) (xs : List ℕ) → c ≤ a → b ≤ d → Between a b xs → Between c d xs
between_wider a b c d [] i j h = tt
between_wider a b c d (x ∷ xs) i j h = (omega (arith, h.0), omega (arith, h.1), between_wider a b c d xs i j h.2)

-- below a bound, as clauses' laws say it
mutual
  unfolding numbers expr_bound

  pub bound_between : (e : BoolExpr) (b : ℕ) → expr_bound e ≤ b → Between 0 b (numbers e)
  bound_between (Const c) b h = tt
  bound_between (Var v) b h = tt
  bound_between (NVar n) b h = (omega arith, omega (arith, h), tt)
  bound_between (And ms) b h = members_between ms b h
  bound_between (Or ms) b h = members_between ms b h
  bound_between (Not e) b h = bound_between e b h
  bound_between (Xor x y) b h = between_append 0 b (numbers x) (numbers y) (bound_between x b (omega (arith, h))) (bound_between y b (omega (arith, h)))
  bound_between (Iff x y) b h = between_append 0 b (numbers x) (numbers y) (bound_between x b (omega (arith, h))) (bound_between y b (omega (arith, h)))
  bound_between (Imp x y) b h = between_append 0 b (numbers x) (numbers y) (bound_between x b (omega (arith, h))) (bound_between y b (omega (arith, h)))
  bound_between (Cmp o x y) b h = between_append 0 b (numbers_int x) (numbers_int y) (int_between x b (omega (arith, h))) (int_between y b (omega (arith, h)))

  members_between : (ms : Members) (b : ℕ) → members_bound ms ≤ b → Between 0 b (numbers_members ms)
  members_between mnil b h = tt
  members_between (more e ms) b h = between_append 0 b (numbers e) (numbers_members ms) (bound_between e b (omega (arith, h))) (members_between ms b (omega (arith, h)))

  pub int_between : (e : IntExpr) (b : ℕ) → int_bound e ≤ b → Between 0 b (numbers_int e)
  int_between (IConst c) b h = tt
  int_between (IVar v) b h = tt
  int_between (Linear ts) b h = terms_between ts b h
  int_between (If i c t f) b h =
      let x = expr_bound c in let y = int_bound t in let z = int_bound f in
      between_append 0 b (numbers c) (numbers_int t ++ numbers_int f) (bound_between c b (most_first x y z b h))
      (between_append 0 b (numbers_int t) (numbers_int f) (int_between t b (most_second x y z b h)) (int_between f b (most_third x y z b h)))

  terms_between : (ts : Terms) (b : ℕ) → terms_numbers ts ≤ b → Between 0 b (numbers_terms ts)
  terms_between tnil b h = tt
  terms_between (tmore k e ts) b h = between_append 0 b (numbers_int e) (numbers_terms ts) (int_between e b (omega (arith, h))) (terms_between ts b (omega (arith, h)))

-- ---- the numbers of what is split

-- k numbers from n on are taken: of none there is none; else the first is n, and all are among them
pub record Spans (xs : List ℕ) (n k : ℕ) : Type 0 where
  pub none_taken : k ≡ 0 → xs ≡ []
  pub first : 0 < k → Begins xs n
  pub all : Between n (n + k) xs

spans_none : (n : ℕ) → Spans [] n 0
spans_none n = record { none_taken = λ h. refl; first = λ h. absurd (omega (arith, h)); all = tt }

spans_to : (xs : List ℕ) (n k l : ℕ) → Spans xs n k → k ≡ l → Spans xs n l
spans_to xs n k l s e = record { none_taken = λ h. s.none_taken (omega (arith, h, e)); first = λ h. s.first (omega (arith, h, e)); all = between_wider n (n + k) n (n + l) xs (omega arith) (omega (arith, e)) s.all }

spans_append : (xs ys : List ℕ) (n j k : ℕ) → Spans xs n j → Spans ys (n + j) k → Spans (xs ++ ys) n (j + k)
spans_append xs ys n j k s t = record {
  none_taken = λ h. let a = s.none_taken (omega (arith, h)) in let b = t.none_taken (omega (arith, h)) in rw (a, b) refl;
  first = λ h. first_of j refl h;
  all = between_append n (n + (j + k)) xs ys (between_wider n (n + j) n (n + (j + k)) xs (omega arith) (omega arith) s.all) (between_wider (n + j) (n + j + k) n (n + (j + k)) ys (omega arith) (omega arith) t.all);
}
  where
    first_of : (i : ℕ) → j ≡ i → 0 < j + k → Begins (xs ++ ys) n
    first_of zero e h =
        let b : Begins ys (n + j) = t.first (omega (arith, e, h)) in
        let z : n + j ≡ n = omega (arith, e) in
        let c : Begins ys n = subst (λ (x : ℕ). Begins ys x) z b in
        rw (s.none_taken e) c
    first_of (suc i) e h = begins_append xs ys n (s.first (omega (arith, e)))

spans_two : (n k : ℕ) → Spans (n ∷ suc n ∷ []) n (2 + k)
spans_two n k = record { none_taken = λ h. absurd (omega (arith, h)); first = λ h. refl; all = (omega arith, omega arith, (omega arith, omega arith, tt)) }

mutual
  unfolding numbers split_of splits expr_bound

  pub spans_bool : (e : BoolExpr) (m : Splitting) (n : ℕ) → expr_bound e ≤ 0 → Spans (numbers (split_of e m n)) n (splits e m)
  spans_bool (Const b) m n h = spans_none n
  spans_bool (Var v) m n h = spans_none n
  spans_bool (NVar k) m n h = absurd (omega (arith, h))
  spans_bool (And ms) m n h = spans_members ms m n h
  spans_bool (Or ms) m n h = spans_members ms m n h
  spans_bool (Not e) m n h = spans_bool e m n h
  spans_bool (Xor a b) never n h = spans_to _ n _ _ (spans_append _ _ n _ _ (spans_bool a never n (omega (arith, h))) (spans_bool b never (n + splits a never) (omega (arith, h)))) (omega arith)
  spans_bool (Xor a b) below n h = spans_to _ n _ _ (spans_append _ _ n _ _ (spans_bool a here n (omega (arith, h))) (spans_bool b here (n + splits a here) (omega (arith, h)))) (omega arith)
  spans_bool (Xor a b) here n h = spans_two n (splits a here + splits b here)
  spans_bool (Iff a b) never n h = spans_to _ n _ _ (spans_append _ _ n _ _ (spans_bool a never n (omega (arith, h))) (spans_bool b never (n + splits a never) (omega (arith, h)))) (omega arith)
  spans_bool (Iff a b) below n h = spans_to _ n _ _ (spans_append _ _ n _ _ (spans_bool a here n (omega (arith, h))) (spans_bool b here (n + splits a here) (omega (arith, h)))) (omega arith)
  spans_bool (Iff a b) here n h = spans_two n (splits a here + splits b here)
  spans_bool (Imp a b) m n h = spans_append _ _ n _ _ (spans_bool a m n (omega (arith, h))) (spans_bool b m (n + splits a m) (omega (arith, h)))
  spans_bool (Cmp o a b) m n h = spans_append _ _ n _ _ (spans_int a (inner m) n (omega (arith, h))) (spans_int b (inner m) (n + splits_int a (inner m)) (omega (arith, h)))

  spans_members : (ms : Members) (m : Splitting) (n : ℕ) → members_bound ms ≤ 0 → Spans (numbers_members (split_members ms m n)) n (splits_members ms m)
  spans_members mnil m n h = spans_none n
  spans_members (more e ms) m n h = spans_append _ _ n _ _ (spans_bool e m n (omega (arith, h))) (spans_members ms m (n + splits e m) (omega (arith, h)))

  pub spans_int : (e : IntExpr) (m : Splitting) (n : ℕ) → int_bound e ≤ 0 → Spans (numbers_int (split_int e m n)) n (splits_int e m)
  spans_int (IConst c) m n h = spans_none n
  spans_int (IVar v) m n h = spans_none n
  spans_int (Linear ts) m n h = spans_terms ts m n h
  spans_int (If i c t f) m n h =
      let x = expr_bound c in let y = int_bound t in let z = int_bound f in
      spans_append _ _ n _ _ (spans_bool c m n (most_first x y z 0 h))
      (spans_append _ _ (n + splits c m) _ _ (spans_int t m (n + splits c m) (most_second x y z 0 h)) (spans_int f m (n + splits c m + splits_int t m) (most_third x y z 0 h)))

  spans_terms : (ts : Terms) (m : Splitting) (n : ℕ) → terms_numbers ts ≤ 0 → Spans (numbers_terms (split_terms ts m n)) n (splits_terms ts m)
  spans_terms tnil m n h = spans_none n
  spans_terms (tmore k e ts) m n h = spans_append _ _ n _ _ (spans_int e m n (omega (arith, h))) (spans_terms ts m (n + splits_int e m) (omega (arith, h)))

-- ---- the Ifs in preorder

-- an If as written; the key; of its splitting the first number and how many
pub record Key : Type 0 where
  pub place : Place
  pub written : IntExpr
  pub key : IntExpr
  pub first : ℕ
  pub count : ℕ

abbrev pub key_of : IfIsRead → BoolExpr → IntExpr → IntExpr → Splitting → ℕ → ℕ → Key
key_of i c t f m at n = record {
  place = place_of at c t f (splits c m + (splits_int t m + splits_int f m));
  written = If i c t f;
  key = split_int (If i c t f) m n;
  first = n;
  count = splits c m + (splits_int t m + splits_int f m);
}

unfoldable mutual
  pub keys : BoolExpr → Splitting → ℕ → ℕ → List Key
  keys (Const b) m at n = []
  keys (Var v) m at n = []
  keys (NVar k) m at n = []
  keys (And ms) m at n = keys_members ms m (at + 2) n
  keys (Or ms) m at n = keys_members ms m (at + 2) n
  keys (Not e) m at n = keys e m (at + 1) n
  keys (Xor a b) m at n = keys a (inner m) (at + 1) (own_splits m + n) ++ keys b (inner m) (at + 1 + length (encode_bool a)) (own_splits m + n + splits a (inner m))
  keys (Iff a b) m at n = keys a (inner m) (at + 1) (own_splits m + n) ++ keys b (inner m) (at + 1 + length (encode_bool a)) (own_splits m + n + splits a (inner m))
  keys (Imp a b) m at n = keys a m (at + 1) n ++ keys b m (at + 1 + length (encode_bool a)) (n + splits a m)
  keys (Cmp o a b) m at n = keys_int a (inner m) (at + 2) n ++ keys_int b (inner m) (at + 2 + length (encode_int a)) (n + splits_int a (inner m))

  pub keys_members : Members → Splitting → ℕ → ℕ → List Key
  keys_members mnil m at n = []
  keys_members (more e ms) m at n = keys e m at n ++ keys_members ms m (at + length (encode_bool e)) (n + splits e m)

  pub keys_int : IntExpr → Splitting → ℕ → ℕ → List Key
  keys_int (IConst c) m at n = []
  keys_int (IVar v) m at n = []
  keys_int (Linear ts) m at n = keys_terms ts m (at + 2) n
  keys_int (If i c t f) m at n =
      let p = at + 1 + length (encode_bool c) in
      key_of i c t f m at n ∷ keys c m (at + 1) n ++ (keys_int t m p (n + splits c m) ++ keys_int f m (p + length (encode_int t)) (n + splits c m + splits_int t m))

  pub keys_terms : Terms → Splitting → ℕ → ℕ → List Key
  keys_terms tnil m at n = []
  keys_terms (tmore k e ts) m at n = keys_int e m (at + 1) n ++ keys_terms ts m (at + 1 + length (encode_int e)) (n + splits_int e m)

pub data Every (P : Key → Type 0) : List Key → Type 0 where
  every_none : Every P []
  every_more : {x : Key} {xs : List Key} → P x → Every P xs → Every P (x ∷ xs)

pub every_map : {P Q : Key → Type 0} {xs : List Key} → ((x : Key) → P x → Q x) → Every P xs → Every Q xs
every_map f every_none = every_none
every_map f (every_more {x} h hs) = every_more (f x h) (every_map f hs)

pub every_append : {P : Key → Type 0} {xs ys : List Key} → Every P xs → Every P ys → Every P (xs ++ ys)
every_append every_none k = k
every_append (every_more h hs) k = every_more h (every_append hs k)

pub every_head : {P : Key → Type 0} {x : Key} {xs : List Key} → Every P (x ∷ xs) → P x
every_head (every_more h hs) = h

pub every_tail : {P : Key → Type 0} {x : Key} {xs : List Key} → Every P (x ∷ xs) → Every P xs
every_tail (every_more h hs) = hs

pub every_left : {P : Key → Type 0} (xs ys : List Key) → Every P (xs ++ ys) → Every P xs
every_left [] ys h = every_none
every_left (x ∷ xs) ys (every_more h hs) = every_more h (every_left xs ys hs)

pub every_right : {P : Key → Type 0} (xs ys : List Key) → Every P (xs ++ ys) → Every P ys
every_right [] ys h = h
every_right (x ∷ xs) ys (every_more h hs) = every_right xs ys hs

-- ---- where they stand and which numbers they hold

-- places from at to stop, numbers from n to next; one that begins with n has no more than `size` words
pub record Within (at stop n next size : ℕ) (x : Key) : Type 0 where
  pub from : at ≤ x.place.at
  pub to : x.place.at < stop
  pub low : n ≤ x.first
  pub high : x.first + x.count ≤ next
  pub small : x.first ≤ n → length (encode_int x.key) ≤ size
  pub flag : x.place.whole ≡ is_none x.count
  pub spans : Spans (numbers_int x.key) x.first x.count

within_wider : (at stop n next size at' stop' n' next' size' : ℕ) → at' ≤ at → stop ≤ stop' → n' ≤ n → next ≤ next' → (n ≤ n' → size ≤ size') → (x : Key) → Within at stop n next size x → Within at' stop' n' next' size' x
within_wider at stop n next size at' stop' n' next' size' a b c d e x w = record {
  from = omega (arith, a, w.from);
  to = omega (arith, b, w.to);
  low = omega (arith, c, w.low);
  high = omega (arith, d, w.high);
  small = λ h. omega (arith, e (omega (arith, h, w.low)), w.small (omega (arith, h, c)));
  flag = w.flag;
  spans = w.spans;
}

-- the same within wider bounds
pub wide : {at stop n next size at' stop' n' next' size' : ℕ} {xs : List Key} → Every (Within at stop n next size) xs → at' ≤ at → stop ≤ stop' → n' ≤ n → next ≤ next' → (n ≤ n' → size ≤ size') → Every (Within at' stop' n' next' size') xs
wide {at} {stop} {n} {next} {size} {at'} {stop'} {n'} {next'} {size'} {xs} h a b c d e =
    every_map (within_wider at stop n next size at' stop' n' next' size' a b c d e) h

-- an Xor or Iff; a and b: what is known of its sides
module _ (w : BoolExpr → BoolExpr → BoolExpr) (law : (x y : BoolExpr) → length (encode_bool (w x y)) ≡ 1 + length (encode_bool x ++ encode_bool y)) (a b : BoolExpr) where
  abbrev SideWithin : BoolExpr → Splitting → ℕ → Type 0
  SideWithin e m at = (k : ℕ) → Every (Within at (at + length (encode_bool e)) k (k + splits e m) (length (encode_bool (split_of e m k)))) (keys e m at k)

  sides_within : (m : Splitting) (at n : ℕ) → SideWithin a (inner m) (at + 1) → SideWithin b (inner m) (at + 1 + length (encode_bool a))
      → Every (Within at (at + suc (length (encode_bool a ++ encode_bool b))) n (n + (own_splits m + (splits a (inner m) + splits b (inner m)))) (length (encode_bool (rewritten w m n (split_of a (inner m) n) (split_of b (inner m) (n + splits a (inner m)))))))
      (keys a (inner m) (at + 1) (own_splits m + n) ++ keys b (inner m) (at + 1 + length (encode_bool a)) (own_splits m + n + splits a (inner m)))
  sides_within never at n p q =
      let k = n + splits a never in
      let x = split_of a never n in let y = split_of b never k in
      let i = length-append (encode_bool a) (encode_bool b) in
      let j = length-append (encode_bool x) (encode_bool y) in
      let l = law x y in
      rw (no_more n)
      (every_append (wide (p n) (omega arith) (omega (arith, i)) (omega arith) (omega arith) (λ z. omega (arith, j, l))) (wide (q k) (omega arith) (omega (arith, i)) (omega arith) (omega arith) (λ z. omega (arith, j, l))))
  sides_within below at n p q =
      let k = n + splits a here in
      let x = split_of a here n in let y = split_of b here k in
      let i = length-append (encode_bool a) (encode_bool b) in
      let j = length-append (encode_bool x) (encode_bool y) in
      let l = law x y in
      rw (no_more n)
      (every_append (wide (p n) (omega arith) (omega (arith, i)) (omega arith) (omega arith) (λ z. omega (arith, j, l))) (wide (q k) (omega arith) (omega (arith, i)) (omega arith) (omega arith) (λ z. omega (arith, j, l))))
  sides_within here at n p q =
      let i = length-append (encode_bool a) (encode_bool b) in
      every_append (wide (p (2 + n)) (omega arith) (omega (arith, i)) (omega arith) (omega arith) (λ z. omega (arith, z))) (wide (q (2 + n + splits a here)) (omega arith) (omega (arith, i)) (omega arith) (omega arith) (λ z. omega (arith, z)))

-- an If itself, of suc k words
within_root : (x : Key) (k : ℕ) → x.place.whole ≡ is_none x.count → Spans (numbers_int x.key) x.first x.count
    → Within x.place.at (x.place.at + suc k) x.first (x.first + x.count) (length (encode_int x.key)) x
within_root x k f s = record {
  from = omega arith;
  to = omega arith;
  low = omega arith;
  high = omega arith;
  small = λ u. omega arith;
  flag = f;
  spans = s;
}

root_within : (i : IfIsRead) (c : BoolExpr) (t f : IntExpr) (m : Splitting) (at n : ℕ) → int_bound (If i c t f) ≤ 0
    → Within at (at + length (encode_int (If i c t f))) n (n + splits_int (If i c t f) m) (length (encode_int (split_int (If i c t f) m n))) (key_of i c t f m at n)
unfolding encode_int splits_int
root_within i c t f m at n h = within_root (key_of i c t f m at n) (length (encode_bool c ++ (encode_int t ++ encode_int f))) refl (spans_int (If i c t f) m n h)

-- what stands inside an If
module _ (c : BoolExpr) (t f : IntExpr) (m : Splitting) (at n : ℕ) where
  abbrev inside : List Key
  inside =
      let p = at + 1 + length (encode_bool c) in
      keys c m (at + 1) n ++ (keys_int t m p (n + splits c m) ++ keys_int f m (p + length (encode_int t)) (n + splits c m + splits_int t m))

  abbrev inside_size : ℕ
  inside_size = length (encode_bool (split_of c m n) ++ (encode_int (split_int t m (n + splits c m)) ++ encode_int (split_int f m (n + splits c m + splits_int t m))))

  abbrev IntWithin : IntExpr → Type 0
  IntWithin e = (p k : ℕ) → Every (Within p (p + length (encode_int e)) k (k + splits_int e m) (length (encode_int (split_int e m k)))) (keys_int e m p k)

  inside_within : Every (Within (at + 1) (at + 1 + length (encode_bool c)) n (n + splits c m) (length (encode_bool (split_of c m n)))) (keys c m (at + 1) n) → IntWithin t → IntWithin f
      → Every (Within (at + 1) (at + suc (length (encode_bool c ++ (encode_int t ++ encode_int f)))) n (n + (splits c m + (splits_int t m + splits_int f m))) inside_size) inside
  inside_within x y z =
      let p = at + 1 + length (encode_bool c) in let q = p + length (encode_int t) in
      let k = n + splits c m in let l = k + splits_int t m in
      let i = length_three (encode_bool c) (encode_int t) (encode_int f) in
      let j = length_three (encode_bool (split_of c m n)) (encode_int (split_int t m k)) (encode_int (split_int f m l)) in
      every_append (wide x (omega arith) (omega (arith, i)) (omega arith) (omega arith) (λ u. omega (arith, j)))
      (every_append (wide (y p k) (omega arith) (omega (arith, i)) (omega arith) (omega arith) (λ u. omega (arith, j)))
      (wide (z q l) (omega arith) (omega (arith, i)) (omega arith) (omega arith) (λ u. omega (arith, j))))

mutual
  unfolding keys splits split_of encode_bool expr_bound

  pub keys_within : (e : BoolExpr) (m : Splitting) (at n : ℕ) → expr_bound e ≤ 0 → Every (Within at (at + length (encode_bool e)) n (n + splits e m) (length (encode_bool (split_of e m n)))) (keys e m at n)
  keys_within (Const b) m at n h = every_none
  keys_within (Var v) m at n h = every_none
  keys_within (NVar k) m at n h = every_none
  keys_within (And ms) m at n h = wide (keys_members_within ms m (at + 2) n h) (omega arith) (omega arith) (omega arith) (omega arith) (λ x. omega arith)
  keys_within (Or ms) m at n h = wide (keys_members_within ms m (at + 2) n h) (omega arith) (omega arith) (omega arith) (omega arith) (λ x. omega arith)
  keys_within (Not e) m at n h = wide (keys_within e m (at + 1) n h) (omega arith) (omega arith) (omega arith) (omega arith) (λ x. omega arith)
  keys_within (Xor a b) m at n h =
      sides_within Xor (λ x y. omega arith) a b m at n (λ k. keys_within a (inner m) (at + 1) k (omega (arith, h))) (λ k. keys_within b (inner m) (at + 1 + length (encode_bool a)) k (omega (arith, h)))
  keys_within (Iff a b) m at n h =
      sides_within Iff (λ x y. omega arith) a b m at n (λ k. keys_within a (inner m) (at + 1) k (omega (arith, h))) (λ k. keys_within b (inner m) (at + 1 + length (encode_bool a)) k (omega (arith, h)))
  keys_within (Imp a b) m at n h =
      let p = at + 1 + length (encode_bool a) in let k = n + splits a m in
      let i = length-append (encode_bool a) (encode_bool b) in
      let j = length-append (encode_bool (split_of a m n)) (encode_bool (split_of b m k)) in
      every_append
      (wide (keys_within a m (at + 1) n (omega (arith, h))) (omega arith) (omega (arith, i)) (omega arith) (omega arith) (λ x. omega (arith, j)))
      (wide (keys_within b m p k (omega (arith, h))) (omega arith) (omega (arith, i)) (omega arith) (omega arith) (λ x. omega (arith, j)))
  keys_within (Cmp o a b) m at n h =
      let p = at + 2 + length (encode_int a) in let k = n + splits_int a (inner m) in
      let i = length-append (encode_int a) (encode_int b) in
      let j = length-append (encode_int (split_int a (inner m) n)) (encode_int (split_int b (inner m) k)) in
      every_append
      (wide (keys_int_within a (inner m) (at + 2) n (omega (arith, h))) (omega arith) (omega (arith, i)) (omega arith) (omega arith) (λ x. omega (arith, j)))
      (wide (keys_int_within b (inner m) p k (omega (arith, h))) (omega arith) (omega (arith, i)) (omega arith) (omega arith) (λ x. omega (arith, j)))

  keys_members_within : (ms : Members) (m : Splitting) (at n : ℕ) → members_bound ms ≤ 0
      → Every (Within at (at + length (encode_members ms)) n (n + splits_members ms m) (length (encode_members (split_members ms m n)))) (keys_members ms m at n)
  keys_members_within mnil m at n h = every_none
  keys_members_within (more e ms) m at n h =
      let p = at + length (encode_bool e) in let k = n + splits e m in
      let i = length-append (encode_bool e) (encode_members ms) in
      let j = length-append (encode_bool (split_of e m n)) (encode_members (split_members ms m k)) in
      every_append
      (wide (keys_within e m at n (omega (arith, h))) (omega arith) (omega (arith, i)) (omega arith) (omega arith) (λ x. omega (arith, j)))
      (wide (keys_members_within ms m p k (omega (arith, h))) (omega arith) (omega (arith, i)) (omega arith) (omega arith) (λ x. omega (arith, j)))

  pub keys_int_within : (e : IntExpr) (m : Splitting) (at n : ℕ) → int_bound e ≤ 0 → Every (Within at (at + length (encode_int e)) n (n + splits_int e m) (length (encode_int (split_int e m n)))) (keys_int e m at n)
  keys_int_within (IConst c) m at n h = every_none
  keys_int_within (IVar v) m at n h = every_none
  keys_int_within (Linear ts) m at n h = wide (keys_terms_within ts m (at + 2) n h) (omega arith) (omega arith) (omega arith) (omega arith) (λ x. omega arith)
  keys_int_within (If i c t f) m at n h =
      let x = expr_bound c in let y = int_bound t in let z = int_bound f in
      every_more (root_within i c t f m at n h)
      (wide (inside_within c t f m at n (keys_within c m (at + 1) n (most_first x y z 0 h)) (λ p k. keys_int_within t m p k (most_second x y z 0 h)) (λ p k. keys_int_within f m p k (most_third x y z 0 h)))
      (le_more at 1) (le_same _) (le_same n) (le_same _) (λ u. le_next _))

  keys_terms_within : (ts : Terms) (m : Splitting) (at n : ℕ) → terms_numbers ts ≤ 0
      → Every (Within at (at + length (encode_terms ts)) n (n + splits_terms ts m) (length (encode_terms (split_terms ts m n)))) (keys_terms ts m at n)
  keys_terms_within tnil m at n h = every_none
  keys_terms_within (tmore c e ts) m at n h =
      let p = at + 1 + length (encode_int e) in let k = n + splits_int e m in
      let i = length-append (encode_int e) (encode_terms ts) in
      let j = length-append (encode_int (split_int e m n)) (encode_terms (split_terms ts m k)) in
      every_append
      (wide (keys_int_within e m (at + 1) n (omega (arith, h))) (omega arith) (omega (arith, i)) (omega arith) (omega arith) (λ x. omega (arith, j)))
      (wide (keys_terms_within ts m p k (omega (arith, h))) (omega arith) (omega (arith, i)) (omega arith) (omega arith) (λ x. omega (arith, j)))

-- ---- no two are alike

pub words_differ : (a b : IntExpr) → (a ≡ b → ⊥) → same_words (encode_int a) (encode_int b) ≡ false
words_differ a b h = go (same_words (encode_int a) (encode_int b)) refl
  where
    go : (t : Bool) → same_words (encode_int a) (encode_int b) ≡ t → same_words (encode_int a) (encode_int b) ≡ false
    go true e = absurd (h (int_unique_words a b (same_is (encode_int a) (encode_int b) e)))
    go false e = e

-- x stands before y, and has another key where both hold numbers
pub record Differ (x y : Key) : Type 0 where
  pub before : x.place.at < y.place.at
  pub other : x.place.whole ≡ false → y.place.whole ≡ false → x.key ≡ y.key → ⊥

pub data Distinct : List Key → Type 0 where
  distinct_none : Distinct []
  distinct_more : {x : Key} {xs : List Key} → Every (Differ x) xs → Distinct xs → Distinct (x ∷ xs)

pub distinct_append : {xs ys : List Key} → Distinct xs → Distinct ys → Every (λ x. Every (Differ x) ys) xs → Distinct (xs ++ ys)
distinct_append distinct_none k every_none = k
distinct_append (distinct_more h hs) k (every_more d ds) = distinct_more (every_append h d) (distinct_append hs k ds)

-- the first number of a key that holds some
pub counted : (k : ℕ) (b : Bool) → b ≡ is_none k → b ≡ false → 0 < k
counted zero b e h = no_bool (sym h ∙ e)
counted (suc k) b e h = omega arith

uncounted : (k : ℕ) (b : Bool) → b ≡ is_none k → b ≡ true → k ≡ 0
uncounted zero b e h = refl
uncounted (suc k) b e h = no_bool (sym e ∙ h)

begins_one : (xs ys : List ℕ) (a b : ℕ) → Begins xs a → Begins ys b → xs ≡ ys → a ≡ b
begins_one xs ys a b h k e = go ys k (subst (λ (l : List ℕ). Begins l a) e h)
  where
    go : (zs : List ℕ) → Begins zs b → Begins zs a → a ≡ b
    go [] h k = absurd h
    go (z ∷ zs) h k = sym k ∙ h

same_first : {at stop n next size at' stop' n' next' size' : ℕ} (x y : Key) → Within at stop n next size x → Within at' stop' n' next' size' y → x.place.whole ≡ false → y.place.whole ≡ false → x.key ≡ y.key → x.first ≡ y.first
same_first x y w v a b e =
    begins_one (numbers_int x.key) (numbers_int y.key) x.first y.first (w.spans.first (counted x.count x.place.whole w.flag a)) (v.spans.first (counted y.count y.place.whole v.flag b)) (ap numbers_int e)

-- neighbours
pub apart : {at p q stop n k l next r s : ℕ} {xs ys : List Key} → p ≤ q → k ≤ l → Every (Within at p n k r) xs → Every (Within q stop l next s) ys → Every (λ x. Every (Differ x) ys) xs
apart i j h hs = every_map (λ x w. every_map (λ y v. record {
  before = omega (arith, i, w.to, v.from);
  other = λ a b e. absurd (omega (arith, j, w.high, v.low, counted x.count x.place.whole w.flag a, same_first x y w v a b e));
}) hs) h

-- an If and what stands inside it
around : {at stop n next size p q k l r : ℕ} {ys : List Key} (x : Key) → Within p q k l r x → x.place.at < at → x.first ≤ n → size < length (encode_int x.key) → Every (Within at stop n next size) ys → Every (Differ x) ys
around x w i j s hs = every_map (λ y v. record {
  before = omega (arith, i, v.from);
  other = λ a b e.
      let z : x.first ≡ y.first = same_first x y w v a b e in
      let u : length (encode_int x.key) ≡ length (encode_int y.key) = ap (λ (k : IntExpr). length (encode_int k)) e in
      absurd (omega (arith, v.small (omega (arith, z, j)), s, u));
}) hs

apart_both : {ys zs xs : List Key} → Every (λ x. Every (Differ x) ys) xs → Every (λ x. Every (Differ x) zs) xs → Every (λ x. Every (Differ x) (ys ++ zs)) xs
apart_both every_none every_none = every_none
apart_both (every_more h hs) (every_more k ks) = every_more (every_append h k) (apart_both hs ks)

sides_distinct : (a b : BoolExpr) (m : Splitting) (at n : ℕ) → expr_bound a ≤ 0 → expr_bound b ≤ 0 → Distinct (keys a m at n) → Distinct (keys b m (at + length (encode_bool a)) (n + splits a m))
    → Distinct (keys a m at n ++ keys b m (at + length (encode_bool a)) (n + splits a m))
sides_distinct a b m at n i j x y = distinct_append x y (apart (omega arith) (omega arith) (keys_within a m at n i) (keys_within b m (at + length (encode_bool a)) (n + splits a m) j))

inside_distinct : (c : BoolExpr) (t f : IntExpr) (m : Splitting) (at n : ℕ) → expr_bound c ≤ 0 → int_bound t ≤ 0 → int_bound f ≤ 0
    → let p = at + 1 + length (encode_bool c) in let k = n + splits c m in
    Distinct (keys c m (at + 1) n) → Distinct (keys_int t m p k) → Distinct (keys_int f m (p + length (encode_int t)) (k + splits_int t m)) → Distinct (inside c t f m at n)
inside_distinct c t f m at n x y z a b d =
    let p = at + 1 + length (encode_bool c) in let q = p + length (encode_int t) in
    let k = n + splits c m in let l = k + splits_int t m in
    let cs = keys_within c m (at + 1) n x in let ts = keys_int_within t m p k y in let fs = keys_int_within f m q l z in
    distinct_append a (distinct_append b d (apart (omega arith) (omega arith) ts fs)) (apart_both (apart (omega arith) (omega arith) cs ts) (apart (omega arith) (omega arith) cs fs))

mutual
  unfolding keys expr_bound encode_bool split_of

  pub keys_distinct : (e : BoolExpr) (m : Splitting) (at n : ℕ) → expr_bound e ≤ 0 → Distinct (keys e m at n)
  keys_distinct (Const b) m at n h = distinct_none
  keys_distinct (Var v) m at n h = distinct_none
  keys_distinct (NVar k) m at n h = distinct_none
  keys_distinct (And ms) m at n h = keys_members_distinct ms m (at + 2) n h
  keys_distinct (Or ms) m at n h = keys_members_distinct ms m (at + 2) n h
  keys_distinct (Not e) m at n h = keys_distinct e m (at + 1) n h
  keys_distinct (Xor a b) m at n h =
      let i : expr_bound a ≤ 0 = omega (arith, h) in let j : expr_bound b ≤ 0 = omega (arith, h) in
      sides_distinct a b (inner m) (at + 1) (own_splits m + n) i j (keys_distinct a (inner m) (at + 1) (own_splits m + n) i) (keys_distinct b (inner m) (at + 1 + length (encode_bool a)) (own_splits m + n + splits a (inner m)) j)
  keys_distinct (Iff a b) m at n h =
      let i : expr_bound a ≤ 0 = omega (arith, h) in let j : expr_bound b ≤ 0 = omega (arith, h) in
      sides_distinct a b (inner m) (at + 1) (own_splits m + n) i j (keys_distinct a (inner m) (at + 1) (own_splits m + n) i) (keys_distinct b (inner m) (at + 1 + length (encode_bool a)) (own_splits m + n + splits a (inner m)) j)
  keys_distinct (Imp a b) m at n h =
      let i : expr_bound a ≤ 0 = omega (arith, h) in let j : expr_bound b ≤ 0 = omega (arith, h) in
      sides_distinct a b m (at + 1) n i j (keys_distinct a m (at + 1) n i) (keys_distinct b m (at + 1 + length (encode_bool a)) (n + splits a m) j)
  keys_distinct (Cmp o a b) m at n h =
      let p = at + 2 + length (encode_int a) in let k = n + splits_int a (inner m) in
      let i : int_bound a ≤ 0 = omega (arith, h) in let j : int_bound b ≤ 0 = omega (arith, h) in
      distinct_append (keys_int_distinct a (inner m) (at + 2) n i) (keys_int_distinct b (inner m) p k j)
      (apart (omega arith) (omega arith) (keys_int_within a (inner m) (at + 2) n i) (keys_int_within b (inner m) p k j))

  keys_members_distinct : (ms : Members) (m : Splitting) (at n : ℕ) → members_bound ms ≤ 0 → Distinct (keys_members ms m at n)
  keys_members_distinct mnil m at n h = distinct_none
  keys_members_distinct (more e ms) m at n h =
      let p = at + length (encode_bool e) in let k = n + splits e m in
      let i : expr_bound e ≤ 0 = omega (arith, h) in let j : members_bound ms ≤ 0 = omega (arith, h) in
      distinct_append (keys_distinct e m at n i) (keys_members_distinct ms m p k j) (apart (omega arith) (omega arith) (keys_within e m at n i) (keys_members_within ms m p k j))

  pub keys_int_distinct : (e : IntExpr) (m : Splitting) (at n : ℕ) → int_bound e ≤ 0 → Distinct (keys_int e m at n)
  keys_int_distinct (IConst c) m at n h = distinct_none
  keys_int_distinct (IVar v) m at n h = distinct_none
  keys_int_distinct (Linear ts) m at n h = keys_terms_distinct ts m (at + 2) n h
  keys_int_distinct (If i c t f) m at n h =
      let p = at + 1 + length (encode_bool c) in let q = p + length (encode_int t) in
      let k = n + splits c m in let l = k + splits_int t m in
      let x : expr_bound c ≤ 0 = most_first (expr_bound c) (int_bound t) (int_bound f) 0 h in
      let y : int_bound t ≤ 0 = most_second (expr_bound c) (int_bound t) (int_bound f) 0 h in
      let z : int_bound f ≤ 0 = most_third (expr_bound c) (int_bound t) (int_bound f) 0 h in
      distinct_more
      (around (key_of i c t f m at n) (root_within i c t f m at n h) (lt_next at) (le_same n) (lt_suc _)
      (inside_within c t f m at n (keys_within c m (at + 1) n x) (λ u v. keys_int_within t m u v y) (λ u v. keys_int_within f m u v z)))
      (inside_distinct c t f m at n x y z (keys_distinct c m (at + 1) n x) (keys_int_distinct t m p k y) (keys_int_distinct f m q l z))

  keys_terms_distinct : (ts : Terms) (m : Splitting) (at n : ℕ) → terms_numbers ts ≤ 0 → Distinct (keys_terms ts m at n)
  keys_terms_distinct tnil m at n h = distinct_none
  keys_terms_distinct (tmore c e ts) m at n h =
      let p = at + 1 + length (encode_int e) in let k = n + splits_int e m in
      let i : int_bound e ≤ 0 = omega (arith, h) in let j : terms_numbers ts ≤ 0 = omega (arith, h) in
      distinct_append (keys_int_distinct e m (at + 1) n i) (keys_terms_distinct ts m p k j) (apart (omega arith) (omega arith) (keys_int_within e m (at + 1) n i) (keys_terms_within ts m p k j))

-- ---- an If that is looked up is one of them

pub data Found (p : Place) (k : IntExpr) : List Key → Type 0 where
  found : {x : Key} {xs : List Key} → x.place ≡ p → x.key ≡ k → Found p k (x ∷ xs)
  later : {x : Key} {xs : List Key} → Found p k xs → Found p k (x ∷ xs)

pub every_found : (xs : List Key) → Every (λ x. Found x.place x.key xs) xs
every_found [] = every_none
every_found (x ∷ xs) = every_more (found refl refl) (every_map (λ y h. later h) (every_found xs))

pub found_in : {P : Key → Type 0} {xs : List Key} {p : Place} {k : IntExpr} {A : Type 0} → Every P xs → Found p k xs → ((x : Key) → P x → x.place ≡ p → x.key ≡ k → A) → A
found_in (every_more {x} h hs) (found a b) f = f x h a b
found_in (every_more h hs) (later a) f = found_in hs a f
found_in {P = P} {p = p} {k = k} {A = A} every_none x5 f = elim x5 [ ]

-- p k and q l: two of one list
abbrev pub OneKey : Place → IntExpr → Place → IntExpr → Type 0
OneKey p k q l = (p.at ≡ q.at → (p ≡ q) × (k ≡ l)) × (p.whole ≡ false → q.whole ≡ false → (p.at ≡ q.at → ⊥) → k ≡ l → ⊥)

one_of_differ : (x y : Key) → Differ x y → OneKey x.place x.key y.place y.key
one_of_differ x y d = (λ e. absurd (omega (arith, d.before, e)), λ a b e. d.other a b)

one_turned : (p q : Place) (k l : IntExpr) → OneKey p k q l → OneKey q l p k
one_turned p q k l o = (λ e. let h = o.0 (sym e) in (sym h.0, sym h.1), λ a b e h. o.1 b a (λ j. e (sym j)) (sym h))

pub distinct_found : {xs : List Key} (p q : Place) (k l : IntExpr) → Distinct xs → Found p k xs → Found q l xs → OneKey p k q l
distinct_found p q k l (distinct_more {x} {xs} h hs) (found a b) (found c d) = (λ e. (sym a ∙ c, sym b ∙ d), λ u v e j. e (ap (λ (z : Place). z.at) (sym a ∙ c)))
distinct_found p q k l (distinct_more {x} {xs} h hs) (found a b) (later c) = found_in h c (λ y d i j. rw (sym a, sym b, sym i, sym j) (one_of_differ x y d))
distinct_found p q k l (distinct_more {x} {xs} h hs) (later a) (found c d) = one_turned q p l k (found_in h a (λ y e i j. rw (sym c, sym d, sym i, sym j) (one_of_differ x y e)))
distinct_found p q k l (distinct_more h hs) (later a) (later c) = distinct_found p q k l hs a c
distinct_found p q k l distinct_none x5 _ = elim x5 [ ]

-- ---- the Ifs of trees

-- P: of an If its place, its key, its condition plain and negated, its branches
module _ (P : Place → IntExpr → Tree → Tree → IntTree → IntTree → Type 0) where
  unfoldable mutual
    pub Choices : Tree → Type 0
    Choices (var v g) = Unit {0}
    Choices (num n g) = Unit {0}
    Choices (cmp o a b g) = ChoicesInt a × ChoicesInt b
    Choices (conj ts) = ChoicesAll ts
    Choices (disj ts) = ChoicesAll ts
    Choices (cross ts us) = ChoicesAll ts × ChoicesAll us
    Choices (tied v t u) = Choices t × Choices u

    pub ChoicesAll : Trees → Type 0
    ChoicesAll nil = Unit {0}
    ChoicesAll (cons t ts) = Choices t × ChoicesAll ts

    pub ChoicesInt : IntTree → Type 0
    ChoicesInt (const c) = Unit {0}
    ChoicesInt (ivar v) = Unit {0}
    ChoicesInt (sum ts) = ChoicesTerms ts
    ChoicesInt (choice i p e c d t f) = P p e c d t f × Choices c × Choices d × ChoicesInt t × ChoicesInt f

    pub ChoicesTerms : TermTrees → Type 0
    ChoicesTerms none = Unit {0}
    ChoicesTerms (term k e ts) = ChoicesInt e × ChoicesTerms ts

  pub choices_append : (ts us : Trees) → ChoicesAll ts → ChoicesAll us → ChoicesAll (append ts us)
  unfolding Choices
  choices_append nil us h k = k
  choices_append (cons t ts) us h k = (h.0, choices_append ts us h.1 k)

  choices_joined : (d : Bool) (ts : Trees) → ChoicesAll ts → Choices (joined d ts)
  unfolding Choices
  choices_joined false ts h = h
  choices_joined true ts h = h

-- of an expression's trees, from what is known of its keys
abbrev pub Makes : (Place → IntExpr → Tree → Tree → IntTree → IntTree → Type 0) → (Key → Type 0) → Type 0
Makes P Q = (i : IfIsRead) (c : BoolExpr) (t f : IntExpr) (m : Splitting) (at n : ℕ) → Q (key_of i c t f m at n)
    → let p = at + 1 + length (encode_bool c) in let k = n + splits c m in
    P (place_of at c t f (splits c m + (splits_int t m + splits_int f m))) (split_int (If i c t f) m n) (resolve c m (at + 1) n false) (resolve c m (at + 1) n true) (resolve_int t m p k) (resolve_int f m (p + length (encode_int t)) (k + splits_int t m))

module _ (P : Place → IntExpr → Tree → Tree → IntTree → IntTree → Type 0) (Q : Key → Type 0) (make : Makes P Q) where
  abbrev Kept : List Key → Type 0
  Kept xs = Every Q xs

  module _ (a b : BoolExpr) where
    -- the sides' trees wherever they are made, and the keys with the numbers where they are
    choices_crossed : (m : Splitting) (at q n : ℕ) (g : Bool) → ((k : ℕ) (h : Bool) → Kept (keys a (inner m) at k) → Choices P (resolve a (inner m) at k h)) → ((k : ℕ) (h : Bool) → Kept (keys b (inner m) q k) → Choices P (resolve b (inner m) q k h))
        → Kept (keys a (inner m) at (own_splits m + n) ++ keys b (inner m) q (own_splits m + n + splits a (inner m)))
        → Choices P (crossed_at m n (λ h. resolve a (inner m) at n h) (λ h. resolve b (inner m) q (n + splits a (inner m)) h) g)
    unfolding Choices
    choices_crossed never at q n g x y z =
        let k = n + splits a never in
        let w : Kept (keys a never at n ++ keys b never q k) = rw (no_more n) at z in
        let u = every_left (keys a never at n) (keys b never q k) w in let v = every_right (keys a never at n) (keys b never q k) w in
        ((x n false u, (y k g v, tt)), (x n true u, (y k (not g) v, tt)))
    choices_crossed below at q n g x y z =
        let k = n + splits a here in
        let w : Kept (keys a here at n ++ keys b here q k) = rw (no_more n) at z in
        let u = every_left (keys a here at n) (keys b here q k) w in let v = every_right (keys a here at n) (keys b here q k) w in
        ((x n false u, (y k g v, tt)), (x n true u, (y k (not g) v, tt)))
    choices_crossed here at q n g x y z = ((tt, (tt, tt)), (tt, (tt, tt)))

  mutual
    unfolding Choices resolve keys splits

    pub resolve_choices : (e : BoolExpr) (m : Splitting) (at n : ℕ) (g : Bool) → Kept (keys e m at n) → Choices P (resolve e m at n g)
    resolve_choices (Const b) m at n g h = choices_joined P (not (negate_if g b)) nil tt
    resolve_choices (Var v) m at n g h = tt
    resolve_choices (NVar k) m at n g h = tt
    resolve_choices (And ms) m at n g h = choices_joined P g (resolves ms m (at + 2) n g) (resolves_choices ms m (at + 2) n g h)
    resolve_choices (Or ms) m at n g h = choices_joined P (not g) (resolves ms m (at + 2) n g) (resolves_choices ms m (at + 2) n g h)
    resolve_choices (Not e) m at n g h = resolve_choices e m (at + 1) n (not g) h
    resolve_choices (Xor a b) m at n g h =
        let q = at + 1 + length (encode_bool a) in
        choices_crossed a b m (at + 1) q n g (λ k x u. resolve_choices a (inner m) (at + 1) k x u) (λ k x u. resolve_choices b (inner m) q k x u) h
    resolve_choices (Iff a b) m at n g h =
        let q = at + 1 + length (encode_bool a) in
        choices_crossed a b m (at + 1) q n (not g) (λ k x u. resolve_choices a (inner m) (at + 1) k x u) (λ k x u. resolve_choices b (inner m) q k x u) h
    resolve_choices (Imp a b) m at n g h =
        let q = at + 1 + length (encode_bool a) in let k = n + splits a m in
        let xs = keys a m (at + 1) n in let ys = keys b m q k in
        choices_joined P (not g) _ (resolve_choices a m (at + 1) n (not g) (every_left xs ys h), (resolve_choices b m q k g (every_right xs ys h), tt))
    resolve_choices (Cmp o a b) m at n g h =
        let q = at + 2 + length (encode_int a) in let k = n + splits_int a (inner m) in
        let xs = keys_int a (inner m) (at + 2) n in let ys = keys_int b (inner m) q k in
        (int_choices a (inner m) (at + 2) n (every_left xs ys h), int_choices b (inner m) q k (every_right xs ys h))

    resolves_choices : (ms : Members) (m : Splitting) (at n : ℕ) (g : Bool) → Kept (keys_members ms m at n) → ChoicesAll P (resolves ms m at n g)
    resolves_choices mnil m at n g h = tt
    resolves_choices (more e ms) m at n g h =
        let q = at + length (encode_bool e) in let k = n + splits e m in
        let xs = keys e m at n in let ys = keys_members ms m q k in
        (resolve_choices e m at n g (every_left xs ys h), resolves_choices ms m q k g (every_right xs ys h))

    pub int_choices : (e : IntExpr) (m : Splitting) (at n : ℕ) → Kept (keys_int e m at n) → ChoicesInt P (resolve_int e m at n)
    int_choices (IConst c) m at n h = tt
    int_choices (IVar v) m at n h = tt
    int_choices (Linear ts) m at n h = terms_choices ts m (at + 2) n h
    int_choices (If i c t f) m at n h =
        let p = at + 1 + length (encode_bool c) in let q = p + length (encode_int t) in
        let k = n + splits c m in let l = k + splits_int t m in
        let cs = keys c m (at + 1) n in let ts = keys_int t m p k in let fs = keys_int f m q l in
        let x = every_head h in let y = every_tail h in
        let u = every_left cs (ts ++ fs) y in let v = every_right cs (ts ++ fs) y in
        (make i c t f m at n x, resolve_choices c m (at + 1) n false u, resolve_choices c m (at + 1) n true u, int_choices t m p k (every_left ts fs v), int_choices f m q l (every_right ts fs v))

    terms_choices : (ts : Terms) (m : Splitting) (at n : ℕ) → Kept (keys_terms ts m at n) → ChoicesTerms P (resolve_terms ts m at n)
    terms_choices tnil m at n h = tt
    terms_choices (tmore c e ts) m at n h =
        let q = at + 1 + length (encode_int e) in let k = n + splits_int e m in
        let xs = keys_int e m (at + 1) n in let ys = keys_terms ts m q k in
        (int_choices e m (at + 1) n (every_left xs ys h), terms_choices ts m q k (every_right xs ys h))

  -- a side's tie behind its extras
  choices_tied : (e : BoolExpr) (at n v : ℕ) → Kept (keys e here at n) → ChoicesAll P (cons (tie v e at n) nil)
  unfolding Choices
  choices_tied e at n v h = ((resolve_choices e here at n false h, resolve_choices e here at n true h), tt)

  module _ (a b : BoolExpr) where
    choices_sides : (m : Splitting) (at q k u v : ℕ) → (Kept (keys a (inner m) at k) → ChoicesAll P (ties a (inner m) at k)) → (Kept (keys b (inner m) q (k + splits a (inner m))) → ChoicesAll P (ties b (inner m) q (k + splits a (inner m))))
        → Kept (keys a (inner m) at k ++ keys b (inner m) q (k + splits a (inner m)))
        → ChoicesAll P (sides_tied m (ties a (inner m) at k) (tie u a at k) (ties b (inner m) q (k + splits a (inner m))) (tie v b q (k + splits a (inner m))))
    choices_sides never at q k u v x y h =
        let l = k + splits a never in let xs = keys a never at k in let ys = keys b never q l in
        choices_append P (ties a never at k) (ties b never q l) (x (every_left xs ys h)) (y (every_right xs ys h))
    choices_sides below at q k u v x y h =
        let l = k + splits a here in let xs = keys a here at k in let ys = keys b here q l in
        choices_append P (ties a here at k) (ties b here q l) (x (every_left xs ys h)) (y (every_right xs ys h))
    choices_sides here at q k u v x y h =
        let l = k + splits a here in let xs = keys a here at k in let ys = keys b here q l in
        let i = every_left xs ys h in let j = every_right xs ys h in
        choices_append P (append (ties a here at k) (cons (tie u a at k) nil)) (append (ties b here q l) (cons (tie v b q l) nil))
        (choices_append P (ties a here at k) (cons (tie u a at k) nil) (x i) (choices_tied a at k u i))
        (choices_append P (ties b here q l) (cons (tie v b q l) nil) (y j) (choices_tied b q l v j))

  mutual
    unfolding Choices ties keys splits

    pub ties_choices : (e : BoolExpr) (m : Splitting) (at n : ℕ) → Kept (keys e m at n) → ChoicesAll P (ties e m at n)
    ties_choices (Const b) m at n h = tt
    ties_choices (Var v) m at n h = tt
    ties_choices (NVar k) m at n h = tt
    ties_choices (And ms) m at n h = ties_members_choices ms m (at + 2) n h
    ties_choices (Or ms) m at n h = ties_members_choices ms m (at + 2) n h
    ties_choices (Not e) m at n h = ties_choices e m (at + 1) n h
    ties_choices (Xor a b) m at n h =
        let q = at + 1 + length (encode_bool a) in let k = own_splits m + n in
        choices_sides a b m (at + 1) q k n (suc n) (λ u. ties_choices a (inner m) (at + 1) k u) (λ u. ties_choices b (inner m) q (k + splits a (inner m)) u) h
    ties_choices (Iff a b) m at n h =
        let q = at + 1 + length (encode_bool a) in let k = own_splits m + n in
        choices_sides a b m (at + 1) q k n (suc n) (λ u. ties_choices a (inner m) (at + 1) k u) (λ u. ties_choices b (inner m) q (k + splits a (inner m)) u) h
    ties_choices (Imp a b) m at n h =
        let q = at + 1 + length (encode_bool a) in let k = n + splits a m in
        let xs = keys a m (at + 1) n in let ys = keys b m q k in
        choices_append P (ties a m (at + 1) n) (ties b m q k) (ties_choices a m (at + 1) n (every_left xs ys h)) (ties_choices b m q k (every_right xs ys h))
    ties_choices (Cmp o a b) m at n h =
        let q = at + 2 + length (encode_int a) in let k = n + splits_int a (inner m) in
        let xs = keys_int a (inner m) (at + 2) n in let ys = keys_int b (inner m) q k in
        choices_append P (ties_int a (inner m) (at + 2) n) (ties_int b (inner m) q k) (ties_int_choices a (inner m) (at + 2) n (every_left xs ys h)) (ties_int_choices b (inner m) q k (every_right xs ys h))

    ties_members_choices : (ms : Members) (m : Splitting) (at n : ℕ) → Kept (keys_members ms m at n) → ChoicesAll P (ties_members ms m at n)
    ties_members_choices mnil m at n h = tt
    ties_members_choices (more e ms) m at n h =
        let q = at + length (encode_bool e) in let k = n + splits e m in
        let xs = keys e m at n in let ys = keys_members ms m q k in
        choices_append P (ties e m at n) (ties_members ms m q k) (ties_choices e m at n (every_left xs ys h)) (ties_members_choices ms m q k (every_right xs ys h))

    pub ties_int_choices : (e : IntExpr) (m : Splitting) (at n : ℕ) → Kept (keys_int e m at n) → ChoicesAll P (ties_int e m at n)
    ties_int_choices (IConst c) m at n h = tt
    ties_int_choices (IVar v) m at n h = tt
    ties_int_choices (Linear ts) m at n h = ties_terms_choices ts m (at + 2) n h
    ties_int_choices (If i c t f) m at n h =
        let p = at + 1 + length (encode_bool c) in let q = p + length (encode_int t) in
        let k = n + splits c m in let l = k + splits_int t m in
        let cs = keys c m (at + 1) n in let ts = keys_int t m p k in let fs = keys_int f m q l in
        let y = every_tail h in
        let v = every_right cs (ts ++ fs) y in
        choices_append P (ties c m (at + 1) n) (append (ties_int t m p k) (ties_int f m q l)) (ties_choices c m (at + 1) n (every_left cs (ts ++ fs) y))
        (choices_append P (ties_int t m p k) (ties_int f m q l) (ties_int_choices t m p k (every_left ts fs v)) (ties_int_choices f m q l (every_right ts fs v)))

    ties_terms_choices : (ts : Terms) (m : Splitting) (at n : ℕ) → Kept (keys_terms ts m at n) → ChoicesAll P (ties_terms ts m at n)
    ties_terms_choices tnil m at n h = tt
    ties_terms_choices (tmore c e ts) m at n h =
        let q = at + 1 + length (encode_int e) in let k = n + splits_int e m in
        let xs = keys_int e m (at + 1) n in let ys = keys_terms ts m q k in
        choices_append P (ties_int e m (at + 1) n) (ties_terms ts m q k) (ties_int_choices e m (at + 1) n (every_left xs ys h)) (ties_terms_choices ts m q k (every_right xs ys h))

abbrev pub Listed : List Key → Place → IntExpr → Tree → Tree → IntTree → IntTree → Type 0
Listed xs p k c d t f = Found p k xs

-- every If that is looked up in the tree and in the extras of an expression is in its list
pub resolve_found : (e : BoolExpr) (m : Splitting) (at n : ℕ) (g : Bool) → Choices (Listed (keys e m at n)) (resolve e m at n g)
resolve_found e m at n g = resolve_choices (Listed (keys e m at n)) (λ x. Found x.place x.key (keys e m at n)) (λ i c t f m at n h. h) e m at n g (every_found (keys e m at n))

pub ties_found : (e : BoolExpr) (m : Splitting) (at n : ℕ) → ChoicesAll (Listed (keys e m at n)) (ties e m at n)
ties_found e m at n = ties_choices (Listed (keys e m at n)) (λ x. Found x.place x.key (keys e m at n)) (λ i c t f m at n h. h) e m at n (every_found (keys e m at n))

pub resolve_int_found : (e : IntExpr) (m : Splitting) (at n : ℕ) → ChoicesInt (Listed (keys_int e m at n)) (resolve_int e m at n)
resolve_int_found e m at n = int_choices (Listed (keys_int e m at n)) (λ x. Found x.place x.key (keys_int e m at n)) (λ i c t f m at n h. h) e m at n (every_found (keys_int e m at n))

pub ties_int_found : (e : IntExpr) (m : Splitting) (at n : ℕ) → ChoicesAll (Listed (keys_int e m at n)) (ties_int e m at n)
ties_int_found e m at n = ties_int_choices (Listed (keys_int e m at n)) (λ x. Found x.place x.key (keys_int e m at n)) (λ i c t f m at n h. h) e m at n (every_found (keys_int e m at n))

-- ---- what is found, by keys-distinct and keys-within

-- one place, one key; two places, other words where both hold numbers
pub same_place : {xs : List Key} (p q : Place) (k l : IntExpr) → Distinct xs → Found p k xs → Found q l xs → p.at ≡ q.at → (p ≡ q) × (k ≡ l)
same_place p q k l d a b e = (distinct_found p q k l d a b).0 e

pub other_place : {xs : List Key} (p q : Place) (k l : IntExpr) → Distinct xs → Found p k xs → Found q l xs → p.whole ≡ false → q.whole ≡ false → (p.at ≡ q.at → ⊥) → same_words (encode_int k) (encode_int l) ≡ false
other_place p q k l d a b x y e = words_differ k l ((distinct_found p q k l d a b).1 x y e)

-- a key's numbers
pub found_numbers : {at stop n next size : ℕ} {xs : List Key} (p : Place) (k : IntExpr) → Every (Within at stop n next size) xs → Found p k xs → Between n next (numbers_int k)
found_numbers {at} {stop} {n} {next} p k h a =
    found_in h a (λ x w i j. subst (λ (e : IntExpr). Between n next (numbers_int e)) j (between_wider x.first (x.first + x.count) n next (numbers_int x.key) w.low w.high w.spans.all))

pub whole_none : {at stop n next size : ℕ} {xs : List Key} (p : Place) (k : IntExpr) → Every (Within at stop n next size) xs → Found p k xs → p.whole ≡ true → numbers_int k ≡ []
whole_none p k h a b = found_in h a (λ x w i j. ap numbers_int (sym j) ∙ w.spans.none_taken (uncounted x.count x.place.whole w.flag (ap (λ (z : Place). z.whole) i ∙ b)))

begins_new : (xs ys : List ℕ) (a n : ℕ) → Begins xs a → n ≤ a → Between 0 n ys → xs ≡ ys → ⊥
begins_new xs [] a n h i b e = subst (λ (l : List ℕ). Begins l a) e h
begins_new xs (y ∷ ys) a n h i b e = let z : y ≡ a = subst (λ (l : List ℕ). Begins l a) e h in absurd (omega (arith, z, i, b.1))

-- a key with numbers differs from whatever names numbers below its list's only
pub found_new : {at stop n next size : ℕ} {xs : List Key} (p : Place) (k f : IntExpr) → Every (Within at stop n next size) xs → Found p k xs → p.whole ≡ false → Between 0 n (numbers_int f) → same_words (encode_int k) (encode_int f) ≡ false
found_new {at} {stop} {n} p k f h a b c =
    words_differ k f (λ e. found_in h a (λ x w i j.
    begins_new (numbers_int x.key) (numbers_int f) x.first n (w.spans.first (counted x.count x.place.whole w.flag (ap (λ (z : Place). z.whole) i ∙ b))) w.low c (ap numbers_int (j ∙ e))))

-- ---- the words of an If

-- w: the words where the expression stands
pub record Written (w : List ℤ) (x : Key) : Type 0 where
  pub stands : Has w x.place.at (encode_int x.written)
  pub size : x.place.size ≡ length (encode_int x.written)
  pub as_written : x.place.whole ≡ true → x.key ≡ x.written

module _ (w : List ℤ) where
  root_written : (i : IfIsRead) (c : BoolExpr) (t f : IntExpr) (m : Splitting) (at n : ℕ) → Has w at (encode_int (If i c t f)) → Written w (key_of i c t f m at n)
  unfolding encode_int splits_int
  root_written i c t f m at n h = record {
    stands = h;
    size = whole_three (encode_bool c) (encode_int t) (encode_int f);
    as_written = λ b. unsplit_int (If i c t f) m n (uncounted (splits c m + (splits_int t m + splits_int f m)) _ refl b);
  }

  front : (at : ℕ) (u : ℤ) (us : List ℤ) → Has w at (u ∷ us) → Has w (at + 1) us
  front at u us h = has_rest w at u us h

  front_two : (at : ℕ) (u v : ℤ) (us : List ℤ) → Has w at (u ∷ v ∷ us) → Has w (at + 2) us
  front_two at u v us h =
      let z : at + 1 + 1 ≡ at + 2 = omega arith in
      subst (λ (n : ℕ). Has w n us) z (has_rest w (at + 1) v us (has_rest w at u (v ∷ us) h))

  mutual
    unfolding keys encode_bool

    pub keys_written : (e : BoolExpr) (m : Splitting) (at n : ℕ) → Has w at (encode_bool e) → Every (Written w) (keys e m at n)
    keys_written (Const b) m at n h = every_none
    keys_written (Var v) m at n h = every_none
    keys_written (NVar k) m at n h = every_none
    keys_written (And ms) m at n h = members_written ms m (at + 2) n (front_two at _ _ (encode_members ms) h)
    keys_written (Or ms) m at n h = members_written ms m (at + 2) n (front_two at _ _ (encode_members ms) h)
    keys_written (Not e) m at n h = keys_written e m (at + 1) n (front at _ (encode_bool e) h)
    keys_written (Xor a b) m at n h =
        let x = front at _ (encode_bool a ++ encode_bool b) h in
        every_append (keys_written a (inner m) (at + 1) (own_splits m + n) (has_front w (at + 1) (encode_bool a) (encode_bool b) x))
        (keys_written b (inner m) (at + 1 + length (encode_bool a)) (own_splits m + n + splits a (inner m)) (has_back w (at + 1) (encode_bool a) (encode_bool b) x))
    keys_written (Iff a b) m at n h =
        let x = front at _ (encode_bool a ++ encode_bool b) h in
        every_append (keys_written a (inner m) (at + 1) (own_splits m + n) (has_front w (at + 1) (encode_bool a) (encode_bool b) x))
        (keys_written b (inner m) (at + 1 + length (encode_bool a)) (own_splits m + n + splits a (inner m)) (has_back w (at + 1) (encode_bool a) (encode_bool b) x))
    keys_written (Imp a b) m at n h =
        let x = front at _ (encode_bool a ++ encode_bool b) h in
        every_append (keys_written a m (at + 1) n (has_front w (at + 1) (encode_bool a) (encode_bool b) x))
        (keys_written b m (at + 1 + length (encode_bool a)) (n + splits a m) (has_back w (at + 1) (encode_bool a) (encode_bool b) x))
    keys_written (Cmp o a b) m at n h =
        let x = front_two at _ _ (encode_int a ++ encode_int b) h in
        every_append (keys_int_written a (inner m) (at + 2) n (has_front w (at + 2) (encode_int a) (encode_int b) x))
        (keys_int_written b (inner m) (at + 2 + length (encode_int a)) (n + splits_int a (inner m)) (has_back w (at + 2) (encode_int a) (encode_int b) x))

    members_written : (ms : Members) (m : Splitting) (at n : ℕ) → Has w at (encode_members ms) → Every (Written w) (keys_members ms m at n)
    members_written mnil m at n h = every_none
    members_written (more e ms) m at n h =
        every_append (keys_written e m at n (has_front w at (encode_bool e) (encode_members ms) h))
        (members_written ms m (at + length (encode_bool e)) (n + splits e m) (has_back w at (encode_bool e) (encode_members ms) h))

    pub keys_int_written : (e : IntExpr) (m : Splitting) (at n : ℕ) → Has w at (encode_int e) → Every (Written w) (keys_int e m at n)
    keys_int_written (IConst c) m at n h = every_none
    keys_int_written (IVar v) m at n h = every_none
    keys_int_written (Linear ts) m at n h = terms_written ts m (at + 2) n (front_two at _ _ (encode_terms ts) h)
    keys_int_written (If i c t f) m at n h =
        let p = at + 1 + length (encode_bool c) in
        let x = front at _ (encode_bool c ++ (encode_int t ++ encode_int f)) h in
        let y = has_back w (at + 1) (encode_bool c) (encode_int t ++ encode_int f) x in
        every_more (root_written i c t f m at n h)
        (every_append (keys_written c m (at + 1) n (has_front w (at + 1) (encode_bool c) (encode_int t ++ encode_int f) x))
        (every_append (keys_int_written t m p (n + splits c m) (has_front w p (encode_int t) (encode_int f) y))
        (keys_int_written f m (p + length (encode_int t)) (n + splits c m + splits_int t m) (has_back w p (encode_int t) (encode_int f) y))))

    terms_written : (ts : Terms) (m : Splitting) (at n : ℕ) → Has w at (encode_terms ts) → Every (Written w) (keys_terms ts m at n)
    terms_written tnil m at n h = every_none
    terms_written (tmore k e ts) m at n h =
        let x = front at k (encode_int e ++ encode_terms ts) h in
        every_append (keys_int_written e m (at + 1) n (has_front w (at + 1) (encode_int e) (encode_terms ts) x))
        (terms_written ts m (at + 1 + length (encode_int e)) (n + splits_int e m) (has_back w (at + 1) (encode_int e) (encode_terms ts) x))

  -- an If in which nothing is split stands as its key
  pub found_written : {xs : List Key} (p : Place) (k : IntExpr) → Every (Written w) xs → Found p k xs → p.whole ≡ true → Has w p.at (encode_int k) × (p.size ≡ length (encode_int k))
  found_written p k h a b = found_in h a (λ x y i j.
      let e : x.written ≡ k = sym (y.as_written (ap (λ (z : Place). z.whole) i ∙ b)) ∙ j in
      (rw (sym i, sym e) y.stands, rw (sym i, sym e) y.size))
