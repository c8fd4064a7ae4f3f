-- The trees and the extras of a legal expression are proper and have leaves, where the splitting's numbers are below the limit.
use Rattle.std.specs.Prelude.{◌≡◌, refl, Bool, true, false, not, ℕ, suc, ◌+◌, ◌-◌, ◌≤◌, ◌<◌, length}
use Rattle.std.proofs.Common.{ap, arith}
use Rattle.memory.specs.Places.{limit}
use Rattle.syntax.specs.Syntax.{Ne, IntExpr, IConst, IVar, Linear, If, Terms, tnil, tmore, BoolExpr, Const, Var, NVar, And, Or, Not, Xor, Iff, Imp, Cmp, Members, mnil, more, count_members, encode_bool, encode_int}
use Rattle.walks.specs.Tree.{Tree, num, cmp, Trees, nil, cons, size, append, joined, IntTree, TermTrees, Splitting, never, below, here, inner, own_splits, splits, splits_members, splits_int, splits_terms, split_of, crossed, crossed_at, resolve, resolves, resolve_int, resolve_terms, tie, sides_tied, ties, ties_members, ties_int, ties_terms}
use Rattle.walks.specs.Implements.{NoNumber, Proper, Propers, ProperInt, ProperTerms}
use Rattle.walks.specs.Leaves.{Leafy, Leafies, LeafyInt, LeafyTerms}
use Rattle.walks.specs.Legal.{LegalInt, LegalTerms, Legal, LegalMembers}
use Rattle.walks.specs.Resolve.{rule_trees, pair_trees}
use Rattle.walks.specs.Thirds.{room_first, room_second, room_third}

abbrev pub Sound : Tree → Type 0
Sound t = Proper t × Leafy t

abbrev pub Sounds : Trees → Type 0
Sounds ts = Propers ts × Leafies ts

abbrev pub SoundInt : IntTree → Type 0
SoundInt t = ProperInt t × LeafyInt t

abbrev pub SoundTerms : TermTrees → Type 0
SoundTerms ts = ProperTerms ts × LeafyTerms ts

-- ---- forms of trees

resolves_size : (ms : Members) (m : Splitting) (at n : ℕ) (g : Bool) → size (resolves ms m at n g) ≡ count_members ms
unfolding resolves
resolves_size mnil m at n g = refl
resolves_size (more e ms) m at n g = ap suc (resolves_size ms m _ _ g)

sound_join : (d : Bool) (ts : Trees) → 2 ≤ size ts → Sounds ts → Sound (joined d ts)
unfolding Proper Leafy
sound_join false ts h p = ((h, p.0), p.1)
sound_join true ts h p = (p.0, (omega arith, p.1))

sound_none : Sounds nil
unfolding Proper Leafy
sound_none = (tt, tt)

sound_more : (t : Tree) (ts : Trees) → Sound t → Sounds ts → Sounds (cons t ts)
unfolding Proper Leafy
sound_more t ts p q = ((p.0, q.0), (p.1, q.1))

sound_pair : (t u : Tree) → Sound t → Sound u → Sounds (cons t (cons u nil))
sound_pair t u p q = sound_more t (cons u nil) p (sound_more u nil q sound_none)

pub sounds_append : (ts us : Trees) → Sounds ts → Sounds us → Sounds (append ts us)
unfolding Proper Leafy
sounds_append nil us p q = q
sounds_append (cons t ts) us p q =
    let r = sounds_append ts us (p.0.1, p.1.1) q in
    ((p.0.0, r.0), (p.1.0, r.1))

num_sound : (n : ℕ) → n < limit → (g : Bool) → Sound (num n g)
unfolding Proper Leafy
num_sound n h g = (h, tt)

sound_crossed : (a b : Bool → Tree) (h : Bool) → ((g : Bool) → Sound (a g)) → ((g : Bool) → Sound (b g)) → Sound (crossed a b h)
unfolding Proper Leafy
sound_crossed a b h p q =
    let x = sound_pair (a false) (b h) (p false) (q h) in
    let y = sound_pair (a true) (b (not h)) (p true) (q (not h)) in
    ((x.0, y.0), (omega arith, omega arith, x.1, y.1))

-- ---- the tree

-- an Xor or Iff, its sides from `at` and from q on
module _ (a b : BoolExpr) (at q : ℕ) where
  abbrev SideSound : BoolExpr → Splitting → ℕ → Type 0
  SideSound e m from = (k : ℕ) → k + splits e m ≤ limit → (g : Bool) → Sound (resolve e m from k g)

  cross_sound : (m : Splitting) (h : Bool) (n : ℕ) → SideSound a (inner m) at → SideSound b (inner m) q → n + (own_splits m + (splits a (inner m) + splits b (inner m))) ≤ limit
      → Sound (crossed_at m n (λ g. resolve a (inner m) at n g) (λ g. resolve b (inner m) q (n + splits a (inner m)) g) h)
  cross_sound never h n x y l = sound_crossed (λ g. resolve a never at n g) (λ g. resolve b never q (n + splits a never) g) h (x n (omega (arith, l))) (y (n + splits a never) (omega (arith, l)))
  cross_sound below h n x y l = sound_crossed (λ g. resolve a here at n g) (λ g. resolve b here q (n + splits a here) g) h (x n (omega (arith, l))) (y (n + splits a here) (omega (arith, l)))
  cross_sound here h n x y l = sound_crossed (num n) (num (suc n)) h (num_sound n (omega (arith, l))) (num_sound (suc n) (omega (arith, l)))

-- a condition is no bare number
condition_named : (c : BoolExpr) (l : ℕ) (m : Splitting) (n : ℕ) → Legal c l → NoNumber (split_of c m n)
unfolding Legal split_of
condition_named (Const b) l m n h = absurd h
condition_named (Var v) l m n h = tt
condition_named (NVar k) l m n h = absurd h
condition_named (And ms) l m n h = tt
condition_named (Or ms) l m n h = tt
condition_named (Not e) l m n h = tt
condition_named (Xor a b) l never n h = tt
condition_named (Xor a b) l below n h = tt
condition_named (Xor a b) l here n h = tt
condition_named (Iff a b) l never n h = tt
condition_named (Iff a b) l below n h = tt
condition_named (Iff a b) l here n h = tt
condition_named (Imp a b) l m n h = tt
condition_named (Cmp o a b) l m n h = tt

mutual
  unfolding Legal resolve splits split_of Proper Leafy

  pub sound : (e : BoolExpr) (l : ℕ) (m : Splitting) (at n : ℕ) (g : Bool) → Legal e l → n + splits e m ≤ limit → Sound (resolve e m at n g)
  sound (Const b) l m at n g h k = absurd h
  sound (Var v) l m at n g h k = (h.1, tt)
  sound (NVar j) l m at n g h k = absurd h
  sound (And ms) l m at n g h k = sound_join g _ (omega (arith, resolves_size ms m (at + 2) n g, h.1)) (sounds ms (l - 1) m (at + 2) n g h.2 k)
  sound (Or ms) l m at n g h k = sound_join (not g) _ (omega (arith, resolves_size ms m (at + 2) n g, h.1)) (sounds ms (l - 1) m (at + 2) n g h.2 k)
  sound (Not e) l m at n g h k = sound e (l - 1) m (at + 1) n (not g) h.1 k
  sound (Xor a b) l m at n g h k =
      let q = at + 1 + length (encode_bool a) in
      cross_sound a b (at + 1) q m g n (λ j x y. sound a (l - 1) (inner m) (at + 1) j y h.1 x) (λ j x y. sound b (l - 1) (inner m) q j y h.2 x) k
  sound (Iff a b) l m at n g h k =
      let q = at + 1 + length (encode_bool a) in
      cross_sound a b (at + 1) q m (not g) n (λ j x y. sound a (l - 1) (inner m) (at + 1) j y h.1 x) (λ j x y. sound b (l - 1) (inner m) q j y h.2 x) k
  sound (Imp a b) l m at n g h k =
      let q = at + 1 + length (encode_bool a) in let j = n + splits a m in
      let x = resolve a m (at + 1) n (not g) in let y = resolve b m q j g in
      sound_join (not g) (cons x (cons y nil)) (omega arith) (sound_pair x y (sound a (l - 1) m (at + 1) n (not g) h.1 (omega arith)) (sound b (l - 1) m q j g h.2 (omega arith)))
  sound (Cmp o a b) l m at n g h k =
      let q = at + 2 + length (encode_int a) in let j = n + splits_int a (inner m) in
      let x = sound_int a (l - 1) (inner m) (at + 2) n h.1 (omega arith) in
      let y = sound_int b (l - 1) (inner m) q j h.2 (omega arith) in
      ((x.0, y.0), (x.1, y.1))

  sounds : (ms : Members) (l : ℕ) (m : Splitting) (at n : ℕ) (g : Bool) → LegalMembers ms l → n + splits_members ms m ≤ limit → Sounds (resolves ms m at n g)
  sounds mnil l m at n g h k = sound_none
  sounds (more e ms) l m at n g h k =
      let q = at + length (encode_bool e) in let j = n + splits e m in
      sound_more (resolve e m at n g) (resolves ms m q j g) (sound e l m at n g h.0 (omega arith)) (sounds ms l m q j g h.1 (omega arith))

  pub sound_int : (e : IntExpr) (l : ℕ) (m : Splitting) (at n : ℕ) → LegalInt e l → n + splits_int e m ≤ limit → SoundInt (resolve_int e m at n)
  sound_int (IConst c) l m at n h k = (tt, tt)
  sound_int (IVar v) l m at n h k = (h.1, tt)
  sound_int (Linear ts) l m at n h k = sound_terms ts (l - 1) m (at + 2) n h.1 k
  sound_int (If i c t f) l m at n h k =
      let p = at + 1 + length (encode_bool c) in let q = p + length (encode_int t) in
      let a = n + splits c m in let b = a + splits_int t m in
      let r = room_first (splits c m) (splits_int t m) (splits_int f m) limit n k in
      let x = sound c (l - 1) m (at + 1) n false h.1 r in
      let y = sound c (l - 1) m (at + 1) n true h.1 r in
      let z = sound_int t (l - 1) m p a h.2 (room_second (splits c m) (splits_int t m) (splits_int f m) limit n k) in
      let w = sound_int f (l - 1) m q b h.3 (room_third (splits c m) (splits_int t m) (splits_int f m) limit n k) in
      ((condition_named c (l - 1) m n h.1, x.0, y.0, z.0, w.0), (x.1, y.1, z.1, w.1))

  sound_terms : (ts : Terms) (l : ℕ) (m : Splitting) (at n : ℕ) → LegalTerms ts l → n + splits_terms ts m ≤ limit → SoundTerms (resolve_terms ts m at n)
  sound_terms tnil l m at n h k = (tt, tt)
  sound_terms (tmore c e ts) l m at n h k =
      let q = at + 1 + length (encode_int e) in let j = n + splits_int e m in
      let x = sound_int e l m (at + 1) n h.0 (omega arith) in
      let y = sound_terms ts l m q j h.1 (omega arith) in
      ((x.0, y.0), (x.1, y.1))

-- ---- the extras

sound_tie : (v : ℕ) (e : BoolExpr) (l at n : ℕ) → v < limit → Legal e l → n + splits e here ≤ limit → Sounds (cons (tie v e at n) nil)
unfolding Proper Leafy
sound_tie v e l at n h x k =
    let a = sound e l here at n false x k in
    let b = sound e l here at n true x k in
    (((h, a.0, b.0), tt), ((a.1, b.1), tt))

module _ (a b : BoolExpr) (at q l : ℕ) (la : Legal a l) (lb : Legal b l) where
  abbrev SideTied : BoolExpr → Splitting → ℕ → Type 0
  SideTied e m from = (k : ℕ) → k + splits e m ≤ limit → Sounds (ties e m from k)

  cross_tied : (m : Splitting) (n : ℕ) → SideTied a (inner m) at → SideTied b (inner m) q → n + (own_splits m + (splits a (inner m) + splits b (inner m))) ≤ limit
      → let k = own_splits m + n in Sounds (sides_tied m (ties a (inner m) at k) (tie n a at k) (ties b (inner m) q (k + splits a (inner m))) (tie (suc n) b q (k + splits a (inner m))))
  cross_tied never n x y k =
      let j = 0 + n in let i = j + splits a never in
      sounds_append (ties a never at j) (ties b never q i) (x j (omega (arith, k))) (y i (omega (arith, k)))
  cross_tied below n x y k =
      let j = 0 + n in let i = j + splits a here in
      sounds_append (ties a here at j) (ties b here q i) (x j (omega (arith, k))) (y i (omega (arith, k)))
  cross_tied here n x y k =
      let j = 2 + n in let i = j + splits a here in
      sounds_append (append (ties a here at j) (cons (tie n a at j) nil)) (append (ties b here q i) (cons (tie (suc n) b q i) nil))
      (sounds_append (ties a here at j) (cons (tie n a at j) nil) (x j (omega (arith, k))) (sound_tie n a l at j (omega (arith, k)) la (omega (arith, k))))
      (sounds_append (ties b here q i) (cons (tie (suc n) b q i) nil) (y i (omega (arith, k))) (sound_tie (suc n) b l q i (omega (arith, k)) lb (omega (arith, k))))

mutual
  unfolding Legal ties splits

  pub sound_ties : (e : BoolExpr) (l : ℕ) (m : Splitting) (at n : ℕ) → Legal e l → n + splits e m ≤ limit → Sounds (ties e m at n)
  sound_ties (Const b) l m at n h k = absurd h
  sound_ties (Var v) l m at n h k = sound_none
  sound_ties (NVar j) l m at n h k = absurd h
  sound_ties (And ms) l m at n h k = sounds_ties ms (l - 1) m (at + 2) n h.2 k
  sound_ties (Or ms) l m at n h k = sounds_ties ms (l - 1) m (at + 2) n h.2 k
  sound_ties (Not e) l m at n h k = sound_ties e (l - 1) m (at + 1) n h.1 k
  sound_ties (Xor a b) l m at n h k =
      let q = at + 1 + length (encode_bool a) in
      cross_tied a b (at + 1) q (l - 1) h.1 h.2 m n (λ j x. sound_ties a (l - 1) (inner m) (at + 1) j h.1 x) (λ j x. sound_ties b (l - 1) (inner m) q j h.2 x) k
  sound_ties (Iff a b) l m at n h k =
      let q = at + 1 + length (encode_bool a) in
      cross_tied a b (at + 1) q (l - 1) h.1 h.2 m n (λ j x. sound_ties a (l - 1) (inner m) (at + 1) j h.1 x) (λ j x. sound_ties b (l - 1) (inner m) q j h.2 x) k
  sound_ties (Imp a b) l m at n h k =
      let q = at + 1 + length (encode_bool a) in let j = n + splits a m in
      sounds_append (ties a m (at + 1) n) (ties b m q j) (sound_ties a (l - 1) m (at + 1) n h.1 (omega arith)) (sound_ties b (l - 1) m q j h.2 (omega arith))
  sound_ties (Cmp o a b) l m at n h k =
      let q = at + 2 + length (encode_int a) in let j = n + splits_int a (inner m) in
      sounds_append (ties_int a (inner m) (at + 2) n) (ties_int b (inner m) q j) (sound_int_ties a (l - 1) (inner m) (at + 2) n h.1 (omega arith)) (sound_int_ties b (l - 1) (inner m) q j h.2 (omega arith))

  sounds_ties : (ms : Members) (l : ℕ) (m : Splitting) (at n : ℕ) → LegalMembers ms l → n + splits_members ms m ≤ limit → Sounds (ties_members ms m at n)
  sounds_ties mnil l m at n h k = sound_none
  sounds_ties (more e ms) l m at n h k =
      let q = at + length (encode_bool e) in let j = n + splits e m in
      sounds_append (ties e m at n) (ties_members ms m q j) (sound_ties e l m at n h.0 (omega arith)) (sounds_ties ms l m q j h.1 (omega arith))

  pub sound_int_ties : (e : IntExpr) (l : ℕ) (m : Splitting) (at n : ℕ) → LegalInt e l → n + splits_int e m ≤ limit → Sounds (ties_int e m at n)
  sound_int_ties (IConst c) l m at n h k = sound_none
  sound_int_ties (IVar v) l m at n h k = sound_none
  sound_int_ties (Linear ts) l m at n h k = sound_terms_ties ts (l - 1) m (at + 2) n h.1 k
  sound_int_ties (If i c t f) l m at n h k =
      let p = at + 1 + length (encode_bool c) in let q = p + length (encode_int t) in
      let a = n + splits c m in let b = a + splits_int t m in
      sounds_append (ties c m (at + 1) n) (append (ties_int t m p a) (ties_int f m q b)) (sound_ties c (l - 1) m (at + 1) n h.1 (room_first (splits c m) (splits_int t m) (splits_int f m) limit n k))
      (sounds_append (ties_int t m p a) (ties_int f m q b) (sound_int_ties t (l - 1) m p a h.2 (room_second (splits c m) (splits_int t m) (splits_int f m) limit n k))
      (sound_int_ties f (l - 1) m q b h.3 (room_third (splits c m) (splits_int t m) (splits_int f m) limit n k)))

  sound_terms_ties : (ts : Terms) (l : ℕ) (m : Splitting) (at n : ℕ) → LegalTerms ts l → n + splits_terms ts m ≤ limit → Sounds (ties_terms ts m at n)
  sound_terms_ties tnil l m at n h k = sound_none
  sound_terms_ties (tmore c e ts) l m at n h k =
      let q = at + 1 + length (encode_int e) in let j = n + splits_int e m in
      sounds_append (ties_int e m (at + 1) n) (ties_terms ts m q j) (sound_int_ties e l m (at + 1) n h.0 (omega arith)) (sound_terms_ties ts l m q j h.1 (omega arith))

-- ---- a whole rule

pub rule_sound : (e : BoolExpr) (l at n : ℕ) → Legal e l → n + splits e below ≤ limit → Sounds (rule_trees e at n)
rule_sound e l at n h k = sounds_append (ties e below at n) (cons (resolve e below at n false) nil) (sound_ties e l below at n h k) (sound_more (resolve e below at n false) nil (sound e l below at n false h k) sound_none)

-- p and q: where a pair's sides stand
pub pair_sound : (a b : IntExpr) (l p q n : ℕ) → LegalInt a l → LegalInt b l → n + (splits_int a here + splits_int b here) ≤ limit → Sounds (pair_trees a b p q n)
unfolding Proper Leafy
pair_sound a b l p q n h g k =
    let j = n + splits_int a here in
    let x = sound_int a l here p n h (omega (arith, k)) in
    let y = sound_int b l here q j g (omega (arith, k)) in
    sounds_append (append (ties_int a here p n) (ties_int b here q j)) (cons (cmp Ne (resolve_int a here p n) (resolve_int b here q j) false) nil)
    (sounds_append (ties_int a here p n) (ties_int b here q j) (sound_int_ties a l here p n h (omega (arith, k))) (sound_int_ties b l here q j g (omega (arith, k))))
    (((x.0, y.0), tt), ((x.1, y.1), tt))
