-- How many Boolean numbers the first walk may take outside Ifs: at most ten for each word of a rule, twelve for each word of a pair of an AllDifferent.
use Rattle.std.specs.Prelude.{◌≡◌, refl, Bool, true, not, List, ℕ, suc, ◌+◌, ◌-◌, ◌*◌, ◌≤◌, length}
use Rattle.std.proofs.Math.Bool.{false}
use Rattle.std.proofs.Common.{arith, length-append}
use Rattle.memory.specs.Places.{limit}
use Rattle.syntax.specs.Syntax.{Domain, Ne, IntExpr, IConst, IVar, Linear, If, Terms, tnil, tmore, BoolExpr, Const, Var, NVar, And, Or, Not, Xor, Iff, Imp, Cmp, Members, mnil, more, encode_bool, encode_members, encode_int, encode_terms}
use Rattle.syntax.specs.Lengths.{int_long}
use Rattle.walks.specs.Tree.{cmp, Trees, nil, cons, append, joined, Splitting, never, below, here, inner, own_splits, splits, splits_members, splits_int, splits_terms, crossed, resolve, resolves, resolve_int, tie, sides_tied, ties, ties_members, ties_int, ties_terms}
use Rattle.walks.specs.Resolve.{rule_trees, pair_trees}
use Rattle.walks.specs.Thirds.{length_three}
use Rattle.walks.specs.Legal.{Legal, LegalMembers, LegalInt, LegalTerms}
use Rattle.walks.specs.Leaves.{exact, exact_all, weights, weights_low}
use Rattle.walks.specs.ProperTrees.{rule_sound, pair_sound}

-- ---- the splitting's numbers

own_low : (m : Splitting) → own_splits m ≤ 2
own_low never = omega arith
own_low below = omega arith
own_low here = omega arith

mutual
  unfolding splits encode_bool

  pub splits_low : (e : BoolExpr) (m : Splitting) → splits e m ≤ 2 * length (encode_bool e)
  splits_low (Const b) m = omega arith
  splits_low (Var v) m = omega arith
  splits_low (NVar k) m = omega arith
  splits_low (And ms) m = omega (arith, splits_members_low ms m)
  splits_low (Or ms) m = omega (arith, splits_members_low ms m)
  splits_low (Not e) m = omega (arith, splits_low e m)
  splits_low (Xor a b) m = omega (arith, own_low m, splits_low a (inner m), splits_low b (inner m), length-append (encode_bool a) (encode_bool b))
  splits_low (Iff a b) m = omega (arith, own_low m, splits_low a (inner m), splits_low b (inner m), length-append (encode_bool a) (encode_bool b))
  splits_low (Imp a b) m = omega (arith, splits_low a m, splits_low b m, length-append (encode_bool a) (encode_bool b))
  splits_low (Cmp o a b) m = omega (arith, splits_int_low a (inner m), splits_int_low b (inner m), length-append (encode_int a) (encode_int b))

  splits_members_low : (ms : Members) (m : Splitting) → splits_members ms m ≤ 2 * length (encode_members ms)
  splits_members_low mnil m = omega arith
  splits_members_low (more e ms) m = omega (arith, splits_low e m, splits_members_low ms m, length-append (encode_bool e) (encode_members ms))

  pub splits_int_low : (e : IntExpr) (m : Splitting) → splits_int e m ≤ 2 * length (encode_int e)
  splits_int_low (IConst c) m = omega arith
  splits_int_low (IVar v) m = omega arith
  splits_int_low (Linear ts) m = omega (arith, splits_terms_low ts m)
  splits_int_low (If i c t f) m = omega (arith, splits_low c m, splits_int_low t m, splits_int_low f m, length_three (encode_bool c) (encode_int t) (encode_int f))

  splits_terms_low : (ts : Terms) (m : Splitting) → splits_terms ts m ≤ 2 * length (encode_terms ts)
  splits_terms_low tnil m = omega arith
  splits_terms_low (tmore k e ts) m = omega (arith, splits_int_low e m, splits_terms_low ts m, length-append (encode_int e) (encode_terms ts))

-- ---- the leaves

leaves_append : (ts us : Trees) → exact_all (append ts us) ≡ exact_all ts + exact_all us
unfolding exact
leaves_append nil us = omega arith
leaves_append (cons t ts) us = omega (arith, leaves_append ts us)

leaves_join : (d : Bool) (ts : Trees) → exact (joined d ts) ≡ exact_all ts
unfolding exact
leaves_join false ts = refl
leaves_join true ts = refl

-- in both polarities, with the extras
abbrev both : BoolExpr → ℕ → ℕ → ℕ
both e at n = exact (resolve e here at n false) + exact (resolve e here at n true) + exact_all (ties e here at n)

-- the extras of two split sides
leaves_tied : (a b : BoolExpr) (p q i j n : ℕ) → exact_all (sides_tied here (ties a here p i) (tie n a p i) (ties b here q j) (tie (suc n) b q j)) ≡ both a p i + both b q j
unfolding exact
leaves_tied a b p q i j n =
    let ts = append (ties a here p i) (cons (tie n a p i) nil) in
    let us = append (ties b here q j) (cons (tie (suc n) b q j) nil) in
    omega (arith, leaves_append ts us, leaves_append (ties a here p i) (cons (tie n a p i) nil), leaves_append (ties b here q j) (cons (tie (suc n) b q j) nil))

mutual
  unfolding resolve ties exact encode_bool Legal

  both_low : (e : BoolExpr) (l : ℕ) → Legal e l → (at n : ℕ) → exact (resolve e here at n false) + exact (resolve e here at n true) + exact_all (ties e here at n) + 4 ≤ 4 * length (encode_bool e)
  both_low (Const b) l h at n = absurd h
  both_low (Var v) l h at n = omega arith
  both_low (NVar k) l h at n = absurd h
  both_low (And ms) l h at n = omega (arith, leaves_join false (resolves ms here (at + 2) n false), leaves_join true (resolves ms here (at + 2) n true), boths_low ms (l - 1) h.2 (at + 2) n)
  both_low (Or ms) l h at n = omega (arith, leaves_join true (resolves ms here (at + 2) n false), leaves_join false (resolves ms here (at + 2) n true), boths_low ms (l - 1) h.2 (at + 2) n)
  both_low (Not e) l h at n = omega (arith, both_low e (l - 1) h.1 (at + 1) n)
  both_low (Xor a b) l h at n =
      let k = own_splits here + n in
      let q = at + 1 + length (encode_bool a) in
      omega (arith, leaves_tied a b (at + 1) q k (k + splits a here) n, both_low a (l - 1) h.1 (at + 1) k, both_low b (l - 1) h.2 q (k + splits a here), length-append (encode_bool a) (encode_bool b))
  both_low (Iff a b) l h at n =
      let k = own_splits here + n in
      let q = at + 1 + length (encode_bool a) in
      omega (arith, leaves_tied a b (at + 1) q k (k + splits a here) n, both_low a (l - 1) h.1 (at + 1) k, both_low b (l - 1) h.2 q (k + splits a here), length-append (encode_bool a) (encode_bool b))
  both_low (Imp a b) l h at n =
      let q = at + 1 + length (encode_bool a) in
      omega (arith, leaves_append (ties a here (at + 1) n) (ties b here q (n + splits a here)), both_low a (l - 1) h.1 (at + 1) n, both_low b (l - 1) h.2 q (n + splits a here), length-append (encode_bool a) (encode_bool b))
  both_low (Cmp o a b) l h at n =
      let q = at + 2 + length (encode_int a) in
      omega (arith, leaves_append (ties_int a here (at + 2) n) (ties_int b here q (n + splits_int a here)), int_ties_low a (l - 1) h.1 (at + 2) n, int_ties_low b (l - 1) h.2 q (n + splits_int a here), length-append (encode_int a) (encode_int b))

  boths_low : (ms : Members) (l : ℕ) → LegalMembers ms l → (at n : ℕ) → exact_all (resolves ms here at n false) + exact_all (resolves ms here at n true) + exact_all (ties_members ms here at n) ≤ 4 * length (encode_members ms)
  boths_low mnil l h at n = omega arith
  boths_low (more e ms) l h at n =
      let q = at + length (encode_bool e) in
      omega (arith, leaves_append (ties e here at n) (ties_members ms here q (n + splits e here)), both_low e l h.0 at n, boths_low ms l h.1 q (n + splits e here), length-append (encode_bool e) (encode_members ms))

  int_ties_low : (e : IntExpr) (l : ℕ) → LegalInt e l → (at n : ℕ) → exact_all (ties_int e here at n) ≤ 4 * length (encode_int e)
  int_ties_low (IConst c) l h at n = omega arith
  int_ties_low (IVar v) l h at n = omega arith
  int_ties_low (Linear ts) l h at n = omega (arith, terms_ties_low ts (l - 1) h.1 (at + 2) n)
  int_ties_low (If i c t f) l h at n =
      let p = at + 1 + length (encode_bool c) in
      let q = p + length (encode_int t) in
      let x = ties_int t here p (n + splits c here) in
      let y = ties_int f here q (n + splits c here + splits_int t here) in
      omega (arith, leaves_append (ties c here (at + 1) n) (append x y), leaves_append x y, both_low c (l - 1) h.1 (at + 1) n, int_ties_low t (l - 1) h.2 p (n + splits c here), int_ties_low f (l - 1) h.3 q (n + splits c here + splits_int t here), length_three (encode_bool c) (encode_int t) (encode_int f))

  terms_ties_low : (ts : Terms) (l : ℕ) → LegalTerms ts l → (at n : ℕ) → exact_all (ties_terms ts here at n) ≤ 4 * length (encode_terms ts)
  terms_ties_low tnil l h at n = omega arith
  terms_ties_low (tmore k e ts) l h at n =
      let q = at + 1 + length (encode_int e) in
      omega (arith, leaves_append (ties_int e here (at + 1) n) (ties_terms ts here q (n + splits_int e here)), int_ties_low e l h.0 (at + 1) n, terms_ties_low ts l h.1 q (n + splits_int e here), length-append (encode_int e) (encode_terms ts))

-- an Xor or Iff that is not split: its sides in both polarities
leaves_crossed : (a b : BoolExpr) (p q n k : ℕ) (h : Bool) → k ≡ n
    → exact (crossed (resolve a here p n) (resolve b here q (n + splits a here)) h) + exact_all (append (ties a here p k) (ties b here q (k + splits a here))) ≡ both a p n + both b q (n + splits a here)
unfolding exact
leaves_crossed a b p q n k false e = rw e (omega (arith, leaves_append (ties a here p n) (ties b here q (n + splits a here))))
leaves_crossed a b p q n k true e = rw e (omega (arith, leaves_append (ties a here p n) (ties b here q (n + splits a here))))

mutual
  unfolding resolve ties exact encode_bool Legal

  -- one polarity and the extras, where the root is not split
  one_low : (e : BoolExpr) (l : ℕ) → Legal e l → (at n : ℕ) (g : Bool) → exact (resolve e below at n g) + exact_all (ties e below at n) ≤ 4 * length (encode_bool e)
  one_low (Const b) l h at n g = absurd h
  one_low (Var v) l h at n g = omega arith
  one_low (NVar k) l h at n g = absurd h
  one_low (And ms) l h at n g = omega (arith, leaves_join g (resolves ms below (at + 2) n g), ones_low ms (l - 1) h.2 (at + 2) n g)
  one_low (Or ms) l h at n g = omega (arith, leaves_join (not g) (resolves ms below (at + 2) n g), ones_low ms (l - 1) h.2 (at + 2) n g)
  one_low (Not e) l h at n g = omega (arith, one_low e (l - 1) h.1 (at + 1) n (not g))
  one_low (Xor a b) l h at n g =
      let q = at + 1 + length (encode_bool a) in
      omega (arith, leaves_crossed a b (at + 1) q n (own_splits below + n) g (omega arith), both_low a (l - 1) h.1 (at + 1) n, both_low b (l - 1) h.2 q (n + splits a here), length-append (encode_bool a) (encode_bool b))
  one_low (Iff a b) l h at n g =
      let q = at + 1 + length (encode_bool a) in
      omega (arith, leaves_crossed a b (at + 1) q n (own_splits below + n) (not g) (omega arith), both_low a (l - 1) h.1 (at + 1) n, both_low b (l - 1) h.2 q (n + splits a here), length-append (encode_bool a) (encode_bool b))
  one_low (Imp a b) l h at n g =
      let q = at + 1 + length (encode_bool a) in
      omega (arith, leaves_join (not g) (cons (resolve a below (at + 1) n (not g)) (cons (resolve b below q (n + splits a below) g) nil)), leaves_append (ties a below (at + 1) n) (ties b below q (n + splits a below)), one_low a (l - 1) h.1 (at + 1) n (not g), one_low b (l - 1) h.2 q (n + splits a below) g, length-append (encode_bool a) (encode_bool b))
  one_low (Cmp o a b) l h at n g =
      let q = at + 2 + length (encode_int a) in
      omega (arith, leaves_append (ties_int a here (at + 2) n) (ties_int b here q (n + splits_int a here)), int_ties_low a (l - 1) h.1 (at + 2) n, int_ties_low b (l - 1) h.2 q (n + splits_int a here), length-append (encode_int a) (encode_int b))

  ones_low : (ms : Members) (l : ℕ) → LegalMembers ms l → (at n : ℕ) (g : Bool) → exact_all (resolves ms below at n g) + exact_all (ties_members ms below at n) ≤ 4 * length (encode_members ms)
  ones_low mnil l h at n g = omega arith
  ones_low (more e ms) l h at n g =
      let q = at + length (encode_bool e) in
      omega (arith, leaves_append (ties e below at n) (ties_members ms below q (n + splits e below)), one_low e l h.0 at n g, ones_low ms l h.1 q (n + splits e below) g, length-append (encode_bool e) (encode_members ms))

-- ---- a rule, a pair

abbrev pub rule_room : BoolExpr → ℕ
rule_room e = 10 * length (encode_bool e)

abbrev pub pair_room : IntExpr → IntExpr → ℕ
pair_room a b = 12 * (length (encode_int a) + length (encode_int b))

module _ (ds : List Domain) where
  pub rule_weight : (e : BoolExpr) (l at n : ℕ) → Legal e l → n + splits e below ≤ limit → splits e below + weights ds (rule_trees e at n) ≤ rule_room e
  unfolding exact
  rule_weight e l at n h k =
      let s = rule_sound e l at n h k in
      omega (arith, weights_low ds (rule_trees e at n) s.0 s.1, leaves_append (ties e below at n) (cons (resolve e below at n false) nil), one_low e l h at n false, splits_low e below)

  -- p and q: where its sides stand
  pub pair_weight : (a b : IntExpr) (l p q n : ℕ) → LegalInt a l → LegalInt b l → n + (splits_int a here + splits_int b here) ≤ limit → splits_int a here + splits_int b here + weights ds (pair_trees a b p q n) ≤ pair_room a b
  unfolding exact
  pair_weight a b l p q n h g k =
      let s = pair_sound a b l p q n h g k in
      let m = n + splits_int a here in
      let x = ties_int a here p n in
      let y = ties_int b here q m in
      omega (arith, weights_low ds (pair_trees a b p q n) s.0 s.1, leaves_append (append x y) (cons (cmp Ne (resolve_int a here p n) (resolve_int b here q m) false) nil), leaves_append x y, int_ties_low a l h p n, int_ties_low b l g q m, splits_int_low a here, splits_int_low b here, int_long a)
