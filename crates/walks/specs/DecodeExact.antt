-- Where the words of a legal expression stand, the decoder reads its tree's form, its extras, its end and the splitting's next number.
use Rattle.std.specs.Prelude.{◌≡◌, Bool, not, List, [], ◌∷◌, ◌++◌, ℕ, zero, suc, ◌+◌, ◌-◌, ◌≤◌, ◌<◌, ℤ, pos, get_or}
use Rattle.std.proofs.Math.Path.{refl}
use Rattle.std.proofs.Common.{ap, ◌∙◌, subst, arith, sub-one, lt-ltb, length-append}
use Rattle.std.proofs.Math.Bool.{true, false}
use Rattle.std.proofs.Math.Numerals.{add-one}
use Rattle.std.proofs.Math.ListN.{length}
use Rattle.laws.specs.Slices.{Has, has_fits, has_front, has_back, has_word, has_rest}
use Rattle.memory.specs.Places.{limit}
use Rattle.memory.specs.Number.{nat}
use Rattle.syntax.specs.Syntax.{IfIsRead, CmpOp, Eq, Ne, Le, Lt, Ge, Gt, op_at, encode_op, IntExpr, IConst, IVar, Linear, If, Terms, tnil, tmore, count_terms, encode_int, encode_terms, BoolExpr, Const, Var, NVar, And, Or, Not, Xor, Iff, Imp, Cmp, Members, mnil, more, count_members, encode_bool, encode_members}
use Rattle.syntax.specs.Words.{max_bools, max_ints}
use Rattle.walk.specs.Item.{bump, is_none}
use Rattle.walk.specs.Decode.{word, past}
use Rattle.walks.specs.Tree.{Place, Tree, Trees, nil as no-trees, cons as more-trees, own_var, Splitting, never, below, here, inner, own_splits, splits, splits_members, splits_int, splits_terms, split_of, split_int, crossed_at as crossed-trees-at, resolve, resolves, resolve_int, resolve_terms, tie, sides_tied as trees-tied, append as append-trees, ties, ties_members, ties_int, ties_terms}
use Rattle.walks.specs.Form.{Form, cmp, Forms, nil, cons, pair, append, sides_tied, IntForm, choice, TermForms, form, forms, int_form, term_forms, form_joined, forms_append}
use Rattle.walks.specs.Resolve.{no_more, rule_trees, pair_trees, never_int}
use Rattle.walks.specs.Legal.{LegalInt, LegalTerms, Legal, LegalMembers, LegalRule, true_rule, legal_rule}
use Rattle.walks.specs.Decode.{own_at, node_of, Read, Reads, IntRead, TermReads, Reader, IntReader, many, cross_step, step, many_terms, if_step, int_step, decode, decode_int, Ties, many_ties, tie_at, cross_ties, ties_step, terms_ties, if_ties, int_ties_step, ties_at, ties_int_at}
use Rattle.walks.specs.Thirds.{room_first, room_second, room_third, behind_three, taken_three, size_three, end_three}

-- ---- words at a place

record One (ws : List ℤ) (at : ℕ) (u : ℤ) (us : List ℤ) : Type 0 where
  pub first : get_or ws at (pos 0) ≡ u
  pub rest : Has ws (at + 1) us
  pub stop : past ws (at + 1) ≡ at + 1

one : (ws : List ℤ) (at : ℕ) (u : ℤ) (us : List ℤ) → Has ws at (u ∷ us) → One ws at u us
one ws at u us h = record {
  first = has_word ws at u us (pos 0) h;
  rest = has_rest ws at u us h;
  stop = omega (arith, has_fits ws at (u ∷ us) h (omega arith));
}

record Two (ws : List ℤ) (at : ℕ) (u v : ℤ) (us : List ℤ) : Type 0 where
  pub first : get_or ws at (pos 0) ≡ u
  pub second : get_or ws (at + 1) (pos 0) ≡ v
  pub rest : Has ws (at + 2) us
  pub stop : past ws (at + 2) ≡ at + 2

two : (ws : List ℤ) (at : ℕ) (u v : ℤ) (us : List ℤ) → Has ws at (u ∷ v ∷ us) → Two ws at u v us
two ws at u v us h =
    let k = one ws at u (v ∷ us) h in
    let j = one ws (at + 1) v us k.rest in
    let z : at + 1 + 1 ≡ at + 2 = omega arith in
    record {
      first = k.first;
      second = j.first;
      rest = subst (λ (n : ℕ). Has ws n us) z j.rest;
      stop = omega (arith, has_fits ws at (u ∷ v ∷ us) h (omega arith));
    }

op_is : (o : CmpOp) → op_at (nat (encode_op o)) ≡ o
unfolding nat
op_is Eq = refl
op_is Ne = refl
op_is Le = refl
op_is Lt = refl
op_is Ge = refl
op_is Gt = refl

-- the condition that is a declared variable
own_is : (e : BoolExpr) (l : ℕ) (m : Splitting) (n : ℕ) (ws : List ℤ) (at : ℕ) → Legal e l → Has ws at (encode_bool e) → own_at ws at ≡ own_var (split_of e m n)
unfolding Legal encode_bool split_of word nat
own_is (Const b) l m n ws at h d = absurd h
own_is (Var v) l m n ws at h d =
    let p = two ws at (pos 11) (pos v) [] d in
    rw (p.first, p.second, lt-ltb v max_bools h.1)
own_is (NVar k) l m n ws at h d = absurd h
own_is (And ms) l m n ws at h d = rw (has_word ws at (pos 12) _ (pos 0) d)
own_is (Or ms) l m n ws at h d = rw (has_word ws at (pos 13) _ (pos 0) d)
own_is (Not e) l m n ws at h d = rw (has_word ws at (pos 14) _ (pos 0) d)
own_is (Xor a b) l never n ws at h d = rw (has_word ws at (pos 15) _ (pos 0) d)
own_is (Xor a b) l below n ws at h d = rw (has_word ws at (pos 15) _ (pos 0) d)
own_is (Xor a b) l here n ws at h d = rw (has_word ws at (pos 15) _ (pos 0) d)
own_is (Iff a b) l never n ws at h d = rw (has_word ws at (pos 16) _ (pos 0) d)
own_is (Iff a b) l below n ws at h d = rw (has_word ws at (pos 16) _ (pos 0) d)
own_is (Iff a b) l here n ws at h d = rw (has_word ws at (pos 16) _ (pos 0) d)
own_is (Imp a b) l m n ws at h d = rw (has_word ws at (pos 17) _ (pos 0) d)
own_is (Cmp o a b) l m n ws at h d = rw (has_word ws at (pos 18) _ (pos 0) d)

-- ---- forms

abbrev reading : Form → ℕ → ℕ → Read
reading t e n = record { tree = t; end = e; next = n }

abbrev readings : Forms → ℕ → ℕ → Reads
readings ts e n = record { trees = ts; end = e; next = n }

abbrev int_reading : IntForm → ℕ → ℕ → IntRead
int_reading t e n = record { tree = t; end = e; next = n }

abbrev term_readings : TermForms → ℕ → ℕ → TermReads
term_readings ts e n = record { trees = ts; end = e; next = n }

reading_to : (t u : Form) (d e m n : ℕ) → t ≡ u → d ≡ e → m ≡ n → reading t d m ≡ reading u e n
reading_to t u d e m n p q r = cc

readings_to : (t u : Forms) (d e m n : ℕ) → t ≡ u → d ≡ e → m ≡ n → readings t d m ≡ readings u e n
readings_to t u d e m n p q r = cc

int_reading_to : (t u : IntForm) (d e m n : ℕ) → t ≡ u → d ≡ e → m ≡ n → int_reading t d m ≡ int_reading u e n
int_reading_to t u d e m n p q r = cc

term_readings_to : (t u : TermForms) (d e m n : ℕ) → t ≡ u → d ≡ e → m ≡ n → term_readings t d m ≡ term_readings u e n
term_readings_to t u d e m n p q r = cc

level : (ws : List ℤ) (l : ℕ) (m : Splitting) (g : Bool) (at n : ℕ) → 0 < l → decode ws l m g at n ≡ step (decode ws (l - 1)) (decode_int ws (l - 1)) m g n (node_of ws g at (word ws at))
unfolding decode
level ws zero m g at n h = absurd (omega arith)
level ws (suc l) m g at n h = rw sub-one

int_level : (ws : List ℤ) (l : ℕ) (m : Splitting) (at n : ℕ) → 0 < l → decode_int ws l m at n ≡ int_step ws (decode ws (l - 1)) (decode_int ws (l - 1)) m at n (word ws at)
unfolding decode
int_level ws zero m at n h = absurd (omega arith)
int_level ws (suc l) m at n h = rw sub-one

-- two members
two_reads : (p : Reader) (g h : Bool) (at n : ℕ) (x y : Form) (d e m k : ℕ) → p g at n ≡ reading x d m → p h d m ≡ reading y e k → many p 2 g h at n ≡ readings (pair x y) e k
unfolding many
two_reads p g h at n x y d e m k a b = rw (a, b)

-- an Xor or Iff, its sides from `at` and from q to r
module _ (p : Splitting → Reader) (a b : BoolExpr) (at q r : ℕ) where
  abbrev SideReads : BoolExpr → Splitting → ℕ → ℕ → Type 0
  SideReads e m from to = (k : ℕ) → k + splits e m ≤ limit → (g : Bool) → p m g from k ≡ reading (form (resolve e m from k g)) to (k + splits e m)

  cross_is : (m : Splitting) (h : Bool) (n : ℕ) → SideReads a (inner m) at q → SideReads b (inner m) q r → n + (own_splits m + (splits a (inner m) + splits b (inner m))) ≤ limit
      → cross_step p m h at n ≡ reading (form (crossed-trees-at m n (λ g. resolve a (inner m) at n g) (λ g. resolve b (inner m) q (n + splits a (inner m)) g) h)) r (n + (own_splits m + (splits a (inner m) + splits b (inner m))))
  unfolding cross_step form
  cross_is never h n x y l =
      let k = n + splits a never in
      let u = x n (omega (arith, l)) in let v = y k (omega (arith, l)) in
      rw (two_reads (p never) false h at n _ _ q r k (k + splits b never) (u false) (v h), two_reads (p never) true (not h) at n _ _ q r k (k + splits b never) (u true) (v (not h)))
      (reading_to _ _ _ _ _ _ refl refl (omega arith))
  cross_is below h n x y l =
      let k = n + splits a here in
      let u = x n (omega (arith, l)) in let v = y k (omega (arith, l)) in
      rw (two_reads (p here) false h at n _ _ q r k (k + splits b here) (u false) (v h), two_reads (p here) true (not h) at n _ _ q r k (k + splits b here) (u true) (v (not h)))
      (reading_to _ _ _ _ _ _ refl refl (omega arith))
  cross_is here h n x y l =
      let j = bump n 2 in
      let i : j ≡ n + 2 = omega (arith, l) in
      let k = j + splits a here in
      let u = x j (omega (arith, l, i)) in let v = y k (omega (arith, l, i)) in
      rw (two_reads (p here) false false at j _ _ q r k (k + splits b here) (u false) (v false), add-one n)
      (reading_to _ _ _ _ _ _ refl refl (omega (arith, i)))

-- an If; its parts end at u, v and w
place_to : (at s t j k : ℕ) → s ≡ t → j ≡ k → ◌≡◌ {A = Place} (record { at = at; size = s; whole = is_none j }) (record { at = at; size = t; whole = is_none k })
place_to at s t j k x y = cc

module _ (p : Splitting → Reader) (q : Splitting → IntReader) (i : IfIsRead) (c : BoolExpr) (t f : IntExpr) (m : Splitting) (at n : ℕ) where
  if_is : (ws : List ℤ) → own_at ws (at + 1) ≡ own_var (split_of c m n)
      → let u = at + 1 + length (encode_bool c) in let v = u + length (encode_int t) in let k = n + splits c m in let l = k + splits_int t m in
      ((g : Bool) → p m g (at + 1) n ≡ reading (form (resolve c m (at + 1) n g)) u k) → q m u k ≡ int_reading (int_form (resolve_int t m u k)) v l
      → q m v l ≡ int_reading (int_form (resolve_int f m v l)) (v + length (encode_int f)) (l + splits_int f m)
      → if_step (own_at ws (at + 1)) p q m at (at + 1) n ≡ int_reading (int_form (resolve_int (If i c t f) m at n)) (at + length (encode_int (If i c t f))) (n + splits_int (If i c t f) m)
  unfolding encode_int splits_int resolve_int int_form if_step split_int
  if_is ws x y z w =
      let u = at + 1 + length (encode_bool c) in let v = u + length (encode_int t) in let k = n + splits c m in let l = k + splits_int t m in
      let a = length (encode_bool c) in let b = length (encode_int t) in let d = length (encode_int f) in
      let j₁ = splits c m in let j₂ = splits_int t m in let j₃ = splits_int f m in
      rw (x, y false, y true, z, w)
      (int_reading_to _ _ _ _ _ _
      (ap (λ (o : Place). choice o (own_var (split_of c m n)) (form (resolve c m (at + 1) n false)) (form (resolve c m (at + 1) n true)) (int_form (resolve_int t m u k)) (int_form (resolve_int f m v l)))
      (place_to at (v + d - at) (1 + a + b + d) (l + j₃ - n) (j₁ + (j₂ + j₃)) (size_three a b d at) (taken_three j₁ j₂ j₃ n)))
      (end_three (encode_bool c) (encode_int t) (encode_int f) at) (behind_three j₁ j₂ j₃ n))

mutual
  unfolding Legal encode_bool step node_of resolve splits word nat many many_terms int_step form

  pub decode_is : (e : BoolExpr) (l : ℕ) (m : Splitting) (g : Bool) (ws : List ℤ) (at n : ℕ) → Legal e l → Has ws at (encode_bool e) → n + splits e m ≤ limit → decode ws l m g at n ≡ reading (form (resolve e m at n g)) (at + length (encode_bool e)) (n + splits e m)
  decode_is (Const b) l m g ws at n h d k = absurd h
  decode_is (Var v) l m g ws at n h d k =
      let p = two ws at (pos 11) (pos v) [] d in
      rw (level ws l m g at n h.0, p.first, p.second, p.stop, lt-ltb v max_bools h.1) (reading_to _ _ _ _ _ _ refl refl (omega arith))
  decode_is (NVar j) l m g ws at n h d k = absurd h
  decode_is (And ms) l m g ws at n h d k =
      let p = two ws at (pos 12) (pos (count_members ms)) (encode_members ms) d in
      rw (level ws l m g at n h.0, p.first, p.second, p.stop, many_is ms (l - 1) m g ws (at + 2) n h.2 p.rest k, form_joined) (reading_to _ _ _ _ _ _ refl (omega arith) refl)
  decode_is (Or ms) l m g ws at n h d k =
      let p = two ws at (pos 13) (pos (count_members ms)) (encode_members ms) d in
      rw (level ws l m g at n h.0, p.first, p.second, p.stop, many_is ms (l - 1) m g ws (at + 2) n h.2 p.rest k, form_joined) (reading_to _ _ _ _ _ _ refl (omega arith) refl)
  decode_is (Not e) l m g ws at n h d k =
      let p = one ws at (pos 14) (encode_bool e) d in
      rw (level ws l m g at n h.0, p.first, p.stop, decode_is e (l - 1) m (not g) ws (at + 1) n h.1 p.rest k) (reading_to _ _ _ _ _ _ refl (omega arith) refl)
  decode_is (Xor a b) l m g ws at n h d k =
      let p = one ws at (pos 15) (encode_bool a ++ encode_bool b) d in
      let da = has_front ws (at + 1) (encode_bool a) (encode_bool b) p.rest in
      let db = has_back ws (at + 1) (encode_bool a) (encode_bool b) p.rest in
      let q = at + 1 + length (encode_bool a) in
      rw (level ws l m g at n h.0, p.first, p.stop)
      (cross_is (decode ws (l - 1)) a b (at + 1) q (q + length (encode_bool b)) m g n
      (λ j x y. decode_is a (l - 1) (inner m) y ws (at + 1) j h.1 da x) (λ j x y. decode_is b (l - 1) (inner m) y ws q j h.2 db x) k
      ∙ reading_to _ _ _ _ _ _ refl (omega (arith, length-append (encode_bool a) (encode_bool b))) refl)
  decode_is (Iff a b) l m g ws at n h d k =
      let p = one ws at (pos 16) (encode_bool a ++ encode_bool b) d in
      let da = has_front ws (at + 1) (encode_bool a) (encode_bool b) p.rest in
      let db = has_back ws (at + 1) (encode_bool a) (encode_bool b) p.rest in
      let q = at + 1 + length (encode_bool a) in
      rw (level ws l m g at n h.0, p.first, p.stop)
      (cross_is (decode ws (l - 1)) a b (at + 1) q (q + length (encode_bool b)) m (not g) n
      (λ j x y. decode_is a (l - 1) (inner m) y ws (at + 1) j h.1 da x) (λ j x y. decode_is b (l - 1) (inner m) y ws q j h.2 db x) k
      ∙ reading_to _ _ _ _ _ _ refl (omega (arith, length-append (encode_bool a) (encode_bool b))) refl)
  decode_is (Imp a b) l m g ws at n h d k =
      let p = one ws at (pos 17) (encode_bool a ++ encode_bool b) d in
      let da = has_front ws (at + 1) (encode_bool a) (encode_bool b) p.rest in
      let db = has_back ws (at + 1) (encode_bool a) (encode_bool b) p.rest in
      let q = at + 1 + length (encode_bool a) in
      let j = n + splits a m in
      rw (
        level ws l m g at n h.0,
        p.first,
        p.stop,
        decode_is a (l - 1) m (not g) ws (at + 1) n h.1 da (omega arith),
        decode_is b (l - 1) m g ws q j h.2 db (omega arith),
        form_joined,
      )
      (reading_to _ _ _ _ _ _ refl (omega (arith, length-append (encode_bool a) (encode_bool b))) (omega arith))
  decode_is (Cmp o a b) l m g ws at n h d k =
      let p = two ws at (pos 18) (encode_op o) (encode_int a ++ encode_int b) d in
      let da = has_front ws (at + 2) (encode_int a) (encode_int b) p.rest in
      let db = has_back ws (at + 2) (encode_int a) (encode_int b) p.rest in
      let q = at + 2 + length (encode_int a) in
      rw (
        level ws l m g at n h.0,
        p.first,
        p.second,
        p.stop,
        decode_int_is a (l - 1) (inner m) ws (at + 2) n h.1 da (omega arith),
        decode_int_is b (l - 1) (inner m) ws q (n + splits_int a (inner m)) h.2 db (omega arith),
        op_is o,
      )
      (reading_to _ _ _ _ _ _ refl (omega (arith, length-append (encode_int a) (encode_int b))) (omega arith))

  many_is : (ms : Members) (l : ℕ) (m : Splitting) (g : Bool) (ws : List ℤ) (at n : ℕ) → LegalMembers ms l → Has ws at (encode_members ms) → n + splits_members ms m ≤ limit
      → many (decode ws l m) (count_members ms) g g at n ≡ readings (forms (resolves ms m at n g)) (at + length (encode_members ms)) (n + splits_members ms m)
  many_is mnil l m g ws at n h d k = readings_to _ _ _ _ _ _ refl (omega arith) (omega arith)
  many_is (more e ms) l m g ws at n h d k =
      let de = has_front ws at (encode_bool e) (encode_members ms) d in
      let dm = has_back ws at (encode_bool e) (encode_members ms) d in
      rw (decode_is e l m g ws at n h.0 de (omega arith), many_is ms l m g ws (at + length (encode_bool e)) (n + splits e m) h.1 dm (omega arith))
      (readings_to _ _ _ _ _ _ refl (omega (arith, length-append (encode_bool e) (encode_members ms))) (omega arith))

  pub decode_int_is : (e : IntExpr) (l : ℕ) (m : Splitting) (ws : List ℤ) (at n : ℕ) → LegalInt e l → Has ws at (encode_int e) → n + splits_int e m ≤ limit → decode_int ws l m at n ≡ int_reading (int_form (resolve_int e m at n)) (at + length (encode_int e)) (n + splits_int e m)
  decode_int_is (IConst c) l m ws at n h d k =
      let p = two ws at (pos 20) c [] d in
      rw (int_level ws l m at n h, p.first, p.second, p.stop) (int_reading_to _ _ _ _ _ _ refl refl (omega arith))
  decode_int_is (IVar v) l m ws at n h d k =
      let p = two ws at (pos 21) (pos v) [] d in
      rw (int_level ws l m at n h.0, p.first, p.second, p.stop, lt-ltb v max_ints h.1) (int_reading_to _ _ _ _ _ _ refl refl (omega arith))
  decode_int_is (Linear ts) l m ws at n h d k =
      let p = two ws at (pos 22) (pos (count_terms ts)) (encode_terms ts) d in
      rw (int_level ws l m at n h.0, p.first, p.second, p.stop, many_terms_is ts (l - 1) m ws (at + 2) n h.1 p.rest k) (int_reading_to _ _ _ _ _ _ refl (omega arith) refl)
  decode_int_is (If i c t f) l m ws at n h d k =
      let p = one ws at (pos 23) (encode_bool c ++ (encode_int t ++ encode_int f)) d in
      let dc = has_front ws (at + 1) (encode_bool c) (encode_int t ++ encode_int f) p.rest in
      let db = has_back ws (at + 1) (encode_bool c) (encode_int t ++ encode_int f) p.rest in
      let u = at + 1 + length (encode_bool c) in let v = u + length (encode_int t) in
      let dt = has_front ws u (encode_int t) (encode_int f) db in
      let df = has_back ws u (encode_int t) (encode_int f) db in
      let j = n + splits c m in let j₂ = j + splits_int t m in
      let x = splits c m in let y = splits_int t m in let z = splits_int f m in
      rw (int_level ws l m at n h.0, p.first, p.stop)
      (if_is (decode ws (l - 1)) (decode_int ws (l - 1)) i c t f m at n ws (own_is c (l - 1) m n ws (at + 1) h.1 dc)
      (λ g. decode_is c (l - 1) m g ws (at + 1) n h.1 dc (room_first x y z limit n k)) (decode_int_is t (l - 1) m ws u j h.2 dt (room_second x y z limit n k)) (decode_int_is f (l - 1) m ws v j₂ h.3 df (room_third x y z limit n k)))

  many_terms_is : (ts : Terms) (l : ℕ) (m : Splitting) (ws : List ℤ) (at n : ℕ) → LegalTerms ts l → Has ws at (encode_terms ts) → n + splits_terms ts m ≤ limit
      → many_terms ws (decode_int ws l m) (count_terms ts) at n ≡ term_readings (term_forms (resolve_terms ts m at n)) (at + length (encode_terms ts)) (n + splits_terms ts m)
  many_terms_is tnil l m ws at n h d k = term_readings_to _ _ _ _ _ _ refl (omega arith) (omega arith)
  many_terms_is (tmore c e ts) l m ws at n h d k =
      let p = one ws at c (encode_int e ++ encode_terms ts) d in
      let de = has_front ws (at + 1) (encode_int e) (encode_terms ts) p.rest in
      let dt = has_back ws (at + 1) (encode_int e) (encode_terms ts) p.rest in
      rw (p.first, p.stop, decode_int_is e l m ws (at + 1) n h.0 de (omega arith), many_terms_is ts l m ws (at + 1 + length (encode_int e)) (n + splits_int e m) h.1 dt (omega arith))
      (term_readings_to _ _ _ _ _ _ refl (omega (arith, length-append (encode_int e) (encode_terms ts))) (omega arith))

-- ---- the extras

ties_level : (ws : List ℤ) (l : ℕ) (m : Splitting) (at n : ℕ) → 0 < l
    → ties_at ws l m at n ≡ ties_step (decode ws (l - 1)) (decode_int ws (l - 1)) (ties_at ws (l - 1)) (ties_int_at ws (l - 1)) m n (node_of ws false at (word ws at))
unfolding ties_at
ties_level ws zero m at n h = absurd (omega arith)
ties_level ws (suc l) m at n h = rw sub-one

int_ties_level : (ws : List ℤ) (l : ℕ) (m : Splitting) (at n : ℕ) → 0 < l
    → ties_int_at ws l m at n ≡ int_ties_step ws (decode ws (l - 1)) (decode_int ws (l - 1)) (ties_at ws (l - 1)) (ties_int_at ws (l - 1)) m at n (word ws at)
unfolding ties_at
int_ties_level ws zero m at n h = absurd (omega arith)
int_ties_level ws (suc l) m at n h = rw sub-one

-- both sides tied
forms_tied : (ts us : Trees) (t u : Tree) → forms (trees-tied here ts t us u) ≡ sides_tied here (forms ts) (form t) (forms us) (form u)
unfolding form
forms_tied ts us t u = rw (forms_append (append-trees ts (more-trees t no-trees)) (append-trees us (more-trees u no-trees)), forms_append ts (more-trees t no-trees), forms_append us (more-trees u no-trees))

append-nil : (ts : Forms) → append ts nil ≡ ts
append-nil nil = refl
append-nil (cons t ts) = ap (cons t) (append-nil ts)

-- two members
two_ties : (p : Reader) (q : Ties) (at n : ℕ) (x : Form) (d k : ℕ) (ts us : Forms) → p false at n ≡ reading x d k → q at n ≡ ts → q d k ≡ us → many_ties p q 2 at n ≡ append ts us
unfolding many_ties
two_ties p q at n x d k ts us a b c = rw (a, b, c, append-nil us)

-- an Xor or Iff, its sides from `at` and from q to r
module _ (p : Splitting → Reader) (t : Splitting → Ties) (a b : BoolExpr) (at q r : ℕ) where
  abbrev SideTies : BoolExpr → Splitting → ℕ → Type 0
  SideTies e m from = (k : ℕ) → k + splits e m ≤ limit → t m from k ≡ forms (ties e m from k)

  cross_ties_is : (m : Splitting) (n : ℕ) → SideReads p a b at q r a (inner m) at q → SideReads p a b at q r b (inner m) q r → SideTies a (inner m) at → SideTies b (inner m) q
      → n + (own_splits m + (splits a (inner m) + splits b (inner m))) ≤ limit
      → let k = own_splits m + n in
      cross_ties p t m at n ≡ forms (trees-tied m (ties a (inner m) at k) (tie n a at k) (ties b (inner m) q (k + splits a (inner m))) (tie (suc n) b q (k + splits a (inner m))))
  unfolding cross_ties tie_at form
  cross_ties_is never n x y z w l =
      let k = n + splits a never in
      rw (no_more n, forms_append) (two_ties (p never) (t never) at n _ q k (forms (ties a never at n)) (forms (ties b never q k)) (x n (omega (arith, l)) false) (z n (omega (arith, l))) (w k (omega (arith, l))))
  cross_ties_is below n x y z w l =
      let k = n + splits a here in
      rw (no_more n, forms_append) (two_ties (p here) (t here) at n _ q k (forms (ties a here at n)) (forms (ties b here q k)) (x n (omega (arith, l)) false) (z n (omega (arith, l))) (w k (omega (arith, l))))
  cross_ties_is here n x y z w l =
      let j = 2 + n in
      let i : bump n 2 ≡ j = omega (arith, l) in
      let k = j + splits a here in
      let u = x j (omega (arith, l)) in let v = y k (omega (arith, l)) in
      rw (i, u false, u true, v false, v true, z j (omega (arith, l)), w k (omega (arith, l)), add-one n, forms_tied (ties a here at j) (ties b here q k) (tie n a at j) (tie (suc n) b q k))

mutual
  unfolding Legal encode_bool ties_step node_of ties splits word nat many_ties terms_ties if_ties int_ties_step form

  pub ties_is : (e : BoolExpr) (l : ℕ) (m : Splitting) (ws : List ℤ) (at n : ℕ) → Legal e l → Has ws at (encode_bool e) → n + splits e m ≤ limit → ties_at ws l m at n ≡ forms (ties e m at n)
  ties_is (Const b) l m ws at n h d k = absurd h
  ties_is (Var v) l m ws at n h d k =
      let p = two ws at (pos 11) (pos v) [] d in
      rw (ties_level ws l m at n h.0, p.first)
  ties_is (NVar j) l m ws at n h d k = absurd h
  ties_is (And ms) l m ws at n h d k =
      let p = two ws at (pos 12) (pos (count_members ms)) (encode_members ms) d in
      rw (ties_level ws l m at n h.0, p.first, p.second, p.stop, ties_are ms (l - 1) m ws (at + 2) n h.2 p.rest k)
  ties_is (Or ms) l m ws at n h d k =
      let p = two ws at (pos 13) (pos (count_members ms)) (encode_members ms) d in
      rw (ties_level ws l m at n h.0, p.first, p.second, p.stop, ties_are ms (l - 1) m ws (at + 2) n h.2 p.rest k)
  ties_is (Not e) l m ws at n h d k =
      let p = one ws at (pos 14) (encode_bool e) d in
      rw (ties_level ws l m at n h.0, p.first, p.stop, ties_is e (l - 1) m ws (at + 1) n h.1 p.rest k)
  ties_is (Xor a b) l m ws at n h d k =
      let p = one ws at (pos 15) (encode_bool a ++ encode_bool b) d in
      let da = has_front ws (at + 1) (encode_bool a) (encode_bool b) p.rest in
      let db = has_back ws (at + 1) (encode_bool a) (encode_bool b) p.rest in
      let q = at + 1 + length (encode_bool a) in
      rw (ties_level ws l m at n h.0, p.first, p.stop)
      (cross_ties_is (decode ws (l - 1)) (ties_at ws (l - 1)) a b (at + 1) q (q + length (encode_bool b)) m n
      (λ j x y. decode_is a (l - 1) (inner m) y ws (at + 1) j h.1 da x) (λ j x y. decode_is b (l - 1) (inner m) y ws q j h.2 db x)
      (λ j x. ties_is a (l - 1) (inner m) ws (at + 1) j h.1 da x) (λ j x. ties_is b (l - 1) (inner m) ws q j h.2 db x) k)
  ties_is (Iff a b) l m ws at n h d k =
      let p = one ws at (pos 16) (encode_bool a ++ encode_bool b) d in
      let da = has_front ws (at + 1) (encode_bool a) (encode_bool b) p.rest in
      let db = has_back ws (at + 1) (encode_bool a) (encode_bool b) p.rest in
      let q = at + 1 + length (encode_bool a) in
      rw (ties_level ws l m at n h.0, p.first, p.stop)
      (cross_ties_is (decode ws (l - 1)) (ties_at ws (l - 1)) a b (at + 1) q (q + length (encode_bool b)) m n
      (λ j x y. decode_is a (l - 1) (inner m) y ws (at + 1) j h.1 da x) (λ j x y. decode_is b (l - 1) (inner m) y ws q j h.2 db x)
      (λ j x. ties_is a (l - 1) (inner m) ws (at + 1) j h.1 da x) (λ j x. ties_is b (l - 1) (inner m) ws q j h.2 db x) k)
  ties_is (Imp a b) l m ws at n h d k =
      let p = one ws at (pos 17) (encode_bool a ++ encode_bool b) d in
      let da = has_front ws (at + 1) (encode_bool a) (encode_bool b) p.rest in
      let db = has_back ws (at + 1) (encode_bool a) (encode_bool b) p.rest in
      let q = at + 1 + length (encode_bool a) in
      let j = n + splits a m in
      rw (ties_level ws l m at n h.0, p.first, p.stop, forms_append)
      (two_ties (decode ws (l - 1) m) (ties_at ws (l - 1) m) (at + 1) n _ q j (forms (ties a m (at + 1) n)) (forms (ties b m q j))
      (decode_is a (l - 1) m false ws (at + 1) n h.1 da (omega arith)) (ties_is a (l - 1) m ws (at + 1) n h.1 da (omega arith)) (ties_is b (l - 1) m ws q j h.2 db (omega arith)))
  ties_is (Cmp o a b) l m ws at n h d k =
      let p = two ws at (pos 18) (encode_op o) (encode_int a ++ encode_int b) d in
      let da = has_front ws (at + 2) (encode_int a) (encode_int b) p.rest in
      let db = has_back ws (at + 2) (encode_int a) (encode_int b) p.rest in
      let q = at + 2 + length (encode_int a) in
      rw (
        ties_level ws l m at n h.0,
        p.first,
        p.stop,
        decode_int_is a (l - 1) (inner m) ws (at + 2) n h.1 da (omega arith),
        ties_int_is a (l - 1) (inner m) ws (at + 2) n h.1 da (omega arith),
        ties_int_is b (l - 1) (inner m) ws q (n + splits_int a (inner m)) h.2 db (omega arith),
        forms_append,
      )

  ties_are : (ms : Members) (l : ℕ) (m : Splitting) (ws : List ℤ) (at n : ℕ) → LegalMembers ms l → Has ws at (encode_members ms) → n + splits_members ms m ≤ limit
      → many_ties (decode ws l m) (ties_at ws l m) (count_members ms) at n ≡ forms (ties_members ms m at n)
  ties_are mnil l m ws at n h d k = refl
  ties_are (more e ms) l m ws at n h d k =
      let de = has_front ws at (encode_bool e) (encode_members ms) d in
      let dm = has_back ws at (encode_bool e) (encode_members ms) d in
      rw (decode_is e l m false ws at n h.0 de (omega arith), ties_is e l m ws at n h.0 de (omega arith), ties_are ms l m ws (at + length (encode_bool e)) (n + splits e m) h.1 dm (omega arith), forms_append)

  pub ties_int_is : (e : IntExpr) (l : ℕ) (m : Splitting) (ws : List ℤ) (at n : ℕ) → LegalInt e l → Has ws at (encode_int e) → n + splits_int e m ≤ limit → ties_int_at ws l m at n ≡ forms (ties_int e m at n)
  ties_int_is (IConst c) l m ws at n h d k =
      let p = two ws at (pos 20) c [] d in
      rw (int_ties_level ws l m at n h, p.first)
  ties_int_is (IVar v) l m ws at n h d k =
      let p = two ws at (pos 21) (pos v) [] d in
      rw (int_ties_level ws l m at n h.0, p.first)
  ties_int_is (Linear ts) l m ws at n h d k =
      let p = two ws at (pos 22) (pos (count_terms ts)) (encode_terms ts) d in
      rw (int_ties_level ws l m at n h.0, p.first, p.second, p.stop, terms_ties_are ts (l - 1) m ws (at + 2) n h.1 p.rest k)
  ties_int_is (If i c t f) l m ws at n h d k =
      let p = one ws at (pos 23) (encode_bool c ++ (encode_int t ++ encode_int f)) d in
      let dc = has_front ws (at + 1) (encode_bool c) (encode_int t ++ encode_int f) p.rest in
      let db = has_back ws (at + 1) (encode_bool c) (encode_int t ++ encode_int f) p.rest in
      let u = at + 1 + length (encode_bool c) in let v = u + length (encode_int t) in
      let dt = has_front ws u (encode_int t) (encode_int f) db in
      let df = has_back ws u (encode_int t) (encode_int f) db in
      let j = n + splits c m in let j₂ = j + splits_int t m in
      let x = splits c m in let y = splits_int t m in let z = splits_int f m in
      rw (
        int_ties_level ws l m at n h.0,
        p.first,
        p.stop,
        decode_is c (l - 1) m false ws (at + 1) n h.1 dc (room_first x y z limit n k),
        decode_int_is t (l - 1) m ws u j h.2 dt (room_second x y z limit n k),
        ties_is c (l - 1) m ws (at + 1) n h.1 dc (room_first x y z limit n k),
        ties_int_is t (l - 1) m ws u j h.2 dt (room_second x y z limit n k),
        ties_int_is f (l - 1) m ws v j₂ h.3 df (room_third x y z limit n k),
        forms_append (ties c m (at + 1) n),
        forms_append (ties_int t m u j),
      )

  terms_ties_are : (ts : Terms) (l : ℕ) (m : Splitting) (ws : List ℤ) (at n : ℕ) → LegalTerms ts l → Has ws at (encode_terms ts) → n + splits_terms ts m ≤ limit
      → terms_ties ws (decode_int ws l m) (ties_int_at ws l m) (count_terms ts) at n ≡ forms (ties_terms ts m at n)
  terms_ties_are tnil l m ws at n h d k = refl
  terms_ties_are (tmore c e ts) l m ws at n h d k =
      let p = one ws at c (encode_int e ++ encode_terms ts) d in
      let de = has_front ws (at + 1) (encode_int e) (encode_terms ts) p.rest in
      let dt = has_back ws (at + 1) (encode_int e) (encode_terms ts) p.rest in
      rw (p.stop, decode_int_is e l m ws (at + 1) n h.0 de (omega arith), ties_int_is e l m ws (at + 1) n h.0 de (omega arith), terms_ties_are ts l m ws (at + 1 + length (encode_int e)) (n + splits_int e m) h.1 dt (omega arith), forms_append)

-- ---- a whole rule

abbrev pub rule_at : List ℤ → ℕ → ℕ → ℕ → Forms
rule_at ws l at n = append (ties_at ws l below at n) (cons (decode ws l below false at n).tree nil)

pub record RuleStands (e : BoolExpr) (ws : List ℤ) (l at n : ℕ) : Type 0 where
  pub trees : rule_at ws l at n ≡ forms (rule_trees e at n)
  pub end : (decode ws l below false at n).end ≡ at + length (encode_bool e)
  pub next : (decode ws l below false at n).next ≡ n + splits e below

true_stands : (ws : List ℤ) (l at n : ℕ) → 0 < l → Has ws at (encode_bool (Const true)) → RuleStands (Const true) ws l at n
unfolding encode_bool ties_step node_of step many many_ties resolve ties splits word nat form
true_stands ws l at n h d =
    let p = two ws at (pos 10) (pos 1) [] d in
    let i = level ws l below false at n h in
    let j = ties_level ws l below at n h in
    record {
      trees = rw (i, j, p.first, p.second);
      end = rw (i, p.first, p.stop);
      next = rw (i, p.first) (omega arith);
    }

pub rule_stands : (e : BoolExpr) (ws : List ℤ) (l at n : ℕ) → LegalRule e l → Has ws at (encode_bool e) → n + splits e below ≤ limit → RuleStands e ws l at n
unfolding form
rule_stands e ws l at n (true_rule h) d k = true_stands ws l at n h d
rule_stands e ws l at n (legal_rule x) d k =
    let i = decode_is e l below false ws at n x d k in
    let j = ties_is e l below ws at n x d k in
    record {
      trees = rw (j, i, forms_append);
      end = ap (λ (r : Read). r.end) i;
      next = ap (λ (r : Read). r.next) i;
    }

-- ---- a column, and a pair of an AllDifferent

pub record ColumnStands (e : IntExpr) (ws : List ℤ) (l at n : ℕ) : Type 0 where
  pub tree : (decode_int ws l never at n).tree ≡ int_form (resolve_int e never at n)
  pub end : (decode_int ws l never at n).end ≡ at + length (encode_int e)
  pub next : (decode_int ws l never at n).next ≡ n

pub column_stands : (e : IntExpr) (ws : List ℤ) (l at n : ℕ) → LegalInt e l → Has ws at (encode_int e) → n ≤ limit → ColumnStands e ws l at n
column_stands e ws l at n h d k =
    let z = never_int e in
    let i = decode_int_is e l never ws at n h d (omega (arith, z, k)) in
    let j : (decode_int ws l never at n).next ≡ n + splits_int e never = ap (λ (r : IntRead). r.next) i in
    record { tree = ap (λ (r : IntRead). r.tree) i; end = ap (λ (r : IntRead). r.end) i; next = omega (arith, z, j) }

-- p and q: where its sides stand
abbrev pub pair_at : List ℤ → ℕ → ℕ → ℕ → ℕ → Forms
pair_at ws l p q n =
    let x = decode_int ws l here p n in
    let y = decode_int ws l here q x.next in
    append (append (ties_int_at ws l here p n) (ties_int_at ws l here q x.next)) (cons (cmp Ne x.tree y.tree false) nil)

pub record PairStands (a b : IntExpr) (ws : List ℤ) (l p q n : ℕ) : Type 0 where
  pub trees : pair_at ws l p q n ≡ forms (pair_trees a b p q n)
  pub middle : (decode_int ws l here p n).next ≡ n + splits_int a here
  pub next : (decode_int ws l here q (n + splits_int a here)).next ≡ n + splits_int a here + splits_int b here

pub pair_stands : (a b : IntExpr) (ws : List ℤ) (l p q n : ℕ) → LegalInt a l → LegalInt b l → Has ws p (encode_int a) → Has ws q (encode_int b) → n + splits_int a here + splits_int b here ≤ limit → PairStands a b ws l p q n
unfolding form
pair_stands a b ws l p q n h k da db m =
    let j = n + splits_int a here in
    let x = decode_int_is a l here ws p n h da (omega (arith, m)) in
    let y = decode_int_is b l here ws q j k db m in
    let s = ties_int_is a l here ws p n h da (omega (arith, m)) in
    let t = ties_int_is b l here ws q j k db m in
    record { trees = rw (x, y, s, t, forms_append (append-trees (ties_int a here p n) (ties_int b here q j)), forms_append (ties_int a here p n)); middle = ap (λ (r : IntRead). r.next) x; next = ap (λ (r : IntRead). r.next) y }
