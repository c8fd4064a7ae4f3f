-- Expressions are read exactly: words are accepted exactly when they begin with those of a well-formed expression, which reading gives back with the rest.
-- Assumes nothing.
use Rattle.std.specs.Prelude.{◌≡◌, ◌⊎◌, Bool, true, false, cond, ℤ}
use Rattle.std.proofs.Math.Path.{refl, sym, ap}
use Rattle.std.proofs.Common.{◌∙◌, inl, inr}
use Rattle.std.proofs.Math.Logic.{⊎_elim}
use mathlib.Core.List.{List, ◌∷◌, ◌++◌, append_assoc}
use Prim.Native.Nat.{ℕ, zero, suc, ◌≤◌}
use native.Mathlib.Omega.{arith}
use Rattle.std.proofs.Math.Numerals.{sub-one}
use Rattle.std.proofs.Math.IntN.{pos}
use Rattle.laws.specs.Ints.{eqZ}
use Rattle.laws.specs.Order.{eqZ_is}
use Rattle.syntax.specs.Syntax.{is_read, op_at, encode_op, encode_int, encode_terms, encode_bool, encode_members, encode_bit, count_terms, count_members, CmpOp, Eq, Ne, Le, Lt, Ge, Gt, IntExpr, IConst, IVar, Linear, If, Terms, tnil, tmore, BoolExpr, Const, Var, NVar, And, Or, Not, Xor, Iff, Imp, Cmp, Members, mnil, more}
use Rattle.syntax.specs.Unique.{same_witness}
use Rattle.words.specs.Parse.{ok, Parser, parse_then, seq_parser, word, up_to, count, index, number}
use Rattle.words.specs.Exact.{Exact, refuse_ok, parse_then_ok, word_ok, up_to_exact, count_exact, index_exact, number_exact}
use Rattle.read.specs.Read.{kind_int, IntKind, i_const, i_var, i_sum, i_if, i_unknown, kind_bool, BoolKind, k_const, k_var, k_and, k_or, k_not, k_xor, k_iff, k_imp, k_cmp, k_unknown, bit_at, read_terms, read_members, step_int, read_int, step_bool, read_bool}
use Rattle.read.specs.WellFormed.{WellInt, WellTerms, WellBool, WellMembers}

-- ---- codes

abbrev code_int : IntKind → ℤ
code_int i_const = pos 20
code_int i_var = pos 21
code_int i_sum = pos 22
code_int i_if = pos 23
code_int i_unknown = pos 0

abbrev code_bool : BoolKind → ℤ
code_bool k_const = pos 10
code_bool k_var = pos 11
code_bool k_and = pos 12
code_bool k_or = pos 13
code_bool k_not = pos 14
code_bool k_xor = pos 15
code_bool k_iff = pos 16
code_bool k_imp = pos 17
code_bool k_cmp = pos 18
code_bool k_unknown = pos 0

module _ {K : Type 0} (code : K → ℤ) (unknown : K) (w : ℤ) where
  abbrev Coded : K → Type 0
  Coded k = (k ≡ unknown) ⊎ (w ≡ code k)

  coded : (k rest : K) → Coded rest → Coded (cond (eqZ w (code k)) k rest)
  coded k rest h = go (eqZ w (code k)) refl
    where
      go : (t : Bool) → eqZ w (code k) ≡ t → Coded (cond t k rest)
      go true e = inr (eqZ_is w (code k) e)
      go false e = h

-- a word whose kind is known is that kind's code
int_coded : (w : ℤ) → Coded code_int i_unknown w (kind_int w)
unfolding kind_int
int_coded w = coded code_int i_unknown w i_const _ (coded code_int i_unknown w i_var _ (coded code_int i_unknown w i_sum _ (coded code_int i_unknown w i_if _ (inl refl))))

bool_coded : (w : ℤ) → Coded code_bool k_unknown w (kind_bool w)
unfolding kind_bool
bool_coded w =
    let c = coded code_bool k_unknown w in
    c k_const _ (c k_var _ (c k_and _ (c k_or _ (c k_not _ (c k_xor _ (c k_iff _ (c k_imp _ (c k_cmp _ (inl refl)))))))))

-- ---- bits and operators

bit_code : (b : ℕ) → b ≤ 1 → encode_bit (bit_at b) ≡ pos b
bit_code zero h = refl
bit_code (suc zero) h = refl
bit_code (suc (suc b)) h = absurd (omega arith)

bit_back : (b : Bool) (r : List ℤ) → parse_then (up_to 1 4 (encode_bit b ∷ r)) (λ n s. ok (Const (bit_at n)) s) ≡ ok (Const b) r
unfolding up_to
bit_back false r = refl
bit_back true r = refl

op_code : (o : ℕ) → o ≤ 5 → encode_op (op_at o) ≡ pos o
op_code zero h = refl
op_code (suc zero) h = refl
op_code (suc (suc zero)) h = refl
op_code (suc (suc (suc zero))) h = refl
op_code (suc (suc (suc (suc zero)))) h = refl
op_code (suc (suc (suc (suc (suc zero))))) h = refl
op_code (suc (suc (suc (suc (suc (suc o)))))) h = absurd (omega arith)

op_back : {A : Type 0} (o : CmpOp) (r : List ℤ) (f : CmpOp → Parser A) → parse_then (up_to 5 4 (encode_op o ∷ r)) (λ n. f (op_at n)) ≡ f o r
unfolding up_to
op_back Eq r f = refl
op_back Ne r f = refl
op_back Le r f = refl
op_back Lt r f = refl
op_back Ge r f = refl
op_back Gt r f = refl

-- ---- terms

module _ (nb ni left : ℕ) (q : Parser IntExpr) (y : Exact encode_int (WellInt nb ni left) q) where
  terms_sound : (n : ℕ) (xs : List ℤ) (ts : Terms) (r : List ℤ) → read_terms q n xs ≡ ok ts r → (xs ≡ encode_terms ts ++ r) × ((count_terms ts ≡ n) × WellTerms nb ni left ts)
  unfolding read_terms encode_int WellInt
  terms_sound zero xs ts r h =
      let m : tnil ≡ ts = cc in
      let e : xs ≡ r = cc in
      rw (e, ← m) (refl, (refl, tt))
  terms_sound (suc n) xs ts r h =
      parse_then_ok (number xs) _ ts r h λ k s hk h1.
      parse_then_ok (q s) _ ts r h1 λ a t ha h2.
      parse_then_ok (read_terms q n t) _ ts r h2 λ us u hu h3.
      let m : tmore k a us ≡ ts = cc in
      let e : u ≡ r = cc in
      let i = number_exact.sound xs k s hk in
      let j = y.sound s a t ha in
      let l = terms_sound n t us u hu in
      rw (← m, ← e) (i.0 ∙ ap (λ v. k ∷ v) (j.0 ∙ ap (λ v. encode_int a ++ v) l.0 ∙ sym (append_assoc (encode_int a) (encode_terms us) u)), (ap suc l.1.0, (i.1, j.1, l.1.1)))

  terms_complete : (ts : Terms) (r : List ℤ) → WellTerms nb ni left ts → read_terms q (count_terms ts) (encode_terms ts ++ r) ≡ ok ts r
  unfolding read_terms encode_int WellInt
  terms_complete tnil r h = refl
  terms_complete (tmore k e ts) r h =
      rw (append_assoc (encode_int e) (encode_terms ts) r, number_exact.complete k (encode_int e ++ (encode_terms ts ++ r)) h.0, y.complete e (encode_terms ts ++ r) h.1, terms_complete ts r h.2) refl

  pub terms_exact : (n : ℕ) → Exact encode_terms (λ ts. (count_terms ts ≡ n) × WellTerms nb ni left ts) (read_terms q n)
  terms_exact n = record {
    sound = terms_sound n;
    complete = λ ts r h. rw (← h.0) (terms_complete ts r h.1);
  }

-- ---- members and two sides

module _ (nb ni left : ℕ) (p : Parser BoolExpr) (x : Exact encode_bool (WellBool nb ni left) p) where
  members_sound : (n : ℕ) (xs : List ℤ) (ms : Members) (r : List ℤ) → read_members p n xs ≡ ok ms r → (xs ≡ encode_members ms ++ r) × ((count_members ms ≡ n) × WellMembers nb ni left ms)
  unfolding read_members encode_bool WellBool
  members_sound zero xs ms r h =
      let m : mnil ≡ ms = cc in
      let e : xs ≡ r = cc in
      rw (e, ← m) (refl, (refl, tt))
  members_sound (suc n) xs ms r h =
      parse_then_ok (p xs) _ ms r h λ a s ha h1.
      parse_then_ok (read_members p n s) _ ms r h1 λ ns t hn h2.
      let m : more a ns ≡ ms = cc in
      let e : t ≡ r = cc in
      let j = x.sound xs a s ha in
      let l = members_sound n s ns t hn in
      rw (← m, ← e) (j.0 ∙ ap (λ v. encode_bool a ++ v) l.0 ∙ sym (append_assoc (encode_bool a) (encode_members ns) t), (ap suc l.1.0, (j.1, l.1.1)))

  members_complete : (ms : Members) (r : List ℤ) → WellMembers nb ni left ms → read_members p (count_members ms) (encode_members ms ++ r) ≡ ok ms r
  unfolding read_members encode_bool WellBool
  members_complete mnil r h = refl
  members_complete (more e ms) r h =
      rw (append_assoc (encode_bool e) (encode_members ms) r, x.complete e (encode_members ms ++ r) h.0, members_complete ms r h.1) refl

  pub members_exact : (n : ℕ) → Exact encode_members (λ ms. (count_members ms ≡ n) × WellMembers nb ni left ms) (read_members p n)
  members_exact n = record {
    sound = members_sound n;
    complete = λ ms r h. rw (← h.0) (members_complete ms r h.1);
  }

  -- two sides
  pair_sound : {X : Type 0} (make : BoolExpr → BoolExpr → BoolExpr) (xs : List ℤ) (e : BoolExpr) (r : List ℤ) → seq_parser make p (λ a. p) xs ≡ ok e r
      → ((a b : BoolExpr) → make a b ≡ e → xs ≡ (encode_bool a ++ encode_bool b) ++ r → WellBool nb ni left a → WellBool nb ni left b → X) → X
  pair_sound make xs e r h go =
      parse_then_ok (p xs) _ e r h λ a s ha h1.
      parse_then_ok (p s) _ e r h1 λ b t hb h2.
      let i = x.sound xs a s ha in
      let j = x.sound s b t hb in
      let q : t ≡ r = cc in
      go a b (cc) (i.0 ∙ ap (λ v. encode_bool a ++ v) (j.0 ∙ ap (λ v. encode_bool b ++ v) q) ∙ sym (append_assoc (encode_bool a) (encode_bool b) r)) i.1 j.1

  pair_complete : (make : BoolExpr → BoolExpr → BoolExpr) (a b : BoolExpr) (r : List ℤ) → WellBool nb ni left a → WellBool nb ni left b
      → seq_parser make p (λ a. p) ((encode_bool a ++ encode_bool b) ++ r) ≡ ok (make a b) r
  pair_complete make a b r h k =
      rw (append_assoc (encode_bool a) (encode_bool b) r, x.complete a (encode_bool b ++ r) h, x.complete b r k) refl

-- ---- expressions

module _ (nb ni left : ℕ) (p : Parser BoolExpr) (x : Exact encode_bool (WellBool nb ni left) p) (q : Parser IntExpr) (y : Exact encode_int (WellInt nb ni left) q) where
  step_int_sound : (k : IntKind) (xs : List ℤ) (e : IntExpr) (r : List ℤ) → step_int nb ni p q k xs ≡ ok e r → (code_int k ∷ xs ≡ encode_int e ++ r) × WellInt nb ni (suc left) e
  unfolding step_int encode_int WellInt
  step_int_sound i_const xs e r h =
      parse_then_ok (number xs) _ e r h λ c s hc h1.
      let m : IConst c ≡ e = cc in
      let z : s ≡ r = cc in
      let i = number_exact.sound xs c s hc in
      rw (← m, ← z) (ap (λ v. pos 20 ∷ v) i.0, (omega arith, i.1))
  step_int_sound i_var xs e r h =
      parse_then_ok (index ni xs) _ e r h λ v s hv h1.
      let m : IVar v ≡ e = cc in
      let z : s ≡ r = cc in
      let i = (index_exact ni).sound xs v s hv in
      rw (← m, ← z) (ap (λ v. pos 21 ∷ v) i.0, (omega arith, i.1))
  step_int_sound i_sum xs e r h =
      parse_then_ok (count xs) _ e r h λ n s hn h1.
      parse_then_ok (read_terms q n s) _ e r h1 λ ts t ht h2.
      let m : Linear ts ≡ e = cc in
      let z : t ≡ r = cc in
      let i = count_exact.sound xs n s hn in
      let j = terms_sound nb ni left q y n s ts t ht in
      rw (← m, ← z, sub-one, j.1.0) (ap (λ v. pos 22 ∷ v) (i.0 ∙ ap (λ v. pos n ∷ v) j.0), (omega arith, i.1, j.1.1))
  step_int_sound i_if xs e r h =
      parse_then_ok (p xs) _ e r h λ c s hc h1.
      parse_then_ok (q s) _ e r h1 λ a t ha h2.
      parse_then_ok (q t) _ e r h2 λ b u hb h3.
      let m : If is_read c a b ≡ e = cc in
      let z : u ≡ r = cc in
      let i = x.sound xs c s hc in
      let j = y.sound s a t ha in
      let l = y.sound t b u hb in
      rw (← m, ← z, sub-one)
      (ap (λ v. pos 23 ∷ v) (i.0 ∙ ap (λ v. encode_bool c ++ v) (j.0 ∙ ap (λ v. encode_int a ++ v) l.0 ∙ sym (append_assoc (encode_int a) (encode_int b) u)) ∙ sym (append_assoc (encode_bool c) (encode_int a ++ encode_int b) u)), (omega arith, i.1, j.1, l.1))
  step_int_sound i_unknown xs e r h = refuse_ok 5 e r h

  step_int_complete : (e : IntExpr) (r : List ℤ) → WellInt nb ni (suc left) e → parse_then (word (encode_int e ++ r)) (λ w s. step_int nb ni p q (kind_int w) s) ≡ ok e r
  unfolding step_int kind_int encode_int WellInt
  step_int_complete (IConst c) r h = rw (number_exact.complete c r h.1) refl
  step_int_complete (IVar v) r h = rw ((index_exact ni).complete v r h.1) refl
  step_int_complete (Linear ts) r h = rw (count_exact.complete (count_terms ts) (encode_terms ts ++ r) h.1, terms_complete nb ni left q y ts r (rw sub-one at h.2)) refl
  step_int_complete (If i c t f) r h =
      rw (append_assoc (encode_bool c) (encode_int t ++ encode_int f) r, append_assoc (encode_int t) (encode_int f) r, x.complete c (encode_int t ++ (encode_int f ++ r)) (rw sub-one at h.1), y.complete t (encode_int f ++ r) (rw sub-one at h.2), y.complete f r (rw sub-one at h.3), same_witness i c t f) refl

  -- an unknown word is not accepted
  int_accepted : (w : ℤ) (xs : List ℤ) (e : IntExpr) (r : List ℤ) → step_int nb ni p q (kind_int w) xs ≡ ok e r → w ≡ code_int (kind_int w)
  unfolding step_int
  int_accepted w xs e r h = ⊎_elim (λ u. refuse_ok 5 e r (rw u at h)) (λ c. c) (int_coded w)

  step_int_exact : Exact encode_int (WellInt nb ni (suc left)) (λ xs. parse_then (word xs) (λ w s. step_int nb ni p q (kind_int w) s))
  step_int_exact = record {
    sound = λ xs e r h.
        parse_then_ok (word xs) _ e r h λ w s hw hs.
        let m = step_int_sound (kind_int w) s e r hs in
        (word_ok xs w s hw ∙ ap (λ v. v ∷ s) (int_accepted w s e r hs) ∙ m.0, m.1);
    complete = step_int_complete;
  }

  step_bool_sound : (k : BoolKind) (xs : List ℤ) (e : BoolExpr) (r : List ℤ) → step_bool nb ni p q k xs ≡ ok e r → (code_bool k ∷ xs ≡ encode_bool e ++ r) × WellBool nb ni (suc left) e
  unfolding step_bool encode_bool WellBool
  step_bool_sound k_const xs e r h =
      parse_then_ok (up_to 1 4 xs) _ e r h λ b s hb h1.
      let m : Const (bit_at b) ≡ e = cc in
      let z : s ≡ r = cc in
      let i = (up_to_exact 1 4).sound xs b s hb in
      rw (← m, ← z, bit_code b i.1) (ap (λ v. pos 10 ∷ v) i.0, omega arith)
  step_bool_sound k_var xs e r h =
      parse_then_ok (index nb xs) _ e r h λ v s hv h1.
      let m : Var v ≡ e = cc in
      let z : s ≡ r = cc in
      let i = (index_exact nb).sound xs v s hv in
      rw (← m, ← z) (ap (λ v. pos 11 ∷ v) i.0, (omega arith, i.1))
  step_bool_sound k_and xs e r h =
      parse_then_ok (count xs) _ e r h λ n s hn h1.
      parse_then_ok (read_members p n s) _ e r h1 λ ms t ht h2.
      let m : And ms ≡ e = cc in
      let z : t ≡ r = cc in
      let i = count_exact.sound xs n s hn in
      let j = members_sound nb ni left p x n s ms t ht in
      rw (← m, ← z, sub-one, j.1.0) (ap (λ v. pos 12 ∷ v) (i.0 ∙ ap (λ v. pos n ∷ v) j.0), (omega arith, i.1, j.1.1))
  step_bool_sound k_or xs e r h =
      parse_then_ok (count xs) _ e r h λ n s hn h1.
      parse_then_ok (read_members p n s) _ e r h1 λ ms t ht h2.
      let m : Or ms ≡ e = cc in
      let z : t ≡ r = cc in
      let i = count_exact.sound xs n s hn in
      let j = members_sound nb ni left p x n s ms t ht in
      rw (← m, ← z, sub-one, j.1.0) (ap (λ v. pos 13 ∷ v) (i.0 ∙ ap (λ v. pos n ∷ v) j.0), (omega arith, i.1, j.1.1))
  step_bool_sound k_not xs e r h =
      parse_then_ok (p xs) _ e r h λ a s ha h1.
      let m : Not a ≡ e = cc in
      let z : s ≡ r = cc in
      let i = x.sound xs a s ha in
      rw (← m, ← z, sub-one) (ap (λ v. pos 14 ∷ v) i.0, (omega arith, i.1))
  step_bool_sound k_xor xs e r h =
      pair_sound nb ni left p x Xor xs e r h λ a b m q i j.
      rw (← m, sub-one) (ap (λ v. pos 15 ∷ v) q, (omega arith, i, j))
  step_bool_sound k_iff xs e r h =
      pair_sound nb ni left p x Iff xs e r h λ a b m q i j.
      rw (← m, sub-one) (ap (λ v. pos 16 ∷ v) q, (omega arith, i, j))
  step_bool_sound k_imp xs e r h =
      pair_sound nb ni left p x Imp xs e r h λ a b m q i j.
      rw (← m, sub-one) (ap (λ v. pos 17 ∷ v) q, (omega arith, i, j))
  step_bool_sound k_cmp xs e r h =
      parse_then_ok (up_to 5 4 xs) _ e r h λ o s ho h1.
      parse_then_ok (q s) _ e r h1 λ a t ha h2.
      parse_then_ok (q t) _ e r h2 λ b u hb h3.
      let m : Cmp (op_at o) a b ≡ e = cc in
      let z : u ≡ r = cc in
      let i = (up_to_exact 5 4).sound xs o s ho in
      let j = y.sound s a t ha in
      let l = y.sound t b u hb in
      rw (← m, ← z, op_code o i.1, sub-one)
      (ap (λ v. pos 18 ∷ v) (i.0 ∙ ap (λ v. pos o ∷ v) (j.0 ∙ ap (λ v. encode_int a ++ v) l.0 ∙ sym (append_assoc (encode_int a) (encode_int b) u))), (omega arith, j.1, l.1))
  step_bool_sound k_unknown xs e r h = refuse_ok 5 e r h

  step_bool_complete : (e : BoolExpr) (r : List ℤ) → WellBool nb ni (suc left) e → parse_then (word (encode_bool e ++ r)) (λ w s. step_bool nb ni p q (kind_bool w) s) ≡ ok e r
  unfolding step_bool kind_bool encode_bool WellBool
  step_bool_complete (Const b) r h = bit_back b r
  step_bool_complete (Var v) r h = rw ((index_exact nb).complete v r h.1) refl
  step_bool_complete (NVar n) r h = absurd h
  step_bool_complete (And ms) r h = rw (count_exact.complete (count_members ms) (encode_members ms ++ r) h.1, members_complete nb ni left p x ms r (rw sub-one at h.2)) refl
  step_bool_complete (Or ms) r h = rw (count_exact.complete (count_members ms) (encode_members ms ++ r) h.1, members_complete nb ni left p x ms r (rw sub-one at h.2)) refl
  step_bool_complete (Not e) r h = rw (x.complete e r (rw sub-one at h.1)) refl
  step_bool_complete (Xor a b) r h = pair_complete nb ni left p x Xor a b r (rw sub-one at h.1) (rw sub-one at h.2)
  step_bool_complete (Iff a b) r h = pair_complete nb ni left p x Iff a b r (rw sub-one at h.1) (rw sub-one at h.2)
  step_bool_complete (Imp a b) r h = pair_complete nb ni left p x Imp a b r (rw sub-one at h.1) (rw sub-one at h.2)
  step_bool_complete (Cmp o a b) r h =
      op_back o ((encode_int a ++ encode_int b) ++ r) (λ o. seq_parser (Cmp o) q (λ c. q))
      ∙ rw (append_assoc (encode_int a) (encode_int b) r, y.complete a (encode_int b ++ r) (rw sub-one at h.1), y.complete b r (rw sub-one at h.2)) refl

  bool_accepted : (w : ℤ) (xs : List ℤ) (e : BoolExpr) (r : List ℤ) → step_bool nb ni p q (kind_bool w) xs ≡ ok e r → w ≡ code_bool (kind_bool w)
  unfolding step_bool
  bool_accepted w xs e r h = ⊎_elim (λ u. refuse_ok 5 e r (rw u at h)) (λ c. c) (bool_coded w)

  step_bool_exact : Exact encode_bool (WellBool nb ni (suc left)) (λ xs. parse_then (word xs) (λ w s. step_bool nb ni p q (kind_bool w) s))
  step_bool_exact = record {
    sound = λ xs e r h.
        parse_then_ok (word xs) _ e r h λ w s hw hs.
        let m = step_bool_sound (kind_bool w) s e r hs in
        (word_ok xs w s hw ∙ ap (λ v. v ∷ s) (bool_accepted w s e r hs) ∙ m.0, m.1);
    complete = step_bool_complete;
  }

int_no_level : (nb ni : ℕ) (e : IntExpr) → WellInt nb ni 0 e → ⊥
unfolding WellInt
int_no_level nb ni (IConst c) h = omega (arith, h.0)
int_no_level nb ni (IVar v) h = omega (arith, h.0)
int_no_level nb ni (If i c t f) h = omega (arith, h.0)
int_no_level nb ni (Linear ts) h = omega (arith, h.0)

bool_no_level : (nb ni : ℕ) (e : BoolExpr) → WellBool nb ni 0 e → ⊥
unfolding WellBool
bool_no_level nb ni (Const b) h = omega arith
bool_no_level nb ni (Var v) h = omega (arith, h.0)
bool_no_level nb ni (NVar n) h = h
bool_no_level nb ni (And ms) h = omega (arith, h.0)
bool_no_level nb ni (Or ms) h = omega (arith, h.0)
bool_no_level nb ni (Not e) h = omega (arith, h.0)
bool_no_level nb ni (Xor a b) h = omega (arith, h.0)
bool_no_level nb ni (Iff a b) h = omega (arith, h.0)
bool_no_level nb ni (Imp a b) h = omega (arith, h.0)
bool_no_level nb ni (Cmp o a b) h = omega (arith, h.0)

mutual
  unfolding read_int

  pub int_exact : (nb ni left : ℕ) → Exact encode_int (WellInt nb ni left) (read_int nb ni left)
  int_exact nb ni zero = record {
    sound = λ xs e r h. parse_then_ok (word xs) _ e r h λ w s hw h1. refuse_ok _ e r h1;
    complete = λ e r h. absurd (int_no_level nb ni e h);
  }
  int_exact nb ni (suc left) = step_int_exact nb ni left (read_bool nb ni left) (bool_exact nb ni left) (read_int nb ni left) (int_exact nb ni left)

  pub bool_exact : (nb ni left : ℕ) → Exact encode_bool (WellBool nb ni left) (read_bool nb ni left)
  bool_exact nb ni zero = record {
    sound = λ xs e r h. parse_then_ok (word xs) _ e r h λ w s hw h1. refuse_ok _ e r h1;
    complete = λ e r h. absurd (bool_no_level nb ni e h);
  }
  bool_exact nb ni (suc left) = step_bool_exact nb ni left (read_bool nb ni left) (bool_exact nb ni left) (read_int nb ni left) (int_exact nb ni left)
