-- Expressions with the same words are the same, emitted numbers included: a reader without limits gives every expression back from its words.
-- Assumes nothing.
use Rattle.std.specs.Prelude.{◌≡◌, refl, Bool, true, false, cond, List, [], ◌++◌, ℕ, zero, suc, ◌+◌, ◌≤◌, eqb, ℤ, pos, negsuc, nat_abs, length, get_or, drop}
use Rattle.std.proofs.Common.{sym, ap, ◌∙◌, append_assoc, arith, length-append, take-append-drop}
use Rattle.laws.specs.Ints.{eqZ}
use Rattle.laws.specs.Slices.{Has}
use Rattle.syntax.specs.Syntax.{IfIsRead, is_read, CmpOp, Eq, Ne, Le, Lt, Ge, Gt, op_at, encode_op, IntExpr, IConst, IVar, Linear, If, Terms, tnil, tmore, BoolExpr, Const, Var, NVar, And, Or, Not, Xor, Iff, Imp, Cmp, Members, mnil, more, count_terms, count_members, encode_bit, encode_int, encode_terms, encode_bool, encode_members}

-- ---- the reader: the expression that words begin with, and the words behind it

abbrev Back : Type 0 → Type 0
Back A = List ℤ → A × List ℤ

abbrev first : List ℤ → ℤ
first ws = get_or ws 0 (pos 0)

abbrev rest : List ℤ → List ℤ
rest ws = drop 1 ws

unfoldable back_two : {A B C : Type 0} → (A → B → C) → Back A → Back B → Back C
back_two f p q ws = let a = p ws in let b = q a.1 in (f a.0 b.0, b.1)

unfoldable back_terms : Back IntExpr → ℕ → Back Terms
back_terms q zero ws = (tnil, ws)
back_terms q (suc n) ws = let a = q (rest ws) in let b = back_terms q n a.1 in (tmore (first ws) a.0 b.0, b.1)

unfoldable back_members : Back BoolExpr → ℕ → Back Members
back_members p zero ws = (mnil, ws)
back_members p (suc n) ws = let a = p ws in let b = back_members p n a.1 in (more a.0 b.0, b.1)

unfoldable bool_step : Back BoolExpr → Back IntExpr → ℕ → Back BoolExpr
bool_step p q k ws =
    cond (eqb k 10) (Const (eqZ (first ws) (pos 1)), rest ws)
    (cond (eqb k 11) (Var (nat_abs (first ws)), rest ws)
    (cond (eqb k 12) (let a = back_members p (nat_abs (first ws)) (rest ws) in (And a.0, a.1))
    (cond (eqb k 13) (let a = back_members p (nat_abs (first ws)) (rest ws) in (Or a.0, a.1))
    (cond (eqb k 14) (let a = p ws in (Not a.0, a.1))
    (cond (eqb k 15) (back_two Xor p p ws)
    (cond (eqb k 16) (back_two Iff p p ws)
    (cond (eqb k 17) (back_two Imp p p ws)
    (back_two (Cmp (op_at (nat_abs (first ws)))) q q (rest ws)))))))))

abbrev bool_word : Back BoolExpr → Back IntExpr → ℤ → Back BoolExpr
bool_word p q (negsuc m) ws = (NVar m, ws)
bool_word p q (pos k) ws = bool_step p q k ws

op_back : (o : CmpOp) → op_at (nat_abs (encode_op o)) ≡ o
op_back Eq = refl
op_back Ne = refl
op_back Le = refl
op_back Lt = refl
op_back Ge = refl
op_back Gt = refl

bit_back : (b : Bool) → eqZ (encode_bit b) (pos 1) ≡ b
bit_back true = refl
bit_back false = refl

-- p gives e back from its words us
abbrev Gives : {A : Type 0} → Back A → A → List ℤ → Type 0
Gives p e us = (r : List ℤ) → p (us ++ r) ≡ (e, r)

two_back : {A B C : Type 0} (f : A → B → C) (p : Back A) (q : Back B) (a : A) (b : B) (us vs : List ℤ) → Gives p a us → Gives q b vs → Gives (back_two f p q) (f a b) (us ++ vs)
unfolding back_two
two_back f p q a b us vs h k r = rw (append_assoc us vs r, h (vs ++ r), k r) refl

-- two expressions with the same words in front
fronts : {A : Type 0} (p : Back A) (a b : A) (us vs r s : List ℤ) → Gives p a us → Gives p b vs → us ++ r ≡ vs ++ s → (a ≡ b) × (r ≡ s)
fronts p a b us vs r s h k e =
    let z = sym (h r) ∙ ap p e ∙ k s in
    (ap (λ x. x.0) z, ap (λ x. x.1) z)

-- an If has one witness
pub same_witness : (i : IfIsRead) (c : BoolExpr) (t f : IntExpr) → If is_read c t f ≡ If i c t f
same_witness is_read c t f = refl

unfoldable int_step : Back BoolExpr → Back IntExpr → ℕ → Back IntExpr
int_step p q k ws =
    cond (eqb k 20) (IConst (first ws), rest ws)
    (cond (eqb k 21) (IVar (nat_abs (first ws)), rest ws)
    (cond (eqb k 22) (let a = back_terms q (nat_abs (first ws)) (rest ws) in (Linear a.0, a.1))
    (let c = p ws in back_two (If is_read c.0) q q c.1)))

-- n: how many words may still be read
unfoldable mutual
  back_int : ℕ → Back IntExpr
  back_int zero ws = (IConst (pos 0), ws)
  back_int (suc n) ws = int_step (λ us. back_bool n us) (λ us. back_int n us) (nat_abs (first ws)) (rest ws)

  back_bool : ℕ → Back BoolExpr
  back_bool zero ws = (Const false, ws)
  back_bool (suc n) ws = bool_word (λ us. back_bool n us) (λ us. back_int n us) (first ws) (rest ws)

-- ---- it gives every expression back

mutual
  unfolding encode_int back_int int_step bool_step back_terms back_members

  int_back : (e : IntExpr) (n : ℕ) → length (encode_int e) ≤ n → Gives (back_int n) e (encode_int e)
  int_back (IConst c) zero h r = absurd (omega arith)
  int_back (IVar v) zero h r = absurd (omega arith)
  int_back (Linear ts) zero h r = absurd (omega arith)
  int_back (If i c t f) zero h r = absurd (omega arith)
  int_back (IConst c) (suc n) h r = refl
  int_back (IVar v) (suc n) h r = refl
  int_back (Linear ts) (suc n) h r = rw (terms_back ts n (omega arith) r) refl
  int_back (If i c t f) (suc n) h r =
      let l = length-append (encode_bool c) (encode_int t ++ encode_int f) in
      let m = length-append (encode_int t) (encode_int f) in
      rw (append_assoc (encode_bool c) (encode_int t ++ encode_int f) r, bool_back c n (omega arith) ((encode_int t ++ encode_int f) ++ r), ← same_witness i c t f)
      (two_back (If is_read c) (back_int n) (back_int n) t f (encode_int t) (encode_int f) (λ q. int_back t n (omega arith) q) (λ q. int_back f n (omega arith) q) r)

  terms_back : (ts : Terms) (n : ℕ) → length (encode_terms ts) ≤ n → Gives (back_terms (back_int n) (count_terms ts)) ts (encode_terms ts)
  terms_back tnil n h r = refl
  terms_back (tmore k e ts) n h r =
      let l = length-append (encode_int e) (encode_terms ts) in
      rw (append_assoc (encode_int e) (encode_terms ts) r, int_back e n (omega arith) (encode_terms ts ++ r), terms_back ts n (omega arith) r) refl

  bool_back : (e : BoolExpr) (n : ℕ) → length (encode_bool e) ≤ n → Gives (back_bool n) e (encode_bool e)
  bool_back (Const b) zero h r = absurd (omega arith)
  bool_back (Var v) zero h r = absurd (omega arith)
  bool_back (NVar m) zero h r = absurd (omega arith)
  bool_back (And ms) zero h r = absurd (omega arith)
  bool_back (Or ms) zero h r = absurd (omega arith)
  bool_back (Not e) zero h r = absurd (omega arith)
  bool_back (Xor a b) zero h r = absurd (omega arith)
  bool_back (Iff a b) zero h r = absurd (omega arith)
  bool_back (Imp a b) zero h r = absurd (omega arith)
  bool_back (Cmp o a b) zero h r = absurd (omega arith)
  bool_back (Const b) (suc n) h r = rw (bit_back b) refl
  bool_back (Var v) (suc n) h r = refl
  bool_back (NVar m) (suc n) h r = refl
  bool_back (And ms) (suc n) h r = rw (members_back ms n (omega arith) r) refl
  bool_back (Or ms) (suc n) h r = rw (members_back ms n (omega arith) r) refl
  bool_back (Not e) (suc n) h r = rw (bool_back e n (omega arith) r) refl
  bool_back (Xor a b) (suc n) h r = let l = length-append (encode_bool a) (encode_bool b) in two_back Xor (back_bool n) (back_bool n) a b (encode_bool a) (encode_bool b) (λ q. bool_back a n (omega arith) q) (λ q. bool_back b n (omega arith) q) r
  bool_back (Iff a b) (suc n) h r = let l = length-append (encode_bool a) (encode_bool b) in two_back Iff (back_bool n) (back_bool n) a b (encode_bool a) (encode_bool b) (λ q. bool_back a n (omega arith) q) (λ q. bool_back b n (omega arith) q) r
  bool_back (Imp a b) (suc n) h r = let l = length-append (encode_bool a) (encode_bool b) in two_back Imp (back_bool n) (back_bool n) a b (encode_bool a) (encode_bool b) (λ q. bool_back a n (omega arith) q) (λ q. bool_back b n (omega arith) q) r
  bool_back (Cmp o a b) (suc n) h r = let l = length-append (encode_int a) (encode_int b) in rw (op_back o) (two_back (Cmp o) (back_int n) (back_int n) a b (encode_int a) (encode_int b) (λ q. int_back a n (omega arith) q) (λ q. int_back b n (omega arith) q) r)

  members_back : (ms : Members) (n : ℕ) → length (encode_members ms) ≤ n → Gives (back_members (back_bool n) (count_members ms)) ms (encode_members ms)
  members_back mnil n h r = refl
  members_back (more e ms) n h r =
      let l = length-append (encode_bool e) (encode_members ms) in
      rw (append_assoc (encode_bool e) (encode_members ms) r, bool_back e n (omega arith) (encode_members ms ++ r), members_back ms n (omega arith) r) refl

-- ---- the same words, the same expression; the words behind it may be any

pub int_front : (a b : IntExpr) (r s : List ℤ) → encode_int a ++ r ≡ encode_int b ++ s → (a ≡ b) × (r ≡ s)
int_front a b r s e =
    let n = length (encode_int a) + length (encode_int b) in
    fronts (back_int n) a b (encode_int a) (encode_int b) r s (int_back a n (omega arith)) (int_back b n (omega arith)) e

pub bool_front : (a b : BoolExpr) (r s : List ℤ) → encode_bool a ++ r ≡ encode_bool b ++ s → (a ≡ b) × (r ≡ s)
bool_front a b r s e =
    let n = length (encode_bool a) + length (encode_bool b) in
    fronts (back_bool n) a b (encode_bool a) (encode_bool b) r s (bool_back a n (omega arith)) (bool_back b n (omega arith)) e

has_split : (ws : List ℤ) (at : ℕ) (us : List ℤ) → Has ws at us → drop at ws ≡ us ++ drop (length us) (drop at ws)
has_split ws at us h = sym (take-append-drop (length us) (drop at ws)) ∙ ap (λ (l : List ℤ). l ++ drop (length us) (drop at ws)) h

-- standing at one place
pub int_unique : (ws : List ℤ) (at : ℕ) (a b : IntExpr) → Has ws at (encode_int a) → Has ws at (encode_int b) → a ≡ b
int_unique ws at a b h k =
    (int_front a b (drop (length (encode_int a)) (drop at ws)) (drop (length (encode_int b)) (drop at ws)) (sym (has_split ws at (encode_int a) h) ∙ has_split ws at (encode_int b) k)).0

pub bool_unique : (ws : List ℤ) (at : ℕ) (a b : BoolExpr) → Has ws at (encode_bool a) → Has ws at (encode_bool b) → a ≡ b
bool_unique ws at a b h k =
    (bool_front a b (drop (length (encode_bool a)) (drop at ws)) (drop (length (encode_bool b)) (drop at ws)) (sym (has_split ws at (encode_bool a) h) ∙ has_split ws at (encode_bool b) k)).0

pub int_unique_words : (a b : IntExpr) → encode_int a ≡ encode_int b → a ≡ b
int_unique_words a b e = (int_front a b [] [] (ap (λ (us : List ℤ). us ++ []) e)).0
