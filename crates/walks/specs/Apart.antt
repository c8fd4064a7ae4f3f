-- Two Ifs whose words stand in one list stand three words apart at least, and no integer expression stands right behind an If's first word:
-- so the cells behind an If's place are its own.
use Rattle.std.specs.Prelude.{◌≡◌, refl, Bool, true, false, ℕ, ◌+◌, ◌≤◌, ◌<◌, leb, eqb, ℤ, pos, negsuc, length, get_or}
use Rattle.std.proofs.Common.{sym, ap, ◌∙◌, arith, eqb-true, length-append}
use mathlib.Core.List.{List, [], ◌∷◌, ◌++◌}
use Rattle.std.proofs.lemmas.Bool.{eqb-false}
use Rattle.laws.specs.Bools.{never}
use Rattle.laws.specs.Slices.{Has, has_front, has_back, has_rest, has_word}
use Rattle.syntax.specs.Syntax.{IfIsRead, CmpOp, Eq, Ne, Le, Lt, Ge, Gt, IntExpr, IConst, IVar, Linear, If, BoolExpr, Const, Var, NVar, And, Or, Not, Xor, Iff, Imp, Cmp, Members, mnil, more, count_members, encode_op, encode_bit, encode_int, encode_bool, encode_members}
use Rattle.syntax.specs.Written.{EveryIntOf, EveryOf}
use Rattle.syntax.specs.Unique.{bool_unique}
use Rattle.syntax.specs.Lengths.{int_long}
use Rattle.walks.specs.Plain.{Plain, PlainInt}

-- ---- the parts of an If

pub record IfParts (ws : List ℤ) (at : ℕ) (c : BoolExpr) (t f : IntExpr) : Type 0 where
  pub word : get_or ws at (pos 0) ≡ pos 23
  pub condition : Has ws (at + 1) (encode_bool c)
  pub yes_branch : Has ws (at + 1 + length (encode_bool c)) (encode_int t)
  pub no_branch : Has ws (at + 1 + length (encode_bool c) + length (encode_int t)) (encode_int f)

pub if_parts : (ws : List ℤ) (at : ℕ) (i : IfIsRead) (c : BoolExpr) (t f : IntExpr) → Has ws at (encode_int (If i c t f)) → IfParts ws at c t f
unfolding encode_int
if_parts ws at i c t f h =
    let r = has_rest ws at (pos 23) (encode_bool c ++ (encode_int t ++ encode_int f)) h in
    let b = has_back ws (at + 1) (encode_bool c) (encode_int t ++ encode_int f) r in
    record {
      word = has_word ws at _ _ (pos 0) h;
      condition = has_front ws (at + 1) (encode_bool c) (encode_int t ++ encode_int f) r;
      yes_branch = has_front ws (at + 1 + length (encode_bool c)) (encode_int t) (encode_int f) b;
      no_branch = has_back ws (at + 1 + length (encode_bool c)) (encode_int t) (encode_int f) b;
    }

bool_some : (e : BoolExpr) → 1 ≤ length (encode_bool e)
unfolding encode_bool
bool_some (Const b) = omega arith
bool_some (Var v) = omega arith
bool_some (NVar n) = omega arith
bool_some (And ms) = omega arith
bool_some (Or ms) = omega arith
bool_some (Not e) = omega arith
bool_some (Xor a b) = omega arith
bool_some (Iff a b) = omega arith
bool_some (Imp a b) = omega arith
bool_some (Cmp o a b) = omega arith

long_three : (xs ys zs : List ℤ) → 1 ≤ length xs → 2 ≤ length ys → 2 ≤ length zs → 6 ≤ length (pos 23 ∷ xs ++ (ys ++ zs))
long_three xs ys zs h i j = omega (arith, length-append xs (ys ++ zs), length-append ys zs)

-- six words at least: what stands behind an If stands behind its three cells
pub if_long : (i : IfIsRead) (c : BoolExpr) (t f : IntExpr) → 6 ≤ length (encode_int (If i c t f))
unfolding encode_int
if_long i c t f = long_three (encode_bool c) (encode_int t) (encode_int f) (bool_some c) (int_long t) (int_long f)

-- ---- first words

-- whether an integer expression may begin with a word
abbrev is_int : ℤ → Bool
is_int (pos k) = leb 20 k
is_int (negsuc n) = false

abbrev Begins : List ℤ → ℕ → Bool → Type 0
Begins ws at b = is_int (get_or ws at (pos 0)) ≡ b

int_first : (ws : List ℤ) (at : ℕ) (e : IntExpr) → Has ws at (encode_int e) → Begins ws at true
unfolding encode_int
int_first ws at (IConst c) h = ap is_int (has_word ws at _ _ (pos 0) h)
int_first ws at (IVar v) h = ap is_int (has_word ws at _ _ (pos 0) h)
int_first ws at (Linear ts) h = ap is_int (has_word ws at _ _ (pos 0) h)
int_first ws at (If i c t f) h = ap is_int (has_word ws at _ _ (pos 0) h)

bool_first : (ws : List ℤ) (at : ℕ) (e : BoolExpr) → Has ws at (encode_bool e) → Begins ws at false
unfolding encode_bool
bool_first ws at (Const b) h = ap is_int (has_word ws at _ _ (pos 0) h)
bool_first ws at (Var v) h = ap is_int (has_word ws at _ _ (pos 0) h)
bool_first ws at (NVar n) h = ap is_int (has_word ws at _ _ (pos 0) h)
bool_first ws at (And ms) h = ap is_int (has_word ws at _ _ (pos 0) h)
bool_first ws at (Or ms) h = ap is_int (has_word ws at _ _ (pos 0) h)
bool_first ws at (Not e) h = ap is_int (has_word ws at _ _ (pos 0) h)
bool_first ws at (Xor a b) h = ap is_int (has_word ws at _ _ (pos 0) h)
bool_first ws at (Iff a b) h = ap is_int (has_word ws at _ _ (pos 0) h)
bool_first ws at (Imp a b) h = ap is_int (has_word ws at _ _ (pos 0) h)
bool_first ws at (Cmp o a b) h = ap is_int (has_word ws at _ _ (pos 0) h)

clash : {X : Type 0} (ws : List ℤ) (at : ℕ) → Begins ws at true → Begins ws at false → X
clash ws at h k = never (sym k ∙ h)

-- no integer expression right behind an If's first word: a column's root, another If
pub int_apart : {X : Type 0} (ws : List ℤ) (q : ℕ) (i : IfIsRead) (c : BoolExpr) (t f e : IntExpr) → Has ws q (encode_int (If i c t f)) → Has ws (q + 1) (encode_int e) → X
int_apart ws q i c t f e h k = clash ws (q + 1) (int_first ws (q + 1) e k) (bool_first ws (q + 1) c (if_parts ws q i c t f h).condition)

-- ---- two words behind it

bit_word : (b : Bool) → is_int (encode_bit b) ≡ false
bit_word true = refl
bit_word false = refl

op_word : (o : CmpOp) → is_int (encode_op o) ≡ false
op_word Eq = refl
op_word Ne = refl
op_word Le = refl
op_word Lt = refl
op_word Ge = refl
op_word Gt = refl

-- 23 members from q on, and behind 23 an If from q - 1 on: its condition is the first member, and its branch is no member
members_clash : {X : Type 0} (ws : List ℤ) (q : ℕ) (ms : Members) (d : BoolExpr) (x : IntExpr) → count_members ms ≡ 23 → Has ws q (encode_members ms) → Has ws q (encode_bool d) → Has ws (q + length (encode_bool d)) (encode_int x) → X
unfolding encode_members
members_clash ws q mnil d x n h k l = absurd (omega arith)
members_clash ws q (more a mnil) d x n h k l = absurd (omega arith)
members_clash ws q (more a (more b ms)) d x n h k l =
    let e : a ≡ d = bool_unique ws q a d (has_front ws q (encode_bool a) (encode_bool b ++ encode_members ms) h) k in
    let o : Has ws (q + length (encode_bool a)) (encode_bool b) = has_front ws (q + length (encode_bool a)) (encode_bool b) (encode_members ms) (has_back ws q (encode_bool a) (encode_bool b ++ encode_members ms) h) in
    clash ws (q + length (encode_bool d)) (int_first ws (q + length (encode_bool d)) x l) (bool_first ws (q + length (encode_bool d)) b (rw e at o))

three : (q : ℕ) → q + 1 + 2 ≡ q + 1 + 1 + 1
three q = omega arith

-- c from q + 1 on, behind it an integer expression, and an If from q + 2 on
module _ (ws : List ℤ) (q : ℕ) (d : BoolExpr) (x y : IntExpr) (p : IfParts ws (q + 1 + 1) d x y) where
  second : Begins ws (q + 1 + 1) true
  second = ap is_int p.word

  counted_clash : {X : Type 0} (ms : Members) → Has ws (q + 1 + 1) (pos (count_members ms) ∷ encode_members ms) → X
  counted_clash ms h =
      let w : pos (count_members ms) ≡ pos 23 = sym (has_word ws (q + 1 + 1) (pos (count_members ms)) (encode_members ms) (pos 0) h) ∙ p.word in
      let n : count_members ms ≡ 23 = cc in
      members_clash ws (q + 1 + 1 + 1) ms d x n (has_rest ws (q + 1 + 1) (pos (count_members ms)) (encode_members ms) h) p.condition p.yes_branch

  -- a word that begins no integer expression
  word_clash : {X : Type 0} (u : ℤ) (us : List ℤ) → is_int u ≡ false → Has ws (q + 1 + 1) (u ∷ us) → X
  word_clash u us z h = clash ws (q + 1 + 1) second (ap is_int (has_word ws (q + 1 + 1) u us (pos 0) h) ∙ z)

  side_clash : {X : Type 0} (a : BoolExpr) (us : List ℤ) → Has ws (q + 1 + 1) (encode_bool a ++ us) → X
  side_clash a us h = clash ws (q + 1 + 1) second (bool_first ws (q + 1 + 1) a (has_front ws (q + 1 + 1) (encode_bool a) us h))

  condition_clash : {X : Type 0} (c : BoolExpr) (t : IntExpr) → Plain c → Has ws (q + 1) (encode_bool c) → Has ws (q + 1 + length (encode_bool c)) (encode_int t) → X
  unfolding encode_bool EveryOf
  condition_clash (Const b) t pl h k = word_clash (encode_bit b) [] (bit_word b) (has_rest ws (q + 1) _ _ h)
  condition_clash (Var v) t pl h k = clash ws (q + 1 + 2) (int_first ws (q + 1 + 2) t k) (rw (three q) (bool_first ws (q + 1 + 1 + 1) d p.condition))
  condition_clash (NVar n) t pl h k = absurd pl
  condition_clash (And ms) t pl h k = counted_clash ms (has_rest ws (q + 1) _ _ h)
  condition_clash (Or ms) t pl h k = counted_clash ms (has_rest ws (q + 1) _ _ h)
  condition_clash (Not e) t pl h k = clash ws (q + 1 + 1) second (bool_first ws (q + 1 + 1) e (has_rest ws (q + 1) _ _ h))
  condition_clash (Xor a b) t pl h k = side_clash a (encode_bool b) (has_rest ws (q + 1) _ _ h)
  condition_clash (Iff a b) t pl h k = side_clash a (encode_bool b) (has_rest ws (q + 1) _ _ h)
  condition_clash (Imp a b) t pl h k = side_clash a (encode_bool b) (has_rest ws (q + 1) _ _ h)
  condition_clash (Cmp o a b) t pl h k = word_clash (encode_op o) _ (op_word o) (has_rest ws (q + 1) _ _ h)

-- ---- three words apart

pub ifs_apart : (ws : List ℤ) (q p : ℕ) (i : IfIsRead) (c : BoolExpr) (t f : IntExpr) (j : IfIsRead) (d : BoolExpr) (x y : IntExpr)
    → Has ws q (encode_int (If i c t f)) → Has ws p (encode_int (If j d x y)) → PlainInt (If i c t f) → q < p → q + 3 ≤ p
unfolding EveryIntOf
ifs_apart ws q p i c t f j d x y h k pl l = go (eqb p (q + 1)) refl (eqb p (q + 1 + 1)) refl
  where
    go : (a : Bool) → eqb p (q + 1) ≡ a → (b : Bool) → eqb p (q + 1 + 1) ≡ b → q + 3 ≤ p
    go true e b g = let z : p ≡ q + 1 = eqb-true p (q + 1) e in int_apart ws q i c t f (If j d x y) h (rw z at k)
    go false e true g =
        let z : p ≡ q + 1 + 1 = eqb-true p (q + 1 + 1) g in
        let m : Has ws (q + 1 + 1) (encode_int (If j d x y)) = rw z at k in
        let o = if_parts ws q i c t f h in
        condition_clash ws q d x y (if_parts ws (q + 1 + 1) j d x y m) c t pl.0 o.condition o.yes_branch
    go false e false g = omega (arith, eqb-false p (q + 1) e, eqb-false p (q + 1 + 1) g)
