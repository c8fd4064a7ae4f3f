-- Expressions by their first two words: And and Or as one form, named by the value that settles it, and Xor, Iff, Imp as another.
-- `Declared`: every variable is below the counts, and no emitted number stands in the expression.
use Rattle.std.specs.Prelude.{ℕ, ◌+◌, ◌≤◌, ◌<◌, ◌≡◌, refl, Bool, true, false, not, cond, List, ◌∷◌, ◌++◌, pos, length}
use Rattle.std.proofs.Common.{arith, length-append}
use Rattle.syntax.specs.Syntax.{Domain, CmpOp, Eq, Ne, Le, Lt, Ge, Gt, encode_op, IntExpr, Terms, BoolExpr, Const, Var, NVar, And, Or, Not, Xor, Iff, Imp, Cmp, Members, mnil, more, count_members, encode_bool, encode_members, encode_bit}
use Rattle.syntax.specs.Written.{EveryIntOf, EveryTermOf, EveryOf, EveryMemberOf, None}
use Rattle.fold.specs.Fold.{Fixed, Op, op_xor, op_iff, op_imp, expr_of, fold_binary, has_const, kept, join_and, join_or, fold_and, fold_or, constant_folding_bool, constant_folding_members}
use Rattle.fold.specs.Table.{op_num, bit}

-- ---- And and Or

abbrev pub list_of : Bool → Members → BoolExpr
list_of false = And
list_of true = Or

abbrev pub join : Bool → Members → BoolExpr
join b mnil = Const (not b)
join b (more e mnil) = e
join b (more e (more f ms)) = list_of b (more e (more f ms))

unfoldable pub fold_list : Bool → Members → BoolExpr
fold_list b ms = cond (has_const b ms) (Const b) (join b (kept ms))

join_is_and : (ms : Members) → join false ms ≡ join_and ms
join_is_and mnil = refl
join_is_and (more e mnil) = refl
join_is_and (more e (more f ms)) = refl

join_is_or : (ms : Members) → join true ms ≡ join_or ms
join_is_or mnil = refl
join_is_or (more e mnil) = refl
join_is_or (more e (more f ms)) = refl

pub list_folding : (ds : List Domain) (f : Fixed) (b : Bool) (ms : Members) → constant_folding_bool ds f (list_of b ms) ≡ fold_list b (constant_folding_members ds f ms)
unfolding constant_folding_bool fold_list fold_and fold_or
list_folding ds f false ms = rw (join_is_and (kept (constant_folding_members ds f ms)))
list_folding ds f true ms = rw (join_is_or (kept (constant_folding_members ds f ms)))

pub binary_folding : (ds : List Domain) (f : Fixed) (o : Op) (a b : BoolExpr) → constant_folding_bool ds f (expr_of o a b) ≡ fold_binary o (constant_folding_bool ds f a) (constant_folding_bool ds f b)
unfolding constant_folding_bool
binary_folding ds f op_xor a b = refl
binary_folding ds f op_iff a b = refl
binary_folding ds f op_imp a b = refl

-- ---- the words

pub bit_word : (b : Bool) → encode_bit b ≡ pos (bit b)
bit_word false = refl
bit_word true = refl

pub list_words : (b : Bool) (ms : Members) → encode_bool (list_of b ms) ≡ pos (12 + bit b) ∷ pos (count_members ms) ∷ encode_members ms
unfolding encode_bool
list_words false ms = refl
list_words true ms = refl

pub binary_words : (o : Op) (a b : BoolExpr) → encode_bool (expr_of o a b) ≡ pos (15 + op_num o) ∷ encode_bool a ++ encode_bool b
unfolding encode_bool
binary_words op_xor a b = refl
binary_words op_iff a b = refl
binary_words op_imp a b = refl

abbrev pub op_word : CmpOp → ℕ
op_word Eq = 0
op_word Ne = 1
op_word Le = 2
op_word Lt = 3
op_word Ge = 4
op_word Gt = 5

pub op_word_is : (o : CmpOp) → encode_op o ≡ pos (op_word o)
op_word_is Eq = refl
op_word_is Ne = refl
op_word_is Le = refl
op_word_is Lt = refl
op_word_is Ge = refl
op_word_is Gt = refl

-- ---- declared

abbrev pub IntIsDeclared : ℕ → ℕ → IntExpr → Type 0
IntIsDeclared nb ni e = EveryIntOf None (λ v. v < nb) (λ v. v < ni) e

abbrev pub DeclaredTerms : ℕ → ℕ → Terms → Type 0
DeclaredTerms nb ni ts = EveryTermOf None (λ v. v < nb) (λ v. v < ni) ts

abbrev pub Declared : ℕ → ℕ → BoolExpr → Type 0
Declared nb ni e = EveryOf None (λ v. v < nb) (λ v. v < ni) e

abbrev pub DeclaredMembers : ℕ → ℕ → Members → Type 0
DeclaredMembers nb ni ms = EveryMemberOf None (λ v. v < nb) (λ v. v < ni) ms

pub declared_list : (nb ni : ℕ) (b : Bool) (ms : Members) → Declared nb ni (list_of b ms) → DeclaredMembers nb ni ms
unfolding EveryOf
declared_list nb ni false ms h = h
declared_list nb ni true ms h = h

pub declared_binary : (nb ni : ℕ) (o : Op) (a b : BoolExpr) → Declared nb ni (expr_of o a b) → Declared nb ni a × Declared nb ni b
unfolding EveryOf
declared_binary nb ni op_xor a b h = h
declared_binary nb ni op_iff a b h = h
declared_binary nb ni op_imp a b h = h

-- ---- lengths

mutual
  unfolding encode_bool EveryOf

  pub bool_long : (nb ni : ℕ) (e : BoolExpr) → Declared nb ni e → 2 ≤ length (encode_bool e)
  bool_long nb ni (Const b) h = omega arith
  bool_long nb ni (Var v) h = omega arith
  bool_long nb ni (NVar n) h = absurd h
  bool_long nb ni (And ms) h = omega arith
  bool_long nb ni (Or ms) h = omega arith
  bool_long nb ni (Not e) h = omega (arith, bool_long nb ni e h)
  bool_long nb ni (Xor a b) h = omega (arith, bool_long nb ni a h.0, length-append (encode_bool a) (encode_bool b))
  bool_long nb ni (Iff a b) h = omega (arith, bool_long nb ni a h.0, length-append (encode_bool a) (encode_bool b))
  bool_long nb ni (Imp a b) h = omega (arith, bool_long nb ni a h.0, length-append (encode_bool a) (encode_bool b))
  bool_long nb ni (Cmp o a b) h = omega arith

  pub members_long : (nb ni : ℕ) (ms : Members) → DeclaredMembers nb ni ms → count_members ms ≤ length (encode_members ms)
  members_long nb ni mnil h = omega arith
  members_long nb ni (more e ms) h = omega (arith, bool_long nb ni e h.0, members_long nb ni ms h.1, length-append (encode_bool e) (encode_members ms))
