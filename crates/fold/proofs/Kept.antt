-- What folding keeps: it writes no variable that was not written, no more words, and no deeper levels. Assumes nothing.
use Rattle.std.specs.Prelude.{◌≡◌, refl, Bool, cond, ℕ, suc, ◌+◌, ◌≤◌, max, ℤ, pos, length}
use Rattle.std.proofs.Common.{ap, arith}
use Rattle.std.proofs.Math.Bool.{true, false}
use Rattle.std.proofs.Math.Option.{Option, none, some}
use mathlib.Core.List.{List, [], ◌∷◌, ◌++◌, map}
use Rattle.std.proofs.Math.ListN.{length-append}
use Rattle.laws.specs.Ints.{eqZ}
use Rattle.laws.specs.Lists.{flat}
use Rattle.syntax.specs.Syntax.{Domain, as_constant, domain_of, IfIsRead, IntExpr, IConst, IVar, Linear, If, Terms, tnil, tmore, BoolExpr, Const, Var, NVar, And, Or, Not, Xor, Iff, Imp, Cmp, Members, mnil, more, Stmt, Rule, Table, AllDifferent, encode_int, encode_terms, encode_bool, encode_members, encode_cell, encode_stmt}
use Rattle.syntax.specs.Written.{EveryStmt, EveryStmts, EveryOf, EveryMemberOf, Any, EveryIntOf, EveryColumnOf, EveryTermOf}
use Rattle.syntax.specs.Depth.{depth_int, depth_terms, depth, depth_members}
use Rattle.fold.specs.Fold.{Fixed, is_const, Op, op_xor, op_iff, op_imp, Action, be_false, be_true, left, not_left, right, not_right, keep, action, act, fold_binary, has_const, keep_member, kept, join_and, join_or, fold_and, fold_or, not_of, fold_not, fold_var, fold_int_var, fold_sum, fold_if, constant_folding_int as fold-int, constant_folding_terms as fold-terms, constant_folding_bool as fold, constant_folding_members as fold-members, constant_folding_stmt as fold-stmt}
use Rattle.fold.proofs.Refold.{const_or}
use Rattle.fold.proofs.Forms.{join, fold_list, list_folding, list_words}

-- ---- variables

module _ (N P Q : ℕ → Type 0) where
  int_var_every : (k : Option ℤ) (v : ℕ) → Q v → EveryIntOf N P Q (fold_int_var k v)
  unfolding EveryIntOf
  int_var_every none v h = h
  int_var_every (some c) v h = tt

  pub sum_every : (ts : Terms) → EveryTermOf N P Q ts → EveryIntOf N P Q (fold_sum ts)
  unfolding EveryIntOf
  sum_every tnil h = tt
  sum_every (tmore k e tnil) h = go (eqZ k (pos 1))
    where
      go : (t : Bool) → EveryIntOf N P Q (cond t e (Linear (tmore k e tnil)))
      go true = h.0
      go false = h
  sum_every (tmore k e (tmore l g ts)) h = h

  if_every : (k : Option Bool) (i : IfIsRead) (c : BoolExpr) (t e : IntExpr) → EveryOf N P Q c → EveryIntOf N P Q t → EveryIntOf N P Q e → EveryIntOf N P Q (fold_if k i c t e)
  unfolding EveryIntOf
  if_every none i c t e h g j = (h, (g, j))
  if_every (some true) i c t e h g j = g
  if_every (some false) i c t e h g j = j

  act_every : (k : Action) (o : Op) (a b : BoolExpr) → EveryOf N P Q a → EveryOf N P Q b → EveryOf N P Q (act k o a b)
  unfolding EveryOf
  act_every be_false o a b h g = tt
  act_every be_true o a b h g = tt
  act_every left o a b h g = h
  act_every not_left o a b h g = h
  act_every right o a b h g = g
  act_every not_right o a b h g = g
  act_every keep op_xor a b h g = (h, g)
  act_every keep op_iff a b h g = (h, g)
  act_every keep op_imp a b h g = (h, g)

  pub binary_every : (o : Op) (a b : BoolExpr) → EveryOf N P Q a → EveryOf N P Q b → EveryOf N P Q (fold_binary o a b)
  unfolding fold_binary
  binary_every o a b h g = act_every (action o (is_const a) (is_const b)) o a b h g

  keep_every : (k : Option Bool) (e : BoolExpr) (ms : Members) → EveryOf N P Q e → EveryMemberOf N P Q ms → EveryMemberOf N P Q (keep_member k e ms)
  unfolding EveryOf
  keep_every none e ms h g = (h, g)
  keep_every (some b) e ms h g = g

  kept_every : (ms : Members) → EveryMemberOf N P Q ms → EveryMemberOf N P Q (kept ms)
  unfolding kept EveryOf
  kept_every mnil h = tt
  kept_every (more e ms) h = keep_every (is_const e) e (kept ms) h.0 (kept_every ms h.1)

  join_and_every : (ms : Members) → EveryMemberOf N P Q ms → EveryOf N P Q (join_and ms)
  unfolding EveryOf
  join_and_every mnil h = tt
  join_and_every (more e mnil) h = h.0
  join_and_every (more e (more e' ms)) h = h

  join_or_every : (ms : Members) → EveryMemberOf N P Q ms → EveryOf N P Q (join_or ms)
  unfolding EveryOf
  join_or_every mnil h = tt
  join_or_every (more e mnil) h = h.0
  join_or_every (more e (more e' ms)) h = h

  pub and_every : (ms : Members) → EveryMemberOf N P Q ms → EveryOf N P Q (fold_and ms)
  unfolding fold_and EveryOf
  and_every ms h = go (has_const false ms)
    where
      go : (t : Bool) → EveryOf N P Q (cond t (Const false) (join_and (kept ms)))
      go true = tt
      go false = join_and_every (kept ms) (kept_every ms h)

  pub or_every : (ms : Members) → EveryMemberOf N P Q ms → EveryOf N P Q (fold_or ms)
  unfolding fold_or EveryOf
  or_every ms h = go (has_const true ms)
    where
      go : (t : Bool) → EveryOf N P Q (cond t (Const true) (join_or (kept ms)))
      go true = tt
      go false = join_or_every (kept ms) (kept_every ms h)

  pub not_every : (k : Option Bool) (e : BoolExpr) → EveryOf N P Q e → EveryOf N P Q (not_of k e)
  unfolding EveryOf
  not_every none e h = h
  not_every (some b) e h = tt

  var_every : (k : Option Bool) (v : ℕ) → P v → EveryOf N P Q (fold_var k v)
  unfolding EveryOf
  var_every none v h = h
  var_every (some b) v h = tt

  module _ (ds : List Domain) (f : Fixed) where
    mutual
      unfolding EveryOf fold fold_not

      pub fold_int_every : (e : IntExpr) → EveryIntOf N P Q e → EveryIntOf N P Q (fold-int ds f e)
      fold_int_every (IConst c) h = tt
      fold_int_every (IVar v) h = int_var_every (as_constant (domain_of ds v)) v h
      fold_int_every (Linear ts) h = sum_every (fold-terms ds f ts) (fold_terms_every ts h)
      fold_int_every (If i c t e) h = if_every (is_const (fold ds f c)) i (fold ds f c) (fold-int ds f t) (fold-int ds f e) (fold_every c h.0) (fold_int_every t h.1.0) (fold_int_every e h.1.1)

      pub fold_terms_every : (ts : Terms) → EveryTermOf N P Q ts → EveryTermOf N P Q (fold-terms ds f ts)
      fold_terms_every tnil h = tt
      fold_terms_every (tmore k e ts) h = (fold_int_every e h.0, fold_terms_every ts h.1)

      pub fold_every : (e : BoolExpr) → EveryOf N P Q e → EveryOf N P Q (fold ds f e)
      fold_every (Const b) h = tt
      fold_every (Var v) h = var_every (f v) v h
      fold_every (NVar n) h = h
      fold_every (And ms) h = and_every (fold-members ds f ms) (fold_members_every ms h)
      fold_every (Or ms) h = or_every (fold-members ds f ms) (fold_members_every ms h)
      fold_every (Not e) h = not_every (is_const (fold ds f e)) (fold ds f e) (fold_every e h)
      fold_every (Xor a b) h = binary_every op_xor (fold ds f a) (fold ds f b) (fold_every a h.0) (fold_every b h.1)
      fold_every (Iff a b) h = binary_every op_iff (fold ds f a) (fold ds f b) (fold_every a h.0) (fold_every b h.1)
      fold_every (Imp a b) h = binary_every op_imp (fold ds f a) (fold ds f b) (fold_every a h.0) (fold_every b h.1)
      fold_every (Cmp o a b) h = (fold_int_every a h.0, fold_int_every b h.1)

      pub fold_members_every : (ms : Members) → EveryMemberOf N P Q ms → EveryMemberOf N P Q (fold-members ds f ms)
      fold_members_every mnil h = tt
      fold_members_every (more e ms) h = (fold_every e h.0, fold_members_every ms h.1)

    pub fold_columns_every : (es : List IntExpr) → EveryColumnOf N P Q es → EveryColumnOf N P Q (map (fold-int ds f) es)
    unfolding EveryColumnOf
    fold_columns_every [] h = tt
    fold_columns_every (e ∷ es) h = (fold_int_every e h.0, fold_columns_every es h.1)

module _ (P Q : ℕ → Type 0) where
  module _ (ds : List Domain) (f : Fixed) where
    pub fold_stmt_every : (s : Stmt) → EveryStmt P Q s → EveryStmt P Q (fold-stmt ds f s)
    unfolding EveryStmt fold-stmt
    fold_stmt_every (Rule e) h = fold_every Any P Q ds f e h
    fold_stmt_every (Table es rows) h = fold_columns_every Any P Q ds f es h
    fold_stmt_every (AllDifferent es) h = fold_columns_every Any P Q ds f es h

    pub fold_stmts_every : (ss : List Stmt) → EveryStmts P Q ss → EveryStmts P Q (map (fold-stmt ds f) ss)
    unfolding EveryStmts
    fold_stmts_every [] h = tt
    fold_stmts_every (s ∷ ss) h = (fold_stmt_every s h.0, fold_stmts_every ss h.1)

-- ---- words

int_var_size : (k : Option ℤ) (v : ℕ) → length (encode_int (fold_int_var k v)) ≤ 2
unfolding encode_int
int_var_size none v = omega arith
int_var_size (some c) v = omega arith

sum_size : (ts : Terms) → length (encode_int (fold_sum ts)) ≤ 2 + length (encode_terms ts)
unfolding encode_int
sum_size tnil = omega arith
sum_size (tmore k e tnil) = go (eqZ k (pos 1))
  where
    go : (t : Bool) → length (encode_int (cond t e (Linear (tmore k e tnil)))) ≤ 2 + length (encode_terms (tmore k e tnil))
    go true = omega (arith, length-append (encode_int e) [])
    go false = omega arith
sum_size (tmore k e (tmore l g ts)) = omega arith

pub if_length : (i : IfIsRead) (c : BoolExpr) (t e : IntExpr) → length (encode_int (If i c t e)) ≡ suc (length (encode_bool c) + (length (encode_int t) + length (encode_int e)))
unfolding encode_int
if_length i c t e = omega (arith, length-append (encode_bool c) (encode_int t ++ encode_int e), length-append (encode_int t) (encode_int e))

if_size : (k : Option Bool) (i : IfIsRead) (c : BoolExpr) (t e : IntExpr) → length (encode_int (fold_if k i c t e)) ≤ suc (length (encode_bool c) + (length (encode_int t) + length (encode_int e)))
if_size none i c t e = omega (arith, if_length i c t e)
if_size (some true) i c t e = omega arith
if_size (some false) i c t e = omega arith

keep_size : (k : Option Bool) (e : BoolExpr) (ms : Members) → length (encode_members (keep_member k e ms)) ≤ length (encode_bool e) + length (encode_members ms)
unfolding encode_bool
keep_size none e ms = omega (arith, length-append (encode_bool e) (encode_members ms))
keep_size (some b) e ms = omega arith

pub kept_size : (ms : Members) → length (encode_members (kept ms)) ≤ length (encode_members ms)
unfolding kept encode_bool
kept_size mnil = omega arith
kept_size (more e ms) = omega (arith, keep_size (is_const e) e (kept ms), kept_size ms, length-append (encode_bool e) (encode_members ms))

join_size : (b : Bool) (ms : Members) → length (encode_bool (join b ms)) ≤ 2 + length (encode_members ms)
unfolding encode_bool
join_size b mnil = omega arith
join_size b (more e mnil) = omega (arith, length-append (encode_bool e) [])
join_size b (more e (more f ms)) = omega (arith, ap length (list_words b (more e (more f ms))))

pub fold_list_size : (b : Bool) (ms : Members) → length (encode_bool (fold_list b ms)) ≤ 2 + length (encode_members ms)
unfolding fold_list encode_bool
fold_list_size b ms = go (has_const b ms)
  where
    go : (c : Bool) → length (encode_bool (cond c (Const b) (join b (kept ms)))) ≤ 2 + length (encode_members ms)
    go true = omega arith
    go false = omega (arith, join_size b (kept ms), kept_size ms)

pub not_size : (e : BoolExpr) → length (encode_bool (not_of (is_const e) e)) ≤ suc (length (encode_bool e))
unfolding encode_bool
not_size e = const_or e (λ b q. rw q (omega arith)) (λ q. rw q (omega arith))

-- a constant has two words, and stands for two sides only where one of them is a constant
act_size : (k : Action) (o : Op) (a b : BoolExpr) → 1 ≤ length (encode_bool a) + length (encode_bool b) → length (encode_bool (act k o a b)) ≤ suc (length (encode_bool a) + length (encode_bool b))
unfolding encode_bool
act_size be_false o a b h = omega arith
act_size be_true o a b h = omega arith
act_size left o a b h = omega arith
act_size not_left o a b h = omega arith
act_size right o a b h = omega arith
act_size not_right o a b h = omega arith
act_size keep op_xor a b h = omega (arith, length-append (encode_bool a) (encode_bool b))
act_size keep op_iff a b h = omega (arith, length-append (encode_bool a) (encode_bool b))
act_size keep op_imp a b h = omega (arith, length-append (encode_bool a) (encode_bool b))

unknown_size : (o : Op) (a b : BoolExpr) → length (encode_bool (act (action o none none) o a b)) ≤ suc (length (encode_bool a) + length (encode_bool b))
unfolding encode_bool
unknown_size op_xor a b = omega (arith, length-append (encode_bool a) (encode_bool b))
unknown_size op_iff a b = omega (arith, length-append (encode_bool a) (encode_bool b))
unknown_size op_imp a b = omega (arith, length-append (encode_bool a) (encode_bool b))

const_size : (e : BoolExpr) (b : Bool) → e ≡ Const b → length (encode_bool e) ≡ 2
unfolding encode_bool
const_size e b h = rw h refl

pub binary_size : (o : Op) (a b : BoolExpr) → length (encode_bool (fold_binary o a b)) ≤ suc (length (encode_bool a) + length (encode_bool b))
unfolding fold_binary
binary_size o a b = const_or a (λ c q. at (omega (arith, const_size a c q))) (λ p. const_or b (λ d q. at (omega (arith, const_size b d q))) (λ q. rw (p, q) (unknown_size o a b)))
  where
    at : 1 ≤ length (encode_bool a) + length (encode_bool b) → length (encode_bool (act (action o (is_const a) (is_const b)) o a b)) ≤ suc (length (encode_bool a) + length (encode_bool b))
    at h = act_size (action o (is_const a) (is_const b)) o a b h

var_size : (k : Option Bool) (v : ℕ) → length (encode_bool (fold_var k v)) ≤ 2
unfolding encode_bool
var_size none v = omega arith
var_size (some b) v = omega arith

module _ (ds : List Domain) (f : Fixed) where
  mutual
    unfolding encode_bool fold fold_not

    pub fold_int_size : (e : IntExpr) → length (encode_int (fold-int ds f e)) ≤ length (encode_int e)
    fold_int_size (IConst c) = omega arith
    fold_int_size (IVar v) = omega (arith, int_var_size (as_constant (domain_of ds v)) v)
    fold_int_size (Linear ts) = omega (arith, sum_size (fold-terms ds f ts), fold_terms_size ts)
    fold_int_size (If i c t e) = omega (arith, if_size (is_const (fold ds f c)) i (fold ds f c) (fold-int ds f t) (fold-int ds f e), if_length i c t e, fold_size c, fold_int_size t, fold_int_size e)

    pub fold_terms_size : (ts : Terms) → length (encode_terms (fold-terms ds f ts)) ≤ length (encode_terms ts)
    fold_terms_size tnil = omega arith
    fold_terms_size (tmore k e ts) = omega (arith, fold_int_size e, fold_terms_size ts, length-append (encode_int e) (encode_terms ts), length-append (encode_int (fold-int ds f e)) (encode_terms (fold-terms ds f ts)))

    pub fold_size : (e : BoolExpr) → length (encode_bool (fold ds f e)) ≤ length (encode_bool e)
    fold_size (Const b) = omega arith
    fold_size (Var v) = omega (arith, var_size (f v) v)
    fold_size (NVar n) = omega arith
    fold_size (And ms) = rw (list_folding ds f false ms) (omega (arith, fold_list_size false (fold-members ds f ms), fold_members_size ms))
    fold_size (Or ms) = rw (list_folding ds f true ms) (omega (arith, fold_list_size true (fold-members ds f ms), fold_members_size ms))
    fold_size (Not e) = omega (arith, not_size (fold ds f e), fold_size e)
    fold_size (Xor a b) = omega (arith, binary_size op_xor (fold ds f a) (fold ds f b), fold_size a, fold_size b, length-append (encode_bool a) (encode_bool b))
    fold_size (Iff a b) = omega (arith, binary_size op_iff (fold ds f a) (fold ds f b), fold_size a, fold_size b, length-append (encode_bool a) (encode_bool b))
    fold_size (Imp a b) = omega (arith, binary_size op_imp (fold ds f a) (fold ds f b), fold_size a, fold_size b, length-append (encode_bool a) (encode_bool b))
    fold_size (Cmp o a b) = omega (arith, fold_int_size a, fold_int_size b, length-append (encode_int a) (encode_int b), length-append (encode_int (fold-int ds f a)) (encode_int (fold-int ds f b)))

    pub fold_members_size : (ms : Members) → length (encode_members (fold-members ds f ms)) ≤ length (encode_members ms)
    fold_members_size mnil = omega arith
    fold_members_size (more e ms) = omega (arith, fold_size e, fold_members_size ms, length-append (encode_bool e) (encode_members ms), length-append (encode_bool (fold ds f e)) (encode_members (fold-members ds f ms)))

  pub fold_columns_size : (es : List IntExpr) → length (flat (map encode_int (map (fold-int ds f) es))) ≤ length (flat (map encode_int es))
  fold_columns_size [] = omega arith
  fold_columns_size (e ∷ es) = omega (arith, fold_int_size e, fold_columns_size es, length-append (encode_int e) (flat (map encode_int es)), length-append (encode_int (fold-int ds f e)) (flat (map encode_int (map (fold-int ds f) es))))

  pub fold_stmt_size : (s : Stmt) → length (encode_stmt (fold-stmt ds f s)) ≤ length (encode_stmt s)
  unfolding encode_stmt fold-stmt
  fold_stmt_size (Rule e) = omega (arith, fold_size e)
  fold_stmt_size (Table es rows) = omega (arith, fold_columns_size es, length-append (flat (map encode_int es)) (flat (map (map encode_cell) rows)), length-append (flat (map encode_int (map (fold-int ds f) es))) (flat (map (map encode_cell) rows)))
  fold_stmt_size (AllDifferent es) = omega (arith, fold_columns_size es)

  pub fold_stmts_size : (ss : List Stmt) → length (flat (map encode_stmt (map (fold-stmt ds f) ss))) ≤ length (flat (map encode_stmt ss))
  fold_stmts_size [] = omega arith
  fold_stmts_size (s ∷ ss) = omega (arith, fold_stmt_size s, fold_stmts_size ss, length-append (encode_stmt s) (flat (map encode_stmt ss)), length-append (encode_stmt (fold-stmt ds f s)) (flat (map encode_stmt (map (fold-stmt ds f) ss))))

-- ---- levels

int_var_depth : (k : Option ℤ) (v : ℕ) → depth_int (fold_int_var k v) ≤ 1
unfolding depth_int
int_var_depth none v = omega arith
int_var_depth (some c) v = omega arith

sum_depth : (ts : Terms) → depth_int (fold_sum ts) ≤ suc (depth_terms ts)
unfolding depth_int
sum_depth tnil = omega arith
sum_depth (tmore k e tnil) = go (eqZ k (pos 1))
  where
    go : (t : Bool) → depth_int (cond t e (Linear (tmore k e tnil))) ≤ suc (depth_terms (tmore k e tnil))
    go true = omega arith
    go false = omega arith
sum_depth (tmore k e (tmore l g ts)) = omega arith

if_depth : (k : Option Bool) (i : IfIsRead) (c : BoolExpr) (t e : IntExpr) → depth_int (fold_if k i c t e) ≤ depth_int (If i c t e)
unfolding depth_int
if_depth none i c t e = omega arith
if_depth (some true) i c t e = omega arith
if_depth (some false) i c t e = omega arith

keep_depth : (k : Option Bool) (e : BoolExpr) (ms : Members) → depth_members (keep_member k e ms) ≤ max (depth e) (depth_members ms)
unfolding depth
keep_depth none e ms = omega arith
keep_depth (some b) e ms = omega arith

kept_depth : (ms : Members) → depth_members (kept ms) ≤ depth_members ms
unfolding kept depth
kept_depth mnil = omega arith
kept_depth (more e ms) = omega (arith, keep_depth (is_const e) e (kept ms), kept_depth ms)

join_and_depth : (ms : Members) → depth (join_and ms) ≤ suc (depth_members ms)
unfolding depth
join_and_depth mnil = omega arith
join_and_depth (more e mnil) = omega arith
join_and_depth (more e (more e' ms)) = omega arith

join_or_depth : (ms : Members) → depth (join_or ms) ≤ suc (depth_members ms)
unfolding depth
join_or_depth mnil = omega arith
join_or_depth (more e mnil) = omega arith
join_or_depth (more e (more e' ms)) = omega arith

and_depth : (ms : Members) → depth (fold_and ms) ≤ suc (depth_members ms)
unfolding fold_and depth
and_depth ms = go (has_const false ms)
  where
    go : (t : Bool) → depth (cond t (Const false) (join_and (kept ms))) ≤ suc (depth_members ms)
    go true = omega arith
    go false = omega (arith, join_and_depth (kept ms), kept_depth ms)

or_depth : (ms : Members) → depth (fold_or ms) ≤ suc (depth_members ms)
unfolding fold_or depth
or_depth ms = go (has_const true ms)
  where
    go : (t : Bool) → depth (cond t (Const true) (join_or (kept ms))) ≤ suc (depth_members ms)
    go true = omega arith
    go false = omega (arith, join_or_depth (kept ms), kept_depth ms)

not_depth : (k : Option Bool) (e : BoolExpr) → depth (not_of k e) ≤ suc (depth e)
unfolding depth
not_depth none e = omega arith
not_depth (some b) e = omega arith

act_depth : (k : Action) (o : Op) (a b : BoolExpr) → depth (act k o a b) ≤ suc (max (depth a) (depth b))
unfolding depth
act_depth be_false o a b = omega arith
act_depth be_true o a b = omega arith
act_depth left o a b = omega arith
act_depth not_left o a b = omega arith
act_depth right o a b = omega arith
act_depth not_right o a b = omega arith
act_depth keep op_xor a b = omega arith
act_depth keep op_iff a b = omega arith
act_depth keep op_imp a b = omega arith

binary_depth : (o : Op) (a b : BoolExpr) → depth (fold_binary o a b) ≤ suc (max (depth a) (depth b))
unfolding fold_binary
binary_depth o a b = act_depth (action o (is_const a) (is_const b)) o a b

var_depth : (k : Option Bool) (v : ℕ) → depth (fold_var k v) ≤ 1
unfolding depth
var_depth none v = omega arith
var_depth (some b) v = omega arith

module _ (ds : List Domain) (f : Fixed) where
  mutual
    unfolding depth fold fold_not

    pub fold_int_depth : (e : IntExpr) → depth_int (fold-int ds f e) ≤ depth_int e
    fold_int_depth (IConst c) = omega arith
    fold_int_depth (IVar v) = int_var_depth (as_constant (domain_of ds v)) v
    fold_int_depth (Linear ts) = omega (arith, sum_depth (fold-terms ds f ts), fold_terms_depth ts)
    fold_int_depth (If i c t e) = omega (arith, if_depth (is_const (fold ds f c)) i (fold ds f c) (fold-int ds f t) (fold-int ds f e), fold_depth c, fold_int_depth t, fold_int_depth e)

    pub fold_terms_depth : (ts : Terms) → depth_terms (fold-terms ds f ts) ≤ depth_terms ts
    fold_terms_depth tnil = omega arith
    fold_terms_depth (tmore k e ts) = omega (arith, fold_int_depth e, fold_terms_depth ts)

    pub fold_depth : (e : BoolExpr) → depth (fold ds f e) ≤ depth e
    fold_depth (Const b) = omega arith
    fold_depth (Var v) = var_depth (f v) v
    fold_depth (NVar n) = omega arith
    fold_depth (And ms) = omega (arith, and_depth (fold-members ds f ms), fold_members_depth ms)
    fold_depth (Or ms) = omega (arith, or_depth (fold-members ds f ms), fold_members_depth ms)
    fold_depth (Not e) = omega (arith, not_depth (is_const (fold ds f e)) (fold ds f e), fold_depth e)
    fold_depth (Xor a b) = omega (arith, binary_depth op_xor (fold ds f a) (fold ds f b), fold_depth a, fold_depth b)
    fold_depth (Iff a b) = omega (arith, binary_depth op_iff (fold ds f a) (fold ds f b), fold_depth a, fold_depth b)
    fold_depth (Imp a b) = omega (arith, binary_depth op_imp (fold ds f a) (fold ds f b), fold_depth a, fold_depth b)
    fold_depth (Cmp o a b) = omega (arith, fold_int_depth a, fold_int_depth b)

    pub fold_members_depth : (ms : Members) → depth_members (fold-members ds f ms) ≤ depth_members ms
    fold_members_depth mnil = omega arith
    fold_members_depth (more e ms) = omega (arith, fold_depth e, fold_members_depth ms)
