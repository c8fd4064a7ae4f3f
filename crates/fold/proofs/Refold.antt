-- Folding what is folded already, under more fixed values, is folding the original under them. Assumes nothing else.
use Rattle.std.specs.Prelude.{◌≡◌, Bool, ◌||◌, ℕ, ℤ, pos}
use Rattle.std.proofs.Math.Path.{refl, sym, ap}
use Rattle.std.proofs.Common.{◌∙◌}
use Rattle.std.proofs.Math.Bool.{true, false, beq, cond}
use Rattle.std.proofs.Math.Option.{Option, none, some}
use mathlib.Core.List.{List, [], ◌∷◌, map}
use Rattle.laws.specs.Bools.{or_r, or_no_l, or_no_r}
use Rattle.laws.specs.Ints.{eqZ}
use Rattle.syntax.specs.Syntax.{Domain, as_constant, domain_of, IfIsRead, IntExpr, IConst, IVar, Linear, If, Terms, tnil, tmore, BoolExpr, Const, Var, NVar, And, Or, Not, Xor, Iff, Imp, Cmp, Members, mnil, more, Stmt, Rule, Table, AllDifferent}
use Rattle.fold.specs.Fold.{Fixed, is_const, Op, op_xor, op_iff, op_imp, Action, be_false, be_true, left, not_left, right, not_right, keep, action, expr_of, act, fold_binary, is_value, has_const, kept, join_and, join_or, fold_and, fold_or, fold_not, fold_var, fold_int_var, fold_sum, fold_if, constant_folding_int as fold-int, constant_folding_terms as fold-terms, constant_folding_bool as fold, constant_folding_members as fold-members, constant_folding_stmt as fold-stmt}

-- g has every fixed value of f
abbrev pub Extends : Fixed → Fixed → Type 0
Extends f g = (v : ℕ) (b : Bool) → f v ≡ some b → g v ≡ some b

-- an expression is a constant, or is none
pub const_or : {X : Type 0} (e : BoolExpr) → ((b : Bool) → e ≡ Const b → X) → (is_const e ≡ none → X) → X
const_or (Const b) on-const on-other = on-const b refl
const_or (Var v) on-const on-other = on-other refl
const_or (NVar n) on-const on-other = on-other refl
const_or (And ms) on-const on-other = on-other refl
const_or (Or ms) on-const on-other = on-other refl
const_or (Not e) on-const on-other = on-other refl
const_or (Xor a b) on-const on-other = on-other refl
const_or (Iff a b) on-const on-other = on-other refl
const_or (Imp a b) on-const on-other = on-other refl
const_or (Cmp o a b) on-const on-other = on-other refl

-- ---- Xor, Iff, Imp

-- the action, made of sides that may have become constants since
abbrev redo : Action → Op → BoolExpr → BoolExpr → BoolExpr
redo be_false o a b = Const false
redo be_true o a b = Const true
redo left o a b = a
redo not_left o a b = fold_not a
redo right o a b = b
redo not_right o a b = fold_not b
redo keep o a b = fold_binary o a b

redo_left : (o : Op) (c : Bool) (z : BoolExpr) → redo (action o (some c) none) o (Const c) z ≡ fold_binary o (Const c) z
unfolding fold_binary fold_not
redo_left o c z = const_or z (λ d e. rw e (known o c d)) (λ e. unknown o c e)
  where
    known : (o : Op) (c d : Bool) → redo (action o (some c) none) o (Const c) (Const d) ≡ fold_binary o (Const c) (Const d)
    known op_xor false false = refl
    known op_xor false true = refl
    known op_xor true false = refl
    known op_xor true true = refl
    known op_iff false false = refl
    known op_iff false true = refl
    known op_iff true false = refl
    known op_iff true true = refl
    known op_imp false false = refl
    known op_imp false true = refl
    known op_imp true false = refl
    known op_imp true true = refl

    unknown : (o : Op) (c : Bool) → is_const z ≡ none → redo (action o (some c) none) o (Const c) z ≡ fold_binary o (Const c) z
    unknown op_xor false e = rw e refl
    unknown op_xor true e = rw e refl
    unknown op_iff false e = rw e refl
    unknown op_iff true e = rw e refl
    unknown op_imp false e = rw e refl
    unknown op_imp true e = rw e refl

redo_right : (o : Op) (c : Bool) (z : BoolExpr) → redo (action o none (some c)) o z (Const c) ≡ fold_binary o z (Const c)
unfolding fold_binary fold_not
redo_right o c z = const_or z (λ d e. rw e (known o c d)) (λ e. unknown o c e)
  where
    known : (o : Op) (c d : Bool) → redo (action o none (some c)) o (Const d) (Const c) ≡ fold_binary o (Const d) (Const c)
    known op_xor false false = refl
    known op_xor false true = refl
    known op_xor true false = refl
    known op_xor true true = refl
    known op_iff false false = refl
    known op_iff false true = refl
    known op_iff true false = refl
    known op_iff true true = refl
    known op_imp false false = refl
    known op_imp false true = refl
    known op_imp true false = refl
    known op_imp true true = refl

    unknown : (o : Op) (c : Bool) → is_const z ≡ none → redo (action o none (some c)) o z (Const c) ≡ fold_binary o z (Const c)
    unknown op_xor false e = rw e refl
    unknown op_xor true e = rw e refl
    unknown op_iff false e = rw e refl
    unknown op_iff true e = rw e refl
    unknown op_imp false e = rw e refl
    unknown op_imp true e = rw e refl

redo_both : (o : Op) (c d : Bool) → redo (action o (some c) (some d)) o (Const c) (Const d) ≡ fold_binary o (Const c) (Const d)
unfolding fold_binary
redo_both op_xor false false = refl
redo_both op_xor false true = refl
redo_both op_xor true false = refl
redo_both op_xor true true = refl
redo_both op_iff false false = refl
redo_both op_iff false true = refl
redo_both op_iff true false = refl
redo_both op_iff true true = refl
redo_both op_imp false false = refl
redo_both op_imp false true = refl
redo_both op_imp true false = refl
redo_both op_imp true true = refl

-- ---- expressions and statements

or_both : (x y z : Bool) → (y ≡ true → z ≡ true) → x || y ≡ true → x || z ≡ true
or_both true y z f h = refl
or_both false y z f h = f h

and_one : (e : BoolExpr) → fold_and (more e mnil) ≡ e
unfolding fold_and has_const kept
and_one e = const_or e (λ c q. rw q (go c)) (λ q. rw q refl)
  where
    go : (c : Bool) → fold_and (more (Const c) mnil) ≡ Const c
    go true = refl
    go false = refl

or_one : (e : BoolExpr) → fold_or (more e mnil) ≡ e
unfolding fold_or has_const kept
or_one e = const_or e (λ c q. rw q (go c)) (λ q. rw q refl)
  where
    go : (c : Bool) → fold_or (more (Const c) mnil) ≡ Const c
    go true = refl
    go false = refl

module _ (ds : List Domain) (g : Fixed) where
  int_var_again : (v : ℕ) (k : Option ℤ) → as_constant (domain_of ds v) ≡ k → fold-int ds g (fold_int_var k v) ≡ fold_int_var (as_constant (domain_of ds v)) v
  unfolding fold-int
  int_var_again v none h = refl
  int_var_again v (some c) h = rw h refl

  sum_again : (ts : Terms) → fold-int ds g (fold_sum ts) ≡ fold_sum (fold-terms ds g ts)
  unfolding fold-int
  sum_again tnil = refl
  sum_again (tmore k e tnil) = go (eqZ k (pos 1)) refl
    where
      go : (c : Bool) → eqZ k (pos 1) ≡ c → fold-int ds g (cond (eqZ k (pos 1)) e (Linear (tmore k e tnil))) ≡ cond (eqZ k (pos 1)) (fold-int ds g e) (Linear (tmore k (fold-int ds g e) tnil))
      go true h = rw h refl
      go false h = rw h (rw h refl)
  sum_again (tmore k e (tmore l e' ts)) = refl

  if_again : (i : IfIsRead) (c : BoolExpr) (t e : IntExpr) → fold-int ds g (fold_if (is_const c) i c t e) ≡ fold_if (is_const (fold ds g c)) i (fold ds g c) (fold-int ds g t) (fold-int ds g e)
  unfolding fold-int
  if_again i c t e = const_or c (λ b q. rw q (known b)) (λ q. rw q refl)
    where
      known : (b : Bool) → fold-int ds g (fold_if (some b) i (Const b) t e) ≡ fold_if (some b) i (Const b) (fold-int ds g t) (fold-int ds g e)
      known true = refl
      known false = refl

  act_again : (k : Action) (o : Op) (a b : BoolExpr) → fold ds g (act k o a b) ≡ redo k o (fold ds g a) (fold ds g b)
  unfolding fold
  act_again be_false o a b = refl
  act_again be_true o a b = refl
  act_again left o a b = refl
  act_again not_left o a b = refl
  act_again right o a b = refl
  act_again not_right o a b = refl
  act_again keep op_xor a b = refl
  act_again keep op_iff a b = refl
  act_again keep op_imp a b = refl

  keep_again : (o : Op) (a b : BoolExpr) → fold ds g (expr_of o a b) ≡ fold_binary o (fold ds g a) (fold ds g b)
  unfolding fold
  keep_again op_xor a b = refl
  keep_again op_iff a b = refl
  keep_again op_imp a b = refl

  unknown_again : (o : Op) (a b : BoolExpr) → fold ds g (act (action o none none) o a b) ≡ fold_binary o (fold ds g a) (fold ds g b)
  unknown_again op_xor a b = keep_again op_xor a b
  unknown_again op_iff a b = keep_again op_iff a b
  unknown_again op_imp a b = keep_again op_imp a b

  binary_again : (o : Op) (a b : BoolExpr) → fold ds g (fold_binary o a b) ≡ fold_binary o (fold ds g a) (fold ds g b)
  unfolding fold_binary fold
  binary_again o a b =
      const_or a
      (λ c ea. const_or b (λ d eb. rw (ea, eb) (act_again (action o (some c) (some d)) o (Const c) (Const d) ∙ redo_both o c d)) (λ eb. rw (ea, eb) (act_again (action o (some c) none) o (Const c) b ∙ redo_left o c (fold ds g b))))
      (λ ea. const_or b (λ d eb. rw (eb, ea) (act_again (action o none (some d)) o a (Const d) ∙ redo_right o d (fold ds g a))) (λ eb. rw (ea, eb) (unknown_again o a b)))

  not_again : (e : BoolExpr) → fold ds g (fold_not e) ≡ fold_not (fold ds g e)
  unfolding fold_not fold
  not_again e = const_or e (λ c q. rw q refl) (λ q. rw q refl)

  -- what is dropped is a constant, and stays one
  has_again : (b : Bool) (ms : Members) → has_const b ms ≡ true → has_const b (fold-members ds g ms) ≡ true
  unfolding has_const fold
  has_again b mnil h = h
  has_again b (more e ms) h = const_or e
      (λ c q. rw q (or_both (beq b c) (has_const b ms) (has_const b (fold-members ds g ms)) (has_again b ms) (rw q at h)))
      (λ q. or_r (is_value b (is_const (fold ds g e))) (has_const b (fold-members ds g ms)) (has_again b ms (rw q at h)))

  has_kept : (b : Bool) (ms : Members) → has_const b ms ≡ false → has_const b (fold-members ds g (kept ms)) ≡ has_const b (fold-members ds g ms)
  unfolding has_const kept fold
  has_kept b mnil h = refl
  has_kept b (more e ms) h = const_or e
      (λ c q. let p : beq b c || has_const b ms ≡ false = rw q at h in rw (q, or_no_l (beq b c) (has_const b ms) p) (has_kept b ms (or_no_r (beq b c) (has_const b ms) p)))
      (λ q. let p : has_const b ms ≡ false = rw q at h in rw (q, has_kept b ms p) refl)

  kept_kept : (ms : Members) → kept (fold-members ds g (kept ms)) ≡ kept (fold-members ds g ms)
  unfolding kept fold
  kept_kept mnil = refl
  kept_kept (more e ms) = const_or e (λ c q. rw q (kept_kept ms)) (λ q. rw (q, kept_kept ms) refl)

  join_and_again : (ms : Members) → fold ds g (join_and ms) ≡ fold_and (fold-members ds g ms)
  unfolding fold fold_and has_const kept
  join_and_again mnil = refl
  join_and_again (more e mnil) = sym (and_one (fold ds g e))
  join_and_again (more e (more e' ms)) = refl

  join_or_again : (ms : Members) → fold ds g (join_or ms) ≡ fold_or (fold-members ds g ms)
  unfolding fold fold_or has_const kept
  join_or_again mnil = refl
  join_or_again (more e mnil) = sym (or_one (fold ds g e))
  join_or_again (more e (more e' ms)) = refl

  and_again : (ms : Members) → fold ds g (fold_and ms) ≡ fold_and (fold-members ds g ms)
  unfolding fold_and fold
  and_again ms = go (has_const false ms) refl
    where
      go : (c : Bool) → has_const false ms ≡ c → fold ds g (fold_and ms) ≡ fold_and (fold-members ds g ms)
      go true h = rw (h, has_again false ms h) refl
      go false h = rw h (join_and_again (kept ms) ∙ rw (has_kept false ms h, kept_kept ms) refl)

  or_again : (ms : Members) → fold ds g (fold_or ms) ≡ fold_or (fold-members ds g ms)
  unfolding fold_or fold
  or_again ms = go (has_const true ms) refl
    where
      go : (c : Bool) → has_const true ms ≡ c → fold ds g (fold_or ms) ≡ fold_or (fold-members ds g ms)
      go true h = rw (h, has_again true ms h) refl
      go false h = rw h (join_or_again (kept ms) ∙ rw (has_kept true ms h, kept_kept ms) refl)

  module _ (f : Fixed) (extends : Extends f g) where
    var_again : (v : ℕ) (k : Option Bool) → f v ≡ k → fold ds g (fold_var k v) ≡ fold_var (g v) v
    unfolding fold
    var_again v none h = refl
    var_again v (some b) h = rw (extends v b h) refl

    mutual
      unfolding fold

      pub refold_int : (e : IntExpr) → fold-int ds g (fold-int ds f e) ≡ fold-int ds g e
      refold_int (IConst c) = refl
      refold_int (IVar v) = int_var_again v (as_constant (domain_of ds v)) refl
      refold_int (Linear ts) = sum_again (fold-terms ds f ts) ∙ ap fold_sum (refold_terms ts)
      refold_int (If i c t e) = if_again i (fold ds f c) (fold-int ds f t) (fold-int ds f e) ∙ rw (refold c, refold_int t, refold_int e) refl

      refold_terms : (ts : Terms) → fold-terms ds g (fold-terms ds f ts) ≡ fold-terms ds g ts
      refold_terms tnil = refl
      refold_terms (tmore k e ts) = rw (refold_int e, refold_terms ts) refl

      pub refold : (e : BoolExpr) → fold ds g (fold ds f e) ≡ fold ds g e
      refold (Const b) = refl
      refold (Var v) = var_again v (f v) refl
      refold (NVar n) = refl
      refold (And ms) = and_again (fold-members ds f ms) ∙ ap fold_and (refold_members ms)
      refold (Or ms) = or_again (fold-members ds f ms) ∙ ap fold_or (refold_members ms)
      refold (Not e) = not_again (fold ds f e) ∙ ap fold_not (refold e)
      refold (Xor a b) = binary_again op_xor (fold ds f a) (fold ds f b) ∙ rw (refold a, refold b) refl
      refold (Iff a b) = binary_again op_iff (fold ds f a) (fold ds f b) ∙ rw (refold a, refold b) refl
      refold (Imp a b) = binary_again op_imp (fold ds f a) (fold ds f b) ∙ rw (refold a, refold b) refl
      refold (Cmp o a b) = rw (refold_int a, refold_int b) refl

      pub refold_members : (ms : Members) → fold-members ds g (fold-members ds f ms) ≡ fold-members ds g ms
      refold_members mnil = refl
      refold_members (more e ms) = rw (refold e, refold_members ms) refl

    pub refold_columns : (es : List IntExpr) → map (fold-int ds g) (map (fold-int ds f) es) ≡ map (fold-int ds g) es
    refold_columns [] = refl
    refold_columns (e ∷ es) = rw (refold_int e, refold_columns es) refl

    pub refold_stmt : (s : Stmt) → fold-stmt ds g (fold-stmt ds f s) ≡ fold-stmt ds g s
    unfolding fold-stmt
    refold_stmt (Rule e) = ap Rule (refold e)
    refold_stmt (Table es rows) = ap (λ (l : List IntExpr). Table l rows) (refold_columns es)
    refold_stmt (AllDifferent es) = ap AllDifferent (refold_columns es)

    pub refold_stmts : (ss : List Stmt) → map (fold-stmt ds g) (map (fold-stmt ds f) ss) ≡ map (fold-stmt ds g) ss
    refold_stmts [] = refl
    refold_stmts (s ∷ ss) = rw (refold_stmt s, refold_stmts ss) refl
