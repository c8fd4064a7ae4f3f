-- What refusals 9, 10 and 11 leave is kept by folding: a folded expression weighs no more, writes no other variable and spans no more.
use Rattle.std.specs.Prelude.{◌≡◌, ◌||◌, cond, eqb, ℤ, pos}
use Rattle.std.proofs.Math.Path.{refl}
use Rattle.std.proofs.Common.{sym, ◌∙◌, mul-le-mul_left, le_trans}
use Rattle.std.proofs.Math.Bool.{Bool, true, false}
use Rattle.std.proofs.Math.Option.{Option, none, some}
use mathlib.Core.List.{List, [], ◌∷◌, ◌++◌, map}
use Prim.Native.Nat.{ℕ, suc, ◌+◌, ◌*◌, ◌≤◌, max, zero-le}
use native.Mathlib.Omega.{arith}
use Rattle.std.proofs.Math.Dec.{ltb}
use Rattle.std.proofs.Math.IntN.{nat_abs}
use borrow.Author.Tests.{ltb-false, le-ltb}
use Rattle.laws.specs.Bools.{never, or_no_l, or_no_r}
use Rattle.laws.specs.Ints.{eqZ}
use Rattle.laws.specs.Order.{eqZ_is}
use Rattle.laws.specs.Lists.{any, any_append, different}
use Rattle.syntax.specs.Words.{max_weight, max_comparison_vars, max_column_vars}
use Rattle.syntax.specs.Syntax.{Domain, Range, Enumerative, as_constant, domain_of, IfIsRead, IntExpr, IConst, IVar, Linear, If, Terms, tnil, tmore, BoolExpr, Const, Var, NVar, And, Or, Not, Xor, Iff, Imp, Cmp, Members, mnil, more, Stmt, Rule, Table, AllDifferent}
use Rattle.limits.specs.Limits.{any_comparison, any_comparison_members, any_inside, any_inside_terms, any_pair, any_part, domain_weight, weight, terms_weight, heavy, heavy_terms, heavy_comparison, written, written_terms, ifs, ifs_terms, many_comparison, many_column, heavy_stmt, many_stmt}
use Rattle.fold.specs.Fold.{Fixed, is_const, has_const, keep_member, kept, join_and, join_or, fold_and, fold_or, not_of, fold_not, fold_var, fold_binary, act, action, Op, op_xor, op_iff, op_imp, Action, be_false, be_true, left, not_left, right, not_right, keep, fold_int_var, fold_sum, fold_if, constant_folding_int, constant_folding_terms, constant_folding_bool, constant_folding_members, constant_folding_stmt}
use Rattle.sums.specs.Rising.{Among}
use Rattle.sums.proofs.RisingLaws.{among_left, among_right, different_part}
use Rattle.sums.proofs.BoundsLaws.{heavy_weight}

-- ---- 9: weights

constant_weight : (d : Domain) (c : ℤ) → as_constant d ≡ some c → nat_abs c ≤ domain_weight d
constant_weight (Range low high) c e = go (eqZ low high) e
  where
    go : (t : Bool) → cond t (some low) none ≡ some c → nat_abs c ≤ max 1 (max (nat_abs low) (nat_abs high))
    go true e = let z : low ≡ c = cc in rw (← z) (omega arith)
    go false e = let z : ◌≡◌ {A = ℕ} 0 1 = cc in absurd (omega arith)
constant_weight (Enumerative []) c e = let z : ◌≡◌ {A = ℕ} 0 1 = cc in absurd (omega arith)
constant_weight (Enumerative (x ∷ [])) c e = let z : x ≡ c = cc in rw (← z) (omega arith)
constant_weight (Enumerative (x ∷ y ∷ xs)) c e = let z : ◌≡◌ {A = ℕ} 0 1 = cc in absurd (omega arith)

among_either : {X : Type 0} (v : ℕ) (us ws : List ℕ) → Among (us ++ ws) v → (Among us v → X) → (Among ws v → X) → X
among_either {X = X} v us ws m f g = go (any (eqb v) us) refl (sym (any_append (eqb v) us ws) ∙ m)
  where
    go : (t : Bool) → any (eqb v) us ≡ t → t || any (eqb v) ws ≡ true → X
    go true q h = f q
    go false q h = g h

module _ (ds : List Domain) (f : Fixed) where
  sum_weight : (ts : Terms) → weight ds (fold_sum ts) ≤ terms_weight ds ts
  unfolding weight
  sum_weight tnil = zero-le
  sum_weight (tmore k e tnil) = go (eqZ k (pos 1)) refl
    where
      go : (t : Bool) → eqZ k (pos 1) ≡ t → weight ds (cond t e (Linear (tmore k e tnil))) ≤ nat_abs k * weight ds e + 0
      go true q = rw (eqZ_is k (pos 1) q) (omega arith)
      go false q = omega arith
  sum_weight (tmore k e (tmore l e' ts)) = omega arith

  var_weight : (v : ℕ) (o : Option ℤ) → as_constant (domain_of ds v) ≡ o → weight ds (fold_int_var o v) ≤ domain_weight (domain_of ds v)
  unfolding weight
  var_weight v none e = omega arith
  var_weight v (some c) e = constant_weight (domain_of ds v) c e

  if_weight : (k : Option Bool) (i : IfIsRead) (c d : BoolExpr) (t e t' e' : IntExpr) → weight ds t' ≤ weight ds t → weight ds e' ≤ weight ds e → weight ds (fold_if k i d t' e') ≤ weight ds (If i c t e)
  unfolding weight
  if_weight none i c d t e t' e' h g = omega arith
  if_weight (some true) i c d t e t' e' h g = omega arith
  if_weight (some false) i c d t e t' e' h g = omega arith

  mutual
    unfolding constant_folding_int weight

    pub fold_weight : (e : IntExpr) → weight ds (constant_folding_int ds f e) ≤ weight ds e
    fold_weight (IConst c) = omega arith
    fold_weight (IVar v) = var_weight v (as_constant (domain_of ds v)) refl
    fold_weight (Linear ts) = omega (arith, sum_weight (constant_folding_terms ds f ts), fold_terms_weight ts)
    fold_weight (If i c t e) = if_weight (is_const (constant_folding_bool ds f c)) i c (constant_folding_bool ds f c) t e (constant_folding_int ds f t) (constant_folding_int ds f e) (fold_weight t) (fold_weight e)

    fold_terms_weight : (ts : Terms) → terms_weight ds (constant_folding_terms ds f ts) ≤ terms_weight ds ts
    fold_terms_weight tnil = omega arith
    fold_terms_weight (tmore k e ts) = omega (arith, mul-le-mul_left (nat_abs k) (fold_weight e), fold_terms_weight ts)

  within : (n m : ℕ) → n ≤ m → ltb max_weight m ≡ false → ltb max_weight n ≡ false
  within n m h l = le-ltb max_weight n (omega (arith, ltb-false max_weight m l))

  sum_light : (ts : Terms) → terms_weight ds ts ≤ max_weight → heavy_terms ds ts ≡ false → heavy ds (fold_sum ts) ≡ false
  unfolding heavy weight
  sum_light tnil l h = refl
  sum_light (tmore k e tnil) l h = go (eqZ k (pos 1))
    where
      go : (t : Bool) → heavy ds (cond t e (Linear (tmore k e tnil))) ≡ false
      go true = or_no_l (heavy ds e) false h
      go false = rw (le-ltb max_weight (terms_weight ds (tmore k e tnil)) l) h
  sum_light (tmore k e (tmore m e' ts)) l h = rw (le-ltb max_weight (terms_weight ds (tmore k e (tmore m e' ts))) l) h

  var_light : (v : ℕ) (o : Option ℤ) → as_constant (domain_of ds v) ≡ o → heavy ds (IVar v) ≡ false → heavy ds (fold_int_var o v) ≡ false
  unfolding heavy weight
  var_light v none e h = h
  var_light v (some c) e h = within (nat_abs c) (domain_weight (domain_of ds v)) (constant_weight (domain_of ds v) c e) h

  if_light : (k : Option Bool) (i : IfIsRead) (d : BoolExpr) (t e : IntExpr) → weight ds (If i d t e) ≤ max_weight → heavy ds t ≡ false → heavy ds e ≡ false → heavy ds (fold_if k i d t e) ≡ false
  unfolding heavy weight
  if_light none i d t e l h g = rw (le-ltb max_weight (weight ds (If i d t e)) l, h, g) refl
  if_light (some true) i d t e l h g = h
  if_light (some false) i d t e l h g = g

  mutual
    unfolding constant_folding_int heavy weight

    pub fold_light : (e : IntExpr) → heavy ds e ≡ false → heavy ds (constant_folding_int ds f e) ≡ false
    fold_light (IConst c) h = h
    fold_light (IVar v) h = var_light v (as_constant (domain_of ds v)) refl h
    fold_light (Linear ts) h =
        sum_light (constant_folding_terms ds f ts) (le_trans (fold_terms_weight ts) (heavy_weight ds (Linear ts) h)) (fold_terms_light ts (or_no_r (ltb max_weight (terms_weight ds ts)) (heavy_terms ds ts) h))
    fold_light (If i c t e) h =
        let C = constant_folding_bool ds f c in
        let r = or_no_r (ltb max_weight (weight ds (If i c t e))) (heavy ds t || heavy ds e) h in
        let T = constant_folding_int ds f t in
        let E = constant_folding_int ds f e in
        if_light (is_const C) i C T E (le_trans (if_weight none i c C t e T E (fold_weight t) (fold_weight e)) (heavy_weight ds (If i c t e) h)) (fold_light t (or_no_l (heavy ds t) (heavy ds e) r)) (fold_light e (or_no_r (heavy ds t) (heavy ds e) r))

    fold_terms_light : (ts : Terms) → heavy_terms ds ts ≡ false → heavy_terms ds (constant_folding_terms ds f ts) ≡ false
    fold_terms_light tnil h = refl
    fold_terms_light (tmore k e ts) h = rw (fold_light e (or_no_l (heavy ds e) (heavy_terms ds ts) h), fold_terms_light ts (or_no_r (heavy ds e) (heavy_terms ds ts) h)) refl

  pub fold_comparison_light : (a b : IntExpr) → heavy_comparison ds a b ≡ false → heavy_comparison ds (constant_folding_int ds f a) (constant_folding_int ds f b) ≡ false
  unfolding heavy_comparison
  fold_comparison_light a b h =
      let r = or_no_r (heavy ds a) (heavy ds b || ltb max_weight (weight ds a + weight ds b)) h in
      rw (fold_light a (or_no_l (heavy ds a) (heavy ds b || ltb max_weight (weight ds a + weight ds b)) h), fold_light b (or_no_l (heavy ds b) (ltb max_weight (weight ds a + weight ds b)) r))
      (within (weight ds (constant_folding_int ds f a) + weight ds (constant_folding_int ds f b)) (weight ds a + weight ds b) (omega (arith, fold_weight a, fold_weight b)) (or_no_r (heavy ds b) (ltb max_weight (weight ds a + weight ds b)) r))

  -- ---- 10: variables written

  sum_written : (ts : Terms) (v : ℕ) → Among (written (fold_sum ts)) v → Among (written_terms ts) v
  unfolding written
  sum_written tnil v m = m
  sum_written (tmore k e tnil) v m = go (eqZ k (pos 1)) m
    where
      go : (t : Bool) → Among (written (cond t e (Linear (tmore k e tnil)))) v → Among (written e ++ []) v
      go true m = among_left v (written e) [] m
      go false m = m
  sum_written (tmore k e (tmore l e' ts)) v m = m

  var_written : (u : ℕ) (o : Option ℤ) (v : ℕ) → Among (written (fold_int_var o u)) v → Among (u ∷ []) v
  unfolding written
  var_written u none v m = m
  var_written u (some c) v m = never m

  if_written : (k : Option Bool) (i : IfIsRead) (c : BoolExpr) (t e : IntExpr) (v : ℕ) → Among (written (fold_if k i c t e)) v → Among (written t ++ written e) v
  unfolding written
  if_written none i c t e v m = m
  if_written (some true) i c t e v m = among_left v (written t) (written e) m
  if_written (some false) i c t e v m = among_right v (written t) (written e) m

  mutual
    unfolding constant_folding_int written

    pub fold_written : (e : IntExpr) (v : ℕ) → Among (written (constant_folding_int ds f e)) v → Among (written e) v
    fold_written (IConst c) v m = m
    fold_written (IVar u) v m = var_written u (as_constant (domain_of ds u)) v m
    fold_written (Linear ts) v m = fold_terms_written ts v (sum_written (constant_folding_terms ds f ts) v m)
    fold_written (If i c t e) v m =
        let T = constant_folding_int ds f t in
        let E = constant_folding_int ds f e in
        among_either v (written T) (written E) (if_written (is_const (constant_folding_bool ds f c)) i (constant_folding_bool ds f c) T E v m) (λ q. among_left v (written t) (written e) (fold_written t v q)) (λ q. among_right v (written t) (written e) (fold_written e v q))

    fold_terms_written : (ts : Terms) (v : ℕ) → Among (written_terms (constant_folding_terms ds f ts)) v → Among (written_terms ts) v
    fold_terms_written tnil v m = m
    fold_terms_written (tmore k e ts) v m =
        among_either v (written (constant_folding_int ds f e)) (written_terms (constant_folding_terms ds f ts)) m (λ q. among_left v (written e) (written_terms ts) (fold_written e v q)) (λ q. among_right v (written e) (written_terms ts) (fold_terms_written ts v q))

  -- ---- 10: Ifs

  sum_ifs : (ts : Terms) → ifs (fold_sum ts) ≤ ifs_terms ts
  unfolding ifs
  sum_ifs tnil = zero-le
  sum_ifs (tmore k e tnil) = go (eqZ k (pos 1))
    where
      go : (t : Bool) → ifs (cond t e (Linear (tmore k e tnil))) ≤ ifs e + 0
      go true = omega arith
      go false = omega arith
  sum_ifs (tmore k e (tmore l e' ts)) = omega arith

  var_ifs : (o : Option ℤ) (v : ℕ) → ifs (fold_int_var o v) ≤ 0
  unfolding ifs
  var_ifs none v = omega arith
  var_ifs (some c) v = omega arith

  if_ifs : (k : Option Bool) (i : IfIsRead) (c : BoolExpr) (t e : IntExpr) → ifs (fold_if k i c t e) ≤ suc (ifs t + ifs e)
  unfolding ifs
  if_ifs none i c t e = omega arith
  if_ifs (some true) i c t e = omega arith
  if_ifs (some false) i c t e = omega arith

  mutual
    unfolding constant_folding_int ifs

    fold_ifs : (e : IntExpr) → ifs (constant_folding_int ds f e) ≤ ifs e
    fold_ifs (IConst c) = omega arith
    fold_ifs (IVar v) = var_ifs (as_constant (domain_of ds v)) v
    fold_ifs (Linear ts) = omega (arith, sum_ifs (constant_folding_terms ds f ts), fold_terms_ifs ts)
    fold_ifs (If i c t e) = omega (arith, if_ifs (is_const (constant_folding_bool ds f c)) i (constant_folding_bool ds f c) (constant_folding_int ds f t) (constant_folding_int ds f e), fold_ifs t, fold_ifs e)

    fold_terms_ifs : (ts : Terms) → ifs_terms (constant_folding_terms ds f ts) ≤ ifs_terms ts
    fold_terms_ifs tnil = omega arith
    fold_terms_ifs (tmore k e ts) = omega (arith, fold_ifs e, fold_terms_ifs ts)

  pub fold_comparison_few : (a b : IntExpr) → many_comparison a b ≡ false → many_comparison (constant_folding_int ds f a) (constant_folding_int ds f b) ≡ false
  unfolding many_comparison
  fold_comparison_few a b h =
      let x = written (constant_folding_int ds f a) in
      let y = written (constant_folding_int ds f b) in
      let p = different_part (x ++ y) (written a ++ written b) (λ v m. among_either v x y m (λ q. among_left v (written a) (written b) (fold_written a v q)) (λ q. among_right v (written a) (written b) (fold_written b v q))) in
      le-ltb max_comparison_vars (different (x ++ y) + (ifs (constant_folding_int ds f a) + ifs (constant_folding_int ds f b)))
      (omega (arith, p, fold_ifs a, fold_ifs b, ltb-false max_comparison_vars (different (written a ++ written b) + (ifs a + ifs b)) h))

  pub fold_column_few : (e : IntExpr) → many_column e ≡ false → many_column (constant_folding_int ds f e) ≡ false
  unfolding many_column
  fold_column_few e h =
      le-ltb max_column_vars (different (written (constant_folding_int ds f e)) + ifs (constant_folding_int ds f e))
      (omega (arith, different_part (written (constant_folding_int ds f e)) (written e) (fold_written e), fold_ifs e, ltb-false max_column_vars (different (written e) + ifs e) h))

-- ---- a test of comparisons (P) and branches (B) that folding keeps false

module _ (P : IntExpr → IntExpr → Bool) (B : IntExpr → Bool) where
  abbrev No : BoolExpr → Type 0
  No e = any_comparison P B e ≡ false

  abbrev Nos : Members → Type 0
  Nos ms = any_comparison_members P B ms ≡ false

  abbrev None : IntExpr → Type 0
  None e = any_inside P B e ≡ false

  kept_no : (ms : Members) → Nos ms → Nos (kept ms)
  unfolding kept any_comparison
  kept_no mnil h = refl
  kept_no (more e ms) h = go (is_const e) (kept_no ms (or_no_r (any_comparison P B e) (any_comparison_members P B ms) h))
    where
      go : (o : Option Bool) → Nos (kept ms) → Nos (keep_member o e (kept ms))
      go none q = rw (or_no_l (any_comparison P B e) (any_comparison_members P B ms) h) q
      go (some b) q = q

  join_and_no : (ms : Members) → Nos ms → No (join_and ms)
  unfolding any_comparison
  join_and_no mnil h = refl
  join_and_no (more e mnil) h = or_no_l (any_comparison P B e) false h
  join_and_no (more e (more f ms)) h = h

  join_or_no : (ms : Members) → Nos ms → No (join_or ms)
  unfolding any_comparison
  join_or_no mnil h = refl
  join_or_no (more e mnil) h = or_no_l (any_comparison P B e) false h
  join_or_no (more e (more f ms)) h = h

  fold_and_no : (ms : Members) → Nos ms → No (fold_and ms)
  unfolding fold_and any_comparison
  fold_and_no ms h = go (has_const false ms)
    where
      go : (t : Bool) → No (cond t (Const false) (join_and (kept ms)))
      go true = refl
      go false = join_and_no (kept ms) (kept_no ms h)

  fold_or_no : (ms : Members) → Nos ms → No (fold_or ms)
  unfolding fold_or any_comparison
  fold_or_no ms h = go (has_const true ms)
    where
      go : (t : Bool) → No (cond t (Const true) (join_or (kept ms)))
      go true = refl
      go false = join_or_no (kept ms) (kept_no ms h)

  fold_not_no : (e : BoolExpr) → No e → No (fold_not e)
  unfolding fold_not any_comparison
  fold_not_no e h = go (is_const e)
    where
      go : (o : Option Bool) → No (not_of o e)
      go none = h
      go (some b) = refl

  fold_var_no : (o : Option Bool) (v : ℕ) → No (fold_var o v)
  unfolding any_comparison
  fold_var_no none v = refl
  fold_var_no (some b) v = refl

  act_no : (x : Action) (o : Op) (a b : BoolExpr) → No a → No b → No (act x o a b)
  unfolding any_comparison
  act_no be_false o a b h k = refl
  act_no be_true o a b h k = refl
  act_no left o a b h k = h
  act_no not_left o a b h k = h
  act_no right o a b h k = k
  act_no not_right o a b h k = k
  act_no keep op_xor a b h k = rw (h, k) refl
  act_no keep op_iff a b h k = rw (h, k) refl
  act_no keep op_imp a b h k = rw (h, k) refl

  fold_binary_no : (o : Op) (a b : BoolExpr) → No a → No b → No (fold_binary o a b)
  unfolding fold_binary
  fold_binary_no o a b h k = act_no (action o (is_const a) (is_const b)) o a b h k

  sum_none : (ts : Terms) → any_inside_terms P B ts ≡ false → None (fold_sum ts)
  unfolding any_comparison
  sum_none tnil h = refl
  sum_none (tmore k e tnil) h = go (eqZ k (pos 1))
    where
      go : (t : Bool) → None (cond t e (Linear (tmore k e tnil)))
      go true = or_no_l (any_inside P B e) false h
      go false = h
  sum_none (tmore k e (tmore l e' ts)) h = h

  var_none : (o : Option ℤ) (v : ℕ) → None (fold_int_var o v)
  unfolding any_comparison
  var_none none v = refl
  var_none (some c) v = refl

  if_none : (k : Option Bool) (i : IfIsRead) (c : BoolExpr) (t e : IntExpr) → No c → (B t ≡ false) × None t → (B e ≡ false) × None e → None (fold_if k i c t e)
  unfolding any_comparison
  if_none none i c t e h g j = rw (h, g.0, g.1, j.0, j.1) refl
  if_none (some true) i c t e h g j = g.1
  if_none (some false) i c t e h g j = j.1

  module _ (ds : List Domain) (f : Fixed) (branch : (e : IntExpr) → B e ≡ false → B (constant_folding_int ds f e) ≡ false) (keeps : (a b : IntExpr) → P a b ≡ false → P (constant_folding_int ds f a) (constant_folding_int ds f b) ≡ false) where
    mutual
      unfolding constant_folding_bool any_comparison

      pub fold_no : (e : BoolExpr) → No e → No (constant_folding_bool ds f e)
      fold_no (Const b) h = refl
      fold_no (Var v) h = fold_var_no (f v) v
      fold_no (NVar n) h = refl
      fold_no (And ms) h = fold_and_no (constant_folding_members ds f ms) (fold_members_no ms h)
      fold_no (Or ms) h = fold_or_no (constant_folding_members ds f ms) (fold_members_no ms h)
      fold_no (Not e) h = fold_not_no (constant_folding_bool ds f e) (fold_no e h)
      fold_no (Xor a b) h = fold_binary_no op_xor (constant_folding_bool ds f a) (constant_folding_bool ds f b) (fold_no a (or_no_l (any_comparison P B a) (any_comparison P B b) h)) (fold_no b (or_no_r (any_comparison P B a) (any_comparison P B b) h))
      fold_no (Iff a b) h = fold_binary_no op_iff (constant_folding_bool ds f a) (constant_folding_bool ds f b) (fold_no a (or_no_l (any_comparison P B a) (any_comparison P B b) h)) (fold_no b (or_no_r (any_comparison P B a) (any_comparison P B b) h))
      fold_no (Imp a b) h = fold_binary_no op_imp (constant_folding_bool ds f a) (constant_folding_bool ds f b) (fold_no a (or_no_l (any_comparison P B a) (any_comparison P B b) h)) (fold_no b (or_no_r (any_comparison P B a) (any_comparison P B b) h))
      fold_no (Cmp o a b) h =
          let i = or_no_r (P a b) (any_inside P B a || any_inside P B b) h in
          rw (keeps a b (or_no_l (P a b) (any_inside P B a || any_inside P B b) h), fold_none a (or_no_l (any_inside P B a) (any_inside P B b) i), fold_none b (or_no_r (any_inside P B a) (any_inside P B b) i)) refl

      fold_members_no : (ms : Members) → Nos ms → Nos (constant_folding_members ds f ms)
      fold_members_no mnil h = refl
      fold_members_no (more e ms) h = rw (fold_no e (or_no_l (any_comparison P B e) (any_comparison_members P B ms) h), fold_members_no ms (or_no_r (any_comparison P B e) (any_comparison_members P B ms) h)) refl

      fold_none : (e : IntExpr) → None e → None (constant_folding_int ds f e)
      fold_none (IConst c) h = refl
      fold_none (IVar v) h = var_none (as_constant (domain_of ds v)) v
      fold_none (Linear ts) h = sum_none (constant_folding_terms ds f ts) (fold_terms_none ts h)
      fold_none (If i c t e) h =
          let T = B t || any_inside P B t in
          let E = B e || any_inside P B e in
          let r = or_no_r (any_comparison P B c) (T || E) h in
          let x = or_no_l T E r in
          let y = or_no_r T E r in
          if_none (is_const (constant_folding_bool ds f c)) i (constant_folding_bool ds f c) (constant_folding_int ds f t) (constant_folding_int ds f e) (fold_no c (or_no_l (any_comparison P B c) (T || E) h))
          (branch t (or_no_l (B t) (any_inside P B t) x), fold_none t (or_no_r (B t) (any_inside P B t) x))
          (branch e (or_no_l (B e) (any_inside P B e) y), fold_none e (or_no_r (B e) (any_inside P B e) y))

      fold_terms_none : (ts : Terms) → any_inside_terms P B ts ≡ false → any_inside_terms P B (constant_folding_terms ds f ts) ≡ false
      fold_terms_none tnil h = refl
      fold_terms_none (tmore k e ts) h = rw (fold_none e (or_no_l (any_inside P B e) (any_inside_terms P B ts) h), fold_terms_none ts (or_no_r (any_inside P B e) (any_inside_terms P B ts) h)) refl

    -- D: the test of a column, or of an expression by itself
    one_no : (D : IntExpr → Bool) → ((e : IntExpr) → D e ≡ false → D (constant_folding_int ds f e) ≡ false) → (e : IntExpr)
        → D e || any_inside P B e ≡ false → D (constant_folding_int ds f e) || any_inside P B (constant_folding_int ds f e) ≡ false
    one_no D column e h = rw (column e (or_no_l (D e) (any_inside P B e) h), fold_none e (or_no_r (D e) (any_inside P B e) h)) refl

    columns_no : (D : IntExpr → Bool) → ((e : IntExpr) → D e ≡ false → D (constant_folding_int ds f e) ≡ false) → (es : List IntExpr) → any D es ≡ false → any D (map (constant_folding_int ds f) es) ≡ false
    columns_no D column [] h = refl
    columns_no D column (e ∷ es) h = rw (column e (or_no_l (D e) (any D es) h), columns_no D column es (or_no_r (D e) (any D es) h)) refl

    row_no : (e : IntExpr) (es : List IntExpr) → any (P e) es ≡ false → any (P (constant_folding_int ds f e)) (map (constant_folding_int ds f) es) ≡ false
    row_no e [] h = refl
    row_no e (g ∷ es) h = rw (keeps e g (or_no_l (P e g) (any (P e) es) h), row_no e es (or_no_r (P e g) (any (P e) es) h)) refl

    pairs_no : (es : List IntExpr) → any_pair P es ≡ false → any_pair P (map (constant_folding_int ds f) es) ≡ false
    unfolding any_pair
    pairs_no [] h = refl
    pairs_no (e ∷ es) h = rw (row_no e es (or_no_l (any (P e) es) (any_pair P es) h), pairs_no es (or_no_r (any (P e) es) (any_pair P es) h)) refl

    module _ (C O : IntExpr → Bool) (column : (e : IntExpr) → C e ≡ false → C (constant_folding_int ds f e) ≡ false) (one : (e : IntExpr) → O e ≡ false → O (constant_folding_int ds f e) ≡ false) where
      pub fold_stmt_no : (s : Stmt) → any_part P B C O s ≡ false → any_part P B C O (constant_folding_stmt ds f s) ≡ false
      unfolding any_part constant_folding_stmt
      fold_stmt_no (Rule e) h = fold_no e h
      fold_stmt_no (Table es rows) h = columns_no (λ e. C e || any_inside P B e) (one_no C column) es h
      fold_stmt_no (AllDifferent es) h =
          let D : IntExpr → Bool = λ e. O e || any_inside P B e in
          rw (columns_no D (one_no O one) es (or_no_l (any D es) (any_pair P es) h), pairs_no es (or_no_r (any D es) (any_pair P es) h)) refl

-- refusals 9 and 10 of a statement, after folding under any fixed values
pub fold_stmt_light : (ds : List Domain) (f : Fixed) (s : Stmt) → heavy_stmt ds s ≡ false → heavy_stmt ds (constant_folding_stmt ds f s) ≡ false
fold_stmt_light ds f = fold_stmt_no (heavy_comparison ds) (λ e. false) ds f (λ e h. h) (fold_comparison_light ds f) (heavy ds) (heavy ds) (fold_light ds f) (fold_light ds f)

pub fold_stmt_few : (ds : List Domain) (f : Fixed) (s : Stmt) → many_stmt s ≡ false → many_stmt (constant_folding_stmt ds f s) ≡ false
fold_stmt_few ds f = fold_stmt_no many_comparison many_column ds f (fold_column_few ds f) (fold_comparison_few ds f) many_column (λ e. false) (fold_column_few ds f) (λ e h. h)
