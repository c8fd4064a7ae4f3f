-- Splitting keeps the assignments: where the extras hold the rewritten expression has the expression's value, and under values that fit the log the extras hold.
use Rattle.std.specs.Prelude.{◌≡◌, Bool, false, not, ◌&&◌, ◌||◌, cond, List, [], ◌∷◌, ◌++◌, ℤ, ◌+ℤ◌, ◌*ℤ◌}
use Rattle.std.proofs.Math.Path.{refl, sym, ap}
use Rattle.std.proofs.Common.{◌∙◌, arith}
use Rattle.std.proofs.Math.Bool.{true}
use Rattle.std.specs.Bool.{beq}
use Prim.Native.Nat.{ℕ, suc, ◌≤◌, max}
use Rattle.laws.specs.Bools.{and_l, and_r, and_i, beq_eq, beq_same}
use Rattle.laws.specs.Lists.{all, all_append}
use Rattle.syntax.specs.Syntax.{IfIsRead, IntExpr, IConst, IVar, Linear, If, Terms, tnil, tmore, BoolExpr, Const, Var, NVar, And, Or, Not, Xor, Iff, Imp, Cmp, Members, mnil, more}
use Rattle.syntax.specs.Satisfies.{Val, IVal, compare, holds, holds_all, holds_any, int_value, terms_value}
use Rattle.clauses.specs.Log.{side, bool, Log, next_bool}
use Rattle.clauses.specs.Split.{Split, Splitter, unsplit, split_one, split_two, split_three, split_sides, tseitin_transformation_bool, tseitin_transformation_members, tseitin_transformation_int, tseitin_transformation_terms}
use Rattle.clauses.proofs.Bounds.{expr_bound, members_bound, int_bound, terms_numbers, exprs_bound, exprs_bound_le}
use Rattle.clauses.specs.Valuation.{Fits}
use Rattle.clauses.proofs.Grow.{Grows, same, grow, grows_trans, grows_bool, fits_back}

-- what an expression of some kind says, and the bound of its numbers
pub record Kind (A U : Type 0) : Type 0 where
  pub says : Val → A → U
  pub bound : A → ℕ

module _ (δ : Val) (ε : IVal) where
  abbrev pub of_bool : Kind BoolExpr Bool
  of_bool = record { says = holds δ ε; bound = expr_bound }

  abbrev pub of_members : Kind Members (Bool × Bool)
  of_members = record { says = λ ρ ms. (holds_all δ ε ρ ms, holds_any δ ε ρ ms); bound = members_bound }

  abbrev pub of_int : Kind IntExpr ℤ
  of_int = record { says = int_value δ ε; bound = int_bound }

  abbrev pub of_terms : Kind Terms ℤ
  of_terms = record { says = terms_value δ ε; bound = terms_numbers }

  abbrev H : Val → List BoolExpr → Bool
  H ρ es = all (holds δ ε ρ) es

  -- from the log s the split expression c, which says x
  pub record SplitMeans {A U : Type 0} (k : Kind A U) (s : Log) (c : Split A) (x : Val → U) : Type 0 where
    pub grows : Grows δ ε s c.log
    pub bounded : k.bound c.result ≤ next_bool c.log
    pub extra_bounded : exprs_bound c.extra ≤ next_bool c.log
    pub sound : (ρ : Val) → H ρ c.extra ≡ true → k.says ρ c.result ≡ x ρ
    pub complete : (ρ : Val) (ι : IVal) → Fits δ ε ρ ι c.log → H ρ c.extra ≡ true

  -- from every log that has the first n numbers
  module _ (n : ℕ) where
    abbrev Keep : {A U : Type 0} → Kind A U → Splitter A → (Val → U) → Type 0
    Keep k p x = (s : Log) → n ≤ next_bool s → SplitMeans k s (p s) x

    unsplit_keeps : {A U : Type 0} (k : Kind A U) (a : A) → k.bound a ≤ n → Keep k (unsplit a) (λ ρ. k.says ρ a)
    unfolding unsplit
    unsplit_keeps k a h s hs = record { grows = same; bounded = omega arith; extra_bounded = omega arith; sound = λ ρ e. refl; complete = λ ρ ι f. refl }

    one_keeps : {A U B W : Type 0} (k : Kind A U) (l : Kind B W) (f : A → B) (m : U → W) → ((ρ : Val) (a : A) → l.says ρ (f a) ≡ m (k.says ρ a)) → ((a : A) → l.bound (f a) ≤ k.bound a)
        → (p : Splitter A) (x : Val → U) → Keep k p x → Keep l (split_one f p) (λ ρ. m (x ρ))
    unfolding split_one
    one_keeps k l f m law low p x q s h =
        let a = p s in
        let i = q s h in
        record { grows = i.grows; bounded = omega (arith, low a.result, i.bounded); extra_bounded = i.extra_bounded; sound = λ ρ e. law ρ a.result ∙ ap m (i.sound ρ e); complete = i.complete }

    two_keeps : {A U B W C X : Type 0} (j : Kind A U) (k : Kind B W) (l : Kind C X) (f : A → B → C) (m : U → W → X)
        → ((ρ : Val) (a : A) (b : B) → l.says ρ (f a b) ≡ m (j.says ρ a) (k.says ρ b)) → ((a : A) (b : B) → l.bound (f a b) ≤ max (j.bound a) (k.bound b))
        → (p : Splitter A) (q : Splitter B) (x : Val → U) (y : Val → W) → Keep j p x → Keep k q y → Keep l (split_two f p q) (λ ρ. m (x ρ) (y ρ))
    unfolding split_two
    two_keeps j k l f m law low p q x y hp hq s h =
        let a = p s in
        let i = hp s h in
        let b = q a.log in
        let o = hq a.log (omega (arith, grows_bool i.grows)) in
        record {
          grows = grows_trans i.grows o.grows;
          bounded = omega (arith, low a.result b.result, i.bounded, o.bounded, grows_bool o.grows);
          extra_bounded = exprs_bound_le (next_bool b.log) a.extra b.extra (omega (arith, i.extra_bounded, grows_bool o.grows)) o.extra_bounded;
          sound = λ ρ e.
              let z = rw (all_append (holds δ ε ρ) a.extra b.extra) at e in
              law ρ a.result b.result ∙ rw (i.sound ρ (and_l (H ρ a.extra) (H ρ b.extra) z), o.sound ρ (and_r (H ρ a.extra) (H ρ b.extra) z)) refl;
          complete = λ ρ ι f. rw (all_append (holds δ ε ρ) a.extra b.extra) (and_i (H ρ a.extra) (H ρ b.extra) (i.complete ρ ι (fits_back ρ ι o.grows f)) (o.complete ρ ι f));
        }

    if_keeps : (w : IfIsRead) (p : Splitter BoolExpr) (q r : Splitter IntExpr) (x : Val → Bool) (y z : Val → ℤ) → Keep of_bool p x → Keep of_int q y → Keep of_int r z → Keep of_int (split_three (If w) p q r) (λ ρ. cond (x ρ) (y ρ) (z ρ))
    unfolding split_three int_value int_bound
    if_keeps w p q r x y z hp hq hr s h =
        let a = p s in
        let i = hp s h in
        let b = q a.log in
        let o = hq a.log (omega (arith, grows_bool i.grows)) in
        let c = r b.log in
        let u = hr b.log (omega (arith, grows_bool i.grows, grows_bool o.grows)) in
        record {
          grows = grows_trans i.grows (grows_trans o.grows u.grows);
          bounded = omega (arith, i.bounded, o.bounded, u.bounded, grows_bool o.grows, grows_bool u.grows);
          extra_bounded = exprs_bound_le (next_bool c.log) a.extra (b.extra ++ c.extra) (omega (arith, i.extra_bounded, grows_bool o.grows, grows_bool u.grows))
              (exprs_bound_le (next_bool c.log) b.extra c.extra (omega (arith, o.extra_bounded, grows_bool u.grows)) u.extra_bounded);
          sound = λ ρ e.
              let v = rw (all_append (holds δ ε ρ) a.extra (b.extra ++ c.extra)) at e in
              let w = rw (all_append (holds δ ε ρ) b.extra c.extra) at (and_r (H ρ a.extra) (H ρ (b.extra ++ c.extra)) v) in
              rw (i.sound ρ (and_l (H ρ a.extra) (H ρ (b.extra ++ c.extra)) v), o.sound ρ (and_l (H ρ b.extra) (H ρ c.extra) w), u.sound ρ (and_r (H ρ b.extra) (H ρ c.extra) w)) refl;
          complete = λ ρ ι f.
              rw (all_append (holds δ ε ρ) a.extra (b.extra ++ c.extra), all_append (holds δ ε ρ) b.extra c.extra)
              (and_i (H ρ a.extra) _ (i.complete ρ ι (fits_back ρ ι (grows_trans o.grows u.grows) f)) (and_i (H ρ b.extra) (H ρ c.extra) (o.complete ρ ι (fits_back ρ ι u.grows f)) (u.complete ρ ι f)));
        }

    -- ---- two new variables

    -- an Iff ties the variable v to the side c
    abbrev tied : Split BoolExpr → ℕ → List BoolExpr
    tied c v = c.extra ++ (Iff c.result (NVar v) ∷ [])

    tied_sound : (ρ : Val) (c : Split BoolExpr) (v : ℕ) (x : Bool) → H ρ (tied c v) ≡ true → (H ρ c.extra ≡ true → holds δ ε ρ c.result ≡ x) → ρ v ≡ x
    unfolding holds
    tied_sound ρ c v x h p =
        let k = rw (all_append (holds δ ε ρ) c.extra (Iff c.result (NVar v) ∷ [])) at h in
        let e : holds δ ε ρ c.result ≡ ρ v = beq_eq _ _ (and_l (beq (holds δ ε ρ c.result) (ρ v)) true (and_r (H ρ c.extra) _ k)) in
        sym e ∙ p (and_l (H ρ c.extra) _ k)

    tied_complete : (ρ : Val) (c : Split BoolExpr) (v : ℕ) (x : Bool) → ρ v ≡ x → H ρ c.extra ≡ true → (H ρ c.extra ≡ true → holds δ ε ρ c.result ≡ x) → H ρ (tied c v) ≡ true
    unfolding holds
    tied_complete ρ c v x e h p = rw (all_append (holds δ ε ρ) c.extra (Iff c.result (NVar v) ∷ []), p h, e, h, beq_same x) refl

    tied_bounded : (c : Split BoolExpr) (v k : ℕ) → exprs_bound c.extra ≤ k → expr_bound c.result ≤ k → suc v ≤ k → exprs_bound (tied c v) ≤ k
    unfolding expr_bound
    tied_bounded c v k h r l = exprs_bound_le k c.extra (Iff c.result (NVar v) ∷ []) h (omega arith)

    sides_keep : (f : BoolExpr → BoolExpr → BoolExpr) (m : Bool → Bool → Bool) → ((ρ : Val) (a b : BoolExpr) → holds δ ε ρ (f a b) ≡ m (holds δ ε ρ a) (holds δ ε ρ b)) → ((a b : BoolExpr) → expr_bound (f a b) ≤ max (expr_bound a) (expr_bound b))
        → (x y : BoolExpr) (p q : Splitter BoolExpr) → expr_bound x ≤ n → expr_bound y ≤ n → Keep of_bool p (λ ρ. holds δ ε ρ x) → Keep of_bool q (λ ρ. holds δ ε ρ y) → Keep of_bool (split_sides f x y p q) (λ ρ. m (holds δ ε ρ x) (holds δ ε ρ y))
    unfolding split_sides expr_bound holds
    sides_keep f m law low x y p q hx hy hp hq s h =
        let v : ℕ = next_bool s in
        let s₁ : Log = bool (side y) ∷ bool (side x) ∷ s in
        let g₁ : Grows δ ε s s₁ = grow {t = bool (side x) ∷ s} (bool (side y)) (omega arith) (grow {t = s} (bool (side x)) (omega arith) same) in
        let a = p s₁ in
        let i = hp s₁ (omega arith) in
        let b = q a.log in
        let o = hq a.log (omega (arith, grows_bool i.grows)) in
        let gi = grows_bool i.grows in
        let go = grows_bool o.grows in
        record {
          grows = grows_trans g₁ (grows_trans i.grows o.grows);
          bounded = omega (arith, low (NVar v) (NVar (suc v)), gi, go);
          extra_bounded = exprs_bound_le (next_bool b.log) (tied a v) (tied b (suc v))
              (tied_bounded a v (next_bool b.log) (omega (arith, i.extra_bounded, go)) (omega (arith, i.bounded, go)) (omega (arith, gi, go)))
              (tied_bounded b (suc v) (next_bool b.log) o.extra_bounded o.bounded (omega (arith, gi, go)));
          sound = λ ρ e.
              let k = rw (all_append (holds δ ε ρ) (tied a v) (tied b (suc v))) at e in
              law ρ (NVar v) (NVar (suc v)) ∙ rw (tied_sound ρ a v (holds δ ε ρ x) (and_l (H ρ (tied a v)) (H ρ (tied b (suc v))) k) (i.sound ρ), tied_sound ρ b (suc v) (holds δ ε ρ y) (and_r (H ρ (tied a v)) (H ρ (tied b (suc v))) k) (o.sound ρ)) refl;
          complete = λ ρ ι z.
              let za : Fits δ ε ρ ι a.log = fits_back ρ ι o.grows z in
              let zs : Fits δ ε ρ ι s₁ = fits_back ρ ι i.grows za in
              rw (all_append (holds δ ε ρ) (tied a v) (tied b (suc v)))
              (and_i (H ρ (tied a v)) (H ρ (tied b (suc v))) (tied_complete ρ a v (holds δ ε ρ x) zs.1.0 (i.complete ρ ι za) (i.sound ρ)) (tied_complete ρ b (suc v) (holds δ ε ρ y) zs.0 (o.complete ρ ι z) (o.sound ρ)));
        }

    mutual
      unfolding holds int_value expr_bound tseitin_transformation_bool

      split_keeps : (e : BoolExpr) (t : Bool) → expr_bound e ≤ n → Keep of_bool (tseitin_transformation_bool e t) (λ ρ. holds δ ε ρ e)
      split_keeps (Const b) t h = unsplit_keeps of_bool (Const b) (omega arith)
      split_keeps (Var v) t h = unsplit_keeps of_bool (Var v) (omega arith)
      split_keeps (NVar m) t h = unsplit_keeps of_bool (NVar m) (omega arith)
      split_keeps (And ms) t h = one_keeps of_members of_bool And (λ v. v.0) (λ ρ a. refl) (λ a. omega arith) (tseitin_transformation_members ms t) _ (splits_keep ms t h)
      split_keeps (Or ms) t h = one_keeps of_members of_bool Or (λ v. v.1) (λ ρ a. refl) (λ a. omega arith) (tseitin_transformation_members ms t) _ (splits_keep ms t h)
      split_keeps (Not e) t h = one_keeps of_bool of_bool Not not (λ ρ a. refl) (λ a. omega arith) (tseitin_transformation_bool e t) _ (split_keeps e t h)
      split_keeps (Xor a b) true h = sides_keep Xor (λ x y. not (beq x y)) (λ ρ c d. refl) (λ c d. omega arith) a b (tseitin_transformation_bool a true) (tseitin_transformation_bool b true) (omega arith) (omega arith) (split_keeps a true (omega arith)) (split_keeps b true (omega arith))
      split_keeps (Xor a b) false h = two_keeps of_bool of_bool of_bool Xor (λ x y. not (beq x y)) (λ ρ c d. refl) (λ c d. omega arith) (tseitin_transformation_bool a true) (tseitin_transformation_bool b true) _ _ (split_keeps a true (omega arith)) (split_keeps b true (omega arith))
      split_keeps (Iff a b) true h = sides_keep Iff beq (λ ρ c d. refl) (λ c d. omega arith) a b (tseitin_transformation_bool a true) (tseitin_transformation_bool b true) (omega arith) (omega arith) (split_keeps a true (omega arith)) (split_keeps b true (omega arith))
      split_keeps (Iff a b) false h = two_keeps of_bool of_bool of_bool Iff beq (λ ρ c d. refl) (λ c d. omega arith) (tseitin_transformation_bool a true) (tseitin_transformation_bool b true) _ _ (split_keeps a true (omega arith)) (split_keeps b true (omega arith))
      split_keeps (Imp a b) t h = two_keeps of_bool of_bool of_bool Imp (λ x y. not x || y) (λ ρ c d. refl) (λ c d. omega arith) (tseitin_transformation_bool a t) (tseitin_transformation_bool b t) _ _ (split_keeps a t (omega arith)) (split_keeps b t (omega arith))
      split_keeps (Cmp o a b) t h = two_keeps of_int of_int of_bool (Cmp o) (compare o) (λ ρ c d. refl) (λ c d. omega arith) (tseitin_transformation_int a) (tseitin_transformation_int b) _ _ (int_keeps a (omega arith)) (int_keeps b (omega arith))

      splits_keep : (ms : Members) (t : Bool) → members_bound ms ≤ n → Keep of_members (tseitin_transformation_members ms t) (λ ρ. (holds_all δ ε ρ ms, holds_any δ ε ρ ms))
      splits_keep mnil t h = unsplit_keeps of_members mnil (omega arith)
      splits_keep (more e ms) t h = two_keeps of_bool of_members of_members more (λ x y. (x && y.0, x || y.1)) (λ ρ c d. refl) (λ c d. omega arith) (tseitin_transformation_bool e t) (tseitin_transformation_members ms t) _ _ (split_keeps e t (omega arith)) (splits_keep ms t (omega arith))

      int_keeps : (e : IntExpr) → int_bound e ≤ n → Keep of_int (tseitin_transformation_int e) (λ ρ. int_value δ ε ρ e)
      int_keeps (IConst c) h = unsplit_keeps of_int (IConst c) (omega arith)
      int_keeps (IVar v) h = unsplit_keeps of_int (IVar v) (omega arith)
      int_keeps (Linear ts) h = one_keeps of_terms of_int Linear (λ v. v) (λ ρ a. refl) (λ a. omega arith) (tseitin_transformation_terms ts) _ (terms_keep ts h)
      int_keeps (If i c t f) h = if_keeps i (tseitin_transformation_bool c true) (tseitin_transformation_int t) (tseitin_transformation_int f) _ _ _ (split_keeps c true (omega arith)) (int_keeps t (omega arith)) (int_keeps f (omega arith))

      terms_keep : (ts : Terms) → terms_numbers ts ≤ n → Keep of_terms (tseitin_transformation_terms ts) (λ ρ. terms_value δ ε ρ ts)
      terms_keep tnil h = unsplit_keeps of_terms tnil (omega arith)
      terms_keep (tmore k e ts) h = two_keeps of_int of_terms of_terms (tmore k) (λ x y. k *ℤ x +ℤ y) (λ ρ c d. refl) (λ c d. omega arith) (tseitin_transformation_int e) (tseitin_transformation_terms ts) _ _ (int_keeps e (omega arith)) (terms_keep ts (omega arith))

  -- a rule, under an Xor, Iff or If if t
  pub split_means : (e : BoolExpr) (t : Bool) (s : Log) → expr_bound e ≤ next_bool s → SplitMeans of_bool s (tseitin_transformation_bool e t s) (λ ρ. holds δ ε ρ e)
  split_means e t s h = split_keeps (next_bool s) e t h s (omega arith)
