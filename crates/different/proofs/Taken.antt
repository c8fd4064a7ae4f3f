-- Different values of a list that is no longer than they are many take all of it. So the rules of AllDifferent hold exactly when the values differ pairwise.
use Rattle.std.specs.Prelude.{◌≡◌, Bool, true, false, ◌&&◌, ◌||◌, cond, suc, ◌≤◌, ℤ}
use Rattle.std.proofs.Math.Path.{refl, ap}
use Rattle.std.proofs.Common.{◌∙◌, arith}
use Rattle.std.proofs.Math.Bool.{not}
use mathlib.Core.List.{List, [], ◌∷◌, map}
use Rattle.std.proofs.Math.ListN.{length, length-map}
use Rattle.std.proofs.lemmas.Bool.{not-true}
use Rattle.laws.specs.Bools.{and_l, and_r, and_i, never, or_l, or_r, or_no_l, or_no_r, eq2}
use Rattle.laws.specs.Ints.{eqZ}
use Rattle.laws.specs.Order.{eqZ_is, eqZ_refl, eqZ_sym}
use Rattle.laws.specs.Lists.{all, all_append}
use Rattle.syntax.specs.Syntax.{Ne, IntExpr, BoolExpr, Cmp}
use Rattle.syntax.specs.Satisfies.{Val, IVal, int_value, holds, holds_any, distinct}
use Rattle.tables.specs.Domains.{has}
use Rattle.different.specs.Different.{pair_rules, each_equals, value_rule}

-- ds without the first x
abbrev less : ℤ → List ℤ → List ℤ
less x [] = []
less x (y ∷ ys) = cond (eqZ x y) ys (y ∷ less x ys)

less_length : (x : ℤ) (ds : List ℤ) → has x ds ≡ true → length ds ≡ suc (length (less x ds))
less_length x [] h = never h
less_length x (y ∷ ys) h = go (eqZ x y) h (λ k. less_length x ys k)
  where
    go : (t : Bool) → (t || has x ys) ≡ true → (has x ys ≡ true → length ys ≡ suc (length (less x ys))) → suc (length ys) ≡ suc (length (cond t ys (y ∷ less x ys)))
    go true k r = refl
    go false k r = ap suc (r k)

less_has : (d x : ℤ) (ds : List ℤ) → eqZ d x ≡ false → has d (less x ds) ≡ has d ds
less_has d x [] n = refl
less_has d x (y ∷ ys) n = go (eqZ x y) refl (less_has d x ys n)
  where
    go : (t : Bool) → eqZ x y ≡ t → has d (less x ys) ≡ has d ys → has d (cond t ys (y ∷ less x ys)) ≡ has d (y ∷ ys)
    go true e r = let q : eqZ d y ≡ false = rw (← eqZ_is x y e) n in rw q refl
    go false e r = ap (λ (b : Bool). eqZ d y || b) r

-- what differs from x and stands in ds stands in what is left of ds
rest_has : (x : ℤ) (ds xs : List ℤ) → has x xs ≡ false → all (λ y. has y ds) xs ≡ true → all (λ y. has y (less x ds)) xs ≡ true
rest_has x ds [] n h = refl
rest_has x ds (y ∷ ys) n h =
    let a : eqZ y x ≡ false = eqZ_sym y x ∙ or_no_l (eqZ x y) (has x ys) n in
    and_i _ _ (less_has y x ds a ∙ and_l (has y ds) _ h) (rest_has x ds ys (or_no_r (eqZ x y) (has x ys) n) (and_r (has y ds) _ h))

pub taken : (xs ds : List ℤ) → distinct xs ≡ true → all (λ x. has x ds) xs ≡ true → length ds ≤ length xs → (d : ℤ) → has d ds ≡ true → has d xs ≡ true
unfolding distinct
taken [] [] u h l d k = never k
taken [] (y ∷ ys) u h l d k = absurd (omega arith)
taken (x ∷ xs) ds u h l d k =
    let n : has x xs ≡ false = not-true (has x xs) (and_l _ _ u) in
    let i : has x ds ≡ true = and_l (has x ds) _ h in
    let m = less_length x ds i in
    go (eqZ d x) refl (λ e. taken xs (less x ds) (and_r (not (has x xs)) _ u) (rest_has x ds xs n (and_r (has x ds) _ h)) (omega arith) d (less_has d x ds e ∙ k))
  where
    go : (t : Bool) → eqZ d x ≡ t → (eqZ d x ≡ false → has d xs ≡ true) → (eqZ d x || has d xs) ≡ true
    go true e r = or_l _ _ e
    go false e r = or_r (eqZ d x) _ (r e)

-- ---- the rules

module _ (δ : Val) (ε : IVal) (ρ : Val) where
  abbrev truth : BoolExpr → Bool
  truth = holds δ ε ρ

  abbrev values : List IntExpr → List ℤ
  values es = map (int_value δ ε ρ) es

  one_pairs : (e : IntExpr) (es : List IntExpr) → all truth (map (Cmp Ne e) es) ≡ not (has (int_value δ ε ρ e) (values es))
  unfolding holds
  one_pairs e [] = refl
  one_pairs e (f ∷ fs) = ap (λ (b : Bool). not (eqZ (int_value δ ε ρ e) (int_value δ ε ρ f)) && b) (one_pairs e fs) ∙ both (eqZ (int_value δ ε ρ e) (int_value δ ε ρ f)) (has (int_value δ ε ρ e) (values fs))
    where
      both : (a b : Bool) → not a && not b ≡ not (a || b)
      both = eq2 _ _ refl

  -- the Ne rules of all pairs hold exactly when the values differ pairwise
  pub pairs_hold : (es : List IntExpr) → all truth (pair_rules es) ≡ distinct (values es)
  unfolding distinct pair_rules
  pairs_hold [] = refl
  pairs_hold (e ∷ es) = all_append truth (map (Cmp Ne e) es) (pair_rules es) ∙ rw (one_pairs e es, pairs_hold es) refl

  value_holds : (x : ℤ) (es : List IntExpr) → holds_any δ ε ρ (each_equals x es) ≡ has x (values es)
  unfolding holds int_value
  value_holds x [] = refl
  value_holds x (e ∷ es) = rw (value_holds x es, eqZ_sym (int_value δ ε ρ e) x) refl

  -- and then no rule of a value excludes them, if their values are among no more than they are
  pub values_hold : (es : List IntExpr) (ds : List ℤ) → distinct (values es) ≡ true → all (λ x. has x ds) (values es) ≡ true → length ds ≤ length es → all truth (map (value_rule es) ds) ≡ true
  unfolding holds
  values_hold es ds u h l = each ds (λ d k. k)
    where
      long : length ds ≤ length (values es)
      long = omega (arith, length-map es (int_value δ ε ρ))

      one : (d : ℤ) → has d ds ≡ true → truth (value_rule es d) ≡ true
      one d k = value_holds d es ∙ taken (values es) ds u h long d k

      each : (xs : List ℤ) → ((d : ℤ) → has d xs ≡ true → has d ds ≡ true) → all truth (map (value_rule es) xs) ≡ true
      each [] f = refl
      each (x ∷ xs) f = and_i _ _ (one x (f x (or_l _ _ (eqZ_refl x)))) (each xs (λ d k. f d (or_r (eqZ d x) _ k)))
