-- What holds of the definitions of specs/Total.
use Rattle.std.specs.Prelude.{◌≡◌, Bool, ◌||◌, List, ℕ, ◌+◌, ◌*◌, ◌≤◌, max, min, ℤ, nat_abs, eqb}
use Rattle.std.proofs.Math.Path.{refl, sym}
use Rattle.std.proofs.Common.{ap, ◌∙◌}
use Rattle.std.proofs.Math.Bool.{true, false, cond}
use native.Mathlib.Omega.{arith}
use Rattle.std.proofs.Math.Dec.{ltb}
use borrow.Author.Tests.{ltb-true, ltb-false, lt-ltb, le-ltb, ne_eqb}
use Rattle.laws.specs.Bools.{or_no_l}
use Rattle.std.specs.Int.Signed.{le_z}
use Rattle.laws.specs.Ints.{times_low, times_high, lower, higher, natAbs_add, times_low_size, times_high_size}
use Rattle.syntax.specs.Words.{max_weight}
use Rattle.syntax.specs.Syntax.{Domain, lower_bound, upper_bound, domain_of, IntExpr, IConst, IVar, Linear, If, Terms, tnil, tmore}
use Rattle.limits.specs.Limits.{domain_weight, weight, terms_weight, heavy, heavy_terms, heavy_comparison, interval, terms_interval}
use Rattle.limits.specs.Total.{Bounded, bounds_total, cap, constant_total, joined, product, terms_total, total}

pub joined_cap : (a b : ℕ) → joined a b ≤ cap
unfolding joined
joined_cap a b = omega arith

pub joined_assoc : (a b c : ℕ) → joined (joined a b) c ≡ joined a (joined b c)
unfolding joined
joined_assoc a b c = omega arith

pub joined_none : (a : ℕ) → a ≤ cap → joined 0 a ≡ a
unfolding joined
joined_none a h = omega arith

module _ (ds : List Domain) where
  pub terms_total_cap : (ts : Terms) → terms_total ds ts ≤ cap
  unfolding total
  terms_total_cap tnil = omega arith
  terms_total_cap (tmore k e ts) = joined_cap (product (nat_abs k) (total ds e)) (terms_total ds ts)

  pub total_cap : (e : IntExpr) → total ds e ≤ cap
  unfolding total constant_total bounds_total
  total_cap (IConst c) = omega arith
  total_cap (IVar v) = omega arith
  total_cap (Linear ts) = terms_total_cap ts
  total_cap (If i c t f) = omega (arith, total_cap t, total_cap f)

-- one of the two, within the heavier
either_small : (t : Bool) (x y : ℤ) (a b : ℕ) → nat_abs x ≤ a → nat_abs y ≤ b → nat_abs (cond t x y) ≤ max 1 (max a b)
either_small true x y a b h k = omega arith
either_small false x y a b h k = omega arith

pub lower_small : (x y : ℤ) (a b : ℕ) → nat_abs x ≤ a → nat_abs y ≤ b → nat_abs (lower x y) ≤ max 1 (max a b)
lower_small x y a b h k = either_small (le_z x y) x y a b h k

pub higher_small : (x y : ℤ) (a b : ℕ) → nat_abs x ≤ a → nat_abs y ≤ b → nat_abs (higher x y) ≤ max 1 (max a b)
higher_small x y a b h k = omega (arith, either_small (le_z x y) y x b a k h)

-- ---- 9: the weight, where no part weighs too much

capped : (n : ℕ) → min n cap ≡ cond (ltb max_weight n) cap n
capped n = go (ltb max_weight n) refl
  where
    go : (t : Bool) → ltb max_weight n ≡ t → min n cap ≡ cond t cap n
    go true e = omega (arith, ltb-true max_weight n e)
    go false e = omega (arith, ltb-false max_weight n e)

product_heavy : (k : ℕ) → product k cap ≡ cap
unfolding product
product_heavy k = refl

product_light : (k w : ℕ) → w ≤ max_weight → product k w ≡ min (k * w) cap
unfolding product
product_light k w h = rw (ne_eqb w cap (λ e. omega arith)) refl

-- a term and the rest, by whether the term and a part of the rest weigh too much
join_weights : (k w tw : ℕ) (h g : Bool) → (h ≡ false → w ≤ max_weight)
    → joined (product k (cond h cap w)) (cond (ltb max_weight tw || g) cap tw) ≡ cond (ltb max_weight (k * w + tw) || (h || g)) cap (k * w + tw)
unfolding joined
join_weights k w tw true g l = rw (product_heavy k) (both (ltb max_weight (k * w + tw)))
  where
    both : (b : Bool) → min (cap + cond (ltb max_weight tw || g) cap tw) cap ≡ cond (b || true) cap (k * w + tw)
    both true = omega arith
    both false = omega arith
join_weights k w tw false true l = rw (product_light k w (l refl)) (both (ltb max_weight tw) (ltb max_weight (k * w + tw)))
  where
    both : (a b : Bool) → min (min (k * w) cap + cond (a || true) cap tw) cap ≡ cond (b || true) cap (k * w + tw)
    both true true = omega arith
    both true false = omega arith
    both false true = omega arith
    both false false = omega arith
join_weights k w tw false false l = rw (product_light k w (l refl)) (both (ltb max_weight tw) (ltb max_weight (k * w + tw)) refl refl)
  where
    both : (a b : Bool) → ltb max_weight tw ≡ a → ltb max_weight (k * w + tw) ≡ b → min (min (k * w) cap + cond (a || false) cap tw) cap ≡ cond (b || false) cap (k * w + tw)
    both true true p q = omega arith
    both true false p q = absurd (omega (arith, ltb-true max_weight tw p, ltb-false max_weight (k * w + tw) q))
    both false true p q = omega (arith, ltb-false max_weight tw p, ltb-true max_weight (k * w + tw) q)
    both false false p q = omega (arith, ltb-false max_weight tw p, ltb-false max_weight (k * w + tw) q)

-- the heavier of two branches, by whether a part of each weighs too much
heavier : (x y : ℕ) (h g : Bool) → (h ≡ false → x ≤ max_weight) → (g ≡ false → y ≤ max_weight)
    → max 1 (max (cond h cap x) (cond g cap y)) ≡ cond (ltb max_weight (max 1 (max x y)) || (h || g)) cap (max 1 (max x y))
heavier x y h g l k = go h g (ltb max_weight (max 1 (max x y))) refl l k
  where
    go : (h g b : Bool) → ltb max_weight (max 1 (max x y)) ≡ b → (h ≡ false → x ≤ max_weight) → (g ≡ false → y ≤ max_weight)
        → max 1 (max (cond h cap x) (cond g cap y)) ≡ cond (b || (h || g)) cap (max 1 (max x y))
    go true true true q l k = omega arith
    go true true false q l k = omega arith
    go true false true q l k = omega (arith, k refl)
    go true false false q l k = omega (arith, k refl)
    go false true true q l k = omega (arith, l refl)
    go false true false q l k = omega (arith, l refl)
    go false false true q l k = absurd (omega (arith, l refl, k refl, ltb-true max_weight (max 1 (max x y)) q))
    go false false false q l k = refl

module _ (ds : List Domain) where
  light_weight : (e : IntExpr) → heavy ds e ≡ false → weight ds e ≤ max_weight
  unfolding heavy
  light_weight (IConst c) h = ltb-false max_weight (weight ds (IConst c)) h
  light_weight (IVar v) h = ltb-false max_weight (weight ds (IVar v)) h
  light_weight (If i c t f) h = ltb-false max_weight (weight ds (If i c t f)) (or_no_l (ltb max_weight (weight ds (If i c t f))) (heavy ds t || heavy ds f) h)
  light_weight (Linear ts) h = ltb-false max_weight (weight ds (Linear ts)) (or_no_l (ltb max_weight (weight ds (Linear ts))) (heavy_terms ds ts) h)

  module _ (b : Bounded ds) where
    mutual
      unfolding total heavy weight constant_total bounds_total

      pub total_weight : (e : IntExpr) → total ds e ≡ cond (heavy ds e) cap (weight ds e)
      total_weight (IConst c) = capped (nat_abs c)
      total_weight (IVar v) = ap (λ n. min n cap) (sym (b.weights v)) ∙ capped (domain_weight (domain_of ds v))
      total_weight (If i c t f) = rw (total_weight t, total_weight f) (heavier (weight ds t) (weight ds f) (heavy ds t) (heavy ds f) (light_weight t) (light_weight f))
      total_weight (Linear ts) = terms_total_weight ts

      terms_total_weight : (ts : Terms) → terms_total ds ts ≡ cond (ltb max_weight (terms_weight ds ts) || heavy_terms ds ts) cap (terms_weight ds ts)
      terms_total_weight tnil = refl
      terms_total_weight (tmore k e ts) =
          rw (total_weight e, terms_total_weight ts) (join_weights (nat_abs k) (weight ds e) (terms_weight ds ts) (heavy ds e) (heavy_terms ds ts) (light_weight e))

    pub heavy_total : (e : IntExpr) → heavy ds e ≡ ltb max_weight (total ds e)
    heavy_total e = go (heavy ds e) refl
      where
        go : (t : Bool) → heavy ds e ≡ t → t ≡ ltb max_weight (total ds e)
        go true q = sym (rw (total_weight e, q) (lt-ltb max_weight cap (omega arith)))
        go false q = sym (rw (total_weight e, q) (le-ltb max_weight (weight ds e) (light_weight e q)))

    pub heavy_comparison_total : (x y : IntExpr) → heavy_comparison ds x y ≡ ltb max_weight (total ds x + total ds y)
    unfolding heavy_comparison
    heavy_comparison_total x y = rw (total_weight x, total_weight y) (go (heavy ds x) (heavy ds y))
      where
        go : (s t : Bool) → s || (t || ltb max_weight (weight ds x + weight ds y)) ≡ ltb max_weight (cond s cap (weight ds x) + cond t cap (weight ds y))
        go true t = sym (lt-ltb max_weight (cap + cond t cap (weight ds y)) (omega arith))
        go false true = sym (lt-ltb max_weight (weight ds x + cap) (omega arith))
        go false false = refl

    -- ---- 11: lowest and highest value lie within the weight

    mutual
      unfolding interval weight

      pub interval_small : (e : IntExpr) → (nat_abs (interval ds e).0 ≤ weight ds e) × (nat_abs (interval ds e).1 ≤ weight ds e)
      interval_small (IConst c) = (omega arith, omega arith)
      interval_small (IVar v) = (omega (arith, b.weights v), omega (arith, b.weights v))
      interval_small (If i c t f) = (
        lower_small (interval ds t).0 (interval ds f).0 (weight ds t) (weight ds f) (interval_small t).0 (interval_small f).0,
        higher_small (interval ds t).1 (interval ds f).1 (weight ds t) (weight ds f) (interval_small t).1 (interval_small f).1,
      )
      interval_small (Linear ts) = terms_small ts

      terms_small : (ts : Terms) → (nat_abs (terms_interval ds ts).0 ≤ terms_weight ds ts) × (nat_abs (terms_interval ds ts).1 ≤ terms_weight ds ts)
      terms_small tnil = (omega arith, omega arith)
      terms_small (tmore k e ts) =
          let i = interval_small e in
          let r = terms_small ts in
          let l = times_low k (interval ds e).0 (interval ds e).1 in
          let h = times_high k (interval ds e).0 (interval ds e).1 in (
            omega (arith, natAbs_add l (terms_interval ds ts).0, times_low_size k (interval ds e).0 (interval ds e).1 (weight ds e) i.0 i.1, r.0),
            omega (arith, natAbs_add h (terms_interval ds ts).1, times_high_size k (interval ds e).0 (interval ds e).1 (weight ds e) i.0 i.1, r.1),
          )
