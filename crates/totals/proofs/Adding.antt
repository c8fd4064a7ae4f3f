-- Laws of the loop over a sum's terms that adds up its bounds. Assumes nothing.
use mathlib.Core.Path.{◌≡◌, refl, sym, ap, ◌∙◌, subst}
use mathlib.Core.List.{List, ◌∷◌}
use Prim.Native.Nat.{ℕ, suc, ◌+◌, ◌*◌, ◌<◌, ◌≤◌, ◌^◌}
use native.Mathlib.Nat.{mul-le-mul_left, lt_of_le_of_lt}
use native.Mathlib.Numerals.{add-one}
use native.Mathlib.Omega.{arith}
use lib.IntN.{ℤ, nat_abs, ◌+ℤ◌}
use lib.ListN.{length, drop, drop_of_length-le}
use mir.Syntax.{w32}
use mir.Val.{SFits}
use Rattle.laws.specs.Ints.{times_low, times_high, times_exchanged, times_low_size, natAbs_add, sfits_natAbs}
use Rattle.syntax.specs.Syntax.{Domain, Range, lower_bound, upper_bound}
use Rattle.sums.specs.LinearSum.{Term, term, LinearSum, lowest, highest, get_domain_linear_sum}
use Rattle.sums.specs.Norm.{norm, load}
use Rattle.sums.specs.Bounds.{reach}
use Rattle.sums.specs.Struct.{terms, Is}
use Rattle.sums.specs.declared.LinearSum.{LinearSum as Sum}
use Rattle.sums.proofs.Laws.{stands_sum}
use Rattle.walk.specs.declared.Counters.{Counters}
use Rattle.walks.specs.Tree.{Splitting}
use Rattle.walks.specs.Meet.{found, range_of}
use Rattle.declared.specs.DomainTable.{Declares}
use Rattle.totals.specs.declared.Interval.{Interval}
use Rattle.totals.specs.declared.Nested.{Nested}
use Rattle.totals.specs.Linear.{Linear}
use Rattle.totals.specs.Ranges.{Found, bounds_of, range_at, Finds, Bounded, Bounds, Ranging, Ranges}

-- ---- a turn of lowest and highest

module _ (domain : ℕ → Domain) (T : List Term) (i v : ℕ) (k : ℤ) (d : drop i T ≡ term v k ∷ drop (suc i) T) where
  low_more : (c y : ℤ) → lowest domain c (drop i T) ≡ y → lowest domain (c +ℤ times_low k (lower_bound (domain v)) (upper_bound (domain v))) (drop (i + 1) T) ≡ y
  unfolding lowest
  low_more c y p = rw add-one (sym (ap (lowest domain c) d) ∙ p)

  high_more : (c y : ℤ) → highest domain c (drop i T) ≡ y → highest domain (c +ℤ times_high k (lower_bound (domain v)) (upper_bound (domain v))) (drop (i + 1) T) ≡ y
  unfolding highest
  high_more c y p = rw add-one (sym (ap (highest domain c) d) ∙ p)

  norm_more : norm (λ u. reach (domain u)) (drop i T) ≡ nat_abs k * reach (domain v) + norm (λ u. reach (domain u)) (drop (i + 1) T)
  unfolding norm
  norm_more = rw add-one (ap (norm (λ u. reach (domain u))) d)

-- ---- the invariant: with the terms to come, x and y become the bounds of the whole; and they stay small

module _ (w : List ℤ) (l : ℕ) (m : Splitting) (at base : ℕ) (n : Counters) (s : Sum) where
  abbrev Of : List Domain → ℕ → Domain
  Of ds v = found (range_at w l m at base n ds v)

  pub record Adding (x y : ℤ) (i : ℕ) : Type 0 where
    pub inside : i ≤ s.count
    pub low : (ds : List Domain) → Declares ds w → lowest (λ v. found (range_at w l m at base n ds v)) x (drop i (terms s)) ≡ lowest (λ v. found (range_at w l m at base n ds v)) s.constant (terms s)
    pub high : (ds : List Domain) → Declares ds w → highest (λ v. found (range_at w l m at base n ds v)) y (drop i (terms s)) ≡ highest (λ v. found (range_at w l m at base n ds v)) s.constant (terms s)
    pub domains : List Domain
    pub declares : Declares domains w
    pub low_light : nat_abs x + norm (λ v. reach (found (range_at w l m at base n domains v))) (drop i (terms s)) < 2 ^ 31
    pub high_light : nat_abs y + norm (λ v. reach (found (range_at w l m at base n domains v))) (drop i (terms s)) < 2 ^ 31

  pub adding_start : Bounded w l m at base n s → Adding s.constant s.constant 0
  unfolding load
  adding_start h = record { inside = omega arith; low = λ ds d. refl; high = λ ds d. refl; domains = h.domains; declares = h.declares; low_light = h.light; high_light = h.light }

  pub adding_end : (x y : ℤ) (i : ℕ) → Adding x y i → s.count ≤ i → Is s s.constant (terms s) → Bounds w l m at base n s x y
  unfolding lowest highest get_domain_linear_sum
  adding_end x y i g h o ds d =
      let q : length (terms s) ≤ i = let k = o.size in omega arith in
      let e = drop_of_length-le (terms s) q in
      let a : x ≡ lowest (Of ds) s.constant (terms s) = sym (ap (lowest (Of ds) x) e) ∙ g.low ds d in
      let b : y ≡ highest (Of ds) s.constant (terms s) = sym (ap (highest (Of ds) y) e) ∙ g.high ds d in
      ap (λ (z : ℤ). Range z y) a ∙ ap (Range (lowest (Of ds) s.constant (terms s))) b

  -- the term of v; f: its bounds
  module _ (x y : ℤ) (i : ℕ) (g : Adding x y i) (v : ℕ) (k : ℤ) (t : drop i (terms s) ≡ term v k ∷ drop (suc i) (terms s)) (f : Found) (d : Interval) (e : d ≡ bounds_of f) (h : Finds w l m at base n v f) where
    low_is : (ds : List Domain) → Declares ds w → d.low ≡ lower_bound (Of ds v)
    low_is ds c = ap (λ (j : Interval). j.low) e ∙ (h ds c).low

    high_is : (ds : List Domain) → Declares ds w → d.high ≡ upper_bound (Of ds v)
    high_is ds c = ap (λ (j : Interval). j.high) e ∙ (h ds c).high

    reach_is : reach (Of g.domains v) ≡ reach (Range d.low d.high)
    reach_is = rw (← low_is g.domains g.declares, ← high_is g.domains g.declares) refl

    whole : nat_abs k * reach (Range d.low d.high) + norm (λ u. reach (Of g.domains u)) (drop (i + 1) (terms s)) ≡ norm (λ u. reach (Of g.domains u)) (drop i (terms s))
    whole = rw (← reach_is) (sym (norm_more (Of g.domains) (terms s) i v k t))

    pub low_asks : (nat_abs k * nat_abs d.low < 2 ^ 31) × (nat_abs k * nat_abs d.high < 2 ^ 31)
    low_asks =
        let e = g.low_light in
        let q : nat_abs k * reach (Range d.low d.high) < 2 ^ 31 = omega (arith, whole) in
        (lt_of_le_of_lt (mul-le-mul_left (nat_abs k) (omega arith)) q, lt_of_le_of_lt (mul-le-mul_left (nat_abs k) (omega arith)) q)

    light_more : (c p : ℤ) → nat_abs p ≤ nat_abs k * reach (Range d.low d.high) → nat_abs c + norm (λ u. reach (Of g.domains u)) (drop i (terms s)) < 2 ^ 31 → nat_abs (c +ℤ p) + norm (λ u. reach (Of g.domains u)) (drop (i + 1) (terms s)) < 2 ^ 31
    light_more c p a b = omega (arith, whole, natAbs_add c p)

    low_light : nat_abs (x +ℤ times_low k d.low d.high) + norm (λ u. reach (Of g.domains u)) (drop (i + 1) (terms s)) < 2 ^ 31
    low_light = light_more x (times_low k d.low d.high) (times_low_size k d.low d.high (reach (Range d.low d.high)) (omega arith) (omega arith)) g.low_light

    high_light : nat_abs (y +ℤ times_low k d.high d.low) + norm (λ u. reach (Of g.domains u)) (drop (i + 1) (terms s)) < 2 ^ 31
    high_light = light_more y (times_low k d.high d.low) (times_low_size k d.high d.low (reach (Range d.low d.high)) (omega arith) (omega arith)) g.high_light

    pub low_fits : SFits w32 (x +ℤ times_low k d.low d.high)
    low_fits = sfits_natAbs w32 _ (omega (arith, low_light))

    pub high_fits : SFits w32 (y +ℤ times_low k d.high d.low)
    high_fits = sfits_natAbs w32 _ (omega (arith, high_light))

    pub adding_next : i < s.count → Adding (x +ℤ times_low k d.low d.high) (y +ℤ times_low k d.high d.low) (i + 1)
    adding_next z = record {
      inside = omega arith;
      low = λ ds c. rw (low_is ds c, high_is ds c) (low_more (Of ds) (terms s) i v k t x _ (g.low ds c));
      high = λ ds c. rw (times_exchanged k d.low d.high, low_is ds c, high_is ds c) (high_more (Of ds) (terms s) i v k t y _ (g.high ds c));
      domains = g.domains;
      declares = g.declares;
      low_light = low_light;
      high_light = high_light;
    }

-- ---- the sum of the expression itself

module _ (w : List ℤ) (l : ℕ) (m : Splitting) (at base : ℕ) (n : Counters) (a : Nested) (o : Linear w l m at base n a) where
  pub range_bounded : Ranging w l m at base n → Bounded w l m at base n a.sum
  range_bounded h = record {
    room = (o.sum h.domains).room;
    domains = h.domains;
    declares = h.declares;
    branches = h.branches;
    light = subst (λ (t : LinearSum). load (λ v. reach (found (range_at w l m at base n h.domains v))) t < 2 ^ 31) (sym (stands_sum a.sum _ (o.sum h.domains))) h.light;
  }

  pub range_is : (x y : ℤ) → Bounds w l m at base n a.sum x y → Ranges w l m at base n x y
  unfolding range_of
  range_is x y h ds d = h ds d ∙ ap (get_domain_linear_sum (λ v. found (range_at w l m at base n ds v))) (stands_sum a.sum _ (o.sum ds))
