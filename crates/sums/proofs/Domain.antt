-- The domain of a linear sum: it holds every value that the sum takes, and has no more values than the span of the written expression.
use Rattle.std.specs.Prelude.{◌≡◌, refl, Bool, true, false, ◌&&◌, ◌||◌, ℕ, ℤ, ◌+ℤ◌, ◌*ℤ◌}
use mathlib.Core.List.{List, [], ◌∷◌}
use Rattle.std.proofs.Math.IntN.{+ℤ_idr, +ℤ_assoc}
use Rattle.std.specs.Int.Signed.{le_z, lt_z}
use Rattle.laws.specs.Bools.{and_l, and_r, and_i, never}
use Rattle.laws.specs.Ints.{eqZ, times_low, times_high}
use Rattle.laws.specs.Order.{eqZ_is, leZ_refl, leZ_trans, leZ_lt, leZ_add, times_low_le, times_high_le}
use Rattle.laws.specs.Lists.{any}
use Rattle.syntax.specs.Syntax.{Domain, Range, Enumerative, last_or, lower_bound, upper_bound, in_domain}
use Rattle.syntax.specs.Satisfies.{IVal}
use Rattle.sums.specs.LinearSum.{Term, term, LinearSum, linear_sum, lowest, highest, get_domain_linear_sum, sum_terms_value, sum_value}
use Rattle.sums.specs.Rising.{terms_of, Each}

-- ---- a domain's values lie between its bounds

abbrev pub rising_from : ℤ → List ℤ → Bool
rising_from x [] = true
rising_from x (y ∷ ys) = lt_z x y && rising_from y ys

-- neither empty nor unordered: what refusal 7 leaves
abbrev pub ordered : Domain → Bool
ordered (Range low high) = le_z low high
ordered (Enumerative []) = false
ordered (Enumerative (x ∷ xs)) = rising_from x xs

abbrev pub between : Domain → ℤ → Bool
between d x = le_z (lower_bound d) x && le_z x (upper_bound d)

first_last : (x : ℤ) (xs : List ℤ) → rising_from x xs ≡ true → le_z x (last_or x xs) ≡ true
first_last x [] h = leZ_refl x
first_last x (y ∷ ys) h = leZ_trans x y (last_or y ys) (leZ_lt x y (and_l (lt_z x y) (rising_from y ys) h)) (first_last y ys (and_r (lt_z x y) (rising_from y ys) h))

values_between : (z x : ℤ) (xs : List ℤ) → rising_from x xs ≡ true → any (eqZ z) (x ∷ xs) ≡ true → le_z x z && le_z z (last_or x xs) ≡ true
values_between z x [] r h = go (eqZ z x) refl h
  where
    go : (t : Bool) → eqZ z x ≡ t → t || false ≡ true → le_z x z && le_z z x ≡ true
    go true e h = rw (eqZ_is z x e, leZ_refl x) refl
    go false e h = never h
values_between z x (y ∷ ys) r h = go (eqZ z x) refl h (values_between z y ys (and_r (lt_z x y) (rising_from y ys) r))
  where
    go : (t : Bool) → eqZ z x ≡ t → t || any (eqZ z) (y ∷ ys) ≡ true → (any (eqZ z) (y ∷ ys) ≡ true → le_z y z && le_z z (last_or y ys) ≡ true) → le_z x z && le_z z (last_or y ys) ≡ true
    go true e h f = rw (eqZ_is z x e) (and_i (le_z x x) (le_z x (last_or y ys)) (leZ_refl x) (first_last x (y ∷ ys) r))
    go false e h f = and_i (le_z x z) (le_z z (last_or y ys))
        (leZ_trans x y z (leZ_lt x y (and_l (lt_z x y) (rising_from y ys) r)) (and_l (le_z y z) (le_z z (last_or y ys)) (f h)))
        (and_r (le_z y z) (le_z z (last_or y ys)) (f h))

pub domain_between : (d : Domain) (x : ℤ) → ordered d ≡ true → in_domain x d ≡ true → between d x ≡ true
domain_between (Range low high) x o h = h
domain_between (Enumerative []) x o h = never o
domain_between (Enumerative (y ∷ ys)) x o h = values_between x y ys o h

-- ---- every value of the sum

module _ (domain : ℕ → Domain) (ι : IVal) where
  low_holds : (c x : ℤ) (ts : List Term) → le_z c x ≡ true → Each (λ v. between (domain v) (ι v) ≡ true) ts → le_z (lowest domain c ts) (x +ℤ sum_terms_value ι ts) ≡ true
  unfolding lowest Each
  low_holds c x [] h e = rw (+ℤ_idr x) h
  low_holds c x (term v a ∷ ts) h e =
      let l = and_l (le_z (lower_bound (domain v)) (ι v)) (le_z (ι v) (upper_bound (domain v))) e.0 in
      let u = and_r (le_z (lower_bound (domain v)) (ι v)) (le_z (ι v) (upper_bound (domain v))) e.0 in
      let t = times_low a (lower_bound (domain v)) (upper_bound (domain v)) in
      rw (← +ℤ_assoc x (a *ℤ ι v) (sum_terms_value ι ts)) (low_holds (c +ℤ t) (x +ℤ a *ℤ ι v) ts (leZ_add c x t (a *ℤ ι v) h (times_low_le a (lower_bound (domain v)) (upper_bound (domain v)) (ι v) l u)) e.1)

  high_holds : (c x : ℤ) (ts : List Term) → le_z x c ≡ true → Each (λ v. between (domain v) (ι v) ≡ true) ts → le_z (x +ℤ sum_terms_value ι ts) (highest domain c ts) ≡ true
  unfolding highest Each
  high_holds c x [] h e = rw (+ℤ_idr x) h
  high_holds c x (term v a ∷ ts) h e =
      let l = and_l (le_z (lower_bound (domain v)) (ι v)) (le_z (ι v) (upper_bound (domain v))) e.0 in
      let u = and_r (le_z (lower_bound (domain v)) (ι v)) (le_z (ι v) (upper_bound (domain v))) e.0 in
      let t = times_high a (lower_bound (domain v)) (upper_bound (domain v)) in
      rw (← +ℤ_assoc x (a *ℤ ι v) (sum_terms_value ι ts)) (high_holds (c +ℤ t) (x +ℤ a *ℤ ι v) ts (leZ_add x c (a *ℤ ι v) t h (times_high_le a (lower_bound (domain v)) (upper_bound (domain v)) (ι v) l u)) e.1)

  pub domain_holds : (l : LinearSum) → Each (λ v. between (domain v) (ι v) ≡ true) (terms_of l) → in_domain (sum_value ι l) (get_domain_linear_sum domain l) ≡ true
  unfolding get_domain_linear_sum
  domain_holds (linear_sum c ts) e =
      and_i (le_z (lowest domain c ts) (c +ℤ sum_terms_value ι ts)) (le_z (c +ℤ sum_terms_value ι ts) (highest domain c ts)) (low_holds c c ts (leZ_refl c) e) (high_holds c c ts (leZ_refl c) e)
