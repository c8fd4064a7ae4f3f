-- What holds of the definitions of specs/Bounds.
use Rattle.std.specs.Prelude.{◌≡◌, refl, false, ◌||◌, ℕ, ◌+◌, ◌*◌, ◌≤◌, max, eqb, ℤ, pos, negsuc, nat_abs, ◌+ℤ◌, take}
use mathlib.Core.List.{List, [], ◌∷◌, ◌++◌}
use Rattle.std.proofs.Common.{mul-le-mul_left}
use native.Mathlib.Omega.{arith}
use Rattle.std.proofs.Math.Dec.{ltb}
use Rattle.std.proofs.Math.ListN.{length}
use borrow.Author.Tests.{eq-eqb, ltb-false}
use Rattle.laws.specs.Bools.{or_l, or_no_l, or_no_r}
use Rattle.laws.specs.Ints.{times_low, times_high, natAbs_add, times_low_size, times_high_size}
use Rattle.laws.specs.Lists.{different}
use Rattle.syntax.specs.Words.{max_weight}
use Rattle.syntax.specs.Syntax.{Domain, Range, Enumerative, lower_bound, upper_bound, last_or, domain_of, IntExpr, IConst, IVar, Linear, If, Terms, tnil, tmore, encode_int}
use Rattle.limits.specs.Limits.{largest, domain_weight, weight, terms_weight, heavy, heavy_terms, heavy_comparison, written, written_terms}
use Rattle.sums.specs.LinearSum.{Term, term, LinearSum, linear_sum, constant, add_coef, add_sum, mul_sum, lowest, highest}
use Rattle.sums.specs.Rising.{terms_of, constant_of, Rises, Each, Among}
use Rattle.sums.proofs.RisingLaws.{add_coef_rises, add_coef_each, among_left, among_right, few_terms}
use Rattle.sums.specs.Linear.{linear_of, linear_terms, EveryIf, EveryIfOf}
use Rattle.sums.proofs.NormLaws.{constant_load, singleton_load, add_coef_norm, add_sum_load, mul_sum_load, take_norm}
use Rattle.sums.specs.Norm.{norm, load}
use Rattle.sums.specs.Bounds.{Coefficients, Every, Fits, Room, Small, add_steps, computed, computed_comparison, computed_terms, reach, size, sum_steps}

pub domain_weight_one : (d : Domain) → 1 ≤ domain_weight d
domain_weight_one (Range low high) = omega arith
domain_weight_one (Enumerative xs) = omega arith

lower_weight : (d : Domain) → nat_abs (lower_bound d) ≤ domain_weight d
lower_weight (Range low high) = omega arith
lower_weight (Enumerative []) = omega arith
lower_weight (Enumerative (x ∷ xs)) = omega arith

last_weight : (x : ℤ) (xs : List ℤ) → nat_abs (last_or x xs) ≤ max (nat_abs x) (largest xs)
last_weight x [] = omega arith
last_weight x (y ∷ ys) = omega (arith, last_weight y ys)

upper_weight : (d : Domain) → nat_abs (upper_bound d) ≤ domain_weight d
upper_weight (Range low high) = omega arith
upper_weight (Enumerative []) = omega arith
upper_weight (Enumerative (x ∷ xs)) = omega (arith, last_weight x xs)

-- no part weighs too much
pub heavy_weight : (ds : List Domain) (e : IntExpr) → heavy ds e ≡ false → weight ds e ≤ max_weight
unfolding heavy
heavy_weight ds (IConst c) h = ltb-false max_weight (weight ds (IConst c)) h
heavy_weight ds (IVar v) h = ltb-false max_weight (weight ds (IVar v)) h
heavy_weight ds (If i c t f) h = ltb-false max_weight (weight ds (If i c t f)) (or_no_l (ltb max_weight (weight ds (If i c t f))) (heavy ds t || heavy ds f) h)
heavy_weight ds (Linear ts) h = ltb-false max_weight (weight ds (Linear ts)) (or_no_l (ltb max_weight (weight ds (Linear ts))) (heavy_terms ds ts) h)

-- w: a weight of each emitted number, no more than its declared variable's or its If's
module _ (ds : List Domain) (number made : ℕ → ℕ) (w : ℕ → ℕ) where
  mutual
    unfolding linear_of weight written EveryIf

    pub linear_of_load : (at : ℕ) (e : IntExpr) → ((v : ℕ) → Among (written e) v → w (number v) ≤ domain_weight (domain_of ds v)) → EveryIf (λ n x. w n ≤ weight ds x) made at e → load w (linear_of number made at e) ≤ weight ds e
    linear_of_load at (IConst c) h g = omega (arith, constant_load w c)
    linear_of_load at (IVar v) h g = omega (arith, singleton_load w (number v), h v (or_l (eqb v v) _ (eq-eqb v v refl)))
    linear_of_load at (Linear ts) h g = omega (arith, linear_terms_load (at + 2) ts (constant (pos 0)) h g, constant_load w (pos 0))
    linear_of_load at (If i c t f) h g = omega (arith, singleton_load w (made at), g)

    linear_terms_load : (at : ℕ) (ts : Terms) (sum : LinearSum) → ((v : ℕ) → Among (written_terms ts) v → w (number v) ≤ domain_weight (domain_of ds v)) → EveryIfOf (λ n x. w n ≤ weight ds x) made at ts
        → load w (linear_terms number made at ts sum) ≤ load w sum + terms_weight ds ts
    linear_terms_load at tnil sum h g = omega arith
    linear_terms_load at (tmore k e ts) sum h g =
        let l = linear_of number made (at + 1) e in
        let a = linear_of_load (at + 1) e (λ v m. h v (among_left v (written e) (written_terms ts) m)) g.0 in
        let b = linear_terms_load (at + 1 + length (encode_int e)) ts (add_sum sum (mul_sum k l)) (λ v m. h v (among_right v (written e) (written_terms ts) m)) g.1 in
        omega (arith, add_sum_load w sum (mul_sum k l), mul_sum_load w k l, mul-le-mul_left (nat_abs k) a)

-- an If weighs at least 1
module _ (ds : List Domain) (made : ℕ → ℕ) where
  mutual
    unfolding EveryIf weight

    ifs_weigh : (at : ℕ) (e : IntExpr) → EveryIf (λ n x. 1 ≤ weight ds x) made at e
    ifs_weigh at (IConst c) = tt
    ifs_weigh at (IVar v) = tt
    ifs_weigh at (Linear ts) = ifs_weigh_terms (at + 2) ts
    ifs_weigh at (If i c t f) = omega arith

    ifs_weigh_terms : (at : ℕ) (ts : Terms) → EveryIfOf (λ n x. 1 ≤ weight ds x) made at ts
    ifs_weigh_terms at tnil = tt
    ifs_weigh_terms at (tmore k e ts) = (ifs_weigh (at + 1) e, ifs_weigh_terms (at + 1 + length (encode_int e)) ts)

-- ---- every sum that is computed

norm_coefficients : (n : ℕ) (ts : List Term) → norm (λ v. 1) ts ≤ n → Coefficients n ts
unfolding norm Coefficients
norm_coefficients n [] h = tt
norm_coefficients n (term v a ∷ ts) h = (omega arith, norm_coefficients n ts (omega arith))

size_fits : (l : LinearSum) → size l ≤ max_weight → Fits l
unfolding load
size_fits (linear_sum c ts) h = record { constant_fits = omega arith; coefficients_fit = norm_coefficients max_weight ts (omega arith) }

every_append : (P : LinearSum → Type 0) (ls ms : List LinearSum) → Every P ls → Every P ms → Every P (ls ++ ms)
unfolding Every
every_append P [] ms h k = k
every_append P (l ∷ ls) ms h k = (h.0, every_append P ls ms h.1 k)

every_map : (P Q : LinearSum → Type 0) → ((l : LinearSum) → P l → Q l) → (ls : List LinearSum) → Every P ls → Every Q ls
unfolding Every
every_map P Q f [] h = tt
every_map P Q f (l ∷ ls) h = (f l h.0, every_map P Q f ls h.1)

add_steps_small : (c : ℤ) (ts : List Term) (d : ℤ) (us : List Term) → nat_abs c + norm (λ v. 1) ts + (nat_abs d + norm (λ v. 1) us) ≤ max_weight → Every Small (add_steps c ts d us)
unfolding add_steps Every load norm
add_steps_small c ts d [] h = (omega (arith, natAbs_add c d), tt)
add_steps_small c ts d (term v a ∷ us) h =
    let n = add_coef_norm (λ v. 1) v a ts in
    (omega arith, add_steps_small c (add_coef v a ts) d us (omega arith))

sum_steps_small : (a b : LinearSum) → size a + size b ≤ max_weight → Every Small (sum_steps a b)
unfolding sum_steps load
sum_steps_small (linear_sum c ts) (linear_sum d us) h = add_steps_small c ts d us h

module _ (ds : List Domain) (number made : ℕ → ℕ) where
  pub linear_of_size : (at : ℕ) (e : IntExpr) → size (linear_of number made at e) ≤ weight ds e
  linear_of_size at e = linear_of_load ds number made (λ v. 1) at e (λ v m. domain_weight_one (domain_of ds v)) (ifs_weigh ds made at e)

  mutual
    unfolding computed heavy weight Every

    computed_small : (at : ℕ) (e : IntExpr) → heavy ds e ≡ false → Every Small (computed number made at e)
    computed_small at (IConst c) h = (omega (arith, constant_load (λ v. 1) c, heavy_weight ds (IConst c) h), tt)
    computed_small at (IVar v) h = (omega (arith, singleton_load (λ v. 1) (number v)), tt)
    computed_small at (Linear ts) h =
        (omega (arith, constant_load (λ v. 1) (pos 0)), computed_terms_small (at + 2) ts (constant (pos 0)) (or_no_r (ltb max_weight (terms_weight ds ts)) (heavy_terms ds ts) h) (omega (arith, constant_load (λ v. 1) (pos 0), heavy_weight ds (Linear ts) h)))
    computed_small at (If i c t f) h = (omega (arith, singleton_load (λ v. 1) (made at)), tt)

    computed_terms_small : (at : ℕ) (ts : Terms) (sum : LinearSum) → heavy_terms ds ts ≡ false → size sum + terms_weight ds ts ≤ max_weight → Every Small (computed_terms number made at ts sum)
    computed_terms_small at tnil sum h l = tt
    computed_terms_small at (tmore k e ts) sum h l =
        let m = mul_sum k (linear_of number made (at + 1) e) in
        let s = mul_sum_load (λ v. 1) k (linear_of number made (at + 1) e) in
        let n = mul-le-mul_left (nat_abs k) (linear_of_size (at + 1) e) in
        let a = add_sum_load (λ v. 1) sum m in
        every_append Small (computed number made (at + 1) e) _ (computed_small (at + 1) e (or_no_l (heavy ds e) (heavy_terms ds ts) h))
        (omega arith, every_append Small (sum_steps sum m) _ (sum_steps_small sum m (omega arith)) (computed_terms_small (at + 1 + length (encode_int e)) ts (add_sum sum m) (or_no_r (heavy ds e) (heavy_terms ds ts) h) (omega arith)))

  comparison_small : (a b : IntExpr) → heavy_comparison ds a b ≡ false → Every Small (computed_comparison number made a b)
  unfolding computed_comparison heavy_comparison Every
  comparison_small a b h =
      let n = length (encode_int a) in
      let r = or_no_r (heavy ds a) (heavy ds b || ltb max_weight (weight ds a + weight ds b)) h in
      let t = ltb-false max_weight (weight ds a + weight ds b) (or_no_r (heavy ds b) (ltb max_weight (weight ds a + weight ds b)) r) in
      let m = mul_sum (negsuc 0) (linear_of number made n b) in
      let s = mul_sum_load (λ v. 1) (negsuc 0) (linear_of number made n b) in
      let p = linear_of_size 0 a in
      let q = linear_of_size n b in
      every_append Small (computed number made 0 a) _ (computed_small 0 a (or_no_l (heavy ds a) (heavy ds b || ltb max_weight (weight ds a + weight ds b)) h))
      (every_append Small (computed number made n b) _ (computed_small n b (or_no_l (heavy ds b) (ltb max_weight (weight ds a + weight ds b)) r))
      (omega arith, sum_steps_small (linear_of number made 0 a) m (omega arith)))

  -- the two theorems: of an expression, and of a comparison
  pub computed_fits : (e : IntExpr) → heavy ds e ≡ false → Every Fits (computed number made 0 e)
  computed_fits e h = every_map Small Fits size_fits (computed number made 0 e) (computed_small 0 e h)

  pub comparison_fits : (a b : IntExpr) → heavy_comparison ds a b ≡ false → Every Fits (computed_comparison number made a b)
  comparison_fits a b h = every_map Small Fits size_fits (computed_comparison number made a b) (comparison_small a b h)

-- ---- the bounds of a sum's domain, after each term

pub reach_weight : (d : Domain) → reach d ≤ domain_weight d
reach_weight d = omega (arith, lower_weight d, upper_weight d)

module _ (domain : ℕ → Domain) where
  pub low_size : (k : ℤ) (v : ℕ) → nat_abs (times_low k (lower_bound (domain v)) (upper_bound (domain v))) ≤ nat_abs k * reach (domain v)
  low_size k v = times_low_size k (lower_bound (domain v)) (upper_bound (domain v)) (reach (domain v)) (omega arith) (omega arith)

  high_size : (k : ℤ) (v : ℕ) → nat_abs (times_high k (lower_bound (domain v)) (upper_bound (domain v))) ≤ nat_abs k * reach (domain v)
  high_size k v = times_high_size k (lower_bound (domain v)) (upper_bound (domain v)) (reach (domain v)) (omega arith) (omega arith)

  pub lowest_size : (c : ℤ) (ts : List Term) → nat_abs (lowest domain c ts) ≤ nat_abs c + norm (λ v. reach (domain v)) ts
  unfolding lowest norm
  lowest_size c [] = omega arith
  lowest_size c (term v a ∷ ts) =
      let t = times_low a (lower_bound (domain v)) (upper_bound (domain v)) in
      omega (arith, lowest_size (c +ℤ t) ts, natAbs_add c t, low_size a v)

  pub highest_size : (c : ℤ) (ts : List Term) → nat_abs (highest domain c ts) ≤ nat_abs c + norm (λ v. reach (domain v)) ts
  unfolding highest norm
  highest_size c [] = omega arith
  highest_size c (term v a ∷ ts) =
      let t = times_high a (lower_bound (domain v)) (upper_bound (domain v)) in
      omega (arith, highest_size (c +ℤ t) ts, natAbs_add c t, high_size a v)

  pub bounds_within : (i n : ℕ) (l : LinearSum) → load (λ v. reach (domain v)) l ≤ n → (nat_abs (lowest domain (constant_of l) (take i (terms_of l))) ≤ n) × (nat_abs (highest domain (constant_of l) (take i (terms_of l))) ≤ n)
  unfolding load
  bounds_within i n (linear_sum c ts) h =
      let t = take_norm (λ v. reach (domain v)) i ts in
      (omega (arith, lowest_size c (take i ts)), omega (arith, highest_size c (take i ts)))

  -- after i terms: within the weight, as an If's domain is, which spans its values' domains
  pub domain_bounds_fit : (ds : List Domain) (number made : ℕ → ℕ) (e : IntExpr) → ((v : ℕ) → Among (written e) v → domain (number v) ≡ domain_of ds v) → EveryIf (λ n x. reach (domain n) ≤ weight ds x) made 0 e → (i : ℕ)
      → (nat_abs (lowest domain (constant_of (linear_of number made 0 e)) (take i (terms_of (linear_of number made 0 e)))) ≤ weight ds e)
      × (nat_abs (highest domain (constant_of (linear_of number made 0 e)) (take i (terms_of (linear_of number made 0 e)))) ≤ weight ds e)
  domain_bounds_fit ds number made e h g i =
      bounds_within i (weight ds e) (linear_of number made 0 e) (linear_of_load ds number made (λ v. reach (domain v)) 0 e (λ v m. rw (h v m) (reach_weight (domain_of ds v))) g)

-- ---- room for the terms, of which each step of adding has at most 64

pub room_among : (ws : List ℕ) → different ws ≤ 64 → (ts us : List Term) → Rises 0 ts → Each (Among ws) ts → Each (Among ws) us → Room ts us
unfolding Room Each
room_among ws n ts [] r h k = tt
room_among ws n ts (term v a ∷ us) r h k =
    let r' = add_coef_rises v a ts r in
    let h' = add_coef_each (Among ws) v a ts k.0 h in
    (omega (arith, few_terms ws 0 (add_coef v a ts) r' h'), room_among ws n (add_coef v a ts) us r' h' k.1)
