-- The value of linear sums: adding adds, a multiple multiplies; and a comparison is its operator on the difference against 0.
use Rattle.std.specs.Prelude.{◌≡◌, Bool, not, cond, ℕ, eqb, ltb, ℤ, pos, negsuc, neg_ℤ, ◌+ℤ◌, ◌-ℤ◌, ◌*ℤ◌}
use Rattle.std.proofs.Math.Path.{refl, sym}
use Rattle.std.proofs.Common.{ap, ◌∙◌, eqb-true}
use Rattle.std.proofs.Math.Bool.{true, false}
use mathlib.Core.List.{List, [], ◌∷◌}
use Rattle.std.proofs.Math.IntN.{one, +ℤ_idl, +ℤ_idr, +ℤ_assoc, +ℤ_comm, +ℤ_invr, zero-*ℤ, *ℤ-zero, *ℤ_comm, *ℤ-one}
use Rattle.laws.specs.Ints.{is_zero, is_zero_true, +ℤ_swap, *ℤ_dist, *ℤ_assoc, *ℤ_dist_l, *ℤ_minus_one}
use Rattle.laws.specs.Order.{eqZ_shift, leZ_shift, ltZ_shift}
use Rattle.syntax.specs.Syntax.{CmpOp, Eq, Ne, Le, Lt, Ge, Gt}
use Rattle.syntax.specs.Satisfies.{IVal, compare}
use Rattle.sums.specs.LinearSum.{Term, term, LinearSum, linear_sum, constant, singleton, place, insert_coef, add_coef, add_terms, add_sum, mul_terms, mul_sum, sub_sum, sum_terms_value, sum_value}

ruleset sums = (+ℤ_assoc, +ℤ_comm, +ℤ_swap)

-- regrouping over variables
sum_step : (x y z : ℤ) → (x +ℤ y) +ℤ z ≡ y +ℤ (x +ℤ z)
sum_step x y z = simp sums

sum_four : (c d x y : ℤ) → (c +ℤ d) +ℤ (x +ℤ y) ≡ (c +ℤ x) +ℤ (d +ℤ y)
sum_four c d x y = simp sums

module _ (ι : IVal) where
  pub constant_value : (c : ℤ) → sum_value ι (constant c) ≡ c
  constant_value c = +ℤ_idr c

  pub singleton_value : (v : ℕ) → sum_value ι (singleton v) ≡ ι v
  unfolding one
  singleton_value v = +ℤ_idl _ ∙ +ℤ_idr (pos 1 *ℤ ι v) ∙ *ℤ_comm (pos 1) (ι v) ∙ *ℤ-one (ι v)

  unless_zero_value : (v : ℕ) (a : ℤ) (ts : List Term) (t : Bool) → is_zero a ≡ t → sum_terms_value ι (cond t ts (term v a ∷ ts)) ≡ a *ℤ ι v +ℤ sum_terms_value ι ts
  unless_zero_value v a ts false h = refl
  unless_zero_value v a ts true h = rw (is_zero_true a h, zero-*ℤ (ι v), +ℤ_idl (sum_terms_value ι ts)) refl

  place_value : (l e : Bool) (v : ℕ) (a : ℤ) (w : ℕ) (b : ℤ) (ts r : List Term) → eqb v w ≡ e → sum_terms_value ι r ≡ a *ℤ ι v +ℤ sum_terms_value ι ts
      → sum_terms_value ι (place l e v a w b ts r) ≡ a *ℤ ι v +ℤ (b *ℤ ι w +ℤ sum_terms_value ι ts)
  place_value true e v a w b ts r q h = refl
  place_value false true v a w b ts r q h =
      unless_zero_value w (b +ℤ a) ts (is_zero (b +ℤ a)) refl ∙ rw (eqb-true v w q, *ℤ_dist b a (ι w)) (sum_step (b *ℤ ι w) (a *ℤ ι w) (sum_terms_value ι ts))
  place_value false false v a w b ts r q h = rw h (+ℤ_swap (b *ℤ ι w) (a *ℤ ι v) (sum_terms_value ι ts))

  insert_coef_value : (v : ℕ) (a : ℤ) (ts : List Term) → sum_terms_value ι (insert_coef v a ts) ≡ a *ℤ ι v +ℤ sum_terms_value ι ts
  unfolding insert_coef
  insert_coef_value v a [] = refl
  insert_coef_value v a (term w b ∷ ts) = place_value (ltb v w) (eqb v w) v a w b ts (insert_coef v a ts) refl (insert_coef_value v a ts)

  add_coef_value : (v : ℕ) (a : ℤ) (ts : List Term) → sum_terms_value ι (add_coef v a ts) ≡ a *ℤ ι v +ℤ sum_terms_value ι ts
  unfolding add_coef
  add_coef_value v a ts = go (is_zero a) refl
    where
      go : (t : Bool) → is_zero a ≡ t → sum_terms_value ι (cond t ts (insert_coef v a ts)) ≡ a *ℤ ι v +ℤ sum_terms_value ι ts
      go false h = insert_coef_value v a ts
      go true h = rw (is_zero_true a h, zero-*ℤ (ι v), +ℤ_idl (sum_terms_value ι ts)) refl

  add_terms_value : (ts us : List Term) → sum_terms_value ι (add_terms ts us) ≡ sum_terms_value ι ts +ℤ sum_terms_value ι us
  unfolding add_terms
  add_terms_value ts [] = sym (+ℤ_idr (sum_terms_value ι ts))
  add_terms_value ts (term v a ∷ us) = add_terms_value (add_coef v a ts) us ∙ rw (add_coef_value v a ts) (sum_step (a *ℤ ι v) (sum_terms_value ι ts) (sum_terms_value ι us))

  pub add_sum_value : (a b : LinearSum) → sum_value ι (add_sum a b) ≡ sum_value ι a +ℤ sum_value ι b
  unfolding add_sum
  add_sum_value (linear_sum c ts) (linear_sum d us) = rw (add_terms_value ts us) (sum_four c d (sum_terms_value ι ts) (sum_terms_value ι us))

  mul_terms_value : (k : ℤ) (ts : List Term) → sum_terms_value ι (mul_terms k ts) ≡ k *ℤ sum_terms_value ι ts
  unfolding mul_terms
  mul_terms_value k [] = sym (*ℤ-zero k)
  mul_terms_value k (term v a ∷ ts) = rw (mul_terms_value k ts, *ℤ_dist_l k (a *ℤ ι v) (sum_terms_value ι ts), *ℤ_comm a k, *ℤ_assoc k a (ι v)) refl

  pub mul_sum_value : (k : ℤ) (a : LinearSum) → sum_value ι (mul_sum k a) ≡ k *ℤ sum_value ι a
  unfolding mul_sum
  mul_sum_value k (linear_sum c ts) = go (is_zero k) refl
    where
      go : (t : Bool) → is_zero k ≡ t → sum_value ι (cond t (constant (pos 0)) (linear_sum (c *ℤ k) (mul_terms k ts))) ≡ k *ℤ (c +ℤ sum_terms_value ι ts)
      go true h = rw (is_zero_true k h, zero-*ℤ (c +ℤ sum_terms_value ι ts)) refl
      go false h = rw (mul_terms_value k ts, *ℤ_dist_l k c (sum_terms_value ι ts), *ℤ_comm c k) refl

  sub_sum_value : (a b : LinearSum) → sum_value ι (sub_sum a b) ≡ sum_value ι a -ℤ sum_value ι b
  unfolding sub_sum
  sub_sum_value a b = add_sum_value a (mul_sum (negsuc 0) b) ∙ rw (mul_sum_value (negsuc 0) b, *ℤ_minus_one (sum_value ι b)) refl

-- ---- comparisons

compare_shift : (o : CmpOp) (x y c : ℤ) → compare o (x +ℤ c) (y +ℤ c) ≡ compare o x y
compare_shift Eq x y c = eqZ_shift x y c
compare_shift Ne x y c = ap not (eqZ_shift x y c)
compare_shift Le x y c = leZ_shift x y c
compare_shift Lt x y c = ltZ_shift x y c
compare_shift Ge x y c = leZ_shift y x c
compare_shift Gt x y c = ltZ_shift y x c

compare_difference : (o : CmpOp) (x y : ℤ) → compare o x y ≡ compare o (x -ℤ y) (pos 0)
compare_difference o x y = sym (compare_shift o x y (neg_ℤ y)) ∙ ap (compare o (x -ℤ y)) (+ℤ_invr y)

-- a comparison's linear sum, left side minus right, against 0
pub compare_sum : (ι : IVal) (o : CmpOp) (a b : LinearSum) → compare o (sum_value ι (sub_sum a b)) (pos 0) ≡ compare o (sum_value ι a) (sum_value ι b)
compare_sum ι o a b = ap (λ x. compare o x (pos 0)) (sub_sum_value ι a b) ∙ sym (compare_difference o (sum_value ι a) (sum_value ι b))
