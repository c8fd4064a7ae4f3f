-- A linear sum is constant exactly if its value is the same whatever the values of the numbers. Assumes rising variables without a coefficient 0.
use Rattle.std.specs.Prelude.{◌≡◌, refl, true, cond, List, [], ◌∷◌, ℕ, suc, ◌<◌, eqb, ℤ, pos, ◌+ℤ◌, ◌*ℤ◌}
use Rattle.std.proofs.Common.{sym, ap, ◌∙◌, arith, eq-eqb, ne_eqb}
use Rattle.std.proofs.Math.IntN.{one, +ℤ_idr, +ℤ_comm, *ℤ-zero, *ℤ-one}
use Rattle.laws.specs.Bools.{never}
use Rattle.laws.specs.Ints.{is_zero}
use Rattle.laws.specs.Order.{eqZ_shift, is_eqZ}
use Rattle.syntax.specs.Satisfies.{IVal}
use Rattle.sums.specs.LinearSum.{Term, term, LinearSum, linear_sum, is_constant, sum_terms_value, sum_value}
use Rattle.sums.specs.Rising.{Rises, Proper, Each, terms_of, constant_of}

-- ---- only the values of its numbers count

terms_same : (ι κ : IVal) (ts : List Term) → Each (λ n. ι n ≡ κ n) ts → sum_terms_value ι ts ≡ sum_terms_value κ ts
unfolding Each
terms_same ι κ [] h = refl
terms_same ι κ (term v a ∷ ts) h = rw (h.0, terms_same ι κ ts h.1) refl

pub value_same : (ι κ : IVal) (l : LinearSum) → Each (λ n. ι n ≡ κ n) (terms_of l) → sum_value ι l ≡ sum_value κ l
value_same ι κ (linear_sum c ts) h = ap (λ x. c +ℤ x) (terms_same ι κ ts h)

-- ---- constant, so steady

pub constant_steady : (ι : IVal) (l : LinearSum) → is_constant l ≡ true → sum_value ι l ≡ constant_of l
constant_steady ι (linear_sum c []) h = +ℤ_idr c
constant_steady ι (linear_sum c (t ∷ ts)) h = never h

-- ---- steady, so constant

-- 1 at v alone
abbrev only : ℕ → IVal
only v n = cond (eqb n v) (pos 1) (pos 0)

only_above : (v low : ℕ) (ts : List Term) → v < low → Rises low ts → sum_terms_value (only v) ts ≡ pos 0
unfolding Rises
only_above v low [] l r = refl
only_above v low (term w a ∷ ts) l r =
    rw (ne_eqb w v (λ e. omega (arith, r.0)), only_above v (suc w) ts (omega (arith, r.0)) r.2, *ℤ-zero a) refl

none_value : (ts : List Term) → sum_terms_value (λ n. pos 0) ts ≡ pos 0
none_value [] = refl
none_value (term w a ∷ ts) = rw (none_value ts, *ℤ-zero a) refl

cancel : (c a d : ℤ) → c +ℤ a ≡ d → c +ℤ pos 0 ≡ d → is_zero a ≡ true
cancel c a d h k = sym (eqZ_shift a (pos 0) c) ∙ is_eqZ (a +ℤ c) (pos 0 +ℤ c) (+ℤ_comm a c ∙ h ∙ sym k ∙ +ℤ_comm c (pos 0))

pub steady_constant : (l : LinearSum) → Proper l → (d : ℤ) → ((ι : IVal) → sum_value ι l ≡ d) → is_constant l ≡ true
unfolding Rises one
steady_constant (linear_sum c []) r d h = refl
steady_constant (linear_sum c (term v a ∷ ts)) r d h =
    let x : a *ℤ only v v +ℤ sum_terms_value (only v) ts ≡ a = rw (eq-eqb v v refl, only_above v (suc v) ts (omega arith) r.2, *ℤ-one a) (+ℤ_idr a) in
    let y : a *ℤ pos 0 +ℤ sum_terms_value (λ n. pos 0) ts ≡ pos 0 = rw (none_value ts, *ℤ-zero a) refl in
    never (sym r.1 ∙ cancel c a d (ap (λ z. c +ℤ z) (sym x) ∙ h (only v)) (ap (λ z. c +ℤ z) (sym y) ∙ h (λ n. pos 0)))
