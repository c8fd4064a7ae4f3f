-- For every log that grew from what merging left there are values of the emitted numbers that fit it: Booleans and integers together, in the order of the log.
use Rattle.std.specs.Prelude.{◌≡◌, Bool, ℕ, suc, ℤ, pos}
use Rattle.std.proofs.Math.Path.{refl, ap}
use Rattle.std.proofs.Common.{sym, ◌∙◌, arith}
use Rattle.std.proofs.Math.Bool.{true, false, cond}
use mathlib.Core.List.{[], ◌∷◌}
use Rattle.std.proofs.Math.Dec.{eqb}
use borrow.Author.Tests.{eqb-true, eq-eqb}
use Rattle.laws.specs.Lists.{all}
use Rattle.syntax.specs.Satisfies.{Val, IVal, holds, int_value}
use Rattle.sums.specs.LinearSum.{sum_value}
use Rattle.clauses.specs.Clause.{lit, lit_true, clause_true, negate_if}
use Rattle.clauses.specs.Log.{MadeBool, declared, aux, side, MadeInt, declared_int, column, chosen, binary, bool, merged, int, added, defined, known, Log, next_bool, next_int}
use Rattle.clauses.proofs.Bounds.{Same, clauses_same, holds_same, int_same, sum_same}
use Rattle.clauses.specs.Valuation.{FitsMade, Fits}
use Rattle.clauses.proofs.Grow.{Legal, Extends, same, grow}

-- ---- one more value

module _ {A : Type 0} where
  unfoldable with_value : (ℕ → A) → ℕ → A → ℕ → A
  with_value f n x m = cond (eqb m n) x (f m)

  value_there : (f : ℕ → A) (n : ℕ) (x : A) → with_value f n x n ≡ x
  unfolding with_value
  value_there f n x = rw (eq-eqb n n refl) refl

  value_below : (f : ℕ → A) (n : ℕ) (x : A) → Same n (with_value f n x) f
  unfolding with_value
  value_below f n x m h = go (eqb m n) refl
    where
      go : (b : Bool) → eqb m n ≡ b → cond b x (f m) ≡ f m
      go false e = refl
      go true e = let q : m ≡ n = eqb-true m n e in absurd (omega arith)

  -- values that are the same as these below n + 1
  same_there : (f g : ℕ → A) (n : ℕ) (x : A) → Same (suc n) (with_value f n x) g → g n ≡ x
  same_there f g n x h = sym (h n (omega arith)) ∙ value_there f n x

  same_below : (f g : ℕ → A) (n : ℕ) (x : A) → Same (suc n) (with_value f n x) g → Same n f g
  same_below f g n x h m k = sym (value_below f n x m k) ∙ h m (omega arith)

module _ (δ : Val) (ε : IVal) where
  bool_made : MadeBool → Val → IVal → Bool
  bool_made (declared v) ρ ι = δ v
  bool_made (aux cs) ρ ι = all (clause_true ρ ι) cs
  bool_made (side e) ρ ι = holds δ ε ρ e

  int_made : MadeInt → Val → IVal → ℤ
  int_made (declared_int v) ρ ι = ε v
  int_made (column l d) ρ ι = sum_value ι l
  int_made (chosen i e p q d) ρ ι = int_value δ ε ρ e
  int_made (binary i l a b) ρ ι = cond (lit_true ρ l) b a

  pub values_of : Log → Val × IVal
  values_of [] = (λ n. false, λ n. pos 0)
  values_of (bool m ∷ s) = let p = values_of s in (with_value p.0 (next_bool s) (bool_made m p.0 p.1), p.1)
  values_of (merged v w g ∷ s) = values_of s
  values_of (int m ∷ s) = let p = values_of s in (p.0, with_value p.1 (next_int s) (int_made m p.0 p.1))
  values_of (added cs ∷ s) = values_of s
  values_of (defined cs ∷ s) = values_of s
  values_of (known e v ∷ s) = values_of s

  module _ (ρ : Val) (ι : IVal) where
    bool_fits : (m : MadeBool) (s : Log) (ρ' : Val) (ι' : IVal) → Legal true δ ε (bool m) s → Same (next_bool s) ρ' ρ → Same (next_int s) ι' ι → ρ (next_bool s) ≡ bool_made m ρ' ι' → FitsMade δ ε ρ ι (bool m) s
    unfolding bool_made
    bool_fits (declared v) s ρ' ι' l a b e = e
    bool_fits (aux cs) s ρ' ι' l a b e = e ∙ clauses_same (next_bool s) ρ' ρ a (next_int s) ι' ι b cs l.0 l.1
    bool_fits (side x) s ρ' ι' l a b e = e ∙ holds_same (next_bool s) ρ' ρ a δ ε x l

    int_fits : (m : MadeInt) (s : Log) (ρ' : Val) (ι' : IVal) → Legal true δ ε (int m) s → Same (next_bool s) ρ' ρ → Same (next_int s) ι' ι → Fits δ ε ρ ι s → ι (next_int s) ≡ int_made m ρ' ι' → FitsMade δ ε ρ ι (int m) s
    unfolding int_made
    int_fits (declared_int v) s ρ' ι' l a b f e = e
    int_fits (column x d) s ρ' ι' l a b f e = let q : ι (next_int s) ≡ sum_value ι x = e ∙ sum_same (next_int s) ι' ι b x l.0 in (q, rw q (l.1 ρ ι f))
    int_fits (chosen i x p q d) s ρ' ι' l a b f e = e ∙ int_same (next_bool s) ρ' ρ a δ ε x l.0
    int_fits (binary i (lit n g) x y) s ρ' ι' l a b f e = e ∙ ap (λ (z : Bool). cond (negate_if g z) y x) (a n l)

    log_fits : {s0 s : Log} → Extends δ ε s0 s → (Same (next_bool s0) (values_of s0).0 ρ → Fits δ ε ρ ι s0) → Same (next_bool s) (values_of s).0 ρ → Same (next_int s) (values_of s).1 ι → Fits δ ε ρ ι s
    unfolding values_of
    log_fits same z a b = z a
    log_fits (grow {t} (bool m) l g) z a b =
        let p = values_of t in
        let a' : Same (next_bool t) p.0 ρ = same_below p.0 ρ (next_bool t) (bool_made m p.0 p.1) a in
        (bool_fits m t p.0 p.1 l a' b (same_there p.0 ρ (next_bool t) (bool_made m p.0 p.1) a), log_fits g z a' b)
    log_fits (grow (merged v w q) l g) z a b = absurd l
    log_fits (grow {t} (int m) l g) z a b =
        let p = values_of t in
        let b' : Same (next_int t) p.1 ι = same_below p.1 ι (next_int t) (int_made m p.0 p.1) b in
        let f : Fits δ ε ρ ι t = log_fits g z a b' in
        (int_fits m t p.0 p.1 l a b' f (same_there p.1 ι (next_int t) (int_made m p.0 p.1) b), f)
    log_fits (grow (added cs) l g) z a b = (tt, log_fits g z a b)
    log_fits (grow (defined cs) l g) z a b = let f = log_fits g z a b in (l.2 ρ ι f, f)
    log_fits (grow (known e v) l g) z a b = (tt, log_fits g z a b)

-- ---- the log of merging alone: declared variables and ties that the assignment keeps

abbrev pub TiesHold : Val → Log → Type 0
TiesHold δ [] = Unit {0}
TiesHold δ (bool (declared v) ∷ s) = TiesHold δ s
TiesHold δ (bool (aux cs) ∷ s) = ⊥
TiesHold δ (bool (side e) ∷ s) = ⊥
TiesHold δ (merged v w g ∷ s) = (δ v ≡ negate_if g (δ w)) × TiesHold δ s
TiesHold δ (int m ∷ s) = ⊥
TiesHold δ (added cs ∷ s) = ⊥
TiesHold δ (defined cs ∷ s) = ⊥
TiesHold δ (known e v ∷ s) = ⊥

module _ (δ : Val) (ε : IVal) (ρ : Val) (ι : IVal) where
  ties_fit : (s : Log) → TiesHold δ s → Same (next_bool s) (values_of δ ε s).0 ρ → Fits δ ε ρ ι s
  unfolding values_of bool_made
  ties_fit [] h k = tt
  ties_fit (bool (declared v) ∷ s) h k =
      let f : Val = (values_of δ ε s).0 in
      (same_there f ρ (next_bool s) (δ v) k, ties_fit s h (same_below f ρ (next_bool s) (δ v) k))
  ties_fit (bool (aux cs) ∷ s) h k = absurd h
  ties_fit (bool (side e) ∷ s) h k = absurd h
  ties_fit (merged v w g ∷ s) h k = (h.0, ties_fit s h.1 k)
  ties_fit (int m ∷ s) h k = absurd h
  ties_fit (added cs ∷ s) h k = absurd h
  ties_fit (defined cs ∷ s) h k = absurd h
  ties_fit (known e v ∷ s) h k = absurd h

-- the assignment's values of the emitted numbers; s0: what merging left
pub fitting_exists : (δ : Val) (ε : IVal) {s0 s : Log} → TiesHold δ s0 → Extends δ ε s0 s → Fits δ ε (values_of δ ε s).0 (values_of δ ε s).1 s
fitting_exists δ ε {s0} {s} t g = log_fits δ ε (values_of δ ε s).0 (values_of δ ε s).1 g (λ a. ties_fit δ ε (values_of δ ε s).0 (values_of δ ε s).1 s0 t a) (λ m h. refl) (λ m h. refl)
