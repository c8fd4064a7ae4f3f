-- Every emitted integer's value lies between the bounds of its domain, under values that fit the log.
use Rattle.std.specs.Prelude.{◌≡◌, refl, Bool, true, false, not, cond, ℕ, ◌<◌, ◌≤◌, ℤ, eqb}
use Rattle.std.proofs.Common.{sym, ◌∙◌, arith, eqb-true}
use mathlib.Core.List.{List, [], ◌∷◌}
use Rattle.std.specs.Int.Signed.{le_z, lt_z}
use Rattle.std.proofs.lemmas.Bool.{eqb-false}
use Rattle.laws.specs.Bools.{and_l, and_r, and_i}
use Rattle.laws.specs.Ints.{lower, higher}
use Rattle.laws.specs.Order.{leZ_refl, leZ_trans, leZ_lt, leZ_not}
use Rattle.syntax.specs.Syntax.{Domain, Range, lower_bound, upper_bound, domain_of, in_domain}
use Rattle.syntax.specs.Satisfies.{Val, IVal}
use Rattle.sums.specs.LinearSum.{Term, term, LinearSum, linear_sum, sum_value, get_domain_linear_sum}
use Rattle.sums.specs.Rising.{Each}
use Rattle.sums.proofs.Domain.{between, domain_holds}
use Rattle.clauses.specs.Clause.{lit_true}
use Rattle.clauses.specs.Log.{MadeInt, declared_int, column, chosen, binary, bool, merged, int, added, defined, known, Log, next_int, made_ints, domain_made, emitted_domains}
use Rattle.clauses.proofs.Bounds.{terms_bound, sum_bound}
use Rattle.clauses.specs.Normalize.{hull, domain_of_sum}
use Rattle.syntax.specs.Written.{Any}
use Rattle.clauses.proofs.Grow.{OneOf, Legal, Extends, same, grow, Lawful}
use Rattle.clauses.proofs.Entries.{MadeWell, WellMade}
use Rattle.clauses.proofs.Emitted.{domain_at, new_domain, domain_step}
use Rattle.clauses.specs.Valuation.{Fits, fits_agrees}

-- ---- the domains of the log

module _ (ds : List Domain) where
  -- every emitted integer's value lies between its bounds
  abbrev pub Within : IVal → Log → Type 0
  Within ι s = (n : ℕ) → n < next_int s → between (domain_at ds s n) (ι n) ≡ true

  within_more : (ι : IVal) (m : MadeInt) (s : Log) → Within ι s → between (domain_made ds m) (ι (next_int s)) ≡ true → Within ι (int m ∷ s)
  within_more ι m s w h n k = go (eqb n (next_int s)) refl
    where
      go : (b : Bool) → eqb n (next_int s) ≡ b → between (domain_at ds (int m ∷ s) n) (ι n) ≡ true
      go true e = let q : n ≡ next_int s = eqb-true n (next_int s) e in rw (q, new_domain ds m s) h
      go false e = let q = eqb-false n (next_int s) e in rw (domain_step ds (int m) s n (omega arith)) (w n (omega arith))

  terms_within : (k : ℕ) (P : ℕ → Type 0) → ((n : ℕ) → n < k → P n) → (ts : List Term) → terms_bound ts ≤ k → Each P ts
  unfolding Each
  terms_within k P f [] h = tt
  terms_within k P f (term v a ∷ ts) h = (f v (omega arith), terms_within k P f ts (omega arith))

  -- a sum over numbers given lies in its domain
  pub sum_within : (ι : IVal) (s : Log) (l : LinearSum) → sum_bound l ≤ next_int s → Within ι s → between (domain_of_sum ds s l) (sum_value ι l) ≡ true
  unfolding domain_of_sum get_domain_linear_sum
  sum_within ι s (linear_sum c ts) h w = domain_holds (domain_at ds s) ι (linear_sum c ts) (terms_within (next_int s) (λ v. between (domain_at ds s v) (ι v) ≡ true) w ts h)

  pub sum_in : (ι : IVal) (s : Log) (l : LinearSum) → sum_bound l ≤ next_int s → Within ι s → in_domain (sum_value ι l) (domain_of_sum ds s l) ≡ true
  unfolding domain_of_sum
  sum_in ι s (linear_sum c ts) h w = domain_holds (domain_at ds s) ι (linear_sum c ts) (terms_within (next_int s) (λ v. between (domain_at ds s v) (ι v) ≡ true) w ts h)

-- ---- hulls

pick_low : (a b : ℤ) → (le_z (lower a b) a ≡ true) × (le_z (lower a b) b ≡ true)
pick_low a b = go (le_z a b) refl
  where
    go : (t : Bool) → le_z a b ≡ t → (le_z (cond t a b) a ≡ true) × (le_z (cond t a b) b ≡ true)
    go true e = (leZ_refl a, e)
    go false e = (leZ_lt b a (not_le e), leZ_refl b)
      where
        not_le : le_z a b ≡ false → lt_z b a ≡ true
        not_le q = flip (lt_z b a) (sym (leZ_not a b) ∙ q)
          where
            flip : (t : Bool) → not t ≡ false → t ≡ true
            flip true z = refl
            flip false z = sym z

pick_high : (a b : ℤ) → (le_z a (higher a b) ≡ true) × (le_z b (higher a b) ≡ true)
pick_high a b = go (le_z a b) refl
  where
    go : (t : Bool) → le_z a b ≡ t → (le_z a (cond t b a) ≡ true) × (le_z b (cond t b a) ≡ true)
    go true e = (e, leZ_refl b)
    go false e = (leZ_refl a, leZ_lt b a (not_le e))
      where
        not_le : le_z a b ≡ false → lt_z b a ≡ true
        not_le q = flip (lt_z b a) (sym (leZ_not a b) ∙ q)
          where
            flip : (t : Bool) → not t ≡ false → t ≡ true
            flip true z = refl
            flip false z = sym z

hull_left : (a b : Domain) (x : ℤ) → between a x ≡ true → between (hull a b) x ≡ true
hull_left a b x h =
    and_i _ _ (leZ_trans (lower (lower_bound a) (lower_bound b)) (lower_bound a) x (pick_low (lower_bound a) (lower_bound b)).0 (and_l (le_z (lower_bound a) x) (le_z x (upper_bound a)) h))
    (leZ_trans x (upper_bound a) (higher (upper_bound a) (upper_bound b)) (and_r (le_z (lower_bound a) x) (le_z x (upper_bound a)) h) (pick_high (upper_bound a) (upper_bound b)).0)

hull_right : (a b : Domain) (x : ℤ) → between b x ≡ true → between (hull a b) x ≡ true
hull_right a b x h =
    and_i _ _ (leZ_trans (lower (lower_bound a) (lower_bound b)) (lower_bound b) x (pick_low (lower_bound a) (lower_bound b)).1 (and_l (le_z (lower_bound b) x) (le_z x (upper_bound b)) h))
    (leZ_trans x (upper_bound b) (higher (upper_bound a) (upper_bound b)) (and_r (le_z (lower_bound b) x) (le_z x (upper_bound b)) h) (pick_high (upper_bound a) (upper_bound b)).1)

-- the declared integers of the log have values between their bounds
abbrev pub Inside : List Domain → IVal → ℕ → Type 0
Inside ds ε v = between (domain_of ds v) (ε v) ≡ true

module _ (δ : Val) (ε : IVal) (ds : List Domain) (ρ : Val) (ι : IVal) where
  abbrev Well : Log → Type 0
  Well s = WellMade ds Any (Inside ds ε) s

  two_within : (g : Bool) (a b : ℤ) → le_z a b ≡ true → between (Range a b) (cond g b a) ≡ true
  two_within true a b h = and_i (le_z a b) (le_z b b) h (leZ_refl b)
  two_within false a b h = and_i (le_z a a) (le_z a b) (leZ_refl a) h

  one_within : (x a b : ℤ) (c d : Domain) → OneOf x a b → between c a ≡ true → between d b ≡ true → between (hull c d) x ≡ true
  one_within x a b c d o h k = go o.which o.is
    where
      go : (w : Bool) → x ≡ cond w a b → between (hull c d) x ≡ true
      go true e = rw e (hull_left c d a h)
      go false e = rw e (hull_right c d b k)

  made_within : (m : MadeInt) (s : Log) → Legal true δ ε (int m) s → MadeWell ds Any (Inside ds ε) (int m) s → Fits δ ε ρ ι (int m ∷ s) → Within ds ι s → between (domain_made ds m) (ι (next_int s)) ≡ true
  made_within (declared_int v) s l r f w = rw f.0 r
  made_within (column x d) s l r f w = rw (r, f.0.0) (sum_within ds ι s x l.0 w)
  made_within (chosen i e p q d) s l r f w =
      rw (r, f.0) (one_within _ _ _ (domain_of_sum ds s p) (domain_of_sum ds s q) (l.3 ρ ι (fits_agrees δ ε ρ ι s f.1)) (sum_within ds ι s p l.1 w) (sum_within ds ι s q l.2 w))
  made_within (binary i x a b) s l r f w = rw f.0 (two_within (lit_true ρ x) a b (leZ_lt a b r))

  log_within : {s0 s : Log} → Extends δ ε s0 s → next_int s0 ≡ 0 → Well s → Fits δ ε ρ ι s → Within ds ι s
  unfolding made_ints emitted_domains
  log_within same z r f n h = absurd (omega arith)
  log_within (grow (bool m) l g) z r f n h = log_within g z r.1 f.1 n h
  log_within (grow (merged v w q) l g) z r f n h = absurd l
  log_within (grow {t} (int m) l g) z r f n h =
      let w : Within ds ι t = log_within g z r.1 f.1 in
      within_more ds ι m t w (made_within m t l r.0 f w) n h
  log_within (grow (added cs) l g) z r f n h = log_within g z r.1 f.1 n h
  log_within (grow (defined cs) l g) z r f n h = log_within g z r.1 f.1 n h
  log_within (grow (known e v) l g) z r f n h = log_within g z r.1 f.1 n h

  -- under fitting values every emitted integer lies between its bounds
  pub emitted_within : (s : Log) → Lawful δ ε s → Well s → Fits δ ε ρ ι s → Within ds ι s
  emitted_within s l r f = log_within l.grows l.empty r f
