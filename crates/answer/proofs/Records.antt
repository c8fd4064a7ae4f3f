-- The records of the emitted integers: a number keeps its record as the log grows. Under values that fit the log every record admits its integer's value.
use Rattle.std.specs.Prelude.{◌≡◌, refl, Bool, true, false, cond, ℕ, ◌<◌, ◌≤◌, ℤ, pos, eqb, length, get_or}
use Rattle.std.proofs.Common.{◌∙◌, arith, eqb-true, lt-ltb}
use mathlib.Core.List.{List, [], ◌∷◌, ◌++◌, map-append}
use Rattle.std.proofs.Math.ListN.{length-map, get_or-append}
use Rattle.std.proofs.lemmas.List.{get_or_at}
use Rattle.std.proofs.lemmas.Bool.{eqb-false}
use Rattle.laws.specs.Bools.{and_r, and_i}
use Rattle.laws.specs.Order.{eqZ_is, is_eqZ}
use Rattle.syntax.specs.Syntax.{Domain, Range}
use Rattle.syntax.specs.Satisfies.{Val, IVal}
use Rattle.clauses.specs.Clause.{BoolLit, lit, lit_true}
use Rattle.clauses.specs.Log.{MadeInt, declared_int, column, chosen, binary, bool, merged, int, added, defined, known, Log, next_bool, next_int, number_of, made_ints, domain_made, emitted_domains}
use Rattle.clauses.specs.Valuation.{Agrees}
use Rattle.clauses.proofs.Grow.{Legal, Extends, same, grow}
use Rattle.clauses.proofs.Emitted.{length_emitted, domain_step, new_domain}
use Rattle.clauses.proofs.Ranges.{Within}
use Rattle.answer.specs.Answer.{Emitted, ranging, following, emitted_of, emitted, emitted_words}
use Rattle.answer.specs.Passes.{lit_emitted, admits}

module _ (ds : List Domain) where
  pub length_records : (s : Log) → length (emitted ds s) ≡ next_int s
  unfolding emitted emitted_domains
  length_records s = length-map (made_ints s) (emitted_of ds) ∙ (rw (length-map (made_ints s) (domain_made ds)) at (length_emitted ds s))

  abbrev pub emitted_at : Log → ℕ → Emitted
  emitted_at s n = get_or (emitted ds s) n (ranging (Range (pos 0) (pos 0)))

  -- one more integer
  pub emitted_more : (m : MadeInt) (s : Log) → emitted ds (int m ∷ s) ≡ emitted ds s ++ (emitted_of ds m ∷ [])
  unfolding emitted made_ints
  emitted_more m s = map-append (emitted_of ds) (made_ints s) (m ∷ [])

  -- the newest one
  pub new_emitted : (m : MadeInt) (s : Log) → emitted_at (int m ∷ s) (next_int s) ≡ emitted_of ds m
  new_emitted m s = rw (emitted_more m s) (get_or_at (emitted ds s) (emitted_of ds m) [] _ (next_int s) (length_records s))

  -- the older ones
  pub emitted_step : (m : MadeInt) (s : Log) (n : ℕ) → n < next_int s → emitted_at (int m ∷ s) n ≡ emitted_at s n
  emitted_step m s n l = rw (emitted_more m s) (get_or-append (emitted ds s) (emitted_of ds m ∷ []) _ n (omega (arith, length_records s)))

-- ---- what a record admits; k: how many Booleans are emitted

module _ (k : ℕ) (ρ : Val) where
  abbrev pub admitted : Emitted → ℤ → Bool
  admitted e x = admits k (emitted_words e) ρ x

  pub follows_is : (l : BoolLit) (a b x : ℤ) → admitted (following l a b) x ≡ true → x ≡ cond (lit_true ρ l) b a
  follows_is (lit n false) a b x h = eqZ_is x (cond (lit_true ρ (lit n false)) b a) (and_r (lit_emitted k (lit n false)) _ h)
  follows_is (lit n true) a b x h = eqZ_is x (cond (lit_true ρ (lit n true)) b a) (and_r (lit_emitted k (lit n true)) _ h)

  is_follows : (l : BoolLit) (a b x : ℤ) → number_of l < k → x ≡ cond (lit_true ρ l) b a → admitted (following l a b) x ≡ true
  is_follows (lit n false) a b x h e = and_i (lit_emitted k (lit n false)) _ (lt-ltb n k h) (is_eqZ x (cond (lit_true ρ (lit n false)) b a) e)
  is_follows (lit n true) a b x h e = and_i (lit_emitted k (lit n true)) _ (lt-ltb n k h) (is_eqZ x (cond (lit_true ρ (lit n true)) b a) e)

-- every record admits its integer's value
module _ (ds : List Domain) (ρ : Val) (ι : IVal) where
  abbrev pub Admitted : ℕ → Log → Type 0
  Admitted k s = (j : ℕ) → j < next_int s → admitted k ρ (emitted_at ds s j) (ι j) ≡ true

  pub admitted_before : (k : ℕ) (m : MadeInt) (s : Log) → Admitted k (int m ∷ s) → Admitted k s
  admitted_before k m s h j l = rw (emitted_step ds m s j l) at (h j (omega arith))

  admitted_more : (k : ℕ) (m : MadeInt) (s : Log) → Admitted k s → admitted k ρ (emitted_of ds m) (ι (next_int s)) ≡ true → Admitted k (int m ∷ s)
  admitted_more k m s w h n l = go (eqb n (next_int s)) refl
    where
      go : (b : Bool) → eqb n (next_int s) ≡ b → admitted k ρ (emitted_at ds (int m ∷ s) n) (ι n) ≡ true
      go true e = let q : n ≡ next_int s = eqb-true n (next_int s) e in rw (q, new_emitted ds m s) h
      go false e = let q = eqb-false n (next_int s) e in rw (emitted_step ds m s n (omega arith)) (w n (omega arith))

  pub within_before : (m : MadeInt) (s : Log) → Within ds ι (int m ∷ s) → Within ds ι s
  within_before m s h j l = rw (domain_step ds (int m) s j l) at (h j (omega arith))

  module _ (δ : Val) (ε : IVal) where
    -- the newest one: between its bounds; where it follows a literal, by agreeing
    made_admitted : (k : ℕ) (m : MadeInt) (s : Log) → Legal true δ ε (int m) s → next_bool s ≤ k → Agrees δ ε ρ ι (int m ∷ s) → Within ds ι (int m ∷ s) → admitted k ρ (emitted_of ds m) (ι (next_int s)) ≡ true
    made_admitted k (declared_int v) s l q a w = rw (new_domain ds (declared_int v) s) at (w (next_int s) (omega arith))
    made_admitted k (column x d) s l q a w = rw (new_domain ds (column x d) s) at (w (next_int s) (omega arith))
    made_admitted k (chosen i e p r d) s l q a w = rw (new_domain ds (chosen i e p r d) s) at (w (next_int s) (omega arith))
    made_admitted k (binary i x c d) s l q a w = is_follows k ρ x c d (ι (next_int s)) (omega (arith, l)) a.0

    pub agreeing_admitted : (k : ℕ) {s0 s : Log} → Extends δ ε s0 s → next_int s0 ≡ 0 → next_bool s ≤ k → Agrees δ ε ρ ι s → Within ds ι s → Admitted k s
    unfolding emitted made_ints emitted_domains
    agreeing_admitted k same z q a w n h = absurd (omega arith)
    agreeing_admitted k (grow (bool m) l g) z q a w n h = agreeing_admitted k g z (omega arith) a.1 w n h
    agreeing_admitted k (grow (merged u v p) l g) z q a w n h = absurd l
    agreeing_admitted k (grow {t} (int m) l g) z q a w n h =
        admitted_more k m t (agreeing_admitted k g z q a.1 (within_before m t w)) (made_admitted k m t l q a w) n h
    agreeing_admitted k (grow (added cs) l g) z q a w n h = agreeing_admitted k g z q a.1 w n h
    agreeing_admitted k (grow (defined cs) l g) z q a w n h = agreeing_admitted k g z q a.1 w n h
    agreeing_admitted k (grow (known e v) l g) z q a w n h = agreeing_admitted k g z q a.1 w n h
