-- The domains of the emitted integers: a number keeps its domain as the log grows; a declared variable's number has its declared domain.
use Rattle.std.proofs.Math.Path.{◌≡◌, refl}
use Rattle.std.proofs.Common.{◌∙◌, arith, length-append, eqb-true}
use Rattle.std.specs.Prelude.{Bool, true, false, cond, ℕ, ◌<◌, length, eqb}
use Rattle.std.proofs.Math.Option.{some}
use mathlib.Core.List.{List, [], ◌∷◌, ◌++◌, map-append}
use Rattle.std.proofs.Math.ListN.{length-map, get_or-append}
use Rattle.std.proofs.lemmas.List.{get_or_at}
use Rattle.syntax.specs.Syntax.{Domain, domain_of}
use Rattle.syntax.specs.Satisfies.{Val, IVal}
use Rattle.clauses.specs.Log.{MadeInt, declared_int, column, chosen, binary, Made, bool, merged, int, added, defined, known, Log, next_int, get_int_var, made_ints, domain_made, emitted_domains}
use Rattle.clauses.proofs.Grow.{GrowsBy, same, grow, grows_int, get_int_below}

length_made : (s : Log) → length (made_ints s) ≡ next_int s
unfolding made_ints
length_made [] = refl
length_made (bool m ∷ s) = length_made s
length_made (merged v w g ∷ s) = length_made s
length_made (int m ∷ s) = omega (arith, length-append (made_ints s) (m ∷ []), length_made s)
length_made (added cs ∷ s) = length_made s
length_made (defined cs ∷ s) = length_made s
length_made (known e v ∷ s) = length_made s

module _ (ds : List Domain) where
  pub length_emitted : (s : Log) → length (emitted_domains ds s) ≡ next_int s
  unfolding emitted_domains
  length_emitted s = length-map (made_ints s) (domain_made ds) ∙ length_made s

  abbrev pub domain_at : Log → ℕ → Domain
  domain_at s n = domain_of (emitted_domains ds s) n

  -- one more integer
  emitted_more : (m : MadeInt) (s : Log) → emitted_domains ds (int m ∷ s) ≡ emitted_domains ds s ++ (domain_made ds m ∷ [])
  unfolding emitted_domains made_ints
  emitted_more m s = map-append (domain_made ds) (made_ints s) (m ∷ [])

  -- the newest one
  pub new_domain : (m : MadeInt) (s : Log) → domain_at (int m ∷ s) (next_int s) ≡ domain_made ds m
  new_domain m s = rw (emitted_more m s) (get_or_at (emitted_domains ds s) (domain_made ds m) [] _ (next_int s) (length_emitted s))

  -- the older ones
  pub domain_step : (m : Made) (s : Log) (n : ℕ) → n < next_int s → domain_at (m ∷ s) n ≡ domain_at s n
  domain_step (bool m) s n l = unfold emitted_domains made_ints in refl
  domain_step (merged v w g) s n l = unfold emitted_domains made_ints in refl
  domain_step (int m) s n l = rw (emitted_more m s) (get_or-append (emitted_domains ds s) (domain_made ds m ∷ []) _ n (omega (arith, length_emitted s)))
  domain_step (added cs) s n l = unfold emitted_domains made_ints in refl
  domain_step (defined cs) s n l = unfold emitted_domains made_ints in refl
  domain_step (known e v) s n l = unfold emitted_domains made_ints in refl

  pub domain_stays : {stated : Bool} {δ : Val} {ε : IVal} {s t : Log} → GrowsBy stated δ ε s t → (n : ℕ) → n < next_int s → domain_at t n ≡ domain_at s n
  domain_stays same n l = refl
  domain_stays (grow {t} m h g) n l = domain_step m t n (omega (arith, grows_int g)) ∙ domain_stays g n l

  -- the number of a declared variable
  met : (s : Log) (v n w : ℕ) → (get_int_var v s ≡ some n → domain_at s n ≡ domain_of ds v) → (b : Bool) → eqb v w ≡ b → cond b (some (next_int s)) (get_int_var v s) ≡ some n
      → domain_at (int (declared_int w) ∷ s) n ≡ domain_of ds v
  met s v n w old true e h = let q : next_int s ≡ n = cc in let z : v ≡ w = eqb-true v w e in rw (← q, z) (new_domain (declared_int w) s)
  met s v n w old false e h = domain_step (int (declared_int w)) s n (get_int_below s v n h) ∙ old h

  pub int_var_domain : (s : Log) (v n : ℕ) → get_int_var v s ≡ some n → domain_at s n ≡ domain_of ds v
  unfolding get_int_var
  int_var_domain [] v n h = let z : ◌≡◌ {A = ℕ} 0 1 = cc in absurd (omega arith)
  int_var_domain (bool m ∷ s) v n h = domain_step (bool m) s n (get_int_below s v n h) ∙ int_var_domain s v n h
  int_var_domain (merged q r z ∷ s) v n h = domain_step (merged q r z) s n (get_int_below s v n h) ∙ int_var_domain s v n h
  int_var_domain (int (declared_int w) ∷ s) v n h = met s v n w (int_var_domain s v n) (eqb v w) refl h
  int_var_domain (int (column l d) ∷ s) v n h = domain_step (int (column l d)) s n (get_int_below s v n h) ∙ int_var_domain s v n h
  int_var_domain (int (chosen i e p q d) ∷ s) v n h = domain_step (int (chosen i e p q d)) s n (get_int_below s v n h) ∙ int_var_domain s v n h
  int_var_domain (int (binary i l a b) ∷ s) v n h = domain_step (int (binary i l a b)) s n (get_int_below s v n h) ∙ int_var_domain s v n h
  int_var_domain (added cs ∷ s) v n h = domain_step (added cs) s n (get_int_below s v n h) ∙ int_var_domain s v n h
  int_var_domain (defined cs ∷ s) v n h = domain_step (defined cs) s n (get_int_below s v n h) ∙ int_var_domain s v n h
  int_var_domain (known e k ∷ s) v n h = domain_step (known e k) s n (get_int_below s v n h) ∙ int_var_domain s v n h
