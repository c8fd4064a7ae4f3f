-- The clauses of an AllDifferent statement mean that the values differ pairwise: the clauses of the values exclude no such assignment.
use Rattle.std.specs.Prelude.{◌≡◌, true, false, ◌&&◌, cond, ℕ, ◌≤◌, ℤ, pos, nat_abs, length}
use Rattle.std.proofs.Math.Path.{refl, ap}
use Rattle.std.proofs.Common.{◌∙◌, arith}
use Rattle.std.proofs.Math.Bool.{Bool}
use mathlib.Core.List.{List, [], ◌∷◌, ◌++◌, map}
use Rattle.laws.specs.Bools.{and_l, and_r, and_i, never, both_ways}
use Rattle.laws.specs.Ints.{eqZ}
use Rattle.laws.specs.Order.{eqZ_is}
use Rattle.laws.specs.Same.{same_is}
use Rattle.laws.specs.Lists.{any, all, all_append}
use Rattle.syntax.specs.Syntax.{Domain, Range, Enumerative, enumerate, num_candidates, domain_of, Ne, IntExpr, IConst, IVar, Linear, If, BoolExpr, Cmp}
use Rattle.syntax.specs.Satisfies.{Val, IVal, int_value, holds, distinct}
use Rattle.syntax.specs.Written.{EveryInt, EveryColumn, Within, EveryIntOf, EveryColumnOf}
use Rattle.clauses.specs.Log.{Log}
use Rattle.clauses.specs.Split.{normalize_and_register_expr}
use Rattle.clauses.proofs.Bounds.{expr_bound, int_bound, NoNumbers, values_same}
use Rattle.clauses.proofs.Grow.{Lawful, lawful_over}
use Rattle.clauses.proofs.RuleMeaning.{Says, says_none, says_then, says_to, read_rule_means}
use Rattle.tables.specs.Domains.{in_enumerate}
use Rattle.tables.proofs.ValuesLaws.{length_range}
use Rattle.different.specs.Different.{pair_rules, value_rule, is_like, values_of_first, values_used_up, different_rules, normalize_rules}
use Rattle.different.proofs.Taken.{pairs_hold, values_hold}

-- ---- a list of rules means all of them

abbrev no_numbers : List BoolExpr → Type 0
no_numbers [] = Unit {0}
no_numbers (e ∷ es) = (expr_bound e ≤ 0) × no_numbers es

module _ (δ : Val) (ε : IVal) (ds : List Domain) where
  abbrev truth : BoolExpr → Bool
  truth = holds δ ε (λ n. false)

  rules_mean : (es : List BoolExpr) (s : Log) → no_numbers es → Lawful δ ε s → Says δ ε s (normalize_rules ds es s) (λ ρ ι. all truth es)
  unfolding normalize_rules
  rules_mean [] s h l = says_none δ ε s
  rules_mean (e ∷ es) s h l =
      let p = read_rule_means δ ε ds e s (λ n. false) h.0 l in
      says_then δ ε s _ _ (λ ρ ι. truth e) (λ ρ ι. all truth es) p (rules_mean es (normalize_and_register_expr ds e s) h.1 (lawful_over l p.grows))

-- ---- the rules of AllDifferent name no emitted number

both_free : (xs ys : List BoolExpr) → no_numbers xs → no_numbers ys → no_numbers (xs ++ ys)
both_free [] ys a b = b
both_free (x ∷ xs) ys a b = (a.0, both_free xs ys a.1 b)

one_free : (e : IntExpr) (es : List IntExpr) → int_bound e ≤ 0 → NoNumbers es → no_numbers (map (Cmp Ne e) es)
unfolding expr_bound
one_free e [] h k = tt
one_free e (f ∷ fs) h k = (omega (arith, h, k.0), one_free e fs h k.1)

pairs_free : (es : List IntExpr) → NoNumbers es → no_numbers (pair_rules es)
unfolding pair_rules
pairs_free [] h = tt
pairs_free (e ∷ es) h = both_free (map (Cmp Ne e) es) (pair_rules es) (one_free e es h.0 h.1) (pairs_free es h.1)

equals_free : (x : ℤ) (es : List IntExpr) → NoNumbers es → expr_bound (value_rule es x) ≤ 0
unfolding expr_bound
equals_free x [] h = omega arith
equals_free x (e ∷ es) h = omega (arith, h.0, equals_free x es h.1)

values_free : (es : List IntExpr) (xs : List ℤ) → NoNumbers es → no_numbers (map (value_rule es) xs)
values_free es [] h = tt
values_free es (x ∷ xs) h = (equals_free x es h, values_free es xs h)

-- ---- where the values are used up

count_is : (d : Domain) (n : ℕ) → eqZ (num_candidates d) (pos n) ≡ true → length (enumerate d) ≡ n
count_is (Range low high) n h = length_range low high ∙ ap nat_abs (eqZ_is (num_candidates (Range low high)) (pos n) h)
count_is (Enumerative xs) n h = ap nat_abs (eqZ_is (pos (length xs)) (pos n) h)

module _ (ds : List Domain) (δ : Val) (ε : IVal) (ρ : Val) where
  like_has : (n : ℕ) (d : Domain) (e : IntExpr) → EveryInt (Within ds ε) e → is_like ds n d e ≡ true → any (eqZ (int_value δ ε ρ e)) (enumerate d) ≡ true
  unfolding EveryIntOf int_value
  like_has n d (IConst c) w h = never h
  like_has n d (IVar v) w h =
      let z : enumerate (domain_of ds v) ≡ enumerate d = same_is (enumerate (domain_of ds v)) (enumerate d) (and_r (eqZ (num_candidates (domain_of ds v)) (pos n)) _ h) in
      rw (← z) (in_enumerate (ε v) (domain_of ds v) w)
  like_has n d (Linear ts) w h = never h
  like_has n d (If i c t f) w h = never h

  likes_have : (n : ℕ) (d : Domain) (es : List IntExpr) → EveryColumn (Within ds ε) es → all (is_like ds n d) es ≡ true → all (λ x. any (eqZ x) (enumerate d)) (map (int_value δ ε ρ) es) ≡ true
  unfolding EveryColumnOf
  likes_have n d [] w h = refl
  likes_have n d (e ∷ es) w h = and_i (any (eqZ (int_value δ ε ρ e)) (enumerate d)) _ (like_has n d e w.0 (and_l (is_like ds n d e) (all (is_like ds n d) es) h)) (likes_have n d es w.1 (and_r (is_like ds n d e) (all (is_like ds n d) es) h))

  first_hold : (n : ℕ) (es : List IntExpr) → n ≡ length es → EveryColumn (Within ds ε) es → distinct (map (int_value δ ε ρ) es) ≡ true → all (holds δ ε ρ) (map (value_rule es) (values_of_first ds n es)) ≡ true
  unfolding values_of_first
  first_hold n [] k w u = refl
  first_hold n (IConst c ∷ es) k w u = refl
  first_hold n (IVar v ∷ es) k w u = go (all (is_like ds n d) (IVar v ∷ es)) refl
    where
      d : Domain
      d = domain_of ds v

      go : (t : Bool) → all (is_like ds n d) (IVar v ∷ es) ≡ t → all (holds δ ε ρ) (map (value_rule (IVar v ∷ es)) (cond t (enumerate d) [])) ≡ true
      go false h = refl
      go true h =
          let l : length (enumerate d) ≡ n = count_is d n (and_l (eqZ (num_candidates d) (pos n)) _ (and_l (is_like ds n d (IVar v)) (all (is_like ds n d) es) h)) in
          values_hold δ ε ρ (IVar v ∷ es) (enumerate d) u (likes_have n d (IVar v ∷ es) w h) (omega (arith, l, k))
  first_hold n (Linear ts ∷ es) k w u = refl
  first_hold n (If i c t f ∷ es) k w u = refl

  used_hold : (es : List IntExpr) → EveryColumn (Within ds ε) es → distinct (map (int_value δ ε ρ) es) ≡ true → all (holds δ ε ρ) (map (value_rule es) (values_used_up ds es)) ≡ true
  unfolding values_used_up
  used_hold [] w u = refl
  used_hold (e ∷ []) w u = refl
  used_hold (e ∷ f ∷ es) w u = first_hold _ (e ∷ f ∷ es) refl w u

-- ---- the theorem

module _ (δ : Val) (ε : IVal) (ds : List Domain) where
  rules_hold : (ρ : Val) (es : List IntExpr) → NoNumbers es → EveryColumn (Within ds ε) es → all (truth δ ε ds) (different_rules ds es) ≡ distinct (map (int_value δ ε ρ) es)
  unfolding different_rules
  rules_hold ρ es low w =
      let p : Bool = distinct (map (int_value δ ε (λ n. false)) es) in
      let v : Bool = all (truth δ ε ds) (map (value_rule es) (values_used_up ds es)) in
      let e : all (truth δ ε ds) (pair_rules es ++ map (value_rule es) (values_used_up ds es)) ≡ p && v = all_append (truth δ ε ds) (pair_rules es) (map (value_rule es) (values_used_up ds es)) ∙ ap (λ (b : Bool). b && v) (pairs_hold δ ε (λ n. false) es) in
      e ∙ both_ways (p && v) p (λ h. and_l p v h) (λ h. and_i p v h (used_hold ds δ ε (λ n. false) es w h)) ∙ ap distinct (values_same (λ n. false) ρ δ ε es low)

  pub different_means : (es : List IntExpr) (s : Log) → NoNumbers es → EveryColumn (Within ds ε) es → Lawful δ ε s → Says δ ε s (normalize_rules ds (different_rules ds es) s) (λ ρ ι. distinct (map (int_value δ ε ρ) es))
  different_means es s low w l =
      says_to δ ε s _ _ _ (λ ρ ι. rules_hold ρ es low w)
      (rules_mean δ ε ds (different_rules ds es) s (unfold different_rules in both_free (pair_rules es) (map (value_rule es) (values_used_up ds es)) (pairs_free es low) (values_free es (values_used_up ds es) low)) l)
