-- The clauses of a disjunction say that some member's clauses are all true. A longer member's new variable is tied to it one way only.
use Rattle.std.specs.Prelude.{◌≡◌, Bool, true, not, ◌&&◌, ◌||◌, ℕ, ◌≤◌, max}
use Rattle.std.proofs.Math.Path.{refl, sym, ap}
use Rattle.std.proofs.Common.{◌∙◌, arith}
use Rattle.std.proofs.Math.Bool.{false, and-true, or-false, or-true}
use mathlib.Core.List.{List, [], ◌∷◌, ◌++◌}
use Rattle.laws.specs.Bools.{and_l, and_r, and_i, eq1, eq2, eq3, eq5, imp2, imp3, imp4, imp5}
use Rattle.laws.specs.Lists.{any, any_append, all_append}
use Rattle.syntax.specs.Satisfies.{Val, IVal}
use Rattle.clauses.specs.Clause.{BoolLit, lit, LinearLit, Clause, clause, negate_if, lit_true, linear_true, clause_true}
use Rattle.clauses.specs.Log.{aux, bool, Log, next_bool, next_int}
use Rattle.clauses.specs.Disjunction.{add_bool, add_bool_each, Sorted, satisfied, pool, pooled, with_longer, sorted, Out, Outs, each_longer, finish_disjunction, finish_sorted, normalize_disjunction}
use Rattle.clauses.proofs.Bounds.{lits_bound, clauses_bound, lists_bound, lits_bound_append, clauses_bound_append, clauses_bound_add, linears_bound, ints_bound, int_lists_bound, linears_bound_append, ints_bound_append, ints_bound_add}
use Rattle.clauses.specs.Valuation.{all_true, any_all_true}
use Rattle.clauses.proofs.Grow.{Grows, same, grow, grows_trans, grows_bool, grows_int, agrees_back, fits_back}
use Rattle.clauses.proofs.Means.{Truth, Means, MeansEach, means_none, means_false, means_to}

-- ---- truth values

-- a longer member's value A, its variable W; the pool's literals P and comparisons Q, the other longer members R
each_sound : (A W P Q R : Bool) → (A || not W) && (((P || (W || false)) || Q) || R) ≡ true → (P || Q) || (A || R) ≡ true
each_sound = imp5 _ _ refl

each_complete : (A P Q R : Bool) → (P || Q) || (A || R) ≡ true → ((P || (A || false)) || Q) || R ≡ true
each_complete = imp4 _ _ refl

two_sound : (A B W : Bool) → (A || not W) && (B || W) ≡ true → A || (B || false) ≡ true
two_sound = imp3 _ _ refl

two_complete : (A B : Bool) → A || (B || false) ≡ true → (A || not A) && (B || A) ≡ true
two_complete = imp2 _ _ refl

or_not : (A : Bool) → A || not A ≡ true
or_not = eq1 _ _ refl

one_eq : (L A : Bool) → ((L || false) || false) || (A || false) ≡ A || L
one_eq = eq2 _ _ refl

pool_eq : (a b c d X : Bool) → ((a || c) || (b || d)) || X ≡ ((a || b) && true) || ((c || d) || X)
pool_eq = eq5 _ _ refl

longer_eq : (P A R : Bool) → P || (A || R) ≡ A || (P || R)
longer_eq = eq3 _ _ refl

or_and : (c r l : Bool) → (c || l) && (r || l) ≡ (c && r) || l
or_and = eq3 _ _ refl

swap_last : (a l k : Bool) → (a || (l || false)) || k ≡ (a || k) || l
swap_last = eq3 _ _ refl

module _ (ρ : Val) (ι : IVal) where
  add_bool_true : (l : BoolLit) (c : Clause) → clause_true ρ ι (add_bool l c) ≡ clause_true ρ ι c || lit_true ρ l
  add_bool_true l (clause ls ks) = rw (any_append (lit_true ρ) ls (l ∷ [])) (swap_last (any (lit_true ρ) ls) (lit_true ρ l) (any (linear_true ι) ks))

  -- a literal added to each clause
  pub add_each_true : (l : BoolLit) (cs : List Clause) → all_true ρ ι (add_bool_each l cs) ≡ all_true ρ ι cs || lit_true ρ l
  add_each_true l [] = refl
  add_each_true l (c ∷ cs) = rw (add_bool_true l c, add_each_true l cs) (or_and (clause_true ρ ι c) (all_true ρ ι cs) (lit_true ρ l))

-- ---- the members sorted

module _ (ρ : Val) (ι : IVal) where
  -- a literal or a comparison of the pool is true, or a longer member's clauses are
  abbrev pool_true : List BoolLit → List LinearLit → List (List Clause) → Bool
  pool_true ls ks longer = (any (lit_true ρ) ls || any (linear_true ι) ks) || any_all_true ρ ι longer

  sorted_true_of : Sorted → Bool
  sorted_true_of satisfied = true
  sorted_true_of (pool ls ks longer) = pool_true ls ks longer

  pooled_true : (c : Clause) (x : Sorted) → sorted_true_of (pooled c x) ≡ (clause_true ρ ι c && true) || sorted_true_of x
  unfolding sorted_true_of
  pooled_true c satisfied = sym (or-true (clause_true ρ ι c && true))
  pooled_true (clause ls ks) (pool ms js longer) = rw (any_append (lit_true ρ) ls ms, any_append (linear_true ι) ks js) (pool_eq (any (lit_true ρ) ls) (any (linear_true ι) ks) (any (lit_true ρ) ms) (any (linear_true ι) js) (any_all_true ρ ι longer))

  longer_true : (cs : List Clause) (x : Sorted) → sorted_true_of (with_longer cs x) ≡ all_true ρ ι cs || sorted_true_of x
  unfolding sorted_true_of
  longer_true cs satisfied = sym (or-true (all_true ρ ι cs))
  longer_true cs (pool ls ks longer) = longer_eq (any (lit_true ρ) ls || any (linear_true ι) ks) (all_true ρ ι cs) (any_all_true ρ ι longer)

  -- sorting keeps the disjunction; a member without clauses makes it true
  sorted_true : (css : List (List Clause)) → sorted_true_of (sorted css) ≡ any_all_true ρ ι css
  unfolding sorted sorted_true_of
  sorted_true [] = refl
  sorted_true ([] ∷ css) = refl
  sorted_true ((c ∷ []) ∷ css) = pooled_true c (sorted css) ∙ ap (λ (x : Bool). (clause_true ρ ι c && true) || x) (sorted_true css)
  sorted_true ((c ∷ d ∷ cs) ∷ css) = longer_true (c ∷ d ∷ cs) (sorted css) ∙ ap (λ (x : Bool). all_true ρ ι (c ∷ d ∷ cs) || x) (sorted_true css)

sorted_bound_of : Sorted → ℕ
sorted_bound_of satisfied = 0
sorted_bound_of (pool ls ks longer) = max (lits_bound ls) (lists_bound longer)

pooled_bound : (c : Clause) (x : Sorted) → sorted_bound_of (pooled c x) ≤ max (clauses_bound (c ∷ [])) (sorted_bound_of x)
unfolding sorted_bound_of
pooled_bound c satisfied = omega arith
pooled_bound (clause ls ks) (pool ms js longer) = rw (lits_bound_append ls ms) (omega arith)

longer_bound : (cs : List Clause) (x : Sorted) → sorted_bound_of (with_longer cs x) ≤ max (clauses_bound cs) (sorted_bound_of x)
unfolding sorted_bound_of
longer_bound cs satisfied = omega arith
longer_bound cs (pool ls ks longer) = omega arith

sorted_bound : (css : List (List Clause)) → sorted_bound_of (sorted css) ≤ lists_bound css
unfolding sorted sorted_bound_of
sorted_bound [] = omega arith
sorted_bound ([] ∷ css) = omega arith
sorted_bound ((c ∷ []) ∷ css) = omega (arith, pooled_bound c (sorted css), sorted_bound css)
sorted_bound ((c ∷ d ∷ cs) ∷ css) = omega (arith, longer_bound (c ∷ d ∷ cs) (sorted css), sorted_bound css)

sorted_ints_of : Sorted → ℕ
sorted_ints_of satisfied = 0
sorted_ints_of (pool ls ks longer) = max (linears_bound ks) (int_lists_bound longer)

pooled_ints : (c : Clause) (x : Sorted) → sorted_ints_of (pooled c x) ≤ max (ints_bound (c ∷ [])) (sorted_ints_of x)
unfolding sorted_ints_of
pooled_ints c satisfied = omega arith
pooled_ints (clause ls ks) (pool ms js longer) = rw (linears_bound_append ks js) (omega arith)

longer_ints : (cs : List Clause) (x : Sorted) → sorted_ints_of (with_longer cs x) ≤ max (ints_bound cs) (sorted_ints_of x)
unfolding sorted_ints_of
longer_ints cs satisfied = omega arith
longer_ints cs (pool ls ks longer) = omega arith

sorted_ints : (css : List (List Clause)) → sorted_ints_of (sorted css) ≤ int_lists_bound css
unfolding sorted sorted_ints_of
sorted_ints [] = omega arith
sorted_ints ([] ∷ css) = omega arith
sorted_ints ((c ∷ []) ∷ css) = omega (arith, pooled_ints c (sorted css), sorted_ints css)
sorted_ints ((c ∷ d ∷ cs) ∷ css) = omega (arith, longer_ints (c ∷ d ∷ cs) (sorted css), sorted_ints css)

module _ (δ : Val) (ε : IVal) where
  abbrev M : Log → Out → Truth → Type 0
  M = Means δ ε

  -- ---- a new variable for each longer member

  each_step : (cs : List Clause) (css : List (List Clause)) (ls : List BoolLit) (ks : List LinearLit) (s : Log) (o : Out) → clauses_bound cs ≤ next_bool s → ints_bound cs ≤ next_int s
      → M (bool (aux cs) ∷ s) o (λ ρ ι. pool_true ρ ι (ls ++ (lit (next_bool s) false ∷ [])) ks css)
      → M s (add_bool_each (lit (next_bool s) true) cs ++ o.0, o.1) (λ ρ ι. pool_true ρ ι ls ks (cs ∷ css))
  each_step cs css ls ks s o hb hn i =
      let v : ℕ = next_bool s in
      record {
        grows = grows_trans (grow (bool (aux cs)) (hb, hn) same) i.grows;
        bounded = rw (clauses_bound_append (add_bool_each (lit v true) cs) o.0) (omega (arith, clauses_bound_add v true cs, i.bounded, grows_bool i.grows));
        numbered = omega (arith, ints_bound_append (add_bool_each (lit v true) cs) o.0, ints_bound_add (lit v true) cs, i.numbered, grows_int i.grows);
        sound = λ ρ ι r h.
            let A : Bool = all_true ρ ι cs in
            let split = all_append (clause_true ρ ι) (add_bool_each (lit v true) cs) o.0 in
            let k = rw (split, add_each_true ρ ι (lit v true) cs) at h in
            each_sound A (ρ v) (any (lit_true ρ) ls) (any (linear_true ι) ks) (any_all_true ρ ι css) (and_i (A || not (ρ v)) _
            (and_l (A || not (ρ v)) (all_true ρ ι o.0) k)
            (rw (any_append (lit_true ρ) ls (lit v false ∷ [])) at (i.sound ρ ι r (and_r (A || not (ρ v)) (all_true ρ ι o.0) k))));
        complete = λ ρ ι f h.
            let A : Bool = all_true ρ ι cs in
            let split = all_append (clause_true ρ ι) (add_bool_each (lit v true) cs) o.0 in
            let e : ρ v ≡ A = (fits_back ρ ι i.grows f).0 in
            rw (split, add_each_true ρ ι (lit v true) cs, e)
            (and_i (A || not A) (all_true ρ ι o.0) (or_not A)
            (i.complete ρ ι f (rw (any_append (lit_true ρ) ls (lit v false ∷ []), e) (each_complete A (any (lit_true ρ) ls) (any (linear_true ι) ks) (any_all_true ρ ι css) h))));
      }

  each_means : (css : List (List Clause)) (ls : List BoolLit) (ks : List LinearLit) (s : Log) → lists_bound css ≤ next_bool s → lits_bound ls ≤ next_bool s → int_lists_bound css ≤ next_int s → linears_bound ks ≤ next_int s → M s (each_longer css ls ks s) (λ ρ ι. pool_true ρ ι ls ks css)
  unfolding each_longer
  each_means [] ls ks s hc hl hi hk = record { grows = same; bounded = omega arith; numbered = omega arith; sound = λ ρ ι r h. simp (or-false) (simp (and-true) at h); complete = λ ρ ι f h. simp (and-true) (simp (or-false) at h) }
  each_means (cs ∷ css) ls ks s hc hl hi hk = each_step cs css ls ks s _ (omega arith) (omega arith)
      (each_means css (ls ++ (lit (next_bool s) false ∷ [])) ks (bool (aux cs) ∷ s) (omega arith) (rw (lits_bound_append ls (lit (next_bool s) false ∷ [])) (omega arith)) (omega arith) hk)

  -- ---- the two short ways

  -- two longer members and an empty pool
  two_means : (a b : List Clause) (s : Log) → lists_bound (a ∷ b ∷ []) ≤ next_bool s → int_lists_bound (a ∷ b ∷ []) ≤ next_int s
      → M s (add_bool_each (lit (next_bool s) true) a ++ add_bool_each (lit (next_bool s) false) b, bool (aux a) ∷ s) (λ ρ ι. any_all_true ρ ι (a ∷ b ∷ []))
  two_means a b s hc hi =
      let v : ℕ = next_bool s in
      record {
        grows = grow {t = s} (bool (aux a)) (omega arith, omega arith) same;
        bounded = rw (clauses_bound_append (add_bool_each (lit v true) a) (add_bool_each (lit v false) b)) (omega (arith, clauses_bound_add v true a, clauses_bound_add v false b));
        numbered = omega (arith, ints_bound_append (add_bool_each (lit v true) a) (add_bool_each (lit v false) b), ints_bound_add (lit v true) a, ints_bound_add (lit v false) b);
        sound = λ ρ ι r h.
            let k = rw (all_append (clause_true ρ ι) (add_bool_each (lit v true) a) (add_bool_each (lit v false) b), add_each_true ρ ι (lit v true) a, add_each_true ρ ι (lit v false) b) at h in
            two_sound (all_true ρ ι a) (all_true ρ ι b) (ρ v) k;
        complete = λ ρ ι f h. rw (all_append (clause_true ρ ι) (add_bool_each (lit v true) a) (add_bool_each (lit v false) b), add_each_true ρ ι (lit v true) a, add_each_true ρ ι (lit v false) b, f.0) (two_complete (all_true ρ ι a) (all_true ρ ι b) h);
      }

  -- one longer member, and one literal that goes into its clauses
  one_means : (a : List Clause) (l : BoolLit) (s : Log) → lists_bound (a ∷ []) ≤ next_bool s → lits_bound (l ∷ []) ≤ next_bool s → int_lists_bound (a ∷ []) ≤ next_int s → M s (add_bool_each l a, s) (λ ρ ι. pool_true ρ ι (l ∷ []) [] (a ∷ []))
  one_means a (lit n g) s hc hl hi = record {
    grows = same;
    bounded = omega (arith, clauses_bound_add n g a);
    numbered = omega (arith, ints_bound_add (lit n g) a);
    sound = λ ρ ι r h. rw (one_eq (negate_if g (ρ n)) (all_true ρ ι a)) (rw (add_each_true ρ ι (lit n g) a) at h);
    complete = λ ρ ι f h. rw (add_each_true ρ ι (lit n g) a) (rw (one_eq (negate_if g (ρ n)) (all_true ρ ι a)) at h);
  }

  finish_means : (css : List (List Clause)) (ls : List BoolLit) (ks : List LinearLit) (s : Log) → lists_bound css ≤ next_bool s → lits_bound ls ≤ next_bool s → int_lists_bound css ≤ next_int s → linears_bound ks ≤ next_int s → M s (finish_disjunction css ls ks s) (λ ρ ι. pool_true ρ ι ls ks css)
  unfolding finish_disjunction
  finish_means [] ls ks s hc hl hi hk = each_means [] ls ks s hc hl hi hk
  finish_means (a ∷ []) [] [] s hc hl hi hk = record { grows = same; bounded = omega arith; numbered = omega arith; sound = λ ρ ι r h. simp or-false h; complete = λ ρ ι f h. simp or-false at h }
  finish_means (a ∷ []) (l ∷ []) [] s hc hl hi hk = one_means a l s hc hl hi
  finish_means (a ∷ []) (l ∷ m ∷ ls) [] s hc hl hi hk = each_means (a ∷ []) (l ∷ m ∷ ls) [] s hc hl hi hk
  finish_means (a ∷ []) ls (k ∷ ks) s hc hl hi hk = each_means (a ∷ []) ls (k ∷ ks) s hc hl hi hk
  finish_means (a ∷ b ∷ []) [] [] s hc hl hi hk = two_means a b s hc hi
  finish_means (a ∷ b ∷ []) [] (k ∷ ks) s hc hl hi hk = each_means (a ∷ b ∷ []) [] (k ∷ ks) s hc hl hi hk
  finish_means (a ∷ b ∷ []) (l ∷ ls) ks s hc hl hi hk = each_means (a ∷ b ∷ []) (l ∷ ls) ks s hc hl hi hk
  finish_means (a ∷ b ∷ c ∷ css) ls ks s hc hl hi hk = each_means (a ∷ b ∷ c ∷ css) ls ks s hc hl hi hk

  finish_sorted_means : (x : Sorted) (s : Log) → sorted_bound_of x ≤ next_bool s → sorted_ints_of x ≤ next_int s → M s (finish_sorted x s) (λ ρ ι. sorted_true_of ρ ι x)
  unfolding sorted_true_of sorted_bound_of sorted_ints_of finish_sorted
  finish_sorted_means satisfied s h i = means_none δ ε s
  finish_sorted_means (pool ls ks longer) s h i = finish_means longer ls ks s (omega arith) (omega arith) (omega arith) (omega arith)

  -- the members' lists are given: some member's clauses are all true
  pub disjunction_means : (css : List (List Clause)) (s : Log) → lists_bound css ≤ next_bool s → int_lists_bound css ≤ next_int s → Means δ ε s (normalize_disjunction css s) (λ ρ ι. any_all_true ρ ι css)
  unfolding normalize_disjunction
  disjunction_means [] s h i = means_false δ ε s
  disjunction_means (cs ∷ []) s h i = record { grows = same; bounded = omega arith; numbered = omega arith; sound = λ ρ ι r k. rw or-false k; complete = λ ρ ι f k. rw or-false at k }
  disjunction_means (cs ∷ ds ∷ css) s h i = means_to δ ε s _ _ _ (λ ρ ι. sorted_true ρ ι (cs ∷ ds ∷ css)) (finish_sorted_means (sorted (cs ∷ ds ∷ css)) s (omega (arith, sorted_bound (cs ∷ ds ∷ css))) (omega (arith, sorted_ints (cs ∷ ds ∷ css))))

  -- the members were met from the log s on, and the log grew to t since
  pub each_disjunction_means : (s t : Log) (o : Outs) (x y : Truth) → MeansEach δ ε s o x y → Grows δ ε o.1 t → Means δ ε t (normalize_disjunction o.0 t) y
  each_disjunction_means s t o x y p g =
      let d = disjunction_means o.0 t (omega (arith, p.bounded, grows_bool g)) (omega (arith, p.numbered, grows_int g)) in
      record {
        grows = d.grows;
        bounded = d.bounded;
        numbered = d.numbered;
        sound = λ ρ ι r h. p.sound_any ρ ι (agrees_back ρ ι (grows_trans g d.grows) r) (d.sound ρ ι r h);
        complete = λ ρ ι f h. d.complete ρ ι f (p.complete_any ρ ι (fits_back ρ ι (grows_trans g d.grows) f) h);
      }
