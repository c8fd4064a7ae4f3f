-- What clauses, or a sum, made from a log say: one form for expressions, disjunctions, rules and tables. It composes over statements.
-- δ, ε: the declared variables; ρ, ι: the emitted numbers. What is said may depend on the numbers' values: x ρ ι.
use Rattle.std.specs.Prelude.{◌≡◌, refl, Bool, true, false, ◌&&◌, ◌||◌, List, [], ◌∷◌, ◌++◌, ◌≤◌, ℤ}
use Rattle.std.proofs.Common.{ap, ◌∙◌, arith}
use Rattle.laws.specs.Bools.{and_mono, or_mono}
use Rattle.laws.specs.Lists.{all, any, flat, all_append}
use Rattle.syntax.specs.Satisfies.{Val, IVal}
use Rattle.sums.specs.LinearSum.{sum_value}
use Rattle.clauses.specs.Clause.{Clause, clause, clause_true}
use Rattle.clauses.specs.Log.{Log, next_bool, next_int}
use Rattle.clauses.specs.Disjunction.{Out, Outs}
use Rattle.clauses.specs.Normalize.{IntOut}
use Rattle.clauses.proofs.Bounds.{clauses_bound, lists_bound, sum_bound, clauses_bound_append, clauses_bound_flat, ints_bound, int_lists_bound, ints_bound_append, ints_bound_flat}
use Rattle.clauses.specs.Valuation.{Agrees, Fits, all_true, any_all_true, all_all_true}
use Rattle.clauses.proofs.Grow.{Grows, same, grows_trans, grows_bool, grows_int, agrees_back, fits_back}

-- a truth value and a number that depend on the values of the emitted numbers
abbrev pub Truth : Type 0
Truth = Val → IVal → Bool

module _ (ρ : Val) (ι : IVal) where
  pub flat_true : (css : List (List Clause)) → all_true ρ ι (flat css) ≡ all_all_true ρ ι css
  flat_true [] = refl
  flat_true (cs ∷ css) = all_append (clause_true ρ ι) cs (flat css) ∙ ap (λ (x : Bool). all_true ρ ι cs && x) (flat_true css)

module _ (δ : Val) (ε : IVal) where
  abbrev pub A : Val → IVal → Log → Type 0
  A = Agrees δ ε

  abbrev pub F : Val → IVal → Log → Type 0
  F = Fits δ ε

  -- from the log s, the clauses and the log o: they say x
  pub record Means (s : Log) (o : Out) (x : Truth) : Type 0 where
    pub grows : Grows δ ε s o.1
    pub bounded : clauses_bound o.0 ≤ next_bool o.1
    pub numbered : ints_bound o.0 ≤ next_int o.1
    pub sound : (ρ : Val) (ι : IVal) → A ρ ι o.1 → all_true ρ ι o.0 ≡ true → x ρ ι ≡ true
    pub complete : (ρ : Val) (ι : IVal) → F ρ ι o.1 → x ρ ι ≡ true → all_true ρ ι o.0 ≡ true

  -- the members' lists o: all of them say x, any of them says y
  pub record MeansEach (s : Log) (o : Outs) (x y : Truth) : Type 0 where
    pub grows : Grows δ ε s o.1
    pub bounded : lists_bound o.0 ≤ next_bool o.1
    pub numbered : int_lists_bound o.0 ≤ next_int o.1
    pub sound_all : (ρ : Val) (ι : IVal) → A ρ ι o.1 → all_all_true ρ ι o.0 ≡ true → x ρ ι ≡ true
    pub sound_any : (ρ : Val) (ι : IVal) → A ρ ι o.1 → any_all_true ρ ι o.0 ≡ true → y ρ ι ≡ true
    pub complete_all : (ρ : Val) (ι : IVal) → F ρ ι o.1 → x ρ ι ≡ true → all_all_true ρ ι o.0 ≡ true
    pub complete_any : (ρ : Val) (ι : IVal) → F ρ ι o.1 → y ρ ι ≡ true → any_all_true ρ ι o.0 ≡ true

  -- the sum o has the value x
  pub record MeansInt (s : Log) (o : IntOut) (x : Val → IVal → ℤ) : Type 0 where
    pub grows : Grows δ ε s o.1
    pub bounded : sum_bound o.0 ≤ next_int o.1
    pub value : (ρ : Val) (ι : IVal) → A ρ ι o.1 → sum_value ι o.0 ≡ x ρ ι

  -- ---- composing

  pub means_none : (s : Log) → Means s ([], s) (λ ρ ι. true)
  means_none s = record { grows = same; bounded = omega arith; numbered = omega arith; sound = λ ρ ι a h. refl; complete = λ ρ ι f h. refl }

  pub means_false : (s : Log) → Means s (clause [] [] ∷ [], s) (λ ρ ι. false)
  means_false s = record { grows = same; bounded = omega arith; numbered = omega arith; sound = λ ρ ι a h. h; complete = λ ρ ι f h. h }

  -- clauses after clauses
  pub means_append : (s : Log) (a b : Out) (x y : Truth) → Means s a x → Means a.1 b y → Means s (a.0 ++ b.0, b.1) (λ ρ ι. x ρ ι && y ρ ι)
  means_append s a b x y p q = record {
    grows = grows_trans p.grows q.grows;
    bounded = omega (arith, clauses_bound_append a.0 b.0, p.bounded, q.bounded, grows_bool q.grows);
    numbered = omega (arith, ints_bound_append a.0 b.0, p.numbered, q.numbered, grows_int q.grows);
    sound = λ ρ ι r h. and_mono (all_true ρ ι a.0) (all_true ρ ι b.0) (x ρ ι) (y ρ ι) (p.sound ρ ι (agrees_back ρ ι q.grows r)) (q.sound ρ ι r) (rw (all_append (clause_true ρ ι) a.0 b.0) at h);
    complete = λ ρ ι f h. rw (all_append (clause_true ρ ι) a.0 b.0) (and_mono (x ρ ι) (y ρ ι) (all_true ρ ι a.0) (all_true ρ ι b.0) (p.complete ρ ι (fits_back ρ ι q.grows f)) (q.complete ρ ι f) h);
  }

  -- the log grew before
  pub means_after : (s t : Log) (o : Out) (x : Truth) → Grows δ ε s t → Means t o x → Means s o x
  means_after s t o x g p = record {
    grows = grows_trans g p.grows;
    bounded = p.bounded;
    numbered = p.numbered;
    sound = p.sound;
    complete = p.complete;
  }

  pub each_none : (s : Log) → MeansEach s ([], s) (λ ρ ι. true) (λ ρ ι. false)
  each_none s = record { grows = same; bounded = omega arith; numbered = omega arith; sound_all = λ ρ ι a h. refl; sound_any = λ ρ ι a h. h; complete_all = λ ρ ι f h. refl; complete_any = λ ρ ι f h. h }

  pub each_more : (s : Log) (a : Out) (b : Outs) (x y z : Truth) → Means s a x → MeansEach a.1 b y z → MeansEach s (a.0 ∷ b.0, b.1) (λ ρ ι. x ρ ι && y ρ ι) (λ ρ ι. x ρ ι || z ρ ι)
  each_more s a b x y z p q = record {
    grows = grows_trans p.grows q.grows;
    bounded = omega (arith, p.bounded, q.bounded, grows_bool q.grows);
    numbered = omega (arith, p.numbered, q.numbered, grows_int q.grows);
    sound_all = λ ρ ι r. and_mono (all_true ρ ι a.0) (all_all_true ρ ι b.0) (x ρ ι) (y ρ ι) (p.sound ρ ι (agrees_back ρ ι q.grows r)) (q.sound_all ρ ι r);
    sound_any = λ ρ ι r. or_mono (all_true ρ ι a.0) (any_all_true ρ ι b.0) (x ρ ι) (z ρ ι) (p.sound ρ ι (agrees_back ρ ι q.grows r)) (q.sound_any ρ ι r);
    complete_all = λ ρ ι f. and_mono (x ρ ι) (y ρ ι) (all_true ρ ι a.0) (all_all_true ρ ι b.0) (p.complete ρ ι (fits_back ρ ι q.grows f)) (q.complete_all ρ ι f);
    complete_any = λ ρ ι f. or_mono (x ρ ι) (z ρ ι) (all_true ρ ι a.0) (any_all_true ρ ι b.0) (p.complete ρ ι (fits_back ρ ι q.grows f)) (q.complete_any ρ ι f);
  }

  pub means_flat : (s : Log) (o : Outs) (x y : Truth) → MeansEach s o x y → Means s (flat o.0, o.1) x
  means_flat s o x y p = record {
    grows = p.grows;
    bounded = omega (arith, clauses_bound_flat o.0, p.bounded);
    numbered = omega (arith, ints_bound_flat o.0, p.numbered);
    sound = λ ρ ι r h. p.sound_all ρ ι r (rw (flat_true ρ ι o.0) at h);
    complete = λ ρ ι f h. rw (flat_true ρ ι o.0) (p.complete_all ρ ι f h);
  }

  -- the same truth by another name
  pub means_to : (s : Log) (o : Out) (x y : Truth) → ((ρ : Val) (ι : IVal) → x ρ ι ≡ y ρ ι) → Means s o x → Means s o y
  means_to s o x y e p = record {
    grows = p.grows;
    bounded = p.bounded;
    numbered = p.numbered;
    sound = λ ρ ι r h. rw (← (e ρ ι)) (p.sound ρ ι r h);
    complete = λ ρ ι f h. p.complete ρ ι f (rw (e ρ ι) h);
  }

  pub each_to : (s : Log) (o : Outs) (x x' y y' : Truth) → ((ρ : Val) (ι : IVal) → x ρ ι ≡ x' ρ ι) → ((ρ : Val) (ι : IVal) → y ρ ι ≡ y' ρ ι) → MeansEach s o x y → MeansEach s o x' y'
  each_to s o x x' y y' e g p = record {
    grows = p.grows;
    bounded = p.bounded;
    numbered = p.numbered;
    sound_all = λ ρ ι r h. rw (← (e ρ ι)) (p.sound_all ρ ι r h);
    sound_any = λ ρ ι r h. rw (← (g ρ ι)) (p.sound_any ρ ι r h);
    complete_all = λ ρ ι f h. p.complete_all ρ ι f (rw (e ρ ι) h);
    complete_any = λ ρ ι f h. p.complete_any ρ ι f (rw (g ρ ι) h);
  }
