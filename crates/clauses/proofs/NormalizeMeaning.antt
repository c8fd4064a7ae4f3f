-- The sum of an integer expression has the expression's value; the clauses of a Boolean expression, in either polarity, mean the expression.
use Rattle.std.specs.Prelude.{◌≡◌, Bool, ◌&&◌, ◌||◌, ℤ, pos, ◌+ℤ◌, ◌*ℤ◌}
use Rattle.std.proofs.Math.Path.{refl, ap}
use Rattle.std.proofs.Common.{sym, ◌∙◌}
use Rattle.std.proofs.Math.Bool.{true, false, not, cond, not-not}
use Rattle.std.specs.Bool.{beq}
use Rattle.std.proofs.Math.Option.{Option, none, some}
use mathlib.Core.List.{List, [], ◌∷◌, ◌++◌}
use Prim.Native.Nat.{ℕ, ◌≤◌, ◌<◌}
use native.Mathlib.Omega.{arith}
use Rattle.std.proofs.Math.IntN.{+ℤ_idl, +ℤ_idr, +ℤ_assoc}
use Rattle.std.specs.Int.Signed.{lt_z, le_z}
use Rattle.laws.specs.Bools.{and_l, and_r, and_i, beq_eq, beq_same, eq1, eq2, eq4}
use Rattle.laws.specs.Ints.{eqZ}
use Rattle.laws.specs.Order.{leZ_antisym, leZ_not, ltZ_not, leZ_refl, eqZ_is, is_eqZ}
use Rattle.syntax.specs.Syntax.{IfIsRead, Domain, Range, in_domain, CmpOp, Eq, Ne, Le, Lt, Ge, Gt, IntExpr, IConst, IVar, Linear, If, Terms, tnil, tmore, BoolExpr, Const, Var, NVar, And, Or, Not, Xor, Iff, Imp, Cmp, Members, mnil, more}
use Rattle.syntax.specs.Satisfies.{Val, IVal, compare, int_value, terms_value, holds, holds_all, holds_any}
use Rattle.sums.specs.LinearSum.{LinearSum, linear_sum, constant, singleton, is_constant, add_sum, mul_sum, sub_sum, sum_value}
use Rattle.sums.specs.Rising.{constant_of}
use Rattle.sums.proofs.Value.{constant_value, singleton_value, add_sum_value, mul_sum_value, compare_sum}
use Rattle.clauses.specs.Clause.{negate_if, BoolLit, lit, linear, clause, lit_true}
use Rattle.clauses.specs.Log.{declared, declared_int, column, chosen, binary, side, bool, int, defined, known, Log, next_bool, next_int, number_of, negate_lit, get_bool_var, get_int_var, get_if, bool_var_at, int_var_at, convert_bool_var, convert_int_var}
use Rattle.clauses.specs.Disjunction.{Out, Outs, normalize_disjunction}
use Rattle.clauses.specs.Normalize.{IntOut, IntRun, normalize_int_var, normalize_term, normalize_int_expr, normalize_terms, Run, Runs, define, no_run, run_then, two, normalize_conjunction, disjunction_of, cross, const_clauses, lit_clauses, normalize_num, normalize_var, negate_op_if, normalize_comparison, normalize_bool_expr, normalize_members, equals, own_literal, condition_literal, two_valued, hull, domain_of_sum, if_constant, if_open, normalize_if}
use Rattle.clauses.proofs.Bounds.{sub_sum_bound, expr_bound, members_bound, int_bound, terms_numbers, sum_bound, add_sum_bound, mul_sum_bound}
use Rattle.clauses.specs.Valuation.{Agrees, Fits, fits_agrees, all_true, negated_true}
use Rattle.clauses.proofs.Grow.{Grows, same, grow, Lawful, grows_trans, grows_bool, grows_int, get_bool_below, get_int_below, agrees_bool, agrees_int, agrees_back, fits_back, known_again, lawful_then}
use Rattle.clauses.proofs.Means.{Truth, Means, MeansEach, MeansInt, means_none, means_false, means_append, means_after, means_flat, means_to, each_none, each_more, each_to}
use Rattle.clauses.proofs.DisjunctionMeaning.{each_disjunction_means}

-- ---- truth values

one_lit : (x : Bool) → ((x || false) || false) && true ≡ x
one_lit = eq1 _ _ refl

one_comparison : (x : Bool) → (x || false) && true ≡ x
one_comparison = eq1 _ _ refl

-- all or any of the members, negated if g; A: all of them hold, O: any of them holds
all_of : Bool → Bool → Bool → Bool
all_of false A O = A
all_of true A O = not O

any_of : Bool → Bool → Bool → Bool
any_of false A O = O
any_of true A O = not A

all_more : (g x A O : Bool) → negate_if g x && all_of g A O ≡ all_of g (x && A) (x || O)
unfolding all_of
all_more = eq4 _ _ refl

any_more : (g x A O : Bool) → negate_if g x || any_of g A O ≡ any_of g (x && A) (x || O)
unfolding any_of
any_more = eq4 _ _ refl

negate_if_not : (g x : Bool) → negate_if (not g) x ≡ negate_if g (not x)
negate_if_not = eq2 _ _ refl

same_eq : (x y : Bool) → (x || (not y || false)) && (not x || (y || false)) ≡ beq x y
same_eq = eq2 _ _ refl

differ_eq : (x y : Bool) → (x || (y || false)) && (not x || (not y || false)) ≡ not (beq x y)
differ_eq = eq2 _ _ refl

not_differ_eq : (x y : Bool) → (x || (not y || false)) && (not x || (y || false)) ≡ not (not (beq x y))
not_differ_eq = eq2 _ _ refl

imp_eq : (x y : Bool) → not x || (y || false) ≡ not x || y
imp_eq = eq2 _ _ refl

not_imp_eq : (x y : Bool) → x && (not y && true) ≡ not (not x || y)
not_imp_eq = eq2 _ _ refl

negate_op_means : (g : Bool) (o : CmpOp) (x y : ℤ) → compare (negate_op_if g o) x y ≡ negate_if g (compare o x y)
negate_op_means false o x y = refl
negate_op_means true Eq x y = refl
negate_op_means true Ne x y = sym (not-not _)
negate_op_means true Le x y = ltZ_not y x
negate_op_means true Lt x y = leZ_not y x
negate_op_means true Ge x y = ltZ_not x y
negate_op_means true Gt x y = leZ_not x y

-- a value chosen by a condition h, where T says that v is the one branch's value and G that it is the other's
chosen_truth : (h T G : Bool) → Bool
chosen_truth h T G = (h && T) || ((not h && G) || false)

chosen_at : (h T G : Bool) (x y v : ℤ) → (T ≡ true → x ≡ v) → (G ≡ true → y ≡ v) → chosen_truth h T G ≡ true → v ≡ cond h x y
unfolding chosen_truth
chosen_at true true G x y v p q h = sym (p refl)
chosen_at true false G x y v p q h = absurd (false_true h)
  where
    false_true : ◌≡◌ {A = Bool} false true → ⊥
    false_true z = let w : ◌≡◌ {A = ℕ} 0 1 = cc in omega arith
chosen_at false T true x y v p q h = sym (q refl)
chosen_at false T false x y v p q h = absurd (false_true h)
  where
    false_true : ◌≡◌ {A = Bool} false true → ⊥
    false_true z = let w : ◌≡◌ {A = ℕ} 0 1 = cc in omega arith

chosen_back : (h T G : Bool) → (h ≡ true → T ≡ true) → (h ≡ false → G ≡ true) → chosen_truth h T G ≡ true
unfolding chosen_truth
chosen_back true T G p q = rw (p refl) refl
chosen_back false T G p q = rw (q refl) refl

constant_sum : (ι : IVal) (l : LinearSum) → is_constant l ≡ true → sum_value ι l ≡ constant_of l
constant_sum ι (linear_sum c []) h = +ℤ_idr c
constant_sum ι (linear_sum c (t ∷ ts)) h = absurd (let w : ◌≡◌ {A = ℕ} 0 1 = cc in omega arith)

module _ (δ : Val) (ε : IVal) (ds : List Domain) where
  abbrev M : Log → Out → Truth → Type 0
  M = Means δ ε

  abbrev MI : Log → IntOut → (Val → IVal → ℤ) → Type 0
  MI = MeansInt δ ε

  abbrev A : Val → IVal → Log → Type 0
  A = Agrees δ ε

  abbrev G : Log → Log → Type 0
  G = Grows δ ε

  abbrev L : Log → Type 0
  L = Lawful δ ε

  abbrev H : BoolExpr → Truth
  H e ρ ι = holds δ ε ρ e

  abbrev I : IntExpr → Val → IVal → ℤ
  I e ρ ι = int_value δ ε ρ e

  -- ---- integer expressions without If

  -- the number of a declared integer, old or new
  int_var_at_means : (v : ℕ) (s : Log) (w : Option ℕ) → get_int_var v s ≡ w → MI s (singleton (int_var_at w v s).0, (int_var_at w v s).1) (λ ρ ι. ε v)
  unfolding get_int_var
  int_var_at_means v s (some n) e = record { grows = same; bounded = omega (arith, get_int_below s v n e); value = λ ρ ι a. singleton_value ι n ∙ agrees_int δ ε ρ ι s a v n e }
  int_var_at_means v s none e = record { grows = grow (int (declared_int v)) e same; bounded = omega arith; value = λ ρ ι a. singleton_value ι (next_int s) ∙ a.0 }

  term_means : (s : Log) (k : ℤ) (sum : LinearSum) (a b : IntOut) (x y : Val → IVal → ℤ) → MI s a x
      → MI a.1 b (λ ρ ι. sum_value ι (add_sum sum (mul_sum k a.0)) +ℤ y ρ ι) → MI s b (λ ρ ι. sum_value ι sum +ℤ (k *ℤ x ρ ι +ℤ y ρ ι))
  term_means s k sum a b x y p q = record {
    grows = grows_trans p.grows q.grows;
    bounded = q.bounded;
    value = λ ρ ι r. q.value ρ ι r ∙ rw (add_sum_value ι sum (mul_sum k a.0), mul_sum_value ι k a.0, p.value ρ ι (agrees_back ρ ι q.grows r)) (+ℤ_assoc (sum_value ι sum) (k *ℤ x ρ ι) (y ρ ι));
  }

  comparison_means : (s : Log) (o : CmpOp) (g : Bool) (a b : IntOut) (x y : Val → IVal → ℤ) → MI s a x → MI a.1 b y
      → M s (clause [] (linear (negate_op_if g o) (sub_sum a.0 b.0) ∷ []) ∷ [], b.1) (λ ρ ι. negate_if g (compare o (x ρ ι) (y ρ ι)))
  comparison_means s o g a b x y p q = record {
    grows = grows_trans p.grows q.grows;
    bounded = omega arith;
    numbered = omega (arith, sub_sum_bound a.0 b.0, p.bounded, q.bounded, grows_int q.grows);
    sound = λ ρ ι r h. sym (e ρ ι r) ∙ h;
    complete = λ ρ ι f h. e ρ ι (fits_agrees δ ε ρ ι b.1 f) ∙ h;
  }
    where
      e : (ρ : Val) (ι : IVal) → A ρ ι b.1 → all_true ρ ι (clause [] (linear (negate_op_if g o) (sub_sum a.0 b.0) ∷ []) ∷ []) ≡ negate_if g (compare o (x ρ ι) (y ρ ι))
      e ρ ι r = one_comparison _ ∙ compare_sum ι (negate_op_if g o) a.0 b.0 ∙ rw (p.value ρ ι (agrees_back ρ ι q.grows r), q.value ρ ι r) (negate_op_means g o (x ρ ι) (y ρ ι))

  -- ---- leaves

  const_means : (s : Log) (b : Bool) → M s (const_clauses b, s) (λ ρ ι. b)
  const_means s true = means_none δ ε s
  const_means s false = means_false δ ε s

  lit_means : (s t : Log) (n : ℕ) (g : Bool) (x : Truth) → G s t → n < next_bool t → ((ρ : Val) (ι : IVal) → A ρ ι t → ρ n ≡ x ρ ι) → M s (lit_clauses n g, t) (λ ρ ι. negate_if g (x ρ ι))
  lit_means s t n g x gr hn e = record {
    grows = gr;
    bounded = omega arith;
    numbered = omega arith;
    sound = λ ρ ι r h. rw (← (e ρ ι r)) (rw (one_lit (negate_if g (ρ n))) at h);
    complete = λ ρ ι f h. rw (one_lit (negate_if g (ρ n)), e ρ ι (fits_agrees δ ε ρ ι t f)) h;
  }

  literal_means : (s t : Log) (l : BoolLit) (g : Bool) (x : Truth) → G s t → number_of l < next_bool t → ((ρ : Val) (ι : IVal) → A ρ ι t → lit_true ρ l ≡ x ρ ι)
      → M s (clause (negate_lit g l ∷ []) [] ∷ [], t) (λ ρ ι. negate_if g (x ρ ι))
  literal_means s t (lit n h) g x gr hn e = record {
    grows = gr;
    bounded = omega arith;
    numbered = omega arith;
    sound = λ ρ ι r q. rw (← (e ρ ι r)) (sym (negated_true ρ g (lit n h)) ∙ (rw (one_lit (lit_true ρ (negate_lit g (lit n h)))) at q));
    complete = λ ρ ι f q. rw (one_lit (lit_true ρ (negate_lit g (lit n h))), negated_true ρ g (lit n h), e ρ ι (fits_agrees δ ε ρ ι t f)) q;
  }

  var_at_means : (s : Log) (v : ℕ) (g : Bool) (w : Option BoolLit) → get_bool_var v s ≡ w → M s (clause (negate_lit g (bool_var_at w v s).0 ∷ []) [] ∷ [], (bool_var_at w v s).1) (λ ρ ι. negate_if g (δ v))
  var_at_means s v g (some l) e = literal_means s s l g (λ ρ ι. δ v) same (get_bool_below s v l e) (λ ρ ι r. agrees_bool δ ε ρ ι s r v l e)
  var_at_means s v g none e = literal_means s (bool (declared v) ∷ s) (lit (next_bool s) false) g (λ ρ ι. δ v) (grow (bool (declared v)) e same) (omega arith) (λ ρ ι r. r.0)

  -- ---- runs, from every lawful log that has the first k numbers

  module _ (k : ℕ) where
    abbrev RunMeans : Run → Truth → Type 0
    RunMeans r x = (s : Log) → k ≤ next_bool s → L s → M s (r s) x

    abbrev RunsMean : Runs → Truth → Truth → Type 0
    RunsMean r x y = (s : Log) → k ≤ next_bool s → L s → MeansEach δ ε s (r s) x y

    abbrev IntMeans : IntRun → (Val → IVal → ℤ) → Type 0
    IntMeans r x = (s : Log) → k ≤ next_bool s → L s → MI s (r s) x

    no_run_means : RunsMean no_run (λ ρ ι. true) (λ ρ ι. false)
    unfolding no_run
    no_run_means s h l = each_none δ ε s

    run_then_means : (a : Run) (c : Runs) (x y z : Truth) → RunMeans a x → RunsMean c y z → RunsMean (run_then a c) (λ ρ ι. x ρ ι && y ρ ι) (λ ρ ι. x ρ ι || z ρ ι)
    unfolding run_then
    run_then_means a c x y z p q s h l = each_more δ ε s (a s) (c (a s).1) x y z (p s h l) (q (a s).1 (omega (arith, grows_bool (p s h l).grows)) (lawful_then l (p s h l).grows))

    two_mean : (a b : Run) (x y : Truth) → RunMeans a x → RunMeans b y → RunsMean (two a b) (λ ρ ι. x ρ ι && (y ρ ι && true)) (λ ρ ι. x ρ ι || (y ρ ι || false))
    two_mean a b x y p q = run_then_means a (run_then b no_run) x (λ ρ ι. y ρ ι && true) (λ ρ ι. y ρ ι || false) p (run_then_means b no_run y (λ ρ ι. true) (λ ρ ι. false) q no_run_means)

    conjunction_means : (c : Runs) (x y : Truth) → RunsMean c x y → RunMeans (normalize_conjunction c) x
    unfolding normalize_conjunction
    conjunction_means c x y p s h l = means_flat δ ε s (c s) x y (p s h l)

    disjunction_of_means : (c : Runs) (x y : Truth) → RunsMean c x y → RunMeans (disjunction_of c) y
    unfolding disjunction_of
    disjunction_of_means c x y p s h l = means_after δ ε s (c s).1 _ y (p s h l).grows (each_disjunction_means δ ε s (c s).1 (c s) x y (p s h l) same)

    cross_at_means : (s : Log) (a b : Outs) (x y z w : Truth) → MeansEach δ ε s a x y → MeansEach δ ε a.1 b z w
        → M s ((normalize_disjunction a.0 b.1).0 ++ (normalize_disjunction b.0 (normalize_disjunction a.0 b.1).1).0, (normalize_disjunction b.0 (normalize_disjunction a.0 b.1).1).1) (λ ρ ι. y ρ ι && w ρ ι)
    cross_at_means s a b x y z w p q =
        let o : Out = normalize_disjunction a.0 b.1 in
        let c : M b.1 o y = each_disjunction_means δ ε s b.1 a x y p q.grows in
        let d : M o.1 (normalize_disjunction b.0 o.1) w = each_disjunction_means δ ε a.1 o.1 b z w q c.grows in
        means_after δ ε s b.1 _ (λ ρ ι. y ρ ι && w ρ ι) (grows_trans p.grows q.grows) (means_append δ ε b.1 o (normalize_disjunction b.0 o.1) y w c d)

    cross_means : (a b : Runs) (x y z w : Truth) → RunsMean a x y → RunsMean b z w → RunMeans (cross a b) (λ ρ ι. y ρ ι && w ρ ι)
    unfolding cross
    cross_means a b x y z w p q s h l = cross_at_means s (a s) (b (a s).1) x y z w (p s h l) (q (a s).1 (omega (arith, grows_bool (p s h l).grows)) (lawful_then l (p s h l).grows))

    run_to : (r : Run) (x y : Truth) → ((ρ : Val) (ι : IVal) → x ρ ι ≡ y ρ ι) → RunMeans r x → RunMeans r y
    run_to r x y e p s h l = means_to δ ε s (r s) x y e (p s h l)

    -- a condition's run in either polarity
    abbrev Either : (Bool → Run) → Truth → Type 0
    Either p x = (g : Bool) → RunMeans (p g) (λ ρ ι. negate_if g (x ρ ι))

    sides_mean : (a b : Bool → Run) (x y : Truth) (f g : Bool) → Either a x → Either b y → RunsMean (two (a f) (b g)) (λ ρ ι. negate_if f (x ρ ι) && (negate_if g (y ρ ι) && true)) (λ ρ ι. negate_if f (x ρ ι) || (negate_if g (y ρ ι) || false))
    sides_mean a b x y f g p q = two_mean (a f) (b g) (λ ρ ι. negate_if f (x ρ ι)) (λ ρ ι. negate_if g (y ρ ι)) (p f) (q g)

    -- ---- If

    -- the literal of a condition has the condition's value
    record ConditionMeans (s : Log) (l : BoolLit × Log) (x : Truth) : Type 0 where
      grows : G s l.1
      below : number_of l.0 < next_bool l.1
      value : (ρ : Val) (ι : IVal) → A ρ ι l.1 → lit_true ρ l.0 ≡ x ρ ι

    -- a new number n and the clauses r of its Iff
    new_number_means : (c : BoolExpr) (s : Log) (r : Out) → expr_bound c ≤ next_bool s
        → M (bool (side c) ∷ s) r (λ ρ ι. (ρ (next_bool s) || (not (holds δ ε ρ c) || false)) && (not (ρ (next_bool s)) || (holds δ ε ρ c || false)))
        → ConditionMeans s (lit (next_bool s) false, define r) (H c)
    unfolding define
    new_number_means c s r hb p = record {
      grows = grow (defined r.0) (
        p.bounded,
        p.numbered,
        λ ρ ι f.
            let e : ρ (next_bool s) ≡ holds δ ε ρ c = (fits_back ρ ι p.grows f).0 in
            p.complete ρ ι f (same_eq (ρ (next_bool s)) (holds δ ε ρ c) ∙ rw e (beq_same (holds δ ε ρ c))),
      ) (grows_trans (grow (bool (side c)) hb same) p.grows);
      below = omega (arith, grows_bool p.grows);
      value = λ ρ ι a. beq_eq (ρ (next_bool s)) (holds δ ε ρ c) (sym (same_eq (ρ (next_bool s)) (holds δ ε ρ c)) ∙ p.sound ρ ι a.1 a.0);
    }

    iff_number : (c : BoolExpr) (p : Bool → Run) → expr_bound c ≤ k → Either p (H c) → (s : Log) → k ≤ next_bool s → L s → ConditionMeans s (condition_literal none c p s) (H c)
    unfolding condition_literal cross run_then no_run normalize_num
    iff_number c p hb q s h l =
        let n : ℕ = next_bool s in
        let s₁ : Log = bool (side c) ∷ s in
        let l₁ : L s₁ = lawful_then l (grow {t = s} (bool (side c)) (omega arith) same) in
        let a : M s₁ (p true s₁) (λ ρ ι. not (holds δ ε ρ c)) = q true s₁ (omega arith) l₁ in
        let t₁ : Log = (p true s₁).1 in
        let l₂ : L t₁ = lawful_then l₁ a.grows in
        let b : M t₁ (p false t₁) (H c) = q false t₁ (omega (arith, grows_bool a.grows)) l₂ in
        let x = lit_means s₁ s₁ n false (λ ρ ι. ρ n) same (omega arith) (λ ρ ι r. refl) in
        let y = lit_means t₁ t₁ n true (λ ρ ι. ρ n) same (omega (arith, grows_bool a.grows)) (λ ρ ι r. refl) in
        let u = each_more δ ε s₁ (lit_clauses n false, s₁) ((p true s₁).0 ∷ [], t₁) (λ ρ ι. ρ n) _ _ x (each_more δ ε s₁ (p true s₁) ([], t₁) _ _ _ a (each_none δ ε t₁)) in
        let w = each_more δ ε t₁ (lit_clauses n true, t₁) ((p false t₁).0 ∷ [], (p false t₁).1) (λ ρ ι. not (ρ n)) _ _ y (each_more δ ε t₁ (p false t₁) ([], (p false t₁).1) _ _ _ b (each_none δ ε (p false t₁).1)) in
        new_number_means c s _ (omega arith) (cross_at_means s₁ _ _ _ _ _ _ u w)

    var_number : (v : ℕ) (s : Log) (w : Option BoolLit) → get_bool_var v s ≡ w → ConditionMeans s (bool_var_at w v s) (λ ρ ι. δ v)
    var_number v s (some n) e = record { grows = same; below = get_bool_below s v n e; value = λ ρ ι r. agrees_bool δ ε ρ ι s r v n e }
    var_number v s none e = record { grows = grow (bool (declared v)) e same; below = omega arith; value = λ ρ ι r. r.0 }

    condition_means : (c : BoolExpr) (p : Bool → Run) → expr_bound c ≤ k → Either p (H c) → (s : Log) → k ≤ next_bool s → L s → ConditionMeans s (condition_literal (own_literal c) c p s) (H c)
    unfolding condition_literal convert_bool_var holds expr_bound
    condition_means (Const b) p hb q s h l = iff_number (Const b) p hb q s h l
    condition_means (Var v) p hb q s h l = var_number v s (get_bool_var v s) refl
    condition_means (NVar n) p hb q s h l = record { grows = same; below = omega arith; value = λ ρ ι r. refl }
    condition_means (And ms) p hb q s h l = iff_number (And ms) p hb q s h l
    condition_means (Or ms) p hb q s h l = iff_number (Or ms) p hb q s h l
    condition_means (Not e) p hb q s h l = iff_number (Not e) p hb q s h l
    condition_means (Xor a b) p hb q s h l = iff_number (Xor a b) p hb q s h l
    condition_means (Iff a b) p hb q s h l = iff_number (Iff a b) p hb q s h l
    condition_means (Imp a b) p hb q s h l = iff_number (Imp a b) p hb q s h l
    condition_means (Cmp o a b) p hb q s h l = iff_number (Cmp o a b) p hb q s h l

    -- the two values
    one_value : (z x : ℤ) → in_domain z (Range x x) ≡ true → z ≡ x
    one_value z x h = leZ_antisym z x (and_r (le_z x z) (le_z z x) h) (and_l (le_z x z) (le_z z x) h)

    equal_branches : (b : Bool) (x y : ℤ) → eqZ x y ≡ true → x ≡ cond b x y
    equal_branches true x y h = refl
    equal_branches false x y h = eqZ_is x y h

    turned : (b : Bool) (x y : ℤ) → cond (not b) y x ≡ cond b x y
    turned true x y = refl
    turned false x y = refl

    two_valued_means : (i : IfIsRead) (t : Log) (l : BoolLit) (x y : ℤ) → number_of l < next_bool t → MI t (singleton (next_int t), int (two_valued i l x y) ∷ t) (λ ρ ι. cond (lit_true ρ l) x y)
    two_valued_means i t (lit n h) x y hn = go (lt_z x y) (eqZ x y) refl
      where
        l : BoolLit
        l = lit n h

        go : (a b : Bool) → eqZ x y ≡ b → MI t (singleton (next_int t), int (cond a (binary i (negate_lit true l) x y) (cond b (column (constant x) (Range x x)) (binary i l y x))) ∷ t) (λ ρ ι. cond (lit_true ρ l) x y)
        go true b e = record { grows = grow (int (binary i (negate_lit true l) x y)) hn same; bounded = omega arith; value = λ ρ ι r. singleton_value ι (next_int t) ∙ r.0 ∙ ap (λ z. cond z y x) (negated_true ρ true l) ∙ turned (lit_true ρ l) x y }
        go false true e = record { grows = grow {t = t} (int (column (constant x) (Range x x))) (omega arith, λ ρ ι f. rw (constant_value ι x) (and_i (le_z x x) (le_z x x) (leZ_refl x) (leZ_refl x))) same; bounded = omega arith; value = λ ρ ι r. singleton_value ι (next_int t) ∙ one_value (ι (next_int t)) x r.0 ∙ equal_branches (lit_true ρ l) x y e }
        go false false e = record { grows = grow (int (binary i l y x)) hn same; bounded = omega arith; value = λ ρ ι r. singleton_value ι (next_int t) ∙ r.0 }

    -- after another sum's making
    after_int : (s t : Log) (o : IntOut) (x y : Val → IVal → ℤ) → G s t → MI t o x → ((ρ : Val) (ι : IVal) → A ρ ι o.1 → x ρ ι ≡ y ρ ι) → MI s o y
    after_int s t o x y g p e = record {
      grows = grows_trans g p.grows;
      bounded = p.bounded;
      value = λ ρ ι r. p.value ρ ι r ∙ e ρ ι r;
    }

    if_constant_means : (i : IfIsRead) (c : BoolExpr) (p : Bool → Run) (s : Log) (x y : ℤ) → expr_bound c ≤ k → Either p (H c) → k ≤ next_bool s → L s → MI s (if_constant ds i c p x y s) (λ ρ ι. cond (holds δ ε ρ c) x y)
    unfolding if_constant
    if_constant_means i c p s x y hb q h l =
        let n = condition_literal (own_literal c) c p s in
        let m = condition_means c p hb q s h l in
        let t = two_valued_means i n.1 n.0 x y m.below in
        after_int s n.1 _ _ _ m.grows t (λ ρ ι r. ap (λ b. cond b x y) (m.value ρ ι (agrees_back ρ ι t.grows r)))

    -- the clause l = v, from any log that has both
    equals_means : (t : Log) (l : LinearSum) (v : ℕ) → sum_bound l ≤ next_int t → v < next_int t → M t (equals l v ∷ [], t) (λ ρ ι. eqZ (sum_value ι l) (ι v))
    equals_means t l v hl hv = record {
      grows = same;
      bounded = omega arith;
      numbered = omega (arith, sub_sum_bound l (singleton v));
      sound = λ ρ ι r h. sym (e ρ ι) ∙ h;
      complete = λ ρ ι f h. e ρ ι ∙ h;
    }
      where
        e : (ρ : Val) (ι : IVal) → all_true ρ ι (equals l v ∷ []) ≡ eqZ (sum_value ι l) (ι v)
        e ρ ι = one_comparison _ ∙ compare_sum ι Eq l (singleton v) ∙ ap (eqZ (sum_value ι l)) (singleton_value ι v)

    -- the If e, chosen by x between the sums t and f of the log s; the clauses r of its disjunction come behind its number
    open_means : (i : IfIsRead) (e : IntExpr) (d : Domain) (s : Log) (t f : LinearSum) (X : Truth) (T F : Val → IVal → ℤ) (r : Out) → int_bound e ≤ next_bool s → sum_bound t ≤ next_int s → sum_bound f ≤ next_int s
        → ((ρ : Val) (ι : IVal) → int_value δ ε ρ e ≡ cond (X ρ ι) (T ρ ι) (F ρ ι))
        → ((ρ : Val) (ι : IVal) → A ρ ι s → sum_value ι t ≡ T ρ ι) → ((ρ : Val) (ι : IVal) → A ρ ι s → sum_value ι f ≡ F ρ ι)
        → M (int (chosen i e t f d) ∷ s) r (λ ρ ι. chosen_truth (X ρ ι) (eqZ (sum_value ι t) (ι (next_int s))) (eqZ (sum_value ι f) (ι (next_int s))))
        → MI s (singleton (next_int s), known e (next_int s) ∷ define r) (I e)
    unfolding define
    open_means i e d s t f X T F r hb bt bf is vt vf p = record {
      grows = grow {t = defined r.0 ∷ r.1} (known e v) (omega (arith, grows_int p.grows), val)
          (grow (defined r.0) (p.bounded, p.numbered, λ ρ ι z. p.complete ρ ι z (right ρ ι (fits_back ρ ι p.grows z))) (grows_trans made p.grows));
      bounded = omega (arith, grows_int p.grows);
      value = λ ρ ι a. singleton_value ι v ∙ val ρ ι a.1;
    }
      where
        v : ℕ
        v = next_int s

        made : G s (int (chosen i e t f d) ∷ s)
        made = grow {t = s} (int (chosen i e t f d)) (hb, bt, bf, λ ρ ι a. record { which = X ρ ι; is = rw (vt ρ ι a, vf ρ ι a) (is ρ ι) }) same

        val : (ρ : Val) (ι : IVal) → A ρ ι (defined r.0 ∷ r.1) → ι v ≡ int_value δ ε ρ e
        val ρ ι a =
            let b : A ρ ι s = (agrees_back ρ ι p.grows a.1).1 in
            chosen_at (X ρ ι) (eqZ (sum_value ι t) (ι v)) (eqZ (sum_value ι f) (ι v)) (T ρ ι) (F ρ ι) (ι v)
            (λ q. sym (vt ρ ι b) ∙ eqZ_is (sum_value ι t) (ι v) q) (λ q. sym (vf ρ ι b) ∙ eqZ_is (sum_value ι f) (ι v) q) (p.sound ρ ι a.1 a.0) ∙ sym (is ρ ι)

        right : (ρ : Val) (ι : IVal) → Fits δ ε ρ ι (int (chosen i e t f d) ∷ s) → chosen_truth (X ρ ι) (eqZ (sum_value ι t) (ι v)) (eqZ (sum_value ι f) (ι v)) ≡ true
        right ρ ι z =
            let b : A ρ ι s = fits_agrees δ ε ρ ι s z.1 in
            let w : ι v ≡ cond (X ρ ι) (T ρ ι) (F ρ ι) = z.0 ∙ is ρ ι in
            chosen_back (X ρ ι) (eqZ (sum_value ι t) (ι v)) (eqZ (sum_value ι f) (ι v))
            (λ q. is_eqZ (sum_value ι t) (ι v) (vt ρ ι b ∙ sym (w ∙ ap (λ c. cond c (T ρ ι) (F ρ ι)) q)))
            (λ q. is_eqZ (sum_value ι f) (ι v) (vf ρ ι b ∙ sym (w ∙ ap (λ c. cond c (T ρ ι) (F ρ ι)) q)))

    if_open_means : (i : IfIsRead) (c : BoolExpr) (x y : IntExpr) (p : Bool → Run) (s : Log) (t f : LinearSum) → int_bound (If i c x y) ≤ k → sum_bound t ≤ next_int s → sum_bound f ≤ next_int s → Either p (H c)
        → ((ρ : Val) (ι : IVal) → A ρ ι s → sum_value ι t ≡ int_value δ ε ρ x) → ((ρ : Val) (ι : IVal) → A ρ ι s → sum_value ι f ≡ int_value δ ε ρ y)
        → k ≤ next_bool s → L s → MI s (if_open ds i (If i c x y) p t f s) (I (If i c x y))
    unfolding if_open int_value int_bound chosen_truth
    if_open_means i c x y p s t f hb bt bf q vt vf h l =
        let v : ℕ = next_int s in
        let d : Domain = hull (domain_of_sum ds s t) (domain_of_sum ds s f) in
        let s₁ : Log = int (chosen i (If i c x y) t f d) ∷ s in
        let l₁ : L s₁ = lawful_then l (grow {t = s} (int (chosen i (If i c x y) t f d)) (omega arith, bt, bf, λ ρ ι a. record { which = holds δ ε ρ c; is = rw (vt ρ ι a, vf ρ ι a) refl }) same) in
        let a : M s₁ (p false s₁) (H c) = q false s₁ h l₁ in
        let t₁ : Log = (p false s₁).1 in
        let b : M t₁ (p true t₁) (λ ρ ι. not (holds δ ε ρ c)) = q true t₁ (omega (arith, grows_bool a.grows)) (lawful_then l₁ a.grows) in
        let u₁ : Log = (p true t₁).1 in
        let one = means_append δ ε s₁ (p false s₁) (equals t v ∷ [], t₁) (H c) (λ ρ ι. eqZ (sum_value ι t) (ι v)) a (equals_means t₁ t v (omega (arith, grows_int a.grows)) (omega (arith, grows_int a.grows))) in
        let two' = means_append δ ε t₁ (p true t₁) (equals f v ∷ [], u₁) (λ ρ ι. not (holds δ ε ρ c)) (λ ρ ι. eqZ (sum_value ι f) (ι v)) b (equals_means u₁ f v (omega (arith, grows_int a.grows, grows_int b.grows)) (omega (arith, grows_int a.grows, grows_int b.grows))) in
        let both = each_more δ ε s₁ ((p false s₁).0 ++ (equals t v ∷ []), t₁) (((p true t₁).0 ++ (equals f v ∷ [])) ∷ [], u₁) _ _ _ one (each_more δ ε t₁ ((p true t₁).0 ++ (equals f v ∷ []), u₁) ([], u₁) _ _ _ two' (each_none δ ε u₁)) in
        let r = each_disjunction_means δ ε s₁ u₁ _ _ _ both same in
        let m = means_after δ ε s₁ u₁ _ _ both.grows r in
        open_means i (If i c x y) d s t f (H c) (I x) (I y) _ (omega arith) bt bf (λ ρ ι. refl) vt vf m

    -- a known If, or a new one behind its branches
    if_means : (i : IfIsRead) (c : BoolExpr) (x y : IntExpr) (p : Bool → Run) (t f : IntRun) → int_bound (If i c x y) ≤ k → Either p (H c) → IntMeans t (I x) → IntMeans f (I y)
        → (s : Log) (w : Option ℕ) → get_if (If i c x y) s ≡ w → k ≤ next_bool s → L s → MI s (normalize_if ds i w (If i c x y) c p t f s) (I (If i c x y))
    unfolding normalize_if int_bound int_value
    if_means i c x y p t f hb q vt vf s (some v) e h l =
        let m = known_again δ ε l (If i c x y) v e in
        record { grows = same; bounded = omega (arith, m.below); value = λ ρ ι r. singleton_value ι v ∙ m.value ρ ι r }
    if_means i c x y p t f hb q vt vf s none e h l = go (is_constant a.0 && is_constant b.0) refl
      where
        a : IntOut
        a = t s

        b : IntOut
        b = f a.1

        ma : MI s a (I x)
        ma = vt s h l

        mb : MI a.1 b (I y)
        mb = vf a.1 (omega (arith, grows_bool ma.grows)) (lawful_then l ma.grows)

        lb : L b.1
        lb = lawful_then (lawful_then l ma.grows) mb.grows

        hk : k ≤ next_bool b.1
        hk = omega (arith, grows_bool ma.grows, grows_bool mb.grows)

        va : (ρ : Val) (ι : IVal) → A ρ ι b.1 → sum_value ι a.0 ≡ int_value δ ε ρ x
        va ρ ι r = ma.value ρ ι (agrees_back ρ ι mb.grows r)

        go : (z : Bool) → is_constant a.0 && is_constant b.0 ≡ z
            → MI s (cond z (if_constant ds i c p (constant_of a.0) (constant_of b.0) b.1) (if_open ds i (If i c x y) p a.0 b.0 b.1)) (I (If i c x y))
        go true z =
            let m = if_constant_means i c p b.1 (constant_of a.0) (constant_of b.0) (omega arith) q hk lb in
            after_int s b.1 _ _ _ (grows_trans ma.grows mb.grows) m (λ ρ ι r.
            let r' : A ρ ι b.1 = agrees_back ρ ι m.grows r in
            rw (← (constant_sum ι a.0 (and_l (is_constant a.0) (is_constant b.0) z)), ← (constant_sum ι b.0 (and_r (is_constant a.0) (is_constant b.0) z)), va ρ ι r', mb.value ρ ι r') refl)
        go false z = after_int s b.1 _ _ _ (grows_trans ma.grows mb.grows) (if_open_means i c x y p b.1 a.0 b.0 hb (omega (arith, ma.bounded, grows_int mb.grows)) mb.bounded q va mb.value hk lb) (λ ρ ι r. refl)

    -- ---- all of it

    abbrev EitherWay : BoolExpr → Type 0
    EitherWay e = Either (normalize_bool_expr ds e) (H e)

    xor_means : (a b : BoolExpr) (g : Bool) → EitherWay a → EitherWay b → RunMeans (normalize_bool_expr ds (Xor a b) g) (λ ρ ι. negate_if g (holds δ ε ρ (Xor a b)))
    unfolding holds normalize_bool_expr
    xor_means a b false p q = run_to _ _ _ (λ ρ ι. differ_eq (holds δ ε ρ a) (holds δ ε ρ b)) (cross_means _ _ _ _ _ _ (sides_mean (normalize_bool_expr ds a) (normalize_bool_expr ds b) (H a) (H b) false false p q) (sides_mean (normalize_bool_expr ds a) (normalize_bool_expr ds b) (H a) (H b) true true p q))
    xor_means a b true p q = run_to _ _ _ (λ ρ ι. not_differ_eq (holds δ ε ρ a) (holds δ ε ρ b)) (cross_means _ _ _ _ _ _ (sides_mean (normalize_bool_expr ds a) (normalize_bool_expr ds b) (H a) (H b) false true p q) (sides_mean (normalize_bool_expr ds a) (normalize_bool_expr ds b) (H a) (H b) true false p q))

    iff_means : (a b : BoolExpr) (g : Bool) → EitherWay a → EitherWay b → RunMeans (normalize_bool_expr ds (Iff a b) g) (λ ρ ι. negate_if g (holds δ ε ρ (Iff a b)))
    unfolding holds normalize_bool_expr
    iff_means a b false p q = run_to _ _ _ (λ ρ ι. same_eq (holds δ ε ρ a) (holds δ ε ρ b)) (cross_means _ _ _ _ _ _ (sides_mean (normalize_bool_expr ds a) (normalize_bool_expr ds b) (H a) (H b) false true p q) (sides_mean (normalize_bool_expr ds a) (normalize_bool_expr ds b) (H a) (H b) true false p q))
    iff_means a b true p q = run_to _ _ _ (λ ρ ι. differ_eq (holds δ ε ρ a) (holds δ ε ρ b)) (cross_means _ _ _ _ _ _ (sides_mean (normalize_bool_expr ds a) (normalize_bool_expr ds b) (H a) (H b) false false p q) (sides_mean (normalize_bool_expr ds a) (normalize_bool_expr ds b) (H a) (H b) true true p q))

    imp_means : (a b : BoolExpr) (g : Bool) → EitherWay a → EitherWay b → RunMeans (normalize_bool_expr ds (Imp a b) g) (λ ρ ι. negate_if g (holds δ ε ρ (Imp a b)))
    unfolding holds normalize_bool_expr
    imp_means a b false p q = run_to _ _ _ (λ ρ ι. imp_eq (holds δ ε ρ a) (holds δ ε ρ b)) (disjunction_of_means _ _ _ (sides_mean (normalize_bool_expr ds a) (normalize_bool_expr ds b) (H a) (H b) true false p q))
    imp_means a b true p q = run_to _ _ _ (λ ρ ι. not_imp_eq (holds δ ε ρ a) (holds δ ε ρ b)) (conjunction_means _ _ _ (sides_mean (normalize_bool_expr ds a) (normalize_bool_expr ds b) (H a) (H b) false true p q))

    mutual
      unfolding holds int_value normalize_bool_expr expr_bound all_of any_of normalize_var convert_bool_var normalize_num normalize_comparison normalize_int_var normalize_term convert_int_var

      pub int_expr_runs : (e : IntExpr) → int_bound e ≤ k → IntMeans (normalize_int_expr ds e) (λ ρ ι. int_value δ ε ρ e)
      int_expr_runs (IConst c) h = λ s hs l. record { grows = same; bounded = omega arith; value = λ ρ ι a. constant_value ι c }
      int_expr_runs (IVar v) h = λ s hs l. int_var_at_means v s (get_int_var v s) refl
      int_expr_runs (Linear ts) h = λ s hs l. after_int s s _ _ _ same (terms_run ts h (constant (pos 0)) s hs l (omega arith)) (λ ρ ι r. rw (constant_value ι (pos 0)) (+ℤ_idl (terms_value δ ε ρ ts)))
      int_expr_runs (If i c t f) h = λ s hs l. if_means i c t f (normalize_bool_expr ds c) (normalize_int_expr ds t) (normalize_int_expr ds f) h (λ g. bool_expr_runs c g (omega arith)) (int_expr_runs t (omega arith)) (int_expr_runs f (omega arith)) s (get_if (If i c t f) s) refl hs l

      terms_run : (ts : Terms) → terms_numbers ts ≤ k → (sum : LinearSum) (s : Log) → k ≤ next_bool s → L s → sum_bound sum ≤ next_int s → MI s (normalize_terms ds ts sum s) (λ ρ ι. sum_value ι sum +ℤ terms_value δ ε ρ ts)
      terms_run tnil h = λ sum s hs l b. record { grows = same; bounded = b; value = λ ρ ι a. sym (+ℤ_idr (sum_value ι sum)) }
      terms_run (tmore c e ts) h = λ sum s hs l b.
          let a = normalize_int_expr ds e s in
          let p = int_expr_runs e (omega arith) s hs l in
          term_means s c sum a _ (λ ρ ι. int_value δ ε ρ e) (λ ρ ι. terms_value δ ε ρ ts) p
          (terms_run ts (omega arith) (add_sum sum (mul_sum c a.0)) a.1 (omega (arith, grows_bool p.grows)) (lawful_then l p.grows)
          (omega (arith, add_sum_bound sum (mul_sum c a.0), mul_sum_bound c a.0, p.bounded, grows_int p.grows)))

      pub bool_expr_runs : (e : BoolExpr) (g : Bool) → expr_bound e ≤ k → RunMeans (normalize_bool_expr ds e g) (λ ρ ι. negate_if g (holds δ ε ρ e))
      bool_expr_runs (Const b) g h = λ s hs l. const_means s (negate_if g b)
      bool_expr_runs (Var v) g h = λ s hs l. var_at_means s v g (get_bool_var v s) refl
      bool_expr_runs (NVar n) g h = λ s hs l. lit_means s s n g (λ ρ ι. ρ n) same (omega arith) (λ ρ ι r. refl)
      bool_expr_runs (And ms) false h = conjunction_means (normalize_members ds ms false) _ _ (members_runs ms false h)
      bool_expr_runs (And ms) true h = disjunction_of_means (normalize_members ds ms true) _ _ (members_runs ms true h)
      bool_expr_runs (Or ms) false h = disjunction_of_means (normalize_members ds ms false) _ _ (members_runs ms false h)
      bool_expr_runs (Or ms) true h = conjunction_means (normalize_members ds ms true) _ _ (members_runs ms true h)
      bool_expr_runs (Not e) g h = run_to _ _ _ (λ ρ ι. negate_if_not g (holds δ ε ρ e)) (bool_expr_runs e (not g) h)
      bool_expr_runs (Xor a b) g h = xor_means a b g (λ f. bool_expr_runs a f (omega arith)) (λ f. bool_expr_runs b f (omega arith))
      bool_expr_runs (Iff a b) g h = iff_means a b g (λ f. bool_expr_runs a f (omega arith)) (λ f. bool_expr_runs b f (omega arith))
      bool_expr_runs (Imp a b) g h = imp_means a b g (λ f. bool_expr_runs a f (omega arith)) (λ f. bool_expr_runs b f (omega arith))
      bool_expr_runs (Cmp o a b) g h = λ s hs l.
          let p = int_expr_runs a (omega arith) s hs l in
          let q = int_expr_runs b (omega arith) (normalize_int_expr ds a s).1 (omega (arith, grows_bool p.grows)) (lawful_then l p.grows) in
          comparison_means s o g (normalize_int_expr ds a s) (normalize_int_expr ds b (normalize_int_expr ds a s).1) (λ ρ ι. int_value δ ε ρ a) (λ ρ ι. int_value δ ε ρ b) p q

      members_runs : (ms : Members) (g : Bool) → members_bound ms ≤ k → RunsMean (normalize_members ds ms g) (λ ρ ι. all_of g (holds_all δ ε ρ ms) (holds_any δ ε ρ ms)) (λ ρ ι. any_of g (holds_all δ ε ρ ms) (holds_any δ ε ρ ms))
      members_runs mnil false h = no_run_means
      members_runs mnil true h = no_run_means
      members_runs (more e ms) g h = λ s hs l. each_to δ ε s _ _ _ _ _ (λ ρ ι. all_more g (holds δ ε ρ e) (holds_all δ ε ρ ms) (holds_any δ ε ρ ms)) (λ ρ ι. any_more g (holds δ ε ρ e) (holds_all δ ε ρ ms) (holds_any δ ε ρ ms))
          (run_then_means (normalize_bool_expr ds e g) (normalize_members ds ms g) _ _ _ (bool_expr_runs e g (omega arith)) (members_runs ms g (omega arith)) s hs l)

  -- the clauses of an expression mean the expression, negated if g; a sum has the expression's value
  pub bool_expr_means : (e : BoolExpr) (g : Bool) (s : Log) → expr_bound e ≤ next_bool s → Lawful δ ε s → Means δ ε s (normalize_bool_expr ds e g s) (λ ρ ι. negate_if g (holds δ ε ρ e))
  bool_expr_means e g s h l = bool_expr_runs (next_bool s) e g h s (omega arith) l

  pub int_expr_means : (e : IntExpr) (s : Log) → int_bound e ≤ next_bool s → Lawful δ ε s → MeansInt δ ε s (normalize_int_expr ds e s) (λ ρ ι. int_value δ ε ρ e)
  int_expr_means e s h l = int_expr_runs (next_bool s) e h s (omega arith) l
