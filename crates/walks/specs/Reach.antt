-- The domains found in a slice reach no further than what they belong to weighs (`range_carries`), where the log's Ifs do (`LightIfs`): so in a log without Ifs
-- (`none_light`); rules, columns and tables keep it (`rule_light`, `column_light`, `table_light`). No refusal is asked for. w: a work slice as `Placed` says.
use Rattle.std.specs.Prelude.{◌≡◌, Bool, ◌&&◌, ℤ, pos, nat_abs}
use Rattle.std.proofs.Math.Path.{refl}
use Rattle.std.proofs.Common.{sym, ◌∙◌, mul-le-mul_left, arith}
use Rattle.std.proofs.Math.Bool.{true, false, cond}
use Rattle.std.proofs.Math.Option.{Option, none, some}
use mathlib.Core.List.{List, [], ◌∷◌, map}
use Prim.Native.Nat.{ℕ, suc, ◌+◌, ◌*◌, ◌≤◌, ◌<◌, max}
use Rattle.std.proofs.Math.Nat.{le_trans}
use Rattle.std.specs.Int.Signed.{lt_z}
use Rattle.std.proofs.Math.ListN.{length}
use Rattle.laws.specs.Ints.{eqZ}
use Rattle.laws.specs.Lists.{any}
use Rattle.laws.specs.Same.{same_words, same_is}
use Rattle.syntax.specs.Syntax.{IfIsRead, Domain, Range, domain_of, IntExpr, IConst, IVar, Linear, If, Terms, tnil, tmore, BoolExpr, Const, Var, NVar, And, Or, Not, Xor, Iff, Imp, Cmp, encode_int, encode_bool, Cell}
use Rattle.syntax.specs.Unique.{int_unique_words}
use Rattle.limits.specs.Limits.{domain_weight, weight, terms_weight}
use Rattle.sums.specs.LinearSum.{LinearSum, constant, singleton, is_constant, add_sum, mul_sum}
use Rattle.sums.specs.Rising.{constant_of}
use Rattle.sums.proofs.NormLaws.{constant_load, singleton_load, add_sum_load, mul_sum_load}
use Rattle.sums.specs.Norm.{load}
use Rattle.sums.specs.Bounds.{reach}
use Rattle.sums.proofs.BoundsLaws.{reach_weight}
use Rattle.clauses.specs.Clause.{BoolLit, Clause}
use Rattle.clauses.specs.Log.{MadeBool, side, MadeInt, declared_int, column, chosen, binary, bool, int, added, defined, known, Log, next_bool, next_int, negate_lit, get_bool_var, get_int_var, get_if, bool_var_at, int_var_at, convert_bool_var, convert_int_var, domain_made}
use Rattle.clauses.specs.Normalize.{Run, Runs, IntOut, IntRun, register, define, no_run, run_then, two, normalize_conjunction, disjunction_of, cross as cross-run, normalize_num, normalize_var, normalize_comparison, normalize_int_var, normalize_term, own_literal, condition_literal, two_valued, hull, domain_of_sum, if_constant, if_open, normalize_if, normalize_int_expr}
use Rattle.clauses.specs.Split.{tseitin_transformation_bool as cut, normalize_and_register_expr}
use Rattle.clauses.proofs.Grow.{get_int_below}
use Rattle.clauses.proofs.Emitted.{domain_at, new_domain, domain_step, int_var_domain}
use Rattle.clauses.proofs.Since.{OnTop, here, over, top_then, top_domain}
use Rattle.tables.specs.Tables.{Columns, is_star, new_column, old_column, equivalent_int_var, equivalent_int_vars, star_table, plain_table, normalize_extension_supports, normalize_table}
use Rattle.walk.specs.Item.{int_number}
use Rattle.walk.specs.declared.Counters.{Counters}
use Rattle.walks.specs.Tree.{Place, Tree, var, num, cmp, conj, disj, cross, tied, Trees, nil, cons, IntTree, const, ivar, sum, choice, TermTrees, none as no_terms, term, Splitting, never, below, splits, splits_int, split_of, split_int, split_terms, condition_of, own_var, resolve_int, run, runs, run_int, run_terms, registers}
use Rattle.walks.specs.Form.{IntForm, const as form-const, ivar as form-ivar, sum as form-sum, choice as form-choice, TermForms, none as form-none, term as form-term, form, int_form, term_forms}
use Rattle.walks.specs.Item.{form_item, ivar_item, if_number, choice_item, item, int_item}
use Rattle.walks.specs.Placed.{PlacedInt, PlacedTerms}
use Rattle.walks.specs.Meet.{found, range_of}
use Rattle.walks.specs.Grow.{RunGrows, either_grows, opened_grows, run_grow, int_grow, terms_grow}
use Rattle.walks.specs.Implements.{ProperInt, ProperTerms, at, Ready, ready_back, int_good}
use Rattle.walks.specs.Ranges.{RightAt, range_right}
use Rattle.walks.specs.Resolve.{split_sided, rule_trees, rule_runs, pair_trees, column_runs}
use Rattle.walks.specs.Kept.{disjunction_keeps}
use Rattle.walks.specs.Keys.{Key, Every, every_none, every_more, Makes, keys, keys_int, Choices, ChoicesAll, ChoicesInt, ChoicesTerms, int_choices}
use Rattle.walks.specs.KeyAt.{pair_keys, rule_choices, pair_choices}
use Rattle.walks.specs.Totals.{weight_of, term_weights, behind_of, Carries, CarriesTerms, constant_size, sum_reach, hull_reach, total_reach}
use Rattle.walks.specs.SumsFit.{form_weight}

-- ---- sizes

last : (k : ℕ) → k < suc k
last k = omega arith

both_within : (x y a b : ℕ) → x ≤ a → y ≤ b → max x y ≤ max 1 (max a b)
both_within x y a b h k = omega arith

turned_within : (x y a b : ℕ) → x ≤ a → y ≤ b → max y x ≤ max 1 (max a b)
turned_within x y a b h k = omega arith

one_within : (x a b : ℕ) → x ≤ a → max x x ≤ max 1 (max a b)
one_within x a b h = omega arith

-- ---- an If that a log finds

module _ (ds : List Domain) where
  -- its number's domain reaches no further than the If weighs
  abbrev pub LightIfs : Log → Type 0
  LightIfs s = (e : IntExpr) (v : ℕ) → get_if e s ≡ some v → (v < next_int s) × (reach (domain_at ds s v) ≤ weight ds e)

  -- a log that finds none
  pub none_light : (s : Log) → ((e : IntExpr) → get_if e s ≡ none) → LightIfs s
  none_light s h e v k = absurd (let i = h e in let z : ◌≡◌ {A = ℕ} 0 1 = cc in omega arith)

  -- a later one that finds the same
  same_light : (s t : Log) → OnTop s t → next_int s ≤ next_int t → ((e : IntExpr) → get_if e t ≡ get_if e s) → LightIfs s → LightIfs t
  same_light s t o l g h e v k = let x = h e v (sym (g e) ∙ k) in (omega (arith, x.0), rw (top_domain ds o v x.0) x.1)

  pub light_bool : (m : MadeBool) (s : Log) → LightIfs s → LightIfs (bool m ∷ s)
  unfolding get_if
  light_bool m s h = same_light s (bool m ∷ s) (over (bool m) here) (omega arith) (λ e. refl) h

  pub light_int : (m : MadeInt) (s : Log) → LightIfs s → LightIfs (int m ∷ s)
  unfolding get_if
  light_int m s h = same_light s (int m ∷ s) (over (int m) here) (omega arith) (λ e. refl) h

  light_added : (cs : List Clause) (s : Log) → LightIfs s → LightIfs (added cs ∷ s)
  unfolding get_if
  light_added cs s h = same_light s (added cs ∷ s) (over (added cs) here) (omega arith) (λ e. refl) h

  light_defined : (cs : List Clause) (s : Log) → LightIfs s → LightIfs (defined cs ∷ s)
  unfolding get_if
  light_defined cs s h = same_light s (defined cs ∷ s) (over (defined cs) here) (omega arith) (λ e. refl) h

  light_known : (f : IntExpr) (n : ℕ) (s : Log) → n < next_int s → reach (domain_at ds (known f n ∷ s) n) ≤ weight ds f → LightIfs s → LightIfs (known f n ∷ s)
  unfolding get_if
  light_known f n s l b h e v k = go (same_words (encode_int e) (encode_int f)) refl k
    where
      go : (t : Bool) → same_words (encode_int e) (encode_int f) ≡ t → cond t (some n) (get_if e s) ≡ some v → (v < next_int s) × (reach (domain_at ds (known f n ∷ s) v) ≤ weight ds e)
      go true i j =
          let q : n ≡ v = cc in
          let z : e ≡ f = int_unique_words e f (same_is (encode_int e) (encode_int f) i) in
          rw (← q, z) (l, b)
      go false i j = let x = h e v j in (x.0, rw (domain_step ds (known f n) s v x.0) x.1)

  -- ---- the sums of runs weigh no more than k, by the domains of every later log

  abbrev Weighs : ℕ → IntOut → Type 0
  Weighs k o = (t : Log) → OnTop o.1 t → load (λ v. reach (domain_at ds t v)) o.0 ≤ k

  single_weighs : (k n : ℕ) (s : Log) → n < next_int s → reach (domain_at ds s n) ≤ k → Weighs k (singleton n, s)
  single_weighs k n s l h t o = rw (singleton_load (λ v. reach (domain_at ds t v)) n, top_domain ds o n l) h

  abbrev Keeps : {A : Type 0} → (Log → A × Log) → Type 0
  Keeps r = (s : Log) → LightIfs s → LightIfs (r s).1

  abbrev LightRun : ℕ → IntRun → Type 0
  LightRun k r = (s : Log) → LightIfs s → LightIfs (r s).1 × Weighs k (r s)

  -- ---- declared variables

  bool_var_light : (v : ℕ) → Keeps (convert_bool_var v)
  unfolding convert_bool_var
  bool_var_light v s h = go (get_bool_var v s)
    where
      go : (o : Option BoolLit) → LightIfs (bool_var_at o v s).1
      go (some l) = h
      go none = light_bool _ s h

  int_var_light : (v : ℕ) → LightRun (domain_weight (domain_of ds v)) (normalize_int_var v)
  unfolding normalize_int_var convert_int_var
  int_var_light v s h = go (get_int_var v s) refl
    where
      go : (o : Option ℕ) → get_int_var v s ≡ o → LightIfs (int_var_at o v s).1 × Weighs (domain_weight (domain_of ds v)) (singleton (int_var_at o v s).0, (int_var_at o v s).1)
      go (some n) e = (h, single_weighs _ n s (get_int_below s v n e) (rw (int_var_domain ds s v n e) (reach_weight (domain_of ds v))))
      go none e =
          let z = int (declared_int v) ∷ s in
          (light_int _ s h, single_weighs _ (next_int s) z (omega arith) (rw (new_domain ds (declared_int v) s) (reach_weight (domain_of ds v))))

  -- ---- Boolean runs

  two_light : (r q : Run) → Keeps r → Keeps q → Keeps (two r q)
  unfolding run_then no_run
  two_light r q h k s l = k (r s).1 (h s l)

  cross_light : (p q : Runs) → Keeps p → Keeps q → Keeps (cross-run p q)
  unfolding cross-run
  cross_light p q h k s l =
      let a = p s in
      let b = q a.1 in
      let c = disjunction_keeps LightIfs light_bool a.0 b.1 (k a.1 (h s l)) in
      disjunction_keeps LightIfs light_bool b.0 _ c

  -- ---- an If

  literal_light : (c : BoolExpr) (p : Bool → Run) → ((g : Bool) → Keeps (p g)) → Keeps (condition_literal none c p)
  unfolding condition_literal define normalize_num
  literal_light c p q s l =
      light_defined _ _ (cross_light (two (normalize_num (next_bool s) false) (p true)) (two (normalize_num (next_bool s) true) (p false)) (two_light _ _ (λ t j. j) (q true)) (two_light _ _ (λ t j. j) (q false)) (bool (side c) ∷ s) (light_bool (side c) s l))

  condition_light : (c : BoolExpr) (p : Bool → Run) → ((g : Bool) → Keeps (p g)) → Keeps (condition_literal (own_literal c) c p)
  unfolding condition_literal
  condition_light (Const x) p q = literal_light (Const x) p q
  condition_light (Var v) p q = bool_var_light v
  condition_light (NVar k) p q = λ s l. l
  condition_light (And ms) p q = literal_light (And ms) p q
  condition_light (Or ms) p q = literal_light (Or ms) p q
  condition_light (Not e) p q = literal_light (Not e) p q
  condition_light (Xor x y) p q = literal_light (Xor x y) p q
  condition_light (Iff x y) p q = literal_light (Iff x y) p q
  condition_light (Imp x y) p q = literal_light (Imp x y) p q
  condition_light (Cmp o x y) p q = literal_light (Cmp o x y) p q

  -- between two constants
  two_reach : (i : IfIsRead) (l : BoolLit) (x y : ℤ) (a b : ℕ) → nat_abs x ≤ a → nat_abs y ≤ b → reach (domain_made ds (two_valued i l x y)) ≤ max 1 (max a b)
  two_reach i l x y a b h k = go (lt_z x y) (eqZ x y)
    where
      go : (p q : Bool) → reach (domain_made ds (cond p (binary i (negate_lit true l) x y) (cond q (column (constant x) (Range x x)) (binary i l y x)))) ≤ max 1 (max a b)
      go true q = both_within (nat_abs x) (nat_abs y) a b h k
      go false true = one_within (nat_abs x) a b h
      go false false = turned_within (nat_abs x) (nat_abs y) a b h k

  -- a, b: what the branches weigh
  module _ (i : IfIsRead) (e : IntExpr) (c : BoolExpr) (p : Bool → Run) (a b : ℕ) (same : weight ds e ≡ max 1 (max a b)) (grows : (g : Bool) → RunGrows (p g)) (keep : (g : Bool) → Keeps (p g)) where
    constant_light : (x y : ℤ) → nat_abs x ≤ a → nat_abs y ≤ b → LightRun (max 1 (max a b)) (if_constant ds i c p x y)
    unfolding if_constant
    constant_light x y h k s l =
        let z = condition_literal (own_literal c) c p s in (
          light_int _ _ (condition_light c p keep s l),
          single_weighs _ (next_int z.1) _ (last (next_int z.1)) (rw (new_domain ds (two_valued i z.0 x y) z.1) (two_reach i z.0 x y a b h k)),
        )

    open_light : (t f : LinearSum) (s : Log) → reach (domain_of_sum ds s t) ≤ a → reach (domain_of_sum ds s f) ≤ b → LightIfs s → LightIfs (if_open ds i e p t f s).1 × Weighs (max 1 (max a b)) (if_open ds i e p t f s)
    unfolding if_open define
    open_light t f s h k l =
        let v = next_int s in
        let d = hull (domain_of_sum ds s t) (domain_of_sum ds s f) in
        let g = opened_grows ds i e p t f grows s in
        let q = (if_open ds i e p t f s).1 in
        let r : reach (domain_at ds q v) ≤ max 1 (max a b) = rw (top_domain ds g.top v (last v), new_domain ds (chosen i e t f d) s) (hull_reach (domain_of_sum ds s t) (domain_of_sum ds s f) a b h k) in
        let x : v < next_int q = le_trans (last v) g.ints in (
          light_known e v _ x (rw same r) (light_defined _ _ (disjunction_keeps LightIfs light_bool _ _ (keep true _ (keep false _ (light_int _ s l))))),
          single_weighs _ v q x r,
        )

    if_light : (t f : IntRun) → ((s : Log) → OnTop s (f s).1) → LightRun a t → LightRun b f → (o : Option ℕ) (s : Log) → get_if e s ≡ o → LightIfs s → LightIfs (normalize_if ds i o e c p t f s).1 × Weighs (max 1 (max a b)) (normalize_if ds i o e c p t f s)
    unfolding normalize_if domain_of_sum
    if_light t f top h k (some v) s q l = let x = l e v q in (l, single_weighs _ v s x.0 (rw (← same) x.1))
    if_light t f top h k none s q l = go (is_constant x.0 && is_constant y.0)
      where
        x : IntOut
        x = t s

        y : IntOut
        y = f x.1

        first : LightIfs x.1 × Weighs a x
        first = h s l

        second : LightIfs y.1 × Weighs b y
        second = k x.1 first.0

        go : (u : Bool) → let o = cond u (if_constant ds i c p (constant_of x.0) (constant_of y.0) y.1) (if_open ds i e p x.0 y.0 y.1) in LightIfs o.1 × Weighs (max 1 (max a b)) o
        go true = constant_light (constant_of x.0) (constant_of y.0) (le_trans (constant_size _ x.0) (first.1 x.1 here)) (le_trans (constant_size _ y.0) (second.1 y.1 here)) y.1 second.0
        go false = open_light x.0 y.0 y.1 (le_trans (sum_reach (domain_at ds y.1) x.0) (first.1 y.1 (top x.1))) (le_trans (sum_reach (domain_at ds y.1) y.0) (second.1 y.1 here)) second.0

  -- ---- trees; an If as it is looked up weighs what its form does

  abbrev pub SameWeight : Place → IntExpr → Tree → Tree → IntTree → IntTree → Type 0
  SameWeight p e c d t f = weight ds e ≡ max 1 (max (weight_of ds (int_form t)) (weight_of ds (int_form f)))

  either_light : (c d : Run) → Keeps c → Keeps d → (g : Bool) → Keeps (λ s. cond g (d s) (c s))
  either_light c d h k true s l = k s l
  either_light c d h k false s l = h s l

  const_weighs : (c : ℤ) (s : Log) → Weighs (nat_abs c) (constant c, s)
  const_weighs c s t o = omega (arith, constant_load (λ v. reach (domain_at ds t v)) c)

  -- behind the sum l
  abbrev Behind : LinearSum → ℕ → IntOut → Type 0
  Behind l k o = (t : Log) → OnTop o.1 t → let u : ℕ → ℕ = λ v. reach (domain_at ds t v) in load u o.0 ≤ load u l + k

  term_behind : (c : ℤ) (l m : LinearSum) (a b : ℕ) (s : Log) (o : IntOut) → OnTop s o.1 → Weighs a (m, s) → Behind (add_sum l (mul_sum c m)) b o → Behind l (nat_abs c * a + b) o
  term_behind c l m a b s o x h k t y =
      let u : ℕ → ℕ = λ v. reach (domain_at ds t v) in
      omega (arith, k t y, add_sum_load u l (mul_sum c m), mul_sum_load u c m, mul-le-mul_left (nat_abs c) (h t (top_then x y)))

  sum_weighs : (k : ℕ) (o : IntOut) → Behind (constant (pos 0)) k o → Weighs k o
  sum_weighs k o h t y = omega (arith, h t y, constant_load (λ v. reach (domain_at ds t v)) (pos 0))

  mutual
    unfolding Choices run form weight_of normalize_var normalize_num normalize_comparison normalize_conjunction disjunction_of run_then no_run normalize_term

    pub run_light : (t : Tree) → Choices SameWeight t → Keeps (run ds t)
    run_light (var v g) h = λ s l. bool_var_light v s l
    run_light (num k g) h = λ s l. l
    run_light (cmp o a b g) h = λ s l. (int_run_light b h.1 _ (int_run_light a h.0 s l).0).0
    run_light (conj ts) h = λ s l. runs_light ts h s l
    run_light (disj ts) h = λ s l. disjunction_keeps LightIfs light_bool _ _ (runs_light ts h s l)
    run_light (cross ts us) h = cross_light (runs ds ts) (runs ds us) (runs_light ts h.0) (runs_light us h.1)
    run_light (tied v t u) h = cross_light (two (run ds t) (normalize_num v true)) (two (run ds u) (normalize_num v false)) (two_light (run ds t) (normalize_num v true) (run_light t h.0) (λ s l. l)) (two_light (run ds u) (normalize_num v false) (run_light u h.1) (λ s l. l))

    pub runs_light : (ts : Trees) → ChoicesAll SameWeight ts → Keeps (runs ds ts)
    runs_light nil h = λ s l. l
    runs_light (cons t ts) h = λ s l. runs_light ts h.1 _ (run_light t h.0 s l)

    pub int_run_light : (e : IntTree) → ChoicesInt SameWeight e → LightRun (weight_of ds (int_form e)) (run_int ds e)
    int_run_light (const c) h = λ s l. (l, const_weighs c s)
    int_run_light (ivar v) h = λ s l. int_var_light v s l
    int_run_light (sum ts) h = λ s l. let x = terms_run_light ts h (constant (pos 0)) s l in (x.0, sum_weighs _ _ x.1)
    int_run_light (choice i p e c d t f) h = λ s l.
        if_light i e (condition_of e) (λ g s. cond g (run ds d s) (run ds c s)) (weight_of ds (int_form t)) (weight_of ds (int_form f)) h.0
        (either_grows (run ds c) (run ds d) (run_grow ds c) (run_grow ds d)) (either_light (run ds c) (run ds d) (run_light c h.1) (run_light d h.2))
        (run_int ds t) (run_int ds f) (λ z. (int_grow ds f z).top) (int_run_light t h.3) (int_run_light f h.4) (get_if e s) s refl l

    pub terms_run_light : (ts : TermTrees) → ChoicesTerms SameWeight ts → (l : LinearSum) (s : Log) → LightIfs s → LightIfs (run_terms ds ts l s).1 × Behind l (term_weights ds (term_forms ts)) (run_terms ds ts l s)
    terms_run_light no_terms h = λ l s k. (k, λ t y. omega arith)
    terms_run_light (term c e ts) h = λ l s k.
        let a = run_int ds e s in
        let x = int_run_light e h.0 s k in
        let m = add_sum l (mul_sum c a.0) in
        let y = terms_run_light ts h.1 m a.1 x.0 in
        (y.0, term_behind c l a.0 _ _ a.1 _ (terms_grow ds ts m a.1).top x.1 y.1)

  pub registers_light : (ts : Trees) → ChoicesAll SameWeight ts → (s : Log) → LightIfs s → LightIfs (registers ds ts s)
  unfolding Choices registers register
  registers_light nil h s l = l
  registers_light (cons t ts) h s l = registers_light ts h.1 (register (run ds t s)) (light_added _ _ (run_light t h.0 s l))

  -- ---- splitting changes conditions only

  mutual
    unfolding split_of weight

    split_weight : (e : IntExpr) (m : Splitting) (n : ℕ) → weight ds (split_int e m n) ≡ weight ds e
    split_weight (IConst c) m n = refl
    split_weight (IVar v) m n = refl
    split_weight (Linear ts) m n = split_weights ts m n
    split_weight (If i c t f) m n = rw (split_weight t m (n + splits c m), split_weight f m (n + splits c m + splits_int t m)) refl

    split_weights : (ts : Terms) (m : Splitting) (n : ℕ) → terms_weight ds (split_terms ts m n) ≡ terms_weight ds ts
    split_weights tnil m n = refl
    split_weights (tmore k e ts) m n = rw (split_weight e m n, split_weights ts m (n + splits_int e m)) refl

  -- of every key
  any_key : (xs : List Key) → Every (λ x. Unit {0}) xs
  any_key [] = every_none
  any_key (x ∷ xs) = every_more tt (any_key xs)

  weight_made : Makes SameWeight (λ x. Unit {0})
  unfolding weight
  weight_made i c t f m at n q =
      rw (form_weight ds t m (at + 1 + length (encode_bool c)) (n + splits c m), form_weight ds f m (at + 1 + length (encode_bool c) + length (encode_int t)) (n + splits c m + splits_int t m))
      (split_weight (If i c t f) m n)

  pub int_weights : (e : IntExpr) (m : Splitting) (at n : ℕ) → ChoicesInt SameWeight (resolve_int e m at n)
  int_weights e m at n = int_choices SameWeight (λ x. Unit {0}) weight_made e m at n (any_key (keys_int e m at n))

  pub rule_weights : (e : BoolExpr) (at n : ℕ) → ChoicesAll SameWeight (rule_trees e at n)
  rule_weights e at n = rule_choices SameWeight (λ x. Unit {0}) weight_made e at n (any_key (keys e below at n))

  pub pair_weights : (a b : IntExpr) (p q n : ℕ) → ChoicesAll SameWeight (pair_trees a b p q n)
  pair_weights a b p q n = pair_choices SameWeight (λ x. Unit {0}) weight_made a b p q n (any_key (pair_keys a b p q n))

  -- ---- rules (a pair is one, and an AllDifferent one after another), columns, tables

  pub rule_light : (e : BoolExpr) (s : Log) → LightIfs s → LightIfs (normalize_and_register_expr ds e s)
  rule_light e s h =
      let d = split_sided e false s in
      rw (rule_runs ds e 0 s) (registers_light (rule_trees e 0 (next_bool s)) (rule_weights e 0 (next_bool s)) (cut e false s).log (same_light s (cut e false s).log d.top (omega (arith, d.ints)) d.keep_if h))

  column_sum_light : (e : IntExpr) → Keeps (normalize_int_expr ds e)
  column_sum_light e s h = rw (column_runs ds e 0 0) (int_run_light (resolve_int e never 0 0) (int_weights e never 0 0) s h).0

  -- with the integer of a column
  pub column_light : (e : IntExpr) (s : Log) → LightIfs s → LightIfs (equivalent_int_var ds e s).log
  unfolding equivalent_int_var new_column old_column normalize_int_expr normalize_int_var
  column_light (IConst c) s h = light_added _ _ (light_int _ _ (column_sum_light (IConst c) s h))
  column_light (IVar v) s h = column_sum_light (IVar v) s h
  column_light (Linear ts) s h = light_added _ _ (light_int _ _ (column_sum_light (Linear ts) s h))
  column_light (If i c t f) s h = light_added _ _ (light_int _ _ (column_sum_light (If i c t f) s h))

  columns_light : (es : List IntExpr) (s : Log) → LightIfs s → LightIfs (equivalent_int_vars ds es s).log
  unfolding equivalent_int_vars
  columns_light [] s h = h
  columns_light (e ∷ es) s h = columns_light es (equivalent_int_var ds e s).log (column_light e s h)

  pub table_light : (es : List IntExpr) (rows : List (List Cell)) (s : Log) → LightIfs s → LightIfs (normalize_table ds es rows s)
  unfolding normalize_table normalize_extension_supports star_table register
  table_light es rows s h = light_added _ _ (go (any (any is_star) rows))
    where
      c : Columns
      c = equivalent_int_vars ds es s

      go : (b : Bool) → LightIfs (cond b (star_table c.vars rows c.log) (plain_table c.vars (map (domain_at ds c.log) c.vars) rows, c.log)).1
      go true = disjunction_keeps LightIfs light_bool _ _ (columns_light es s h)
      go false = columns_light es s h

-- ---- one number

number_carried : (u : ℕ → ℕ) (n k : ℕ) (l : LinearSum) → singleton n ≡ l → load u l ≤ k → u n ≤ k
number_carried u n k l e h = rw (← singleton_load u n, e) h

-- w: the work slice, ds: the declared domains
module _ (w : List ℤ) (ds : List Domain) where
  -- what is found reaches no further than the number's domain
  right_reach : (t : Log) (x : ℕ) (o : Option Domain) → RightAt ds t x o → reach (found o) ≤ reach (domain_at ds t x)
  right_reach t x none h = omega arith
  right_reach t x (some d) h = rw (h.1.low, h.1.high) (omega arith)

  -- ---- each number carries no more than its variable's or its If's weight

  mutual
    unfolding run_int ProperInt PlacedInt Choices Carries form_item form ivar_item choice_item normalize_term weight_of

    log_carries : (e : IntTree) → ProperInt e → ChoicesInt (SameWeight ds) e → (s : Log) → LightIfs ds s → Ready w (run_int ds e s).1 → PlacedInt w ds e s → (t : Log) → OnTop (run_int ds e s).1 t
        → Carries ds w (λ v. reach (domain_at ds t v)) (int_form e) (at w s)
    log_carries (const c) p h s l r n t o = tt
    log_carries (ivar v) p h s l r n t o = number_carried (λ v. reach (domain_at ds t v)) (int_number w v) _ _ ((int_good w ds (ivar v) p).from s r n).total ((int_run_light ds (ivar v) h s l).1 t o)
    log_carries (sum ts) p h s l r n t o = log_carries_terms ts p h (constant (pos 0)) s l r n t o
    log_carries (choice i q e c d a b) p h s l r n t o =
        let y = choice i q e c d a b in
        number_carried (λ v. reach (domain_at ds t v)) (if_number (own_var (condition_of e)) q (item ds c) (item ds d) (int_item ds a) (int_item ds b) w (at w s)) _ _ ((int_good w ds y p).from s r n).total ((int_run_light ds y h s l).1 t o)

    log_carries_terms : (ts : TermTrees) → ProperTerms ts → ChoicesTerms (SameWeight ds) ts → (l : LinearSum) (s : Log) → LightIfs ds s → Ready w (run_terms ds ts l s).1 → PlacedTerms w ds ts s → (t : Log) → OnTop (run_terms ds ts l s).1 t
        → CarriesTerms ds w (λ v. reach (domain_at ds t v)) (term_forms ts) (at w s)
    log_carries_terms no_terms p h l s k r n t o = tt
    log_carries_terms (term c e ts) p h l s k r n t o =
        let a = run_int ds e s in
        let m = add_sum l (mul_sum c a.0) in
        let g = terms_grow ds ts m a.1 in
        let z = ready_back g r in
        rw ((int_good w ds e p.0).from s z n.0).behind
        (log_carries e p.0 h.0 s k z n.0 t (top_then g.top o), log_carries_terms ts p.1 h.1 m a.1 (int_run_light ds e h.0 s k).0 r n.1 t o)

  module _ (u v : ℕ → ℕ) (less : (x : ℕ) → u x ≤ v x) where
    mutual
      unfolding Carries

      carries_less : (e : IntForm) (n : Counters) → Carries ds w v e n → Carries ds w u e n
      carries_less (form-const c) n h = tt
      carries_less (form-ivar x) n h = le_trans (less (int_number w x)) h
      carries_less (form-sum ts) n h = carries_less_terms ts n h
      carries_less (form-choice p o c d t f) n h = le_trans (less _) h

      carries_less_terms : (ts : TermForms) (n : Counters) → CarriesTerms ds w v ts n → CarriesTerms ds w u ts n
      carries_less_terms form-none n h = tt
      carries_less_terms (form-term k e ts) n h = (carries_less e n h.0, carries_less_terms ts (behind_of ds w e n) h.1)

  -- as `range_light` of totals asks
  pub range_carries : (e : IntTree) → ProperInt e → ChoicesInt (SameWeight ds) e → (s : Log) → LightIfs ds s → Ready w (run_int ds e s).1 → PlacedInt w ds e s
      → Carries ds w (λ v. reach (found ((int_item ds e).range w (at w s) v))) (int_form e) (at w s)
  range_carries e p h s l r n =
      let t = (run_int ds e s).1 in
      carries_less (λ v. reach (found ((int_item ds e).range w (at w s) v))) (λ v. reach (domain_at ds t v)) (λ x. right_reach t x ((int_item ds e).range w (at w s) x) (range_right w ds e p s r n x)) (int_form e) (at w s) (log_carries e p h s l r n t here)

  -- the bounds of the sum reach no further than the tree weighs
  pub range_reach : (e : IntTree) → ProperInt e → ChoicesInt (SameWeight ds) e → (s : Log) → LightIfs ds s → Ready w (run_int ds e s).1 → PlacedInt w ds e s → reach (range_of (int_item ds e) w (at w s)) ≤ weight_of ds (int_form e)
  unfolding range_of
  range_reach e p h s l r n = total_reach ds w (λ v. found ((int_item ds e).range w (at w s) v)) (int_form e) (at w s) (range_carries e p h s l r n)

  -- of either branch of an If, the second met behind the first: no further than the If weighs
  pub branches_reach : (t f : IntTree) → ProperInt t → ProperInt f → ChoicesInt (SameWeight ds) t → ChoicesInt (SameWeight ds) f → (s : Log) → LightIfs ds s → let a = run_int ds t s in Ready w (run_int ds f a.1).1 → PlacedInt w ds t s → PlacedInt w ds f a.1
      → reach (hull (range_of (int_item ds t) w (at w s)) (range_of (int_item ds f) w (at w a.1))) ≤ max 1 (max (weight_of ds (int_form t)) (weight_of ds (int_form f)))
  branches_reach t f p q h k s l r m n =
      let a = run_int ds t s in
      hull_reach (range_of (int_item ds t) w (at w s)) (range_of (int_item ds f) w (at w a.1)) (weight_of ds (int_form t)) (weight_of ds (int_form f))
      (range_reach t p h s l (ready_back (int_grow ds f a.1) r) m) (range_reach f q k a.1 (int_run_light ds t h s l).0 r n)
