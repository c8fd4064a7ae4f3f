-- Every If that a log finds names numbers below the counter only, and so no key of a rule to come that holds a number of its own: kept by rules, pairs
-- and columns without emitted numbers of their own (`rule_low`, `pair_low`, `column_low`).
use Rattle.std.specs.Prelude.{◌≡◌, Bool, ◌&&◌, List, ◌∷◌, ℕ, ◌+◌, ◌≤◌}
use Rattle.std.proofs.Math.Path.{refl, subst}
use Rattle.std.proofs.Common.{sym, ◌∙◌, arith}
use Rattle.std.proofs.Math.Bool.{true, false, cond}
use Rattle.std.proofs.Math.Option.{Option, none, some}
use Rattle.laws.specs.Same.{same_words, same_is}
use Rattle.syntax.specs.Syntax.{IfIsRead, Domain, Ne, IntExpr, IConst, IVar, Linear, If, BoolExpr, Const, Var, NVar, And, Or, Not, Xor, Iff, Imp, Cmp, encode_int}
use Rattle.syntax.specs.Unique.{int_unique_words}
use Rattle.sums.specs.LinearSum.{LinearSum, is_constant, constant}
use Rattle.sums.specs.Rising.{constant_of}
use Rattle.clauses.proofs.Bounds.{expr_bound, int_bound}
use Rattle.clauses.specs.Clause.{BoolLit, Clause}
use Rattle.clauses.specs.Log.{MadeBool, side, MadeInt, bool, int, defined, known, Log, next_bool, get_bool_var, get_int_var, get_if, bool_var_at, int_var_at, convert_bool_var, convert_int_var}
use Rattle.clauses.specs.Normalize.{Run, Runs, IntOut, IntRun, register, define, no_run, run_then, two, normalize_conjunction, disjunction_of, cross as cross-run, normalize_num, normalize_var, normalize_comparison, normalize_int_var, normalize_term, own_literal, condition_literal, if_constant, if_open, normalize_if, normalize_int_expr}
use Rattle.clauses.specs.Split.{tseitin_transformation_bool as cut, normalize_and_register_expr}
use Rattle.tables.specs.Tables.{new_column, old_column, equivalent_int_var}
use Rattle.walks.specs.Tree.{Place, Tree, var, num, cmp, conj, disj, cross, tied, Trees, nil, cons, IntTree, const, ivar, sum, choice, TermTrees, none as no_terms, term, never, below, splits, splits_int, condition_of, resolve_int, run, runs, run_int, run_terms, registers}
use Rattle.walks.specs.Grow.{registers_grow, int_grow}
use Rattle.walks.specs.Resolve.{split_sided, rule_trees, rule_runs, never_int, column_runs}
use Rattle.walks.specs.Kept.{disjunction_keeps}
use Rattle.walks.specs.Keys.{numbers_int, Between, between_wider, Key, Every, every_map, Within, keys_within, keys_int_within, Choices, ChoicesAll, ChoicesInt, ChoicesTerms, int_choices}
use Rattle.walks.specs.KeyAt.{rule_choices}

abbrev pub LowIfs : ℕ → Log → Type 0
LowIfs n s = (e : IntExpr) (v : ℕ) → get_if e s ≡ some v → Between 0 n (numbers_int e)

pub low_more : (n m : ℕ) (s : Log) → n ≤ m → LowIfs n s → LowIfs m s
low_more n m s l h e v k = between_wider 0 n 0 m (numbers_int e) (omega arith) l (h e v k)

-- a log that finds none
pub none_low : (n : ℕ) (s : Log) → ((e : IntExpr) → get_if e s ≡ none) → LowIfs n s
none_low n s h e v k = absurd (let i = h e in let z : ◌≡◌ {A = ℕ} 0 1 = cc in omega arith)

pub same_low : (n : ℕ) (s t : Log) → ((e : IntExpr) → get_if e t ≡ get_if e s) → LowIfs n s → LowIfs n t
same_low n s t f h e v k = h e v (sym (f e) ∙ k)

-- ---- what the runs of trees keep, where their Ifs are such; ds: the declared domains

module _ (ds : List Domain) (n : ℕ) where
  abbrev Low : Log → Type 0
  Low = LowIfs n

  low_bool : (m : MadeBool) (s : Log) → Low s → Low (bool m ∷ s)
  unfolding get_if
  low_bool m s h e v k = h e v k

  low_int : (m : MadeInt) (s : Log) → Low s → Low (int m ∷ s)
  unfolding get_if
  low_int m s h e v k = h e v k

  low_defined : (cs : List Clause) (s : Log) → Low s → Low (defined cs ∷ s)
  unfolding get_if
  low_defined cs s h e v k = h e v k

  low_known : (f : IntExpr) (w : ℕ) (s : Log) → Between 0 n (numbers_int f) → Low s → Low (known f w ∷ s)
  unfolding get_if
  low_known f w s b h e v k = go (same_words (encode_int e) (encode_int f)) refl k
    where
      go : (t : Bool) → same_words (encode_int e) (encode_int f) ≡ t → cond t (some w) (get_if e s) ≡ some v → Between 0 n (numbers_int e)
      go true i j = subst (λ (x : IntExpr). Between 0 n (numbers_int x)) (sym (int_unique_words e f (same_is (encode_int e) (encode_int f) i))) b
      go false i j = h e v j

  abbrev Keeps : {A : Type 0} → (Log → A × Log) → Type 0
  Keeps r = (s : Log) → Low s → Low (r s).1

  bool_var_low : (v : ℕ) → Keeps (convert_bool_var v)
  unfolding convert_bool_var
  bool_var_low v s h = go (get_bool_var v s)
    where
      go : (o : Option BoolLit) → Low (bool_var_at o v s).1
      go (some l) = h
      go none = low_bool _ s h

  int_var_low : (v : ℕ) → Keeps (convert_int_var v)
  unfolding convert_int_var
  int_var_low v s h = go (get_int_var v s)
    where
      go : (o : Option ℕ) → Low (int_var_at o v s).1
      go (some l) = h
      go none = low_int _ s h

  two_low : (r q : Run) → Keeps r → Keeps q → Keeps (two r q)
  unfolding run_then no_run
  two_low r q h k s l = k (r s).1 (h s l)

  cross_low : (p q : Runs) → Keeps p → Keeps q → Keeps (cross-run p q)
  unfolding cross-run
  cross_low p q h k s l =
      let a = p s in
      let b = q a.1 in
      let c = disjunction_keeps Low low_bool a.0 b.1 (k a.1 (h s l)) in
      disjunction_keeps Low low_bool b.0 _ c

  -- ---- an If

  literal_low : (c : BoolExpr) (p : Bool → Run) → ((g : Bool) → Keeps (p g)) → Keeps (condition_literal none c p)
  unfolding condition_literal define normalize_num get_if
  literal_low c p q s l =
      cross_low (two (normalize_num (next_bool s) false) (p true)) (two (normalize_num (next_bool s) true) (p false)) (two_low _ _ (λ t j. j) (q true)) (two_low _ _ (λ t j. j) (q false)) (bool (side c) ∷ s) (low_bool (side c) s l)

  condition_low : (c : BoolExpr) (p : Bool → Run) → ((g : Bool) → Keeps (p g)) → Keeps (condition_literal (own_literal c) c p)
  unfolding condition_literal
  condition_low (Const x) p q = literal_low (Const x) p q
  condition_low (Var v) p q = bool_var_low v
  condition_low (NVar k) p q = λ s l. l
  condition_low (And ms) p q = literal_low (And ms) p q
  condition_low (Or ms) p q = literal_low (Or ms) p q
  condition_low (Not e) p q = literal_low (Not e) p q
  condition_low (Xor x y) p q = literal_low (Xor x y) p q
  condition_low (Iff x y) p q = literal_low (Iff x y) p q
  condition_low (Imp x y) p q = literal_low (Imp x y) p q
  condition_low (Cmp o x y) p q = literal_low (Cmp o x y) p q

  open_low : (i : IfIsRead) (e : IntExpr) (p : Bool → Run) (t f : LinearSum) → Between 0 n (numbers_int e) → ((g : Bool) → Keeps (p g)) → Keeps (if_open ds i e p t f)
  unfolding if_open define
  open_low i e p t f b q s l =
      low_known e _ _ b (low_defined _ _ (disjunction_keeps Low low_bool _ _ (q true _ (q false _ (low_int _ s l)))))

  if_low : (i : IfIsRead) (e : IntExpr) (c : BoolExpr) (p : Bool → Run) (t f : IntRun) → Between 0 n (numbers_int e) → ((g : Bool) → Keeps (p g)) → Keeps t → Keeps f → (o : Option ℕ) → Keeps (normalize_if ds i o e c p t f)
  unfolding normalize_if if_constant
  if_low i e c p t f b q h k (some v) s l = l
  if_low i e c p t f b q h k none s l = go (is_constant x.0 && is_constant y.0)
    where
      x : IntOut
      x = t s

      y : IntOut
      y = f x.1

      go : (u : Bool) → Low (cond u (if_constant ds i c p (constant_of x.0) (constant_of y.0) y.1) (if_open ds i e p x.0 y.0 y.1)).1
      go true = low_int _ _ (condition_low c p q y.1 (k x.1 (h s l)))
      go false = open_low i e p x.0 y.0 b q y.1 (k x.1 (h s l))

  -- ---- the induction

  abbrev LowChoice : Place → IntExpr → Tree → Tree → IntTree → IntTree → Type 0
  LowChoice p e c d t f = Between 0 n (numbers_int e)

  either_low : (c d : Run) → Keeps c → Keeps d → (g : Bool) → Keeps (λ s. cond g (d s) (c s))
  either_low c d h k true s l = k s l
  either_low c d h k false s l = h s l

  mutual
    unfolding Choices run normalize_var normalize_num normalize_comparison normalize_conjunction disjunction_of run_then no_run normalize_int_var normalize_term

    run_low : (t : Tree) → Choices LowChoice t → Keeps (run ds t)
    run_low (var v g) h = λ s l. bool_var_low v s l
    run_low (num k g) h = λ s l. l
    run_low (cmp o a b g) h = λ s l. int_run_low b h.1 _ (int_run_low a h.0 s l)
    run_low (conj ts) h = λ s l. runs_low ts h s l
    run_low (disj ts) h = λ s l. disjunction_keeps Low low_bool _ _ (runs_low ts h s l)
    run_low (cross ts us) h = cross_low (runs ds ts) (runs ds us) (runs_low ts h.0) (runs_low us h.1)
    run_low (tied v t u) h = cross_low (two (run ds t) (normalize_num v true)) (two (run ds u) (normalize_num v false)) (two_low (run ds t) (normalize_num v true) (run_low t h.0) (λ s l. l)) (two_low (run ds u) (normalize_num v false) (run_low u h.1) (λ s l. l))

    runs_low : (ts : Trees) → ChoicesAll LowChoice ts → Keeps (runs ds ts)
    runs_low nil h = λ s l. l
    runs_low (cons t ts) h = λ s l. runs_low ts h.1 _ (run_low t h.0 s l)

    pub int_run_low : (e : IntTree) → ChoicesInt LowChoice e → Keeps (run_int ds e)
    int_run_low (const c) h = λ s l. l
    int_run_low (ivar v) h = λ s l. int_var_low v s l
    int_run_low (sum ts) h = terms_run_low ts h (constant _)
    int_run_low (choice i p e c d t f) h = λ s l.
        if_low i e (condition_of e) (λ g s. cond g (run ds d s) (run ds c s)) (run_int ds t) (run_int ds f) h.0 (either_low (run ds c) (run ds d) (run_low c h.1) (run_low d h.2)) (int_run_low t h.3) (int_run_low f h.4) (get_if e s) s l

    terms_run_low : (ts : TermTrees) → ChoicesTerms LowChoice ts → (k : LinearSum) → Keeps (run_terms ds ts k)
    terms_run_low no_terms h = λ k s l. l
    terms_run_low (term c e ts) h = λ k s l. terms_run_low ts h.1 _ _ (int_run_low e h.0 s l)

  registers_low : (ts : Trees) → ChoicesAll LowChoice ts → (s : Log) → Low s → Low (registers ds ts s)
  unfolding Choices registers register get_if
  registers_low nil h s l = l
  registers_low (cons t ts) h s l = registers_low ts h.1 (register (run ds t s)) (λ e v k. run_low t h.0 s l e v k)

-- ---- of a rule, a pair, a column

-- a key's numbers
key_low : {at stop n next size : ℕ} {xs : List Key} → Every (Within at stop n next size) xs → Every (λ x. Between 0 next (numbers_int x.key)) xs
key_low {at} {stop} {n} {next} h = every_map (λ x w. between_wider x.first (x.first + x.count) 0 next (numbers_int x.key) (omega arith) w.high w.spans.all) h

module _ (ds : List Domain) where
  pub rule_low : (e : BoolExpr) (s : Log) → expr_bound e ≤ 0 → LowIfs (next_bool s) s → let t = normalize_and_register_expr ds e s in LowIfs (next_bool t) t
  rule_low e s b h =
      let n = next_bool s in
      let z = (cut e false s).log in
      let d = split_sided e false s in
      let x = rule_choices (LowChoice ds (n + splits e below)) (λ x. Between 0 (n + splits e below) (numbers_int x.key)) (λ i c t f m at k q. q) e 0 n (key_low (keys_within e below 0 n b)) in
      let l = registers_low ds (n + splits e below) (rule_trees e 0 n) x z (low_more n (n + splits e below) z (omega arith) (same_low n s z d.keep_if h)) in
      rw (rule_runs ds e 0 s) (low_more (n + splits e below) _ _ (omega (arith, d.bools, (registers_grow ds (rule_trees e 0 n) z).bools)) l)

  pub pair_low : (a b : IntExpr) (s : Log) → int_bound a ≤ 0 → int_bound b ≤ 0 → LowIfs (next_bool s) s → let t = normalize_and_register_expr ds (Cmp Ne a b) s in LowIfs (next_bool t) t
  unfolding expr_bound
  pair_low a b s i j h = rule_low (Cmp Ne a b) s (omega arith) h

  pub column_low : (e : IntExpr) (s : Log) → int_bound e ≤ 0 → LowIfs (next_bool s) s → let t = (normalize_int_expr ds e s).1 in LowIfs (next_bool t) t
  column_low e s b h =
      let n = next_bool s in
      let x = int_choices (LowChoice ds (n + splits_int e never)) (λ x. Between 0 (n + splits_int e never) (numbers_int x.key)) (λ i c t f m at k q. q) e never 0 n (key_low (keys_int_within e never 0 n b)) in
      let l = int_run_low ds (n + splits_int e never) (resolve_int e never 0 n) x s (low_more n (n + splits_int e never) s (omega arith) h) in
      let z = never_int e in
      rw (column_runs ds e 0 n) (low_more (n + splits_int e never) _ _ (omega (arith, z, (int_grow ds (resolve_int e never 0 n) s).bools)) l)

  -- with the integer of a column
  pub column_log_low : (e : IntExpr) (s : Log) → int_bound e ≤ 0 → LowIfs (next_bool s) s → let t = (equivalent_int_var ds e s).log in LowIfs (next_bool t) t
  unfolding equivalent_int_var new_column old_column get_if normalize_int_expr normalize_int_var
  column_log_low (IConst c) s b h = λ d v k. column_low (IConst c) s b h d v k
  column_log_low (IVar v) s b h = λ d u k. column_low (IVar v) s b h d u k
  column_log_low (Linear ts) s b h = λ d v k. column_low (Linear ts) s b h d v k
  column_log_low (If i c t f) s b h = λ d v k. column_low (If i c t f) s b h d v k
