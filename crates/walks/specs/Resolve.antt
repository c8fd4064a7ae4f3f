-- Splitting a rule and making its clauses is running its ties and then its tree (`rule_runs`); a column runs as its tree (`column_runs`), and so does a
-- pair of an AllDifferent, its two sides at any two places (`pair_runs`).
use Rattle.std.specs.Prelude.{◌≡◌, Bool, not, cond, List, [], ◌∷◌, ◌++◌, ℕ, suc, ◌+◌, length, pos}
use Rattle.std.proofs.Math.Path.{refl}
use Rattle.std.proofs.Common.{sym, ap, ◌∙◌, arith}
use Rattle.std.proofs.Math.Bool.{true, false}
use Rattle.syntax.specs.Syntax.{IfIsRead, Domain, Ne, IntExpr, IConst, IVar, Linear, If, Terms, tnil, tmore, BoolExpr, Const, Var, NVar, And, Or, Not, Xor, Iff, Imp, Cmp, Members, mnil, more, encode_bool, encode_int}
use Rattle.sums.specs.LinearSum.{LinearSum, constant}
use Rattle.clauses.specs.Log.{side, bool, Log, next_bool, next_int, get_bool_var, get_int_var, get_if, clauses_of}
use Rattle.clauses.specs.Disjunction.{normalize_disjunction}
use Rattle.clauses.specs.Normalize.{Run, IntRun, register, no_run, normalize_conjunction, disjunction_of, normalize_if, normalize_bool_expr, normalize_members, normalize_int_expr, normalize_terms}
use Rattle.clauses.specs.Split.{unsplit, split_one, split_two, split_three, split_sides, tseitin_transformation_bool as cut, tseitin_transformation_members as Cut-members, tseitin_transformation_int as cut-int, tseitin_transformation_terms as cut-terms, register_each, normalize_and_register_expr}
use Rattle.clauses.proofs.Since.{OnTop, here as on-top, over, top_then}
use Rattle.walks.specs.Tree.{Tree, cmp, Trees, nil, cons, append, joined, Splitting, never, below, here, inner, splits, splits_members, splits_int, splits_terms, rewritten, split_of, split_members, split_int, split_terms, crossed_at, resolve, resolves, resolve_int, resolve_terms, tie, ties, ties_members, ties_int, ties_terms, run, runs, run_int, run_terms, registers}
use Rattle.walks.specs.Thirds.{zero_first, zero_second, zero_third, zero_three}

-- ---- the log behind the splitting

-- t has k numbers of sides more than s
pub record Sided (s t : Log) (k : ℕ) : Type 0 where
  pub bools : next_bool t ≡ next_bool s + k
  pub ints : next_int t ≡ next_int s
  pub keep : (v : ℕ) → get_bool_var v t ≡ get_bool_var v s
  pub keep_int : (v : ℕ) → get_int_var v t ≡ get_int_var v s
  pub keep_if : (e : IntExpr) → get_if e t ≡ get_if e s
  pub quiet : clauses_of t ≡ clauses_of s
  pub top : OnTop s t

sided_none : (s : Log) → Sided s s 0
sided_none s = record { bools = omega arith; ints = refl; keep = λ v. refl; keep_int = λ v. refl; keep_if = λ e. refl; quiet = refl; top = on-top }

sided_then : (s t u : Log) (k l : ℕ) → Sided s t k → Sided t u l → Sided s u (k + l)
sided_then s t u k l a b = record {
  bools = omega (arith, a.bools, b.bools);
  ints = b.ints ∙ a.ints;
  keep = λ v. b.keep v ∙ a.keep v;
  keep_int = λ v. b.keep_int v ∙ a.keep_int v;
  keep_if = λ e. b.keep_if e ∙ a.keep_if e;
  quiet = b.quiet ∙ a.quiet;
  top = top_then a.top b.top;
}

sided_to : (s t : Log) (k l : ℕ) → Sided s t k → k ≡ l → Sided s t l
sided_to s t k l a e = record { bools = omega (arith, a.bools, e); ints = a.ints; keep = a.keep; keep_int = a.keep_int; keep_if = a.keep_if; quiet = a.quiet; top = a.top }

sided_two : (x y : BoolExpr) (s t : Log) (k : ℕ) → Sided (bool (side y) ∷ bool (side x) ∷ s) t k → Sided s t (2 + k)
unfolding get_bool_var get_int_var get_if clauses_of
sided_two x y s t k a = record {
  bools = omega (arith, a.bools);
  ints = a.ints;
  keep = λ v. a.keep v;
  keep_int = λ v. a.keep_int v;
  keep_if = λ e. a.keep_if e;
  quiet = a.quiet;
  top = top_then (over (bool (side y)) (over (bool (side x)) on-top)) a.top;
}

-- whether an Xor, an Iff or an If stands above
abbrev pub splitting : Bool → Splitting
splitting false = below
splitting true = here

inner_splitting : (t : Bool) → inner (splitting t) ≡ here
inner_splitting false = refl
inner_splitting true = refl

mutual
  unfolding splits cut unsplit split_one split_two split_three split_sides

  pub split_sided : (e : BoolExpr) (t : Bool) (s : Log) → Sided s (cut e t s).log (splits e (splitting t))
  split_sided (Const b) t s = sided_none s
  split_sided (Var v) t s = sided_none s
  split_sided (NVar n) t s = sided_none s
  split_sided (And ms) t s = members_sided ms t s
  split_sided (Or ms) t s = members_sided ms t s
  split_sided (Not e) t s = split_sided e t s
  split_sided (Xor a b) false s = sided_to s _ _ _ (sided_then s _ _ _ _ (split_sided a true s) (split_sided b true _)) (omega arith)
  split_sided (Xor a b) true s = sided_two a b s _ _ (sided_then _ _ _ _ _ (split_sided a true _) (split_sided b true _))
  split_sided (Iff a b) false s = sided_to s _ _ _ (sided_then s _ _ _ _ (split_sided a true s) (split_sided b true _)) (omega arith)
  split_sided (Iff a b) true s = sided_two a b s _ _ (sided_then _ _ _ _ _ (split_sided a true _) (split_sided b true _))
  split_sided (Imp a b) t s = sided_then s _ _ _ _ (split_sided a t s) (split_sided b t _)
  split_sided (Cmp o a b) t s = rw (inner_splitting t) (sided_then s _ _ _ _ (int_sided a s) (int_sided b _))

  members_sided : (ms : Members) (t : Bool) (s : Log) → Sided s (Cut-members ms t s).log (splits_members ms (splitting t))
  members_sided mnil t s = sided_none s
  members_sided (more e ms) t s = sided_then s _ _ _ _ (split_sided e t s) (members_sided ms t (cut e t s).log)

  pub int_sided : (e : IntExpr) (s : Log) → Sided s (cut-int e s).log (splits_int e here)
  int_sided (IConst c) s = sided_none s
  int_sided (IVar v) s = sided_none s
  int_sided (Linear ts) s = terms_sided ts s
  int_sided (If i c t f) s = sided_then s _ _ _ _ (split_sided c true s) (sided_then _ _ _ _ _ (int_sided t _) (int_sided f _))

  terms_sided : (ts : Terms) (s : Log) → Sided s (cut-terms ts s).log (splits_terms ts here)
  terms_sided tnil s = sided_none s
  terms_sided (tmore k e ts) s = sided_then s _ _ _ _ (int_sided e s) (terms_sided ts (cut-int e s).log)

-- ---- the rewritten expression

mutual
  unfolding split_of cut unsplit split_one split_two split_three split_sides

  pub split_is : (e : BoolExpr) (t : Bool) (s : Log) → (cut e t s).result ≡ split_of e (splitting t) (next_bool s)
  split_is (Const b) t s = refl
  split_is (Var v) t s = refl
  split_is (NVar n) t s = refl
  split_is (And ms) t s = ap And (members_split ms t s)
  split_is (Or ms) t s = ap Or (members_split ms t s)
  split_is (Not e) t s = ap Not (split_is e t s)
  split_is (Xor a b) false s = rw (sym (split_sided a true s).bools, split_is a true s, split_is b true (cut a true s).log) refl
  split_is (Xor a b) true s = refl
  split_is (Iff a b) false s = rw (sym (split_sided a true s).bools, split_is a true s, split_is b true (cut a true s).log) refl
  split_is (Iff a b) true s = refl
  split_is (Imp a b) t s = rw (sym (split_sided a t s).bools, split_is a t s, split_is b t (cut a t s).log) refl
  split_is (Cmp o a b) t s = rw (inner_splitting t, sym (int_sided a s).bools, int_split a s, int_split b (cut-int a s).log) refl

  members_split : (ms : Members) (t : Bool) (s : Log) → (Cut-members ms t s).result ≡ split_members ms (splitting t) (next_bool s)
  members_split mnil t s = refl
  members_split (more e ms) t s = rw (sym (split_sided e t s).bools, split_is e t s, members_split ms t (cut e t s).log) refl

  pub int_split : (e : IntExpr) (s : Log) → (cut-int e s).result ≡ split_int e here (next_bool s)
  int_split (IConst c) s = refl
  int_split (IVar v) s = refl
  int_split (Linear ts) s = ap Linear (terms_split ts s)
  int_split (If i c t f) s =
      let l = (cut c true s).log in
      rw (sym (split_sided c true s).bools, sym (int_sided t l).bools, split_is c true s, int_split t l, int_split f (cut-int t l).log) refl

  terms_split : (ts : Terms) (s : Log) → (cut-terms ts s).result ≡ split_terms ts here (next_bool s)
  terms_split tnil s = refl
  terms_split (tmore k e ts) s = rw (sym (int_sided e s).bools, int_split e s, terms_split ts (cut-int e s).log) refl

pub no_more : (n : ℕ) → 0 + n ≡ n
no_more n = omega arith

pub two_more : (n : ℕ) → 2 + n ≡ suc (suc n)
two_more n = omega arith

-- ---- its run; ds: the declared domains

module _ (ds : List Domain) where
  const_run : (b : Bool) → normalize_bool_expr ds (Const b) false ≡ run ds (joined (not b) nil)
  unfolding normalize_bool_expr run normalize_conjunction disjunction_of no_run normalize_disjunction
  const_run true = refl
  const_run false = refl

  const_run_not : (b : Bool) → normalize_bool_expr ds (Const b) true ≡ run ds (joined (not (not b)) nil)
  unfolding normalize_bool_expr run normalize_conjunction disjunction_of no_run normalize_disjunction
  const_run_not true = refl
  const_run_not false = refl

  -- a condition in either polarity, given apart
  both_ways : (p : Bool → Run) (c d : Run) → p false ≡ c → p true ≡ d → p ≡ (λ g s. cond g (d s) (c s))
  both_ways p c d x y = λ i. λ g. go g i
    where
      go : (g : Bool) → p g ≡ (λ s. cond g (d s) (c s))
      go false = x
      go true = y

  if_runs : (i : IfIsRead) (e : IntExpr) (x : BoolExpr) (p q : Bool → Run) (t f a b : IntRun) → p ≡ q → t ≡ a → f ≡ b
      → ◌≡◌ {A = IntRun} (λ s. normalize_if ds i (get_if e s) e x p t f s) (λ s. normalize_if ds i (get_if e s) e x q a b s)
  if_runs i e x p q t f a b h k l = λ j. λ s. normalize_if ds i (get_if e s) e x (h j) (k j) (l j) s

  xor_runs : (m : Splitting) (n : ℕ) (a b : BoolExpr) (x y : Bool → Tree) (g : Bool) → ((h : Bool) → normalize_bool_expr ds a h ≡ run ds (x h)) → ((h : Bool) → normalize_bool_expr ds b h ≡ run ds (y h))
      → normalize_bool_expr ds (rewritten Xor m n a b) g ≡ run ds (crossed_at m n x y g)
  unfolding normalize_bool_expr run
  xor_runs never n a b x y false p q = rw (p false, p true, q false, q true)
  xor_runs never n a b x y true p q = rw (p false, p true, q false, q true)
  xor_runs below n a b x y false p q = rw (p false, p true, q false, q true)
  xor_runs below n a b x y true p q = rw (p false, p true, q false, q true)
  xor_runs here n a b x y false p q = refl
  xor_runs here n a b x y true p q = refl

  iff_runs : (m : Splitting) (n : ℕ) (a b : BoolExpr) (x y : Bool → Tree) (g : Bool) → ((h : Bool) → normalize_bool_expr ds a h ≡ run ds (x h)) → ((h : Bool) → normalize_bool_expr ds b h ≡ run ds (y h))
      → normalize_bool_expr ds (rewritten Iff m n a b) g ≡ run ds (crossed_at m n x y (not g))
  unfolding normalize_bool_expr run
  iff_runs never n a b x y false p q = rw (p false, p true, q false, q true)
  iff_runs never n a b x y true p q = rw (p false, p true, q false, q true)
  iff_runs below n a b x y false p q = rw (p false, p true, q false, q true)
  iff_runs below n a b x y true p q = rw (p false, p true, q false, q true)
  iff_runs here n a b x y false p q = refl
  iff_runs here n a b x y true p q = refl

  mutual
    unfolding normalize_bool_expr run resolve split_of

    -- wherever it stands
    pub bool_runs : (e : BoolExpr) (m : Splitting) (at n : ℕ) (g : Bool) → normalize_bool_expr ds (split_of e m n) g ≡ run ds (resolve e m at n g)
    bool_runs (Const b) m at n false = const_run b
    bool_runs (Const b) m at n true = const_run_not b
    bool_runs (Var v) m at n g = refl
    bool_runs (NVar k) m at n g = refl
    bool_runs (And ms) m at n false = ap normalize_conjunction (members_run ms m (at + 2) n false)
    bool_runs (And ms) m at n true = ap disjunction_of (members_run ms m (at + 2) n true)
    bool_runs (Or ms) m at n false = ap disjunction_of (members_run ms m (at + 2) n false)
    bool_runs (Or ms) m at n true = ap normalize_conjunction (members_run ms m (at + 2) n true)
    bool_runs (Not e) m at n g = bool_runs e m (at + 1) n (not g)
    bool_runs (Xor a b) m at n g =
        let p = at + 1 + length (encode_bool a) in let k = n + splits a (inner m) in
        xor_runs m n (split_of a (inner m) n) (split_of b (inner m) k) (λ h. resolve a (inner m) (at + 1) n h) (λ h. resolve b (inner m) p k h) g (λ h. bool_runs a (inner m) (at + 1) n h) (λ h. bool_runs b (inner m) p k h)
    bool_runs (Iff a b) m at n g =
        let p = at + 1 + length (encode_bool a) in let k = n + splits a (inner m) in
        iff_runs m n (split_of a (inner m) n) (split_of b (inner m) k) (λ h. resolve a (inner m) (at + 1) n h) (λ h. resolve b (inner m) p k h) g (λ h. bool_runs a (inner m) (at + 1) n h) (λ h. bool_runs b (inner m) p k h)
    bool_runs (Imp a b) m at n false =
        let p = at + 1 + length (encode_bool a) in let k = n + splits a m in
        rw (bool_runs a m (at + 1) n true, bool_runs b m p k false)
    bool_runs (Imp a b) m at n true =
        let p = at + 1 + length (encode_bool a) in let k = n + splits a m in
        rw (bool_runs a m (at + 1) n false, bool_runs b m p k true)
    bool_runs (Cmp o a b) m at n g =
        let p = at + 2 + length (encode_int a) in let k = n + splits_int a (inner m) in
        rw (int_runs a (inner m) (at + 2) n, int_runs b (inner m) p k)

    members_run : (ms : Members) (m : Splitting) (at n : ℕ) (g : Bool) → normalize_members ds (split_members ms m n) g ≡ runs ds (resolves ms m at n g)
    members_run mnil m at n g = refl
    members_run (more e ms) m at n g = rw (bool_runs e m at n g, members_run ms m (at + length (encode_bool e)) (n + splits e m) g)

    pub int_runs : (e : IntExpr) (m : Splitting) (at n : ℕ) → normalize_int_expr ds (split_int e m n) ≡ run_int ds (resolve_int e m at n)
    int_runs (IConst c) m at n = refl
    int_runs (IVar v) m at n = refl
    int_runs (Linear ts) m at n = ap (λ (r : LinearSum → IntRun). r (constant (pos 0))) (terms_run ts m (at + 2) n)
    int_runs (If i c t f) m at n =
        let p = at + 1 + length (encode_bool c) in let q = p + length (encode_int t) in
        let j = n + splits c m in let k = j + splits_int t m in
        if_runs i (split_int (If i c t f) m n) (split_of c m n) (λ g. normalize_bool_expr ds (split_of c m n) g) _ _ _ _ _
        (both_ways (λ g. normalize_bool_expr ds (split_of c m n) g) _ _ (bool_runs c m (at + 1) n false) (bool_runs c m (at + 1) n true)) (int_runs t m p j) (int_runs f m q k)

    terms_run : (ts : Terms) (m : Splitting) (at n : ℕ) → normalize_terms ds (split_terms ts m n) ≡ run_terms ds (resolve_terms ts m at n)
    terms_run tnil m at n = refl
    terms_run (tmore k e ts) m at n = rw (int_runs e m (at + 1) n, terms_run ts m (at + 1 + length (encode_int e)) (n + splits_int e m))

  -- ---- the extras

  -- each expression of es runs as its tree
  pub data Ran : List BoolExpr → Trees → Type 0 where
    ran_none : Ran [] nil
    ran_more : {e : BoolExpr} {es : List BoolExpr} {t : Tree} {ts : Trees} → normalize_bool_expr ds e false ≡ run ds t → Ran es ts → Ran (e ∷ es) (cons t ts)

  pub ran_append : {es fs : List BoolExpr} {ts us : Trees} → Ran es ts → Ran fs us → Ran (es ++ fs) (append ts us)
  ran_append ran_none q = q
  ran_append (ran_more e p) q = ran_more e (ran_append p q)

  pub ran_each : {es : List BoolExpr} {ts : Trees} → Ran es ts → (s : Log) → register_each ds es s ≡ registers ds ts s
  unfolding register_each registers
  ran_each ran_none s = refl
  ran_each (ran_more {e} {es} {t} {ts} h p) s = rw (h, ran_each p (register (run ds t s)))

  tie_run : (a : BoolExpr) (at v : ℕ) (s : Log) → normalize_bool_expr ds (Iff (cut a true s).result (NVar v)) false ≡ run ds (tie v a at (next_bool s))
  unfolding normalize_bool_expr run
  tie_run a at v s = rw (split_is a true s, bool_runs a here at (next_bool s) false, bool_runs a here at (next_bool s) true)

  sides_ran : (es fs : List BoolExpr) (ts us : Trees) (x y : BoolExpr) (t u : Tree) → Ran es ts → Ran fs us → normalize_bool_expr ds x false ≡ run ds t → normalize_bool_expr ds y false ≡ run ds u
      → Ran ((es ++ (x ∷ [])) ++ (fs ++ (y ∷ []))) (append (append ts (cons t nil)) (append us (cons u nil)))
  sides_ran es fs ts us x y t u p q h k = ran_append (ran_append p (ran_more h ran_none)) (ran_append q (ran_more k ran_none))

  mutual
    unfolding ties cut unsplit split_one split_two split_three split_sides

    pub extras_run : (e : BoolExpr) (t : Bool) (at : ℕ) (s : Log) → Ran (cut e t s).extra (ties e (splitting t) at (next_bool s))
    extras_run (Const b) t at s = ran_none
    extras_run (Var v) t at s = ran_none
    extras_run (NVar n) t at s = ran_none
    extras_run (And ms) t at s = members_extras ms t (at + 2) s
    extras_run (Or ms) t at s = members_extras ms t (at + 2) s
    extras_run (Not e) t at s = extras_run e t (at + 1) s
    extras_run (Xor a b) false at s =
        let p = at + 1 + length (encode_bool a) in
        rw (no_more (next_bool s), sym (split_sided a true s).bools) (ran_append (extras_run a true (at + 1) s) (extras_run b true p (cut a true s).log))
    extras_run (Xor a b) true at s =
        let r = bool (side b) ∷ bool (side a) ∷ s in let l = (cut a true r).log in let p = at + 1 + length (encode_bool a) in
        rw (two_more (next_bool s), sym (split_sided a true r).bools) (sides_ran _ _ _ _ _ _ _ _ (extras_run a true (at + 1) r) (extras_run b true p l) (tie_run a (at + 1) (next_bool s) r) (tie_run b p (suc (next_bool s)) l))
    extras_run (Iff a b) false at s =
        let p = at + 1 + length (encode_bool a) in
        rw (no_more (next_bool s), sym (split_sided a true s).bools) (ran_append (extras_run a true (at + 1) s) (extras_run b true p (cut a true s).log))
    extras_run (Iff a b) true at s =
        let r = bool (side b) ∷ bool (side a) ∷ s in let l = (cut a true r).log in let p = at + 1 + length (encode_bool a) in
        rw (two_more (next_bool s), sym (split_sided a true r).bools) (sides_ran _ _ _ _ _ _ _ _ (extras_run a true (at + 1) r) (extras_run b true p l) (tie_run a (at + 1) (next_bool s) r) (tie_run b p (suc (next_bool s)) l))
    extras_run (Imp a b) t at s =
        let p = at + 1 + length (encode_bool a) in
        rw (sym (split_sided a t s).bools) (ran_append (extras_run a t (at + 1) s) (extras_run b t p (cut a t s).log))
    extras_run (Cmp o a b) t at s =
        let p = at + 2 + length (encode_int a) in
        rw (inner_splitting t, sym (int_sided a s).bools) (ran_append (int_extras a (at + 2) s) (int_extras b p (cut-int a s).log))

    members_extras : (ms : Members) (t : Bool) (at : ℕ) (s : Log) → Ran (Cut-members ms t s).extra (ties_members ms (splitting t) at (next_bool s))
    members_extras mnil t at s = ran_none
    members_extras (more e ms) t at s =
        rw (sym (split_sided e t s).bools) (ran_append (extras_run e t at s) (members_extras ms t (at + length (encode_bool e)) (cut e t s).log))

    pub int_extras : (e : IntExpr) (at : ℕ) (s : Log) → Ran (cut-int e s).extra (ties_int e here at (next_bool s))
    int_extras (IConst c) at s = ran_none
    int_extras (IVar v) at s = ran_none
    int_extras (Linear ts) at s = terms_extras ts (at + 2) s
    int_extras (If i c t f) at s =
        let p = at + 1 + length (encode_bool c) in let l = (cut c true s).log in
        rw (sym (split_sided c true s).bools, sym (int_sided t l).bools)
        (ran_append (extras_run c true (at + 1) s) (ran_append (int_extras t p l) (int_extras f (p + length (encode_int t)) (cut-int t l).log)))

    terms_extras : (ts : Terms) (at : ℕ) (s : Log) → Ran (cut-terms ts s).extra (ties_terms ts here at (next_bool s))
    terms_extras tnil at s = ran_none
    terms_extras (tmore k e ts) at s =
        rw (sym (int_sided e s).bools) (ran_append (int_extras e (at + 1) s) (terms_extras ts (at + 1 + length (encode_int e)) (cut-int e s).log))

-- ---- a whole rule

-- its extras, then itself
abbrev pub rule_trees : BoolExpr → ℕ → ℕ → Trees
rule_trees e at n = append (ties e below at n) (cons (resolve e below at n false) nil)

pub rule_runs : (ds : List Domain) (e : BoolExpr) (at : ℕ) (s : Log) → normalize_and_register_expr ds e s ≡ registers ds (rule_trees e at (next_bool s)) (cut e false s).log
unfolding normalize_and_register_expr
rule_runs ds e at s =
    let r : normalize_bool_expr ds (cut e false s).result false ≡ run ds (resolve e below at (next_bool s) false) = rw (split_is e false s) (bool_runs ds e below at (next_bool s) false) in
    ran_each ds (ran_append ds (extras_run ds e false at s) (ran_more r ran_none)) (cut e false s).log

-- ---- a pair of an AllDifferent

-- the extras of both sides, then their comparison; p and q: where they stand
abbrev pub pair_trees : IntExpr → IntExpr → ℕ → ℕ → ℕ → Trees
pair_trees a b p q n =
    let k = n + splits_int a here in
    append (append (ties_int a here p n) (ties_int b here q k)) (cons (cmp Ne (resolve_int a here p n) (resolve_int b here q k) false) nil)

module _ (ds : List Domain) (a b : IntExpr) (p q : ℕ) (s : Log) where
  pair_extras : Ran ds (cut (Cmp Ne a b) false s).extra (append (ties_int a here p (next_bool s)) (ties_int b here q (next_bool s + splits_int a here)))
  unfolding cut split_two
  pair_extras = rw (sym (int_sided a s).bools) (ran_append ds (int_extras ds a p s) (int_extras ds b q (cut-int a s).log))

  pair_compared : normalize_bool_expr ds (cut (Cmp Ne a b) false s).result false ≡ run ds (cmp Ne (resolve_int a here p (next_bool s)) (resolve_int b here q (next_bool s + splits_int a here)) false)
  unfolding cut split_two normalize_bool_expr run
  pair_compared = rw (sym (int_sided a s).bools, int_split a s, int_split b (cut-int a s).log, int_runs ds a here p (next_bool s), int_runs ds b here q (next_bool (cut-int a s).log))

  pub pair_runs : normalize_and_register_expr ds (Cmp Ne a b) s ≡ registers ds (pair_trees a b p q (next_bool s)) (cut (Cmp Ne a b) false s).log
  unfolding normalize_and_register_expr
  pair_runs = ran_each ds (ran_append ds pair_extras (ran_more pair_compared ran_none)) (cut (Cmp Ne a b) false s).log

-- ---- where the splitting takes no number

mutual
  unfolding split_of splits

  pub unsplit_bool : (e : BoolExpr) (m : Splitting) (n : ℕ) → splits e m ≡ 0 → split_of e m n ≡ e
  unsplit_bool (Const b) m n h = refl
  unsplit_bool (Var v) m n h = refl
  unsplit_bool (NVar k) m n h = refl
  unsplit_bool (And ms) m n h = ap And (unsplit_members ms m n h)
  unsplit_bool (Or ms) m n h = ap Or (unsplit_members ms m n h)
  unsplit_bool (Not e) m n h = ap Not (unsplit_bool e m n h)
  unsplit_bool (Xor a b) never n h = rw (unsplit_bool a never n (omega (arith, h)), unsplit_bool b never (n + splits a never) (omega (arith, h))) refl
  unsplit_bool (Xor a b) below n h = rw (unsplit_bool a here n (omega (arith, h)), unsplit_bool b here (n + splits a here) (omega (arith, h))) refl
  unsplit_bool (Xor a b) here n h = absurd (omega (arith, h))
  unsplit_bool (Iff a b) never n h = rw (unsplit_bool a never n (omega (arith, h)), unsplit_bool b never (n + splits a never) (omega (arith, h))) refl
  unsplit_bool (Iff a b) below n h = rw (unsplit_bool a here n (omega (arith, h)), unsplit_bool b here (n + splits a here) (omega (arith, h))) refl
  unsplit_bool (Iff a b) here n h = absurd (omega (arith, h))
  unsplit_bool (Imp a b) m n h = rw (unsplit_bool a m n (omega (arith, h)), unsplit_bool b m (n + splits a m) (omega (arith, h))) refl
  unsplit_bool (Cmp o a b) m n h = rw (unsplit_int a (inner m) n (omega (arith, h)), unsplit_int b (inner m) (n + splits_int a (inner m)) (omega (arith, h))) refl

  unsplit_members : (ms : Members) (m : Splitting) (n : ℕ) → splits_members ms m ≡ 0 → split_members ms m n ≡ ms
  unsplit_members mnil m n h = refl
  unsplit_members (more e ms) m n h = rw (unsplit_bool e m n (omega (arith, h)), unsplit_members ms m (n + splits e m) (omega (arith, h))) refl

  pub unsplit_int : (e : IntExpr) (m : Splitting) (n : ℕ) → splits_int e m ≡ 0 → split_int e m n ≡ e
  unsplit_int (IConst c) m n h = refl
  unsplit_int (IVar v) m n h = refl
  unsplit_int (Linear ts) m n h = ap Linear (unsplit_terms ts m n h)
  unsplit_int (If i c t f) m n h =
      let x = splits c m in let y = splits_int t m in let z = splits_int f m in
      rw (unsplit_bool c m n (zero_first x y z h), unsplit_int t m (n + x) (zero_second x y z h), unsplit_int f m (n + x + y) (zero_third x y z h)) refl

  unsplit_terms : (ts : Terms) (m : Splitting) (n : ℕ) → splits_terms ts m ≡ 0 → split_terms ts m n ≡ ts
  unsplit_terms tnil m n h = refl
  unsplit_terms (tmore k e ts) m n h = rw (unsplit_int e m n (omega (arith, h)), unsplit_terms ts m (n + splits_int e m) (omega (arith, h))) refl

-- ---- a column is not split

mutual
  unfolding splits

  pub never_bool : (e : BoolExpr) → splits e never ≡ 0
  never_bool (Const b) = refl
  never_bool (Var v) = refl
  never_bool (NVar k) = refl
  never_bool (And ms) = never_members ms
  never_bool (Or ms) = never_members ms
  never_bool (Not e) = never_bool e
  never_bool (Xor a b) = omega (arith, never_bool a, never_bool b)
  never_bool (Iff a b) = omega (arith, never_bool a, never_bool b)
  never_bool (Imp a b) = omega (arith, never_bool a, never_bool b)
  never_bool (Cmp o a b) = omega (arith, never_int a, never_int b)

  never_members : (ms : Members) → splits_members ms never ≡ 0
  never_members mnil = refl
  never_members (more e ms) = omega (arith, never_bool e, never_members ms)

  pub never_int : (e : IntExpr) → splits_int e never ≡ 0
  never_int (IConst c) = refl
  never_int (IVar v) = refl
  never_int (Linear ts) = never_terms ts
  never_int (If i c t f) = zero_three (splits c never) (splits_int t never) (splits_int f never) (never_bool c) (never_int t) (never_int f)

  never_terms : (ts : Terms) → splits_terms ts never ≡ 0
  never_terms tnil = refl
  never_terms (tmore k e ts) = omega (arith, never_int e, never_terms ts)

pub column_runs : (ds : List Domain) (e : IntExpr) (at n : ℕ) → normalize_int_expr ds e ≡ run_int ds (resolve_int e never at n)
column_runs ds e at n = ap (normalize_int_expr ds) (sym (unsplit_int e never n (never_int e))) ∙ int_runs ds e never at n
