-- What the parts of normalising keep of a named log, from what its sub-runs keep: the log grows on top and stays named; and what an If's run ends with,
-- a number that the If finds, or a new one that nothing finds. The induction over expressions is in Constant.
use Rattle.std.specs.Prelude.{◌≡◌, Bool, ◌&&◌, cond, ℕ, ◌≤◌, ◌<◌, ℤ, length}
use Rattle.std.proofs.Math.Path.{refl}
use Rattle.std.proofs.Common.{sym, ◌∙◌}
use Rattle.std.proofs.Math.Bool.{true, false}
use Rattle.std.proofs.Math.Option.{Option, none, some}
use mathlib.Core.List.{List, [], ◌∷◌, ◌++◌}
use native.Mathlib.Omega.{arith}
use Rattle.std.specs.Int.Signed.{lt_z}
use Rattle.std.proofs.Math.ListN.{length-append}
use Rattle.laws.specs.Bools.{never}
use Rattle.laws.specs.Ints.{eqZ}
use Rattle.laws.specs.Same.{same_refl}
use Rattle.syntax.specs.Syntax.{IfIsRead, Domain, Range, IntExpr, If, BoolExpr, Const, Var, NVar, And, Or, Not, Xor, Iff, Imp, Cmp, encode_int, encode_bool}
use Rattle.sums.specs.LinearSum.{LinearSum, constant, singleton, is_constant}
use Rattle.sums.specs.Rising.{constant_of, terms_of, Each, Proper}
use Rattle.sums.proofs.RisingLaws.{singleton_each, singleton_proper}
use Rattle.clauses.specs.Clause.{BoolLit, LinearLit, Clause}
use Rattle.clauses.specs.Log.{MadeBool, aux, side, column, chosen, binary, Made, bool, int, known, Log, next_bool, next_int, negate_lit, get_bool_var, get_int_var, get_if, bool_var_at, convert_bool_var, int_var_at, convert_int_var}
use Rattle.clauses.specs.Disjunction.{Sorted, satisfied, pool, sorted, each_longer, finish_disjunction, finish_sorted, normalize_disjunction}
use Rattle.clauses.specs.Normalize.{IntOut, normalize_int_expr, Run, Runs, define, no_run, run_then, two, normalize_conjunction, disjunction_of, cross, normalize_num, normalize_bool_expr, own_literal, condition_literal, two_valued, hull, domain_of_sum, if_constant, if_open, normalize_if}
use Rattle.clauses.proofs.Since.{OnTop, here, over, top_then}
use Rattle.clauses.proofs.Once.{int_stays, bool_stays}
use Rattle.walks.specs.Named.{choice, nothing, key_of, key_at, key_new, top_ints, top_key, choice_below, NamedMade, NamedBy, if_found}

-- ---- a disjunction makes Booleans only: what each keeps, it keeps

module _ (K : Log → Type 0) (step : (m : MadeBool) (s : Log) → K s → K (bool m ∷ s)) where
  each_keeps : (css : List (List Clause)) (ls : List BoolLit) (ks : List LinearLit) (s : Log) → K s → K (each_longer css ls ks s).1
  unfolding each_longer
  each_keeps [] ls ks s k = k
  each_keeps (cs ∷ css) ls ks s k = each_keeps css _ ks (bool (aux cs) ∷ s) (step (aux cs) s k)

  finish_keeps : (css : List (List Clause)) (ls : List BoolLit) (ks : List LinearLit) (s : Log) → K s → K (finish_disjunction css ls ks s).1
  unfolding finish_disjunction
  finish_keeps [] [] [] s k = each_keeps [] [] [] s k
  finish_keeps [] [] (x ∷ ks) s k = each_keeps [] [] (x ∷ ks) s k
  finish_keeps [] (l ∷ ls) ks s k = each_keeps [] (l ∷ ls) ks s k
  finish_keeps (a ∷ []) [] [] s k = k
  finish_keeps (a ∷ []) [] (x ∷ ks) s k = each_keeps (a ∷ []) [] (x ∷ ks) s k
  finish_keeps (a ∷ []) (l ∷ []) [] s k = k
  finish_keeps (a ∷ []) (l ∷ []) (x ∷ ks) s k = each_keeps (a ∷ []) (l ∷ []) (x ∷ ks) s k
  finish_keeps (a ∷ []) (l ∷ m ∷ ls) [] s k = each_keeps (a ∷ []) (l ∷ m ∷ ls) [] s k
  finish_keeps (a ∷ []) (l ∷ m ∷ ls) (x ∷ ks) s k = each_keeps (a ∷ []) (l ∷ m ∷ ls) (x ∷ ks) s k
  finish_keeps (a ∷ c ∷ []) [] [] s k = step (aux a) s k
  finish_keeps (a ∷ c ∷ []) [] (x ∷ ks) s k = each_keeps (a ∷ c ∷ []) [] (x ∷ ks) s k
  finish_keeps (a ∷ c ∷ []) (l ∷ ls) ks s k = each_keeps (a ∷ c ∷ []) (l ∷ ls) ks s k
  finish_keeps (a ∷ c ∷ d ∷ css) ls ks s k = each_keeps (a ∷ c ∷ d ∷ css) ls ks s k

  sorted_keeps : (x : Sorted) (s : Log) → K s → K (finish_sorted x s).1
  unfolding finish_sorted
  sorted_keeps satisfied s k = k
  sorted_keeps (pool ls ks longer) s k = finish_keeps longer ls ks s k

  pub disjunction_keeps : (css : List (List Clause)) (s : Log) → K s → K (normalize_disjunction css s).1
  unfolding normalize_disjunction
  disjunction_keeps [] s k = k
  disjunction_keeps (cs ∷ []) s k = k
  disjunction_keeps (cs ∷ ds ∷ css) s k = sorted_keeps (sorted (cs ∷ ds ∷ css)) s k

-- how an If from s to t has the number n: the If finds it; or it is new, and nothing finds it (true)
abbrev pub How : Bool → IntExpr → Log → Log → ℕ → Type 0
How false e s t n = get_if e t ≡ some n
How true e s t n = (next_int s ≤ n) × (n < next_int t) × (key_at t n ≡ nothing)

-- Open: of each If that is found again
module _ (Open : IntExpr → Type 0) where
  -- t is named and has entries on top of s
  pub record Kept (s t : Log) : Type 0 where
    pub named : NamedBy Open t
    pub top : OnTop s t

  pub kept_same : {s : Log} → NamedBy Open s → Kept s s
  kept_same n = record { named = n; top = here }

  pub kept_more : {s t : Log} (m : Made) → NamedMade Open m t → Kept s t → Kept s (m ∷ t)
  kept_more m n k = record { named = (n, k.named); top = over m k.top }

  pub kept_then : {s t u : Log} → Kept s t → Kept t u → Kept s u
  kept_then k j = record { named = j.named; top = top_then k.top j.top }

  abbrev pub Keeps : {A : Type 0} → (Log → A × Log) → Type 0
  Keeps r = (s : Log) → NamedBy Open s → Kept s (r s).1

  -- ---- declared variables

  bool_var_kept : (o : Option BoolLit) (v : ℕ) (s : Log) → NamedBy Open s → Kept s (bool_var_at o v s).1
  bool_var_kept (some l) v s n = kept_same n
  bool_var_kept none v s n = kept_more _ tt (kept_same n)

  pub convert_bool_kept : (v : ℕ) → Keeps (convert_bool_var v)
  unfolding convert_bool_var
  convert_bool_kept v s n = bool_var_kept (get_bool_var v s) v s n

  int_var_kept : (o : Option ℕ) (v : ℕ) (s : Log) → get_int_var v s ≡ o → NamedBy Open s → Kept s (int_var_at o v s).1
  int_var_kept (some k) v s e n = kept_same n
  int_var_kept none v s e n = kept_more _ e (kept_same n)

  pub convert_int_kept : (v : ℕ) → Keeps (convert_int_var v)
  unfolding convert_int_var
  convert_int_kept v s n = int_var_kept (get_int_var v s) v s refl n

  -- ---- Boolean runs

  pub disjunction_kept : (css : List (List Clause)) → Keeps (normalize_disjunction css)
  disjunction_kept css s n = disjunction_keeps (Kept s) (λ m t k. kept_more (bool m) tt k) css s (kept_same n)

  pub conj_kept : (r : Runs) → Keeps r → Keeps (normalize_conjunction r)
  unfolding normalize_conjunction
  conj_kept r h s n = h s n

  pub disj_kept : (r : Runs) → Keeps r → Keeps (disjunction_of r)
  unfolding disjunction_of
  disj_kept r h s n = let k = h s n in kept_then k (disjunction_kept (r s).0 (r s).1 k.named)

  pub then_kept : (r : Run) (rs : Runs) → Keeps r → Keeps rs → Keeps (run_then r rs)
  unfolding run_then
  then_kept r rs h hs s n = let k = h s n in kept_then k (hs (r s).1 k.named)

  pub two_kept : (r q : Run) → Keeps r → Keeps q → Keeps (two r q)
  unfolding no_run
  two_kept r q h j = then_kept r (run_then q no_run) h (then_kept q no_run j (λ s n. kept_same n))

  pub cross_kept : (p q : Runs) → Keeps p → Keeps q → Keeps (cross p q)
  unfolding cross
  cross_kept p q h j s n =
      let a = p s in
      let b = q a.1 in
      let c = normalize_disjunction a.0 b.1 in
      let k = h s n in
      let l = j a.1 k.named in
      let m = disjunction_kept a.0 b.1 l.named in
      kept_then k (kept_then l (kept_then m (disjunction_kept b.0 c.1 m.named)))

  -- ---- a condition's literal

  new_kept : (c : BoolExpr) (p : Bool → Run) → ((g : Bool) → Keeps (p g)) → Keeps (condition_literal none c p)
  unfolding condition_literal define normalize_num
  new_kept c p q s n =
      let k : Kept s (bool (side c) ∷ s) = kept_more (bool (side c)) tt (kept_same n) in
      kept_more _ tt (kept_then k (cross_kept (two (normalize_num (next_bool s) false) (p true)) (two (normalize_num (next_bool s) true) (p false)) (two_kept _ _ (λ t j. kept_same j) (q true)) (two_kept _ _ (λ t j. kept_same j) (q false)) (bool (side c) ∷ s) k.named))

  condition_kept : (c : BoolExpr) (p : Bool → Run) → ((g : Bool) → Keeps (p g)) → Keeps (condition_literal (own_literal c) c p)
  unfolding condition_literal
  condition_kept (Const x) p q = new_kept (Const x) p q
  condition_kept (Var v) p q = convert_bool_kept v
  condition_kept (NVar k) p q = λ s n. kept_same n
  condition_kept (And ms) p q = new_kept (And ms) p q
  condition_kept (Or ms) p q = new_kept (Or ms) p q
  condition_kept (Not e) p q = new_kept (Not e) p q
  condition_kept (Xor x y) p q = new_kept (Xor x y) p q
  condition_kept (Iff x y) p q = new_kept (Iff x y) p q
  condition_kept (Imp x y) p q = new_kept (Imp x y) p q
  condition_kept (Cmp o x y) p q = new_kept (Cmp o x y) p q

  -- ---- integer runs

  -- the numbers of the sum are given, and it is a proper sum
  pub record IntKept (s : Log) (a : IntOut) : Type 0 where
    pub kept : Kept s a.1
    pub below : Each (λ n. n < next_int a.1) (terms_of a.0)
    pub proper : Proper a.0

  pub record IfKept (b : Bool) (e : IntExpr) (s : Log) (a : IntOut) : Type 0 where
    pub kept : Kept s a.1
    pub number : ℕ
    pub sum : a.0 ≡ singleton number
    pub how : How b e s a.1 number

  how_below : (b : Bool) (e : IntExpr) (s t : Log) (n : ℕ) → NamedBy Open t → How b e s t n → n < next_int t
  how_below false e s t n k h = choice_below e n t (if_found Open t k e n h).key
  how_below true e s t n k h = h.1

  pub if_int : (b : Bool) (e : IntExpr) (s : Log) (a : IntOut) → IfKept b e s a → IntKept s a
  if_int b e s a k = record {
    kept = k.kept;
    below = rw k.sum (singleton_each (λ n. n < next_int a.1) k.number (how_below b e s a.1 k.number k.kept.named k.how));
    proper = rw k.sum (singleton_proper k.number);
  }

  two_valued_key : (i : IfIsRead) (l : BoolLit) (x y : ℤ) → key_of (two_valued i l x y) ≡ nothing
  two_valued_key i l x y = go (lt_z x y) (eqZ x y)
    where
      go : (u v : Bool) → key_of (cond u (binary i (negate_lit true l) x y) (cond v (column (constant x) (Range x x)) (binary i l y x))) ≡ nothing
      go true v = refl
      go false true = refl
      go false false = refl

  two_valued_named : (i : IfIsRead) (l : BoolLit) (x y : ℤ) (s : Log) → NamedMade Open (int (two_valued i l x y)) s
  two_valued_named i l x y s = go (lt_z x y) (eqZ x y)
    where
      go : (u v : Bool) → NamedMade Open (int (cond u (binary i (negate_lit true l) x y) (cond v (column (constant x) (Range x x)) (binary i l y x)))) s
      go true v = tt
      go false true = tt
      go false false = tt

  module _ (ds : List Domain) where
    -- s: before the If, b: behind its branches
    constant_kept : (i : IfIsRead) (e : IntExpr) (c : BoolExpr) (p : Bool → Run) (x y : ℤ) (s b : Log) → ((g : Bool) → Keeps (p g)) → Kept s b → IfKept true e s (if_constant ds i c p x y b)
    unfolding if_constant
    constant_kept i e c p x y s b q k =
        let l = condition_literal (own_literal c) c p b in
        let j : Kept s l.1 = kept_then k (condition_kept c p q b k.named) in
        record {
          kept = kept_more _ (two_valued_named i l.0 x y l.1) j;
          number = next_int l.1;
          sum = refl;
          how = (top_ints j.top, omega arith, key_new (two_valued i l.0 x y) l.1 ∙ two_valued_key i l.0 x y);
        }

    -- css: the clauses of the disjunction, d: the new integer's domain; stays: the condition leaves the If unknown
    behind_open : (i : IfIsRead) (e : IntExpr) (p : Bool → Run) (t f : LinearSum) (d : Domain) (css : List (List Clause)) (s b : Log) → ((g : Bool) → Keeps (p g)) → ((g : Bool) (u : Log) → get_if e (p g u).1 ≡ get_if e u) → get_if e b ≡ none → Open e → Kept s b
        → let x = int (chosen i e t f d) ∷ b in let y = define (normalize_disjunction css (p true (p false x).1).1) in Kept s (known e (next_int b) ∷ y) × (get_if e (known e (next_int b) ∷ y) ≡ some (next_int b))
    unfolding define get_if
    behind_open i e p t f d css s b q stays new o k =
        let x : Log = int (chosen i e t f d) ∷ b in
        let kx : Kept s x = kept_more (int (chosen i e t f d)) tt k in
        let a : Log = (p false x).1 in
        let ka : Kept x a = q false x kx.named in
        let c : Log = (p true a).1 in
        let kc : Kept a c = q true a ka.named in
        let kd : Kept c (normalize_disjunction css c).1 = disjunction_kept css c kc.named in
        let ky : Kept x (define (normalize_disjunction css c)) = kept_more _ tt (kept_then ka (kept_then kc kd)) in
        let gone : get_if e (normalize_disjunction css c).1 ≡ none =
        disjunction_keeps (λ u. get_if e u ≡ none) (λ m u z. z) css c (stays true a ∙ stays false x ∙ new) in
        let key : key_at (define (normalize_disjunction css c)) (next_int b) ≡ choice e = top_key ky.top (next_int b) (omega arith) ∙ key_new (chosen i e t f d) b in
        (kept_more (known e (next_int b)) (gone, key, o) (kept_then kx ky), rw (same_refl (encode_int e)) refl)

    open_kept : (i : IfIsRead) (e : IntExpr) (p : Bool → Run) (t f : LinearSum) (s b : Log) → ((g : Bool) → Keeps (p g)) → ((g : Bool) (u : Log) → get_if e (p g u).1 ≡ get_if e u) → get_if e b ≡ none → Open e → Kept s b
        → IfKept false e s (if_open ds i e p t f b)
    unfolding if_open
    open_kept i e p t f s b q stays new o k =
        let h = behind_open i e p t f (hull (domain_of_sum ds b t) (domain_of_sum ds b f)) _ s b q stays new o k in
        record { kept = h.0; number = next_int b; sum = refl; how = h.1 }

    few_words : (i : IfIsRead) (c : BoolExpr) (t f : IntExpr) → let n = length (encode_int (If i c t f)) in (length (encode_bool c) < n) × (length (encode_int t) < n) × (length (encode_int f) < n)
    unfolding encode_int
    few_words i c t f =
        let l = length-append (encode_bool c) (encode_int t ++ encode_int f) in
        let m = length-append (encode_int t) (encode_int f) in
        (omega arith, omega arith, omega arith)

    -- ---- an If, where its branches' sums are constant or not by the expression alone (ct, cf)

    pub if_kept : (i : IfIsRead) (c : BoolExpr) (t f : IntExpr) (ct cf : Bool) → ((g : Bool) → Keeps (normalize_bool_expr ds c g)) → Keeps (normalize_int_expr ds t) → Keeps (normalize_int_expr ds f)
        → ((s : Log) → NamedBy Open s → is_constant (normalize_int_expr ds t s).0 ≡ ct) → ((s : Log) → NamedBy Open s → is_constant (normalize_int_expr ds f s).0 ≡ cf)
        → (Open (If i c t f) → ct && cf ≡ false) → (ct && cf ≡ false → Open (If i c t f))
        → (s : Log) → NamedBy Open s → IfKept (ct && cf) (If i c t f) s (normalize_int_expr ds (If i c t f) s)
    unfolding normalize_int_expr normalize_if
    if_kept i c t f ct cf q ht hf st sf to from s n = go (get_if (If i c t f) s) refl
      where
        e : IntExpr
        e = If i c t f

        a : IntOut
        a = normalize_int_expr ds t s

        b : IntOut
        b = normalize_int_expr ds f a.1

        ka : Kept s a.1
        ka = ht s n

        kb : Kept s b.1
        kb = kept_then ka (hf a.1 ka.named)

        x : IntOut
        x = if_constant ds i c (normalize_bool_expr ds c) (constant_of a.0) (constant_of b.0) b.1

        y : IntOut
        y = if_open ds i e (normalize_bool_expr ds c) a.0 b.0 b.1

        made : (z w : Bool) → w ≡ z → ct && cf ≡ z → get_if e s ≡ none → IfKept z e s (cond w x y)
        made true true h g new = constant_kept i e c (normalize_bool_expr ds c) (constant_of a.0) (constant_of b.0) s b.1 q kb
        made true false h g new = never h
        made false true h g new = never (sym h)
        made false false h g new =
            open_kept i e (normalize_bool_expr ds c) a.0 b.0 s b.1 q (λ g u. bool_stays ds e c g (few_words i c t f).0 u) (int_stays ds e f (few_words i c t f).2 a.1 ∙ int_stays ds e t (few_words i c t f).1 s ∙ new) (from g) kb

        found : (z : Bool) (v : ℕ) → z ≡ false → get_if e s ≡ some v → IfKept z e s (singleton v, s)
        found true v g h = never (sym g)
        found false v g h = record { kept = kept_same n; number = v; sum = refl; how = h }

        go : (o : Option ℕ) → get_if e s ≡ o → IfKept (ct && cf) e s (normalize_if ds i o e c (normalize_bool_expr ds c) (normalize_int_expr ds t) (normalize_int_expr ds f) s)
        go (some v) h = found (ct && cf) v (to (if_found Open s n e v h).is_open) h
        go none h = made (ct && cf) (is_constant a.0 && is_constant b.0) (rw (st s n, sf a.1 ka.named) refl) refl h
