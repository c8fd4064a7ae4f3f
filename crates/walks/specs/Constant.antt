-- Whether an expression's sum is constant, and so whether an If's branches are, is a property of the expression, not of the log; and normalising keeps a log
-- named. Two runs of one expression from named logs have the same value where what finds a number in either has one value in both, and where
-- the numbers that nothing finds are given suitable values: so one sum is constant exactly if the other is.
use Rattle.std.specs.Prelude.{◌≡◌, Bool, true, false, not, ◌&&◌, cond, ℕ, ◌≤◌, ◌<◌, eqb, ℤ, pos, ◌+ℤ◌}
use Rattle.std.proofs.Math.Path.{refl}
use Rattle.std.proofs.Common.{sym, ap, ◌∙◌, arith, eqb-true, eq-eqb, ne_eqb}
use Rattle.std.proofs.Math.Option.{Option, none, some}
use mathlib.Core.List.{List, []}
use Rattle.laws.specs.Bools.{both_ways}
use Rattle.syntax.specs.Syntax.{Domain, IntExpr, IConst, IVar, Linear, If, Terms, tnil, tmore, BoolExpr, Const, Var, NVar, And, Or, Not, Xor, Iff, Imp, Cmp, Members, mnil, more}
use Rattle.syntax.specs.Satisfies.{IVal}
use Rattle.sums.specs.LinearSum.{LinearSum, constant, singleton, is_constant, add_sum, mul_sum, sum_value}
use Rattle.sums.specs.Rising.{terms_of, constant_of, Each, Proper}
use Rattle.sums.proofs.RisingLaws.{each_map, constant_each, singleton_each, add_sum_each, mul_sum_each, constant_proper, singleton_proper, add_sum_proper}
use Rattle.sums.proofs.Value.{singleton_value, add_sum_value, mul_sum_value}
use Rattle.clauses.specs.Log.{Log, next_int, get_int_var, get_if, int_var_at, convert_int_var}
use Rattle.clauses.proofs.Grow.{get_int_below}
use Rattle.clauses.specs.Normalize.{IntOut, normalize_int_var, normalize_term, normalize_int_expr, normalize_terms, no_run, normalize_num, normalize_var, normalize_comparison, normalize_bool_expr, normalize_members}
use Rattle.walks.specs.Named.{Key, variable, choice, nothing, key_at, top_ints, top_key, variable_is, choice_is, var_key, NamedBy, if_found, var_stays, if_stays}
use Rattle.walks.specs.Steady.{value_same, constant_steady, steady_constant}
use Rattle.walks.specs.Kept.{Kept, kept_same, kept_then, Keeps, convert_bool_kept, convert_int_kept, conj_kept, disj_kept, then_kept, two_kept, cross_kept, IntKept, How, IfKept, if_int, if_kept}

-- ds: the declared domains
module _ (ds : List Domain) where
  -- ---- what is said of the expression alone, by the run from no log

  unfoldable pub constant_expr : IntExpr → Bool
  constant_expr e = is_constant (normalize_int_expr ds e []).0

  -- an If that is found again has a branch that is not constant
  abbrev pub OpenIf : IntExpr → Type 0
  OpenIf (IConst c) = ⊥
  OpenIf (IVar v) = ⊥
  OpenIf (Linear ts) = ⊥
  OpenIf (If i c t f) = constant_expr t && constant_expr f ≡ false

  abbrev pub Named : Log → Type 0
  Named s = NamedBy OpenIf s

  abbrev IntKeeps : IntExpr → Type 0
  IntKeeps e = (s : Log) → Named s → IntKept OpenIf s (normalize_int_expr ds e s)

  abbrev Below : Log → LinearSum → Type 0
  Below s l = Each (λ n. n < next_int s) (terms_of l)

  below_more : (s t : Log) (l : LinearSum) → next_int s ≤ next_int t → Below s l → Below t l
  below_more s t l h b = each_map (λ n. n < next_int s) (λ n. n < next_int t) (terms_of l) (λ n k. omega (arith, k)) b

  -- ---- values of two runs, of numbers in u and in u'

  -- what finds a number in both has one value
  record Alike (ι κ : IVal) (u u' : Log) : Type 0 where
    pub vars : (v n n' : ℕ) → get_int_var v u ≡ some n → get_int_var v u' ≡ some n' → ι n ≡ κ n'
    pub ifs : (e : IntExpr) (n n' : ℕ) → get_if e u ≡ some n → get_if e u' ≡ some n' → ι n ≡ κ n'

  -- μ is ι but for numbers given behind s that nothing finds in u
  record Turned (s u : Log) (ι μ : IVal) : Type 0 where
    pub below : (n : ℕ) → n < next_int s → μ n ≡ ι n
    pub keyed : (n : ℕ) → (key_at u n ≡ nothing → ⊥) → μ n ≡ ι n

  -- the sums l and m have one value, after such a turn
  record Twin (s u : Log) (ι κ : IVal) (l m : LinearSum) : Type 0 where
    pub turn : IVal
    pub turned : Turned s u ι turn
    pub same : sum_value turn l ≡ sum_value κ m

  turned_none : (s u : Log) (ι : IVal) → Turned s u ι ι
  turned_none s u ι = record { below = λ n l. refl; keyed = λ n k. refl }

  turned_then : (s t u : Log) (ι μ ν : IVal) → next_int s ≤ next_int t → Turned s u ι μ → Turned t u μ ν → Turned s u ι ν
  turned_then s t u ι μ ν l a b = record { below = λ n k. b.below n (omega (arith, k)) ∙ a.below n k; keyed = λ n k. b.keyed n k ∙ a.keyed n k }

  turned_alike : (s u u' : Log) (ι μ κ : IVal) → Named u → Turned s u ι μ → Alike ι κ u u' → Alike μ κ u u'
  turned_alike s u u' ι μ κ n t a = record {
    vars = λ v k k' h h'. t.keyed k (λ z. variable_is v (sym (var_key u v k h) ∙ z)) ∙ a.vars v k k' h h';
    ifs = λ e k k' h h'. t.keyed k (λ z. choice_is e (sym (if_found OpenIf u n e k h).key ∙ z)) ∙ a.ifs e k k' h h';
  }

  -- one number turned
  abbrev with_value : IVal → ℕ → ℤ → IVal
  with_value ι n x m = cond (eqb m n) x (ι m)

  with_turned : (s u : Log) (ι : IVal) (n : ℕ) (x : ℤ) → next_int s ≤ n → key_at u n ≡ nothing → Turned s u ι (with_value ι n x)
  with_turned s u ι n x l k = record { below = λ m h. rw (ne_eqb m n (λ e. omega arith)) refl; keyed = λ m h. go m h (eqb m n) refl }
    where
      go : (m : ℕ) → (key_at u m ≡ nothing → ⊥) → (b : Bool) → eqb m n ≡ b → cond b x (ι m) ≡ ι m
      go m h true e = absurd (h (rw (eqb-true m n e) k))
      go m h false e = refl

  abbrev Twins : IntExpr → Type 0
  Twins e = (s s' u u' : Log) → Named s → Named s' → Kept OpenIf (normalize_int_expr ds e s).1 u → Kept OpenIf (normalize_int_expr ds e s').1 u' → (ι κ : IVal) → Alike ι κ u u' → Twin s u ι κ (normalize_int_expr ds e s).0 (normalize_int_expr ds e s').0

  -- ---- so one sum is constant where the other is

  abbrev value_at : IVal → Option ℕ → ℤ
  value_at κ none = pos 0
  value_at κ (some n) = κ n

  abbrev value_of : IVal → Log → Key → ℤ
  value_of κ u (variable v) = value_at κ (get_int_var v u)
  value_of κ u (choice e) = value_at κ (get_if e u)
  value_of κ u nothing = pos 0

  -- the values in u of what finds a number in u'
  abbrev pulled : IVal → Log → Log → IVal
  pulled κ u u' n = value_of κ u' (key_at u n)

  pulled_alike : (κ : IVal) (u u' : Log) → Named u → Alike (pulled κ u u') κ u u'
  pulled_alike κ u u' n = record {
    vars = λ v k k' h h'. rw (var_key u v k h, h') refl;
    ifs = λ e k k' h h'. rw ((if_found OpenIf u n e k h).key, h') refl;
  }

  constant_over : (e : IntExpr) → IntKeeps e → Twins e → (s s' : Log) → Named s → Named s' → is_constant (normalize_int_expr ds e s).0 ≡ true → is_constant (normalize_int_expr ds e s').0 ≡ true
  constant_over e h tw s s' n n' z =
      let a = normalize_int_expr ds e s in
      let b = normalize_int_expr ds e s' in
      let ka = (h s n).kept.named in
      let kb = (h s' n').kept.named in
      steady_constant b.0 (h s' n').proper (constant_of a.0) λ κ.
      let w = tw s s' a.1 b.1 n n' (kept_same OpenIf ka) (kept_same OpenIf kb) (pulled κ a.1 b.1) κ (pulled_alike κ a.1 b.1 ka) in
      sym w.same ∙ constant_steady w.turn a.0 z

  same_constant : (e : IntExpr) → IntKeeps e → Twins e → (s : Log) → Named s → is_constant (normalize_int_expr ds e s).0 ≡ constant_expr e
  unfolding constant_expr
  same_constant e h tw s n = both_ways _ _ (constant_over e h tw s [] n tt) (constant_over e h tw [] s tt n)

  -- ---- declared variables

  var_found_at : (o : Option ℕ) (v : ℕ) (s : Log) → get_int_var v s ≡ o → get_int_var v (int_var_at o v s).1 ≡ some (int_var_at o v s).0
  var_found_at (some n) v s h = h
  var_found_at none v s h = unfold get_int_var in rw (eq-eqb v v refl) refl

  var_found : (v : ℕ) (s : Log) → get_int_var v (convert_int_var v s).1 ≡ some (convert_int_var v s).0
  unfolding convert_int_var
  var_found v s = var_found_at (get_int_var v s) v s refl

  var_keeps : (v : ℕ) → IntKeeps (IVar v)
  unfolding normalize_int_expr normalize_int_var
  var_keeps v s n =
      let t = (convert_int_var v s).1 in
      record { kept = convert_int_kept OpenIf v s n; below = singleton_each (λ k. k < next_int t) _ (get_int_below t v _ (var_found v s)); proper = singleton_proper _ }

  -- two numbers of one value
  numbers_twin : (s u : Log) (ι κ : IVal) (n n' : ℕ) → ι n ≡ κ n' → Twin s u ι κ (singleton n) (singleton n')
  numbers_twin s u ι κ n n' h = record { turn = ι; turned = turned_none s u ι; same = singleton_value ι n ∙ h ∙ sym (singleton_value κ n') }

  var_twins : (v : ℕ) → Twins (IVar v)
  unfolding normalize_int_expr normalize_int_var
  var_twins v s s' u u' n n' k k' ι κ a =
      numbers_twin s u ι κ _ _ (a.vars v _ _ (var_stays OpenIf k.top k.named v _ (var_found v s)) (var_stays OpenIf k'.top k'.named v _ (var_found v s')))

  -- ---- Ifs

  new_twin : (s u : Log) (ι κ : IVal) (n n' : ℕ) → next_int s ≤ n → key_at u n ≡ nothing → Twin s u ι κ (singleton n) (singleton n')
  new_twin s u ι κ n n' l k = record {
    turn = with_value ι n (κ n');
    turned = with_turned s u ι n (κ n') l k;
    same = singleton_value (with_value ι n (κ n')) n ∙ rw (eq-eqb n n refl) (sym (singleton_value κ n'));
  }

  how_twin : (b : Bool) (e : IntExpr) (s t u s' t' u' : Log) (n n' : ℕ) → How b e s t n → How b e s' t' n' → Kept OpenIf t u → Kept OpenIf t' u' → (ι κ : IVal) → Alike ι κ u u' → Twin s u ι κ (singleton n) (singleton n')
  how_twin false e s t u s' t' u' n n' h h' k k' ι κ a = numbers_twin s u ι κ n n' (a.ifs e n n' (if_stays OpenIf k.top k.named e n h) (if_stays OpenIf k'.top k'.named e n' h'))
  how_twin true e s t u s' t' u' n n' h h' k k' ι κ a = new_twin s u ι κ n n' h.0 (top_key k.top n h.1 ∙ h.2)

  if_twin : (b : Bool) (e : IntExpr) (s u s' u' : Log) (x x' : IntOut) → IfKept OpenIf b e s x → IfKept OpenIf b e s' x' → Kept OpenIf x.1 u → Kept OpenIf x'.1 u' → (ι κ : IVal) → Alike ι κ u u' → Twin s u ι κ x.0 x'.0
  if_twin b e s u s' u' x x' h h' k k' ι κ a =
      let w = how_twin b e s x.1 u s' x'.1 u' h.number h'.number h.how h'.how k k' ι κ a in
      record { turn = w.turn; turned = w.turned; same = rw (h.sum, h'.sum) w.same }

  -- ---- terms

  abbrev Good : Log → LinearSum → Type 0
  Good s l = Below s l × Proper l

  good_none : (s : Log) → Good s (constant (pos 0))
  good_none s = (constant_each (λ n. n < next_int s) (pos 0), constant_proper (pos 0))

  -- the sum with one more term
  good_more : (k : ℤ) (l : LinearSum) (s : Log) (x : IntOut) → Good s l → IntKept OpenIf s x → Good x.1 (add_sum l (mul_sum k x.0))
  good_more k l s x g h =
      let b : Below x.1 l = below_more s x.1 l (top_ints h.kept.top) g.0 in
      (add_sum_each (λ n. n < next_int x.1) l (mul_sum k x.0) b (mul_sum_each (λ n. n < next_int x.1) k x.0 h.below), add_sum_proper l (mul_sum k x.0) g.1)

  abbrev TermsKeep : Terms → Type 0
  TermsKeep ts = (l : LinearSum) (s : Log) → Named s → Good s l → IntKept OpenIf s (normalize_terms ds ts l s)

  term_keeps : (k : ℤ) (e : IntExpr) (ts : Terms) → IntKeeps e → TermsKeep ts → TermsKeep (tmore k e ts)
  unfolding normalize_terms normalize_term
  term_keeps k e ts h hs l s n g =
      let x = normalize_int_expr ds e s in
      let a = h s n in
      let b = hs (add_sum l (mul_sum k x.0)) x.1 a.kept.named (good_more k l s x g a) in
      record { kept = kept_then OpenIf a.kept b.kept; below = b.below; proper = b.proper }

  abbrev TermsTwins : Terms → Type 0
  TermsTwins ts = (l l' : LinearSum) (s s' u u' : Log) → Named s → Named s' → Good s l → Good s' l' → Kept OpenIf (normalize_terms ds ts l s).1 u → Kept OpenIf (normalize_terms ds ts l' s').1 u' → (ι κ : IVal) → Alike ι κ u u' → sum_value ι l ≡ sum_value κ l'
      → Twin s u ι κ (normalize_terms ds ts l s).0 (normalize_terms ds ts l' s').0

  -- the values so far, and of one more term
  more_value : (k : ℤ) (s u : Log) (ι κ μ : IVal) (l l' x x' : LinearSum) → Below s l → Turned s u ι μ → sum_value ι l ≡ sum_value κ l' → sum_value μ x ≡ sum_value κ x' → sum_value μ (add_sum l (mul_sum k x)) ≡ sum_value κ (add_sum l' (mul_sum k x'))
  more_value k s u ι κ μ l l' x x' b t e f =
      let z : sum_value μ l ≡ sum_value κ l' = value_same μ ι l (each_map (λ n. n < next_int s) (λ n. μ n ≡ ι n) (terms_of l) t.below b) ∙ e in
      add_sum_value μ l (mul_sum k x) ∙ rw (mul_sum_value μ k x, z, f) (sym (add_sum_value κ l' (mul_sum k x') ∙ ap (λ y. sum_value κ l' +ℤ y) (mul_sum_value κ k x')))

  term_twins : (k : ℤ) (e : IntExpr) (ts : Terms) → IntKeeps e → TermsKeep ts → Twins e → TermsTwins ts → TermsTwins (tmore k e ts)
  unfolding normalize_terms normalize_term
  term_twins k e ts h hs tw tws l l' s s' u u' n n' g g' j j' ι κ a q =
      let x = normalize_int_expr ds e s in
      let x' = normalize_int_expr ds e s' in
      let p = h s n in
      let p' = h s' n' in
      let m = add_sum l (mul_sum k x.0) in
      let m' = add_sum l' (mul_sum k x'.0) in
      let gm : Good x.1 m = good_more k l s x g p in
      let gm' : Good x'.1 m' = good_more k l' s' x' g' p' in
      let r = hs m x.1 p.kept.named gm in
      let r' = hs m' x'.1 p'.kept.named gm' in
      let w = tw s s' u u' n n' (kept_then OpenIf r.kept j) (kept_then OpenIf r'.kept j') ι κ a in
      let z = tws m m' x.1 x'.1 u u' p.kept.named p'.kept.named gm gm' j j' w.turn κ (turned_alike s u u' ι w.turn κ j.named w.turned a) (more_value k s u ι κ w.turn l l' x.0 x'.0 g.0 w.turned q w.same) in
      record { turn = z.turn; turned = turned_then s x.1 u ι w.turn z.turn (top_ints p.kept.top) w.turned z.turned; same = z.same }

  -- ---- the induction

  mutual
    unfolding normalize_int_expr normalize_terms normalize_bool_expr normalize_members normalize_var normalize_num normalize_comparison no_run

    pub int_kept : (e : IntExpr) → IntKeeps e
    int_kept (IConst c) = λ s n. record { kept = kept_same OpenIf n; below = constant_each (λ k. k < next_int s) c; proper = constant_proper c }
    int_kept (IVar v) = var_keeps v
    int_kept (Linear ts) = λ s n. terms_kept ts (constant (pos 0)) s n (good_none s)
    int_kept (If i c t f) = λ s n. if_int OpenIf _ (If i c t f) s _
        (if_kept OpenIf ds i c t f (constant_expr t) (constant_expr f) (λ g. bool_kept c g) (λ s n. (int_kept t s n).kept) (λ s n. (int_kept f s n).kept)
        (same_constant t (λ s n. int_kept t s n) (int_twins t)) (same_constant f (λ s n. int_kept f s n) (int_twins f)) (λ h. h) (λ h. h) s n)

    pub terms_kept : (ts : Terms) → TermsKeep ts
    terms_kept tnil = λ l s n g. record { kept = kept_same OpenIf n; below = g.0; proper = g.1 }
    terms_kept (tmore k e ts) = term_keeps k e ts (int_kept e) (terms_kept ts)

    pub bool_kept : (e : BoolExpr) (g : Bool) → Keeps OpenIf (normalize_bool_expr ds e g)
    bool_kept (Const b) g = λ s n. kept_same OpenIf n
    bool_kept (Var v) g = λ s n. convert_bool_kept OpenIf v s n
    bool_kept (NVar k) g = λ s n. kept_same OpenIf n
    bool_kept (And ms) false = conj_kept OpenIf (normalize_members ds ms false) (members_kept ms false)
    bool_kept (And ms) true = disj_kept OpenIf (normalize_members ds ms true) (members_kept ms true)
    bool_kept (Or ms) false = disj_kept OpenIf (normalize_members ds ms false) (members_kept ms false)
    bool_kept (Or ms) true = conj_kept OpenIf (normalize_members ds ms true) (members_kept ms true)
    bool_kept (Not e) g = bool_kept e (not g)
    bool_kept (Xor a b) false = cross_kept OpenIf _ _ (two_kept OpenIf _ _ (bool_kept a false) (bool_kept b false)) (two_kept OpenIf _ _ (bool_kept a true) (bool_kept b true))
    bool_kept (Xor a b) true = cross_kept OpenIf _ _ (two_kept OpenIf _ _ (bool_kept a false) (bool_kept b true)) (two_kept OpenIf _ _ (bool_kept a true) (bool_kept b false))
    bool_kept (Iff a b) false = cross_kept OpenIf _ _ (two_kept OpenIf _ _ (bool_kept a false) (bool_kept b true)) (two_kept OpenIf _ _ (bool_kept a true) (bool_kept b false))
    bool_kept (Iff a b) true = cross_kept OpenIf _ _ (two_kept OpenIf _ _ (bool_kept a false) (bool_kept b false)) (two_kept OpenIf _ _ (bool_kept a true) (bool_kept b true))
    bool_kept (Imp a b) false = disj_kept OpenIf _ (two_kept OpenIf _ _ (bool_kept a true) (bool_kept b false))
    bool_kept (Imp a b) true = conj_kept OpenIf _ (two_kept OpenIf _ _ (bool_kept a false) (bool_kept b true))
    bool_kept (Cmp o a b) g = λ s n. let x = (int_kept a s n).kept in kept_then OpenIf x (int_kept b _ x.named).kept

    pub members_kept : (ms : Members) (g : Bool) → Keeps OpenIf (normalize_members ds ms g)
    members_kept mnil g = λ s n. kept_same OpenIf n
    members_kept (more e ms) g = then_kept OpenIf _ _ (bool_kept e g) (members_kept ms g)

    int_twins : (e : IntExpr) → Twins e
    int_twins (IConst c) = λ s s' u u' n n' k k' ι κ a. record { turn = ι; turned = turned_none s u ι; same = refl }
    int_twins (IVar v) = var_twins v
    int_twins (Linear ts) = λ s s' u u' n n' k k' ι κ a. terms_twins ts (constant (pos 0)) (constant (pos 0)) s s' u u' n n' (good_none s) (good_none s') k k' ι κ a refl
    int_twins (If i c t f) = λ s s' u u' n n' k k' ι κ a.
        let p = if_kept OpenIf ds i c t f (constant_expr t) (constant_expr f) (λ g. bool_kept c g) (λ s n. (int_kept t s n).kept) (λ s n. (int_kept f s n).kept) (same_constant t (λ s n. int_kept t s n) (int_twins t)) (same_constant f (λ s n. int_kept f s n) (int_twins f)) (λ h. h) (λ h. h) in
        if_twin (constant_expr t && constant_expr f) (If i c t f) s u s' u' _ _ (p s n) (p s' n') k k' ι κ a

    terms_twins : (ts : Terms) → TermsTwins ts
    terms_twins tnil = λ l l' s s' u u' n n' g g' k k' ι κ a q. record { turn = ι; turned = turned_none s u ι; same = q }
    terms_twins (tmore k e ts) = term_twins k e ts (int_kept e) (terms_kept ts) (int_twins e) (terms_twins ts)

  -- ---- a property of the expression, not of the log

  pub constant_same : (e : IntExpr) (s : Log) → Named s → is_constant (normalize_int_expr ds e s).0 ≡ constant_expr e
  constant_same e s n = same_constant e (int_kept e) (int_twins e) s n

  -- whether both branches of an If are constant
  abbrev pub branches : IntExpr → IntExpr → Log → Bool
  branches t f s = is_constant (normalize_int_expr ds t s).0 && is_constant (normalize_int_expr ds f (normalize_int_expr ds t s).1).0

  pub branches_are : (t f : IntExpr) (s : Log) → Named s → branches t f s ≡ constant_expr t && constant_expr f
  branches_are t f s n = rw (constant_same t s n, constant_same f (normalize_int_expr ds t s).1 (int_kept t s n).kept.named) refl

  pub branches_same : (t f : IntExpr) (s s' : Log) → Named s → Named s' → branches t f s ≡ branches t f s'
  branches_same t f s s' n n' = branches_are t f s n ∙ sym (branches_are t f s' n')

  -- and so is its value
  pub constant_value_same : (e : IntExpr) (s s' : Log) → Named s → Named s' → constant_expr e ≡ true → constant_of (normalize_int_expr ds e s).0 ≡ constant_of (normalize_int_expr ds e s').0
  constant_value_same e s s' n n' c =
      let a = normalize_int_expr ds e s in
      let b = normalize_int_expr ds e s' in
      let k = (int_kept e s n).kept.named in
      let k' = (int_kept e s' n').kept.named in
      let ι : IVal = λ m. pos 0 in
      let w = int_twins e s s' a.1 b.1 n n' (kept_same OpenIf k) (kept_same OpenIf k') ι ι (record { vars = λ v m m' h h'. refl; ifs = λ x m m' h h'. refl }) in
      sym (constant_steady w.turn a.0 (constant_same e s n ∙ c)) ∙ w.same ∙ constant_steady ι b.0 (constant_same e s' n' ∙ c)
