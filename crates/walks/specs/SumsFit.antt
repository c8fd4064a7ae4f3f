-- Of an expression within refusals 9 and 10, every sum that the walks compute of its form fits, for every work slice and all counters:
-- its comparisons' and its Ifs' branches', wherever they stand, conditions and tied sides included.
use Rattle.std.specs.Prelude.{◌≡◌, refl, Bool, not, ◌||◌, ℕ, suc, ◌+◌, ◌≤◌, ℤ, length}
use Rattle.std.proofs.Math.Bool.{true, false}
use mathlib.Core.List.{List, [], ◌∷◌, ◌++◌}
use Rattle.std.proofs.Common.{arith}
use Rattle.std.proofs.Math.Dec.{ltb}
use borrow.Author.Tests.{ltb-false}
use Rattle.laws.specs.Bools.{or_no_l, or_no_r}
use Rattle.laws.specs.Lists.{any, different}
use Rattle.syntax.specs.Words.{max_weight, max_comparison_vars, max_column_vars}
use Rattle.syntax.specs.Syntax.{IfIsRead, Domain, CmpOp, Ne, IntExpr, IConst, IVar, Linear, If, Terms, tnil, tmore, BoolExpr, Const, Var, NVar, And, Or, Not, Xor, Iff, Imp, Cmp, Members, mnil, more, encode_int, encode_bool, Cell, Rule, Table, AllDifferent}
use Rattle.limits.specs.Limits.{any_pair, any_part, heavy_stmt, many_stmt, any_comparison, any_comparison_members, any_inside, any_inside_terms, weight, terms_weight, heavy, heavy_terms, heavy_comparison, written, written_terms, ifs, ifs_terms, many_comparison, many_column}
use Rattle.sums.specs.Rising.{terms_of}
use Rattle.sums.specs.Bounds.{size}
use Rattle.sums.proofs.BoundsLaws.{heavy_weight}
use Rattle.clauses.specs.Clause.{negate_if}
use Rattle.walk.specs.declared.Counters.{Counters}
use Rattle.walks.specs.Tree.{Tree, cmp as tree-cmp, Trees, nil as no-trees, cons as more-trees, append, joined, pair, Splitting, never, below, here, inner, own_splits, splits, splits_int, crossed_at, resolve, resolves, resolve_int, resolve_terms, tie, sides_tied, ties, ties_members, ties_int, ties_terms}
use Rattle.walks.specs.Resolve.{rule_trees, pair_trees}
use Rattle.walks.specs.Form.{Form, var, num, cmp, conj, disj, cross, tied, Forms, nil, cons, IntForm, const, ivar, sum, choice, TermForms, none as no_terms, term, form, forms, int_form, term_forms}
use Rattle.walks.specs.Item.{int_item}
use Rattle.walks.specs.Totals.{vars, term_vars, choices, term_choices, weight_of, term_weights, Light, LightTerms, total_size, total_few, ComparisonFits, comparison_fits, EquationFits, equation_fits}

-- ---- the form counts as the expression does

mutual
  unfolding resolve form vars written

  form_vars : (e : IntExpr) (m : Splitting) (at n : ℕ) → vars (int_form (resolve_int e m at n)) ≡ written e
  form_vars (IConst c) m at n = refl
  form_vars (IVar v) m at n = refl
  form_vars (Linear ts) m at n = form_term_vars ts m (at + 2) n
  form_vars (If i c t f) m at n =
      rw (form_vars t m (at + 1 + length (encode_bool c)) (n + splits c m), form_vars f m (at + 1 + length (encode_bool c) + length (encode_int t)) (n + splits c m + splits_int t m)) refl

  form_term_vars : (ts : Terms) (m : Splitting) (at n : ℕ) → term_vars (term_forms (resolve_terms ts m at n)) ≡ written_terms ts
  form_term_vars tnil m at n = refl
  form_term_vars (tmore k e ts) m at n = rw (form_vars e m (at + 1) n, form_term_vars ts m (at + 1 + length (encode_int e)) (n + splits_int e m)) refl

mutual
  unfolding resolve form choices ifs

  form_choices : (e : IntExpr) (m : Splitting) (at n : ℕ) → choices (int_form (resolve_int e m at n)) ≡ ifs e
  form_choices (IConst c) m at n = refl
  form_choices (IVar v) m at n = refl
  form_choices (Linear ts) m at n = form_term_choices ts m (at + 2) n
  form_choices (If i c t f) m at n =
      rw (form_choices t m (at + 1 + length (encode_bool c)) (n + splits c m), form_choices f m (at + 1 + length (encode_bool c) + length (encode_int t)) (n + splits c m + splits_int t m)) refl

  form_term_choices : (ts : Terms) (m : Splitting) (at n : ℕ) → term_choices (term_forms (resolve_terms ts m at n)) ≡ ifs_terms ts
  form_term_choices tnil m at n = refl
  form_term_choices (tmore k e ts) m at n = rw (form_choices e m (at + 1) n, form_term_choices ts m (at + 1 + length (encode_int e)) (n + splits_int e m)) refl

at_most : (a b c : ℕ) → a ≡ b → b ≤ c → a ≤ c
at_most a b c e h = omega arith

module _ (ds : List Domain) where
  mutual
    unfolding resolve form weight_of weight

    pub form_weight : (e : IntExpr) (m : Splitting) (at n : ℕ) → weight_of ds (int_form (resolve_int e m at n)) ≡ weight ds e
    form_weight (IConst c) m at n = refl
    form_weight (IVar v) m at n = refl
    form_weight (Linear ts) m at n = form_term_weights ts m (at + 2) n
    form_weight (If i c t f) m at n =
        rw (form_weight t m (at + 1 + length (encode_bool c)) (n + splits c m), form_weight f m (at + 1 + length (encode_bool c) + length (encode_int t)) (n + splits c m + splits_int t m)) refl

    form_term_weights : (ts : Terms) (m : Splitting) (at n : ℕ) → term_weights ds (term_forms (resolve_terms ts m at n)) ≡ terms_weight ds ts
    form_term_weights tnil m at n = refl
    form_term_weights (tmore k e ts) m at n = rw (form_weight e m (at + 1) n, form_term_weights ts m (at + 1 + length (encode_int e)) (n + splits_int e m)) refl

  within_weight : (e : IntExpr) (m : Splitting) (at n : ℕ) → heavy ds e ≡ false → weight_of ds (int_form (resolve_int e m at n)) ≤ max_weight
  within_weight e m at n h = at_most (weight_of ds (int_form (resolve_int e m at n))) (weight ds e) max_weight (form_weight e m at n) (heavy_weight ds e h)

  -- the parts of what is light
  light_terms : (ts : Terms) → heavy ds (Linear ts) ≡ false → heavy_terms ds ts ≡ false
  unfolding heavy
  light_terms ts h = or_no_r (ltb max_weight (weight ds (Linear ts))) (heavy_terms ds ts) h

  light_term : (k : ℤ) (e : IntExpr) (ts : Terms) → heavy_terms ds (tmore k e ts) ≡ false → heavy ds e ≡ false
  unfolding heavy
  light_term k e ts h = or_no_l (heavy ds e) (heavy_terms ds ts) h

  light_rest : (k : ℤ) (e : IntExpr) (ts : Terms) → heavy_terms ds (tmore k e ts) ≡ false → heavy_terms ds ts ≡ false
  unfolding heavy
  light_rest k e ts h = or_no_r (heavy ds e) (heavy_terms ds ts) h

  light_first : (i : IfIsRead) (c : BoolExpr) (t f : IntExpr) → heavy ds (If i c t f) ≡ false → heavy ds t ≡ false
  unfolding heavy
  light_first i c t f h = or_no_l (heavy ds t) (heavy ds f) (or_no_r (ltb max_weight (weight ds (If i c t f))) (heavy ds t || heavy ds f) h)

  light_second : (i : IfIsRead) (c : BoolExpr) (t f : IntExpr) → heavy ds (If i c t f) ≡ false → heavy ds f ≡ false
  unfolding heavy
  light_second i c t f h = or_no_r (heavy ds t) (heavy ds f) (or_no_r (ltb max_weight (weight ds (If i c t f))) (heavy ds t || heavy ds f) h)

  mutual
    unfolding resolve form Light

    pub form_light : (e : IntExpr) (m : Splitting) (at n : ℕ) → heavy ds e ≡ false → Light ds (int_form (resolve_int e m at n))
    form_light (IConst c) m at n h = within_weight (IConst c) m at n h
    form_light (IVar v) m at n h = within_weight (IVar v) m at n h
    form_light (Linear ts) m at n h = (within_weight (Linear ts) m at n h, form_terms_light ts m (at + 2) n (light_terms ts h))
    form_light (If i c t f) m at n h = (
      within_weight (If i c t f) m at n h,
      form_light t m (at + 1 + length (encode_bool c)) (n + splits c m) (light_first i c t f h),
      form_light f m (at + 1 + length (encode_bool c) + length (encode_int t)) (n + splits c m + splits_int t m) (light_second i c t f h),
    )

    form_terms_light : (ts : Terms) (m : Splitting) (at n : ℕ) → heavy_terms ds ts ≡ false → LightTerms ds (term_forms (resolve_terms ts m at n))
    form_terms_light tnil m at n h = tt
    form_terms_light (tmore k e ts) m at n h = (form_light e m (at + 1) n (light_term k e ts h), form_terms_light ts m (at + 1 + length (encode_int e)) (n + splits_int e m) (light_rest k e ts h))

  -- ---- size and number of terms

  pub expression_size : (w : List ℤ) (k : Counters) (e : IntExpr) (m : Splitting) (at n : ℕ) → size ((int_item ds (resolve_int e m at n)).total w k) ≤ weight ds e
  expression_size w k e m at n = rw (← form_weight e m at n) (total_size ds w (int_form (resolve_int e m at n)) k)

  pub expression_few : (w : List ℤ) (k : Counters) (e : IntExpr) (m : Splitting) (at n : ℕ) → length (terms_of ((int_item ds (resolve_int e m at n)).total w k)) ≤ different (written e) + ifs e
  expression_few w k e m at n = rw (← form_vars e m at n, ← form_choices e m at n) (total_few ds w (int_form (resolve_int e m at n)) k)

  -- ---- a comparison; a column or a branch

  few_compared : (a b : IntExpr) → many_comparison a b ≡ false → different (written a ++ written b) + (ifs a + ifs b) ≤ 64
  unfolding many_comparison
  few_compared a b h = ltb-false max_comparison_vars (different (written a ++ written b) + (ifs a + ifs b)) h

  few_in_one : (e : IntExpr) → many_column e ≡ false → different (written e) + ifs e ≤ 63
  unfolding many_column
  few_in_one e h = ltb-false max_column_vars (different (written e) + ifs e) h

  heavy_left : (a b : IntExpr) → heavy_comparison ds a b ≡ false → heavy ds a ≡ false
  unfolding heavy_comparison
  heavy_left a b h = or_no_l (heavy ds a) (heavy ds b || ltb max_weight (weight ds a + weight ds b)) h

  heavy_right : (a b : IntExpr) → heavy_comparison ds a b ≡ false → heavy ds b ≡ false
  unfolding heavy_comparison
  heavy_right a b h = or_no_l (heavy ds b) (ltb max_weight (weight ds a + weight ds b)) (or_no_r (heavy ds a) (heavy ds b || ltb max_weight (weight ds a + weight ds b)) h)

  -- each side at its own place
  pub comparison_form_fits : (w : List ℤ) (k : Counters) (a b : IntExpr) (m m' : Splitting) (at n at' n' : ℕ) → heavy_comparison ds a b ≡ false → many_comparison a b ≡ false
      → ComparisonFits ds w (int_form (resolve_int a m at n)) (int_form (resolve_int b m' at' n')) k
  unfolding heavy_comparison
  comparison_form_fits w k a b m m' at n at' n' h g =
      let r = or_no_r (heavy ds a) (heavy ds b || ltb max_weight (weight ds a + weight ds b)) h in
      let x = int_form (resolve_int a m at n) in
      let y = int_form (resolve_int b m' at' n') in
      comparison_fits ds w x y k
      (form_light a m at n (heavy_left a b h))
      (form_light b m' at' n' (heavy_right a b h))
      (rw (form_weight a m at n, form_weight b m' at' n') (ltb-false max_weight (weight ds a + weight ds b) (or_no_r (heavy ds b) (ltb max_weight (weight ds a + weight ds b)) r)))
      (rw (form_vars a m at n, form_vars b m' at' n', form_choices a m at n, form_choices b m' at' n') (few_compared a b g))

  pub equation_form_fits : (w : List ℤ) (k : Counters) (v : ℕ) (e : IntExpr) (m : Splitting) (at n : ℕ) → heavy ds e ≡ false → many_column e ≡ false → EquationFits ds w (int_form (resolve_int e m at n)) k v
  equation_form_fits w k v e m at n h g = equation_fits ds w (int_form (resolve_int e m at n)) k v (form_light e m at n h) (rw (form_vars e m at n, form_choices e m at n) (few_in_one e g))

  -- ---- all that a tree computes

  abbrev pub AlwaysCompared : IntForm → IntForm → Type 0
  AlwaysCompared a b = (w : List ℤ) (k : Counters) → ComparisonFits ds w a b k

  -- a branch less its If's number, a column less its new variable
  abbrev pub AlwaysEquated : IntForm → Type 0
  AlwaysEquated e = (w : List ℤ) (k : Counters) (v : ℕ) → EquationFits ds w e k v

  unfoldable mutual
    pub FormFits : Form → Type 0
    FormFits (var v g) = Unit {0}
    FormFits (num n g) = Unit {0}
    FormFits (cmp o a b g) = AlwaysCompared a b × InsideFits a × InsideFits b
    FormFits (conj ts) = FormsFit ts
    FormFits (disj ts) = FormsFit ts
    FormFits (cross ts us) = FormsFit ts × FormsFit us
    FormFits (tied v t u) = FormFits t × FormFits u

    pub FormsFit : Forms → Type 0
    FormsFit nil = Unit {0}
    FormsFit (cons t ts) = FormFits t × FormsFit ts

    -- the Ifs inside an integer form
    pub InsideFits : IntForm → Type 0
    InsideFits (const c) = Unit {0}
    InsideFits (ivar v) = Unit {0}
    InsideFits (sum ts) = TermsFit ts
    InsideFits (choice p o c d t f) = FormFits c × FormFits d × AlwaysEquated t × AlwaysEquated f × InsideFits t × InsideFits f

    pub TermsFit : TermForms → Type 0
    TermsFit no_terms = Unit {0}
    TermsFit (term k e ts) = InsideFits e × TermsFit ts

  -- what refusals 9 and 10 test of a rule, and of what stands inside an integer expression
  pub record Within (e : BoolExpr) : Type 0 where
    pub light : any_comparison (heavy_comparison ds) (λ x. false) e ≡ false
    pub few : any_comparison many_comparison many_column e ≡ false

  pub record WithinMembers (ms : Members) : Type 0 where
    pub light : any_comparison_members (heavy_comparison ds) (λ x. false) ms ≡ false
    pub few : any_comparison_members many_comparison many_column ms ≡ false

  pub record WithinInt (e : IntExpr) : Type 0 where
    pub light : any_inside (heavy_comparison ds) (λ x. false) e ≡ false
    pub few : any_inside many_comparison many_column e ≡ false

  pub record WithinTerms (ts : Terms) : Type 0 where
    pub light : any_inside_terms (heavy_comparison ds) (λ x. false) ts ≡ false
    pub few : any_inside_terms many_comparison many_column ts ≡ false

  abbrev H : BoolExpr → Bool
  H e = any_comparison (heavy_comparison ds) (λ x. false) e

  abbrev M : BoolExpr → Bool
  M e = any_comparison many_comparison many_column e

  abbrev HI : IntExpr → Bool
  HI e = any_inside (heavy_comparison ds) (λ x. false) e

  abbrev MI : IntExpr → Bool
  MI e = any_inside many_comparison many_column e

  -- of two parts
  left_within : (a b : BoolExpr) → H a || H b ≡ false → M a || M b ≡ false → Within a
  left_within a b h g = record { light = or_no_l (H a) (H b) h; few = or_no_l (M a) (M b) g }

  right_within : (a b : BoolExpr) → H a || H b ≡ false → M a || M b ≡ false → Within b
  right_within a b h g = record { light = or_no_r (H a) (H b) h; few = or_no_r (M a) (M b) g }

  first_within : (e : BoolExpr) (ms : Members) → WithinMembers (more e ms) → Within e
  unfolding any_comparison
  first_within e ms h = record {
    light = or_no_l (H e) (any_comparison_members (heavy_comparison ds) (λ x. false) ms) h.light;
    few = or_no_l (M e) (any_comparison_members many_comparison many_column ms) h.few;
  }

  rest_within : (e : BoolExpr) (ms : Members) → WithinMembers (more e ms) → WithinMembers ms
  unfolding any_comparison
  rest_within e ms h = record {
    light = or_no_r (H e) (any_comparison_members (heavy_comparison ds) (λ x. false) ms) h.light;
    few = or_no_r (M e) (any_comparison_members many_comparison many_column ms) h.few;
  }

  first_term_within : (k : ℤ) (e : IntExpr) (ts : Terms) → WithinTerms (tmore k e ts) → WithinInt e
  unfolding any_comparison
  first_term_within k e ts h = record {
    light = or_no_l (HI e) (any_inside_terms (heavy_comparison ds) (λ x. false) ts) h.light;
    few = or_no_l (MI e) (any_inside_terms many_comparison many_column ts) h.few;
  }

  rest_terms_within : (k : ℤ) (e : IntExpr) (ts : Terms) → WithinTerms (tmore k e ts) → WithinTerms ts
  unfolding any_comparison
  rest_terms_within k e ts h = record {
    light = or_no_r (HI e) (any_inside_terms (heavy_comparison ds) (λ x. false) ts) h.light;
    few = or_no_r (MI e) (any_inside_terms many_comparison many_column ts) h.few;
  }

  -- of a comparison
  pub record WithinSides (a b : IntExpr) : Type 0 where
    pub light : heavy_comparison ds a b ≡ false
    pub few : many_comparison a b ≡ false
    pub left : WithinInt a
    pub right : WithinInt b

  sides_within : (o : CmpOp) (a b : IntExpr) → Within (Cmp o a b) → WithinSides a b
  unfolding any_comparison
  sides_within o a b h =
      let x = or_no_r (heavy_comparison ds a b) (HI a || HI b) h.light in
      let y = or_no_r (many_comparison a b) (MI a || MI b) h.few in
      record {
        light = or_no_l (heavy_comparison ds a b) (HI a || HI b) h.light;
        few = or_no_l (many_comparison a b) (MI a || MI b) h.few;
        left = record { light = or_no_l (HI a) (HI b) x; few = or_no_l (MI a) (MI b) y };
        right = record { light = or_no_r (HI a) (HI b) x; few = or_no_r (MI a) (MI b) y };
      }

  -- of an If
  record WithinIf (c : BoolExpr) (t f : IntExpr) : Type 0 where
    cond : Within c
    first : many_column t ≡ false
    second : many_column f ≡ false
    left : WithinInt t
    right : WithinInt f

  if_within : (i : IfIsRead) (c : BoolExpr) (t f : IntExpr) → WithinInt (If i c t f) → WithinIf c t f
  unfolding any_comparison
  if_within i c t f h =
      let x = or_no_r (H c) (HI t || HI f) h.light in
      let y = or_no_r (M c) ((many_column t || MI t) || (many_column f || MI f)) h.few in
      let p = or_no_l (many_column t || MI t) (many_column f || MI f) y in
      let q = or_no_r (many_column t || MI t) (many_column f || MI f) y in
      record {
        cond = record { light = or_no_l (H c) (HI t || HI f) h.light; few = or_no_l (M c) ((many_column t || MI t) || (many_column f || MI f)) h.few };
        first = or_no_l (many_column t) (MI t) p;
        second = or_no_l (many_column f) (MI f) q;
        left = record { light = or_no_l (HI t) (HI f) x; few = or_no_r (many_column t) (MI t) p };
        right = record { light = or_no_r (HI t) (HI f) x; few = or_no_r (many_column f) (MI f) q };
      }

  -- ---- trees joined and crossed

  joined_fits : (d : Bool) (ts : Trees) → FormsFit (forms ts) → FormFits (form (joined d ts))
  unfolding form FormFits
  joined_fits false ts h = h
  joined_fits true ts h = h

  cross_fits : (m : Splitting) (n : ℕ) (a b : Bool → Tree) → ((h : Bool) → FormFits (form (a h))) → ((h : Bool) → FormFits (form (b h))) → (h : Bool) → FormFits (form (crossed_at m n a b h))
  unfolding form FormFits
  cross_fits never n a b f g h = ((f false, (g h, tt)), (f true, (g (not h), tt)))
  cross_fits below n a b f g h = ((f false, (g h, tt)), (f true, (g (not h), tt)))
  cross_fits here n a b f g h = ((tt, (tt, tt)), (tt, (tt, tt)))

  mutual
    unfolding resolve form FormFits any_comparison

    pub bool_fits : (e : BoolExpr) (m : Splitting) (at n : ℕ) (g : Bool) → Within e → FormFits (form (resolve e m at n g))
    bool_fits (Const b) m at n g h = joined_fits (not (negate_if g b)) no-trees tt
    bool_fits (Var v) m at n g h = tt
    bool_fits (NVar v) m at n g h = tt
    bool_fits (And ms) m at n g h = joined_fits g (resolves ms m (at + 2) n g) (members_fit ms m (at + 2) n g (record { light = h.light; few = h.few }))
    bool_fits (Or ms) m at n g h = joined_fits (not g) (resolves ms m (at + 2) n g) (members_fit ms m (at + 2) n g (record { light = h.light; few = h.few }))
    bool_fits (Not e) m at n g h = bool_fits e m (at + 1) n (not g) (record { light = h.light; few = h.few })
    bool_fits (Xor a b) m at n g h =
        let q = at + 1 + length (encode_bool a) in
        cross_fits m n (λ x. resolve a (inner m) (at + 1) n x) (λ x. resolve b (inner m) q (n + splits a (inner m)) x)
        (λ x. bool_fits a (inner m) (at + 1) n x (left_within a b h.light h.few)) (λ x. bool_fits b (inner m) q (n + splits a (inner m)) x (right_within a b h.light h.few)) g
    bool_fits (Iff a b) m at n g h =
        let q = at + 1 + length (encode_bool a) in
        cross_fits m n (λ x. resolve a (inner m) (at + 1) n x) (λ x. resolve b (inner m) q (n + splits a (inner m)) x)
        (λ x. bool_fits a (inner m) (at + 1) n x (left_within a b h.light h.few)) (λ x. bool_fits b (inner m) q (n + splits a (inner m)) x (right_within a b h.light h.few)) (not g)
    bool_fits (Imp a b) m at n g h =
        let q = at + 1 + length (encode_bool a) in
        joined_fits (not g) (pair (resolve a m (at + 1) n (not g)) (resolve b m q (n + splits a m) g))
        (bool_fits a m (at + 1) n (not g) (left_within a b h.light h.few), (bool_fits b m q (n + splits a m) g (right_within a b h.light h.few), tt))
    bool_fits (Cmp o a b) m at n g h =
        let s = sides_within o a b h in
        let q = at + 2 + length (encode_int a) in (
          λ w k. comparison_form_fits w k a b (inner m) (inner m) (at + 2) n q (n + splits_int a (inner m)) s.light s.few,
          inside_fits a (inner m) (at + 2) n (heavy_left a b s.light) s.left,
          inside_fits b (inner m) q (n + splits_int a (inner m)) (heavy_right a b s.light) s.right,
        )

    members_fit : (ms : Members) (m : Splitting) (at n : ℕ) (g : Bool) → WithinMembers ms → FormsFit (forms (resolves ms m at n g))
    members_fit mnil m at n g h = tt
    members_fit (more e ms) m at n g h = (bool_fits e m at n g (first_within e ms h), members_fit ms m (at + length (encode_bool e)) (n + splits e m) g (rest_within e ms h))

    pub inside_fits : (e : IntExpr) (m : Splitting) (at n : ℕ) → heavy ds e ≡ false → WithinInt e → InsideFits (int_form (resolve_int e m at n))
    inside_fits (IConst c) m at n l h = tt
    inside_fits (IVar v) m at n l h = tt
    inside_fits (Linear ts) m at n l h = terms_fit ts m (at + 2) n (light_terms ts l) (record { light = h.light; few = h.few })
    inside_fits (If i c t f) m at n l h =
        let s = if_within i c t f h in
        let p = at + 1 + length (encode_bool c) in
        let q = p + length (encode_int t) in
        let x = light_first i c t f l in
        let y = light_second i c t f l in (
          bool_fits c m (at + 1) n false s.cond,
          bool_fits c m (at + 1) n true s.cond,
          λ w k v. equation_form_fits w k v t m p (n + splits c m) x s.first,
          λ w k v. equation_form_fits w k v f m q (n + splits c m + splits_int t m) y s.second,
          inside_fits t m p (n + splits c m) x s.left,
          inside_fits f m q (n + splits c m + splits_int t m) y s.right,
        )

    terms_fit : (ts : Terms) (m : Splitting) (at n : ℕ) → heavy_terms ds ts ≡ false → WithinTerms ts → TermsFit (term_forms (resolve_terms ts m at n))
    terms_fit tnil m at n l h = tt
    terms_fit (tmore k e ts) m at n l h = (
      inside_fits e m (at + 1) n (light_term k e ts l) (first_term_within k e ts h),
      terms_fit ts m (at + 1 + length (encode_int e)) (n + splits_int e m) (light_rest k e ts l) (rest_terms_within k e ts h),
    )

  -- ---- the sides tied

  append_fits : (ts us : Trees) → FormsFit (forms ts) → FormsFit (forms us) → FormsFit (forms (append ts us))
  unfolding form FormFits
  append_fits no-trees us h k = k
  append_fits (more-trees t ts) us h k = (h.0, append_fits ts us h.1 k)

  one_fits : (t : Tree) → FormFits (form t) → FormsFit (forms (more-trees t no-trees))
  unfolding form FormFits
  one_fits t h = (h, tt)

  tie_fits : (v : ℕ) (e : BoolExpr) (at n : ℕ) → Within e → FormFits (form (tie v e at n))
  unfolding form FormFits
  tie_fits v e at n h = (bool_fits e here at n false h, bool_fits e here at n true h)

  sides_fit : (m : Splitting) (ts : Trees) (t : Tree) (us : Trees) (u : Tree) → FormsFit (forms ts) → FormFits (form t) → FormsFit (forms us) → FormFits (form u) → FormsFit (forms (sides_tied m ts t us u))
  sides_fit never ts t us u h x k y = append_fits ts us h k
  sides_fit below ts t us u h x k y = append_fits ts us h k
  sides_fit here ts t us u h x k y =
      append_fits (append ts (more-trees t no-trees)) (append us (more-trees u no-trees)) (append_fits ts (more-trees t no-trees) h (one_fits t x)) (append_fits us (more-trees u no-trees) k (one_fits u y))

  mutual
    unfolding ties form FormFits any_comparison

    pub ties_fit : (e : BoolExpr) (m : Splitting) (at n : ℕ) → Within e → FormsFit (forms (ties e m at n))
    ties_fit (Const b) m at n h = tt
    ties_fit (Var v) m at n h = tt
    ties_fit (NVar v) m at n h = tt
    ties_fit (And ms) m at n h = members_ties_fit ms m (at + 2) n (record { light = h.light; few = h.few })
    ties_fit (Or ms) m at n h = members_ties_fit ms m (at + 2) n (record { light = h.light; few = h.few })
    ties_fit (Not e) m at n h = ties_fit e m (at + 1) n (record { light = h.light; few = h.few })
    ties_fit (Xor a b) m at n h =
        let x = left_within a b h.light h.few in
        let y = right_within a b h.light h.few in
        let k = own_splits m + n in
        let l = k + splits a (inner m) in
        let q = at + 1 + length (encode_bool a) in
        sides_fit m (ties a (inner m) (at + 1) k) (tie n a (at + 1) k) (ties b (inner m) q l) (tie (suc n) b q l) (ties_fit a (inner m) (at + 1) k x) (tie_fits n a (at + 1) k x) (ties_fit b (inner m) q l y) (tie_fits (suc n) b q l y)
    ties_fit (Iff a b) m at n h =
        let x = left_within a b h.light h.few in
        let y = right_within a b h.light h.few in
        let k = own_splits m + n in
        let l = k + splits a (inner m) in
        let q = at + 1 + length (encode_bool a) in
        sides_fit m (ties a (inner m) (at + 1) k) (tie n a (at + 1) k) (ties b (inner m) q l) (tie (suc n) b q l) (ties_fit a (inner m) (at + 1) k x) (tie_fits n a (at + 1) k x) (ties_fit b (inner m) q l y) (tie_fits (suc n) b q l y)
    ties_fit (Imp a b) m at n h =
        let q = at + 1 + length (encode_bool a) in
        append_fits (ties a m (at + 1) n) (ties b m q (n + splits a m)) (ties_fit a m (at + 1) n (left_within a b h.light h.few)) (ties_fit b m q (n + splits a m) (right_within a b h.light h.few))
    ties_fit (Cmp o a b) m at n h =
        let s = sides_within o a b h in
        let q = at + 2 + length (encode_int a) in
        let k = n + splits_int a (inner m) in
        append_fits (ties_int a (inner m) (at + 2) n) (ties_int b (inner m) q k) (int_ties_fit a (inner m) (at + 2) n s.left) (int_ties_fit b (inner m) q k s.right)

    members_ties_fit : (ms : Members) (m : Splitting) (at n : ℕ) → WithinMembers ms → FormsFit (forms (ties_members ms m at n))
    members_ties_fit mnil m at n h = tt
    members_ties_fit (more e ms) m at n h =
        let q = at + length (encode_bool e) in
        append_fits (ties e m at n) (ties_members ms m q (n + splits e m)) (ties_fit e m at n (first_within e ms h)) (members_ties_fit ms m q (n + splits e m) (rest_within e ms h))

    pub int_ties_fit : (e : IntExpr) (m : Splitting) (at n : ℕ) → WithinInt e → FormsFit (forms (ties_int e m at n))
    int_ties_fit (IConst c) m at n h = tt
    int_ties_fit (IVar v) m at n h = tt
    int_ties_fit (Linear ts) m at n h = terms_ties_fit ts m (at + 2) n (record { light = h.light; few = h.few })
    int_ties_fit (If i c t f) m at n h =
        let s = if_within i c t f h in
        let p = at + 1 + length (encode_bool c) in
        let q = p + length (encode_int t) in
        let k = n + splits c m in
        append_fits (ties c m (at + 1) n) (append (ties_int t m p k) (ties_int f m q (k + splits_int t m))) (ties_fit c m (at + 1) n s.cond)
        (append_fits (ties_int t m p k) (ties_int f m q (k + splits_int t m)) (int_ties_fit t m p k s.left) (int_ties_fit f m q (k + splits_int t m) s.right))

    terms_ties_fit : (ts : Terms) (m : Splitting) (at n : ℕ) → WithinTerms ts → FormsFit (forms (ties_terms ts m at n))
    terms_ties_fit tnil m at n h = tt
    terms_ties_fit (tmore k e ts) m at n h =
        let q = at + 1 + length (encode_int e) in
        append_fits (ties_int e m (at + 1) n) (ties_terms ts m q (n + splits_int e m)) (int_ties_fit e m (at + 1) n (first_term_within k e ts h)) (terms_ties_fit ts m q (n + splits_int e m) (rest_terms_within k e ts h))

  -- ---- a rule, a pair, a column

  pub rule_fits : (e : BoolExpr) (at n : ℕ) → Within e → FormsFit (forms (rule_trees e at n))
  rule_fits e at n h = append_fits (ties e below at n) (more-trees (resolve e below at n false) no-trees) (ties_fit e below at n h) (one_fits (resolve e below at n false) (bool_fits e below at n false h))

  pub pair_fits : (a b : IntExpr) (p q n : ℕ) → WithinSides a b → FormsFit (forms (pair_trees a b p q n))
  unfolding form FormFits
  pair_fits a b p q n h =
      let k = n + splits_int a here in
      let t = tree-cmp Ne (resolve_int a here p n) (resolve_int b here q k) false in
      append_fits (append (ties_int a here p n) (ties_int b here q k)) (more-trees t no-trees) (append_fits (ties_int a here p n) (ties_int b here q k) (int_ties_fit a here p n h.left) (int_ties_fit b here q k h.right))
      (one_fits t (
        λ w c. comparison_form_fits w c a b here here p n q k h.light h.few,
        inside_fits a here p n (heavy_left a b h.light) h.left,
        inside_fits b here q k (heavy_right a b h.light) h.right,
      ))

  -- its sum less its new variable, and the Ifs inside
  pub column_fits : (e : IntExpr) (at n : ℕ) → heavy ds e ≡ false → many_column e ≡ false → WithinInt e → AlwaysEquated (int_form (resolve_int e never at n)) × InsideFits (int_form (resolve_int e never at n))
  column_fits e at n l f h = (λ w k v. equation_form_fits w k v e never at n l f, inside_fits e never at n l h)

  -- ---- what the refusals' tests of a statement leave

  pub rule_within : (e : BoolExpr) → heavy_stmt ds (Rule e) ≡ false → many_stmt (Rule e) ≡ false → Within e
  unfolding any_part
  rule_within e h g = record { light = h; few = g }

  pub record WithinColumn (e : IntExpr) : Type 0 where
    pub light : heavy ds e ≡ false
    pub few : many_column e ≡ false
    pub inside : WithinInt e

  unfoldable pub WithinColumns : List IntExpr → Type 0
  WithinColumns [] = Unit {0}
  WithinColumns (e ∷ es) = WithinColumn e × WithinColumns es

  columns_within : (es : List IntExpr) → any (λ e. heavy ds e || HI e) es ≡ false → any (λ e. many_column e || MI e) es ≡ false → WithinColumns es
  unfolding WithinColumns
  columns_within [] h g = tt
  columns_within (e ∷ es) h g =
      let x = or_no_l (heavy ds e || HI e) (any (λ e. heavy ds e || HI e) es) h in
      let y = or_no_l (many_column e || MI e) (any (λ e. many_column e || MI e) es) g in (
        record {
          light = or_no_l (heavy ds e) (HI e) x;
          few = or_no_l (many_column e) (MI e) y;
          inside = record { light = or_no_r (heavy ds e) (HI e) x; few = or_no_r (many_column e) (MI e) y };
        },
        columns_within es (or_no_r (heavy ds e || HI e) (any (λ e. heavy ds e || HI e) es) h) (or_no_r (many_column e || MI e) (any (λ e. many_column e || MI e) es) g),
      )

  pub table_within : (es : List IntExpr) (rows : List (List Cell)) → heavy_stmt ds (Table es rows) ≡ false → many_stmt (Table es rows) ≡ false → WithinColumns es
  unfolding any_part
  table_within es rows h g = columns_within es h g

  -- one expression with each later one
  unfoldable WithinInts : List IntExpr → Type 0
  WithinInts [] = Unit {0}
  WithinInts (e ∷ es) = WithinInt e × WithinInts es

  unfoldable pub WithinLater : IntExpr → List IntExpr → Type 0
  WithinLater e [] = Unit {0}
  WithinLater e (x ∷ xs) = WithinSides e x × WithinLater e xs

  unfoldable pub WithinPairs : List IntExpr → Type 0
  WithinPairs [] = Unit {0}
  WithinPairs (e ∷ es) = WithinLater e es × WithinPairs es

  ints_within : (es : List IntExpr) → any (λ e. heavy ds e || HI e) es ≡ false → any (λ e. MI e) es ≡ false → WithinInts es
  unfolding WithinInts
  ints_within [] h g = tt
  ints_within (e ∷ es) h g = (
    record { light = or_no_r (heavy ds e) (HI e) (or_no_l (heavy ds e || HI e) (any (λ e. heavy ds e || HI e) es) h); few = or_no_l (MI e) (any (λ e. MI e) es) g },
    ints_within es (or_no_r (heavy ds e || HI e) (any (λ e. heavy ds e || HI e) es) h) (or_no_r (MI e) (any (λ e. MI e) es) g),
  )

  later_within : (e : IntExpr) (es : List IntExpr) → WithinInt e → WithinInts es → any (heavy_comparison ds e) es ≡ false → any (many_comparison e) es ≡ false → WithinLater e es
  unfolding WithinInts WithinLater
  later_within e [] l r h g = tt
  later_within e (x ∷ xs) l r h g = (
    record { light = or_no_l (heavy_comparison ds e x) (any (heavy_comparison ds e) xs) h; few = or_no_l (many_comparison e x) (any (many_comparison e) xs) g; left = l; right = r.0 },
    later_within e xs l r.1 (or_no_r (heavy_comparison ds e x) (any (heavy_comparison ds e) xs) h) (or_no_r (many_comparison e x) (any (many_comparison e) xs) g),
  )

  pairs_within : (es : List IntExpr) → WithinInts es → any_pair (heavy_comparison ds) es ≡ false → any_pair many_comparison es ≡ false → WithinPairs es
  unfolding any_pair WithinInts WithinPairs
  pairs_within [] r h g = tt
  pairs_within (e ∷ es) r h g = (
    later_within e es r.0 r.1 (or_no_l (any (heavy_comparison ds e) es) (any_pair (heavy_comparison ds) es) h) (or_no_l (any (many_comparison e) es) (any_pair many_comparison es) g),
    pairs_within es r.1 (or_no_r (any (heavy_comparison ds e) es) (any_pair (heavy_comparison ds) es) h) (or_no_r (any (many_comparison e) es) (any_pair many_comparison es) g),
  )

  pub different_within : (es : List IntExpr) → heavy_stmt ds (AllDifferent es) ≡ false → many_stmt (AllDifferent es) ≡ false → WithinPairs es
  unfolding any_part
  different_within es h g =
      let x = any (λ e. heavy ds e || HI e) es in
      let y = any (λ e. MI e) es in
      pairs_within es (ints_within es (or_no_l x (any_pair (heavy_comparison ds) es) h) (or_no_l y (any_pair many_comparison es) g)) (or_no_r x (any_pair (heavy_comparison ds) es) h) (or_no_r y (any_pair many_comparison es) g)
