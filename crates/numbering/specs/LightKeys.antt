-- The Ifs of an expression within refusal 9 weigh no more than it allows, and so do their branches' forms: from the keys of the Ifs to their trees.
use Rattle.std.specs.Prelude.{◌≡◌, Bool, false, ◌||◌, List, ℕ, ◌+◌, ◌≤◌, max}
use Rattle.std.proofs.Math.Dec.{ltb}
use Rattle.laws.specs.Bools.{or_no_l, or_no_r}
use Rattle.syntax.specs.Words.{max_weight}
use Rattle.syntax.specs.Syntax.{Domain, IntExpr, IConst, IVar, Linear, If, Terms, tnil, tmore, BoolExpr, Const, Var, NVar, And, Or, Not, Xor, Iff, Imp, Cmp, Members, mnil, more}
use Rattle.limits.specs.Limits.{any_comparison, any_comparison_members, any_inside, any_inside_terms, weight, heavy, heavy_terms, heavy_comparison}
use Rattle.walks.specs.Tree.{Place, Tree, IntTree, Splitting, never, below, here, inner, resolve, resolve_int}
use Rattle.walks.specs.Form.{form, int_form}
use Rattle.walks.specs.Resolve.{rule_trees, pair_trees}
use Rattle.walks.specs.Keys.{Key, keys, keys_members, keys_int, keys_terms, Every, every_none, every_more, every_append, Makes, ChoicesAll, ChoicesInt, int_choices}
use Rattle.walks.specs.KeyAt.{rule_choices, pair_choices}
use Rattle.walks.specs.Totals.{weight_of, Light}
use Rattle.walks.specs.SumsFit.{form_light, Within, WithinSides, WithinColumn}

-- ds: the declared domains
module _ (ds : List Domain) where
  -- an If as it is written
  abbrev LightKey : Key → Type 0
  LightKey x = heavy ds x.written ≡ false

  -- an If of a tree
  abbrev pub LightChoice : Place → IntExpr → Tree → Tree → IntTree → IntTree → Type 0
  LightChoice p e c d t f = (max 1 (max (weight_of ds (int_form t)) (weight_of ds (int_form f))) ≤ max_weight) × Light ds (int_form t) × Light ds (int_form f)

  light_made : Makes LightChoice LightKey
  unfolding resolve form weight_of Light
  light_made i c t f m at n h = form_light ds (If i c t f) m at n h

  abbrev H : BoolExpr → Bool
  H e = any_comparison (heavy_comparison ds) (λ x. false) e

  abbrev HI : IntExpr → Bool
  HI e = any_inside (heavy_comparison ds) (λ x. false) e

  heavy_left : (a b : IntExpr) → heavy_comparison ds a b ≡ false → heavy ds a ≡ false
  unfolding heavy_comparison
  heavy_left a b h = or_no_l (heavy ds a) (heavy ds b || ltb max_weight (weight ds a + weight ds b)) h

  heavy_right : (a b : IntExpr) → heavy_comparison ds a b ≡ false → heavy ds b ≡ false
  unfolding heavy_comparison
  heavy_right a b h = or_no_l (heavy ds b) (ltb max_weight (weight ds a + weight ds b)) (or_no_r (heavy ds a) (heavy ds b || ltb max_weight (weight ds a + weight ds b)) h)

  mutual
    unfolding keys any_comparison heavy

    keys_light : (e : BoolExpr) (m : Splitting) (at n : ℕ) → H e ≡ false → Every LightKey (keys e m at n)
    keys_light (Const b) m at n h = every_none
    keys_light (Var v) m at n h = every_none
    keys_light (NVar v) m at n h = every_none
    keys_light (And ms) m at n h = members_light ms m _ n h
    keys_light (Or ms) m at n h = members_light ms m _ n h
    keys_light (Not e) m at n h = keys_light e m _ n h
    keys_light (Xor a b) m at n h = every_append (keys_light a (inner m) _ _ (or_no_l (H a) (H b) h)) (keys_light b (inner m) _ _ (or_no_r (H a) (H b) h))
    keys_light (Iff a b) m at n h = every_append (keys_light a (inner m) _ _ (or_no_l (H a) (H b) h)) (keys_light b (inner m) _ _ (or_no_r (H a) (H b) h))
    keys_light (Imp a b) m at n h = every_append (keys_light a m _ _ (or_no_l (H a) (H b) h)) (keys_light b m _ _ (or_no_r (H a) (H b) h))
    keys_light (Cmp o a b) m at n h =
        let x = or_no_l (heavy_comparison ds a b) (HI a || HI b) h in
        let y = or_no_r (heavy_comparison ds a b) (HI a || HI b) h in
        every_append (int_light a (inner m) _ _ (heavy_left a b x) (or_no_l (HI a) (HI b) y)) (int_light b (inner m) _ _ (heavy_right a b x) (or_no_r (HI a) (HI b) y))

    members_light : (ms : Members) (m : Splitting) (at n : ℕ) → any_comparison_members (heavy_comparison ds) (λ x. false) ms ≡ false → Every LightKey (keys_members ms m at n)
    members_light mnil m at n h = every_none
    members_light (more e ms) m at n h =
        let r = any_comparison_members (heavy_comparison ds) (λ x. false) ms in
        every_append (keys_light e m _ _ (or_no_l (H e) r h)) (members_light ms m _ _ (or_no_r (H e) r h))

    int_light : (e : IntExpr) (m : Splitting) (at n : ℕ) → heavy ds e ≡ false → HI e ≡ false → Every LightKey (keys_int e m at n)
    int_light (IConst c) m at n l h = every_none
    int_light (IVar v) m at n l h = every_none
    int_light (Linear ts) m at n l h = terms_light ts m _ n (or_no_r (ltb max_weight (weight ds (Linear ts))) (heavy_terms ds ts) l) h
    int_light (If i c t f) m at n l h =
        let x = or_no_r (ltb max_weight (weight ds (If i c t f))) (heavy ds t || heavy ds f) l in
        let y = or_no_r (H c) (HI t || HI f) h in
        every_more l (every_append (keys_light c m _ _ (or_no_l (H c) (HI t || HI f) h))
        (every_append (int_light t m _ _ (or_no_l (heavy ds t) (heavy ds f) x) (or_no_l (HI t) (HI f) y)) (int_light f m _ _ (or_no_r (heavy ds t) (heavy ds f) x) (or_no_r (HI t) (HI f) y))))

    terms_light : (ts : Terms) (m : Splitting) (at n : ℕ) → heavy_terms ds ts ≡ false → any_inside_terms (heavy_comparison ds) (λ x. false) ts ≡ false → Every LightKey (keys_terms ts m at n)
    terms_light tnil m at n l h = every_none
    terms_light (tmore k e ts) m at n l h =
        let r = any_inside_terms (heavy_comparison ds) (λ x. false) ts in
        every_append (int_light e m _ _ (or_no_l (heavy ds e) (heavy_terms ds ts) l) (or_no_l (HI e) r h)) (terms_light ts m _ _ (or_no_r (heavy ds e) (heavy_terms ds ts) l) (or_no_r (HI e) r h))

  -- ---- the Ifs of a rule, a pair, a column

  pub rule_branches : (e : BoolExpr) (at n : ℕ) → Within ds e → ChoicesAll LightChoice (rule_trees e at n)
  rule_branches e at n h = rule_choices LightChoice LightKey light_made e at n (keys_light e below at n h.light)

  pub pair_branches : (a b : IntExpr) (p q n : ℕ) → WithinSides ds a b → ChoicesAll LightChoice (pair_trees a b p q n)
  pair_branches a b p q n h =
      pair_choices LightChoice LightKey light_made a b p q n (every_append (int_light a here p n (heavy_left a b h.light) h.left.light) (int_light b here q _ (heavy_right a b h.light) h.right.light))

  pub column_branches : (e : IntExpr) (at n : ℕ) → WithinColumn ds e → ChoicesInt LightChoice (resolve_int e never at n)
  column_branches e at n h = int_choices LightChoice LightKey light_made e never at n (int_light e never at n h.light h.inside.light)
