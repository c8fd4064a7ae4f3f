-- The second walk reads words below the table's place only: two work slices w and v with the same words there give an integer form the same counters, the
-- same sum and the same bounds. The form's variables are declared, and its Ifs stand among the folded words.
use Rattle.std.specs.Prelude.{◌≡◌, Bool, ◌||◌, List, [], ◌∷◌, ℕ, ◌+◌, ◌-◌, ◌≤◌, ◌<◌, ℤ, pos, get_or, eqb}
use Rattle.std.proofs.Math.Path.{refl, ap}
use Rattle.std.proofs.Common.{◌∙◌, arith}
use Rattle.std.proofs.Math.Bool.{true, false, not, cond}
use Rattle.std.proofs.Math.Option.{Option, none, some}
use Rattle.laws.specs.Ints.{is_zero}
use Rattle.memory.specs.Places.{folded_end, bool_map, int_map, cells, ifs_word, table}
use Rattle.memory.specs.Number.{nat}
use Rattle.syntax.specs.Syntax.{Domain, domain_of}
use Rattle.syntax.specs.Words.{max_bools, max_ints}
use Rattle.sums.specs.LinearSum.{LinearSum, constant, singleton, add_sum, mul_sum}
use Rattle.walk.specs.Item.{bump, bool_entry, int_entry, fresh}
use Rattle.walk.specs.declared.Counters.{Counters}
use Rattle.walks.specs.Tree.{Place}
use Rattle.walks.specs.Form.{Form, var, num, cmp, conj, disj, cross, tied, Forms, nil, cons, IntForm, const, ivar, sum, choice, TermForms, none as no_terms, term}
use Rattle.walks.specs.Item.{counters, has_ifs, more_bools, more_ints, meets_bool, meets_int, cell, seen_in, seen, known_in, constant_in, number_in, Item, IntItem, TermsItem, tallies, counts, var_item, num_item, cmp_item, conj_item, disj_item, cross_item, tied_item, equal_item, const_item, or_else, ivar_item, no_terms_item, term_item, sum_item, open_item, condition_item, constant_making, open_making, if_making, passed, if_behind, if_number, if_domain, choice_item, form_item, form_items, form_int_item, form_terms_item}
use Rattle.walks.specs.Near.{WithinForm, WithinForms, WithinInt, WithinTerms}

abbrev pub SameBelow : List ℤ → List ℤ → Type 0
SameBelow w v = (i : ℕ) → i < table → get_or v i (pos 0) ≡ get_or w i (pos 0)

module _ (w v : List ℤ) (same : SameBelow w v) where
  -- ---- words

  pub same_ifs : has_ifs v ≡ has_ifs w
  unfolding has_ifs
  same_ifs = ap (λ z. not (is_zero z)) (same ifs_word (omega arith))

  pub same_entry : (x : ℕ) → x < max_ints → int_entry v x ≡ int_entry w x
  unfolding int_entry
  same_entry x l = ap nat (same (int_map + x) (omega arith))

  same_bool : (x : ℕ) → x < max_bools → bool_entry v x ≡ bool_entry w x
  unfolding bool_entry
  same_bool x l = ap nat (same (bool_map + x) (omega arith))

  pub same_cell : (p : ℕ) → p ≤ folded_end + 3 → cell v p ≡ cell w p
  unfolding cell
  same_cell p l = same (cells + p) (omega arith)

  -- ---- counters

  pub more_same : (k : ℕ) (n : Counters) → more_ints v k n ≡ more_ints w k n
  more_same k n = ap (λ b. cond b (counters n.bools (bump n.ints k)) n) same_ifs

  meets_same : (x : ℕ) → x < max_bools → (n : Counters) → meets_bool v x n ≡ meets_bool w x n
  unfolding meets_bool
  meets_same x l n = ap (λ e. cond (eqb e (n.bools + 1)) (more_bools 1 n) n) (same_bool x l)

  meets_int_same : (x : ℕ) → x < max_ints → (n : Counters) → meets_int v x n ≡ meets_int w x n
  unfolding meets_int
  meets_int_same x l n = ap (λ e. cond (eqb e (n.ints + 1)) (more_ints v 1 n) n) (same_entry x l) ∙ ap (λ m. cond (eqb (int_entry w x) (n.ints + 1)) m n) (more_same 1 n)

  -- ---- items

  abbrev SameItem : Item → Type 0
  SameItem i = (n : Counters) → i.count v n ≡ i.count w n

  abbrev SameItems : List Item → Type 0
  SameItems is = (n : Counters) → counts is v n ≡ counts is w n

  pub record SameInt (e : IntItem) : Type 0 where
    pub behind : (n : Counters) → e.behind v n ≡ e.behind w n
    pub total : (n : Counters) → e.total v n ≡ e.total w n
    pub range : (n : Counters) (x : ℕ) → e.range v n x ≡ e.range w n x

  record SameTerms (ts : TermsItem) : Type 0 where
    pub behind : (n : Counters) → ts.behind v n ≡ ts.behind w n
    pub total : (n : Counters) (l : LinearSum) → ts.total v n l ≡ ts.total w n l
    pub range : (n : Counters) (x : ℕ) → ts.range v n x ≡ ts.range w n x

  -- one after another
  after : {A : Type 0} (f g : Counters → A) (a b : Counters) → ((n : Counters) → f n ≡ g n) → a ≡ b → f a ≡ g b
  after f g a b h e = ap f e ∙ h b

  cross_same : (is js : List Item) → SameItems is → SameItems js → SameItem (cross_item is js)
  unfolding cross_item
  cross_same is js i j n = ap (λ m. more_bools (fresh (tallies js)) (more_bools (fresh (tallies is)) m)) (after (counts js v) (counts js w) (counts is v n) (counts is w n) j (i n))

  -- ---- an If

  module _ (o : Option ℕ) (p : Place) (c d : Item) (t f : IntItem) (low : (x : ℕ) → o ≡ some x → x < max_bools) (near : p.at + 6 ≤ folded_end) (sc : SameItem c) (sd : SameItem d) (st : SameInt t) (sf : SameInt f) where
    seen_same : seen v p ≡ seen w p
    unfolding seen
    seen_same = ap seen_in (same_cell (p.at + 1) (omega arith))

    condition_same : (b : ℕ) → SameItem (condition_item c d b)
    unfolding condition_item counts num_item
    condition_same b n = cross_same (num_item b false ∷ d ∷ []) (num_item b true ∷ c ∷ []) sd sc n

    constant_same : (n : Counters) → (constant_making v c d o n).end ≡ (constant_making w c d o n).end
    constant_same n = go o refl
      where
        go : (q : Option ℕ) → o ≡ q → (constant_making v c d q n).end ≡ (constant_making w c d q n).end
        go (some x) e = after (more_ints v 1) (more_ints w 1) (meets_bool v x n) (meets_bool w x n) (more_same 1) (meets_same x (low x e) n)
        go none e =
            let i = condition_item c d n.bools in
            let k = more_bools 1 n in
            after (more_ints v 1) (more_ints w 1) (i.count v k) (i.count w k) (more_same 1) (condition_same n.bools k)

    open_same : (l m : LinearSum) (x : ℕ) (n : Counters) → (open_making v c d l m x n).end ≡ (open_making w c d l m x n).end
    unfolding open_item disj_item conj_item counts equal_item
    open_same l m x n = ap (more_bools _) (after (d.count v) (d.count w) _ _ sd (after (c.count v) (c.count w) _ _ sc (more_same 1 n)))

    -- whatever the branches' sums are
    making_same : (z : Bool) (l l' m m' : LinearSum) (x : ℕ) (n k : Counters) → n ≡ k → l ≡ l' → m ≡ m'
        → (cond z (constant_making v c d o n) (open_making v c d l m x n)).end ≡ (cond z (constant_making w c d o k) (open_making w c d l' m' x k)).end
    making_same true l l' m m' x n k e a b = constant_same n ∙ ap (λ j. (constant_making w c d o j).end) e
    making_same false l l' m m' x n k e a b = open_same l m x n ∙ ap (λ j. (open_making w c d l m x j).end) e ∙ ap (λ y. (open_making w c d y m x k).end) a ∙ ap (λ y. (open_making w c d l' y x k).end) b

    if_making_same : (n : Counters) → (if_making o p c d t f v n).end ≡ (if_making o p c d t f w n).end
    unfolding if_making
    if_making_same n =
        let a = st.behind n in
        ap (λ s. (cond (constant_in s) (constant_making v c d o (f.behind v (t.behind v n))) (open_making v c d (t.total v n) (f.total v (t.behind v n)) (number_in s 0) (f.behind v (t.behind v n)))).end) seen_same
        ∙ making_same (constant_in (seen w p)) _ _ _ _ (number_in (seen w p) 0) _ _ (after (f.behind v) (f.behind w) _ _ sf.behind a) (st.total n) (after (f.total v) (f.total w) _ _ sf.total a)

    behind_same : (n : Counters) → if_behind o p c d t f v n ≡ if_behind o p c d t f w n
    unfolding if_behind passed
    behind_same n =
        let m = (if_making o p c d t f v n).end in
        ap (λ b. cond (not b || known_in (seen v p) n.ints) n m) same_ifs
        ∙ ap (λ s. cond (not (has_ifs w) || known_in s n.ints) n m) seen_same
        ∙ ap (λ e. cond (not (has_ifs w) || known_in (seen w p) n.ints) n e) (if_making_same n)

    number_same : (n : Counters) → if_number o p c d t f v n ≡ if_number o p c d t f w n
    unfolding if_number
    number_same n = ap (λ s. number_in s (if_behind o p c d t f v n).ints) seen_same ∙ ap (λ (k : Counters). number_in (seen w p) k.ints) (behind_same n)

    domain_same : (n : Counters) → if_domain p t f v n ≡ if_domain p t f w n
    unfolding if_domain
    domain_same n =
        let x = st.total n in
        let y = after (f.total v) (f.total w) (t.behind v n) (t.behind w n) sf.total (st.behind n) in
        rw (seen_same, same_cell (p.at + 2) (omega arith), same_cell (p.at + 3) (omega arith), x, y) refl

    if_same : SameInt (choice_item o p c d t f)
    unfolding choice_item
    if_same = record {
      behind = behind_same;
      total = λ n. ap singleton (number_same n);
      range = λ n x.
          ap (λ k. cond (eqb x k) (some (if_domain p t f v n)) none) (number_same n)
          ∙ ap (λ y. cond (eqb x (if_number o p c d t f w n)) (some y) none) (domain_same n);
    }

  -- ---- forms that stand from a to b

  module _ (ds : List Domain) (a b : ℕ) (to : b ≤ folded_end) where
    mutual
      unfolding form_item WithinForm var_item num_item cmp_item conj_item disj_item tied_item const_item ivar_item sum_item no_terms_item term_item counts

      form_same : (x : Form) → WithinForm a b x → SameItem (form_item ds x)
      form_same (var x g) h n = meets_same x h n
      form_same (num k g) h n = refl
      form_same (cmp o x y g) h n = after ((form_int_item ds y).behind v) ((form_int_item ds y).behind w) _ _ (int_same y h.1).behind ((int_same x h.0).behind n)
      form_same (conj xs) h n = forms_same xs h n
      form_same (disj xs) h n = ap (more_bools (fresh (tallies (form_items ds xs)))) (forms_same xs h n)
      form_same (cross xs ys) h n = cross_same (form_items ds xs) (form_items ds ys) (λ m. forms_same xs h.0 m) (λ m. forms_same ys h.1 m) n
      form_same (tied x y z) h n = after ((form_item ds z).count v) ((form_item ds z).count w) _ _ (λ m. form_same z h.1 m) (form_same y h.0 n)

      forms_same : (xs : Forms) → WithinForms a b xs → SameItems (form_items ds xs)
      forms_same nil h n = refl
      forms_same (cons x xs) h n = after (counts (form_items ds xs) v) (counts (form_items ds xs) w) _ _ (λ m. forms_same xs h.1 m) (form_same x h.0 n)

      pub int_same : (e : IntForm) → WithinInt a b e → SameInt (form_int_item ds e)
      int_same (const c) h = record { behind = λ n. refl; total = λ n. refl; range = λ n x. refl }
      int_same (ivar x) h =
          let e = same_entry x h in
          record { behind = meets_int_same x h; total = λ n. ap (λ k. singleton (k - 1)) e; range = λ n y. ap (λ k. cond (eqb y (k - 1)) (some (domain_of ds x)) none) e }
      int_same (sum ts) h = let x = terms_same ts h in record { behind = x.behind; total = λ n. x.total n (constant (pos 0)); range = x.range }
      int_same (choice p o c d t f) h =
          if_same o p (form_item ds c) (form_item ds d) (form_int_item ds t) (form_int_item ds f) h.1 (omega (arith, h.0.1)) (λ m. form_same c h.2 m) (λ m. form_same d h.3 m) (int_same t h.4) (int_same f h.5)

      terms_same : (ts : TermForms) → WithinTerms a b ts → SameTerms (form_terms_item ds ts)
      terms_same no_terms h = record { behind = λ n. refl; total = λ n l. refl; range = λ n x. refl }
      terms_same (term k e ts) h =
          let x = int_same e h.0 in
          let y = terms_same ts h.1 in
          record {
            behind = λ n. after ((form_terms_item ds ts).behind v) ((form_terms_item ds ts).behind w) _ _ y.behind (x.behind n);
            total = λ n l.
                ap (λ z. (form_terms_item ds ts).total v ((form_int_item ds e).behind v n) (add_sum l (mul_sum k z))) (x.total n)
                ∙ after (λ m. (form_terms_item ds ts).total v m (add_sum l (mul_sum k ((form_int_item ds e).total w n)))) (λ m. (form_terms_item ds ts).total w m (add_sum l (mul_sum k ((form_int_item ds e).total w n)))) _ _ (λ m. y.total m _) (x.behind n);
            range = λ n z.
                ap (λ q. or_else q ((form_terms_item ds ts).range v ((form_int_item ds e).behind v n) z)) (x.range n z)
                ∙ ap (or_else ((form_int_item ds e).range w n z)) (after (λ m. (form_terms_item ds ts).range v m z) (λ m. (form_terms_item ds ts).range w m z) _ _ (λ m. y.range m z) (x.behind n));
          }
