-- The first walk over a form changes no cells but those of its own Ifs, which stand from a to b; its declared variables are within the limits
-- (`form_near`). The trees of a rule, a pair or a column are such forms, from their first word to their last.
use Rattle.std.specs.Prelude.{◌≡◌, Bool, true, false, ◌&&◌, ◌||◌, cond, List, ◌++◌, ◌⊎◌, ℕ, suc, ◌+◌, ◌≤◌, ◌<◌, ℤ, pos, negsuc, length, set}
use Rattle.std.proofs.Math.Path.{refl}
use Rattle.std.proofs.Common.{◌∙◌, inl, inr, arith, length-append}
use Rattle.std.proofs.Math.Option.{Option, none, some}
use Rattle.std.proofs.Math.Seq.{get_or-set_other}
use Rattle.laws.specs.Ints.{is_zero}
use Rattle.memory.specs.Places.{folded, bool_map, int_map, maps_end, cells, limit}
use Rattle.syntax.specs.Syntax.{Domain, lower_bound, upper_bound, IntExpr, IConst, IVar, Linear, If, Terms, tnil, tmore, BoolExpr, Const, Var, NVar, And, Or, Not, Xor, Iff, Imp, Cmp, Members, mnil, more, encode_bool, encode_members, encode_int, encode_terms}
use Rattle.syntax.specs.Words.{max_bools, max_ints}
use Rattle.sums.specs.LinearSum.{is_constant}
use Rattle.walk.specs.Item.{is_none, bool_at, int_entry}
use Rattle.walks.specs.Tree.{Place, Tree, Trees, IntTree, TermTrees, Splitting, below, here, inner, own_splits, splits, splits_int, split_int, resolve_int}
use Rattle.walks.specs.Tree.{var as tree-var, num as tree-num, cmp as tree-cmp, conj as tree-conj, disj as tree-disj, cross as tree-cross, tied as tree-tied, nil as no-trees, cons as more-trees, const as tree-const, ivar as tree-ivar, sum as tree-sum, choice as tree-choice, none as no-term-trees, term as tree-term}
use Rattle.walks.specs.Form.{Form, var, num, cmp, conj, disj, cross, tied, Forms, nil, cons, IntForm, const, ivar, sum, choice, TermForms, none as no_terms, term, form, forms, int_form, term_forms}
use Rattle.walks.specs.Thirds.{length_three, le_same}
use Rattle.walks.specs.Resolve.{rule_trees, pair_trees}
use Rattle.walks.specs.Item.{cell, seen, known_in}
use Rattle.walks.specs.Meet.{State, counters_of, with_work, more_bools, spend, meet_bool, set_cell, number_word, stored, find_equal, range_record, Parts, is_full, new_int, meet_int_var, meet_constant, meet_open, meet_branches, meet_new, meet_unknown, meet_if, form_meet, form_meets, form_meet_int, form_meet_terms}
use Rattle.walks.specs.Cells.{Off, cells_other}
use Rattle.walks.specs.Implements.{Proper, Propers, ProperInt, ProperTerms}
use Rattle.walks.specs.Legal.{Legal, LegalInt}
use Rattle.walks.specs.Apart.{if_long}
use Rattle.walks.specs.ProperTrees.{rule_sound, pair_sound, sound_int}
use Rattle.walks.specs.Keys.{Key, keys, keys_members, keys_int, keys_terms, Every, every_none, every_more, every_map, every_append, Choices, ChoicesAll, ChoicesInt, ChoicesTerms, Makes, int_choices}
use Rattle.walks.specs.KeyAt.{rule_choices, pair_choices}
use Rattle.walks.specs.KeyPlaces.{every_both}
use Rattle.walks.specs.TreeFacts.{LowVar, own_split, keys_low, keys_int_low}

-- ---- forms from a to b

-- an If stands between; it has six words at least
abbrev pub InPlace : ℕ → ℕ → Place → Type 0
InPlace a b p = (a ≤ p.at) × (p.at + 6 ≤ b)

abbrev pub LowOwn : Option ℕ → Type 0
LowOwn o = (v : ℕ) → o ≡ some v → v < max_bools

module _ (a b : ℕ) where
  unfoldable mutual
    pub WithinForm : Form → Type 0
    WithinForm (var v g) = v < max_bools
    WithinForm (num n g) = Unit {0}
    WithinForm (cmp o x y g) = WithinInt x × WithinInt y
    WithinForm (conj ts) = WithinForms ts
    WithinForm (disj ts) = WithinForms ts
    WithinForm (cross ts us) = WithinForms ts × WithinForms us
    WithinForm (tied v t u) = WithinForm t × WithinForm u

    pub WithinForms : Forms → Type 0
    WithinForms nil = Unit {0}
    WithinForms (cons t ts) = WithinForm t × WithinForms ts

    pub WithinInt : IntForm → Type 0
    WithinInt (const c) = Unit {0}
    WithinInt (ivar v) = v < max_ints
    WithinInt (sum ts) = WithinTerms ts
    WithinInt (choice p o c d t f) = InPlace a b p × LowOwn o × WithinForm c × WithinForm d × WithinInt t × WithinInt f

    pub WithinTerms : TermForms → Type 0
    WithinTerms no_terms = Unit {0}
    WithinTerms (term k e ts) = WithinInt e × WithinTerms ts

-- ---- the cells elsewhere stay

-- a cell behind the maps; not between, or one of the last two
abbrev pub Outside : ℕ → ℕ → ℕ → Type 0
Outside a b q = (folded ≤ q) × (q ≤ a ⊎ b ≤ q + 2)

off_place : (a b q : ℕ) (p : Place) → InPlace a b p → (q ≤ a ⊎ b ≤ q + 2) → Off p.at q
off_place a b q p h (inl l) = inl (omega (arith, h.0))
off_place a b q p h (inr l) = inr (omega (arith, h.1))

off_first : (p q : ℕ) → Off p q → cells + q ≡ cells + (p + 1) → ⊥
off_first p q (inl h) e = omega arith
off_first p q (inr h) e = omega arith

module _ (q : ℕ) where
  either_cell : (c : Bool) (w : List ℤ) (x y : State) → cell x.work q ≡ cell w q → cell y.work q ≡ cell w q → cell (cond c x y).work q ≡ cell w q
  either_cell true w x y i j = i
  either_cell false w x y i j = j

  map_cell : (w : List ℤ) (p : ℕ) (x : ℤ) → p < maps_end → folded ≤ q → cell (set w p x) q ≡ cell w q
  unfolding cell
  map_cell w p x h l = get_or-set_other w p (cells + q) x (pos 0) (λ e. omega arith)

  pub bool_near : folded ≤ q → (v : ℕ) → v < max_bools → (st : State) → cell (meet_bool v st).work q ≡ cell st.work q
  unfolding meet_bool
  bool_near l v h st = either_cell (is_zero (bool_at st.work v)) st.work _ st (map_cell st.work (bool_map + v) (pos (st.bools + 1)) (omega arith) l) refl

module _ (ds : List Domain) (rec cap : ℕ) (a b q : ℕ) (out : Outside a b q) where
  int_near : (v : ℕ) → v < max_ints → (st : State) → cell (meet_int_var ds rec cap v st).work q ≡ cell st.work q
  unfolding meet_int_var new_int
  int_near v h st = either_cell q (is_none (int_entry st.work v)) st.work _ st (map_cell q st.work (int_map + v) (pos (st.ints + 1)) (omega arith) out.0) refl

  abbrev Same : (State → State) → Type 0
  Same m = (st : State) → cell (m st).work q ≡ cell st.work q

  -- an If whose parts keep the cell
  module _ (k : Parts) (within : InPlace a b k.place) (own : LowOwn k.own) (plain : Same k.meet_plain) (negated : Same k.meet_negated) (first : Same k.meet_first) (second : Same k.meet_second) where
    place_off : Off k.place.at q
    place_off = off_place a b q k.place within out.1

    first_off : (w : List ℤ) (x : ℤ) → cell (set_cell (k.place.at + 1) x w) q ≡ cell w q
    unfolding cell
    first_off w x = get_or-set_other w (cells + (k.place.at + 1)) (cells + q) x (pos 0) (off_first k.place.at q place_off)

    constant_near : (x y : ℤ) (o : Option ℕ) → LowOwn o → Same (meet_constant ds rec cap k x y o)
    unfolding meet_constant new_int
    constant_near x y (some v) l st = bool_near q out.0 v (l v refl) st
    constant_near x y none l st =
        let s = spend k.leaves st in
        either_cell q (is_full ds rec cap s) st.work s _ refl (plain (k.meet_negated (more_bools 1 s)) ∙ negated (more_bools 1 s))

    open_near : (d : Domain) → Same (meet_open ds rec cap k d)
    unfolding meet_open new_int
    open_near d st =
        let s = spend k.leaves (new_int ds rec cap (range_record d) st) in
        let u = more_bools 1 (k.meet_negated (k.meet_plain s)) in
        either_cell q (is_full ds rec cap s) st.work s (with_work (stored k.place st.ints d u.work) u) refl
        (cells_other u.work k.place.at (number_word k.place.whole st.ints) (lower_bound d) (upper_bound d) q place_off ∙ negated (k.meet_plain s) ∙ plain s)

    branches_near : (st x y : State) → cell (meet_branches ds rec cap k st x y).work q ≡ cell y.work q
    unfolding meet_branches
    branches_near st x y =
        let w = with_work (set_cell (k.place.at + 1) (negsuc 0) y.work) y in
        either_cell q (is_constant (k.first.total y.work (counters_of st)) && is_constant (k.second.total y.work (counters_of x))) y.work _ _
        (constant_near _ _ k.own own w ∙ first_off y.work (negsuc 0)) (open_near _ y)

    new_near : Same (meet_new ds rec cap k)
    unfolding meet_new
    new_near st =
        let s = spend 4 st in
        let x = k.meet_first s in
        let y = k.meet_second x in
        let h : cell y.work q ≡ cell st.work q = second x ∙ first s in
        either_cell q (is_full ds rec cap s) st.work s _ refl (either_cell q (is_full ds rec cap y) st.work y _ h (branches_near s x y ∙ h))

    unknown_near : (o : Option ℕ) → Same (meet_unknown ds rec cap k o)
    unknown_near (some p) st = cells_other st.work k.place.at _ _ _ q place_off
    unknown_near none st = new_near st

    if_near : Same (meet_if ds rec cap k)
    unfolding meet_if
    if_near st = either_cell q (is_full ds rec cap st || known_in (seen st.work k.place) st.ints) st.work st _ refl (unknown_near (find_equal st.work k.place) st)

  mutual
    unfolding WithinForm form_meet

    pub form_near : (t : Form) → WithinForm a b t → (st : State) → cell (form_meet ds rec cap t st).work q ≡ cell st.work q
    form_near (var v g) h st = bool_near q out.0 v h st
    form_near (num n g) h st = refl
    form_near (cmp o x y g) h st = int_form_near y h.1 (form_meet_int ds rec cap x st) ∙ int_form_near x h.0 st
    form_near (conj ts) h st = forms_near ts h st
    form_near (disj ts) h st = forms_near ts h st
    form_near (cross ts us) h st = forms_near us h.1 (form_meets ds rec cap ts st) ∙ forms_near ts h.0 st
    form_near (tied v t u) h st = form_near u h.1 (form_meet ds rec cap t st) ∙ form_near t h.0 st

    pub forms_near : (ts : Forms) → WithinForms a b ts → (st : State) → cell (form_meets ds rec cap ts st).work q ≡ cell st.work q
    forms_near nil h st = refl
    forms_near (cons t ts) h st = forms_near ts h.1 (form_meet ds rec cap t st) ∙ form_near t h.0 st

    pub int_form_near : (e : IntForm) → WithinInt a b e → (st : State) → cell (form_meet_int ds rec cap e st).work q ≡ cell st.work q
    int_form_near (const c) h st = refl
    int_form_near (ivar v) h st = int_near v h st
    int_form_near (sum ts) h st = terms_near ts h st
    int_form_near (choice p o c d t f) h st = if_near _ h.0 h.1 (λ x. form_near c h.2 x) (λ x. form_near d h.3 x) (λ x. int_form_near t h.4 x) (λ x. int_form_near f h.5 x) st

    terms_near : (ts : TermForms) → WithinTerms a b ts → (st : State) → cell (form_meet_terms ds rec cap ts st).work q ≡ cell st.work q
    terms_near no_terms h st = refl
    terms_near (term k e ts) h st = terms_near ts h.1 (form_meet_int ds rec cap e st) ∙ int_form_near e h.0 st

-- ---- the keys of an expression stand between its first word and its last

abbrev pub KeyIn : ℕ → ℕ → Key → Type 0
KeyIn a b x = InPlace a b x.place

key_wider : {a b c d : ℕ} {xs : List Key} → Every (KeyIn a b) xs → c ≤ a → b ≤ d → Every (KeyIn c d) xs
key_wider {a} {b} {c} {d} h i j = every_map (λ x k. wider x.place k) h
  where
    wider : (p : Place) → InPlace a b p → InPlace c d p
    wider p k = (omega (arith, k.0), omega (arith, k.1))

six_in : (at k : ℕ) → 6 ≤ k → at + 6 ≤ at + k
six_in at k h = omega arith

-- two parts behind k words
two_in : (xs ys : List ℤ) (at k : ℕ) {us vs : List Key} → Every (KeyIn (at + k) (at + k + length xs)) us → Every (KeyIn (at + k + length xs) (at + k + length xs + length ys)) vs → (z : ℕ) → at + (k + length (xs ++ ys)) ≤ z → Every (KeyIn at z) (us ++ vs)
two_in xs ys at k h i z j =
    let l = length-append xs ys in
    every_append (key_wider h (omega arith) (omega (arith, l))) (key_wider i (omega arith) (omega (arith, l)))

three_in : (xs ys zs : List ℤ) (at : ℕ) {us vs ws : List Key} → Every (KeyIn (at + 1) (at + 1 + length xs)) us → Every (KeyIn (at + 1 + length xs) (at + 1 + length xs + length ys)) vs → Every (KeyIn (at + 1 + length xs + length ys) (at + 1 + length xs + length ys + length zs)) ws
    → Every (KeyIn at (at + suc (length (xs ++ (ys ++ zs))))) (us ++ (vs ++ ws))
three_in xs ys zs at h i j =
    let l = length_three xs ys zs in
    every_append (key_wider h (omega arith) (omega (arith, l))) (every_append (key_wider i (omega arith) (omega (arith, l))) (key_wider j (omega arith) (omega (arith, l))))

mutual
  unfolding keys encode_bool

  pub keys_in : (e : BoolExpr) (m : Splitting) (at n : ℕ) → Every (KeyIn at (at + length (encode_bool e))) (keys e m at n)
  keys_in (Const b) m at n = every_none
  keys_in (Var v) m at n = every_none
  keys_in (NVar k) m at n = every_none
  keys_in (And ms) m at n = key_wider (keys_members_in ms m (at + 2) n) (omega arith) (omega arith)
  keys_in (Or ms) m at n = key_wider (keys_members_in ms m (at + 2) n) (omega arith) (omega arith)
  keys_in (Not e) m at n = key_wider (keys_in e m (at + 1) n) (omega arith) (omega arith)
  keys_in (Xor a b) m at n = two_in (encode_bool a) (encode_bool b) at 1 (keys_in a (inner m) (at + 1) (own_splits m + n)) (keys_in b (inner m) (at + 1 + length (encode_bool a)) (own_splits m + n + splits a (inner m))) _ (omega arith)
  keys_in (Iff a b) m at n = two_in (encode_bool a) (encode_bool b) at 1 (keys_in a (inner m) (at + 1) (own_splits m + n)) (keys_in b (inner m) (at + 1 + length (encode_bool a)) (own_splits m + n + splits a (inner m))) _ (omega arith)
  keys_in (Imp a b) m at n = two_in (encode_bool a) (encode_bool b) at 1 (keys_in a m (at + 1) n) (keys_in b m (at + 1 + length (encode_bool a)) (n + splits a m)) _ (omega arith)
  keys_in (Cmp o a b) m at n = two_in (encode_int a) (encode_int b) at 2 (keys_int_in a (inner m) (at + 2) n) (keys_int_in b (inner m) (at + 2 + length (encode_int a)) (n + splits_int a (inner m))) _ (omega arith)

  keys_members_in : (ms : Members) (m : Splitting) (at n : ℕ) → Every (KeyIn at (at + length (encode_members ms))) (keys_members ms m at n)
  keys_members_in mnil m at n = every_none
  keys_members_in (more e ms) m at n =
      let l = length-append (encode_bool e) (encode_members ms) in
      every_append (key_wider (keys_in e m at n) (omega arith) (omega (arith, l))) (key_wider (keys_members_in ms m (at + length (encode_bool e)) (n + splits e m)) (omega arith) (omega (arith, l)))

  pub keys_int_in : (e : IntExpr) (m : Splitting) (at n : ℕ) → Every (KeyIn at (at + length (encode_int e))) (keys_int e m at n)
  keys_int_in (IConst c) m at n = every_none
  keys_int_in (IVar v) m at n = every_none
  keys_int_in (Linear ts) m at n = key_wider (keys_terms_in ts m (at + 2) n) (omega arith) (omega arith)
  keys_int_in (If i c t f) m at n =
      let p = at + 1 + length (encode_bool c) in
      every_more (le_same at, six_in at (length (encode_int (If i c t f))) (if_long i c t f))
      (three_in (encode_bool c) (encode_int t) (encode_int f) at (keys_in c m (at + 1) n) (keys_int_in t m p (n + splits c m)) (keys_int_in f m (p + length (encode_int t)) (n + splits c m + splits_int t m)))

  keys_terms_in : (ts : Terms) (m : Splitting) (at n : ℕ) → Every (KeyIn at (at + length (encode_terms ts))) (keys_terms ts m at n)
  keys_terms_in tnil m at n = every_none
  keys_terms_in (tmore k e ts) m at n = two_in (encode_int e) (encode_terms ts) at 1 (keys_int_in e m (at + 1) n) (keys_terms_in ts m (at + 1 + length (encode_int e)) (n + splits_int e m)) _ (omega arith)

-- ---- the forms of trees

module _ (a b : ℕ) where
  abbrev InChoice : Place → IntExpr → Tree → Tree → IntTree → IntTree → Type 0
  InChoice p e c d t f = InPlace a b p × LowVar e

  abbrev NearKey : Key → Type 0
  NearKey x = KeyIn a b x × LowVar x.written

  make_in : Makes InChoice NearKey
  unfolding split_int
  make_in i c t f m at n h = (h.0, λ v e. h.1 v (own_split c m n v e))

  mutual
    unfolding Proper Choices form WithinForm

    within_of : (t : Tree) → Proper t → Choices InChoice t → WithinForm a b (form t)
    within_of (tree-var v g) p h = p
    within_of (tree-num n g) p h = tt
    within_of (tree-cmp o x y g) p h = (int_within_of x p.0 h.0, int_within_of y p.1 h.1)
    within_of (tree-conj ts) p h = all_within_of ts p.1 h
    within_of (tree-disj ts) p h = all_within_of ts p h
    within_of (tree-cross ts us) p h = (all_within_of ts p.0 h.0, all_within_of us p.1 h.1)
    within_of (tree-tied v t u) p h = (within_of t p.1 h.0, within_of u p.2 h.1)

    all_within_of : (ts : Trees) → Propers ts → ChoicesAll InChoice ts → WithinForms a b (forms ts)
    all_within_of no-trees p h = tt
    all_within_of (more-trees t ts) p h = (within_of t p.0 h.0, all_within_of ts p.1 h.1)

    int_within_of : (e : IntTree) → ProperInt e → ChoicesInt InChoice e → WithinInt a b (int_form e)
    int_within_of (tree-const c) p h = tt
    int_within_of (tree-ivar v) p h = p
    int_within_of (tree-sum ts) p h = terms_within_of ts p h
    int_within_of (tree-choice i x e c d t f) p h = (h.0.0, h.0.1, within_of c p.1 h.1, within_of d p.2 h.2, int_within_of t p.3 h.3, int_within_of f p.4 h.4)

    terms_within_of : (ts : TermTrees) → ProperTerms ts → ChoicesTerms InChoice ts → WithinTerms a b (term_forms ts)
    terms_within_of no-term-trees p h = tt
    terms_within_of (tree-term k e ts) p h = (int_within_of e p.0 h.0, terms_within_of ts p.1 h.1)

-- ---- of a rule, a pair, a column

pub rule_inside : (e : BoolExpr) (l at n : ℕ) → Legal e l → n + splits e below ≤ limit → WithinForms at (at + length (encode_bool e)) (forms (rule_trees e at n))
rule_inside e l at n h k =
    let b = at + length (encode_bool e) in
    all_within_of at b (rule_trees e at n) (rule_sound e l at n h k).0 (rule_choices (InChoice at b) (NearKey at b) (make_in at b) e at n (every_both (keys_in e below at n) (keys_low e l below at n h)))

-- p and q: where its sides stand
pub pair_inside : (a b : IntExpr) (l p q n : ℕ) → LegalInt a l → LegalInt b l → p + length (encode_int a) ≤ q → n + (splits_int a here + splits_int b here) ≤ limit → WithinForms p (q + length (encode_int b)) (forms (pair_trees a b p q n))
pair_inside a b l p q n h g o k =
    let r = q + length (encode_int b) in
    let m = n + splits_int a here in
    all_within_of p r (pair_trees a b p q n) (pair_sound a b l p q n h g k).0 (pair_choices (InChoice p r) (NearKey p r) (make_in p r) a b p q n
    (every_both (every_append (key_wider (keys_int_in a here p n) (omega arith) (omega arith)) (key_wider (keys_int_in b here q m) (omega arith) (omega arith))) (every_append (keys_int_low a l here p n h) (keys_int_low b l here q m g))))

pub column_inside : (e : IntExpr) (l : ℕ) (m : Splitting) (at n : ℕ) → LegalInt e l → n + splits_int e m ≤ limit → WithinInt at (at + length (encode_int e)) (int_form (resolve_int e m at n))
column_inside e l m at n h k =
    let b = at + length (encode_int e) in
    int_within_of at b (resolve_int e m at n) (sound_int e l m at n h k).0 (int_choices (InChoice at b) (NearKey at b) (make_in at b) e m at n (every_both (keys_int_in e m at n) (keys_int_low e l m at n h)))
