-- What the first walk asks of a state holds where a rule, a pair of an AllDifferent or a column is met in the good state of a log whose Ifs are light
-- (`rule_asks`, `pair_asks`, `column_asks`), within refusals 9 and 10. F: the folded words, in which they stand.
use Rattle.std.specs.Prelude.{◌≡◌, Bool, true, List, [], ◌∷◌, ℕ, zero, suc, ◌+◌, ◌-◌, ◌≤◌, ◌<◌, ℤ, length, ltb}
use Rattle.std.proofs.Common.{sym, ◌∙◌, subst, lt-ltb}
use Rattle.std.proofs.Math.Path.{ap}
use Rattle.std.proofs.Math.Bool.{false}
use Rattle.std.proofs.Math.Option.{Option, some}
use native.Mathlib.Omega.{arith}
use Rattle.laws.specs.Slices.{Has}
use Rattle.memory.specs.Places.{folded, folded_end, limit}
use Rattle.syntax.specs.Syntax.{Domain, Ne, IntExpr, BoolExpr, Const, Cmp, encode_int, encode_bool}
use Rattle.clauses.specs.Log.{aux, bool, Log, next_bool}
use Rattle.walk.specs.declared.Counters.{Counters}
use Rattle.walk.proofs.Texts.{Auxed, here as no-aux, above}
use Rattle.walks.specs.Tree.{IntTree, never, below, here, splits, splits_int, resolve, resolve_int, ties, run_int}
use Rattle.walks.specs.Form.{Forms, form, forms, int_form}
use Rattle.walks.specs.Resolve.{rule_trees, pair_trees}
use Rattle.walks.specs.Item.{cell, unseen, seen_in}
use Rattle.walks.specs.Placed.{PlacedInt}
use Rattle.walks.specs.Meet.{State, counters_of, with_work, more_bools, is_full, meet_int}
use Rattle.walks.specs.Decode.{decode, decode_int}
use Rattle.walks.specs.DecodeExact.{rule_at, rule_stands, pair_at, pair_stands, column_stands}
use Rattle.walks.specs.Implements.{ProperInt}
use Rattle.walks.specs.Plain.{PlainInt}
use Rattle.walks.specs.Constant.{Named}
use Rattle.walks.specs.Cells.{Places}
use Rattle.walks.specs.Good.{good_quiet}
use Rattle.walks.specs.Leaves.{weights}
use Rattle.walks.specs.Legal.{Legal, LegalInt, LegalRule, true_rule, legal_rule, legal_bound, legal_int_bound, legal_plain, legal_int_plain}
use Rattle.walks.specs.ProperTrees.{rule_sound, pair_sound}
use Rattle.walks.specs.Visit.{int_meet_spends, auxed_quiet, same_later, Outcome, full, good, good_counters, good_ready}
use Rattle.walks.specs.Walked.{fixed, names, visit_int}
use Rattle.walks.specs.Keys.{keys, keys_int, Every, every_append, ChoicesInt, keys_within, keys_written, keys_int_written}
use Rattle.walks.specs.KeyAt.{looked_up, pair_keys, pair_within}
use Rattle.walks.specs.KeyPlaces.{AgreesWith, keys_plain, keys_int_plain, parted_agrees, rule_places, pair_places}
use Rattle.walks.specs.TreeFacts.{rule_facts, pair_facts, column_facts}
use Rattle.walks.specs.LowIfs.{LowIfs}
use Rattle.walks.specs.Next.{Ahead, Reset, SameMaps, good_reset, list_unknown, list_next}
use Rattle.walks.specs.Totals.{Light, light_weight}
use Rattle.walks.specs.SumsFit.{AlwaysEquated, InsideFits, Within, WithinSides, WithinColumn, form_light, rule_fits, pair_fits, column_fits}
use Rattle.walks.specs.Reach.{LightIfs, light_bool, SameWeight, rule_weights, pair_weights, int_weights, range_reach}
use Rattle.walks.specs.Rule.{GoodFor}
use Rattle.walks.specs.Column.{column_sound}
use Rattle.numbering.specs.Fits.{Unless, form_fits, forms_fit, int_fits}
use Rattle.numbering.specs.Rules.{rule_task, pair_task}
use Rattle.numbering.specs.Columns.{RangeFits, column_task}
use Rattle.numbering.specs.LightKeys.{rule_branches, pair_branches, column_branches}
use Rattle.numbering.specs.FitsVisit.{unless, full_int, branch_fits, trees_fit, int_tree_fits}

-- ---- the numbers of a splitting, as entries that name nothing

abbrev numbers : ℕ → Log → Log
numbers zero s = s
numbers (suc k) s = numbers k (bool (aux []) ∷ s)

numbers_auxed : (k : ℕ) (s : Log) → Auxed s (numbers k s)
numbers_auxed zero s = no-aux
numbers_auxed (suc k) s = above (numbers_auxed k (bool (aux []) ∷ s))

numbers_next : (k : ℕ) (s : Log) → next_bool (numbers k s) ≡ next_bool s + k
numbers_next zero s = omega arith
numbers_next (suc k) s = omega (arith, numbers_next k (bool (aux []) ∷ s))

numbers_light : (ds : List Domain) (k : ℕ) (s : Log) → LightIfs ds s → LightIfs ds (numbers k s)
numbers_light ds zero s l = l
numbers_light ds (suc k) s l = numbers_light ds k (bool (aux []) ∷ s) (light_bool ds (aux []) s l)

-- the numbers taken behind n
taken : (e n k : ℕ) → e ≡ n + k → e - n ≡ k
taken e n k h = omega arith

-- ---- a full walk

module _ (ds : List Domain) (rec cap : ℕ) where
  sum_full : (e : IntTree) (st : State) → is_full ds rec cap st ≡ true → int_fits ds rec cap (int_form e) st × Unless (ltb cap (meet_int ds rec cap e st).used) (RangeFits ds (meet_int ds rec cap e st).work (int_form e) (counters_of st))
  sum_full e st f = let h = ap (ltb cap) (int_meet_spends ds rec cap e st f) ∙ f in (full_int ds rec cap e st f, rw h tt)

  pub column_full : (F : List ℤ) (e : IntExpr) (p : ℕ) → LegalInt e 64 → Has F p (encode_int e) → (st : State) → is_full ds rec cap st ≡ true → (column_task rec cap F p).fits ds st
  unfolding column_task
  column_full F e p legal words st f = rw (column_stands e F 64 p 0 legal words (omega arith)).tree (sum_full (resolve_int e never p 0) st f)

-- ---- as in walks' Rule and Column

module _ (ds : List Domain) (F : List ℤ) (parted : ℕ → Bool) (rec cap : ℕ) (with_ifs : Bool) (before : List ℤ) (low : cap < limit) where
  abbrev GoodHere : (ℕ → Option IntExpr) → ℕ → State → Log → Type 0
  GoodHere = GoodFor ds F parted rec cap with_ifs before low

  -- behind the numbers of a splitting
  numbered : (K : ℕ → Option IntExpr) → Places ds F PlainInt parted K (fixed ds) → (k n : ℕ) (st : State) (s : Log) → GoodHere K (k + n) st s → GoodHere K n (more_bools k st) (numbers k s)
  numbered K P k n st s g = good_quiet ds F PlainInt parted K (fixed ds) rec cap with_ifs before (Named ds) P k n st s (numbers k s) (auxed_quiet (Named ds) (names ds) (numbers_auxed k s) k (numbers_next k s)) g

  -- forms as they are read, behind as many numbers
  forms_asked : (f g : Forms) (j k : ℕ) (st : State) → f ≡ g → j ≡ k → forms_fit ds rec cap g (more_bools k st) → forms_fit ds rec cap f (more_bools j st)
  forms_asked f g j k st x y h = subst (λ (z : Forms). forms_fit ds rec cap z (more_bools j st)) (sym x) (subst (λ (i : ℕ). forms_fit ds rec cap g (more_bools i st)) (sym y) h)

  -- ---- a rule

  module _ (e : BoolExpr) (p : ℕ) (within : Within ds e) (words : Has F p (encode_bool e)) (from : folded ≤ p) (to : p + length (encode_bool e) ≤ folded_end) (s : Log) (agree : Every (AgreesWith parted with_ifs) (keys e below p (next_bool s))) (K : ℕ → Option IntExpr) (m : ℕ) (st : State)
      (ahead : Ahead F p st.work) (ifs : LowIfs (next_bool s) s) (light : LightIfs ds s) (g : GoodHere K (splits e below + (weights ds (rule_trees e p (next_bool s)) + m)) st s) where
    abbrev n : ℕ
    n = next_bool s

    room : n + splits e below ≤ limit
    room = omega (arith, g.room, g.bools)

    rule_read : LegalRule e 64 → forms_fit ds rec cap (forms (rule_trees e p n)) (more_bools (splits e below) st) → (rule_task rec cap F p).fits ds st
    unfolding rule_task
    rule_read legal =
        let r = rule_stands e F 64 p n legal words room in
        forms_asked _ (forms (rule_trees e p n)) _ (splits e below) st (ap (rule_at F 64 p) g.bools ∙ r.trees)
        (ap (λ (i : ℕ). (decode F 64 below false p i).next - i) g.bools ∙ taken _ n (splits e below) r.next)

    legal_asks : Legal e 64 → forms_fit ds rec cap (forms (rule_trees e p n)) (more_bools (splits e below) st)
    legal_asks legal =
        let L = looked_up (keys e below p n) in
        let P = rule_places ds F parted (fixed ds) e p n (legal_plain e 64 legal) words from to (parted_agrees parted with_ifs agree) in
        let k = splits e below in
        let h = list_next ds F parted K (fixed ds) (keys_within e below p n (legal_bound e 64 legal)) (keys_written F e below p n words) (keys_plain e below p n (legal_plain e 64 legal)) from to rec cap with_ifs before (Named ds) (k + (weights ds (rule_trees e p n) + m)) st s ahead ifs g in
        let q = rule_sound e 64 p n legal room in
        trees_fit ds F parted L rec cap with_ifs before P low (rule_trees e p n) q.0 q.1 (rule_facts ds F parted rec cap with_ifs before low e 64 p n legal words from to agree P)
        (rule_weights ds e p n) (rule_branches ds e p n within) (rule_fits ds e p n within) m (more_bools k st) (numbers k s) (numbered L P k (weights ds (rule_trees e p n) + m) st s h) (numbers_light ds k s light)

  true_asks : (p n : ℕ) (st : State) → forms_fit ds rec cap (forms (rule_trees (Const true) p n)) st
  unfolding resolve ties form form_fits
  true_asks p n st = (tt, tt)

  pub rule_asks : (e : BoolExpr) (p : ℕ) → LegalRule e 64 → Within ds e → Has F p (encode_bool e) → folded ≤ p → p + length (encode_bool e) ≤ folded_end
      → (s : Log) → Every (AgreesWith parted with_ifs) (keys e below p (next_bool s)) → (K : ℕ → Option IntExpr) (m : ℕ) (st : State) → Ahead F p st.work → LowIfs (next_bool s) s → LightIfs ds s
      → GoodFor ds F parted rec cap with_ifs before low K (splits e below + (weights ds (rule_trees e p (next_bool s)) + m)) st s → (rule_task rec cap F p).fits ds st
  rule_asks e p (true_rule x) w d i j s a K m st h f l g = rule_read e p w d i j s a K m st h f l g (true_rule x) (true_asks p (next_bool s) _)
  rule_asks e p (legal_rule x) w d i j s a K m st h f l g = rule_read e p w d i j s a K m st h f l g (legal_rule x) (legal_asks e p w d i j s a K m st h f l g x)

  -- ---- a pair, its sides at p and q, in the slice w where the cells of its Ifs with split parts are cleared

  pub pair_asks : (a b : IntExpr) (p q : ℕ) → LegalInt a 64 → LegalInt b 64 → WithinSides ds a b → Has F p (encode_int a) → Has F q (encode_int b) → folded ≤ p → p + length (encode_int a) ≤ q → q + length (encode_int b) ≤ folded_end
      → (s : Log) → Every (AgreesWith parted with_ifs) (pair_keys a b p q (next_bool s)) → (K : ℕ → Option IntExpr) (m : ℕ) (st : State) (w : List ℤ)
      → SameMaps ds F PlainInt parted K (looked_up (pair_keys a b p q (next_bool s))) (fixed ds) st.work w → Reset ds F PlainInt parted K (looked_up (pair_keys a b p q (next_bool s))) (fixed ds) st.work w
      → ((o : ℕ) (e : IntExpr) → looked_up (pair_keys a b p q (next_bool s)) o ≡ some e → seen_in (cell w (o + 1)) ≡ unseen) → LowIfs (next_bool s) s → LightIfs ds s
      → GoodFor ds F parted rec cap with_ifs before low K (splits (Cmp Ne a b) below + (weights ds (pair_trees a b p q (next_bool s)) + m)) st s → (pair_task rec cap F p q).fits ds (with_work w st)
  unfolding pair_task splits
  pair_asks a b p q first second within words others from then to s agree K m st w maps reset clear ifs light g =
      let n = next_bool s in
      let j = splits_int a here in
      let k = j + splits_int b here in
      let ts = pair_trees a b p q n in
      let L = looked_up (pair_keys a b p q n) in
      let P = pair_places ds F parted (fixed ds) a b p q n (legal_int_plain a 64 first) (legal_int_plain b 64 second) words others from then to (parted_agrees parted with_ifs agree) in
      let i : n + k ≤ limit = omega (arith, g.room, g.bools) in
      let x = list_unknown ds F parted K (fixed ds) (pair_within a b p q n (legal_int_bound a 64 first) (legal_int_bound b 64 second) then) (every_append (keys_int_written F a here p n words) (keys_int_written F b here q (n + j) others))
      (every_append (keys_int_plain a here p n (legal_int_plain a 64 first)) (keys_int_plain b here q (n + j) (legal_int_plain b 64 second))) from to s ifs in
      let h = good_reset ds F PlainInt parted K L (fixed ds) rec cap with_ifs before (Named ds) (k + (weights ds ts + m)) st w s maps reset (record { blank = clear; unknown = x }) g in
      let c = pair_sound a b 64 p q n first second i in
      let r = pair_stands a b F 64 p q n first second words others (omega (arith, i)) in
      let next : (decode_int F 64 here q (decode_int F 64 here p n).next).next ≡ n + k = ap (λ (y : ℕ). (decode_int F 64 here q y).next) r.middle ∙ r.next ∙ omega arith in
      forms_asked _ (forms ts) _ k (with_work w st) (ap (pair_at F 64 p q) g.bools ∙ r.trees)
      (ap (λ (y : ℕ). (decode_int F 64 here q (decode_int F 64 here p y).next).next - y) g.bools ∙ taken _ n k next)
      (trees_fit ds F parted L rec cap with_ifs before P low ts c.0 c.1 (pair_facts ds F parted rec cap with_ifs before low a b 64 p q n first second words others from then to agree P)
      (pair_weights ds a b p q n) (pair_branches ds a b p q n within) (pair_fits ds a b p q n within) m (more_bools k (with_work w st)) (numbers k s) (numbered L P k (weights ds ts + m) (with_work w st) s h) (numbers_light ds k s light))

  -- ---- a column

  -- its bounds, behind the visit of its tree
  module _ (K : ℕ → Option IntExpr) (P : Places ds F PlainInt parted K (fixed ds)) (t : IntTree) (proper : ProperInt t) (same : ChoicesInt (SameWeight ds) t) (light : Light ds (int_form t)) (equated : AlwaysEquated ds (int_form t)) (inside : InsideFits ds (int_form t))
      (m : ℕ) (st a : State) (s : Log) (ifs : LightIfs ds s) (g : GoodHere K m st s) where
    range_fits : GoodHere K m a (run_int ds t s).1 → PlacedInt a.work ds t s → RangeFits ds a.work (int_form t) (counters_of st)
    range_fits h x =
        let w = a.work in
        let r = good_ready ds F PlainInt parted K (fixed ds) rec cap with_ifs before (Named ds) (names ds) P low m a (run_int ds t s).1 h in
        let c = good_counters ds F PlainInt parted K (fixed ds) rec cap with_ifs before (Named ds) m st s w g h.word in
        let b = range_reach w ds t proper same s ifs r x in
        let l = light_weight ds (int_form t) light in
        subst (λ (n : Counters). RangeFits ds w (int_form t) n) (sym c) (record { sum = branch_fits ds w t proper same light equated inside s ifs r x; lowest = omega (arith, b, l); highest = omega (arith, b, l) })

    bounds_fit : Outcome ds F PlainInt parted K (fixed ds) rec cap with_ifs before (Named ds) st.used m (λ w. PlacedInt w ds t s) st a (run_int ds t s).1 → Unless (ltb cap a.used) (RangeFits ds a.work (int_form t) (counters_of st))
    bounds_fit (full x y) = rw (lt-ltb cap a.used x) tt
    bounds_fit (good h u r x) = unless (ltb cap a.used) _ (range_fits h (x a.work (same_later ds F PlainInt parted K (fixed ds) a.work)))

  pub column_asks : (K : ℕ → Option IntExpr) → Places ds F PlainInt parted K (fixed ds) → (e : IntExpr) (p : ℕ) → LegalInt e 64 → WithinColumn ds e → Has F p (encode_int e) → folded ≤ p → p + length (encode_int e) ≤ folded_end → Every (AgreesWith parted with_ifs) (keys_int e never p 0)
      → (m : ℕ) (st : State) (s : Log) → LightIfs ds s → GoodFor ds F parted rec cap with_ifs before low K m st s → (column_task rec cap F p).fits ds st
  unfolding column_task
  column_asks K P e p legal within words from to agree m st s light g =
      let t = resolve_int e never p 0 in
      let c = column_sound e 64 p legal in
      let f = column_fits ds e p 0 within.light within.few within.inside in
      let h = int_weights ds e never p 0 in
      let i = column_facts ds F parted rec cap with_ifs before low K e 64 p 0 legal words from to agree P in
      rw (column_stands e F 64 p 0 legal words (omega arith)).tree (
        int_tree_fits ds F parted K rec cap with_ifs before P low t c.0 c.1 i h (column_branches ds e p 0 within) f.1 m st s g light,
        bounds_fit K P t c.0 h (form_light ds e never p 0 within.light) f.0 f.1 m st (meet_int ds rec cap t st) s light g (visit_int ds F parted K rec cap with_ifs before P low t c.0 c.1 i st.used m st s g (omega arith)),
      )
