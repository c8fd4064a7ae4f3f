-- Both walks over a whole rule, and over a pair of an AllDifferent: the splitting takes its numbers, the first walk leaves the state of the log behind the
-- rule (`rule_visit`, `pair_visit`), the second writes the words of the clauses that the log has more (`rule_written`, `pair_written`).
use Rattle.std.specs.Prelude.{◌≡◌, Bool, true, false, ℕ, ◌+◌, ◌≤◌, ◌<◌, ℤ}
use Rattle.std.proofs.Math.Path.{refl}
use Rattle.std.proofs.Common.{sym, ap, ◌∙◌}
use Rattle.std.proofs.Math.Option.{Option, some}
use mathlib.Core.List.{List, [], ◌∷◌, append-nil}
use native.Mathlib.Omega.{arith}
use Rattle.std.proofs.Math.ListN.{length}
use Rattle.laws.specs.Slices.{Has}
use Rattle.memory.specs.Places.{folded, folded_end, limit}
use Rattle.syntax.specs.Syntax.{Domain, Ne, IntExpr, BoolExpr, Const, Cmp, encode_bool, encode_int}
use Rattle.clauses.specs.Log.{added, Log, next_bool, made_ints, clauses_of}
use Rattle.clauses.specs.Normalize.{register, normalize_bool_expr}
use Rattle.clauses.specs.Split.{unsplit, register_each, tseitin_transformation_bool as cut, normalize_and_register_expr}
use Rattle.walk.specs.Item.{bump, lines_of}
use Rattle.walk.proofs.Grow.{grow_added}
use Rattle.walks.specs.Tree.{Trees, below, here, splits, splits_int, resolve, ties, registers}
use Rattle.walks.specs.Form.{forms}
use Rattle.walks.specs.Item.{int_count, cell, unseen, seen_in, more_bools as more-counted, form_items, conj_item, texts, regs, reg_lines, all_lines, items, counts}
use Rattle.walks.specs.Meet.{State, with_work, more_bools, form_meet, meets}
use Rattle.walks.specs.Resolve.{split_sided, rule_trees, rule_runs, pair_trees, pair_runs}
use Rattle.walks.specs.Implements.{Propers, at, counters_eq, Ready, Registers, registers_front, registers_same}
use Rattle.walks.specs.Written.{written, written_lines, PlacedRegisters, written_adds, written_counts}
use Rattle.walks.specs.Legal.{Legal, LegalInt, legal_bound, legal_int_bound, legal_plain, legal_int_plain}
use Rattle.walks.specs.Plain.{PlainInt}
use Rattle.walks.specs.Constant.{Named}
use Rattle.walks.specs.Cells.{Places}
use Rattle.walks.specs.Good.{Quiet, Good, good_quiet}
use Rattle.walks.specs.Leaves.{weights, words_of, grows_words}
use Rattle.walks.specs.Visit.{same_later, Outcome, full, good, outcome_to}
use Rattle.walks.specs.Walked.{fixed, FactsAll}
use Rattle.walks.specs.Rules.{none_more, good_added, registers_visit}
use Rattle.walks.specs.ProperTrees.{Sounds, rule_sound, pair_sound}
use Rattle.walks.specs.NamedRule.{split_keeps}
use Rattle.walks.specs.Keys.{keys, Every, every_append, keys_within, keys_written, keys_int_written}
use Rattle.walks.specs.KeyAt.{looked_up, pair_keys, pair_within}
use Rattle.walks.specs.KeyPlaces.{AgreesWith, keys_plain, keys_int_plain, parted_agrees, rule_places, pair_places}
use Rattle.walks.specs.TreeFacts.{rule_facts, pair_facts}
use Rattle.walks.specs.LowIfs.{LowIfs}
use Rattle.walks.specs.Near.{rule_inside, pair_inside}
use Rattle.walks.specs.Next.{Ahead, Reset, SameMaps, good_reset, list_unknown, list_next, forms_ahead}

-- ---- the splitting

split_made : (e : BoolExpr) (t : Bool) (s : Log) → made_ints (cut e t s).log ≡ made_ints s
unfolding made_ints
split_made e t s = split_keeps (λ u. made_ints u ≡ made_ints s) (λ m u h. h) e t s refl

split_quiet : (ds : List Domain) (e : BoolExpr) (s : Log) → Quiet (Named ds) s (cut e false s).log (splits e below)
split_quiet ds e s =
    let d = split_sided e false s in
    record {
      bools = d.bools;
      ints = d.ints;
      keep = d.keep;
      keep_int = d.keep_int;
      ifs = d.keep_if;
      made = split_made e false s;
      top = d.top;
      named = λ h. split_keeps (Named ds) (λ m u k. (tt, k)) e false s h;
    }

split_words : (e : BoolExpr) (s : Log) → words_of (cut e false s).log ≡ words_of s
unfolding words_of
split_words e s = let d = split_sided e false s in rw (d.ints, d.quiet) refl

-- the counters behind the splitting
pub split_counters : (w : List ℤ) (e : BoolExpr) (s : Log) → next_bool s + splits e below ≤ limit → at w (cut e false s).log ≡ more-counted (splits e below) (at w s)
split_counters w e s h =
    let d = split_sided e false s in
    let b : next_bool (cut e false s).log ≡ bump (next_bool s) (splits e below) = omega (arith, d.bools) in
    counters_eq _ _ _ _ b (ap (int_count w) d.ints)

-- ---- any trees behind the splitting of an expression

-- the words of the clauses that t has more than s, their number, and the counters behind
pub record Writes (ds : List Domain) (ts : Trees) (w : List ℤ) (k : ℕ) (s t : Log) : Type 0 where
  pub adds : Registers (written (items ds ts) w (more-counted k (at w s))) (written_lines (items ds ts) w (more-counted k (at w s))) s t
  pub behind : counts (items ds ts) w (more-counted k (at w s)) ≡ at w t

module _ (ds : List Domain) (e : BoolExpr) (s : Log) (ts : Trees) (runs : normalize_and_register_expr ds e s ≡ registers ds ts (cut e false s).log) where
  abbrev behind_log : Log
  behind_log = normalize_and_register_expr ds e s

  -- the second walk
  split_written : Propers ts → (w : List ℤ) → Ready w behind_log → PlacedRegisters w ds ts (cut e false s).log → next_bool s + splits e below ≤ limit → Writes ds ts w (splits e below) s behind_log
  split_written p w r h l =
      let z = (cut e false s).log in
      let c = split_counters w e s l in
      let q : Ready w (registers ds ts z) = rw runs at r in
      let x = written_adds w ds ts p z q h in
      let y = written_counts w ds ts p z q h in
      record {
        adds = rw (sym c, runs) (registers_front (split_sided e false s).quiet x);
        behind = rw (sym c, runs) y;
      }

  -- the first walk; as in Rules
  module _ (F : List ℤ) (parted : ℕ → Bool) (K : ℕ → Option IntExpr) (rec cap : ℕ) (with_ifs : Bool) (before : List ℤ) (P : Places ds F PlainInt parted K (fixed ds)) (low : cap < limit) where
    split_visit : Sounds ts → FactsAll ds F parted K rec cap with_ifs before P low ts → (k m : ℕ) (st : State) → Good ds F PlainInt parted K (fixed ds) rec cap with_ifs before (Named ds) (splits e below + (weights ds ts + m)) st s → st.used ≤ words_of s + k
        → Outcome ds F PlainInt parted K (fixed ds) rec cap with_ifs before (Named ds) k m (λ w. PlacedRegisters w ds ts (cut e false s).log) st (meets ds rec cap ts (more_bools (splits e below) st)) behind_log
    split_visit p f k m st g u =
        let z = (cut e false s).log in
        let a = more_bools (splits e below) st in
        let g' = good_quiet ds F PlainInt parted K (fixed ds) rec cap with_ifs before (Named ds) P (splits e below) (weights ds ts + m) st s z (split_quiet ds e s) g in
        let x = registers_visit ds F parted K rec cap with_ifs before P low ts p.0 p.1 f k m a z g' (omega (arith, u, split_words e s)) in
        rw runs (from x)
      where
        from : Outcome ds F PlainInt parted K (fixed ds) rec cap with_ifs before (Named ds) k m (λ w. PlacedRegisters w ds ts (cut e false s).log) (more_bools (splits e below) st) (meets ds rec cap ts (more_bools (splits e below) st)) (registers ds ts (cut e false s).log)
            → Outcome ds F PlainInt parted K (fixed ds) rec cap with_ifs before (Named ds) k m (λ w. PlacedRegisters w ds ts (cut e false s).log) st (meets ds rec cap ts (more_bools (splits e below) st)) (registers ds ts (cut e false s).log)
        from (full x y) = full x y
        from (good h v r q) = good h v r q

-- ---- a rule and a pair in the folded words; parted: the places of Ifs with split parts

module _ (ds : List Domain) (F : List ℤ) (parted : ℕ → Bool) (rec cap : ℕ) (with_ifs : Bool) (before : List ℤ) (low : cap < limit) where
  abbrev pub GoodFor : (ℕ → Option IntExpr) → ℕ → State → Log → Type 0
  GoodFor K = Good ds F PlainInt parted K (fixed ds) rec cap with_ifs before (Named ds)

  abbrev pub OutcomeFor : (ℕ → Option IntExpr) → ℕ → ℕ → (List ℤ → Type 0) → State → State → Log → Type 0
  OutcomeFor K = Outcome ds F PlainInt parted K (fixed ds) rec cap with_ifs before (Named ds)

  -- the numbers of the splitting stay within the limit
  split_room : (K : ℕ → Option IntExpr) (k n : ℕ) (st : State) (s : Log) → GoodFor K (k + n) st s → next_bool s + k ≤ limit
  split_room K k n st s g = omega (arith, g.room, g.bools)

  -- a rule at p, from the log s
  module _ (e : BoolExpr) (l p : ℕ) (legal : Legal e l) (words : Has F p (encode_bool e)) (from : folded ≤ p) (to : p + length (encode_bool e) ≤ folded_end) (s : Log) (agree : Every (AgreesWith parted with_ifs) (keys e below p (next_bool s))) where
    abbrev pub rule_key : ℕ → Option IntExpr
    rule_key = looked_up (keys e below p (next_bool s))

    abbrev trees : Trees
    trees = rule_trees e p (next_bool s)

    abbrev behind : Log
    behind = normalize_and_register_expr ds e s

    rule_at : Places ds F PlainInt parted rule_key (fixed ds)
    rule_at = rule_places ds F parted (fixed ds) e p (next_bool s) (legal_plain e l legal) words from to (parted_agrees parted with_ifs agree)

    pub rule_visit : (k m : ℕ) (st : State) → GoodFor rule_key (splits e below + (weights ds (rule_trees e p (next_bool s)) + m)) st s → st.used ≤ words_of s + k
        → OutcomeFor rule_key k m (λ w. PlacedRegisters w ds (rule_trees e p (next_bool s)) (cut e false s).log) st (meets ds rec cap (rule_trees e p (next_bool s)) (more_bools (splits e below) st)) (normalize_and_register_expr ds e s)
    rule_visit k m st g u =
        split_visit ds e s trees (rule_runs ds e p s) F parted rule_key rec cap with_ifs before rule_at low (rule_sound e l p (next_bool s) legal (split_room rule_key (splits e below) (weights ds trees + m) st s g))
        (rule_facts ds F parted rec cap with_ifs before low e l p (next_bool s) legal words from to agree rule_at) k m st g u

    pub rule_written : (w : List ℤ) → next_bool s + splits e below ≤ limit → Ready w (normalize_and_register_expr ds e s) → PlacedRegisters w ds (rule_trees e p (next_bool s)) (cut e false s).log
        → Writes ds (rule_trees e p (next_bool s)) w (splits e below) s (normalize_and_register_expr ds e s)
    rule_written w i r h = split_written ds e s trees (rule_runs ds e p s) (rule_sound e l p (next_bool s) legal i).0 w r h i

    -- both, from a state under any keys
    pub rule_walks : (K : ℕ → Option IntExpr) (k m : ℕ) (st : State) → Ahead F p st.work → LowIfs (next_bool s) s → GoodFor K (splits e below + (weights ds (rule_trees e p (next_bool s)) + m)) st s → st.used ≤ words_of s + k
        → OutcomeFor rule_key k m (λ w. Ready w (normalize_and_register_expr ds e s) → Writes ds (rule_trees e p (next_bool s)) w (splits e below) s (normalize_and_register_expr ds e s))
        st (meets ds rec cap (rule_trees e p (next_bool s)) (more_bools (splits e below) st)) (normalize_and_register_expr ds e s)
    rule_walks K k m st a i g u =
        let b = splits e below + (weights ds trees + m) in
        let h = list_next ds F parted K (fixed ds) (keys_within e below p (next_bool s) (legal_bound e l legal)) (keys_written F e below p (next_bool s) words) (keys_plain e below p (next_bool s) (legal_plain e l legal)) from to rec cap with_ifs before (Named ds) b st s a i g in
        outcome_to ds F PlainInt parted rule_key (fixed ds) rec cap with_ifs before (Named ds) (λ w x r. rule_written w (split_room K (splits e below) (weights ds trees + m) st s g) r x) (rule_visit k m st h u)

    -- what stands behind it is unseen still
    pub rule_ahead : next_bool s + splits e below ≤ limit → (st : State) → let b = p + length (encode_bool e) in Ahead F b st.work → Ahead F b (meets ds rec cap (rule_trees e p (next_bool s)) st).work
    rule_ahead i st h = forms_ahead F ds rec cap p (p + length (encode_bool e)) (forms trees) (rule_inside e l p (next_bool s) legal i) st h

  -- a pair of an AllDifferent, its sides at p and q
  module _ (a b : IntExpr) (l p q : ℕ) (first : LegalInt a l) (second : LegalInt b l) (words : Has F p (encode_int a)) (others : Has F q (encode_int b)) (from : folded ≤ p) (then : p + length (encode_int a) ≤ q) (to : q + length (encode_int b) ≤ folded_end)
      (s : Log) (agree : Every (AgreesWith parted with_ifs) (pair_keys a b p q (next_bool s))) where
    abbrev pub pair_key : ℕ → Option IntExpr
    pair_key = looked_up (pair_keys a b p q (next_bool s))

    abbrev pub pair_splits : ℕ
    pair_splits = splits (Cmp Ne a b) below

    abbrev pair_of : Trees
    pair_of = pair_trees a b p q (next_bool s)

    pair_at : Places ds F PlainInt parted pair_key (fixed ds)
    pair_at = pair_places ds F parted (fixed ds) a b p q (next_bool s) (legal_int_plain a l first) (legal_int_plain b l second) words others from then to (parted_agrees parted with_ifs agree)

    pub pair_visit : (k m : ℕ) (st : State) → GoodFor pair_key (pair_splits + (weights ds (pair_trees a b p q (next_bool s)) + m)) st s → st.used ≤ words_of s + k
        → OutcomeFor pair_key k m (λ w. PlacedRegisters w ds (pair_trees a b p q (next_bool s)) (cut (Cmp Ne a b) false s).log) st (meets ds rec cap (pair_trees a b p q (next_bool s)) (more_bools pair_splits st)) (normalize_and_register_expr ds (Cmp Ne a b) s)
    unfolding splits
    pair_visit k m st g u =
        split_visit ds (Cmp Ne a b) s pair_of (pair_runs ds a b p q s) F parted pair_key rec cap with_ifs before pair_at low (pair_sound a b l p q (next_bool s) first second (split_room pair_key pair_splits (weights ds pair_of + m) st s g))
        (pair_facts ds F parted rec cap with_ifs before low a b l p q (next_bool s) first second words others from then to agree pair_at) k m st g u

    pub pair_written : (w : List ℤ) → next_bool s + pair_splits ≤ limit → Ready w (normalize_and_register_expr ds (Cmp Ne a b) s) → PlacedRegisters w ds (pair_trees a b p q (next_bool s)) (cut (Cmp Ne a b) false s).log
        → Writes ds (pair_trees a b p q (next_bool s)) w pair_splits s (normalize_and_register_expr ds (Cmp Ne a b) s)
    unfolding splits
    pair_written w i r h = split_written ds (Cmp Ne a b) s pair_of (pair_runs ds a b p q s) (pair_sound a b l p q (next_bool s) first second i).0 w r h i

    -- from a state under any keys, the cells of Ifs with split parts cleared: w
    pub pair_walks : (K : ℕ → Option IntExpr) (k m : ℕ) (st : State) (w : List ℤ) → SameMaps ds F PlainInt parted K pair_key (fixed ds) st.work w → Reset ds F PlainInt parted K pair_key (fixed ds) st.work w
        → ((o : ℕ) (e : IntExpr) → pair_key o ≡ some e → seen_in (cell w (o + 1)) ≡ unseen) → LowIfs (next_bool s) s → GoodFor K (pair_splits + (weights ds (pair_trees a b p q (next_bool s)) + m)) st s → st.used ≤ words_of s + k
        → OutcomeFor pair_key k m (λ w. Ready w (normalize_and_register_expr ds (Cmp Ne a b) s) → Writes ds (pair_trees a b p q (next_bool s)) w pair_splits s (normalize_and_register_expr ds (Cmp Ne a b) s))
        (with_work w st) (meets ds rec cap (pair_trees a b p q (next_bool s)) (more_bools pair_splits (with_work w st))) (normalize_and_register_expr ds (Cmp Ne a b) s)
    pair_walks K k m st w f r c i g u =
        let n = next_bool s in
        let d = pair_splits + (weights ds pair_of + m) in
        let x = list_unknown ds F parted K (fixed ds) (pair_within a b p q n (legal_int_bound a l first) (legal_int_bound b l second) then)
        (every_append (keys_int_written F a here p n words) (keys_int_written F b here q (n + splits_int a here) others))
        (every_append (keys_int_plain a here p n (legal_int_plain a l first)) (keys_int_plain b here q (n + splits_int a here) (legal_int_plain b l second))) from to s i in
        let h = good_reset ds F PlainInt parted K pair_key (fixed ds) rec cap with_ifs before (Named ds) d st w s f r (record { blank = c; unknown = x }) g in
        outcome_to ds F PlainInt parted pair_key (fixed ds) rec cap with_ifs before (Named ds) (λ v y z. pair_written v (split_room K pair_splits (weights ds pair_of + m) st s g) z y) (pair_visit k m (with_work w st) h u)

    -- what stands behind both is unseen still
    pub pair_ahead : next_bool s + pair_splits ≤ limit → (st : State) → let e = q + length (encode_int b) in Ahead F e st.work → Ahead F e (meets ds rec cap (pair_trees a b p q (next_bool s)) st).work
    unfolding splits
    pair_ahead i st h = forms_ahead F ds rec cap p (q + length (encode_int b)) (forms pair_of) (pair_inside a b l p q (next_bool s) first second then i) st h

-- ---- the rule that is true

module _ (ds : List Domain) (p : ℕ) (s : Log) where
  true_log : normalize_and_register_expr ds (Const true) s ≡ added [] ∷ s
  unfolding normalize_and_register_expr register_each register normalize_bool_expr cut unsplit
  true_log = refl

  true_written : (w : List ℤ) → next_bool s ≤ limit → Writes ds (rule_trees (Const true) p (next_bool s)) w 0 s (normalize_and_register_expr ds (Const true) s)
  unfolding resolve ties forms form_items conj_item written written_lines counts texts regs reg_lines all_lines lines_of clauses_of
  true_written w h =
      let b : bump (next_bool s) 0 ≡ next_bool s = omega arith in
      rw true_log (record { adds = registers_same s (added [] ∷ s) (append-nil (clauses_of s)); behind = rw b refl })

  true_meets : (rec cap : ℕ) (st : State) → meets ds rec cap (rule_trees (Const true) p (next_bool s)) st ≡ st
  unfolding resolve ties forms form_meet
  true_meets rec cap st = refl

  -- both walks, under any keys
  pub true_walks : (F : List ℤ) (parted : ℕ → Bool) (K : ℕ → Option IntExpr) (rec cap : ℕ) (with_ifs : Bool) (before : List ℤ) (P : Places ds F PlainInt parted K (fixed ds)) (low : cap < limit) (k m : ℕ) (st : State) → GoodFor ds F parted rec cap with_ifs before low K m st s → st.used ≤ words_of s + k
      → OutcomeFor ds F parted rec cap with_ifs before low K k m (λ w. Ready w (normalize_and_register_expr ds (Const true) s) → Writes ds (rule_trees (Const true) p (next_bool s)) w (splits (Const true) below) s (normalize_and_register_expr ds (Const true) s))
      st (meets ds rec cap (rule_trees (Const true) p (next_bool s)) (more_bools (splits (Const true) below) st)) (normalize_and_register_expr ds (Const true) s)
  unfolding splits
  true_walks F parted K rec cap with_ifs before P low k m st g u =
      let b : next_bool s ≤ limit = omega (arith, g.room, g.bools) in
      let e : meets ds rec cap (rule_trees (Const true) p (next_bool s)) (more_bools 0 st) ≡ st = true_meets rec cap (more_bools 0 st) ∙ none_more st (omega (arith, g.room)) in
      let h : GoodFor ds F parted rec cap with_ifs before low K m st (normalize_and_register_expr ds (Const true) s) = rw true_log (good_added ds F parted K rec cap with_ifs before P low [] m st s g) in
      let l : words_of s ≤ words_of (normalize_and_register_expr ds (Const true) s) = rw true_log (grows_words (grow_added [] s)) in
      rw e (good h (omega (arith, u, l)) (same_later ds F PlainInt parted K (fixed ds) st.work) (λ w x r. true_written w b))
