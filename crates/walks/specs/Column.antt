-- A table's column in the first walk: its expression, of which nothing is split, then for one that is no declared variable a new integer whose number
-- plus 1 is kept at the column's place. That cell is no If's: no If stands right before the column, and none that reaches it is seen (`Ahead`).
use Rattle.std.specs.Prelude.{◌≡◌, refl, Bool, cond, List, [], ◌∷◌, ℕ, suc, ◌+◌, ◌≤◌, ◌<◌, ℤ}
use Rattle.std.proofs.Common.{sym, ◌∙◌, subst, inl, arith}
use Rattle.std.proofs.Math.Path.{ap}
use Rattle.std.proofs.Math.Bool.{true, false}
use Rattle.std.proofs.Math.Option.{Option}
use Rattle.std.proofs.Math.IntN.{pos}
use Rattle.std.proofs.Math.ListN.{length, length-set}
use Rattle.std.proofs.Math.Seq.{get_or-set_same, get_or-set_other, take-set-le}
use borrow.Author.Tests.{lt-ltb}
use Rattle.laws.specs.Ints.{is_zero}
use Rattle.laws.specs.Bools.{never as no_bool}
use Rattle.laws.specs.Slices.{Has}
use Rattle.memory.specs.Places.{folded, folded_end, bool_map, int_map, cells, limit}
use Rattle.memory.specs.Number.{nat}
use Rattle.syntax.specs.Syntax.{Domain, IntExpr, IConst, IVar, Linear, If, encode_int}
use Rattle.syntax.specs.Lengths.{int_long}
use Rattle.syntax.specs.Words.{max_bools, min_work_words, max_ints}
use Rattle.clauses.specs.Log.{column, int, Log, next_int}
use Rattle.clauses.specs.Normalize.{IntOut, equals, normalize_int_var, domain_of_sum, normalize_int_expr}
use Rattle.tables.specs.Tables.{new_column, old_column, equivalent_int_var}
use Rattle.walk.specs.Item.{bool_at, int_entry}
use Rattle.walk.specs.Decode.{read_part}
use Rattle.walk.proofs.Grow.{grow_added}
use Rattle.walks.specs.Tree.{IntTree, never, splits_int, resolve_int, run_int}
use Rattle.walks.specs.Form.{IntForm, const, ivar, sum, choice, int_form}
use Rattle.walks.specs.Resolve.{column_runs, never_int}
use Rattle.walks.specs.Item.{has_ifs, cell, unseen, numbered, seen_in, form_int_item}
use Rattle.walks.specs.Distinct.{unseen_numbered}
use Rattle.walks.specs.Placed.{PlacedInt}
use Rattle.walks.specs.Meet.{State, counters_of, with_work, set_cell, range_record, range_of, is_full, new_int, form_meet_int, meet_int}
use Rattle.walks.specs.Implements.{ProperInt}
use Rattle.walks.specs.Ranges.{range_behind}
use Rattle.walks.specs.Plain.{PlainInt}
use Rattle.walks.specs.Apart.{int_apart}
use Rattle.walks.specs.Constant.{Named}
use Rattle.walks.specs.Cells.{word_kept, IsIf, Stands, Key, Is, Cells, Places, key_stands, stands_of}
use Rattle.walks.specs.Good.{Good, blanks, blanks_other, no_int, good_less, good_new}
use Rattle.walks.specs.Leaves.{LeafyInt, words_of, grows_words, words_int}
use Rattle.walks.specs.Legal.{LegalInt}
use Rattle.walks.specs.ProperTrees.{SoundInt, sound_int}
use Rattle.walks.specs.Visit.{Later, later_then, same_later, Outcome, full, good, good_counters, good_ready, not_full}
use Rattle.walks.specs.Walked.{fixed, names, FactsInt, visit_int}
use Rattle.walks.specs.Rules.{good_added}
use Rattle.walks.specs.Keys.{keys_int, Every}
use Rattle.walks.specs.KeyPlaces.{AgreesWith}
use Rattle.walks.specs.TreeFacts.{column_facts}
use Rattle.walks.specs.Near.{WithinInt, int_form_near, column_inside}
use Rattle.walks.specs.Next.{Ahead, int_form_ahead}

-- ---- the walk; ds: the declared domains, rec: where the records begin, cap: the longest answer

module _ (ds : List Domain) (rec cap : ℕ) where
  -- an integer of the domain d for the column at p
  unfoldable pub number_column : ℕ → Domain → State → State
  number_column p d st = new_int ds rec cap (range_record d) (with_work (set_cell p (pos (st.ints + 1)) st.work) st)

  -- the expression, then the integer
  unfoldable pub meet_sum : ℕ → IntForm → State → State
  meet_sum p e st =
      let a = form_meet_int ds rec cap e st in
      cond (is_full ds rec cap a) a (number_column p (range_of (form_int_item ds e) a.work (counters_of st)) a)

  unfoldable pub meet_column : ℕ → IntForm → State → State
  meet_column p (const c) st = meet_sum p (const c) st
  meet_column p (ivar v) st = form_meet_int ds rec cap (ivar v) st
  meet_column p (sum ts) st = meet_sum p (sum ts) st
  meet_column p (choice q o c d t f) st = meet_sum p (choice q o c d t f) st

-- no declared variable
abbrev pub IsSum : IntExpr → Type 0
IsSum (IConst c) = Unit {0}
IsSum (IVar v) = ⊥
IsSum (Linear ts) = Unit {0}
IsSum (If i c t f) = Unit {0}

none_split : (k : ℕ) → k ≡ 0 → 0 + k ≤ limit
none_split k h = omega arith

-- nothing of it is split: its tree is a sound one
pub column_sound : (e : IntExpr) (l p : ℕ) → LegalInt e l → SoundInt (resolve_int e never p 0)
column_sound e l p h = sound_int e l never p 0 h (none_split (splits_int e never) (never_int e))

-- ---- cells that are no If's

-- the cell behind each If's place stays, and the other two where it is seen
module _ (ds : List Domain) (F : List ℤ) (Plain : IntExpr → Type 0) (parted : ℕ → Bool) (K : ℕ → Option IntExpr) (fixed : IntExpr → Bool) (P : Places ds F Plain parted K fixed) (w w' : List ℤ)
    (same : (q : ℕ) (e : IntExpr) → Stands ds F Plain parted K fixed q e → cell w' (q + 1) ≡ cell w (q + 1)) (later : Later ds F Plain parted K fixed w w') where
  under : (q : ℕ) (e : IntExpr) → Key ds F Plain parted K fixed q e → cell w' (q + 1) ≡ cell w (q + 1)
  under q e k = same q (key_stands ds F Plain parted K fixed P q e k) (stands_of ds F Plain parted K fixed P q e k)

  cells_later : (s : Log) → Cells ds F Plain parted K fixed w s → Cells ds F Plain parted K fixed w' s
  cells_later s c = record {
    number = λ q e v b k h. nu q e v b k (ap seen_in (sym (under q e k)) ∙ h);
    const = λ q e k h. c.const q e k (ap seen_in (sym (under q e k)) ∙ h);
    fresh = λ q e k h. c.fresh q e k (ap seen_in (sym (same q (P.under q e k) (P.stand q e k))) ∙ h);
    complete = λ e v p h.
        let x = c.complete e v p h in
        record { place = x.place; stands = x.stands; whole = x.whole; shared = ap seen_in (same x.place e x.stands) ∙ x.shared };
    unshared = λ q e v t d h. c.unshared q e v t d (ap seen_in (sym (same q e t)) ∙ h);
  }
    where
      nu : (q : ℕ) (e : IntExpr) (v : ℕ) (b : Bool) → Key ds F Plain parted K fixed q e → seen_in (cell w (q + 1)) ≡ numbered v b → Is ds F Plain parted K fixed w' s q e v
      nu q e v b k h =
          let t = stands_of ds F Plain parted K fixed P q e k in
          let d = key_stands ds F Plain parted K fixed P q e k in
          let i = c.number q e v b k h in
          record {
            found = i.found;
            low = later.stay q d t (λ z. unseen_numbered (sym z ∙ h)) 2 (omega arith) (omega arith) ∙ i.low;
            high = later.stay q d t (λ z. unseen_numbered (sym z ∙ h)) 3 (omega arith) (omega arith) ∙ i.high;
          }

-- ---- the column's own cell; e stands at p

module _ (F : List ℤ) (e : IntExpr) (p : ℕ) (words : Has F p (encode_int e)) where
  own_apart : {X : Type 0} (q : ℕ) (d : IntExpr) → IsIf d → Has F q (encode_int d) → q + 1 ≡ p → X
  own_apart q (IConst c) i h z = absurd i
  own_apart q (IVar v) i h z = absurd i
  own_apart q (Linear ts) i h z = absurd i
  own_apart q (If j c t f) i h z = int_apart F q j c t f e h (subst (λ (u : ℕ). Has F u (encode_int e)) (sym z) words)

  own_cell : (w : List ℤ) (x : ℤ) (q : ℕ) → (q ≡ p → ⊥) → cell (set_cell p x w) q ≡ cell w q
  unfolding cell
  own_cell w x q n = get_or-set_other w (cells + p) (cells + q) x (pos 0) (λ z. n (omega arith))

  own_same : (w : List ℤ) (x : ℤ) (q : ℕ) (d : IntExpr) → IsIf d → Has F q (encode_int d) → cell (set_cell p x w) (q + 1) ≡ cell w (q + 1)
  own_same w x q d i h = own_cell w x (q + 1) (λ z. own_apart q d i h z)

  -- no If before it is seen that reaches it
  abbrev Clear : List ℤ → Type 0
  Clear w = (q : ℕ) (d : IntExpr) → IsIf d → Has F q (encode_int d) → folded ≤ q → q < folded_end → p ≤ q + 3 → q < p → seen_in (cell w (q + 1)) ≡ unseen

  own_word : (w : List ℤ) (x : ℤ) → p < folded_end → has_ifs (set_cell p x w) ≡ has_ifs w
  own_word w x h = word_kept w (cells + p) x (λ z. omega arith)

  own_later : (ds : List Domain) (parted : ℕ → Bool) (K : ℕ → Option IntExpr) (fixed : IntExpr → Bool) (w : List ℤ) (x : ℤ) → p < folded_end → Clear w → Later ds F PlainInt parted K fixed w (set_cell p x w)
  own_later ds parted K fixed w x h a = record {
    stay = λ q d t n k l m. own_cell w x (q + k) (λ z. n (a q d t.is_if t.words t.low t.high (omega arith) (omega arith)));
    word = own_word w x h;
  }

  -- what stands behind it
  own_ahead : (b : ℕ) (w : List ℤ) (x : ℤ) → Ahead F b w → Ahead F b (set_cell p x w)
  own_ahead b w x h q d i t m n k = ap seen_in (own_same w x q d i t) ∙ h q d i t m n k

-- ---- the state of a log

-- as in Rules
module _ (ds : List Domain) (F : List ℤ) (parted : ℕ → Bool) (K : ℕ → Option IntExpr) (rec cap : ℕ) (with_ifs : Bool) (before : List ℤ) (P : Places ds F PlainInt parted K (fixed ds)) (low : cap < limit) where
  abbrev GoodAt : ℕ → State → Log → Type 0
  GoodAt = Good ds F PlainInt parted K (fixed ds) rec cap with_ifs before (Named ds)

  abbrev OutcomeAt : ℕ → ℕ → (List ℤ → Type 0) → State → State → Log → Type 0
  OutcomeAt = Outcome ds F PlainInt parted K (fixed ds) rec cap with_ifs before (Named ds)

  module _ (e : IntExpr) (p : ℕ) (words : Has F p (encode_int e)) (from : folded ≤ p) (to : p < folded_end) where
    cell_good : (x : ℤ) (n : ℕ) (st : State) (s : Log) → Clear F e p words st.work → GoodAt n st s → GoodAt n (with_work (set_cell p x st.work) st) s
    unfolding bool_at int_entry read_part
    cell_good x n st s a g =
        let w = st.work in
        let b : blanks is_zero (set_cell p x w) bool_map max_bools ≡ blanks is_zero w bool_map max_bools = blanks_other is_zero w bool_map (cells + p) x max_bools (λ u m q. omega arith) in
        let c : blanks no_int (set_cell p x w) int_map max_ints ≡ blanks no_int w int_map max_ints = blanks_other no_int w int_map (cells + p) x max_ints (λ u m q. omega arith) in
        record {
          map = λ u l. get_or-set_other w (cells + p) (bool_map + u) x (pos 0) (λ q. omega arith) ∙ g.map u l;
          map_int = λ u l. ap nat (get_or-set_other w (cells + p) (int_map + u) x (pos 0) (λ q. omega arith)) ∙ g.map_int u l;
          bools = g.bools;
          ints = g.ints;
          low = g.low;
          low_int = g.low_int;
          size = rw length-set g.size;
          words = take-set-le folded_end w (cells + p) x (omega arith) ∙ g.words;
          word = own_word F e p words w x to ∙ g.word;
          records = g.records;
          cells = cells_later ds F PlainInt parted K (fixed ds) P w (set_cell p x w) (λ q d t. own_same F e p words w x q d t.is_if t.words) (own_later F e p words ds parted K (fixed ds) w x to a) s g.cells;
          below = g.below;
          opens = g.opens;
          named = g.named;
          used = g.used;
          room = omega (arith, g.room, b, c);
        }

    -- its integer, of any sum
    number_good : (x : IntOut) (n : ℕ) (st : State) → Clear F e p words st.work → GoodAt (suc n) st x.1 → GoodAt n (number_column ds rec cap p (domain_of_sum ds x.1 x.0) st) (new_column ds x).log
    unfolding number_column new_column
    number_good x n st a g =
        let d = domain_of_sum ds x.1 x.0 in
        let w = with_work (set_cell p (pos (st.ints + 1)) st.work) st in
        let h = good_new ds F PlainInt parted K (fixed ds) rec cap with_ifs before (Named ds) (names ds) P (column x.0 d) (λ v. refl) n w x.1 (cell_good (pos (st.ints + 1)) (suc n) st x.1 a g) in
        good_added ds F parted K rec cap with_ifs before P low (equals x.0 (next_int x.1) ∷ []) n (new_int ds rec cap (range_record d) w) (int (column x.0 d) ∷ x.1) h

    column_words : (x : IntOut) → words_of x.1 ≤ words_of (new_column ds x).log
    unfolding new_column
    column_words x =
        let d = domain_of_sum ds x.1 x.0 in
        let y = int (column x.0 d) ∷ x.1 in
        omega (arith, grows_words (grow_added (equals x.0 (next_int x.1) ∷ []) y), words_int (column x.0 d) x.1)

    -- a tree that stands from p to b
    module _ (t : IntTree) (proper : ProperInt t) (leafy : LeafyInt t) (facts : FactsInt ds F parted K rec cap with_ifs before P low t) (b : ℕ) (inside : WithinInt p b (int_form t)) where
      abbrev visited : State → State
      visited st = meet_int ds rec cap t st

      clear_behind : (st : State) → Ahead F p st.work → Clear F e p words (visited st).work
      clear_behind st h q d i w m n k l =
          ap seen_in (int_form_near ds rec cap p b (q + 1) (omega arith, inl (omega arith)) (int_form t) inside st) ∙ h q d i w m n k

      -- the domain as found is that of the sum
      range_good : (n m : ℕ) (st : State) (s : Log) → GoodAt n st s → GoodAt m (visited st) (run_int ds t s).1 → PlacedInt (visited st).work ds t s
          → range_of (form_int_item ds (int_form t)) (visited st).work (counters_of st) ≡ domain_of_sum ds (run_int ds t s).1 (run_int ds t s).0
      range_good n m st s g h q =
          let r = good_ready ds F PlainInt parted K (fixed ds) rec cap with_ifs before (Named ds) (names ds) P low m (visited st) (run_int ds t s).1 h in
          ap (range_of (form_int_item ds (int_form t)) (visited st).work) (good_counters ds F PlainInt parted K (fixed ds) rec cap with_ifs before (Named ds) n st s (visited st).work g h.word) ∙ range_behind (visited st).work ds t proper s r q

      sum_visit : (k m : ℕ) (st : State) (s : Log) → Ahead F p st.work → GoodAt (suc m) st s → st.used ≤ words_of s + k
          → OutcomeAt k m (λ w. PlacedInt w ds t s) st (meet_sum ds rec cap p (int_form t) st) (new_column ds (run_int ds t s)).log
      unfolding meet_sum
      sum_visit k m st s a g u = go (visit_int ds F parted K rec cap with_ifs before P low t proper leafy facts k (suc m) st s g u)
        where
          go : OutcomeAt k (suc m) (λ w. PlacedInt w ds t s) st (visited st) (run_int ds t s).1 → OutcomeAt k m (λ w. PlacedInt w ds t s) st (meet_sum ds rec cap p (int_form t) st) (new_column ds (run_int ds t s)).log
          go (full x y) =
              let f = lt-ltb cap (visited st).used x in
              rw f (full x (omega (arith, y, column_words (run_int ds t s))))
          go (good h v r q) =
              let f = not_full ds F PlainInt parted K (fixed ds) rec cap with_ifs before (Named ds) (names ds) P low (visited st) h.used in
              let z = range_good (suc m) (suc m) st s g h (q (visited st).work (same_later ds F PlainInt parted K (fixed ds) (visited st).work)) in
              let c = clear_behind st a in
              let w = set_cell p (pos ((visited st).ints + 1)) (visited st).work in
              let o = own_later F e p words ds parted K (fixed ds) (visited st).work (pos ((visited st).ints + 1)) to c in
              rw (f, z) (unfold number_column new_int in
              (good (number_good (run_int ds t s) m (visited st) c h) (omega (arith, v, column_words (run_int ds t s)))
              (later_then ds F PlainInt parted K (fixed ds) st.work (visited st).work w r o) (λ w' l. q w' (later_then ds F PlainInt parted K (fixed ds) (visited st).work w w' o l))))

      number_kept : (d : Domain) (a : State) → min_work_words ≤ length a.work → cell (number_column ds rec cap p d a).work p ≡ pos (a.ints + 1)
      unfolding number_column new_int cell
      number_kept d a h = get_or-set_same a.work (cells + p) (pos (a.ints + 1)) (pos 0) (omega arith)

      sum_kept : (k m : ℕ) (st : State) (s : Log) → GoodAt (suc m) st s → st.used ≤ words_of s + k → is_full ds rec cap (meet_sum ds rec cap p (int_form t) st) ≡ false
          → cell (meet_sum ds rec cap p (int_form t) st).work p ≡ pos (next_int (run_int ds t s).1 + 1)
      unfolding meet_sum
      sum_kept k m st s g u i = go (visit_int ds F parted K rec cap with_ifs before P low t proper leafy facts k (suc m) st s g u)
        where
          go : OutcomeAt k (suc m) (λ w. PlacedInt w ds t s) st (visited st) (run_int ds t s).1 → cell (meet_sum ds rec cap p (int_form t) st).work p ≡ pos (next_int (run_int ds t s).1 + 1)
          go (full x y) =
              let f : is_full ds rec cap (visited st) ≡ true = lt-ltb cap (visited st).used x in
              let j : is_full ds rec cap (visited st) ≡ false = rw f at i in
              no_bool (sym j ∙ f)
          go (good h v r q) =
              let f = not_full ds F PlainInt parted K (fixed ds) rec cap with_ifs before (Named ds) (names ds) P low (visited st) h.used in
              rw f (number_kept _ (visited st) h.size ∙ ap (λ (x : ℕ). pos (x + 1)) h.ints)

      either_ahead : (c : Bool) (x y : State) → Ahead F b x.work → Ahead F b y.work → Ahead F b (cond c x y).work
      either_ahead true x y i j = i
      either_ahead false x y i j = j

      sum_ahead : (st : State) → Ahead F b st.work → Ahead F b (meet_sum ds rec cap p (int_form t) st).work
      unfolding meet_sum number_column new_int
      sum_ahead st h =
          let x = int_form_ahead F ds rec cap p b (int_form t) inside st h in
          either_ahead (is_full ds rec cap (visited st)) (visited st) (number_column ds rec cap p (range_of (form_int_item ds (int_form t)) (visited st).work (counters_of st)) (visited st)) x (own_ahead F e p words b (visited st).work (pos ((visited st).ints + 1)) x)

  -- ---- a column in the folded words: its expression e at p, from the log s

  abbrev column_tree : IntExpr → ℕ → IntTree
  column_tree e p = resolve_int e never p 0

  module _ (l p : ℕ) (from : folded ≤ p) where
    abbrev pub StandsHere : IntExpr → Type 0
    StandsHere e = LegalInt e l × Has F p (encode_int e) × (p + length (encode_int e) ≤ folded_end) × Every (AgreesWith parted with_ifs) (keys_int e never p 0)

    high : (e : IntExpr) → StandsHere e → p < folded_end
    high e h = below (length (encode_int e)) (int_long e) h.2
      where
        below : (n : ℕ) → 2 ≤ n → p + n ≤ folded_end → p < folded_end
        below n i j = omega arith

    column_know : (e : IntExpr) → StandsHere e → FactsInt ds F parted K rec cap with_ifs before P low (column_tree e p)
    column_know e h = column_facts ds F parted rec cap with_ifs before low K e l p 0 h.0 h.1 from h.2 h.3 P

    column_inner : (e : IntExpr) → LegalInt e l → WithinInt p (p + length (encode_int e)) (int_form (column_tree e p))
    column_inner e h = column_inside e l never p 0 h (none_split (splits_int e never) (never_int e))

    sum_column : (e : IntExpr) → StandsHere e → (k m : ℕ) (st : State) (s : Log) → Ahead F p st.work → GoodAt (suc m) st s → st.used ≤ words_of s + k
        → OutcomeAt k m (λ w. PlacedInt w ds (column_tree e p) s) st (meet_sum ds rec cap p (int_form (column_tree e p)) st) (new_column ds (normalize_int_expr ds e s)).log
    sum_column e h k m st s a g u =
        let q = column_sound e l p h.0 in
        rw (column_runs ds e p 0) (sum_visit e p h.1 from (high e h) (column_tree e p) q.0 q.1 (column_know e h) (p + length (encode_int e)) (column_inner e h.0) k m st s a g u)

    sum_column_ahead : (e : IntExpr) → StandsHere e → (st : State) → let b = p + length (encode_int e) in Ahead F b st.work → Ahead F b (meet_sum ds rec cap p (int_form (column_tree e p)) st).work
    sum_column_ahead e h st a =
        let q = column_sound e l p h.0 in
        sum_ahead e p h.1 from (high e h) (column_tree e p) q.0 q.1 (column_know e h) (p + length (encode_int e)) (column_inner e h.0) st a

    sum_column_kept : (e : IntExpr) → StandsHere e → (k m : ℕ) (st : State) (s : Log) → GoodAt (suc m) st s → st.used ≤ words_of s + k → is_full ds rec cap (meet_sum ds rec cap p (int_form (column_tree e p)) st) ≡ false
        → cell (meet_sum ds rec cap p (int_form (column_tree e p)) st).work p ≡ pos (next_int (normalize_int_expr ds e s).1 + 1)
    sum_column_kept e h k m st s g u f =
        let q = column_sound e l p h.0 in
        rw (column_runs ds e p 0) (sum_kept e p h.1 from (high e h) (column_tree e p) q.0 q.1 (column_know e h) (p + length (encode_int e)) (column_inner e h.0) k m st s g u f)

    pub column_visit : (e : IntExpr) → StandsHere e → (k m : ℕ) (st : State) (s : Log) → Ahead F p st.work → GoodAt (suc m) st s → st.used ≤ words_of s + k
        → OutcomeAt k m (λ w. PlacedInt w ds (resolve_int e never p 0) s) st (meet_column ds rec cap p (int_form (resolve_int e never p 0)) st) (equivalent_int_var ds e s).log
    unfolding resolve_int int_form meet_column equivalent_int_var
    column_visit (IConst c) h k m st s a g u = sum_column (IConst c) h k m st s a g u
    column_visit (IVar v) h k m st s a g u =
        let q = column_sound (IVar v) l p h.0 in
        unfold run_int normalize_int_var old_column in
        visit_int ds F parted K rec cap with_ifs before P low (column_tree (IVar v) p) q.0 q.1 (column_know (IVar v) h) k m st s (good_less ds F PlainInt parted K (fixed ds) rec cap with_ifs before (Named ds) (suc m) m st s (omega arith) g) u
    column_visit (Linear ts) h k m st s a g u = sum_column (Linear ts) h k m st s a g u
    column_visit (If i c t f) h k m st s a g u = sum_column (If i c t f) h k m st s a g u

    -- what stands behind it is unseen still
    pub column_ahead : (e : IntExpr) → StandsHere e → (st : State) → let b = p + length (encode_int e) in Ahead F b st.work → Ahead F b (meet_column ds rec cap p (int_form (resolve_int e never p 0)) st).work
    unfolding resolve_int int_form meet_column
    column_ahead (IConst c) h st a = sum_column_ahead (IConst c) h st a
    column_ahead (IVar v) h st a = int_form_ahead F ds rec cap p (p + length (encode_int (IVar v))) (int_form (column_tree (IVar v) p)) (column_inner (IVar v) h.0) st a
    column_ahead (Linear ts) h st a = sum_column_ahead (Linear ts) h st a
    column_ahead (If i c t f) h st a = sum_column_ahead (If i c t f) h st a

    -- its number plus 1 is kept at its place
    pub column_kept : (e : IntExpr) → IsSum e → StandsHere e → (k m : ℕ) (st : State) (s : Log) → GoodAt (suc m) st s → st.used ≤ words_of s + k → is_full ds rec cap (meet_column ds rec cap p (int_form (resolve_int e never p 0)) st) ≡ false
        → cell (meet_column ds rec cap p (int_form (resolve_int e never p 0)) st).work p ≡ pos (next_int (normalize_int_expr ds e s).1 + 1)
    unfolding resolve_int int_form meet_column
    column_kept (IConst c) i h k m st s g u f = sum_column_kept (IConst c) h k m st s g u f
    column_kept (IVar v) i h k m st s g u f = absurd i
    column_kept (Linear ts) i h k m st s g u f = sum_column_kept (Linear ts) h k m st s g u f
    column_kept (If j c t x) i h k m st s g u f = sum_column_kept (If j c t x) h k m st s g u f
