-- An AllDifferent among whose expressions Ifs may stand: its pairs as parts of stages, by the words where they stand. Each pair is numbered again right
-- before it is written. ws: the words that are read, rec: where the records begin, cap: the longest answer.
use Rattle.std.specs.Prelude.{◌≡◌, Bool, not, ℤ, pos, length, get_or}
use Rattle.std.proofs.Math.Path.{refl, sym, ap, subst}
use Rattle.std.proofs.Common.{◌∙◌, arith, sub-one, get_or-drop}
use Rattle.std.proofs.Math.Bool.{true, false, cond}
use mathlib.Core.List.{List, [], ◌∷◌, ◌++◌, append_assoc, append-nil}
use Prim.Native.Nat.{ℕ, zero, suc, ◌+◌, ◌-◌, ◌≤◌, ◌<◌}
use Rattle.std.proofs.Math.Dec.{ltb}
use borrow.Author.Tests.{ltb-true, lt-ltb, le-ltb}
use Rattle.laws.specs.Ints.{is_zero}
use Rattle.laws.specs.Writes.{cap as last-place, Wrote, wrote_then, wrote_to, wrote_none, Open}
use Rattle.laws.specs.Slices.{Has}
use Rattle.memory.specs.Places.{ifs_word, limit}
use Rattle.syntax.specs.Syntax.{Domain, Ne, IntExpr, Cmp, encode_int}
use Rattle.syntax.specs.Words.{min_work_words}
use Rattle.walk.specs.Item.{bump}
use Rattle.walk.specs.declared.Counters.{Counters}
use Rattle.walks.specs.Tree.{below, here, splits}
use Rattle.walks.specs.Form.{Forms}
use Rattle.walks.specs.Resolve.{pair_trees}
use Rattle.walks.specs.Legal.{LegalInt}
use Rattle.walks.specs.Item.{counters, has_ifs, more_bools, counts, form_items, items}
use Rattle.walks.specs.Decode.{decode_int}
use Rattle.walks.specs.DecodeExact.{pair_at, PairStands, pair_stands}
use Rattle.walks.specs.Meet.{State, counters_of}
use Rattle.walks.specs.Written.{written, written_lines}
use Rattle.walks.specs.SumsFit.{FormsFit, WithinSides, pair_fits}
use Rattle.stages.specs.Columns.{column_at}
use Rattle.stages.specs.StatementsParts.{Part, meet_parts, again_text, again_lines}
use Rattle.stages.specs.Pairs.{pair_stage}
use Rattle.declared.specs.DomainTable.{Declares}
use Rattle.numbering.specs.Declares.{declares_kept}
use Rattle.numbering.specs.Task.{Low, Kept, kept_same, kept_then}
use Rattle.numbering.specs.Fits.{Unless}
use Rattle.numbering.specs.Tasks.{cleared_task}
use Rattle.rulewriter.specs.Pair.{pair_numbers}

-- ---- parts one after another

meet_append : (xs ys : List Part) (st : State) → meet_parts (xs ++ ys) st ≡ meet_parts ys (meet_parts xs st)
unfolding meet_parts
meet_append [] ys st = refl
meet_append (x ∷ xs) ys st = meet_append xs ys (x.meet st)

pub again_append : (xs ys : List Part) (st : State) → again_text (xs ++ ys) st ≡ again_text xs st ++ again_text ys (meet_parts xs st)
unfolding meet_parts again_text
again_append [] ys st = refl
again_append (x ∷ xs) ys st =
    let us = x.text (x.meet st).work (counters_of st) in
    ap (λ (vs : List ℤ). us ++ vs) (again_append xs ys (x.meet st)) ∙ sym (append_assoc us (again_text xs (x.meet st)) (again_text ys (meet_parts xs (x.meet st))))

lines_low : (xs : List Part) (st : State) → again_lines xs st ≤ limit
unfolding again_lines
lines_low [] st = omega arith
lines_low (x ∷ xs) st = omega arith

pub lines_append : (xs ys : List Part) (st : State) → again_lines (xs ++ ys) st ≡ bump (again_lines xs st) (again_lines ys (meet_parts xs st))
unfolding meet_parts again_lines
lines_append [] ys st = omega (arith, lines_low ys st)
lines_append (x ∷ xs) ys st = omega (arith, lines_append xs ys (x.meet st))

-- up to where the walk is full
unfoldable pub meet_until : ℕ → List Part → State → State
meet_until cap [] st = st
meet_until cap (x ∷ xs) st = cond (ltb cap st.used) st (meet_until cap xs (x.meet st))

module _ (cap : ℕ) where
  pub until_full : (xs : List Part) (st : State) → cap < st.used → meet_until cap xs st ≡ st
  unfolding meet_until
  until_full [] st u = refl
  until_full (x ∷ xs) st u = rw (lt-ltb cap st.used u) refl

  pub until_more : (x : Part) (xs : List Part) (st : State) → st.used ≤ cap → meet_until cap (x ∷ xs) st ≡ meet_until cap xs (x.meet st)
  unfolding meet_until
  until_more x xs st u = rw (le-ltb cap st.used u) refl

  pub until_append : (xs ys : List Part) (st : State) → meet_until cap (xs ++ ys) st ≡ meet_until cap ys (meet_until cap xs st)
  unfolding meet_until
  until_append [] ys st = refl
  until_append (x ∷ xs) ys st = go (ltb cap st.used) refl (until_append xs ys (x.meet st))
    where
      go : (b : Bool) → ltb cap st.used ≡ b → meet_until cap (xs ++ ys) (x.meet st) ≡ meet_until cap ys (meet_until cap xs (x.meet st))
          → cond b st (meet_until cap (xs ++ ys) (x.meet st)) ≡ meet_until cap ys (cond b st (meet_until cap xs (x.meet st)))
      go true e h = sym (until_full ys st (ltb-true cap st.used e))
      go false e h = h

  -- where it does not get full, all of them
  pub until_all : (xs : List Part) (st : State) → (meet_until cap xs st).used ≤ cap → meet_until cap xs st ≡ meet_parts xs st
  unfolding meet_until meet_parts
  until_all [] st u = refl
  until_all (x ∷ xs) st u = go (ltb cap st.used) refl u (λ v. until_all xs (x.meet st) v)
    where
      go : (b : Bool) → ltb cap st.used ≡ b → (cond b st (meet_until cap xs (x.meet st))).used ≤ cap → ((meet_until cap xs (x.meet st)).used ≤ cap → meet_until cap xs (x.meet st) ≡ meet_parts xs (x.meet st)) → cond b st (meet_until cap xs (x.meet st)) ≡ meet_parts xs (x.meet st)
      go true e v h = absurd (omega (arith, v, ltb-true cap st.used e))
      go false e v h = h v

-- ---- what a function does that writes parts, and what it asks, for any declared domains

pub record Redo : Type 1 where
  pub parts : List Domain → List Part
  pub asks : List Domain → State → Type 0

-- from o on, behind c clauses, the words ws of m clauses
pub record Lines (out : List ℤ) (o c : ℕ) (ws : List ℤ) (m : ℕ) (out' : List ℤ) (o' c' : ℕ) : Type 0 where
  pub words : Wrote out o ws out' o'
  pub count : c' ≡ bump c m

pub record Asked (t : Redo) (st : State) (rec : ℕ) : Type 0 where
  pub long : min_work_words ≤ length st.work
  pub records : rec ≤ limit
  pub low : Low st
  pub word : has_ifs st.work ≡ true
  pub domains : List Domain
  pub declares : Declares domains st.work
  pub asks : t.asks domains st

word_kept : {st st' : State} → Kept st st' → has_ifs st'.work ≡ has_ifs st.work
unfolding has_ifs
word_kept {st} {st'} k = ap (λ (x : ℤ). not (is_zero x)) (sym (get_or-drop ifs_word st'.work 0 (pos 0)) ∙ ap (λ (l : List ℤ). get_or l 0 (pos 0)) k.behind ∙ get_or-drop ifs_word st.work 0 (pos 0))

-- the next word's place, behind c clauses
pub record Ahead (out : List ℤ) (o c : ℕ) : Type 0 where
  pub room : Open out o
  pub few : c ≤ limit

pub record Redone (cap : ℕ) (t : Redo) (st st' : State) (out : List ℤ) (o c : ℕ) (out' : List ℤ) (o' c' : ℕ) : Type 0 where
  pub kept : Kept st st'
  pub low : Low st'
  pub ahead : Ahead out' o' c'
  pub length_same : length out' ≡ length out
  pub state : (ds : List Domain) → Declares ds st.work → t.asks ds st → st' ≡ meet_until cap (t.parts ds) st
  pub text : st'.used ≤ cap → (ds : List Domain) → Declares ds st.work → t.asks ds st → Lines out o c (again_text (t.parts ds) st) (again_lines (t.parts ds) st) out' o' c'

-- ---- in a loop: what is left of t is l

pub record Reached (t l : Redo) (ds : List Domain) (st st' : State) (out : List ℤ) (o c : ℕ) (out' : List ℤ) (o' c' : ℕ) : Type 0 where
  pub done : List Part
  pub whole : t.parts ds ≡ done ++ l.parts ds
  pub state : st' ≡ meet_parts done st
  pub asks : l.asks ds st'
  pub text : Lines out o c (again_text done st) (again_lines done st) out' o' c'

pub record Going (cap : ℕ) (t l : Redo) (st st' : State) (out : List ℤ) (o c : ℕ) (out' : List ℤ) (o' c' : ℕ) : Type 0 where
  pub kept : Kept st st'
  pub low : Low st'
  pub ahead : Ahead out' o' c'
  pub length_same : length out' ≡ length out
  pub until : (ds : List Domain) → Declares ds st.work → t.asks ds st → meet_until cap (l.parts ds) st' ≡ meet_until cap (t.parts ds) st
  pub on : st'.used ≤ cap → (ds : List Domain) → Declares ds st.work → t.asks ds st → Reached t l ds st st' out o c out' o' c'

-- l is x and then m, where the walk is not full
pub record Splits (cap : ℕ) (l x m : Redo) : Type 0 where
  pub parts : (ds : List Domain) → l.parts ds ≡ x.parts ds ++ m.parts ds
  pub asks : (ds : List Domain) (st : State) → st.used ≤ cap → l.asks ds st → x.asks ds st × ((meet_until cap (x.parts ds) st).used ≤ cap → m.asks ds (meet_until cap (x.parts ds) st))

lines_then : {out a b us vs : List ℤ} {o p q c d e i j : ℕ} → length out ≤ last-place → Lines out o c us i a p d → Lines a p d vs j b q e → Lines out o c (us ++ vs) (bump i j) b q e
lines_then l x y = record { words = wrote_then l x.words y.words; count = omega (arith, x.count, y.count) }

lines_to : {out out' us vs : List ℤ} {o o' c c' i j : ℕ} → us ≡ vs → i ≡ j → Lines out o c us i out' o' c' → Lines out o c vs j out' o' c'
lines_to e f x = record { words = wrote_to e x.words; count = omega (arith, f, x.count) }

module _ (cap : ℕ) (t : Redo) (st : State) (out : List ℤ) (o c : ℕ) where
  pub going_start : Low st → Ahead out o c → Going cap t t st st out o c out o c
  unfolding meet_parts again_text again_lines
  going_start l a = record {
    kept = kept_same st;
    low = l;
    ahead = a;
    length_same = refl;
    until = λ ds d h. refl;
    on = λ u ds d h. record { done = []; whole = refl; state = refl; asks = h; text = record { words = wrote_none out o a.room.low; count = omega (arith, a.few) } };
  }

  module _ (l : Redo) (st' : State) (out' : List ℤ) (o' c' : ℕ) (g : Going cap t l st st' out o c out' o' c') where
    module _ (more : st'.used ≤ cap) (x m : Redo) (s : Splits cap l x m) where
      pub going_asks : (rec : ℕ) → Asked t st rec → Asked x st' rec
      going_asks rec a =
          let r = g.on more a.domains a.declares a.asks in
          record {
            long = omega (arith, a.long, g.kept.size);
            records = a.records;
            low = g.low;
            word = word_kept g.kept ∙ a.word;
            domains = a.domains;
            declares = declares_kept a.domains st.work st'.work g.kept.behind a.declares;
            asks = (s.asks a.domains st' more r.asks).0;
          }

      module _ (st'' : State) (out'' : List ℤ) (o'' c'' : ℕ) (y : Redone cap x st' st'' out' o' c' out'' o'' c'') where
        until_next : (ds : List Domain) → Declares ds st.work → t.asks ds st → meet_until cap (m.parts ds) st'' ≡ meet_until cap (t.parts ds) st
        until_next ds d h =
            let r = g.on more ds d h in
            let e = declares_kept ds st.work st'.work g.kept.behind d in
            ap (meet_until cap (m.parts ds)) (y.state ds e (s.asks ds st' more r.asks).0)
            ∙ sym (until_append cap (x.parts ds) (m.parts ds) st')
            ∙ ap (λ (ps : List Part). meet_until cap ps st') (sym (s.parts ds))
            ∙ g.until ds d h

        on_next : st''.used ≤ cap → (ds : List Domain) → Declares ds st.work → t.asks ds st → Reached t m ds st st'' out o c out'' o'' c''
        on_next u ds d h =
            let r = g.on more ds d h in
            let e = declares_kept ds st.work st'.work g.kept.behind d in
            let a = s.asks ds st' more r.asks in
            let z : st'' ≡ meet_until cap (x.parts ds) st' = y.state ds e a.0 in
            let v : (meet_until cap (x.parts ds) st').used ≤ cap = subst (λ (b : State). b.used ≤ cap) z u in
            let i : st'' ≡ meet_parts (x.parts ds) st' = z ∙ until_all cap (x.parts ds) st' v in
            let j : st'' ≡ meet_parts (x.parts ds) (meet_parts r.done st) = i ∙ ap (meet_parts (x.parts ds)) r.state in
            record {
              done = r.done ++ x.parts ds;
              whole = r.whole ∙ ap (λ (ps : List Part). r.done ++ ps) (s.parts ds) ∙ sym (append_assoc r.done (x.parts ds) (m.parts ds));
              state = j ∙ sym (meet_append r.done (x.parts ds) st);
              asks = subst (m.asks ds) (sym z) (a.1 v);
              text = lines_to (ap (λ (b : State). again_text r.done st ++ again_text (x.parts ds) b) r.state ∙ sym (again_append r.done (x.parts ds) st)) (ap (λ (b : State). bump (again_lines r.done st) (again_lines (x.parts ds) b)) r.state ∙ sym (lines_append r.done (x.parts ds) st))
                  (lines_then (omega (arith, g.ahead.room.room, g.length_same)) r.text (y.text u ds e a.0));
            }

        pub going_next : Going cap t m st st'' out o c out'' o'' c''
        going_next = record { kept = kept_then g.kept y.kept; low = y.low; ahead = y.ahead; length_same = y.length_same ∙ g.length_same; until = until_next; on = on_next }

    pub going_full : cap < st'.used → Redone cap t st st' out o c out' o' c'
    going_full u = record { kept = g.kept; low = g.low; ahead = g.ahead; length_same = g.length_same; state = λ ds d h. sym (until_full cap (l.parts ds) st' u) ∙ g.until ds d h; text = λ v. absurd (omega arith) }

    pub going_end : ((ds : List Domain) → l.parts ds ≡ []) → Redone cap t st st' out o c out' o' c'
    unfolding meet_until
    going_end none = record {
      kept = g.kept;
      low = g.low;
      ahead = g.ahead;
      length_same = g.length_same;
      state = λ ds d h. ap (λ (ps : List Part). meet_until cap ps st') (sym (none ds)) ∙ g.until ds d h;
      text = λ u ds d h. let r = g.on u ds d h in let e = is_all ds r.done r.whole in lines_to (ap (λ (ps : List Part). again_text ps st) e) (ap (λ (ps : List Part). again_lines ps st) e) r.text;
    }
      where
        is_all : (ds : List Domain) (ps : List Part) → t.parts ds ≡ ps ++ l.parts ds → ps ≡ t.parts ds
        is_all ds ps e = sym (e ∙ ap (λ (qs : List Part). ps ++ qs) (none ds) ∙ append-nil ps)

-- ---- the pairs

module _ (rec cap : ℕ) (ws : List ℤ) (ds : List Domain) where
  -- the expressions at p and q
  unfoldable pub pair_part : ℕ → ℕ → Part
  pair_part p q = record {
    meet = (cleared_task rec cap ws p q).meet ds;
    text = λ w n. written (form_items ds (pair_at ws 64 p q n.bools)) w (more_bools (pair_numbers ws p q n.bools) n);
    lines = λ w n. written_lines (form_items ds (pair_at ws 64 p q n.bools)) w (more_bools (pair_numbers ws p q n.bools) n);
    behind = λ w n. counts (form_items ds (pair_at ws 64 p q n.bools)) w (more_bools (pair_numbers ws p q n.bools) n);
  }

  -- the expression at p with each of so many from q on
  unfoldable pub row_parts : ℕ → ℕ → ℕ → List Part
  row_parts p zero q = []
  row_parts p (suc k) q = pair_part p q ∷ row_parts p k (column_at ws q).end

  -- all pairs of so many from p on
  unfoldable pub pairs_parts : ℕ → ℕ → List Part
  pairs_parts zero p = []
  pairs_parts (suc k) p = let q = (column_at ws p).end in row_parts p k q ++ pairs_parts k q

  -- ---- what they ask of a state, until the walk is full

  pub record PairAsks (p q : ℕ) (st : State) : Type 0 where
    pub first : (cleared_task rec cap ws p q).fits ds st
    pub second : FormsFit ds (pair_at ws 64 p q st.bools)

  unfoldable pub RowAsks : ℕ → ℕ → ℕ → State → Type 0
  RowAsks p zero q st = Unit {0}
  RowAsks p (suc k) q st = Unless (ltb cap st.used) (PairAsks p q st × RowAsks p k (column_at ws q).end ((pair_part p q).meet st))

  unfoldable pub PairsAsk : ℕ → ℕ → State → Type 0
  PairsAsk zero p st = Unit {0}
  PairsAsk (suc k) p st = let q = (column_at ws p).end in Unless (ltb cap st.used) (RowAsks p k q st × PairsAsk k q (meet_until cap (row_parts p k q) st))

-- ---- as tasks that write

module _ (rec cap : ℕ) (ws : List ℤ) where
  abbrev pub pair_redo : ℕ → ℕ → Redo
  pair_redo p q = record { parts = λ ds. pair_part rec cap ws ds p q ∷ []; asks = λ ds. PairAsks rec cap ws ds p q }

  abbrev pub row_redo : ℕ → ℕ → ℕ → Redo
  row_redo p k q = record { parts = λ ds. row_parts rec cap ws ds p k q; asks = λ ds. RowAsks rec cap ws ds p k q }

  abbrev pub pairs_redo : ℕ → ℕ → Redo
  pairs_redo k p = record { parts = λ ds. pairs_parts rec cap ws ds k p; asks = λ ds. PairsAsk rec cap ws ds k p }

  pub row_splits : (p k q r : ℕ) → (k ≡ 0 → ⊥) → r ≡ (column_at ws q).end → Splits cap (row_redo p k q) (pair_redo p q) (row_redo p (k - 1) r)
  unfolding row_parts RowAsks meet_until
  row_splits p zero q r z e = absurd (z refl)
  row_splits p (suc k) q r z e = rw (sub-one (suc k), e) (record {
    parts = λ ds. refl;
    asks = λ ds st u h. let g = subst (λ (b : Bool). Unless b (PairAsks rec cap ws ds p q st × RowAsks rec cap ws ds p k (column_at ws q).end ((pair_part rec cap ws ds p q).meet st))) (le-ltb cap st.used u) h in (g.0, λ v. rw (le-ltb cap st.used u) g.1);
  })

  pub pairs_split : (k p r : ℕ) → (k ≡ 0 → ⊥) → r ≡ (column_at ws p).end → Splits cap (pairs_redo k p) (row_redo p (k - 1) r) (pairs_redo (k - 1) r)
  unfolding pairs_parts PairsAsk
  pairs_split zero p r z e = absurd (z refl)
  pairs_split (suc k) p r z e = rw (sub-one (suc k), e) (record {
    parts = λ ds. refl;
    asks = λ ds st u h. let q = (column_at ws p).end in let g = subst (λ (b : Bool). Unless b (RowAsks rec cap ws ds p k q st × PairsAsk rec cap ws ds k q (meet_until cap (row_parts rec cap ws ds p k q) st))) (le-ltb cap st.used u) h in (g.0, λ v. g.1);
  })

  pub row_none : (p k q : ℕ) → k ≡ 0 → (ds : List Domain) → (row_redo p k q).parts ds ≡ []
  unfolding row_parts
  row_none p k q e ds = rw e refl

  pub pairs_none : (k p : ℕ) → k ≡ 0 → (ds : List Domain) → (pairs_redo k p).parts ds ≡ []
  unfolding pairs_parts
  pairs_none k p e ds = rw e refl

-- ---- a pair of expressions that stand there is stages' pair, wherever the statement ends

module _ (rec cap : ℕ) (ws : List ℤ) (ds : List Domain) (a b : IntExpr) (p q : ℕ) (first : LegalInt a 64) (second : LegalInt b 64) (words : Has ws p (encode_int a)) (others : Has ws q (encode_int b)) (n : ℕ) (low : n + splits (Cmp Ne a b) below ≤ limit) where
  stands : PairStands a b ws 64 p q n
  unfolding splits
  stands = pair_stands a b ws 64 p q n first second words others (omega (arith, low))

  numbers_are : pair_numbers ws p q n ≡ splits (Cmp Ne a b) below
  unfolding splits
  numbers_are =
      let e = ap (λ (k : ℕ). (decode_int ws 64 here q k).next) stands.middle ∙ stands.next in
      omega (arith, e)

  pub pair_part_fits : WithinSides ds a b → FormsFit ds (pair_at ws 64 p q n)
  pair_part_fits h = subst (FormsFit ds) (sym stands.trees) (pair_fits ds a b p q n h)

  module _ (stop k : ℕ) (w : List ℤ) where
    abbrev m : Counters
    m = counters n k

    pub pair_part_text : (pair_part rec cap ws ds p q).text w m ≡ (pair_stage ds rec cap a b p q stop).part.text w m
    unfolding pair_part
    pair_part_text = ap (λ (fs : Forms). written (form_items ds fs) w (more_bools (pair_numbers ws p q n) m)) stands.trees ∙ ap (λ (j : ℕ). written (items ds (pair_trees a b p q n)) w (more_bools j m)) numbers_are

    pub pair_part_lines : (pair_part rec cap ws ds p q).lines w m ≡ (pair_stage ds rec cap a b p q stop).part.lines w m
    unfolding pair_part
    pair_part_lines = ap (λ (fs : Forms). written_lines (form_items ds fs) w (more_bools (pair_numbers ws p q n) m)) stands.trees ∙ ap (λ (j : ℕ). written_lines (items ds (pair_trees a b p q n)) w (more_bools j m)) numbers_are
