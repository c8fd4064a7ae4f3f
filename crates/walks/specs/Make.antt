-- An If that the first walk makes: its cells, and the state behind it. The logs are given by what they have more than those before.
use Rattle.std.specs.Prelude.{◌≡◌, Bool, ℤ, pos, negsuc, length, get_or, eqb}
use Rattle.std.proofs.Math.Path.{refl, ap, subst}
use Rattle.std.proofs.Common.{sym, ◌∙◌, inl, inr, arith, length-set}
use Rattle.std.proofs.Math.Bool.{true, false, cond}
use Rattle.std.proofs.Math.Option.{Option, none, some}
use mathlib.Core.List.{List, [], ◌∷◌}
use Prim.Native.Nat.{ℕ, zero, suc, ◌+◌, ◌*◌, ◌≤◌, ◌<◌, min}
use Rattle.std.proofs.Math.Seq.{get_or-set_other, get_or-set_same, take-set-le}
use Rattle.std.proofs.Math.Dec.{ltb}
use borrow.Author.Tests.{eqb-true, eqb-false, ltb-true, ltb-false, lt-ltb}
use Rattle.laws.specs.Bools.{never as no_bool}
use Rattle.laws.specs.Same.{same_words, same_is}
use Rattle.syntax.specs.Syntax.{Domain, lower_bound, upper_bound, IntExpr, encode_int}
use Rattle.syntax.specs.Unique.{int_unique_words}
use Rattle.clauses.specs.Log.{MadeInt, is_declared_int, int, known, Log, next_int, get_bool_var, get_int_var, get_if, made_ints, convert_bool_var}
use Rattle.clauses.proofs.Emitted.{domain_at}
use Rattle.laws.specs.Ints.{is_zero}
use Rattle.memory.specs.Places.{folded_end, bool_map, int_map, maps_end, cells, limit}
use Rattle.memory.specs.Number.{nat}
use Rattle.syntax.specs.Words.{max_bools, max_ints}
use Rattle.walk.specs.Item.{bump, fresh, bool_at, int_entry}
use Rattle.walk.specs.Decode.{read_part}
use Rattle.walks.specs.Tree.{Place}
use Rattle.walks.specs.Item.{has_ifs, tallies, num_item, cell, Seen, unseen, both_constant, numbered, seen_in, seen}
use Rattle.walks.specs.Distinct.{none_some, unseen_numbered, unseen_constant, constant_numbered}
use Rattle.walks.specs.Placed.{HasNumber, Numbered}
use Rattle.walks.specs.Meet.{State, with_work, more_bools, spend, set_cell, number_word, stored, range_record, two_record, Parts, is_full, new_int, meet_bool, meet_open, meet_constant, meet_branches, meet_new}
use Rattle.walks.specs.Cells.{cells_first, cells_second, cells_third, cells_other, word_kept, cells_word, Stands, whole, Cells, Places, Only, stands_of, key_stands, off_apart, cells_at, cells_new}
use Rattle.walks.specs.Good.{blanks_same, no_int, made_record, records_of, Quiet, Names, Good, good_less, good_quiet, good_bool, good_new, good_spend}
use Rattle.walks.specs.Implements.{Ready}
use Rattle.walks.specs.Leaves.{words_of, words_int}
use Rattle.walks.specs.Visit.{bool_spends, bool_later, Later, later_then, same_later, Outcome, full, good, outcome_then, good_ready, not_full}
use Rattle.walks.specs.Lookup.{cells_length, cells_below, cells_words, good_cells, Node, is_whole, not_whole}

module _ (ds : List Domain) (F : List ℤ) (Plain : IntExpr → Type 0) (parted : ℕ → Bool) (K : ℕ → Option IntExpr) (fixed : IntExpr → Bool) (rec cap : ℕ) (with_ifs : Bool) (before : List ℤ) (Named : Log → Type 0) (N : Names Named) (P : Places ds F Plain parted K fixed) (low : cap < limit) where
  abbrev GoodAt : ℕ → State → Log → Type 0
  GoodAt = Good ds F Plain parted K fixed rec cap with_ifs before Named

  abbrev OutcomeAt : ℕ → ℕ → (List ℤ → Type 0) → State → State → Log → Type 0
  OutcomeAt = Outcome ds F Plain parted K fixed rec cap with_ifs before Named

  module _ (q : Parts) (e : IntExpr) (nd : Node ds F Plain parted K fixed rec cap with_ifs before Named q.place e) where
    abbrev p : Place
    p = q.place

    seen_word : (b : Bool) (v : ℕ) → seen_in (number_word b v) ≡ numbered v b
    seen_word true v = refl
    seen_word false v = refl

    -- ---- the number kept

    module _ (n : ℕ) (st : State) (s : Log) (g : GoodAt n st s) (v : ℕ) (d : Domain) (none_yet : get_if e s ≡ none) (opened : fixed e ≡ false) (under_next : v < next_int s) (dom : domain_at ds s v ≡ d) (nm : Named (known e v ∷ s)) where
      abbrev w : List ℤ
      w = st.work

      abbrev w' : List ℤ
      w' = stored p v d w

      at_place : Stands ds F Plain parted K fixed p.at (key_stands ds F Plain parted K fixed P p.at e nd.key)
      at_place = stands_of ds F Plain parted K fixed P p.at e nd.key

      room : cells + p.at + 3 < length w
      room = omega (arith, g.size, at_place.high)

      first : seen_in (cell w' (p.at + 1)) ≡ numbered v p.whole
      first = ap seen_in (cells_first w p.at (number_word p.whole v) (lower_bound d) (upper_bound d) room) ∙ seen_word p.whole v

      second : cell w' (p.at + 2) ≡ lower_bound (domain_at ds s v)
      second = cells_second w p.at (number_word p.whole v) (lower_bound d) (upper_bound d) room ∙ ap lower_bound (sym dom)

      third : cell w' (p.at + 3) ≡ upper_bound (domain_at ds s v)
      third = cells_third w p.at (number_word p.whole v) (lower_bound d) (upper_bound d) room ∙ ap upper_bound (sym dom)

      only : Only ds F Plain parted K fixed p.at w w'
      only x o = cells_other w p.at (number_word p.whole v) (lower_bound d) (upper_bound d) x o

      new_cells : Cells ds F Plain parted K fixed w' (known e v ∷ s)
      new_cells = cells_new ds F Plain parted K fixed P p.at e nd.key w w' only s v p.whole none_yet first (is_whole ds F Plain parted K fixed rec cap with_ifs before Named N P low q e nd) (not_whole ds F Plain parted K fixed rec cap with_ifs before Named N P low q e nd) second third g.cells

      -- it had none
      blank : seen_in (cell w (p.at + 1)) ≡ unseen
      blank = go (seen_in (cell w (p.at + 1))) refl
        where
          go : (o : Seen) → seen_in (cell w (p.at + 1)) ≡ o → o ≡ unseen
          go unseen z = refl
          go both_constant z = no_bool (sym opened ∙ g.cells.const p.at e nd.key z)
          go (numbered a b) z = none_some (sym none_yet ∙ (g.cells.number p.at e a b nd.key z).found)

      new_word : has_ifs w' ≡ has_ifs w
      new_word = cells_word p.at (number_word p.whole v) (lower_bound d) (upper_bound d) w at_place.high

      new_later : Later ds F Plain parted K fixed w w'
      new_later = record { stay = λ x a t ne k l m. go x a t ne k l m (eqb x p.at) refl; word = new_word }
        where
          go : (x : ℕ) (a : IntExpr) → Stands ds F Plain parted K fixed x a → (seen_in (cell w (x + 1)) ≡ unseen → ⊥) → (k : ℕ) → 1 ≤ k → k ≤ 3 → (b : Bool) → eqb x p.at ≡ b → cell w' (x + k) ≡ cell w (x + k)
          go x a t ne k l m true z = absurd (ne (ap (λ y. seen_in (cell w (y + 1))) (eqb-true x p.at z) ∙ blank))
          go x a t ne k l m false z = only (x + k) (off_apart ds F Plain parted K fixed P x p.at k a (key_stands ds F Plain parted K fixed P p.at e nd.key) t at_place (eqb-false x p.at z) l m)

      -- the If is known from here on
      found_as : (a : IntExpr) (u : ℕ) → get_if a (known e v ∷ s) ≡ some u → (X : Type 0) → (a ≡ e → v ≡ u → X) → (get_if a s ≡ some u → X) → X
      unfolding get_if
      found_as a u h X x y = go (same_words (encode_int a) (encode_int e)) refl h
        where
          go : (b : Bool) → same_words (encode_int a) (encode_int e) ≡ b → cond b (some v) (get_if a s) ≡ some u → X
          go true z r = x (int_unique_words a e (same_is (encode_int a) (encode_int e) z)) (cc)
          go false z r = y r

      kept_below : (x : ℕ) → x < maps_end → get_or w' x (pos 0) ≡ get_or w x (pos 0)
      kept_below x l = cells_below p.at (number_word p.whole v) (lower_bound d) (upper_bound d) w x at_place.low l

      pub known_log : GoodAt n (with_work w' st) (known e v ∷ s)
      unfolding get_bool_var get_int_var made_ints records_of bool_at int_entry
      known_log =
          let i = blanks_same is_zero w bool_map w' max_bools (λ x m. kept_below (bool_map + x) (omega arith)) in
          let j = blanks_same no_int w int_map w' max_ints (λ x m. kept_below (int_map + x) (omega arith)) in
          record {
            map = λ x m. kept_below (bool_map + x) (omega arith) ∙ g.map x m;
            map_int = λ x m. ap nat (kept_below (int_map + x) (omega arith)) ∙ g.map_int x m;
            bools = g.bools;
            ints = g.ints;
            low = λ x l h. g.low x l h;
            low_int = λ x m h. g.low_int x m h;
            size = omega (arith, g.size, cells_length p.at (number_word p.whole v) (lower_bound d) (upper_bound d) w);
            words = cells_words p.at (number_word p.whole v) (lower_bound d) (upper_bound d) w ∙ g.words;
            word = new_word ∙ g.word;
            records = g.records;
            cells = new_cells;
            below = λ a u h. found_as a u h (u < next_int s) (λ x y. omega arith) (λ z. g.below a u z);
            opens = λ a u h. found_as a u h (fixed a ≡ false) (λ x y. ap fixed x ∙ opened) (λ z. g.opens a u z);
            named = nm;
            used = g.used;
            room = omega (arith, g.room, i, j);
          }

      -- its cells in later slices
      pub known_numbered : (w₂ : List ℤ) → Later ds F Plain parted K fixed w' w₂ → Numbered w₂ p v d
      unfolding seen
      known_numbered w₂ l =
          let ne : seen_in (cell w' (p.at + 1)) ≡ unseen → ⊥ = λ z. unseen_numbered (sym z ∙ first) in
          let go : (k : ℕ) → 1 ≤ k → k ≤ 3 → cell w₂ (p.at + k) ≡ cell w' (p.at + k) = λ k a c. l.stay p.at _ at_place ne k a c in
          record {
            number = subst (λ o. HasNumber o v) (sym (ap seen_in (go 1 (omega arith) (omega arith)) ∙ first)) refl;
            low = go 2 (omega arith) (omega arith) ∙ second ∙ ap lower_bound dom;
            high = go 3 (omega arith) (omega arith) ∙ third ∙ ap upper_bound dom;
          }

    -- ---- open branches

    -- b: the state behind the branches, of the log z; then an integer m, the condition in both polarities, a number and clauses, and the If is known
    module _ (k n : ℕ) (b : State) (z : Log) (m : MadeInt) (d : Domain) (x₁ x₂ x₃ : Log) (A B : List ℤ → Type 0) (ec ed wc wd : ℕ)
        (undeclared : (v : ℕ) → is_declared_int v m ≡ false) (rec-is : made_record ds m ≡ range_record d)
        (leaf : q.leaves ≡ min (ec + ed) limit) (light : wc + wd ≤ 2 * (ec + ed))
        (plain : (k n : ℕ) (st : State) → GoodAt (wc + n) st (int m ∷ z) → st.used ≤ words_of (int m ∷ z) + k → OutcomeAt k n A st (q.meet_plain st) x₁)
        (negated : (k n : ℕ) (st : State) → GoodAt (wd + n) st x₁ → st.used ≤ words_of x₁ + k → OutcomeAt k n B st (q.meet_negated st) x₂)
        (frozen : (st : State) → is_full ds rec cap st ≡ true → (q.meet_negated st).used ≡ st.used)
        (one : Quiet Named x₂ x₃ 1)
        (none_yet : get_if e x₃ ≡ none) (opened : fixed e ≡ false) (dom : domain_at ds x₃ (next_int z) ≡ d) (nm : Named x₃ → Named (known e (next_int z) ∷ x₃))
        (g₁ : words_of x₁ ≤ words_of x₂) (g₂ : words_of (int m ∷ z) ≤ words_of x₁) (g₃ : ec + ed + words_of x₂ ≤ words_of (known e (next_int z) ∷ x₃)) (i₁ : next_int (int m ∷ z) ≤ next_int x₂) where
      abbrev spent : State
      spent = spend q.leaves (new_int ds rec cap (range_record d) b)

      abbrev Done : State → Type 0
      Done st = OutcomeAt k n (λ w. Numbered w p (next_int z) d × (A w × B w)) b st (known e (next_int z) ∷ x₃)

      leaves_few : q.leaves ≤ ec + ed
      leaves_few = omega (arith, leaf)

      same_work : spent.work ≡ b.work
      unfolding new_int
      same_work = refl

      open_done : (st : State) → OutcomeAt (k + q.leaves) (1 + n) (λ w. A w × B w) spent st x₂ → Done (with_work (stored p (next_int z) d st.work) (more_bools 1 st))
      open_done st (full x y) = full x (omega (arith, y, leaves_few, g₃))
      open_done st (good g u r f) =
          let h = good_quiet ds F Plain parted K fixed rec cap with_ifs before Named P 1 n st x₂ x₃ one g in
          let l : next_int z < next_int x₃ = omega (arith, i₁, one.ints) in
          let v = next_int z in
          let st' = more_bools 1 st in
          good (known_log n st' x₃ h v d none_yet opened l dom (nm h.named))
          (omega (arith, u, leaves_few, g₃))
          (later_then ds F Plain parted K fixed b.work st.work (stored p v d st.work) (subst (λ (y : List ℤ). Later ds F Plain parted K fixed y st.work) same_work r) (new_later n st' x₃ h v d none_yet opened l dom (nm h.named)))
          (λ w₂ t. (known_numbered n st' x₃ h v d none_yet opened l dom (nm h.named) w₂ t, f w₂ (later_then ds F Plain parted K fixed st.work (stored p v d st.work) w₂ (new_later n st' x₃ h v d none_yet opened l dom (nm h.named)) t)))

      exact_leaves : bump b.used q.leaves ≤ cap → q.leaves ≡ ec + ed
      exact_leaves h = omega (arith, leaf)

      pub open_outcome : GoodAt (16 + n) b z → b.used ≤ words_of z + (k + 4) → Done (meet_open ds rec cap q d b)
      unfolding meet_open new_int
      open_outcome gb ub = go (ltb cap spent.used) refl
        where
          g₀ : GoodAt (15 + n) (new_int ds rec cap (range_record d) b) (int m ∷ z)
          g₀ = subst (λ (r : List ℤ). GoodAt (15 + n) (new_int ds rec cap r b) (int m ∷ z)) rec-is (good_new ds F Plain parted K fixed rec cap with_ifs before Named N P m undeclared (15 + n) b z (good_less ds F Plain parted K fixed rec cap with_ifs before Named (16 + n) (suc (15 + n)) b z (omega arith) gb))

          w₀ : b.used ≤ words_of (int m ∷ z) + k
          w₀ = omega (arith, ub, words_int m z)

          go : (c : Bool) → ltb cap spent.used ≡ c
              → Done (cond c spent (with_work (stored p b.ints d (q.meet_negated (q.meet_plain spent)).work) (more_bools 1 (q.meet_negated (q.meet_plain spent)))))
          go true y = full (ltb-true cap spent.used y) (omega (arith, w₀, leaves_few, g₁, g₂, g₃))
          go false y =
              let l : bump b.used q.leaves ≤ cap = ltb-false cap spent.used y in
              let ex = exact_leaves l in
              let g₄ = good_spend ds F Plain parted K fixed rec cap with_ifs before Named q.leaves (15 + n) (new_int ds rec cap (range_record d) b) (int m ∷ z) low l g₀ in
              let g₅ = good_less ds F Plain parted K fixed rec cap with_ifs before Named (4 * q.leaves + (15 + n)) (wc + (wd + (1 + n))) spent (int m ∷ z) (omega (arith, light, ex)) g₄ in
              let o = plain (k + q.leaves) (wd + (1 + n)) spent g₅ (omega (arith, w₀)) in
              let o' = outcome_then ds F Plain parted K fixed rec cap with_ifs before Named (k + q.leaves) (wd + (1 + n)) (1 + n) A B spent (q.meet_plain spent) (q.meet_negated (q.meet_plain spent)) x₁ x₂ (frozen (q.meet_plain spent)) g₁ o (λ g u. negated (k + q.leaves) (1 + n) (q.meet_plain spent) g u) in
              subst (λ y. Done (with_work (stored p y d (q.meet_negated (q.meet_plain spent)).work) (more_bools 1 (q.meet_negated (q.meet_plain spent))))) (sym gb.ints) (open_done (q.meet_negated (q.meet_plain spent)) o')

    -- ---- constant branches

    -- the word that says so
    module _ (n : ℕ) (st : State) (s : Log) (g : GoodAt n st s) (closed : fixed e ≡ true) (none_yet : get_if e s ≡ none) where
      abbrev marked : List ℤ
      marked = set_cell (p.at + 1) (negsuc 0) st.work

      stand : Stands ds F Plain parted K fixed p.at (key_stands ds F Plain parted K fixed P p.at e nd.key)
      stand = stands_of ds F Plain parted K fixed P p.at e nd.key

      marked_here : cell marked (p.at + 1) ≡ negsuc 0
      unfolding cell
      marked_here = get_or-set_same st.work (cells + (p.at + 1)) (negsuc 0) (pos 0) (omega (arith, g.size, stand.high))

      marked_only : Only ds F Plain parted K fixed p.at st.work marked
      unfolding cell
      marked_only x (inl h) = get_or-set_other st.work (cells + (p.at + 1)) (cells + x) (negsuc 0) (pos 0) (λ y. omega arith)
      marked_only x (inr h) = get_or-set_other st.work (cells + (p.at + 1)) (cells + x) (negsuc 0) (pos 0) (λ y. omega arith)

      const_seen : seen_in (cell marked (p.at + 1)) ≡ both_constant
      const_seen = ap seen_in marked_here

      marked_cells : Cells ds F Plain parted K fixed marked s
      marked_cells = cells_at ds F Plain parted K fixed P p.at e nd.key st.work marked marked_only s
          (λ v b x. constant_numbered (sym const_seen ∙ x)) (λ x. closed) (λ x y. none_yet) (λ x v y. constant_numbered (sym const_seen ∙ y))
          (λ v x. none_some (sym none_yet ∙ (g.cells.number p.at e v true nd.key x).found)) g.cells

      marked_below : (x : ℕ) → x < maps_end → get_or marked x (pos 0) ≡ get_or st.work x (pos 0)
      marked_below x l = get_or-set_other st.work (cells + (p.at + 1)) x (negsuc 0) (pos 0) (λ y. omega (arith, stand.low))

      marked_words : read_part marked ≡ read_part st.work
      unfolding read_part
      marked_words = take-set-le folded_end st.work (cells + (p.at + 1)) (negsuc 0) (omega arith)

      marked_word : has_ifs marked ≡ has_ifs st.work
      marked_word = word_kept st.work (cells + (p.at + 1)) (negsuc 0) (λ y. omega (arith, stand.high))

      pub marked_good : GoodAt n (with_work marked st) s
      marked_good = good_cells ds F Plain parted K fixed rec cap with_ifs before Named n st s marked (length-set st.work (cells + (p.at + 1)) (negsuc 0)) marked_below marked_words marked_word marked_cells g

      pub marked_later : Later ds F Plain parted K fixed st.work marked
      marked_later = record { stay = λ x a t ne k l m. go x a t ne k l m (eqb x p.at) refl; word = marked_word }
        where
          seen_const : (y : ℤ) → seen_in y ≡ both_constant → y ≡ negsuc 0
          seen_const (pos zero) h = absurd (let z : ◌≡◌ {A = ℕ} 0 1 = cc in omega arith)
          seen_const (pos (suc v)) h = absurd (let z : ◌≡◌ {A = ℕ} 0 1 = cc in omega arith)
          seen_const (negsuc zero) h = refl
          seen_const (negsuc (suc v)) h = absurd (let z : ◌≡◌ {A = ℕ} 0 1 = cc in omega arith)

          -- the word is set again
          again : (o : Seen) → seen_in (cell st.work (p.at + 1)) ≡ o → (o ≡ unseen → ⊥) → cell marked (p.at + 1) ≡ cell st.work (p.at + 1)
          again unseen r f = absurd (f refl)
          again both_constant r f = marked_here ∙ sym (seen_const (cell st.work (p.at + 1)) r)
          again (numbered v b) r f = none_some (sym none_yet ∙ (g.cells.number p.at e v b nd.key r).found)

          own_cells : (k : ℕ) → 1 ≤ k → k ≤ 3 → (seen_in (cell st.work (p.at + 1)) ≡ unseen → ⊥) → cell marked (p.at + k) ≡ cell st.work (p.at + k)
          own_cells zero l m f = absurd (omega arith)
          own_cells (suc zero) l m f = again (seen_in (cell st.work (p.at + 1))) refl f
          own_cells (suc (suc k)) l m f = unfold cell in get_or-set_other st.work (cells + (p.at + 1)) (cells + (p.at + suc (suc k))) (negsuc 0) (pos 0) (λ y. omega arith)

          go : (x : ℕ) (a : IntExpr) → Stands ds F Plain parted K fixed x a → (seen_in (cell st.work (x + 1)) ≡ unseen → ⊥) → (k : ℕ) → 1 ≤ k → k ≤ 3 → (b : Bool) → eqb x p.at ≡ b → cell marked (x + k) ≡ cell st.work (x + k)
          go x a t ne k l m false y = marked_only (x + k) (off_apart ds F Plain parted K fixed P x p.at k a (key_stands ds F Plain parted K fixed P p.at e nd.key) t stand (eqb-false x p.at y) l m)
          go x a t ne k l m true y =
              let j : x ≡ p.at = eqb-true x p.at y in
              subst (λ y. cell marked (y + k) ≡ cell st.work (y + k)) (sym j) (own_cells k l m (λ r. ne (ap (λ y. seen_in (cell st.work (y + 1))) j ∙ r)))

    -- in later slices
    marked_seen : (n : ℕ) (st : State) (s : Log) (g : GoodAt n st s) (closed : fixed e ≡ true) (none_yet : get_if e s ≡ none) (w₂ : List ℤ) → Later ds F Plain parted K fixed (marked n st s g closed none_yet) w₂ → seen w₂ p ≡ both_constant
    unfolding seen
    marked_seen n st s g closed none_yet w₂ l =
        let c = const_seen n st s g closed none_yet in
        ap seen_in (l.stay p.at _ (stand n st s g closed none_yet) (λ y. unseen_constant (sym y ∙ c)) 1 (omega arith) (omega arith)) ∙ c

    -- the condition is a declared variable
    module _ (k n : ℕ) (b : State) (z t : Log) (m : MadeInt) (x y : ℤ) (v : ℕ) (under-512 : v < max_bools) (closed : fixed e ≡ true) (none_yet : get_if e z ≡ none)
        (undeclared : (v : ℕ) → is_declared_int v m ≡ false) (var_is : (convert_bool_var v z).1 ≡ t) (gb : GoodAt (16 + n) b z) where
      abbrev st₀ : State
      st₀ = with_work (marked (16 + n) b z gb closed none_yet) b

      pub own_good : GoodAt (16 + n) (meet_bool v st₀) t
      own_good = subst (λ s. GoodAt (16 + n) (meet_bool v st₀) s) var_is (good_bool ds F Plain parted K fixed rec cap with_ifs before Named N P v under-512 (16 + n) st₀ z (marked_good (16 + n) b z gb closed none_yet))

      pub own_outcome : (rec-is : made_record ds m ≡ two_record (bool_at (meet_bool v st₀).work v) x y) → b.used ≤ words_of z + (k + 4) → words_of z ≤ words_of t
          → OutcomeAt k n (λ w. (seen w p ≡ both_constant) × Unit {0}) b (meet_constant ds rec cap q x y (some v) st₀) (int m ∷ t)
      unfolding meet_constant new_int
      own_outcome rec-is u gw =
          let g₁ = good_new ds F Plain parted K fixed rec cap with_ifs before Named N P m undeclared (15 + n) (meet_bool v st₀) t (good_less ds F Plain parted K fixed rec cap with_ifs before Named (16 + n) (suc (15 + n)) (meet_bool v st₀) t (omega arith) own_good) in
          let g₂ = good_less ds F Plain parted K fixed rec cap with_ifs before Named (15 + n) n _ (int m ∷ t) (omega arith) g₁ in
          let l₁ = marked_later (16 + n) b z gb closed none_yet in
          let l₂ = bool_later ds F Plain parted K fixed v under-512 st₀ in
          good (subst (λ (r : List ℤ). GoodAt n (new_int ds rec cap r (meet_bool v st₀)) (int m ∷ t)) rec-is g₂)
          (omega (arith, u, gw, words_int m t, bool_spends ds rec cap v st₀))
          (later_then ds F Plain parted K fixed b.work st₀.work (meet_bool v st₀).work l₁ l₂)
          (λ w₂ l. (marked_seen (16 + n) b z gb closed none_yet w₂ (later_then ds F Plain parted K fixed st₀.work (meet_bool v st₀).work w₂ l₂ l), tt))

    -- another condition: its number, both polarities, the numbers of the two disjunctions, clauses, the integer
    module _ (k n : ℕ) (b : State) (z : Log) (m : MadeInt) (x y : ℤ) (x₀ x₁ x₂ x₃ x₄ : Log) (A B : List ℤ → Type 0) (ec ed wc wd : ℕ) (closed : fixed e ≡ true) (none_yet : get_if e z ≡ none)
        (undeclared : (v : ℕ) → is_declared_int v m ≡ false) (rec-is : made_record ds m ≡ two_record (pos (b.bools + 1)) x y)
        (leaf : q.leaves ≡ min (ec + ed) limit)
        (light : wc + fresh (tallies (num_item b.bools true ∷ q.plain ∷ [])) ≤ 2 * ec) (light' : wd + fresh (tallies (num_item b.bools false ∷ q.negated ∷ [])) ≤ 2 * ed)
        (negated : (k n : ℕ) (st : State) → GoodAt (wd + n) st x₀ → st.used ≤ words_of x₀ + k → OutcomeAt k n B st (q.meet_negated st) x₁)
        (plain : (k n : ℕ) (st : State) → GoodAt (wc + n) st x₁ → st.used ≤ words_of x₁ + k → OutcomeAt k n A st (q.meet_plain st) x₂)
        (frozen : (st : State) → is_full ds rec cap st ≡ true → (q.meet_plain st).used ≡ st.used)
        (number : Quiet Named z x₀ 1) (first-new : (w : List ℤ) → Ready w x₂ → B w → A w → Quiet Named x₂ x₃ (fresh (tallies (num_item b.bools false ∷ q.negated ∷ []))))
        (second-new : (w : List ℤ) → Ready w x₂ → B w → A w → Quiet Named x₃ x₄ (fresh (tallies (num_item b.bools true ∷ q.plain ∷ []))))
        (g₀ : words_of z ≤ words_of x₀) (g₁ : words_of x₀ ≤ words_of x₁) (g₂ : words_of x₁ ≤ words_of x₂) (g₃ : 4 + (ec + ed) + words_of x₂ ≤ words_of (int m ∷ x₄)) (gb : GoodAt (16 + n) b z) where
      abbrev begun : State
      begun = spend q.leaves (with_work (marked (16 + n) b z gb closed none_yet) b)

      abbrev jn : ℕ
      jn = fresh (tallies (num_item b.bools false ∷ q.negated ∷ []))

      abbrev jp : ℕ
      jp = fresh (tallies (num_item b.bools true ∷ q.plain ∷ []))

      abbrev After : State → Type 0
      After st = OutcomeAt k n (λ w. (seen w p ≡ both_constant) × (B w × A w)) b st (int m ∷ x₄)

      few : q.leaves ≤ ec + ed
      few = omega (arith, leaf)

      l₀ : Later ds F Plain parted K fixed b.work begun.work
      l₀ = marked_later (16 + n) b z gb closed none_yet

      constant_done : (st : State) → OutcomeAt (k + 4 + q.leaves) (jn + (jp + suc n)) (λ w. B w × A w) (more_bools 1 begun) st x₂ → After (new_int ds rec cap (two_record (pos (b.bools + 1)) x y) (more_bools jp (more_bools jn st)))
      unfolding new_int
      constant_done st (full c d) = full c (omega (arith, d, few, g₃))
      constant_done st (good g u r f) =
          let v = f st.work (same_later ds F Plain parted K fixed st.work) in
          let y = good_ready ds F Plain parted K fixed rec cap with_ifs before Named N P low (jn + (jp + suc n)) st x₂ g in
          let h₁ = good_quiet ds F Plain parted K fixed rec cap with_ifs before Named P jn (jp + suc n) st x₂ x₃ (first-new st.work y v.0 v.1) g in
          let h₂ = good_quiet ds F Plain parted K fixed rec cap with_ifs before Named P jp (suc n) (more_bools jn st) x₃ x₄ (second-new st.work y v.0 v.1) h₁ in
          let h₃ = good_new ds F Plain parted K fixed rec cap with_ifs before Named N P m undeclared n (more_bools jp (more_bools jn st)) x₄ h₂ in
          good (subst (λ (w : List ℤ). GoodAt n (new_int ds rec cap w (more_bools jp (more_bools jn st))) (int m ∷ x₄)) rec-is h₃)
          (omega (arith, u, few, g₃))
          (later_then ds F Plain parted K fixed b.work begun.work st.work l₀ r)
          (λ w₂ l. (marked_seen (16 + n) b z gb closed none_yet w₂ (later_then ds F Plain parted K fixed begun.work st.work w₂ r l), f w₂ l))

      pub constant_outcome : b.used ≤ words_of z + (k + 4) → After (meet_constant ds rec cap q x y none (with_work (marked (16 + n) b z gb closed none_yet) b))
      unfolding meet_constant new_int
      constant_outcome ub = go (ltb cap begun.used) refl
        where
          go : (c : Bool) → ltb cap begun.used ≡ c
              → After (cond c begun (new_int ds rec cap (two_record (pos (b.bools + 1)) x y) (more_bools jp (more_bools jn (q.meet_plain (q.meet_negated (more_bools 1 begun)))))))
          go true c = full (ltb-true cap begun.used c) (omega (arith, ub, few, g₀, g₁, g₂, g₃))
          go false c =
              let l : bump b.used q.leaves ≤ cap = ltb-false cap begun.used c in
              let ex : q.leaves ≡ ec + ed = omega (arith, leaf, low) in
              let st₀ = with_work (marked (16 + n) b z gb closed none_yet) b in
              let a₁ = good_spend ds F Plain parted K fixed rec cap with_ifs before Named q.leaves (16 + n) st₀ z low l (marked_good (16 + n) b z gb closed none_yet) in
              let a₂ = good_less ds F Plain parted K fixed rec cap with_ifs before Named (4 * q.leaves + (16 + n)) (1 + (wd + (wc + (jn + (jp + suc n))))) begun z (omega (arith, light, light', ex)) a₁ in
              let a₃ = good_quiet ds F Plain parted K fixed rec cap with_ifs before Named P 1 (wd + (wc + (jn + (jp + suc n)))) begun z x₀ number a₂ in
              let s₁ = more_bools 1 begun in
              let o₁ = negated (k + 4 + q.leaves) (wc + (jn + (jp + suc n))) s₁ a₃ (omega (arith, ub, g₀)) in
              let o₂ = outcome_then ds F Plain parted K fixed rec cap with_ifs before Named (k + 4 + q.leaves) (wc + (jn + (jp + suc n))) (jn + (jp + suc n)) B A s₁ (q.meet_negated s₁) (q.meet_plain (q.meet_negated s₁)) x₁ x₂ (frozen (q.meet_negated s₁)) g₂ o₁ (λ g u. plain (k + 4 + q.leaves) (jn + (jp + suc n)) (q.meet_negated s₁) g u) in
              constant_done (q.meet_plain (q.meet_negated s₁)) o₂

    -- ---- an If that is new: its branches, then either

    module _ (k n : ℕ) (st : State) (s x₁ x₂ x₃ : Log) (A B C : List ℤ → Type 0)
        (first_visit : (k n : ℕ) (st : State) → GoodAt n st s → st.used ≤ words_of s + k → OutcomeAt k n A st (q.meet_first st) x₁)
        (second-visit : (k n : ℕ) (st : State) → GoodAt n st x₁ → st.used ≤ words_of x₁ + k → OutcomeAt k n B st (q.meet_second st) x₂)
        (frozen : (st : State) → is_full ds rec cap st ≡ true → (q.meet_second st).used ≡ st.used)
        (g₀ : words_of s ≤ words_of x₁) (g₁ : words_of x₁ ≤ words_of x₂) (g₂ : 4 + words_of x₂ ≤ words_of x₃)
        (finish : (a b : State) → GoodAt (16 + n) (spend 4 st) s → GoodAt (16 + n) a x₁ → GoodAt (16 + n) b x₂ → b.used ≤ words_of x₂ + (k + 4) → ((w : List ℤ) → Later ds F Plain parted K fixed b.work w → A w × B w) → OutcomeAt k n C b (meet_branches ds rec cap q (spend 4 st) a b) x₃) where
      abbrev a₁ : State
      a₁ = q.meet_first (spend 4 st)

      abbrev b₁ : State
      b₁ = q.meet_second a₁

      abbrev Whole : State → Type 0
      Whole st' = OutcomeAt k n (λ w. A w × B w × C w) st st' x₃

      last_step : Later ds F Plain parted K fixed st.work b₁.work → ((w : List ℤ) → Later ds F Plain parted K fixed b₁.work w → A w × B w) → (st' : State) → OutcomeAt k n C b₁ st' x₃ → Whole st'
      last_step r f st' (full c d) = full c d
      last_step r f st' (good g u l h) = good g u (later_then ds F Plain parted K fixed st.work b₁.work st'.work r l) (λ w t. let x = f w (later_then ds F Plain parted K fixed b₁.work st'.work w l t) in (x.0, x.1, h w t))

      second_step : GoodAt (16 + n) (spend 4 st) s → GoodAt (16 + n) a₁ x₁ → Later ds F Plain parted K fixed st.work a₁.work → ((w : List ℤ) → Later ds F Plain parted K fixed a₁.work w → A w) → OutcomeAt (k + 4) (16 + n) B a₁ b₁ x₂ → Whole (cond (ltb cap b₁.used) b₁ (meet_branches ds rec cap q (spend 4 st) a₁ b₁))
      second_step gs ga la fa (full c d) = rw (lt-ltb cap b₁.used c) (full c (omega (arith, d, g₂)))
      second_step gs ga la fa (good gb u lb fb) =
          let f : (w : List ℤ) → Later ds F Plain parted K fixed b₁.work w → A w × B w = λ w t. (fa w (later_then ds F Plain parted K fixed a₁.work b₁.work w lb t), fb w t) in
          rw (not_full ds F Plain parted K fixed rec cap with_ifs before Named N P low b₁ gb.used) (last_step (later_then ds F Plain parted K fixed st.work a₁.work b₁.work la lb) f _ (finish a₁ b₁ gs ga gb u f))

      first_step : GoodAt (16 + n) (spend 4 st) s → OutcomeAt (k + 4) (16 + n) A (spend 4 st) a₁ x₁ → Whole (cond (ltb cap b₁.used) b₁ (meet_branches ds rec cap q (spend 4 st) a₁ b₁))
      first_step gs (full c d) =
          let y : b₁.used ≡ a₁.used = frozen a₁ (lt-ltb cap a₁.used c) in
          let c' : cap < b₁.used = omega (arith, c, y) in
          rw (lt-ltb cap b₁.used c') (full c' (omega (arith, d, y, g₁, g₂)))
      first_step gs (good ga u la fa) = second_step gs ga la fa (second-visit (k + 4) (16 + n) a₁ ga u)

      pub new_whole : GoodAt n st s → st.used ≤ words_of s + k → Whole (meet_new ds rec cap q st)
      unfolding meet_new
      new_whole g u = go (ltb cap (spend 4 st).used) refl
        where
          go : (c : Bool) → ltb cap (spend 4 st).used ≡ c → Whole (cond c (spend 4 st) (cond (ltb cap b₁.used) b₁ (meet_branches ds rec cap q (spend 4 st) a₁ b₁)))
          go true c = full (ltb-true cap (spend 4 st).used c) (omega (arith, u, g₀, g₁, g₂))
          go false c =
              let l : bump st.used 4 ≤ cap = ltb-false cap (spend 4 st).used c in
              let gs = good_spend ds F Plain parted K fixed rec cap with_ifs before Named 4 n st s low l g in
              first_step gs (first_visit (k + 4) (16 + n) (spend 4 st) gs (omega (arith, u)))
