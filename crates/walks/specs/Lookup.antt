-- An If in the first walk: known, by its own cells or by an equal one's, which are copied; or new.
use Rattle.std.specs.Prelude.{◌≡◌, refl, Bool, not, ◌&&◌, ◌||◌, cond, ℕ, ◌+◌, ◌≤◌, ◌<◌, ℤ, pos, length, get_or, set, drop, eqb}
use Rattle.std.proofs.Common.{sym, ◌∙◌, arith, length-set, get_or-set_other}
use Rattle.std.proofs.Math.Path.{ap, subst}
use Rattle.std.proofs.Math.Bool.{true, false}
use Rattle.std.proofs.Math.Option.{Option, none, some}
use mathlib.Core.List.{List}
use Rattle.std.proofs.Math.ListN.{take}
use Rattle.std.proofs.lemmas.List.{take-set-le}
use borrow.Author.Tests.{eqb-true, eqb-false, lt-ltb}
use Rattle.laws.specs.Bools.{never as no_bool, and_l, and_r, and_i}
use Rattle.laws.specs.Same.{same_words, same_is, same_refl}
use Rattle.laws.specs.Ints.{is_zero}
use Rattle.memory.specs.Places.{folded, folded_end, bool_map, int_map, maps_end, cells, limit}
use Rattle.memory.specs.Number.{nat}
use Rattle.syntax.specs.Syntax.{Domain, lower_bound, upper_bound, IntExpr, encode_int}
use Rattle.syntax.specs.Words.{max_bools, max_ints}
use Rattle.clauses.specs.Log.{Log, next_int, get_if}
use Rattle.clauses.proofs.Emitted.{domain_at}
use Rattle.walk.specs.Item.{bool_at, int_entry}
use Rattle.walk.specs.Decode.{read_part}
use Rattle.walks.specs.Tree.{Place}
use Rattle.walks.specs.Item.{has_ifs, cell, Seen, unseen, both_constant, numbered, seen_in, seen, known_in}
use Rattle.walks.specs.Distinct.{none_some, some_is, unseen_numbered, constant_numbered}
use Rattle.walks.specs.Placed.{HasNumber, Numbered}
use Rattle.walks.specs.Meet.{State, with_work, is_unseen, is_shared, words_at, equal_from, find_equal, set_cells, copied, Parts, is_full, meet_unknown, meet_new, meet_if}
use Rattle.walks.specs.Cells.{cells_first, cells_second, cells_third, cells_other, cells_word, Stands, Key, whole, own, Is, Somewhere, Cells, Places, Only, stands_of, key_stands, off_apart, cells_at}
use Rattle.walks.specs.Good.{blanks_same, no_int, Names, Good}
use Rattle.walks.specs.Find.{Equal, FoundAt, equal_some, equal_none}
use Rattle.walks.specs.Leaves.{words_of}
use Rattle.walks.specs.Visit.{Later, same_later, Outcome, good, outcome_to, not_full}

-- ---- a store into cells

pub cells_length : (p : ℕ) (x y z : ℤ) (w : List ℤ) → length (set_cells p x y z w) ≡ length w
unfolding set_cells
cells_length p x y z w = rw (length-set, length-set, length-set) refl

pub cells_below : (p : ℕ) (x y z : ℤ) (w : List ℤ) (q : ℕ) → folded ≤ p → q < maps_end → get_or (set_cells p x y z w) q (pos 0) ≡ get_or w q (pos 0)
unfolding set_cells
cells_below p x y z w q h l =
    let a = set w (cells + (p + 1)) x in
    let b = set a (cells + (p + 2)) y in
    get_or-set_other b (cells + (p + 3)) q z (pos 0) (λ e. omega arith) ∙ get_or-set_other a (cells + (p + 2)) q y (pos 0) (λ e. omega arith) ∙ get_or-set_other w (cells + (p + 1)) q x (pos 0) (λ e. omega arith)

pub cells_words : (p : ℕ) (x y z : ℤ) (w : List ℤ) → read_part (set_cells p x y z w) ≡ read_part w
unfolding set_cells read_part
cells_words p x y z w =
    let a = set w (cells + (p + 1)) x in
    let b = set a (cells + (p + 2)) y in
    take-set-le folded_end b (cells + (p + 3)) z (omega arith) ∙ take-set-le folded_end a (cells + (p + 2)) y (omega arith) ∙ take-set-le folded_end w (cells + (p + 1)) x (omega arith)

-- ---- the steps of an If's visit

and_on : (a b : Bool) → a ≡ true → b ≡ true → a && b ≡ true
and_on a b p q = and_i a b p q

and_off : (a b : Bool) → b ≡ false → a && b ≡ false
and_off true b q = q
and_off false b q = refl

find_by : (w : List ℤ) (p : Place) (b : Bool) → is_unseen (seen w p) && p.whole ≡ b → find_equal w p ≡ cond b (equal_from w p 4096 folded) none
unfolding find_equal
find_by w p b h = ap (λ c. cond c (equal_from w p 4096 folded) none) h

step_known : (ds : List Domain) (rec cap : ℕ) (q : Parts) (st : State) → known_in (seen st.work q.place) st.ints ≡ true → meet_if ds rec cap q st ≡ st
unfolding meet_if
step_known ds rec cap q st h = ap (λ b. cond b st (meet_unknown ds rec cap q (find_equal st.work q.place) st)) (ap (λ b. is_full ds rec cap st || b) h ∙ or-true (is_full ds rec cap st))
  where
    or-true : (a : Bool) → a || true ≡ true
    or-true true = refl
    or-true false = refl

step_unknown : (ds : List Domain) (rec cap : ℕ) (q : Parts) (st : State) (o : Option ℕ) → is_full ds rec cap st ≡ false → known_in (seen st.work q.place) st.ints ≡ false → find_equal st.work q.place ≡ o
    → meet_if ds rec cap q st ≡ meet_unknown ds rec cap q o st
unfolding meet_if
step_unknown ds rec cap q st o f h e =
    ap (λ b. cond (b || known_in (seen st.work q.place) st.ints) st (meet_unknown ds rec cap q (find_equal st.work q.place) st)) f
    ∙ ap (λ b. cond b st (meet_unknown ds rec cap q (find_equal st.work q.place) st)) h
    ∙ ap (λ x. meet_unknown ds rec cap q x st) e

module _ (ds : List Domain) (F : List ℤ) (Plain : IntExpr → Type 0) (parted : ℕ → Bool) (K : ℕ → Option IntExpr) (fixed : IntExpr → Bool) (rec cap : ℕ) (with_ifs : Bool) (before : List ℤ) (Named : Log → Type 0) where
  abbrev GoodAt : ℕ → State → Log → Type 0
  GoodAt = Good ds F Plain parted K fixed rec cap with_ifs before Named

  abbrev CellsAt : List ℤ → Log → Type 0
  CellsAt = Cells ds F Plain parted K fixed

  -- cells alone change
  pub good_cells : (n : ℕ) (st : State) (s : Log) (w : List ℤ) → length w ≡ length st.work → ((q : ℕ) → q < maps_end → get_or w q (pos 0) ≡ get_or st.work q (pos 0)) → read_part w ≡ read_part st.work → has_ifs w ≡ has_ifs st.work → CellsAt w s → GoodAt n st s → GoodAt n (with_work w st) s
  unfolding bool_at int_entry
  good_cells n st s w l h r o c g =
      let i = blanks_same is_zero st.work bool_map w max_bools (λ v m. h (bool_map + v) (omega arith)) in
      let j = blanks_same no_int st.work int_map w max_ints (λ v m. h (int_map + v) (omega arith)) in
      record {
        map = λ v m. h (bool_map + v) (omega arith) ∙ g.map v m;
        map_int = λ v m. ap nat (h (int_map + v) (omega arith)) ∙ g.map_int v m;
        bools = g.bools;
        ints = g.ints;
        low = g.low;
        low_int = g.low_int;
        size = omega (arith, g.size);
        words = r ∙ g.words;
        word = o ∙ g.word;
        records = g.records;
        cells = c;
        below = g.below;
        opens = g.opens;
        named = g.named;
        used = g.used;
        room = omega (arith, g.room, i, j);
      }

  -- ---- what is known of an If's place

  abbrev KeyAt : ℕ → IntExpr → Type 0
  KeyAt = Key ds F Plain parted K fixed

  pub record Node (p : Place) (e : IntExpr) : Type 0 where
    pub key : KeyAt p.at e
    pub kind : parted p.at ≡ not p.whole
    pub size : p.whole ≡ true → p.size ≡ length (encode_int e)

  module _ (N : Names Named) (P : Places ds F Plain parted K fixed) (low : cap < limit) (q : Parts) (e : IntExpr) (nd : Node q.place e) where
    abbrev p : Place
    p = q.place

    pub is_whole : parted p.at ≡ false → p.whole ≡ true
    is_whole h = go p.whole refl
      where
        go : (b : Bool) → p.whole ≡ b → b ≡ true
        go true x = refl
        go false x = no_bool (sym h ∙ nd.kind ∙ ap not x)

    pub not_whole : parted p.at ≡ true → p.whole ≡ false
    not_whole h = go p.whole refl
      where
        go : (b : Bool) → p.whole ≡ b → b ≡ false
        go true x = no_bool (ap not (sym x) ∙ sym nd.kind ∙ h)
        go false x = refl

    under : IntExpr
    under = key_stands ds F Plain parted K fixed P p.at e nd.key

    place_stands : Stands ds F Plain parted K fixed p.at under
    unfolding under
    place_stands = stands_of ds F Plain parted K fixed P p.at e nd.key

    module _ (n : ℕ) (st : State) (s : Log) (g : GoodAt n st s) where
      abbrev w : List ℤ
      w = st.work

      room : cells + p.at + 3 < length w
      room = omega (arith, g.size, place_stands.high)

      -- the words of an If that stands at a place
      stands_words : (x : ℕ) → Stands ds F Plain parted K fixed x e → words_at w x (length (encode_int e)) ≡ encode_int e
      unfolding words_at
      stands_words x t = ap (λ (y : List ℤ). take (length (encode_int e)) (drop x y)) g.words ∙ t.words

      -- found by its words: it stands there, and has a number
      found_stands : Stands ds F Plain parted K fixed p.at e → p.size ≡ length (encode_int e) → (x : ℕ) → FoundAt w p folded 4096 x → Stands ds F Plain parted K fixed x e
      unfolding words_at
      found_stands t z x f =
          let h : words_at w x p.size ≡ words_at w p.at p.size = same_is (words_at w x p.size) (words_at w p.at p.size) (and_r (is_shared (seen_in (cell w (x + 1)))) _ f.test) in
          let k : take (length (encode_int e)) (drop x F) ≡ encode_int e = subst (λ m. take m (drop x F) ≡ encode_int e) z (ap (λ (y : List ℤ). take p.size (drop x y)) (sym g.words) ∙ h ∙ ap (λ m. words_at w p.at m) z ∙ stands_words p.at t) in
          record { is_if = t.is_if; plain = t.plain; words = k; low = f.from; high = omega (arith, f.below) }

      found_number : (x : ℕ) (v : ℕ) → Stands ds F Plain parted K fixed x e → seen_in (cell w (x + 1)) ≡ numbered v true → Is ds F Plain parted K fixed w s x e v
      found_number x v t h = g.cells.number x e v true (whole t (not_parted x v t h (parted x) refl)) h
        where
          not_parted : (x v : ℕ) → Stands ds F Plain parted K fixed x e → seen_in (cell w (x + 1)) ≡ numbered v true → (b : Bool) → parted x ≡ b → parted x ≡ false
          not_parted x v t h true y = absurd (g.cells.unshared x e v t y h)
          not_parted x v t h false y = y

      shared_is : (o : Seen) → is_shared o ≡ true → (X : Type 0) → ((v : ℕ) → o ≡ numbered v true → X) → X
      shared_is unseen h X k = no_bool h
      shared_is both_constant h X k = no_bool h
      shared_is (numbered v true) h X k = k v refl
      shared_is (numbered v false) h X k = no_bool h

      -- ---- known

      -- the cells of a later slice
      later_numbered : (w₁ w₂ : List ℤ) (v : ℕ) (b : Bool) → Later ds F Plain parted K fixed w₁ w₂ → seen_in (cell w₁ (p.at + 1)) ≡ numbered v b → cell w₁ (p.at + 2) ≡ lower_bound (domain_at ds s v) → cell w₁ (p.at + 3) ≡ upper_bound (domain_at ds s v)
          → Numbered w₂ p v (domain_at ds s v)
      unfolding seen
      later_numbered w₁ w₂ v b l h x y =
          let ne : seen_in (cell w₁ (p.at + 1)) ≡ unseen → ⊥ = λ q. unseen_numbered (sym q ∙ h) in
          let go : (k : ℕ) → 1 ≤ k → k ≤ 3 → cell w₂ (p.at + k) ≡ cell w₁ (p.at + k) = λ k a c. l.stay p.at under place_stands ne k a c in
          record {
            number = subst (λ o. HasNumber o v) (sym (ap seen_in (go 1 (omega arith) (omega arith)) ∙ h)) refl;
            low = go 2 (omega arith) (omega arith) ∙ x;
            high = go 3 (omega arith) (omega arith) ∙ y;
          }

      -- an equal If's cells are copied
      module _ (t : Stands ds F Plain parted K fixed p.at e) (c : parted p.at ≡ false) (un : seen_in (cell w (p.at + 1)) ≡ unseen) (x v : ℕ) (h : seen_in (cell w (x + 1)) ≡ numbered v true) (i : Is ds F Plain parted K fixed w s x e v) where
        abbrev after : List ℤ
        after = copied p.at x w

        after_first : seen_in (cell after (p.at + 1)) ≡ numbered v true
        after_first = ap seen_in (cells_first w p.at (cell w (x + 1)) (cell w (x + 2)) (cell w (x + 3)) room) ∙ h

        after_second : cell after (p.at + 2) ≡ lower_bound (domain_at ds s v)
        after_second = cells_second w p.at (cell w (x + 1)) (cell w (x + 2)) (cell w (x + 3)) room ∙ i.low

        after_third : cell after (p.at + 3) ≡ upper_bound (domain_at ds s v)
        after_third = cells_third w p.at (cell w (x + 1)) (cell w (x + 2)) (cell w (x + 3)) room ∙ i.high

        after_only : Only ds F Plain parted K fixed p.at w after
        after_only q o = cells_other w p.at (cell w (x + 1)) (cell w (x + 2)) (cell w (x + 3)) q o

        other_number : (u : ℕ) (b : Bool) → seen_in (cell after (p.at + 1)) ≡ numbered u b → v ≡ u
        other_number u b z = let y : numbered v true ≡ numbered u b = sym after_first ∙ z in cc

        after_cells : CellsAt after s
        after_cells = cells_at ds F Plain parted K fixed P p.at e (whole t c) w after after_only s
            (λ u b z. subst (λ y. Is ds F Plain parted K fixed after s p.at e y) (other_number u b z) (record { found = i.found; low = after_second; high = after_third }))
            (λ z. constant_numbered (sym z ∙ after_first))
            (λ k z. unseen_numbered (sym z ∙ after_first))
            (λ y u z. no_bool (sym c ∙ y))
            (λ u z. unseen_numbered (sym un ∙ z))
            g.cells

        after_word : has_ifs after ≡ has_ifs w
        after_word = cells_word p.at (cell w (x + 1)) (cell w (x + 2)) (cell w (x + 3)) w t.high

        after_later : Later ds F Plain parted K fixed w after
        after_later = record { stay = λ q d a ne k l m. go q d a ne k l m (eqb q p.at) refl; word = after_word }
          where
            go : (q : ℕ) (d : IntExpr) → Stands ds F Plain parted K fixed q d → (seen_in (cell w (q + 1)) ≡ unseen → ⊥) → (k : ℕ) → 1 ≤ k → k ≤ 3 → (b : Bool) → eqb q p.at ≡ b → cell after (q + k) ≡ cell w (q + k)
            go q d a ne k l m true z = absurd (ne (ap (λ y. seen_in (cell w (y + 1))) (eqb-true q p.at z) ∙ un))
            go q d a ne k l m false z = after_only (q + k) (off_apart ds F Plain parted K fixed P q p.at k d e a t (eqb-false q p.at z) l m)

        pub copied_outcome : (k : ℕ) → st.used ≤ words_of s + k → Outcome ds F Plain parted K fixed rec cap with_ifs before Named k n (λ w'. Numbered w' p v (domain_at ds s v)) st (with_work after st) s
        copied_outcome k u = good
            (good_cells n st s after (cells_length p.at (cell w (x + 1)) (cell w (x + 2)) (cell w (x + 3)) w) (λ q l. cells_below p.at (cell w (x + 1)) (cell w (x + 2)) (cell w (x + 3)) w q t.low l) (cells_words p.at (cell w (x + 1)) (cell w (x + 2)) (cell w (x + 3)) w) after_word after_cells g)
            u after_later (λ w' l. later_numbered after w' v true l after_first after_second after_third)

      -- the If of the number v: by its own cells, or copied
      free : is_full ds rec cap st ≡ false
      free = not_full ds F Plain parted K fixed rec cap with_ifs before Named N P low st g.used

      module _ (v : ℕ) (h : get_if e s ≡ some v) (k : ℕ) (u : st.used ≤ words_of s + k) where
        abbrev Result : State → Type 0
        Result st' = Outcome ds F Plain parted K fixed rec cap with_ifs before Named k n (λ w'. (v < next_int s) × Numbered w' p v (domain_at ds s v)) st st' s

        below : v < next_int s
        below = g.below e v h

        here : (a : ℕ) (b : Bool) → seen_in (cell w (p.at + 1)) ≡ numbered a b → Is ds F Plain parted K fixed w s p.at e a → Result (meet_if ds rec cap q st)
        unfolding seen
        here a b z i =
            let y : a ≡ v = some_is (sym i.found ∙ h) in
            let i' : Is ds F Plain parted K fixed w s p.at e v = subst (λ a. Is ds F Plain parted K fixed w s p.at e a) y i in
            let z' : seen_in (cell w (p.at + 1)) ≡ numbered v b = z ∙ ap (λ a. numbered a b) y in
            let kn : known_in (seen_in (cell w (p.at + 1))) st.ints ≡ true = ap (λ o. known_in o st.ints) z' ∙ lt-ltb v st.ints (omega (arith, below, g.ints)) in
            subst Result (sym (step_known ds rec cap q st kn)) (good g u (same_later ds F Plain parted K fixed w) (λ w' l. (below, later_numbered w w' v b l z' i'.low i'.high)))

        same_here : Stands ds F Plain parted K fixed p.at e → parted p.at ≡ false → (x : Somewhere ds F Plain parted K fixed w e v) → same_words (words_at w x.place p.size) (words_at w p.at p.size) ≡ true
        same_here t c x = rw (nd.size (is_whole c), stands_words x.place x.stands, stands_words p.at t) (same_refl (encode_int e))

        from : Stands ds F Plain parted K fixed p.at e → parted p.at ≡ false → seen_in (cell w (p.at + 1)) ≡ unseen → (x a : ℕ) → seen_in (cell w (x + 1)) ≡ numbered a true → Is ds F Plain parted K fixed w s x e a → Result (meet_unknown ds rec cap q (some x) st)
        from t c z x a m i =
            let y : a ≡ v = some_is (sym i.found ∙ h) in
            outcome_to ds F Plain parted K fixed rec cap with_ifs before Named (λ w' l. (below, l)) (copied_outcome t c z x v (m ∙ ap (λ b. numbered b true) y) (subst (λ b. Is ds F Plain parted K fixed w s x e b) y i) k u)

        elsewhere : Stands ds F Plain parted K fixed p.at e → parted p.at ≡ false → seen_in (cell w (p.at + 1)) ≡ unseen → (o : Option ℕ) → equal_from w p 4096 folded ≡ o → Result (meet_unknown ds rec cap q o st)
        elsewhere t c z none y =
            let x = g.cells.complete e v t.plain h in
            let m : Equal w p x.place ≡ true = and_i (is_shared (seen_in (cell w (x.place + 1)))) _ (ap is_shared x.shared) (same_here t c x) in
            no_bool (sym (equal_none w p 4096 folded y x.place x.stands.low (omega (arith, x.stands.high))) ∙ m)
        elsewhere t c z (some x) y =
            let f = equal_some w p 4096 folded x y in
            let tx = found_stands t (nd.size (is_whole c)) x f in
            shared_is (seen_in (cell w (x + 1))) (and_l (is_shared (seen_in (cell w (x + 1)))) _ f.test) _ (λ a m. from t c z x a m (found_number x a tx m))

        by_seen : (o : Seen) → seen_in (cell w (p.at + 1)) ≡ o → KeyAt p.at e → Result (meet_if ds rec cap q st)
        unfolding seen
        by_seen unseen z (whole t c) =
            let f : find_equal w p ≡ equal_from w p 4096 folded = find_by w p true (and_on (is_unseen (seen w p)) p.whole (ap is_unseen z) (is_whole c)) in
            subst Result (sym (step_unknown ds rec cap q st (equal_from w p 4096 folded) free (ap (λ o. known_in o st.ints) z) f)) (elsewhere t c z (equal_from w p 4096 folded) refl)
        by_seen unseen z (own y) = none_some (sym (g.cells.fresh p.at e y z) ∙ h)
        by_seen both_constant z y = no_bool (sym (g.opens e v h) ∙ g.cells.const p.at e y z)
        by_seen (numbered a b) z y = here a b z (g.cells.number p.at e a b y z)

        pub known_outcome : Result (meet_if ds rec cap q st)
        known_outcome = by_seen (seen_in (cell w (p.at + 1))) refl nd.key

      -- ---- new: neither its own cells nor an equal one's have a number

      module _ (h : get_if e s ≡ none) where
        nowhere : Stands ds F Plain parted K fixed p.at e → parted p.at ≡ false → (o : Option ℕ) → equal_from w p 4096 folded ≡ o → o ≡ none
        nowhere t c none y = refl
        nowhere t c (some x) y =
            let f = equal_some w p 4096 folded x y in
            let tx = found_stands t (nd.size (is_whole c)) x f in
            shared_is (seen_in (cell w (x + 1))) (and_l (is_shared (seen_in (cell w (x + 1)))) _ f.test) _ (λ a m. none_some (sym h ∙ (found_number x a tx m).found))

        new_by : (o : Seen) → seen_in (cell w (p.at + 1)) ≡ o → KeyAt p.at e → meet_if ds rec cap q st ≡ meet_new ds rec cap q st
        unfolding seen
        new_by unseen z (whole t c) =
            let f : find_equal w p ≡ equal_from w p 4096 folded = find_by w p true (and_on (is_unseen (seen w p)) p.whole (ap is_unseen z) (is_whole c)) in
            step_unknown ds rec cap q st none free (ap (λ o. known_in o st.ints) z) (f ∙ nowhere t c (equal_from w p 4096 folded) refl)
        new_by unseen z (own y) = step_unknown ds rec cap q st none free (ap (λ o. known_in o st.ints) z) (find_by w p false (and_off (is_unseen (seen w p)) p.whole (not_whole (P.parts p.at e y))))
        new_by both_constant z y = step_unknown ds rec cap q st none free (ap (λ o. known_in o st.ints) z) (find_by w p false (ap (λ o. is_unseen o && p.whole) z))
        new_by (numbered a b) z y = none_some (sym h ∙ (g.cells.number p.at e a b y z).found)

        pub new_outcome : meet_if ds rec cap q st ≡ meet_new ds rec cap q st
        new_outcome = new_by (seen_in (cell w (p.at + 1))) refl nd.key
