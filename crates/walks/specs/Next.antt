-- From one rule to the next: what is looked up changes, and the cells and the state of a log stay such, where the new rule's Ifs with split parts are
-- unseen and unknown (`list_next`). From a place on, the Ifs that stand there are unseen (`Ahead`): the walk over what stands before keeps this.
use Rattle.std.specs.Prelude.{◌≡◌, refl, Bool, true, false, List, ℕ, ◌+◌, ◌≤◌, ◌<◌, ℤ, pos, length, get_or}
use Rattle.std.proofs.Common.{sym, ◌∙◌, subst, inr, arith}
use Rattle.std.proofs.Math.Path.{ap}
use Rattle.std.proofs.Math.Option.{Option, none, some}
use Rattle.laws.specs.Ints.{is_zero}
use Rattle.laws.specs.Bools.{never as no_bool}
use Rattle.laws.specs.Slices.{Has}
use Rattle.laws.specs.Same.{same_refl}
use Rattle.memory.specs.Places.{folded, folded_end, bool_map, int_map, maps_end}
use Rattle.memory.specs.Number.{nat}
use Rattle.syntax.specs.Syntax.{Domain, IntExpr, encode_int}
use Rattle.syntax.specs.Words.{max_bools, max_ints}
use Rattle.clauses.specs.Log.{Log, get_if}
use Rattle.walk.specs.Item.{bool_at, int_entry}
use Rattle.walk.specs.Decode.{read_part}
use Rattle.walks.specs.Tree.{Place}
use Rattle.walks.specs.Form.{Forms, IntForm}
use Rattle.walks.specs.Item.{has_ifs, cell, unseen, both_constant, numbered, seen_in}
use Rattle.walks.specs.Distinct.{unseen_numbered, unseen_constant}
use Rattle.walks.specs.Meet.{State, with_work, form_meets, form_meet_int}
use Rattle.walks.specs.Plain.{PlainInt}
use Rattle.walks.specs.Cells.{IsIf, Stands, Key as KeyAt, whole, own, Is, Cells}
use Rattle.walks.specs.Good.{Good, blanks, blanks_same, no_int}
use Rattle.walks.specs.Visit.{Later}
use Rattle.walks.specs.Keys.{Key, Every, Within, Written, found_in, found_new}
use Rattle.walks.specs.KeyAt.{looked_up, looked_up_found}
use Rattle.walks.specs.KeyPlaces.{PlainIf, every_both, at_least, at_most}
use Rattle.walks.specs.LowIfs.{LowIfs}
use Rattle.walks.specs.Near.{WithinForms, WithinInt, forms_near, int_form_near}

-- ---- what is not walked yet

-- no If is seen that stands from `at` on, or whose cells reach there; F: the folded words
module _ (F : List ℤ) where
  abbrev pub Ahead : ℕ → List ℤ → Type 0
  Ahead at w = (q : ℕ) (e : IntExpr) → IsIf e → Has F q (encode_int e) → folded ≤ q → q < folded_end → at ≤ q + 3 → seen_in (cell w (q + 1)) ≡ unseen

  pub ahead_more : (a b : ℕ) (w : List ℤ) → a ≤ b → Ahead a w → Ahead b w
  ahead_more a b w l h q e i t m n k = h q e i t m n (omega arith)

  -- the cells from b - 2 on stay
  pub ahead_same : (b : ℕ) (w w' : List ℤ) → ((q : ℕ) → folded ≤ q → b ≤ q + 2 → cell w' q ≡ cell w q) → Ahead b w → Ahead b w'
  ahead_same b w w' c h q e i t m n k = ap seen_in (c (q + 1) (omega arith) (omega arith)) ∙ h q e i t m n k

  module _ (ds : List Domain) (rec cap a b : ℕ) where
    pub forms_ahead : (ts : Forms) → WithinForms a b ts → (st : State) → Ahead b st.work → Ahead b (form_meets ds rec cap ts st).work
    forms_ahead ts h st = ahead_same b st.work (form_meets ds rec cap ts st).work (λ q m l. forms_near ds rec cap a b q (m, inr l) ts h st)

    pub int_form_ahead : (e : IntForm) → WithinInt a b e → (st : State) → Ahead b st.work → Ahead b (form_meet_int ds rec cap e st).work
    int_form_ahead e h st = ahead_same b st.work (form_meet_int ds rec cap e st).work (λ q m l. int_form_near ds rec cap a b q (m, inr l) e h st)

-- ---- other keys

-- K, L: what is looked up so far, and from here on
module _ (ds : List Domain) (F : List ℤ) (Plain : IntExpr → Type 0) (parted : ℕ → Bool) (K L : ℕ → Option IntExpr) (fixed : IntExpr → Bool) where
  -- what stands at a place is the same
  pub stands_next : (q : ℕ) (e : IntExpr) → Stands ds F Plain parted K fixed q e → Stands ds F Plain parted L fixed q e
  stands_next q e t = record { is_if = t.is_if; plain = t.plain; words = t.words; low = t.low; high = t.high }

  pub later_next : (w w' : List ℤ) → Later ds F Plain parted L fixed w w' → Later ds F Plain parted K fixed w w'
  later_next w w' l = record { stay = λ q e t. l.stay q e (stands_next q e t); word = l.word }

module _ (ds : List Domain) (F : List ℤ) (Plain : IntExpr → Type 0) (parted : ℕ → Bool) (K L : ℕ → Option IntExpr) (fixed : IntExpr → Bool) where
  -- the new keys are unseen and unknown
  pub record Unmet (w : List ℤ) (s : Log) : Type 0 where
    pub blank : (q : ℕ) (e : IntExpr) → L q ≡ some e → seen_in (cell w (q + 1)) ≡ unseen
    pub unknown : (q : ℕ) (e : IntExpr) → L q ≡ some e → get_if e s ≡ none

  -- from w to w' the cells of whole Ifs stay; of an If with split parts no shared number comes in
  pub record Reset (w w' : List ℤ) : Type 0 where
    pub stay : (q : ℕ) (e : IntExpr) → Stands ds F Plain parted K fixed q e → parted q ≡ false → (k : ℕ) → 1 ≤ k → k ≤ 3 → cell w' (q + k) ≡ cell w (q + k)
    pub split : (q : ℕ) (e : IntExpr) (v : ℕ) → Stands ds F Plain parted K fixed q e → parted q ≡ true → seen_in (cell w' (q + 1)) ≡ numbered v true → seen_in (cell w (q + 1)) ≡ numbered v true

  pub cells_reset : (w w' : List ℤ) (s : Log) → Reset w w' → Unmet w' s → Cells ds F Plain parted K fixed w s → Cells ds F Plain parted L fixed w' s
  cells_reset w w' s r u c = record {
    number = nu;
    const = co;
    fresh = λ q e k h. u.unknown q e k;
    complete = λ e v p h.
        let x = c.complete e v p h in
        record { place = x.place; stands = stands_next ds F Plain parted K L fixed x.place e x.stands; whole = x.whole; shared = ap seen_in (r.stay x.place e x.stands x.whole 1 (omega arith) (omega arith)) ∙ x.shared };
    unshared = λ q e v t d h. let t' = stands_next ds F Plain parted L K fixed q e t in c.unshared q e v t' d (r.split q e v t' d h);
  }
    where
      nu : (q : ℕ) (e : IntExpr) (v : ℕ) (b : Bool) → KeyAt ds F Plain parted L fixed q e → seen_in (cell w' (q + 1)) ≡ numbered v b → Is ds F Plain parted L fixed w' s q e v
      nu q e v b (whole t d) h =
          let t' = stands_next ds F Plain parted L K fixed q e t in
          let i = c.number q e v b (whole t' d) (ap seen_in (sym (r.stay q e t' d 1 (omega arith) (omega arith))) ∙ h) in
          record { found = i.found; low = r.stay q e t' d 2 (omega arith) (omega arith) ∙ i.low; high = r.stay q e t' d 3 (omega arith) (omega arith) ∙ i.high }
      nu q e v b (own k) h = unseen_numbered (sym (u.blank q e k) ∙ h)

      co : (q : ℕ) (e : IntExpr) → KeyAt ds F Plain parted L fixed q e → seen_in (cell w' (q + 1)) ≡ both_constant → fixed e ≡ true
      co q e (whole t d) h =
          let t' = stands_next ds F Plain parted L K fixed q e t in
          c.const q e (whole t' d) (ap seen_in (sym (r.stay q e t' d 1 (omega arith) (omega arith))) ∙ h)
      co q e (own k) h = unseen_constant (sym (u.blank q e k) ∙ h)

  pub cells_next : (w : List ℤ) (s : Log) → Unmet w s → Cells ds F Plain parted K fixed w s → Cells ds F Plain parted L fixed w s
  cells_next w s u c = cells_reset w w s (record { stay = λ q e t d k l m. refl; split = λ q e v t d h. h }) u c

  -- a slice with the same maps and words, and the word for Ifs; such is one in which the cells of Ifs with split parts are cleared, as before each pair
  pub record SameMaps (w w' : List ℤ) : Type 0 where
    pub low : (q : ℕ) → q < maps_end → get_or w' q (pos 0) ≡ get_or w q (pos 0)
    pub words : read_part w' ≡ read_part w
    pub word : has_ifs w' ≡ has_ifs w
    pub size : length w' ≡ length w

  pub good_reset : (rec cap : ℕ) (with_ifs : Bool) (before : List ℤ) (Named : Log → Type 0) (n : ℕ) (st : State) (w : List ℤ) (s : Log) → SameMaps st.work w → Reset st.work w → Unmet w s
      → Good ds F Plain parted K fixed rec cap with_ifs before Named n st s → Good ds F Plain parted L fixed rec cap with_ifs before Named n (with_work w st) s
  unfolding bool_at int_entry
  good_reset rec cap with_ifs before Named n st w s m r u g =
      let b : blanks is_zero w bool_map max_bools ≡ blanks is_zero st.work bool_map max_bools = blanks_same is_zero st.work bool_map w max_bools (λ v l. m.low (bool_map + v) (omega arith)) in
      let c : blanks no_int w int_map max_ints ≡ blanks no_int st.work int_map max_ints = blanks_same no_int st.work int_map w max_ints (λ v l. m.low (int_map + v) (omega arith)) in
      record {
        map = λ v l. m.low (bool_map + v) (omega arith) ∙ g.map v l;
        map_int = λ v l. ap nat (m.low (int_map + v) (omega arith)) ∙ g.map_int v l;
        bools = g.bools;
        ints = g.ints;
        low = g.low;
        low_int = g.low_int;
        size = omega (arith, m.size, g.size);
        words = m.words ∙ g.words;
        word = m.word ∙ g.word;
        records = g.records;
        cells = cells_reset st.work w s r u g.cells;
        below = g.below;
        opens = g.opens;
        named = g.named;
        used = g.used;
        room = omega (arith, g.room, b, c);
      }

  pub good_next : (rec cap : ℕ) (with_ifs : Bool) (before : List ℤ) (Named : Log → Type 0) (n : ℕ) (st : State) (s : Log) → Unmet st.work s → Good ds F Plain parted K fixed rec cap with_ifs before Named n st s → Good ds F Plain parted L fixed rec cap with_ifs before Named n st s
  good_next rec cap with_ifs before Named n st s u g =
      good_reset rec cap with_ifs before Named n st st.work s (record { low = λ q l. refl; words = refl; word = refl; size = refl }) (record { stay = λ q e t d k l m. refl; split = λ q e v t d h. h }) u g

-- ---- the keys of a list

none_found : {A : Type 0} (o : Option A) → ((x : A) → o ≡ some x → ⊥) → o ≡ none
none_found none f = refl
none_found (some x) f = absurd (f x refl)

-- they stand from `at` to `stop` and hold numbers from n on; K: what is looked up so far
module _ (ds : List Domain) (F : List ℤ) (parted : ℕ → Bool) (K : ℕ → Option IntExpr) (fixed : IntExpr → Bool) {xs : List Key} {at stop n next size : ℕ}
    (within : Every (Within at stop n next size) xs) (written : Every (Written F) xs) (plain : Every PlainIf xs) (low : folded ≤ at) (high : stop ≤ folded_end) where
  reaches : (q p : ℕ) → p ≡ q → at ≤ p → at ≤ q + 3
  reaches q p e h = omega arith

  -- a key that holds numbers from n on is found in no log that names numbers below n only
  pub list_unknown : (s : Log) → LowIfs n s → (q : ℕ) (e : IntExpr) → looked_up xs q ≡ some e → get_if e s ≡ none
  list_unknown s l q e h =
      let r = looked_up_found xs q e h in
      none_found (get_if e s) (λ v k. no_bool (sym (found_new r.place e e within r.listed r.parted (l e v k)) ∙ same_refl (encode_int e)))

  pub list_unmet : (w : List ℤ) (s : Log) → Ahead F at w → LowIfs n s → Unmet ds F PlainInt parted K (looked_up xs) fixed w s
  list_unmet w s a l = record {
    blank = λ q e h.
        let r = looked_up_found xs q e h in
        found_in (every_both within (every_both written plain)) r.listed (λ x y i j.
        let z : x.place.at ≡ q = ap (λ (u : Place). u.at) i ∙ r.stands in
        a q x.written y.1.1.0 (subst (λ (u : ℕ). Has F u (encode_int x.written)) z y.1.0.stands) (at_least at q x.place.at z low y.0.from) (at_most stop q x.place.at z high y.0.to) (reaches q x.place.at z y.0.from));
    unknown = list_unknown s l;
  }

  pub list_next : (rec cap : ℕ) (with_ifs : Bool) (before : List ℤ) (Named : Log → Type 0) (k : ℕ) (st : State) (s : Log) → Ahead F at st.work → LowIfs n s
      → Good ds F PlainInt parted K fixed rec cap with_ifs before Named k st s → Good ds F PlainInt parted (looked_up xs) fixed rec cap with_ifs before Named k st s
  list_next rec cap with_ifs before Named k st s a l g = good_next ds F PlainInt parted K (looked_up xs) fixed rec cap with_ifs before Named k st s (list_unmet st.work s a l) g
