-- The cells of Ifs in the work slice agree with a log: an If's cell has its number and bounds, or says that its branches are constant; where a place has
-- none, an equal If may have one elsewhere (`complete`). Each step of the first walk keeps this.
use Rattle.std.specs.Prelude.{◌≡◌, Bool, not, List, ◌∷◌, ◌⊎◌, ℕ, ◌+◌, ◌≤◌, ◌<◌, ℤ, pos, length, eqb, ltb}
use Rattle.std.proofs.Math.Path.{refl}
use Rattle.std.proofs.Common.{sym, ap, ◌∙◌, subst, inl, inr, arith, eqb-true, ltb-true, ltb-false}
use Rattle.std.proofs.Math.Bool.{true, false, cond}
use Rattle.std.proofs.Math.Option.{Option, none, some}
use Rattle.std.proofs.Math.ListN.{set, length-set}
use Rattle.std.proofs.Math.Seq.{get_or-set_same, get_or-set_other}
use Rattle.std.proofs.lemmas.Bool.{eqb-false}
use Rattle.laws.specs.Bools.{never as no_bool}
use Rattle.laws.specs.Ints.{is_zero}
use Rattle.laws.specs.Same.{same_words, same_is, same_refl}
use Rattle.laws.specs.Slices.{Has}
use Rattle.memory.specs.Places.{folded, folded_end, cells, ifs_word}
use Rattle.syntax.specs.Syntax.{Domain, lower_bound, upper_bound, IntExpr, IConst, IVar, Linear, If, encode_int}
use Rattle.syntax.specs.Unique.{int_unique, int_unique_words}
use Rattle.clauses.specs.Log.{Log, known, next_int, get_if, made_ints, emitted_domains}
use Rattle.clauses.proofs.Emitted.{domain_at}
use Rattle.clauses.proofs.Since.{OnTop, top_domain}
use Rattle.walks.specs.Item.{has_ifs, cell, unseen, both_constant, numbered, seen_in}
use Rattle.walks.specs.Distinct.{none_some, some_is, unseen_numbered, constant_numbered}
use Rattle.walks.specs.Meet.{set_cells}

-- ---- three cells set

module _ (w : List ℤ) (p : ℕ) (x y z : ℤ) (room : cells + p + 3 < length w) where
  pub cells_first : cell (set_cells p x y z w) (p + 1) ≡ x
  unfolding cell set_cells
  cells_first =
      let a = set w (cells + (p + 1)) x in
      let b = set a (cells + (p + 2)) y in
      get_or-set_other b (cells + (p + 3)) (cells + (p + 1)) z (pos 0) (λ e. omega arith)
      ∙ get_or-set_other a (cells + (p + 2)) (cells + (p + 1)) y (pos 0) (λ e. omega arith)
      ∙ get_or-set_same w (cells + (p + 1)) x (pos 0) (omega arith)

  pub cells_second : cell (set_cells p x y z w) (p + 2) ≡ y
  unfolding cell set_cells
  cells_second =
      let a = set w (cells + (p + 1)) x in
      let b = set a (cells + (p + 2)) y in
      get_or-set_other b (cells + (p + 3)) (cells + (p + 2)) z (pos 0) (λ e. omega arith)
      ∙ get_or-set_same a (cells + (p + 2)) y (pos 0) (omega (arith, length-set w (cells + (p + 1)) x))

  pub cells_third : cell (set_cells p x y z w) (p + 3) ≡ z
  unfolding cell set_cells
  cells_third =
      let a = set w (cells + (p + 1)) x in
      let b = set a (cells + (p + 2)) y in
      get_or-set_same b (cells + (p + 3)) z (pos 0) (omega (arith, length-set w (cells + (p + 1)) x, length-set a (cells + (p + 2)) y))

-- outside those
abbrev pub Off : ℕ → ℕ → Type 0
Off p q = q ≤ p ⊎ p + 4 ≤ q

off : (p q k : ℕ) → 1 ≤ k → k ≤ 3 → Off p q → cells + (p + k) ≡ cells + q → ⊥
off p q k l m (inl h) e = omega arith
off p q k l m (inr h) e = omega arith

pub cells_other : (w : List ℤ) (p : ℕ) (x y z : ℤ) (q : ℕ) → Off p q → cell (set_cells p x y z w) q ≡ cell w q
unfolding cell set_cells
cells_other w p x y z q h =
    let a = set w (cells + (p + 1)) x in
    let b = set a (cells + (p + 2)) y in
    get_or-set_other b (cells + (p + 3)) (cells + q) z (pos 0) (λ e. off p q 3 (omega arith) (omega arith) h (sym e))
    ∙ get_or-set_other a (cells + (p + 2)) (cells + q) y (pos 0) (λ e. off p q 2 (omega arith) (omega arith) h (sym e))
    ∙ get_or-set_other w (cells + (p + 1)) (cells + q) x (pos 0) (λ e. off p q 1 (omega arith) (omega arith) h (sym e))

-- ---- the word for Ifs lies behind the cells

pub word_kept : (w : List ℤ) (p : ℕ) (x : ℤ) → (ifs_word ≡ p → ⊥) → has_ifs (set w p x) ≡ has_ifs w
unfolding has_ifs
word_kept w p x h = ap (λ y. not (is_zero y)) (get_or-set_other w p ifs_word x (pos 0) h)

pub cells_word : (p : ℕ) (x y z : ℤ) (w : List ℤ) → p < folded_end → has_ifs (set_cells p x y z w) ≡ has_ifs w
unfolding set_cells
cells_word p x y z w h =
    let a = set w (cells + (p + 1)) x in
    let b = set a (cells + (p + 2)) y in
    word_kept b (cells + (p + 3)) z (λ e. omega arith) ∙ word_kept a (cells + (p + 2)) y (λ e. omega arith) ∙ word_kept w (cells + (p + 1)) x (λ e. omega arith)

ne_lt : (q p : ℕ) → (q ≡ p → ⊥) → p ≤ q → p < q
ne_lt q p n l = omega arith

-- ---- agreement with a log

abbrev pub IsIf : IntExpr → Type 0
IsIf (IConst c) = ⊥
IsIf (IVar v) = ⊥
IsIf (Linear ts) = ⊥
IsIf (If i c t f) = Unit {0}

-- ds: the declared domains; F: the folded words; Plain: no emitted number inside; parted: the places of Ifs with split parts;
-- K: what is looked up for such an If of the rule at hand; fixed: whether an If's branches are constant
module _ (ds : List Domain) (F : List ℤ) (Plain : IntExpr → Type 0) (parted : ℕ → Bool) (K : ℕ → Option IntExpr) (fixed : IntExpr → Bool) where
  -- an If's words stand at a place
  pub record Stands (q : ℕ) (e : IntExpr) : Type 0 where
    pub is_if : IsIf e
    pub plain : Plain e
    pub words : Has F q (encode_int e)
    pub low : folded ≤ q
    pub high : q < folded_end

  -- what is looked up for the If at a place
  pub data Key (q : ℕ) (e : IntExpr) : Type 0 where
    whole : Stands q e → parted q ≡ false → Key q e
    own : K q ≡ some e → Key q e

  -- the If of the number v, with its bounds in the cells
  pub record Is (w : List ℤ) (s : Log) (q : ℕ) (e : IntExpr) (v : ℕ) : Type 0 where
    pub found : get_if e s ≡ some v
    pub low : cell w (q + 2) ≡ lower_bound (domain_at ds s v)
    pub high : cell w (q + 3) ≡ upper_bound (domain_at ds s v)

  pub record Somewhere (w : List ℤ) (e : IntExpr) (v : ℕ) : Type 0 where
    pub place : ℕ
    pub stands : Stands place e
    pub whole : parted place ≡ false
    pub shared : seen_in (cell w (place + 1)) ≡ numbered v true

  pub record Cells (w : List ℤ) (s : Log) : Type 0 where
    pub number : (q : ℕ) (e : IntExpr) (v : ℕ) (b : Bool) → Key q e → seen_in (cell w (q + 1)) ≡ numbered v b → Is w s q e v
    pub const : (q : ℕ) (e : IntExpr) → Key q e → seen_in (cell w (q + 1)) ≡ both_constant → fixed e ≡ true
    pub fresh : (q : ℕ) (e : IntExpr) → K q ≡ some e → seen_in (cell w (q + 1)) ≡ unseen → get_if e s ≡ none
    pub complete : (e : IntExpr) (v : ℕ) → Plain e → get_if e s ≡ some v → Somewhere w e v
    pub unshared : (q : ℕ) (e : IntExpr) (v : ℕ) → Stands q e → parted q ≡ true → seen_in (cell w (q + 1)) ≡ numbered v true → ⊥

  -- numbers found lie below the counter
  abbrev pub Below : Log → Type 0
  Below s = (e : IntExpr) (v : ℕ) → get_if e s ≡ some v → v < next_int s

  -- what is known of the places
  pub record Places : Type 0 where
    pub apart : (q p : ℕ) (d e : IntExpr) → Stands q d → Stands p e → q < p → q + 3 ≤ p
    pub parts : (q : ℕ) (e : IntExpr) → K q ≡ some e → parted q ≡ true
    pub under : (q : ℕ) (e : IntExpr) → K q ≡ some e → IntExpr
    pub stand : (q : ℕ) (e : IntExpr) (h : K q ≡ some e) → Stands q (under q e h)
    pub inj : (q p : ℕ) (e : IntExpr) → K q ≡ some e → K p ≡ some e → q ≡ p
    pub odd : (q : ℕ) (e : IntExpr) → K q ≡ some e → Plain e → ⊥

  -- ---- elsewhere

  -- the log grows by no If, and the cells stay
  module _ (w w' : List ℤ) (s s' : Log) (same : (q : ℕ) → folded < q → cell w' q ≡ cell w q) (ifs : (e : IntExpr) → get_if e s' ≡ get_if e s) (top : OnTop s s') (below : Below s) where
    is_kept : (q : ℕ) (e : IntExpr) (v : ℕ) → folded ≤ q → Is w s q e v → Is w' s' q e v
    is_kept q e v h i =
        let d = top_domain ds top v (below e v i.found) in
        record { found = ifs e ∙ i.found; low = same (q + 2) (omega arith) ∙ i.low ∙ ap lower_bound (sym d); high = same (q + 3) (omega arith) ∙ i.high ∙ ap upper_bound (sym d) }

    seen_kept : (q : ℕ) → folded ≤ q → seen_in (cell w' (q + 1)) ≡ seen_in (cell w (q + 1))
    seen_kept q h = ap seen_in (same (q + 1) (omega arith))

    pub cells_kept : Places → Cells w s → Cells w' s'
    cells_kept P c = record {
      number = λ q e v b k h. is_kept q e v (key_low q e k) (c.number q e v b k (sym (seen_kept q (key_low q e k)) ∙ h));
      const = λ q e k h. c.const q e k (sym (seen_kept q (key_low q e k)) ∙ h);
      fresh = λ q e k h. ifs e ∙ c.fresh q e k (sym (seen_kept q (P.stand q e k).low) ∙ h);
      complete = λ e v p h.
          let x = c.complete e v p (sym (ifs e) ∙ h) in
          record { place = x.place; stands = x.stands; whole = x.whole; shared = seen_kept x.place x.stands.low ∙ x.shared };
      unshared = λ q e v t d h. c.unshared q e v t d (sym (seen_kept q t.low) ∙ h);
    }
      where
        key_low : (q : ℕ) (e : IntExpr) → Key q e → folded ≤ q
        key_low q e (whole t d) = t.low
        key_low q e (own k) = (P.stand q e k).low

  -- ---- at a place

  -- only an If's own cells change
  abbrev pub Only : ℕ → List ℤ → List ℤ → Type 0
  Only p w w' = (q : ℕ) → Off p q → cell w' q ≡ cell w q

  module _ (P : Places) where
    abbrev pub key_stands : (q : ℕ) (e : IntExpr) → Key q e → IntExpr
    key_stands q e (whole t d) = e
    key_stands q e (own k) = P.under q e k

    pub stands_of : (q : ℕ) (e : IntExpr) (k : Key q e) → Stands q (key_stands q e k)
    stands_of q e (whole t d) = t
    stands_of q e (own k) = P.stand q e k

    key_unique : (q : ℕ) (e d : IntExpr) → Key q e → Key q d → e ≡ d
    key_unique q e d (whole t a) (whole u b) = int_unique F q e d t.words u.words
    key_unique q e d (whole t a) (own k) = no_bool (sym a ∙ P.parts q d k)
    key_unique q e d (own k) (whole u b) = no_bool (sym b ∙ P.parts q e k)
    key_unique q e d (own k) (own l) = some_is (sym k ∙ l)

    -- an If elsewhere has its cells elsewhere
    pub off_apart : (q p k : ℕ) (d e : IntExpr) → Stands q d → Stands p e → (q ≡ p → ⊥) → 1 ≤ k → k ≤ 3 → Off p (q + k)
    off_apart q p k d e a b n l m = go (ltb q p) refl
      where
        go : (c : Bool) → ltb q p ≡ c → Off p (q + k)
        go true h = let i = P.apart q p d e a b (ltb-true q p h) in inl (omega arith)
        go false h = let j : p < q = ne_lt q p n (ltb-false q p h) in let i = P.apart p q e d b a j in inr (omega arith)

    module _ (p : ℕ) (e : IntExpr) (key : Key p e) (w w' : List ℤ) (only : Only p w w') where
      stays_at : (q k : ℕ) (d : IntExpr) → Stands q d → (q ≡ p → ⊥) → 1 ≤ k → k ≤ 3 → cell w' (q + k) ≡ cell w (q + k)
      stays_at q k d a n l m = only (q + k) (off_apart q p k d (key_stands p e key) a (stands_of p e key) n l m)

      elsewhere : (q : ℕ) (d : IntExpr) → Stands q d → (q ≡ p → ⊥) → seen_in (cell w' (q + 1)) ≡ seen_in (cell w (q + 1))
      elsewhere q d a n = ap seen_in (stays_at q 1 d a n (omega arith) (omega arith))

      is_elsewhere : (s : Log) (q : ℕ) (d : IntExpr) (v : ℕ) → Key q d → (q ≡ p → ⊥) → Is w s q d v → Is w' s q d v
      is_elsewhere s q d v k n i = record {
        found = i.found;
        low = stays_at q 2 (key_stands q d k) (stands_of q d k) n (omega arith) (omega arith) ∙ i.low;
        high = stays_at q 3 (key_stands q d k) (stands_of q d k) n (omega arith) (omega arith) ∙ i.high;
      }

      -- the log stays
      module _ (s : Log) (num : (v : ℕ) (b : Bool) → seen_in (cell w' (p + 1)) ≡ numbered v b → Is w' s p e v) (con : seen_in (cell w' (p + 1)) ≡ both_constant → fixed e ≡ true)
          (fre : K p ≡ some e → seen_in (cell w' (p + 1)) ≡ unseen → get_if e s ≡ none) (sha : parted p ≡ true → (v : ℕ) → seen_in (cell w' (p + 1)) ≡ numbered v true → ⊥)
          (stays : (v : ℕ) → seen_in (cell w (p + 1)) ≡ numbered v true → seen_in (cell w' (p + 1)) ≡ numbered v true) where
        pub cells_at : Cells w s → Cells w' s
        cells_at c = record {
          number = λ q d v b k h. nu q d v b k h (eqb q p) refl;
          const = λ q d k h. co q d k h (eqb q p) refl;
          fresh = λ q d k h. fr q d k h (eqb q p) refl;
          complete = λ d v l h. let x = c.complete d v l h in sw d v x (eqb x.place p) refl;
          unshared = λ q d v a i h. un q d v a i h (eqb q p) refl;
        }
          where
            nu : (q : ℕ) (d : IntExpr) (v : ℕ) (b : Bool) → Key q d → seen_in (cell w' (q + 1)) ≡ numbered v b → (t : Bool) → eqb q p ≡ t → Is w' s q d v
            nu q d v b k h true t = let j : q ≡ p = eqb-true q p t in at_place q d v b k h j
              where
                at_place : (q : ℕ) (d : IntExpr) (v : ℕ) (b : Bool) → Key q d → seen_in (cell w' (q + 1)) ≡ numbered v b → q ≡ p → Is w' s q d v
                at_place q d v b k h j =
                    let k' : Key p d = subst (λ x. Key x d) j k in
                    let h' : seen_in (cell w' (p + 1)) ≡ numbered v b = subst (λ x. seen_in (cell w' (x + 1)) ≡ numbered v b) j h in
                    subst (λ x. Is w' s x d v) (sym j) (subst (λ x. Is w' s p x v) (key_unique p e d key k') (num v b h'))
            nu q d v b k h false t = let n = eqb-false q p t in is_elsewhere s q d v k n (c.number q d v b k (sym (elsewhere q (key_stands q d k) (stands_of q d k) n) ∙ h))

            co : (q : ℕ) (d : IntExpr) → Key q d → seen_in (cell w' (q + 1)) ≡ both_constant → (t : Bool) → eqb q p ≡ t → fixed d ≡ true
            co q d k h true t =
                let j : q ≡ p = eqb-true q p t in
                ap fixed (sym (key_unique p e d key (subst (λ x. Key x d) j k))) ∙ con (subst (λ x. seen_in (cell w' (x + 1)) ≡ both_constant) j h)
            co q d k h false t = c.const q d k (sym (elsewhere q (key_stands q d k) (stands_of q d k) (eqb-false q p t)) ∙ h)

            fr : (q : ℕ) (d : IntExpr) → K q ≡ some d → seen_in (cell w' (q + 1)) ≡ unseen → (t : Bool) → eqb q p ≡ t → get_if d s ≡ none
            fr q d k h true t =
                let j : q ≡ p = eqb-true q p t in
                let k' : K p ≡ some d = subst (λ x. K x ≡ some d) j k in
                let u : e ≡ d = key_unique p e d key (own k') in
                ap (λ x. get_if x s) (sym u) ∙ fre (k' ∙ ap some (sym u)) (subst (λ x. seen_in (cell w' (x + 1)) ≡ unseen) j h)
            fr q d k h false t = c.fresh q d k (sym (elsewhere q (P.under q d k) (P.stand q d k) (eqb-false q p t)) ∙ h)

            sw : (d : IntExpr) (v : ℕ) (x : Somewhere w d v) → (t : Bool) → eqb x.place p ≡ t → Somewhere w' d v
            sw d v x true t =
                let j : x.place ≡ p = eqb-true x.place p t in
                record { place = x.place; stands = x.stands; whole = x.whole; shared = subst (λ y. seen_in (cell w' (y + 1)) ≡ numbered v true) (sym j) (stays v (subst (λ y. seen_in (cell w (y + 1)) ≡ numbered v true) j x.shared)) }
            sw d v x false t = record { place = x.place; stands = x.stands; whole = x.whole; shared = elsewhere x.place d x.stands (eqb-false x.place p t) ∙ x.shared }

            un : (q : ℕ) (d : IntExpr) (v : ℕ) → Stands q d → parted q ≡ true → seen_in (cell w' (q + 1)) ≡ numbered v true → (t : Bool) → eqb q p ≡ t → ⊥
            un q d v a i h true t =
                let j : q ≡ p = eqb-true q p t in
                sha (subst (λ x. parted x ≡ true) j i) v (subst (λ x. seen_in (cell w' (x + 1)) ≡ numbered v true) j h)
            un q d v a i h false t = c.unshared q d v a i (sym (elsewhere q d a (eqb-false q p t)) ∙ h)

      -- the log knows the If from here on, by the number v
      module _ (s : Log) (v : ℕ) (b : Bool) (none_yet : get_if e s ≡ none) (num : seen_in (cell w' (p + 1)) ≡ numbered v b) (shares : parted p ≡ false → b ≡ true) (keeps : parted p ≡ true → b ≡ false)
          (low : cell w' (p + 2) ≡ lower_bound (domain_at ds s v)) (high : cell w' (p + 3) ≡ upper_bound (domain_at ds s v)) where
        knows : (d : IntExpr) → (d ≡ e → ⊥) → get_if d (known e v ∷ s) ≡ get_if d s
        unfolding get_if
        knows d n = go (same_words (encode_int d) (encode_int e)) refl
          where
            go : (t : Bool) → same_words (encode_int d) (encode_int e) ≡ t → cond t (some v) (get_if d s) ≡ get_if d s
            go true h = absurd (n (int_unique_words d e (same_is (encode_int d) (encode_int e) h)))
            go false h = refl

        knows_it : get_if e (known e v ∷ s) ≡ some v
        unfolding get_if
        knows_it = rw (same_refl (encode_int e)) refl

        same_domain : (u : ℕ) → domain_at ds (known e v ∷ s) u ≡ domain_at ds s u
        unfolding emitted_domains made_ints
        same_domain u = refl

        is_known : (q : ℕ) (d : IntExpr) (u : ℕ) → (d ≡ e → ⊥) → Is w' s q d u → Is w' (known e v ∷ s) q d u
        is_known q d u n i = record { found = knows d n ∙ i.found; low = i.low ∙ ap lower_bound (sym (same_domain u)); high = i.high ∙ ap upper_bound (sym (same_domain u)) }

        -- a place elsewhere with a number is that of another If
        other : (q : ℕ) (d : IntExpr) (u : ℕ) → Is w s q d u → d ≡ e → ⊥
        other q d u i j = none_some (sym none_yet ∙ ap (λ x. get_if x s) (sym j) ∙ i.found)

        pub cells_new : Cells w s → Cells w' (known e v ∷ s)
        cells_new c = record {
          number = λ q d u a k h. nu q d u a k h (eqb q p) refl;
          const = λ q d k h. co q d k h (eqb q p) refl;
          fresh = λ q d k h. fr q d k h (eqb q p) refl;
          complete = λ d u l h. sw d u l h (same_words (encode_int d) (encode_int e)) refl;
          unshared = λ q d u a i h. un q d u a i h (eqb q p) refl;
        }
          where
            nu : (q : ℕ) (d : IntExpr) (u : ℕ) (a : Bool) → Key q d → seen_in (cell w' (q + 1)) ≡ numbered u a → (t : Bool) → eqb q p ≡ t → Is w' (known e v ∷ s) q d u
            nu q d u a k h true t =
                let j : q ≡ p = eqb-true q p t in
                let k' : e ≡ d = key_unique p e d key (subst (λ x. Key x d) j k) in
                let h' : numbered v b ≡ numbered u a = sym num ∙ subst (λ x. seen_in (cell w' (x + 1)) ≡ numbered u a) j h in
                let z : v ≡ u = cc in
                subst (λ x. Is w' (known e v ∷ s) x d u) (sym j) (subst (λ x. Is w' (known e v ∷ s) p x u) k' (subst (λ x. Is w' (known e v ∷ s) p e x) z
                (record { found = knows_it; low = low ∙ ap lower_bound (sym (same_domain v)); high = high ∙ ap upper_bound (sym (same_domain v)) })))
            nu q d u a k h false t =
                let n = eqb-false q p t in
                let i = c.number q d u a k (sym (elsewhere q (key_stands q d k) (stands_of q d k) n) ∙ h) in
                is_known q d u (other q d u i) (is_elsewhere s q d u k n i)

            co : (q : ℕ) (d : IntExpr) → Key q d → seen_in (cell w' (q + 1)) ≡ both_constant → (t : Bool) → eqb q p ≡ t → fixed d ≡ true
            co q d k h true t =
                let j : q ≡ p = eqb-true q p t in
                let h' : both_constant ≡ numbered v b = sym (subst (λ x. seen_in (cell w' (x + 1)) ≡ both_constant) j h) ∙ num in
                constant_numbered h'
            co q d k h false t = c.const q d k (sym (elsewhere q (key_stands q d k) (stands_of q d k) (eqb-false q p t)) ∙ h)

            fr : (q : ℕ) (d : IntExpr) → K q ≡ some d → seen_in (cell w' (q + 1)) ≡ unseen → (t : Bool) → eqb q p ≡ t → get_if d (known e v ∷ s) ≡ none
            fr q d k h true t =
                let j : q ≡ p = eqb-true q p t in
                let h' : unseen ≡ numbered v b = sym (subst (λ x. seen_in (cell w' (x + 1)) ≡ unseen) j h) ∙ num in
                unseen_numbered h'
            fr q d k h false t =
                knows d (λ j. differs q d k (eqb-false q p t) j key) ∙ c.fresh q d k (sym (elsewhere q (P.under q d k) (P.stand q d k) (eqb-false q p t)) ∙ h)
              where
                differs : (q : ℕ) (d : IntExpr) → K q ≡ some d → (q ≡ p → ⊥) → d ≡ e → Key p e → ⊥
                differs q d k n j (whole a i) = P.odd q e (k ∙ ap some j) a.plain
                differs q d k n j (own l) = n (P.inj q p e (k ∙ ap some j) l)

            plain_whole : Plain e → parted p ≡ false
            plain_whole l = go key
              where
                go : Key p e → parted p ≡ false
                go (whole a i) = i
                go (own k) = absurd (P.odd p e k l)

            plain_stands : Plain e → Stands p e
            plain_stands l = go key
              where
                go : Key p e → Stands p e
                go (whole a i) = a
                go (own k) = absurd (P.odd p e k l)

            sw : (d : IntExpr) (u : ℕ) → Plain d → get_if d (known e v ∷ s) ≡ some u → (t : Bool) → same_words (encode_int d) (encode_int e) ≡ t → Somewhere w' d u
            sw d u l h true t =
                let j : d ≡ e = int_unique_words d e (same_is (encode_int d) (encode_int e) t) in
                let l' : Plain e = subst Plain j l in
                let z : v ≡ u = some_is (sym knows_it ∙ ap (λ x. get_if x (known e v ∷ s)) (sym j) ∙ h) in
                subst (λ x. Somewhere w' x u) (sym j) (subst (λ x. Somewhere w' e x) z
                (record { place = p; stands = plain_stands l'; whole = plain_whole l'; shared = num ∙ ap (numbered v) (shares (plain_whole l')) }))
            sw d u l h false t =
                let n : d ≡ e → ⊥ = λ j. no_bool (sym t ∙ ap (λ x. same_words (encode_int x) (encode_int e)) j ∙ same_refl (encode_int e)) in
                let x = c.complete d u l (sym (knows d n) ∙ h) in
                so d u x n (eqb x.place p) refl
              where
                so : (d : IntExpr) (u : ℕ) (x : Somewhere w d u) → (d ≡ e → ⊥) → (t : Bool) → eqb x.place p ≡ t → Somewhere w' d u
                so d u x n true t = absurd (n (sym (key_unique p e d key (subst (λ y. Key y d) (eqb-true x.place p t) (whole x.stands x.whole)))))
                so d u x n false t = record { place = x.place; stands = x.stands; whole = x.whole; shared = elsewhere x.place d x.stands (eqb-false x.place p t) ∙ x.shared }

            un : (q : ℕ) (d : IntExpr) (u : ℕ) → Stands q d → parted q ≡ true → seen_in (cell w' (q + 1)) ≡ numbered u true → (t : Bool) → eqb q p ≡ t → ⊥
            un q d u a i h true t =
                let j : q ≡ p = eqb-true q p t in
                let h' : numbered v b ≡ numbered u true = sym num ∙ subst (λ x. seen_in (cell w' (x + 1)) ≡ numbered u true) j h in
                let z : b ≡ true = cc in
                no_bool (sym (keeps (subst (λ x. parted x ≡ true) j i)) ∙ z)
            un q d u a i h false t = c.unshared q d u a i (sym (elsewhere q d a (eqb-false q p t)) ∙ h)
