-- What the functions over the set's domains ask and give at each step, over variables. Assumes nothing.
use Prim.Native.Nat.{ℕ, zero, suc, ◌+◌, ◌-◌, ◌*◌, ◌≤◌, ◌<◌}
use mathlib.Core.Path.{◌≡◌, refl, sym, ◌∙◌}
use mathlib.Core.List.{List, [], ◌∷◌, map}
use native.Mathlib.Omega.{arith}
use lib.IntN.{ℤ, pos}
use lib.ListN.{length, get_or, set, length-append, length-set}
use Rattle.laws.specs.Ints.{pos_eq}
use Rattle.laws.specs.Lists.{flat}
use Rattle.laws.specs.Slices.{Has, has_fits, has_front, has_back, has_word, has_rest}
use Rattle.syntax.specs.Syntax.{Domain, Range, Enumerative, lower_bound, upper_bound, last_or, domain_of, encode_domain}
use Rattle.domains.specs.Declared.{Plain, DomainAt, DomainSizedAt, DomainBelow, DomainPost, Domains, BoundsRoom, BoundsPost}

abbrev kind : Domain → ℕ
kind (Range low high) = 0
kind (Enumerative xs) = 1

domain_long : (dm : Domain) → 2 ≤ length (encode_domain dm)
domain_long (Range low high) = omega arith
domain_long (Enumerative xs) = omega arith

kind_word : (ws : List ℤ) (at : ℕ) (dm : Domain) → Has ws at (encode_domain dm) → get_or ws at (pos 0) ≡ pos (kind dm)
kind_word ws at (Range low high) h = has_word ws at _ _ (pos 0) h
kind_word ws at (Enumerative xs) h = has_word ws at _ _ (pos 0) h

module _ (ws : List ℤ) (at : ℕ) where
  fits : (dm : Domain) → Has ws at (encode_domain dm) → at + length (encode_domain dm) ≤ length ws
  fits dm h = has_fits ws at (encode_domain dm) h (omega (arith, domain_long dm))

  pub kind_plain : DomainAt ws at → Plain ws at
  kind_plain a = record { inside = omega (arith, fits a.it a.words, domain_long a.it); value = kind a.it; is = kind_word ws at a.it a.words }

  pub domain_inside : DomainAt ws at → at + 2 ≤ length ws
  domain_inside a = omega (arith, fits a.it a.words, domain_long a.it)

  module _ (k : ℕ) (hk : get_or ws at (pos 0) ≡ pos k) where
    kind_is : (dm : Domain) → Has ws at (encode_domain dm) → kind dm ≡ k
    kind_is dm h = pos_eq _ _ _ (kind_word ws at dm h) hk

    enum_inv : {X : Type 0} (dm : Domain) → Has ws at (encode_domain dm) → (k ≡ 0 → ⊥) → ((xs : List ℤ) → dm ≡ Enumerative xs → Has ws at (pos 1 ∷ pos (length xs) ∷ xs) → X) → X
    enum_inv (Range low high) h z go = absurd (z (sym (kind_is (Range low high) h)))
    enum_inv (Enumerative xs) h z go = go xs refl h

    range_inv : {X : Type 0} (dm : Domain) → Has ws at (encode_domain dm) → k ≡ 0 → ((low high : ℤ) → dm ≡ Range low high → Has ws at (pos 0 ∷ low ∷ high ∷ []) → X) → X
    range_inv (Range low high) h z go = go low high refl h
    range_inv (Enumerative xs) h z go = absurd (let e : 1 ≡ k = kind_is (Enumerative xs) h in omega arith)

    -- ---- `domain_end`

    pub range_fits : DomainAt ws at → k ≡ 0 → at + 3 ≤ length ws
    range_fits a z = range_inv a.it a.words z λ low high q h. omega (arith, has_fits ws at _ h (omega arith))

    pub range_end : k ≡ 0 → (dm : Domain) → Has ws at (encode_domain dm) → at + 3 ≡ at + length (encode_domain dm)
    range_end z dm h = range_inv dm h z λ low high q g. rw q refl

    module _ (n : ℕ) (hn : get_or ws (at + 1) (pos 0) ≡ pos n) where
      count_is : (xs : List ℤ) → Has ws at (pos 1 ∷ pos (length xs) ∷ xs) → length xs ≡ n
      count_is xs h = pos_eq _ _ _ (has_word ws (at + 1) _ _ (pos 0) (has_rest ws at _ _ h)) hn

      pub enum_fits : DomainAt ws at → (k ≡ 0 → ⊥) → at + 2 + n ≤ length ws
      enum_fits a z = enum_inv a.it a.words z λ xs q h. omega (arith, has_fits ws at _ h (omega arith), count_is xs h)

      pub enum_end : (k ≡ 0 → ⊥) → (dm : Domain) → Has ws at (encode_domain dm) → at + 2 + n ≡ at + length (encode_domain dm)
      enum_end z dm h = enum_inv dm h z λ xs q g. rw q (omega (arith, count_is xs g))

    -- ---- `domain_at`

    pub count_plain : DomainAt ws at → (k ≡ 0 → ⊥) → Plain ws (at + 1)
    count_plain a z = enum_inv a.it a.words z λ xs q h. record { inside = omega (arith, has_fits ws at _ h (omega arith)); value = length xs; is = has_word ws (at + 1) _ _ (pos 0) (has_rest ws at _ _ h) }

-- ---- `domain_of`

module _ (ws : List ℤ) where
  -- one domain further
  next_domain : (d v : ℕ) (x : Domain) (ds : List Domain) → Has ws d (flat (map encode_domain (x ∷ ds))) → Has ws (d + length (encode_domain x)) (flat (map encode_domain ds))
  next_domain d v x ds h = has_back ws d (encode_domain x) (flat (map encode_domain ds)) h

  pub first_domain : (d v : ℕ) → DomainBelow ws d v → DomainAt ws d
  first_domain d v b = go b.ds b.domains.words b.below
    where
      go : (ds : List Domain) → Has ws d (flat (map encode_domain ds)) → v < length ds → DomainAt ws d
      go [] h l = absurd (omega arith)
      go (x ∷ ds) h l = record { it = x; words = has_front ws d (encode_domain x) (flat (map encode_domain ds)) h }

  module _ (d v e : ℕ) (z : v ≡ 0 → ⊥) (p : (dm : Domain) → Has ws d (encode_domain dm) → e ≡ d + length (encode_domain dm)) where
    pub rest_below : DomainBelow ws d v → DomainBelow ws e (v - 1)
    rest_below b = go b.ds b.domains.words b.below
      where
        go : (ds : List Domain) → Has ws d (flat (map encode_domain ds)) → v < length ds → DomainBelow ws e (v - 1)
        go [] h l = absurd (omega arith)
        go (x ∷ ds) h l = record { ds = ds; domains = record { words = rw (p x (has_front ws d (encode_domain x) (flat (map encode_domain ds)) h)) (next_domain d v x ds h) }; below = omega arith }

    pub rest_post : (r : ℕ) → DomainPost ws e (v - 1) r → DomainPost ws d v r
    rest_post r q [] h l = absurd (omega arith)
    rest_post r q (x ∷ ds) h l =
        let w = q ds (record { words = rw (p x (has_front ws d (encode_domain x) (flat (map encode_domain ds)) h.words)) (next_domain d v x ds h.words) }) (omega arith) in
        pick v z w
      where
        pick : (v : ℕ) → (v ≡ 0 → ⊥) → Has ws r (encode_domain (domain_of ds (v - 1))) → Has ws r (encode_domain (domain_of (x ∷ ds) v))
        pick zero n w = absurd (n refl)
        pick (suc v) n w = let m : suc v - 1 ≡ v = omega arith in rw m at w

  pub zero_post : (d v : ℕ) → v ≡ 0 → DomainPost ws d v d
  zero_post d v z [] h l = absurd (omega arith)
  zero_post d v z (x ∷ ds) h l = rw z (has_front ws d (encode_domain x) (flat (map encode_domain ds)) h.words)

-- ---- `upper_bound`

last_nth : (x : ℤ) (xs : List ℤ) → get_or (x ∷ xs) (length xs) (pos 0) ≡ last_or x xs
last_nth x [] = refl
last_nth x (y ∷ ys) = last_nth y ys

pub last_is : (xs : List ℤ) → get_or xs (length xs - 1) (pos 0) ≡ upper_bound (Enumerative xs)
last_is [] = refl
last_is (x ∷ xs) = let e : length (x ∷ xs) - 1 ≡ length xs = omega arith in rw e (last_nth x xs)

-- ---- `num_candidates`

pub sized_at : (ws : List ℤ) (at : ℕ) → DomainSizedAt ws at → DomainAt ws at
sized_at ws at s = record { it = s.it; words = s.words }

-- ---- `write_bounds`

module _ (ws : List ℤ) (d n : ℕ) (z : n ≡ 0 → ⊥) where
  split : {X : Type 0} (ds : List Domain) → n ≡ length ds → Domains ws d ds
      → ((x : Domain) (xs : List Domain) → ds ≡ x ∷ xs → Has ws d (encode_domain x) → Domains ws (d + length (encode_domain x)) xs → n - 1 ≡ length xs → X) → X
  split [] e h go = absurd (z e)
  split (x ∷ xs) e h go = go x xs refl (has_front ws d (encode_domain x) (flat (map encode_domain xs)) h.words) (record { words = next_domain ws d 0 x xs h.words }) (omega arith)

  pub bounds_first : (out : List ℤ) (o : ℕ) → BoundsRoom ws d n out o → DomainAt ws d
  bounds_first out o b = split b.ds b.size b.domains λ x xs q h r e. record { it = x; words = h }

  module _ (e : ℕ) (he : (dm : Domain) → Has ws d (encode_domain dm) → e ≡ d + length (encode_domain dm)) (out : List ℤ) (o : ℕ) (a b : ℤ) where
    pub bounds_rest : BoundsRoom ws d n out o → BoundsRoom ws e (n - 1) (set (set out o a) (o + 1) b) (o + 2)
    bounds_rest r =
        split r.ds r.size r.domains λ x xs q h t l.
        let m : o + 2 * n ≤ length out = r.room in
        record { ds = xs; domains = rw (he x h) t; size = l; room = omega (arith, length-set (set out o a) (o + 1) b, length-set out o a) }

    pub bounds_more : ((dm : Domain) → Has ws d (encode_domain dm) → a ≡ lower_bound dm) → ((dm : Domain) → Has ws d (encode_domain dm) → b ≡ upper_bound dm)
        → (out' : List ℤ) (r : ℕ) → BoundsPost ws e (n - 1) (set (set out o a) (o + 1) b) (o + 2) out' r → BoundsPost ws d n out o out' r
    bounds_more ha hb out' r p ds h s =
        split ds s h λ x xs q g t l.
        let y = p xs (rw (he x g) t) l in
        let m : o + 1 ≡ suc o = omega arith in
        let m2 : o + 2 ≡ suc (suc o) = omega arith in
        let ye : r ≡ e + length (flat (map encode_domain xs)) = y.behind in
        rw q (record {
          behind = omega (arith, he x g, length-append (encode_domain x) (flat (map encode_domain xs)));
          stored = y.stored ∙ rw (m, m2, ha x g, hb x g) refl;
        })

pub bounds_none : (ws : List ℤ) (d n : ℕ) (out : List ℤ) (o : ℕ) → n ≡ 0 → BoundsPost ws d n out o out d
bounds_none ws d n out o z [] h s = record { behind = omega arith; stored = refl }
bounds_none ws d n out o z (x ∷ ds) h s = absurd (omega arith)
