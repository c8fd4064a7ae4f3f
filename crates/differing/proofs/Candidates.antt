-- The values of a domain by their places, and whether two domains have the same ones. Assumes nothing.
use mathlib.Core.Path.{◌≡◌, refl, sym, ap, ◌∙◌}
use mathlib.Core.Bool.{Bool, true, false, ◌&&◌}
use mathlib.Core.List.{List, [], ◌∷◌}
use Prim.Native.Nat.{ℕ, zero, suc, ◌+◌, ◌≤◌, ◌<◌}
use native.Mathlib.Omega.{arith}
use native.Mathlib.Numerals.{add-one}
use lib.IntN.{ℤ, pos, negsuc, nat_abs, suc_ℤ, ◌+ℤ◌, +ℤ_idr, suc_ℤ-+ℤ, +ℤ-suc_ℤ}
use lib.ListN.{length, get_or, drop, drop_of_length-le}
use lib.Seq.{drop-cons}
use borrow.Author.Tests.{lt-ltb}
use mir.Syntax.{w32}
use mir.Val.{SFits, of_z}
use Rattle.laws.specs.Same.{same_words}
use Rattle.laws.specs.Ints.{eqZ, natAbs_add, sfits_natAbs}
use Rattle.laws.specs.Signed.{value_is}
use Rattle.laws.specs.Order.{is_eqZ, not_eqZ}
use Rattle.laws.specs.Slices.{Has, has_fits, has_word, has_nth}
use Rattle.syntax.specs.Words.{max_count, max_value}
use Rattle.syntax.specs.Syntax.{Domain, Range, Enumerative, lower_bound, num_candidates, rising, enumerate, encode_domain}
use Rattle.words.specs.Exact.{Value, Each}
use Rattle.tables.proofs.ValuesLaws.{length_range}
use Rattle.survey.proofs.Leaves.{pos_is}
use Rattle.domains.specs.Declared.{DomainAt}
use Rattle.differing.specs.Values.{Sized, SomeSized, HasValue, PlainValue, ValueOf, SameOf}

-- ---- a domain's values

pub candidates_length : {set : List ℤ} {d n : ℕ} {dm : Domain} → Sized set d n dm → length (enumerate dm) ≡ n
candidates_length {dm = Range lo hi} s = length_range lo hi ∙ ap nat_abs s.many
candidates_length {n = n} {dm = Enumerative xs} s = ap nat_abs s.many

pub sized_at : {set : List ℤ} {d n : ℕ} → SomeSized set d n → DomainAt set d
sized_at s = record { it = s.domain; words = s.it.words }

pub has_value : {set : List ℤ} {d n : ℕ} (k : ℕ) → SomeSized set d n → k < n → HasValue set d k
has_value {n = n} k s l = record { count = n; some = s; below = l }

-- the count of values, from its bits
pub count_is : {c : ℤ} {n : ℕ} → SFits w32 c → n ≤ max_count → of_z w32 c ≡ n → c ≡ pos n
count_is {n = n} f l e = value_is f e ∙ pos_is n (omega arith)

rising_nth : (x : ℤ) (m k : ℕ) → k < m → get_or (rising x m) k (pos 0) ≡ x +ℤ pos k
rising_nth x zero k h = absurd (omega arith)
rising_nth x (suc m) zero h = sym (+ℤ_idr x)
rising_nth x (suc m) (suc k) h = rising_nth (suc_ℤ x) m k (omega arith) ∙ suc_ℤ-+ℤ x (pos k) ∙ sym (+ℤ-suc_ℤ x (pos k))

plain : (x : ℤ) → nat_abs x < 2147483648 → PlainValue x
plain (pos n) h = refl
plain (negsuc n) h = lt-ltb n 2147483647 (omega arith)

each_value : (xs : List ℤ) → Each Value xs → (k : ℕ) → nat_abs (get_or xs k (pos 0)) ≤ max_value
each_value [] h zero = omega arith
each_value [] h (suc k) = omega arith
each_value (x ∷ xs) h zero = h.0
each_value (x ∷ xs) h (suc k) = each_value xs h.1 k

-- ---- value k of the domain at d

module _ (set : List ℤ) (d k : ℕ) {c : ℕ} (code : get_or set d (pos 0) ≡ pos c) where
  -- a range
  module _ (z : c ≡ 0) {low : ℤ} (low-is : (dm : Domain) → Has set d (encode_domain dm) → low ≡ lower_bound dm) where
    low_small : {n : ℕ} {dm : Domain} → Sized set d n dm → nat_abs low ≤ max_value
    low_small {dm = Range lo hi} s = omega (arith, ap nat_abs (low-is (Range lo hi) s.words), s.well.0)
    low_small {dm = Enumerative xs} s = absurd (let e : ◌≡◌ {A = ℤ} (pos 1) (pos c) = sym (has_word set d (pos 1) _ (pos 0) s.words) ∙ code in let n : 1 ≡ c = ap nat_abs e in omega arith)

    range_small : HasValue set d k → nat_abs (low +ℤ pos k) < 2147483648
    range_small h = omega (arith, natAbs_add low (pos k), low_small h.some.it, h.below, h.some.few)

    pub range_fits : HasValue set d k → SFits w32 (low +ℤ pos k)
    range_fits h = sfits_natAbs w32 (low +ℤ pos k) (omega (arith, range_small h))

    range_is : (n : ℕ) (dm : Domain) → Sized set d n dm → k < n → low +ℤ pos k ≡ get_or (enumerate dm) k (pos 0)
    range_is n (Range lo hi) s l =
        let m : nat_abs (num_candidates (Range lo hi)) ≡ n = ap nat_abs s.many in
        ap (λ (x : ℤ). x +ℤ pos k) (low-is (Range lo hi) s.words) ∙ sym (rising_nth lo (nat_abs (num_candidates (Range lo hi))) k (omega arith))
    range_is n (Enumerative xs) s l = absurd (let e : ◌≡◌ {A = ℤ} (pos 1) (pos c) = sym (has_word set d (pos 1) _ (pos 0) s.words) ∙ code in let m : 1 ≡ c = ap nat_abs e in omega arith)

    pub range_value : HasValue set d k → ValueOf set d k (low +ℤ pos k)
    range_value h = record { is = range_is; plain = plain (low +ℤ pos k) (range_small h) }

  -- a list
  module _ (z : c ≡ 0 → ⊥) where
    no_range : {X : Type 0} {n : ℕ} {lo hi : ℤ} → Sized set d n (Range lo hi) → X
    no_range s = absurd (z (let e : ◌≡◌ {A = ℤ} (pos 0) (pos c) = sym (has_word set d (pos 0) _ (pos 0) s.words) ∙ code in sym (ap nat_abs e)))

    inside : {n : ℕ} (dm : Domain) → Sized set d n dm → k < n → d + 2 + k < length set
    inside (Range lo hi) s l = no_range s
    inside {n} (Enumerative xs) s l = omega (arith, has_fits set d (encode_domain (Enumerative xs)) s.words (omega arith), candidates_length s)

    pub list_inside : HasValue set d k → d + 2 + k < length set
    list_inside h = inside h.some.domain h.some.it h.below

    list_is : (n : ℕ) (dm : Domain) → Sized set d n dm → k < n → get_or set (d + 2 + k) (pos 0) ≡ get_or (enumerate dm) k (pos 0)
    list_is n (Range lo hi) s l = no_range s
    list_is n (Enumerative xs) s l =
        let m : d + 2 + k ≡ d + suc (suc k) = omega arith in
        let b : k < length xs = omega (arith, candidates_length s) in
        ap (λ (i : ℕ). get_or set i (pos 0)) m ∙ has_nth set d (encode_domain (Enumerative xs)) (suc (suc k)) (pos 0) s.words (omega arith)

    list_small : (n : ℕ) (dm : Domain) → Sized set d n dm → k < n → nat_abs (get_or set (d + 2 + k) (pos 0)) < 2147483648
    list_small n (Range lo hi) s l = no_range s
    list_small n (Enumerative xs) s l = omega (arith, ap nat_abs (list_is n (Enumerative xs) s l), each_value xs s.well.2 k)

    pub list_value : HasValue set d k → ValueOf set d k (get_or set (d + 2 + k) (pos 0))
    list_value h = record { is = list_is; plain = plain (get_or set (d + 2 + k) (pos 0)) (list_small h.count h.some.domain h.some.it h.below) }

-- ---- the same values

-- from place k on
abbrev pub SameFrom : List ℤ → ℕ → ℕ → ℕ → ℕ → Type 0
SameFrom set d b n k = (dm em : Domain) → Sized set d n dm → Sized set b n em → same_words (drop k (enumerate dm)) (drop k (enumerate em)) ≡ same_words (enumerate dm) (enumerate em)

module _ (set : List ℤ) (d b n k : ℕ) where
  module _ (l : k < n) {x y : ℤ} (hx : ValueOf set d k x) (hy : ValueOf set b k y) (h : SameFrom set d b n k) where
    step : (dm em : Domain) → Sized set d n dm → Sized set b n em → same_words (enumerate dm) (enumerate em) ≡ eqZ x y && same_words (drop (k + 1) (enumerate dm)) (drop (k + 1) (enumerate em))
    unfolding same_words
    step dm em s t =
        let u : drop k (enumerate dm) ≡ x ∷ drop (k + 1) (enumerate dm) = rw (hx.is n dm s l, add-one k) (drop-cons (enumerate dm) k (pos 0) (omega (arith, candidates_length s))) in
        let v : drop k (enumerate em) ≡ y ∷ drop (k + 1) (enumerate em) = rw (hy.is n em t l, add-one k) (drop-cons (enumerate em) k (pos 0) (omega (arith, candidates_length t))) in
        sym (h dm em s t) ∙ ap (λ (l : List ℤ). same_words l (drop k (enumerate em))) u ∙ ap (same_words (x ∷ drop (k + 1) (enumerate dm))) v

    pub same_next : x ≡ y → SameFrom set d b n (k + 1)
    same_next e dm em s t = sym (step dm em s t ∙ ap (λ (q : Bool). q && same_words (drop (k + 1) (enumerate dm)) (drop (k + 1) (enumerate em))) (is_eqZ x y e))

    pub same_not : (x ≡ y → ⊥) → SameOf set d b n false
    same_not e dm em s t = sym (step dm em s t ∙ ap (λ (q : Bool). q && same_words (drop (k + 1) (enumerate dm)) (drop (k + 1) (enumerate em))) (not_eqZ x y e))

  pub same_end : n ≤ k → SameFrom set d b n k → SameOf set d b n true
  unfolding same_words
  same_end l h dm em s t =
      let u : drop k (enumerate dm) ≡ [] = let i : length (enumerate dm) ≤ k = omega (arith, candidates_length s) in drop_of_length-le (enumerate dm) i in
      let v : drop k (enumerate em) ≡ [] = let i : length (enumerate em) ≤ k = omega (arith, candidates_length t) in drop_of_length-le (enumerate em) i in
      sym (ap (λ (l : List ℤ). same_words l (drop k (enumerate em))) u ∙ ap (same_words []) v) ∙ h dm em s t
