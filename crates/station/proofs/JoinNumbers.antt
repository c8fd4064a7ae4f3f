-- The join's answer and a statement's place as a station's numbers. Assumes nothing.
use mathlib.Core.Path.{◌≡◌, refl, sym, ap, ◌∙◌}
use mathlib.Core.List.{List, [], ◌∷◌}
use Prim.Native.Nat.{ℕ, zero, suc, ◌+◌, ◌-◌, ◌≤◌}
use native.Mathlib.Omega.{arith}
use lib.IntN.{ℤ, pos, neg_ℤ, ◌-ℤ◌, +ℤ_idl}
use lib.ListN.{length, set}
use lib.Seq.{sets}
use mir.Syntax.{w64}
use mir.Val.{to_z, of_z, SFits}
use mir.Facts.{to_z-of_z}
use Rattle.laws.specs.Ints.{apart}
use Rattle.laws.specs.Slices.{zeros}
use Rattle.syntax.specs.Syntax.{encode_stmt}
use Rattle.join.specs.Join.{Joining, joined, refused, join, Found, in_first, in_second, nowhere, statement_at}
use Rattle.join.specs.Found.{Ends, statement_ends}
use Rattle.join.specs.Contract.{answer_of, Joins, place_of, Finds}
use Rattle.join.specs.declared.Joined.{Joined}
use Rattle.join.specs.declared.Joined.TheVariants.{Words, Refused}
use Rattle.join.specs.declared.Place.{Place}
use Rattle.station.specs.Joined.{joined_number, JoinReturns, set_number, place_words, FindReturns, SmallJoin, join_small}

-- ---- small numbers as bits

pub small_fits : (n : ℕ) → n ≤ 4096 → SFits w64 (pos n)
small_fits n h = record { sfits = omega arith }

small_is : (n : ℕ) → n ≤ 4096 → to_z w64 n ≡ pos n
small_is n h = to_z-of_z (small_fits n h)

minus_fits : (k : ℕ) → k ≤ 17 → SFits w64 (neg_ℤ (pos k))
minus_fits zero h = record { sfits = omega arith }
minus_fits (suc k) h = record { sfits = omega arith }

pub minus_small_fits : (k : ℕ) → k ≤ 17 → SFits w64 (pos 0 -ℤ to_z w64 k)
minus_small_fits k h = rw (small_is k (omega arith), +ℤ_idl (neg_ℤ (pos k))) (minus_fits k h)

pub minus_small_is : (k : ℕ) → k ≤ 17 → to_z w64 (of_z w64 (pos 0 -ℤ to_z w64 k)) ≡ neg_ℤ (pos k)
minus_small_is k h = to_z-of_z (minus_small_fits k h) ∙ ap (λ (z : ℤ). pos 0 -ℤ z) (small_is k (omega arith)) ∙ +ℤ_idl (neg_ℤ (pos k))

-- ---- `join_sets`

words_of : (x : Joining) → SmallJoin x → (n : ℕ) → answer_of x ≡ Words n → (n ≤ 4096) × (pos n ≡ joined_number x)
unfolding answer_of joined_number
words_of (joined ws) s n e = let l : length ws ≡ n = cc in (omega (arith, s), ap pos (sym l))
words_of (refused k) s n e = apart (cc)

refusal_of : (x : Joining) → SmallJoin x → (k : ℕ) → answer_of x ≡ Refused k → (k ≤ 17) × (neg_ℤ (pos k) ≡ joined_number x)
unfolding answer_of joined_number
refusal_of (joined ws) s k e = apart (cc)
refusal_of (refused j) s k e = let l : j ≡ k = cc in (omega (arith, s), ap (λ (m : ℕ). neg_ℤ (pos m)) (sym l))

module _ (first second buffer work buffer' work' : List ℤ) (r : Joined) (h : Joins first second buffer work buffer' work' r) where
  abbrev result : Joining
  result = join first second (length buffer) (length work)

  gives : (x : ℤ) → x ≡ joined_number result → JoinReturns first second buffer work buffer' work' x
  gives x e = record { number = e; written = h.written; zeroed = h.zeroed }

  pub joined_small : (n : ℕ) → r ≡ Words n → n ≤ 4096
  joined_small n e = (words_of result (join_small first second (length buffer) (length work)) n (sym h.answer ∙ e)).0

  pub refused_small : (k : ℕ) → r ≡ Refused k → k ≤ 17
  refused_small k e = (refusal_of result (join_small first second (length buffer) (length work)) k (sym h.answer ∙ e)).0

  pub returns_joined : (n : ℕ) → r ≡ Words n → JoinReturns first second buffer work buffer' work' (to_z w64 n)
  returns_joined n e = gives (to_z w64 n) (small_is n (joined_small n e) ∙ (words_of result (join_small first second (length buffer) (length work)) n (sym h.answer ∙ e)).1)

  pub returns_refused : (k : ℕ) → r ≡ Refused k → JoinReturns first second buffer work buffer' work' (to_z w64 (of_z w64 (pos 0 -ℤ to_z w64 k)))
  returns_refused k e = gives _ (minus_small_is k (refused_small k e) ∙ (refusal_of result (join_small first second (length buffer) (length work)) k (sym h.answer ∙ e)).1)

-- ---- `find_statement`

record SmallPlace (f : Found) (p : Place) : Type 0 where
  set_is : p.set ≡ set_number f
  order : p.from ≤ p.to
  end : p.to ≤ 4096
  few : p.set ≤ 2
  words : place_words f ≡ pos p.set ∷ pos p.from ∷ pos (p.to - p.from) ∷ []

small_place : (f : Found) → Ends f → SmallPlace f (place_of f)
unfolding place_of place_words set_number
small_place (in_first at t) l = let m : at + length (encode_stmt t) - at ≡ length (encode_stmt t) = omega arith in record { set_is = refl; order = omega arith; end = l; few = omega arith; words = rw m refl }
small_place (in_second at t) l = let m : at + length (encode_stmt t) - at ≡ length (encode_stmt t) = omega arith in record { set_is = refl; order = omega arith; end = l; few = omega arith; words = rw m refl }
small_place nowhere l = record { set_is = refl; order = omega arith; end = omega arith; few = omega arith; words = refl }

module _ (first second place work work' : List ℤ) (number : ℕ) (p : Place) (h : Finds first second work work' number p) where
  abbrev found : Found
  found = statement_at first second (length work) number

  is_small : SmallPlace found p
  is_small = rw h.place (small_place found (statement_ends first second (length work) number))

  pub place_small : (p.from ≤ p.to) × (p.to ≤ 4096) × (p.set ≤ 2)
  place_small = (is_small.order, is_small.end, is_small.few)

  -- the three words stored one after another
  pub returns_place : (a b c d : List ℤ) → a ≡ zeros (length place) → b ≡ set a 0 (pos p.set) → c ≡ set b 1 (pos p.from) → d ≡ set c 2 (pos (p.to - p.from)) → FindReturns first second place work d work' number (to_z w64 p.set)
  returns_place a b c d e f g i = record {
    set = small_is p.set (omega (arith, is_small.few)) ∙ ap pos is_small.set_is;
    written = i ∙ rw (g, f, e) refl ∙ ap (sets (zeros (length place)) 0) (sym is_small.words);
    zeroed = h.zeroed;
  }
