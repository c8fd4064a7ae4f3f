-- The declared domains as a table of the work slice, three words each: lowest, highest, number of values less 1. So zero words say the range from 0 to 0,
-- which an index without a declaration has (`domain_of`). Assumes nothing.
use Rattle.std.specs.Prelude.{◌≡◌, refl, Bool, true, false, List, [], ◌∷◌, map, ℕ, zero, suc, ◌+◌, ◌*◌, ◌≤◌, ◌<◌, ℤ, pos, negsuc, neg_ℤ, nat_abs, ◌+ℤ◌, ◌-ℤ◌, length, get_or, set, ltb}
use Rattle.std.proofs.Common.{sym, ap, ◌∙◌, get_or-set_other, ltb-true, ltb-false}
use native.Mathlib.Omega.{arith}
use Rattle.std.proofs.Math.IntN.{+ℤ-neg_ℤ_cancel, -ℤ-+ℤ_cancel}
use Rattle.std.proofs.lemmas.List.{length-replicate, get_or-replicate}
use Rattle.std.proofs.Math.ListN.{get_or-eq_default}
use Rattle.std.proofs.lemmas.List.Edits.{sets}
use Rattle.laws.specs.Ints.{natAbs_add, natAbs_negℤ}
use Rattle.laws.specs.Lists.{flat}
use Rattle.laws.specs.Slices.{Has, zeros, has_fits, has_nth, has_sets}
use Rattle.memory.specs.Places.{declared_domains}
use Rattle.syntax.specs.Words.{max_ints}
use Rattle.syntax.specs.Syntax.{Domain, Range, Enumerative, domain_of, lower_bound, upper_bound, num_candidates}
use Rattle.words.specs.Exact.{Each}
use Rattle.read.specs.WellFormed.{WellDomain}
use Rattle.domains.specs.Declared.{Domains}

abbrev pub domain_words : Domain → List ℤ
domain_words d = lower_bound d ∷ upper_bound d ∷ (num_candidates d -ℤ pos 1) ∷ []

abbrev pub domain_table : List Domain → List ℤ
domain_table ds = flat (map domain_words ds)

-- its third word fits, and one more than it
abbrev pub SizeFits : Domain → Type 0
SizeFits d = nat_abs (num_candidates d -ℤ pos 1) < 2147483647

-- ---- `write_domains`

-- the n domains stand from d on in the set's words, and their table has room from o on
pub record TableRoom (set : List ℤ) (d n : ℕ) (work : List ℤ) (o : ℕ) : Type 0 where
  pub ds : List Domain
  pub domains : Domains set d ds
  pub size : n ≡ length ds
  pub fits : (v : ℕ) → SizeFits (domain_of ds v)
  pub room : o + 3 * n ≤ length work

abbrev pub TablePost : List ℤ → ℕ → ℕ → List ℤ → ℕ → List ℤ → Type 0
TablePost set d n work o work' = (ds : List Domain) → Domains set d ds → n ≡ length ds → work' ≡ sets work o (domain_table ds)

-- ---- looking a domain up

pub record Tells (d : Domain) (x y z : ℤ) : Type 0 where
  pub lowest : x ≡ lower_bound d
  pub highest : y ≡ upper_bound d
  pub count : z +ℤ pos 1 ≡ num_candidates d
  pub few : nat_abs z < 2147483647

unfoldable pub word_at : List ℤ → ℕ → ℕ → ℤ
word_at w v k = get_or w (declared_domains + 3 * v + k) (pos 0)

abbrev pub Declares : List Domain → List ℤ → Type 0
Declares ds w = (v : ℕ) → v < max_ints → Tells (domain_of ds v) (word_at w v 0) (word_at w v 1) (word_at w v 2)

table_length : (ds : List Domain) → length (domain_table ds) ≡ 3 * length ds
table_length [] = refl
table_length (d ∷ ds) = omega (arith, table_length ds)

-- behind the table's end its default answers as `domain_of` does
table_word : (ds : List Domain) (v k : ℕ) → k < 3 → get_or (domain_table ds) (3 * v + k) (pos 0) ≡ get_or (domain_words (domain_of ds v)) k (pos 0)
table_word [] v zero l = refl
table_word [] v (suc zero) l = refl
table_word [] v (suc (suc zero)) l = refl
table_word [] v (suc (suc (suc k))) l = absurd (omega arith)
table_word (d ∷ ds) zero zero l = refl
table_word (d ∷ ds) zero (suc zero) l = refl
table_word (d ∷ ds) zero (suc (suc zero)) l = refl
table_word (d ∷ ds) zero (suc (suc (suc k))) l = absurd (omega arith)
table_word (d ∷ ds) (suc v) k l = let m : 3 * suc v + k ≡ suc (suc (suc (3 * v + k))) = omega arith in rw m (table_word ds v k l)

sets_behind : (out : List ℤ) (o : ℕ) (us : List ℤ) (j : ℕ) → o + length us ≤ j → get_or (sets out o us) j (pos 0) ≡ get_or out j (pos 0)
sets_behind out o [] j l = refl
sets_behind out o (u ∷ us) j l = sets_behind (set out o u) (suc o) us j (omega arith) ∙ get_or-set_other out o j u (pos 0) (λ e. omega arith)

-- stored over zeros: behind the words too their default is read
over_zeros : (out : List ℤ) (o n : ℕ) → Has out o (zeros n) → (us : List ℤ) → length us ≤ n → (j : ℕ) → j < n → get_or (sets out o us) (o + j) (pos 0) ≡ get_or us j (pos 0)
over_zeros out o n h us f j l = go (ltb j (length us)) refl
  where
    inside : o + n ≤ length out
    inside = omega (arith, has_fits out o (zeros n) h (omega (arith, length-replicate n (pos 0))), length-replicate n (pos 0))

    go : (b : Bool) → ltb j (length us) ≡ b → get_or (sets out o us) (o + j) (pos 0) ≡ get_or us j (pos 0)
    go true e = has_nth (sets out o us) o us j (pos 0) (has_sets out o us (omega (arith, inside))) (ltb-true j (length us) e)
    go false e =
        let m = ltb-false j (length us) e in
        sets_behind out o us (o + j) (omega arith)
        ∙ has_nth out o (zeros n) j (pos 0) h (omega (arith, length-replicate n (pos 0)))
        ∙ get_or-replicate n j (pos 0) (pos 0) l
        ∙ sym (get_or-eq_default us (pos 0) m)

-- written over zeros
module _ (w : List ℤ) (h : Has w declared_domains (zeros (3 * max_ints))) (ds : List Domain) (few : length ds ≤ max_ints) (fits : (v : ℕ) → SizeFits (domain_of ds v)) where
  written : (v k : ℕ) → v < max_ints → k < 3 → word_at (sets w declared_domains (domain_table ds)) v k ≡ get_or (domain_words (domain_of ds v)) k (pos 0)
  unfolding word_at
  written v k a b =
      let e : declared_domains + 3 * v + k ≡ declared_domains + (3 * v + k) = omega arith in
      rw e (over_zeros w declared_domains (3 * max_ints) h (domain_table ds) (omega (arith, table_length ds)) (3 * v + k) (omega arith) ∙ table_word ds v k b)

  pub declares : Declares ds (sets w declared_domains (domain_table ds))
  declares v l =
      let z : word_at (sets w declared_domains (domain_table ds)) v 2 ≡ num_candidates (domain_of ds v) -ℤ pos 1 = written v 2 l (omega arith) in
      record {
        lowest = written v 0 l (omega arith);
        highest = written v 1 l (omega arith);
        count = ap (λ (x : ℤ). x +ℤ pos 1) z ∙ -ℤ-+ℤ_cancel (num_candidates (domain_of ds v)) (pos 1);
        few = rw z (fits v);
      }

-- ---- the domains of a set that is read

well_fits : (d : Domain) → WellDomain d → SizeFits d
well_fits (Range low high) h = rw (+ℤ-neg_ℤ_cancel (high -ℤ low) (pos 1)) (omega (arith, natAbs_add high (neg_ℤ low), natAbs_negℤ low, h.0, h.1))
well_fits (Enumerative xs) h = omega (arith, natAbs_add (pos (length xs)) (negsuc 0), h.1)

pub sizes_fit : (ds : List Domain) → Each WellDomain ds → (v : ℕ) → SizeFits (domain_of ds v)
sizes_fit [] h v = omega arith
sizes_fit (d ∷ ds) h zero = well_fits d h.0
sizes_fit (d ∷ ds) h (suc v) = sizes_fit ds h.1 v
