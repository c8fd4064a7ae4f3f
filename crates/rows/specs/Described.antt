-- The words that describe a domain to the rows' code: for a range its number of values and its lowest one, for a list its length, negated, and its place.
use Rattle.std.specs.Prelude.{◌≡◌, refl, true, List, ◌∷◌, ℕ, ℤ, negsuc, neg_ℤ, ◌+ℤ◌, ◌-ℤ◌, T, length}
use Rattle.std.proofs.Common.{sym, ◌∙◌}
use Rattle.std.proofs.Math.Path.{ap}
use Rattle.std.proofs.Math.IntN.{pos, +ℤ_assoc, +ℤ_comm, +ℤ_invr, +ℤ_idr, -ℤ-+ℤ_cancel}
use Rattle.std.specs.Int.Signed.{le_z, non_neg}
use Rattle.laws.specs.Slices.{Has}
use Rattle.syntax.specs.Syntax.{Range, Enumerative, num_candidates}
use Rattle.tables.specs.Domains.{sub_nonNeg}
use Rattle.sorting.specs.Columns.{domain_in}

nonneg_next : (z : ℤ) → T (non_neg z) → T (non_neg (z +ℤ pos 1))
nonneg_next (pos n) t = tt
nonneg_next (negsuc n) t = absurd t

one_less : (z : ℤ) → (z +ℤ pos 1) -ℤ pos 1 ≡ z
one_less z = +ℤ_assoc z (pos 1) (neg_ℤ (pos 1)) ∙ ap (λ (y : ℤ). z +ℤ y) (+ℤ_invr (pos 1)) ∙ +ℤ_idr z

highest_back : (lo hi : ℤ) → lo +ℤ (num_candidates (Range lo hi) -ℤ pos 1) ≡ hi
highest_back lo hi = ap (λ (y : ℤ). lo +ℤ y) (one_less (hi -ℤ lo)) ∙ +ℤ_comm lo (hi -ℤ lo) ∙ -ℤ-+ℤ_cancel hi lo

pub range_described : (set : List ℤ) (lo hi : ℤ) → le_z lo hi ≡ true → domain_in set (num_candidates (Range lo hi)) lo ≡ Range lo hi
range_described set lo hi h = go (num_candidates (Range lo hi)) (nonneg_next (hi -ℤ lo) (sub_nonNeg lo hi h)) refl
  where
    go : (c : ℤ) → T (non_neg c) → num_candidates (Range lo hi) ≡ c → domain_in set c lo ≡ Range lo hi
    go (pos n) t e = unfold domain_in in ap (Range lo) (ap (λ (c : ℤ). lo +ℤ (c -ℤ pos 1)) (sym e) ∙ highest_back lo hi)
    go (negsuc n) t e = absurd t

pub list_described : (set : List ℤ) (at : ℕ) (x : ℤ) (xs : List ℤ) → Has set at (x ∷ xs) → domain_in set (negsuc (length xs)) (pos at) ≡ Enumerative (x ∷ xs)
unfolding domain_in
list_described set at x xs h = ap Enumerative h
