-- A domain as the list of its values: a value of the domain stands in it.
use Rattle.std.specs.Prelude.{◌≡◌, refl, Bool, true, false, not, ◌&&◌, ◌||◌, List, ℕ, zero, suc, ℤ, pos, negsuc, nat_abs, ◌+ℤ◌, ◌-ℤ◌, T, ltb}
use Rattle.std.proofs.Common.{sym, ap, ◌∙◌, arith, ltb-false, le-ltb}
use Rattle.std.proofs.Math.IntN.{suc_ℤ, suc_ℤ-+ℤ, +ℤ-suc_ℤ, +ℤ_idr, +ℤ_comm, +ℤ_one, -ℤ-+ℤ_cancel}
use Rattle.std.specs.Int.Signed.{lt_z, le_z, non_neg, pos-nat_abs}
use Rattle.laws.specs.Bools.{never, and_l, and_r, eq1, eq2}
use Rattle.laws.specs.Ints.{eqZ}
use Rattle.laws.specs.Order.{eqZ_is, eqZ_refl, ltZ_irr, ltZ_tri, ltZ_asym, leZ_not, leZ_trans, lt_suc}
use Rattle.laws.specs.Lists.{any}
use Rattle.syntax.specs.Syntax.{Domain, Range, Enumerative, rising, enumerate, in_domain, num_candidates}

abbrev pub has : ℤ → List ℤ → Bool
has x xs = any (eqZ x) xs

-- less than itself and more
lt_plus : (z : ℤ) (m : ℕ) → lt_z z (z +ℤ pos (suc m)) ≡ true
lt_plus z zero = ap (lt_z z) (+ℤ-suc_ℤ z (pos 0)) ∙ lt_suc z (z +ℤ pos 0) ∙ rw (+ℤ_idr z, ltZ_irr z, eqZ_refl z)
lt_plus z (suc m) = ap (lt_z z) (+ℤ-suc_ℤ z (pos (suc m))) ∙ lt_suc z (z +ℤ pos (suc m)) ∙ rw (lt_plus z m)

has_rising : (x z : ℤ) (m : ℕ) → has x (rising z m) ≡ not (lt_z x z) && lt_z x (z +ℤ pos m)
has_rising x z zero = rw (+ℤ_idr z) (sym (no_both (lt_z x z)))
  where
    no_both : (b : Bool) → not b && b ≡ false
    no_both = eq1 _ _ refl
has_rising x z (suc m) = ap (λ (b : Bool). eqZ x z || b) (has_rising x (suc_ℤ z) m ∙ rw (lt_suc x z, suc_ℤ-+ℤ z (pos m) ∙ sym (+ℤ-suc_ℤ z (pos m)))) ∙ go (eqZ x z) refl
  where
    tidy : (l r : Bool) → not (l || false) && r ≡ not l && r
    tidy = eq2 _ _ refl

    go : (e : Bool) → eqZ x z ≡ e → e || (not (lt_z x z || e) && lt_z x (z +ℤ pos (suc m))) ≡ not (lt_z x z) && lt_z x (z +ℤ pos (suc m))
    go true h = rw (eqZ_is x z h, ltZ_irr z, lt_plus z m)
    go false h = tidy (lt_z x z) (lt_z x (z +ℤ pos (suc m)))

-- the difference of two numbers in order
pub sub_nonNeg : (lo hi : ℤ) → le_z lo hi ≡ true → T (non_neg (hi -ℤ lo))
sub_nonNeg lo hi h = from_lt lo hi (not-true (lt_z hi lo) (sym (leZ_not lo hi) ∙ h))
  where
    not-true : (b : Bool) → not b ≡ true → b ≡ false
    not-true true e = sym e
    not-true false e = refl

    from_lt : (lo hi : ℤ) → lt_z hi lo ≡ false → T (non_neg (hi -ℤ lo))
    from_lt (pos zero) (pos b) h = tt
    from_lt (pos (suc a)) (pos b) h = rw h tt
    from_lt (pos a) (negsuc b) h = never (sym h)
    from_lt (negsuc a) (pos b) h = tt
    from_lt (negsuc a) (negsuc b) h = let l : ltb (suc a) (suc b) ≡ false = le-ltb (suc a) (suc b) (let x = ltb-false a b h in omega arith) in rw l tt

suc_nonNeg : (z : ℤ) → T (non_neg z) → T (non_neg (suc_ℤ z))
suc_nonNeg (pos n) t = tt
suc_nonNeg (negsuc n) t = absurd t

-- from the lowest on, as many as there are: one past the highest
pub range_end : (lo hi : ℤ) → le_z lo hi ≡ true → lo +ℤ pos (nat_abs (num_candidates (Range lo hi))) ≡ suc_ℤ hi
range_end lo hi h =
    let one : (hi -ℤ lo) +ℤ pos 1 ≡ suc_ℤ (hi -ℤ lo) = +ℤ_one (hi -ℤ lo) in
    ap (λ (y : ℤ). lo +ℤ pos (nat_abs y)) one
    ∙ ap (λ (y : ℤ). lo +ℤ y) (pos-nat_abs (suc_ℤ (hi -ℤ lo)) (suc_nonNeg (hi -ℤ lo) (sub_nonNeg lo hi h)))
    ∙ +ℤ-suc_ℤ lo (hi -ℤ lo) ∙ ap suc_ℤ (+ℤ_comm lo (hi -ℤ lo) ∙ -ℤ-+ℤ_cancel hi lo)

not_over : (x hi : ℤ) → lt_z x (suc_ℤ hi) ≡ le_z x hi
not_over x hi = lt_suc x hi ∙ go (lt_z x hi) (eqZ x hi) refl refl ∙ sym (leZ_not x hi)
  where
    go : (l e : Bool) → lt_z x hi ≡ l → eqZ x hi ≡ e → l || e ≡ not (lt_z hi x)
    go true e h k = sym (ap not (ltZ_asym x hi h))
    go false true h k = sym (ap not (ap (lt_z hi) (eqZ_is x hi k) ∙ ltZ_irr hi))
    go false false h k = sym (ap not (ltZ_tri x hi h k))

-- the values of a range that is not empty
pub has_range : (x lo hi : ℤ) → le_z lo hi ≡ true → has x (enumerate (Range lo hi)) ≡ in_domain x (Range lo hi)
has_range x lo hi h =
    has_rising x lo (nat_abs (num_candidates (Range lo hi)))
    ∙ rw (range_end lo hi h, not_over x hi, leZ_not lo x)

pub in_enumerate : (x : ℤ) (d : Domain) → in_domain x d ≡ true → has x (enumerate d) ≡ true
in_enumerate x (Range lo hi) h = has_range x lo hi (leZ_trans lo x hi (and_l (le_z lo x) (le_z x hi) h) (and_r (le_z lo x) (le_z x hi) h)) ∙ h
in_enumerate x (Enumerative xs) h = h
