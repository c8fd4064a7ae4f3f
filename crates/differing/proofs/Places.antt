-- Expressions at their places, the first one and the rest, and a variable's declared domain. Assumes nothing.
use mathlib.Core.Path.{◌≡◌, refl, sym, subst}
use mathlib.Core.List.{List, [], ◌∷◌, map}
use Prim.Native.Nat.{ℕ, zero, suc, ◌+◌, ◌-◌, ◌≤◌, ◌<◌}
use native.Mathlib.Omega.{arith}
use lib.IntN.{ℤ, pos, neg_ℤ, nat_abs, ◌-ℤ◌}
use lib.ListN.{length}
use Rattle.laws.specs.Ints.{natAbs_add, natAbs_negℤ}
use Rattle.laws.specs.Lists.{flat}
use Rattle.laws.specs.Slices.{Has, has_word, has_rest, has_front, has_back}
use Rattle.syntax.specs.Words.{max_ints}
use Rattle.memory.specs.Places.{folded_end}
use Rattle.memory.specs.Number.{nat}
use Rattle.syntax.specs.Lengths.{int_tag, int_tag_word, int_long, int_fits}
use Rattle.syntax.specs.Syntax.{Domain, Range, Enumerative, num_candidates, domain_of, encode_domain, IntExpr, IConst, IVar, Linear, If, encode_int}
use Rattle.syntax.specs.Unique.{int_unique}
use Rattle.words.specs.Exact.{Each}
use Rattle.read.specs.WellFormed.{WellDomain}
use Rattle.domains.specs.Declared.{DomainAt, DomainSizedAt, DomainBelow, DomainPost}
use Rattle.walk.specs.Decode.{word, read_part}
use Rattle.walk.proofs.NumberingSteps.{part_short}
use Rattle.walks.specs.Legal.{LegalInt}
use Rattle.declared.specs.InSet.{Declared, SomeDeclared}
use Rattle.differing.specs.Standing.{At, Standing}

-- ---- one behind another

module _ (w : List ℤ) (p n : ℕ) (e : IntExpr) (es : List IntExpr) (s : Standing w p n (e ∷ es)) where
  pub first_at : At w p e
  first_at = record { words = has_front (read_part w) p (encode_int e) (flat (map encode_int es)) s.words; legal = s.legal.0 }

  pub rest_stands : Standing w (p + length (encode_int e)) (n - 1) es
  rest_stands = record {
    words = has_back (read_part w) p (encode_int e) (flat (map encode_int es)) s.words;
    counted = omega (arith, s.counted);
    legal = s.legal.1;
    size = s.size;
  }

-- as many expressions at the same place are the same
pub same_exprs : (w : List ℤ) (p n : ℕ) (es fs : List IntExpr) → Standing w p n es → Standing w p n fs → es ≡ fs
same_exprs w p n [] [] s t = refl
same_exprs w p n [] (f ∷ fs) s t = absurd (omega (arith, s.counted, t.counted))
same_exprs w p n (e ∷ es) [] s t = absurd (omega (arith, s.counted, t.counted))
same_exprs w p n (e ∷ es) (f ∷ fs) s t =
    let a : e ≡ f = int_unique (read_part w) p e f (first_at w p n e es s).words (first_at w p n f fs t).words in
    let u : Standing w (p + length (encode_int e)) (n - 1) fs = subst (λ (g : IntExpr). Standing w (p + length (encode_int g)) (n - 1) fs) (sym a) (rest_stands w p n f fs t) in
    rw (a, same_exprs w (p + length (encode_int e)) (n - 1) es fs (rest_stands w p n e es s) u) refl

-- ---- the expression at p

module _ (w : List ℤ) (p : ℕ) where
  pub place_inside : {e : IntExpr} → At w p e → p + 2 ≤ folded_end
  place_inside {e} a = omega (arith, int_long e, int_fits (read_part w) p e a.words, part_short w)

  pub code_is : (e : IntExpr) → At w p e → word (read_part w) p ≡ int_tag e
  unfolding word nat
  code_is e a = rw (int_tag_word (read_part w) p e a.words) refl

  -- its code word tells a variable from others
  pub variable_inv : {X : Type 0} (e : IntExpr) → At w p e → word (read_part w) p ≡ 21 → ((v : ℕ) → e ≡ IVar v → v < max_ints → word (read_part w) (p + 1) ≡ v → X) → X
  unfolding encode_int LegalInt word nat
  variable_inv (IConst c) a k go = absurd (omega (arith, code_is (IConst c) a, k))
  variable_inv (IVar v) a k go = go v refl a.legal.1 (rw (has_word (read_part w) (p + 1) (pos v) [] (pos 0) (has_rest (read_part w) p (pos 21) (pos v ∷ []) a.words)) refl)
  variable_inv (Linear ts) a k go = absurd (omega (arith, code_is (Linear ts) a, k))
  variable_inv (If i c t f) a k go = absurd (omega (arith, code_is (If i c t f) a, k))

-- ---- the declared variable v

pub well_at : (ds : List Domain) → Each WellDomain ds → (v : ℕ) → v < length ds → WellDomain (domain_of ds v)
well_at [] w v h = absurd (omega arith)
well_at (d ∷ ds) w zero h = w.0
well_at (d ∷ ds) w (suc v) h = well_at ds w.1 v (omega arith)

sized : (d : Domain) → WellDomain d → nat_abs (num_candidates d) ≤ 2147483647
sized (Range lo hi) w = omega (arith, natAbs_add (hi -ℤ lo) (pos 1), natAbs_add hi (neg_ℤ lo), natAbs_negℤ lo, w.0, w.1)
sized (Enumerative xs) w = omega (arith, w.1)

module _ (set : List ℤ) (v : ℕ) where
  pub domain_below : SomeDeclared set v → DomainBelow set 2 v
  domain_below s = record { ds = s.domains; domains = record { words = s.it.words }; below = s.below }

  module _ (at : ℕ) (post : DomainPost set 2 v at) where
    has : (ds : List Domain) → Declared set ds → v < length ds → Has set at (encode_domain (domain_of ds v))
    has ds d h = post ds (record { words = d.words }) h

    pub domain_at : SomeDeclared set v → DomainAt set at
    domain_at s = record { it = domain_of s.domains v; words = has s.domains s.it s.below }

    pub sized_at : SomeDeclared set v → DomainSizedAt set at
    sized_at s = record {
      it = domain_of s.domains v;
      words = has s.domains s.it s.below;
      fits = omega (arith, sized (domain_of s.domains v) (well_at s.domains s.it.well v s.below));
    }
