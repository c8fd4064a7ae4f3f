-- The two words that describe a domain. Assumes nothing.
use mathlib.Core.Path.{◌≡◌, sym, ap, ◌∙◌, subst}
use mathlib.Core.Bool.{true, false}
use mathlib.Core.List.{List, [], ◌∷◌}
use Prim.Native.Nat.{ℕ, zero, suc, ◌+◌, ◌≤◌, ◌<◌}
use native.Mathlib.Omega.{arith}
use lib.IntN.{ℤ, pos, negsuc, neg_ℤ, nat_abs, ◌+ℤ◌, ◌-ℤ◌, +ℤ_idl}
use lib.Signed.{le_z}
use lib.ListN.{length}
use borrow.Author.Tests.{le-leb}
use mir.Syntax.{w32}
use mir.Val.{SFits}
use Rattle.laws.specs.Bools.{never}
use Rattle.laws.specs.Ints.{natAbs_add, sfits_natAbs, natAbs_negℤ}
use Rattle.laws.specs.Slices.{Has, has_fits, has_back}
use Rattle.syntax.specs.Words.{max_value, max_set_words}
use Rattle.syntax.specs.Syntax.{Domain, Range, Enumerative, upper_bound, num_candidates, domain_of, encode_domain}
use Rattle.words.specs.Exact.{Each}
use Rattle.read.specs.WellFormed.{WellDomain}
use Rattle.domains.specs.Declared.{DomainAt, DomainSizedAt, DomainBelow, DomainPost}
use Rattle.domains.proofs.Laws.{domain_inside}
use Rattle.call.proofs.Demand.{domains_ordered}
use Rattle.sorting.specs.Columns.{domain_in}
use Rattle.rows.specs.Described.{range_described, list_described}
use Rattle.declared.specs.InSet.{Declared, SomeDeclared}
use Rattle.tablewriter.specs.Describing.{Describes}

-- ---- a range

candidates_small : (lo hi : ℤ) → nat_abs lo ≤ max_value → nat_abs hi ≤ max_value → nat_abs (num_candidates (Range lo hi)) ≤ 2147483647
candidates_small lo hi l h = omega (arith, natAbs_add (hi -ℤ lo) (pos 1), natAbs_add hi (neg_ℤ lo), natAbs_negℤ lo)

module _ (set : List ℤ) (lo hi : ℤ) (l : nat_abs lo ≤ max_value) (h : nat_abs hi ≤ max_value) (o : le_z lo hi ≡ true) where
  abbrev many : ℤ
  many = num_candidates (Range lo hi)

  described : domain_in set many lo ≡ Range lo hi
  described = range_described set lo hi o

  -- the words are those of a range
  not_negative : (c : ℤ) → domain_in set c lo ≡ Range lo hi → (le_z (pos 0) c ≡ true) × (lo +ℤ (c -ℤ pos 1) ≡ hi)
  unfolding domain_in
  not_negative (pos n) e = (le-leb 0 n (omega arith), ap upper_bound e)
  not_negative (negsuc n) e = absurd (let z : ◌≡◌ {A = ℕ} 0 1 = ap kind (sym e) in omega arith)
    where
      kind : Domain → ℕ
      kind (Range low high) = 0
      kind (Enumerative xs) = 1

  pub range_describes : Describes set (Range lo hi) many lo
  range_describes =
      let n = not_negative many described in
      let no : le_z (pos 0) many ≡ false → ⊥ = λ z. never (sym z ∙ n.0) in
      record {
        is = described;
        placed = record {
          size = candidates_small lo hi l h;
          lowest = λ z. l;
          highest = λ z. rw n.1 h;
          low = λ z. absurd (no z);
          fits = λ z. absurd (no z);
          ordered = rw described o;
        };
      }

-- ---- a list

list_describes : (set : List ℤ) (at : ℕ) (xs : List ℤ) → WellDomain (Enumerative xs) → Has set at xs → Describes set (Enumerative xs) (neg_ℤ (pos (length xs))) (pos at)
list_describes set at [] w h = absurd (omega (arith, w.0))
list_describes set at (x ∷ xs) w h =
    let e : domain_in set (negsuc (length xs)) (pos at) ≡ Enumerative (x ∷ xs) = list_described set at x xs h in
    record {
      is = e;
      placed = record {
        size = omega (arith, w.1);
        lowest = λ z. never z;
        highest = λ z. never z;
        low = λ z. le-leb 0 at (omega arith);
        fits = λ z. omega (arith, has_fits set at (x ∷ xs) h (omega arith));
        ordered = rw e (domains_ordered (Enumerative (x ∷ xs) ∷ []) (w, tt) 0 (omega arith));
      };
    }

-- ---- the declared variable v

pub well_at : (ds : List Domain) → Each WellDomain ds → (v : ℕ) → v < length ds → WellDomain (domain_of ds v)
well_at [] w v h = absurd (omega arith)
well_at (d ∷ ds) w zero h = w.0
well_at (d ∷ ds) w (suc v) h = well_at ds w.1 v (omega arith)

sized : (d : Domain) → WellDomain d → nat_abs (num_candidates d) ≤ 2147483647
sized (Range lo hi) w = candidates_small lo hi w.0 w.1
sized (Enumerative xs) w = omega (arith, w.1)

module _ (set : List ℤ) (v : ℕ) where
  pub domain_below : SomeDeclared set v → DomainBelow set 2 v
  domain_below s = record { ds = s.domains; domains = record { words = s.it.words }; below = s.below }

  module _ (at : ℕ) (post : DomainPost set 2 v at) where
    has : (ds : List Domain) → Declared set ds → v < length ds → Has set at (encode_domain (domain_of ds v))
    has ds d h = post ds (record { words = d.words }) h

    pub domain_at : SomeDeclared set v → DomainAt set at
    domain_at s = record { it = domain_of s.domains v; words = has s.domains s.it s.below }

    pub sized_at : SomeDeclared set v → DomainSizedAt set at
    sized_at s = record {
      it = domain_of s.domains v;
      words = has s.domains s.it s.below;
      fits = omega (arith, sized (domain_of s.domains v) (well_at s.domains s.it.well v s.below));
    }

    pub place_small : SomeDeclared set v → at + 2 ≤ max_set_words
    place_small s = omega (arith, domain_inside set at (domain_at s), s.it.short)

    module _ (c : ℤ) (many_is : (d : Domain) → Has set at (encode_domain d) → c ≡ num_candidates d) where
      pub many_small : SomeDeclared set v → nat_abs c ≤ 2147483647
      many_small s =
          let d : Domain = domain_of s.domains v in
          let e : c ≡ num_candidates d = many_is d (has s.domains s.it s.below) in
          omega (arith, ap nat_abs e, sized d (well_at s.domains s.it.well v s.below))

      pub range_told : (low hi : ℤ) → ((d : Domain) → Has set at (encode_domain d) → Range low hi ≡ d) → (ds : List Domain) → Declared set ds → v < length ds → Describes set (domain_of ds v) c low
      range_told low hi is ds d h =
          let e : Range low hi ≡ domain_of ds v = is (domain_of ds v) (has ds d h) in
          let w : WellDomain (Range low hi) = subst WellDomain (sym e) (well_at ds d.well v h) in
          let i : Has set at (encode_domain (Range low hi)) = subst (λ (dm : Domain). Has set at (encode_domain dm)) (sym e) (has ds d h) in
          subst (λ (dm : Domain). Describes set dm c low) e (rw (many_is (Range low hi) i) (range_describes set low hi w.0 w.1 w.2))

      pub list_told : (xs : List ℤ) → ((d : Domain) → Has set at (encode_domain d) → Enumerative xs ≡ d) → (m x : ℤ) → m ≡ pos 0 -ℤ c → x ≡ pos (at + 2) → (ds : List Domain) → Declared set ds → v < length ds → Describes set (domain_of ds v) m x
      list_told xs is m x em ex ds d h =
          let e : Enumerative xs ≡ domain_of ds v = is (domain_of ds v) (has ds d h) in
          let w : WellDomain (Enumerative xs) = subst WellDomain (sym e) (well_at ds d.well v h) in
          let i : Has set at (encode_domain (Enumerative xs)) = subst (λ (dm : Domain). Has set at (encode_domain dm)) (sym e) (has ds d h) in
          subst (λ (dm : Domain). Describes set dm m x) e (rw (em, ex, many_is (Enumerative xs) i, +ℤ_idl (neg_ℤ (pos (length xs)))) (list_describes set (at + 2) xs w (has_back set at (pos 1 ∷ pos (length xs) ∷ []) xs i)))

-- the negated count fits a word
pub minus_fits : (c : ℤ) → nat_abs c ≤ 2147483647 → SFits w32 (pos 0 -ℤ c)
minus_fits c h = sfits_natAbs w32 (pos 0 -ℤ c) (omega (arith, natAbs_add (pos 0) (neg_ℤ c), natAbs_negℤ c))
