-- The sums and the bounds of an If's branches, as the functions of totals give them.
use mathlib.Core.Path.{◌≡◌, refl, sym, ap, ◌∙◌, subst}
use mathlib.Core.Bool.{Bool, true, false, not, ◌&&◌, cond}
use mathlib.Core.List.{List, [], ◌∷◌}
use Prim.Native.Nat.{ℕ, ◌≤◌, zero-le}
use native.Mathlib.Omega.{arith}
use lib.IntN.{ℤ, nat_abs}
use lib.Dec.{eqb}
use lib.Signed.{lt_z}
use Rattle.std.specs.Int.{int_min, int_max}
use Rattle.laws.specs.Order.{leZ_not}
use borrow.Author.Tests.{eq-eqb, ne_eqb}
use Rattle.laws.specs.Ints.{lower, higher}
use Rattle.memory.specs.Places.{limit}
use Rattle.syntax.specs.Syntax.{Domain, Range, lower_bound, upper_bound}
use Rattle.syntax.specs.Words.{max_weight}
use Rattle.sums.specs.LinearSum.{LinearSum, linear_sum, is_constant}
use Rattle.sums.specs.Struct.{Stands}
use Rattle.sums.specs.declared.LinearSum.{LinearSum as Sum}
use Rattle.clauses.specs.Normalize.{hull}
use Rattle.walk.specs.declared.Counters.{Counters}
use Rattle.walks.specs.Tree.{Splitting}
use Rattle.walks.specs.Item.{counters, has_ifs, form_int_item}
use Rattle.walks.specs.Meet.{range_of}
use Rattle.declared.specs.DomainTable.{Declares}
use Rattle.scan.specs.IfLaws.{Low}
use Rattle.totals.specs.Linear.{int_at, Stepping, Linear}
use Rattle.totals.specs.Ranges.{Ranging, Ranges}
use Rattle.totals.specs.declared.Nested.{Nested}
use Rattle.numbering.specs.Fits.{BranchFits, either_range}
use Rattle.numbering.specs.Make.{counters_in, SumsReady, SumsAre, RangeIs}
use Rattle.numbering.specs.declared.Progress.{Progress}

-- ---- tests

-- the lower and the higher of two are what Rust's methods give
pub lowest_is : (x y : ℤ) {z : ℤ} → z ≡ int_min x y → z ≡ lower x y
lowest_is x y e = e ∙ rw (leZ_not x y) (go (lt_z y x))
  where
    go : (b : Bool) → cond b y x ≡ cond (not b) x y
    go true = refl
    go false = refl

pub highest_is : (x y : ℤ) {z : ℤ} → z ≡ int_max x y → z ≡ higher x y
highest_is x y e = e ∙ rw (leZ_not x y) (go (lt_z y x))
  where
    go : (b : Bool) → cond b x y ≡ cond (not b) y x
    go true = refl
    go false = refl

pub counters_are : (w : List ℤ) (c : Progress) {b : Bool} → b ≡ has_ifs w → counters c.bools (cond b c.ints 0) ≡ counters_in w c
counters_are w c e = ap (λ (b : Bool). counters c.bools (cond b c.ints 0)) e

-- ---- one branch, from the counters of c on

pub branch_low : (w : List ℤ) (c : Progress) (n : Counters) → n ≡ counters_in w c → (c.bools ≤ limit) × (c.ints ≤ limit) → Low n
branch_low w c n e h = subst Low (sym e) (h.0, go (has_ifs w))
  where
    go : (b : Bool) → cond b c.ints 0 ≤ limit
    go true = h.1
    go false = zero-le

module _ (w : List ℤ) (l : ℕ) (m : Splitting) (at base : ℕ) (c : Progress) (n : Counters) (e : n ≡ counters_in w c) where
  pub branch_steps : (ds : List Domain) → BranchFits ds w (int_at w l m at base) (counters_in w c) → Stepping w l m at base n
  branch_steps ds h = subst (λ (k : Counters). Stepping w l m at base k) (sym e) (record { domains = ds; steps = h.steps })

  pub branch_ranging : (ds : List Domain) → Declares ds w → BranchFits ds w (int_at w l m at base) (counters_in w c) → Ranging w l m at base n
  branch_ranging ds d h = subst (λ (k : Counters). Ranging w l m at base k) (sym e) (record { domains = ds; declares = d; steps = h.steps; branches = h.branches; light = h.light })

  pub branch_linear : (a : Nested) → Linear w l m at base n a → (ds : List Domain) → Stands a.sum ((form_int_item ds (int_at w l m at base)).total w (counters_in w c))
  branch_linear a h = (subst (λ (k : Counters). Linear w l m at base k a) e h).sum

  pub branch_ranges : (x y : ℤ) → Ranges w l m at base n x y → Ranges w l m at base (counters_in w c) x y
  branch_ranges x y h = subst (λ (k : Counters). Ranges w l m at base k x y) e h

-- ---- both

constant_is : (s : Sum) (l : LinearSum) → Stands s l → eqb s.count 0 ≡ is_constant l
constant_is s (linear_sum c []) h = eq-eqb s.count 0 (omega (arith, h.size))
constant_is s (linear_sum c (x ∷ xs)) h = ne_eqb s.count 0 (λ e. omega (arith, h.size))

module _ (w : List ℤ) (l : ℕ) (m : Splitting) (p q i j : ℕ) (n k : Counters) where
  pub sums_are : (s t : Sum) → ((ds : List Domain) → Stands s ((form_int_item ds (int_at w l m p i)).total w n)) → ((ds : List Domain) → Stands t ((form_int_item ds (int_at w l m q j)).total w k))
      → (ds : List Domain) → SumsAre ds w (int_at w l m p i) (int_at w l m q j) n k (eqb s.count 0 && eqb t.count 0) s.constant t.constant
  sums_are s t g h ds = record { constant = let a = constant_is s ((form_int_item ds (int_at w l m p i)).total w n) (g ds) in let b = constant_is t ((form_int_item ds (int_at w l m q j)).total w k) (h ds) in rw (a, b) refl; first = (g ds).const; second = (h ds).const }

  module _ (a b c d x y : ℤ) (g : Ranges w l m p i n a b) (h : Ranges w l m q j k c d) (hx : x ≡ lower a c) (hy : y ≡ higher b d) where
    range_is : (ds : List Domain) → Declares ds w → Range x y ≡ either_range (form_int_item ds (int_at w l m p i)) (form_int_item ds (int_at w l m q j)) w n k
    range_is ds f = rw (hx, hy) (ap (λ (u : Domain). hull u (Range c d)) (g ds f) ∙ ap (hull (range_of (form_int_item ds (int_at w l m p i)) w n)) (h ds f))

    pub ranges_are : SumsReady w (int_at w l m p i) (int_at w l m q j) n k → RangeIs w (int_at w l m p i) (int_at w l m q j) n k x y
    ranges_are r =
        let e = range_is r.domains r.declares in
        record {
          is = λ ds f _. range_is ds f;
          lowest = subst (λ (u : Domain). nat_abs (lower_bound u) ≤ max_weight) (sym e) r.fits.lowest;
          highest = subst (λ (u : Domain). nat_abs (upper_bound u) ≤ max_weight) (sym e) r.fits.highest;
        }
