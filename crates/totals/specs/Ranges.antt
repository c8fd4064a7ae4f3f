-- The bounds of a sum: each of its numbers has the domain that is found where it is first met in the expression. A declared variable's is in the table of the
-- work slice, so what is given holds for every list of domains that the table declares.
use Rattle.std.specs.Prelude.{◌≡◌, Bool, true, false, List, ℕ, ◌≤◌, ◌<◌, ◌^◌, ℤ, pos}
use Rattle.std.specs.Prelude.{Option as RustOption, Some, None}
use Rattle.std.specs.Option.{unwrap_or}
use Rattle.std.proofs.Math.Option.{Option, none, some}
use Rattle.std.proofs.Common.{arith}
use Rattle.syntax.specs.Syntax.{Domain, Range, lower_bound, upper_bound}
use Rattle.sums.specs.LinearSum.{get_domain_linear_sum}
use Rattle.sums.specs.Norm.{load}
use Rattle.sums.specs.Bounds.{reach}
use Rattle.sums.specs.Struct.{sum_of}
use Rattle.sums.specs.declared.LinearSum.{LinearSum as Sum}
use Rattle.walk.specs.Decode.{read_part}
use Rattle.walk.specs.declared.Counters.{Counters}
use Rattle.walks.specs.Tree.{Place, Splitting}
use Rattle.walks.specs.Form.{IntForm, const, ivar, sum, choice, TermForms, none as no_terms, term}
use Rattle.walks.specs.Item.{if_domain, form_int_item, form_terms_item}
use Rattle.walks.specs.Meet.{found, range_of}
use Rattle.walks.specs.Decode.{decode, decode_int}
use Rattle.walks.specs.Totals.{Light, light_weight, total_of, behind_of, Carries, total_load, Steps}
use Rattle.walks.specs.SumsFit.{InsideFits, TermsFit}
use Rattle.declared.specs.DomainTable.{Declares}
use Rattle.scan.specs.declared.Behind.{Behind}
use Rattle.scan.specs.SurveyLaws.{TermsSofar}
use Rattle.totals.specs.declared.Interval.{Interval}
use Rattle.totals.specs.Linear.{int_at, terms_at}

-- what a search gives
abbrev pub Found : Type 0
Found = RustOption Interval

abbrev pub hit : ℤ → ℤ → Found
hit x y = Some (record { low = x; high = y })

abbrev pub miss : Found
miss = None

abbrev pub is_hit : Found → Bool
is_hit (Some d) = true
is_hit None = false

-- both bounds are 0 where there is none
abbrev pub bounds_of : Found → Interval
bounds_of r = unwrap_or r (record { low = pos 0; high = pos 0 })

abbrev pub is_found : Option Domain → Bool
is_found (some d) = true
is_found none = false

-- r says of a domain whether it is there, and its bounds
pub record Told (o : Option Domain) (r : Found) : Type 0 where
  pub is : is_hit r ≡ is_found o
  pub low : (bounds_of r).low ≡ lower_bound (found o)
  pub high : (bounds_of r).high ≡ upper_bound (found o)

-- ---- the sums of the branches of Ifs that are terms

module _ (ds : List Domain) (w : List ℤ) where
  unfoldable mutual
    pub BranchSteps : IntForm → Counters → Type 0
    BranchSteps (const c) n = Unit {0}
    BranchSteps (ivar v) n = Unit {0}
    BranchSteps (sum ts) n = TermBranches ts n
    BranchSteps (choice p o c d t f) n = Steps ds w t n × Steps ds w f (behind_of ds w t n)

    pub TermBranches : TermForms → Counters → Type 0
    TermBranches no_terms n = Unit {0}
    TermBranches (term k e ts) n = BranchSteps e n × TermBranches ts (behind_of ds w e n)

  -- within refusals 9 and 10 they have room
  mutual
    unfolding BranchSteps InsideFits

    pub inside_branches : (e : IntForm) (n : Counters) → InsideFits ds e → BranchSteps e n
    inside_branches (const c) n h = tt
    inside_branches (ivar v) n h = tt
    inside_branches (sum ts) n h = terms_branches ts n h
    inside_branches (choice p o c d t f) n h = ((h.2 w n 0).steps, (h.3 w (behind_of ds w t n) 0).steps)

    terms_branches : (ts : TermForms) (n : Counters) → TermsFit ds ts → TermBranches ts n
    terms_branches no_terms n h = tt
    terms_branches (term k e ts) n h = (inside_branches e n h.0, terms_branches ts (behind_of ds w e n) h.1)

  -- no partial bound leaves i32 where each number's domain is no larger than its variable or its If weighs
  pub range_light : (e : IntForm) (n : Counters) → Light ds e → Carries ds w (λ v. reach (found ((form_int_item ds e).range w n v))) e n → load (λ v. reach (found ((form_int_item ds e).range w n v))) (total_of ds w e n) < 2 ^ 31
  range_light e n h c = omega (arith, total_load ds w (λ v. reach (found ((form_int_item ds e).range w n v))) e n c, light_weight ds e h)

-- ---- an If, whose condition stands at c

module _ (w : List ℤ) (l : ℕ) (m : Splitting) (c base : ℕ) where
  abbrev pub first_branch : IntForm
  first_branch = let x = decode (read_part w) l m false c base in int_at w l m x.end x.next

  abbrev pub second_branch : IntForm
  second_branch = let x = decode (read_part w) l m false c base in let t = decode_int (read_part w) l m x.end x.next in int_at w l m t.end t.next

  pub record Branching (n : Counters) : Type 0 where
    pub domains : List Domain
    pub first : Steps domains w first_branch n
    pub second : Steps domains w second_branch (behind_of domains w first_branch n)

abbrev pub IfBounds : List ℤ → ℕ → Splitting → ℕ → ℕ → ℕ → Counters → Found → Type 0
IfBounds w l m at c base n r = (ds : List Domain) (p : Place) → p.at ≡ at → Told (some (if_domain p (form_int_item ds (first_branch w l m c base)) (form_int_item ds (second_branch w l m c base)) w n)) r

-- ---- the expression at a place

module _ (w : List ℤ) (l : ℕ) (m : Splitting) (at base : ℕ) (n : Counters) where
  pub record Branched : Type 0 where
    pub domains : List Domain
    pub branches : BranchSteps domains w (int_at w l m at base) n

  -- the domain of the number x in it
  abbrev pub range_at : List Domain → ℕ → Option Domain
  range_at ds x = (form_int_item ds (int_at w l m at base)).range w n x

  abbrev pub Finds : ℕ → Found → Type 0
  Finds x r = (ds : List Domain) → Declares ds w → Told (range_at ds x) r

  -- no partial bound of the sum s leaves i32
  pub record Bounded (s : Sum) : Type 0 where
    pub room : s.count ≤ 64
    pub domains : List Domain
    pub declares : Declares domains w
    pub branches : BranchSteps domains w (int_at w l m at base) n
    pub light : load (λ v. reach (found (range_at domains v))) (sum_of s) < 2 ^ 31

  abbrev pub Bounds : Sum → ℤ → ℤ → Type 0
  Bounds s x y = (ds : List Domain) → Declares ds w → Range x y ≡ get_domain_linear_sum (λ v. found (range_at ds v)) (sum_of s)

  pub record Ranging : Type 0 where
    pub domains : List Domain
    pub declares : Declares domains w
    pub steps : Steps domains w (int_at w l m at base) n
    pub branches : BranchSteps domains w (int_at w l m at base) n
    pub light : load (λ v. reach (found (range_at domains v))) (total_of domains w (int_at w l m at base) n) < 2 ^ 31

  abbrev pub Ranges : ℤ → ℤ → Type 0
  Ranges x y = (ds : List Domain) → Declares ds w → Range x y ≡ range_of (form_int_item ds (int_at w l m at base)) w n

-- in the loop over k terms: what is found in the terms to come is what is found in all
pub record Looking (w : List ℤ) (l : ℕ) (m : Splitting) (k at base : ℕ) (n : Counters) (x rest : ℕ) (r : Behind) : Type 0 where
  pub sofar : TermsSofar w l m k at base n rest r
  pub same : (ds : List Domain) → Declares ds w → (form_terms_item ds (terms_at w l m r.at r.base rest)).range w r.n x ≡ (form_terms_item ds (terms_at w l m at base k)).range w n x
  pub domains : List Domain
  pub branches : TermBranches domains w (terms_at w l m r.at r.base rest) r.n
