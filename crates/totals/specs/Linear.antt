-- What the recursion over an integer expression's words asks and gives.
use Rattle.std.specs.Prelude.{◌≡◌, List, ℕ, ◌≤◌, ℤ, pos, negsuc}
use Rattle.memory.specs.Places.{limit}
use Rattle.syntax.specs.Syntax.{Domain}
use Rattle.sums.specs.LinearSum.{constant, sub_sum}
use Rattle.sums.specs.Rising.{Each}
use Rattle.sums.specs.Struct.{terms, sum_of, Is, Stands}
use Rattle.sums.specs.declared.LinearSum.{LinearSum as Sum}
use Rattle.walk.specs.Decode.{read_part}
use Rattle.walk.specs.declared.Counters.{Counters}
use Rattle.walks.specs.Tree.{Splitting}
use Rattle.walks.specs.Form.{IntForm, TermForms}
use Rattle.walks.specs.Decode.{many_terms, decode_int}
use Rattle.walks.specs.Totals.{Word, Adds, total_of, behind_of, terms_total, Steps, TermSteps, ComparisonFits}
use Rattle.scan.specs.declared.Behind.{Behind}
use Rattle.scan.specs.IfLaws.{Low}
use Rattle.scan.specs.SurveyLaws.{IntSurveys, TermsSofar}
use Rattle.totals.specs.declared.Nested.{Nested}

module _ (w : List ℤ) (l : ℕ) (m : Splitting) (at base : ℕ) where
  -- the expression at the place, and so many terms from there on
  abbrev pub int_at : IntForm
  int_at = (decode_int (read_part w) l m at base).tree

  abbrev pub terms_at : ℕ → TermForms
  terms_at k = (many_terms (read_part w) (decode_int (read_part w) l m) k at base).trees

  module _ (n : Counters) where
    -- every addition on the way has room; the domains decide nothing
    pub record Stepping : Type 0 where
      pub domains : List Domain
      pub steps : Steps domains w int_at n

    -- its sum, its end and the counters behind it
    pub record Linear (r : Nested) : Type 0 where
      pub behind : IntSurveys w l m at base n r.behind
      pub sum : (ds : List Domain) → Stands r.sum (total_of ds w int_at n)
      pub words : Each Word (terms r.sum)

-- in the loop over k terms: with the terms to come the sum so far becomes the sum of all
pub record Going (w : List ℤ) (l : ℕ) (m : Splitting) (k at base : ℕ) (n : Counters) (rest : ℕ) (r : Behind) (s : Sum) : Type 0 where
  pub sofar : TermsSofar w l m k at base n rest r
  pub same : (ds : List Domain) → terms_total ds w (terms_at w l m r.at r.base rest) r.n (sum_of s) ≡ terms_total ds w (terms_at w l m at base k) n (constant (pos 0))
  pub domains : List Domain
  pub steps : TermSteps domains w (terms_at w l m r.at r.base rest) r.n (sum_of s)
  pub own : Is s s.constant (terms s)
  pub words : Each Word (terms s)

-- the expression at q is subtracted from the side a, behind which it is visited
module _ (w : List ℤ) (l : ℕ) (m : Splitting) (q : ℕ) (a : Nested) where
  abbrev pub second : IntForm
  second = int_at w l m q a.behind.base

  pub record Subtracts : Type 0 where
    pub room : a.sum.count ≤ 64
    pub low : a.behind.base ≤ limit
    pub low_counters : Low a.behind.n
    pub domains : List Domain
    pub steps : Steps domains w second a.behind.n
    pub minus : Adds (sum_of a.sum) (negsuc 0) (total_of domains w second a.behind.n)
    pub words : Each Word (terms a.sum)

  pub record Less (r : Nested) : Type 0 where
    pub behind : IntSurveys w l m q a.behind.base a.behind.n r.behind
    pub sum : (ds : List Domain) → Stands r.sum (sub_sum (sum_of a.sum) (total_of ds w second a.behind.n))
    pub words : Each Word (terms r.sum)

-- a comparison's sides, the right one behind the left one
module _ (w : List ℤ) (l : ℕ) (m : Splitting) (at base : ℕ) (n : Counters) where
  abbrev pub left_side : IntForm
  left_side = int_at w l m at base

  abbrev pub right_side : IntForm
  right_side = let x = decode_int (read_part w) l m at base in int_at w l m x.end x.next

  pub record Compares : Type 0 where
    pub domains : List Domain
    pub fits : ComparisonFits domains w left_side right_side n

  pub record Differs (r : Nested) : Type 0 where
    pub middle : Behind
    pub first : IntSurveys w l m at base n middle
    pub last : IntSurveys w l m middle.at middle.base middle.n r.behind
    pub sum : (ds : List Domain) → Stands r.sum (sub_sum (total_of ds w left_side n) (total_of ds w right_side (behind_of ds w left_side n)))
    pub words : Each Word (terms r.sum)
