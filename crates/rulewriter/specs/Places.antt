-- Places of the folded words in the work slice, and what the second walk over them asks and gives. The declared domains play no part in what is written.
use Rattle.std.specs.Prelude.{◌≡◌, Bool, true, false, not, cond, List, [], ℕ, ◌+◌, ◌≤◌, ℤ, length}
use Rattle.memory.specs.Places.{folded_end, limit}
use Rattle.syntax.specs.Syntax.{Domain, CmpOp}
use Rattle.walk.specs.Item.{Tally, tally}
use Rattle.walk.specs.Decode.{read_part, surveyed, closed_cross}
use Rattle.walk.specs.declared.Counters.{Counters}
use Rattle.walk.specs.declared.Surveyed.{Surveyed}
use Rattle.walks.specs.Tree.{Splitting}
use Rattle.walks.specs.Form.{Form, Forms, IntForm, TermForms}
use Rattle.walks.specs.Item.{Item, IntItem, TermsItem, tallies, pools, comparison, form_item, form_items, form_int_item, form_terms_item}
use Rattle.walks.specs.Decode.{many, decode, many_terms, decode_int}
use Rattle.walks.specs.SumsFit.{FormFits, FormsFit, InsideFits, TermsFit, AlwaysCompared, AlwaysEquated}
use Rattle.scan.specs.IfLaws.{Low}
use Rattle.scan.specs.Skip.{Skips}
use Rattle.scan.specs.SurveyLaws.{scanned, counters_of, Surveys, SurveysAll, IntSurveys}
use Rattle.scan.specs.declared.Behind.{Behind}
use Rattle.scan.specs.declared.Scanned.{Scanned}

-- a place in the folded words, the splitting's next number, the counters
pub record Placed (w : List ℤ) (at base : ℕ) (n : Counters) : Type 0 where
  pub size : folded_end ≤ length w
  pub inside : at ≤ folded_end
  pub low_base : base ≤ limit
  pub low : Low n

-- ---- what stands at a place

abbrev pub item_at : List ℤ → ℕ → Splitting → Bool → ℕ → ℕ → Item
item_at w l m g at base = form_item [] (decode (read_part w) l m g at base).tree

-- so many members, the first negated if g, the others if h
abbrev pub items_at : List ℤ → ℕ → Splitting → ℕ → Bool → Bool → ℕ → ℕ → List Item
items_at w l m k g h at base = form_items [] (many (decode (read_part w) l m) k g h at base).trees

abbrev pub int_at : List ℤ → ℕ → Splitting → ℕ → ℕ → IntItem
int_at w l m at base = form_int_item [] (decode_int (read_part w) l m at base).tree

abbrev pub terms_at : List ℤ → ℕ → Splitting → ℕ → ℕ → ℕ → TermsItem
terms_at w l m k at base = form_terms_item [] (many_terms (read_part w) (decode_int (read_part w) l m) k at base).trees

-- ---- the sums fit

pub record Fit (x : Form) : Type 0 where
  pub domains : List Domain
  pub fits : FormFits domains x

pub record AllFit (xs : Forms) : Type 0 where
  pub domains : List Domain
  pub fits : FormsFit domains xs

pub record IntFit (e : IntForm) : Type 0 where
  pub domains : List Domain
  pub fits : InsideFits domains e

pub record AllTermsFit (ts : TermForms) : Type 0 where
  pub domains : List Domain
  pub fits : TermsFit domains ts

-- the two sides of a comparison
pub record SidesFit (a b : IntForm) : Type 0 where
  pub domains : List Domain
  pub fits : AlwaysCompared domains a b

-- a branch of an If
pub record BranchFits (e : IntForm) : Type 0 where
  pub domains : List Domain
  pub fits : AlwaysEquated domains e

-- ---- two sides, the second behind the first

module _ (w : List ℤ) (l : ℕ) (m : Splitting) (at base : ℕ) where
  abbrev pub left_at : IntForm
  left_at = (decode_int (read_part w) l m at base).tree

  abbrev pub right_at : IntForm
  right_at = let x = decode_int (read_part w) l m at base in (decode_int (read_part w) l m x.end x.next).tree

  -- their comparison's words
  abbrev pub compared : Counters → CmpOp → Bool → List ℤ
  compared n o g = comparison w n o (form_int_item [] left_at) (form_int_item [] right_at) g

  -- y: behind both
  pub record BehindSides (n : Counters) (y : Behind) : Type 0 where
    pub middle : Behind
    pub first : IntSurveys w l m at base n middle
    pub last : IntSurveys w l m middle.at middle.base middle.n y

  -- what is found of their comparison
  pub record CmpSeen (n : Counters) (r : Scanned) : Type 0 where
    pub behind : Behind
    pub sides : BehindSides n behind
    pub is : r ≡ scanned (surveyed behind.at behind.base behind.n.bools 0 0 1 0 1) behind.n.ints

-- ---- tallies

-- x has the tally of so many members
pub record Tallied (w : List ℤ) (l : ℕ) (m : Splitting) (k : ℕ) (g h : Bool) (at base : ℕ) (x : Surveyed) : Type 0 where
  pub unit : tally x.longs x.lits x.cmps x.lines ≡ tallies (items_at w l m k g h at base)
  pub room : x.longs + x.lits + x.cmps ≤ folded_end

-- a tally's literals (true) or comparisons
abbrev pub share : Bool → Tally → ℕ
share b t = cond b t.lits t.cmps

-- r is what a survey finds, or says only that the expression is longer
pub record Probed (w : List ℤ) (l : ℕ) (m : Splitting) (g : Bool) (at base : ℕ) (n : Counters) (r : Scanned) : Type 0 where
  pub single : r.part.longs ≡ 0 → Surveys w l m g at base n r
  pub longer : (r.part.longs ≡ 0 → ⊥) → (item_at w l m g at base).unit.longs ≡ 0 → ⊥

-- of so many members: all are single, or one is longer
pub record ProbedAll (w : List ℤ) (l : ℕ) (m : Splitting) (k : ℕ) (g h : Bool) (at base : ℕ) (n : Counters) (r : Scanned) : Type 0 where
  pub single : r.part.longs ≡ 0 → SurveysAll w l m k g h at base n r
  pub longer : (r.part.longs ≡ 0 → ⊥) → (tallies (items_at w l m k g h at base)).longs ≡ 0 → ⊥

-- r: behind a member; of the counters only as much as the pools of the others need
pub record PassedBy (w : List ℤ) (l : ℕ) (m : Splitting) (g : Bool) (at base : ℕ) (n : Counters) (r : Behind) : Type 0 where
  pub skips : Skips (read_part w) l m at base r.at r.base
  pub low : Low r.n
  pub same : (b : Bool) (ts : Forms) → pools (form_items [] ts) b w r.n ≡ pools (form_items [] ts) b w ((item_at w l m g at base).count w n)

-- what is found of an Xor or Iff that is not split, whose sides stand at a place
pub record CrossSeen (w : List ℤ) (l : ℕ) (m : Splitting) (h : Bool) (at base : ℕ) (n : Counters) (r : Scanned) : Type 0 where
  pub one : Scanned
  pub two : Scanned
  pub first : SurveysAll w l m 2 false h at base n one
  pub second : SurveysAll w l m 2 true (not h) at base (counters_of one) two
  pub is : r ≡ scanned (closed_cross one.part two.part) two.ints
