-- What the first walk asks of the state: that the sums and bounds of an If's branches, and the literal of a condition that is a variable, are words
-- wherever it computes them. Nothing is asked of an If that is passed over.
use Rattle.std.specs.Prelude.{Bool, true, false, ◌&&◌, ◌||◌, List, ℕ, ◌+◌, ◌≤◌, ◌<◌, ◌^◌, ℤ, negsuc, nat_abs}
use Rattle.std.proofs.Math.Option.{Option, none, some}
use Rattle.memory.specs.Places.{limit}
use Rattle.syntax.specs.Syntax.{Domain, lower_bound, upper_bound}
use Rattle.syntax.specs.Words.{max_weight}
use Rattle.sums.specs.LinearSum.{is_constant}
use Rattle.sums.specs.Norm.{load}
use Rattle.sums.specs.Bounds.{reach}
use Rattle.clauses.specs.Normalize.{hull}
use Rattle.walk.specs.Item.{bump, bool_at}
use Rattle.walk.specs.declared.Counters.{Counters}
use Rattle.walks.specs.Tree.{Place}
use Rattle.walks.specs.Form.{Form, var, num, cmp, conj, disj, cross, tied, Forms, nil, cons, IntForm, const, ivar, sum, choice, TermForms, none as no_terms, term}
use Rattle.walks.specs.Item.{IntItem, seen, known_in, form_item, form_int_item}
use Rattle.walks.specs.Meet.{State, counters_of, with_work, more_bools, spend, set_cell, find_equal, range_record, found, range_of, meet_bool, Parts, is_full, new_int, form_meet, form_meets, form_meet_int, form_meet_terms, form_leaves}
use Rattle.walks.specs.Totals.{total_of, Steps}
use Rattle.totals.specs.Ranges.{BranchSteps}
use Rattle.numbering.specs.Task.{Task}

-- where not b
abbrev pub Unless : Bool → Type 0 → Type 0
Unless true A = Unit {0}
Unless false A = A

abbrev pub Either : Bool → Type 0 → Type 0 → Type 0
Either true A B = A
Either false A B = B

abbrev pub NotFound : Option ℕ → Type 0 → Type 0
NotFound (some p) A = Unit {0}
NotFound none A = A

-- the domain of either branch
abbrev pub either_range : IntItem → IntItem → List ℤ → Counters → Counters → Domain
either_range t f w n m = hull (range_of t w n) (range_of f w m)

-- the sum of e, met from n on, and its bounds
pub record BranchFits (ds : List Domain) (w : List ℤ) (e : IntForm) (n : Counters) : Type 0 where
  pub steps : Steps ds w e n
  pub branches : BranchSteps ds w e n
  pub light : load (λ v. reach (found ((form_int_item ds e).range w n v))) (total_of ds w e n) < 2 ^ 31

-- the branches t, met from n on, and f, from m on
pub record BranchesFit (ds : List Domain) (w : List ℤ) (t f : IntForm) (n m : Counters) : Type 0 where
  pub first : BranchFits ds w t n
  pub second : BranchFits ds w f m
  pub lowest : nat_abs (lower_bound (either_range (form_int_item ds t) (form_int_item ds f) w n m)) ≤ max_weight
  pub highest : nat_abs (upper_bound (either_range (form_int_item ds t) (form_int_item ds f) w n m)) ≤ max_weight

-- what an If's parts ask
pub record Asks : Type 1 where
  pub plain : State → Type 0
  pub negated : State → Type 0
  pub first : State → Type 0
  pub second : State → Type 0
  pub branches : List ℤ → Counters → Counters → Type 0

module _ (ds : List Domain) (rec cap : ℕ) where
  unfoldable pub constant_fits : Parts → Asks → Option ℕ → State → Type 0
  constant_fits q a (some v) st = nat_abs (bool_at (meet_bool v st).work v) ≤ limit + 1
  constant_fits q a none st = let s = spend q.leaves st in Unless (is_full ds rec cap s) (a.negated (more_bools 1 s) × a.plain (q.meet_negated (more_bools 1 s)))

  unfoldable pub open_fits : Parts → Asks → Domain → State → Type 0
  open_fits q a d st = let s = spend q.leaves (new_int ds rec cap (range_record d) st) in Unless (is_full ds rec cap s) (a.plain s × a.negated (q.meet_plain s))

  -- b: behind the branches, met from n and k on
  unfoldable pub branches_fit : Parts → Asks → Counters → Counters → State → Type 0
  branches_fit q a n k b =
      a.branches b.work n k
      × Either (is_constant (q.first.total b.work n) && is_constant (q.second.total b.work k))
      (constant_fits q a q.own (with_work (set_cell (q.place.at + 1) (negsuc 0) b.work) b))
      (open_fits q a (either_range q.first q.second b.work n k) b)

  unfoldable pub new_fits : Parts → Asks → State → Type 0
  new_fits q a st =
      let s = spend 4 st in
      let y = q.meet_first s in
      let b = q.meet_second y in
      Unless (is_full ds rec cap s) (a.first s × a.second y × Unless (is_full ds rec cap b) (branches_fit q a (counters_of s) (counters_of y) b))

  unfoldable pub if_fits : Parts → Asks → State → Type 0
  if_fits q a st = Unless (is_full ds rec cap st || known_in (seen st.work q.place) st.ints) (NotFound (find_equal st.work q.place) (new_fits q a st))

  -- as in form-meet-int
  abbrev pub parts_of : Place → Option ℕ → Form → Form → IntForm → IntForm → Parts
  parts_of p o c d t f = record {
    own = o;
    place = p;
    plain = form_item ds c;
    negated = form_item ds d;
    first = form_int_item ds t;
    second = form_int_item ds f;
    meet_plain = λ st. form_meet ds rec cap c st;
    meet_negated = λ st. form_meet ds rec cap d st;
    meet_first = λ st. form_meet_int ds rec cap t st;
    meet_second = λ st. form_meet_int ds rec cap f st;
    leaves = bump (form_leaves c) (form_leaves d);
  }

  unfoldable mutual
    pub form_fits : Form → State → Type 0
    form_fits (var v g) st = Unit {0}
    form_fits (num n g) st = Unit {0}
    form_fits (cmp o a b g) st = int_fits a st × int_fits b (form_meet_int ds rec cap a st)
    form_fits (conj ts) st = forms_fit ts st
    form_fits (disj ts) st = forms_fit ts st
    form_fits (cross ts us) st = forms_fit ts st × forms_fit us (form_meets ds rec cap ts st)
    form_fits (tied v t u) st = form_fits t st × form_fits u (form_meet ds rec cap t st)

    pub forms_fit : Forms → State → Type 0
    forms_fit nil st = Unit {0}
    forms_fit (cons t ts) st = form_fits t st × forms_fit ts (form_meet ds rec cap t st)

    pub int_fits : IntForm → State → Type 0
    int_fits (const c) st = Unit {0}
    int_fits (ivar v) st = Unit {0}
    int_fits (sum ts) st = terms_fit ts st
    int_fits (choice p o c d t f) st = if_fits (parts_of p o c d t f) (record {
      plain = λ s. form_fits c s;
      negated = λ s. form_fits d s;
      first = λ s. int_fits t s;
      second = λ s. int_fits f s;
      branches = λ w n m. BranchesFit ds w t f n m;
    }) st

    pub terms_fit : TermForms → State → Type 0
    terms_fit no_terms st = Unit {0}
    terms_fit (term k e ts) st = int_fits e st × terms_fit ts (form_meet_int ds rec cap e st)

-- ---- the tasks of forms

module _ (rec cap : ℕ) where
  abbrev pub form_task : Form → Task
  form_task t = record { fits = λ ds st. form_fits ds rec cap t st; meet = λ ds st. form_meet ds rec cap t st }

  abbrev pub forms_task : Forms → Task
  forms_task ts = record { fits = λ ds st. forms_fit ds rec cap ts st; meet = λ ds st. form_meets ds rec cap ts st }

  abbrev pub int_task : IntForm → Task
  int_task e = record { fits = λ ds st. int_fits ds rec cap e st; meet = λ ds st. form_meet_int ds rec cap e st }

  abbrev pub terms_task : TermForms → Task
  terms_task ts = record { fits = λ ds st. terms_fit ds rec cap ts st; meet = λ ds st. form_meet_terms ds rec cap ts st }
