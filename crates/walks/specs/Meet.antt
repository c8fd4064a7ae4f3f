-- What the first walk does: the numbers of declared variables and Ifs at first meeting, the numbers that disjunctions make, the records of the
-- emitted integers. It stops at an If once the answer is known to be longer than `cap`.
use Rattle.std.specs.Prelude.{Bool, true, false, ◌&&◌, ◌||◌, cond, List, [], ◌∷◌, ℕ, zero, suc, ◌+◌, ◌*◌, ℤ, pos, negsuc, neg_ℤ, take, drop, set, ltb}
use Rattle.std.proofs.Math.Option.{Option, none, some}
use Rattle.std.specs.Int.Signed.{lt_z}
use Rattle.std.proofs.lemmas.List.Edits.{sets}
use Rattle.laws.specs.Ints.{eqZ, is_zero}
use Rattle.laws.specs.Same.{same_words}
use Rattle.memory.specs.Places.{folded, bool_map, int_map, cells}
use Rattle.syntax.specs.Syntax.{Domain, Range, lower_bound, upper_bound, domain_of}
use Rattle.sums.specs.LinearSum.{is_constant, get_domain_linear_sum}
use Rattle.sums.specs.Rising.{constant_of}
use Rattle.clauses.specs.Normalize.{hull}
use Rattle.answer.specs.Answer.{domain_words}
use Rattle.walk.specs.Item.{bump, is_none, bool_at, int_entry, fresh}
use Rattle.walk.specs.Decode.{read_part}
use Rattle.walk.specs.declared.Counters.{Counters}
use Rattle.walks.specs.Tree.{Place, Tree, Trees, IntTree, TermTrees}
use Rattle.walks.specs.Form.{Form, var, num, cmp, conj, disj, cross, tied, Forms, nil, cons, IntForm, const, ivar, sum, choice, TermForms, none as no_terms, term, form, forms, int_form, term_forms}
use Rattle.walks.specs.Item.{counters, int_count, cell, Seen, unseen, both_constant, numbered, seen_in, seen, known_in, Item, IntItem, tallies, num_item, form_item, form_items, form_int_item}

-- the work slice, the output, the next Boolean's and the next integer's number, and words of the answer that are sure to come
pub record State : Type 0 where
  pub work : List ℤ
  pub out : List ℤ
  pub bools : ℕ
  pub ints : ℕ
  pub used : ℕ

-- as the second walk counts
abbrev pub counters_of : State → Counters
counters_of st = counters st.bools (int_count st.work st.ints)

abbrev pub with_work : List ℤ → State → State
with_work w st = record { work = w; out = st.out; bools = st.bools; ints = st.ints; used = st.used }

abbrev pub more_bools : ℕ → State → State
more_bools k st = record { work = st.work; out = st.out; bools = bump st.bools k; ints = st.ints; used = st.used }

abbrev pub spend : ℕ → State → State
spend k st = record { work = st.work; out = st.out; bools = st.bools; ints = st.ints; used = bump st.used k }

-- ---- declared Booleans

unfoldable pub meet_bool : ℕ → State → State
meet_bool v st =
    cond (is_zero (bool_at st.work v))
    (more_bools 1 (with_work (set st.work (bool_map + v) (pos (st.bools + 1))) st))
    st

-- ---- an If's words in the work slice

abbrev pub set_cell : ℕ → ℤ → List ℤ → List ℤ
set_cell p x w = set w (cells + p) x

abbrev pub is_unseen : Seen → Bool
is_unseen unseen = true
is_unseen both_constant = false
is_unseen (numbered v b) = false

-- an If whose number equal ones share
abbrev pub is_shared : Seen → Bool
is_shared unseen = false
is_shared both_constant = false
is_shared (numbered v b) = b

-- the words of an If of so many words at a place
unfoldable pub words_at : List ℤ → ℕ → ℕ → List ℤ
words_at w p n = take n (drop p (read_part w))

-- the first of k places from q on where an equal If has its number
unfoldable pub equal_from : List ℤ → Place → ℕ → ℕ → Option ℕ
equal_from w p zero q = none
equal_from w p (suc k) q =
    cond (is_shared (seen_in (cell w (q + 1))) && same_words (words_at w q p.size) (words_at w p.at p.size))
    (some q)
    (equal_from w p k (suc q))

-- looked for where nothing is known yet; the folded words stand from 512 on
unfoldable pub find_equal : List ℤ → Place → Option ℕ
find_equal w p = cond (is_unseen (seen w p) && p.whole) (equal_from w p 4096 folded) none

-- an If's three cells
unfoldable pub set_cells : ℕ → ℤ → ℤ → ℤ → List ℤ → List ℤ
set_cells p x y z w = set_cell (p + 3) z (set_cell (p + 2) y (set_cell (p + 1) x w))

-- those of the equal If at q
abbrev pub copied : ℕ → ℕ → List ℤ → List ℤ
copied p q w = set_cells p (cell w (q + 1)) (cell w (q + 2)) (cell w (q + 3)) w

-- the word of the number v
abbrev pub number_word : Bool → ℕ → ℤ
number_word true v = pos (suc v)
number_word false v = negsuc (suc v)

abbrev pub stored : Place → ℕ → Domain → List ℤ → List ℤ
stored p v d w = set_cells p.at (number_word p.whole v) (lower_bound d) (upper_bound d) w

-- ---- leaves: each stands in a clause of its own or in a pool

unfoldable mutual
  pub form_leaves : Form → ℕ
  form_leaves (var v g) = 1
  form_leaves (num n g) = 1
  form_leaves (cmp o a b g) = 1
  form_leaves (conj ts) = form_leaves_all ts
  form_leaves (disj ts) = form_leaves_all ts
  form_leaves (cross ts us) = bump (form_leaves_all ts) (form_leaves_all us)
  form_leaves (tied v t u) = bump (form_leaves t) (form_leaves u)

  pub form_leaves_all : Forms → ℕ
  form_leaves_all nil = 0
  form_leaves_all (cons t ts) = bump (form_leaves t) (form_leaves_all ts)

abbrev pub leaves : Tree → ℕ
leaves t = form_leaves (form t)

abbrev pub leaves_all : Trees → ℕ
leaves_all ts = form_leaves_all (forms ts)

-- ---- the records: kind and three words

abbrev pub range_record : Domain → List ℤ
range_record d = domain_words d

-- x where the literal l is true, y where not; the lower value stands first
abbrev pub two_record : ℤ → ℤ → ℤ → List ℤ
two_record l x y = cond (lt_z x y) (pos 1 ∷ neg_ℤ l ∷ x ∷ y ∷ []) (cond (eqZ x y) (range_record (Range x x)) (pos 1 ∷ l ∷ y ∷ x ∷ []))

-- the domain of a sum, those of its numbers given as far as found
abbrev pub found : Option Domain → Domain
found (some d) = d
found none = Range (pos 0) (pos 0)

unfoldable pub range_of : IntItem → List ℤ → Counters → Domain
range_of e w n = get_domain_linear_sum (λ x. found (e.range w n x)) (e.total w n)

-- ---- the walk; ds: the declared domains, rec: where the records begin, cap: the longest answer

-- an If's parts: its condition where it is a variable, the items, their walks, the leaves of its condition in both polarities
pub record Parts : Type 0 where
  pub own : Option ℕ
  pub place : Place
  pub plain : Item
  pub negated : Item
  pub first : IntItem
  pub second : IntItem
  pub meet_plain : State → State
  pub meet_negated : State → State
  pub meet_first : State → State
  pub meet_second : State → State
  pub leaves : ℕ

module _ (ds : List Domain) (rec cap : ℕ) where
  abbrev pub is_full : State → Bool
  is_full st = ltb cap st.used

  -- an integer more
  unfoldable pub new_int : List ℤ → State → State
  new_int r st = record { work = st.work; out = sets st.out (rec + 4 * st.ints) r; bools = st.bools; ints = bump st.ints 1; used = st.used }

  unfoldable pub meet_int_var : ℕ → State → State
  meet_int_var v st =
      cond (is_none (int_entry st.work v))
      (new_int (range_record (domain_of ds v)) (with_work (set st.work (int_map + v) (pos (st.ints + 1))) st))
      st

  -- constant branches x and y: the condition's literal, then the integer
  unfoldable pub meet_constant : Parts → ℤ → ℤ → Option ℕ → State → State
  meet_constant q x y (some v) st = let u = meet_bool v st in new_int (two_record (bool_at u.work v) x y) u
  meet_constant q x y none st =
      let s = spend q.leaves st in
      let n = st.bools in
      let a = q.meet_plain (q.meet_negated (more_bools 1 s)) in
      let u = more_bools (fresh (tallies (num_item n true ∷ q.plain ∷ []))) (more_bools (fresh (tallies (num_item n false ∷ q.negated ∷ []))) a) in
      cond (is_full s) s (new_int (two_record (pos (n + 1)) x y) u)

  -- other branches, d the domain of either: the integer, then the condition; from then on its number is known
  unfoldable pub meet_open : Parts → Domain → State → State
  meet_open q d st =
      let s = spend q.leaves (new_int (range_record d) st) in
      let u = more_bools 1 (q.meet_negated (q.meet_plain s)) in
      cond (is_full s) s (with_work (stored q.place st.ints d u.work) u)

  -- behind the branches b, a between them
  unfoldable pub meet_branches : Parts → State → State → State → State
  meet_branches q st a b =
      let l = q.first.total b.work (counters_of st) in
      let m = q.second.total b.work (counters_of a) in
      cond (is_constant l && is_constant m)
      (meet_constant q (constant_of l) (constant_of m) q.own (with_work (set_cell (q.place.at + 1) (negsuc 0) b.work) b))
      (meet_open q (hull (range_of q.first b.work (counters_of st)) (range_of q.second b.work (counters_of a))) b)

  unfoldable pub meet_new : Parts → State → State
  meet_new q st =
      let s = spend 4 st in
      let a = q.meet_first s in
      let b = q.meet_second a in
      cond (is_full s) s (cond (is_full b) b (meet_branches q s a b))

  abbrev pub meet_unknown : Parts → Option ℕ → State → State
  meet_unknown q (some p) st = with_work (copied q.place.at p st.work) st
  meet_unknown q none st = meet_new q st

  unfoldable pub meet_if : Parts → State → State
  meet_if q st = cond (is_full st || known_in (seen st.work q.place) st.ints) st (meet_unknown q (find_equal st.work q.place) st)

  unfoldable mutual
    pub form_meet : Form → State → State
    form_meet (var v g) = meet_bool v
    form_meet (num n g) = λ st. st
    form_meet (cmp o a b g) = λ st. form_meet_int b (form_meet_int a st)
    form_meet (conj ts) = form_meets ts
    form_meet (disj ts) = λ st. more_bools (fresh (tallies (form_items ds ts))) (form_meets ts st)
    form_meet (cross ts us) = λ st. more_bools (fresh (tallies (form_items ds us))) (more_bools (fresh (tallies (form_items ds ts))) (form_meets us (form_meets ts st)))
    form_meet (tied v t u) = λ st. form_meet u (form_meet t st)

    pub form_meets : Forms → State → State
    form_meets nil = λ st. st
    form_meets (cons t ts) = λ st. form_meets ts (form_meet t st)

    pub form_meet_int : IntForm → State → State
    form_meet_int (const c) = λ st. st
    form_meet_int (ivar v) = meet_int_var v
    form_meet_int (sum ts) = form_meet_terms ts
    form_meet_int (choice p o c d t f) = meet_if (record {
      own = o;
      place = p;
      plain = form_item ds c;
      negated = form_item ds d;
      first = form_int_item ds t;
      second = form_int_item ds f;
      meet_plain = λ st. form_meet c st;
      meet_negated = λ st. form_meet d st;
      meet_first = λ st. form_meet_int t st;
      meet_second = λ st. form_meet_int f st;
      leaves = bump (form_leaves c) (form_leaves d);
    })

    pub form_meet_terms : TermForms → State → State
    form_meet_terms no_terms = λ st. st
    form_meet_terms (term k e ts) = λ st. form_meet_terms ts (form_meet_int e st)

  -- of a tree
  abbrev pub meet : Tree → State → State
  meet t = form_meet (form t)

  abbrev pub meets : Trees → State → State
  meets ts = form_meets (forms ts)

  abbrev pub meet_int : IntTree → State → State
  meet_int e = form_meet_int (int_form e)

  abbrev pub meet_terms : TermTrees → State → State
  meet_terms ts = form_meet_terms (term_forms ts)
