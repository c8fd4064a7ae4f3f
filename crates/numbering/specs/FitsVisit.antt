-- What the first walk asks of a state holds in the good state of a log whose Ifs are light: by trees, beside `visit` of walks. Where the walk is full nothing is
-- asked (`full_all`). The logs between an If's parts may hold any entries in place of its own: nothing is asked of a log.
use Rattle.std.specs.Prelude.{◌≡◌, Bool, ◌&&◌, ◌||◌, List, [], ◌∷◌, ℕ, suc, ◌+◌, ◌*◌, ◌≤◌, ◌<◌, ℤ, pos, negsuc, nat_abs}
use Rattle.std.proofs.Math.Path.{refl}
use Rattle.std.proofs.Common.{sym, ap, ◌∙◌, subst, arith, lt-ltb, ltb-false}
use Rattle.std.proofs.Math.Bool.{true, false}
use Rattle.std.proofs.Math.Option.{Option, none, some}
use Rattle.std.proofs.Math.Dec.{ltb}
use Rattle.laws.specs.Bools.{never as no_bool}
use Rattle.memory.specs.Places.{limit}
use Rattle.syntax.specs.Syntax.{Domain, IntExpr}
use Rattle.sums.specs.LinearSum.{LinearSum, constant, is_constant}
use Rattle.clauses.specs.Clause.{BoolLit, lit}
use Rattle.clauses.proofs.Grow.{get_bool_below}
use Rattle.clauses.specs.Log.{number_of, aux, column, bool, int, Log, next_bool, get_bool_var, get_if, convert_bool_var}
use Rattle.answer.specs.Answer.{bool_word}
use Rattle.walk.specs.Item.{bump, bool_at}
use Rattle.walk.specs.declared.Counters.{Counters}
use Rattle.walk.proofs.Texts.{here as no-aux, above}
use Rattle.walks.specs.Tree.{Place, own_var, condition_of, Tree, var, num, cmp, conj, disj, cross, tied, Trees, nil, cons, IntTree, const, ivar, sum, choice, TermTrees, none as no_terms, term, run, run_int}
use Rattle.walks.specs.Form.{form, forms, int_form, term_forms}
use Rattle.walks.specs.Item.{known_in, seen, int_item}
use Rattle.walks.specs.Placed.{PlacedInt}
use Rattle.walks.specs.Meet.{State, counters_of, with_work, spend, more_bools, set_cell, leaves, find_equal, range_record, Parts, is_full, new_int, meet_bool, form_meet, meet, meets, meet_int}
use Rattle.walks.specs.Grow.{int_grow}
use Rattle.walks.specs.Implements.{Proper, Propers, ProperInt, ProperTerms, at, Ready, ready_back, int_good}
use Rattle.walks.specs.Plain.{PlainInt}
use Rattle.walks.specs.Constant.{Named}
use Rattle.walks.specs.Cells.{Places}
use Rattle.walks.specs.Good.{Good, good_less, good_quiet, good_bool, good_new, good_spend}
use Rattle.walks.specs.Leaves.{leaves_min, Leafy, Leafies, LeafyInt, LeafyTerms, weight, weights, weight_low}
use Rattle.walks.specs.Visit.{meet_spends, meets_spends, int_meet_spends, auxed_quiet, Later, same_later, Outcome, full, good, good_counters, good_ready}
use Rattle.walks.specs.Walked.{fixed, names, Choice, Facts, FactsAll, FactsInt, FactsTerms, Visits, VisitsInt, visit, visits, visit_int}
use Rattle.walks.specs.Make.{marked_good}
use Rattle.walks.specs.Keys.{Choices, ChoicesAll, ChoicesInt, ChoicesTerms}
use Rattle.walks.specs.Totals.{Light}
use Rattle.walks.specs.SumsFit.{AlwaysEquated, FormFits, FormsFit, InsideFits, TermsFit}
use Rattle.walks.specs.Reach.{LightIfs, light_bool, light_int, SameWeight, run_light, runs_light, int_run_light, range_carries, branches_reach}
use Rattle.totals.specs.Ranges.{inside_branches, range_light}
use Rattle.numbering.specs.Fits.{Unless, Either, NotFound, either_range, BranchFits, BranchesFit, Asks, constant_fits, open_fits, branches_fit, new_fits, if_fits, parts_of, form_fits, forms_fit, int_fits, terms_fit}
use Rattle.numbering.specs.LightKeys.{LightChoice}

pub unless : (b : Bool) (X : Type 0) → X → Unless b X
unless true X h = tt
unless false X h = h

not_found : (o : Option ℕ) (X : Type 0) → X → NotFound o X
not_found (some p) X h = tt
not_found none X h = h

-- ---- a full walk

module _ (ds : List Domain) (rec cap : ℕ) where
  abbrev Full : State → Type 0
  Full st = is_full ds rec cap st ≡ true

  still : {u v : ℕ} → u ≡ v → ltb cap v ≡ true → ltb cap u ≡ true
  still e f = ap (ltb cap) e ∙ f

  if_full : (q : Parts) (a : Asks) (st : State) → Full st → if_fits ds rec cap q a st
  unfolding if_fits
  if_full q a st f = rw f tt

  mutual
    unfolding form form_fits form_meet

    full_one : (t : Tree) (st : State) → Full st → form_fits ds rec cap (form t) st
    full_one (var v g) st f = tt
    full_one (num n g) st f = tt
    full_one (cmp o a b g) st f = (full_int a st f, full_int b (meet_int ds rec cap a st) (still (int_meet_spends ds rec cap a st f) f))
    full_one (conj ts) st f = full_all ts st f
    full_one (disj ts) st f = full_all ts st f
    full_one (cross ts us) st f = (full_all ts st f, full_all us (meets ds rec cap ts st) (still (meets_spends ds rec cap ts st f) f))
    full_one (tied v t u) st f = (full_one t st f, full_one u (meet ds rec cap t st) (still (meet_spends ds rec cap t st f) f))

    full_all : (ts : Trees) (st : State) → Full st → forms_fit ds rec cap (forms ts) st
    full_all nil st f = tt
    full_all (cons t ts) st f = (full_one t st f, full_all ts (meet ds rec cap t st) (still (meet_spends ds rec cap t st f) f))

    pub full_int : (e : IntTree) (st : State) → Full st → int_fits ds rec cap (int_form e) st
    full_int (const c) st f = tt
    full_int (ivar v) st f = tt
    full_int (sum ts) st f = full_terms ts st f
    full_int (choice i q e c d t u) st f = if_full _ _ st f

    full_terms : (ts : TermTrees) (st : State) → Full st → terms_fit ds rec cap (term_forms ts) st
    full_terms no_terms st f = tt
    full_terms (term k e ts) st f = (full_int e st f, full_terms ts (meet_int ds rec cap e st) (still (int_meet_spends ds rec cap e st f) f))

-- ---- the sum and bounds of a branch, or of a column; w: a work slice

module _ (ds : List Domain) (w : List ℤ) where
  pub branch_fits : (e : IntTree) → ProperInt e → ChoicesInt (SameWeight ds) e → Light ds (int_form e) → AlwaysEquated ds (int_form e) → InsideFits ds (int_form e) → (s : Log) → LightIfs ds s → Ready w (run_int ds e s).1 → PlacedInt w ds e s
      → BranchFits ds w (int_form e) (at w s)
  branch_fits e p h l x y s i r n = record {
    steps = (x w (at w s) 0).steps;
    branches = inside_branches ds w (int_form e) (at w s) y;
    light = range_light ds w (int_form e) (at w s) l (range_carries w ds e p h s i r n);
  }

-- a literal's word
literal_low : (n : ℕ) (o : Option BoolLit) → ((l : BoolLit) → o ≡ some l → number_of l < n) → n ≤ limit → nat_abs (bool_word o) ≤ limit + 1
literal_low n none h k = omega arith
literal_low n (some (lit v false)) h k = omega (arith, h (lit v false) refl, k)
literal_low n (some (lit v true)) h k = omega (arith, h (lit v true) refl, k)

-- ---- as in walks' Walked

module _ (ds : List Domain) (F : List ℤ) (parted : ℕ → Bool) (K : ℕ → Option IntExpr) (rec cap : ℕ) (with_ifs : Bool) (before : List ℤ) (P : Places ds F PlainInt parted K (fixed ds)) (low : cap < limit) where
  abbrev GoodAt : ℕ → State → Log → Type 0
  GoodAt = Good ds F PlainInt parted K (fixed ds) rec cap with_ifs before (Named ds)

  abbrev OutcomeAt : ℕ → ℕ → (List ℤ → Type 0) → State → State → Log → Type 0
  OutcomeAt = Outcome ds F PlainInt parted K (fixed ds) rec cap with_ifs before (Named ds)

  less : (m n : ℕ) (st : State) (s : Log) → n ≤ m → GoodAt m st s → GoodAt n st s
  less m n st s h g = good_less ds F PlainInt parted K (fixed ds) rec cap with_ifs before (Named ds) m n st s h g

  -- behind a visit
  behind : {k n : ℕ} {A : List ℤ → Type 0} {st a : State} {s : Log} (X : Type 0) → OutcomeAt k n A st a s → (Full ds rec cap a → X) → (GoodAt n a s → X) → X
  behind {k} {n} {A} {st} {a} {s} X (full x y) f g = f (lt-ltb cap a.used x)
  behind X (good h u r p) f g = g h

  abbrev Fitting : Tree → Type 0
  Fitting t = (n : ℕ) (st : State) (s : Log) → GoodAt (weight ds t + n) st s → LightIfs ds s → form_fits ds rec cap (form t) st

  abbrev FittingAll : Trees → Type 0
  FittingAll ts = (n : ℕ) (st : State) (s : Log) → GoodAt (weights ds ts + n) st s → LightIfs ds s → forms_fit ds rec cap (forms ts) st

  abbrev FittingInt : IntTree → Type 0
  FittingInt e = (n : ℕ) (st : State) (s : Log) → GoodAt n st s → LightIfs ds s → int_fits ds rec cap (int_form e) st

  abbrev FittingTerms : TermTrees → Type 0
  FittingTerms ts = (n : ℕ) (st : State) (s : Log) → GoodAt n st s → LightIfs ds s → terms_fit ds rec cap (term_forms ts) st

  -- ---- an If

  module _ (p : Place) (e : IntExpr) (c d : Tree) (t f : IntTree) (ch : Choice ds F parted K rec cap with_ifs before P low p e c d t f)
      (pc : Proper c) (pd : Proper d) (pt : ProperInt t) (pf : ProperInt f) (lc : Leafy c) (ld : Leafy d)
      (visit-c : Visits ds F parted K rec cap with_ifs before P low c) (visit-d : Visits ds F parted K rec cap with_ifs before P low d) (visit-t : VisitsInt ds F parted K rec cap with_ifs before P low t) (visit-f : VisitsInt ds F parted K rec cap with_ifs before P low f)
      (fit-c : Fitting c) (fit-d : Fitting d) (fit-t : FittingInt t) (fit-f : FittingInt f)
      (wc : Choices (SameWeight ds) c) (wd : Choices (SameWeight ds) d) (wt : ChoicesInt (SameWeight ds) t) (wf : ChoicesInt (SameWeight ds) f) (light : LightChoice ds p e c d t f)
      (et : AlwaysEquated ds (int_form t)) (ef : AlwaysEquated ds (int_form f)) (it : InsideFits ds (int_form t)) (jf : InsideFits ds (int_form f)) where
    abbrev own : Option ℕ
    own = own_var (condition_of e)

    abbrev q : Parts
    q = parts_of ds rec cap p own (form c) (form d) (int_form t) (int_form f)

    abbrev asks : Asks
    asks = record {
      plain = λ s. form_fits ds rec cap (form c) s;
      negated = λ s. form_fits ds rec cap (form d) s;
      first = λ s. int_fits ds rec cap (int_form t) s;
      second = λ s. int_fits ds rec cap (int_form f) s;
      branches = λ w n m. BranchesFit ds w (int_form t) (int_form f) n m;
    }

    abbrev k : ℕ
    k = bump (leaves c) (leaves d)

    -- the leaves that are spent make room for both polarities
    spent_room : (u n : ℕ) → bump u k ≤ cap → weight ds c + weight ds d + n ≤ 4 * k + n
    spent_room u n h = omega (arith, leaves_min c, leaves_min d, weight_low ds c pc lc, weight_low ds d pd ld)

    -- one polarity behind the other
    plain_first : (n : ℕ) (st : State) (s : Log) → GoodAt (weight ds c + (weight ds d + n)) st s → LightIfs ds s → form_fits ds rec cap (form c) st × form_fits ds rec cap (form d) (meet ds rec cap c st)
    plain_first n st s g l = (
      fit-c (weight ds d + n) st s g l,
      behind _ (visit-c st.used (weight ds d + n) st s g (omega arith)) (λ x. full_one ds rec cap d _ x) (λ x. fit-d n _ _ x (run_light ds c wc s l)),
    )

    negated_first : (n : ℕ) (st : State) (s : Log) → GoodAt (weight ds d + (weight ds c + n)) st s → LightIfs ds s → form_fits ds rec cap (form d) st × form_fits ds rec cap (form c) (meet ds rec cap d st)
    negated_first n st s g l = (
      fit-d (weight ds c + n) st s g l,
      behind _ (visit-d st.used (weight ds c + n) st s g (omega arith)) (λ x. full_one ds rec cap c _ x) (λ x. fit-c n _ _ x (run_light ds d wd s l)),
    )

    -- ---- behind the branches: b, of the log z

    module _ (n : ℕ) (b : State) (z : Log) (gb : GoodAt (suc n) b z) (l : LightIfs ds z) where
      open_holds : (x : Domain) → open_fits ds rec cap q asks x b
      unfolding open_fits
      open_holds x = go (ltb cap st.used) refl
        where
          m : Log
          m = int (column (constant (pos 0)) x) ∷ z

          st : State
          st = spend k (new_int ds rec cap (range_record x) b)

          g : GoodAt n (new_int ds rec cap (range_record x) b) m
          g = good_new ds F PlainInt parted K (fixed ds) rec cap with_ifs before (Named ds) (names ds) P (column (constant (pos 0)) x) (λ v. refl) n b z gb

          go : (r : Bool) → ltb cap st.used ≡ r → Unless r (form_fits ds rec cap (form c) st × form_fits ds rec cap (form d) (meet ds rec cap c st))
          go true h = tt
          go false h =
              let i = ltb-false cap st.used h in
              let y = good_spend ds F PlainInt parted K (fixed ds) rec cap with_ifs before (Named ds) k n (new_int ds rec cap (range_record x) b) m low i g in
              plain_first n st m (less _ _ st m (omega (arith, spent_room _ n i)) y) (light_int ds _ z l)

      module _ (closed : fixed ds e ≡ true) where
        none_yet : get_if e z ≡ none
        none_yet = go (get_if e z) refl
          where
            go : (o : Option ℕ) → get_if e z ≡ o → o ≡ none
            go none h = refl
            go (some v) h = no_bool (sym (gb.opens e v h) ∙ closed)

        abbrev marked : State
        marked = with_work (set_cell (p.at + 1) (negsuc 0) b.work) b

        g₀ : GoodAt (suc n) marked z
        g₀ = marked_good ds F PlainInt parted K (fixed ds) rec cap with_ifs before (Named ds) (names ds) P low q e ch.node (suc n) b z gb closed none_yet

        own_holds : (v : ℕ) → own ≡ some v → nat_abs (bool_at (meet_bool v marked).work v) ≤ limit + 1
        own_holds v h =
            let i = ch.low_var v h in
            let y = (convert_bool_var v z).1 in
            let g = good_bool ds F PlainInt parted K (fixed ds) rec cap with_ifs before (Named ds) (names ds) P v i (suc n) marked z g₀ in
            rw (g.map v i) (literal_low (next_bool y) (get_bool_var v y) (λ j m. get_bool_below y v j m) (omega (arith, g.bools, g.room)))

        number_holds : constant_fits ds rec cap q asks none marked
        unfolding constant_fits
        number_holds = go (ltb cap st.used) refl
          where
            st : State
            st = spend k marked

            m : Log
            m = bool (aux []) ∷ z

            go : (r : Bool) → ltb cap st.used ≡ r → Unless r (form_fits ds rec cap (form d) (more_bools 1 st) × form_fits ds rec cap (form c) (meet ds rec cap d (more_bools 1 st)))
            go true h = tt
            go false h =
                let i = ltb-false cap st.used h in
                let x = good_spend ds F PlainInt parted K (fixed ds) rec cap with_ifs before (Named ds) k (suc n) marked z low i g₀ in
                let y = less _ (1 + (weight ds d + (weight ds c + n))) st z (omega (arith, spent_room _ n i)) x in
                let w = good_quiet ds F PlainInt parted K (fixed ds) rec cap with_ifs before (Named ds) P 1 (weight ds d + (weight ds c + n)) st z m (auxed_quiet (Named ds) (names ds) (above no-aux) 1 (omega arith)) y in
                negated_first n (more_bools 1 st) m w (light_bool ds (aux []) z l)

        constant_holds : (o : Option ℕ) → own ≡ o → constant_fits ds rec cap q asks o marked
        constant_holds none h = number_holds
        constant_holds (some v) h = unfold constant_fits in own_holds v h

    -- ---- the branches, met from st and y on

    module _ (n : ℕ) (st y b : State) (s : Log) (l : LightIfs ds s) (gs : GoodAt (suc n) st s) (gy : GoodAt (suc n) y (run_int ds t s).1) (gb : GoodAt (suc n) b (run_int ds f (run_int ds t s).1).1)
        (xt : PlacedInt b.work ds t s) (xf : PlacedInt b.work ds f (run_int ds t s).1) where
      abbrev w : List ℤ
      w = b.work

      abbrev ta : LinearSum × Log
      ta = run_int ds t s

      abbrev fb : LinearSum × Log
      fb = run_int ds f ta.1

      last_ready : Ready w fb.1
      last_ready = good_ready ds F PlainInt parted K (fixed ds) rec cap with_ifs before (Named ds) (names ds) P low (suc n) b fb.1 gb

      first_ready : Ready w ta.1
      first_ready = ready_back (int_grow ds f ta.1) last_ready

      from_first : counters_of st ≡ at w s
      from_first = good_counters ds F PlainInt parted K (fixed ds) rec cap with_ifs before (Named ds) (suc n) st s w gs gb.word

      from_second : counters_of y ≡ at w ta.1
      from_second = good_counters ds F PlainInt parted K (fixed ds) rec cap with_ifs before (Named ds) (suc n) y ta.1 w gy gb.word

      light_behind : LightIfs ds ta.1
      light_behind = (int_run_light ds t wt s l).0

      sums_hold : BranchesFit ds w (int_form t) (int_form f) (at w s) (at w ta.1)
      sums_hold =
          let r = branches_reach w ds t f pt pf wt wf s l last_ready xt xf in
          record {
            first = branch_fits ds w t pt wt light.1 et it s l first_ready xt;
            second = branch_fits ds w f pf wf light.2 ef jf ta.1 light_behind last_ready xf;
            lowest = omega (arith, r, light.0);
            highest = omega (arith, r, light.0);
          }

      sums_from : BranchesFit ds w (int_form t) (int_form f) (counters_of st) (counters_of y)
      sums_from = subst (λ (m : Counters). BranchesFit ds w (int_form t) (int_form f) m (counters_of y)) (sym from_first) (subst (λ (m : Counters). BranchesFit ds w (int_form t) (int_form f) (at w s) m) (sym from_second) sums_hold)

      -- whether both are constant, as the walk finds it
      decided : is_constant (q.first.total w (counters_of st)) && is_constant (q.second.total w (counters_of y)) ≡ fixed ds e
      decided =
          let u = ap ((int_item ds t).total w) from_first ∙ ((int_good w ds t pt).from s first_ready xt).total in
          let v = ap ((int_item ds f).total w) from_second ∙ ((int_good w ds f pf).from ta.1 last_ready xf).total in
          rw (u, v) (ch.decided s gs.named)

      branches_hold : branches_fit ds rec cap q asks (counters_of st) (counters_of y) b
      unfolding branches_fit
      branches_hold = (sums_from, go (is_constant (q.first.total w (counters_of st)) && is_constant (q.second.total w (counters_of y))) decided)
        where
          z : LightIfs ds fb.1
          z = (int_run_light ds f wf ta.1 light_behind).0

          go : (r : Bool) → r ≡ fixed ds e → Either r (constant_fits ds rec cap q asks own (with_work (set_cell (p.at + 1) (negsuc 0) w) b)) (open_fits ds rec cap q asks (either_range q.first q.second w (counters_of st) (counters_of y)) b)
          go true h = constant_holds n b fb.1 gb z (sym h) own refl
          go false h = open_holds n b fb.1 gb z _

    -- ---- an If that is met

    module _ (n : ℕ) (st : State) (s : Log) (g : GoodAt n st s) (l : LightIfs ds s) where
      abbrev begun : State
      begun = spend 4 st

      abbrev first_met : State
      first_met = meet_int ds rec cap t begun

      abbrev second_met : State
      second_met = meet_int ds rec cap f first_met

      abbrev Last : Type 0
      Last = Unless (is_full ds rec cap second_met) (branches_fit ds rec cap q asks (counters_of begun) (counters_of first_met) second_met)

      abbrev SecondPlaced : List ℤ → Type 0
      SecondPlaced w = PlacedInt w ds f (run_int ds t s).1

      last_full : Full ds rec cap second_met → Last
      last_full h = rw h tt

      module _ (gs : GoodAt (16 + n) begun s) (gy : GoodAt (16 + n) first_met (run_int ds t s).1) (xt : (w : List ℤ) → Later ds F PlainInt parted K (fixed ds) first_met.work w → PlacedInt w ds t s) where
        last_holds : OutcomeAt first_met.used (16 + n) SecondPlaced first_met second_met (run_int ds f (run_int ds t s).1).1 → Last
        last_holds (full x y) = last_full (lt-ltb cap second_met.used x)
        last_holds (good gb u r xf) = unless (is_full ds rec cap second_met) _ (branches_hold (15 + n) begun first_met second_met s l (less _ _ _ _ (omega arith) gs) (less _ _ _ _ (omega arith) gy) (less _ _ _ _ (omega arith) gb) (xt _ r) (xf _ (same_later ds F PlainInt parted K (fixed ds) _)))

        second_holds : int_fits ds rec cap (int_form f) first_met × Last
        second_holds = (fit-f (16 + n) first_met _ gy (int_run_light ds t wt s l).0, last_holds (visit-f first_met.used (16 + n) first_met _ gy (omega arith)))

      first_holds : GoodAt (16 + n) begun s → OutcomeAt begun.used (16 + n) (λ w. PlacedInt w ds t s) begun first_met (run_int ds t s).1 → int_fits ds rec cap (int_form f) first_met × Last
      first_holds gs (full x y) = let h = lt-ltb cap first_met.used x in (full_int ds rec cap f first_met h, last_full (still ds rec cap (int_meet_spends ds rec cap f first_met h) h))
      first_holds gs (good gy u r xt) = second_holds gs gy xt

      new_holds : new_fits ds rec cap q asks st
      unfolding new_fits
      new_holds = go (ltb cap begun.used) refl
        where
          go : (r : Bool) → ltb cap begun.used ≡ r → Unless r (int_fits ds rec cap (int_form t) begun × int_fits ds rec cap (int_form f) first_met × Last)
          go true h = tt
          go false h =
              let gs = good_spend ds F PlainInt parted K (fixed ds) rec cap with_ifs before (Named ds) 4 n st s low (ltb-false cap begun.used h) g in
              let x = first_holds gs (visit-t begun.used (16 + n) begun s gs (omega arith)) in
              (fit-t (16 + n) begun s gs l, x.0, x.1)

      if_holds : if_fits ds rec cap q asks st
      unfolding if_fits
      if_holds = unless (is_full ds rec cap st || known_in (seen st.work p) st.ints) _ (not_found (find_equal st.work p) _ new_holds)

  -- ---- every tree

  mutual
    unfolding form form_fits form_meet run weight Proper Leafy Facts Choices FormFits

    tree_fits : (t : Tree) → Proper t → Leafy t → Facts ds F parted K rec cap with_ifs before P low t → Choices (SameWeight ds) t → Choices (LightChoice ds) t → FormFits ds (form t) → Fitting t
    tree_fits (var v g) p l f h j x = λ n st s a i. tt
    tree_fits (num k g) p l f h j x = λ n st s a i. tt
    tree_fits (cmp o a b g) p l f h j x = λ n st s y i. (
      int_tree_fits a p.0 l.0 f.0 h.0 j.0 x.1 (0 + n) st s y i,
      behind _ (visit_int ds F parted K rec cap with_ifs before P low a p.0 l.0 f.0 st.used (0 + n) st s y (omega arith)) (λ z. full_int ds rec cap b _ z)
          (λ z. int_tree_fits b p.1 l.1 f.1 h.1 j.1 x.2 (0 + n) _ _ z (int_run_light ds a h.0 s i).0),
    )
    tree_fits (conj ts) p l f h j x = λ n st s a i. trees_fit ts p.1 l f h j x n st s a i
    tree_fits (disj ts) p l f h j x = λ n st s a i. trees_fit ts p l.1 f h j x n st s (less _ _ st s (omega arith) a) i
    tree_fits (cross ts us) p l f h j x = λ n st s a i.
        let y = less _ (weights ds ts + (weights ds us + n)) st s (omega arith) a in (
          trees_fit ts p.0 l.2 f.0 h.0 j.0 x.0 (weights ds us + n) st s y i,
          behind _ (visits ds F parted K rec cap with_ifs before P low ts p.0 l.2 f.0 st.used (weights ds us + n) st s y (omega arith)) (λ z. full_all ds rec cap us _ z)
              (λ z. trees_fit us p.1 l.3 f.1 h.1 j.1 x.1 n _ _ z (runs_light ds ts h.0 s i)),
        )
    tree_fits (tied v t u) p l f h j x = λ n st s a i.
        let y = less _ (weight ds t + (weight ds u + n)) st s (omega arith) a in (
          tree_fits t p.1 l.0 f.0 h.0 j.0 x.0 (weight ds u + n) st s y i,
          behind _ (visit ds F parted K rec cap with_ifs before P low t p.1 l.0 f.0 st.used (weight ds u + n) st s y (omega arith)) (λ z. full_one ds rec cap u _ z)
              (λ z. tree_fits u p.2 l.1 f.1 h.1 j.1 x.1 n _ _ z (run_light ds t h.0 s i)),
        )

    pub trees_fit : (ts : Trees) → Propers ts → Leafies ts → FactsAll ds F parted K rec cap with_ifs before P low ts → ChoicesAll (SameWeight ds) ts → ChoicesAll (LightChoice ds) ts → FormsFit ds (forms ts) → FittingAll ts
    trees_fit nil p l f h j x = λ n st s a i. tt
    trees_fit (cons t ts) p l f h j x = λ n st s a i.
        let y = less _ (weight ds t + (weights ds ts + n)) st s (omega arith) a in (
          tree_fits t p.0 l.0 f.0 h.0 j.0 x.0 (weights ds ts + n) st s y i,
          behind _ (visit ds F parted K rec cap with_ifs before P low t p.0 l.0 f.0 st.used (weights ds ts + n) st s y (omega arith)) (λ z. full_all ds rec cap ts _ z)
              (λ z. trees_fit ts p.1 l.1 f.1 h.1 j.1 x.1 n _ _ z (run_light ds t h.0 s i)),
        )

    pub int_tree_fits : (e : IntTree) → ProperInt e → LeafyInt e → FactsInt ds F parted K rec cap with_ifs before P low e → ChoicesInt (SameWeight ds) e → ChoicesInt (LightChoice ds) e → InsideFits ds (int_form e) → FittingInt e
    int_tree_fits (const c) p l f h j x = λ n st s a i. tt
    int_tree_fits (ivar v) p l f h j x = λ n st s a i. tt
    int_tree_fits (sum ts) p l f h j x = λ n st s a i. term_trees_fit ts p l f h j x n st s a i
    int_tree_fits (choice w q e c d t u) p l f h j x = λ n st s a i.
        if_holds q e c d t u f.0 p.1 p.2 p.3 p.4 l.0 l.1
        (visit ds F parted K rec cap with_ifs before P low c p.1 l.0 f.1) (visit ds F parted K rec cap with_ifs before P low d p.2 l.1 f.2)
        (visit_int ds F parted K rec cap with_ifs before P low t p.3 l.2 f.3) (visit_int ds F parted K rec cap with_ifs before P low u p.4 l.3 f.4)
        (tree_fits c p.1 l.0 f.1 h.1 j.1 x.0) (tree_fits d p.2 l.1 f.2 h.2 j.2 x.1)
        (int_tree_fits t p.3 l.2 f.3 h.3 j.3 x.4) (int_tree_fits u p.4 l.3 f.4 h.4 j.4 x.5)
        h.1 h.2 h.3 h.4 j.0 x.2 x.3 x.4 x.5 n st s a i

    term_trees_fit : (ts : TermTrees) → ProperTerms ts → LeafyTerms ts → FactsTerms ds F parted K rec cap with_ifs before P low ts → ChoicesTerms (SameWeight ds) ts → ChoicesTerms (LightChoice ds) ts → TermsFit ds (term_forms ts) → FittingTerms ts
    term_trees_fit no_terms p l f h j x = λ n st s a i. tt
    term_trees_fit (term k e ts) p l f h j x = λ n st s a i. (
      int_tree_fits e p.0 l.0 f.0 h.0 j.0 x.0 n st s a i,
      behind _ (visit_int ds F parted K rec cap with_ifs before P low e p.0 l.0 f.0 st.used n st s a (omega arith)) (λ z. full_terms ds rec cap ts _ z)
          (λ z. term_trees_fit ts p.1 l.1 f.1 h.1 j.1 x.1 n _ _ z (int_run_light ds e h.0 s i).0),
    )
