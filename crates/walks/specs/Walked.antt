-- The first walk over every tree: `visit`.
use Rattle.std.specs.Prelude.{◌≡◌, Bool, ◌&&◌, ℕ, suc, ◌+◌, ◌*◌, ◌≤◌, ◌<◌, min, ℤ, pos, negsuc, neg_ℤ, length}
use Rattle.std.proofs.Math.Path.{refl, ap, subst}
use Rattle.std.proofs.Common.{sym, ◌∙◌, arith, add-one, eq-eqb}
use Rattle.std.proofs.Math.Bool.{true, false, cond}
use Rattle.std.proofs.Math.Option.{Option, none, some}
use mathlib.Core.List.{List, [], ◌∷◌, ◌++◌}
use Rattle.std.specs.Int.Signed.{lt_z}
use Rattle.laws.specs.Ints.{eqZ}
use Rattle.memory.specs.Places.{limit}
use Rattle.syntax.specs.Syntax.{IfIsRead, Domain, Range, CmpOp, IntExpr, IConst, IVar, Linear, If, BoolExpr, Const, Var, NVar, And, Or, Not, Xor, Iff, Imp, Cmp}
use Rattle.syntax.specs.Words.{max_bools, max_ints}
use Rattle.sums.specs.LinearSum.{LinearSum, constant, is_constant, add_sum, mul_sum}
use Rattle.sums.specs.Rising.{constant_of}
use Rattle.clauses.specs.Clause.{BoolLit, lit, Clause}
use Rattle.clauses.specs.Log.{MadeInt, declared_int, column, chosen, binary, aux, side, bool, int, defined, known, Log, negate_lit, next_bool, next_int, is_declared_int, get_bool_var, get_int_var, get_if, made_ints, bool_var_at, convert_bool_var}
use Rattle.clauses.specs.Disjunction.{normalize_disjunction, finish_disjunction, finish_sorted, sorted}
use Rattle.clauses.specs.Normalize.{Run, two, define, no_run, run_then, cross as cross-run, normalize_num, lit_clauses, normalize_var, normalize_comparison, normalize_conjunction, disjunction_of, normalize_int_var, normalize_term, equals, own_literal, condition_literal, two_valued, hull, domain_of_sum, if_constant, if_open, normalize_if}
use Rattle.clauses.proofs.Emitted.{domain_at, new_domain}
use Rattle.clauses.proofs.Since.{OnTop, here, over, top_then, top_domain}
use Rattle.walk.specs.Item.{bump, fresh, bool_at}
use Rattle.answer.specs.Answer.{bool_word}
use Rattle.walk.proofs.Grow.{Grows, same, lit_word, bool_here}
use Rattle.walks.specs.Tree.{own_var, Place, Tree, var, num, cmp, conj, disj, cross, tied, Trees, nil, cons, IntTree, const, ivar, sum, choice, TermTrees, none as no_terms, term, condition_of, run, runs, run_int, run_terms}
use Rattle.walks.specs.Form.{form}
use Rattle.walks.specs.Item.{has_ifs, both_constant, seen, Item, tallies, items, item, int_item, num_item}
use Rattle.walks.specs.Placed.{Known, Either, Visited, Numbered, opened, either_domain, Placed, PlacedAll, PlacedInt, PlacedTerms}
use Rattle.walks.specs.Meet.{form_meet, State, counters_of, with_work, spend, leaves, two_record, range_record, range_of, Parts, meet_if, meet_new, meet_branches, meet_open, meet_constant, set_cell, meet, meets, meet_int, meet_terms}
use Rattle.walks.specs.Grow.{disjunction_grows, int_var_grows, grow_side, two_valued_made, bool_var_grows, run_grow, runs_grow, int_grow, terms_grow}
use Rattle.walks.specs.Implements.{Proper, Propers, ProperInt, ProperTerms, NoNumber, at, Ready, ready_back, Sorts, more, goods_nil, num_good, item_good, items_good, int_good, beside}
use Rattle.walks.specs.Ranges.{range_is}
use Rattle.walks.specs.Plain.{PlainInt}
use Rattle.walks.specs.Named.{key_new, top_key}
use Rattle.walks.specs.Constant.{constant_expr, OpenIf, Named}
use Rattle.walks.specs.Cells.{Places}
use Rattle.walks.specs.Good.{made_record, Quiet, Names, Good, good_less, good_bool, good_int}
use Rattle.walks.specs.Leaves.{exact, leaves_min, Leafy, Leafies, LeafyInt, LeafyTerms, weight, weights, weight_low, beside_low, some_clause, words_of, grows_words, choice_constant, choice_open, made_words, constant_behind, open_behind}
use Rattle.walks.specs.Visit.{bool_spends, int_spends, meet_spends, meets_spends, int_meet_spends, terms_meet_spends, Later, same_later, bool_later, int_later, Outcome, good, outcome_then, outcome_to, outcome_with, good_counters, fresh_outcome, good_ready, disj_quiet}
use Rattle.walks.specs.Lookup.{Node, known_outcome, new_outcome}
use Rattle.walks.specs.Make.{own_good, own_outcome, constant_outcome, open_outcome, new_whole}

-- ---- whether an If's branches are constant; what the numbers of a log belong to

abbrev pub fixed : List Domain → IntExpr → Bool
fixed ds (IConst c) = true
fixed ds (IVar v) = true
fixed ds (Linear ts) = true
fixed ds (If i c t f) = constant_expr ds t && constant_expr ds f

module _ (ds : List Domain) where
  other_made : (m : MadeInt) → ((v : ℕ) → is_declared_int v m ≡ false) → (s : Log) → Named ds s → Named ds (int m ∷ s)
  other_made (declared_int v) q s n = absurd (let z : ◌≡◌ {A = ℕ} 0 1 = not-false (sym (q v) ∙ eq-eqb v v refl) in omega arith)
    where
      not-false : ◌≡◌ {A = Bool} false true → ◌≡◌ {A = ℕ} 0 1
      not-false e = cc
  other_made (column l d) q s n = (tt, n)
  other_made (chosen i e l m d) q s n = (tt, n)
  other_made (binary i l a b) q s n = (tt, n)

  pub names : Names (Named ds)
  names = record {
    bool_named = λ m s n. (tt, n);
    int_named = λ v s h n. (h, n);
    added_named = λ cs s n. (tt, n);
    defined_named = λ cs s n. (tt, n);
    other_named = other_made;
  }

-- ---- two conditions together

leaves_both : (c d : Tree) → bump (leaves c) (leaves d) ≡ min (exact c + exact d) limit
leaves_both c d = omega (arith, leaves_min c, leaves_min d)

weights_both : (ds : List Domain) (c d : Tree) → Proper c → Leafy c → Proper d → Leafy d → weight ds c + weight ds d ≤ 2 * (exact c + exact d)
weights_both ds c d p l q m = omega (arith, weight_low ds c p l, weight_low ds d q m)

below_next : (m : MadeInt) (s : Log) → next_int s < next_int (int m ∷ s)
below_next m s = omega arith

-- two longer members take one number
aux_defined : (Named : Log → Type 0) → Names Named → (c cs : List Clause) (s : Log) → Quiet Named s (defined cs ∷ bool (aux c) ∷ s) 1
unfolding get_bool_var get_int_var get_if made_ints
aux_defined Named N c cs s = record { bools = omega arith; ints = refl; keep = λ v. refl; keep_int = λ v. refl; ifs = λ e. refl; made = refl; top = over (defined cs) (over (bool (aux c)) here); named = λ n. N.defined_named cs (bool (aux c) ∷ s) (N.bool_named (aux c) s n) }

two_quiet : (Named : Log → Type 0) → Names Named → (xs ys : List Clause) (a b : Clause) (cs : List Clause) (s : Log) → 1 ≤ length xs → 1 ≤ length ys → Quiet Named s (defined cs ∷ (normalize_disjunction ((xs ++ (a ∷ [])) ∷ (ys ++ (b ∷ [])) ∷ []) s).1) 1
unfolding normalize_disjunction finish_sorted sorted finish_disjunction
two_quiet Named N [] ys a b cs s h k = absurd (omega arith)
two_quiet Named N (x ∷ xs) [] a b cs s h k = absurd (omega arith)
two_quiet Named N (x ∷ []) (y ∷ []) a b cs s h k = aux_defined Named N _ cs s
two_quiet Named N (x ∷ []) (y ∷ y' ∷ ys) a b cs s h k = aux_defined Named N _ cs s
two_quiet Named N (x ∷ x' ∷ xs) (y ∷ []) a b cs s h k = aux_defined Named N _ cs s
two_quiet Named N (x ∷ x' ∷ xs) (y ∷ y' ∷ ys) a b cs s h k = aux_defined Named N _ cs s

quiet_then : {Named : Log → Type 0} {s t u : Log} (j k : ℕ) → Quiet Named s t j → Quiet Named t u k → Quiet Named s u (j + k)
quiet_then j k a b = record {
  bools = omega (arith, a.bools, b.bools);
  ints = b.ints ∙ a.ints;
  keep = λ v. b.keep v ∙ a.keep v;
  keep_int = λ v. b.keep_int v ∙ a.keep_int v;
  ifs = λ e. b.ifs e ∙ a.ifs e;
  made = b.made ∙ a.made;
  top = top_then a.top b.top;
  named = λ n. b.named (a.named n);
}

-- one number more, clauses more
side_quiet : (Named : Log → Type 0) → Names Named → (c : BoolExpr) (s : Log) → Quiet Named s (bool (side c) ∷ s) 1
unfolding get_bool_var get_int_var get_if made_ints
side_quiet Named N c s = record { bools = omega arith; ints = refl; keep = λ v. refl; keep_int = λ v. refl; ifs = λ e. refl; made = refl; top = over (bool (side c)) here; named = λ n. N.bool_named (side c) s n }

defined_quiet : (Named : Log → Type 0) → Names Named → (j : ℕ) (cs : List Clause) (s t : Log) → Quiet Named s t j → Quiet Named s (defined cs ∷ t) j
unfolding get_bool_var get_int_var get_if made_ints
defined_quiet Named N j cs s t q = record { bools = q.bools; ints = q.ints; keep = λ v. q.keep v; keep_int = λ v. q.keep_int v; ifs = λ e. q.ifs e; made = q.made; top = over (defined cs) q.top; named = λ n. N.defined_named cs t (q.named n) }

-- the record of an integer with two values
two_made : (i : IfIsRead) (ds : List Domain) (l : BoolLit) (z : ℤ) (x y : ℤ) → z ≡ lit_word l → neg_ℤ z ≡ lit_word (negate_lit true l) → made_record ds (two_valued i l x y) ≡ two_record z x y
two_made i ds l z x y h k = go (lt_z x y) (eqZ x y)
  where
    go : (a b : Bool) → made_record ds (cond a (binary i (negate_lit true l) x y) (cond b (column (constant x) (Range x x)) (binary i l y x))) ≡ cond a (pos 1 ∷ neg_ℤ z ∷ x ∷ y ∷ []) (cond b (range_record (Range x x)) (pos 1 ∷ z ∷ y ∷ x ∷ []))
    go true b = ap (λ a. pos 1 ∷ a ∷ x ∷ y ∷ []) (sym k)
    go false true = refl
    go false false = ap (λ a. pos 1 ∷ a ∷ y ∷ x ∷ []) (sym h)

neg_lit : (l : BoolLit) (z : ℤ) → z ≡ lit_word l → neg_ℤ z ≡ lit_word (negate_lit true l)
neg_lit (lit n false) z h = ap neg_ℤ h
neg_lit (lit n true) z h = ap neg_ℤ h

found_word : (l : BoolLit) (o : Option BoolLit) → o ≡ some l → bool_word o ≡ lit_word l
found_word (lit n false) o e = ap bool_word e
found_word (lit n true) o e = ap bool_word e

-- a declared Boolean is found behind its meeting
bool_found : (v : ℕ) (s : Log) → get_bool_var v (convert_bool_var v s).1 ≡ some (convert_bool_var v s).0
unfolding convert_bool_var
bool_found v s = go (get_bool_var v s) refl
  where
    go : (o : Option BoolLit) → get_bool_var v s ≡ o → get_bool_var v (bool_var_at o v s).1 ≡ some (bool_var_at o v s).0
    go (some l) e = e
    go none e = bool_here v s

-- a condition's own literal, where it is a declared variable
own_none : (c : BoolExpr) → NoNumber c → own_var c ≡ none → own_literal c ≡ none
own_none (Var v) n h = absurd (let z : ◌≡◌ {A = ℕ} 0 1 = cc in omega arith)
own_none (NVar k) n h = absurd n
own_none (Const b) n h = refl
own_none (And ms) n h = refl
own_none (Or ms) n h = refl
own_none (Not c) n h = refl
own_none (Xor a b) n h = refl
own_none (Iff a b) n h = refl
own_none (Imp a b) n h = refl
own_none (Cmp o a b) n h = refl

own_some : (c : BoolExpr) (v : ℕ) → own_var c ≡ some v → own_literal c ≡ some (convert_bool_var v)
own_some (Var u) v h = let z : u ≡ v = cc in ap (λ x. some (convert_bool_var x)) z
own_some (NVar k) v h = absurd (let z : ◌≡◌ {A = ℕ} 0 1 = cc in omega arith)
own_some (Const b) v h = absurd (let z : ◌≡◌ {A = ℕ} 0 1 = cc in omega arith)
own_some (And ms) v h = absurd (let z : ◌≡◌ {A = ℕ} 0 1 = cc in omega arith)
own_some (Or ms) v h = absurd (let z : ◌≡◌ {A = ℕ} 0 1 = cc in omega arith)
own_some (Not c) v h = absurd (let z : ◌≡◌ {A = ℕ} 0 1 = cc in omega arith)
own_some (Xor a b) v h = absurd (let z : ◌≡◌ {A = ℕ} 0 1 = cc in omega arith)
own_some (Iff a b) v h = absurd (let z : ◌≡◌ {A = ℕ} 0 1 = cc in omega arith)
own_some (Imp a b) v h = absurd (let z : ◌≡◌ {A = ℕ} 0 1 = cc in omega arith)
own_some (Cmp o a b) v h = absurd (let z : ◌≡◌ {A = ℕ} 0 1 = cc in omega arith)

-- ---- the walk; F: the folded words, parted and K: the Ifs with split parts and what is looked up for them, rec and cap as in Meet

module _ (ds : List Domain) (F : List ℤ) (parted : ℕ → Bool) (K : ℕ → Option IntExpr) (rec cap : ℕ) (with_ifs : Bool) (before : List ℤ) (P : Places ds F PlainInt parted K (fixed ds)) (low : cap < limit) where
  abbrev GoodAt : ℕ → State → Log → Type 0
  GoodAt = Good ds F PlainInt parted K (fixed ds) rec cap with_ifs before (Named ds)

  abbrev OutcomeAt : ℕ → ℕ → (List ℤ → Type 0) → State → State → Log → Type 0
  OutcomeAt = Outcome ds F PlainInt parted K (fixed ds) rec cap with_ifs before (Named ds)

  abbrev LaterAt : List ℤ → List ℤ → Type 0
  LaterAt = Later ds F PlainInt parted K (fixed ds)

  -- what is known of an If of a tree: its place, whether it is constant, that it is not made inside itself, and that there are Ifs
  pub record Choice (p : Place) (e : IntExpr) (c d : Tree) (t f : IntTree) : Type 0 where
    pub node : Node ds F PlainInt parted K (fixed ds) rec cap with_ifs before (Named ds) p e
    pub decided : (s : Log) → Named ds s → is_constant (run_int ds t s).0 && is_constant (run_int ds f (run_int ds t s).1).0 ≡ fixed ds e
    pub opens : fixed ds e ≡ false → OpenIf ds e
    pub stays_plain : (s : Log) → get_if e (run ds c s).1 ≡ get_if e s
    pub stays_negated : (s : Log) → get_if e (run ds d s).1 ≡ get_if e s
    pub stays_first : (s : Log) → get_if e (run_int ds t s).1 ≡ get_if e s
    pub stays_second : (s : Log) → get_if e (run_int ds f s).1 ≡ get_if e s
    pub low_var : (v : ℕ) → own_var (condition_of e) ≡ some v → v < max_bools
    pub some_ifs : with_ifs ≡ true

  unfoldable mutual
    pub Facts : Tree → Type 0
    Facts (var v g) = Unit {0}
    Facts (num n g) = Unit {0}
    Facts (cmp o a b g) = FactsInt a × FactsInt b
    Facts (conj ts) = FactsAll ts
    Facts (disj ts) = FactsAll ts
    Facts (cross ts us) = FactsAll ts × FactsAll us
    Facts (tied v t u) = Facts t × Facts u

    pub FactsAll : Trees → Type 0
    FactsAll nil = Unit {0}
    FactsAll (cons t ts) = Facts t × FactsAll ts

    pub FactsInt : IntTree → Type 0
    FactsInt (const c) = Unit {0}
    FactsInt (ivar v) = Unit {0}
    FactsInt (sum ts) = FactsTerms ts
    FactsInt (choice i p e c d t f) = Choice p e c d t f × Facts c × Facts d × FactsInt t × FactsInt f

    pub FactsTerms : TermTrees → Type 0
    FactsTerms no_terms = Unit {0}
    FactsTerms (term k e ts) = FactsInt e × FactsTerms ts

  abbrev pub Visits : Tree → Type 0
  Visits t = (k n : ℕ) (st : State) (s : Log) → GoodAt (weight ds t + n) st s → st.used ≤ words_of s + k → OutcomeAt k n (λ w. Placed w ds t s) st (meet ds rec cap t st) (run ds t s).1

  abbrev pub VisitsInt : IntTree → Type 0
  VisitsInt e = (k n : ℕ) (st : State) (s : Log) → GoodAt n st s → st.used ≤ words_of s + k → OutcomeAt k n (λ w. PlacedInt w ds e s) st (meet_int ds rec cap e st) (run_int ds e s).1

  counters_good : (n : ℕ) (st : State) (s : Log) (w : List ℤ) → GoodAt n st s → has_ifs w ≡ with_ifs → counters_of st ≡ at w s
  counters_good n st s w g h = good_counters ds F PlainInt parted K (fixed ds) rec cap with_ifs before (Named ds) n st s w g h

  ready : (n : ℕ) (st : State) (s : Log) → GoodAt n st s → Ready st.work s
  ready n st s g = good_ready ds F PlainInt parted K (fixed ds) rec cap with_ifs before (Named ds) (names ds) P low n st s g

  -- ---- an If

  module _ (p : Place) (e : IntExpr) (c d : Tree) (t f : IntTree) (ch : Choice p e c d t f) (no_number : NoNumber (condition_of e)) (pc : Proper c) (pd : Proper d) (pt : ProperInt t) (pf : ProperInt f) (lc : Leafy c) (ld : Leafy d)
      (visit-c : Visits c) (visit-d : Visits d) (visit-t : VisitsInt t) (visit-f : VisitsInt f) where
    abbrev parts : Parts
    parts = record {
      own = own_var (condition_of e);
      place = p;
      plain = item ds c;
      negated = item ds d;
      first = int_item ds t;
      second = int_item ds f;
      meet_plain = λ st. meet ds rec cap c st;
      meet_negated = λ st. meet ds rec cap d st;
      meet_first = λ st. meet_int ds rec cap t st;
      meet_second = λ st. meet_int ds rec cap f st;
      leaves = bump (leaves c) (leaves d);
    }

    module _ (s : Log) where
      abbrev ta : LinearSum × Log
      ta = run_int ds t s

      abbrev fb : LinearSum × Log
      fb = run_int ds f ta.1

      -- the sums and the domains that the walk finds
      module _ (m : ℕ) (st a b : State) (gs : GoodAt m st s) (ga : GoodAt m a ta.1) (gb : GoodAt m b fb.1) (placed : PlacedInt b.work ds t s × PlacedInt b.work ds f ta.1) where
        ready_b : Ready b.work fb.1
        ready_b = ready m b fb.1 gb

        first_total : (int_item ds t).total b.work (counters_of st) ≡ ta.0
        first_total = ap ((int_item ds t).total b.work) (counters_good m st s b.work gs gb.word) ∙ ((int_good b.work ds t pt).from s (ready_back (int_grow ds f ta.1) ready_b) placed.0).total

        second_total : (int_item ds f).total b.work (counters_of a) ≡ fb.0
        second_total = ap ((int_item ds f).total b.work) (counters_good m a ta.1 b.work ga gb.word) ∙ ((int_good b.work ds f pf).from ta.1 ready_b placed.1).total

        first_range : range_of (int_item ds t) b.work (counters_of st) ≡ domain_of_sum ds fb.1 ta.0
        first_range = ap (range_of (int_item ds t) b.work) (counters_good m st s b.work gs gb.word) ∙ range_is b.work ds t pt s (ready_back (int_grow ds f ta.1) ready_b) placed.0 fb.1 (int_grow ds f ta.1).top

        second_range : range_of (int_item ds f) b.work (counters_of a) ≡ domain_of_sum ds fb.1 fb.0
        second_range = ap (range_of (int_item ds f) b.work) (counters_good m a ta.1 b.work ga gb.word) ∙ range_is b.work ds f pf ta.1 ready_b placed.1 fb.1 here

        -- so the walk goes on as the run does
        branches_go : meet_branches ds rec cap parts st a b ≡ cond (is_constant ta.0 && is_constant fb.0)
            (meet_constant ds rec cap parts (constant_of ta.0) (constant_of fb.0) (own_var (condition_of e)) (with_work (set_cell (p.at + 1) (negsuc 0) b.work) b))
            (meet_open ds rec cap parts (hull (domain_of_sum ds fb.1 ta.0) (domain_of_sum ds fb.1 fb.0)) b)
        unfolding meet_branches
        branches_go = rw (first_total, second_total, first_range, second_range) refl

      -- ---- a condition that is no declared variable: its number, then both polarities, then two disjunctions

      abbrev c₀ : ℕ
      c₀ = next_bool fb.1

      abbrev x₀ : Log
      x₀ = bool (side (condition_of e)) ∷ fb.1

      abbrev x₁ : List Clause × Log
      x₁ = run ds d x₀

      abbrev x₂ : List Clause × Log
      x₂ = run ds c x₁.1

      abbrev x₃ : List Clause × Log
      x₃ = normalize_disjunction (lit_clauses c₀ false ∷ x₁.0 ∷ []) x₂.1

      abbrev x₄ : List Clause × Log
      x₄ = normalize_disjunction (lit_clauses c₀ true ∷ x₂.0 ∷ []) x₃.1

      under_limit : (w : List ℤ) → Ready w x₂.1 → c₀ < limit
      under_limit w r = omega (arith, r.fit.small, (run_grow ds d x₀).bools, (run_grow ds c x₁.1).bools)

      first_sorts : (w : List ℤ) → Ready w x₂.1 → Placed w ds d x₀ → Sorts w (num_item c₀ false ∷ item ds d ∷ []) x₀ (two (normalize_num c₀ false) (run ds d) x₀)
      unfolding run_then normalize_num no_run
      first_sorts w r pl = (more w (num_good w c₀ false (under_limit w r)) (more w (item_good w ds d pd) (goods_nil w))).from x₀ (ready_back (run_grow ds c x₁.1) r) (tt, (pl, tt))

      second_sorts : (w : List ℤ) → Ready w x₂.1 → Placed w ds c x₁.1 → Sorts w (num_item c₀ true ∷ item ds c ∷ []) x₁.1 (two (normalize_num c₀ true) (run ds c) x₁.1)
      unfolding run_then normalize_num no_run
      second_sorts w r pl = (more w (num_good w c₀ true (under_limit w r)) (more w (item_good w ds c pc) (goods_nil w))).from x₁.1 r (tt, (pl, tt))

      first_quiet : (w : List ℤ) → Ready w x₂.1 → Placed w ds d x₀ → Quiet (Named ds) x₂.1 x₃.1 (fresh (tallies (num_item c₀ false ∷ item ds d ∷ [])))
      unfolding run_then normalize_num no_run
      first_quiet w r pl = disj_quiet ds F PlainInt parted K (fixed ds) rec cap with_ifs before (Named ds) (names ds) P low w (num_item c₀ false ∷ item ds d ∷ []) x₀ (two (normalize_num c₀ false) (run ds d) x₀) (first_sorts w r pl) x₂.1

      second_quiet : (w : List ℤ) → Ready w x₂.1 → Placed w ds c x₁.1 → Quiet (Named ds) x₃.1 (defined (x₃.0 ++ x₄.0) ∷ x₄.1) (fresh (tallies (num_item c₀ true ∷ item ds c ∷ [])))
      unfolding run_then normalize_num no_run
      second_quiet w r pl = defined_quiet (Named ds) (names ds) _ (x₃.0 ++ x₄.0) x₃.1 x₄.1
          (disj_quiet ds F PlainInt parted K (fixed ds) rec cap with_ifs before (Named ds) (names ds) P low w (num_item c₀ true ∷ item ds c ∷ []) x₁.1 (two (normalize_num c₀ true) (run ds c) x₁.1) (second_sorts w r pl) x₃.1)

      number_word : (b : State) (m : ℕ) → GoodAt m b fb.1 → pos (b.bools + 1) ≡ lit_word (lit c₀ false)
      number_word b m g = ap pos (add-one b.bools ∙ ap suc g.bools)

      -- what Placed says of a new If
      abbrev RestAt : IfIsRead → Bool → List ℤ → Type 0
      RestAt i r w =
          let y = opened w ds i e ta.0 fb.0 fb.1 in
          PlacedInt w ds t s × PlacedInt w ds f ta.1 ×
          Either w r ((seen w p ≡ both_constant) × Visited w (own_var (condition_of e)) (Placed w ds d x₀ × Placed w ds c x₁.1)) (Numbered w p (next_int fb.1) (either_domain w ds ta.0 fb.0 fb.1) × Placed w ds c y × Placed w ds d (run ds c y).1)

      -- ---- i: the witness; the If is new
      module _ (i : IfIsRead) (new : get_if e s ≡ none) where
        abbrev polarity : Bool → Run
        polarity = λ g s. cond g (run ds d s) (run ds c s)

        abbrev test : Bool
        test = is_constant ta.0 && is_constant fb.0

        new_behind : get_if e fb.1 ≡ none
        new_behind = ch.stays_second ta.1 ∙ ch.stays_first s ∙ new

        -- ---- open

        abbrev dom : Domain
        dom = hull (domain_of_sum ds fb.1 ta.0) (domain_of_sum ds fb.1 fb.0)

        abbrev y₀ : Log
        y₀ = int (chosen i e ta.0 fb.0 dom) ∷ fb.1

        abbrev y₁ : List Clause × Log
        y₁ = run ds c y₀

        abbrev y₂ : List Clause × Log
        y₂ = run ds d y₁.1

        abbrev made : List Clause × Log
        made = normalize_disjunction ((y₁.0 ++ (equals ta.0 (next_int fb.1) ∷ [])) ∷ (y₂.0 ++ (equals fb.0 (next_int fb.1) ∷ [])) ∷ []) y₂.1

        abbrev y₃ : Log
        y₃ = defined made.0 ∷ made.1

        open_one : Quiet (Named ds) y₂.1 y₃ 1
        open_one = two_quiet (Named ds) (names ds) y₁.0 y₂.0 (equals ta.0 (next_int fb.1)) (equals fb.0 (next_int fb.1)) made.0 y₂.1 (some_clause ds c pc lc y₀) (some_clause ds d pd ld y₁.1)

        open_none : get_if e y₃ ≡ none
        unfolding get_if
        open_none = open_one.ifs e ∙ ch.stays_negated y₁.1 ∙ ch.stays_plain y₀ ∙ new_behind

        open_top : OnTop y₀ y₃
        open_top = top_then (run_grow ds c y₀).top (top_then (run_grow ds d y₁.1).top open_one.top)

        open_domain : domain_at ds y₃ (next_int fb.1) ≡ dom
        open_domain = top_domain ds open_top (next_int fb.1) (below_next (chosen i e ta.0 fb.0 dom) fb.1) ∙ new_domain ds (chosen i e ta.0 fb.0 dom) fb.1

        open_named : fixed ds e ≡ false → Named ds y₃ → Named ds (known e (next_int fb.1) ∷ y₃)
        open_named h n = ((open_none, top_key open_top (next_int fb.1) (below_next (chosen i e ta.0 fb.0 dom) fb.1) ∙ key_new (chosen i e ta.0 fb.0 dom) fb.1, ch.opens h), n)

        open_log : (if_open ds i e polarity ta.0 fb.0 fb.1).1 ≡ known e (next_int fb.1) ∷ y₃
        unfolding if_open define
        open_log = refl

        -- the words of the If that is made
        made_behind : test ≡ false → exact c + exact d + words_of y₂.1 ≤ words_of (known e (next_int fb.1) ∷ y₃)
        made_behind h = subst (λ (l : Log). exact c + exact d + words_of y₂.1 ≤ words_of l) (ap (λ (x : LinearSum × Log). x.1) (choice_open ds i p e c d t f s new h) ∙ open_log) (open_behind ds i p e c d t f s new pc lc pd ld h)

        made_least : test ≡ false → 4 + words_of fb.1 ≤ words_of (known e (next_int fb.1) ∷ y₃)
        made_least h = subst (λ (l : Log). 4 + words_of fb.1 ≤ words_of l) (ap (λ (x : LinearSum × Log). x.1) (choice_open ds i p e c d t f s new h) ∙ open_log) (made_words ds i p e c d t f s new)

        open_placed : List ℤ → Type 0
        open_placed w = Numbered w p (next_int fb.1) dom × (Placed w ds c y₀ × Placed w ds d y₁.1)

        module _ (k n : ℕ) (st : State) (h : test ≡ false) (closed : fixed ds e ≡ false) where
          open_finish : (a b : State) → GoodAt (16 + n) (spend 4 st) s → GoodAt (16 + n) a ta.1 → GoodAt (16 + n) b fb.1 → b.used ≤ words_of fb.1 + (k + 4)
              → ((w : List ℤ) → LaterAt b.work w → PlacedInt w ds t s × PlacedInt w ds f ta.1) → OutcomeAt k n open_placed b (meet_branches ds rec cap parts (spend 4 st) a b) (known e (next_int fb.1) ∷ y₃)
          unfolding open_placed
          open_finish a b gs ga gb u f' =
              subst (λ (x : State). OutcomeAt k n open_placed b x (known e (next_int fb.1) ∷ y₃))
              (sym (branches_go (16 + n) (spend 4 st) a b gs ga gb (f' b.work (same_later ds F PlainInt parted K (fixed ds) b.work)) ∙ ap (λ r. cond r (meet_constant ds rec cap parts (constant_of ta.0) (constant_of fb.0) (own_var (condition_of e)) (with_work (set_cell (p.at + 1) (negsuc 0) b.work) b)) (meet_open ds rec cap parts dom b)) h))
              (open_outcome ds F PlainInt parted K (fixed ds) rec cap with_ifs before (Named ds) (names ds) P low parts e ch.node k n b fb.1 (chosen i e ta.0 fb.0 dom) dom y₁.1 y₂.1 y₃ (λ w. Placed w ds c y₀) (λ w. Placed w ds d y₁.1) (exact c) (exact d) (weight ds c) (weight ds d)
              (λ v. refl) refl (leaves_both c d) (weights_both ds c d pc lc pd ld) (λ k n st. visit-c k n st y₀) (λ k n st. visit-d k n st y₁.1) (λ st x. meet_spends ds rec cap d st x) open_one open_none closed open_domain (open_named closed)
              (grows_words (run_grow ds d y₁.1)) (grows_words (run_grow ds c y₀)) (made_behind h) (ints_then (run_grow ds c y₀) (run_grow ds d y₁.1)) gb u)
            where
              ints_then : {a b c : Log} → Grows a b → Grows b c → next_int a ≤ next_int c
              ints_then g h = (Rattle.walk.proofs.Grow.then g h).ints

          open_whole : GoodAt n st s → st.used ≤ words_of s + k → OutcomeAt k n (λ w. PlacedInt w ds t s × PlacedInt w ds f ta.1 × open_placed w) st (meet_new ds rec cap parts st) (known e (next_int fb.1) ∷ y₃)
          open_whole g u = new_whole ds F PlainInt parted K (fixed ds) rec cap with_ifs before (Named ds) (names ds) P low parts e ch.node k n st s ta.1 fb.1 (known e (next_int fb.1) ∷ y₃) (λ w. PlacedInt w ds t s) (λ w. PlacedInt w ds f ta.1) open_placed
              (λ k n st. visit-t k n st s) (λ k n st. visit-f k n st ta.1) (λ st x. int_meet_spends ds rec cap f st x) (grows_words (int_grow ds t s)) (grows_words (int_grow ds f ta.1)) (made_least h) open_finish g u

        -- ---- constant branches, the condition a declared variable

        abbrev jx : ℤ
        jx = constant_of ta.0

        abbrev jy : ℤ
        jy = constant_of fb.0

        made_first : test ≡ true → 4 + words_of fb.1 ≤ words_of (if_constant ds i (condition_of e) polarity jx jy fb.1).1
        made_first h = subst (λ (l : Log). 4 + words_of fb.1 ≤ words_of l) (ap (λ (x : LinearSum × Log). x.1) (choice_constant ds i p e c d t f s new h)) (made_words ds i p e c d t f s new)

        module _ (k n : ℕ) (st : State) (h : test ≡ true) (closed : fixed ds e ≡ true) where
          -- whatever the condition is
          constant_whole : (o : Option ℕ) → own_var (condition_of e) ≡ o → (C : List ℤ → Type 0) → (l : Log) → 4 + words_of fb.1 ≤ words_of l
              → ((b : State) (gb : GoodAt (16 + n) b fb.1) → b.used ≤ words_of fb.1 + (k + 4) → OutcomeAt k n C b (meet_constant ds rec cap parts jx jy o (with_work (set_cell (p.at + 1) (negsuc 0) b.work) b)) l)
              → GoodAt n st s → st.used ≤ words_of s + k → OutcomeAt k n (λ w. PlacedInt w ds t s × PlacedInt w ds f ta.1 × C w) st (meet_new ds rec cap parts st) l
          constant_whole o oe C l wl fin g u = new_whole ds F PlainInt parted K (fixed ds) rec cap with_ifs before (Named ds) (names ds) P low parts e ch.node k n st s ta.1 fb.1 l (λ w. PlacedInt w ds t s) (λ w. PlacedInt w ds f ta.1) C
              (λ k n st. visit-t k n st s) (λ k n st. visit-f k n st ta.1) (λ st x. int_meet_spends ds rec cap f st x) (grows_words (int_grow ds t s)) (grows_words (int_grow ds f ta.1)) wl finish g u
            where
              finish : (a b : State) → GoodAt (16 + n) (spend 4 st) s → GoodAt (16 + n) a ta.1 → GoodAt (16 + n) b fb.1 → b.used ≤ words_of fb.1 + (k + 4)
                  → ((w : List ℤ) → LaterAt b.work w → PlacedInt w ds t s × PlacedInt w ds f ta.1) → OutcomeAt k n C b (meet_branches ds rec cap parts (spend 4 st) a b) l
              finish a b gs ga gb u f' =
                  subst (λ (x : State). OutcomeAt k n C b x l)
                  (sym (branches_go (16 + n) (spend 4 st) a b gs ga gb (f' b.work (same_later ds F PlainInt parted K (fixed ds) b.work))
                  ∙ ap (λ r. cond r (meet_constant ds rec cap parts jx jy (own_var (condition_of e)) (with_work (set_cell (p.at + 1) (negsuc 0) b.work) b)) (meet_open ds rec cap parts dom b)) h
                  ∙ ap (λ r. meet_constant ds rec cap parts jx jy r (with_work (set_cell (p.at + 1) (negsuc 0) b.work) b)) oe))
                  (fin b gb u)

          -- the literal's word
          own_word : (v : ℕ) → v < max_bools → (m : ℕ) (st : State) → GoodAt m st (convert_bool_var v fb.1).1 → bool_at st.work v ≡ lit_word (convert_bool_var v fb.1).0
          own_word v l m st g = g.map v l ∙ found_word (convert_bool_var v fb.1).0 (get_bool_var v (convert_bool_var v fb.1).1) (bool_found v fb.1)

          abbrev own_log : ℕ → Log
          own_log v = int (two_valued i (convert_bool_var v fb.1).0 jx jy) ∷ (convert_bool_var v fb.1).1

          own_finish : (v : ℕ) → v < max_bools → (b : State) (gb : GoodAt (16 + n) b fb.1) → b.used ≤ words_of fb.1 + (k + 4)
              → OutcomeAt k n (λ w. (seen w p ≡ both_constant) × Unit {0}) b (meet_constant ds rec cap parts jx jy (some v) (with_work (set_cell (p.at + 1) (negsuc 0) b.work) b)) (own_log v)
          own_finish v l b gb u =
              let m = two_valued i (convert_bool_var v fb.1).0 jx jy in
              let g' = own_good ds F PlainInt parted K (fixed ds) rec cap with_ifs before (Named ds) (names ds) P low parts e ch.node k n b fb.1 (convert_bool_var v fb.1).1 m jx jy v l closed new_behind (two_valued_made i (convert_bool_var v fb.1).0 jx jy) refl gb in
              let z = own_word v l (16 + n) _ g' in
              own_outcome ds F PlainInt parted K (fixed ds) rec cap with_ifs before (Named ds) (names ds) P low parts e ch.node k n b fb.1 (convert_bool_var v fb.1).1 m jx jy v l closed new_behind (two_valued_made i (convert_bool_var v fb.1).0 jx jy) refl gb
              (two_made i ds (convert_bool_var v fb.1).0 _ jx jy z (neg_lit (convert_bool_var v fb.1).0 _ z)) u (grows_words (bool_var_grows v fb.1))

          -- ---- another condition

          abbrev cond_log : Log
          cond_log = int (two_valued i (lit c₀ false) jx jy) ∷ defined (x₃.0 ++ x₄.0) ∷ x₄.1

          const_log : own_literal (condition_of e) ≡ none → (if_constant ds i (condition_of e) polarity jx jy fb.1).1 ≡ cond_log
          unfolding if_constant condition_literal define cross-run run_then normalize_num no_run
          const_log q = ap (λ o. let l = condition_literal o (condition_of e) polarity fb.1 in int (two_valued i l.0 jx jy) ∷ l.1) q

          const_words : own_var (condition_of e) ≡ none → own_literal (condition_of e) ≡ none → 4 + (exact c + exact d) + words_of x₂.1 ≤ words_of cond_log
          const_words q r = subst (λ (l : Log). 4 + (exact c + exact d) + words_of x₂.1 ≤ words_of l) (ap (λ (x : LinearSum × Log). x.1) (choice_constant ds i p e c d t f s new h) ∙ const_log r) (constant_behind ds i p e c d t f s new pc lc pd ld h q no_number)

          cond_finish : own_var (condition_of e) ≡ none → own_literal (condition_of e) ≡ none → (b : State) (gb : GoodAt (16 + n) b fb.1) → b.used ≤ words_of fb.1 + (k + 4)
              → OutcomeAt k n (λ w. (seen w p ≡ both_constant) × (Placed w ds d x₀ × Placed w ds c x₁.1)) b (meet_constant ds rec cap parts jx jy none (with_work (set_cell (p.at + 1) (negsuc 0) b.work) b)) cond_log
          cond_finish q r b gb u =
              let w' = number_word b (16 + n) gb in
              let to : (g : Bool) (x : Item) → num_item c₀ g ∷ x ∷ [] ≡ num_item b.bools g ∷ x ∷ [] = λ g x. ap (λ a. num_item a g ∷ x ∷ []) (sym gb.bools) in
              constant_outcome ds F PlainInt parted K (fixed ds) rec cap with_ifs before (Named ds) (names ds) P low parts e ch.node k n b fb.1 (two_valued i (lit c₀ false) jx jy) jx jy x₀ x₁.1 x₂.1 x₃.1 (defined (x₃.0 ++ x₄.0) ∷ x₄.1)
              (λ w. Placed w ds c x₁.1) (λ w. Placed w ds d x₀) (exact c) (exact d) (weight ds c) (weight ds d) closed new_behind (two_valued_made i (lit c₀ false) jx jy) (two_made i ds (lit c₀ false) _ jx jy w' (neg_lit (lit c₀ false) _ w'))
              (leaves_both c d) (beside_low ds b.bools true c pc lc) (beside_low ds b.bools false d pd ld) (λ k n st. visit-d k n st x₀) (λ k n st. visit-c k n st x₁.1) (λ st y. meet_spends ds rec cap c st y)
              (side_quiet (Named ds) (names ds) (condition_of e) fb.1)
              (λ w y a b'. subst (λ (is : List Item). Quiet (Named ds) x₂.1 x₃.1 (fresh (tallies is))) (to false (item ds d)) (first_quiet w y a))
              (λ w y a b'. subst (λ (is : List Item). Quiet (Named ds) x₃.1 (defined (x₃.0 ++ x₄.0) ∷ x₄.1) (fresh (tallies is))) (to true (item ds c)) (second_quiet w y b'))
              (grows_words (grow_side (condition_of e) fb.1)) (grows_words (run_grow ds d x₀)) (grows_words (run_grow ds c x₁.1)) (const_words q r) gb u

          -- ---- either condition

          abbrev Constant : Option ℕ → List ℤ → Type 0
          Constant o w = (seen w p ≡ both_constant) × Visited w o (Placed w ds d x₀ × Placed w ds c x₁.1)

          by_own : (o : Option ℕ) → own_var (condition_of e) ≡ o → GoodAt n st s → st.used ≤ words_of s + k
              → OutcomeAt k n (λ w. PlacedInt w ds t s × PlacedInt w ds f ta.1 × Constant o w) st (meet_new ds rec cap parts st) (if_constant ds i (condition_of e) polarity jx jy fb.1).1
          by_own (some v) q g u =
              let r : (if_constant ds i (condition_of e) polarity jx jy fb.1).1 ≡ own_log v = own_log_is v (own_some (condition_of e) v q) in
              subst (λ (l : Log). OutcomeAt k n (λ w. PlacedInt w ds t s × PlacedInt w ds f ta.1 × Constant (some v) w) st (meet_new ds rec cap parts st) l) (sym r)
              (constant_whole (some v) q (Constant (some v)) (own_log v) (subst (λ (l : Log). 4 + words_of fb.1 ≤ words_of l) r (made_first h)) (λ b gb u'. own_finish v (ch.low_var v q) b gb u') g u)
            where
              own_log_is : (v : ℕ) → own_literal (condition_of e) ≡ some (convert_bool_var v) → (if_constant ds i (condition_of e) polarity jx jy fb.1).1 ≡ own_log v
              own_log_is v r = unfold if_constant in unfold condition_literal in ap (λ o. let l = condition_literal o (condition_of e) polarity fb.1 in int (two_valued i l.0 jx jy) ∷ l.1) r
          by_own none q g u =
              let ol = own_none (condition_of e) no_number q in
              let r = const_log ol in
              subst (λ (l : Log). OutcomeAt k n (λ w. PlacedInt w ds t s × PlacedInt w ds f ta.1 × Constant none w) st (meet_new ds rec cap parts st) l) (sym r)
              (constant_whole none q (Constant none) cond_log (subst (λ (l : Log). 4 + words_of fb.1 ≤ words_of l) r (made_first h)) (λ b gb u'. cond_finish q ol b gb u') g u)

        -- ---- either way

        by_test : (k n : ℕ) (st : State) → Named ds s → (r : Bool) → test ≡ r → GoodAt n st s → st.used ≤ words_of s + k
            → OutcomeAt k n (RestAt i r) st (meet_new ds rec cap parts st) (cond r (if_constant ds i (condition_of e) polarity jx jy fb.1) (if_open ds i e polarity ta.0 fb.0 fb.1)).1
        by_test k n st nm true h g u = by_own k n st h (sym (ch.decided s nm) ∙ h) (own_var (condition_of e)) refl g u
        by_test k n st nm false h g u =
            subst (λ (l : Log). OutcomeAt k n (RestAt i false) st (meet_new ds rec cap parts st) l) (sym open_log)
            (outcome_to ds F PlainInt parted K (fixed ds) rec cap with_ifs before (Named ds) (λ w x. (x.0, x.1, open_is w x.2)) (open_whole k n st h (sym (ch.decided s nm) ∙ h) g u))
          where
            open_is : (w : List ℤ) → open_placed w → Numbered w p (next_int fb.1) dom × Placed w ds c y₀ × Placed w ds d y₁.1
            open_is w x = let y : Numbered w p (next_int fb.1) dom × (Placed w ds c y₀ × Placed w ds d y₁.1) = unfold open_placed in x in (y.0, y.1.0, y.1.1)

    -- ---- the If, known or new

    if_visit : (i : IfIsRead) → VisitsInt (choice i p e c d t f)
    unfolding form_meet form run_int PlacedInt normalize_if
    if_visit i k n st s g u = outcome_with ds F PlainInt parted K (fixed ds) rec cap with_ifs before (Named ds) ch.some_ifs (go (get_if e s) refl)
      where
        go : (o : Option ℕ) → get_if e s ≡ o
            → OutcomeAt k n (λ w. Known w ds o p s (RestAt s i (is_constant (run_int ds t s).0 && is_constant (run_int ds f (run_int ds t s).1).0) w)) st (meet_if ds rec cap parts st) (normalize_if ds i o e (condition_of e) (λ g s. cond g (run ds d s) (run ds c s)) (run_int ds t) (run_int ds f) s).1
        go (some v) h = known_outcome ds F PlainInt parted K (fixed ds) rec cap with_ifs before (Named ds) (names ds) P low parts e ch.node n st s g v h k u
        go none h = subst (λ (x : State). OutcomeAt k n (RestAt s i (is_constant (run_int ds t s).0 && is_constant (run_int ds f (run_int ds t s).1).0)) st x (normalize_if ds i none e (condition_of e) (λ g s. cond g (run ds d s) (run ds c s)) (run_int ds t) (run_int ds f) s).1) (sym (new_outcome ds F PlainInt parted K (fixed ds) rec cap with_ifs before (Named ds) (names ds) P low parts e ch.node n st s g h)) (by_test s i h k n st g.named _ refl g u)

  -- ---- steps of trees

  var_visit : (v : ℕ) (g : Bool) → v < max_bools → Visits (var v g)
  unfolding form_meet form run Placed normalize_var weight
  var_visit v g h k n st s gd u = good
      (good_bool ds F PlainInt parted K (fixed ds) rec cap with_ifs before (Named ds) (names ds) P v h n st s (good_less ds F PlainInt parted K (fixed ds) rec cap with_ifs before (Named ds) (0 + n) n st s (omega arith) gd))
      (omega (arith, u, bool_spends ds rec cap v st, grows_words (bool_var_grows v s))) (bool_later ds F PlainInt parted K (fixed ds) v h st) (λ w l. tt)

  ivar_visit : (v : ℕ) → v < max_ints → VisitsInt (ivar v)
  unfolding form_meet form run_int PlacedInt normalize_int_var
  ivar_visit v h k n st s gd u = good (good_int ds F PlainInt parted K (fixed ds) rec cap with_ifs before (Named ds) (names ds) P v h n st s gd) (omega (arith, u, int_spends ds rec cap v st, grows_words (int_var_grows v s))) (int_later ds F PlainInt parted K (fixed ds) ds rec cap v h st) (λ w l. tt)

  stay : (k n : ℕ) (st : State) (s : Log) → GoodAt n st s → st.used ≤ words_of s + k → OutcomeAt k n (λ w. Unit {0}) st st s
  stay k n st s g u = good g u (same_later ds F PlainInt parted K (fixed ds) st.work) (λ w l. tt)

  less : (m n : ℕ) (st : State) (s : Log) → n ≤ m → GoodAt m st s → GoodAt n st s
  less m n st s h g = good_less ds F PlainInt parted K (fixed ds) rec cap with_ifs before (Named ds) m n st s h g

  abbrev VisitsAll : Trees → Type 0
  VisitsAll ts = (k n : ℕ) (st : State) (s : Log) → GoodAt (weights ds ts + n) st s → st.used ≤ words_of s + k → OutcomeAt k n (λ w. PlacedAll w ds ts s) st (meets ds rec cap ts st) (runs ds ts s).1

  abbrev VisitsTerms : TermTrees → Type 0
  VisitsTerms ts = (k n : ℕ) (st : State) (l : LinearSum) (s : Log) → GoodAt n st s → st.used ≤ words_of s + k → OutcomeAt k n (λ w. PlacedTerms w ds ts s) st (meet_terms ds rec cap ts st) (run_terms ds ts l s).1

  cons_visit : (t : Tree) (ts : Trees) → Visits t → VisitsAll ts → VisitsAll (cons t ts)
  unfolding form_meet form runs PlacedAll weights run_then
  cons_visit t ts x y k n st s g u =
      outcome_then ds F PlainInt parted K (fixed ds) rec cap with_ifs before (Named ds) k (weights ds ts + n) n (λ w. Placed w ds t s) (λ w. PlacedAll w ds ts (run ds t s).1) st (meet ds rec cap t st) (meets ds rec cap ts (meet ds rec cap t st)) (run ds t s).1 (runs ds ts (run ds t s).1).1
      (λ h. meets_spends ds rec cap ts (meet ds rec cap t st) h) (grows_words (runs_grow ds ts (run ds t s).1)) (x k (weights ds ts + n) st s (less _ _ st s (omega arith) g) u) (λ g' u'. y k n (meet ds rec cap t st) (run ds t s).1 g' u')

  cmp_visit : (o : CmpOp) (a b : IntTree) (g : Bool) → VisitsInt a → VisitsInt b → Visits (cmp o a b g)
  unfolding form_meet form run Placed weight normalize_comparison
  cmp_visit o a b g x y k n st s gd u =
      outcome_then ds F PlainInt parted K (fixed ds) rec cap with_ifs before (Named ds) k n n (λ w. PlacedInt w ds a s) (λ w. PlacedInt w ds b (run_int ds a s).1) st (meet_int ds rec cap a st) (meet_int ds rec cap b (meet_int ds rec cap a st)) (run_int ds a s).1 (run_int ds b (run_int ds a s).1).1
      (λ h. int_meet_spends ds rec cap b (meet_int ds rec cap a st) h) (grows_words (int_grow ds b (run_int ds a s).1)) (x k n st s (less _ _ st s (omega arith) gd) u) (λ g' u'. y k n (meet_int ds rec cap a st) (run_int ds a s).1 g' u')

  term_visit : (c : ℤ) (e : IntTree) (ts : TermTrees) → VisitsInt e → VisitsTerms ts → VisitsTerms (term c e ts)
  unfolding form_meet form run_terms PlacedTerms normalize_term
  term_visit c e ts x y k n st l s g u =
      let l' = add_sum l (mul_sum c (run_int ds e s).0) in
      outcome_then ds F PlainInt parted K (fixed ds) rec cap with_ifs before (Named ds) k n n (λ w. PlacedInt w ds e s) (λ w. PlacedTerms w ds ts (run_int ds e s).1) st (meet_int ds rec cap e st) (meet_terms ds rec cap ts (meet_int ds rec cap e st)) (run_int ds e s).1 (run_terms ds ts l' (run_int ds e s).1).1
      (λ h. terms_meet_spends ds rec cap ts (meet_int ds rec cap e st) h) (grows_words (terms_grow ds ts l' (run_int ds e s).1)) (x k n st s g u) (λ g' u'. y k n (meet_int ds rec cap e st) l' (run_int ds e s).1 g' u')

  -- the numbers of a disjunction of visited members, at a later log
  members_quiet : (ts : Trees) → Propers ts → (s z : Log) → Grows (runs ds ts s).1 z → (w : List ℤ) → Ready w z → PlacedAll w ds ts s → Quiet (Named ds) z (normalize_disjunction (runs ds ts s).0 z).1 (fresh (tallies (items ds ts)))
  members_quiet ts p s z gr w r pl = disj_quiet ds F PlainInt parted K (fixed ds) rec cap with_ifs before (Named ds) (names ds) P low w (items ds ts) s (runs ds ts s) ((items_good w ds ts p).from s (ready_back gr r) pl) z

  disj_visit : (ts : Trees) → Propers ts → VisitsAll ts → Visits (disj ts)
  unfolding form_meet form run Placed weight disjunction_of
  disj_visit ts p x k n st s g u =
      let j = fresh (tallies (items ds ts)) in
      fresh_outcome ds F PlainInt parted K (fixed ds) rec cap with_ifs before (Named ds) (names ds) P low k n (λ w. PlacedAll w ds ts s) st (meets ds rec cap ts st) (runs ds ts s).1 (normalize_disjunction (runs ds ts s).0 (runs ds ts s).1).1 j
      (λ w r pl. members_quiet ts p s (runs ds ts s).1 same w r pl) (grows_words (disjunction_grows (runs ds ts s).0 (runs ds ts s).1)) (x k (j + n) st s (less _ _ st s (omega arith) g) u)

  cross_visit : (ts us : Trees) → Propers ts → Propers us → VisitsAll ts → VisitsAll us → Visits (cross ts us)
  unfolding form_meet form run Placed weight cross-run
  cross_visit ts us p q x y k n st s g u =
      let jt = fresh (tallies (items ds ts)) in
      let ju = fresh (tallies (items ds us)) in
      let a = runs ds ts s in
      let b = runs ds us a.1 in
      let c = normalize_disjunction a.0 b.1 in
      let both = outcome_then ds F PlainInt parted K (fixed ds) rec cap with_ifs before (Named ds) k (weights ds us + (jt + (ju + n))) (jt + (ju + n)) (λ w. PlacedAll w ds ts s) (λ w. PlacedAll w ds us a.1) st (meets ds rec cap ts st) (meets ds rec cap us (meets ds rec cap ts st)) a.1 b.1
      (λ h. meets_spends ds rec cap us (meets ds rec cap ts st) h) (grows_words (runs_grow ds us a.1)) (x k (weights ds us + (jt + (ju + n))) st s (less _ _ st s (omega arith) g) u) (λ g' u'. y k (jt + (ju + n)) (meets ds rec cap ts st) a.1 g' u') in
      let first = fresh_outcome ds F PlainInt parted K (fixed ds) rec cap with_ifs before (Named ds) (names ds) P low k (ju + n) (λ w. PlacedAll w ds ts s × PlacedAll w ds us a.1) st (meets ds rec cap us (meets ds rec cap ts st)) b.1 c.1 jt
      (λ w r pl. members_quiet ts p s b.1 (runs_grow ds us a.1) w r pl.0) (grows_words (disjunction_grows a.0 b.1)) both in
      fresh_outcome ds F PlainInt parted K (fixed ds) rec cap with_ifs before (Named ds) (names ds) P low k n (λ w. PlacedAll w ds ts s × PlacedAll w ds us a.1) st _ c.1 (normalize_disjunction b.0 c.1).1 ju
      (λ w r pl. members_quiet us q a.1 c.1 (disjunction_grows a.0 b.1) w r pl.1) (grows_words (disjunction_grows b.0 c.1)) first

  tied_visit : (v : ℕ) (t t' : Tree) → Proper t → Leafy t → Proper t' → Leafy t' → Visits t → Visits t' → Visits (tied v t t')
  unfolding form_meet form run Placed weight cross-run run_then normalize_num no_run
  tied_visit v t t' p l p' l' x y k n st s g u =
      let a = run ds t s in
      let b = run ds t' a.1 in
      rw (beside [] a.0 (lit v true) b.1 (some_clause ds t p l s), beside [] b.0 (lit v false) b.1 (some_clause ds t' p' l' a.1))
      (outcome_then ds F PlainInt parted K (fixed ds) rec cap with_ifs before (Named ds) k (weight ds t' + n) n (λ w. Placed w ds t s) (λ w. Placed w ds t' a.1) st (meet ds rec cap t st) (meet ds rec cap t' (meet ds rec cap t st)) a.1 b.1
      (λ h. meet_spends ds rec cap t' (meet ds rec cap t st) h) (grows_words (run_grow ds t' a.1)) (x k (weight ds t' + n) st s (less _ _ st s (omega arith) g) u) (λ g' u'. y k n (meet ds rec cap t st) a.1 g' u'))

  num_visit : (m : ℕ) (g : Bool) → Visits (num m g)
  unfolding form_meet form run Placed weight normalize_num
  num_visit m g k n st s gd u = stay k n st s (less _ n st s (omega arith) gd) u

  conj_visit : (ts : Trees) → VisitsAll ts → Visits (conj ts)
  unfolding form_meet form run Placed weight normalize_conjunction
  conj_visit ts x k n st s g u = x k n st s g u

  nil_visit : VisitsAll nil
  unfolding form_meet form runs PlacedAll weights no_run
  nil_visit k n st s g u = stay k n st s (less _ n st s (omega arith) g) u

  const_visit : (c : ℤ) → VisitsInt (const c)
  unfolding form_meet form run_int PlacedInt
  const_visit c k n st s g u = stay k n st s g u

  sum_visit : (ts : TermTrees) → VisitsTerms ts → VisitsInt (sum ts)
  unfolding form_meet form run_int PlacedInt
  sum_visit ts x k n st s g u = x k n st (constant (pos 0)) s g u

  none_visit : VisitsTerms no_terms
  unfolding form_meet form run_terms PlacedTerms
  none_visit k n st l s g u = stay k n st s g u

  -- ---- every tree

  mutual
    unfolding Proper Leafy Facts

    pub visit : (t : Tree) → Proper t → Leafy t → Facts t → Visits t
    visit (var v g) p l f = var_visit v g p
    visit (num m g) p l f = num_visit m g
    visit (cmp o a b g) p l f = cmp_visit o a b g (visit_int a p.0 l.0 f.0) (visit_int b p.1 l.1 f.1)
    visit (conj ts) p l f = conj_visit ts (visits ts p.1 l f)
    visit (disj ts) p l f = disj_visit ts p (visits ts p l.1 f)
    visit (cross ts us) p l f = cross_visit ts us p.0 p.1 (visits ts p.0 l.2 f.0) (visits us p.1 l.3 f.1)
    visit (tied v t u) p l f = tied_visit v t u p.1 l.0 p.2 l.1 (visit t p.1 l.0 f.0) (visit u p.2 l.1 f.1)

    pub visits : (ts : Trees) → Propers ts → Leafies ts → FactsAll ts → VisitsAll ts
    visits nil p l f = nil_visit
    visits (cons t ts) p l f = cons_visit t ts (visit t p.0 l.0 f.0) (visits ts p.1 l.1 f.1)

    pub visit_int : (e : IntTree) → ProperInt e → LeafyInt e → FactsInt e → VisitsInt e
    visit_int (const c) p l f = const_visit c
    visit_int (ivar v) p l f = ivar_visit v p
    visit_int (sum ts) p l f = sum_visit ts (visit_terms ts p l f)
    visit_int (choice i q e c d t u) p l f = if_visit q e c d t u f.0 p.0 p.1 p.2 p.3 p.4 l.0 l.1 (visit c p.1 l.0 f.1) (visit d p.2 l.1 f.2) (visit_int t p.3 l.2 f.3) (visit_int u p.4 l.3 f.4) i

    pub visit_terms : (ts : TermTrees) → ProperTerms ts → LeafyTerms ts → FactsTerms ts → VisitsTerms ts
    visit_terms no_terms p l f = none_visit
    visit_terms (term c e ts) p l f = term_visit c e ts (visit_int e p.0 l.0 f.0) (visit_terms ts p.1 l.1 f.1)
