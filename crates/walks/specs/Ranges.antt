-- The domain that the first walk finds for an integer tree's sum is the definition's, at the log behind the tree and at every later one.
-- w: a work slice as `Placed` says of the tree. Of the log nothing more is asked: a declared variable's number has its domain in every log.
use Rattle.std.specs.Prelude.{◌≡◌, Bool, not, ◌&&◌, ℤ, pos, ◌+ℤ◌, eqb}
use Rattle.std.proofs.Math.Path.{refl, sym, ap}
use Rattle.std.proofs.Common.{◌∙◌, arith, eq-eqb, eqb-true}
use Rattle.std.proofs.Math.Bool.{true, false, cond}
use Rattle.std.proofs.Math.Option.{Option, none, some}
use mathlib.Core.List.{List, [], ◌∷◌}
use Prim.Native.Nat.{ℕ, suc, ◌+◌, ◌<◌}
use Rattle.std.specs.Int.Signed.{le_z, lt_z}
use Rattle.laws.specs.Ints.{eqZ, lower, higher, times_low, times_high}
use Rattle.laws.specs.Order.{eqZ_is, leZ_lt, leZ_not, leZ_refl, ltZ_tri}
use Rattle.syntax.specs.Syntax.{IfIsRead, Domain, Range, lower_bound, upper_bound, domain_of, IntExpr}
use Rattle.sums.specs.LinearSum.{Term, term, LinearSum, linear_sum, constant, singleton, is_constant, add_sum, mul_sum, lowest, highest, get_domain_linear_sum}
use Rattle.sums.specs.Rising.{terms_of, constant_of, Each}
use Rattle.sums.proofs.RisingLaws.{constant_each, singleton_each, add_sum_each, mul_sum_each, each_map}
use Rattle.clauses.specs.Clause.{BoolLit}
use Rattle.clauses.specs.Log.{side, bool, declared_int, column, chosen, binary, int, Log, negate_lit, next_int, get_int_var, get_if, int_var_at, convert_int_var, domain_made}
use Rattle.clauses.specs.Normalize.{Run, IntRun, IntOut, normalize_int_var, normalize_term, two_valued, own_literal, condition_literal, domain_of_sum, if_constant, if_open, normalize_if}
use Rattle.clauses.proofs.Grow.{get_int_below}
use Rattle.clauses.proofs.Emitted.{domain_at, new_domain, int_var_domain}
use Rattle.clauses.proofs.Since.{OnTop, here, top_domain}
use Rattle.walk.specs.Item.{int_number}
use Rattle.walk.specs.declared.Counters.{Counters}
use Rattle.walk.proofs.Grow.{Grows, int_here}
use Rattle.walks.specs.Tree.{own_var, Place, Tree, IntTree, const, ivar, sum, choice, TermTrees, none as no_terms, term as term-tree, condition_of, run, run_int, run_terms}
use Rattle.walks.specs.Form.{form}
use Rattle.walks.specs.Item.{form_item, cell, both_constant, seen, constant_in, IntItem, const_item, or_else, ivar_item, no_terms_item, term_item, sum_item, if_domain, choice_item, int_item, terms_item}
use Rattle.walks.specs.Placed.{Numbered, Visited, Either, Known, opened, either_domain, Placed, PlacedInt, PlacedTerms}
use Rattle.walks.specs.Meet.{found, range_of}
use Rattle.walks.specs.Grow.{either_grows, opened_grows, if_constant_grows, run_grow, int_grow, terms_grow}
use Rattle.walks.specs.Implements.{ProperInt, ProperTerms, at, Ready, ready_back, open_is, ivar_good, int_good}

-- ---- the domain of a sum depends on the bounds of its numbers' domains only

pub record SameBounds (a b : Domain) : Type 0 where
  pub low : lower_bound a ≡ lower_bound b
  pub high : upper_bound a ≡ upper_bound b

bounds_to : {a b c : Domain} → SameBounds a b → b ≡ c → SameBounds a c
bounds_to s e = record { low = s.low ∙ ap lower_bound e; high = s.high ∙ ap upper_bound e }

bounds_eq : (a b : Domain) → a ≡ b → SameBounds a b
bounds_eq a b e = record { low = ap lower_bound e; high = ap upper_bound e }

module _ (f g : ℕ → Domain) where
  lowest_same : (c : ℤ) (ts : List Term) → Each (λ v. SameBounds (f v) (g v)) ts → lowest f c ts ≡ lowest g c ts
  unfolding lowest Each
  lowest_same c [] e = refl
  lowest_same c (term v a ∷ ts) e =
      lowest_same (c +ℤ times_low a (lower_bound (f v)) (upper_bound (f v))) ts e.1
      ∙ ap (λ x. lowest g (c +ℤ times_low a x (upper_bound (f v))) ts) e.0.low
      ∙ ap (λ x. lowest g (c +ℤ times_low a (lower_bound (g v)) x) ts) e.0.high

  highest_same : (c : ℤ) (ts : List Term) → Each (λ v. SameBounds (f v) (g v)) ts → highest f c ts ≡ highest g c ts
  unfolding highest Each
  highest_same c [] e = refl
  highest_same c (term v a ∷ ts) e =
      highest_same (c +ℤ times_high a (lower_bound (f v)) (upper_bound (f v))) ts e.1
      ∙ ap (λ x. highest g (c +ℤ times_high a x (upper_bound (f v))) ts) e.0.low
      ∙ ap (λ x. highest g (c +ℤ times_high a (lower_bound (g v)) x) ts) e.0.high

  pub domain_same : (l : LinearSum) → Each (λ v. SameBounds (f v) (g v)) (terms_of l) → get_domain_linear_sum f l ≡ get_domain_linear_sum g l
  unfolding get_domain_linear_sum
  domain_same (linear_sum c ts) e = ap (λ x. Range x (highest f c ts)) (lowest_same c ts e) ∙ ap (Range (lowest g c ts)) (highest_same c ts e)

-- the number of a sum that is one number
abbrev first_of : List Term → ℕ
first_of [] = 0
first_of (term v a ∷ ts) = v

abbrev first_number : LinearSum → ℕ
first_number l = first_of (terms_of l)

last_below : (k : ℕ) → k < suc k
last_below k = omega arith

-- ---- two constants: between the lower and the higher

two_bounds : (x y : ℤ) → Range (lower x y) (higher x y) ≡ cond (lt_z x y) (Range x y) (cond (eqZ x y) (Range x x) (Range y x))
two_bounds x y = go (lt_z x y) (eqZ x y) refl refl
  where
    go : (a b : Bool) → lt_z x y ≡ a → eqZ x y ≡ b → Range (lower x y) (higher x y) ≡ cond a (Range x y) (cond b (Range x x) (Range y x))
    go true b p q = rw (leZ_lt x y p)
    go false true p q = let e : x ≡ y = eqZ_is x y q in rw (← e, leZ_refl x)
    go false false p q = let n : le_z x y ≡ false = leZ_not x y ∙ ap not (ltZ_tri x y p q) in rw n

-- ---- a number whose domain is found

abbrev IsFound : Option Domain → Type 0
IsFound none = ⊥
IsFound (some d) = Unit {0}

found_first : (o p : Option Domain) → IsFound o → IsFound (or_else o p)
found_first (some d) p h = tt
found_first none p h = absurd h

found_second : (o p : Option Domain) → IsFound p → IsFound (or_else o p)
found_second (some d) p h = tt
found_second none p h = h

single_found : (d : Domain) (n : ℕ) (l : LinearSum) → singleton n ≡ l → Each (λ x. IsFound (cond (eqb x n) (some d) none)) (terms_of l)
single_found d n l e = rw (← e) (singleton_each (λ x. IsFound (cond (eqb x n) (some d) none)) n (rw (eq-eqb n n refl) tt))

below_later : (x : ℕ) (s t : Log) → Grows s t → x < next_int s → x < next_int t
below_later x s t g l = omega (arith, g.ints)

module _ (ds : List Domain) where
  two_made : (i : IfIsRead) (l : BoolLit) (x y : ℤ) → domain_made ds (two_valued i l x y) ≡ cond (lt_z x y) (Range x y) (cond (eqZ x y) (Range x x) (Range y x))
  two_made i l x y = go (lt_z x y) (eqZ x y)
    where
      go : (a b : Bool) → domain_made ds (cond a (binary i (negate_lit true l) x y) (cond b (column (constant x) (Range x x)) (binary i l y x))) ≡ cond a (Range x y) (cond b (Range x x) (Range y x))
      go true b = refl
      go false true = refl
      go false false = refl

  -- ---- what is found for a number: its domain's bounds in the log t

  abbrev pub RightAt : Log → ℕ → Option Domain → Type 0
  RightAt t x none = Unit {0}
  RightAt t x (some d) = (x < next_int t) × SameBounds d (domain_at ds t x)

  right_either : (t : Log) (x : ℕ) (o p : Option Domain) → RightAt t x o → RightAt t x p → RightAt t x (or_else o p)
  right_either t x (some d) p a b = a
  right_either t x none p a b = b

  right_later : (s t : Log) (x : ℕ) (o : Option Domain) → Grows s t → RightAt s x o → RightAt t x o
  right_later s t x none g r = tt
  right_later s t x (some d) g r = (below_later x s t g r.0, bounds_to r.1 (sym (top_domain ds g.top x r.0)))

  found_right : (s t : Log) → OnTop s t → (x : ℕ) (o : Option Domain) → IsFound o → RightAt s x o → SameBounds (found o) (domain_at ds t x)
  found_right s t g x none h r = absurd h
  found_right s t g x (some d) h r = bounds_to r.1 (sym (top_domain ds g x r.0))

  -- one number n, with the domain d; it is v in the log
  single_right : (t : Log) (d : Domain) (n v : ℕ) → singleton n ≡ singleton v → v < next_int t → SameBounds d (domain_at ds t v) → (x : ℕ) → RightAt t x (cond (eqb x n) (some d) none)
  single_right t d n v e l r x = go (eqb x n) refl
    where
      q : n ≡ v
      q = ap first_number e

      go : (b : Bool) → eqb x n ≡ b → RightAt t x (cond b (some d) none)
      go true h = let z : x ≡ v = eqb-true x n h ∙ q in rw z (l, r)
      go false h = tt

-- ---- an If's domain

module _ (w : List ℤ) (ds : List Domain) where
  -- by its number: as kept
  known_domain : (p : Place) (t f : IntItem) (n : Counters) (v : ℕ) (d : Domain) → Numbered w p v d → SameBounds (if_domain p t f w n) d
  unfolding if_domain
  known_domain p t f n v d h =
      let x = constant_of (t.total w n) in
      let y = constant_of (f.total w (t.behind w n)) in
      let e : if_domain p t f w n ≡ Range (cell w (p.at + 2)) (cell w (p.at + 3)) = ap (λ q. cond q (Range (lower x y) (higher x y)) (Range (cell w (p.at + 2)) (cell w (p.at + 3)))) (open_is w (seen w p) v h.number) in
      record { low = ap lower_bound e ∙ h.low; high = ap upper_bound e ∙ h.high }

  -- of constant branches
  constant_domain : (p : Place) (t f : IntItem) (n : Counters) (a b : LinearSum) → seen w p ≡ both_constant → t.total w n ≡ a → f.total w (t.behind w n) ≡ b
      → if_domain p t f w n ≡ Range (lower (constant_of a) (constant_of b)) (higher (constant_of a) (constant_of b))
  unfolding if_domain
  constant_domain p t f n a b e h k =
      let x = constant_of (t.total w n) in
      let y = constant_of (f.total w (t.behind w n)) in
      ap (λ q. cond (constant_in q) (Range (lower x y) (higher x y)) (Range (cell w (p.at + 2)) (cell w (p.at + 3)))) e
      ∙ ap (λ l. Range (lower (constant_of l) y) (higher (constant_of l) y)) h
      ∙ ap (λ m. Range (lower (constant_of a) (constant_of m)) (higher (constant_of a) (constant_of m))) k

  module _ (i : IfIsRead) (p : Place) (e : IntExpr) (c d : Tree) (t f : IntTree) where
    abbrev polarity : Bool → Run
    polarity g s = cond g (run ds d s) (run ds c s)

    abbrev if_run : Option ℕ → IntRun
    if_run o s = normalize_if ds i o e (condition_of e) polarity (run_int ds t) (run_int ds f) s

    abbrev if_made : Bool → IntRun
    if_made q s =
        let a = run_int ds t s in
        let b = run_int ds f a.1 in
        cond q (if_constant ds i (condition_of e) polarity (constant_of a.0) (constant_of b.0) b.1) (if_open ds i e polarity a.0 b.0 b.1)

    -- as `PlacedInt` says of a choice
    abbrev MadeNeeds : Bool → Log → Type 0
    MadeNeeds q s =
        let a = run_int ds t s in
        let b = run_int ds f a.1 in
        let x = bool (side (condition_of e)) ∷ b.1 in
        let y = opened w ds i e a.0 b.0 b.1 in
        PlacedInt w ds t s × PlacedInt w ds f a.1 ×
        Either w q
        ((seen w p ≡ both_constant) × Visited w (own_var (condition_of e)) (Placed w ds d x × Placed w ds c (run ds d x).1))
        (Numbered w p (next_int b.1) (either_domain w ds a.0 b.0 b.1) × Placed w ds c y × Placed w ds d (run ds c y).1)

    -- the number of the run's sum has the bounds that the item finds
    record RightNumber (s : Log) (o : IntOut) : Type 0 where
      number : ℕ
      only : o.0 ≡ singleton number
      below : number < next_int o.1
      bounds : SameBounds (if_domain p (int_item ds t) (int_item ds f) w (at w s)) (domain_at ds o.1 number)

    made_right : ProperInt t → ProperInt f → (q : Bool) (s : Log) → Ready w (if_made q s).1 → MadeNeeds q s → RightNumber s (if_made q s)
    unfolding if_constant if_open
    made_right pt pf true s r n =
        let a = run_int ds t s in
        let b = run_int ds f a.1 in
        let rb = ready_back (if_constant_grows ds i (condition_of e) polarity (constant_of a.0) (constant_of b.0) (either_grows (run ds c) (run ds d) (run_grow ds c) (run_grow ds d)) b.1) r in
        let u = (int_good w ds t pt).from s (ready_back (int_grow ds f a.1) rb) n.0 in
        let v = (int_good w ds f pf).from a.1 rb n.1 in
        let l = condition_literal (own_literal (condition_of e)) (condition_of e) polarity b.1 in
        let x = constant_of a.0 in
        let y = constant_of b.0 in
        record {
          number = next_int l.1;
          only = refl;
          below = last_below (next_int l.1);
          bounds = bounds_eq _ _ (
              constant_domain p (int_item ds t) (int_item ds f) (at w s) a.0 b.0 n.2.0 u.total (ap ((int_item ds f).total w) u.behind ∙ v.total)
              ∙ two_bounds x y ∙ sym (two_made ds i l.0 x y) ∙ sym (new_domain ds (two_valued i l.0 x y) l.1)
              );
        }
    made_right pt pf false s r n =
        let a = run_int ds t s in
        let b = run_int ds f a.1 in
        let v = next_int b.1 in
        let z = opened w ds i e a.0 b.0 b.1 in
        let g = opened_grows ds i e polarity a.0 b.0 (either_grows (run ds c) (run ds d) (run_grow ds c) (run_grow ds d)) b.1 in
        record {
          number = v;
          only = refl;
          below = below_later v z (if_open ds i e polarity a.0 b.0 b.1).1 g (last_below v);
          bounds = bounds_to (known_domain p (int_item ds t) (int_item ds f) (at w s) v (either_domain w ds a.0 b.0 b.1) n.2.0) (
              sym (new_domain ds (chosen i e a.0 b.0 (either_domain w ds a.0 b.0 b.1)) b.1) ∙ sym (top_domain ds g.top v (last_below v))
              );
        }

    if_right : ProperInt t → ProperInt f → (o : Option ℕ) (s : Log) → Ready w (if_run o s).1 → Known w ds o p s (MadeNeeds (is_constant (run_int ds t s).0 && is_constant (run_int ds f (run_int ds t s).1).0) s) → RightNumber s (if_run o s)
    unfolding normalize_if
    if_right pt pf (some v) s r n = record { number = v; only = refl; below = n.0; bounds = known_domain p (int_item ds t) (int_item ds f) (at w s) v (domain_at ds s v) n.1 }
    if_right pt pf none s r n = made_right pt pf (is_constant (run_int ds t s).0 && is_constant (run_int ds f (run_int ds t s).1).0) s r n

  -- ---- trees: what is found is right

  ivar_right : (v : ℕ) (s : Log) → Ready w (normalize_int_var v s).1 → (x : ℕ) → RightAt ds (normalize_int_var v s).1 x ((ivar_item ds v).range w (at w s) x)
  unfolding normalize_int_var convert_int_var ivar_item
  ivar_right v s r = go (get_int_var v s) refl ((ivar_good w ds v).from s r tt).total
    where
      go : (o : Option ℕ) → get_int_var v s ≡ o → singleton (int_number w v) ≡ singleton (int_var_at o v s).0 → (x : ℕ) → RightAt ds (int_var_at o v s).1 x (cond (eqb x (int_number w v)) (some (domain_of ds v)) none)
      go (some n) e q = single_right ds s (domain_of ds v) (int_number w v) n q (get_int_below s v n e) (bounds_eq _ _ (sym (int_var_domain ds s v n e)))
      go none e q = let z = int (declared_int v) ∷ s in single_right ds z (domain_of ds v) (int_number w v) (next_int s) q (last_below (next_int s)) (bounds_eq _ _ (sym (int_var_domain ds z v (next_int s) (int_here v s))))

  mutual
    unfolding run_int ProperInt PlacedInt form_item form const_item sum_item choice_item no_terms_item term_item normalize_term

    pub range_right : (e : IntTree) → ProperInt e → (s : Log) → Ready w (run_int ds e s).1 → PlacedInt w ds e s → (x : ℕ) → RightAt ds (run_int ds e s).1 x ((int_item ds e).range w (at w s) x)
    range_right (const c) p s r n x = tt
    range_right (ivar v) p s r n x = ivar_right v s r x
    range_right (sum ts) p s r n x = terms_right ts p (constant (pos 0)) s r n x
    range_right (choice i q e c d t f) p s r n x =
        let h = if_right i q e c d t f p.3 p.4 (get_if e s) s r n.1 in
        let u = (int_good w ds (choice i q e c d t f) p).from s r n in
        single_right ds _ _ _ h.number (u.total ∙ h.only) h.below h.bounds x

    terms_right : (ts : TermTrees) → ProperTerms ts → (l : LinearSum) (s : Log) → Ready w (run_terms ds ts l s).1 → PlacedTerms w ds ts s → (x : ℕ) → RightAt ds (run_terms ds ts l s).1 x ((terms_item ds ts).range w (at w s) x)
    terms_right no_terms p l s r n x = tt
    terms_right (term-tree k e ts) p l s r n x =
        let a = run_int ds e s in
        let m = add_sum l (mul_sum k a.0) in
        let g = terms_grow ds ts m a.1 in
        let re = ready_back g r in
        let b = ((int_good w ds e p.0).from s re n.0).behind in
        rw b (right_either ds (run_terms ds ts m a.1).1 x ((int_item ds e).range w (at w s) x) ((terms_item ds ts).range w (at w a.1) x) (right_later ds a.1 _ x ((int_item ds e).range w (at w s) x) g (range_right e p.0 s re n.0 x)) (terms_right ts p.1 m a.1 r n.1 x))

  -- ---- trees: every number of the sum is found

  abbrev AllFound : (ℕ → Option Domain) → LinearSum → Type 0
  AllFound o l = Each (λ x. IsFound (o x)) (terms_of l)

  mutual
    unfolding run_int ProperInt PlacedInt form_item form normalize_int_var ivar_item sum_item choice_item no_terms_item term_item normalize_term

    range_found : (e : IntTree) → ProperInt e → (s : Log) → Ready w (run_int ds e s).1 → PlacedInt w ds e s → AllFound ((int_item ds e).range w (at w s)) (run_int ds e s).0
    range_found (const c) p s r n = constant_each (λ x. IsFound ((int_item ds (const c)).range w (at w s) x)) c
    range_found (ivar v) p s r n = single_found (domain_of ds v) (int_number w v) _ ((ivar_good w ds v).from s r tt).total
    range_found (sum ts) p s r n = let o = (terms_item ds ts).range w (at w s) in terms_found ts p o (constant (pos 0)) s r n (constant_each (λ x. IsFound (o x)) (pos 0)) (λ x h. h)
    range_found (choice i q e c d t f) p s r n = single_found _ _ _ ((int_good w ds (choice i q e c d t f) p).from s r n).total

    -- behind a sum whose numbers are found in o, where those found here are
    terms_found : (ts : TermTrees) → ProperTerms ts → (o : ℕ → Option Domain) (l : LinearSum) (s : Log) → Ready w (run_terms ds ts l s).1 → PlacedTerms w ds ts s → AllFound o l → ((x : ℕ) → IsFound ((terms_item ds ts).range w (at w s) x) → IsFound (o x))
        → AllFound o (run_terms ds ts l s).0
    terms_found no_terms p o l s r n h f = h
    terms_found (term-tree k e ts) p o l s r n h f =
        let P : ℕ → Type 0 = λ x. IsFound (o x) in
        let a = run_int ds e s in
        let m = add_sum l (mul_sum k a.0) in
        let re = ready_back (terms_grow ds ts m a.1) r in
        let b = ((int_good w ds e p.0).from s re n.0).behind in
        let u = (int_item ds e).range w (at w s) in
        let z = (terms_item ds ts).range w ((int_item ds e).behind w (at w s)) in
        let own = each_map (λ x. IsFound (u x)) P (terms_of a.0) (λ x y. f x (found_first (u x) (z x) y)) (range_found e p.0 s re n.0) in
        terms_found ts p.1 o m a.1 r n.1 (add_sum_each P l (mul_sum k a.0) h (mul_sum_each P k a.0 own)) (λ x y. f x (found_second (u x) (z x) (rw b y)))

  -- ---- the domain of the tree's sum, at a log t over the one behind it

  pub range_is : (e : IntTree) → ProperInt e → (s : Log) → Ready w (run_int ds e s).1 → PlacedInt w ds e s → (t : Log) → OnTop (run_int ds e s).1 t → range_of (int_item ds e) w (at w s) ≡ domain_of_sum ds t (run_int ds e s).0
  unfolding range_of domain_of_sum
  range_is e p s r n t o =
      let a = run_int ds e s in
      let x : ℕ → Domain = λ v. found ((int_item ds e).range w (at w s) v) in
      ap (get_domain_linear_sum x) ((int_good w ds e p).from s r n).total
      ∙ domain_same x (domain_at ds t) a.0
      (each_map (λ v. IsFound ((int_item ds e).range w (at w s) v)) (λ v. SameBounds (x v) (domain_at ds t v)) (terms_of a.0) (λ v h. found_right ds a.1 t o v ((int_item ds e).range w (at w s) v) h (range_right e p s r n v)) (range_found e p s r n))

  -- at the log behind it, as for a column
  pub range_behind : (e : IntTree) → ProperInt e → (s : Log) → Ready w (run_int ds e s).1 → PlacedInt w ds e s → range_of (int_item ds e) w (at w s) ≡ domain_of_sum ds (run_int ds e s).1 (run_int ds e s).0
  range_behind e p s r n = range_is e p s r n (run_int ds e s).1 here
