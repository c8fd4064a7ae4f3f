-- What holds of the definitions of specs/Sums.
use Rattle.std.specs.Prelude.{◌≡◌, Bool, false, cond, ◌||◌, ℤ, pos, negsuc, ◌+ℤ◌, ◌*ℤ◌, ltb, take}
use Rattle.std.proofs.Math.Path.{refl}
use Rattle.std.proofs.Common.{sym, ◌∙◌, take_all}
use Rattle.std.proofs.Math.Bool.{true}
use mathlib.Core.List.{List, [], ◌∷◌, map}
use Prim.Native.Nat.{ℕ, ◌+◌, ◌≤◌, ◌<◌}
use Rattle.std.proofs.Math.Nat.{mul-le-mul_left}
use native.Mathlib.Omega.{arith}
use Rattle.std.proofs.Math.IntN.{nat_abs}
use Rattle.std.proofs.Math.ListN.{length}
use borrow.Author.Tests.{ltb-false, le-ltb}
use Rattle.laws.specs.Bools.{and_l, and_r, never, or_l, or_r, or_no_l, or_no_r}
use Rattle.laws.specs.Ints.{eqZ, natAbs_add, nat_abs_mul}
use Rattle.laws.specs.Order.{eqZ_refl}
use Rattle.laws.specs.Same.{same_is}
use Rattle.laws.specs.Lists.{any, all}
use Rattle.syntax.specs.Words.{max_weight}
use Rattle.syntax.specs.Syntax.{IfIsRead, Domain, Range, Enumerative, lower_bound, upper_bound, num_candidates, enumerate, domain_of, IntExpr, IConst, IVar, Linear, If, Terms, tnil, tmore, BoolExpr, Const, Var, NVar, And, Or, Not, Xor, Iff, Imp, Cmp, Members, mnil, more, Stmt, Rule, Table, AllDifferent, Problem}
use Rattle.syntax.specs.Written.{Any, EveryIntOf, EveryInt, EveryColumnOf, EveryColumn, EveryStmt, EveryStmts, columns_of}
use Rattle.words.specs.Exact.{Each}
use Rattle.read.proofs.Exact.{set_sound}
use Rattle.limits.specs.Limits.{any_comparison, any_comparison_members, any_inside, any_inside_terms, any_pair, any_part, domain_weight, weight, heavy, heavy_terms, heavy_comparison, written, heavy_stmt}
use Rattle.limits.proofs.Light.{value_light, unrefused_light}
use Rattle.limits.proofs.TotalLaws.{lower_small, higher_small}
use Rattle.fold.specs.Fold.{Fixed, constant_folding_stmt as fold-stmt}
use Rattle.fold.specs.Optimize.{settled, optimize}
use Rattle.fold.proofs.Kept.{fold_stmts_every}
use Rattle.fold.proofs.Ends.{optimize_rests}
use Rattle.sums.proofs.Domain.{ordered}
use Rattle.sums.specs.LinearSum.{Term, term, LinearSum, linear_sum, singleton, add_coef, mul_sum, lowest, highest, get_domain_linear_sum}
use Rattle.sums.specs.Rising.{terms_of, constant_of, Among}
use Rattle.sums.specs.Linear.{linear_of, EveryIf}
use Rattle.sums.proofs.NormLaws.{singleton_load, add_coef_norm, mul_sum_load}
use Rattle.sums.specs.Norm.{norm, load}
use Rattle.sums.specs.Bounds.{size, Coefficients, Fits, Every, add_steps, sum_steps, computed, computed_comparison, reach}
use Rattle.sums.proofs.BoundsLaws.{heavy_weight, linear_of_load, linear_of_size, reach_weight, computed_fits, comparison_fits, domain_bounds_fit}
use Rattle.clauses.specs.Normalize.{hull}
use Rattle.tables.specs.Domains.{has, has_range}
use Rattle.different.specs.Different.{is_like, values_of_first, values_used_up}
use Rattle.folded.specs.Folded.{fold_stmt_light}
use Rattle.call.specs.Call.{Accepted}
use Rattle.call.specs.WellRead.{well_declared}
use Rattle.call.proofs.Demand.{domains_ordered}
use Rattle.facts.specs.Sums.{ColumnIn, ComparisonIn, DomainsOf, EveryComparison, EveryInside, EveryMembersComparison, EveryPair, EveryPart, EveryTermInside, EveryValue, InI32, Products, computed_difference, max_i32}

coefficients_more : (n m : ℕ) (ts : List Term) → n ≤ m → Coefficients n ts → Coefficients m ts
unfolding Coefficients
coefficients_more n m [] h c = tt
coefficients_more n m (term v a ∷ ts) h c = (omega (arith, c.0), coefficients_more n m ts h c.1)

fits_in : (l : LinearSum) → Fits l → InI32 l
fits_in l f = record { constant_in = omega (arith, f.constant_fits); coefficients_in = coefficients_more max_weight max_i32 (terms_of l) (omega arith) f.coefficients_fit }

all_fit_in : (ls : List LinearSum) → Every Fits ls → Every InI32 ls
unfolding Every
all_fit_in [] h = tt
all_fit_in (l ∷ ls) h = (fits_in l h.0, all_fit_in ls h.1)

norm_in : (n : ℕ) (ts : List Term) → norm (λ v. 1) ts ≤ n → Coefficients n ts
unfolding norm Coefficients
norm_in n [] h = tt
norm_in n (term v a ∷ ts) h = (omega arith, norm_in n ts (omega arith))

size_in : (l : LinearSum) → size l ≤ max_i32 → InI32 l
unfolding load
size_in (linear_sum c ts) h = record { constant_in = omega arith; coefficients_in = norm_in max_i32 ts (omega arith) }

add_steps_in : (c : ℤ) (ts : List Term) (d : ℤ) (us : List Term) → nat_abs c + norm (λ v. 1) ts + (nat_abs d + norm (λ v. 1) us) ≤ max_i32 → Every InI32 (add_steps c ts d us)
unfolding add_steps Every load norm
add_steps_in c ts d [] h = (size_in (linear_sum (c +ℤ d) ts) (omega (arith, natAbs_add c d)), tt)
add_steps_in c ts d (term v a ∷ us) h =
    let n = add_coef_norm (λ v. 1) v a ts in
    (size_in (linear_sum c (add_coef v a ts)) (omega arith), add_steps_in c (add_coef v a ts) d us (omega arith))

sum_steps_in : (a b : LinearSum) → size a + size b ≤ max_i32 → Every InI32 (sum_steps a b)
unfolding sum_steps load
sum_steps_in (linear_sum c ts) (linear_sum d us) h = add_steps_in c ts d us h

module _ (ds : List Domain) (number : ℕ → ℕ) where
  comparison_in : (a b : IntExpr) → heavy_comparison ds a b ≡ false → ComparisonIn number a b
  comparison_in a b h made = all_fit_in (computed_comparison number made a b) (comparison_fits ds number made a b h)

  difference_in : (e : IntExpr) → heavy ds e ≡ false → (made : ℕ → ℕ) (n : ℕ) → Every InI32 (computed_difference number made e n)
  unfolding computed_difference Every
  difference_in e h made n =
      let m = mul_sum (negsuc 0) (singleton n) in
      let s : size m ≤ 1 = omega (arith, mul_sum_load (λ v. 1) (negsuc 0) (singleton n), singleton_load (λ v. 1) n) in
      (size_in m (omega arith), sum_steps_in (linear_of number made 0 e) m (omega (arith, linear_of_size ds number made 0 e, heavy_weight ds e h)))

  products_in : (domain : ℕ → Domain) (ts : List Term) → norm (λ v. reach (domain v)) ts ≤ max_weight → Products domain ts
  unfolding Products norm
  products_in domain [] h = tt
  products_in domain (term v a ∷ ts) h =
      let lower : nat_abs (lower_bound (domain v)) ≤ reach (domain v) = omega arith in
      let upper : nat_abs (upper_bound (domain v)) ≤ reach (domain v) = omega arith in
      let l = mul-le-mul_left (nat_abs a) lower in
      let u = mul-le-mul_left (nat_abs a) upper in
      (rw (nat_abs_mul a (lower_bound (domain v))) (omega arith), rw (nat_abs_mul a (upper_bound (domain v))) (omega arith), products_in domain ts (omega arith))

  load_norm : (w : ℕ → ℕ) (l : LinearSum) → norm w (terms_of l) ≤ load w l
  unfolding load
  load_norm w (linear_sum c ts) = omega arith

  column_in : (e : IntExpr) → heavy ds e ≡ false → ColumnIn ds number e
  column_in e h = record {
    sums = λ made. all_fit_in (computed number made 0 e) (computed_fits ds number made e h);
    difference = difference_in e h;
    products = λ made domain k.
        let w : ℕ → ℕ = λ v. reach (domain v) in
        let l = linear_of number made 0 e in
        products_in domain (terms_of l) (omega (arith, load_norm w l, linear_of_load ds number made w 0 e (λ v m. rw (k.variables v m) (reach_weight (domain_of ds v))) k.ifs, heavy_weight ds e h));
    bounds = λ made domain k. domain_bounds_fit domain ds number made e k.variables k.ifs;
    weight_in = omega (arith, heavy_weight ds e h);
  }

-- ---- an If's domain, from its values' domains, is as `ifs` asks

-- after all terms
bounds_at_end : (domain : ℕ → Domain) (l : LinearSum) (n : ℕ) → ((k : ℕ) → (nat_abs (lowest domain (constant_of l) (take k (terms_of l))) ≤ n) × (nat_abs (highest domain (constant_of l) (take k (terms_of l))) ≤ n))
    → (nat_abs (lower_bound (get_domain_linear_sum domain l)) ≤ n) × (nat_abs (upper_bound (get_domain_linear_sum domain l)) ≤ n)
unfolding get_domain_linear_sum
bounds_at_end domain (linear_sum c ts) n h = rw (take_all (length ts) ts (omega arith)) at (h (length ts))

pub if_domain_in : (ds : List Domain) (number made other : ℕ → ℕ) (domain : ℕ → Domain) (i : IfIsRead) (c : BoolExpr) (t f : IntExpr)
    → ColumnIn ds number t → ColumnIn ds number f → DomainsOf ds number made domain t → DomainsOf ds number other domain f
    → reach (hull (get_domain_linear_sum domain (linear_of number made 0 t)) (get_domain_linear_sum domain (linear_of number other 0 f))) ≤ weight ds (If i c t f)
unfolding weight
if_domain_in ds number made other domain i c t f h k x y =
    let d = get_domain_linear_sum domain (linear_of number made 0 t) in
    let e = get_domain_linear_sum domain (linear_of number other 0 f) in
    let a = bounds_at_end domain (linear_of number made 0 t) (weight ds t) (h.bounds made domain x) in
    let b = bounds_at_end domain (linear_of number other 0 f) (weight ds f) (k.bounds other domain y) in
    omega (arith, lower_small (lower_bound d) (lower_bound e) (weight ds t) (weight ds f) a.0 b.0, higher_small (upper_bound d) (upper_bound e) (weight ds t) (weight ds f) a.1 b.1)

-- ---- an AllDifferent's values: within the pairs' weights

-- a value weighs no more than its domain
value_weight : (x : ℤ) (d : Domain) → ordered d ≡ true → has x (enumerate d) ≡ true → nat_abs x ≤ domain_weight d
value_weight x (Range low high) o h = value_light x (Range low high) (sym (has_range x low high o) ∙ h)
value_weight x (Enumerative xs) o h = value_light x (Enumerative xs) h

module _ (ds : List Domain) (well : (v : ℕ) → v < length ds → ordered (domain_of ds v) ≡ true) where
  -- beside a value as in a pair
  beside_light : (a b : IntExpr) (x : ℤ) → heavy_comparison ds a b ≡ false → (nat_abs x ≤ weight ds a → heavy_comparison ds b (IConst x) ≡ false) × (nat_abs x ≤ weight ds b → heavy_comparison ds a (IConst x) ≡ false)
  unfolding heavy_comparison heavy weight
  beside_light a b x h =
      let i = or_no_l (heavy ds a) _ h in
      let r = or_no_r (heavy ds a) _ h in
      let j = or_no_l (heavy ds b) _ r in
      let s = ltb-false max_weight (weight ds a + weight ds b) (or_no_r (heavy ds b) _ r) in (
        λ k. rw (j, le-ltb max_weight (nat_abs x) (omega arith), le-ltb max_weight (weight ds b + nat_abs x) (omega arith)) refl,
        λ k. rw (i, le-ltb max_weight (nat_abs x) (omega arith), le-ltb max_weight (weight ds a + nat_abs x) (omega arith)) refl,
      )

  -- a variable like d has no value above its weight
  like_weight : (n : ℕ) (d : Domain) (x : ℤ) (e : IntExpr) → EveryInt (λ v. v < length ds) e → has x (enumerate d) ≡ true → is_like ds n d e ≡ true → nat_abs x ≤ weight ds e
  unfolding weight EveryIntOf
  like_weight n d x (IConst c) b h l = never l
  like_weight n d x (IVar v) b h l =
      let z = same_is (enumerate (domain_of ds v)) (enumerate d) (and_r (eqZ (num_candidates (domain_of ds v)) (pos n)) _ l) in
      value_weight x (domain_of ds v) (well v b) (rw z h)
  like_weight n d x (Linear ts) b h l = never l
  like_weight n d x (If i c t f) b h l = never l

  module _ (P : IntExpr → IntExpr → Type 0) (f : (a b : IntExpr) → heavy_comparison ds a b ≡ false → P a b) (n : ℕ) (d : Domain) where
    row_values : (x : ℤ) → has x (enumerate d) ≡ true → (e : IntExpr) (es : List IntExpr) → nat_abs x ≤ weight ds e → any (heavy_comparison ds e) es ≡ false → Each (λ g. P g (IConst x)) es
    row_values x h e [] w k = tt
    row_values x h e (g ∷ es) w k =
        (f g (IConst x) ((beside_light e g x (or_no_l (heavy_comparison ds e g) _ k)).0 w), row_values x h e es w (or_no_r (heavy_comparison ds e g) _ k))

    values_each : (e g : IntExpr) (es : List IntExpr) → EveryColumn (λ v. v < length ds) (e ∷ g ∷ es) → any_pair (heavy_comparison ds) (e ∷ g ∷ es) ≡ false → all (is_like ds n d) (e ∷ g ∷ es) ≡ true
        → (xs : List ℤ) → ((x : ℤ) → has x xs ≡ true → has x (enumerate d) ≡ true) → EveryValue P (e ∷ g ∷ es) xs
    unfolding any_pair EveryColumnOf
    values_each e g es b k l [] i = tt
    values_each e g es b k l (x ∷ xs) i =
        let h : has x (enumerate d) ≡ true = i x (or_l (eqZ x x) _ (eqZ_refl x)) in
        let r = or_no_l (any (heavy_comparison ds e) (g ∷ es)) _ k in
        let a : nat_abs x ≤ weight ds e = like_weight n d x e b.0 h (and_l (is_like ds n d e) _ l) in
        let c : nat_abs x ≤ weight ds g = like_weight n d x g b.1.0 h (and_l (is_like ds n d g) _ (and_r (is_like ds n d e) _ l)) in
        ((f e (IConst x) ((beside_light e g x (or_no_l (heavy_comparison ds e g) _ r)).1 c), row_values x h e (g ∷ es) a r), values_each e g es b k l xs (λ y m. i y (or_r (eqZ y x) _ m)))

  used_values : (P : IntExpr → IntExpr → Type 0) → ((a b : IntExpr) → heavy_comparison ds a b ≡ false → P a b) → (es : List IntExpr) → EveryColumn (λ v. v < length ds) es → any_pair (heavy_comparison ds) es ≡ false → EveryValue P es (values_used_up ds es)
  unfolding values_used_up values_of_first
  used_values P f [] b k = tt
  used_values P f (e ∷ []) b k = tt
  used_values P f (IConst c ∷ g ∷ es) b k = tt
  used_values P f (IVar v ∷ g ∷ es) b k = go (all (is_like ds n d) (IVar v ∷ g ∷ es)) refl
    where
      n : ℕ
      n = length (IVar v ∷ g ∷ es)

      d : Domain
      d = domain_of ds v

      go : (t : Bool) → all (is_like ds n d) (IVar v ∷ g ∷ es) ≡ t → EveryValue P (IVar v ∷ g ∷ es) (cond t (enumerate d) [])
      go false l = tt
      go true l = values_each P f n d (IVar v) g es b k l (enumerate d) (λ x h. h)
  used_values P f (Linear ts ∷ g ∷ es) b k = tt
  used_values P f (If i c x y ∷ g ∷ es) b k = tt

-- ---- what refusal 9 leaves has the property

module _ (P : IntExpr → IntExpr → Type 0) (C : IntExpr → Type 0) (ds : List Domain) (f : (a b : IntExpr) → heavy_comparison ds a b ≡ false → P a b) (g : (e : IntExpr) → heavy ds e ≡ false → C e) where
  -- refusal 9's test of the comparisons, and of what stands inside an integer expression
  abbrev compared : BoolExpr → Bool
  compared e = any_comparison (heavy_comparison ds) (λ x. false) e

  abbrev inside : IntExpr → Bool
  inside e = any_inside (heavy_comparison ds) (λ x. false) e

  mutual
    unfolding EveryComparison any_comparison heavy heavy_comparison

    comparisons_every : (e : BoolExpr) → compared e ≡ false → EveryComparison P C e
    comparisons_every (Const b) h = tt
    comparisons_every (Var v) h = tt
    comparisons_every (NVar n) h = tt
    comparisons_every (And ms) h = members_every ms h
    comparisons_every (Or ms) h = members_every ms h
    comparisons_every (Not e) h = comparisons_every e h
    comparisons_every (Xor a b) h = (comparisons_every a (or_no_l (compared a) (compared b) h), comparisons_every b (or_no_r (compared a) (compared b) h))
    comparisons_every (Iff a b) h = (comparisons_every a (or_no_l (compared a) (compared b) h), comparisons_every b (or_no_r (compared a) (compared b) h))
    comparisons_every (Imp a b) h = (comparisons_every a (or_no_l (compared a) (compared b) h), comparisons_every b (or_no_r (compared a) (compared b) h))
    comparisons_every (Cmp o a b) h =
        let t = or_no_l (heavy_comparison ds a b) _ h in
        let u = or_no_r (heavy_comparison ds a b) _ h in
        let v = or_no_r (heavy ds a) _ t in
        (f a b t, inside_every a (or_no_l (heavy ds a) _ t) (or_no_l (inside a) (inside b) u), inside_every b (or_no_l (heavy ds b) _ v) (or_no_r (inside a) (inside b) u))

    members_every : (ms : Members) → any_comparison_members (heavy_comparison ds) (λ x. false) ms ≡ false → EveryMembersComparison P C ms
    members_every mnil h = tt
    members_every (more e ms) h = (comparisons_every e (or_no_l (compared e) _ h), members_every ms (or_no_r (compared e) _ h))

    inside_every : (e : IntExpr) → heavy ds e ≡ false → inside e ≡ false → EveryInside P C e
    inside_every (IConst c) w h = tt
    inside_every (IVar v) w h = tt
    inside_every (Linear ts) w h = terms_every ts (or_no_r (ltb max_weight (weight ds (Linear ts))) (heavy_terms ds ts) w) h
    inside_every (If i c t e) w h =
        let b = or_no_r (ltb max_weight (weight ds (If i c t e))) (heavy ds t || heavy ds e) w in
        let l = or_no_l (heavy ds t) (heavy ds e) b in
        let r = or_no_r (heavy ds t) (heavy ds e) b in
        let k = or_no_r (compared c) (inside t || inside e) h in
        (comparisons_every c (or_no_l (compared c) (inside t || inside e) h), g t l, inside_every t l (or_no_l (inside t) (inside e) k), g e r, inside_every e r (or_no_r (inside t) (inside e) k))

    terms_every : (ts : Terms) → heavy_terms ds ts ≡ false → any_inside_terms (heavy_comparison ds) (λ x. false) ts ≡ false → EveryTermInside P C ts
    terms_every tnil w h = tt
    terms_every (tmore k e ts) w h = (inside_every e (or_no_l (heavy ds e) (heavy_terms ds ts) w) (or_no_l (inside e) _ h), terms_every ts (or_no_r (heavy ds e) (heavy_terms ds ts) w) (or_no_r (inside e) _ h))

  columns_every : (es : List IntExpr) → any (λ e. heavy ds e || inside e) es ≡ false → Each (λ e. C e × EveryInside P C e) es
  columns_every [] h = tt
  columns_every (e ∷ es) h =
      let k = or_no_l (heavy ds e || inside e) _ h in
      let l = or_no_l (heavy ds e) (inside e) k in
      ((g e l, inside_every e l (or_no_r (heavy ds e) (inside e) k)), columns_every es (or_no_r (heavy ds e || inside e) _ h))

  all_inside : (es : List IntExpr) → Each (λ e. C e × EveryInside P C e) es → Each (EveryInside P C) es
  all_inside [] h = tt
  all_inside (e ∷ es) h = (h.0.1, all_inside es h.1)

  row_every : (e : IntExpr) (es : List IntExpr) → any (heavy_comparison ds e) es ≡ false → Each (P e) es
  row_every e [] h = tt
  row_every e (d ∷ es) h = (f e d (or_no_l (heavy_comparison ds e d) _ h), row_every e es (or_no_r (heavy_comparison ds e d) _ h))

  pairs_every : (es : List IntExpr) → any_pair (heavy_comparison ds) es ≡ false → EveryPair P es
  unfolding any_pair
  pairs_every [] h = tt
  pairs_every (e ∷ es) h = (row_every e es (or_no_l (any (heavy_comparison ds e) es) _ h), pairs_every es (or_no_r (any (heavy_comparison ds e) es) _ h))

-- ---- the theorem

module _ (ds : List Domain) (well : (v : ℕ) → v < length ds → ordered (domain_of ds v) ≡ true) (number : ℕ → ℕ) where
  abbrev In : Stmt → Type 0
  In = EveryPart (ComparisonIn number) (ColumnIn ds number) ds

  part_in : (nb : ℕ) (t : Stmt) → EveryStmt (λ v. v < nb) (λ v. v < length ds) t → heavy_stmt ds t ≡ false → In t
  unfolding any_part EveryStmt
  part_in nb (Rule e) d h = comparisons_every (ComparisonIn number) (ColumnIn ds number) ds (comparison_in ds number) (column_in ds number) e h
  part_in nb (Table es rows) d h = columns_every (ComparisonIn number) (ColumnIn ds number) ds (comparison_in ds number) (column_in ds number) es h
  part_in nb (AllDifferent es) d h =
      let l = or_no_l (any (λ e. heavy ds e || any_inside (heavy_comparison ds) (λ x. false) e) es) _ h in
      let k = or_no_r (any (λ e. heavy ds e || any_inside (heavy_comparison ds) (λ x. false) e) es) _ h in (
        all_inside (ComparisonIn number) (ColumnIn ds number) ds (comparison_in ds number) (column_in ds number) es (columns_every (ComparisonIn number) (ColumnIn ds number) ds (comparison_in ds number) (column_in ds number) es l),
        pairs_every (ComparisonIn number) (ColumnIn ds number) ds (comparison_in ds number) (column_in ds number) es k,
        used_values ds well (ComparisonIn number) (comparison_in ds number) es (columns_of Any (λ v. v < nb) (λ v. v < length ds) es d) k,
      )

  folded_in : (f : Fixed) (nb : ℕ) (ts : List Stmt) → EveryStmts (λ v. v < nb) (λ v. v < length ds) (map (fold-stmt ds f) ts) → any (heavy_stmt ds) ts ≡ false → Each In (map (fold-stmt ds f) ts)
  unfolding EveryStmts
  folded_in f nb [] d h = tt
  folded_in f nb (t ∷ ts) d h = (part_in nb (fold-stmt ds f t) d.0 (fold_stmt_light ds f t (or_no_l (heavy_stmt ds t) _ h)), folded_in f nb ts d.1 (or_no_r (heavy_stmt ds t) _ h))

-- the statements ss that the passes leave of an accepted set
pub sums_in_i32 : (set : List ℤ) (p : Problem) → Accepted set p → (f : Fixed) (ss : List Stmt) → optimize p ≡ settled f ss → (number : ℕ → ℕ)
    → Each (EveryPart (ComparisonIn number) (ColumnIn p.domains number) p.domains) ss
sums_in_i32 set p a f ss end number =
    let well = (set_sound set p [] a.says).1 in
    let declared = well_declared p well in
    let e : ss ≡ map (fold-stmt p.domains f) p.stmts = (optimize_rests p declared f ss end).origin in
    rw e (folded_in p.domains (domains_ordered p.domains well.domains_well) number f p.bools p.stmts (fold_stmts_every (λ v. v < p.bools) (λ v. v < length p.domains) p.domains f p.stmts declared) (unrefused_light p a.unrefused))
