-- Columns become variables: each has its expression's value, within its domain; a new variable's clause admits exactly that value.
-- The variables that the columns write are taken to have values of their domains, which are neither empty nor unordered.
use Rattle.std.specs.Prelude.{◌≡◌, Bool, true, false, ◌&&◌, ◌||◌, cond, ℤ, length, eqb, ltb}
use Rattle.std.proofs.Math.Path.{refl, ap}
use Rattle.std.proofs.Common.{sym, ◌∙◌, length-append, ltb-true, lt-ltb, eq-eqb, ne_eqb}
use Rattle.std.proofs.Math.Option.{Option, none, some}
use mathlib.Core.List.{List, [], ◌∷◌, ◌++◌, map, map-append}
use Prim.Native.Nat.{ℕ, suc, ◌≤◌, ◌<◌}
use native.Mathlib.Omega.{arith}
use Rattle.laws.specs.Bools.{and_l, and_r, and_i, eq1}
use Rattle.laws.specs.Ints.{eqZ}
use Rattle.laws.specs.Order.{eqZ_is, eqZ_sym, is_eqZ}
use Rattle.laws.specs.Lists.{all, all_append}
use Rattle.syntax.specs.Syntax.{Domain, in_domain, domain_of, Eq, IntExpr, IConst, IVar, Linear, If}
use Rattle.syntax.specs.Satisfies.{Val, IVal, int_value}
use Rattle.clauses.proofs.Ranges.{Inside, sum_in, emitted_within}
use Rattle.clauses.proofs.Entries.{WellMade, int_well}
use Rattle.tables.proofs.ColumnEntries.{column_well}
use Rattle.syntax.specs.Written.{Any, every_int_map, EveryInt, EveryColumn, Within, EveryIntOf, EveryColumnOf}
use Rattle.sums.specs.LinearSum.{LinearSum, singleton, sum_value}
use Rattle.sums.proofs.Value.{singleton_value, compare_sum}
use Rattle.sums.proofs.Domain.{ordered, domain_between}
use Rattle.clauses.specs.Log.{declared_int, column, int, added, Log, next_int, get_int_var, int_var_at, convert_int_var}
use Rattle.clauses.specs.Normalize.{IntOut, equals, domain_of_sum, normalize_int_expr}
use Rattle.clauses.proofs.Bounds.{int_bound, NoNumbers, sum_same, sub_sum_bound}
use Rattle.clauses.specs.Valuation.{Agrees, Fits, fits_agrees, all_true}
use Rattle.clauses.proofs.Emitted.{domain_at, new_domain, domain_step, domain_stays, int_var_domain}
use Rattle.clauses.proofs.Grow.{Legal, Grows, Extends, extends, same, grow, Lawful, lawful_over, lawful_then, grows_trans, grows_int, get_int_below, agrees_int, agrees_back, fits_back, AddedBy, added_then, added_first, added_second, added_none}
use Rattle.clauses.proofs.Means.{MeansInt}
use Rattle.clauses.proofs.NormalizeMeaning.{int_expr_means}
use Rattle.tables.specs.Tables.{Columns, new_column, old_column, equivalent_int_var, equivalent_int_vars}

-- ---- the number of a declared variable

int_var_gets : (v : ℕ) (s : Log) (o : Option ℕ) → get_int_var v s ≡ o → get_int_var v (int_var_at o v s).1 ≡ some (int_var_at o v s).0
int_var_gets v s (some n) e = e
int_var_gets v s none e = unfold get_int_var in rw (eq-eqb v v refl) refl

convert_gets : (v : ℕ) (s : Log) → get_int_var v (convert_int_var v s).1 ≡ some (convert_int_var v s).0
unfolding convert_int_var
convert_gets v s = int_var_gets v s (get_int_var v s) refl

module _ {δ : Val} {ε : IVal} (ds : List Domain) where
  int_var_grows : (v : ℕ) (s : Log) (o : Option ℕ) → get_int_var v s ≡ o → Grows δ ε s (int_var_at o v s).1
  int_var_grows v s (some n) e = same
  int_var_grows v s none e = grow (int (declared_int v)) e same

  convert_grows : (v : ℕ) (s : Log) → Grows δ ε s (convert_int_var v s).1
  unfolding convert_int_var
  convert_grows v s = int_var_grows v s (get_int_var v s) refl

module _ (ds : List Domain) (ε : IVal) where
  -- what reading and the assignment give of a declared variable
  abbrev pub WithinDomain : ℕ → Type 0
  WithinDomain v = (ordered (domain_of ds v) ≡ true) × Within ds ε v

  inside_of : (v : ℕ) → WithinDomain v → Inside ds ε v
  inside_of v h = domain_between (domain_of ds v) (ε v) h.0 h.1

  pub ints_inside : (e : IntExpr) → EveryInt WithinDomain e → EveryInt (Inside ds ε) e
  ints_inside e h = every_int_map Any Any WithinDomain Any Any (Inside ds ε) (λ n k. k) (λ v k. k) inside_of e h

  -- ---- a new variable

  -- its clause says that the variable has the sum's value
  pub equals_true : (ρ : Val) (ι : IVal) (l : LinearSum) (v : ℕ) → all_true ρ ι (equals l v ∷ []) ≡ eqZ (ι v) (sum_value ι l)
  equals_true ρ ι l v = tidy _ ∙ compare_sum ι Eq l (singleton v) ∙ ap (eqZ (sum_value ι l)) (singleton_value ι v) ∙ eqZ_sym (sum_value ι l) (ι v)
    where
      tidy : (a : Bool) → (a || false) && true ≡ a
      tidy = eq1 _ _ refl

  -- the values ι, with z for the number n
  abbrev pub with_value : IVal → ℕ → ℤ → IVal
  with_value ι n z m = cond (eqb m n) z (ι m)

  with_value_old : (ι : IVal) (n : ℕ) (z : ℤ) (m : ℕ) → m < n → with_value ι n z m ≡ ι m
  with_value_old ι n z m l = let e : eqb m n ≡ false = ne_eqb m n (λ e. omega arith) in rw e refl

  with_value_new : (ι : IVal) (n : ℕ) (z : ℤ) → with_value ι n z n ≡ z
  with_value_new ι n z = rw (eq-eqb n n refl) refl

  module _ (δ : Val) (e : IntExpr) (low : int_bound e ≤ 0) (h : EveryInt WithinDomain e) (s : Log) (lawful : Lawful δ ε s) (made : WellMade ds Any (Inside ds ε) s) where
    abbrev x : IntOut
    x = normalize_int_expr ds e s

    abbrev m : MeansInt δ ε s x (λ ρ ι. int_value δ ε ρ e)
    m = int_expr_means δ ε ds e s (omega (arith, low)) lawful

    -- what a column may be made of: a sum over numbers given, within its domain
    column_legal : Legal true δ ε (int (column x.0 (domain_of_sum ds x.1 x.0))) x.1
    column_legal = (m.bounded, λ ρ ι f. sum_in ds ι x.1 x.0 m.bounded (emitted_within δ ε ds ρ ι x.1 (lawful_then lawful m.grows) (int_well ds Any (Inside ds ε) e (ints_inside e h) s made) f))

    -- of all values z of a column's new variable, its clause admits exactly one, the expression's, and that lies within the variable's domain
    pub record OneValue (ρ : Val) (ι : IVal) : Type 0 where
      pub admits : (z : ℤ) → all_true ρ (with_value ι (next_int x.1) z) (equals x.0 (next_int x.1) ∷ []) ≡ eqZ z (int_value δ ε ρ e)
      pub inside : in_domain (int_value δ ε ρ e) (domain_of_sum ds x.1 x.0) ≡ true

    pub column_one_value : (ρ : Val) (ι : IVal) → Fits δ ε ρ ι x.1 → OneValue ρ ι
    column_one_value ρ ι f =
        let v : ℕ = next_int x.1 in
        let is : sum_value ι x.0 ≡ int_value δ ε ρ e = m.value ρ ι (fits_agrees δ ε ρ ι x.1 f) in
        record {
          admits = λ z. equals_true ρ (with_value ι v z) x.0 v ∙ rw (with_value_new ι v z) (ap (eqZ z) (sum_same v (with_value ι v z) ι (with_value_old ι v z) x.0 m.bounded ∙ is));
          inside = rw is at (column_legal.1 ρ ι f);
        }

  -- ---- columns

  module _ (δ : Val) where
    -- from the log s, the columns c have the values xs
    pub record ColumnsMean (s : Log) (c : Columns) (xs : Val → List ℤ) : Type 0 where
      pub grows : Extends δ ε s c.log
      pub below : all (λ v. ltb v (next_int c.log)) c.vars ≡ true
      pub as_many : (ρ : Val) → length c.vars ≡ length (xs ρ)
      pub sound : (ρ : Val) (ι : IVal) → Agrees δ ε ρ ι c.log → AddedBy ρ ι grows → map ι c.vars ≡ xs ρ
      pub complete : (ρ : Val) (ι : IVal) → Fits δ ε ρ ι c.log → AddedBy ρ ι grows
      pub inside : (ρ : Val) (ι : IVal) → Agrees δ ε ρ ι c.log → all (λ v. in_domain (ι v) (domain_at ds c.log v)) c.vars ≡ true

    old_column_means : (v : ℕ) → WithinDomain v → (s : Log) → ColumnsMean s (old_column (convert_int_var v s)) (λ ρ. ε v ∷ [])
    unfolding old_column
    old_column_means v h s =
        let n : ℕ = (convert_int_var v s).0 in
        let t : Log = (convert_int_var v s).1 in
        let e : get_int_var v t ≡ some n = convert_gets v s in
        record {
          grows = extends (convert_grows ds v s);
          below = rw (lt-ltb n (next_int t) (get_int_below t v n e)) refl;
          as_many = λ ρ. refl;
          sound = λ ρ ι a d. ap (λ (z : ℤ). z ∷ []) (agrees_int δ ε ρ ι t a v n e);
          complete = λ ρ ι f. added_none ρ ι (convert_grows {δ = δ} {ε = ε} ds v s);
          inside = λ ρ ι a. rw (int_var_domain ds t v n e, agrees_int δ ε ρ ι t a v n e, h.1) refl;
        }

    new_column_means : (e : IntExpr) → int_bound e ≤ 0 → EveryInt WithinDomain e → (s : Log) → Lawful δ ε s → WellMade ds Any (Inside ds ε) s → ColumnsMean s (new_column ds (normalize_int_expr ds e s)) (λ ρ. int_value δ ε ρ e ∷ [])
    unfolding new_column
    new_column_means e low h s lawful made = record {
      grows = grow {t = int (column l d) ∷ t} (added (equals l v ∷ [])) (refl, omega arith, omega (arith, sub_sum_bound l (singleton v), p.bounded)) (grow (int (column l d)) legal (extends p.grows));
      below = rw (lt-ltb v (suc v) (omega arith)) refl;
      as_many = λ ρ. refl;
      sound = λ ρ ι a k. ap (λ (z : ℤ). z ∷ []) (eqZ_is (ι v) (sum_value ι l) (sym (equals_true ρ ι l v) ∙ k.0) ∙ p.value ρ ι a.1.1);
      complete = λ ρ ι f. (equals_true ρ ι l v ∙ is_eqZ (ι v) (sum_value ι l) f.1.0.0, (tt, added_none ρ ι p.grows));
      inside = λ ρ ι a. rw (domain_step ds (added (equals l v ∷ [])) (int (column l d) ∷ t) v (omega arith), new_domain ds (column l d) t, a.1.0) refl;
    }
      where
        p : MeansInt δ ε s (normalize_int_expr ds e s) (λ ρ ι. int_value δ ε ρ e)
        p = m δ e low h s lawful made

        l : LinearSum
        l = (normalize_int_expr ds e s).0

        t : Log
        t = (normalize_int_expr ds e s).1

        v : ℕ
        v = next_int t

        d : Domain
        d = domain_of_sum ds t l

        legal : Legal true δ ε (int (column l d)) t
        legal = column_legal δ e low h s lawful made

    column_means : (e : IntExpr) → int_bound e ≤ 0 → EveryInt WithinDomain e → (s : Log) → Lawful δ ε s → WellMade ds Any (Inside ds ε) s → ColumnsMean s (equivalent_int_var ds e s) (λ ρ. int_value δ ε ρ e ∷ [])
    unfolding equivalent_int_var
    column_means (IVar v) low h s l k = unfold int_value EveryIntOf in old_column_means v h s
    column_means (IConst c) low h s l k = new_column_means (IConst c) low h s l k
    column_means (Linear ts) low h s l k = new_column_means (Linear ts) low h s l k
    column_means (If i c x y) low h s l k = new_column_means (If i c x y) low h s l k

    -- numbers keep their domains
    inside_stays : (ι : IVal) {s t : Log} → Extends δ ε s t → (vs : List ℕ) → all (λ v. ltb v (next_int s)) vs ≡ true → all (λ v. in_domain (ι v) (domain_at ds s v)) vs ≡ true → all (λ v. in_domain (ι v) (domain_at ds t v)) vs ≡ true
    inside_stays ι {s} g [] b h = refl
    inside_stays ι {s} {t} g (v ∷ vs) b h =
        let l : v < next_int s = ltb-true v (next_int s) (and_l (ltb v (next_int s)) _ b) in
        and_i (in_domain (ι v) (domain_at ds t v)) _ (rw (domain_stays ds g v l) (and_l (in_domain (ι v) (domain_at ds s v)) _ h)) (inside_stays ι g vs (and_r (ltb v (next_int s)) _ b) (and_r (in_domain (ι v) (domain_at ds s v)) _ h))

    below_stays : {s t : Log} → Extends δ ε s t → (vs : List ℕ) → all (λ v. ltb v (next_int s)) vs ≡ true → all (λ v. ltb v (next_int t)) vs ≡ true
    below_stays {s} g [] b = refl
    below_stays {s} {t} g (v ∷ vs) b = and_i (ltb v (next_int t)) _ (lt-ltb v (next_int t) (omega (arith, ltb-true v (next_int s) (and_l (ltb v (next_int s)) _ b), grows_int g))) (below_stays g vs (and_r (ltb v (next_int s)) _ b))

    -- columns after columns
    columns_append : (s : Log) (a b : Columns) (xs ys : Val → List ℤ) → ColumnsMean s a xs → ColumnsMean a.log b ys → ColumnsMean s (record { vars = a.vars ++ b.vars; log = b.log }) (λ ρ. xs ρ ++ ys ρ)
    columns_append s a b xs ys p q = record {
      grows = grows_trans p.grows q.grows;
      below = all_append (λ v. ltb v (next_int b.log)) a.vars b.vars ∙ and_i _ _ (below_stays q.grows a.vars p.below) q.below;
      as_many = λ ρ. length-append a.vars b.vars ∙ omega (arith, p.as_many ρ, q.as_many ρ, length-append (xs ρ) (ys ρ));
      sound = λ ρ ι r d. map-append ι a.vars b.vars ∙ both (p.sound ρ ι (agrees_back ρ ι q.grows r) (added_first ρ ι p.grows q.grows d)) (q.sound ρ ι r (added_second ρ ι p.grows q.grows d));
      complete = λ ρ ι f. added_then ρ ι p.grows q.grows (p.complete ρ ι (fits_back ρ ι q.grows f)) (q.complete ρ ι f);
      inside = λ ρ ι r. all_append (λ v. in_domain (ι v) (domain_at ds b.log v)) a.vars b.vars ∙ and_i _ _ (inside_stays ι q.grows a.vars p.below (p.inside ρ ι (agrees_back ρ ι q.grows r))) (q.inside ρ ι r);
    }
      where
        both : {us vs xs' ys' : List ℤ} → us ≡ xs' → vs ≡ ys' → us ++ vs ≡ xs' ++ ys'
        both e f = cc

    pub columns_mean : (es : List IntExpr) → NoNumbers es → EveryColumn WithinDomain es → (s : Log) → Lawful δ ε s → WellMade ds Any (Inside ds ε) s → ColumnsMean s (equivalent_int_vars ds es s) (λ ρ. map (int_value δ ε ρ) es)
    unfolding equivalent_int_vars EveryColumnOf
    columns_mean [] low h s l k = record { grows = same; below = refl; as_many = λ ρ. refl; sound = λ ρ ι a k. refl; complete = λ ρ ι f. tt; inside = λ ρ ι a. refl }
    columns_mean (e ∷ es) low h s l k =
        let a : Columns = equivalent_int_var ds e s in
        let p = column_means e low.0 h.0 s l k in
        columns_append s a (equivalent_int_vars ds es a.log) (λ ρ. int_value δ ε ρ e ∷ []) (λ ρ. map (int_value δ ε ρ) es) p (columns_mean es low.1 h.1 a.log (lawful_over l p.grows) (column_well ds Any (Inside ds ε) e (ints_inside e h.0) s k))
