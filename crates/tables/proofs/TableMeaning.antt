-- The clauses of a table statement mean the statement, in the form in which a rule's do (Means), from any log.
use Rattle.std.specs.Prelude.{◌≡◌, Bool, not, cond, ltb, length, get_or}
use Rattle.std.proofs.Math.Path.{refl}
use Rattle.std.proofs.Common.{sym, ap, ◌∙◌, ltb-true}
use Rattle.std.proofs.Math.Bool.{true, false}
use mathlib.Core.List.{List, [], ◌∷◌, map}
use Prim.Native.Nat.{ℕ, zero, suc, ◌≤◌, ◌<◌}
use native.Mathlib.Omega.{arith}
use Rattle.std.proofs.Math.IntN.{ℤ}
use Rattle.std.proofs.lemmas.List.{length-map}
use Rattle.laws.specs.Bools.{and_l, and_r, and_i}
use Rattle.laws.specs.Lists.{any, all, keep_if, select, flat, any_cong}
use Rattle.syntax.specs.Syntax.{Domain, in_domain, domain_of, enumerate, IntExpr, Cell, Table}
use Rattle.syntax.specs.Satisfies.{Val, IVal, int_value, row_holds, stmt_holds}
use Rattle.syntax.specs.Written.{Any, EveryColumn}
use Rattle.clauses.proofs.Entries.{WellMade}
use Rattle.clauses.proofs.Ranges.{Inside}
use Rattle.clauses.specs.Log.{added, Log, next_int}
use Rattle.clauses.proofs.Bounds.{NoNumbers, clauses_bound, clauses_bound_append, linears_bound, linears_bound_append, ints_bound, ints_bound_append}
use Rattle.clauses.specs.Valuation.{Agrees, Fits, fits_agrees, all_true}
use Rattle.clauses.proofs.Grow.{same, grow, Lawful, extends, grows_trans, agrees_back, fits_back, AddedBy, added_then, added_first, added_none}
use Rattle.clauses.proofs.Emitted.{domain_at}
use Rattle.clauses.specs.Normalize.{register}
use Rattle.clauses.proofs.RuleMeaning.{Says}
use Rattle.clauses.specs.Disjunction.{Out}
use Rattle.clauses.proofs.Means.{Means}
use Rattle.tables.specs.Tables.{linear_eq, linear_ne, is_star, Row, cell_value, cell_at, sort_rows, within, groups, takes, differs, column_clause, column_clauses, prefixes, plain_clauses, plain_table, star_table, Columns, equivalent_int_vars, normalize_extension_supports, normalize_table}
use Rattle.tables.proofs.Agree.{wide, row_permits, row_holds_permits}
use Rattle.tables.proofs.PlainMeaning.{plain_table_means}
use Rattle.tables.proofs.StarMeaning.{star_table_means}
use Rattle.tables.proofs.ColumnMeaning.{WithinDomain, ColumnsMean, columns_mean}

-- ---- the clauses of rows name no Boolean

module _ (vs : List ℕ) (ds : List Domain) where
  columns_bound : (p i m : ℕ) (g : Row × List Row) → clauses_bound (column_clauses vs ds p i m g) ≡ 0
  unfolding column_clauses column_clause
  columns_bound p i zero g = refl
  columns_bound p i (suc m) g = go (not (all (takes i g.1) (enumerate (domain_of ds i)))) (columns_bound p (suc i) m g)
    where
      go : (t : Bool) → clauses_bound (column_clauses vs ds p (suc i) m g) ≡ 0 → clauses_bound (keep_if t (column_clause vs ds p i g) (column_clauses vs ds p (suc i) m g)) ≡ 0
      go true h = omega arith
      go false h = h

  groups_bound : (p m : ℕ) (gs : List (Row × List Row)) → clauses_bound (flat (map (column_clauses vs ds p p m) gs)) ≡ 0
  groups_bound p m [] = refl
  groups_bound p m (g ∷ gs) = omega (arith, clauses_bound_append (column_clauses vs ds p p m g) (flat (map (column_clauses vs ds p p m) gs)), columns_bound p p m g, groups_bound p m gs)

  prefixes_bound : (p m : ℕ) (rows : List Row) → clauses_bound (prefixes vs ds p m rows) ≡ 0
  unfolding prefixes
  prefixes_bound p zero rows = refl
  prefixes_bound p (suc m) rows = omega (arith, clauses_bound_append (flat (map (column_clauses vs ds p p (suc m)) (groups p zero rows))) (prefixes vs ds (suc p) m rows), groups_bound p (suc m) (groups p zero rows), prefixes_bound (suc p) m rows)

  plain_bound : (rows : List Row) → clauses_bound (plain_clauses vs ds rows) ≡ 0
  unfolding plain_clauses
  plain_bound [] = omega arith
  plain_bound (r ∷ rows) = prefixes_bound 0 (length vs) (r ∷ rows)

  table_bound : (rows : List (List Cell)) → clauses_bound (plain_table vs ds rows) ≡ 0
  unfolding plain_table
  table_bound rows = plain_bound (select (within ds) (sort_rows (map (map cell_value) rows)))

-- ---- and no integers but the columns'

column_below : (n : ℕ) (vs : List ℕ) (i : ℕ) → 0 < n → all (λ v. ltb v n) vs ≡ true → get_or vs i 0 < n
column_below n [] i z h = z
column_below n (v ∷ vs) zero z h = ltb-true v n (and_l (ltb v n) (all (λ v. ltb v n) vs) h)
column_below n (v ∷ vs) (suc i) z h = column_below n vs i z (and_r (ltb v n) (all (λ v. ltb v n) vs) h)

equalities_ints : (v : ℕ) (xs : List ℤ) → linears_bound (map (linear_eq v) xs) ≤ suc v
equalities_ints v [] = omega arith
equalities_ints v (x ∷ xs) = omega (arith, equalities_ints v xs)

module _ (vs : List ℕ) (ds : List Domain) (n : ℕ) (low : (i : ℕ) → get_or vs i 0 < n) where
  differs_ints : (p : ℕ) (r : Row) → linears_bound (differs vs ds p r) ≤ n
  unfolding differs
  differs_ints zero r = omega arith
  differs_ints (suc p) r = omega (arith, linears_bound_append (differs vs ds p r) (linear_ne (get_or vs p 0) (cell_at r p) ∷ []), differs_ints p r, low p)

  columns_ints : (p i m : ℕ) (g : Row × List Row) → ints_bound (column_clauses vs ds p i m g) ≤ n
  unfolding column_clauses column_clause
  columns_ints p i zero g = omega arith
  columns_ints p i (suc m) g = go (not (all (takes i g.1) (enumerate (domain_of ds i)))) (columns_ints p (suc i) m g)
    where
      some_values : List ℤ
      some_values = select (takes i g.1) (enumerate (domain_of ds i))

      go : (t : Bool) → ints_bound (column_clauses vs ds p (suc i) m g) ≤ n → ints_bound (keep_if t (column_clause vs ds p i g) (column_clauses vs ds p (suc i) m g)) ≤ n
      go true h = omega (arith, linears_bound_append (differs vs ds p g.0) (map (linear_eq (get_or vs i 0)) some_values), differs_ints p g.0, equalities_ints (get_or vs i 0) some_values, low i)
      go false h = h

  groups_ints : (p m : ℕ) (gs : List (Row × List Row)) → ints_bound (flat (map (column_clauses vs ds p p m) gs)) ≤ n
  groups_ints p m [] = omega arith
  groups_ints p m (g ∷ gs) = omega (arith, ints_bound_append (column_clauses vs ds p p m g) (flat (map (column_clauses vs ds p p m) gs)), columns_ints p p m g, groups_ints p m gs)

  prefixes_ints : (p m : ℕ) (rows : List Row) → ints_bound (prefixes vs ds p m rows) ≤ n
  unfolding prefixes
  prefixes_ints p zero rows = omega arith
  prefixes_ints p (suc m) rows = omega (arith, ints_bound_append (flat (map (column_clauses vs ds p p (suc m)) (groups p zero rows))) (prefixes vs ds (suc p) m rows), groups_ints p (suc m) (groups p zero rows), prefixes_ints (suc p) m rows)

-- a table without columns has no clause but the empty one
plain_ints : (n : ℕ) (vs : List ℕ) (ds : List Domain) (rows : List Row) → all (λ v. ltb v n) vs ≡ true → ints_bound (plain_clauses vs ds rows) ≤ n
unfolding plain_clauses prefixes
plain_ints n vs ds [] h = omega arith
plain_ints n [] ds (r ∷ rows) h = omega arith
plain_ints n (v ∷ vs) ds (r ∷ rows) h = prefixes_ints (v ∷ vs) ds n (λ i. column_below n (v ∷ vs) i (omega (arith, ltb-true v n (and_l (ltb v n) (all (λ v. ltb v n) vs) h))) h) 0 (length (v ∷ vs)) (r ∷ rows)

table_ints : (n : ℕ) (vs : List ℕ) (ds : List Domain) (rows : List (List Cell)) → all (λ v. ltb v n) vs ≡ true → ints_bound (plain_table vs ds rows) ≤ n
unfolding plain_table
table_ints n vs ds rows h = plain_ints n vs ds (select (within ds) (sort_rows (map (map cell_value) rows))) h

within_map : (f : ℕ → Domain) (ι : IVal) (vs : List ℕ) → all (λ v. in_domain (ι v) (f v)) vs ≡ true → within (map f vs) (map ι vs) ≡ true
unfolding within
within_map f ι [] h = refl
within_map f ι (v ∷ vs) h = and_i (in_domain (ι v) (f v)) _ (and_l (in_domain (ι v) (f v)) _ h) (within_map f ι vs (and_r (in_domain (ι v) (f v)) _ h))

module _ (δ : Val) (ε : IVal) (ds : List Domain) where
  -- ---- the rows, over variables that have values of their domains

  abbrev permitted : List ℕ → List (List Cell) → Val → IVal → Bool
  permitted vs rows ρ ι = any (λ cs. row_permits cs (map ι vs)) rows

  abbrev InDomains : List ℕ → Log → Type 0
  InDomains vs s = (ρ : Val) (ι : IVal) → Agrees δ ε ρ ι s → all (λ v. in_domain (ι v) (domain_at ds s v)) vs ≡ true

  plain_means : (vs : List ℕ) (rows : List (List Cell)) (s : Log) → all (wide (length vs)) rows ≡ true → any (any is_star) rows ≡ false → all (λ v. ltb v (next_int s)) vs ≡ true → InDomains vs s
      → Means δ ε s (plain_table vs (map (domain_at ds s) vs) rows, s) (permitted vs rows)
  plain_means vs rows s w h low inside =
      let f : ℕ → Domain = domain_at ds s in
      let e : (ρ : Val) (ι : IVal) → Agrees δ ε ρ ι s → all_true ρ ι (plain_table vs (map f vs) rows) ≡ permitted vs rows ρ ι = λ ρ ι a.
      plain_table_means vs (map f vs) ρ ι rows (length-map vs f) (within_map f ι vs (inside ρ ι a)) w h in
      record {
        grows = same;
        bounded = omega (arith, table_bound vs (map f vs) rows);
        numbered = table_ints (next_int s) vs (map f vs) rows low;
        sound = λ ρ ι a k. sym (e ρ ι a) ∙ k;
        complete = λ ρ ι g k. e ρ ι (fits_agrees δ ε ρ ι s g) ∙ k;
      }

  supports_mean : (vs : List ℕ) (rows : List (List Cell)) (s : Log) → all (wide (length vs)) rows ≡ true → all (λ v. ltb v (next_int s)) vs ≡ true → InDomains vs s
      → Means δ ε s (normalize_extension_supports ds vs rows s) (permitted vs rows)
  unfolding normalize_extension_supports
  supports_mean vs rows s w low inside = go (any (any is_star) rows) refl
    where
      go : (t : Bool) → any (any is_star) rows ≡ t → Means δ ε s (cond t (star_table vs rows s) (plain_table vs (map (domain_at ds s) vs) rows, s)) (permitted vs rows)
      go true e = star_table_means δ ε vs rows s low
      go false e = plain_means vs rows s w e low inside

  -- ---- the statement

  held_permitted : (ρ : Val) (ι : IVal) (es : List IntExpr) (vs : List ℕ) (rows : List (List Cell)) → map ι vs ≡ map (int_value δ ε ρ) es → any (row_holds δ ε ρ es) rows ≡ permitted vs rows ρ ι
  held_permitted ρ ι es vs rows e = any_cong (row_holds δ ε ρ es) (λ cs. row_permits cs (map ι vs)) rows (λ cs. row_holds_permits δ ε ρ es cs ∙ ap (row_permits cs) (sym e))

  -- a table's rows have as many cells as it has columns (reading); its columns write variables whose domains are ordered and hold their values
  pub table_means : (es : List IntExpr) (rows : List (List Cell)) (s : Log) → all (wide (length es)) rows ≡ true → NoNumbers es → EveryColumn (WithinDomain ds ε) es → Lawful δ ε s → WellMade ds Any (Inside ds ε) s
      → Says δ ε s (normalize_table ds es rows s) (λ ρ ι. stmt_holds δ ε ρ (Table es rows))
  unfolding normalize_table stmt_holds register
  table_means es rows s w low h l made = record {
    grows = grow (added o.0) (refl, r.bounded, r.numbered) (grows_trans m.grows (extends r.grows));
    sound = λ ρ ι a d.
        let z : Agrees δ ε ρ ι c.log = agrees_back ρ ι r.grows a.1 in
        held_permitted ρ ι es c.vars rows (m.sound ρ ι z (added_first ρ ι m.grows (extends r.grows) d.1)) ∙ r.sound ρ ι a.1 d.0;
    complete = λ ρ ι f k.
        let g : Fits δ ε ρ ι c.log = fits_back ρ ι r.grows f.1 in
        let b : AddedBy ρ ι m.grows = m.complete ρ ι g in
        let values = m.sound ρ ι (fits_agrees δ ε ρ ι c.log g) b in
        (r.complete ρ ι f.1 (sym (held_permitted ρ ι es c.vars rows values) ∙ k), added_then ρ ι m.grows (extends r.grows) b (added_none ρ ι r.grows));
  }
    where
      c : Columns
      c = equivalent_int_vars ds es s

      m : ColumnsMean ds ε δ s c (λ ρ. map (int_value δ ε ρ) es)
      m = columns_mean ds ε δ es low h s l made

      o : Out
      o = normalize_extension_supports ds c.vars rows c.log

      wides : all (wide (length c.vars)) rows ≡ true
      wides = let e : length c.vars ≡ length es = m.as_many (λ n. false) ∙ length-map es (int_value δ ε (λ n. false)) in rw e w

      r : Means δ ε c.log o (permitted c.vars rows)
      r = supports_mean c.vars rows c.log wides m.below m.inside
