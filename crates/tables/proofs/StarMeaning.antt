-- A starred table is the Or over its rows of the And of their unstarred equalities: its clauses say that some row's cells permit the values.
use Rattle.std.specs.Prelude.{◌≡◌, Bool, true, false, ◌&&◌, ◌||◌, ℕ, ◌≤◌, ltb}
use Rattle.std.proofs.Math.Path.{refl}
use mathlib.Core.List.{List, [], ◌∷◌, map}
use Rattle.std.proofs.Common.{arith, ltb-true}
use Rattle.laws.specs.Bools.{and_l, and_r, eq2}
use Rattle.laws.specs.Ints.{eqZ}
use Rattle.laws.specs.Order.{eqZ_sym}
use Rattle.laws.specs.Lists.{any, all}
use Rattle.syntax.specs.Syntax.{Cell, star, value}
use Rattle.syntax.specs.Satisfies.{Val, IVal}
use Rattle.clauses.specs.Clause.{clause_true}
use Rattle.clauses.specs.Log.{Log, next_int}
use Rattle.clauses.proofs.Bounds.{clauses_bound, lists_bound, ints_bound, int_lists_bound}
use Rattle.clauses.specs.Valuation.{any_all_true}
use Rattle.clauses.proofs.Means.{Means, means_to}
use Rattle.clauses.proofs.DisjunctionMeaning.{disjunction_means}
use Rattle.tables.specs.Tables.{star_row, star_table}
use Rattle.tables.proofs.Agree.{row_permits}
use Rattle.tables.proofs.PlainMeaning.{linear_eq_true}

module _ (ρ : Val) (ι : IVal) where
  star_row_true : (vs : List ℕ) (cs : List Cell) → all (clause_true ρ ι) (star_row vs cs) ≡ row_permits cs (map ι vs)
  unfolding star_row row_permits
  star_row_true [] [] = refl
  star_row_true [] (c ∷ cs) = refl
  star_row_true (v ∷ vs) [] = refl
  star_row_true (v ∷ vs) (star ∷ cs) = star_row_true vs cs
  star_row_true (v ∷ vs) (value x ∷ cs) = rw (linear_eq_true ι v x, eqZ_sym (ι v) x, star_row_true vs cs) (tidy (eqZ x (ι v)) (row_permits cs (map ι vs)))
    where
      tidy : (a b : Bool) → (a || false) && b ≡ a && b
      tidy = eq2 _ _ refl

  star_rows_true : (vs : List ℕ) (rows : List (List Cell)) → any_all_true ρ ι (map (star_row vs) rows) ≡ any (λ cs. row_permits cs (map ι vs)) rows
  star_rows_true vs [] = refl
  star_rows_true vs (cs ∷ rows) = rw (star_row_true vs cs, star_rows_true vs rows)

-- the equalities name no Boolean
star_row_bound : (vs : List ℕ) (cs : List Cell) → clauses_bound (star_row vs cs) ≡ 0
unfolding star_row
star_row_bound [] cs = refl
star_row_bound (v ∷ vs) [] = refl
star_row_bound (v ∷ vs) (star ∷ cs) = star_row_bound vs cs
star_row_bound (v ∷ vs) (value x ∷ cs) = rw (star_row_bound vs cs) (omega arith)

star_rows_bound : (vs : List ℕ) (rows : List (List Cell)) → lists_bound (map (star_row vs) rows) ≡ 0
star_rows_bound vs [] = refl
star_rows_bound vs (cs ∷ rows) = rw (star_row_bound vs cs, star_rows_bound vs rows) (omega arith)

-- and no integers but the columns'
star_row_ints : (n : ℕ) (vs : List ℕ) (cs : List Cell) → all (λ v. ltb v n) vs ≡ true → ints_bound (star_row vs cs) ≤ n
unfolding star_row
star_row_ints n [] cs h = omega arith
star_row_ints n (v ∷ vs) [] h = omega arith
star_row_ints n (v ∷ vs) (star ∷ cs) h = star_row_ints n vs cs (and_r (ltb v n) (all (λ v. ltb v n) vs) h)
star_row_ints n (v ∷ vs) (value x ∷ cs) h = omega (arith, ltb-true v n (and_l (ltb v n) (all (λ v. ltb v n) vs) h), star_row_ints n vs cs (and_r (ltb v n) (all (λ v. ltb v n) vs) h))

star_rows_ints : (n : ℕ) (vs : List ℕ) (rows : List (List Cell)) → all (λ v. ltb v n) vs ≡ true → int_lists_bound (map (star_row vs) rows) ≤ n
star_rows_ints n vs [] h = omega arith
star_rows_ints n vs (cs ∷ rows) h = omega (arith, star_row_ints n vs cs h, star_rows_ints n vs rows h)

-- from any log that has the columns' numbers
pub star_table_means : (δ : Val) (ε : IVal) (vs : List ℕ) (rows : List (List Cell)) (s : Log) → all (λ v. ltb v (next_int s)) vs ≡ true
    → Means δ ε s (star_table vs rows s) (λ ρ ι. any (λ cs. row_permits cs (map ι vs)) rows)
unfolding star_table
star_table_means δ ε vs rows s h = means_to δ ε s _ _ _ (λ ρ ι. star_rows_true ρ ι vs rows) (disjunction_means δ ε (map (star_row vs) rows) s (omega (arith, star_rows_bound vs rows)) (star_rows_ints (next_int s) vs rows h))
