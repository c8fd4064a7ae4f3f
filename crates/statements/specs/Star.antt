-- Rows of stars only: a table that has one leaves no clause.
use Rattle.std.specs.Prelude.{◌≡◌, refl, Bool, true, false, ◌||◌, List, [], ◌∷◌, map, ℕ}
use Rattle.std.proofs.lemmas.Bool.{false≢true}
use Rattle.laws.specs.Lists.{any}
use Rattle.laws.specs.Bools.{or_pick}
use Rattle.syntax.specs.Syntax.{Cell, star, value}
use Rattle.clauses.specs.Clause.{Clause}
use Rattle.clauses.specs.Log.{Log}
use Rattle.clauses.specs.Disjunction.{satisfied, sorted, finish_sorted, normalize_disjunction}
use Rattle.tables.specs.Tables.{star_row, star_table}

-- all stars: no equality
abbrev pub no_equality : List ℕ → List Cell → Bool
no_equality [] cs = true
no_equality (v ∷ vs) [] = true
no_equality (v ∷ vs) (star ∷ cs) = no_equality vs cs
no_equality (v ∷ vs) (value x ∷ cs) = false

-- some row is of stars only
abbrev pub any_free : List ℕ → List (List Cell) → Bool
any_free vs rows = any (no_equality vs) rows

no_clause : (vs : List ℕ) (cs : List Cell) → no_equality vs cs ≡ true → star_row vs cs ≡ []
unfolding star_row
no_clause [] cs h = refl
no_clause (v ∷ vs) [] h = refl
no_clause (v ∷ vs) (star ∷ cs) h = no_clause vs cs h
no_clause (v ∷ vs) (value x ∷ cs) h = absurd (false≢true h)

sorted_more : (xs : List Clause) (css : List (List Clause)) → sorted css ≡ satisfied → sorted (xs ∷ css) ≡ satisfied
unfolding sorted
sorted_more [] css h = refl
sorted_more (c ∷ []) css h = rw h refl
sorted_more (c ∷ d ∷ cs) css h = rw h refl

sorted_free : (vs : List ℕ) (rows : List (List Cell)) → any_free vs rows ≡ true → sorted (map (star_row vs) rows) ≡ satisfied
sorted_free vs [] h = absurd (false≢true h)
sorted_free vs (cs ∷ rows) h =
    or_pick (no_equality vs cs) (any_free vs rows) h
    (λ e. unfold sorted in rw (no_clause vs cs e) refl)
    (λ e. sorted_more (star_row vs cs) (map (star_row vs) rows) (sorted_free vs rows e))

or-false : (a : Bool) → a || false ≡ true → a ≡ true
or-false true h = refl
or-false false h = h

pub free_table : (vs : List ℕ) (rows : List (List Cell)) (s : Log) → any_free vs rows ≡ true → star_table vs rows s ≡ ([], s)
unfolding star_table normalize_disjunction finish_sorted
free_table vs [] s h = absurd (false≢true h)
free_table vs (cs ∷ []) s h = rw (no_clause vs cs (or-false (no_equality vs cs) h)) refl
free_table vs (cs ∷ ds ∷ rows) s h = rw (sorted_free vs (cs ∷ ds ∷ rows) h) refl
