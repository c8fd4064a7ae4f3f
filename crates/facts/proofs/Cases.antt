-- A loader's tests computed: P1's and P9's answers pass them; each of the others fails one.
use Rattle.std.specs.Prelude.{◌≡◌, refl, Bool, true, false, List, [], ◌∷◌, ℕ, ℤ, pos, neg_ℤ}
use Rattle.facts.specs.Loads.{take_word, take_times, take_counted, take_record, take_range, take_following, take_literal, take_terms, take_comparison, take_clause, loads_with, loads}

abbrev minus : ℕ → ℤ
minus n = neg_ℤ (pos n)

unfoldable pub accepted : ℕ → ℕ → List ℤ → Bool
unfolding take_word take_times take_counted take_record take_range take_following take_literal take_terms take_comparison take_clause loads_with loads
accepted b i ws = loads b i ws

-- P1: three Booleans, clauses 1,-2,-3 and 2,-1 and 3,-1
pub p1_loads : accepted 3 0 (pos 2 ∷ pos 2 ∷ pos 2 ∷ pos 1 ∷ pos 2 ∷ pos 3 ∷ pos 3 ∷ pos 0 ∷ pos 3 ∷ pos 3 ∷ pos 1 ∷ minus 2 ∷ minus 3 ∷ pos 0 ∷ pos 2 ∷ pos 2 ∷ minus 1 ∷ pos 0 ∷ pos 2 ∷ pos 3 ∷ minus 1 ∷ pos 0 ∷ []) ≡ true
unfolding accepted
p1_loads = refl

-- P9: one integer from 0 to 2; it is 0 or it is 2
pub p9_loads : accepted 0 1 (pos 1 ∷ pos 0 ∷ pos 1 ∷ pos 0 ∷ pos 0 ∷ pos 2 ∷ pos 3 ∷ pos 1 ∷ pos 0 ∷ pos 2 ∷ pos 0 ∷ pos 0 ∷ pos 1 ∷ pos 0 ∷ pos 1 ∷ pos 0 ∷ minus 2 ∷ pos 1 ∷ pos 0 ∷ pos 1 ∷ []) ≡ true
unfolding accepted
p9_loads = refl

-- a literal 0; a literal above the count
pub literal_zero : accepted 0 0 (pos 1 ∷ pos 0 ∷ pos 1 ∷ pos 1 ∷ pos 0 ∷ pos 0 ∷ []) ≡ false
unfolding accepted
literal_zero = refl

pub literal_above : accepted 0 0 (pos 1 ∷ pos 0 ∷ pos 1 ∷ pos 1 ∷ minus 2 ∷ pos 0 ∷ []) ≡ false
unfolding accepted
literal_above = refl

-- two integers, one comparison: variables 1 and 0, in this order; variable 2; a coefficient 0
pub terms_fall : accepted 0 0 (pos 0 ∷ pos 2 ∷ pos 0 ∷ pos 0 ∷ pos 1 ∷ pos 2 ∷ pos 0 ∷ pos 0 ∷ pos 1 ∷ pos 2 ∷ pos 1 ∷ pos 0 ∷ pos 1 ∷ pos 0 ∷ pos 0 ∷ pos 2 ∷ pos 1 ∷ pos 1 ∷ pos 0 ∷ pos 1 ∷ []) ≡ false
unfolding accepted
terms_fall = refl

pub variable_above : accepted 0 0 (pos 0 ∷ pos 2 ∷ pos 0 ∷ pos 0 ∷ pos 1 ∷ pos 2 ∷ pos 0 ∷ pos 0 ∷ pos 1 ∷ pos 2 ∷ pos 1 ∷ pos 0 ∷ pos 1 ∷ pos 0 ∷ pos 0 ∷ pos 1 ∷ pos 2 ∷ pos 1 ∷ []) ≡ false
unfolding accepted
variable_above = refl

pub coefficient_zero : accepted 0 0 (pos 0 ∷ pos 2 ∷ pos 0 ∷ pos 0 ∷ pos 1 ∷ pos 2 ∷ pos 0 ∷ pos 0 ∷ pos 1 ∷ pos 2 ∷ pos 1 ∷ pos 0 ∷ pos 1 ∷ pos 0 ∷ pos 0 ∷ pos 1 ∷ pos 1 ∷ pos 0 ∷ []) ≡ false
unfolding accepted
coefficient_zero = refl

-- an operator 6; a map's number above the count; a record whose lowest is above its highest
pub operator_above : accepted 0 0 (pos 0 ∷ pos 0 ∷ pos 1 ∷ pos 0 ∷ pos 1 ∷ pos 6 ∷ pos 0 ∷ pos 0 ∷ []) ≡ false
unfolding accepted
operator_above = refl

pub map_above : accepted 1 0 (pos 2 ∷ pos 2 ∷ pos 1 ∷ pos 0 ∷ pos 0 ∷ []) ≡ false
unfolding accepted
map_above = refl

pub record_crossed : accepted 0 0 (pos 0 ∷ pos 1 ∷ pos 0 ∷ pos 2 ∷ pos 0 ∷ pos 1 ∷ pos 0 ∷ []) ≡ false
unfolding accepted
record_crossed = refl

-- one integer that follows a literal, 1 where it is false and 5 where it is true
abbrev following_loads : ℤ → ℤ → ℤ → Bool
following_loads kind l high = accepted 0 0 (pos 2 ∷ pos 1 ∷ kind ∷ l ∷ pos 1 ∷ high ∷ pos 0 ∷ [])

pub follower_loads : following_loads (pos 1) (minus 2) (pos 5) ≡ true
unfolding accepted
follower_loads = refl

-- the kind 2; a literal 0; one above the count; values that do not rise; three words without a kind
pub kind_above : following_loads (pos 2) (minus 2) (pos 5) ≡ false
unfolding accepted
kind_above = refl

pub record_literal_zero : following_loads (pos 1) (pos 0) (pos 5) ≡ false
unfolding accepted
record_literal_zero = refl

pub record_literal_above : following_loads (pos 1) (pos 3) (pos 5) ≡ false
unfolding accepted
record_literal_above = refl

pub values_level : following_loads (pos 1) (minus 2) (pos 1) ≡ false
unfolding accepted
values_level = refl

pub kind_missing : accepted 0 0 (pos 0 ∷ pos 1 ∷ pos 0 ∷ pos 2 ∷ pos 3 ∷ pos 0 ∷ []) ≡ false
unfolding accepted
kind_missing = refl

-- a count of two clauses where one follows; a word left over
pub clause_missing : accepted 0 0 (pos 0 ∷ pos 0 ∷ pos 2 ∷ pos 0 ∷ pos 0 ∷ []) ≡ false
unfolding accepted
clause_missing = refl

pub word_left : accepted 0 0 (pos 0 ∷ pos 0 ∷ pos 0 ∷ pos 0 ∷ []) ≡ false
unfolding accepted
word_left = refl
