-- What a loader may rely on: the tests that a careful one makes of an answer's words, from the first word to the last.
-- No answer of the call fails one (`answer_loads`), so a loader in C may use the words' numbers as indices without testing them.
use Rattle.std.specs.Prelude.{Bool, true, false, not, ◌&&◌, cond, List, [], ◌∷◌, ℕ, zero, suc, ◌+◌, ℤ, pos, negsuc, nat_abs, leb}
use Rattle.std.proofs.Math.Option.{Option, none, some}
use Rattle.std.specs.Int.Signed.{le_z, lt_z}
use Rattle.laws.specs.Ints.{is_zero}
use Rattle.answer.specs.Passes.{head_word, word_of}

-- a test takes words in front and gives those behind them; nothing: it fails
abbrev pub Take : Type 0
Take = List ℤ → Option (List ℤ)

abbrev pub then_take : Option (List ℤ) → Take → Option (List ℤ)
then_take none t = none
then_take (some ws) t = t ws

unfoldable pub take_word : (ℤ → Bool) → Take
take_word fine [] = none
take_word fine (w ∷ ws) = cond (fine w) (some ws) none

unfoldable pub take_times : Take → ℕ → Take
take_times t zero ws = some ws
take_times t (suc n) ws = then_take (t ws) (take_times t n)

-- a count, and as many as it says
unfoldable pub take_counted : (ℕ → Take) → Take
take_counted t [] = none
take_counted t (pos n ∷ ws) = t n ws
take_counted t (negsuc n ∷ ws) = none

abbrev pub from_to : ℕ → ℕ → ℤ → Bool
from_to low high w = le_z (pos low) w && le_z w (pos high)

-- not 0, and within the count of emitted Booleans
unfoldable pub take_literal : ℕ → Take
take_literal bools = take_word (λ w. not (is_zero w) && leb (nat_abs w) bools)

-- kind 0: lowest, a highest value that is not below it, at least one value
unfoldable pub take_range : Take
take_range ws =
    then_take (take_word (λ w. true) ws) (λ (r : List ℤ).
    then_take (take_word (le_z (head_word ws)) r)
    (take_word (le_z (pos 1))))

-- kind 1: a literal, the value where it is false, a higher one where it is true
unfoldable pub take_following : ℕ → Take
take_following bools ws =
    then_take (take_literal bools ws) (λ (r : List ℤ).
    then_take (take_word (λ w. true) r)
    (take_word (lt_z (head_word r))))

-- a kind, 0 or 1, and its three words
unfoldable pub take_record : ℕ → Take
take_record bools ws = then_take (take_word (from_to 0 1) ws) (λ (r : List ℤ). cond (is_zero (head_word ws)) (take_range r) (take_following bools r))

-- n terms: variables strictly rising from low on, below the count of emitted integers; coefficients not 0
unfoldable pub take_terms : ℕ → ℕ → ℕ → Take
take_terms ints low zero ws = some ws
take_terms ints low (suc n) ws =
    then_take (take_word (λ w. le_z (pos low) w && lt_z w (pos ints)) ws) (λ (r : List ℤ).
    then_take (take_word (λ w. not (is_zero w)) r)
    (take_terms ints (suc (nat_abs (head_word ws))) n))

-- operator, constant, terms
unfoldable pub take_comparison : ℕ → Take
take_comparison ints ws =
    then_take (take_word (from_to 0 5) ws) (λ (r : List ℤ).
    then_take (take_word (λ w. true) r)
    (take_counted (take_terms ints 0)))

unfoldable pub take_clause : ℕ → ℕ → Take
take_clause bools ints ws = then_take (take_counted (take_times (take_literal bools)) ws) (take_counted (take_times (take_comparison ints)))

abbrev pub at_end : Option (List ℤ) → Bool
at_end none = false
at_end (some []) = true
at_end (some (w ∷ ws)) = false

-- b, i: how many variables are declared; bools, ints: how many are emitted
unfoldable pub loads_with : ℕ → ℕ → ℕ → ℕ → List ℤ → Bool
loads_with b i bools ints ws =
    -- fixed values; literals or 0; numbers plus 1, or 0
    at_end (then_take (take_times (take_word (from_to 0 2)) b ws) (λ (r : List ℤ).
    then_take (take_times (take_word (λ w. leb (nat_abs w) bools)) b r) (λ (r : List ℤ).
    then_take (take_times (take_word (from_to 0 ints)) i r) (λ (r : List ℤ).
    -- the count of emitted Booleans, the records of emitted integers, the clauses, and nothing else
    then_take (take_word (le_z (pos 0)) r) (λ (r : List ℤ).
    then_take (take_counted (take_times (take_record bools)) r)
    (take_counted (take_times (take_clause bools ints))))))))

-- the emitted counts stand behind the maps
unfoldable pub loads : ℕ → ℕ → List ℤ → Bool
loads b i ws = loads_with b i (nat_abs (word_of ws (b + (b + i)))) (nat_abs (word_of ws (suc (b + (b + i))))) ws
