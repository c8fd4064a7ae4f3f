-- Cases P1 to P12 of document 01: one table, with the words that the document gives (each record with its kind, document 02, 2.5), and one theorem. Then the same for slices that are
-- too short, or as long as the answer; for merging; and for sets with Ifs.
use Rattle.std.specs.Prelude.{◌≡◌, refl, true, List, [], ◌∷◌, ◌++◌, map, ℕ, ℤ, pos, neg_ℤ, length}
use Rattle.laws.specs.Lists.{flat, counted}
use Rattle.call.specs.Call.{Result, compiled, contradiction, refused, unchosen}
use Rattle.call.specs.Compute.{Case, case, all_agree}

-- ---- notation: words, negative numbers, a clause, of literals alone, of comparisons alone

abbrev words : List ℕ → List ℤ
words ns = map pos ns

abbrev minus : ℕ → ℤ
minus n = neg_ℤ (pos n)

abbrev clause : List ℤ → List (List ℤ) → List ℤ
clause ls ks = pos (length ls) ∷ ls ++ (pos (length ks) ∷ flat ks)

abbrev literals : List ℤ → List ℤ
literals ls = clause ls []

abbrev comparisons : List (List ℤ) → List ℤ
comparisons ks = clause [] ks

-- operator, constant, one variable with coefficient 1
abbrev unit_term : ℕ → ℤ → ℕ → List ℤ
unit_term op c v = pos op ∷ c ∷ pos 1 ∷ pos v ∷ pos 1 ∷ []

-- with the listing program's slices
abbrev given : List ℕ → Result → Case
given set result = case (words set) 16384 16384 result

-- the words before the clauses, then the clauses
abbrev answers : List ℕ → List (List ℤ) → Result
answers before cs = compiled (words before ++ counted (λ c. c) cs)

-- ---- the table

abbrev pub P1_to_P12 : List Case
P1_to_P12 =
    -- P1: v0 if and only if v1 and v2
    given (3 ∷ 0 ∷ 1 ∷ 1 ∷ 16 ∷ 11 ∷ 0 ∷ 12 ∷ 2 ∷ 11 ∷ 1 ∷ 11 ∷ 2 ∷ [])
    (answers (2 ∷ 2 ∷ 2 ∷ 1 ∷ 2 ∷ 3 ∷ 3 ∷ 0 ∷ [])
    (literals (pos 1 ∷ minus 2 ∷ minus 3 ∷ []) ∷ literals (pos 2 ∷ minus 1 ∷ []) ∷ literals (pos 3 ∷ minus 1 ∷ []) ∷ []))
    -- P2: an Or of two Ands of two
    ∷ given (4 ∷ 0 ∷ 1 ∷ 1 ∷ 13 ∷ 2 ∷ 12 ∷ 2 ∷ 11 ∷ 0 ∷ 11 ∷ 1 ∷ 12 ∷ 2 ∷ 11 ∷ 2 ∷ 11 ∷ 3 ∷ [])
    (answers (2 ∷ 2 ∷ 2 ∷ 2 ∷ 1 ∷ 2 ∷ 3 ∷ 4 ∷ 5 ∷ 0 ∷ [])
    (literals (pos 1 ∷ minus 5 ∷ []) ∷ literals (pos 2 ∷ minus 5 ∷ []) ∷ literals (pos 3 ∷ pos 5 ∷ []) ∷ literals (pos 4 ∷ pos 5 ∷ []) ∷ []))
    -- P3: an Or of three Ands of two
    ∷ given (6 ∷ 0 ∷ 1 ∷ 1 ∷ 13 ∷ 3 ∷ 12 ∷ 2 ∷ 11 ∷ 0 ∷ 11 ∷ 1 ∷ 12 ∷ 2 ∷ 11 ∷ 2 ∷ 11 ∷ 3 ∷ 12 ∷ 2 ∷ 11 ∷ 4 ∷ 11 ∷ 5 ∷ [])
    (answers (2 ∷ 2 ∷ 2 ∷ 2 ∷ 2 ∷ 2 ∷ 1 ∷ 2 ∷ 3 ∷ 4 ∷ 5 ∷ 6 ∷ 9 ∷ 0 ∷ [])
    (literals (pos 1 ∷ minus 7 ∷ []) ∷ literals (pos 2 ∷ minus 7 ∷ []) ∷ literals (pos 3 ∷ minus 8 ∷ []) ∷ literals (pos 4 ∷ minus 8 ∷ []) ∷ literals (pos 5 ∷ minus 9 ∷ []) ∷ literals (pos 6 ∷ minus 9 ∷ []) ∷ literals (pos 7 ∷ pos 8 ∷ pos 9 ∷ []) ∷ []))
    -- P4: v0; v0 false or v1: both fixed true
    ∷ given (2 ∷ 0 ∷ 2 ∷ 1 ∷ 11 ∷ 0 ∷ 1 ∷ 13 ∷ 2 ∷ 14 ∷ 11 ∷ 0 ∷ 11 ∷ 1 ∷ []) (answers (1 ∷ 1 ∷ 0 ∷ 0 ∷ 0 ∷ 0 ∷ []) [])
    -- P5: v0; not v0
    ∷ given (1 ∷ 0 ∷ 2 ∷ 1 ∷ 11 ∷ 0 ∷ 1 ∷ 14 ∷ 11 ∷ 0 ∷ []) contradiction
    -- P6: nothing declared, nothing stated
    ∷ given (0 ∷ 0 ∷ 0 ∷ []) (answers (0 ∷ 0 ∷ []) [])
    -- P7: an empty Or
    ∷ given (0 ∷ 0 ∷ 1 ∷ 1 ∷ 13 ∷ 0 ∷ []) contradiction
    -- P8: an empty And
    ∷ given (0 ∷ 0 ∷ 1 ∷ 1 ∷ 12 ∷ 0 ∷ []) (answers (0 ∷ 0 ∷ []) [])
    -- P9: a column over 0 to 2, rows 0 and 2
    ∷ given (0 ∷ 1 ∷ 0 ∷ 0 ∷ 2 ∷ 1 ∷ 2 ∷ 1 ∷ 2 ∷ 21 ∷ 0 ∷ 0 ∷ 2 ∷ [])
    (answers (1 ∷ 0 ∷ 1 ∷ 0 ∷ 0 ∷ 2 ∷ 3 ∷ []) (comparisons (unit_term 0 (pos 0) 0 ∷ unit_term 0 (minus 2) 0 ∷ []) ∷ []))
    -- P10: the same, rows 0, 1 and 2
    ∷ given (0 ∷ 1 ∷ 0 ∷ 0 ∷ 2 ∷ 1 ∷ 2 ∷ 1 ∷ 3 ∷ 21 ∷ 0 ∷ 0 ∷ 1 ∷ 2 ∷ []) (answers (1 ∷ 0 ∷ 1 ∷ 0 ∷ 0 ∷ 2 ∷ 3 ∷ []) [])
    -- P11: the same, row 5: one empty clause
    ∷ given (0 ∷ 1 ∷ 0 ∷ 0 ∷ 2 ∷ 1 ∷ 2 ∷ 1 ∷ 1 ∷ 21 ∷ 0 ∷ 5 ∷ []) (answers (1 ∷ 0 ∷ 1 ∷ 0 ∷ 0 ∷ 2 ∷ 3 ∷ []) (literals [] ∷ []))
    -- P12: two columns over 0 and 1, rows (0,0) and (1,1)
    ∷ given (0 ∷ 2 ∷ 0 ∷ 0 ∷ 1 ∷ 0 ∷ 0 ∷ 1 ∷ 1 ∷ 2 ∷ 2 ∷ 2 ∷ 21 ∷ 0 ∷ 21 ∷ 1 ∷ 0 ∷ 0 ∷ 1 ∷ 1 ∷ [])
    (answers (1 ∷ 2 ∷ 0 ∷ 2 ∷ 0 ∷ 0 ∷ 1 ∷ 2 ∷ 0 ∷ 0 ∷ 1 ∷ 2 ∷ [])
    (comparisons (unit_term 1 (pos 0) 0 ∷ unit_term 0 (pos 0) 1 ∷ []) ∷ comparisons (unit_term 1 (minus 1) 0 ∷ unit_term 0 (minus 1) 1 ∷ []) ∷ []))
    ∷ []

pub P1_to_P12_hold : all_agree unchosen P1_to_P12 ≡ true
unfolding all_agree
P1_to_P12_hold = refl

-- ---- document 01's "Also", as far as it is of the slices; the rest stands in the Cases of read, limits, clauses and tables

abbrev P6 : List ℤ
P6 = words (0 ∷ 0 ∷ 0 ∷ [])

abbrev pub also : List Case
also =
    -- P6 with an output of 3 words and of 2
    case P6 3 16384 (compiled (words (0 ∷ 0 ∷ 0 ∷ [])))
    ∷ case P6 2 16384 (refused 12)
    -- with a work slice of 16383 words and of none
    ∷ case P6 3 16383 (refused 1)
    ∷ case P6 0 0 (refused 1)
    -- P7, a contradiction, without an output
    ∷ case (words (0 ∷ 0 ∷ 1 ∷ 1 ∷ 13 ∷ 0 ∷ [])) 0 16384 contradiction
    ∷ []

pub also_hold : all_agree unchosen also ≡ true
unfolding all_agree
also_hold = refl

-- ---- merging chosen (document 02, 2.7): the words of the Rust, but for a variable tied to itself before it has a number

abbrev pub ties : List Case
ties =
    -- v0 is not v1: one number, the second's negated
    given (2 ∷ 0 ∷ 1 ∷ 1 ∷ 15 ∷ 11 ∷ 0 ∷ 11 ∷ 1 ∷ [])
    (compiled (words (2 ∷ 2 ∷ 1 ∷ []) ++ (minus 1 ∷ words (1 ∷ 0 ∷ 2 ∷ []) ++ literals (pos 1 ∷ minus 1 ∷ []) ++ literals (minus 1 ∷ pos 1 ∷ []))))
    -- v0 or v1; v1 is v2: the pass comes first, so v1 and v2 have the number 0
    ∷ given (3 ∷ 0 ∷ 2 ∷ 1 ∷ 13 ∷ 2 ∷ 11 ∷ 0 ∷ 11 ∷ 1 ∷ 1 ∷ 16 ∷ 11 ∷ 1 ∷ 11 ∷ 2 ∷ [])
    (answers (2 ∷ 2 ∷ 2 ∷ 2 ∷ 1 ∷ 1 ∷ 2 ∷ 0 ∷ []) (literals (pos 2 ∷ pos 1 ∷ []) ∷ literals (pos 1 ∷ minus 1 ∷ []) ∷ literals (minus 1 ∷ pos 1 ∷ []) ∷ []))
    -- v0 is v1; v2 is v3; v1 is v2: two numbers, tied by the last rule's clauses
    ∷ given (4 ∷ 0 ∷ 3 ∷ 1 ∷ 16 ∷ 11 ∷ 0 ∷ 11 ∷ 1 ∷ 1 ∷ 16 ∷ 11 ∷ 2 ∷ 11 ∷ 3 ∷ 1 ∷ 16 ∷ 11 ∷ 1 ∷ 11 ∷ 2 ∷ [])
    (answers (2 ∷ 2 ∷ 2 ∷ 2 ∷ 1 ∷ 1 ∷ 2 ∷ 2 ∷ 2 ∷ 0 ∷ [])
    (literals (pos 1 ∷ minus 1 ∷ []) ∷ literals (minus 1 ∷ pos 1 ∷ []) ∷ literals (pos 2 ∷ minus 2 ∷ []) ∷ literals (minus 2 ∷ pos 2 ∷ []) ∷ literals (pos 1 ∷ minus 2 ∷ []) ∷ literals (minus 1 ∷ pos 2 ∷ []) ∷ []))
    -- v0 is not v0: passed over
    ∷ given (1 ∷ 0 ∷ 1 ∷ 1 ∷ 15 ∷ 11 ∷ 0 ∷ 11 ∷ 0 ∷ []) (answers (2 ∷ 1 ∷ 1 ∷ 0 ∷ []) (literals (pos 1 ∷ pos 1 ∷ []) ∷ literals (minus 1 ∷ minus 1 ∷ []) ∷ []))
    ∷ []

pub ties_hold : all_agree (record { merge = true }) ties ≡ true
unfolding all_agree
ties_hold = refl

-- ---- Ifs (document 02, 2.5): the words of the Rust

-- the integers v and w are equal; the integer v is n, as the Rust writes it of an If's value n
abbrev equal : ℕ → ℕ → List ℤ
equal v w = pos 0 ∷ pos 0 ∷ pos 2 ∷ pos v ∷ pos 1 ∷ pos w ∷ minus 1 ∷ []

abbrev is : ℕ → ℕ → List ℤ
is n v = pos 0 ∷ pos n ∷ pos 1 ∷ pos v ∷ minus 1 ∷ []

-- a record of a range, and of two values that follow a literal
abbrev ranging : ℕ → ℕ → ℕ → List ℤ
ranging low high n = words (0 ∷ low ∷ high ∷ n ∷ [])

abbrev following : ℤ → ℕ → ℕ → List ℤ
following l low high = pos 1 ∷ l ∷ pos low ∷ pos high ∷ []

-- the words before the records, the records, the clauses
abbrev recorded : List ℤ → List (List ℤ) → List (List ℤ) → Result
recorded before rs cs = compiled (before ++ (flat rs ++ counted (λ c. c) cs))

-- x is an integer of 0 to 5
abbrev pub ifs : List Case
ifs =
    -- If(v0, 2, 7) = x: a value for each, the lower one where the literal fails, so the literal is negated
    given (1 ∷ 1 ∷ 0 ∷ 0 ∷ 5 ∷ 1 ∷ 1 ∷ 18 ∷ 0 ∷ 23 ∷ 11 ∷ 0 ∷ 20 ∷ 2 ∷ 20 ∷ 7 ∷ 21 ∷ 0 ∷ [])
    (recorded (words (2 ∷ 1 ∷ 2 ∷ 1 ∷ 2 ∷ [])) (following (minus 1) 2 7 ∷ ranging 0 5 6 ∷ [])
    (comparisons (equal 0 1 ∷ []) ∷ []))
    -- If(v0, 7, 2) = x
    ∷ given (1 ∷ 1 ∷ 0 ∷ 0 ∷ 5 ∷ 1 ∷ 1 ∷ 18 ∷ 0 ∷ 23 ∷ 11 ∷ 0 ∷ 20 ∷ 7 ∷ 20 ∷ 2 ∷ 21 ∷ 0 ∷ [])
    (recorded (words (2 ∷ 1 ∷ 2 ∷ 1 ∷ 2 ∷ [])) (following (pos 1) 2 7 ∷ ranging 0 5 6 ∷ [])
    (comparisons (equal 0 1 ∷ []) ∷ []))
    -- If(v0, 3, 3) = x: equal values are a range
    ∷ given (1 ∷ 1 ∷ 0 ∷ 0 ∷ 5 ∷ 1 ∷ 1 ∷ 18 ∷ 0 ∷ 23 ∷ 11 ∷ 0 ∷ 20 ∷ 3 ∷ 20 ∷ 3 ∷ 21 ∷ 0 ∷ [])
    (recorded (words (2 ∷ 1 ∷ 2 ∷ 1 ∷ 2 ∷ [])) (ranging 3 3 1 ∷ ranging 0 5 6 ∷ [])
    (comparisons (equal 0 1 ∷ []) ∷ []))
    -- If(not v0, 2, 7) = x: a new Boolean is the condition
    ∷ given (1 ∷ 1 ∷ 0 ∷ 0 ∷ 5 ∷ 1 ∷ 1 ∷ 18 ∷ 0 ∷ 23 ∷ 14 ∷ 11 ∷ 0 ∷ 20 ∷ 2 ∷ 20 ∷ 7 ∷ 21 ∷ 0 ∷ [])
    (recorded (words (2 ∷ 2 ∷ 2 ∷ 2 ∷ 2 ∷ [])) (following (minus 1) 2 7 ∷ ranging 0 5 6 ∷ [])
    (literals (pos 1 ∷ pos 2 ∷ []) ∷ literals (minus 1 ∷ minus 2 ∷ []) ∷ comparisons (equal 0 1 ∷ []) ∷ []))
    -- If(v0 and v1, 2, 7) = x
    ∷ given (2 ∷ 1 ∷ 0 ∷ 0 ∷ 5 ∷ 1 ∷ 1 ∷ 18 ∷ 0 ∷ 23 ∷ 12 ∷ 2 ∷ 11 ∷ 0 ∷ 11 ∷ 1 ∷ 20 ∷ 2 ∷ 20 ∷ 7 ∷ 21 ∷ 0 ∷ [])
    (recorded (words (2 ∷ 2 ∷ 2 ∷ 3 ∷ 2 ∷ 3 ∷ 2 ∷ [])) (following (minus 1) 2 7 ∷ ranging 0 5 6 ∷ [])
    (literals (pos 1 ∷ minus 2 ∷ minus 3 ∷ []) ∷ literals (pos 2 ∷ minus 1 ∷ []) ∷ literals (pos 3 ∷ minus 1 ∷ []) ∷ comparisons (equal 0 1 ∷ []) ∷ []))
    -- If(v0, 0 * x, 4) = 2: a value that comes to a constant is one
    ∷ given (1 ∷ 1 ∷ 0 ∷ 0 ∷ 5 ∷ 1 ∷ 1 ∷ 18 ∷ 0 ∷ 23 ∷ 11 ∷ 0 ∷ 22 ∷ 1 ∷ 0 ∷ 21 ∷ 0 ∷ 20 ∷ 4 ∷ 20 ∷ 2 ∷ [])
    (recorded (words (2 ∷ 1 ∷ 1 ∷ 1 ∷ 2 ∷ [])) (ranging 0 5 6 ∷ following (minus 1) 0 4 ∷ [])
    (comparisons (unit_term 0 (minus 2) 1 ∷ []) ∷ []))
    -- If(v0 and v1, x, y) = 4, y of 2 to 9: a new integer, its clauses before the rule's
    ∷ given (2 ∷ 2 ∷ 0 ∷ 0 ∷ 5 ∷ 0 ∷ 2 ∷ 9 ∷ 1 ∷ 1 ∷ 18 ∷ 0 ∷ 23 ∷ 12 ∷ 2 ∷ 11 ∷ 0 ∷ 11 ∷ 1 ∷ 21 ∷ 0 ∷ 21 ∷ 1 ∷ 20 ∷ 4 ∷ [])
    (recorded (words (2 ∷ 2 ∷ 1 ∷ 2 ∷ 1 ∷ 2 ∷ 3 ∷ 3 ∷ [])) (ranging 0 5 6 ∷ ranging 2 9 8 ∷ ranging 0 9 10 ∷ [])
    (literals (pos 1 ∷ minus 3 ∷ []) ∷ literals (pos 2 ∷ minus 3 ∷ []) ∷ clause (minus 3 ∷ []) (equal 0 2 ∷ []) ∷ literals (minus 1 ∷ minus 2 ∷ pos 3 ∷ []) ∷ clause (pos 3 ∷ []) (equal 1 2 ∷ []) ∷ comparisons (unit_term 0 (minus 4) 2 ∷ []) ∷ []))
    -- If(v0, x, 7) on both sides: made once
    ∷ given (1 ∷ 1 ∷ 0 ∷ 0 ∷ 5 ∷ 1 ∷ 1 ∷ 18 ∷ 0 ∷ 23 ∷ 11 ∷ 0 ∷ 21 ∷ 0 ∷ 20 ∷ 7 ∷ 23 ∷ 11 ∷ 0 ∷ 21 ∷ 0 ∷ 20 ∷ 7 ∷ [])
    (recorded (words (2 ∷ 1 ∷ 1 ∷ 2 ∷ 2 ∷ [])) (ranging 0 5 6 ∷ ranging 0 7 8 ∷ [])
    (literals (pos 1 ∷ minus 2 ∷ []) ∷ clause (minus 2 ∷ []) (equal 0 1 ∷ []) ∷ literals (minus 1 ∷ pos 2 ∷ []) ∷ clause (pos 2 ∷ []) (is 7 1 ∷ []) ∷ comparisons ((pos 0 ∷ pos 0 ∷ pos 0 ∷ []) ∷ []) ∷ []))
    -- If(v0, 2, 7) on both sides: made twice
    ∷ given (1 ∷ 1 ∷ 0 ∷ 0 ∷ 5 ∷ 1 ∷ 1 ∷ 18 ∷ 0 ∷ 23 ∷ 11 ∷ 0 ∷ 20 ∷ 2 ∷ 20 ∷ 7 ∷ 23 ∷ 11 ∷ 0 ∷ 20 ∷ 2 ∷ 20 ∷ 7 ∷ [])
    (recorded (words (2 ∷ 1 ∷ 0 ∷ 1 ∷ 2 ∷ [])) (following (minus 1) 2 7 ∷ following (minus 1) 2 7 ∷ [])
    (comparisons (equal 0 1 ∷ []) ∷ []))
    -- a column over If(v0, 1, 3), rows 1 and 3: the column has an integer of its own
    ∷ given (1 ∷ 1 ∷ 0 ∷ 0 ∷ 5 ∷ 1 ∷ 2 ∷ 1 ∷ 2 ∷ 23 ∷ 11 ∷ 0 ∷ 20 ∷ 1 ∷ 20 ∷ 3 ∷ 1 ∷ 3 ∷ [])
    (recorded (words (2 ∷ 1 ∷ 0 ∷ 1 ∷ 2 ∷ [])) (following (minus 1) 1 3 ∷ ranging 1 3 3 ∷ [])
    (comparisons (equal 0 1 ∷ []) ∷ comparisons (unit_term 0 (minus 1) 1 ∷ unit_term 0 (minus 3) 1 ∷ []) ∷ []))
    -- If(v0, 0, 3), 1 and 2 differ: made for each pair
    ∷ given (2 ∷ 1 ∷ 0 ∷ 0 ∷ 5 ∷ 1 ∷ 3 ∷ 3 ∷ 23 ∷ 11 ∷ 0 ∷ 20 ∷ 0 ∷ 20 ∷ 3 ∷ 20 ∷ 1 ∷ 20 ∷ 2 ∷ [])
    (recorded (words (2 ∷ 2 ∷ 1 ∷ 0 ∷ 0 ∷ 1 ∷ 2 ∷ [])) (following (minus 1) 0 3 ∷ following (minus 1) 0 3 ∷ [])
    (comparisons (unit_term 1 (minus 1) 0 ∷ []) ∷ comparisons (unit_term 1 (minus 2) 1 ∷ []) ∷ comparisons ((pos 1 ∷ minus 1 ∷ pos 0 ∷ []) ∷ []) ∷ []))
    -- If(v0 is not v1, If(v1 is v2, x, 1), 7) = 4: the condition is split before the values
    ∷ given (3 ∷ 1 ∷ 0 ∷ 0 ∷ 5 ∷ 1 ∷ 1 ∷ 18 ∷ 0 ∷ 23 ∷ 15 ∷ 11 ∷ 0 ∷ 11 ∷ 1 ∷ 23 ∷ 16 ∷ 11 ∷ 1 ∷ 11 ∷ 2 ∷ 21 ∷ 0 ∷ 20 ∷ 1 ∷ 20 ∷ 7 ∷ 20 ∷ 4 ∷ [])
    (recorded (words (2 ∷ 2 ∷ 2 ∷ 5 ∷ 6 ∷ 7 ∷ 1 ∷ 9 ∷ 3 ∷ [])) (ranging 0 5 6 ∷ ranging 0 5 6 ∷ ranging 0 7 8 ∷ [])
    (literals (pos 5 ∷ minus 1 ∷ []) ∷ literals (minus 5 ∷ pos 1 ∷ []) ∷ literals (pos 6 ∷ minus 2 ∷ []) ∷ literals (minus 6 ∷ pos 2 ∷ []) ∷ literals (pos 6 ∷ minus 3 ∷ []) ∷ literals (minus 6 ∷ pos 3 ∷ []) ∷ literals (pos 7 ∷ minus 4 ∷ []) ∷ literals (minus 7 ∷ pos 4 ∷ []) ∷ literals (pos 3 ∷ minus 4 ∷ minus 8 ∷ []) ∷ literals (minus 3 ∷ pos 4 ∷ minus 8 ∷ []) ∷ clause (minus 8 ∷ []) (equal 0 1 ∷ []) ∷ literals (pos 3 ∷ pos 4 ∷ pos 8 ∷ []) ∷ literals (minus 3 ∷ minus 4 ∷ pos 8 ∷ []) ∷ clause (pos 8 ∷ []) (is 1 1 ∷ []) ∷ literals (pos 1 ∷ pos 2 ∷ minus 9 ∷ []) ∷ literals (minus 1 ∷ minus 2 ∷ minus 9 ∷ []) ∷ clause (minus 9 ∷ []) (equal 1 2 ∷ []) ∷ literals (pos 1 ∷ minus 2 ∷ pos 9 ∷ []) ∷ literals (minus 1 ∷ pos 2 ∷ pos 9 ∷ []) ∷ clause (pos 9 ∷ []) (is 7 2 ∷ []) ∷ comparisons (unit_term 0 (minus 4) 2 ∷ []) ∷ []))
    -- 24 is no code
    ∷ given (1 ∷ 1 ∷ 0 ∷ 0 ∷ 5 ∷ 1 ∷ 1 ∷ 18 ∷ 0 ∷ 24 ∷ 11 ∷ 0 ∷ 20 ∷ 2 ∷ 20 ∷ 7 ∷ 21 ∷ 0 ∷ []) (refused 5)
    -- the first one's answer has 23 words
    ∷ case (words (1 ∷ 1 ∷ 0 ∷ 0 ∷ 5 ∷ 1 ∷ 1 ∷ 18 ∷ 0 ∷ 23 ∷ 11 ∷ 0 ∷ 20 ∷ 2 ∷ 20 ∷ 7 ∷ 21 ∷ 0 ∷ [])) 22 16384 (refused 12)
    ∷ []

pub ifs_hold : all_agree unchosen ifs ≡ true
unfolding all_agree
ifs_hold = refl

abbrev pub merged_ifs : List Case
merged_ifs =
    -- v0 is not v1; If(v1, 7, 2) = x: the record's literal is that of the signed map
    given (2 ∷ 1 ∷ 0 ∷ 0 ∷ 5 ∷ 2 ∷ 1 ∷ 15 ∷ 11 ∷ 0 ∷ 11 ∷ 1 ∷ 1 ∷ 18 ∷ 0 ∷ 23 ∷ 11 ∷ 1 ∷ 20 ∷ 7 ∷ 20 ∷ 2 ∷ 21 ∷ 0 ∷ [])
    (recorded (pos 2 ∷ pos 2 ∷ pos 1 ∷ minus 1 ∷ pos 2 ∷ pos 1 ∷ pos 2 ∷ []) (following (minus 1) 2 7 ∷ ranging 0 5 6 ∷ [])
    (literals (pos 1 ∷ minus 1 ∷ []) ∷ literals (minus 1 ∷ pos 1 ∷ []) ∷ comparisons (equal 0 1 ∷ []) ∷ []))
    ∷ []

pub merged_ifs_hold : all_agree (record { merge = true }) merged_ifs ≡ true
unfolding all_agree
merged_ifs_hold = refl
