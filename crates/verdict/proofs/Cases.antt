-- Computed cases of the check: sets of document 01 with rosters, every form of statement, and refusals 14 and 15 at their edges.
use Rattle.std.specs.Prelude.{◌≡◌, refl, Bool, true, false, ◌&&◌, List, [], ◌∷◌, ◌++◌, map, ℕ, ℤ, pos, negsuc, eqb}
use Rattle.syntax.specs.Words.{star_word}
use Rattle.syntax.specs.Satisfies.{int_value, terms_value, holds, holds_all, holds_any, distinct, stmt_holds, in_domains}
use Rattle.read.specs.Read.{times, up_to, count, index, number, read_range, read_rising, read_enumerative, read_domain, kind_bool, kind_int, read_terms, read_members, step_int, read_int, step_bool, read_bool, read_cell, read_table, read_different, read_stmt, read_set}
use Rattle.limits.specs.Limits.{any_comparison, any_comparison_members, any_inside, any_inside_terms, any_pair, any_part, weight, terms_weight, heavy, heavy_terms, heavy_comparison, written, written_terms, ifs, ifs_terms, many_comparison, many_column, interval, terms_interval, span, wide_column, check}
use Rattle.limits.specs.Admitted.{admitted, limited}
use Rattle.verdict.specs.Roster.{Verdict, satisfied, broken, refused, right_count, all_inside, first_false, judged, rostered, when_admitted, check_roster}

same_verdict : Verdict → Verdict → Bool
same_verdict satisfied satisfied = true
same_verdict satisfied (broken k) = false
same_verdict satisfied (refused k) = false
same_verdict (broken k) satisfied = false
same_verdict (broken k) (broken l) = eqb k l
same_verdict (broken k) (refused l) = false
same_verdict (refused k) satisfied = false
same_verdict (refused k) (broken l) = false
same_verdict (refused k) (refused l) = eqb k l

-- a set, the values, the length of the work slice, and the verdict
pub data Case : Type 0 where
  case : List ℤ → List ℤ → ℕ → Verdict → Case

unfoldable pub agrees : Case → Bool
unfolding same_verdict times up_to count index number read_range read_rising read_enumerative read_domain kind_bool kind_int read_terms read_members step_int read_int step_bool read_bool read_cell read_table read_different read_stmt read_set any_comparison any_comparison_members any_inside any_inside_terms any_pair any_part weight terms_weight heavy heavy_terms heavy_comparison written written_terms ifs ifs_terms many_comparison many_column interval terms_interval span wide_column check int_value terms_value holds holds_all holds_any distinct stmt_holds in_domains right_count all_inside first_false judged rostered when_admitted check_roster admitted limited
agrees (case set values work_length v) = same_verdict (check_roster set values work_length) v

unfoldable pub all_agree : List Case → Bool
unfolding agrees
all_agree [] = true
all_agree (c ∷ cs) = agrees c && all_agree cs

-- ---- notation

abbrev words : List ℕ → List ℤ
words ns = map pos ns

abbrev given : List ℕ → List ℤ → Verdict → Case
given set values v = case (words set) values 16384 v

-- P1: v0 if and only if v1 and v2. P4: v0; v0 false or v1. P5: v0; not v0
abbrev P1 : List ℕ
P1 = 3 ∷ 0 ∷ 1 ∷ 1 ∷ 16 ∷ 11 ∷ 0 ∷ 12 ∷ 2 ∷ 11 ∷ 1 ∷ 11 ∷ 2 ∷ []

abbrev P4 : List ℕ
P4 = 2 ∷ 0 ∷ 2 ∷ 1 ∷ 11 ∷ 0 ∷ 1 ∷ 13 ∷ 2 ∷ 14 ∷ 11 ∷ 0 ∷ 11 ∷ 1 ∷ []

abbrev P5 : List ℕ
P5 = 1 ∷ 0 ∷ 2 ∷ 1 ∷ 11 ∷ 0 ∷ 1 ∷ 14 ∷ 11 ∷ 0 ∷ []

-- P12: two columns over 0 and 1, rows (0,0) and (1,1)
abbrev P12 : List ℕ
P12 = 0 ∷ 2 ∷ 0 ∷ 0 ∷ 1 ∷ 0 ∷ 0 ∷ 1 ∷ 1 ∷ 2 ∷ 2 ∷ 2 ∷ 21 ∷ 0 ∷ 21 ∷ 1 ∷ 0 ∷ 0 ∷ 1 ∷ 1 ∷ []

-- one of two variables and the rule that follows
abbrev two : List ℕ → List ℕ
two rule = 2 ∷ 0 ∷ 1 ∷ 1 ∷ rule

-- x over 0 to 9, and the comparison of 2x with 6
abbrev compared : ℕ → List ℕ
compared op = 0 ∷ 1 ∷ 0 ∷ 0 ∷ 9 ∷ 1 ∷ 1 ∷ 18 ∷ op ∷ 22 ∷ 1 ∷ 2 ∷ 21 ∷ 0 ∷ 20 ∷ 6 ∷ []

-- x among 0, 2 and 5, nothing stated
abbrev gaps : List ℕ
gaps = 0 ∷ 1 ∷ 1 ∷ 3 ∷ 0 ∷ 2 ∷ 5 ∷ 0 ∷ []

-- one column 3 - x, x over 0 to 3: the rows 1 and 2, or a row of a star
abbrev column : ℕ → List ℤ → List ℤ
column k rows = words (0 ∷ 1 ∷ 0 ∷ 0 ∷ 3 ∷ 1 ∷ 2 ∷ 1 ∷ k ∷ 22 ∷ 2 ∷ 1 ∷ 20 ∷ 3 ∷ []) ++ negsuc 0 ∷ words (21 ∷ 0 ∷ []) ++ rows

-- x, y and z over 0 to 2: the expressions that follow differ pairwise
abbrev differ : ℕ → List ℕ → List ℕ
differ n es = 0 ∷ 3 ∷ 0 ∷ 0 ∷ 2 ∷ 0 ∷ 0 ∷ 2 ∷ 0 ∷ 0 ∷ 2 ∷ 1 ∷ 3 ∷ n ∷ es

abbrev three : List ℕ
three = differ 3 (21 ∷ 0 ∷ 21 ∷ 1 ∷ 21 ∷ 2 ∷ [])

-- x over 0 to 5: If(v0 is not v1, x, 7) = 4; If(v0, x, 7) is not 7
abbrev chosen : List ℕ
chosen = 2 ∷ 1 ∷ 0 ∷ 0 ∷ 5 ∷ 2 ∷ 1 ∷ 18 ∷ 0 ∷ 23 ∷ 15 ∷ 11 ∷ 0 ∷ 11 ∷ 1 ∷ 21 ∷ 0 ∷ 20 ∷ 7 ∷ 20 ∷ 4 ∷ 3 ∷ 2 ∷ 23 ∷ 11 ∷ 0 ∷ 21 ∷ 0 ∷ 20 ∷ 7 ∷ 20 ∷ 7 ∷ []

-- ---- the table

abbrev pub cases : List Case
cases =
    given P1 (words (1 ∷ 1 ∷ 1 ∷ [])) satisfied
    ∷ given P1 (words (1 ∷ 0 ∷ 1 ∷ [])) (broken 1)
    ∷ given P4 (words (1 ∷ 1 ∷ [])) satisfied
    ∷ given P4 (words (1 ∷ 0 ∷ [])) (broken 2)
    ∷ given P4 (words (0 ∷ 0 ∷ [])) (broken 1)
    ∷ given P5 (words (1 ∷ [])) (broken 2)
    ∷ given P5 (words (0 ∷ [])) (broken 1)
    ∷ given P12 (words (1 ∷ 1 ∷ [])) satisfied
    ∷ given P12 (words (0 ∷ 1 ∷ [])) (broken 1)
    -- Xor, Imp, an empty Or, an empty And
    ∷ given (two (15 ∷ 11 ∷ 0 ∷ 11 ∷ 1 ∷ [])) (words (1 ∷ 0 ∷ [])) satisfied
    ∷ given (two (15 ∷ 11 ∷ 0 ∷ 11 ∷ 1 ∷ [])) (words (1 ∷ 1 ∷ [])) (broken 1)
    ∷ given (two (17 ∷ 11 ∷ 0 ∷ 11 ∷ 1 ∷ [])) (words (0 ∷ 0 ∷ [])) satisfied
    ∷ given (two (17 ∷ 11 ∷ 0 ∷ 11 ∷ 1 ∷ [])) (words (1 ∷ 0 ∷ [])) (broken 1)
    ∷ given (two (13 ∷ 0 ∷ [])) (words (0 ∷ 0 ∷ [])) (broken 1)
    ∷ given (two (12 ∷ 0 ∷ [])) (words (0 ∷ 0 ∷ [])) satisfied
    -- = ≠ ≤ < ≥ >
    ∷ given (compared 0) (words (3 ∷ [])) satisfied
    ∷ given (compared 0) (words (4 ∷ [])) (broken 1)
    ∷ given (compared 1) (words (3 ∷ [])) (broken 1)
    ∷ given (compared 2) (words (3 ∷ [])) satisfied
    ∷ given (compared 2) (words (4 ∷ [])) (broken 1)
    ∷ given (compared 3) (words (3 ∷ [])) (broken 1)
    ∷ given (compared 3) (words (2 ∷ [])) satisfied
    ∷ given (compared 4) (words (3 ∷ [])) satisfied
    ∷ given (compared 4) (words (2 ∷ [])) (broken 1)
    ∷ given (compared 5) (words (3 ∷ [])) (broken 1)
    ∷ given (compared 5) (words (4 ∷ [])) satisfied
    -- a column's value, not its variable's
    ∷ case (column 2 (words (1 ∷ 2 ∷ []))) (words (1 ∷ [])) 16384 satisfied
    ∷ case (column 2 (words (1 ∷ 2 ∷ []))) (words (3 ∷ [])) 16384 (broken 1)
    ∷ case (column 1 (star_word ∷ [])) (words (3 ∷ [])) 16384 satisfied
    ∷ case (column 0 []) (words (3 ∷ [])) 16384 (broken 1)
    -- AllDifferent: all differ; neighbours are equal; the first and the last are; a sum equals a constant; none, and a single one
    ∷ given three (words (2 ∷ 0 ∷ 1 ∷ [])) satisfied
    ∷ given three (words (2 ∷ 1 ∷ 1 ∷ [])) (broken 1)
    ∷ given three (words (1 ∷ 0 ∷ 1 ∷ [])) (broken 1)
    ∷ given (differ 2 (22 ∷ 2 ∷ 1 ∷ 21 ∷ 0 ∷ 2 ∷ 21 ∷ 1 ∷ 20 ∷ 5 ∷ [])) (words (1 ∷ 2 ∷ 0 ∷ [])) (broken 1)
    ∷ given (differ 2 (22 ∷ 2 ∷ 1 ∷ 21 ∷ 0 ∷ 2 ∷ 21 ∷ 1 ∷ 20 ∷ 5 ∷ [])) (words (2 ∷ 1 ∷ 0 ∷ [])) satisfied
    ∷ given (differ 0 []) (words (1 ∷ 1 ∷ 1 ∷ [])) satisfied
    ∷ given (differ 1 (21 ∷ 0 ∷ [])) (words (1 ∷ 1 ∷ 1 ∷ [])) satisfied
    -- Ifs: both conditions hold; x is another; the first fails; the second fails
    ∷ given chosen (words (1 ∷ 0 ∷ 4 ∷ [])) satisfied
    ∷ given chosen (words (1 ∷ 0 ∷ 3 ∷ [])) (broken 1)
    ∷ given chosen (words (1 ∷ 1 ∷ 4 ∷ [])) (broken 1)
    ∷ given chosen (words (0 ∷ 1 ∷ 4 ∷ [])) (broken 2)
    ∷ given chosen (words (1 ∷ 0 ∷ 6 ∷ [])) (refused 15)
    -- 14 before 15, and after 1 to 11
    ∷ given P5 [] (refused 14)
    ∷ given P5 (words (7 ∷ 7 ∷ [])) (refused 14)
    ∷ given P5 (words (2 ∷ [])) (refused 15)
    ∷ given P5 (negsuc 0 ∷ []) (refused 15)
    ∷ given (2 ∷ 0 ∷ []) [] (refused 3)
    ∷ case (words P5) [] 16383 (refused 1)
    -- a value between those of an enumerated domain
    ∷ given gaps (words (2 ∷ [])) satisfied
    ∷ given gaps (words (1 ∷ [])) (refused 15)
    ∷ given gaps (words (6 ∷ [])) (refused 15)
    ∷ []

pub cases_hold : all_agree cases ≡ true
unfolding all_agree
cases_hold = refl
