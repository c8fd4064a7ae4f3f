-- Some joins and lookups, computed: the order of the refusals, the joined words, each statement's set and place.
use Rattle.std.specs.Prelude.{◌≡◌, refl, List, [], ◌∷◌, map, ℕ, ℤ, pos}
use Rattle.laws.specs.Same.{same_words}
use Rattle.syntax.specs.Syntax.{encode_bool, encode_int, encode_terms, encode_members, encode_stmt, encode, Var, Not, Rule}
use Rattle.read.specs.Read.{times, up_to, count, index, number, read_range, read_rising, read_enumerative, read_domain, kind_bool, kind_int, read_terms, read_members, read_cell, step_int, read_int, read_table, step_bool, read_bool, read_stmt, read_set}
use Rattle.limits.specs.Limits.{any_comparison, any_part, weight, heavy, heavy_comparison, written, ifs, many_comparison, many_column, interval, span, wide_column, check}
use Rattle.limits.specs.Admitted.{limited, admitted}
use Rattle.join.specs.Join.{declaration_words, compared, agree_read, agreement, Joining, joined, refused, sized, join, Found, in_first, in_second, nowhere, placed, statements_of, statement_at}

-- ---- notation

abbrev words : List ℕ → List ℤ
words ns = map pos ns

unfoldable pub joining : List ℕ → List ℕ → ℕ → ℕ → Joining
unfolding encode_bool encode_int encode_terms encode_members encode_stmt encode times up_to count index number read_range read_rising read_enumerative read_domain kind_bool kind_int read_terms read_members read_cell step_int read_int read_table step_bool read_bool read_stmt read_set any_comparison any_part weight heavy heavy_comparison written ifs many_comparison many_column interval span wide_column check limited admitted declaration_words same_words compared agree_read agreement sized join
joining first second buffer-length work_length = join (words first) (words second) buffer-length work_length

unfoldable pub looking_up : List ℕ → List ℕ → ℕ → Found
unfolding encode_bool encode_int encode_terms encode_members encode_stmt encode times up_to count index number read_range read_rising read_enumerative read_domain kind_bool kind_int read_terms read_members read_cell step_int read_int read_table step_bool read_bool read_stmt read_set any_comparison any_part weight heavy heavy_comparison written ifs many_comparison many_column interval span wide_column check limited admitted declaration_words same_words compared agree_read agreement placed statements_of statement_at
looking_up first second k = statement_at (words first) (words second) 16384 k

-- one Boolean variable: the rule v0; the rules not v0, v0
abbrev one : List ℕ
one = 1 ∷ 0 ∷ 1 ∷ 1 ∷ 11 ∷ 0 ∷ []

abbrev two : List ℕ
two = 1 ∷ 0 ∷ 2 ∷ 1 ∷ 14 ∷ 11 ∷ 0 ∷ 1 ∷ 11 ∷ 0 ∷ []

-- an integer over 0 and 1, as a range and by its values; nothing stated
abbrev ranged : List ℕ
ranged = 0 ∷ 1 ∷ 0 ∷ 0 ∷ 1 ∷ 0 ∷ []

abbrev listed : List ℕ
listed = 0 ∷ 1 ∷ 1 ∷ 2 ∷ 0 ∷ 1 ∷ 0 ∷ []

-- ---- the join

pub both_counted : joining one two 13 16384 ≡ joined (words (1 ∷ 0 ∷ 3 ∷ 1 ∷ 11 ∷ 0 ∷ 1 ∷ 14 ∷ 11 ∷ 0 ∷ 1 ∷ 11 ∷ 0 ∷ []))
unfolding joining
both_counted = refl

pub one_less : joining one two 12 16384 ≡ refused 17
unfolding joining
one_less = refl

pub nothing_stated : joining ranged ranged 6 16384 ≡ joined (words ranged)
unfolding joining
nothing_stated = refl

-- the same values in other words; 16 before 17
pub other_words : joining ranged listed 0 16384 ≡ refused 16
unfolding joining
other_words = refl

pub short_work : joining [] [] 0 16383 ≡ refused 1
unfolding joining
short_work = refl

-- the first set's refusal (an undeclared variable, 6) before the second's (it ends early, 3)
pub first_before_second : joining (0 ∷ 0 ∷ 1 ∷ 1 ∷ 11 ∷ 0 ∷ []) [] 0 16384 ≡ refused 6
unfolding joining
first_before_second = refl

pub second_before_16 : joining one [] 0 16384 ≡ refused 3
unfolding joining
second_before_16 = refl

-- ---- statements by number, from 1

pub number_zero : looking_up one two 0 ≡ nowhere
unfolding looking_up
number_zero = refl

pub number_one : looking_up one two 1 ≡ in_first 3 (Rule (Var 0))
unfolding looking_up
number_one = refl

pub number_two : looking_up one two 2 ≡ in_second 3 (Rule (Not (Var 0)))
unfolding looking_up
number_two = refl

pub number_three : looking_up one two 3 ≡ in_second 7 (Rule (Var 0))
unfolding looking_up
number_three = refl

pub number_four : looking_up one two 4 ≡ nowhere
unfolding looking_up
number_four = refl

pub not_joined : looking_up ranged listed 1 ≡ nowhere
unfolding looking_up
not_joined = refl
