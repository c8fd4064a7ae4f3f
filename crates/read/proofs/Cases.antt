-- The reading of some sets, computed: what is read, and which refusal comes first at a word.
use Rattle.std.specs.Prelude.{◌≡◌, refl, Bool, true, false, List, [], ◌∷◌, ◌++◌, map, ℕ, zero, suc, ℤ, pos, neg_ℤ}
use Rattle.syntax.specs.Syntax.{Eq, IConst, If, is_read, BoolExpr, Var, Not, Cmp, Rule, Problem}
use Rattle.read.specs.Read.{Parsed, ok, refuse, times, up_to, count, index, number, read_range, read_rising, read_enumerative, read_domain, kind_bool, kind_int, read_terms, read_members, read_cell, step_int, read_int, read_table, step_bool, read_bool, read_stmt, read_set}

-- ---- notation

unfoldable pub reading : List ℤ → Parsed Problem
unfolding times up_to count index number read_range read_rising read_enumerative read_domain kind_bool kind_int read_terms read_members read_cell step_int read_int read_table step_bool read_bool read_stmt read_set
reading ws = read_set ws

abbrev accepted : Parsed Problem → Bool
accepted (ok p r) = true
accepted (refuse k) = false

abbrev words : List ℕ → List ℤ
words ns = map pos ns

-- so many Nots before the words of a rule, and over an expression
abbrev nots : ℕ → List ℤ → List ℤ
nots zero ws = ws
nots (suc n) ws = pos 14 ∷ nots n ws

abbrev not_times : ℕ → BoolExpr → BoolExpr
not_times zero e = e
not_times (suc n) e = Not (not_times n e)

-- one Boolean variable, one rule
abbrev rule : List ℤ → List ℤ
rule ws = pos 1 ∷ pos 0 ∷ pos 1 ∷ pos 1 ∷ ws

-- an integer expression is 1
abbrev is_one : List ℤ → List ℤ
is_one ws = rule (pos 18 ∷ pos 0 ∷ ws ++ (pos 20 ∷ pos 1 ∷ []))

-- so many Ifs, each the condition's left side, the first value or the second value of the one before it
abbrev in_condition : ℕ → List ℤ → List ℤ
in_condition zero ws = ws
in_condition (suc n) ws = words (23 ∷ 18 ∷ 0 ∷ []) ++ (in_condition n ws ++ words (20 ∷ 1 ∷ 20 ∷ 2 ∷ 20 ∷ 3 ∷ []))

abbrev in_first : ℕ → List ℤ → List ℤ
in_first zero ws = ws
in_first (suc n) ws = words (23 ∷ 11 ∷ 0 ∷ []) ++ (in_first n ws ++ words (20 ∷ 3 ∷ []))

abbrev in_second : ℕ → List ℤ → List ℤ
in_second zero ws = ws
in_second (suc n) ws = words (23 ∷ 11 ∷ 0 ∷ 20 ∷ 2 ∷ []) ++ in_second n ws

-- one integer variable
abbrev domain : List ℤ → List ℤ
domain ws = pos 0 ∷ pos 1 ∷ ws

-- ---- the end

pub nothing_declared : reading (words (0 ∷ 0 ∷ 0 ∷ [])) ≡ ok (record { bools = 0; domains = []; stmts = [] }) []
unfolding reading
nothing_declared = refl

pub ends_early : reading (words (0 ∷ 0 ∷ [])) ≡ refuse 3
unfolding reading
ends_early = refl

pub word_behind : reading (words (0 ∷ 0 ∷ 0 ∷ 0 ∷ [])) ≡ refuse 3
unfolding reading
word_behind = refl

-- ---- counts and domains

pub integers_257 : reading (words (0 ∷ 257 ∷ [])) ≡ refuse 4
unfolding reading
integers_257 = refl

pub low_above_high : reading (domain (pos 0 ∷ pos 5 ∷ pos 4 ∷ [])) ≡ refuse 7
unfolding reading
low_above_high = refl

-- 4 before 7: a high value that is out of range and below the low one
pub four_before_seven : reading (domain (pos 0 ∷ pos 5 ∷ neg_ℤ (pos 1073741824) ∷ [])) ≡ refuse 4
unfolding reading
four_before_seven = refl

pub no_values : reading (domain (pos 1 ∷ pos 0 ∷ [])) ≡ refuse 7
unfolding reading
no_values = refl

-- ---- levels

pub levels_64 : reading (rule (nots 63 (pos 11 ∷ pos 0 ∷ []))) ≡ ok (record { bools = 1; domains = []; stmts = Rule (not_times 63 (Var 0)) ∷ [] }) []
unfolding reading
levels_64 = refl

pub levels_65 : reading (rule (nots 64 (pos 11 ∷ pos 0 ∷ []))) ≡ refuse 8
unfolding reading
levels_65 = refl

-- 5 before 8: an unknown code one level too deep
pub five_before_eight : reading (rule (nots 64 (pos 19 ∷ pos 0 ∷ []))) ≡ refuse 5
unfolding reading
five_before_eight = refl

-- ---- Ifs

pub if_read : reading (is_one (words (23 ∷ 11 ∷ 0 ∷ 20 ∷ 2 ∷ 20 ∷ 3 ∷ []))) ≡ ok (record { bools = 1; domains = []; stmts = Rule (Cmp Eq (If is_read (Var 0) (IConst (pos 2)) (IConst (pos 3))) (IConst (pos 1))) ∷ [] }) []
unfolding reading
if_read = refl

pub code_24 : reading (is_one (words (24 ∷ 11 ∷ 0 ∷ 20 ∷ 2 ∷ 20 ∷ 3 ∷ []))) ≡ refuse 5
unfolding reading
code_24 = refl

pub if_no_rule : reading (rule (words (23 ∷ 11 ∷ 0 ∷ 20 ∷ 2 ∷ 20 ∷ 3 ∷ []))) ≡ refuse 5
unfolding reading
if_no_rule = refl

-- the condition is an unknown variable, the first value an unknown code: 6 comes first
pub condition_first : reading (is_one (words (23 ∷ 11 ∷ 1 ∷ 11 ∷ 0 ∷ 20 ∷ 3 ∷ []))) ≡ refuse 6
unfolding reading
condition_first = refl

-- the first value has 5000 terms, the second is an unknown code: 4 comes first
pub first_before_second : reading (is_one (words (23 ∷ 11 ∷ 0 ∷ 22 ∷ 5000 ∷ 19 ∷ []))) ≡ refuse 4
unfolding reading
first_before_second = refl

pub if_ends_early : reading (rule (words (18 ∷ 0 ∷ 23 ∷ 11 ∷ 0 ∷ 20 ∷ 2 ∷ []))) ≡ refuse 3
unfolding reading
if_ends_early = refl

-- a comparison is level 1; an If in a condition is two levels below the one around it, a value one
pub condition_levels : accepted (reading (is_one (in_condition 31 (words (20 ∷ 0 ∷ []))))) ≡ true
unfolding reading
condition_levels = refl

pub condition_too_deep : reading (is_one (in_condition 31 (words (23 ∷ 11 ∷ 0 ∷ [])))) ≡ refuse 8
unfolding reading
condition_too_deep = refl

pub first_levels : accepted (reading (is_one (in_first 62 (words (20 ∷ 0 ∷ []))))) ≡ true
unfolding reading
first_levels = refl

pub first_too_deep : reading (is_one (in_first 62 (words (22 ∷ 1 ∷ 1 ∷ 20 ∷ 0 ∷ [])))) ≡ refuse 8
unfolding reading
first_too_deep = refl

pub second_levels : accepted (reading (is_one (in_second 62 (words (20 ∷ 0 ∷ []))))) ≡ true
unfolding reading
second_levels = refl

pub second_too_deep : reading (is_one (in_second 62 (words (22 ∷ 1 ∷ 1 ∷ 20 ∷ 0 ∷ [])))) ≡ refuse 8
unfolding reading
second_too_deep = refl

-- an If one level too deep is 8, an unknown code 5
pub if_too_deep : reading (is_one (in_second 62 (words (22 ∷ 1 ∷ 1 ∷ 23 ∷ [])))) ≡ refuse 8
unfolding reading
if_too_deep = refl

pub code_24_too_deep : reading (is_one (in_second 62 (words (22 ∷ 1 ∷ 1 ∷ 24 ∷ [])))) ≡ refuse 5
unfolding reading
code_24_too_deep = refl
