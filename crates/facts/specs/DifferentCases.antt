-- Some AllDifferent statements, computed: their clauses, the words of the unchanged Rust; and their refusals.
use Rattle.std.specs.Prelude.{◌≡◌, refl, List, [], ◌∷◌, map, ℕ, zero, suc, ℤ, pos, negsuc}
use Rattle.laws.specs.Same.{same_words}
use Rattle.laws.specs.Lists.{counted, below}
use Rattle.syntax.specs.Syntax.{Domain, Range, Enumerative, IntExpr, IConst, IVar, Linear, Terms, tnil, tmore, Stmt, AllDifferent, Problem}
use Rattle.limits.specs.Limits.{any_comparison, any_pair, any_part, weight, heavy, heavy_comparison, written, ifs, many_comparison, check}
use Rattle.sums.specs.LinearSum.{insert_coef, add_coef, add_terms, add_sum, mul_terms, mul_sum, sub_sum}
use Rattle.clauses.specs.Log.{get_bool_var, get_int_var, convert_bool_var, convert_int_var, clauses_of}
use Rattle.clauses.specs.Disjunction.{sorted, each_longer, finish_disjunction, finish_sorted, normalize_disjunction}
use Rattle.clauses.specs.Normalize.{normalize_int_var, normalize_term, normalize_int_expr, normalize_terms, register, no_run, run_then, normalize_conjunction, disjunction_of, cross, normalize_var, normalize_num, normalize_comparison, normalize_bool_expr, normalize_members}
use Rattle.clauses.specs.Split.{unsplit, split_one, split_two, split_sides, tseitin_transformation_bool, tseitin_transformation_members, register_each, normalize_and_register_expr}
use Rattle.different.specs.Different.{pair_rules, values_of_first, values_used_up, different_rules, normalize_rules}
use Rattle.answer.specs.Answer.{clause_words, normalize_stmt}

-- the clauses of one statement, in words
unfoldable pub clause_list : List Domain → Stmt → List ℤ
unfolding insert_coef add_coef add_terms add_sum mul_terms mul_sum sub_sum get_bool_var get_int_var convert_bool_var convert_int_var clauses_of sorted each_longer finish_disjunction finish_sorted normalize_disjunction normalize_int_var normalize_term normalize_int_expr normalize_terms register no_run run_then normalize_conjunction disjunction_of cross normalize_var normalize_num normalize_comparison normalize_bool_expr normalize_members unsplit split_one split_two split_sides tseitin_transformation_bool tseitin_transformation_members register_each normalize_and_register_expr normalize_stmt normalize_rules pair_rules same_words values_of_first values_used_up different_rules
clause_list ds t = counted clause_words (clauses_of (normalize_stmt ds t []))

pub kinds_different : clause_list (Range (pos 0) (pos 2) ∷ Enumerative (pos 0 ∷ pos 1 ∷ pos 2 ∷ []) ∷ Range (pos 0) (pos 2) ∷ []) (AllDifferent (IVar 0 ∷ IVar 1 ∷ IVar 2 ∷ [])) ≡ pos 6 ∷ pos 0 ∷ pos 1 ∷ pos 1 ∷ pos 0 ∷ pos 2 ∷ pos 0 ∷ pos 1 ∷ pos 1 ∷ negsuc 0 ∷ pos 0 ∷ pos 1 ∷ pos 1 ∷ pos 0 ∷ pos 2 ∷ pos 0 ∷ pos 1 ∷ pos 2 ∷ negsuc 0 ∷ pos 0 ∷ pos 1 ∷ pos 1 ∷ pos 0 ∷ pos 2 ∷ pos 1 ∷ pos 1 ∷ pos 2 ∷ negsuc 0 ∷ pos 0 ∷ pos 3 ∷ pos 0 ∷ pos 0 ∷ pos 1 ∷ pos 0 ∷ pos 1 ∷ pos 0 ∷ pos 0 ∷ pos 1 ∷ pos 1 ∷ pos 1 ∷ pos 0 ∷ pos 0 ∷ pos 1 ∷ pos 2 ∷ pos 1 ∷ pos 0 ∷ pos 3 ∷ pos 0 ∷ negsuc 0 ∷ pos 1 ∷ pos 0 ∷ pos 1 ∷ pos 0 ∷ negsuc 0 ∷ pos 1 ∷ pos 1 ∷ pos 1 ∷ pos 0 ∷ negsuc 0 ∷ pos 1 ∷ pos 2 ∷ pos 1 ∷ pos 0 ∷ pos 3 ∷ pos 0 ∷ negsuc 1 ∷ pos 1 ∷ pos 0 ∷ pos 1 ∷ pos 0 ∷ negsuc 1 ∷ pos 1 ∷ pos 1 ∷ pos 1 ∷ pos 0 ∷ negsuc 1 ∷ pos 1 ∷ pos 2 ∷ pos 1 ∷ []
unfolding clause_list
kinds_different = refl

pub twice_different : clause_list (Range (pos 0) (pos 3) ∷ Range (pos 0) (pos 3) ∷ []) (AllDifferent (IVar 0 ∷ IVar 0 ∷ IVar 1 ∷ IVar 1 ∷ [])) ≡ pos 10 ∷ pos 0 ∷ pos 1 ∷ pos 1 ∷ pos 0 ∷ pos 0 ∷ pos 0 ∷ pos 1 ∷ pos 1 ∷ pos 0 ∷ pos 2 ∷ pos 0 ∷ pos 1 ∷ pos 1 ∷ negsuc 0 ∷ pos 0 ∷ pos 1 ∷ pos 1 ∷ pos 0 ∷ pos 2 ∷ pos 0 ∷ pos 1 ∷ pos 1 ∷ negsuc 0 ∷ pos 0 ∷ pos 1 ∷ pos 1 ∷ pos 0 ∷ pos 2 ∷ pos 0 ∷ pos 1 ∷ pos 1 ∷ negsuc 0 ∷ pos 0 ∷ pos 1 ∷ pos 1 ∷ pos 0 ∷ pos 2 ∷ pos 0 ∷ pos 1 ∷ pos 1 ∷ negsuc 0 ∷ pos 0 ∷ pos 1 ∷ pos 1 ∷ pos 0 ∷ pos 0 ∷ pos 0 ∷ pos 4 ∷ pos 0 ∷ pos 0 ∷ pos 1 ∷ pos 0 ∷ pos 1 ∷ pos 0 ∷ pos 0 ∷ pos 1 ∷ pos 0 ∷ pos 1 ∷ pos 0 ∷ pos 0 ∷ pos 1 ∷ pos 1 ∷ pos 1 ∷ pos 0 ∷ pos 0 ∷ pos 1 ∷ pos 1 ∷ pos 1 ∷ pos 0 ∷ pos 4 ∷ pos 0 ∷ negsuc 0 ∷ pos 1 ∷ pos 0 ∷ pos 1 ∷ pos 0 ∷ negsuc 0 ∷ pos 1 ∷ pos 0 ∷ pos 1 ∷ pos 0 ∷ negsuc 0 ∷ pos 1 ∷ pos 1 ∷ pos 1 ∷ pos 0 ∷ negsuc 0 ∷ pos 1 ∷ pos 1 ∷ pos 1 ∷ pos 0 ∷ pos 4 ∷ pos 0 ∷ negsuc 1 ∷ pos 1 ∷ pos 0 ∷ pos 1 ∷ pos 0 ∷ negsuc 1 ∷ pos 1 ∷ pos 0 ∷ pos 1 ∷ pos 0 ∷ negsuc 1 ∷ pos 1 ∷ pos 1 ∷ pos 1 ∷ pos 0 ∷ negsuc 1 ∷ pos 1 ∷ pos 1 ∷ pos 1 ∷ pos 0 ∷ pos 4 ∷ pos 0 ∷ negsuc 2 ∷ pos 1 ∷ pos 0 ∷ pos 1 ∷ pos 0 ∷ negsuc 2 ∷ pos 1 ∷ pos 0 ∷ pos 1 ∷ pos 0 ∷ negsuc 2 ∷ pos 1 ∷ pos 1 ∷ pos 1 ∷ pos 0 ∷ negsuc 2 ∷ pos 1 ∷ pos 1 ∷ pos 1 ∷ []
unfolding clause_list
twice_different = refl

pub sums_different : clause_list (Range (pos 0) (pos 1) ∷ Range (pos 0) (pos 1) ∷ []) (AllDifferent (Linear (tmore (pos 2) (IVar 0) (tmore (pos 1) (IConst (pos 1)) tnil)) ∷ Linear (tmore (pos 1) (IVar 1) (tmore (negsuc 2) (IConst (pos 1)) tnil)) ∷ IConst (pos 4) ∷ [])) ≡ pos 3 ∷ pos 0 ∷ pos 1 ∷ pos 1 ∷ pos 4 ∷ pos 2 ∷ pos 0 ∷ pos 2 ∷ pos 1 ∷ negsuc 0 ∷ pos 0 ∷ pos 1 ∷ pos 1 ∷ negsuc 2 ∷ pos 1 ∷ pos 0 ∷ pos 2 ∷ pos 0 ∷ pos 1 ∷ pos 1 ∷ negsuc 6 ∷ pos 1 ∷ pos 1 ∷ pos 1 ∷ []
unfolding clause_list
sums_different = refl

pub fewer_different : clause_list (Range (pos 0) (pos 2) ∷ Range (pos 0) (pos 2) ∷ []) (AllDifferent (IVar 0 ∷ IVar 1 ∷ [])) ≡ pos 1 ∷ pos 0 ∷ pos 1 ∷ pos 1 ∷ pos 0 ∷ pos 2 ∷ pos 0 ∷ pos 1 ∷ pos 1 ∷ negsuc 0 ∷ []
unfolding clause_list
fewer_different = refl

pub one_different : clause_list (Range (pos 0) (pos 1000000000) ∷ []) (AllDifferent (IVar 0 ∷ [])) ≡ pos 0 ∷ []
unfolding clause_list
one_different = refl

-- ---- refusals 9, 10 and 11

-- a set of one AllDifferent over variables from 0 to 5
abbrev one_statement : ℕ → List IntExpr → Problem
one_statement ni es = record { bools = 0; domains = map (λ v. Range (pos 0) (pos 5)) (below ni); stmts = AllDifferent es ∷ [] }

-- the sum of n variables from v on
abbrev sum_from : ℕ → ℕ → Terms
sum_from v zero = tnil
sum_from v (suc n) = tmore (pos 1) (IVar v) (sum_from (suc v) n)

abbrev refusal : ℕ → List IntExpr → ℕ
refusal ni es = check (one_statement ni es)

-- one expression by itself, two together, the first and the last
pub heavy_alone : refusal 0 (Linear (tmore (pos 2) (IConst (pos 1073741823)) tnil) ∷ []) ≡ 9
unfolding any_comparison any_pair any_part weight heavy heavy_comparison written ifs many_comparison check
heavy_alone = refl

pub heavy_pair : refusal 0 (IConst (pos 1073741823) ∷ IConst (pos 1) ∷ []) ≡ 9
unfolding any_comparison any_pair any_part weight heavy heavy_comparison written ifs many_comparison check
heavy_pair = refl

pub light_pair : refusal 0 (IConst (pos 1073741823) ∷ IConst (pos 0) ∷ []) ≡ 0
unfolding any_comparison any_pair any_part weight heavy heavy_comparison written ifs many_comparison check
light_pair = refl

pub heavy_ends : refusal 0 (IConst (pos 1073741823) ∷ IConst (pos 0) ∷ IConst (negsuc 0) ∷ []) ≡ 9
unfolding any_comparison any_pair any_part weight heavy heavy_comparison written ifs many_comparison check
heavy_ends = refl

-- 65 variables in two expressions, 64, and 65 in one alone, whose span is no matter
pub many_pair : refusal 65 (Linear (sum_from 0 33) ∷ Linear (sum_from 33 32) ∷ []) ≡ 10
unfolding any_comparison any_pair any_part weight heavy heavy_comparison written ifs many_comparison check
many_pair = refl

pub few_pair : refusal 65 (Linear (sum_from 0 32) ∷ Linear (sum_from 32 32) ∷ []) ≡ 0
unfolding any_comparison any_pair any_part weight heavy heavy_comparison written ifs many_comparison check
few_pair = refl

pub many_alone : refusal 65 (Linear (sum_from 0 65) ∷ []) ≡ 0
unfolding any_comparison any_pair any_part weight heavy heavy_comparison written ifs many_comparison check
many_alone = refl
