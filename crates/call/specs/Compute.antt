-- Computing a call: whether its result is the one expected, for every kind of result.
use Rattle.std.specs.Prelude.{Bool, true, false, ◌&&◌, List, [], ◌∷◌, ℕ, ℤ, eqb}
use Rattle.laws.specs.Same.{same_words}
use Rattle.syntax.specs.Syntax.{encode_int}
use Rattle.call.specs.Call.{Result, compiled, contradiction, refused}
use Rattle.read.specs.Read.{times, up_to, count, index, number, read_range, read_rising, read_enumerative, read_domain, kind_bool, kind_int, read_terms, read_members, step_int, read_int, step_bool, read_bool, read_cell, read_table, read_different, read_stmt, read_set}
use Rattle.limits.specs.Limits.{any_comparison, any_comparison_members, any_inside, any_inside_terms, any_pair, any_part, weight, terms_weight, heavy, heavy_terms, heavy_comparison, written, written_terms, ifs, ifs_terms, many_comparison, many_column, interval, terms_interval, span, wide_column, check}
use Rattle.fold.specs.Fold.{fold_binary, has_const, kept, fold_and, fold_or, fold_not, constant_folding_int, constant_folding_terms, constant_folding_bool, constant_folding_members, constant_folding_stmt}
use Rattle.fold.specs.Optimize.{constant_prop_bool, constant_prop_members, constant_prop_stmts, passes, optimize}
use Rattle.sums.specs.LinearSum.{insert_coef, add_coef, add_terms, add_sum, mul_terms, mul_sum, sub_sum, lowest, highest, get_domain_linear_sum}
use Rattle.clauses.specs.Log.{get_bool_var, get_int_var, get_if, convert_bool_var, convert_int_var, made_ints, emitted_domains, clauses_of}
use Rattle.clauses.specs.Disjunction.{sorted, each_longer, finish_disjunction, finish_sorted, normalize_disjunction}
use Rattle.clauses.specs.Normalize.{normalize_int_var, normalize_term, normalize_int_expr, normalize_terms, register, define, no_run, run_then, normalize_conjunction, disjunction_of, cross, normalize_var, normalize_num, normalize_comparison, condition_literal, domain_of_sum, if_constant, if_open, normalize_if, normalize_bool_expr, normalize_members}
use Rattle.clauses.specs.Split.{unsplit, split_one, split_two, split_three, split_sides, tseitin_transformation_bool, tseitin_transformation_members, register_each, normalize_and_register_expr}
use Rattle.tables.specs.Tables.{new_column, old_column, equivalent_int_var, equivalent_int_vars, star_row, star_table, row_le, insert_row, sort_rows, within, agree, run_length, groups, differs, column_clause, column_clauses, prefixes, plain_clauses, plain_table, normalize_extension_supports, normalize_table}
use Rattle.different.specs.Different.{pair_rules, values_of_first, values_used_up, different_rules, normalize_rules}
use Rattle.answer.specs.Answer.{normalize_stmt, normalize_stmts, emitted, answer_of, start_log, normalize, layout}
use Rattle.clauses.specs.Merge.{tie, merge_rule, merge_stmts}
use Rattle.call.specs.Call.{measured, answered, checked, when_read, call_with, output_after, work_after}
use Rattle.call.specs.declared.Choices.{Choices}

abbrev pub same_result : Result → Result → Bool
same_result (compiled xs) (compiled ys) = same_words xs ys
same_result (compiled xs) contradiction = false
same_result (compiled xs) (refused k) = false
same_result contradiction (compiled ys) = false
same_result contradiction contradiction = true
same_result contradiction (refused k) = false
same_result (refused k) (compiled ys) = false
same_result (refused k) contradiction = false
same_result (refused k) (refused l) = eqb k l

-- a set, the lengths of the output and the work slice, and the result
pub data Case : Type 0 where
  case : List ℤ → ℕ → ℕ → Result → Case

-- c: what the caller chose
unfoldable pub agrees : Choices → Case → Bool
unfolding encode_int times up_to count index number read_range read_rising read_enumerative read_domain kind_bool kind_int read_terms read_members step_int read_int step_bool read_bool same_words read_cell read_table read_different read_stmt read_set any_comparison any_comparison_members any_inside any_inside_terms any_pair any_part weight terms_weight heavy heavy_terms heavy_comparison written written_terms ifs ifs_terms many_comparison many_column interval terms_interval span wide_column check fold_binary has_const kept fold_and fold_or fold_not constant_folding_int constant_folding_terms constant_folding_bool constant_folding_members constant_folding_stmt constant_prop_bool constant_prop_members constant_prop_stmts passes optimize insert_coef add_coef add_terms add_sum mul_terms mul_sum sub_sum lowest highest get_domain_linear_sum get_bool_var get_int_var get_if convert_bool_var convert_int_var made_ints emitted_domains clauses_of sorted each_longer finish_disjunction finish_sorted normalize_disjunction normalize_int_var normalize_term normalize_int_expr normalize_terms register define no_run run_then normalize_conjunction disjunction_of cross normalize_var normalize_num normalize_comparison condition_literal domain_of_sum if_constant if_open normalize_if normalize_bool_expr normalize_members unsplit split_one split_two split_three split_sides tseitin_transformation_bool tseitin_transformation_members register_each normalize_and_register_expr new_column old_column equivalent_int_var equivalent_int_vars star_row star_table row_le insert_row sort_rows within agree run_length groups differs column_clause column_clauses prefixes plain_clauses plain_table normalize_extension_supports normalize_table pair_rules values_of_first values_used_up different_rules normalize_rules normalize_stmt normalize_stmts emitted answer_of start_log normalize layout tie merge_rule merge_stmts call_with measured answered checked when_read output_after work_after
agrees c (case set out_length work_length result) = same_result (call_with c set out_length work_length) result

unfoldable pub all_agree : Choices → List Case → Bool
unfolding agrees
all_agree c [] = true
all_agree c (x ∷ xs) = agrees c x && all_agree c xs
