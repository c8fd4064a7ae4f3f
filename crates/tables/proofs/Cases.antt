-- The exact clauses of some tables, computed: P9 to P12 of document 01, rows given out of order, starred tables, and a column that is no variable.
use Rattle.std.specs.Prelude.{◌≡◌, refl, true, false, List, [], ◌∷◌, ℕ, pos, negsuc}
use Rattle.syntax.specs.Syntax.{Domain, Range, Eq, IntExpr, IConst, IVar, Cell, star, value}
use Rattle.sums.specs.LinearSum.{term, linear_sum, insert_coef, add_coef, add_terms, add_sum, mul_terms, mul_sum, sub_sum, lowest, highest, get_domain_linear_sum}
use Rattle.clauses.specs.Clause.{lit, LinearLit, linear, Clause, clause}
use Rattle.clauses.specs.Log.{get_int_var, convert_int_var, made_ints, emitted_domains, clauses_of}
use Rattle.clauses.specs.Disjunction.{sorted, each_longer, finish_disjunction, finish_sorted, normalize_disjunction}
use Rattle.clauses.specs.Normalize.{register, domain_of_sum, normalize_int_var, normalize_term, normalize_int_expr}
use Rattle.tables.specs.Tables.{new_column, old_column, equivalent_int_var, equivalent_int_vars, linear_eq, linear_ne, star_row, star_table, row_le, insert_row, sort_rows, within, agree, run_length, groups, differs, column_clause, column_clauses, prefixes, plain_clauses, plain_table, normalize_extension_supports, normalize_table}

-- ---- notation

abbrev comparisons : List LinearLit → Clause
comparisons ks = clause [] ks

abbrev cell : ℕ → Cell
cell n = value (pos n)

abbrev one_of : ℕ → List Cell
one_of x = cell x ∷ []

abbrev two_of : ℕ → ℕ → List Cell
two_of x y = cell x ∷ cell y ∷ []

-- the clauses of a table that comes first; ds: the declared domains
unfoldable pub table_clauses : List Domain → List IntExpr → List (List Cell) → List Clause
unfolding insert_coef add_coef add_terms add_sum mul_terms mul_sum sub_sum lowest highest get_domain_linear_sum get_int_var convert_int_var sorted each_longer finish_disjunction finish_sorted normalize_disjunction normalize_int_var normalize_term normalize_int_expr domain_of_sum made_ints emitted_domains clauses_of register new_column old_column equivalent_int_var equivalent_int_vars star_row star_table row_le insert_row sort_rows within agree run_length groups differs column_clause column_clauses prefixes plain_clauses plain_table normalize_extension_supports normalize_table
table_clauses ds es rows = clauses_of (normalize_table ds es rows [])

-- one column over 0 to 2; two columns over 0 and 1
unfoldable pub one_column : List (List Cell) → List Clause
one_column rows = table_clauses (Range (pos 0) (pos 2) ∷ []) (IVar 0 ∷ []) rows

unfoldable pub two_columns : List (List Cell) → List Clause
two_columns rows = table_clauses (Range (pos 0) (pos 1) ∷ Range (pos 0) (pos 1) ∷ []) (IVar 0 ∷ IVar 1 ∷ []) rows

-- ---- without stars

-- P9
pub some_values : one_column (one_of 0 ∷ one_of 2 ∷ []) ≡ comparisons (linear_eq 0 (pos 0) ∷ linear_eq 0 (pos 2) ∷ []) ∷ []
unfolding one_column table_clauses
some_values = refl

-- P10
pub all_values : one_column (one_of 0 ∷ one_of 1 ∷ one_of 2 ∷ []) ≡ []
unfolding one_column table_clauses
all_values = refl

-- P11
pub no_row_left : one_column (one_of 5 ∷ []) ≡ comparisons [] ∷ []
unfolding one_column table_clauses
no_row_left = refl

-- P12
pub two_rows : two_columns (two_of 0 0 ∷ two_of 1 1 ∷ []) ≡ comparisons (linear_ne 0 (pos 0) ∷ linear_eq 1 (pos 0) ∷ []) ∷ comparisons (linear_ne 0 (pos 1) ∷ linear_eq 1 (pos 1) ∷ []) ∷ []
unfolding two_columns table_clauses
two_rows = refl

-- rows out of order: those with 0 in front make one group, which has the whole domain behind
pub rows_out_of_order : two_columns (two_of 0 0 ∷ two_of 1 1 ∷ two_of 0 1 ∷ []) ≡ comparisons (linear_ne 0 (pos 1) ∷ linear_eq 1 (pos 1) ∷ []) ∷ []
unfolding two_columns table_clauses
rows_out_of_order = refl

-- ---- with stars

-- one cell of each row counts
pub starred_rows : two_columns ((star ∷ cell 1 ∷ []) ∷ (cell 0 ∷ star ∷ []) ∷ []) ≡ comparisons (linear_eq 1 (pos 1) ∷ linear_eq 0 (pos 0) ∷ []) ∷ []
unfolding two_columns table_clauses
starred_rows = refl

-- one star makes the whole table a starred one
pub one_starred_row : two_columns (two_of 1 1 ∷ (star ∷ cell 0 ∷ []) ∷ [])
    ≡ clause (lit 0 true ∷ []) (linear_eq 0 (pos 1) ∷ []) ∷ clause (lit 0 true ∷ []) (linear_eq 1 (pos 1) ∷ []) ∷ clause (lit 0 false ∷ []) (linear_eq 1 (pos 0) ∷ []) ∷ []
unfolding two_columns table_clauses
one_starred_row = refl

-- a row of stars only
pub stars_only : one_column ((star ∷ []) ∷ []) ≡ []
unfolding one_column table_clauses
stars_only = refl

-- ---- a column that is no variable: a new one, equal to it

pub constant_column : table_clauses [] (IConst (pos 3) ∷ []) (one_of 3 ∷ []) ≡ comparisons (linear Eq (linear_sum (pos 3) (term 0 (negsuc 0) ∷ [])) ∷ []) ∷ []
unfolding table_clauses
constant_column = refl
