-- How many numbers the first walk may take for a table outside Ifs: at most one for each of its words.
use Rattle.std.specs.Prelude.{Bool, true, false, cond, List, [], ◌∷◌, map, ℕ, zero, suc, ◌+◌, ◌≤◌, length}
use Rattle.std.proofs.Common.{arith, length-append}
use Rattle.std.proofs.lemmas.List.{length-map}
use Rattle.laws.specs.Lists.{flat}
use Rattle.syntax.specs.Syntax.{IntExpr, encode_int, Cell, star, value, encode_cell, Table, encode_stmt}
use Rattle.syntax.specs.Lengths.{int_long}
use Rattle.walk.specs.Item.{mode_in, fresh_in}
use Rattle.statements.specs.Table.{values, is_long, long_rows, single_rows, star_fresh, free_rows, starred, table_fresh}
use Rattle.stages.specs.Columns.{columns_words}

-- a number for each longer row at most
fresh_low : (x k : ℕ) → fresh_in (mode_in x 0 k) x ≤ x
fresh_low zero k = omega arith
fresh_low (suc zero) zero = omega arith
fresh_low (suc zero) (suc k) = omega arith
fresh_low (suc (suc zero)) zero = omega arith
fresh_low (suc (suc zero)) (suc k) = omega arith
fresh_low (suc (suc (suc x))) k = omega arith

long_low : (m : ℕ) → is_long m ≤ m
long_low zero = omega arith
long_low (suc zero) = omega arith
long_low (suc (suc m)) = omega arith

values_low : (n : ℕ) (cs : List Cell) → values n cs ≤ length cs
values_low zero cs = omega arith
values_low (suc n) [] = omega arith
values_low (suc n) (star ∷ cs) = omega (arith, values_low n cs)
values_low (suc n) (value x ∷ cs) = omega (arith, values_low n cs)

rows_low : (n : ℕ) (rows : List (List Cell)) → long_rows n rows ≤ length (flat (map (map encode_cell) rows))
unfolding long_rows
rows_low n [] = omega arith
rows_low n (cs ∷ rows) = omega (arith, long_low (values n cs), values_low n cs, rows_low n rows, length-append (map encode_cell cs) (flat (map (map encode_cell) rows)), length-map cs encode_cell)

either_low : (b : Bool) (x y z : ℕ) → x ≤ z → y ≤ z → cond b x y ≤ z
either_low true x y z h k = h
either_low false x y z h k = k

rows_fresh : (n : ℕ) (rows : List (List Cell)) → table_fresh n rows ≤ length (flat (map (map encode_cell) rows))
unfolding table_fresh star_fresh
rows_fresh n rows = either_low (starred rows) _ 0 _ (either_low (free_rows n rows) 0 _ _ (omega arith) (omega (arith, fresh_low (long_rows n rows) (single_rows n rows), rows_low n rows))) (omega arith)

columns_low : (es : List IntExpr) → length es ≤ length (columns_words es)
columns_low [] = omega arith
columns_low (e ∷ es) = omega (arith, int_long e, columns_low es, length-append (encode_int e) (columns_words es))

pub table_room : (es : List IntExpr) (rows : List (List Cell)) → length es + table_fresh (length es) rows ≤ length (encode_stmt (Table es rows))
unfolding encode_stmt
table_room es rows = omega (arith, columns_low es, rows_fresh (length es) rows, length-append (columns_words es) (flat (map (map encode_cell) rows)))
