-- Where the columns of a table stand among its words.
use Rattle.std.specs.Prelude.{List, [], ◌∷◌, map, ℕ, ◌+◌, ◌≤◌, ℤ, pos, length}
use Rattle.std.proofs.Common.{arith, length-append}
use Rattle.laws.specs.Lists.{flat}
use Rattle.laws.specs.Slices.{Has, has_front, has_back}
use Rattle.syntax.specs.Syntax.{IntExpr, encode_int, Cell, encode_cell, Table, encode_stmt}

-- F: the folded words
pub table_words : (F : List ℤ) (at : ℕ) (es : List IntExpr) (rows : List (List Cell)) → Has F at (encode_stmt (Table es rows)) → Has F (at + 3) (flat (map encode_int es))
unfolding encode_stmt
table_words F at es rows h = has_front F (at + 3) (flat (map encode_int es)) (flat (map (map encode_cell) rows)) (has_back F at (pos 2 ∷ pos (length es) ∷ pos (length rows) ∷ []) _ h)

pub table_length : (es : List IntExpr) (rows : List (List Cell)) → 3 + length (flat (map encode_int es)) ≤ length (encode_stmt (Table es rows))
unfolding encode_stmt
table_length es rows = omega (arith, length-append (flat (map encode_int es)) (flat (map (map encode_cell) rows)))
