-- Integer expressions, rows and statements by their words: which stand where, and how many there are. Assumes nothing.
use Rattle.std.specs.Prelude.{◌≡◌, List, [], ◌∷◌, ◌++◌, map, ℕ, suc, ◌+◌, ◌*◌, ◌≤◌, ◌<◌, ℤ, pos, length, get_or}
use Rattle.std.proofs.Common.{ap, ◌∙◌, mul_comm, arith, length-append}
use Rattle.std.proofs.lemmas.List.{length-map}
use Rattle.laws.specs.Lists.{flat}
use Rattle.laws.specs.Slices.{Has, has_word, has_rest, has_front, has_back, has_fits}
use Rattle.syntax.specs.Syntax.{IntExpr, IConst, IVar, Linear, If, Terms, tnil, tmore, count_terms, Cell, encode_int, encode_terms, encode_bool, encode_cell, Stmt, Rule, Table, AllDifferent, encode_stmt}

-- ---- integer expressions

abbrev pub int_tag : IntExpr → ℕ
int_tag (IConst c) = 20
int_tag (IVar v) = 21
int_tag (Linear ts) = 22
int_tag (If i c t f) = 23

pub int_tag_word : (ws : List ℤ) (at : ℕ) (e : IntExpr) → Has ws at (encode_int e) → get_or ws at (pos 0) ≡ pos (int_tag e)
unfolding encode_int
int_tag_word ws at (IConst c) h = has_word ws at _ _ (pos 0) h
int_tag_word ws at (IVar v) h = has_word ws at _ _ (pos 0) h
int_tag_word ws at (Linear ts) h = has_word ws at _ _ (pos 0) h
int_tag_word ws at (If i c t f) h = has_word ws at _ _ (pos 0) h

-- an integer expression has two words at least
pub int_long : (e : IntExpr) → 2 ≤ length (encode_int e)
unfolding encode_int
int_long (IConst c) = omega arith
int_long (IVar v) = omega arith
int_long (Linear ts) = omega arith
int_long (If i c t f) = omega (arith, length-append (encode_bool c) (encode_int t ++ encode_int f), length-append (encode_int t) (encode_int f), int_long t)

pub int_fits : (ws : List ℤ) (at : ℕ) (e : IntExpr) → Has ws at (encode_int e) → at + length (encode_int e) ≤ length ws
int_fits ws at e h = has_fits ws at (encode_int e) h (omega (arith, int_long e))

-- at most as many terms as words
pub terms_long : (ts : Terms) → count_terms ts ≤ length (encode_terms ts)
unfolding encode_terms
terms_long tnil = omega arith
terms_long (tmore k e ts) = omega (arith, terms_long ts, length-append (encode_int e) (encode_terms ts))

-- ---- rows

-- every row has n cells
unfoldable pub Wide : ℕ → List (List Cell) → Type 0
Wide n [] = Unit {0}
Wide n (r ∷ rows) = (length r ≡ n) × Wide n rows

pub rows_length : (n : ℕ) (rows : List (List Cell)) → Wide n rows → length (flat (map (map encode_cell) rows)) ≡ n * length rows
unfolding Wide
rows_length n [] w = omega arith
rows_length n (r ∷ rows) w = omega (arith, length-append (map encode_cell r) (flat (map (map encode_cell) rows)), length-map r encode_cell, w.0, rows_length n rows w.1, mul_comm n (suc (length rows)), mul_comm n (length rows))

-- ---- statements

pub stmt_some : (s : Stmt) → 0 < length (encode_stmt s)
unfolding encode_stmt
stmt_some (Rule e) = omega arith
stmt_some (Table es rows) = omega arith
stmt_some (AllDifferent es) = omega arith

-- a table's words: both counts, the columns, the cells
pub record TableWords (ws : List ℤ) (at : ℕ) (es : List IntExpr) (rows : List (List Cell)) : Type 0 where
  pub columns_word : get_or ws (at + 1) (pos 0) ≡ pos (length es)
  pub rows_word : get_or ws (at + 2) (pos 0) ≡ pos (length rows)
  pub columns : Has ws (at + 3) (flat (map encode_int es))
  pub cells : Has ws (at + 3 + length (flat (map encode_int es))) (flat (map (map encode_cell) rows))
  pub inside : at + (3 + (length (flat (map encode_int es)) + length es * length rows)) ≤ length ws
  pub long : length (encode_stmt (Table es rows)) ≡ 3 + (length (flat (map encode_int es)) + length es * length rows)

pub table_words : (ws : List ℤ) (at : ℕ) (es : List IntExpr) (rows : List (List Cell)) → Wide (length es) rows → Has ws at (encode_stmt (Table es rows)) → TableWords ws at es rows
unfolding encode_stmt
table_words ws at es rows w h =
    let cs = flat (map encode_int es) in
    let rs = flat (map (map encode_cell) rows) in
    let h1 = has_rest ws at _ _ h in
    let h2 = has_rest ws (at + 1) _ _ h1 in
    let m2 : at + 2 ≡ at + 1 + 1 = omega arith in
    let m3 : at + 3 ≡ at + 1 + 1 + 1 = omega arith in
    let h3 : Has ws (at + 3) (cs ++ rs) = rw m3 (has_rest ws (at + 1 + 1) _ _ h2) in
    let l : length (encode_stmt (Table es rows)) ≡ 3 + (length cs + length es * length rows) = omega (arith, length-append cs rs, rows_length (length es) rows w) in
    record {
      columns_word = has_word ws (at + 1) _ _ (pos 0) h1;
      rows_word = ap (λ i. get_or ws i (pos 0)) m2 ∙ has_word ws (at + 1 + 1) _ _ (pos 0) h2;
      columns = has_front ws (at + 3) cs rs h3;
      cells = has_back ws (at + 3) cs rs h3;
      inside = omega (arith, has_fits ws at (encode_stmt (Table es rows)) h (omega arith), l);
      long = l;
    }

-- an AllDifferent's: the count, the expressions
pub record DifferentWords (ws : List ℤ) (at : ℕ) (es : List IntExpr) : Type 0 where
  pub count_word : get_or ws (at + 1) (pos 0) ≡ pos (length es)
  pub columns : Has ws (at + 2) (flat (map encode_int es))
  pub inside : at + (2 + length (flat (map encode_int es))) ≤ length ws

pub different_words : (ws : List ℤ) (at : ℕ) (es : List IntExpr) → Has ws at (encode_stmt (AllDifferent es)) → DifferentWords ws at es
unfolding encode_stmt
different_words ws at es h =
    let h1 = has_rest ws at _ _ h in
    let m2 : at + 2 ≡ at + 1 + 1 = omega arith in
    record {
      count_word = has_word ws (at + 1) _ _ (pos 0) h1;
      columns = rw m2 (has_rest ws (at + 1) _ _ h1);
      inside = omega (arith, has_fits ws at (encode_stmt (AllDifferent es)) h (omega arith));
    }
