-- The lines of a starred table are the words of the clauses that normalize_disjunction makes of its rows. Assumes nothing.
use mathlib.Core.Path.{◌≡◌, refl, sym, ap, ◌∙◌, subst}
use mathlib.Core.Bool.{Bool, true, false, not, cond, false≢true}
use mathlib.Core.List.{List, [], ◌∷◌, ◌++◌, append-nil, map}
use Prim.Native.Nat.{ℕ, zero, suc, ◌+◌, ◌<◌, ◌≤◌}
use native.Mathlib.Omega.{arith}
use lib.IntN.{ℤ, nat_abs}
use lib.ListN.{length, length-append, length-map}
use Rattle.laws.specs.Bools.{or_no_l, or_no_r}
use Rattle.laws.specs.Order.{not_eqZ}
use Rattle.laws.specs.Lists.{keep_if, select, flat, flat_append}
use Rattle.laws.specs.Writes.{wrote_to}
use Rattle.memory.specs.Places.{limit}
use Rattle.syntax.specs.Words.{star_word}
use Rattle.syntax.specs.Syntax.{Cell, star, value, encode_cell}
use Rattle.words.specs.Exact.{Value, Each}
use Rattle.read.specs.WellFormed.{WellCell, WellRow}
use Rattle.clauses.specs.Clause.{LinearLit, Clause, clause}
use Rattle.clauses.specs.Log.{Log, next_bool}
use Rattle.clauses.specs.Disjunction.{Out, pool, sorted, finish_disjunction, finish_sorted}
use Rattle.answer.specs.Answer.{linear_words, clause_words}
use Rattle.tables.specs.Tables.{Row, linear_eq, star_row, star_table}
use Rattle.walk.specs.Item.{clause_text, mode_in, extra, block, pool_text}
use Rattle.walk.proofs.Texts.{layout, layout_words, long_layout, lengths, linears, finish_words, finish_lines, disjunction_finish}
use Rattle.walk.specs.declared.Mode.{Mode}
use Rattle.walk.specs.declared.Mode.TheVariants.{Pool, One, Two, Each as Every}
use Rattle.rows.specs.Emit.{clauses_words, Clauses}
use Rattle.rows.specs.Stars.{is_value, values_in, is_single, is_longer, count_rows}
use Rattle.statements.specs.Star.{no_equality, any_free}
use Rattle.output.proofs.Laws.{block_length}
use Rattle.stars.specs.Lines.{row_linears, row_lines, equality, long_lines, single_linears, pool_line, pool_lines, lines_in_mode, star_lines, Lines}

-- ---- one row

abbrev alone : LinearLit → Clause
alone k = clause [] (k ∷ [])

value_is : (x : ℤ) → Value x → is_value x ≡ true
value_is x h = ap not (not_eqZ x star_word (λ e. omega (arith, h, ap nat_abs e)))

row_is : (vs : List ℕ) (cs : List Cell) → Each WellCell cs → star_row vs cs ≡ map alone (row_linears vs (map encode_cell cs))
unfolding star_row row_linears
row_is [] cs w = refl
row_is (v ∷ vs) [] w = refl
row_is (v ∷ vs) (star ∷ cs) w = row_is vs cs w.1
row_is (v ∷ vs) (value x ∷ cs) w = rw (value_is x w.0) (ap (λ (l : List Clause). alone (linear_eq v x) ∷ l) (row_is vs cs w.1))

row_count : (vs : List ℕ) (r : Row) → length r ≡ length vs → length (row_linears vs r) ≡ values_in r
unfolding row_linears values_in
row_count [] [] h = refl
row_count [] (x ∷ r) h = absurd (omega (arith, h))
row_count (v ∷ vs) [] h = absurd (omega (arith, h))
row_count (v ∷ vs) (x ∷ r) h = go (is_value x) (row_count vs r (omega (arith, h)))
  where
    go : (t : Bool) → length (row_linears vs r) ≡ length (select is_value r) → length (keep_if t (linear_eq v x) (row_linears vs r)) ≡ length (keep_if t x (select is_value r))
    go true e = ap suc e
    go false e = e

row_some : (vs : List ℕ) (cs : List Cell) → Each WellCell cs → no_equality vs cs ≡ false → 1 ≤ length (row_linears vs (map encode_cell cs))
unfolding row_linears
row_some [] cs w h = absurd (false≢true (sym h))
row_some (v ∷ vs) [] w h = absurd (false≢true (sym h))
row_some (v ∷ vs) (star ∷ cs) w h = row_some vs cs w.1 h
row_some (v ∷ vs) (value x ∷ cs) w h = rw (value_is x w.0) (omega arith)

-- ---- the rows sorted: the equalities of those that have one, and the longer ones

unfoldable longs : List ℕ → List Row → List (List Clause)
longs vs [] = []
longs vs (r ∷ rs) = cond (is_longer (values_in r)) (map alone (row_linears vs r) ∷ longs vs rs) (longs vs rs)

sort_more : (ks js : List LinearLit) (css cx : List (List Clause)) (n : ℕ) → sorted css ≡ pool [] js cx → length ks ≡ n → 1 ≤ n
    → sorted (map alone ks ∷ css) ≡ pool [] (cond (is_single n) (ks ++ js) js) (cond (is_longer n) (map alone ks ∷ cx) cx)
unfolding sorted
sort_more [] js css cx n h e l = absurd (omega (arith, e))
sort_more (k ∷ []) js css cx n h e l = rw (h, ← e) refl
sort_more (k ∷ i ∷ ks) js css cx n h e l = rw (h, ← e) refl

module _ (n : ℕ) (vs : List ℕ) (width : length vs ≡ n) where
  row_values : (cs : List Cell) → WellRow n cs → length (row_linears vs (map encode_cell cs)) ≡ values_in (map encode_cell cs)
  row_values cs w = row_count vs (map encode_cell cs) (length-map cs encode_cell ∙ w.0 ∙ sym width)

  rows_sorted : (rows : List (List Cell)) → Each (WellRow n) rows → any_free vs rows ≡ false
      → sorted (map (star_row vs) rows) ≡ pool [] (single_linears vs (map (map encode_cell) rows)) (longs vs (map (map encode_cell) rows))
  unfolding single_linears longs
  rows_sorted [] w h = unfold sorted in refl
  rows_sorted (cs ∷ rows) w h =
      let e = row_values cs w.0 in
      let l = row_some vs cs w.0.1 (or_no_l (no_equality vs cs) _ h) in
      rw (row_is vs cs w.0.1) (sort_more (row_linears vs (map encode_cell cs)) _ (map (star_row vs) rows) _ (values_in (map encode_cell cs)) (rows_sorted rows w.1 (or_no_r (no_equality vs cs) _ h)) e (omega (arith, e)))

  single_count : (rows : List (List Cell)) → Each (WellRow n) rows → length (single_linears vs (map (map encode_cell) rows)) ≡ count_rows is_single (map (map encode_cell) rows)
  unfolding single_linears count_rows
  single_count [] w = refl
  single_count (cs ∷ rows) w = go (values_in r) (row_values cs w.0) (single_count rows w.1)
    where
      r : Row
      r = map encode_cell cs

      rs : List Row
      rs = map (map encode_cell) rows

      go : (m : ℕ) → length (row_linears vs r) ≡ m → length (single_linears vs rs) ≡ length (select (λ q. is_single (values_in q)) rs)
          → length (cond (is_single m) (row_linears vs r ++ single_linears vs rs) (single_linears vs rs)) ≡ length (keep_if (is_single m) r (select (λ q. is_single (values_in q)) rs))
      go zero e h = h
      go (suc zero) e h = length-append (row_linears vs r) (single_linears vs rs) ∙ omega (arith, e, h)
      go (suc (suc m)) e h = h

long_count : (vs : List ℕ) (rs : List Row) → length (longs vs rs) ≡ count_rows is_longer rs
unfolding longs count_rows
long_count vs [] = refl
long_count vs (r ∷ rs) = go (is_longer (values_in r)) (long_count vs rs)
  where
    go : (t : Bool) → length (longs vs rs) ≡ length (select (λ q. is_longer (values_in q)) rs)
        → length (cond t (map alone (row_linears vs r) ∷ longs vs rs) (longs vs rs)) ≡ length (keep_if t r (select (λ q. is_longer (values_in q)) rs))
    go true h = ap suc h
    go false h = h

-- ---- the words, and how many clauses

row_words : (x : List ℤ) (ks : List LinearLit) → flat (map (equality x) ks) ≡ layout (x ++ []) (map alone ks)
unfolding layout clause_text
row_words x [] = refl
row_words x (k ∷ ks) =
    let z : 0 + length x ≡ length x = omega arith in
    rw (append-nil x, append-nil (linear_words k), z) (ap (λ (l : List ℤ). equality x k ++ l) (row_words x ks))

long_words : (o : Mode) (m : ℕ) (vs : List ℕ) (rs : List Row) (j : ℕ) → flat (long_lines o m vs rs j) ≡ long_layout (extra o m []) (longs vs rs) j []
unfolding long_lines longs long_layout
long_words o m vs [] j = refl
long_words o m vs (r ∷ rs) j = go (is_longer (values_in r)) (long_words o m vs rs (j + 1)) (long_words o m vs rs j)
  where
    go : (t : Bool) → flat (long_lines o m vs rs (j + 1)) ≡ long_layout (extra o m []) (longs vs rs) (j + 1) [] → flat (long_lines o m vs rs j) ≡ long_layout (extra o m []) (longs vs rs) j []
        → flat (cond t (row_lines (extra o m [] j) vs r ++ long_lines o m vs rs (j + 1)) (long_lines o m vs rs j)) ≡ long_layout (extra o m []) (cond t (map alone (row_linears vs r) ∷ longs vs rs) (longs vs rs)) j []
    go true a b = flat_append (row_lines (extra o m [] j) vs r) (long_lines o m vs rs (j + 1)) ∙ (unfold long_layout in rw (row_words (extra o m [] j) (row_linears vs r), a) refl)
    go false a b = b

long_number : (o : Mode) (m : ℕ) (vs : List ℕ) (rs : List Row) (j : ℕ) → length (long_lines o m vs rs j) ≡ lengths (longs vs rs)
unfolding long_lines longs
long_number o m vs [] j = refl
long_number o m vs (r ∷ rs) j = go (is_longer (values_in r)) (long_number o m vs rs (j + 1)) (long_number o m vs rs j)
  where
    go : (t : Bool) → length (long_lines o m vs rs (j + 1)) ≡ lengths (longs vs rs) → length (long_lines o m vs rs j) ≡ lengths (longs vs rs)
        → length (cond t (row_lines (extra o m [] j) vs r ++ long_lines o m vs rs (j + 1)) (long_lines o m vs rs j)) ≡ lengths (cond t (map alone (row_linears vs r) ∷ longs vs rs) (longs vs rs))
    go true a b =
        length-append (row_lines (extra o m [] j) vs r) (long_lines o m vs rs (j + 1))
        ∙ omega (arith, a, length-map (row_linears vs r) (equality (extra o m [] j)), length-map (row_linears vs r) alone)
    go false a b = b

pool_clause : (m x y : ℕ) (ks : List LinearLit) → pool_line m x y ks ≡ clause_text [] (block m x ++ []) y (linears ks)
unfolding clause_text
pool_clause m x y ks =
    let z : 0 + x ≡ x = omega arith in
    rw (append-nil (block m x), block_length m x, z) refl

pool_words : (o : Mode) (m x y : ℕ) (ks : List LinearLit) → flat (pool_lines o (pool_line m x y ks)) ≡ pool_text o m x [] y (linears ks) []
pool_words Pool m x y ks = append-nil (pool_line m x y ks) ∙ pool_clause m x y ks
pool_words One m x y ks = refl
pool_words Two m x y ks = refl
pool_words Every m x y ks = append-nil (pool_line m x y ks) ∙ pool_clause m x y ks

-- each clause has words
clauses_long : (cs : List Clause) → length cs ≤ length (clauses_words cs)
clauses_long [] = omega arith
clauses_long (clause ls ks ∷ cs) = omega (arith, length-append (clause_words (clause ls ks)) (clauses_words cs), clauses_long cs)

-- as many lines as clauses
number_is : (cx : List (List Clause)) (ks : List LinearLit) (l : List ℤ) (s : Log) → length (finish_disjunction cx [] ks s).0 < limit
    → lengths cx + length (pool_lines (mode_in (length cx) 0 (length ks)) l) ≡ length (finish_disjunction cx [] ks s).0
number_is [] ks l s h = omega (arith, finish_lines [] [] ks s, h)
number_is (a ∷ []) [] l s h = omega (arith, finish_lines (a ∷ []) [] [] s, h)
number_is (a ∷ []) (k ∷ ks) l s h = omega (arith, finish_lines (a ∷ []) [] (k ∷ ks) s, h)
number_is (a ∷ b ∷ []) [] l s h = omega (arith, finish_lines (a ∷ b ∷ []) [] [] s, h)
number_is (a ∷ b ∷ []) (k ∷ ks) l s h = omega (arith, finish_lines (a ∷ b ∷ []) [] (k ∷ ks) s, h)
number_is (a ∷ b ∷ c ∷ cx) ks l s h = omega (arith, finish_lines (a ∷ b ∷ c ∷ cx) [] ks s, h)

-- ---- the table

module _ (n : ℕ) (vs : List ℕ) (width : length vs ≡ n) (rows : List (List Cell)) (w : Each (WellRow n) rows) (free : any_free vs rows ≡ false) (s : Log) where
  abbrev R : List Row
  R = map (map encode_cell) rows

  abbrev lines : List (List ℤ)
  lines = star_lines (next_bool s) vs R

  table_is : star_table vs rows s ≡ finish_disjunction (longs vs R) [] (single_linears vs R) s
  unfolding star_table finish_sorted
  table_is = disjunction_finish (map (star_row vs) rows) s ∙ rw (rows_sorted n vs width rows w free) refl

  lines_are : lines ≡ lines_in_mode (mode_in (length (longs vs R)) 0 (length (single_linears vs R))) (next_bool s) (length (longs vs R)) (length (single_linears vs R)) vs R
  unfolding star_lines
  lines_are = rw (long_count vs R, single_count n vs width rows w) refl

  module _ (low : next_bool (star_table vs rows s).1 ≤ limit) where
    table_words : flat lines ≡ clauses_words (star_table vs rows s).0
    table_words =
        let x = length (longs vs R) in
        let y = length (single_linears vs R) in
        let o = mode_in x 0 y in
        let l : List ℤ = pool_line (next_bool s) x y (single_linears vs R) in
        let small : next_bool (finish_disjunction (longs vs R) [] (single_linears vs R) s).1 ≤ limit = subst (λ (z : Out). next_bool z.1 ≤ limit) table_is low in
        ap flat lines_are
        ∙ flat_append (long_lines o (next_bool s) vs R 0) (pool_lines o l)
        ∙ rw (long_words o (next_bool s) vs R 0, pool_words o (next_bool s) x y (single_linears vs R)) (finish_words s [] (longs vs R) [] (single_linears vs R) small)
        ∙ layout_words (finish_disjunction (longs vs R) [] (single_linears vs R) s).0
        ∙ ap (λ (z : Out). clauses_words z.0) (sym table_is)

    table_count : length (flat lines) < limit → length lines ≡ length (star_table vs rows s).0
    table_count h =
        let x = length (longs vs R) in
        let y = length (single_linears vs R) in
        let o = mode_in x 0 y in
        let l : List ℤ = pool_line (next_bool s) x y (single_linears vs R) in
        let k : length (star_table vs rows s).0 < limit = omega (arith, h, ap length table_words, clauses_long (star_table vs rows s).0) in
        ap length lines_are
        ∙ length-append (long_lines o (next_bool s) vs R 0) (pool_lines o l)
        ∙ ap (λ (i : ℕ). i + length (pool_lines o l)) (long_number o (next_bool s) vs R 0)
        ∙ number_is (longs vs R) (single_linears vs R) l s (subst (λ (z : Out). length z.0 < limit) table_is k)
        ∙ ap (λ (z : Out). length z.0) (sym table_is)

    pub table_clauses : {out out' : List ℤ} {o o' c c' : ℕ} → Lines out o c lines out' o' c' → Clauses out o c (star_table vs rows s).0 out' o' c'
    table_clauses {o = o} l = record {
      words = wrote_to table_words l.words;
      count = λ h. let q : length (flat lines) < limit = omega (arith, h, l.words.at) in omega (arith, l.count h, table_count q);
      low = l.low;
    }
