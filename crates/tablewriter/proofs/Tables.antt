-- A table among the statements: its counts, the clauses of its columns before those of its rows, the counters behind it. Assumes nothing.
use mathlib.Core.Path.{◌≡◌, refl, sym, ap, ◌∙◌}
use mathlib.Core.Bool.{Bool, true, false, cond}
use mathlib.Core.List.{List, [], ◌∷◌, ◌++◌, map}
use Prim.Native.Nat.{ℕ, zero, suc, ◌+◌, ◌*◌, ◌≤◌, min}
use native.Mathlib.Omega.{arith}
use lib.IntN.{ℤ, pos}
use lib.ListN.{length, length-append}
use Rattle.laws.specs.Slices.{Has, has_word, has_back}
use Rattle.laws.specs.Writes.{cap, Wrote, wrote_to}
use Rattle.memory.specs.Places.{folded_end}
use Rattle.memory.specs.Number.{nat}
use Rattle.syntax.specs.Syntax.{Domain, IntExpr, Cell, Table, encode_stmt}
use Rattle.clauses.specs.Clause.{Clause, clause}
use Rattle.clauses.specs.Log.{Log, next_bool, next_int, clauses_of}
use Rattle.clauses.proofs.Emitted.{domain_at}
use Rattle.clauses.proofs.Since.{Adds, adds_then, clauses_since, since_is}
use Rattle.clauses.specs.Disjunction.{Out}
use Rattle.clauses.specs.Normalize.{register}
use Rattle.tables.specs.Tables.{star_row, star_table, plain_table, normalize_extension_supports, normalize_table}
use Rattle.answer.specs.Answer.{clause_words}
use Rattle.walk.specs.Item.{bump}
use Rattle.walk.proofs.Grow.{grow_added}
use Rattle.walk.proofs.Texts.{layout_words, disjunction_auxed, auxed_untouched}
use Rattle.walk.specs.Decode.{word, read_part}
use Rattle.walk.specs.declared.Counters.{Counters}
use Rattle.walks.specs.Item.{counters, int_count, more_bools}
use Rattle.walks.specs.Implements.{at, Ready, ready_back, Registers}
use Rattle.stages.specs.Columns.{column_at, columns_end, columns_stop}
use Rattle.stages.specs.ColumnsText.{columns_vars, columns_text, columns_lines}
use Rattle.stages.specs.Star.{star_count}
use Rattle.statements.specs.Star.{any_free, free_table}
use Rattle.statements.specs.Table.{star_fresh, free_rows, free_is, starred, table_fresh}
use Rattle.rows.specs.Emit.{clauses_words, Clauses}
use Rattle.rows.proofs.Looping.{clauses_then, clauses_to}
use Rattle.stmtwords.specs.Fresh.{Freshens}
use Rattle.tablewriter.specs.declared.Columned.{Columned}
use Rattle.tablewriter.specs.Columns.{AllFit, ColumnsPut}
use Rattle.tablewriter.specs.Step.{Place, after, columns_of, At, SomeAt, Did, RowsAt, SomeRowsAt, RowsDid}
use Rattle.tablewriter.proofs.Rows.{all_fit, columns_ready, columns_write, table_under, table_end, table_stand}

-- ---- the counts of a table that stands at q

count_columns : (F : List ℤ) (q : ℕ) (es : List IntExpr) (rows : List (List Cell)) → Has F q (encode_stmt (Table es rows)) → word F (q + 1) ≡ length es
unfolding word nat encode_stmt
count_columns F q es rows h = ap nat (has_word F (q + 1) (pos (length es)) _ (pos 0) (has_back F q (pos 2 ∷ []) _ h))

count_rows : (F : List ℤ) (q : ℕ) (es : List IntExpr) (rows : List (List Cell)) → Has F q (encode_stmt (Table es rows)) → word F (q + 2) ≡ length rows
unfolding word nat encode_stmt
count_rows F q es rows h = ap nat (has_word F (q + 2) (pos (length rows)) _ (pos 0) (has_back F q (pos 2 ∷ pos (length es) ∷ []) _ h))

-- ---- words as clauses: there are no more clauses than words, so the count is exact where the answer is not too long

clause_long : (d : Clause) → 1 ≤ length (clause_words d)
clause_long (clause ls ks) = omega arith

clauses_long : (cs : List Clause) → length cs ≤ length (clauses_words cs)
clauses_long [] = omega arith
clauses_long (d ∷ cs) = omega (arith, clauses_long cs, clause_long d, length-append (clause_words d) (clauses_words cs))

-- k: the clauses before; j: as counted behind
pub registers_clauses : {ws : List ℤ} {l : ℕ} {s t : Log} (r : Registers ws l s t) → {out out' : List ℤ} {o o' k : ℕ} → k ≤ o → Wrote out o ws out' o' → (j : ℕ) → j ≡ min (bump k l) o' → Clauses out o k r.cs out' o' j
registers_clauses r {o = o} {o'} {k} b w j e =
    let v = wrote_to (r.words ∙ layout_words r.cs) w in
    let n = clauses_long r.cs in
    record {
      words = v;
      count = λ h.
          let p : o' ≡ o + length (clauses_words r.cs) = omega (arith, v.at) in
          let q : k + length r.cs ≤ o' = omega arith in
          omega (arith, e, r.lines);
      low = omega (arith, e);
    }

-- ---- the clauses that a table's rows add

module _ (ds : List Domain) (vs : List ℕ) (rows : List (List Cell)) (z : Log) where
  supports_silent : clauses_of (normalize_extension_supports ds vs rows z).1 ≡ clauses_of z
  unfolding normalize_extension_supports
  supports_silent = go (starred rows)
    where
      go : (t : Bool) → clauses_of (cond {A = Out} t (star_table vs rows z) (plain_table vs (map (domain_at ds z) vs) rows, z)).1 ≡ clauses_of z
      go true = unfold star_table in (auxed_untouched (disjunction_auxed (map (star_row vs) rows) z)).quiet
      go false = refl

  supports_add : Adds z (register (normalize_extension_supports ds vs rows z)) (normalize_extension_supports ds vs rows z).0
  unfolding register clauses_of
  supports_add = ap (λ (cs : List Clause). cs ++ (normalize_extension_supports ds vs rows z).0) supports_silent

-- the counters behind them
module _ (ds : List Domain) (vs : List ℕ) (rows : List (List Cell)) (z : Log) (w : List ℤ) (ready : Ready w z) where
  none_more : more_bools 0 (at w z) ≡ at w z
  none_more = let e : bump (next_bool z) 0 ≡ next_bool z = omega (arith, ready.fit.small) in ap (λ (b : ℕ). counters b (at w z).ints) e

  star_counted : (t : Bool) → any_free vs rows ≡ t → Ready w (star_table vs rows z).1 → more_bools (cond t 0 (star_fresh (length vs) rows)) (at w z) ≡ at w (star_table vs rows z).1
  star_counted true e r = none_more ∙ ap (λ (o : Out). at w o.1) (sym (free_table vs rows z e))
  star_counted false e r =
      let m : bump (next_bool z) (star_fresh (length vs) rows) ≡ next_bool (star_table vs rows z).1 = omega (arith, star_count w vs rows e z ready, r.fit.small) in
      let i : next_int z ≡ next_int (star_table vs rows z).1 = unfold star_table in sym (auxed_untouched (disjunction_auxed (map (star_row vs) rows) z)).ints in
      ap (λ (b : ℕ). counters b (at w z).ints) m ∙ ap (λ (k : ℕ). counters (next_bool (star_table vs rows z).1) (int_count w k)) i

  supports_count : Ready w (normalize_extension_supports ds vs rows z).1 → more_bools (table_fresh (length vs) rows) (at w z) ≡ at w (normalize_extension_supports ds vs rows z).1
  unfolding normalize_extension_supports table_fresh
  supports_count r = go (starred rows) r
    where
      f : Bool → Out
      f t = cond t (star_table vs rows z) (plain_table vs (map (domain_at ds z) vs) rows, z)

      go : (t : Bool) → Ready w (f t).1 → more_bools (cond t (cond (free_rows (length vs) rows) 0 (star_fresh (length vs) rows)) 0) (at w z) ≡ at w (f t).1
      go true r = ap (λ (b : Bool). more_bools (cond b 0 (star_fresh (length vs) rows)) (at w z)) (free_is vs rows) ∙ star_counted (any_free vs rows) refl r
      go false r = none_more

length_vars : (ws w : List ℤ) (k p : ℕ) → length (columns_vars ws k p w) ≡ k
unfolding columns_vars
length_vars ws w zero p = refl
length_vars ws w (suc k) p = ap suc (length_vars ws w k (column_at ws p).end)

-- ---- the table

module _ {set w : List ℤ} {q : ℕ} {n : Counters} where
  module _ {x : Place} (h : At x set w q n) {c k : ℕ} (hc : c ≡ word (read_part w) (q + 1)) (hk : k ≡ word (read_part w) (q + 2)) where
    width : c ≡ length x.exprs
    width = hc ∙ count_columns (read_part w) q x.exprs x.rows h.stands

    height : k ≡ length x.rows
    height = hk ∙ count_rows (read_part w) q x.exprs x.rows h.stands

    fit_at : AllFit (read_part w) c (q + 3)
    fit_at = rw width (all_fit x.domains (read_part w) h.parted h.with_ifs x.exprs (q + 3) h.stand h.within)

    module _ {out : List ℤ} {o j : ℕ} {out₁ : List ℤ} {e : Columned} (y : ColumnsPut w (q + 3) c n out o j out₁ e) where
      counters_are : e.n ≡ at w (columns_of x).log
      counters_are = y.behind x.domains ∙ rw (width, h.counters) (columns_write h).behind

      rows_at : RowsAt x set w q e.next c k n e.n.bools
      rows_at = record {
        at = h;
        width = width;
        height = height;
        cells = y.next ∙ ap (λ (i : ℕ). columns_end (read_part w) i (q + 3)) width ∙ columns_stop (read_part w) h.parted h.with_ifs x.exprs (q + 3) h.stand;
        bools = ap (λ (i : Counters). i.bools) counters_are;
      }

      columns_clauses : (b : j ≤ o) (g : ℕ) → g ≡ min e.clauses e.at → Clauses out o j (columns_write h).adds.cs out₁ e.at g
      columns_clauses b g i =
          let d = x.domains in
          let v : Wrote out o (columns_text d (read_part w) (length x.exprs) (q + 3) w (at w x.before)) out₁ e.at = rw (← width, ← h.counters) (y.wrote d) in
          let l : e.clauses ≡ bump j (columns_lines d (read_part w) (length x.exprs) (q + 3) w (at w x.before)) = rw (← width, ← h.counters) (y.lines d) in
          registers_clauses (columns_write h).adds b v g (i ∙ ap (λ (u : ℕ). min u e.at) l)

      table_counters : {f : ℕ} → Freshens w e.next c k f → counters (bump e.n.bools f) e.n.ints ≡ at w (after x)
      unfolding normalize_table register
      table_counters {f} g =
          let v : length (columns_of x).vars ≡ length x.exprs = ap length (sym (columns_write h).vars) ∙ length_vars (read_part w) w (length x.exprs) (q + 3) in
          let i : f ≡ table_fresh (length (columns_of x).vars) x.rows = g x.rows (table_stand rows_at) ∙ ap (λ (u : ℕ). table_fresh u x.rows) (width ∙ sym v) in
          ap (λ (u : ℕ). more_bools u e.n) i ∙ ap (more_bools (table_fresh (length (columns_of x).vars) x.rows)) counters_are
          ∙ supports_count x.domains (columns_of x).vars x.rows (columns_of x).log w (columns_ready h) (ready_back (grow_added _ _) h.ready)

      pub table_did : {f : ℕ} → Freshens w e.next c k f → j ≤ o → length out ≤ cap → {g : ℕ} → g ≡ min e.clauses e.at → {w' out' : List ℤ} {o' j' : ℕ}
          → ((x : Place) → RowsAt x set w q e.next c k n e.n.bools → RowsDid x w out₁ e.at g w' out' o' j') → {i : Counters} → i ≡ counters (bump e.n.bools f) e.n.ints
          → Did x w q out o j w' out' (record { next = e.next + k * c; n = i; at = o'; clauses = j' })
      table_did fr b room {g} ge did {i} ci =
          let r = did x rows_at in
          let d = (columns_write h).adds in
          let es = (normalize_extension_supports x.domains (columns_of x).vars x.rows (columns_of x).log).0 in
          let u : Adds (columns_of x).log (after x) es = unfold normalize_table in supports_add x.domains (columns_of x).vars x.rows (columns_of x).log in
          let a : clauses_since x.before (after x) ≡ d.cs ++ es = since_is x.before (after x) (d.cs ++ es) (adds_then x.before (columns_of x).log (after x) d.cs es d.eq u) in
          record {
            clauses = clauses_to (sym a) (clauses_then room (columns_clauses b g ge) r.clauses);
            next = table_end rows_at;
            counters = ci ∙ table_counters fr;
            kept = r.kept;
            size = r.size;
          }

  -- ---- some table stands there

  pub some_under : SomeAt set w q n → q + 3 ≤ folded_end
  some_under s = table_under s.it

  module _ {c k : ℕ} (hc : c ≡ word (read_part w) (q + 1)) (hk : k ≡ word (read_part w) (q + 2)) (s : SomeAt set w q n) where
    pub some_fit : AllFit (read_part w) c (q + 3)
    some_fit = fit_at s.it hc hk

    module _ {out : List ℤ} {o j : ℕ} {out₁ : List ℤ} {e : Columned} (y : ColumnsPut w (q + 3) c n out o j out₁ e) where
      pub some_rows : SomeRowsAt set w q e.next c k n e.n.bools
      some_rows = record { place = s.place; it = rows_at s.it hc hk y }
