-- A table in both walks with Ifs: its columns, then its rows. The first walk leaves the state of the log behind it, the second writes the words of the
-- clauses that the log has more, with every later slice in which the columns' own cells stay (`table_walks`). F: the folded words.
use Rattle.std.specs.Prelude.{◌≡◌, Bool, true, ℕ, ◌+◌, ◌≤◌, ◌<◌, ℤ}
use Rattle.std.proofs.Math.Path.{refl, ap, subst}
use Rattle.std.proofs.Common.{◌∙◌, arith}
use Rattle.std.proofs.Math.Option.{Option}
use mathlib.Core.List.{List, [], ◌∷◌, ◌++◌, map}
use Rattle.std.proofs.Math.ListN.{length, length-append}
use Rattle.memory.specs.Places.{folded, limit}
use Rattle.syntax.specs.Syntax.{Domain, IntExpr, IConst, IVar, Linear, If, Cell}
use Rattle.clauses.specs.Log.{Log}
use Rattle.clauses.specs.Normalize.{register}
use Rattle.clauses.proofs.Emitted.{domain_at}
use Rattle.tables.specs.Tables.{Columns, new_column, old_column, equivalent_int_var, equivalent_int_vars, normalize_extension_supports, normalize_table}
use Rattle.walk.specs.Item.{bump}
use Rattle.walk.specs.declared.Counters.{Counters}
use Rattle.walk.proofs.Grow.{Grows, then, grow_added}
use Rattle.walks.specs.Item.{more_bools as more-counted, cell}
use Rattle.walks.specs.Meet.{State, more_bools, is_full}
use Rattle.walks.specs.Implements.{at, Ready, ready_back, Registers, registers_after}
use Rattle.walks.specs.Plain.{PlainInt}
use Rattle.walks.specs.Constant.{Named}
use Rattle.walks.specs.Cells.{Places}
use Rattle.walks.specs.Good.{Quiet, Good}
use Rattle.walks.specs.Leaves.{words_of, grows_words}
use Rattle.walks.specs.Visit.{Outcome, fresh_outcome, outcome_to}
use Rattle.walks.specs.Walked.{fixed, names}
use Rattle.walks.specs.Next.{Ahead}
use Rattle.statements.specs.Table.{table_fresh}
use Rattle.stages.specs.Columns.{meet_columns, SameCells, PlacedColumns, columns_grow, columns_words, ColumnsStand, columns_spend, columns_near, columns_ahead, columns_visit}
use Rattle.stages.specs.ColumnsText.{columns_vars, columns_count, columns_domains, columns_text, columns_lines, columns_written}
use Rattle.stages.specs.Rows.{rows_text, rows_lines, rows_grow, rows_written, quiet_counters, rows_quiet}

-- ---- the walks: k columns from p on, then the rows

-- ds: the declared domains, rec: where the records begin, cap: the longest answer
module _ (ds : List Domain) (rec cap : ℕ) where
  unfoldable pub meet_table : List ℤ → ℕ → ℕ → List (List Cell) → State → State
  meet_table ws k p rows st = more_bools (table_fresh k rows) (meet_columns ds rec cap ws k p st)

module _ (ds : List Domain) where
  unfoldable pub table_text : List ℤ → ℕ → ℕ → List (List Cell) → List ℤ → Counters → List ℤ
  table_text ws k p rows w n = columns_text ds ws k p w n ++ rows_text (columns_vars ws k p w) (columns_domains ds ws k p w n) rows w (columns_count ds ws k p w n)

  unfoldable pub table_lines : List ℤ → ℕ → ℕ → List (List Cell) → List ℤ → Counters → ℕ
  table_lines ws k p rows w n = bump (columns_lines ds ws k p w n) (rows_lines (columns_vars ws k p w) (columns_domains ds ws k p w n) rows)

  -- the counters behind it
  unfoldable pub table_count : List ℤ → ℕ → ℕ → List (List Cell) → List ℤ → Counters → Counters
  table_count ws k p rows w n = more-counted (table_fresh k rows) (columns_count ds ws k p w n)

  -- the words of the clauses that t has more than s, their number, and the counters behind
  pub record TableWrites (ws : List ℤ) (k p : ℕ) (rows : List (List Cell)) (w : List ℤ) (s t : Log) : Type 0 where
    pub adds : Registers (table_text ws k p rows w (at w s)) (table_lines ws k p rows w (at w s)) s t
    pub behind : table_count ws k p rows w (at w s) ≡ at w t

  -- ---- the log behind it

  pub rows_behind : (es : List IntExpr) (rows : List (List Cell)) (s : Log) → Grows (equivalent_int_vars ds es s).log (normalize_table ds es rows s)
  unfolding normalize_table register
  rows_behind es rows s = let c = equivalent_int_vars ds es s in then (rows_grow ds c.vars rows c.log) (grow_added _ _)

  pub table_grows : (es : List IntExpr) (rows : List (List Cell)) (s : Log) → Grows s (normalize_table ds es rows s)
  table_grows es rows s = then (columns_grow ds es s) (rows_behind es rows s)

  column_count : (e : IntExpr) (s : Log) → length (equivalent_int_var ds e s).vars ≡ 1
  unfolding equivalent_int_var old_column new_column
  column_count (IConst c) s = refl
  column_count (IVar v) s = refl
  column_count (Linear ts) s = refl
  column_count (If i c t f) s = refl

  -- a variable for each column
  vars_count : (es : List IntExpr) (s : Log) → length (equivalent_int_vars ds es s).vars ≡ length es
  unfolding equivalent_int_vars
  vars_count [] s = refl
  vars_count (e ∷ es) s =
      let t = (equivalent_int_var ds e s).log in
      omega (arith, length-append (equivalent_int_var ds e s).vars (equivalent_int_vars ds es t).vars, column_count e s, vars_count es t)

  -- ---- a table whose columns stand at p; parted and with-ifs as in Columns

  module _ (F : List ℤ) (parted : ℕ → Bool) (with_ifs : Bool) (es : List IntExpr) (p : ℕ) (stand : ColumnsStand F parted with_ifs es p) (rows : List (List Cell)) where
    -- from the log s
    module _ (s : Log) where
      abbrev columns : Columns
      columns = equivalent_int_vars ds es s

      table_quiet : (w : List ℤ) → Ready w columns.log → Quiet (Named ds) columns.log (normalize_table ds es rows s) (table_fresh (length es) rows)
      unfolding normalize_table
      table_quiet w r =
          subst (λ (n : ℕ). Quiet (Named ds) columns.log (register (normalize_extension_supports ds columns.vars rows columns.log)) (table_fresh n rows)) (vars_count es s) (rows_quiet ds columns.vars rows w columns.log r)

      -- the second walk
      pub table_written : (w : List ℤ) → Ready w (normalize_table ds es rows s) → PlacedColumns ds w p es s → TableWrites F (length es) p rows w s (normalize_table ds es rows s)
      unfolding table_text table_lines table_count
      table_written w r h =
          let n = length es in
          let doms = map (domain_at ds columns.log) columns.vars in
          let rc = ready_back (rows_behind es rows s) r in
          let x = columns_written ds F parted with_ifs es p stand w s rc h in
          let y = rows_written ds columns.vars rows columns.log w (unfold normalize_table register in ready_back (grow_added _ _) r) in
          record {
            adds = rw (x.vars, x.domains) (registers_after (rows_text columns.vars doms rows w) (λ c. rows_lines columns.vars doms rows) x.behind x.adds (unfold normalize_table in y));
            behind = ap (more-counted (table_fresh n rows)) x.behind ∙ quiet_counters ds w columns.log (normalize_table ds es rows s) (table_fresh n rows) (table_quiet w rc) r;
          }

    -- the first walk; K, rec, cap, before, P, low as in Column
    module _ (K : ℕ → Option IntExpr) (rec cap : ℕ) (before : List ℤ) (P : Places ds F PlainInt parted K (fixed ds)) (low : cap < limit) where
      abbrev GoodAt : ℕ → State → Log → Type 0
      GoodAt = Good ds F PlainInt parted K (fixed ds) rec cap with_ifs before (Named ds)

      abbrev OutcomeAt : ℕ → ℕ → (List ℤ → Type 0) → State → State → Log → Type 0
      OutcomeAt = Outcome ds F PlainInt parted K (fixed ds) rec cap with_ifs before (Named ds)

      pub table_visit : (k m : ℕ) (st : State) (s : Log) → Ahead F p st.work → GoodAt (length es + (table_fresh (length es) rows + m)) st s → st.used ≤ words_of s + k
          → let st' = meet_table ds rec cap F (length es) p rows st in
          OutcomeAt k m (λ w. SameCells p (p + length (columns_words es)) st'.work w → PlacedColumns ds w p es s) st st' (normalize_table ds es rows s)
      unfolding meet_table
      table_visit k m st s a g u =
          let j = table_fresh (length es) rows in
          let b = meet_columns ds rec cap F (length es) p st in
          let x = columns_visit F parted with_ifs ds K rec cap before P low es p stand k (j + m) st s a g u in
          fresh_outcome ds F PlainInt parted K (fixed ds) rec cap with_ifs before (Named ds) (names ds) P low k m (λ w. SameCells p (p + length (columns_words es)) b.work w → PlacedColumns ds w p es s) st b (columns s).log (normalize_table ds es rows s) j
          (λ w r y. table_quiet s w r) (grows_words (rows_behind es rows s)) x

      -- both walks
      pub table_walks : (k m : ℕ) (st : State) (s : Log) → Ahead F p st.work → GoodAt (length es + (table_fresh (length es) rows + m)) st s → st.used ≤ words_of s + k
          → let st' = meet_table ds rec cap F (length es) p rows st in
          let t = normalize_table ds es rows s in
          OutcomeAt k m (λ w. SameCells p (p + length (columns_words es)) st'.work w → Ready w t → TableWrites F (length es) p rows w s t) st st' t
      table_walks k m st s a g u = outcome_to ds F PlainInt parted K (fixed ds) rec cap with_ifs before (Named ds) (λ w x c r. table_written s w r (x c)) (table_visit k m st s a g u)

      -- what stands behind its columns is unseen still
      pub table_ahead : (st : State) → Ahead F p st.work → Ahead F (p + length (columns_words es)) (meet_table ds rec cap F (length es) p rows st).work
      unfolding meet_table
      table_ahead st a = columns_ahead F parted with_ifs ds K rec cap before P low es p st stand a

    -- a full walk spends nothing more, and the cells before the columns stay
    pub table_spends : (rec cap : ℕ) (st : State) → is_full ds rec cap st ≡ true → (meet_table ds rec cap F (length es) p rows st).used ≡ st.used
    unfolding meet_table
    table_spends rec cap st f = columns_spend F parted with_ifs ds rec cap es p st stand f

    pub table_near : (rec cap : ℕ) (st : State) (q : ℕ) → folded ≤ q → q < p → cell (meet_table ds rec cap F (length es) p rows st).work q ≡ cell st.work q
    unfolding meet_table
    table_near rec cap st q l h = columns_near F parted with_ifs ds rec cap es p st stand q l h
