-- A table's numbering: its columns, then the numbers of its rows. n columns and k rows, as they are read; its rows stand at p.
use mathlib.Core.Path.{◌≡◌, sym, ap, ◌∙◌, subst}
use mathlib.Core.List.{List}
use Prim.Native.Nat.{ℕ, ◌+◌}
use lib.IntN.{ℤ}
use lib.ListN.{length}
use Rattle.laws.specs.Slices.{Has}
use Rattle.syntax.specs.Syntax.{IntExpr, Cell, Table}
use Rattle.words.specs.Exact.{Each}
use Rattle.read.specs.WellFormed.{WellRow}
use Rattle.walk.specs.Item.{bump}
use Rattle.walk.specs.Decode.{word, read_part}
use Rattle.walk.proofs.DecodeExact.{has_part}
use Rattle.walks.specs.Meet.{State}
use Rattle.rows.specs.Stands.{cells_words}
use Rattle.statements.specs.Table.{table_fresh}
use Rattle.stages.specs.Columns.{columns_end}
use Rattle.numbering.specs.Task.{Done, done_bools}
use Rattle.stmtwords.specs.Fresh.{RowsStand, Freshens}
use Rattle.stmtwords.specs.Stands.{Stands}
use Rattle.numbering.specs.Tasks.{columns_task}
use Rattle.setnumbers.specs.Numbered.{Asks, AsksTable, DoneTable}
use Rattle.stmtwords.proofs.Words.{table_words, rows_place}

module _ (rec cap at : ℕ) (st : State) (n : ℕ) (hn : n ≡ word (read_part st.work) (at + 1)) where
  pub columns_asks : AsksTable rec cap at st → Asks (columns_task rec cap (read_part st.work) n (at + 3)) st rec
  columns_asks t =
      let a = t.asks in
      let x = table_words st.work at t.table.columns t.table.cells t.table.stands in
      subst (λ (m : ℕ). Asks (columns_task rec cap (read_part st.work) m (at + 3)) st rec) (sym (hn ∙ x.columns))
      (record { long = a.long; records = a.records; low = a.low; ready = record { domains = a.ready.domains; declares = a.ready.declares; fits = a.ready.fits } })

  -- st': behind the columns
  module _ (k p : ℕ) (hk : k ≡ word (read_part st.work) (at + 2)) (hp : p ≡ columns_end (read_part st.work) n (at + 3)) (st' : State) where
    rows_stand : (es : List IntExpr) (rows : List (List Cell)) → Stands st.work at (Table es rows) → read_part st'.work ≡ read_part st.work → RowsStand st'.work p n k rows
    rows_stand es rows h e =
        let x = table_words st.work at es rows h in
        let y : Has (read_part st.work) p (cells_words rows) = subst (λ (i : ℕ). Has (read_part st.work) i (cells_words rows)) (sym (rows_place st.work at es rows h n k p hn hk hp)) x.cells in
        record {
          stands = has_part st'.work p (cells_words rows) (subst (λ (ws : List ℤ). Has ws p (cells_words rows)) (sym e) y);
          count = hk ∙ x.row_count;
          well = subst (λ (m : ℕ). Each (WellRow m) rows) (sym (hn ∙ x.columns)) h.rows;
        }

    -- b: the next Boolean's number behind it
    pub table_done : (f b : ℕ) → Freshens st'.work p n k f → Done (columns_task rec cap (read_part st.work) n (at + 3)) st st' → b ≡ bump st'.bools f → DoneTable rec cap at st (record { work = st'.work; out = st'.out; bools = b; ints = st'.ints; used = st'.used })
    table_done f b y d e es rows h =
        let x = table_words st.work at es rows h in
        let c = hn ∙ x.columns in
        let i : f ≡ table_fresh (length es) rows = y rows (rows_stand es rows h d.kept.part) ∙ ap (λ (m : ℕ). table_fresh m rows) c in
        let g : Done (columns_task rec cap (read_part st.work) (length es) (at + 3)) st st' = subst (λ (m : ℕ). Done (columns_task rec cap (read_part st.work) m (at + 3)) st st') c d in
        rw e (done_bools (λ ds. table_fresh (length es) rows) f (λ ds. i) g)
