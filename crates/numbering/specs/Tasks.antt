-- The first walk over folded statements as tasks of numbering, by the words where they stand; once it is full nothing more is done.
-- ws: the words that are read, rec: where the records begin, cap: the longest answer.
use Rattle.std.specs.Prelude.{◌≡◌, refl, Bool, true, false, cond, ℤ, ltb}
use Rattle.std.proofs.Common.{sym}
use mathlib.Core.List.{List, [], ◌∷◌}
use Prim.Native.Nat.{ℕ, zero, suc, ◌+◌}
use Rattle.std.proofs.Math.ListN.{length}
use Rattle.syntax.specs.Syntax.{Domain, IntExpr, Cell, Stmt, Rule, Table, AllDifferent, encode_stmt}
use Rattle.walks.specs.Meet.{State, with_work}
use Rattle.walks.specs.Clear.{clear_places}
use Rattle.statements.specs.Table.{table_fresh}
use Rattle.stages.specs.Columns.{column_at}
use Rattle.numbering.specs.Task.{Task, skip, then, with_bools}
use Rattle.numbering.specs.Fits.{Unless}
use Rattle.numbering.specs.Rules.{rule_task, pair_task}
use Rattle.numbering.specs.Columns.{column_task}
use Rattle.stmtwords.specs.Cleared.{pair_ifs}

-- ---- a walk that is full stops

abbrev pub stopping : ℕ → Task → Task → Task
stopping cap a b = record {
  fits = λ ds st. Unless (ltb cap st.used) (a.fits ds st × b.fits ds (a.meet ds st));
  meet = λ ds st. cond (ltb cap st.used) st (b.meet ds (a.meet ds st));
}

-- ---- columns

module _ (rec cap : ℕ) (ws : List ℤ) where
  -- so many from p on
  unfoldable pub columns_task : ℕ → ℕ → Task
  columns_task zero p = skip
  columns_task (suc k) p = then (column_task rec cap ws p) (columns_task k (column_at ws p).end)

-- its Ifs with split parts are unseen again
unfoldable pub clear_task : ℕ → ℕ → Task
clear_task p q = record { fits = λ ds st. Unit {0}; meet = λ ds st. with_work (clear_places (pair_ifs st.work p q) st.work) st }

-- ---- in front of the task x

module _ (rec cap : ℕ) (ws : List ℤ) where
  abbrev pub cleared_task : ℕ → ℕ → Task
  cleared_task p q = then (clear_task p q) (pair_task rec cap ws p q)

  -- the expression at p with each of so many from q on
  unfoldable pub row_task : ℕ → ℕ → ℕ → Task → Task
  row_task p zero q x = x
  row_task p (suc k) q x = stopping cap (cleared_task p q) (row_task p k (column_at ws q).end x)

  -- all pairs of so many from p on
  unfoldable pub pairs_task : ℕ → ℕ → Task → Task
  pairs_task zero p x = x
  pairs_task (suc k) p x = let q = (column_at ws p).end in row_task p k q (pairs_task k q x)

  -- the table at a place: its columns, then the numbers of its rows
  abbrev pub table_task : ℕ → List IntExpr → List (List Cell) → Task
  table_task at es rows = with_bools (λ ds. table_fresh (length es) rows) (columns_task rec cap ws (length es) (at + 3))

  unfoldable pub stmt_task : ℕ → Stmt → Task → Task
  stmt_task at (Rule e) x = stopping cap (rule_task rec cap ws (at + 1)) x
  stmt_task at (Table es rows) x = stopping cap (table_task at es rows) x
  stmt_task at (AllDifferent es) x = pairs_task (length es) (at + 2) x

  unfoldable pub stmts_task : ℕ → List Stmt → Task
  stmts_task at [] = skip
  stmts_task at (t ∷ ts) = stmt_task at t (stmts_task (at + length (encode_stmt t)) ts)

-- ---- a task before another

-- does nothing where the walk is full
pub record Quits (cap : ℕ) (x : Task) : Type 0 where
  pub fits : (ds : List Domain) (st : State) → ltb cap st.used ≡ true → x.fits ds st
  pub meet : (ds : List Domain) (st : State) → ltb cap st.used ≡ true → x.meet ds st ≡ st

pub quits_skip : (cap : ℕ) → Quits cap skip
quits_skip cap = record { fits = λ ds st h. tt; meet = λ ds st h. refl }

pub quits_stopping : (cap : ℕ) (a x : Task) → Quits cap (stopping cap a x)
quits_stopping cap a x = record { fits = λ ds st h. rw h tt; meet = λ ds st h. rw h refl }

-- y is a and then x
pub record Before (a x y : Task) : Type 0 where
  pub fits : (ds : List Domain) (st : State) → y.fits ds st → a.fits ds st × x.fits ds (a.meet ds st)
  pub meet : (ds : List Domain) (st : State) → y.meet ds st ≡ x.meet ds (a.meet ds st)

pub before_none : (x : Task) → Before skip x x
before_none x = record { fits = λ ds st h. (tt, h); meet = λ ds st. refl }

pub before_stopping : (cap : ℕ) (b a x y : Task) → Quits cap x → Before a x y → Before (stopping cap b a) x (stopping cap b y)
before_stopping cap b a x y q h = record { fits = λ ds st. fits_go ds st (ltb cap st.used) refl; meet = λ ds st. meet_go ds st (ltb cap st.used) refl }
  where
    fits_go : (ds : List Domain) (st : State) (c : Bool) → ltb cap st.used ≡ c → Unless c (b.fits ds st × y.fits ds (b.meet ds st))
        → Unless c (b.fits ds st × a.fits ds (b.meet ds st)) × x.fits ds (cond c st (a.meet ds (b.meet ds st)))
    fits_go ds st true e f = (tt, q.fits ds st e)
    fits_go ds st false e f = let z = h.fits ds (b.meet ds st) f.1 in ((f.0, z.0), z.1)

    meet_go : (ds : List Domain) (st : State) (c : Bool) → ltb cap st.used ≡ c → cond c st (y.meet ds (b.meet ds st)) ≡ x.meet ds (cond c st (a.meet ds (b.meet ds st)))
    meet_go ds st true e = sym (q.meet ds st e)
    meet_go ds st false e = h.meet ds (b.meet ds st)

module _ (rec cap : ℕ) (ws : List ℤ) where
  pub row_before : (p k q : ℕ) (a x y : Task) → Quits cap x → Before a x y → Before (row_task rec cap ws p k q a) x (row_task rec cap ws p k q y)
  unfolding row_task
  row_before p zero q a x y h i = i
  row_before p (suc k) q a x y h i = let r = (column_at ws q).end in before_stopping cap (cleared_task rec cap ws p q) (row_task rec cap ws p k r a) x (row_task rec cap ws p k r y) h (row_before p k r a x y h i)

  pairs_before : (k p : ℕ) (x : Task) → Quits cap x → Before (pairs_task rec cap ws k p skip) x (pairs_task rec cap ws k p x)
  unfolding pairs_task
  pairs_before zero p x h = before_none x
  pairs_before (suc k) p x h = let q = (column_at ws p).end in row_before p k q (pairs_task rec cap ws k q skip) x (pairs_task rec cap ws k q x) h (pairs_before k q x h)

  pub stmt_before : (at : ℕ) (t : Stmt) (x : Task) → Quits cap x → Before (stmt_task rec cap ws at t skip) x (stmt_task rec cap ws at t x)
  unfolding stmt_task
  stmt_before at (Rule e) x h = before_stopping cap (rule_task rec cap ws (at + 1)) skip x x h (before_none x)
  stmt_before at (Table es rows) x h = before_stopping cap (table_task rec cap ws at es rows) skip x x h (before_none x)
  stmt_before at (AllDifferent es) x h = pairs_before (length es) (at + 2) x h

  pub row_quits : (p k q : ℕ) (x : Task) → Quits cap x → Quits cap (row_task rec cap ws p k q x)
  unfolding row_task
  row_quits p zero q x h = h
  row_quits p (suc k) q x h = quits_stopping cap (cleared_task rec cap ws p q) (row_task rec cap ws p k (column_at ws q).end x)

  pub pairs_quit : (k p : ℕ) (x : Task) → Quits cap x → Quits cap (pairs_task rec cap ws k p x)
  unfolding pairs_task
  pairs_quit zero p x h = h
  pairs_quit (suc k) p x h = let q = (column_at ws p).end in row_quits p k q (pairs_task rec cap ws k q x) (pairs_quit k q x h)

  stmt_quits : (at : ℕ) (t : Stmt) (x : Task) → Quits cap x → Quits cap (stmt_task rec cap ws at t x)
  unfolding stmt_task
  stmt_quits at (Rule e) x h = quits_stopping cap (rule_task rec cap ws (at + 1)) x
  stmt_quits at (Table es rows) x h = quits_stopping cap (table_task rec cap ws at es rows) x
  stmt_quits at (AllDifferent es) x h = pairs_quit (length es) (at + 2) x h

  pub stmts_quit : (at : ℕ) (ts : List Stmt) → Quits cap (stmts_task rec cap ws at ts)
  unfolding stmts_task
  stmts_quit at [] = quits_skip cap
  stmts_quit at (t ∷ ts) = let b = at + length (encode_stmt t) in stmt_quits at t (stmts_task rec cap ws b ts) (stmts_quit b ts)
