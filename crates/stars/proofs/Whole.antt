-- A starred table's clauses from the lines written: the longer rows', then the pool's. Assumes nothing.
use mathlib.Core.Path.{◌≡◌, refl, ap, ◌∙◌, subst}
use mathlib.Core.Bool.{Bool, true}
use mathlib.Core.List.{List, ◌++◌, map}
use Prim.Native.Nat.{ℕ, ◌*◌, ◌≤◌}
use native.Mathlib.Omega.{arith}
use lib.IntN.{ℤ, pos}
use lib.Signed.{le_z}
use lib.ListN.{length, drop}
use lib.Seq.{get_or-drop}
use Rattle.laws.specs.Lists.{length_select}
use Rattle.laws.specs.Writes.{cap, wrote_low}
use Rattle.syntax.specs.Syntax.{encode_cell}
use Rattle.read.proofs.Vars.{rows_wide}
use Rattle.tables.specs.Tables.{Row}
use Rattle.walk.specs.Item.{mode_in}
use Rattle.walk.specs.declared.Mode.{Mode}
use Rattle.sorting.specs.Rows.{rows_of}
use Rattle.sorting.specs.Columns.{vars_of}
use Rattle.rows.specs.Stars.{values_in, is_single, is_longer, count_rows}
use Rattle.rows.specs.Stands.{cells_stand}
use Rattle.sorting.proofs.Sorting.{length_rows}
use Rattle.stars.specs.Lines.{long_lines, single_linears, pool_line, pool_lines, lines_in_mode, star_lines, Lines}
use Rattle.stars.specs.Stars.{RowsAt, StarRows, Starred}
use Rattle.stars.proofs.Laws.{lines_then, lines_to}
use Rattle.stars.proofs.Table.{table_clauses}
use Rattle.rows.proofs.Whole.{length_vars}

pub count_few : (f : ℕ → Bool) (n k : ℕ) (xs : List ℤ) → count_rows f (rows_of n k xs) ≤ k
unfolding count_rows
count_few f n k xs = omega (arith, length_select (λ (r : Row). f (values_in r)) (rows_of n k xs), length_rows n k xs)

module _ (work : List ℤ) (at n k cols m : ℕ) (t : StarRows work at n k cols m) where
  pub rows_at : RowsAt work at n k cols
  rows_at = record {
    few = t.few;
    within = t.within;
    fits = t.fits;
    named = λ i h. subst (λ (x : ℤ). le_z (pos 0) x ≡ true) (get_or-drop cols work (3 * i) (pos 0)) (t.each i h).named;
  }

  abbrev R : List Row
  R = rows_of n k (drop at work)

  abbrev vs : List ℕ
  vs = vars_of n (drop cols work)

  module _ (out : List ℤ) (o c : ℕ) (out' : List ℤ) (o' c' : ℕ) where
    starred : Lines out o c (star_lines m vs R) out' o' c' → Starred work at n k cols m out o c out' o' c'
    starred l = record {
      clauses = λ rows s h e w free next small.
          let r : R ≡ map (map encode_cell) rows = ap (λ (i : ℕ). rows_of n i (drop at work)) e ∙ cells_stand work at n rows h (rows_wide n rows w) in
          table_clauses n vs (length_vars n (drop cols work)) rows w free s small (lines_to (rw (r, next) refl) l);
      place = wrote_low l.words;
      low = l.low;
    }

    -- p: the mode; x, y: how many rows are longer, and how many have one value
    pub table_done : (out₁ : List ℤ) (o₁ c₁ : ℕ) (mode p : Mode) (x y : ℕ) → length out ≤ cap → mode ≡ mode_in x 0 y → x ≡ count_rows is_longer R → y ≡ count_rows is_single R → mode ≡ p
        → Lines out o c (long_lines mode m vs R 0) out₁ o₁ c₁ → Lines out₁ o₁ c₁ (pool_lines p (pool_line m x y (single_linears vs R))) out' o' c' → Starred work at n k cols m out o c out' o' c'
    unfolding star_lines
    table_done out₁ o₁ c₁ mode p x y l em ex ey e v w =
        let q : lines_in_mode mode m x y vs R ≡ star_lines m vs R = rw (em, ex, ey) refl in
        let i : pool_lines p (pool_line m x y (single_linears vs R)) ≡ pool_lines mode (pool_line m x y (single_linears vs R)) = rw e refl in
        starred (lines_to (ap (λ (us : List (List ℤ)). long_lines mode m vs R 0 ++ us) i ∙ q) (lines_then l v w))
