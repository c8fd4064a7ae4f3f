-- The words of a table and of an AllDifferent where they stand, and where their expressions end.
use mathlib.Core.Path.{◌≡◌, refl, ap, ◌∙◌}
use mathlib.Core.List.{List, [], ◌∷◌, map}
use Prim.Native.Nat.{ℕ, zero, suc, ◌+◌, ◌-◌, ◌*◌, ◌≤◌}
use native.Mathlib.Nat.{mul_comm}
use native.Mathlib.Omega.{arith}
use native.Mathlib.Numerals.{sub-one}
use lib.IntN.{ℤ}
use lib.ListN.{length, length-append}
use Rattle.laws.specs.Lists.{flat}
use Rattle.laws.specs.Slices.{Has, has_front, has_back}
use Rattle.memory.specs.Places.{folded_end}
use Rattle.memory.specs.Number.{nat}
use Rattle.syntax.specs.Syntax.{IntExpr, encode_int, Cell, Table, AllDifferent, encode_stmt}
use Rattle.syntax.specs.Lengths.{table_words as table-parts, different_words as different-parts}
use Rattle.words.specs.Exact.{Each}
use Rattle.read.proofs.Vars.{rows_wide}
use Rattle.walk.specs.Decode.{word, read_part}
use Rattle.walk.proofs.NumberingSteps.{part_short}
use Rattle.walks.specs.Legal.{LegalInt}
use Rattle.walks.specs.DecodeExact.{column_stands}
use Rattle.rows.specs.Stands.{cells_words}
use Rattle.stages.specs.Columns.{columns_end}
use Rattle.scan.specs.Skip.{split_by, IntSkips}
use Rattle.stmtwords.specs.Stands.{Stands, SomeTable, SomeDifferent}

-- at most

-- ---- the end of columns

pub columns_more : (ws : List ℤ) (k at q b : ℕ) → (k ≡ 0 → ⊥) → IntSkips ws 64 (split_by 0) at 0 q b → columns_end ws (k - 1) q ≡ columns_end ws k at
unfolding columns_end split_by
columns_more ws zero at q b z s = absurd (z refl)
columns_more ws (suc k) at q b z s = rw (sub-one, s.end)

pub columns_none : (ws : List ℤ) (k at : ℕ) → k ≡ 0 → at ≡ columns_end ws k at
unfolding columns_end
columns_none ws zero at e = refl
columns_none ws (suc k) at e = absurd (omega arith)

pub columns_stop : (ws : List ℤ) (es : List IntExpr) (at : ℕ) → Each (λ e. LegalInt e 64) es → Has ws at (flat (map encode_int es)) → columns_end ws (length es) at ≡ at + length (flat (map encode_int es))
unfolding columns_end
columns_stop ws [] at h d = omega arith
columns_stop ws (e ∷ es) at h d =
    let x = column_stands e ws 64 at 0 h.0 (has_front ws at (encode_int e) (flat (map encode_int es)) d) (omega arith) in
    let y = columns_stop ws es (at + length (encode_int e)) h.1 (has_back ws at (encode_int e) (flat (map encode_int es)) d) in
    ap (columns_end ws (length es)) x.end ∙ y ∙ omega (arith, length-append (encode_int e) (flat (map encode_int es)))

-- ---- a table

pub record TableWords (ws : List ℤ) (at : ℕ) (es : List IntExpr) (rows : List (List Cell)) : Type 0 where
  pub columns : word ws (at + 1) ≡ length es
  pub row_count : word ws (at + 2) ≡ length rows
  pub stands : Has ws (at + 3) (flat (map encode_int es))
  pub cells : Has ws (at + 3 + length (flat (map encode_int es))) (cells_words rows)
  pub size : length (encode_stmt (Table es rows)) ≡ 3 + length (flat (map encode_int es)) + length rows * length es
  pub inside : at + length (encode_stmt (Table es rows)) ≤ folded_end

module _ (w : List ℤ) (at : ℕ) (es : List IntExpr) (rows : List (List Cell)) (h : Stands w at (Table es rows)) where
  pub table_words : TableWords (read_part w) at es rows
  unfolding word nat
  table_words =
      let t = table-parts (read_part w) at es rows (rows_wide (length es) rows h.rows) h.words in
      record {
        columns = ap nat t.columns_word;
        row_count = ap nat t.rows_word;
        stands = t.columns;
        cells = t.cells;
        size = omega (arith, t.long, mul_comm (length es) (length rows));
        inside = omega (arith, t.inside, t.long, part_short w);
      }

  -- n columns and k rows, as they are read
  module _ (n k p : ℕ) (hn : n ≡ word (read_part w) (at + 1)) (hk : k ≡ word (read_part w) (at + 2)) (hp : p ≡ columns_end (read_part w) n (at + 3)) where
    pub rows_place : p ≡ at + 3 + length (flat (map encode_int es))
    rows_place = hp ∙ ap (λ (m : ℕ). columns_end (read_part w) m (at + 3)) (hn ∙ table_words.columns) ∙ columns_stop (read_part w) es (at + 3) h.legal table_words.stands

    pub table_stop : p + k * n ≡ at + length (encode_stmt (Table es rows))
    table_stop =
        let e : k * n ≡ length rows * length es = ap (λ (m : ℕ). m * n) (hk ∙ table_words.row_count) ∙ ap (λ (m : ℕ). length rows * m) (hn ∙ table_words.columns) in
        omega (arith, e, rows_place, table_words.size)

    pub table_room : p + k * n ≤ folded_end
    table_room = omega (arith, table_stop, table_words.inside)

pub table_inside : (w : List ℤ) (at : ℕ) → SomeTable w at → at + 3 ≤ folded_end
table_inside w at t = let x = table_words w at t.columns t.cells t.stands in omega (arith, x.size, x.inside)

-- ---- an AllDifferent

pub record DifferentWords (ws : List ℤ) (at : ℕ) (es : List IntExpr) : Type 0 where
  pub count : word ws (at + 1) ≡ length es
  pub stands : Has ws (at + 2) (flat (map encode_int es))
  pub size : length (encode_stmt (AllDifferent es)) ≡ 2 + length (flat (map encode_int es))
  pub inside : at + length (encode_stmt (AllDifferent es)) ≤ folded_end

pub different_words : (w : List ℤ) (at : ℕ) (es : List IntExpr) → Stands w at (AllDifferent es) → DifferentWords (read_part w) at es
unfolding encode_stmt word nat
different_words w at es h =
    let d = different-parts (read_part w) at es h.words in
    record { count = ap nat d.count_word; stands = d.columns; size = omega arith; inside = omega (arith, d.inside, part_short w) }

pub different_inside : (w : List ℤ) (at : ℕ) → SomeDifferent w at → at + 2 ≤ folded_end
different_inside w at s = let x = different_words w at s.exprs s.stands in omega (arith, x.inside, x.size)
