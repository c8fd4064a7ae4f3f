-- The columns of a table while their words are written: what is asked of one column and of so many from a place on, and what is given.
-- They are the forms that are read from the folded words of the work slice w, whatever those are.
use Rattle.std.specs.Prelude.{◌≡◌, List, ℕ, zero, suc, ◌≤◌, ℤ, length}
use Rattle.laws.specs.Writes.{Wrote}
use Rattle.memory.specs.Places.{folded_end}
use Rattle.syntax.specs.Syntax.{Domain}
use Rattle.walk.specs.Item.{bump}
use Rattle.walk.specs.Decode.{read_part}
use Rattle.walk.specs.declared.Counters.{Counters}
use Rattle.walks.specs.Form.{IntForm}
use Rattle.walks.specs.Item.{IntItem, form_int_item}
use Rattle.walks.specs.SumsFit.{InsideFits, AlwaysEquated}
use Rattle.walks.specs.ColumnText.{column_end, column_text, column_lines}
use Rattle.stages.specs.Columns.{column_at, columns_end}
use Rattle.stages.specs.ColumnsText.{columns_count, columns_text, columns_lines}
use Rattle.scan.specs.IfLaws.{Low}
use Rattle.tablewriter.specs.declared.Columned.{Columned}

-- a place in the folded words, and counters
pub record Placed (w : List ℤ) (p : ℕ) (n : Counters) : Type 0 where
  pub size : folded_end ≤ length w
  pub inside : p ≤ folded_end
  pub low : Low n

abbrev pub form_at : List ℤ → ℕ → IntForm
form_at w p = (column_at (read_part w) p).tree

abbrev pub item_at : List Domain → List ℤ → ℕ → IntItem
item_at ds w p = form_int_item ds (form_at w p)

-- its sum less any number fits, and so does what its Ifs add
pub record Fits (e : IntForm) : Type 0 where
  pub domains : List Domain
  pub equated : AlwaysEquated domains e
  pub inside : InsideFits domains e

unfoldable pub AllFit : List ℤ → ℕ → ℕ → Type 0
AllFit ws zero p = Unit {0}
AllFit ws (suc k) p = Fits (column_at ws p).tree × AllFit ws k (column_at ws p).end

-- the words of the clauses that the Ifs of the column at p add, from o on, and their number
pub record Added (w : List ℤ) (p : ℕ) (n : Counters) (out : List ℤ) (o : ℕ) (out' : List ℤ) (o' l : ℕ) : Type 0 where
  pub wrote : (ds : List Domain) → Wrote out o ((item_at ds w p).adds w n) out' o'
  pub lines : (ds : List Domain) → l ≡ (item_at ds w p).added w n

-- the column's words, behind k clauses
pub record ColumnPut (w : List ℤ) (p : ℕ) (n : Counters) (out : List ℤ) (o k : ℕ) (out' : List ℤ) (r : Columned) : Type 0 where
  pub wrote : (ds : List Domain) → Wrote out o (column_text ds p (form_at w p) w n) out' r.at
  pub lines : (ds : List Domain) → r.clauses ≡ bump k (column_lines ds p (form_at w p) w n)
  pub behind : (ds : List Domain) → r.n ≡ column_end ds p (form_at w p) w n
  pub next : r.next ≡ (column_at (read_part w) p).end
  pub inside : r.next ≤ folded_end
  pub low : Low r.n

-- of so many columns
pub record ColumnsPut (w : List ℤ) (p count : ℕ) (n : Counters) (out : List ℤ) (o k : ℕ) (out' : List ℤ) (r : Columned) : Type 0 where
  pub wrote : (ds : List Domain) → Wrote out o (columns_text ds (read_part w) count p w n) out' r.at
  pub lines : (ds : List Domain) → r.clauses ≡ bump k (columns_lines ds (read_part w) count p w n)
  pub behind : (ds : List Domain) → r.n ≡ columns_count ds (read_part w) count p w n
  pub next : r.next ≡ columns_end (read_part w) count p
  pub low : Low r.n
