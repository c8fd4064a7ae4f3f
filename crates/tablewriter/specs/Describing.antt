-- The words that describe a table's columns to the code of its rows, three to a column (sorting/specs/Columns): what storing them asks and gives.
use Rattle.std.specs.Prelude.{◌≡◌, true, List, [], ◌∷◌, ℕ, zero, suc, ◌+◌, ◌*◌, ◌≤◌, ◌<◌, ◌^◌, ℤ, pos, nat_abs, length, take, drop}
use Rattle.std.specs.Int.Signed.{le_z}
use Rattle.std.proofs.lemmas.List.Edits.{sets}
use Rattle.memory.specs.Places.{folded_end, table as table-place}
use Rattle.syntax.specs.Words.{max_value}
use Rattle.syntax.specs.Syntax.{Domain, lower_bound, upper_bound}
use Rattle.sums.specs.Norm.{load}
use Rattle.sums.specs.Bounds.{reach}
use Rattle.walk.specs.Decode.{read_part}
use Rattle.walk.specs.declared.Counters.{Counters}
use Rattle.walks.specs.Form.{IntForm, const, ivar, sum, choice}
use Rattle.walks.specs.Item.{form_int_item}
use Rattle.walks.specs.Meet.{found, range_of}
use Rattle.walks.specs.Near.{WithinInt}
use Rattle.walks.specs.SumsFit.{InsideFits, AlwaysEquated}
use Rattle.walks.specs.ColumnText.{column_end}
use Rattle.declared.specs.DomainTable.{Declares}
use Rattle.declared.specs.InSet.{Declared}
use Rattle.stages.specs.Columns.{column_at}
use Rattle.stages.specs.ColumnsText.{column_var, columns_vars, column_domain, columns_domains}
use Rattle.sorting.specs.Columns.{domain_in, vars_of, domains_of, Columns, Placed as Lies}
use Rattle.scan.specs.IfLaws.{Low}
use Rattle.tablewriter.specs.declared.Passed.{Passed}
use Rattle.tablewriter.specs.Columns.{Placed, form_at}

-- ---- domains

-- c and x describe the domain d
pub record Describes (set : List ℤ) (d : Domain) (c x : ℤ) : Type 0 where
  pub is : domain_in set c x ≡ d
  pub placed : Lies set c x

-- a domain's bounds are values, in order
pub record Sound (d : Domain) : Type 0 where
  pub low : nat_abs (lower_bound d) ≤ max_value
  pub high : nat_abs (upper_bound d) ≤ max_value
  pub order : le_z (lower_bound d) (upper_bound d) ≡ true

-- ---- a column, from the counters n; ds: the declared domains

module _ (ds : List Domain) (w : List ℤ) (n : Counters) where
  -- its sum and the sums inside it fit, and so do the bounds on the way; its own are sound
  pub record Ranged (e : IntForm) : Type 0 where
    pub equated : AlwaysEquated ds e
    pub inside : InsideFits ds e
    pub light : load (λ v. reach (found ((form_int_item ds e).range w n v))) ((form_int_item ds e).total w n) < 2 ^ 31
    pub sound : Sound (range_of (form_int_item ds e) w n)

  abbrev pub ColumnTold : IntForm → Type 0
  ColumnTold (const c) = Ranged (const c)
  ColumnTold (ivar v) = v < length ds
  ColumnTold (sum ts) = Ranged (sum ts)
  ColumnTold (choice q o c d t f) = Ranged (choice q o c d t f)

-- the column at p
pub record Told (set w : List ℤ) (p : ℕ) (n : Counters) (ds : List Domain) : Type 0 where
  pub declared : Declared set ds
  pub table : Declares ds w
  pub column : ColumnTold ds w n (form_at w p)

pub record SomeTold (set w : List ℤ) (p : ℕ) (n : Counters) : Type 0 where
  pub domains : List Domain
  pub it : Told set w p n domains

-- r: behind it
pub record PassedColumn (w : List ℤ) (p : ℕ) (n : Counters) (r : Passed) : Type 0 where
  pub behind : (ds : List Domain) → r.n ≡ column_end ds p (form_at w p) w n
  pub next : r.next ≡ (column_at (read_part w) p).end
  pub inside : r.next ≤ folded_end
  pub low : Low r.n

-- its three words can be stored at `to`
pub record Storable (set w : List ℤ) (p to : ℕ) (n : Counters) : Type 0 where
  pub domains : List Domain
  pub told : Told set w p n domains
  pub placed : Placed w p n
  pub room : to + 3 ≤ length w

-- they are stored; r: behind the column
pub record StoredColumn (set w : List ℤ) (p to : ℕ) (n : Counters) (w' : List ℤ) (r : Passed) : Type 0 where
  pub number : ℕ
  pub count : ℤ
  pub from : ℤ
  pub words : w' ≡ sets w to (pos number ∷ count ∷ from ∷ [])
  pub is : number ≡ column_var w p (form_at w p)
  pub domain : (ds : List Domain) → Told set w p n ds → domain_in set count from ≡ column_domain ds (form_at w p) w n
  pub lies : Lies set count from
  pub passed : PassedColumn w p n r

-- ---- so many columns from `at` on

unfoldable pub AllTold : List Domain → List ℤ → ℕ → ℕ → List ℤ → Counters → Type 0
AllTold ds ws zero p w n = Unit {0}
AllTold ds ws (suc k) p w n = let r = column_at ws p in ColumnTold ds w n r.tree × AllTold ds ws k r.end w (column_end ds p r.tree w n)

-- its Ifs stand among the folded words, its variables are declared
pub record Near (e : IntForm) : Type 0 where
  pub from : ℕ
  pub to : ℕ
  pub inside : to ≤ folded_end
  pub within : WithinInt from to e

unfoldable pub AllNear : List ℤ → ℕ → ℕ → Type 0
AllNear ws zero p = Unit {0}
AllNear ws (suc k) p = Near (column_at ws p).tree × AllNear ws k (column_at ws p).end

-- their words can be stored from `to` on
pub record Describable (set w : List ℤ) (at count to : ℕ) (n : Counters) (ds : List Domain) : Type 0 where
  pub declared : Declared set ds
  pub table : Declares ds w
  pub told : AllTold ds (read_part w) count at w n
  pub near : AllNear (read_part w) count at
  pub placed : Placed w at n
  pub above : table-place ≤ to
  pub room : to + 3 * count ≤ length w

pub record SomeDescribable (set w : List ℤ) (at count to : ℕ) (n : Counters) : Type 0 where
  pub domains : List Domain
  pub it : Describable set w at count to n domains

-- they are stored
pub record Described (set w : List ℤ) (at count to : ℕ) (n : Counters) (w' : List ℤ) : Type 0 where
  pub numbers : vars_of count (drop to w') ≡ columns_vars (read_part w) count at w
  pub domains : (ds : List Domain) → Describable set w at count to n ds → domains_of set count (drop to w') ≡ columns_domains ds (read_part w) count at w n
  pub columns : Columns set count (drop to w')
  pub below : take to w' ≡ take to w
  pub size : length w' ≡ length w
