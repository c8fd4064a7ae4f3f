-- A table's rows behind its columns: the columns can be described, the copy of the rows stands, and its clauses are those of the rows.
use mathlib.Core.Path.{◌≡◌, refl, sym, ap, ◌∙◌, subst}
use mathlib.Core.Bool.{Bool, true, false, cond}
use mathlib.Core.List.{List, [], ◌∷◌, map}
use Prim.Native.Nat.{ℕ, zero, suc, ◌+◌, ◌*◌, ◌≤◌, ◌<◌}
use native.Mathlib.Omega.{arith}
use native.Mathlib.Nat.{suc-mul}
use lib.IntN.{ℤ, pos}
use lib.ListN.{length, take, drop, length-append}
use lib.Seq.{sets, length-sets, take-take}
use Rattle.laws.specs.Ints.{eqZ}
use Rattle.laws.specs.Lists.{any}
use Rattle.laws.specs.Slices.{Has, has_fits, has_back, has_sets}
use Rattle.laws.specs.Writes.{cap, Wrote, wrote_then}
use Rattle.memory.specs.Places.{folded_end, table as table-place, limit}
use Rattle.syntax.specs.Words.{star_word}
use Rattle.syntax.specs.Lengths.{int_long}
use Rattle.syntax.specs.Syntax.{Domain, IntExpr, encode_int, Cell, Table, encode_stmt}
use Rattle.words.specs.Exact.{Each}
use Rattle.read.specs.WellFormed.{WellRow}
use Rattle.clauses.specs.Clause.{clause}
use Rattle.clauses.specs.Log.{Log, next_bool}
use Rattle.clauses.proofs.Emitted.{domain_at}
use Rattle.clauses.specs.Normalize.{register}
use Rattle.clauses.specs.Disjunction.{Out}
use Rattle.tables.specs.Tables.{star_table, plain_table, plain_clauses, sort_rows, normalize_extension_supports, normalize_table}
use Rattle.walk.specs.Decode.{read_part}
use Rattle.walk.proofs.DecodeExact.{has_part}
use Rattle.walk.specs.declared.Counters.{Counters}
use Rattle.walk.proofs.NumberingSteps.{part_short}
use Rattle.walks.specs.Tree.{never, resolve_int}
use Rattle.walks.specs.Form.{int_form}
use Rattle.walks.specs.Item.{has_ifs}
use Rattle.walks.specs.Near.{column_inside}
use Rattle.walks.specs.Resolve.{never_int}
use Rattle.walks.specs.Implements.{Ready, ready_back}
use Rattle.walks.specs.SumsFit.{WithinColumns, column_fits}
use Rattle.stages.specs.Columns.{columns_words, ColumnsStand, stand_rest, first_stands}
use Rattle.stages.specs.ColumnsText.{columns_vars, columns_domains, ColumnsWrite, columns_written}
use Rattle.stages.specs.Table.{rows_behind, table_grows}
use Rattle.scan.specs.IfLaws.{Low}
use Rattle.sorting.specs.Rows.{rows_of, row_at}
use Rattle.sorting.specs.Columns.{vars_of, domains_of}
use Rattle.rows.specs.Stands.{cells_words, length_cells, rows_stand, starless_stand}
use Rattle.rows.specs.Stars.{is_free, count_rows}
use Rattle.rows.specs.Emit.{Clauses, Behind, Table as RowsTable, Tabled}
use Rattle.rows.proofs.Looping.{clauses_none, clauses_one, clauses_to}
use Rattle.rows.proofs.Whole.{length_vars}
use Rattle.statements.specs.Star.{any_free, free_table}
use Rattle.statements.specs.Table.{free_rows, free_is, starred}
use Rattle.call.specs.WellRead.{rows_wide}
use Rattle.stmtwords.specs.Fresh.{RowsStand, rows_small, some_of, some_not, free_count, stars_are, counts_are}
use Rattle.stars.specs.Stars.{StarRows, Starred}
use Rattle.tablewriter.specs.Columns.{Placed, Fits, AllFit}
use Rattle.tablewriter.specs.Describing.{Near, AllNear, Describable, SomeDescribable, Described}
use Rattle.tablewriter.specs.Step.{Place, columns_of, At, RowsAt, SomeRowsAt, RowsDid, StarsDid}
use Rattle.tablewriter.proofs.Copying.{kept_below, kept_above}
use Rattle.tablewriter.proofs.Elsewhere.{same_part}

-- ---- a clause without literals and comparisons

pub empty_one : {out a b : List ℤ} {o p q c : ℕ} → Behind out o c → (o ≡ cap → ⊥) → Wrote out o (pos 0 ∷ []) a p → Wrote a p (pos 0 ∷ []) b q → Clauses out o c (clause [] [] ∷ []) b q (c + 1)
empty_one {o = o} h n x y =
    let l : o < cap = omega (arith, h.room.low, n) in
    clauses_one (clause [] []) h.low (omega (arith, x.at, y.at)) (wrote_then h.room.room x y)

-- ---- a starred table: none where a row is of stars only

-- f: how many rows are of stars only
free_are : {w : List ℤ} {p n k f : ℕ} (cols : ℕ) → f ≡ count_rows is_free (rows_of n k (drop p w)) → (rows : List (List Cell)) → RowsStand w p n k rows → any_free (vars_of n (drop cols w)) rows ≡ some_of f
free_are {w} {p} {n} {k} {f} cols e rows r =
    sym (free_is (vars_of n (drop cols w)) rows)
    ∙ ap (λ (i : ℕ). free_rows i rows) (length_vars n (drop cols w))
    ∙ sym (free_count n rows r.well)
    ∙ ap some_of (sym (counts_are w p n k rows r is_free f e))

module _ {w : List ℤ} {p n k cols m : ℕ} {out : List ℤ} {o c : ℕ} where
  pub stars_free : {f : ℕ} → f ≡ count_rows is_free (rows_of n k (drop p w)) → (f ≡ 0 → ⊥) → Behind out o c → StarsDid w p n k cols m out o c out o c
  stars_free {f} e z b = record {
    clauses = λ rows s r i l.
        let a : any_free (vars_of n (drop cols w)) rows ≡ true = free_are cols e rows r ∙ some_not f z in
        clauses_to (sym (ap (λ (x : Out). x.0) (free_table (vars_of n (drop cols w)) rows s a))) (clauses_none b);
  }

  pub stars_some : {f : ℕ} → f ≡ count_rows is_free (rows_of n k (drop p w)) → f ≡ 0 → {out' : List ℤ} {o' c' : ℕ} → Starred w p n k cols m out o c out' o' c' → StarsDid w p n k cols m out o c out' o' c'
  stars_some e z t = record {
    clauses = λ rows s r i l. t.clauses rows s r.stands r.count r.well (free_are cols e rows r ∙ ap some_of z) i l;
  }

-- ---- columns that stand fit, and are near

module _ (ds : List Domain) (F : List ℤ) (parted : ℕ → Bool) (with_ifs : Bool) where
  pub all_fit : (es : List IntExpr) (p : ℕ) → ColumnsStand F parted with_ifs es p → WithinColumns ds es → AllFit F (length es) p
  unfolding AllFit WithinColumns
  all_fit [] p h i = tt
  all_fit (e ∷ es) p h i =
      let f = first_stands F parted with_ifs e es p h in
      let x = column_fits ds e p 0 i.0.light i.0.few i.0.inside in
      let y : Fits (int_form (resolve_int e never p 0)) = record { domains = ds; equated = x.0; inside = x.1 } in
      (subst Fits (sym f.tree) y, subst (AllFit F (length es)) (sym f.end) (all_fit es (p + length (encode_int e)) (stand_rest F parted with_ifs e es p h) i.1))

  all_near : (es : List IntExpr) (p : ℕ) → ColumnsStand F parted with_ifs es p → AllNear F (length es) p
  unfolding AllNear
  all_near [] p h = tt
  all_near (e ∷ es) p h =
      let f = first_stands F parted with_ifs e es p h in
      let y : Near (int_form (resolve_int e never p 0)) = record {
        from = p;
        to = p + length (encode_int e);
        inside = omega (arith, h.to, length-append (encode_int e) (columns_words es));
        within = column_inside e 64 never p 0 h.legal.0 (omega (arith, never_int e));
      } in
      (subst Near (sym f.tree) y, subst (AllNear F (length es)) (sym f.end) (all_near es (p + length (encode_int e)) (stand_rest F parted with_ifs e es p h)))

columns_two : (es : List IntExpr) → 2 * length es ≤ length (columns_words es)
columns_two [] = omega arith
columns_two (e ∷ es) = omega (arith, columns_two es, int_long e, length-append (encode_int e) (columns_words es))

-- ---- words

table_cells : (F : List ℤ) (q : ℕ) (es : List IntExpr) (rows : List (List Cell)) → Has F q (encode_stmt (Table es rows)) → Has F (q + 3 + length (columns_words es)) (cells_words rows)
unfolding encode_stmt
table_cells F q es rows h = has_back F (q + 3) (columns_words es) (cells_words rows) (has_back F q (pos 2 ∷ pos (length es) ∷ pos (length rows) ∷ []) _ h)

table_length : (es : List IntExpr) (rows : List (List Cell)) → length (encode_stmt (Table es rows)) ≡ 3 + length (columns_words es) + length (cells_words rows)
unfolding encode_stmt
table_length es rows = omega (arith, length-append (columns_words es) (cells_words rows))

stmt_inside : (w : List ℤ) (q : ℕ) (es : List IntExpr) (rows : List (List Cell)) → Has (read_part w) q (encode_stmt (Table es rows)) → q + length (encode_stmt (Table es rows)) ≤ folded_end
stmt_inside w q es rows h = omega (arith, has_fits (read_part w) q (encode_stmt (Table es rows)) h (omega (arith, table_length es rows)), part_short w)

empty_rows : (ds : List Domain) (vs : List ℕ) (z : Log) → (normalize_extension_supports ds vs [] z).0 ≡ clause [] [] ∷ []
unfolding normalize_extension_supports plain_table plain_clauses sort_rows
empty_rows ds vs z = refl

at_least : (a b : ℕ) → (a ≡ 0 → ⊥) → b ≤ a * b
at_least zero b c = absurd (c refl)
at_least (suc a) b c = omega (arith, suc-mul a b)

-- ---- the table before its rows are written

module _ {x : Place} {set w : List ℤ} {q : ℕ} {n : Counters} (h : At x set w q n) where
  pub columns_ready : Ready w (columns_of x).log
  columns_ready = ready_back (rows_behind x.domains x.exprs x.rows x.before) h.ready

  pub before_ready : Ready w x.before
  before_ready = ready_back (table_grows x.domains x.exprs x.rows x.before) h.ready

  pub columns_write : ColumnsWrite x.domains (read_part w) (length x.exprs) (q + 3) w x.before (columns_of x)
  columns_write = columns_written x.domains (read_part w) h.parted h.with_ifs x.exprs (q + 3) h.stand w x.before columns_ready h.placed

  low_of : (b : Bool) (k : ℕ) → k ≤ limit → cond b k 0 ≤ limit
  low_of true k l = l
  low_of false k l = omega arith

  pub low_counters : Low n
  low_counters = subst Low (sym h.counters) (before_ready.fit.small, low_of (has_ifs w) _ before_ready.ints)

  pub table_under : q + 3 ≤ folded_end
  table_under = omega (arith, h.stand.to)

  pub table_placed : Placed w (q + 3) n
  table_placed = record { size = omega (arith, h.size); inside = table_under; low = low_counters }

module _ {x : Place} {set w : List ℤ} {q p c k : ℕ} {n : Counters} {m : ℕ} (h : RowsAt x set w q p c k n m) where
  abbrev ds : List Domain
  ds = x.domains

  abbrev z : Log
  z = (columns_of x).log

  abbrev vs : List ℕ
  vs = (columns_of x).vars

  well : Each (WellRow c) x.rows
  well = subst (λ (i : ℕ). Each (WellRow i) x.rows) (sym h.width) h.at.well

  cells_length : length (cells_words x.rows) ≡ k * c
  cells_length = length_cells c x.rows (rows_wide c x.rows well) ∙ ap (λ (i : ℕ). i * c) (sym h.height)

  pub rows_inside : p + k * c ≤ folded_end
  rows_inside = omega (arith, stmt_inside w q x.exprs x.rows h.at.stands, table_length x.exprs x.rows, cells_length, h.cells)

  pub table_end : p + k * c ≡ q + length (encode_stmt (Table x.exprs x.rows))
  table_end = omega (arith, table_length x.exprs x.rows, cells_length, h.cells)

  -- a table with rows has two words for each column and a cell at least
  room : (k ≡ 0 → ⊥) → table-place + k * c + 3 * c ≤ length w
  room e = omega (arith, columns_two x.exprs, h.width, at_least k c e, rows_inside, h.cells, h.at.stand.from, h.at.size)

  cells_has : Has (read_part w) p (cells_words x.rows)
  cells_has = subst (λ (i : ℕ). Has (read_part w) i (cells_words x.rows)) (sym h.cells) (table_cells (read_part w) q x.exprs x.rows h.at.stands)

  pub table_stand : RowsStand w p c k x.rows
  table_stand = record { stands = has_part w p (cells_words x.rows) cells_has; count = h.height; well = well }

  describable : (k ≡ 0 → ⊥) → Describable set w (q + 3) c (table-place + k * c) n ds
  describable e = record {
    declared = h.at.declared;
    table = h.at.table;
    told = rw (h.width, h.at.counters) h.at.told;
    near = rw h.width (all_near ds (read_part w) h.at.parted h.at.with_ifs x.exprs (q + 3) h.at.stand);
    placed = table_placed h.at;
    above = omega arith;
    room = room e;
  }

  -- ---- no rows

  pub rows_none : k ≡ 0 → {out : List ℤ} {o j : ℕ} {out' : List ℤ} {o' j' : ℕ} → Clauses out o j (clause [] [] ∷ []) out' o' j' → RowsDid x w out o j w out' o' j'
  rows_none e t = record { clauses = clauses_to (go x.rows h.height) t; kept = refl; size = refl }
    where
      go : (rs : List (List Cell)) → k ≡ length rs → clause [] [] ∷ [] ≡ (normalize_extension_supports ds vs rs z).0
      go [] i = sym (empty_rows ds vs z)
      go (r ∷ rs) i = absurd (omega (arith, e))

  -- ---- behind the description of its columns (w₁) and the copy of its rows (w₂)

  module _ (some : k ≡ 0 → ⊥) {w₁ : List ℤ} (d : Described set w (q + 3) c (table-place + k * c) n w₁) where
    below₁ : take table-place w₁ ≡ take table-place w
    below₁ = sym (take-take table-place (table-place + k * c) w₁ (omega arith)) ∙ ap (take table-place) d.below ∙ take-take table-place (table-place + k * c) w (omega arith)

    cells₁ : take (k * c) (drop p w₁) ≡ cells_words x.rows
    cells₁ = ap (λ (i : ℕ). take i (drop p w₁)) (sym cells_length) ∙ has_part w₁ p (cells_words x.rows) (rw (same_part w w₁ below₁) cells_has)

    pub copy_room : table-place + k * c ≤ length w₁
    copy_room = omega (arith, room some, d.size)

    module _ {w₂ : List ℤ} (e : w₂ ≡ sets w₁ table-place (take (k * c) (drop p w₁))) where
      abbrev cs : List ℤ
      cs = cells_words x.rows

      is₂ : w₂ ≡ sets w₁ table-place cs
      is₂ = e ∙ ap (sets w₁ table-place) cells₁

      room₂ : table-place + length cs ≤ length w₁
      room₂ = omega (arith, cells_length, copy_room)

      size₂ : length w₂ ≡ length w
      size₂ = ap length is₂ ∙ length-sets w₁ table-place cs ∙ d.size

      kept₂ : take table-place w₂ ≡ take table-place w
      kept₂ = ap (take table-place) is₂ ∙ kept_below w₁ cs table-place room₂ ∙ below₁

      above₂ : drop (table-place + k * c) w₂ ≡ drop (table-place + k * c) w₁
      above₂ =
          let i : table-place + k * c ≡ table-place + length cs = omega (arith, cells_length) in
          rw i (ap (drop (table-place + length cs)) is₂ ∙ kept_above w₁ cs table-place room₂)

      stand₂ : RowsStand w₂ table-place c k x.rows
      stand₂ = record { stands = subst (λ (l : List ℤ). Has l table-place cs) (sym is₂) (has_sets w₁ table-place cs room₂); count = h.height; well = well }

      vars_are : vars_of c (drop (table-place + k * c) w₂) ≡ vs
      vars_are = rw above₂ d.numbers ∙ ap (λ (i : ℕ). columns_vars (read_part w) i (q + 3) w) h.width ∙ (columns_write h.at).vars

      domains_are : domains_of set c (drop (table-place + k * c) w₂) ≡ map (domain_at ds z) vs
      domains_are =
          rw above₂ (d.domains ds (describable some))
          ∙ ap (λ (i : ℕ). columns_domains ds (read_part w) i (q + 3) w n) h.width
          ∙ ap (columns_domains ds (read_part w) (length x.exprs) (q + 3) w) h.at.counters
          ∙ (columns_write h.at).domains

      star_seen : (t : Bool) → t ≡ any (λ u. eqZ u star_word) (row_at (k * c) table-place w₂) → starred x.rows ≡ t
      star_seen t i = sym (i ∙ stars_are w₂ table-place c k x.rows stand₂)

      -- ---- no star

      plain_table_at : false ≡ any (λ u. eqZ u star_word) (row_at (k * c) table-place w₂) → RowsTable w₂ set table-place c k (table-place + k * c)
      plain_table_at i = record {
        few = omega (arith, h.height, h.at.few);
        narrow = omega (arith, h.width, h.at.narrow);
        under = omega arith;
        fits = omega (arith, room some, size₂);
        columns = rw above₂ d.columns;
        starless =
            let t : take (k * c) (drop table-place w₂) ≡ cs = ap (λ (j : ℕ). take j (drop table-place w₂)) (sym cells_length) ∙ stand₂.stands in
            rw t (starless_stand x.rows (rows_small c x.rows well) (star_seen false i));
      }

      pub rows_plain : false ≡ any (λ u. eqZ u star_word) (row_at (k * c) table-place w₂) → {out : List ℤ} {o j : ℕ} {w' out' : List ℤ} {o' j' : ℕ} → length w' ≡ length w₂ → Tabled w₂ w' set table-place c k (table-place + k * c) out o j out' o' j' → RowsDid x w out o j w' out' o' j'
      unfolding normalize_extension_supports
      rows_plain i l t = record {
        clauses =
            let s : starred x.rows ≡ false = star_seen false i in
            let r : rows_of c k (drop table-place w₂) ≡ _ = ap (λ (j : ℕ). rows_of c j (drop table-place w₂)) h.height ∙ rows_stand c w₂ table-place x.rows stand₂.stands (rows_wide c x.rows well) s in
            let y : plain_table (vars_of c (drop (table-place + k * c) w₂)) (domains_of set c (drop (table-place + k * c) w₂)) x.rows ≡ plain_table vs (map (domain_at ds z) vs) x.rows = rw (vars_are, domains_are) refl in
            clauses_to (y ∙ sym (ap (λ (b : Bool). (cond b (star_table vs x.rows z) (plain_table vs (map (domain_at ds z) vs) x.rows, z)).0) s)) (t.clauses x.rows r);
        kept = t.below ∙ kept₂;
        size = l ∙ size₂;
      }

      -- ---- some star

      low_number : m ≤ limit
      low_number = omega (arith, h.bools, (columns_ready h.at).fit.small)

      star_rows_at : StarRows w₂ table-place c k (table-place + k * c) m
      star_rows_at = record {
        few = omega (arith, h.height, h.at.few);
        narrow = omega (arith, h.width, h.at.narrow);
        within = omega (arith, room some, size₂);
        fits = omega (arith, room some, size₂);
        each = rw above₂ d.columns.each;
        next = low_number;
      }

      pub rows_starred : true ≡ any (λ u. eqZ u star_word) (row_at (k * c) table-place w₂) → {out : List ℤ} {o j : ℕ} {out' : List ℤ} {o' j' : ℕ} → StarsDid w₂ table-place c k (table-place + k * c) m out o j out' o' j' → RowsDid x w out o j w₂ out' o' j'
      unfolding normalize_extension_supports normalize_table register
      rows_starred i t = record {
        clauses =
            let s : starred x.rows ≡ true = star_seen true i in
            let f : (b : Bool) → Out = λ b. cond b (star_table vs x.rows z) (plain_table vs (map (domain_at ds z) vs) x.rows, z) in
            let l : next_bool (f (starred x.rows)).1 ≤ limit = h.at.ready.fit.small in
            let l₁ : next_bool (star_table vs x.rows z).1 ≤ limit = subst (λ (b : Bool). next_bool (f b).1 ≤ limit) s l in
            let l₂ : next_bool (star_table (vars_of c (drop (table-place + k * c) w₂)) x.rows z).1 ≤ limit = subst (λ (us : List ℕ). next_bool (star_table us x.rows z).1 ≤ limit) (sym vars_are) l₁ in
            clauses_to (ap (λ (us : List ℕ). (star_table us x.rows z).0) vars_are ∙ sym (ap (λ (b : Bool). (f b).0) s)) (t.clauses x.rows z stand₂ (sym h.bools) l₂);
        kept = kept₂;
        size = size₂;
      }

-- ---- some table stands there

module _ {set w : List ℤ} {q p c k : ℕ} {n : Counters} {m : ℕ} (s : SomeRowsAt set w q p c k n m) where
  pub some_inside : p + k * c ≤ folded_end
  some_inside = rows_inside s.it

  pub some_describable : (k ≡ 0 → ⊥) → SomeDescribable set w (q + 3) c (table-place + k * c) n
  some_describable e = record { domains = s.place.domains; it = describable s.it e }

  module _ (some : k ≡ 0 → ⊥) {w₁ : List ℤ} (d : Described set w (q + 3) c (table-place + k * c) n w₁) where
    pub some_room : table-place + k * c ≤ length w₁
    some_room = copy_room s.it some d

    module _ {w₂ : List ℤ} (e : w₂ ≡ sets w₁ table-place (take (k * c) (drop p w₁))) where
      pub some_star_rows : StarRows w₂ table-place c k (table-place + k * c) m
      some_star_rows = star_rows_at s.it some d e

      pub some_plain_table : false ≡ any (λ u. eqZ u star_word) (row_at (k * c) table-place w₂) → RowsTable w₂ set table-place c k (table-place + k * c)
      some_plain_table = plain_table_at s.it some d e
