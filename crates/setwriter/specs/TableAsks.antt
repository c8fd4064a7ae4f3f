-- What writing a table's clauses asks, of a table that is the next statement: by the final maps where no If stands (`mapped_table`), and by the slice that
-- numbering it again leaves (`numbered_table`).
use Rattle.std.proofs.Math.Path.{◌≡◌, ap, subst}
use Rattle.std.specs.Prelude.{refl, Bool, false, ℕ, zero, suc, ◌+◌, ◌*◌, ◌≤◌, ◌<◌, ℤ}
use Rattle.std.proofs.Common.{sym, ◌∙◌, arith}
use Rattle.std.proofs.Math.Bool.{true}
use mathlib.Core.List.{List, [], ◌∷◌, map}
use Rattle.std.specs.Int.Signed.{le_z}
use Rattle.std.proofs.Math.ListN.{length, length-map}
use Rattle.laws.specs.Bools.{never, and_r}
use Rattle.laws.specs.Order.{eqZ_refl}
use Rattle.laws.specs.Slices.{Has}
use Rattle.memory.specs.Places.{folded, folded_end}
use Rattle.syntax.specs.Words.{max_count}
use Rattle.syntax.specs.Syntax.{Domain, Range, Enumerative, domain_of, IntExpr, IConst, IVar, Linear, If, encode_int, Cell, Stmt, Rule, Table, AllDifferent, encode_stmt, Problem}
use Rattle.syntax.specs.Codes.{stmt_code}
use Rattle.syntax.specs.Written.{Any, EveryIntOf, EveryColumnOf, EveryStmt, EveryStmts}
use Rattle.words.specs.Exact.{Each}
use Rattle.read.specs.WellFormed.{WellRow, WellDomain, WellStmt}
use Rattle.fold.specs.Fold.{Fixed, constant_folding_int as fold-int, constant_folding_stmt as fold-stmt}
use Rattle.sums.proofs.Domain.{ordered, domain_between}
use Rattle.answer.specs.Answer.{normalize_stmt}
use Rattle.call.proofs.Demand.{domains_ordered}
use Rattle.accept.specs.Accepted.{domains_stand}
use Rattle.tables.specs.Tables.{normalize_table}
use Rattle.walk.specs.Decode.{read_part}
use Rattle.walk.specs.declared.Counters.{Counters}
use Rattle.walks.specs.Tree.{never as whole, resolve_int}
use Rattle.walks.specs.Form.{IntForm, const, ivar, sum, choice, int_form}
use Rattle.walks.specs.Implements.{at, Ready, ready_back}
use Rattle.walks.specs.Meet.{State}
use Rattle.walks.specs.Plain.{PlainInt}
use Rattle.walks.specs.Constant.{Named}
use Rattle.walks.specs.Good.{good_less}
use Rattle.walks.specs.Visit.{Outcome, full, good, same_later, good_ready}
use Rattle.walks.specs.Walked.{fixed, names}
use Rattle.walks.specs.Next.{ahead_more}
use Rattle.declared.specs.DomainTable.{Declares}
use Rattle.totals.specs.Ranges.{range_light}
use Rattle.statements.specs.Statements.{table_words, table_length}
use Rattle.statements.specs.Table.{table_fresh}
use Rattle.stages.specs.Columns.{SameCells, column_at, columns_words, PlacedColumns, ColumnsStand, stand_rest, first_stands}
use Rattle.stages.specs.ColumnsReach.{ColumnReach, ColumnsReach, columns_reach}
use Rattle.stages.specs.InOrder.{InOrder}
use Rattle.stages.specs.Table.{meet_table, rows_behind, table_visit}
use Rattle.stages.specs.TableRoom.{table_room}
use Rattle.stages.specs.TableStage.{owned_placed}
use Rattle.stages.specs.StatementsParts.{parts, meet_parts, AllOwn, Standing}
use Rattle.stages.specs.Statements.{stmt_stages}
use Rattle.stages.specs.StatementsPlaces.{parted_of, columns_agree_here}
use Rattle.tablewriter.specs.Describing.{Ranged, ColumnTold, AllTold}
use Rattle.tablewriter.specs.Step.{Place as TablePlace, At as TableAt}
use Rattle.setwriter.specs.Statements.{Lent, Left, DeclaredBool, DeclaredInt, end_inside, first_words, first_to}
use Rattle.numbering.specs.declared.Progress.{Progress}
use Rattle.numbering.specs.declared.Room.{Room}
use Rattle.numbering.specs.Task.{state_of}
use Rattle.setwriter.specs.Step.{Place, after, Stands, Mapped}
use Rattle.setwriter.specs.Again.{Walked}

-- ---- the declared domains

well_order : (d : Domain) → WellDomain d → ordered d ≡ true
well_order d w = domains_ordered (d ∷ []) (w, tt) 0 (omega arith)

in_order : (d : Domain) → ordered d ≡ true → InOrder d
in_order (Range low high) h = h
in_order (Enumerative []) h = never h
in_order (Enumerative (x ∷ xs)) h = and_r (le_z x x) _ (domain_between (Enumerative (x ∷ xs)) x h (rw (eqZ_refl x) refl))

declared_order : (ds : List Domain) → Each WellDomain ds → (v : ℕ) → InOrder (domain_of ds v)
declared_order [] h v = refl
declared_order (d ∷ ds) h zero = in_order d (well_order d h.0)
declared_order (d ∷ ds) h (suc v) = declared_order ds h.1 v

-- ---- the columns' sums and bounds

module _ (ds : List Domain) where
  -- a column that is a variable is a declared one
  abbrev Names : IntForm → Type 0
  Names (const c) = Unit {0}
  Names (ivar v) = v < length ds
  Names (sum ts) = Unit {0}
  Names (choice q o c d t f) = Unit {0}

  names_declared : (P : ℕ → Type 0) (e : IntExpr) (p : ℕ) → EveryIntOf Any P (λ v. v < length ds) e → Names (int_form (resolve_int e whole p 0))
  unfolding EveryIntOf int_form resolve_int
  names_declared P (IConst c) p h = tt
  names_declared P (IVar v) p h = h
  names_declared P (Linear ts) p h = tt
  names_declared P (If i c t f) p h = tt

  module _ (w : List ℤ) where
    ranged : (e : IntForm) (n : Counters) → ColumnReach ds e w n → Ranged ds w n e
    ranged e n h = record {
      equated = h.equated;
      inside = h.inside;
      light = range_light ds w e n h.light h.carries;
      sound = record { low = omega (arith, h.low); high = omega (arith, h.high); order = h.order };
    }

    column_told : (e : IntForm) (n : Counters) → Names e → ColumnReach ds e w n → ColumnTold ds w n e
    column_told (const c) n v h = ranged (const c) n h
    column_told (ivar v) n b h = b
    column_told (sum ts) n v h = ranged (sum ts) n h
    column_told (choice q o c d t f) n v h = ranged (choice q o c d t f) n h

    columns_told : (P : ℕ → Type 0) (F : List ℤ) (parted : ℕ → Bool) (with_ifs : Bool) (es : List IntExpr) (p : ℕ) → ColumnsStand F parted with_ifs es p → EveryColumnOf Any P (λ v. v < length ds) es → (n : Counters) → ColumnsReach ds F (length es) p w n → AllTold ds F (length es) p w n
    unfolding EveryColumnOf ColumnsReach AllTold
    columns_told P F parted with_ifs [] p h v n r = tt
    columns_told P F parted with_ifs (e ∷ es) p h v n r =
        let f = first_stands F parted with_ifs e es p h in
        let b = p + length (encode_int e) in
        let rest : (m : Counters) → ColumnsReach ds F (length es) (column_at F p).end w m → AllTold ds F (length es) (column_at F p).end w m = λ m y. rw f.end (columns_told P F parted with_ifs es b (stand_rest F parted with_ifs e es p h) v.1 m (rw f.end at y)) in
        (column_told (column_at F p).tree n (subst Names (sym f.tree) (names_declared P e p v.0)) r.0, rest _ r.1)

-- ---- how a table was read

abbrev columns_of : Stmt → List IntExpr
columns_of (Rule e) = []
columns_of (Table es rows) = es
columns_of (AllDifferent es) = []

abbrev rows_of : Stmt → List (List Cell)
rows_of (Rule e) = []
rows_of (Table es rows) = rows
rows_of (AllDifferent es) = []

record WellTable (es : List IntExpr) (rows : List (List Cell)) : Type 0 where
  pub few : length rows ≤ max_count
  pub narrow : length es ≤ max_count
  pub well : Each (WellRow (length es)) rows

module _ (p : Problem) (f : Fixed) where
  origin_table : (es : List IntExpr) (rows : List (List Cell)) (o : Stmt) → Table es rows ≡ fold-stmt p.domains f o → WellStmt p.bools (length p.domains) o → WellTable es rows
  unfolding fold-stmt
  origin_table es rows (Rule e) q h = let z : ◌≡◌ {A = ℕ} 2 1 = ap stmt_code q in absurd (omega (arith, z))
  origin_table es rows (Table us vs) q h =
      let a : es ≡ map (fold-int p.domains f) us = ap columns_of q in
      let b : rows ≡ vs = ap rows_of q in
      let c : length es ≡ length us = ap length a ∙ length-map us (fold-int p.domains f) in
      rw b (record { few = h.1; narrow = omega (arith, c, h.0); well = rw c h.3 })
  origin_table es rows (AllDifferent us) q h = let z : ◌≡◌ {A = ℕ} 2 3 = ap stmt_code q in absurd (omega (arith, z))

-- ---- the table

abbrev pub table_place_of : Place → List IntExpr → List (List Cell) → TablePlace
table_place_of x es rows = record { domains = x.problem.domains; exprs = es; rows = rows; before = x.before }

module _ (x : Place) (es : List IntExpr) (rows : List (List Cell)) (is : x.stmt ≡ Table es rows) (set w : List ℤ) (q : ℕ) (with_ifs : Bool) (h : Stands x set w q with_ifs) where
  abbrev ds : List Domain
  ds = x.problem.domains

  abbrev F : List ℤ
  F = read_part w

  abbrev parted : ℕ → Bool
  parted = parted_of folded x.stmts

  abbrev at_table : Left x.merge x.problem x.fixed x.stmts F x.end q (Table es rows ∷ x.later) x.before
  at_table = subst (λ (t : Stmt). Left x.merge x.problem x.fixed x.stmts F x.end q (t ∷ x.later) x.before) is h.left

  pub words : Has F q (encode_stmt (Table es rows))
  words = first_words x.merge x.problem x.fixed x.stmts set F x.end with_ifs h.lent q x.before (Table es rows) x.later at_table

  pub to : q + length (encode_stmt (Table es rows)) ≤ x.end
  to = first_to x.merge x.problem x.fixed x.stmts set F x.end with_ifs h.lent q x.before (Table es rows) x.later at_table

  inside : x.end ≤ folded_end
  inside = end_inside x.merge x.problem x.fixed x.stmts set F x.end with_ifs h.lent

  pub columns_stand : ColumnsStand F parted with_ifs es (q + 3)
  columns_stand =
      let n = table_length es rows in
      let c = table_words F q es rows words in
      record {
        legal = at_table.legal.0;
        words = c;
        from = omega (arith, at_table.from);
        to = omega (arith, n, to, inside);
        agree = columns_agree_here F x.end with_ifs h.lent.marked parted q x.later es rows at_table.legal at_table.parted c at_table.from (omega (arith, n)) to;
      }

  -- by a slice with the maps of the log behind it and the numbers of its columns
  pub table_asks : Ready w (normalize_table ds es rows x.before) → PlacedColumns ds w (q + 3) es x.before → (n : Counters) → n ≡ at w x.before → TableAt (table_place_of x es rows) set w q n
  unfolding EveryStmts EveryStmt
  table_asks r k n e =
      let c = ready_back (rows_behind ds es rows x.before) r in
      let well = h.lent.settled.well in
      let read = at_table.read.0 in
      let t = origin_table x.problem x.fixed es rows read.origin read.folded read.well in
      let v : EveryColumnOf Any (DeclaredBool x.problem) (DeclaredInt x.problem) es = at_table.every.0 in
      let y = columns_reach ds (DeclaredBool x.problem) (DeclaredInt x.problem) (declared_order ds well.domains_well) F parted with_ifs es (q + 3) columns_stand at_table.within.0 v w x.before at_table.made at_table.light c k in
      record {
        declared = record { words = (domains_stand set x.problem (record { words = h.lent.words; well = well })).words; well = well.domains_well; short = omega (arith, ap length h.lent.words, h.lent.settled.short) };
        table = h.domains;
        ready = r;
        placed = k;
        parted = parted;
        with_ifs = with_ifs;
        stand = columns_stand;
        stands = words;
        within = at_table.within.0;
        told = columns_told ds w (DeclaredBool x.problem) F parted with_ifs es (q + 3) columns_stand v (at w x.before) y;
        well = t.well;
        few = t.few;
        narrow = t.narrow;
        counters = e;
        size = h.size;
      }

-- by the final maps
pub mapped_table : (x : Place) (es : List IntExpr) (rows : List (List Cell)) → x.stmt ≡ Table es rows → (set w : List ℤ) (q : ℕ) (n : Counters) → Mapped x set w q n → TableAt (table_place_of x es rows) set w q n
unfolding normalize_stmt stmt_stages AllOwn
mapped_table x es rows is set w q n h =
    let d = x.problem.domains in
    let k = h.stands in
    let r : Ready w (normalize_table d es rows x.before) = subst (λ (t : Stmt). Ready w (normalize_stmt d t x.before)) is h.ready in
    let o = subst (λ (t : Stmt). AllOwn w (stmt_stages d h.rec h.cap (read_part w) q t []) x.before) is h.owned in
    let stop : q + 3 + length (columns_words es) ≤ x.end = omega (arith, to x es rows is set w q false k, table_length es rows) in
    let c = owned_placed d w (read_part w) x.end (λ p e i t l m. never (k.lent.marked p e i t l m)) (parted_of folded x.stmts) false es (q + 3) (columns_stand x es rows is set w q false k) stop x.before o.0 in
    table_asks x es rows is set w q false k r c n h.counters

-- numbered again right before: w' and c' are the slice and the walk's state behind its numbering, which is not full
module _ (x : Place) (es : List IntExpr) (rows : List (List Cell)) (is : x.stmt ≡ Table es rows) (set w : List ℤ) (q : ℕ) (room : Room) (c : Progress) (m : ℕ) (h : Walked x set w q room c m) where
  abbrev d : List Domain
  d = x.problem.domains

  abbrev marks : ℕ → Bool
  marks = parted_of folded x.stmts

  abbrev st : State
  st = state_of w [] c

  abbrev stop : ℕ
  stop = q + length (encode_stmt (Table es rows))

  abbrev standing : Standing d (read_part w) marks room.records room.cap true [] h.low q (49152 * length (encode_stmt (Table es rows)) + m) st x.before
  standing = subst (λ (t : Stmt). Standing d (read_part w) marks room.records room.cap true [] h.low q (49152 * length (encode_stmt t) + m) st x.before) is h.standing

  abbrev met : State
  met = meet_table d room.records room.cap (read_part w) (length es) (q + 3) rows st

  placed : met.used ≤ room.cap → PlacedColumns d met.work (q + 3) es x.before
  placed u = go (table_visit d (read_part w) marks true es (q + 3) (columns_stand x es rows is set w q true h.stands) rows standing.key room.records room.cap [] standing.places h.low 0 m st x.before (ahead_more (read_part w) q (q + 3) w (omega arith) standing.ahead)
      (good_less d (read_part w) PlainInt marks standing.key (fixed d) room.records room.cap true [] (Named d) (49152 * length (encode_stmt (Table es rows)) + m) (length es + (table_fresh (length es) rows + m)) st x.before (omega (arith, table_room es rows)) standing.state) (omega (arith, h.used)))
    where
      go : Outcome d (read_part w) PlainInt marks standing.key (fixed d) room.records room.cap true [] (Named d) 0 m (λ v. SameCells (q + 3) (q + 3 + length (columns_words es)) met.work v → PlacedColumns d v (q + 3) es x.before) st met (normalize_table d es rows x.before) → PlacedColumns d met.work (q + 3) es x.before
      go (full a b) = absurd (omega (arith, u))
      go (good g y l k) = k met.work (same_later d (read_part w) PlainInt marks standing.key (fixed d) met.work) (λ i a b. refl)

  pub numbered_table : (w' : List ℤ) (c' : Progress) → c'.used ≤ room.cap → state_of w' [] c' ≡ meet_parts (parts (stmt_stages d room.records room.cap (read_part w) q (Table es rows) [])) st
      → Standing d (read_part w) marks room.records room.cap true [] h.low stop m (state_of w' [] c') (after x) → Declares d w' → TableAt (table_place_of x es rows) set w' q (record { bools = c.bools; ints = c.ints })
  unfolding normalize_stmt stmt_stages meet_parts
  numbered_table w' c' u e z told =
      let g = z.state in
      let k : Stands x set w' q true = record {
        lent = subst (λ (ws : List ℤ). Lent x.problem x.fixed x.stmts set ws x.end true) (sym g.words) h.stands.lent;
        left = subst (λ (ws : List ℤ). Left x.merge x.problem x.fixed x.stmts ws x.end q (x.stmt ∷ x.later) x.before) (sym g.words) h.stands.left;
        domains = told;
        word = g.word;
        size = g.size;
      } in
      let r = good_ready d (read_part w) PlainInt marks z.key (fixed d) room.records room.cap true [] (Named d) (names d) z.places h.low m (state_of w' [] c') (after x) g in
      let l = ap (λ (s : State). s.work) e in
      let p = subst (λ (v : List ℤ). PlacedColumns d v (q + 3) es x.before) (sym l) (placed (subst (λ (s : State). s.used ≤ room.cap) e u)) in
      table_asks x es rows is set w' q true k (subst (λ (t : Stmt). Ready w' (normalize_stmt d t x.before)) is r) p (record { bools = c.bools; ints = c.ints }) (rw (g.word, h.standing.state.bools, h.standing.state.ints) refl)
