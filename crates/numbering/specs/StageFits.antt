-- What the first walk asks of a state (numbering's `fits`) holds in a state of the log, for the task of each part of a set: a rule's (`rule_fitting`), a table's
-- (`table_fitting`), a pair's behind its cleared cells (`pair_fitting`). As in stages: F, the folded words; parted, the places of Ifs with split parts.
use Rattle.std.specs.Prelude.{◌≡◌, Bool, true, ℤ, ltb}
use Rattle.std.proofs.Common.{sym, ap, ◌∙◌, arith, lt-ltb}
use Rattle.std.proofs.Math.Path.{subst}
use Rattle.std.proofs.Math.Option.{Option}
use mathlib.Core.List.{List, [], ◌∷◌}
use Prim.Native.Nat.{ℕ, ◌+◌, ◌≤◌, ◌<◌}
use Rattle.std.proofs.Math.ListN.{length}
use Rattle.laws.specs.Slices.{Has}
use Rattle.memory.specs.Places.{folded, folded_end, limit}
use Rattle.syntax.specs.Syntax.{Domain, IntExpr, BoolExpr, encode_int, encode_bool, Cell, Table, encode_stmt}
use Rattle.words.specs.Exact.{Each}
use Rattle.clauses.specs.Log.{Log, next_bool}
use Rattle.tables.specs.Tables.{equivalent_int_var}
use Rattle.walk.specs.Decode.{read_part}
use Rattle.walks.specs.Tree.{Place, never, below, here, splits, splits_int, resolve, ties, resolve_int}
use Rattle.walks.specs.Form.{IntForm, int_form}
use Rattle.walks.specs.Resolve.{rule_trees, pair_trees}
use Rattle.walks.specs.Placed.{PlacedInt}
use Rattle.walks.specs.Meet.{State, with_work, is_full}
use Rattle.walks.specs.Plain.{PlainInt}
use Rattle.walks.specs.Constant.{Named}
use Rattle.walks.specs.Cells.{Places}
use Rattle.walks.specs.Good.{good_less}
use Rattle.walks.specs.Legal.{LegalInt, LegalRule, true_rule, legal_rule}
use Rattle.walks.specs.Leaves.{words_of, weights}
use Rattle.walks.specs.Visit.{full, good}
use Rattle.walks.specs.Walked.{fixed}
use Rattle.walks.specs.Clear.{clear_places, clear_maps, clear_reset, clear_unseen}
use Rattle.walks.specs.Keys.{keys, keys_int, Every, every_map, every_left}
use Rattle.walks.specs.KeyAt.{looked_up, looked_up_parted, places, pair_keys}
use Rattle.walks.specs.KeyPlaces.{AgreesWith}
use Rattle.walks.specs.Next.{Ahead, ahead_more}
use Rattle.walks.specs.Reach.{LightIfs, column_light}
use Rattle.walks.specs.SumsFit.{Within, WithinSides, WithinColumns}
use Rattle.walks.specs.Rule.{GoodFor, OutcomeFor}
use Rattle.walks.specs.Column.{meet_column, StandsHere, column_visit, column_ahead}
use Rattle.statements.specs.Table.{table_fresh}
use Rattle.statements.specs.Statements.{table_words, table_length}
use Rattle.stages.specs.Room.{splits_low, splits_int_low, rule_room, rule_weight, pair_room, pair_weight}
use Rattle.stages.specs.Columns.{column_spends, column_at, columns_keys, ColumnsStand, first_words, first_to, stand_rest, first_stands}
use Rattle.stages.specs.StatementsParts.{Stage}
use Rattle.stages.specs.StatementsRules.{rule_stage}
use Rattle.stages.specs.TableStage.{table_stage}
use Rattle.stages.specs.Pairs.{pair_stage, lie}
use Rattle.numbering.specs.Task.{Task}
use Rattle.numbering.specs.Rules.{rule_task, pair_task}
use Rattle.numbering.specs.Columns.{column_task}
use Rattle.numbering.specs.FitsParts.{column_full, rule_asks, pair_asks, column_asks}
use Rattle.stmtwords.specs.PairIfs.{pair_are}
use Rattle.numbering.specs.Tasks.{columns_task, clear_task, cleared_task, table_task}
use Rattle.numbering.specs.Follow.{Fitting}

-- the numbers that a rule takes
rule_takes : (ds : List Domain) (e : BoolExpr) (p n : ℕ) → LegalRule e 64 → n + splits e below ≤ limit → splits e below + weights ds (rule_trees e p n) ≤ rule_room e
unfolding splits resolve ties weights
rule_takes ds e p n (true_rule x) i = omega arith
rule_takes ds e p n (legal_rule x) i = rule_weight ds e 64 p n x i

module _ (ds : List Domain) (F : List ℤ) (parted : ℕ → Bool) (rec cap : ℕ) (with_ifs : Bool) (before : List ℤ) (low : cap < limit) where
  abbrev FittingHere : Stage → Task → Type 0
  FittingHere = Fitting ds F parted rec cap with_ifs before low

  -- ---- a rule

  pub rule_fitting : (e : BoolExpr) (p : ℕ) → LegalRule e 64 → Within ds e → Has F p (encode_bool e) → folded ≤ p → p + length (encode_bool e) ≤ folded_end → ((n : ℕ) → Every (AgreesWith parted with_ifs) (keys e below p n)) → FittingHere (rule_stage ds rec cap e p) (rule_task rec cap F p)
  rule_fitting e p legal within words from to agree n st s h u =
      let m = next_bool s in
      let x = rule_takes ds e p m legal (omega (arith, h.state.room, h.state.bools, splits_low e below)) in
      let g = good_less ds F PlainInt parted h.key (fixed ds) rec cap with_ifs before (Named ds) (rule_room e + n) (splits e below + (weights ds (rule_trees e p m) + n)) st s (omega (arith, x)) h.state in
      rule_asks ds F parted rec cap with_ifs before low e p legal within words from to s (agree m) h.key n st h.ahead h.ifs h.light g

  -- ---- a pair

  module _ (a b : IntExpr) (p q stop : ℕ) (first : LegalInt a 64) (second : LegalInt b 64) (within : WithinSides ds a b) (words : Has F p (encode_int a)) (others : Has F q (encode_int b))
      (from : folded ≤ p) (then : p + length (encode_int a) ≤ q) (to : q + length (encode_int b) ≤ stop) (end : stop ≤ folded_end) (agree : (n : ℕ) → Every (AgreesWith parted with_ifs) (pair_keys a b p q n)) where
    pub pair_fitting : FittingHere (pair_stage ds rec cap a b p q stop) (cleared_task rec cap F p q)
    unfolding clear_task splits
    pair_fitting n st s h u =
        let m = next_bool s in
        let w = st.work in
        let k = splits_int a here + splits_int b here in
        let i : m + k ≤ limit = omega (arith, h.state.room, h.state.bools, splits_int_low a here, splits_int_low b here) in
        let x = pair_weight ds a b 64 p q m first second i in
        let g = good_less ds F PlainInt parted h.key (fixed ds) rec cap with_ifs before (Named ds) (pair_room a b + n) (k + (weights ds (pair_trees a b p q m) + n)) st s (omega (arith, x)) h.state in
        let L = looked_up (pair_keys a b p q m) in
        let ps = lie ds F parted rec cap with_ifs before low a b p q stop first second words others from then to end agree h.key L h.places m in
        let v = clear_places (places (pair_keys a b p q m)) w in
        let e : read_part w ≡ F = h.state.words in
        let da : Has (read_part w) p (encode_int a) = subst (λ (ws : List ℤ). Has ws p (encode_int a)) (sym e) words in
        let db : Has (read_part w) q (encode_int b) = subst (λ (ws : List ℤ). Has ws q (encode_int b)) (sym e) others in
        let c = pair_are w a b p q first second da db m (every_map (λ x y. h.state.word ∙ y.1) (agree m)) in
        let y = pair_asks ds F parted rec cap with_ifs before low a b p q first second within words others from then (omega arith) s (agree m) h.key n st v
        (clear_maps ds F PlainInt parted h.key L (fixed ds) h.places ps w) (clear_reset ds F PlainInt parted h.key L (fixed ds) h.places ps w h.state.size)
        (λ o e z. clear_unseen ds F PlainInt parted h.key L (fixed ds) h.places ps w h.state.size o (looked_up_parted (pair_keys a b p q m) o e z)) h.ifs h.light g in
        (tt, subst (λ (zs : List Place). (pair_task rec cap F p q).fits ds (with_work (clear_places zs w) st)) (sym c) y)

  -- ---- a table: its columns, one after another

  abbrev Columns : List IntExpr → ℕ → Type 0
  Columns = ColumnsStand F parted with_ifs

  -- behind the first
  abbrev met_first : IntExpr → ℕ → State → State
  met_first e p st = meet_column ds rec cap p (int_form (resolve_int e never p 0)) st

  columns_more : (e : IntExpr) (es : List IntExpr) (p : ℕ) (st : State) → Columns (e ∷ es) p → (column_task rec cap F p).fits ds st → (columns_task rec cap F (length es) (p + length (encode_int e))).fits ds (met_first e p st) → (columns_task rec cap F (length (e ∷ es)) p).fits ds st
  unfolding columns_task column_task
  columns_more e es p st h x y =
      let f = first_stands F parted with_ifs e es p h in
      let z : (columns_task rec cap F (length es) (p + length (encode_int e))).fits ds (meet_column ds rec cap p (column_at F p).tree st) =
      subst (λ (t : IntForm). (columns_task rec cap F (length es) (p + length (encode_int e))).fits ds (meet_column ds rec cap p t st)) (sym f.tree) y in
      (x, subst (λ (q : ℕ). (columns_task rec cap F (length es) q).fits ds (meet_column ds rec cap p (column_at F p).tree st)) (sym f.end) z)

  -- nothing is asked where the walk is full
  columns_full : (es : List IntExpr) (p : ℕ) → Columns es p → (st : State) → is_full ds rec cap st ≡ true → (columns_task rec cap F (length es) p).fits ds st
  columns_full [] p h st f = unfold columns_task in tt
  columns_full (e ∷ es) p h st f =
      let i = column_spends ds rec cap p (resolve_int e never p 0) st f in
      columns_more e es p st h (column_full ds rec cap F e p h.legal.0 (first_words F parted with_ifs e es p h) st f) (columns_full es (p + length (encode_int e)) (stand_rest F parted with_ifs e es p h) (met_first e p st) (ap (ltb cap) i ∙ f))

  module _ (K : ℕ → Option IntExpr) (P : Places ds F PlainInt parted K (fixed ds)) where
    abbrev GoodAt : ℕ → State → Log → Type 0
    GoodAt = GoodFor ds F parted rec cap with_ifs before low K

    columns_fit : (es : List IntExpr) (p : ℕ) → Columns es p → WithinColumns ds es → (m : ℕ) (st : State) (s : Log) → Ahead F p st.work → LightIfs ds s → GoodAt (length es + m) st s → st.used ≤ words_of s + 0 → (columns_task rec cap F (length es) p).fits ds st
    unfolding columns_keys WithinColumns
    columns_fit [] p h i m st s a l g u = unfold columns_task in tt
    columns_fit (e ∷ es) p h i m st s a l g u =
        let x = column_asks ds F parted rec cap with_ifs before low K P e p h.legal.0 i.0 (first_words F parted with_ifs e es p h) h.from (first_to F parted with_ifs e es p h) agree (length (e ∷ es) + m) st s l g in
        columns_more e es p st h x (go (column_visit ds F parted K rec cap with_ifs before P low 64 p h.from e here_at 0 (length es + m) st s a (subst (λ n. GoodAt n st s) (omega arith) g) u) (λ g' u'. columns_fit es q h' i.1 m st' t ahead (column_light ds e s l) g' u'))
      where
        q : ℕ
        q = p + length (encode_int e)

        st' : State
        st' = met_first e p st

        t : Log
        t = (equivalent_int_var ds e s).log

        h' : Columns es q
        h' = stand_rest F parted with_ifs e es p h

        agree : Every (AgreesWith parted with_ifs) (keys_int e never p 0)
        agree = unfold columns_keys in every_left (keys_int e never p 0) (columns_keys es q) h.agree

        here_at : StandsHere ds F parted K rec cap with_ifs before P low 64 p h.from e
        here_at = (h.legal.0, first_words F parted with_ifs e es p h, first_to F parted with_ifs e es p h, agree)

        ahead : Ahead F q st'.work
        ahead = column_ahead ds F parted K rec cap with_ifs before P low 64 p h.from e here_at st (ahead_more F p q st.work (omega arith) a)

        go : OutcomeFor ds F parted rec cap with_ifs before low K 0 (length es + m) (λ w. PlacedInt w ds (resolve_int e never p 0) s) st st' t → (GoodAt (length es + m) st' t → st'.used ≤ words_of t + 0 → (columns_task rec cap F (length es) q).fits ds st') → (columns_task rec cap F (length es) q).fits ds st'
        go (full y z) f = columns_full es q h' st' (lt-ltb cap st'.used y)
        go (good y z r c) f = f y z

  pub table_fitting : (es : List IntExpr) (rows : List (List Cell)) (at : ℕ) → Has F at (encode_stmt (Table es rows)) → folded ≤ at → at + length (encode_stmt (Table es rows)) ≤ folded_end → Each (λ e. LegalInt e 64) es → WithinColumns ds es → Every (AgreesWith parted with_ifs) (columns_keys es (at + 3))
      → FittingHere (table_stage ds rec cap F es rows at) (table_task rec cap F at es rows)
  table_fitting es rows at words from to legal within agree n st s h u =
      let j = table_fresh (length es) rows in
      let stand : Columns es (at + 3) = record { legal = legal; words = table_words F at es rows words; from = omega arith; to = omega (arith, table_length es rows); agree = agree } in
      let g = good_less ds F PlainInt parted h.key (fixed ds) rec cap with_ifs before (Named ds) (length es + j + n) (length es + (j + n)) st s (omega arith) h.state in
      columns_fit h.key h.places es (at + 3) stand within (j + n) st s (ahead_more F at (at + 3) st.work (omega arith) h.ahead) h.light g (omega (arith, u))
