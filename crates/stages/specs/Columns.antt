-- The columns of a table in the first walk, one after another from a place on: the state behind them is that of the log, their Ifs are placed, and one
-- that is no declared variable has its number plus 1 at its place. F: the folded words, in which the columns stand.
use Rattle.std.specs.Prelude.{◌≡◌, Bool, true, false, cond, ℕ, zero, suc, ◌+◌, ◌≤◌, ◌<◌, ℤ, pos}
use Rattle.std.proofs.Math.Path.{refl, ap}
use Rattle.std.proofs.Common.{◌∙◌, subst, inl, length-append}
use Rattle.std.proofs.Math.Option.{Option}
use mathlib.Core.List.{List, [], ◌∷◌, ◌++◌, map}
use native.Mathlib.Omega.{arith}
use Rattle.std.proofs.Math.ListN.{length}
use Rattle.std.proofs.Math.Seq.{get_or-set_other}
use Rattle.laws.specs.Lists.{flat}
use Rattle.laws.specs.Slices.{Has, has_front, has_back}
use Rattle.memory.specs.Places.{folded, folded_end, cells, limit}
use Rattle.syntax.specs.Syntax.{Domain, IntExpr, IConst, IVar, Linear, If, encode_int}
use Rattle.syntax.specs.Lengths.{int_long}
use Rattle.words.specs.Exact.{Each}
use Rattle.clauses.specs.Log.{column, Log, next_int}
use Rattle.clauses.specs.Normalize.{normalize_int_expr}
use Rattle.tables.specs.Tables.{new_column, old_column, equivalent_int_var, equivalent_int_vars}
use Rattle.walk.proofs.Grow.{Grows, same, then, grow_added}
use Rattle.walks.specs.Tree.{IntTree, const, ivar, sum, choice, never, resolve_int}
use Rattle.walks.specs.Form.{IntForm, const as const-form, ivar as ivar-form, sum as sum-form, choice as choice-form, int_form}
use Rattle.walks.specs.Decode.{IntRead, decode_int}
use Rattle.walks.specs.DecodeExact.{column_stands}
use Rattle.walks.specs.Resolve.{column_runs, never_int}
use Rattle.walks.specs.Item.{cell}
use Rattle.walks.specs.Placed.{PlacedInt}
use Rattle.walks.specs.Meet.{State, is_full, new_int, form_meet_int}
use Rattle.walks.specs.Grow.{grow_int, int_var_grows, int_grow}
use Rattle.walks.specs.Plain.{PlainInt}
use Rattle.walks.specs.Constant.{Named}
use Rattle.walks.specs.Cells.{Places}
use Rattle.walks.specs.Good.{Good}
use Rattle.walks.specs.Leaves.{words_of, grows_words}
use Rattle.walks.specs.Legal.{LegalInt}
use Rattle.walks.specs.Visit.{int_meet_spends, same_later, Outcome, full, good, outcome_then, outcome_to, not_full}
use Rattle.walks.specs.Walked.{fixed, names}
use Rattle.walks.specs.Keys.{Key, keys_int, Every, every_left, every_right}
use Rattle.walks.specs.KeyPlaces.{AgreesWith}
use Rattle.walks.specs.Near.{WithinInt, int_form_near, column_inside}
use Rattle.walks.specs.Next.{Ahead, ahead_more}
use Rattle.walks.specs.Column.{number_column, meet_sum, meet_column, IsSum, StandsHere, column_visit, column_ahead, column_kept}

-- ---- the walk

-- the column at a place: its form, and where it ends
abbrev pub column_at : List ℤ → ℕ → IntRead
column_at ws p = decode_int ws 64 never p 0

-- where so many from a place on end
unfoldable pub columns_end : List ℤ → ℕ → ℕ → ℕ
columns_end ws zero p = p
columns_end ws (suc k) p = columns_end ws k (column_at ws p).end

-- ds: the declared domains, rec: where the records begin, cap: the longest answer
module _ (ds : List Domain) (rec cap : ℕ) where
  unfoldable pub meet_columns : List ℤ → ℕ → ℕ → State → State
  meet_columns ws zero p st = st
  meet_columns ws (suc k) p st = meet_columns ws k (column_at ws p).end (meet_column ds rec cap p (column_at ws p).tree st)

-- ---- what a work slice says of the columns

-- the cells from a to b stay
abbrev pub SameCells : ℕ → ℕ → List ℤ → List ℤ → Type 0
SameCells a b w w' = (q : ℕ) → a ≤ q → q < b → cell w' q ≡ cell w q

module _ (ds : List Domain) where
  -- the column e at p, from the log s: its Ifs, and its own number plus 1 where it is no declared variable
  abbrev pub PlacedColumn : List ℤ → ℕ → IntExpr → Log → Type 0
  PlacedColumn w p e s = PlacedInt w ds (resolve_int e never p 0) s × (IsSum e → cell w p ≡ pos (next_int (normalize_int_expr ds e s).1 + 1))

  unfoldable pub PlacedColumns : List ℤ → ℕ → List IntExpr → Log → Type 0
  PlacedColumns w p [] s = Unit {0}
  PlacedColumns w p (e ∷ es) s = PlacedColumn w p e s × PlacedColumns w (p + length (encode_int e)) es (equivalent_int_var ds e s).log

-- ---- the log behind the columns

module _ (ds : List Domain) where
  expr_grows : (e : IntExpr) (s : Log) → Grows s (normalize_int_expr ds e s).1
  expr_grows e s = rw (column_runs ds e 0 0) (int_grow ds (resolve_int e never 0 0) s)

  sum_grows : (e : IntExpr) (s : Log) → Grows s (new_column ds (normalize_int_expr ds e s)).log
  unfolding new_column
  sum_grows e s = then (expr_grows e s) (then (grow_int (column _ _) _ (λ v. refl)) (grow_added _ _))

  column_grows : (e : IntExpr) (s : Log) → Grows s (equivalent_int_var ds e s).log
  unfolding equivalent_int_var old_column
  column_grows (IConst c) s = sum_grows (IConst c) s
  column_grows (IVar v) s = int_var_grows v s
  column_grows (Linear ts) s = sum_grows (Linear ts) s
  column_grows (If i c t f) s = sum_grows (If i c t f) s

  pub columns_grow : (es : List IntExpr) (s : Log) → Grows s (equivalent_int_vars ds es s).log
  unfolding equivalent_int_vars
  columns_grow [] s = same
  columns_grow (e ∷ es) s = then (column_grows e s) (columns_grow es (equivalent_int_var ds e s).log)

-- ---- one column: a full walk spends nothing more, and the cells before its place stay

either : (P : State → Type 0) (b : Bool) (x y : State) → P x → P y → P (cond b x y)
either P true x y i j = i
either P false x y i j = j

module _ (ds : List Domain) (rec cap p : ℕ) where
  abbrev visited : IntForm → State → State
  visited e st = form_meet_int ds rec cap e st

  sum_spends : (e : IntForm) (st : State) → (meet_sum ds rec cap p e st).used ≡ (visited e st).used
  unfolding meet_sum number_column new_int
  sum_spends e st = either (λ x. x.used ≡ (visited e st).used) (is_full ds rec cap (visited e st)) (visited e st) _ refl refl

  pub column_spends : (t : IntTree) (st : State) → is_full ds rec cap st ≡ true → (meet_column ds rec cap p (int_form t) st).used ≡ st.used
  unfolding int_form meet_column
  column_spends (const c) st f = sum_spends (int_form (const c)) st ∙ int_meet_spends ds rec cap (const c) st f
  column_spends (ivar v) st f = int_meet_spends ds rec cap (ivar v) st f
  column_spends (sum ts) st f = sum_spends (int_form (sum ts)) st ∙ int_meet_spends ds rec cap (sum ts) st f
  column_spends (choice i q e c d t u) st f = sum_spends (int_form (choice i q e c d t u)) st ∙ int_meet_spends ds rec cap (choice i q e c d t u) st f

  -- a form that stands from p to b
  module _ (b q : ℕ) (low : folded ≤ q) (under : q < p) where
    number_near : (d : Domain) (st : State) → cell (number_column ds rec cap p d st).work q ≡ cell st.work q
    unfolding number_column new_int cell
    number_near d st = get_or-set_other st.work (cells + p) (cells + q) _ (pos 0) (λ e. omega arith)

    form_near : (e : IntForm) → WithinInt p b e → (st : State) → cell (visited e st).work q ≡ cell st.work q
    form_near e h st = int_form_near ds rec cap p b q (low, inl (omega arith)) e h st

    sum_near : (e : IntForm) → WithinInt p b e → (st : State) → cell (meet_sum ds rec cap p e st).work q ≡ cell st.work q
    unfolding meet_sum
    sum_near e h st =
        let x = form_near e h st in
        either (λ y. cell y.work q ≡ cell st.work q) (is_full ds rec cap (visited e st)) (visited e st) _ x (number_near _ (visited e st) ∙ x)

    column_near : (e : IntForm) → WithinInt p b e → (st : State) → cell (meet_column ds rec cap p e st).work q ≡ cell st.work q
    unfolding meet_column
    column_near (const-form c) h st = sum_near (const-form c) h st
    column_near (ivar-form v) h st = form_near (ivar-form v) h st
    column_near (sum-form ts) h st = sum_near (sum-form ts) h st
    column_near (choice-form x o c d t f) h st = sum_near (choice-form x o c d t f) h st

-- ---- columns that stand in the folded words

-- their Ifs
unfoldable pub columns_keys : List IntExpr → ℕ → List Key
columns_keys [] p = []
columns_keys (e ∷ es) p = keys_int e never p 0 ++ columns_keys es (p + length (encode_int e))

abbrev pub columns_words : List IntExpr → List ℤ
columns_words es = flat (map encode_int es)

-- parted: the places of Ifs with split parts, which no column has; with-ifs: whether the folded words have Ifs
module _ (F : List ℤ) (parted : ℕ → Bool) (with_ifs : Bool) where
  pub record ColumnsStand (es : List IntExpr) (p : ℕ) : Type 0 where
    pub legal : Each (λ e. LegalInt e 64) es
    pub words : Has F p (columns_words es)
    pub from : folded ≤ p
    pub to : p + length (columns_words es) ≤ folded_end
    pub agree : Every (AgreesWith parted with_ifs) (columns_keys es p)

  -- the first column's words, and where they end
  pub first_words : (e : IntExpr) (es : List IntExpr) (p : ℕ) → ColumnsStand (e ∷ es) p → Has F p (encode_int e)
  first_words e es p h = has_front F p (encode_int e) (columns_words es) h.words

  more_words : (e : IntExpr) (es : List IntExpr) → length (columns_words (e ∷ es)) ≡ length (encode_int e) + length (columns_words es)
  more_words e es = length-append (encode_int e) (columns_words es)

  pub first_to : (e : IntExpr) (es : List IntExpr) (p : ℕ) → ColumnsStand (e ∷ es) p → p + length (encode_int e) ≤ folded_end
  first_to e es p h = omega (arith, h.to, more_words e es)

  pub stand_rest : (e : IntExpr) (es : List IntExpr) (p : ℕ) → ColumnsStand (e ∷ es) p → ColumnsStand es (p + length (encode_int e))
  unfolding columns_keys
  stand_rest e es p h = record {
    legal = h.legal.1;
    words = has_back F p (encode_int e) (columns_words es) h.words;
    from = omega (arith, h.from);
    to = omega (arith, h.to, more_words e es);
    agree = every_right (keys_int e never p 0) (columns_keys es (p + length (encode_int e))) h.agree;
  }

  first_inside : (e : IntExpr) (p : ℕ) → LegalInt e 64 → WithinInt p (p + length (encode_int e)) (int_form (resolve_int e never p 0))
  first_inside e p h = column_inside e 64 never p 0 h (omega (arith, never_int e))

  -- the form and the end of the first
  pub record FirstStands (e : IntExpr) (p : ℕ) : Type 0 where
    pub tree : (column_at F p).tree ≡ int_form (resolve_int e never p 0)
    pub end : (column_at F p).end ≡ p + length (encode_int e)

  pub first_stands : (e : IntExpr) (es : List IntExpr) (p : ℕ) → ColumnsStand (e ∷ es) p → FirstStands e p
  first_stands e es p h = let x = column_stands e F 64 p 0 h.legal.0 (first_words e es p h) (omega arith) in record { tree = x.tree; end = x.end }

  pub columns_stop : (es : List IntExpr) (p : ℕ) → ColumnsStand es p → columns_end F (length es) p ≡ p + length (columns_words es)
  unfolding columns_end
  columns_stop [] p h = omega arith
  columns_stop (e ∷ es) p h = ap (columns_end F (length es)) (first_stands e es p h).end ∙ columns_stop es (p + length (encode_int e)) (stand_rest e es p h) ∙ omega (arith, more_words e es)

  -- ---- the walk over them; ds, rec, cap as above

  module _ (ds : List Domain) (rec cap : ℕ) where
    abbrev met_first : IntExpr → ℕ → State → State
    met_first e p st = meet_column ds rec cap p (int_form (resolve_int e never p 0)) st

    -- behind the first
    columns_more : (e : IntExpr) (es : List IntExpr) (p : ℕ) (st : State) → ColumnsStand (e ∷ es) p
        → meet_columns ds rec cap F (length (e ∷ es)) p st ≡ meet_columns ds rec cap F (length es) (p + length (encode_int e)) (met_first e p st)
    unfolding meet_columns
    columns_more e es p st h =
        let x = first_stands e es p h in
        ap (λ (t : IntForm). meet_columns ds rec cap F (length es) (column_at F p).end (meet_column ds rec cap p t st)) x.tree ∙ ap (λ (q : ℕ). meet_columns ds rec cap F (length es) q (met_first e p st)) x.end

    pub columns_spend : (es : List IntExpr) (p : ℕ) (st : State) → ColumnsStand es p → is_full ds rec cap st ≡ true → (meet_columns ds rec cap F (length es) p st).used ≡ st.used
    columns_spend [] p st h f = unfold meet_columns in refl
    columns_spend (e ∷ es) p st h f =
        let x = column_spends ds rec cap p (resolve_int e never p 0) st f in
        ap (λ (y : State). y.used) (columns_more e es p st h) ∙ columns_spend es (p + length (encode_int e)) (met_first e p st) (stand_rest e es p h) (rw x f) ∙ x

    -- the cells before them stay
    pub columns_near : (es : List IntExpr) (p : ℕ) (st : State) → ColumnsStand es p → (q : ℕ) → folded ≤ q → q < p → cell (meet_columns ds rec cap F (length es) p st).work q ≡ cell st.work q
    columns_near [] p st h q l m = unfold meet_columns in refl
    columns_near (e ∷ es) p st h q l m =
        let x = column_near ds rec cap p (p + length (encode_int e)) q l m (int_form (resolve_int e never p 0)) (first_inside e p h.legal.0) st in
        ap (λ (y : State). cell y.work q) (columns_more e es p st h) ∙ columns_near es (p + length (encode_int e)) (met_first e p st) (stand_rest e es p h) q l (omega arith) ∙ x

  -- ---- the state behind them is that of the log; as in Column

  module _ (ds : List Domain) (K : ℕ → Option IntExpr) (rec cap : ℕ) (before : List ℤ) (P : Places ds F PlainInt parted K (fixed ds)) (low : cap < limit) where
    abbrev GoodAt : ℕ → State → Log → Type 0
    GoodAt = Good ds F PlainInt parted K (fixed ds) rec cap with_ifs before (Named ds)

    abbrev OutcomeAt : ℕ → ℕ → (List ℤ → Type 0) → State → State → Log → Type 0
    OutcomeAt = Outcome ds F PlainInt parted K (fixed ds) rec cap with_ifs before (Named ds)

    first_here : (e : IntExpr) (es : List IntExpr) (p : ℕ) (h : ColumnsStand (e ∷ es) p) → StandsHere ds F parted K rec cap with_ifs before P low 64 p h.from e
    unfolding columns_keys
    first_here e es p h = (h.legal.0, first_words e es p h, first_to e es p h, every_left (keys_int e never p 0) (columns_keys es (p + length (encode_int e))) h.agree)

    -- where the column's own cell stays
    first_visit : (e : IntExpr) (es : List IntExpr) (p : ℕ) → ColumnsStand (e ∷ es) p → (k m : ℕ) (st : State) (s : Log) → Ahead F p st.work → GoodAt (suc m) st s → st.used ≤ words_of s + k
        → OutcomeAt k m (λ w. cell w p ≡ cell (met_first ds rec cap e p st).work p → PlacedColumn ds w p e s) st (met_first ds rec cap e p st) (equivalent_int_var ds e s).log
    first_visit e es p h k m st s a g u = go (column_visit ds F parted K rec cap with_ifs before P low 64 p h.from e (first_here e es p h) k m st s a g u)
      where
        go : OutcomeAt k m (λ w. PlacedInt w ds (resolve_int e never p 0) s) st (met_first ds rec cap e p st) (equivalent_int_var ds e s).log
            → OutcomeAt k m (λ w. cell w p ≡ cell (met_first ds rec cap e p st).work p → PlacedColumn ds w p e s) st (met_first ds rec cap e p st) (equivalent_int_var ds e s).log
        go (full x y) = full x y
        go (good i v r q) =
            let f = not_full ds F PlainInt parted K (fixed ds) rec cap with_ifs before (Named ds) (names ds) P low (met_first ds rec cap e p st) i.used in
            good i v r (λ w l c. (q w l, λ j. c ∙ column_kept ds F parted K rec cap with_ifs before P low 64 p h.from e j (first_here e es p h) k m st s g u f))

    pub columns_ahead : (es : List IntExpr) (p : ℕ) (st : State) → ColumnsStand es p → Ahead F p st.work → Ahead F (p + length (columns_words es)) (meet_columns ds rec cap F (length es) p st).work
    columns_ahead [] p st h a = unfold meet_columns in ahead_more F p (p + 0) st.work (omega arith) a
    columns_ahead (e ∷ es) p st h a =
        let q = p + length (encode_int e) in
        let x = column_ahead ds F parted K rec cap with_ifs before P low 64 p h.from e (first_here e es p h) st (ahead_more F p q st.work (omega arith) a) in
        let y = columns_ahead es q (met_first ds rec cap e p st) (stand_rest e es p h) x in
        rw (columns_more ds rec cap e es p st h) (ahead_more F _ _ _ (omega (arith, more_words e es)) y)

    -- in every later slice where their own cells stay
    pub columns_visit : (es : List IntExpr) (p : ℕ) → ColumnsStand es p → (k m : ℕ) (st : State) (s : Log) → Ahead F p st.work → GoodAt (length es + m) st s → st.used ≤ words_of s + k
        → let st' = meet_columns ds rec cap F (length es) p st in
        OutcomeAt k m (λ w. SameCells p (p + length (columns_words es)) st'.work w → PlacedColumns ds w p es s) st st' (equivalent_int_vars ds es s).log
    unfolding equivalent_int_vars PlacedColumns
    columns_visit [] p h k m st s a g u = unfold meet_columns in good (subst (λ n. GoodAt n st s) (omega arith) g) u (same_later ds F PlainInt parted K (fixed ds) st.work) (λ w l c. tt)
    columns_visit (e ∷ es) p h k m st s a g u =
        let q = p + length (encode_int e) in
        let t = (equivalent_int_var ds e s).log in
        let st' = met_first ds rec cap e p st in
        let b = meet_columns ds rec cap F (length es) q st' in
        let h' = stand_rest e es p h in
        let x = first_visit e es p h k (length es + m) st s a (subst (λ n. GoodAt n st s) (omega arith) g) u in
        let a' = column_ahead ds F parted K rec cap with_ifs before P low 64 p h.from e (first_here e es p h) st (ahead_more F p q st.work (omega arith) a) in
        let y = outcome_then ds F PlainInt parted K (fixed ds) rec cap with_ifs before (Named ds) k (length es + m) m (λ w. cell w p ≡ cell st'.work p → PlacedColumn ds w p e s)
        (λ w. SameCells q (q + length (columns_words es)) b.work w → PlacedColumns ds w q es t) st st' b t (equivalent_int_vars ds es t).log
        (λ f. columns_spend ds rec cap es q st' h' f) (grows_words (columns_grow ds es t)) x (λ g' u'. columns_visit es q h' k m st' t a' g' u') in
        let near = columns_near ds rec cap es q st' h' p h.from (omega (arith, int_long e)) in
        let n = more_words e es in
        rw (columns_more ds rec cap e es p st h) (outcome_to ds F PlainInt parted K (fixed ds) rec cap with_ifs before (Named ds) (λ w z c. (z.0 (c p (omega arith) (omega (arith, n, int_long e)) ∙ near), z.1 (λ r i j. c r (omega arith) (omega (arith, n))))) y)
