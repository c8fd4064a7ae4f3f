-- The pairs numbered again and written one after the other. Assumes nothing.
use mathlib.Core.Path.{◌≡◌, refl, sym, ap, ◌∙◌, subst}
use mathlib.Core.List.{List}
use Prim.Native.Nat.{ℕ, ◌-◌, ◌≤◌, ◌<◌}
use lib.IntN.{ℤ}
use Rattle.memory.specs.Places.{folded_end}
use Rattle.walk.specs.Decode.{read_part}
use Rattle.walks.specs.Meet.{State}
use Rattle.stages.specs.Columns.{column_at}
use Rattle.numbering.specs.Task.{Low}
use Rattle.differing.specs.Rows.{end_at}
use Rattle.differing.specs.Again.{Redo, Asked, Ahead, Redone, Going, going_start, going_asks, going_next, going_full, going_end, pair_redo, row_redo, pairs_redo, row_splits, pairs_split, row_none, pairs_none}

-- ---- a row

module _ (rec cap p n at : ℕ) (st : State) (out : List ℤ) (o c : ℕ) where
  abbrev ws : List ℤ
  ws = read_part st.work

  abbrev row : ℕ → ℕ → Redo
  row k q = row_redo rec cap ws p k q

  abbrev pub RowGoing : ℕ → ℕ → State → List ℤ → ℕ → ℕ → Type 0
  RowGoing rest b st' out' o' c' = (b ≤ folded_end) × Going cap (row n at) (row rest b) st st' out o c out' o' c'

  pub row_begins : at ≤ folded_end → Low st → Ahead out o c → RowGoing n at st out o c
  row_begins h l a = (h, going_start cap (row n at) st out o c l a)

  module _ (rest b : ℕ) (st' : State) (out' : List ℤ) (o' c' : ℕ) (g : RowGoing rest b st' out' o' c') where
    pub row_full : cap < st'.used → Redone cap (row n at) st st' out o c out' o' c'
    row_full u = going_full cap (row n at) st out o c (row rest b) st' out' o' c' g.1 u

    pub row_ends : rest ≡ 0 → Redone cap (row n at) st st' out o c out' o' c'
    row_ends z = going_end cap (row n at) st out o c (row rest b) st' out' o' c' g.1 (row_none rec cap ws p rest b z)

    module _ (z : rest ≡ 0 → ⊥) (more : st'.used ≤ cap) where
      pub row_asks : Asked (row n at) st rec → Asked (pair_redo rec cap (read_part st'.work) p b) st' rec
      row_asks a = subst (λ (v : List ℤ). Asked (pair_redo rec cap v p b) st' rec) (sym g.1.kept.part)
          (going_asks cap (row n at) st out o c (row rest b) st' out' o' c' g.1 more (pair_redo rec cap ws p b) (row (rest - 1) (column_at ws b).end) (row_splits rec cap ws p rest b (column_at ws b).end z refl) rec a)

      pub row_goes : (next : ℕ) (st'' : State) (out'' : List ℤ) (o'' c'' : ℕ) → next ≡ end_at st'.work b → next ≤ folded_end → Redone cap (pair_redo rec cap (read_part st'.work) p b) st' st'' out' o' c' out'' o'' c'' → RowGoing (rest - 1) next st'' out'' o'' c''
      row_goes next st'' out'' o'' c'' e l y =
          let i : next ≡ (column_at ws b).end = e ∙ ap (λ (v : List ℤ). (column_at v b).end) g.1.kept.part in (
            l,
            going_next cap (row n at) st out o c (row rest b) st' out' o' c' g.1 more (pair_redo rec cap ws p b) (row (rest - 1) next) (row_splits rec cap ws p rest b next z i) st'' out'' o'' c''
                (subst (λ (v : List ℤ). Redone cap (pair_redo rec cap v p b) st' st'' out' o' c' out'' o'' c'') g.1.kept.part y),
          )

-- ---- all rows

module _ (rec cap n at : ℕ) (st : State) (out : List ℤ) (o c : ℕ) where
  abbrev words : List ℤ
  words = read_part st.work

  abbrev rows : ℕ → ℕ → Redo
  rows k q = pairs_redo rec cap words k q

  abbrev pub PairsGoing : ℕ → ℕ → State → List ℤ → ℕ → ℕ → Type 0
  PairsGoing rest p st' out' o' c' = (p ≤ folded_end) × Going cap (rows n at) (rows rest p) st st' out o c out' o' c'

  pub pairs_begin : at ≤ folded_end → Low st → Ahead out o c → PairsGoing n at st out o c
  pairs_begin h l a = (h, going_start cap (rows n at) st out o c l a)

  module _ (rest p : ℕ) (st' : State) (out' : List ℤ) (o' c' : ℕ) (g : PairsGoing rest p st' out' o' c') where
    pub pairs_full : cap < st'.used → Redone cap (rows n at) st st' out o c out' o' c'
    pairs_full u = going_full cap (rows n at) st out o c (rows rest p) st' out' o' c' g.1 u

    pub pairs_end : rest ≡ 0 → Redone cap (rows n at) st st' out o c out' o' c'
    pairs_end z = going_end cap (rows n at) st out o c (rows rest p) st' out' o' c' g.1 (pairs_none rec cap words rest p z)

    module _ (z : rest ≡ 0 → ⊥) (more : st'.used ≤ cap) (next : ℕ) (e : next ≡ end_at st'.work p) where
      next_is : next ≡ (column_at words p).end
      next_is = e ∙ ap (λ (v : List ℤ). (column_at v p).end) g.1.kept.part

      pub pairs_ask : Asked (rows n at) st rec → Asked (row_redo rec cap (read_part st'.work) p (rest - 1) next) st' rec
      pairs_ask a = subst (λ (v : List ℤ). Asked (row_redo rec cap v p (rest - 1) next) st' rec) (sym g.1.kept.part)
          (going_asks cap (rows n at) st out o c (rows rest p) st' out' o' c' g.1 more (row_redo rec cap words p (rest - 1) next) (rows (rest - 1) next) (pairs_split rec cap words rest p next z next_is) rec a)

      pub pairs_go : (st'' : State) (out'' : List ℤ) (o'' c'' : ℕ) → next ≤ folded_end → Redone cap (row_redo rec cap (read_part st'.work) p (rest - 1) next) st' st'' out' o' c' out'' o'' c'' → PairsGoing (rest - 1) next st'' out'' o'' c''
      pairs_go st'' out'' o'' c'' l y = (
        l,
        going_next cap (rows n at) st out o c (rows rest p) st' out' o' c' g.1 more (row_redo rec cap words p (rest - 1) next) (rows (rest - 1) next) (pairs_split rec cap words rest p next z next_is) st'' out'' o'' c''
            (subst (λ (v : List ℤ). Redone cap (row_redo rec cap v p (rest - 1) next) st' st'' out' o' c' out'' o'' c'') g.1.kept.part y),
      )
