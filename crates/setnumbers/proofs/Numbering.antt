-- Tasks one after another in the code's loops: what is left of a task, what the next part asks, what is done behind the last.
use mathlib.Core.Path.{◌≡◌, refl, sym, ap, ◌∙◌, subst}
use mathlib.Core.Bool.{false}
use mathlib.Core.List.{List}
use Prim.Native.Nat.{ℕ, zero, suc, ◌-◌, ◌≤◌, ◌<◌, zero-le}
use native.Mathlib.Omega.{arith}
use native.Mathlib.Numerals.{sub-one}
use lib.IntN.{ℤ}
use lib.Dec.{ltb}
use borrow.Author.Tests.{lt-ltb, le-ltb}
use Rattle.memory.specs.Places.{folded_end}
use Rattle.syntax.specs.Syntax.{Domain}
use Rattle.walk.specs.Decode.{read_part}
use Rattle.walks.specs.Tree.{here}
use Rattle.walks.specs.Item.{has_ifs}
use Rattle.walks.specs.Decode.{decode_int}
use Rattle.walks.specs.Meet.{State, with_work}
use Rattle.walks.specs.Tree.{never}
use Rattle.stages.specs.Columns.{column_at, columns_end}
use Rattle.scan.specs.Skip.{split_by, IntSkips}
use Rattle.numbering.specs.Task.{Task, skip, then, Low, kept_same, Done, Left, left_all, left_done, left_next, ready_next, Starts}
use Rattle.numbering.specs.Steps.{int_at}
use Rattle.numbering.specs.TieWalk.{int_skips_as}
use Rattle.numbering.specs.Rules.{pair_task}
use Rattle.numbering.specs.Columns.{column_task}
use Rattle.stmtwords.specs.Cleared.{Cleared, pair_ifs}
use Rattle.numbering.specs.Tasks.{stopping, columns_task, clear_task, cleared_task, row_task, pairs_task, Quits, quits_skip, Before, before_none, row_before, row_quits, pairs_quit}
use Rattle.setnumbers.specs.Once.{each_task, PlainSides, once_meets, once_fits}
use Rattle.setnumbers.specs.Numbered.{Asks}
use Rattle.stmtwords.proofs.Words.{columns_more, columns_none}

-- ---- stopping

module _ (cap : ℕ) (t a r : Task) (st st' : State) where
  pub left_on : st'.used ≤ cap → Left t st (stopping cap a r) st' → Left t st (then a r) st'
  left_on h x =
      let e : ltb cap st'.used ≡ false = le-ltb cap st'.used h in
      record { fits = λ ds d f. rw e at (x.fits ds d f); state = λ ds d f. rw e at (x.state ds d f); kept = x.kept; low = x.low }

pub left_full : (cap : ℕ) (t x : Task) (st st' : State) → cap < st'.used → Quits cap x → Left t st x st' → Done t st st'
left_full cap t x st st' h q l = record { state = λ ds d f. sym (q.meet ds st' (lt-ltb cap st'.used h)) ∙ l.state ds d f; kept = l.kept; low = l.low }

-- what the next part asks
pub asks_next : (a : List ℤ → Task) (t r : Task) (st st' : State) (rec : ℕ) → Asks t st rec → Left t st (then (a (read_part st.work)) r) st' → Asks (a (read_part st'.work)) st' rec
asks_next a t r st st' rec k x = record { long = omega (arith, k.long, x.kept.size); records = k.records; low = x.low; ready = ready_next a r k.ready x }

-- what numbering's functions ask
pub starts_of : {t : Task} {st : State} {rec at : ℕ} → at ≤ folded_end → Asks t st rec → Starts t st rec at 0
starts_of i a = record { size = omega (arith, a.long); inside = i; low_base = zero-le; records = a.records; low = a.low; ready = a.ready }

-- ---- columns

module _ (rec cap : ℕ) (n at : ℕ) (st : State) where
  abbrev pub Columns : ℕ → ℕ → State → Type 0
  Columns rest q st' = (q ≤ folded_end) × Left (columns_task rec cap (read_part st.work) n at) st (columns_task rec cap (read_part st.work) rest q) st' × (columns_end (read_part st.work) rest q ≡ columns_end (read_part st.work) n at)

  pub columns_first : at ≤ folded_end → Low st → Columns n at st
  columns_first h l = (h, left_all (columns_task rec cap (read_part st.work) n at) st l, refl)

  module _ (rest q : ℕ) (st' : State) (z : rest ≡ 0 → ⊥) (x : Columns rest q st') where
    columns_some : Left (columns_task rec cap (read_part st.work) n at) st (then (column_task rec cap (read_part st.work) q) (columns_task rec cap (read_part st.work) (rest - 1) (column_at (read_part st.work) q).end)) st'
    columns_some = go rest z x.1
      where
        go : (k : ℕ) → (k ≡ 0 → ⊥) → Left (columns_task rec cap (read_part st.work) n at) st (columns_task rec cap (read_part st.work) k q) st'
            → Left (columns_task rec cap (read_part st.work) n at) st (then (column_task rec cap (read_part st.work) q) (columns_task rec cap (read_part st.work) (k - 1) (column_at (read_part st.work) q).end)) st'
        go zero i y = absurd (i refl)
        go (suc k) i y = rw sub-one (unfold columns_task in y)

    pub column_asks : Asks (columns_task rec cap (read_part st.work) n at) st rec → Asks (column_task rec cap (read_part st'.work) q) st' rec
    column_asks k = asks_next (λ ws. column_task rec cap ws q) (columns_task rec cap (read_part st.work) n at) (columns_task rec cap (read_part st.work) (rest - 1) (column_at (read_part st.work) q).end) st st' rec k columns_some

    pub columns_next : (st'' : State) (q' b : ℕ) → IntSkips (read_part st'.work) 64 never q 0 q' b → Done (column_task rec cap (read_part st'.work) q) st' st'' → Columns (rest - 1) q' st''
    unfolding split_by
    columns_next st'' q' b s y =
        let e : (column_at (read_part st.work) q).end ≡ q' = ap (λ (ws : List ℤ). (column_at ws q).end) (sym x.1.kept.part) ∙ sym s.end in (
          s.inside,
          subst (λ (i : ℕ). Left (columns_task rec cap (read_part st.work) n at) st (columns_task rec cap (read_part st.work) (rest - 1) i) st'') e (left_next (λ ws. column_task rec cap ws q) columns_some y),
          columns_more (read_part st.work) rest q q' b z (int_skips_as x.1.kept.part s) ∙ x.2,
        )

  pub columns_last : (rest q : ℕ) (st' : State) → rest ≡ 0 → Columns rest q st' → Done (columns_task rec cap (read_part st.work) n at) st st' × (q ≡ columns_end (read_part st.work) n at)
  columns_last rest q st' z x = (go rest z x.1, columns_none (read_part st.work) rest q z ∙ x.2)
    where
      go : (k : ℕ) → k ≡ 0 → Left (columns_task rec cap (read_part st.work) n at) st (columns_task rec cap (read_part st.work) k q) st' → Done (columns_task rec cap (read_part st.work) n at) st st'
      go zero i y = left_done (unfold columns_task in y)
      go (suc k) i y = absurd (omega arith)

-- ---- a pair

left_then : (t a b r : Task) (st st' : State) → Left t st (then (then a b) r) st' → Left t st (then a (then b r)) st'
left_then t a b r st st' x = record { fits = λ ds d f. let h = x.fits ds d f in (h.0.0, (h.0.1, h.1)); state = x.state; kept = x.kept; low = x.low }

-- its Ifs cleared
clear_done : (p q : ℕ) (st : State) (w' : List ℤ) → Low st → Cleared (pair_ifs st.work p q) st.work w' → Done (clear_task p q) st (with_work w' st)
unfolding clear_task
clear_done p q st w' l x = record {
  state = λ ds d f. ap (λ (w : List ℤ). with_work w st) x.cells;
  kept = record { part = x.part; behind = x.behind; size = x.size; room = refl };
  low = record { bools = l.bools; ints = l.ints; used = l.used };
}

-- ---- an expression with each of so many; k: as many as there are

module _ (rec cap p n at : ℕ) (st : State) where
  abbrev row_of : ℕ → ℕ → Task
  row_of k q = row_task rec cap (read_part st.work) p k q skip

  abbrev pub Row : ℕ → ℕ → State → Type 0
  Row rest q st' = (q ≤ folded_end) × Left (row_of n at) st (row_of rest q) st'

  pub row_first : at ≤ folded_end → Low st → Row n at st
  row_first h l = (h, left_all (row_of n at) st l)

  pub row_full : (rest q : ℕ) (st' : State) → cap < st'.used → Row rest q st' → Done (row_of n at) st st'
  row_full rest q st' h x = left_full cap (row_of n at) (row_of rest q) st st' h (row_quits rec cap (read_part st.work) p rest q skip (quits_skip cap)) x.1

  module _ (rest q : ℕ) (st' : State) (z : rest ≡ 0 → ⊥) (more : st'.used ≤ cap) (x : Row rest q st') where
    abbrev end_of : ℕ
    end_of = (column_at (read_part st.work) q).end

    row_some : Left (row_of n at) st (then (clear_task p q) (then (pair_task rec cap (read_part st.work) p q) (row_of (rest - 1) end_of))) st'
    row_some = left_then (row_of n at) (clear_task p q) (pair_task rec cap (read_part st.work) p q) (row_of (rest - 1) end_of) st st' (left_on cap (row_of n at) (cleared_task rec cap (read_part st.work) p q) (row_of (rest - 1) end_of) st st' more (go rest z x.1))
      where
        go : (k : ℕ) → (k ≡ 0 → ⊥) → Left (row_of n at) st (row_of k q) st' → Left (row_of n at) st (stopping cap (cleared_task rec cap (read_part st.work) p q) (row_of (k - 1) end_of)) st'
        go zero i y = absurd (i refl)
        go (suc k) i y = rw sub-one (unfold row_task in y)

    module _ (w'' : List ℤ) (c : Cleared (pair_ifs st'.work p q) st'.work w'') where
      row_cleared : Left (row_of n at) st (then (pair_task rec cap (read_part st.work) p q) (row_of (rest - 1) end_of)) (with_work w'' st')
      row_cleared = left_next (λ ws. clear_task p q) row_some (clear_done p q st' w'' x.1.low c)

      pub pair_asks : Asks (row_of n at) st rec → Asks (pair_task rec cap (read_part w'') p q) (with_work w'' st') rec
      pair_asks k = asks_next (λ ws. pair_task rec cap ws p q) (row_of n at) (row_of (rest - 1) end_of) st (with_work w'' st') rec k row_cleared

      pub row_next : (st'' : State) (q' b : ℕ) → IntSkips (read_part st'.work) 64 (split_by 0) q 0 q' b → Done (pair_task rec cap (read_part w'') p q) (with_work w'' st') st'' → Row (rest - 1) q' st''
      unfolding split_by
      row_next st'' q' b s y =
          let e : end_of ≡ q' = ap (λ (ws : List ℤ). (column_at ws q).end) (sym x.1.kept.part) ∙ sym s.end in
          (s.inside, subst (λ (i : ℕ). Left (row_of n at) st (row_of (rest - 1) i) st'') e (left_next (λ ws. pair_task rec cap ws p q) row_cleared y))

  pub row_last : (rest q : ℕ) (st' : State) → rest ≡ 0 → Row rest q st' → Done (row_of n at) st st'
  row_last rest q st' z x = go rest z x.1
    where
      go : (k : ℕ) → k ≡ 0 → Left (row_of n at) st (row_of k q) st' → Done (row_of n at) st st'
      go zero i y = left_done (unfold row_task in y)
      go (suc k) i y = absurd (omega arith)

-- ---- all pairs

pub left_before : (t a x y : Task) (st st' : State) → Before a x y → Left t st y st' → Left t st (then a x) st'
left_before t a x y st st' b l = record { fits = λ ds d f. b.fits ds st' (l.fits ds d f); state = λ ds d f. sym (b.meet ds st') ∙ l.state ds d f; kept = l.kept; low = l.low }

module _ (rec cap n at : ℕ) (st : State) where
  abbrev pairs_of : ℕ → ℕ → Task
  pairs_of k p = pairs_task rec cap (read_part st.work) k p skip

  abbrev pub Pairs : ℕ → ℕ → State → Type 0
  Pairs rest p st' = (p ≤ folded_end) × Left (pairs_of n at) st (pairs_of rest p) st'

  pub pairs_first : at ≤ folded_end → Low st → Pairs n at st
  pairs_first h l = (h, left_all (pairs_of n at) st l)

  module _ (rest p : ℕ) (st' : State) (z : rest ≡ 0 → ⊥) (x : Pairs rest p st') (q b : ℕ) (s : IntSkips (read_part st'.work) 64 (split_by 0) p 0 q b) where
    pairs_some : Left (pairs_of n at) st (then (row_task rec cap (read_part st.work) p (rest - 1) q skip) (pairs_of (rest - 1) q)) st'
    pairs_some =
        let e : (column_at (read_part st.work) p).end ≡ q = ap (λ (ws : List ℤ). (column_at ws p).end) (sym x.1.kept.part) ∙ (unfold split_by in sym s.end) in
        let r = pairs_of (rest - 1) q in
        left_before (pairs_of n at) (row_task rec cap (read_part st.work) p (rest - 1) q skip) r (row_task rec cap (read_part st.work) p (rest - 1) q r) st st'
        (row_before rec cap (read_part st.work) p (rest - 1) q skip r r (pairs_quit rec cap (read_part st.work) (rest - 1) q skip (quits_skip cap)) (before_none r))
        (subst (λ (i : ℕ). Left (pairs_of n at) st (row_task rec cap (read_part st.work) p (rest - 1) i (pairs_of (rest - 1) i)) st') e (go rest z x.1))
      where
        go : (k : ℕ) → (k ≡ 0 → ⊥) → Left (pairs_of n at) st (pairs_of k p) st' → (let q = (column_at (read_part st.work) p).end in Left (pairs_of n at) st (row_task rec cap (read_part st.work) p (k - 1) q (pairs_of (k - 1) q)) st')
        go zero i y = absurd (i refl)
        go (suc k) i y = rw sub-one (unfold pairs_task in y)

    pub row_asks : Asks (pairs_of n at) st rec → Asks (row_task rec cap (read_part st'.work) p (rest - 1) q skip) st' rec
    row_asks k = asks_next (λ ws. row_task rec cap ws p (rest - 1) q skip) (pairs_of n at) (pairs_of (rest - 1) q) st st' rec k pairs_some

    pub pairs_next : (st'' : State) → Done (row_task rec cap (read_part st'.work) p (rest - 1) q skip) st' st'' → Pairs (rest - 1) q st''
    pairs_next st'' y = (s.inside, left_next (λ ws. row_task rec cap ws p (rest - 1) q skip) pairs_some y)

  pub pairs_last : (rest p : ℕ) (st' : State) → rest ≡ 0 → Pairs rest p st' → Done (pairs_of n at) st st'
  pairs_last rest p st' z x = go rest z x.1
    where
      go : (k : ℕ) → k ≡ 0 → Left (pairs_of n at) st (pairs_of k p) st' → Done (pairs_of n at) st st'
      go zero i y = left_done (unfold pairs_task in y)
      go (suc k) i y = absurd (omega arith)

-- ---- each expression once

module _ (rec cap n at : ℕ) (st : State) where
  abbrev each_of : ℕ → ℕ → Task
  each_of k q = each_task rec cap (read_part st.work) k q

  abbrev pub Expressions : ℕ → ℕ → State → Type 0
  Expressions rest q st' = (q ≤ folded_end) × Left (each_of n at) st (each_of rest q) st'

  pub each_first : at ≤ folded_end → Low st → Expressions n at st
  each_first h l = (h, left_all (each_of n at) st l)

  module _ (rest q : ℕ) (st' : State) (z : rest ≡ 0 → ⊥) (x : Expressions rest q st') where
    abbrev expression : List ℤ → Task
    expression ws = int_at rec cap ws 64 here q 0

    abbrev behind : ℕ
    behind = (decode_int (read_part st.work) 64 here q 0).end

    each_some : Left (each_of n at) st (then (expression (read_part st.work)) (each_of (rest - 1) behind)) st'
    each_some = go rest z x.1
      where
        go : (k : ℕ) → (k ≡ 0 → ⊥) → Left (each_of n at) st (each_of k q) st' → Left (each_of n at) st (then (expression (read_part st.work)) (each_of (k - 1) behind)) st'
        go zero i y = absurd (i refl)
        go (suc k) i y = rw sub-one (unfold each_task in y)

    pub each_asks : Asks (each_of n at) st rec → Starts (int_at rec cap (read_part st'.work) 64 (split_by 2) q 0) st' rec q 0
    unfolding split_by
    each_asks k = starts_of x.0 (asks_next expression (each_of n at) (each_of (rest - 1) behind) st st' rec k each_some)

    pub each_next : (st'' : State) (q' b : ℕ) → Done (int_at rec cap (read_part st'.work) 64 (split_by 2) q 0) st' st'' × IntSkips (read_part st'.work) 64 (split_by 2) q 0 q' b → Expressions (rest - 1) q' st''
    unfolding split_by
    each_next st'' q' b y =
        let e : behind ≡ q' = ap (λ (ws : List ℤ). (decode_int ws 64 here q 0).end) (sym x.1.kept.part) ∙ sym y.1.end in
        (y.1.inside, subst (λ (i : ℕ). Left (each_of n at) st (each_of (rest - 1) i) st'') e (left_next expression each_some y.0))

  pub each_last : (rest q : ℕ) (st' : State) → rest ≡ 0 → Expressions rest q st' → Done (each_of n at) st st'
  each_last rest q st' z x = go rest z x.1
    where
      go : (k : ℕ) → k ≡ 0 → Left (each_of n at) st (each_of k q) st' → Done (each_of n at) st st'
      go zero i y = left_done (unfold each_task in y)
      go (suc k) i y = absurd (omega arith)

-- ---- all pairs without Ifs

module _ (rec cap n at : ℕ) (st : State) where
  abbrev pairs_here : Task
  pairs_here = pairs_task rec cap (read_part st.work) n at skip

  abbrev each_here : Task
  each_here = each_task rec cap (read_part st.work) n at

  -- no pair
  pub few_done : n < 2 → Low st → Done pairs_here st st
  few_done h l = record { state = λ ds d f. go ds n h; kept = kept_same st; low = l }
    where
      go : (ds : List Domain) (k : ℕ) → k < 2 → st ≡ (pairs_task rec cap (read_part st.work) k at skip).meet ds st
      go ds zero i = unfold pairs_task in refl
      go ds (suc zero) i = unfold pairs_task row_task in refl
      go ds (suc (suc k)) i = absurd (omega arith)

  module _ (sides : PlainSides (read_part st.work) n at) where
    pub once_asks : Asks pairs_here st rec → Asks each_here st rec
    once_asks a = record { long = a.long; records = a.records; low = a.low; ready = record { domains = a.ready.domains; declares = a.ready.declares; fits = once_fits a.ready.domains rec cap (read_part st.work) n at sides st } }

    pub once_done : 2 ≤ n → st.used ≤ cap → has_ifs st.work ≡ false → Asks pairs_here st rec → (st' : State) → Done each_here st st' → Done pairs_here st st'
    once_done h u i a st' x = record {
      state = λ ds d f. x.state ds d (once_fits ds rec cap (read_part st.work) n at sides st) ∙ sym (once_meets ds rec cap (read_part st.work) n at sides h st (record { size = a.long; bools = a.low.bools; used = u; word = i }));
      kept = x.kept;
      low = x.low;
    }
