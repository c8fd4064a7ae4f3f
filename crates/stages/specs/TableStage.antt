-- A table as a part of a set: both walks over its statement, and the cells of its columns' own numbers, which the second walk reads beside the Ifs'.
use Rattle.std.specs.Prelude.{◌≡◌, refl, Bool, false, ℕ, ◌+◌, ◌≤◌, ◌<◌, ℤ, pos}
use mathlib.Core.List.{List, [], ◌∷◌}
use Rattle.std.proofs.Common.{arith}
use Rattle.std.proofs.Math.ListN.{length, length-append}
use Rattle.laws.specs.Slices.{Has}
use Rattle.memory.specs.Places.{folded, folded_end, limit}
use Rattle.syntax.specs.Syntax.{Domain, Eq, IntExpr, IConst, IVar, Linear, If, encode_int, Cell, Table, encode_stmt}
use Rattle.words.specs.Exact.{Each}
use Rattle.clauses.specs.Log.{Log, next_int}
use Rattle.clauses.specs.Normalize.{normalize_int_expr}
use Rattle.tables.specs.Tables.{equivalent_int_var, normalize_table}
use Rattle.walks.specs.Tree.{IntTree, cmp, nil, cons, never, resolve_int}
use Rattle.walks.specs.Item.{cell}
use Rattle.walks.specs.Placed.{Placed, PlacedInt}
use Rattle.walks.specs.Meet.{State}
use Rattle.walks.specs.Written.{PlacedRegisters}
use Rattle.walks.specs.Plain.{PlainInt}
use Rattle.walks.specs.Constant.{Named}
use Rattle.walks.specs.Good.{Good, good_less}
use Rattle.walks.specs.Leaves.{words_of}
use Rattle.walks.specs.Legal.{LegalInt, legal_int_bound}
use Rattle.walks.specs.Visit.{Outcome, full, good, same_later, good_ready}
use Rattle.walks.specs.Walked.{fixed, names}
use Rattle.walks.specs.Keys.{Every, Choices, ChoicesInt, int_choices, keys_int_within, keys_int_written}
use Rattle.walks.specs.KeyPlaces.{AgreesWith}
use Rattle.walks.specs.Next.{Ahead, ahead_more}
use Rattle.walks.specs.Reach.{table_light}
use Rattle.walks.specs.Column.{IsSum}
use Rattle.statements.specs.Statements.{table_words, table_length}
use Rattle.statements.specs.Table.{table_fresh}
use Rattle.stages.specs.LegalKeys.{keys_int_legal}
use Rattle.stages.specs.StatementsParts.{Owned, Own, OwnedIn, Stage, NoIfs, Standing, Passed, full as passed_full, good as passed-good, Again, Walks, counters_are}
use Rattle.stages.specs.StatementsTrees.{Never, placed_registers, no_keys}
use Rattle.stages.specs.Columns.{SameCells, PlacedColumns, columns_keys, columns_words, ColumnsStand, first_words, stand_rest}
use Rattle.stages.specs.Table.{meet_table, table_text, table_lines, table_count, table_grows, table_visit, table_written, table_ahead, table_spends, table_near}
use Rattle.stages.specs.TableIfs.{table_low}

-- ---- the columns' own numbers

-- the column e at p, of the number n, before others
unfoldable pub owned_with : ℕ → ℕ → IntExpr → List Owned → List Owned
owned_with p n (IConst c) os = record { place = p; number = n } ∷ os
owned_with p n (IVar v) os = os
owned_with p n (Linear ts) os = record { place = p; number = n } ∷ os
owned_with p n (If i c t f) os = record { place = p; number = n } ∷ os

-- from p on, from the log s
unfoldable pub columns_owned : List Domain → List IntExpr → ℕ → Log → List Owned
columns_owned ds [] p s = []
columns_owned ds (e ∷ es) p s = owned_with p (next_int (normalize_int_expr ds e s).1) e (columns_owned ds es (p + length (encode_int e)) (equivalent_int_var ds e s).log)

-- what each of them has
module _ (P : Owned → Type 0) (p n : ℕ) (os : List Owned) where
  abbrev own : Owned
  own = record { place = p; number = n }

  each_with : (e : IntExpr) → (IsSum e → P own) → Each P os → Each P (owned_with p n e os)
  unfolding owned_with
  each_with (IConst c) h k = (h tt, k)
  each_with (IVar v) h k = k
  each_with (Linear ts) h k = (h tt, k)
  each_with (If i c t f) h k = (h tt, k)

  with_first : (e : IntExpr) → Each P (owned_with p n e os) → IsSum e → P own
  unfolding owned_with
  with_first (IConst c) h i = h.0
  with_first (IVar v) h i = absurd i
  with_first (Linear ts) h i = h.0
  with_first (If j c t f) h i = h.0

  with_rest : (e : IntExpr) → Each P (owned_with p n e os) → Each P os
  unfolding owned_with
  with_rest (IConst c) h = h.1
  with_rest (IVar v) h = h
  with_rest (Linear ts) h = h.1
  with_rest (If j c t f) h = h.1

abbrev Holds : List ℤ → Owned → Type 0
Holds w o = cell w o.place ≡ pos (o.number + 1)

module _ (ds : List Domain) (w : List ℤ) where
  placed_owned : (es : List IntExpr) (p : ℕ) (s : Log) → PlacedColumns ds w p es s → Own w (columns_owned ds es p s)
  unfolding PlacedColumns columns_owned
  placed_owned [] p s h = tt
  placed_owned (e ∷ es) p s h = each_with (Holds w) p _ _ e h.0.1 (placed_owned es (p + length (encode_int e)) (equivalent_int_var ds e s).log h.1)

  -- an integer tree without Ifs, as a side of a comparison
  placed_without : (t : IntTree) → ChoicesInt Never t → (s : Log) → PlacedInt w ds t s
  placed_without t h s = unfold PlacedRegisters Placed Choices in (placed_registers w ds (cons (cmp Eq t t false) nil) ((h, h), tt) s).0.0

  -- where no If stands in the folded words before b, all is placed with the columns' own numbers
  module _ (F : List ℤ) (b : ℕ) (none : NoIfs F b) (parted : ℕ → Bool) (with_ifs : Bool) where
    column_without : (e : IntExpr) (es : List IntExpr) (p : ℕ) → ColumnsStand F parted with_ifs (e ∷ es) p → p + length (encode_int e) ≤ b → ChoicesInt Never (resolve_int e never p 0)
    column_without e es p h i =
        let l = h.legal.0 in
        let words = keys_int_written F e never p 0 (first_words F parted with_ifs e es p h) in
        let keys = no_keys F b none (keys_int_within e never p 0 (legal_int_bound e 64 l)) words (keys_int_legal e never p 0 l) h.from i in
        int_choices Never (λ x. ⊥) (λ i c t f m at k x. x) e never p 0 keys

    pub owned_placed : (es : List IntExpr) (p : ℕ) → ColumnsStand F parted with_ifs es p → p + length (columns_words es) ≤ b → (s : Log) → Own w (columns_owned ds es p s) → PlacedColumns ds w p es s
    unfolding PlacedColumns columns_owned
    owned_placed [] p h i s o = tt
    owned_placed (e ∷ es) p h i s o =
        let l = length-append (encode_int e) (columns_words es) in
        let q = p + length (encode_int e) in
        let t = (equivalent_int_var ds e s).log in
        let n = next_int (normalize_int_expr ds e s).1 in
        let os = columns_owned ds es q t in
        let x = placed_without (resolve_int e never p 0) (column_without e es p h (omega (arith, l))) s in
        ((x, with_first (Holds w) p n os e o), owned_placed es q (stand_rest F parted with_ifs e es p h) (omega (arith, l)) t (with_rest (Holds w) p n os e o))

owned_within : (ds : List Domain) (a : ℕ) (es : List IntExpr) (p : ℕ) (s : Log) → folded ≤ p → p + length (columns_words es) ≤ a → OwnedIn a (columns_owned ds es p s)
unfolding columns_owned
owned_within ds a [] p s l h = tt
owned_within ds a (e ∷ es) p s l h =
    let n = length-append (encode_int e) (columns_words es) in
    each_with (λ o. (folded ≤ o.place) × (o.place ≤ a)) p _ _ e (λ i. (l, under p (length (columns_words (e ∷ es))) a h)) (owned_within ds a es (p + length (encode_int e)) (equivalent_int_var ds e s).log (omega arith) (omega (arith, n)))
  where
    under : (p k a : ℕ) → p + k ≤ a → p ≤ a
    under p k a h = omega arith

-- ---- the part

-- the statement at a place
abbrev pub table_stage : List Domain → ℕ → ℕ → List ℤ → List IntExpr → List (List Cell) → ℕ → Stage
table_stage ds rec cap F es rows at =
    let k = length es in
    let b = at + length (encode_stmt (Table es rows)) in
    record {
      part = record { meet = meet_table ds rec cap F k (at + 3) rows; text = table_text ds F k (at + 3) rows; lines = table_lines ds F k (at + 3) rows; behind = table_count ds F k (at + 3) rows };
      step = normalize_table ds es rows;
      owns = columns_owned ds es (at + 3);
      knows = [];
      room = k + table_fresh k rows;
      start = at;
      past = b;
      from = at;
      to = b;
    }

module _ (ds : List Domain) (F : List ℤ) (parted : ℕ → Bool) (rec cap : ℕ) (with_ifs : Bool) (before : List ℤ) (low : cap < limit) (es : List IntExpr) (rows : List (List Cell)) (at : ℕ) (words : Has F at (encode_stmt (Table es rows)))
    (from : folded ≤ at) (to : at + length (encode_stmt (Table es rows)) ≤ folded_end) (legal : Each (λ e. LegalInt e 64) es) (agree : Every (AgreesWith parted with_ifs) (columns_keys es (at + 3))) where
  abbrev stage : Stage
  stage = table_stage ds rec cap F es rows at

  stand : ColumnsStand F parted with_ifs es (at + 3)
  stand = record {
    legal = legal;
    words = table_words F at es rows words;
    from = omega arith;
    to = omega (arith, table_length es rows);
    agree = agree;
  }

  stop : at + 3 + length (columns_words es) ≤ at + length (encode_stmt (Table es rows))
  stop = omega (arith, table_length es rows)

  first_passed : (n : ℕ) (st : State) (s : Log) → Standing ds F parted rec cap with_ifs before low at (stage.room + n) st s → st.used ≤ words_of s
      → Passed ds F parted rec cap with_ifs before low stage.to n (Again ds F parted rec cap with_ifs before low stage st s) (stage.part.meet st) (normalize_table ds es rows s)
  first_passed n st s h u = go (table_visit ds F parted with_ifs es p stand rows h.key rec cap before h.places low 0 n st s a (good_less ds F PlainInt parted h.key (fixed ds) rec cap with_ifs before (Named ds) (stage.room + n) (length es + (table_fresh (length es) rows + n)) st s (omega arith) h.state) (omega (arith, u)))
    where
      p : ℕ
      p = at + 3

      st' : State
      st' = stage.part.meet st

      t : Log
      t = normalize_table ds es rows s

      a : Ahead F p st.work
      a = ahead_more F at p st.work (omega arith) h.ahead

      again : Good ds F PlainInt parted h.key (fixed ds) rec cap with_ifs before (Named ds) n st' t → PlacedColumns ds st'.work p es s → Again ds F parted rec cap with_ifs before low stage st s
      again g x =
          let r = good_ready ds F PlainInt parted h.key (fixed ds) rec cap with_ifs before (Named ds) (names ds) h.places low n st' t g in
          let y = table_written ds F parted with_ifs es p stand rows s st'.work r x in
          record {
            adds = rw (counters_are ds F parted rec cap with_ifs before low h st'.work g.word) y.adds;
            owned = placed_owned ds st'.work es p s x;
            stays = λ q l m. table_near ds F parted with_ifs es p stand rows rec cap st q l (omega arith);
          }

      go : Outcome ds F PlainInt parted h.key (fixed ds) rec cap with_ifs before (Named ds) 0 n (λ w. SameCells p (p + length (columns_words es)) st'.work w → PlacedColumns ds w p es s) st st' t
          → Passed ds F parted rec cap with_ifs before low stage.to n (Again ds F parted rec cap with_ifs before low stage st s) st' t
      go (full x y) = passed_full x (omega (arith, y))
      go (good g y r q) =
          let b = ahead_more F (p + length (columns_words es)) stage.to st'.work stop (table_ahead ds F parted with_ifs es p stand rows h.key rec cap before h.places low st a) in
          passed-good (record { key = h.key; places = h.places; state = g; ifs = table_low ds es legal rows s h.ifs; light = table_light ds es rows s h.light; ahead = b }) (omega (arith, y)) (again g (q st'.work (same_later ds F PlainInt parted h.key (fixed ds) st'.work) (λ c i j. refl)))

  pub table_stage_walks : Walks ds F parted rec cap with_ifs before low (table_stage ds rec cap F es rows at)
  table_stage_walks = record {
    ordered = omega arith;
    grows = table_grows ds es rows;
    owned_in = λ s. owned_within ds stage.past es (at + 3) s (omega arith) stop;
    spends = table_spends ds F parted with_ifs es (at + 3) stand rows rec cap;
    first = λ n st s k h u. first_passed n st s h u;
    second = λ none w s k r o.
        let x = table_written ds F parted with_ifs es (at + 3) stand rows s w r (owned_placed ds w F stage.to none parted with_ifs es (at + 3) stand stop s o) in
        record { adds = x.adds; behind = x.behind };
  }
