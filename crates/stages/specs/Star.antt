-- Starred tables in the two walks with Ifs: the Or over rows of the And of their equalities, as items of the second walk; how many numbers they make.
-- Nothing of them depends on the work slice but the next Boolean's number.
use Rattle.std.specs.Prelude.{◌≡◌, false, cond, ℕ, suc, ◌+◌, ◌≤◌, ℤ, length}
use Rattle.std.proofs.Math.Path.{refl, sym, ap}
use Rattle.std.proofs.Common.{◌∙◌, subst, arith}
use Rattle.std.proofs.lemmas.Bool.{false≢true}
use mathlib.Core.List.{List, [], ◌∷◌, map, append-nil}
use Rattle.laws.specs.Lists.{flat}
use Rattle.laws.specs.Bools.{or_no_l, or_no_r}
use Rattle.syntax.specs.Syntax.{Cell, star, value}
use Rattle.clauses.specs.Clause.{Clause, clause}
use Rattle.clauses.specs.Log.{Log, next_bool}
use Rattle.clauses.specs.Disjunction.{Out, Outs, finish_sorted, normalize_disjunction}
use Rattle.clauses.specs.Normalize.{Run, Runs, no_run, run_then, normalize_conjunction, disjunction_of}
use Rattle.tables.specs.Tables.{linear_eq, star_row, star_table}
use Rattle.answer.specs.Answer.{linear_words}
use Rattle.walk.specs.Item.{Tally, tally, fresh, clause_text}
use Rattle.walk.proofs.Grow.{Grows, same}
use Rattle.walk.proofs.Texts.{layout, finish_count, disjunction_finish}
use Rattle.walks.specs.Item.{Item, tallies, conj_item, disj_item}
use Rattle.walks.specs.Implements.{Ready, registers_same, single, ImplementsAt, Implements, Sorts, Goods, goods_nil, more, conj_good, disj_good}
use Rattle.statements.specs.Star.{no_equality, any_free}
use Rattle.statements.specs.Table.{values, is_long, is_one, long_rows, single_rows, star_fresh}

abbrev Anywhere : Log → Type 0
Anywhere s = Unit {0}

-- ---- an equality: a column's variable has a value

abbrev Equality : Type 0
Equality = ℕ × ℤ

unfoldable pub eq_item : ℕ × ℤ → Item
eq_item q = record {
  unit = tally 0 0 1 0;
  count = λ w n. n;
  pool = λ b w n. cond b [] (linear_words (linear_eq q.0 q.1));
  text = λ w n suf. clause_text [] suf 1 (linear_words (linear_eq q.0 q.1));
  reg = λ w n. [];
  lines = λ w n. 0;
}

abbrev eq_clauses : Equality → List Clause
eq_clauses q = clause [] (linear_eq q.0 q.1 ∷ []) ∷ []

abbrev eq_run : Equality → Run
eq_run q s = (eq_clauses q, s)

unfoldable eq_runs : List Equality → Runs
eq_runs [] = no_run
eq_runs (q ∷ qs) = run_then (eq_run q) (eq_runs qs)

runs_are : (qs : List Equality) (s : Log) → eq_runs qs s ≡ (map eq_clauses qs, s)
unfolding eq_runs no_run run_then
runs_are [] s = refl
runs_are (q ∷ qs) s = ap (λ (o : Outs). (eq_clauses q ∷ o.0, o.1)) (runs_are qs s)

-- ---- a row: one equality stands for itself

unfoldable pub equalities : List ℕ → List Cell → List (ℕ × ℤ)
equalities [] cs = []
equalities (v ∷ vs) [] = []
equalities (v ∷ vs) (star ∷ cs) = equalities vs cs
equalities (v ∷ vs) (value x ∷ cs) = (v, x) ∷ equalities vs cs

unfoldable pub joined : List (ℕ × ℤ) → Item
joined [] = conj_item []
joined (q ∷ []) = eq_item q
joined (q ∷ r ∷ qs) = conj_item (map eq_item (q ∷ r ∷ qs))

abbrev pub row_item : List ℕ → List Cell → Item
row_item vs cs = joined (equalities vs cs)

abbrev row_run : List ℕ → List Cell → Run
row_run vs cs s = (star_row vs cs, s)

row_is : (vs : List ℕ) (cs : List Cell) → flat (map eq_clauses (equalities vs cs)) ≡ star_row vs cs
unfolding equalities star_row
row_is [] cs = refl
row_is (v ∷ vs) [] = refl
row_is (v ∷ vs) (star ∷ cs) = row_is vs cs
row_is (v ∷ vs) (value x ∷ cs) = ap (λ (l : List Clause). clause [] (linear_eq v x ∷ []) ∷ l) (row_is vs cs)

some_equality : (vs : List ℕ) (cs : List Cell) → no_equality vs cs ≡ false → 1 ≤ length (equalities vs cs)
unfolding equalities
some_equality [] cs h = absurd (false≢true (sym h))
some_equality (v ∷ vs) [] h = absurd (false≢true (sym h))
some_equality (v ∷ vs) (star ∷ cs) h = some_equality vs cs h
some_equality (v ∷ vs) (value x ∷ cs) h = omega arith

-- ---- the rows

unfoldable rows_runs : List ℕ → List (List Cell) → Runs
rows_runs vs [] = no_run
rows_runs vs (cs ∷ rows) = run_then (row_run vs cs) (rows_runs vs rows)

rows_runs_are : (vs : List ℕ) (rows : List (List Cell)) (s : Log) → rows_runs vs rows s ≡ (map (star_row vs) rows, s)
unfolding rows_runs no_run run_then
rows_runs_are vs [] s = refl
rows_runs_are vs (cs ∷ rows) s = ap (λ (o : Outs). (star_row vs cs ∷ o.0, o.1)) (rows_runs_are vs rows s)

abbrev pub rows_items : List ℕ → List (List Cell) → List Item
rows_items vs rows = map (row_item vs) rows

unfoldable pub star_item : List ℕ → List (List Cell) → Item
star_item vs rows = disj_item (rows_items vs rows)

module _ (w : List ℤ) where
  eq_good : (q : Equality) → Implements w (eq_item q) (eq_run q) Anywhere
  unfolding eq_item layout
  eq_good q = record {
    grows = λ s. same;
    from = λ s f n.
        let k = linear_eq q.0 q.1 in
        record {
          count = refl;
          text = λ suf. ap (clause_text [] suf 1) (sym (append-nil (linear_words k))) ∙ sym (append-nil _);
          shape = single [] (k ∷ []) refl refl refl (sym (append-nil (linear_words k)));
          adds = registers_same s s refl;
        };
  }

  -- members that ask nothing
  more_good : {i : Item} {r : Run} {is : List Item} {rs : Runs} → Implements w i r Anywhere → Goods w is rs Anywhere → Goods w (i ∷ is) (run_then r rs) Anywhere
  more_good g gs = let x = more w g gs in record { grows = x.grows; from = λ s f n. x.from s f (tt, tt) }

  good_same : (i : Item) (r q : Run) → ((s : Log) → r s ≡ q s) → Implements w i r Anywhere → Implements w i q Anywhere
  good_same i r q e g = record {
    grows = λ s. subst (λ (o : Out). Grows s o.1) (e s) (g.grows s);
    from = λ s f n. subst (λ (o : Out). ImplementsAt w i s o) (e s) (g.from s (subst (λ (o : Out). Ready w o.1) (sym (e s)) f) n);
  }

  eqs_good : (qs : List Equality) → Goods w (map eq_item qs) (eq_runs qs) Anywhere
  unfolding eq_runs
  eqs_good [] = goods_nil w
  eqs_good (q ∷ qs) = more_good (eq_good q) (eqs_good qs)

  joined_good : (qs : List Equality) → 1 ≤ length qs → Implements w (joined qs) (λ s. (flat (map eq_clauses qs), s)) Anywhere
  unfolding joined normalize_conjunction
  joined_good [] h = absurd (omega arith)
  joined_good (q ∷ []) h = eq_good q
  joined_good (q ∷ r ∷ qs) h =
      let es = q ∷ r ∷ qs in
      good_same _ (normalize_conjunction (eq_runs es)) _ (λ s. ap (λ (o : Outs). (flat o.0, o.1)) (runs_are es s)) (conj_good w (eqs_good es) (omega arith))

  row_good : (vs : List ℕ) (cs : List Cell) → no_equality vs cs ≡ false → Implements w (row_item vs cs) (row_run vs cs) Anywhere
  row_good vs cs h = good_same (row_item vs cs) _ (row_run vs cs) (λ s. ap (λ (l : List Clause). (l, s)) (row_is vs cs)) (joined_good (equalities vs cs) (some_equality vs cs h))

  rows_good : (vs : List ℕ) (rows : List (List Cell)) → any_free vs rows ≡ false → Goods w (rows_items vs rows) (rows_runs vs rows) Anywhere
  unfolding rows_runs
  rows_good vs [] h = goods_nil w
  rows_good vs (cs ∷ rows) h = more_good (row_good vs cs (or_no_l (no_equality vs cs) _ h)) (rows_good vs rows (or_no_r (no_equality vs cs) _ h))

  -- no row is of stars only
  star_sorts : (vs : List ℕ) (rows : List (List Cell)) → any_free vs rows ≡ false → (s : Log) → Ready w s → Sorts w (rows_items vs rows) s (map (star_row vs) rows, s)
  star_sorts vs rows h s r =
      let e = rows_runs_are vs rows s in
      subst (Sorts w (rows_items vs rows) s) e ((rows_good vs rows h).from s (subst (λ (o : Outs). Ready w o.1) (sym e) r) tt)

  pub star_good : (vs : List ℕ) (rows : List (List Cell)) → any_free vs rows ≡ false → Implements w (star_item vs rows) (star_table vs rows) (λ s. Unit {0})
  unfolding star_item star_table disjunction_of
  star_good vs rows h = good_same (disj_item (rows_items vs rows)) (disjunction_of (rows_runs vs rows)) (star_table vs rows) (λ s. ap (λ (o : Outs). normalize_disjunction o.0 o.1) (rows_runs_are vs rows s)) (disj_good w (rows_good vs rows h))

-- ---- its new numbers, by the count of equalities of each row

values_are : (vs : List ℕ) (cs : List Cell) → length (equalities vs cs) ≡ values (length vs) cs
unfolding equalities
values_are [] cs = refl
values_are (v ∷ vs) [] = refl
values_are (v ∷ vs) (star ∷ cs) = values_are vs cs
values_are (v ∷ vs) (value x ∷ cs) = ap suc (values_are vs cs)

record Counted (t : Tally) (longs singles : ℕ) : Type 0 where
  pub long : t.longs ≡ longs
  pub lit : t.lits ≡ 0
  pub cmp : t.cmps ≡ singles

joined_counted : (qs : List Equality) → 1 ≤ length qs → Counted (joined qs).unit (is_long (length qs)) (is_one (length qs))
unfolding joined eq_item conj_item
joined_counted [] h = absurd (omega arith)
joined_counted (q ∷ []) h = record { long = refl; lit = refl; cmp = refl }
joined_counted (q ∷ r ∷ qs) h = record { long = refl; lit = refl; cmp = refl }

rows_counted : (vs : List ℕ) (rows : List (List Cell)) → any_free vs rows ≡ false → Counted (tallies (rows_items vs rows)) (long_rows (length vs) rows) (single_rows (length vs) rows)
unfolding tallies long_rows single_rows
rows_counted vs [] h = record { long = refl; lit = refl; cmp = refl }
rows_counted vs (cs ∷ rows) h =
    let u = joined_counted (equalities vs cs) (some_equality vs cs (or_no_l (no_equality vs cs) _ h)) in
    let t = rows_counted vs rows (or_no_r (no_equality vs cs) _ h) in
    let n = values_are vs cs in
    record { long = rw (u.long, n, t.long) refl; lit = rw (u.lit, t.lit) refl; cmp = rw (u.cmp, n, t.cmp) refl }

fresh_is : (vs : List ℕ) (rows : List (List Cell)) → any_free vs rows ≡ false → fresh (tallies (rows_items vs rows)) ≡ star_fresh (length vs) rows
unfolding star_fresh
fresh_is vs rows h = let t = rows_counted vs rows h in rw (t.long, t.lit, t.cmp) refl

-- w: any slice with the maps of the log
pub star_count : (w : List ℤ) (vs : List ℕ) (rows : List (List Cell)) → any_free vs rows ≡ false → (s : Log) → Ready w s → next_bool (star_table vs rows s).1 ≡ next_bool s + star_fresh (length vs) rows
unfolding star_table finish_sorted
star_count w vs rows h s r =
    let x = star_sorts w vs rows h s r in
    let n : next_bool (normalize_disjunction (map (star_row vs) rows) s).1 ≡ next_bool s + fresh (tallies (rows_items vs rows)) = rw (disjunction_finish (map (star_row vs) rows) s, x.eq) (rw x.tal (finish_count x.cx x.ls x.ks s)) in
    n ∙ ap (λ (k : ℕ). next_bool s + k) (fresh_is vs rows h)
