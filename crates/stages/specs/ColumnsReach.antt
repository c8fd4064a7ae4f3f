-- The sums and bounds of a table's columns in the second walk are words, the bounds in order (`columns_reach`): within refusals 9 and 10, where the log before
-- the columns is well made (clauses' Entries) and its Ifs are light. w: a work slice with the final maps and numbers by place.
use Rattle.std.specs.Prelude.{◌≡◌, Bool, ℕ, zero, suc, ◌+◌, ◌≤◌, ℤ, nat_abs}
use Rattle.std.proofs.Common.{sym, ◌∙◌, arith}
use Rattle.std.proofs.Math.Path.{ap, subst}
use mathlib.Core.List.{List, [], ◌∷◌}
use Rattle.std.proofs.Math.ListN.{length}
use Rattle.syntax.specs.Words.{max_weight}
use Rattle.syntax.specs.Syntax.{Domain, lower_bound, upper_bound, domain_of, IntExpr, encode_int}
use Rattle.syntax.specs.Written.{Any, EveryIntOf, EveryColumnOf}
use Rattle.sums.specs.Bounds.{reach}
use Rattle.clauses.specs.Log.{Log}
use Rattle.clauses.specs.Normalize.{IntRun, domain_of_sum}
use Rattle.clauses.proofs.Emitted.{domain_at}
use Rattle.clauses.proofs.Entries.{WellMade, int_well}
use Rattle.tables.specs.Tables.{equivalent_int_var, equivalent_int_vars}
use Rattle.tables.proofs.ColumnEntries.{column_well}
use Rattle.walk.specs.declared.Counters.{Counters}
use Rattle.walks.specs.Tree.{never, resolve_int, run_int}
use Rattle.walks.specs.Form.{IntForm, int_form}
use Rattle.walks.specs.Resolve.{column_runs}
use Rattle.walks.specs.Item.{form_int_item, int_item}
use Rattle.walks.specs.Placed.{PlacedInt}
use Rattle.walks.specs.Meet.{found, range_of}
use Rattle.walks.specs.Implements.{at, Ready, ready_back}
use Rattle.walks.specs.Ranges.{range_behind}
use Rattle.walks.specs.Legal.{LegalInt}
use Rattle.walks.specs.Totals.{Light, light_weight, Carries}
use Rattle.walks.specs.SumsFit.{AlwaysEquated, InsideFits, form_light, column_fits, WithinColumn, WithinColumns}
use Rattle.walks.specs.Reach.{LightIfs, int_weights, column_light, range_carries, range_reach}
use Rattle.walks.specs.Column.{column_sound}
use Rattle.walks.specs.ColumnText.{column_end, column_written}
use Rattle.stages.specs.Columns.{column_at, PlacedColumns, columns_grow, ColumnsStand, stand_rest, first_stands}
use Rattle.stages.specs.ColumnsText.{column_ready}
use Rattle.stages.specs.InOrder.{InOrder, sum_order, log_order}

-- ds: the declared domains
module _ (ds : List Domain) where
  -- of the column e, from the counters n
  pub record ColumnReach (e : IntForm) (w : List ℤ) (n : Counters) : Type 0 where
    pub equated : AlwaysEquated ds e
    pub inside : InsideFits ds e
    pub light : Light ds e
    pub carries : Carries ds w (λ v. reach (found ((form_int_item ds e).range w n v))) e n
    pub low : nat_abs (lower_bound (range_of (form_int_item ds e) w n)) ≤ max_weight
    pub high : nat_abs (upper_bound (range_of (form_int_item ds e) w n)) ≤ max_weight
    pub order : InOrder (range_of (form_int_item ds e) w n)

  -- of so many columns from p on in the words ws
  unfoldable pub ColumnsReach : List ℤ → ℕ → ℕ → List ℤ → Counters → Type 0
  ColumnsReach ws zero p w n = Unit {0}
  ColumnsReach ws (suc k) p w n = let r = column_at ws p in ColumnReach r.tree w n × ColumnsReach ws k r.end w (column_end ds p r.tree w n)

-- P, Q: of each declared Boolean and integer, as in Entries
module _ (ds : List Domain) (P Q : ℕ → Type 0) (declared : (v : ℕ) → InOrder (domain_of ds v)) where
  sum_in_order : (e : IntExpr) (p : ℕ) → LegalInt e 64 → EveryIntOf Any P Q e → (w : List ℤ) (s : Log) → WellMade ds P Q s → Ready w (run_int ds (resolve_int e never p 0) s).1 → PlacedInt w ds (resolve_int e never p 0) s
      → InOrder (range_of (int_item ds (resolve_int e never p 0)) w (at w s))
  unfolding domain_of_sum
  sum_in_order e p h v w s m r q =
      let t = run_int ds (resolve_int e never p 0) s in
      let k : WellMade ds P Q t.1 = subst (λ (x : Log). WellMade ds P Q x) (ap (λ (f : IntRun). (f s).1) (column_runs ds e p 0)) (int_well ds P Q e v s m) in
      rw (range_behind w ds (resolve_int e never p 0) (column_sound e 64 p h).0 s r q) (sum_order (domain_at ds t.1) (log_order ds P Q declared t.1 k) t.0)

  pub column_reach : (e : IntExpr) (p : ℕ) → LegalInt e 64 → WithinColumn ds e → EveryIntOf Any P Q e → (w : List ℤ) (s : Log) → WellMade ds P Q s → LightIfs ds s → Ready w (equivalent_int_var ds e s).log → PlacedInt w ds (resolve_int e never p 0) s
      → ColumnReach ds (int_form (resolve_int e never p 0)) w (at w s)
  column_reach e p h i v w s m l r q =
      let t = resolve_int e never p 0 in
      let y = (column_sound e 64 p h).0 in
      let z = column_ready ds e p w s r in
      let f = column_fits ds e p 0 i.light i.few i.inside in
      let g = form_light ds e never p 0 i.light in
      let b = range_reach w ds t y (int_weights ds e never p 0) s l z q in
      let c = light_weight ds (int_form t) g in
      record { equated = f.0; inside = f.1; light = g; carries = range_carries w ds t y (int_weights ds e never p 0) s l z q; low = omega (arith, b, c); high = omega (arith, b, c); order = sum_in_order e p h v w s m z q }

  module _ (F : List ℤ) (parted : ℕ → Bool) (with_ifs : Bool) where
    pub columns_reach : (es : List IntExpr) (p : ℕ) → ColumnsStand F parted with_ifs es p → WithinColumns ds es → EveryColumnOf Any P Q es → (w : List ℤ) (s : Log) → WellMade ds P Q s → LightIfs ds s → Ready w (equivalent_int_vars ds es s).log → PlacedColumns ds w p es s
        → ColumnsReach ds F (length es) p w (at w s)
    unfolding equivalent_int_vars PlacedColumns WithinColumns EveryColumnOf ColumnsReach
    columns_reach [] p h i v w s m l r q = tt
    columns_reach (e ∷ es) p h i v w s m l r q =
        let t = (equivalent_int_var ds e s).log in
        let rt = ready_back (columns_grow ds es t) r in
        let f = first_stands F parted with_ifs e es p h in
        let x = column_reach e p h.legal.0 i.0 v.0 w s m l rt q.0.0 in
        let y = columns_reach es (p + length (encode_int e)) (stand_rest F parted with_ifs e es p h) i.1 v.1 w t (column_well ds P Q e v.0 s m) (column_light ds e s l) r q.1 in
        let b : column_end ds p (column_at F p).tree w (at w s) ≡ at w t = ap (λ (u : IntForm). column_end ds p u w (at w s)) f.tree ∙ (column_written ds p e 64 h.legal.0 w s rt q.0.0 q.0.1).behind in
        (subst (λ (u : IntForm). ColumnReach ds u w (at w s)) (sym f.tree) x, subst (λ (n : Counters). ColumnsReach ds F (length es) (column_at F p).end w n) (sym b) (subst (λ (k : ℕ). ColumnsReach ds F (length es) k w (at w t)) (sym f.end) y))
