-- The columns of a table in the second walk, one after another from a place on: their words are those of the clauses that the log has more, and their
-- numbers and domains are those of the log (`columns_written`). w: a work slice with the final maps and numbers by place; ws: the folded words.
use Rattle.std.specs.Prelude.{◌≡◌, Bool, ℕ, zero, suc, ◌+◌, ◌<◌, ℤ, pos}
use Rattle.std.proofs.Math.Path.{refl, sym, ap}
use Rattle.std.proofs.Common.{◌∙◌, arith}
use mathlib.Core.List.{List, [], ◌∷◌, ◌++◌, map}
use Rattle.std.proofs.Math.ListN.{length}
use Rattle.memory.specs.Number.{nat}
use Rattle.syntax.specs.Syntax.{Domain, domain_of, IntExpr, IConst, IVar, Linear, If, encode_int}
use Rattle.clauses.specs.Log.{column, int, added, Log, next_int, convert_int_var}
use Rattle.clauses.specs.Normalize.{equals, domain_of_sum, normalize_int_var, normalize_int_expr}
use Rattle.clauses.proofs.Grow.{get_int_below}
use Rattle.clauses.proofs.Emitted.{domain_at, new_domain, domain_step, int_var_domain}
use Rattle.clauses.proofs.Since.{top_domain}
use Rattle.tables.specs.Tables.{Columns, new_column, old_column, equivalent_int_var, equivalent_int_vars}
use Rattle.walk.specs.Item.{bump, int_number}
use Rattle.walk.specs.declared.Counters.{Counters}
use Rattle.walk.proofs.Grow.{grow_added}
use Rattle.walk.proofs.Ints.{var_found}
use Rattle.walks.specs.Tree.{never, resolve_int, run_int}
use Rattle.walks.specs.Form.{IntForm, const, ivar, sum, choice, int_form}
use Rattle.walks.specs.Resolve.{column_runs}
use Rattle.walks.specs.Item.{cell, form_int_item, int_item}
use Rattle.walks.specs.Placed.{PlacedInt}
use Rattle.walks.specs.Meet.{range_of}
use Rattle.walks.specs.Grow.{grow_int}
use Rattle.walks.specs.Implements.{at, Ready, ready_back, Registers, registers_same, registers_after}
use Rattle.walks.specs.Ranges.{range_behind}
use Rattle.walks.specs.Legal.{LegalInt}
use Rattle.walks.specs.Column.{column_sound}
use Rattle.walks.specs.ColumnText.{column_number, column_end, column_text, column_lines, column_written}
use Rattle.stages.specs.Columns.{column_at, PlacedColumn, PlacedColumns, columns_grow, ColumnsStand, stand_rest, first_stands}

-- ---- the walk

-- the number of the column at p
unfoldable pub column_var : List ℤ → ℕ → IntForm → ℕ
column_var w p (const c) = column_number w p
column_var w p (ivar v) = int_number w v
column_var w p (sum ts) = column_number w p
column_var w p (choice q o c d t f) = column_number w p

unfoldable pub columns_vars : List ℤ → ℕ → ℕ → List ℤ → List ℕ
columns_vars ws zero p w = []
columns_vars ws (suc k) p w = column_var w p (column_at ws p).tree ∷ columns_vars ws k (column_at ws p).end w

-- ds: the declared domains
module _ (ds : List Domain) where
  -- its domain: as declared, or between the bounds of its sum
  unfoldable pub column_domain : IntForm → List ℤ → Counters → Domain
  column_domain (const c) w n = range_of (form_int_item ds (const c)) w n
  column_domain (ivar v) w n = domain_of ds v
  column_domain (sum ts) w n = range_of (form_int_item ds (sum ts)) w n
  column_domain (choice q o c d t f) w n = range_of (form_int_item ds (choice q o c d t f)) w n

  -- so many columns from p on
  unfoldable pub columns_count : List ℤ → ℕ → ℕ → List ℤ → Counters → Counters
  columns_count ws zero p w n = n
  columns_count ws (suc k) p w n = let r = column_at ws p in columns_count ws k r.end w (column_end ds p r.tree w n)

  unfoldable pub columns_domains : List ℤ → ℕ → ℕ → List ℤ → Counters → List Domain
  columns_domains ws zero p w n = []
  columns_domains ws (suc k) p w n = let r = column_at ws p in column_domain r.tree w n ∷ columns_domains ws k r.end w (column_end ds p r.tree w n)

  unfoldable pub columns_text : List ℤ → ℕ → ℕ → List ℤ → Counters → List ℤ
  columns_text ws zero p w n = []
  columns_text ws (suc k) p w n = let r = column_at ws p in column_text ds p r.tree w n ++ columns_text ws k r.end w (column_end ds p r.tree w n)

  unfoldable pub columns_lines : List ℤ → ℕ → ℕ → List ℤ → Counters → ℕ
  columns_lines ws zero p w n = 0
  columns_lines ws (suc k) p w n = let r = column_at ws p in bump (column_lines ds p r.tree w n) (columns_lines ws k r.end w (column_end ds p r.tree w n))

  -- ---- one column: its number and domain are the log's

  record ColumnIs (e : IntForm) (p : ℕ) (w : List ℤ) (s : Log) (c : Columns) : Type 0 where
    pub var : c.vars ≡ column_var w p e ∷ []
    pub low : column_var w p e < next_int c.log
    pub domain : column_domain e w (at w s) ≡ domain_at ds c.log (column_var w p e)

  var_is : (v p : ℕ) (w : List ℤ) (s : Log) → Ready w (convert_int_var v s).1 → ColumnIs (ivar v) p w s (old_column (convert_int_var v s))
  unfolding column_var column_domain old_column
  var_is v p w s r =
      let n = (convert_int_var v s).0 in
      let t = (convert_int_var v s).1 in
      let f = var_found v s in
      let i : int_number w v ≡ n = omega (arith, r.fit.agree_int v n f) in
      record { var = rw i refl; low = rw i (get_int_below t v n f); domain = rw i (sym (int_var_domain ds t v n f)) }

  -- a number v of a new column
  last : (v : ℕ) → v < suc v
  last v = omega arith

  record SumIs (e : IntExpr) (p : ℕ) (w : List ℤ) (s : Log) (c : Columns) : Type 0 where
    pub var : c.vars ≡ column_number w p ∷ []
    pub low : column_number w p < next_int c.log
    pub domain : range_of (int_item ds (resolve_int e never p 0)) w (at w s) ≡ domain_at ds c.log (column_number w p)

  kept_number : (p : ℕ) (w : List ℤ) (k : ℕ) → cell w p ≡ pos (k + 1) → column_number w p ≡ k
  unfolding column_number nat
  kept_number p w k h = rw h (omega arith)

  -- the slice also fits the log behind the sum alone
  sum_ready : (e : IntExpr) (p : ℕ) (w : List ℤ) (s : Log) → Ready w (new_column ds (normalize_int_expr ds e s)).log → Ready w (run_int ds (resolve_int e never p 0) s).1
  unfolding new_column
  sum_ready e p w s r =
      let x = normalize_int_expr ds e s in
      let m = column x.0 (domain_of_sum ds x.1 x.0) in
      let rx : Ready w x.1 = ready_back (grow_int m x.1 (λ k. refl)) (ready_back (grow_added (equals x.0 (next_int x.1) ∷ []) (int m ∷ x.1)) r) in
      rw (column_runs ds e p 0) at rx

  pub column_ready : (e : IntExpr) (p : ℕ) (w : List ℤ) (s : Log) → Ready w (equivalent_int_var ds e s).log → Ready w (run_int ds (resolve_int e never p 0) s).1
  unfolding equivalent_int_var
  column_ready (IConst c) p w s r = sum_ready (IConst c) p w s r
  column_ready (IVar v) p w s r = unfold resolve_int run_int normalize_int_var old_column in r
  column_ready (Linear ts) p w s r = sum_ready (Linear ts) p w s r
  column_ready (If i c t f) p w s r = sum_ready (If i c t f) p w s r

  sum_is : (e : IntExpr) (p : ℕ) → LegalInt e 64 → (w : List ℤ) (s : Log) → Ready w (new_column ds (normalize_int_expr ds e s)).log → PlacedInt w ds (resolve_int e never p 0) s → cell w p ≡ pos (next_int (normalize_int_expr ds e s).1 + 1)
      → SumIs e p w s (new_column ds (normalize_int_expr ds e s))
  unfolding new_column
  sum_is e p h w s r q c =
      let x = normalize_int_expr ds e s in
      let v = next_int x.1 in
      let m = column x.0 (domain_of_sum ds x.1 x.0) in
      let z : Log = int m ∷ x.1 in
      let d : range_of (int_item ds (resolve_int e never p 0)) w (at w s) ≡ domain_of_sum ds x.1 x.0 = rw (column_runs ds e p 0) (range_behind w ds (resolve_int e never p 0) (column_sound e 64 p h).0 s (sum_ready e p w s r) q) in
      let n : column_number w p ≡ v = kept_number p w v c in
      record {
        var = rw n refl;
        low = rw n (last v);
        domain = rw n (d ∙ sym (new_domain ds m x.1) ∙ sym (domain_step ds (added (equals x.0 v ∷ [])) z v (last v)));
      }

  column_is : (e : IntExpr) (p : ℕ) → LegalInt e 64 → (w : List ℤ) (s : Log) → Ready w (equivalent_int_var ds e s).log → PlacedColumn ds w p e s → ColumnIs (int_form (resolve_int e never p 0)) p w s (equivalent_int_var ds e s)
  unfolding equivalent_int_var resolve_int int_form column_var column_domain
  column_is (IConst c) p h w s r q = let x = sum_is (IConst c) p h w s r q.0 (q.1 tt) in record { var = x.var; low = x.low; domain = x.domain }
  column_is (IVar v) p h w s r q = var_is v p w s (unfold old_column in r)
  column_is (Linear ts) p h w s r q = let x = sum_is (Linear ts) p h w s r q.0 (q.1 tt) in record { var = x.var; low = x.low; domain = x.domain }
  column_is (If i c t f) p h w s r q = let x = sum_is (If i c t f) p h w s r q.0 (q.1 tt) in record { var = x.var; low = x.low; domain = x.domain }

  -- ---- all columns

  -- c: their variables and the log behind them, from the log s
  pub record ColumnsWrite (ws : List ℤ) (k p : ℕ) (w : List ℤ) (s : Log) (c : Columns) : Type 0 where
    pub adds : Registers (columns_text ws k p w (at w s)) (columns_lines ws k p w (at w s)) s c.log
    pub behind : columns_count ws k p w (at w s) ≡ at w c.log
    pub vars : columns_vars ws k p w ≡ c.vars
    pub domains : columns_domains ws k p w (at w s) ≡ map (domain_at ds c.log) c.vars

  module _ (F : List ℤ) (parted : ℕ → Bool) (with_ifs : Bool) where
    pub columns_written : (es : List IntExpr) (p : ℕ) → ColumnsStand F parted with_ifs es p → (w : List ℤ) (s : Log) → Ready w (equivalent_int_vars ds es s).log → PlacedColumns ds w p es s
        → ColumnsWrite F (length es) p w s (equivalent_int_vars ds es s)
    unfolding equivalent_int_vars PlacedColumns columns_text columns_lines columns_count columns_vars columns_domains
    columns_written [] p h w s r q = record { adds = registers_same s s refl; behind = refl; vars = refl; domains = refl }
    columns_written (e ∷ es) p h w s r q =
        let a = equivalent_int_var ds e s in
        let t = a.log in
        let b = equivalent_int_vars ds es t in
        let g = columns_grow ds es t in
        let rt = ready_back g r in
        let f = first_stands F parted with_ifs e es p h in
        let x = column_written ds p e 64 h.legal.0 w s rt q.0.0 q.0.1 in
        let i = column_is e p h.legal.0 w s rt q.0 in
        let y = columns_written es (p + length (encode_int e)) (stand_rest F parted with_ifs e es p h) w t r q.1 in
        let v = column_var w p (int_form (resolve_int e never p 0)) in
        record {
          adds = rw (f.tree, f.end) (registers_after (columns_text F (length es) (p + length (encode_int e)) w) (columns_lines F (length es) (p + length (encode_int e)) w) x.behind x.adds y.adds);
          behind =
              ap (λ (u : IntForm). columns_count F (length es) (column_at F p).end w (column_end ds p u w (at w s))) f.tree
              ∙ ap (λ (m : ℕ). columns_count F (length es) m w (column_end ds p (int_form (resolve_int e never p 0)) w (at w s))) f.end
              ∙ ap (columns_count F (length es) (p + length (encode_int e)) w) x.behind
              ∙ y.behind;
          vars = rw (f.tree, f.end, i.var) (ap (λ l. v ∷ l) y.vars);
          domains = rw (f.tree, f.end, i.var, x.behind, y.domains) (ap (λ d. d ∷ map (domain_at ds b.log) b.vars) (i.domain ∙ sym (top_domain ds g.top v i.low)));
        }
