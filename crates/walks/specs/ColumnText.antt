-- A table's column in the second walk: the words of what its Ifs add and, for one that is no declared variable, of the clause that its integer equals the
-- sum; they are those of the clauses that the log has more (`column_written`). w: a work slice with the final maps and numbers by place.
use Rattle.std.specs.Prelude.{◌≡◌, List, [], ◌∷◌, ◌++◌, ℕ, ◌+◌, ◌-◌, ℤ, pos}
use Rattle.std.proofs.Math.Path.{refl, ap}
use Rattle.std.proofs.Common.{◌∙◌, arith}
use Rattle.memory.specs.Number.{nat}
use Rattle.syntax.specs.Syntax.{Domain, IntExpr, IConst, IVar, Linear, If}
use Rattle.clauses.specs.Log.{column, int, added, Log, next_int, clauses_of}
use Rattle.clauses.specs.Normalize.{equals, domain_of_sum, normalize_int_var, normalize_int_expr}
use Rattle.tables.specs.Tables.{new_column, old_column, equivalent_int_var}
use Rattle.walk.specs.Item.{bump}
use Rattle.walk.specs.declared.Counters.{Counters}
use Rattle.walk.proofs.Grow.{grow_added}
use Rattle.walks.specs.Tree.{IntTree, never, resolve_int, run_int}
use Rattle.walks.specs.Form.{IntForm, const, ivar, sum, choice, int_form}
use Rattle.walks.specs.Resolve.{column_runs}
use Rattle.walks.specs.Item.{more_ints, cell, IntItem, equal_item, block_words, block_lines, form_int_item, int_item}
use Rattle.walks.specs.Placed.{PlacedInt}
use Rattle.walks.specs.Implements.{ProperInt, at, int_more, Ready, ready_back, Registers, registers_then, registers_front, block_adds, equal_good, int_good}
use Rattle.walks.specs.Grow.{grow_int}
use Rattle.walks.specs.Legal.{LegalInt}
use Rattle.walks.specs.Column.{IsSum, column_sound}

-- the number kept at a column's place
unfoldable pub column_number : List ℤ → ℕ → ℕ
column_number w p = nat (cell w p) - 1

module _ (ds : List Domain) (p : ℕ) where
  -- behind the sum, its integer's clause
  abbrev sum_end : IntItem → List ℤ → Counters → Counters
  sum_end i w n = more_ints w 1 (i.behind w n)

  abbrev sum_words : IntItem → List ℤ → Counters → List ℤ
  sum_words i w n = i.adds w n ++ block_words (equal_item (i.total w n) (column_number w p)) w (more_ints w 1 (i.behind w n))

  abbrev sum_lines : IntItem → List ℤ → Counters → ℕ
  sum_lines i w n = bump (i.added w n) (block_lines (equal_item (i.total w n) (column_number w p)) w (more_ints w 1 (i.behind w n)))

  unfoldable pub column_end : IntForm → List ℤ → Counters → Counters
  column_end (const c) w n = sum_end (form_int_item ds (const c)) w n
  column_end (ivar v) w n = (form_int_item ds (ivar v)).behind w n
  column_end (sum ts) w n = sum_end (form_int_item ds (sum ts)) w n
  column_end (choice q o c d t f) w n = sum_end (form_int_item ds (choice q o c d t f)) w n

  unfoldable pub column_text : IntForm → List ℤ → Counters → List ℤ
  column_text (const c) w n = sum_words (form_int_item ds (const c)) w n
  column_text (ivar v) w n = (form_int_item ds (ivar v)).adds w n
  column_text (sum ts) w n = sum_words (form_int_item ds (sum ts)) w n
  column_text (choice q o c d t f) w n = sum_words (form_int_item ds (choice q o c d t f)) w n

  unfoldable pub column_lines : IntForm → List ℤ → Counters → ℕ
  column_lines (const c) w n = sum_lines (form_int_item ds (const c)) w n
  column_lines (ivar v) w n = (form_int_item ds (ivar v)).added w n
  column_lines (sum ts) w n = sum_lines (form_int_item ds (sum ts)) w n
  column_lines (choice q o c d t f) w n = sum_lines (form_int_item ds (choice q o c d t f)) w n

  pub record ColumnWrites (e : IntForm) (w : List ℤ) (s t : Log) : Type 0 where
    pub adds : Registers (column_text e w (at w s)) (column_lines e w (at w s)) s t
    pub behind : column_end e w (at w s) ≡ at w t

  -- ---- any tree

  record SumWrites (i : IntItem) (w : List ℤ) (s t : Log) : Type 0 where
    pub adds : Registers (sum_words i w (at w s)) (sum_lines i w (at w s)) s t
    pub behind : sum_end i w (at w s) ≡ at w t

  kept_number : (w : List ℤ) (k : ℕ) → cell w p ≡ pos (k + 1) → column_number w p ≡ k
  unfolding column_number nat
  kept_number w k h = rw h (omega arith)

  sum_written : (t : IntTree) → ProperInt t → (w : List ℤ) (s : Log) → Ready w (new_column ds (run_int ds t s)).log → PlacedInt w ds t s → cell w p ≡ pos (next_int (run_int ds t s).1 + 1)
      → SumWrites (int_item ds t) w s (new_column ds (run_int ds t s)).log
  unfolding new_column clauses_of
  sum_written t q w s r h c =
      let x = run_int ds t s in
      let v = next_int x.1 in
      let m = column x.0 (domain_of_sum ds x.1 x.0) in
      let z : Log = int m ∷ x.1 in
      let u : Log = added (equals x.0 v ∷ []) ∷ z in
      let rz : Ready w z = ready_back (grow_added (equals x.0 v ∷ []) z) r in
      let g = (int_good w ds t q).from s (ready_back (grow_int m x.1 (λ k. refl)) rz) h in
      let b : more_ints w 1 ((int_item ds t).behind w (at w s)) ≡ at w z = ap (more_ints w 1) g.behind ∙ int_more w _ v rz.ints in
      let k = (equal_good w x.0 v).from z rz tt in
      let j = block_adds w {t = u} k refl in
      record {
        adds = rw (g.total, kept_number w v c, b) (registers_then g.adds (registers_front refl j));
        behind = b;
      }

  -- ---- a column at p, from the log s

  sum_column_written : (e : IntExpr) (l : ℕ) → LegalInt e l → (w : List ℤ) (s : Log) → Ready w (new_column ds (normalize_int_expr ds e s)).log → PlacedInt w ds (resolve_int e never p 0) s → cell w p ≡ pos (next_int (normalize_int_expr ds e s).1 + 1)
      → SumWrites (int_item ds (resolve_int e never p 0)) w s (new_column ds (normalize_int_expr ds e s)).log
  sum_column_written e l h w s r n c =
      let i = column_runs ds e p 0 in
      let r' : Ready w (new_column ds (run_int ds (resolve_int e never p 0) s)).log = rw i at r in
      let c' : cell w p ≡ pos (next_int (run_int ds (resolve_int e never p 0) s).1 + 1) = rw i at c in
      rw i (sum_written (resolve_int e never p 0) (column_sound e l p h).0 w s r' n c')

  pub column_written : (e : IntExpr) (l : ℕ) → LegalInt e l → (w : List ℤ) (s : Log) → Ready w (equivalent_int_var ds e s).log → PlacedInt w ds (resolve_int e never p 0) s → (IsSum e → cell w p ≡ pos (next_int (normalize_int_expr ds e s).1 + 1))
      → ColumnWrites (int_form (resolve_int e never p 0)) w s (equivalent_int_var ds e s).log
  unfolding resolve_int int_form column_text column_lines column_end equivalent_int_var
  column_written (IConst c) l h w s r n k = let x = sum_column_written (IConst c) l h w s r n (k tt) in record { adds = x.adds; behind = x.behind }
  column_written (IVar v) l h w s r n k =
      let q = (column_sound (IVar v) l p h).0 in
      let x = (int_good w ds (resolve_int (IVar v) never p 0) q).from s (unfold run_int normalize_int_var old_column in r) n in
      unfold run_int normalize_int_var old_column in record { adds = x.adds; behind = x.behind }
  column_written (Linear ts) l h w s r n k = let x = sum_column_written (Linear ts) l h w s r n (k tt) in record { adds = x.adds; behind = x.behind }
  column_written (If i c t f) l h w s r n k = let x = sum_column_written (If i c t f) l h w s r n (k tt) in record { adds = x.adds; behind = x.behind }
