-- The form of the column at a place of the work slice: its code word tells a declared variable from other columns, which have numbers of their own.
-- Assumes nothing.
use mathlib.Core.Path.{◌≡◌, refl, sym, ap, ◌∙◌, subst}
use mathlib.Core.Bool.{Bool, true, false, cond}
use mathlib.Core.List.{List}
use Prim.Native.Nat.{ℕ, ◌+◌}
use native.Mathlib.Omega.{arith}
use lib.IntN.{ℤ}
use lib.Dec.{eqb}
use borrow.Author.Tests.{ne_eqb}
use Rattle.syntax.specs.Words.{max_ints}
use Rattle.syntax.specs.Syntax.{Domain}
use Rattle.walk.specs.Decode.{word, below as index, read_part}
use Rattle.walk.specs.declared.Counters.{Counters}
use Rattle.walks.specs.Tree.{Splitting, never}
use Rattle.walks.specs.Form.{IntForm, const, ivar, sum, choice}
use Rattle.walks.specs.Item.{more_ints, form_int_item}
use Rattle.walks.specs.Decode.{Reader, IntRead, IntReader, if_step, int_step, decode, decode_int}
use Rattle.walks.specs.ColumnText.{column_end}
use Rattle.stages.specs.Columns.{column_at}
use Rattle.scan.specs.Nodes.{int_level}
use Rattle.tablewriter.specs.Columns.{form_at}

-- ---- the code word tells a declared variable from other columns

abbrev pub Own : IntForm → Type 0
Own (const c) = Unit {0}
Own (ivar v) = ⊥
Own (sum ts) = Unit {0}
Own (choice q o c d t f) = Unit {0}

either : (b : Bool) (x y : IntRead) → Own x.tree → Own y.tree → Own (cond b x y).tree
either true x y h i = h
either false x y h i = i

own_step : (ws : List ℤ) (P : Splitting → Reader) (Q : Splitting → IntReader) (m : Splitting) (at n k : ℕ) → (k ≡ 21 → ⊥) → Own (int_step ws P Q m at n k).tree
unfolding int_step if_step
own_step ws P Q m at n k z = rw (ne_eqb k 21 z) (either (eqb k 22) _ _ tt (either (eqb k 23) _ _ tt tt))

module _ (w : List ℤ) (p j : ℕ) (code : j ≡ word (read_part w) p) where
  read_at : column_at (read_part w) p ≡ int_step (read_part w) (decode (read_part w) 63) (decode_int (read_part w) 63) never p 0 j
  read_at = int_level (read_part w) 64 63 never p 0 j (λ e. omega (arith, e)) refl code

  pub own_at : (j ≡ 21 → ⊥) → Own (form_at w p)
  own_at z = subst (λ (r : IntRead). Own r.tree) (sym read_at) (own_step (read_part w) (decode (read_part w) 63) (decode_int (read_part w) 63) never p 0 j z)

  pub variable_at : j ≡ 21 → form_at w p ≡ ivar (index max_ints (word (read_part w) (p + 1)))
  unfolding int_step
  variable_at e = ap (λ (r : IntRead). r.tree) (read_at ∙ ap (int_step (read_part w) (decode (read_part w) 63) (decode_int (read_part w) 63) never p 0) e)

-- ---- the counters behind it

module _ (ds : List Domain) (p : ℕ) (w : List ℤ) (n : Counters) where
  pub own_end : (e : IntForm) → Own e → column_end ds p e w n ≡ more_ints w 1 ((form_int_item ds e).behind w n)
  unfolding column_end
  own_end (const c) h = refl
  own_end (ivar v) h = absurd h
  own_end (sum ts) h = refl
  own_end (choice q o c d t f) h = refl
