-- Expressions one behind another among the folded words of the work slice: what is asked of them.
use Rattle.std.specs.Prelude.{◌≡◌, List, map, ℕ, ◌≤◌, ℤ, length}
use Rattle.laws.specs.Lists.{flat}
use Rattle.laws.specs.Slices.{Has}
use Rattle.memory.specs.Places.{folded_end}
use Rattle.syntax.specs.Syntax.{IntExpr, encode_int}
use Rattle.words.specs.Exact.{Each}
use Rattle.walk.specs.Decode.{read_part}
use Rattle.walks.specs.Legal.{LegalInt}

-- an expression stands at p
pub record At (w : List ℤ) (p : ℕ) (e : IntExpr) : Type 0 where
  pub words : Has (read_part w) p (encode_int e)
  pub legal : LegalInt e 64

-- the expressions es, `count` of them, from `at` on
pub record Standing (w : List ℤ) (at count : ℕ) (es : List IntExpr) : Type 0 where
  pub words : Has (read_part w) at (flat (map encode_int es))
  pub counted : count ≡ length es
  pub legal : Each (λ e. LegalInt e 64) es
  pub size : folded_end ≤ length w
