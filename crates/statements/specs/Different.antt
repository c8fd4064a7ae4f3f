-- The value clauses of an AllDifferent from the final maps, and a variable that has a number in a log.
use Rattle.std.specs.Prelude.{◌≡◌, List, [], map, ℕ, ℤ}
use Rattle.std.proofs.Math.Option.{some}
use Rattle.syntax.specs.Syntax.{Eq, IntExpr}
use Rattle.sums.specs.LinearSum.{constant, sub_sum}
use Rattle.sums.specs.Linear.{linear_of}
use Rattle.clauses.specs.Clause.{LinearLit, linear, Clause, clause}
use Rattle.clauses.specs.Log.{Log, get_int_var}
use Rattle.walk.specs.Item.{int_number}

-- e is a variable: other expressions have no value clauses, so that no If's number is asked
unfoldable pub value_literal : List ℤ → ℤ → IntExpr → LinearLit
value_literal w x e = linear Eq (sub_sum (linear_of (int_number w) (λ p. 0) 0 e) (constant x))

unfoldable pub value_clause : List ℤ → List IntExpr → ℤ → Clause
value_clause w es x = clause [] (map (value_literal w x) es)

pub record Found (s : Log) (v : ℕ) : Type 0 where
  pub number : ℕ
  pub is : get_int_var v s ≡ some number
