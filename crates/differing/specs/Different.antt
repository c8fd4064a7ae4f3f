-- An AllDifferent of the work slice where no If stands: what writing its clauses asks and gives.
use Rattle.std.specs.Prelude.{List, ◌++◌, map, ℕ, ◌+◌, ℤ, length}
use Rattle.syntax.specs.Syntax.{Domain, IntExpr}
use Rattle.different.specs.Different.{values_used_up}
use Rattle.walk.specs.declared.Counters.{Counters}
use Rattle.rows.specs.Emit.{clauses_words, Behind}
use Rattle.statements.specs.Different.{value_clause}
use Rattle.differing.specs.Rows.{Puts, pairs_words, pair_count, Pairs}
use Rattle.differing.specs.Values.{Over, SomeOver}

-- the words of its clauses: its pairs', then its values'
unfoldable pub different_words : List Domain → List ℤ → Counters → ℕ → List IntExpr → List ℤ
different_words ds w n at es = pairs_words w n ds at (length es) ++ clauses_words (map (value_clause w es) (values_used_up ds es))

unfoldable pub different_lines : List Domain → List IntExpr → ℕ
different_lines ds es = pair_count (length es) + length (values_used_up ds es)

pub record SomeDifferent (set w : List ℤ) (n : Counters) (at count : ℕ) : Type 0 where
  pub over : SomeOver set w at count
  pub pairs : Pairs w n at count

-- from o on, behind k clauses, its clauses; and where and behind how many clauses the next one comes
pub record PutDifferent (set w : List ℤ) (n : Counters) (at count : ℕ) (out : List ℤ) (o k : ℕ) (out' : List ℤ) (o' k' : ℕ) : Type 0 where
  pub puts : (ds : List Domain) (es : List IntExpr) → Over set w at count ds es → Puts out o k (different_words ds w n at es) (different_lines ds es) out' o' k'
  pub behind : Behind out' o' k'
