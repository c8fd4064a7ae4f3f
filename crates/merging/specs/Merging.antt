-- What merging gives: a step of the state, and the whole pass. The state has the work slice and how many numbers there are; integers have none yet.
use Rattle.std.specs.Prelude.{◌≡◌, Bool, List, ℕ, ◌+◌, ◌≤◌, ℤ, pos, length, get_or}
use Rattle.memory.specs.Places.{folded, int_map, limit}
use Rattle.syntax.specs.Syntax.{Stmt, Problem}
use Rattle.fold.specs.Fold.{Fixed}
use Rattle.walk.specs.Item.{State}
use Rattle.walk.specs.Decode.{read_part}
use Rattle.statements.specs.Whole.{start}
use Rattle.statements.specs.Stages.{stmts_words, Folded, Started}

-- nothing but the Boolean map is touched
pub record Aside (w w' : List ℤ) : Type 0 where
  pub part : read_part w' ≡ read_part w
  pub behind : (k : ℕ) → int_map ≤ k → get_or w' k (pos 0) ≡ get_or w k (pos 0)
  pub size : length w' ≡ length w

pub record Ties (f : State → State) (w : List ℤ) (n : ℕ) (w' : List ℤ) (r : ℕ) : Type 0 where
  pub state : start w' r ≡ f (start w n)
  pub aside : Aside w w'
  pub low : r ≤ limit

-- merge: what was chosen; end: where the folded statements end. The map is that of the log from which clauses are made, and n its count of numbers
pub record MergedAll (merge : Bool) (w : List ℤ) (end : ℕ) (w' : List ℤ) (n : ℕ) : Type 0 where
  pub started : (p : Problem) (f : Fixed) (ss : List Stmt) → Folded p f ss w → end ≡ folded + length (stmts_words ss) → Started merge p f ss w' n
  pub aside : Aside w w'
