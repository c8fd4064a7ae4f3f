-- Where a walk over the statements begins: from folded words alone to empty maps and cells and merging's numbers. What that asks and gives.
use Rattle.std.specs.Prelude.{◌≡◌, Bool, List, ℕ, ◌+◌, ◌≤◌, ◌<◌, ℤ, pos, length, get_or}
use Rattle.laws.specs.Slices.{Has}
use Rattle.memory.specs.Places.{folded, ifs_word}
use Rattle.syntax.specs.Syntax.{Stmt, Problem}
use Rattle.syntax.specs.Words.{max_bools, min_work_words}
use Rattle.fold.specs.Fold.{Fixed}
use Rattle.answer.specs.Answer.{fixed_word, start_log}
use Rattle.walk.specs.Decode.{read_part}
use Rattle.walks.specs.Item.{has_ifs}
use Rattle.statements.specs.Stages.{Settled}
use Rattle.stages.specs.StatementsPlaces.{stmts_words}
use Rattle.stages.specs.Start.{Begun}

-- the fixed values and the folded statements up to `end`, whatever stands behind them
pub record Settles (p : Problem) (f : Fixed) (ss : List Stmt) (w : List ℤ) (end : ℕ) : Type 0 where
  pub set : Settled p f ss
  pub values : (v : ℕ) → v < max_bools → get_or w v (pos 0) ≡ fixed_word (f v)
  pub stands : Has (read_part w) folded (stmts_words ss)
  pub ends : end ≡ folded + length (stmts_words ss)
  pub size : min_work_words ≤ length w

pub record SomeSettles (w : List ℤ) (end : ℕ) : Type 0 where
  pub it : Problem
  pub fixed : Fixed
  pub stmts : List Stmt
  pub settles : Settles it fixed stmts w end

-- the walks begin there with n numbers; the words in front of the maps stay, and those from the word for Ifs on
pub record Begins (merge : Bool) (w : List ℤ) (end : ℕ) (w' : List ℤ) (n : ℕ) : Type 0 where
  pub begun : (p : Problem) (f : Fixed) (ss : List Stmt) → Settles p f ss w end → Begun (read_part w) (has_ifs w) w' n (start_log merge ss)
  pub part : read_part w' ≡ read_part w
  pub behind : (k : ℕ) → ifs_word ≤ k → get_or w' k (pos 0) ≡ get_or w k (pos 0)
  pub size : length w' ≡ length w
