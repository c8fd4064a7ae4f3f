-- An accepted set that settles is one that the walks take (`settled_walkable`): its folded words F stand in the work slice, and Ifs among them are marked.
use Rattle.std.specs.Prelude.{Bool, List, ℕ, ◌+◌, ◌≤◌, ℤ, length}
use Rattle.std.proofs.Common.{arith}
use Rattle.laws.specs.Slices.{Has}
use Rattle.memory.specs.Places.{folded}
use Rattle.syntax.specs.Syntax.{Stmt, Problem}
use Rattle.syntax.specs.Words.{max_answer_words}
use Rattle.fold.specs.Fold.{Fixed}
use Rattle.statements.specs.Stages.{Settled, settled_short}
use Rattle.stages.specs.StatementsPlaces.{stmts_words, Marked}
use Rattle.stages.specs.StartLegal.{settled_legal}
use Rattle.stages.specs.Whole.{Walkable}

pub settled_walkable : (p : Problem) (f : Fixed) (ss : List Stmt) → Settled p f ss → (F : List ℤ) → Has F folded (stmts_words ss) → (with_ifs : Bool) → Marked F (folded + length (stmts_words ss)) with_ifs → (cap : ℕ) → cap ≤ max_answer_words
    → Walkable p ss F with_ifs cap
settled_walkable p f ss s F h with_ifs k cap l = record {
  few_bools = s.well.few_bools;
  few_ints = s.well.few_ints;
  legal = settled_legal p s.well f ss s.ends;
  short = omega (arith, settled_short p f ss s);
  stands = h;
  marked = k;
  small = l;
}
