-- What the passes leave of a set, as words, for comparison with the Rust: the fixed values, then the remaining statements.
use Rattle.std.specs.Prelude.{◌≡◌, cond, List, [], ◌++◌, map, ℕ, ◌+◌, ◌-◌, ℤ, ltb, length, take, drop}
use Rattle.laws.specs.Lists.{below}
use Rattle.laws.specs.Slices.{zeros}
use Rattle.memory.specs.Places.{folded}
use Rattle.syntax.specs.Syntax.{Stmt, Problem}
use Rattle.words.specs.Parse.{ok}
use Rattle.read.specs.Read.{read_set}
use Rattle.fold.specs.Fold.{Fixed}
use Rattle.fold.specs.Optimize.{settled, optimize}
use Rattle.answer.specs.Answer.{fixed_word}
use Rattle.statements.specs.Stages.{stmts_words}
use Rattle.settle.specs.Settle.{settling}
use Rattle.settle.specs.declared.Settling.{Settling}
use Rattle.settle.specs.declared.Settling.TheVariants.{Refused, Contradiction, Folded}

unfoldable pub remaining_words : Problem → Fixed → List Stmt → List ℤ
remaining_words p f ss = map fixed_word (map f (below p.bools)) ++ stmts_words ss

-- the refusal's number; 100 for a contradiction; or 1000 and how many words there are
unfoldable pub remaining_number : Settling → ℕ
remaining_number (Refused k) = k
remaining_number Contradiction = 100
remaining_number (Folded q) = 1000 + (q.bools + (q.end - folded))

-- words in front of what stands in a slice, if it has room for all of them
unfoldable pub placed : List ℤ → List ℤ → List ℤ
placed out ws = cond (ltb (length out) (length ws)) out (ws ++ drop (length ws) out)

-- the output, n words long
abbrev pub Output : Settling → List ℤ → ℕ → List ℤ → Type 0
Output (Refused k) set n out' = out' ≡ zeros n
Output Contradiction set n out' = out' ≡ zeros n
Output (Folded q) set n out' = (p : Problem) (f : Fixed) (ss : List Stmt) → read_set set ≡ ok p [] → optimize p ≡ settled f ss → out' ≡ placed (zeros n) (remaining_words p f ss)

pub record Remains (set out work out' work' : List ℤ) (r : ℕ) : Type 0 where
  pub number : r ≡ remaining_number (settling (length work) set)
  pub output : Output (settling (length work) set) set (length out) out'
  pub zeroed : work' ≡ zeros (length work)

-- the first words of the work slice and those from 512 to the end, one run behind the other
pub record Copied (work : List ℤ) (bools end : ℕ) (out out' : List ℤ) (r : ℕ) : Type 0 where
  pub count : r ≡ bools + (end - folded)
  pub output : out' ≡ placed out (take bools work ++ take (end - folded) (drop folded work))
