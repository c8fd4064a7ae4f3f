-- The contracts of the C entries: the number returned and every word of the lent slices are the definitions', for all words and lengths;
-- and what the number says of the set (demand 3, call/Claim), with its consequences.
use Rattle.std.specs.Prelude.{◌≡◌, ◌↔◌, true, false, List, ℕ, ◌%◌, eqb, ℤ, pos, neg_ℤ, length, take}
use Rattle.laws.specs.Slices.{zeros}
use Rattle.syntax.specs.Satisfies.{Val, IVal}
use Rattle.call.specs.Call.{compiled, returned, call_with, output_after}
use Rattle.call.specs.declared.Choices.{Choices}
use Rattle.call.specs.Claim.{within, satisfied, Passed, Consequences}

-- the choices that a number names: 1, merging; what else it holds says nothing
unfoldable pub choices_of : ℕ → Choices
choices_of n = record { merge = eqb (n % 2) 1 }

-- c: what the caller chose
pub record Returns (c : Choices) (set out work out' work' : List ℤ) (r : ℤ) : Type 0 where
  pub number : r ≡ returned (call_with c set (length out) (length work))
  pub output : out' ≡ output_after (call_with c set (length out) (length work)) (length out)
  pub zeroed : work' ≡ zeros (length work)
  -- a number of words: an assignment within the domains satisfies the set's words exactly when it passes the words written
  pub exact : (n : ℕ) → r ≡ pos n → (δ : Val) (ε : IVal) → within set ε ≡ true → (satisfied set δ ε ≡ true) ↔ Passed set (compiled (take n out')) δ ε
  -- -100: none satisfies the set
  pub unsatisfied : r ≡ neg_ℤ (pos 100) → (δ : Val) (ε : IVal) → within set ε ≡ true → satisfied set δ ε ≡ false
  pub consequences : Consequences
