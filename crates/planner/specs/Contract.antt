-- The contract of `compile` and `compile_with`: the answer and every word of both slices are the definition's (call/Call), for all words and lengths;
-- and what the answer says of the set (demand 3, call/Claim), with its consequences.
use Rattle.std.specs.Prelude.{◌≡◌, ◌↔◌, true, false, List, ℕ, ℤ, length, take}
use Rattle.laws.specs.Slices.{zeros}
use Rattle.syntax.specs.Satisfies.{Val, IVal}
use Rattle.call.specs.Call.{Result, compiled, contradiction, refused, call_with, output_after}
use Rattle.call.specs.declared.Choices.{Choices}
use Rattle.call.specs.Claim.{within, satisfied, Passed, Consequences}
use Rattle.planner.specs.declared.Answer.{Answer}
use Rattle.planner.specs.declared.Answer.TheVariants.{Compiled, Contradiction, Refused}

-- the call's result in the code's values: the number of words written, a contradiction, or the refusal's number
unfoldable pub answer_of : Result → Answer
answer_of (compiled ws) = Compiled (length ws)
answer_of contradiction = Contradiction
answer_of (refused k) = Refused k

-- c: what the caller chose
pub record Compiles (c : Choices) (set out work out' work' : List ℤ) (r : Answer) : Type 0 where
  pub answer : r ≡ answer_of (call_with c set (length out) (length work))
  pub output : out' ≡ output_after (call_with c set (length out) (length work)) (length out)
  pub zeroed : work' ≡ zeros (length work)
  -- an assignment within the domains satisfies the set's words exactly when it passes the words written; a contradiction is satisfied by none
  pub exact : (n : ℕ) → r ≡ Compiled n → (δ : Val) (ε : IVal) → within set ε ≡ true → (satisfied set δ ε ≡ true) ↔ Passed set (compiled (take n out')) δ ε
  pub unsatisfied : r ≡ Contradiction → (δ : Val) (ε : IVal) → within set ε ≡ true → satisfied set δ ε ≡ false
  -- two statement lists joined pass exactly when both do; Not of a rule, when the rule fails; Or of rules, when one passes
  pub consequences : Consequences
