-- The contract of `planner::compile_sheet`: its answer, every word and every byte are the definition's (sheetback/Sheeted), for all words and lengths;
-- and what the answer says of the set (demand 3), and the sheet of the answer.
use Rattle.std.specs.Prelude.{◌≡◌, ◌↔◌, true, false, List, ℕ, ◌-◌, ◌≤◌, ℤ, length, take}
use Rattle.std.proofs.Common.{ap, ◌∙◌}
use Rattle.std.proofs.Math.Option.{some}
use Rattle.std.proofs.Math.Seq.{take-append_seam}
use Rattle.laws.specs.Lists.{counted}
use Rattle.laws.specs.Slices.{zeros}
use Rattle.syntax.specs.Satisfies.{Val, IVal}
use Rattle.syntax.specs.Words.{max_answer_words}
use Rattle.answer.specs.Answer.{clause_words}
use Rattle.call.specs.Call.{Result, compiled, contradiction, refused, output_after}
use Rattle.call.specs.Claim.{within, satisfied, Passed}
use Rattle.sheetback.specs.ReadSheet.{read_sheet}
use Rattle.sheetback.specs.Sheeted.{sheet_text, with_sheet, sheet_call, no_bytes, sheet_after}
use Rattle.sheetback.proofs.CallBack.{answer_clauses}
use Rattle.sheets.specs.declared.Sheeted.{Sheeted}
use Rattle.sheets.specs.declared.Sheeted.TheVariants.{Compiled, Contradiction, Refused}

-- the result in the code's values: the words of the answer and the bytes of the sheet, a contradiction, or the refusal's number
unfoldable pub sheeted_of : List ℤ → Result → Sheeted
sheeted_of set (compiled ws) = Compiled (length ws) (length (sheet_text set ws))
sheeted_of set contradiction = Contradiction
sheeted_of set (refused k) = Refused k

pub record Sheets (set out work out' work' : List ℤ) (sheet sheet' : List ℕ) (r : Sheeted) : Type 0 where
  pub answer : r ≡ sheeted_of set (sheet_call set (length out) (length work) (length sheet))
  pub output : out' ≡ output_after (sheet_call set (length out) (length work) (length sheet)) (length out)
  pub bytes : sheet' ≡ sheet_after set (sheet_call set (length out) (length work) (length sheet)) (length sheet)
  pub zeroed : work' ≡ zeros (length work)
  -- an assignment within the domains satisfies the set's words exactly when it passes the words written; a contradiction is satisfied by none
  pub exact : (n m : ℕ) → r ≡ Compiled n m → (δ : Val) (ε : IVal) → within set ε ≡ true → (satisfied set δ ε ≡ true) ↔ Passed set (compiled (take n out')) δ ε
  pub unsatisfied : r ≡ Contradiction → (δ : Val) (ε : IVal) → within set ε ≡ true → satisfied set δ ε ≡ false
  -- the sheet's bytes, read, give the words of the answer's clauses
  pub back : (n m : ℕ) → r ≡ Compiled n m → read_sheet (take m sheet') ≡ some (counted clause_words (answer_clauses set (take n out')))

-- an answer of the call, with the output that it left and a cleared sheet
pub record Answered (set : List ℤ) (ws output : List ℤ) (n : ℕ) (sheet : List ℕ) : Type 0 where
  pub count : n ≡ length ws
  pub left : output ≡ output_after (compiled ws) (length output)
  pub few : length ws ≤ max_answer_words
  pub cleared : sheet ≡ no_bytes (length sheet)

pub record SomeAnswered (set output : List ℤ) (n : ℕ) (sheet : List ℕ) : Type 0 where
  pub it : List ℤ
  pub answered : Answered set it output n sheet

-- what is written for it
pub record Finishes (set output output' : List ℤ) (n : ℕ) (sheet sheet' : List ℕ) (r : Sheeted) : Type 0 where
  pub finishes : (ws : List ℤ) → Answered set ws output n sheet
      → (r ≡ sheeted_of set (with_sheet set (length sheet) (compiled ws))) × (output' ≡ output_after (with_sheet set (length sheet) (compiled ws)) (length output)) × (sheet' ≡ sheet_after set (with_sheet set (length sheet) (compiled ws)) (length sheet))

-- the answer's words in the output that the call left
pub compiled_words : (ws output : List ℤ) → output ≡ output_after (compiled ws) (length output) → take (length ws) output ≡ ws
unfolding output_after
compiled_words ws output e = ap (take (length ws)) e ∙ take-append_seam ws (zeros (length output - length ws))
