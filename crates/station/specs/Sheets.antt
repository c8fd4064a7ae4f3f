-- The contract of the C entry `compile_sheet`: the number returned, every word, every byte and how many bytes there are, for all words and lengths;
-- what the number says of the set (demand 3), and that the bytes, read, are the answer's clauses. Its numbers are small.
use Rattle.std.specs.Prelude.{◌≡◌, ◌↔◌, Bool, true, false, cond, List, ℕ, zero, suc, ◌≤◌, ◌<◌, ℤ, pos, neg_ℤ, ltb, length, take, set}
use Rattle.std.proofs.Math.Option.{some}
use Rattle.std.proofs.Common.{arith}
use Rattle.laws.specs.Lists.{counted}
use Rattle.laws.specs.Slices.{zeros}
use Rattle.syntax.specs.Words.{max_answer_words}
use Rattle.syntax.specs.Satisfies.{Val, IVal}
use Rattle.answer.specs.Answer.{clause_words}
use Rattle.call.specs.Call.{Result, compiled, contradiction, refused, returned, unchosen, call, output_after}
use Rattle.call.specs.Claim.{within, satisfied, Passed}
use Rattle.sheetback.specs.ReadSheet.{read_sheet}
use Rattle.sheetback.specs.Sheeted.{sheet_text, with_sheet, sheet_call, sheet_after}
use Rattle.sheetback.proofs.CallBack.{answer_clauses}
use Rattle.station.specs.Small.{Small, call_small}

-- how many bytes the sheet has; 0 without an answer
unfoldable pub sheet_bytes : List ℤ → Result → ℕ
sheet_bytes words (compiled ws) = length (sheet_text words ws)
sheet_bytes words contradiction = 0
sheet_bytes words (refused k) = 0

pub record SheetReturns (words out work out' work' : List ℤ) (sheet sheet' bytes bytes' : List ℕ) (r : ℤ) : Type 0 where
  pub number : r ≡ returned (sheet_call words (length out) (length work) (length sheet))
  pub output : out' ≡ output_after (sheet_call words (length out) (length work) (length sheet)) (length out)
  pub text : sheet' ≡ sheet_after words (sheet_call words (length out) (length work) (length sheet)) (length sheet)
  pub zeroed : work' ≡ zeros (length work)
  -- the first word lent, if any, has the sheet's bytes; nothing behind it is touched
  pub count : bytes' ≡ set bytes 0 (sheet_bytes words (sheet_call words (length out) (length work) (length sheet)))
  pub exact : (n : ℕ) → r ≡ pos n → (δ : Val) (ε : IVal) → within words ε ≡ true → (satisfied words δ ε ≡ true) ↔ Passed words (compiled (take n out')) δ ε
  pub unsatisfied : r ≡ neg_ℤ (pos 100) → (δ : Val) (ε : IVal) → within words ε ≡ true → satisfied words δ ε ≡ false
  -- the sheet's bytes, read, give the words of the answer's clauses
  pub back : (n : ℕ) → r ≡ pos n → read_sheet (take (sheet_bytes words (sheet_call words (length out) (length work) (length sheet))) sheet') ≡ some (counted clause_words (answer_clauses words (take n out')))

-- ---- its numbers: a refusal is 1 to 13

abbrev pub SmallSheet : Result → Type 0
SmallSheet (compiled ws) = length ws ≤ max_answer_words
SmallSheet contradiction = Unit {0}
SmallSheet (refused zero) = ⊥
SmallSheet (refused (suc k)) = k < 13

pub sheet_small : (words : List ℤ) (o w s : ℕ) → SmallSheet (sheet_call words o w s)
unfolding sheet_call with_sheet
sheet_small words o w s = go (call words o w) (call_small unchosen words o w)
  where
    size : (ws : List ℤ) → length ws ≤ max_answer_words → (t : Bool) → SmallSheet (cond t (refused 13) (compiled ws))
    size ws h true = omega arith
    size ws h false = h

    go : (x : Result) → Small x → SmallSheet (with_sheet words s x)
    go (compiled ws) h = size ws h (ltb s (length (sheet_text words ws)))
    go contradiction h = tt
    go (refused zero) h = absurd h
    go (refused (suc k)) h = omega (arith, h)
