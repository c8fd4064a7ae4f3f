-- The call: its result for any words and lengths, and what the output and work slices hold afterwards.
use Rattle.std.specs.Prelude.{◌≡◌, false, ◌||◌, cond, List, [], ◌++◌, ℕ, zero, suc, ◌-◌, ℤ, pos, neg_ℤ, ltb, length}
use Rattle.laws.specs.Slices.{zeros}
use Rattle.syntax.specs.Words.{max_set_words, min_work_words, max_answer_words}
use Rattle.syntax.specs.Syntax.{Problem}
use Rattle.read.specs.Read.{Parsed, ok, refuse, read_set}
use Rattle.limits.specs.Limits.{check}
use Rattle.fold.specs.Optimize.{Outcome, inconsistent, settled, optimize}
use Rattle.answer.specs.Answer.{layout, normalize}
use Rattle.call.specs.declared.Choices.{Choices}

pub data Result : Type 0 where
  compiled : List ℤ → Result
  contradiction : Result
  refused : ℕ → Result

-- the number a station gets: the words written, the refusal's number negated, or -100 for a contradiction
unfoldable pub returned : Result → ℤ
returned (compiled ws) = pos (length ws)
returned contradiction = neg_ℤ (pos 100)
returned (refused k) = neg_ℤ (pos k)

-- a set that 2 to 11 let through, and what it says
pub record Accepted (set : List ℤ) (p : Problem) : Type 0 where
  pub short : ltb max_set_words (length set) ≡ false
  pub says : read_set set ≡ ok p []
  pub unrefused : check p ≡ 0

-- 12: the words do not fit
unfoldable pub measured : ℕ → List ℤ → Result
measured out_length ws = cond (ltb out_length (length ws) || ltb max_answer_words (length ws)) (refused 12) (compiled ws)

-- c: what the caller chose
unfoldable pub answered : Choices → ℕ → Problem → Outcome → Result
answered c out_length p inconsistent = contradiction
answered c out_length p (settled f ss) = measured out_length (layout (normalize c.merge p f ss))

-- the refusal that `check` gives, if any
unfoldable pub checked : Choices → ℕ → Problem → ℕ → Result
checked c out_length p zero = answered c out_length p (optimize p)
checked c out_length p (suc k) = refused (suc k)

unfoldable pub when_read : Choices → ℕ → Parsed Problem → Result
when_read c out_length (refuse k) = refused k
when_read c out_length (ok p r) = checked c out_length p (check p)

unfoldable pub call_with : Choices → (set : List ℤ) (out_length work_length : ℕ) → Result
call_with c set out_length work_length =
    cond (ltb work_length min_work_words) (refused 1)
    (cond (ltb max_set_words (length set)) (refused 2)
    (when_read c out_length (read_set set)))

-- nothing chosen
abbrev pub unchosen : Choices
unchosen = record { merge = false }

abbrev pub call : (set : List ℤ) (out_length work_length : ℕ) → Result
call set out_length work_length = call_with unchosen set out_length work_length

-- the slices after the call
unfoldable pub output_after : Result → ℕ → List ℤ
output_after (compiled ws) out_length = ws ++ zeros (out_length - length ws)
output_after contradiction out_length = zeros out_length
output_after (refused k) out_length = zeros out_length

unfoldable pub work_after : Result → ℕ → List ℤ
work_after r work_length = zeros work_length
