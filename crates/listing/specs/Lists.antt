-- What the code from text to listing is lent and ensures. Assumes nothing.
use Rattle.std.specs.Prelude.{◌≡◌, List, ℕ, ◌≤◌, ◌<◌, min, ℤ, length, take}
use Rattle.std.proofs.Math.Option.{Option, none, some}
use Rattle.std.proofs.lemmas.List.Edits.{sets}
use Rattle.laws.specs.Slices.{zeros}
use Rattle.call.specs.Call.{Result, call, output_after}
use Rattle.input.specs.ReadText.{read_text}
use Rattle.readback.specs.Listed.{print_result, list_text}
use Rattle.planner.specs.declared.Answer.{Answer}
use Rattle.planner.specs.declared.Answer.TheVariants.{Refused}
use Rattle.planner.specs.Contract.{answer_of}

-- an answer of the call, with the output slice that it left
pub record Answered (x : Result) (output : List ℤ) (answer : Answer) : Type 0 where
  pub told : answer ≡ answer_of x
  pub left : output ≡ output_after x (length output)

pub record SomeAnswered (output : List ℤ) (answer : Answer) : Type 0 where
  pub it : Result
  pub answered : Answered it output answer

-- the bytes of a text, as many as there is room for, and how many these are
pub record Bytes (text out out' : List ℕ) (r : ℕ) : Type 0 where
  pub count : r ≡ min (length text) (length out)
  pub bytes : out' ≡ sets out 0 text

-- r counts bytes at the start of `out`: what lending `&out[..r]` asks
pub record Inside (out : List ℕ) (r : ℕ) : Type 0 where
  pub within : r ≤ length out
  pub part : r ≡ length (take r out)

pub record Prints (set output : List ℤ) (answer : Answer) (out out' : List ℕ) (r : ℕ) : Type 0 where
  pub prints : (x : Result) → Answered x output answer → Bytes (print_result set x) out out' r
  -- a refusal's number is a usize
  pub small : (k : ℕ) → answer ≡ Refused k → k < 18446744073709551616

-- the slices that the call is lent: untouched if the text is unread
unfoldable pub output_left : Option (List ℤ) → List ℤ → ℕ → List ℤ
output_left none output work_length = output
output_left (some ws) output work_length = output_after (call ws (length output) work_length) (length output)

unfoldable pub work_left : Option (List ℤ) → List ℤ → List ℤ
work_left none work = work
work_left (some ws) work = zeros (length work)

pub record Lists (text : List ℕ) (output work output' work' : List ℤ) (out out' : List ℕ) (r : ℕ) : Type 0 where
  pub listing : Bytes (list_text (length output) (length work) text) out out' r
  pub inside : Inside out' r
  -- 262144 bytes are room enough
  pub room : length output ≤ 16384 → length (list_text (length output) (length work) text) ≤ 262144
  pub answered : output' ≡ output_left (read_text text) output (length work)
  pub worked : work' ≡ work_left (read_text text) work
