-- The listing of a result of the call, and the listing of a text. Assumes nothing.
use Rattle.std.specs.Prelude.{List, [], ℕ, ℤ, drop}
use Rattle.std.proofs.Math.Option.{Option, none, some}
use Rattle.decimal.specs.Bytes.{unread_line}
use Rattle.input.specs.ReadText.{read_text}
use Rattle.lines.specs.Lines.{count_word}
use Rattle.text.specs.Listing.{print_answer}
use Rattle.text.specs.declared.Answer.{Answer}
use Rattle.text.specs.declared.Answer.TheVariants as answer
use Rattle.call.specs.Call.{Result, compiled, contradiction, refused, call}

abbrev pub kind_of : Result → Answer
kind_of (compiled ws) = answer.Compiled
kind_of contradiction = answer.Contradiction
kind_of (refused k) = answer.Refused k

abbrev pub words_of : Result → List ℤ
words_of (compiled ws) = ws
words_of contradiction = []
words_of (refused k) = []

-- the set's first two words are the counts of declared variables
unfoldable pub print_result : List ℤ → Result → List ℕ
print_result set r = print_answer (kind_of r) (count_word set) (count_word (drop 1 set)) (words_of r)

-- of the words of a set, if the text was read
unfoldable pub list_words : ℕ → ℕ → Option (List ℤ) → List ℕ
list_words out_length work_length none = unread_line
list_words out_length work_length (some ws) = print_result ws (call ws out_length work_length)

-- of a text, with an output and a work slice of these lengths
unfoldable pub list_text : (out_length work_length : ℕ) → List ℕ → List ℕ
list_text out_length work_length t = list_words out_length work_length (read_text t)

-- what the program prints for a text: it lends 16384 output words and as many work words
unfoldable listing : List ℕ → List ℕ
listing t = list_text 16384 16384 t
