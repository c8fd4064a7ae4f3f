-- What the code that reads the text answers, given what the definitions read. Assumes nothing.
use Rattle.std.specs.Prelude.{◌≡◌, List, [], ◌∷◌, ℕ, ◌+◌, ◌-◌, ◌≤◌, ◌<◌, ℤ, pos, length, take, drop, replicate}
use Rattle.std.specs.Prelude.{Some, None}
use Rattle.std.specs.Prelude as code
use Rattle.std.proofs.Math.Option.{Option, none, some}
use Rattle.std.proofs.lemmas.List.Edits.{sets}
use Rattle.decimal.specs.Bytes.{line_feed, bools_key, ints_key, int_key, statements_key, statement_key}
use Rattle.input.specs.ReadText.{Reader, split, count_line, lines}

-- ---- words stored from a place on; those past the end are counted only

unfoldable pub fill : List ℤ → ℕ → Option (List ℤ) → Option (List ℤ × ℕ)
fill out k none = none
fill out k (some zs) = some (sets out k zs, k + length zs)

-- out: the slice when the code returns
unfoldable pub filled : List ℤ → code.Option ℕ → Option (List ℤ × ℕ)
filled out (Some n) = some (out, n)
filled out None = none

-- ---- parts

-- r is the first place of s from `at` on, or the end
pub record Found (s : ℕ) (text : List ℕ) (at r : ℕ) : Type 0 where
  pub low : at ≤ r
  pub high : r ≤ length text
  pub more : r < length text → split s (drop at text) ≡ take (r - at) (drop at text) ∷ split s (drop (r + 1) text)
  pub last : r ≡ length text → split s (drop at text) ≡ take (r - at) (drop at text) ∷ []

-- ---- lines: what is left to read, from the code's answer on

unfoldable pub left_at : Reader → List ℕ → List ℤ → ℕ → ℕ → Option (List ℤ × ℕ)
left_at next text out at n = fill out n (next (split line_feed (drop at text)))

unfoldable pub left_step : Reader → List ℕ → List ℤ → code.Option (ℕ × ℕ) → Option (List ℤ × ℕ)
left_step next text out (Some (a, n)) = left_at next text out a n
left_step next text out None = none

-- after one line that may have another key: by `more` past it, by `next` from it on
unfoldable pub left_line : Reader → Reader → List ℕ → List ℤ → ℕ → ℕ → code.Option (code.Option (ℕ × ℕ)) → Option (List ℤ × ℕ)
left_line more next text out at n (Some (Some (a, m))) = left_at more text out a m
left_line more next text out at n (Some None) = left_at next text out at n
left_line more next text out at n None = none

-- places stay within the text, and no more words than bytes are counted
abbrev pub InStep : List ℕ → code.Option (ℕ × ℕ) → Type 0
InStep text (Some (a, n)) = (a ≤ length text) × (n ≤ a)
InStep text None = Unit

-- a line that is read is passed
abbrev pub InLine : List ℕ → ℕ → code.Option (code.Option (ℕ × ℕ)) → Type 0
InLine text at (Some (Some (a, n))) = (at < a) × ((a ≤ length text) × (n ≤ a))
InLine text at (Some None) = Unit
InLine text at None = Unit

abbrev pub InWords : ℕ → code.Option ℕ → Type 0
InWords most (Some n) = n ≤ most
InWords most None = Unit

-- most: no more words are counted
pub record Filled (out : List ℤ) (k : ℕ) (read : Option (List ℤ)) (most : ℕ) (out' : List ℤ) (r : code.Option ℕ) : Type 0 where
  pub size : length out' ≡ length out
  pub words : fill out k read ≡ filled out' r
  pub few : InWords most r

-- `whole` gave what `next` reads on from the answer
pub record Stepped (whole : Reader → Reader) (text : List ℕ) (out : List ℤ) (at k : ℕ) (out' : List ℤ) (r : code.Option (ℕ × ℕ)) : Type 0 where
  pub inside : InStep text r
  pub size : length out' ≡ length out
  pub left : (next : Reader) → next [] ≡ none → left_at (whole next) text out at k ≡ left_step next text out' r

pub record Lined (key text : List ℕ) (out : List ℤ) (at k : ℕ) (out' : List ℤ) (r : code.Option (code.Option (ℕ × ℕ))) : Type 0 where
  pub inside : InLine text at r
  pub size : length out' ≡ length out
  pub left : (next : Reader) → next [] ≡ none → left_at (lines key next) text out at k ≡ left_line (lines key next) next text out' at k r

-- a place in a text, and a count of words
pub record Inside (text : List ℕ) (at k : ℕ) : Type 0 where
  pub short : length text ≤ 65536
  pub place : at ≤ length text
  pub count : k ≤ at

-- ---- the whole

unfoldable pub head : Reader → Reader
head next = count_line bools_key (count_line ints_key (lines int_key next))

unfoldable pub tail : Reader → Reader
tail next = count_line statements_key (lines statement_key next)

unfoldable pub words_of : Option (List ℤ) → code.Option ℕ
words_of none = None
words_of (some zs) = Some (length zs)

-- the lent slice of n words: zero behind the words, and everywhere if the text is unread
unfoldable pub words_after : ℕ → Option (List ℤ) → List ℤ
words_after n none = replicate n (pos 0)
words_after n (some zs) = sets (replicate n (pos 0)) 0 zs
