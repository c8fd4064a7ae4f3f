-- What the code from text to verdict ensures. Assumes nothing.
use Rattle.std.specs.Prelude.{◌≡◌, List, ℕ, ◌≤◌, min, ℤ, length, take}
use Rattle.std.proofs.lemmas.List.Edits.{sets}
use Rattle.laws.specs.Slices.{zeros}
use Rattle.decimal.specs.Puts.{Puts}
use Rattle.roster.specs.RosterText.{check_lines, check_text}

-- the bytes of a text, as many as there is room for, and how many these are
pub record Prints (text out out' : List ℕ) (r : ℕ) : Type 0 where
  pub count : r ≡ min (length text) (length out)
  pub bytes : out' ≡ sets out 0 text
  -- what lending `&out[..r]` asks
  pub within : r ≤ length out'
  pub part : r ≡ length (take r out')

-- room for the words and the values of the lines, and a work slice of zeros
pub record Room (lines : List ℕ) (words values work : List ℤ) : Type 0 where
  pub short : length lines ≤ 65536
  pub set : 32768 ≤ length words
  pub roster : 65537 ≤ length values
  pub clean : work ≡ zeros (length work)

-- of the bytes in front of the last line feed
pub record Tells (lines : List ℕ) (work work' : List ℤ) (out out' : List ℕ) (r : ℕ) : Type 0 where
  pub told : Puts out 0 (check_lines (length work) lines) out' r
  pub zeroed : work' ≡ zeros (length work)

-- of a text
pub record Told (text : List ℕ) (work work' : List ℤ) (out out' : List ℕ) (r : ℕ) : Type 0 where
  pub told : Prints (check_text (length work) text) out out' r
  pub zeroed : work' ≡ zeros (length work)
