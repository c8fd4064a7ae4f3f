-- What the code that prints words writes, and where it stands in the words afterwards. Assumes nothing.
use Rattle.std.specs.Prelude.{◌≡◌, List, ◌∷◌, ℕ, ◌+◌, ◌-◌, ◌≤◌, ◌<◌, ℤ, pos, length, take, drop, get_or}
use Rattle.std.proofs.Common.{add-one, drop-cons}
use Rattle.decimal.specs.Puts.{Puts}
use Rattle.lines.specs.Lines.{Shown, print_numbers, print_line}

-- what is shown of the words ws from a place of theirs on; next is the place after
pub record Printed (s : Shown) (ws : List ℤ) (from : ℕ) (out : List ℕ) (at : ℕ) (out' : List ℕ) (r next : ℕ) : Type 0 where
  pub text : Puts out at s.text out' r
  pub rest : drop next ws ≡ s.rest
  pub low : from ≤ next
  pub high : next ≤ length ws

-- r: n words from `from` on, or those that there are
pub record Stops (ws : List ℤ) (from n r : ℕ) : Type 0 where
  pub low : from ≤ r
  pub high : r ≤ length ws
  pub part : take (r - from) (drop from ws) ≡ take n (drop from ws)
  pub size : r ≡ from + length (take n (drop from ws))
  pub rest : drop r ws ≡ drop n (drop from ws)

-- n words, and a line of them
unfoldable pub part_of : ℕ → List ℤ → Shown
part_of n ws = record { text = print_numbers (take n ws); rest = drop n ws }

unfoldable pub line_of : List ℕ → ℕ → List ℤ → Shown
line_of key n ws = record { text = print_line key (take n ws); rest = drop n ws }

-- the word at a place
pub cons_word : (ws : List ℤ) (i : ℕ) → i < length ws → drop i ws ≡ get_or ws i (pos 0) ∷ drop (i + 1) ws
cons_word ws i h = rw (add-one i) (drop-cons ws i (pos 0) h)
