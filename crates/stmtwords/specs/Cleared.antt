-- What clearing the cells of Ifs with split parts does to a work slice, for the Ifs of the words at a place; where these end comes with it.
use Rattle.std.specs.Prelude.{◌≡◌, cond, List, [], ◌++◌, ℕ, ℤ, length, drop}
use Rattle.memory.specs.Places.{ifs_word}
use Rattle.walk.specs.Decode.{read_part}
use Rattle.walks.specs.Tree.{Place, here}
use Rattle.walks.specs.Item.{has_ifs}
use Rattle.walks.specs.Decode.{decode, decode_int}
use Rattle.walks.specs.Clear.{clear_places}
use Rattle.scan.specs.Skip.{Skips, SkipsAll, IntSkips, TermSkips}
use Rattle.stmtwords.specs.Ifs.{many_ifs, terms_ifs, ifs_at, ifs_int_at}

pub record Cleared (ps : List Place) (w w' : List ℤ) : Type 0 where
  pub cells : w' ≡ clear_places ps w
  pub part : read_part w' ≡ read_part w
  pub size : length w' ≡ length w
  pub behind : drop ifs_word w' ≡ drop ifs_word w

-- ws: the words that are read; q, b: where they end, and the splitting's next number there
pub record Clears (ws : List ℤ) (l at base q b : ℕ) (w w' : List ℤ) : Type 0 where
  pub skips : Skips ws l here at base q b
  pub cleared : Cleared (ifs_at ws l at base) w w'

pub record ClearsAll (ws : List ℤ) (l k at base q b : ℕ) (w w' : List ℤ) : Type 0 where
  pub skips : SkipsAll ws l here k at base q b
  pub cleared : Cleared (many_ifs (decode ws l here) (ifs_at ws l) k at base) w w'

pub record IntClears (ws : List ℤ) (l at base q b : ℕ) (w w' : List ℤ) : Type 0 where
  pub skips : IntSkips ws l here at base q b
  pub cleared : Cleared (ifs_int_at ws l at base) w w'

pub record TermClears (ws : List ℤ) (l k at base q b : ℕ) (w w' : List ℤ) : Type 0 where
  pub skips : TermSkips ws l here k at base q b
  pub cleared : Cleared (terms_ifs ws (decode_int ws l here) (ifs_int_at ws l) k at base) w w'

-- the Ifs of the pair at p and q; where the word for Ifs is 0 there are none
unfoldable pub pair_ifs : List ℤ → ℕ → ℕ → List Place
pair_ifs w p q = cond (has_ifs w) (ifs_int_at (read_part w) 64 p 0 ++ ifs_int_at (read_part w) 64 q 0) []
