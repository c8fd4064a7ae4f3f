-- What the code that fills a sheet writes. Bytes past the end of the slice are dropped, and counted. Assumes nothing.
use Rattle.std.specs.Prelude.{◌≡◌, Bool, true, cond, List, [], ◌∷◌, ◌++◌, map, ℕ, ◌+◌, ◌*◌, ◌≤◌, ◌<◌, ℤ, leb, length, drop}
use Rattle.std.proofs.lemmas.List.Edits.{sets}
use Rattle.laws.specs.Lists.{flat}
use Rattle.syntax.specs.Words.{max_answer_words}
use Rattle.decimal.specs.Bytes.{comma, colon}
use Rattle.lines.specs.Lines.{print_numbers}
use Rattle.page.specs.Sheet.{space, width, Page, full, put, turn}
use Rattle.page.specs.declared.Place.{Place}

-- bytes from a place on, and the place after them
pub record Wrote (out : List ℕ) (at : ℕ) (bs : List ℕ) (out' : List ℕ) (r : ℕ) : Type 0 where
  pub bytes : out' ≡ sets out at bs
  pub after : r ≡ at + length bs

-- an answer has no more words
abbrev pub Few : List ℤ → Type 0
Few ws = length ws ≤ max_answer_words

-- the last place
abbrev pub far : ℕ
far = 9223372036854775807

-- a line of which the margin is written, and no more than its 80 characters
pub record Line (p : Place) : Type 0 where
  pub low : p.line + 10 ≤ p.at
  pub high : p.at ≤ p.line + 80
  pub start : p.bare ≡ true → p.at ≡ p.line + 10

-- a page's bytes: the lines finished, and the line begun
unfoldable pub page_text : Page → List ℕ
page_text p = flat (map full p.lines) ++ p.line

-- a page stands in out, written from base on
pub record On (out₀ : List ℕ) (base : ℕ) (page : Page) (out : List ℕ) (p : Place) : Type 0 where
  pub bytes : out ≡ sets out₀ base (page_text page)
  pub after : p.at ≡ base + length (page_text page)
  pub column : p.at ≡ p.line + length page.line
  pub bare : page.bare ≡ p.bare

-- a page is changed by f, in at most n lines more
pub record Moves (f : Page → Page) (n : ℕ) (out : List ℕ) (p : Place) (out' : List ℕ) (r : Place) : Type 0 where
  pub line : Line r
  pub few : r.line ≤ p.line + 81 * n
  pub size : length out' ≡ length out
  pub page : (out₀ : List ℕ) (base : ℕ) (page : Page) → On out₀ base page out p → On out₀ base (f page) out' r

-- the words shown are those from a place on; next is the place after them
pub record Shows (left ws : List ℤ) (from next : ℕ) : Type 0 where
  pub rest : drop next ws ≡ left
  pub low : from ≤ next
  pub high : next ≤ length ws

-- before an item of w characters: a space behind the item before, or a line without items where it does not fit
unfoldable pub begun : ℕ → Page → Page
begun w p = cond p.bare p (cond (leb (length p.line + (1 + w)) width) (put (space ∷ []) p) (turn p))

pub record Begins (w : ℕ) (out : List ℕ) (p : Place) (out' : List ℕ) (r : Place) : Type 0 where
  pub moves : Moves (begun w) 1 out p out' r
  pub fits : w ≤ 70 → r.at + w ≤ r.line + 80
  pub start : 70 < w → r.at ≡ r.line + 10

-- for a part of w characters: the line, or a continuation line where it does not fit
unfoldable pub with_room : ℕ → Page → Page
with_room w p = cond (leb (length p.line + w) width) p (turn p)

pub record Rooms (w : ℕ) (out : List ℕ) (p : Place) (out' : List ℕ) (r : Place) : Type 0 where
  pub moves : Moves (with_room w) 1 out p out' r
  pub fits : w ≤ 70 → r.at + w ≤ r.line + 80

-- the numbers of a pair, and a comma where more pairs follow
unfoldable pub pair_text : List ℤ → Bool → List ℕ
pair_text zs more = print_numbers zs ++ cond more (comma ∷ []) []

-- a clause's first line, begun at a place
pub record Starts (it : Page) (at : ℕ) (out out' : List ℕ) (r : Place) : Type 0 where
  pub line : Line r
  pub starts : r.line ≡ at
  pub size : length out' ≡ length out
  pub page : On out at it out' r

-- operator and constant of a comparison
unfoldable pub head_text : List ℤ → List ℤ → List ℕ
head_text o c = print_numbers o ++ (colon ∷ (print_numbers c ++ (colon ∷ [])))
