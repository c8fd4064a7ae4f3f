-- The clause sheet: lines of 80 characters and a line feed. Each clause starts a line with its number; its literals and comparisons follow.
-- From the words of an answer, from the count of clauses on. Where the words end early, what is there is shown. Assumes nothing.
use Rattle.std.specs.Prelude.{Bool, true, false, cond, List, [], ◌∷◌, ◌++◌, map, ℕ, zero, suc, ◌+◌, ◌-◌, ℤ, leb, length, take, drop, replicate}
use Rattle.laws.specs.Lists.{flat}
use Rattle.decimal.specs.Bytes.{comma, colon, line_feed}
use Rattle.decimal.specs.Decimal.{print_natural, print_number}
use Rattle.lines.specs.Lines.{count_word, print_numbers, literals, after_literals, print_comparison, print_clause}

abbrev pub space : ℕ
space = 32

abbrev pub width : ℕ
width = 80

-- of a line's start: a clause's number in 8 places and two spaces, or ten spaces
abbrev pub margin : ℕ
margin = 10

abbrev pub spaces : ℕ → List ℕ
spaces n = replicate n space

-- ---- items: the text of a literal or of a comparison, as parts that stay whole

abbrev pub Item : Type 0
Item = List (List ℕ)

abbrev pub literal_item : ℤ → Item
literal_item z = print_number z ∷ []

-- variable and coefficient of each term, with the comma behind all but the last
unfoldable pub pair_parts : List ℤ → Item
pair_parts [] = []
pair_parts (v ∷ []) = print_numbers (v ∷ []) ∷ []
pair_parts (v ∷ a ∷ []) = print_numbers (v ∷ a ∷ []) ∷ []
pair_parts (v ∷ a ∷ w ∷ ws) = (print_numbers (v ∷ a ∷ []) ++ (comma ∷ [])) ∷ pair_parts (w ∷ ws)

-- the first part begins with t
unfoldable pub in_front : List ℕ → Item → Item
in_front t [] = t ∷ []
in_front t (p ∷ ps) = (t ++ p) ∷ ps

-- operator, constant, count of terms, then variable and coefficient of each: the listing's text without its semicolon
unfoldable pub comparison_item : List ℤ → Item
comparison_item ws =
    let cs = drop 1 ws in
    let ns = drop 1 cs in
    let n = count_word ns + count_word ns in
    in_front (print_numbers (take 1 ws) ++ (colon ∷ (print_numbers (take 1 cs) ++ (colon ∷ [])))) (pair_parts (take n (drop 1 ns)))

-- n comparisons, as long as there are words
unfoldable pub comparison_items : ℕ → List ℤ → List Item
comparison_items zero ws = []
comparison_items (suc n) [] = []
comparison_items (suc n) (w ∷ ws) = comparison_item (w ∷ ws) ∷ comparison_items n (print_comparison (w ∷ ws)).rest

-- a clause's literals, then its comparisons
unfoldable pub clause_items : List ℤ → List Item
clause_items ws = let ks = after_literals ws in map literal_item (literals ws) ++ comparison_items (count_word ks) (drop 1 ks)

-- ---- lines

-- the lines finished, the line begun, and whether no item stands on it yet
pub record Page : Type 0 where
  pub lines : List (List ℕ)
  pub line : List ℕ
  pub bare : Bool

unfoldable pub put : List ℕ → Page → Page
put t p = record { lines = p.lines; line = p.line ++ t; bare = false }

-- a continuation line
unfoldable pub turn : Page → Page
turn p = record { lines = p.lines ++ (p.line ∷ []); line = spaces margin; bare = true }

-- a line without items
unfoldable pub fresh : Page → Page
fresh p = cond p.bare p (turn p)

-- of a comparison that is too long for a line of its own: as many parts on each line as fit
unfoldable pub place_part : List ℕ → Page → Page
place_part t p = cond (leb (length p.line + length t) width) (put t p) (put t (turn p))

unfoldable pub place_parts : Item → Page → Page
place_parts [] p = p
place_parts (t ∷ ts) p = place_parts ts (place_part t p)

-- what stands in front of an item on its line
abbrev pub gap : Page → List ℕ
gap p = cond p.bare [] (space ∷ [])

-- on the current line if it fits; else on a line without items, broken if it is too long for that
unfoldable pub place_item : Item → Page → Page
place_item i p =
    let t = gap p ++ flat i in
    cond (leb (length p.line + length t) width) (put t p)
    (cond (leb (margin + length (flat i)) width) (put (flat i) (fresh p))
    (place_parts i (fresh p)))

unfoldable pub place_items : List Item → Page → Page
place_items [] p = p
place_items (i ∷ is) p = place_items is (place_item i p)

-- a clause's number, right-aligned in 8 places, and two spaces
unfoldable pub numbered : ℕ → Page
numbered k = record { lines = []; line = spaces (8 - length (print_natural k)) ++ (print_natural k ++ spaces 2); bare = true }

-- ---- the sheet

unfoldable pub all_lines : Page → List (List ℕ)
all_lines p = p.lines ++ (p.line ∷ [])

-- n clauses, the first of them number k
unfoldable pub sheet_lines : ℕ → ℕ → List ℤ → List (List ℕ)
sheet_lines k zero ws = []
sheet_lines k (suc n) [] = []
sheet_lines k (suc n) (w ∷ ws) = all_lines (place_items (clause_items (w ∷ ws)) (numbered k)) ++ sheet_lines (suc k) n (print_clause (w ∷ ws)).rest

-- a line filled with spaces, and its line feed
unfoldable pub full : List ℕ → List ℕ
full l = l ++ (spaces (width - length l) ++ (line_feed ∷ []))

-- from the count of clauses on
unfoldable pub print_sheet : List ℤ → List ℕ
print_sheet ws = flat (map full (sheet_lines 1 (count_word ws) (drop 1 ws)))
