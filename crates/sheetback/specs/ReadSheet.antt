-- Reading the items off a sheet: the words of its clauses, with their count in front. Assumes nothing.
use Rattle.std.specs.Prelude.{Bool, false, not, cond, List, [], ◌∷◌, ◌++◌, ℕ, ℤ, eqb, length, take, drop}
use Rattle.std.proofs.Math.Option.{Option, some}
use Rattle.laws.specs.Lists.{any, all, select}
use Rattle.decimal.specs.Bytes.{comma, colon, line_feed}
use Rattle.decimal.specs.Decimal.{is_empty}
use Rattle.input.specs.ReadText.{split, join}
use Rattle.readback.specs.ReadListing.{read_integers, read_comparisons, headed}
use Rattle.page.specs.Sheet.{space, margin}

-- what spaces part
unfoldable pub tokens : List ℕ → List (List ℕ)
tokens bs = select (λ t. not (is_empty t)) (split space bs)

-- the last byte is a comma
unfoldable pub ends_open : List ℕ → Bool
ends_open [] = false
ends_open (b ∷ bs) = cond (is_empty bs) (eqb b comma) (ends_open bs)

abbrev pub first_onto : List ℕ → List (List ℕ) → List (List ℕ)
first_onto t [] = t ∷ []
first_onto t (u ∷ us) = (t ++ u) ∷ us

-- a token that ends in a comma goes on in the next one
unfoldable pub glued : List (List ℕ) → List (List ℕ)
glued [] = []
glued (t ∷ ts) = cond (ends_open t) (first_onto t (glued ts)) (t ∷ glued ts)

abbrev pub is_comparison : List ℕ → Bool
is_comparison t = any (eqb colon) t

-- the literals, then the comparisons
unfoldable pub read_items : List (List ℕ) → Option (List ℤ)
read_items is =
    let ls = select (λ t. not (is_comparison t)) is in
    let ks = select is_comparison is in
    join (headed (length ls) (read_integers ls)) (headed (length ks) (read_comparisons ks))

-- ---- lines

-- it goes on with the clause before
unfoldable pub goes_on : List ℕ → Bool
goes_on l = all (λ b. eqb b space) (take margin l)

unfoldable pub line_tokens : List ℕ → List (List ℕ)
line_tokens l = tokens (drop margin l)

-- the tokens of lines that go on, and those of each clause behind them
pub record Grouped : Type 0 where
  pub pending : List (List ℕ)
  pub clauses : List (List (List ℕ))

unfoldable pub grouped : List (List ℕ) → Grouped
grouped [] = record { pending = []; clauses = [] }
grouped (l ∷ ls) =
    let r = grouped ls in
    let ts = line_tokens l ++ r.pending in
    cond (goes_on l) (record { pending = ts; clauses = r.clauses }) (record { pending = []; clauses = ts ∷ r.clauses })

unfoldable pub read_clauses : List (List (List ℕ)) → Option (List ℤ)
read_clauses [] = some []
read_clauses (c ∷ cs) = join (read_items (glued c)) (read_clauses cs)

-- the last line feed is the last byte
unfoldable pub read_sheet : List ℕ → Option (List ℤ)
read_sheet bs = let cs = (grouped (split line_feed bs)).clauses in headed (length cs) (read_clauses cs)
