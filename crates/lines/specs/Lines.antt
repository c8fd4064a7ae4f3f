-- The lines of a listing, as printed from the words of an answer: numbers parted by commas, domains, clauses. Where the words end early, what is there is printed. Assumes nothing.
use Rattle.std.specs.Prelude.{List, [], ◌∷◌, ◌++◌, ℕ, zero, suc, ◌+◌, ℤ, length, take, drop}
use Rattle.laws.specs.Ints.{count_of}
use Rattle.decimal.specs.Bytes.{comma, semicolon, colon, line_feed, domain_key, clause_key}
use Rattle.decimal.specs.Decimal.{print_number}

-- ---- numbers

unfoldable pub print_more : List ℤ → List ℕ
print_more [] = []
print_more (z ∷ zs) = comma ∷ (print_number z ++ print_more zs)

-- parted by commas
unfoldable pub print_numbers : List ℤ → List ℕ
print_numbers [] = []
print_numbers (z ∷ zs) = print_number z ++ print_more zs

unfoldable pub print_line : List ℕ → List ℤ → List ℕ
print_line key zs = key ++ (print_numbers zs ++ (line_feed ∷ []))

-- ---- what is printed of the first words, and the words after these

pub record Shown : Type 0 where
  pub text : List ℕ
  pub rest : List ℤ

abbrev pub count_word : List ℤ → ℕ
count_word [] = 0
count_word (w ∷ ws) = count_of w

-- n of them, as long as there are words
unfoldable pub times : (List ℤ → Shown) → ℕ → List ℤ → Shown
times f zero ws = record { text = []; rest = ws }
times f (suc n) [] = record { text = []; rest = [] }
times f (suc n) (w ∷ ws) =
    let a = f (w ∷ ws) in
    let b = times f n a.rest in
    record { text = a.text ++ b.text; rest = b.rest }

-- a kind, and its three words
unfoldable pub print_domain : List ℤ → Shown
print_domain ws = record { text = print_line domain_key (take 4 ws); rest = drop 4 ws }

-- operator, constant, count of terms, then variable and coefficient of each
unfoldable pub print_comparison : List ℤ → Shown
print_comparison ws =
    let cs = drop 1 ws in
    let ns = drop 1 cs in
    let ts = drop 1 ns in
    let n = count_word ns + count_word ns in
    record {
      text = semicolon ∷ (print_numbers (take 1 ws) ++ (colon ∷ (print_numbers (take 1 cs) ++ (colon ∷ print_numbers (take n ts)))));
      rest = drop n ts;
    }

-- a clause's literals, and the words after them
abbrev pub literals : List ℤ → List ℤ
literals ws = take (count_word ws) (drop 1 ws)

abbrev pub after_literals : List ℤ → List ℤ
after_literals ws = drop (count_word ws) (drop 1 ws)

-- its comparisons
unfoldable pub print_comparisons : List ℤ → Shown
print_comparisons ws = times print_comparison (count_word ws) (drop 1 ws)

unfoldable pub print_clause : List ℤ → Shown
print_clause ws =
    let ks = print_comparisons (after_literals ws) in
    record { text = clause_key ++ (print_numbers (literals ws) ++ (ks.text ++ (line_feed ∷ []))); rest = ks.rest }

-- ---- what is counted of what is printed

-- the sum of what g counts of each of n pieces that f prints, as long as there are words
unfoldable pub summed : (List ℤ → Shown) → (List ℤ → ℕ) → ℕ → List ℤ → ℕ
summed f g zero ws = 0
summed f g (suc n) [] = 0
summed f g (suc n) (w ∷ ws) = g (w ∷ ws) + summed f g n (f (w ∷ ws)).rest

-- how many of n comparisons are printed
abbrev pub comparisons_in : ℕ → List ℤ → ℕ
comparisons_in n ws = summed print_comparison (λ k. 1) n ws

-- how many literals and comparisons a clause has
unfoldable pub members : List ℤ → ℕ
members ws = length (literals ws) + comparisons_in (count_word (after_literals ws)) (drop 1 (after_literals ws))

-- the number of literals and comparisons in n clauses
abbrev pub total : ℕ → List ℤ → ℕ
total n ws = summed print_clause members n ws
