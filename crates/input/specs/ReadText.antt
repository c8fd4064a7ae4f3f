-- The input text: its form, and the words of the set that it gives. Assumes nothing.
use Rattle.std.specs.Prelude.{cond, List, [], ◌∷◌, ◌++◌, ℕ, ℤ, eqb, ltb, length}
use Rattle.std.proofs.Math.Option.{Option, none, some}
use Rattle.decimal.specs.Bytes.{comma, line_feed, bools_key, ints_key, int_key, statements_key, statement_key}
use Rattle.decimal.specs.Decimal.{read_number}

-- ---- parts

abbrev pub onto : ℕ → List (List ℕ) → List (List ℕ)
onto b [] = (b ∷ []) ∷ []
onto b (p ∷ ps) = (b ∷ p) ∷ ps

-- the parts before, between and after the bytes s: one more than there are of these
unfoldable pub split : ℕ → List ℕ → List (List ℕ)
split s [] = [] ∷ []
split s (b ∷ bs) = cond (eqb b s) ([] ∷ split s bs) (onto b (split s bs))

-- what follows a key, if the key stands in front
unfoldable pub after : List ℕ → List ℕ → Option (List ℕ)
after [] bs = some bs
after (k ∷ ks) [] = none
after (k ∷ ks) (b ∷ bs) = cond (eqb b k) (after ks bs) none

-- ---- numbers

-- both, one after the other
abbrev pub join : Option (List ℤ) → Option (List ℤ) → Option (List ℤ)
join none b = none
join (some xs) none = none
join (some xs) (some ys) = some (xs ++ ys)

abbrev pub single : Option ℤ → Option (List ℤ)
single none = none
single (some z) = some (z ∷ [])

-- a number in every part
unfoldable pub read_numbers : List (List ℕ) → Option (List ℤ)
read_numbers [] = some []
read_numbers (p ∷ ps) = join (single (read_number p)) (read_numbers ps)

-- ---- lines. Each reader takes the lines that are left, and reads what follows its own by `next`

abbrev pub Reader : Type 0
Reader = List (List ℕ) → Option (List ℤ)

-- a line with the key and one number
abbrev pub one_number : Option (List ℕ) → Option (List ℤ)
one_number none = none
one_number (some r) = single (read_number r)

unfoldable pub count_line : List ℕ → Reader → Reader
count_line key next [] = none
count_line key next (p ∷ ps) = join (one_number (after key p)) (next ps)

-- every line with the key, of any number of numbers but none
abbrev pub line_or : Option (List ℕ) → Option (List ℤ) → Option (List ℤ) → Option (List ℤ)
line_or none more other = other
line_or (some r) more other = join (read_numbers (split comma r)) more

unfoldable pub lines : List ℕ → Reader → Reader
lines key next [] = next []
lines key next (p ∷ ps) = line_or (after key p) (lines key next ps) (next (p ∷ ps))

-- the last line feed is the last byte
unfoldable pub end : Reader
end [] = none
end ([] ∷ []) = some []
end ([] ∷ p ∷ ps) = none
end ((b ∷ bs) ∷ ps) = none

unfoldable pub read_lines : Reader
read_lines = count_line bools_key (count_line ints_key (lines int_key (count_line statements_key (lines statement_key end))))

abbrev pub max_bytes : ℕ
max_bytes = 65536

-- the words in order; none: the text is unread
unfoldable pub read_text : List ℕ → Option (List ℤ)
read_text t = cond (ltb max_bytes (length t)) none (read_lines (split line_feed t))
