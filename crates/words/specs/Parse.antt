-- Parsers over words: what stands at the front of a list of words and the words after it, or a refusal; and the numbers of document 01.
use Rattle.std.specs.Prelude.{Bool, cond, List, [], ◌∷◌, ℕ, zero, suc, ℤ, pos, negsuc, nat_abs, leb, ltb}
use Rattle.syntax.specs.Words.{max_count, max_value}

-- ---- parsers

pub data Parsed (A : Type 0) : Type 0 where
  ok : A → List ℤ → Parsed A
  refuse : ℕ → Parsed A

abbrev pub Parser : Type 0 → Type 0
Parser A = List ℤ → Parsed A

abbrev pub parse_then : {A B : Type 0} → Parsed A → (A → Parser B) → Parsed B
parse_then (ok a r) f = f a r
parse_then (refuse k) f = refuse k

-- first p, then q on the words after it
abbrev pub seq_parser : {A B C : Type 0} → (A → B → C) → Parser A → (A → Parser B) → Parser C
seq_parser make p q xs = parse_then (p xs) (λ a r. parse_then (q a r) (λ b s. ok (make a b) s))

abbrev pub map_parser : {A B : Type 0} → (A → B) → Parser A → Parser B
map_parser f p xs = parse_then (p xs) (λ a r. ok (f a) r)

-- n times p
unfoldable pub times : {A : Type 0} → ℕ → Parser A → Parser (List A)
times zero p xs = ok [] xs
times (suc n) p xs = seq_parser (λ a l. a ∷ l) p (λ a. times n p) xs

-- ---- numbers

abbrev pub word : Parser ℤ
word [] = refuse 3
word (w ∷ xs) = ok w xs

-- a word that is a number up to the limit, else refusal k
abbrev pub up_to_at : ℕ → ℕ → ℤ → Parser ℕ
up_to_at limit k (pos n) r = cond (leb n limit) (ok n r) (refuse k)
up_to_at limit k (negsuc n) r = refuse k

unfoldable pub up_to : ℕ → ℕ → Parser ℕ
up_to limit k xs = parse_then (word xs) (up_to_at limit k)

unfoldable pub count : Parser ℕ
count = up_to max_count 4

-- an index below n
abbrev pub index_at : ℕ → ℤ → Parser ℕ
index_at n (pos i) r = cond (ltb i n) (ok i r) (refuse 6)
index_at n (negsuc i) r = refuse 6

unfoldable pub index : ℕ → Parser ℕ
index n xs = parse_then (word xs) (index_at n)

abbrev pub in_value_range : ℤ → Bool
in_value_range w = leb (nat_abs w) max_value

unfoldable pub number : Parser ℤ
number xs = parse_then (word xs) (λ w r. cond (in_value_range w) (ok w r) (refuse 4))
