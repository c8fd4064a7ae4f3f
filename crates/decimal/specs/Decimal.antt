-- Decimal numbers as bytes: printed, and read with no leading zero and no minus before 0. Assumes nothing.
use Rattle.std.specs.Prelude.{Bool, true, false, ◌&&◌, not, cond, List, [], ◌∷◌, ◌++◌, ℕ, zero, suc, ◌+◌, ◌-◌, ◌*◌, ◌/◌, ◌%◌, ℤ, pos, negsuc, eqb, leb}
use Rattle.std.proofs.Math.Option.{Option, none, some}
use Rattle.decimal.specs.Bytes.{minus}

-- ---- printed

abbrev pub digit : ℕ → ℕ
digit d = 48 + d

-- a step for each digit: n + 1 steps are enough
unfoldable pub print_steps : ℕ → ℕ → List ℕ
print_steps zero n = []
print_steps (suc k) n = cond (leb 10 n) (print_steps k (n / 10) ++ (digit (n % 10) ∷ [])) (digit n ∷ [])

unfoldable pub print_natural : ℕ → List ℕ
print_natural n = print_steps (suc n) n

-- negsuc n is -(n + 1)
unfoldable pub print_number : ℤ → List ℕ
print_number (pos n) = print_natural n
print_number (negsuc n) = minus ∷ print_natural (suc n)

-- ---- read

abbrev pub is_digit : ℕ → Bool
is_digit b = leb 48 b && leb b 57

-- digits and nothing else, after those that gave n
unfoldable pub read_digits : ℕ → List ℕ → Option ℕ
read_digits n [] = some n
read_digits n (b ∷ bs) = cond (is_digit b) (read_digits (10 * n + (b - 48)) bs) none

abbrev pub is_empty : List ℕ → Bool
is_empty [] = true
is_empty (b ∷ bs) = false

-- at least one digit; a first 0 stands alone
unfoldable pub read_natural : List ℕ → Option ℕ
read_natural [] = none
read_natural (b ∷ bs) = cond (eqb b 48 && not (is_empty bs)) none (read_digits 0 (b ∷ bs))

-- within i32
unfoldable pub positive : Option ℕ → Option ℤ
positive none = none
positive (some n) = cond (leb n 2147483647) (some (pos n)) none

unfoldable pub negative : Option ℕ → Option ℤ
negative none = none
negative (some zero) = none
negative (some (suc n)) = cond (leb n 2147483647) (some (negsuc n)) none

unfoldable pub read_number : List ℕ → Option ℤ
read_number [] = none
read_number (b ∷ bs) = cond (eqb b minus) (negative (read_natural bs)) (positive (read_natural (b ∷ bs)))
