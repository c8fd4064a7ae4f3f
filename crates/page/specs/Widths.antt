-- How many characters numbers have. Assumes nothing.
use Rattle.std.specs.Prelude.{◌≡◌, refl, List, [], ◌∷◌, ℕ, ◌+◌, ◌-◌, ◌/◌, ◌%◌, ◌≤◌, ◌<◌, ℤ, length}
use Rattle.std.proofs.Common.{sym, ap, ◌∙◌, arith, length-append}
use Rattle.decimal.specs.Decimal.{digit, print_natural, print_number}
use Rattle.decimal.specs.Widths.{natural_small, natural_large}
use Rattle.lines.specs.Lines.{print_more, print_numbers}

-- ---- digits

pub one_digit : (n : ℕ) → n < 10 → length (print_natural n) ≡ 1
one_digit n h = ap length (sym (natural_small n h))

pub more_digits : (n : ℕ) → 10 ≤ n → length (print_natural n) ≡ length (print_natural (n / 10)) + 1
more_digits n h = ap length (sym (natural_large n h)) ∙ length-append (print_natural (n / 10)) (digit (n % 10) ∷ [])

-- ---- numbers parted by commas

pub more_length : (z : ℤ) (zs : List ℤ) → length (print_more (z ∷ zs)) ≡ length (print_number z) + 1 + length (print_more zs)
unfolding print_more
more_length z zs = omega (arith, length-append (print_number z) (print_more zs))

pub numbers_length : (zs : List ℤ) → length (print_numbers zs) ≡ length (print_more zs) - 1
unfolding print_numbers print_more
numbers_length [] = refl
numbers_length (z ∷ zs) = omega arith
