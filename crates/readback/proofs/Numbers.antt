-- A printed number is read back, and its bytes are digits and a minus. Assumes nothing.
use Rattle.std.specs.Prelude.{◌≡◌, Bool, true, cond, ℕ, zero, suc, ◌+◌, ◌-◌, ◌*◌, ◌/◌, ◌%◌, ◌<◌, ℤ, pos, negsuc, leb}
use Rattle.std.proofs.Math.Path.{refl, ap}
use Rattle.std.proofs.Common.{◌∙◌, arith, div-add-mod', mod-lt, leb-true, leb-false, le-leb, ne_eqb}
use Rattle.std.proofs.Math.Bool.{false}
use mathlib.Core.List.{List, [], ◌∷◌, ◌++◌}
use Rattle.std.proofs.Math.Option.{Option, none, some}
use Rattle.decimal.specs.Decimal.{digit, print_steps, print_natural, print_number, is_digit, read_digits, is_empty, read_natural}
use Rattle.readback.specs.ReadListing.{plain_of, negated_of, read_integer}

-- ---- digits

abbrev next_digit : Option ℕ → ℕ → Option ℕ
next_digit none b = none
next_digit (some m) b = cond (is_digit b) (some (10 * m + (b - 48))) none

digits_snoc : (n : ℕ) (xs : List ℕ) (b : ℕ) → read_digits n (xs ++ (b ∷ [])) ≡ next_digit (read_digits n xs) b
unfolding read_digits
digits_snoc n [] b = refl
digits_snoc n (x ∷ xs) b = go (is_digit x) (digits_snoc (10 * n + (x - 48)) xs b)
  where
    go : (t : Bool) → read_digits (10 * n + (x - 48)) (xs ++ (b ∷ [])) ≡ next_digit (read_digits (10 * n + (x - 48)) xs) b
        → cond t (read_digits (10 * n + (x - 48)) (xs ++ (b ∷ []))) none ≡ next_digit (cond t (read_digits (10 * n + (x - 48)) xs) none) b
    go true h = h
    go false h = refl

-- a digit's byte
digit_is : (d : ℕ) → d < 10 → is_digit (digit d) ≡ true
digit_is d h = rw (le-leb 48 (48 + d) (omega arith), le-leb (48 + d) 57 (omega arith)) refl

digits_of : (k n : ℕ) → n < k → read_digits 0 (print_steps k n) ≡ some n
unfolding print_steps read_digits
digits_of zero n h = absurd (omega arith)
digits_of (suc k) n h = go (leb 10 n) refl (λ l. digits_of k (n / 10) l)
  where
    go : (t : Bool) → leb 10 n ≡ t → (n / 10 < k → read_digits 0 (print_steps k (n / 10)) ≡ some (n / 10))
        → read_digits 0 (cond t (print_steps k (n / 10) ++ (digit (n % 10) ∷ [])) (digit n ∷ [])) ≡ some n
    go true e f =
        let l = leb-true 10 n e in
        let d = div-add-mod' n 10 in
        let m = mod-lt n {m = 10} (omega arith) in
        let v : 10 * (n / 10) + (48 + n % 10 - 48) ≡ n = omega arith in
        digits_snoc 0 (print_steps k (n / 10)) (digit (n % 10)) ∙ rw (f (omega arith), digit_is (n % 10) m) (ap some v)
    go false e f =
        let l = leb-false 10 n e in
        let v : 10 * 0 + (48 + n - 48) ≡ n = omega arith in
        rw (digit_is n l) (ap some v)

abbrev first : List ℕ → ℕ
first [] = 0
first (b ∷ bs) = b

first_append : (xs ys : List ℕ) → 0 < first xs → first (xs ++ ys) ≡ first xs
first_append [] ys h = absurd (omega arith)
first_append (x ∷ xs) ys h = refl

-- of no number is it a minus, and only of 0 is it a 0
first_digit : (k n : ℕ) → n < k → (47 < first (print_steps k n)) × (0 < n → 48 < first (print_steps k n))
unfolding print_steps
first_digit zero n h = absurd (omega arith)
first_digit (suc k) n h = go (leb 10 n) refl (λ l. first_digit k (n / 10) l)
  where
    go : (t : Bool) → leb 10 n ≡ t → (n / 10 < k → (47 < first (print_steps k (n / 10))) × (0 < n / 10 → 48 < first (print_steps k (n / 10))))
        → (47 < first (cond t (print_steps k (n / 10) ++ (digit (n % 10) ∷ [])) (digit n ∷ []))) × (0 < n → 48 < first (cond t (print_steps k (n / 10) ++ (digit (n % 10) ∷ [])) (digit n ∷ [])))
    go true e f =
        let l = leb-true 10 n e in
        let d = div-add-mod' n 10 in
        let m = mod-lt n {m = 10} (omega arith) in
        let g = f (omega arith) in
        let u = g.0 in
        let v = g.1 (omega arith) in
        let a = first_append (print_steps k (n / 10)) (digit (n % 10) ∷ []) (omega arith) in
        (omega arith, λ z. omega arith)
    go false e f = (omega arith, λ z. omega arith)

natural_led : (bs : List ℕ) → 48 < first bs → read_natural bs ≡ read_digits 0 bs
unfolding read_natural
natural_led [] h = absurd (omega arith)
natural_led (b ∷ bs) h = rw (ne_eqb b 48 (λ e. omega arith)) refl

pub natural_back : (n : ℕ) → read_natural (print_natural n) ≡ some n
unfolding print_natural
natural_back zero = unfold print_steps read_natural read_digits in refl
natural_back (suc n) = natural_led (print_steps (suc (suc n)) (suc n)) ((first_digit (suc (suc n)) (suc n) (omega arith)).1 (omega arith)) ∙ digits_of (suc (suc n)) (suc n) (omega arith)

integer_plain : (bs : List ℕ) → 47 < first bs → read_integer bs ≡ plain_of (read_natural bs)
unfolding read_integer
integer_plain [] h = absurd (omega arith)
integer_plain (b ∷ bs) h = rw (ne_eqb b 45 (λ e. omega arith)) refl

pub integer_back : (z : ℤ) → read_integer (print_number z) ≡ some z
unfolding print_number
integer_back (pos n) = integer_plain (print_natural n) (unfold print_natural in (first_digit (suc n) n (omega arith)).0) ∙ ap plain_of (natural_back n)
integer_back (negsuc n) = unfold read_integer in ap negated_of (natural_back (suc n))

-- a printed number has bytes
pub number_some : (z : ℤ) (ys : List ℕ) → is_empty (print_number z ++ ys) ≡ false
unfolding print_number
number_some (pos n) ys = go (print_natural n) (unfold print_natural in (first_digit (suc n) n (omega arith)).0)
  where
    go : (xs : List ℕ) → 47 < first xs → is_empty (xs ++ ys) ≡ false
    go [] h = absurd (omega arith)
    go (x ∷ xs) h = refl
number_some (negsuc n) ys = refl
