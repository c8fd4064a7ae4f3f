-- A law for each answer of the functions that print bytes and numbers, over variables. Assumes nothing.
use mathlib.Core.Path.{◌≡◌, refl, sym, ap, ◌∙◌}
use mathlib.Core.Bool.{true}
use mathlib.Core.List.{List, [], ◌∷◌}
use Prim.Native.Nat.{ℕ, ◌+◌, ◌/◌, ◌%◌, ◌≤◌, ◌<◌}
use native.Mathlib.Omega.{arith}
use lib.IntN.{ℤ, pos, negsuc, nat_abs}
use lib.Dec.{T}
use lib.Signed.{lt_z, non_neg}
use lib.ListN.{length, drop, get_or, drop_of_length-le}
use borrow.Author.Tests.{ltb-true}
use Rattle.decimal.specs.Bytes.{minus}
use Rattle.decimal.specs.Decimal.{print_natural, print_number}
use Rattle.decimal.specs.Widths.{natural_small, natural_large}
use Rattle.decimal.specs.Puts.{puts, Puts, puts_left, puts_then, puts_as, cons_at}

-- ---- all bytes of a list: i of them are written

module _ (bytes out₀ : List ℕ) (at : ℕ) (out : List ℕ) (o i : ℕ) (inv : puts out o (drop i bytes) ≡ puts out₀ at bytes) where
  pub bytes_next : (out' : List ℕ) (r : ℕ) → i < length bytes → Puts out o (get_or bytes i 0 ∷ []) out' r → puts out' r (drop (i + 1) bytes) ≡ puts out₀ at bytes
  bytes_next out' r h w = sym (puts_left (drop (i + 1) bytes) w) ∙ ap (puts out o) (sym (cons_at bytes i h)) ∙ inv

  pub bytes_end : length bytes ≤ i → length out ≡ length out₀ → Puts out₀ at bytes out o
  unfolding puts
  bytes_end h s = record { size = s; bytes = sym inv ∙ rw (drop_of_length-le bytes h) refl }

-- ---- decimal numbers

pub put_small : {out out' : List ℕ} {at r : ℕ} (n : ℕ) → n < 10 → Puts out at ((48 + n) ∷ []) out' r → Puts out at (print_natural n) out' r
put_small n h w = puts_as (print_natural n) (natural_small n h) w

pub put_large : {out mid out' : List ℕ} {at m r : ℕ} (n : ℕ) → 10 ≤ n → Puts out at (print_natural (n / 10)) mid m → Puts mid m ((48 + n % 10) ∷ []) out' r → Puts out at (print_natural n) out' r
put_large n h x y = puts_as (print_natural n) (natural_large n h) (puts_then x y)

number_negative : (z : ℤ) → lt_z z (pos 0) ≡ true → minus ∷ print_natural (nat_abs z) ≡ print_number z
unfolding print_number
number_negative (pos n) h = absurd (let l = ltb-true n 0 h in omega arith)
number_negative (negsuc n) h = refl

number_plain : (z : ℤ) → T (non_neg z) → print_natural (nat_abs z) ≡ print_number z
unfolding print_number
number_plain (pos n) h = refl
number_plain (negsuc n) h = absurd h

pub put_negative : {out mid out' : List ℕ} {at m r : ℕ} (z : ℤ) → lt_z z (pos 0) ≡ true → Puts out at (minus ∷ []) mid m → (n : ℕ) → n ≡ nat_abs z → Puts mid m (print_natural n) out' r → Puts out at (print_number z) out' r
put_negative z h x n e y = puts_as (print_number z) (rw e (number_negative z h)) (puts_then x y)

pub put_plain : {out out' : List ℕ} {at r : ℕ} (z : ℤ) → T (non_neg z) → (n : ℕ) → n ≡ nat_abs z → Puts out at (print_natural n) out' r → Puts out at (print_number z) out' r
put_plain z h n e w = puts_as (print_number z) (rw e (number_plain z h)) w
