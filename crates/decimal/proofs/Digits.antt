-- A law for each answer of the functions that read numbers, over variables. Assumes nothing.
use mathlib.Core.Path.{◌≡◌, refl, ap, ◌∙◌}
use mathlib.Core.Bool.{Bool, true, false, cond, ◌&&◌}
use mathlib.Core.List.{List, [], ◌∷◌}
use mathlib.Core.Option.{Option, none, some}
use Prim.Native.Nat.{ℕ, zero, suc, ◌+◌, ◌-◌, ◌*◌, ◌≤◌, ◌<◌}
use native.Mathlib.Omega.{arith}
use lib.IntN.{ℤ, pos, negsuc, ◌-ℤ◌}
use lib.Dec.{eqb, leb}
use lib.ListN.{length, take, drop, get_or, drop_of_length-le}
use Rattle.std.proofs.Common.{take_all}
use borrow.Author.Tests.{le-leb, lt-leb, leb-true, leb-false, eq-eqb, ne_eqb}
use Rattle.std.specs.Char.{is_ascii_digit}
use Rattle.std.specs.Prelude.{Ok, Err}
use Rattle.std.specs.Result.{OkIff, result_ok}
use Rattle.std.proofs.Common.{Result}
use Rattle.std.specs.Prelude.{Some, None}
use Rattle.std.proofs.lemmas.Result.{Ok-from_Ok_iff}
use mir.Syntax.{w32}
use mir.Val.{SFits, of_z, to_z}
use mir.Facts.{to_z-of_z, to_z_pos}
use Rattle.decimal.specs.Puts.{cons_at}
use Rattle.decimal.specs.Decimal.{is_digit, read_digits, read_natural, positive, negative, read_number}
use Rattle.decimal.specs.Numbers.{limited, option_of}

-- ---- digits

limited_over : (n : ℕ) (bs : List ℕ) → 2147483648 < n → limited (read_digits n bs) ≡ none
unfolding limited read_digits
limited_over n [] h = rw (lt-leb n 2147483648 h) refl
limited_over n (b ∷ bs) h = go (is_digit b) (limited_over (10 * n + (b - 48)) bs (omega arith))
  where
    go : (t : Bool) → limited (read_digits (10 * n + (b - 48)) bs) ≡ none → limited (cond t (read_digits (10 * n + (b - 48)) bs) none) ≡ none
    go true q = q
    go false q = refl

-- the byte at i decides
module _ (part : List ℕ) (i n : ℕ) (h : i < length part) where
  pub digit_none : is_ascii_digit (get_or part i 0) ≡ false → read_digits n (drop i part) ≡ none
  unfolding read_digits
  digit_none e = rw (cons_at part i h, e) refl

  pub digit_next : is_ascii_digit (get_or part i 0) ≡ true → read_digits n (drop i part) ≡ read_digits (10 * n + (get_or part i 0 - 48)) (drop (i + 1) part)
  unfolding read_digits
  digit_next e = rw (cons_at part i h, e) refl

-- o is what is left to read
pub digits_unread : (o whole : Option ℕ) → limited o ≡ limited whole → o ≡ none → None ≡ option_of (limited whole)
unfolding limited
digits_unread o whole e z = rw (← e, z) refl

pub digits_over : (n : ℕ) (bs : List ℕ) (o whole : Option ℕ) → limited o ≡ limited whole → o ≡ read_digits n bs → 2147483648 < n → None ≡ option_of (limited whole)
digits_over n bs o whole e z h = rw (← e, z, limited_over n bs h) refl

pub digits_end : (part : List ℕ) (i n : ℕ) (whole : Option ℕ) → length part ≤ i → n ≤ 2147483648 → limited (read_digits n (drop i part)) ≡ limited whole → Some n ≡ option_of (limited whole)
unfolding limited read_digits
digits_end part i n whole h k e = rw (← e, drop_of_length-le part h, le-leb n 2147483648 k) refl

-- ---- a natural number

pub natural_none : (part : List ℕ) → length part ≡ 0 → None ≡ option_of (limited (read_natural part))
unfolding limited read_natural
natural_none [] h = refl
natural_none (b ∷ bs) h = absurd (omega arith)

pub natural_led : (part : List ℕ) → get_or part 0 0 ≡ 48 → 1 < length part → None ≡ option_of (limited (read_natural part))
unfolding limited read_natural
natural_led [] z h = absurd (omega arith)
natural_led (b ∷ []) z h = absurd (omega arith)
natural_led (b ∷ d ∷ bs) z h = rw (eq-eqb b 48 z) refl

pub natural_single : (part : List ℕ) → (length part ≡ 0 → ⊥) → length part ≤ 1 → read_digits 0 part ≡ read_natural part
unfolding read_natural
natural_single [] h l = absurd (omega arith)
natural_single (b ∷ []) h l = elim (eqb b 48) as (λ t. read_digits 0 (b ∷ []) ≡ cond (t && false) none (read_digits 0 (b ∷ []))) [ true ↦ refl | false ↦ refl ]
natural_single (b ∷ d ∷ bs) h l = absurd (omega arith)

pub natural_digits : (part : List ℕ) → (length part ≡ 0 → ⊥) → (get_or part 0 0 ≡ 48 → ⊥) → read_digits 0 part ≡ read_natural part
unfolding read_natural
natural_digits [] h z = absurd (omega arith)
natural_digits (b ∷ bs) h z = rw (ne_eqb b 48 z) refl

-- ---- a number

pub number_none : (part : List ℕ) → length part ≡ 0 → None ≡ option_of (read_number part)
unfolding read_number
number_none [] h = refl
number_none (b ∷ bs) h = absurd (omega arith)

pub number_minus : (part : List ℕ) → (length part ≡ 0 → ⊥) → get_or part 0 0 ≡ 45 → read_number part ≡ negative (read_natural (take (length part - 1) (drop 1 part)))
unfolding read_number
number_minus [] l h = absurd (omega arith)
number_minus (b ∷ bs) l h = rw (eq-eqb b 45 h, take_all (suc (length bs) - 1) bs (omega arith)) refl

pub number_plain : (part : List ℕ) → (length part ≡ 0 → ⊥) → (get_or part 0 0 ≡ 45 → ⊥) → read_number part ≡ positive (read_natural part)
unfolding read_number
number_plain [] l h = absurd (omega arith)
number_plain (b ∷ bs) l h = rw (ne_eqb b 45 h) refl

-- what the code's answer says of what is read
read_none : (o : Option ℕ) → None ≡ option_of (limited o) → limited o ≡ none
read_none o h = elim (limited o) as (λ r. None ≡ option_of r → r ≡ none) [ none ↦ λ e. refl | some m ↦ λ e. cc ] h

read_some : (o : Option ℕ) (n : ℕ) → Some n ≡ option_of (limited o) → limited o ≡ some n
read_some o n h = elim (limited o) as (λ r. Some n ≡ option_of r → r ≡ some n) [ none ↦ λ e. cc | some m ↦ λ e. let f : m ≡ n = cc in ap some f ] h

limited_some : (o : Option ℕ) (n : ℕ) → limited o ≡ some n → (o ≡ some n) × (n ≤ 2147483648)
unfolding limited
limited_some none n h = cc
limited_some (some m) n h = go (leb m 2147483648) refl h
  where
    go : (t : Bool) → leb m 2147483648 ≡ t → cond t (some m) none ≡ some n → (some m ≡ some n) × (n ≤ 2147483648)
    go true e q = let f : m ≡ n = cc in (ap some f, omega (arith, leb-true m 2147483648 e))
    go false e q = cc

pub limited_most : (o : Option ℕ) (n : ℕ) → Some n ≡ option_of (limited o) → n ≤ 2147483648
limited_most o n h = (limited_some o n (read_some o n h)).1

negative_limited : (o : Option ℕ) → limited o ≡ none → negative o ≡ none
unfolding limited negative
negative_limited none h = refl
negative_limited (some zero) h = refl
negative_limited (some (suc n)) h = go (leb (suc n) 2147483648) refl h
  where
    go : (t : Bool) → leb (suc n) 2147483648 ≡ t → cond t (some (suc n)) none ≡ none → cond (leb n 2147483647) (some (negsuc n)) none ≡ none
    go true e q = cc
    go false e q = let l = leb-false (suc n) 2147483648 e in rw (lt-leb n 2147483647 (omega arith)) refl

positive_limited : (o : Option ℕ) → limited o ≡ none → positive o ≡ none
unfolding limited positive
positive_limited none h = refl
positive_limited (some n) h = go (leb n 2147483648) refl h
  where
    go : (t : Bool) → leb n 2147483648 ≡ t → cond t (some n) none ≡ none → cond (leb n 2147483647) (some (pos n)) none ≡ none
    go true e q = cc
    go false e q = let l = leb-false n 2147483648 e in rw (lt-leb n 2147483647 (omega arith)) refl

module _ (part : List ℕ) (o : Option ℕ) (signed : read_number part ≡ negative o) where
  pub minus_unread : None ≡ option_of (limited o) → None ≡ option_of (read_number part)
  minus_unread h = rw (signed, negative_limited o (read_none o h)) refl

  pub minus_zero : (n : ℕ) → Some n ≡ option_of (limited o) → n ≡ 0 → None ≡ option_of (read_number part)
  unfolding negative
  minus_zero n h z = rw (signed, (limited_some o n (read_some o n h)).0, z) refl

module _ (part : List ℕ) (o : Option ℕ) (signed : read_number part ≡ positive o) where
  pub plain_unread : None ≡ option_of (limited o) → None ≡ option_of (read_number part)
  plain_unread h = rw (signed, positive_limited o (read_none o h)) refl

  -- i32::try_from
  pub plain_result : {E : Type 0} (n : ℕ) → Some n ≡ option_of (limited o) → (r : Result ℤ E) → OkIff r (SFits w32 (pos n)) (pos n) → result_ok r ≡ option_of (read_number part)
  unfolding positive
  plain_result n h r c = rw (signed, (limited_some o n (read_some o n h)).0) (go (leb n 2147483647) refl r c)
    where
      go : {E : Type 0} (t : Bool) → leb n 2147483647 ≡ t → (r : Result ℤ E) → OkIff r (SFits w32 (pos n)) (pos n) → result_ok r ≡ option_of (cond t (some (pos n)) none)
      go true e r c = ap result_ok (Ok-from_Ok_iff r _ _ c (record { sfits = let l = leb-true n 2147483647 e in omega arith }))
      go false e (Ok z) c = absurd (let l = leb-false n 2147483647 e in let f = c.0 in omega (arith, f.sfits))
      go false e (Err d) c = refl

-- the code's -1 - m
minus_one : (m : ℕ) → negsuc 0 -ℤ pos m ≡ negsuc m
minus_one zero = refl
minus_one (suc m) = ap negsuc (omega arith)

less_one : (n : ℕ) → (n ≡ 0 → ⊥) → n ≤ 2147483648 → negsuc 0 -ℤ to_z w32 (n - 1) ≡ negsuc (n - 1)
less_one n z l = rw (to_z_pos w32 {n = n - 1} (omega arith)) (minus_one (n - 1))

pub less_one_fits : (n : ℕ) → (n ≡ 0 → ⊥) → n ≤ 2147483648 → SFits w32 (negsuc 0 -ℤ to_z w32 (n - 1))
less_one_fits n z l = rw (less_one n z l) (record { sfits = omega arith })

pub minus_result : (part : List ℕ) (o : Option ℕ) → read_number part ≡ negative o → (n : ℕ) → Some n ≡ option_of (limited o) → (n ≡ 0 → ⊥)
    → Some (to_z w32 (of_z w32 (negsuc 0 -ℤ to_z w32 (n - 1)))) ≡ option_of (read_number part)
unfolding negative
minus_result part o s n h z =
    let p = limited_some o n (read_some o n h) in
    let e : n ≡ suc (n - 1) = omega arith in
    rw (s, p.0 ∙ ap some e, to_z-of_z (less_one_fits n z p.1), less_one n z p.1, le-leb (n - 1) 2147483647 (let l = p.1 in omega arith)) refl
