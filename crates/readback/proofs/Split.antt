-- What was joined by a byte is split at it again: numbers, comparisons and lines are read back. Assumes nothing.
use Rattle.std.specs.Prelude.{◌≡◌, Bool, ◌&&◌, not, cond, ℤ, pos, negsuc, eqb, length}
use Rattle.std.proofs.Math.Path.{refl}
use Rattle.std.proofs.Common.{ap, ◌∙◌, arith, div-add-mod', mod-lt, leb-false, eq-eqb, ne_eqb}
use Rattle.std.proofs.Math.Bool.{true, false}
use Rattle.std.proofs.lemmas.Bool.{false≢true}
use mathlib.Core.List.{List, [], ◌∷◌, ◌++◌, map, append-nil}
use Rattle.std.proofs.Math.Option.{some}
use Prim.Native.Nat.{ℕ, zero, suc, ◌+◌, ◌/◌, ◌%◌, ◌≤◌, ◌<◌}
use Rattle.std.proofs.Math.Dec.{leb}
use Rattle.laws.specs.Lists.{all, all_append}
use Rattle.decimal.specs.Bytes.{comma, colon}
use Rattle.decimal.specs.Decimal.{digit, print_steps, print_natural, print_number}
use Rattle.input.specs.ReadText.{onto, split, after}
use Rattle.lines.specs.Lines.{print_more, print_numbers}
use Rattle.readback.specs.ReadListing.{read_integer, read_integers, read_part, read_comparison}
use Rattle.readback.proofs.Numbers.{integer_back, number_some}

-- ---- splitting

-- s is none of the bytes
abbrev pub avoids : ℕ → List ℕ → Bool
avoids s bs = all (λ b. not (eqb b s)) bs

pub split_at : (s : ℕ) (xs ys : List ℕ) → avoids s xs ≡ true → split s (xs ++ (s ∷ ys)) ≡ xs ∷ split s ys
unfolding split
split_at s [] ys h = rw (eq-eqb s s refl) refl
split_at s (x ∷ xs) ys h = go (eqb x s) h (split_at s xs ys)
  where
    go : (t : Bool) → not t && avoids s xs ≡ true → (avoids s xs ≡ true → split s (xs ++ (s ∷ ys)) ≡ xs ∷ split s ys)
        → cond t ([] ∷ split s (xs ++ (s ∷ ys))) (onto x (split s (xs ++ (s ∷ ys)))) ≡ (x ∷ xs) ∷ split s ys
    go true h f = absurd (false≢true h)
    go false h f = rw (f h) refl

pub split_end : (s : ℕ) (xs : List ℕ) → avoids s xs ≡ true → split s xs ≡ xs ∷ []
unfolding split
split_end s [] h = refl
split_end s (x ∷ xs) h = go (eqb x s) h (split_end s xs)
  where
    go : (t : Bool) → not t && avoids s xs ≡ true → (avoids s xs ≡ true → split s xs ≡ xs ∷ []) → cond t ([] ∷ split s xs) (onto x (split s xs)) ≡ (x ∷ xs) ∷ []
    go true h f = absurd (false≢true h)
    go false h f = rw (f h) refl

pub avoids_append : (s : ℕ) (xs ys : List ℕ) → avoids s xs ≡ true → avoids s ys ≡ true → avoids s (xs ++ ys) ≡ true
avoids_append s xs ys h k = all_append (λ b. not (eqb b s)) xs ys ∙ rw (h, k) refl

pub after_key : (key bs : List ℕ) → after key (key ++ bs) ≡ some bs
unfolding after
after_key [] bs = refl
after_key (k ∷ key) bs = rw (eq-eqb k k refl) (after_key key bs)

-- ---- the bytes of numbers: out says that s is none

module _ (s : ℕ) (out : (b : ℕ) → 45 ≤ b → b ≤ 57 → b ≡ s → ⊥) where
  digit_avoids : (d : ℕ) → d < 10 → avoids s (digit d ∷ []) ≡ true
  digit_avoids d h = rw (ne_eqb (48 + d) s (out (48 + d) (omega arith) (omega arith))) refl

  steps_avoid : (k n : ℕ) → avoids s (print_steps k n) ≡ true
  unfolding print_steps
  steps_avoid zero n = refl
  steps_avoid (suc k) n = go (leb 10 n) refl (steps_avoid k (n / 10))
    where
      go : (t : Bool) → leb 10 n ≡ t → avoids s (print_steps k (n / 10)) ≡ true → avoids s (cond t (print_steps k (n / 10) ++ (digit (n % 10) ∷ [])) (digit n ∷ [])) ≡ true
      go true e f = avoids_append s (print_steps k (n / 10)) (digit (n % 10) ∷ []) f (digit_avoids (n % 10) (mod-lt n {m = 10} (omega arith)))
      go false e f = digit_avoids n (leb-false 10 n e)

  pub natural_avoids : (n : ℕ) → avoids s (print_natural n) ≡ true
  unfolding print_natural
  natural_avoids n = steps_avoid (suc n) n

  pub number_avoids : (z : ℤ) → avoids s (print_number z) ≡ true
  unfolding print_number
  number_avoids (pos n) = natural_avoids n
  number_avoids (negsuc n) = rw (ne_eqb 45 s (out 45 (omega arith) (omega arith))) (natural_avoids (suc n))

  module _ (other : eqb comma s ≡ false) where
    more_avoid : (zs : List ℤ) → avoids s (print_more zs) ≡ true
    unfolding print_more
    more_avoid [] = refl
    more_avoid (z ∷ zs) = rw other (avoids_append s (print_number z) (print_more zs) (number_avoids z) (more_avoid zs))

    pub numbers_avoid : (zs : List ℤ) → avoids s (print_numbers zs) ≡ true
    unfolding print_numbers
    numbers_avoid [] = refl
    numbers_avoid (z ∷ zs) = avoids_append s (print_number z) (print_more zs) (number_avoids z) (more_avoid zs)

-- ---- numbers parted by commas

more_split : (z : ℤ) (zs : List ℤ) → split comma (print_number z ++ print_more zs) ≡ map print_number (z ∷ zs)
unfolding print_more
more_split z [] = rw (append-nil (print_number z)) (split_end comma (print_number z) (number_avoids comma (λ b l u e. omega arith) z))
more_split z (y ∷ zs) = split_at comma (print_number z) (print_number y ++ print_more zs) (number_avoids comma (λ b l u e. omega arith) z) ∙ ap (λ l. print_number z ∷ l) (more_split y zs)

integers_back : (zs : List ℤ) → read_integers (map print_number zs) ≡ some zs
unfolding read_integers
integers_back [] = refl
integers_back (z ∷ zs) = rw (integer_back z, integers_back zs) refl

pub part_back : (zs : List ℤ) → read_part (print_numbers zs) ≡ some zs
unfolding read_part print_numbers
part_back [] = refl
part_back (z ∷ zs) = rw (number_some z (print_more zs), more_split z zs) (integers_back (z ∷ zs))

-- ---- a comparison

-- what follows its semicolon
abbrev pub body : ℤ → ℤ → List ℤ → List ℕ
body o c ts = print_numbers (o ∷ []) ++ (colon ∷ (print_numbers (c ∷ []) ++ (colon ∷ print_numbers ts)))

pub one_back : (z : ℤ) → read_integer (print_numbers (z ∷ [])) ≡ some z
unfolding print_numbers print_more
one_back z = rw (append-nil (print_number z)) (integer_back z)

pub body_avoids : (s : ℕ) → ((b : ℕ) → 45 ≤ b → b ≤ 57 → b ≡ s → ⊥) → eqb comma s ≡ false → eqb colon s ≡ false → (o c : ℤ) (ts : List ℤ) → avoids s (body o c ts) ≡ true
body_avoids s out k l o c ts =
    let tail : avoids s (colon ∷ print_numbers ts) ≡ true = rw l (numbers_avoid s out k ts) in
    let mid : avoids s (colon ∷ (print_numbers (c ∷ []) ++ (colon ∷ print_numbers ts))) ≡ true = rw l (avoids_append s (print_numbers (c ∷ [])) (colon ∷ print_numbers ts) (numbers_avoid s out k (c ∷ [])) tail) in
    avoids_append s (print_numbers (o ∷ [])) (colon ∷ (print_numbers (c ∷ []) ++ (colon ∷ print_numbers ts))) (numbers_avoid s out k (o ∷ [])) mid

body_split : (o c : ℤ) (ts : List ℤ) → split colon (body o c ts) ≡ print_numbers (o ∷ []) ∷ print_numbers (c ∷ []) ∷ print_numbers ts ∷ []
body_split o c ts =
    let clear : (zs : List ℤ) → avoids colon (print_numbers zs) ≡ true = λ zs. numbers_avoid colon (λ b l u e. omega arith) refl zs in
    split_at colon (print_numbers (o ∷ [])) (print_numbers (c ∷ []) ++ (colon ∷ print_numbers ts)) (clear (o ∷ []))
    ∙ ap (λ l. print_numbers (o ∷ []) ∷ l) (split_at colon (print_numbers (c ∷ [])) (print_numbers ts) (clear (c ∷ [])) ∙ ap (λ l. print_numbers (c ∷ []) ∷ l) (split_end colon (print_numbers ts) (clear ts)))

half : (n m : ℕ) → m ≡ n + n → m / 2 ≡ n
half n m h = let d = div-add-mod' m 2 in let l = mod-lt m {m = 2} (omega arith) in omega arith

pub comparison_back : (o c : ℤ) (n : ℕ) (ts : List ℤ) → length ts ≡ n + n → read_comparison (split colon (body o c ts)) ≡ some (o ∷ c ∷ pos n ∷ ts)
unfolding read_comparison
comparison_back o c n ts h = rw (body_split o c ts, one_back o, one_back c, part_back ts, half n (length ts) h) refl
