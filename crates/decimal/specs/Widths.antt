-- How many digits numbers have, and which words are within i32. Assumes nothing.
use Rattle.std.specs.Prelude.{◌≡◌, refl, Bool, true, false, cond, List, [], ◌∷◌, ◌++◌, ℕ, zero, suc, ◌+◌, ◌*◌, ◌/◌, ◌%◌, ◌≤◌, ◌<◌, ℤ, pos, negsuc, nat_abs, leb, length, take, get_or}
use Rattle.std.proofs.Common.{ap, ◌∙◌, arith, div-add-mod', add-one, length-append, take-suc, take_all, leb-true, le-leb, SFits}
use Rattle.std.proofs.lemmas.Bool.{lt-leb}
use Rattle.std.specs.Int.{w32}
use Rattle.laws.specs.Bools.{and_l}
use Rattle.laws.specs.Lists.{all, all_append}
use Rattle.decimal.specs.Decimal.{digit, print_steps, print_natural, print_number}

-- ---- digits

steps_enough : (k j n : ℕ) → n < k → n < j → print_steps k n ≡ print_steps j n
unfolding print_steps
steps_enough zero j n h l = absurd (omega arith)
steps_enough (suc k) zero n h l = absurd (omega arith)
steps_enough (suc k) (suc j) n h l = go (leb 10 n) refl (λ a b. steps_enough k j (n / 10) a b)
  where
    go : (t : Bool) → leb 10 n ≡ t → (n / 10 < k → n / 10 < j → print_steps k (n / 10) ≡ print_steps j (n / 10))
        → cond t (print_steps k (n / 10) ++ (digit (n % 10) ∷ [])) (digit n ∷ []) ≡ cond t (print_steps j (n / 10) ++ (digit (n % 10) ∷ [])) (digit n ∷ [])
    go true e f = let m = leb-true 10 n e in let d = div-add-mod' n 10 in ap (λ l. l ++ (digit (n % 10) ∷ [])) (f (omega arith) (omega arith))
    go false e f = refl

pub natural_small : (n : ℕ) → n < 10 → digit n ∷ [] ≡ print_natural n
unfolding print_natural print_steps
natural_small n h = rw (lt-leb 10 n h) refl

pub natural_large : (n : ℕ) → 10 ≤ n → print_natural (n / 10) ++ (digit (n % 10) ∷ []) ≡ print_natural n
unfolding print_natural print_steps
natural_large n h =
    let d = div-add-mod' n 10 in
    let e : print_steps (suc (n / 10)) (n / 10) ≡ print_steps n (n / 10) = steps_enough (suc (n / 10)) n (n / 10) (omega arith) (omega arith) in
    rw (le-leb 10 n h) (ap (λ l. l ++ (digit (n % 10) ∷ [])) e)

abbrev tens : ℕ → ℕ
tens zero = 1
tens (suc d) = 10 * tens d

-- d + 1 digits
steps_short : (k d n : ℕ) → n < tens (suc d) → length (print_steps k n) ≤ suc d
unfolding print_steps
steps_short zero d n h = omega arith
steps_short (suc k) d n h = go (leb 10 n) refl d h (λ d l. steps_short k d (n / 10) l)
  where
    go : (t : Bool) → leb 10 n ≡ t → (d : ℕ) → n < tens (suc d) → ((d : ℕ) → n / 10 < tens (suc d) → length (print_steps k (n / 10)) ≤ suc d) → length (cond t (print_steps k (n / 10) ++ (digit (n % 10) ∷ [])) (digit n ∷ [])) ≤ suc d
    go false e d h f = omega arith
    go true e zero h f = absurd (let l = leb-true 10 n e in omega arith)
    go true e (suc d) h f =
        let v = div-add-mod' n 10 in
        let r = f d (omega arith) in
        omega (arith, length-append (print_steps k (n / 10)) (digit (n % 10) ∷ []))

pub natural_short : (d n : ℕ) → n < tens (suc d) → length (print_natural n) ≤ suc d
unfolding print_natural
natural_short d n h = steps_short (suc n) d n h

-- ---- words within i32

abbrev pub fitting : ℤ → Bool
fitting z = leb (nat_abs z) 2147483648

pub number_short : (z : ℤ) → nat_abs z ≤ 2147483648 → length (print_number z) ≤ 11
unfolding print_number
number_short (pos n) h = omega (arith, natural_short 9 n (omega arith))
number_short (negsuc n) h = omega (arith, natural_short 9 (suc n) (omega arith))

pub one_short : (z : ℤ) (zs : List ℤ) → all fitting (z ∷ zs) ≡ true → length (print_number z) ≤ 11
one_short z zs h = number_short z (leb-true _ 2147483648 (and_l (fitting z) (all fitting zs) h))

fits_fitting : (z : ℤ) → SFits w32 z → fitting z ≡ true
fits_fitting (pos n) f = le-leb n 2147483648 (let l = f.sfits in omega arith)
fits_fitting (negsuc n) f = le-leb (suc n) 2147483648 (let l = f.sfits in omega arith)

pub fit_next : (ws : List ℤ) (i : ℕ) → i < length ws → all fitting (take i ws) ≡ true → SFits w32 (get_or ws i (pos 0)) → all fitting (take (i + 1) ws) ≡ true
fit_next ws i h e f = rw (add-one i, take-suc ws i (pos 0) h) (all_append fitting (take i ws) (get_or ws i (pos 0) ∷ []) ∙ rw (e, fits_fitting (get_or ws i (pos 0)) f) refl)

pub fit_all : (ws : List ℤ) (i : ℕ) → length ws ≤ i → all fitting (take i ws) ≡ true → all fitting ws ≡ true
fit_all ws i h e = rw (← take_all i ws h) e
