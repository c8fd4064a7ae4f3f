-- A law for each answer of the functions that measure and write numbers and spaces, over variables. Assumes nothing.
use mathlib.Core.Path.{◌≡◌, refl, sym, ap, ◌∙◌, subst}
use mathlib.Core.Bool.{Bool, true, false, cond}
use mathlib.Core.List.{List, [], ◌∷◌, ◌++◌}
use Prim.Native.Nat.{ℕ, suc, ◌+◌, ◌-◌, ◌/◌, ◌≤◌, ◌<◌, min}
use native.Mathlib.Omega.{arith}
use native.Mathlib.Nat.{div-add-mod'}
use native.Mathlib.Numerals.{add-one}
use lib.IntN.{ℤ, pos, negsuc, nat_abs}
use lib.Dec.{T, leb, ltb}
use lib.Signed.{lt_z, non_neg}
use lib.ListN.{length, take, drop, get_or, set, length-set, length-append, length-replicate, replicate-append-replicate, drop_of_length-le}
use lib.Seq.{sets, take_all, length-sets, set_out}
use borrow.Author.Tests.{leb-true, leb-false, ltb-true, ltb-false}
use mir.Syntax.{w32}
use mir.Val.{SFits}
use Rattle.decimal.specs.Bytes.{comma}
use Rattle.decimal.specs.Decimal.{print_natural, print_number}
use Rattle.decimal.specs.Puts.{puts, Puts}
use Rattle.lines.specs.Lines.{print_more, print_numbers}
use Rattle.lines.specs.Output.{cons_word}
use Rattle.page.specs.Sheet.{spaces}
use Rattle.page.specs.Writes.{Wrote}
use Rattle.page.specs.Widths.{one_digit, more_digits, more_length, numbers_length}
use Rattle.decimal.specs.Widths.{number_short}

-- ---- storing one after another

pub sets_append : (out : List ℕ) (o : ℕ) (us vs : List ℕ) → sets out o (us ++ vs) ≡ sets (sets out o us) (o + length us) vs
sets_append out o [] vs = ap (λ n. sets out n vs) (omega arith)
sets_append out o (u ∷ us) vs = sets_append (set out o u) (suc o) us vs ∙ ap (λ n. sets (sets (set out o u) (suc o) us) n vs) (omega arith)

sets_out : (out : List ℕ) (o : ℕ) (vs : List ℕ) → length out ≤ o → sets out o vs ≡ out
sets_out out o [] h = refl
sets_out out o (v ∷ vs) h = sets_out (set out o v) (suc o) vs (omega (arith, length-set out o v)) ∙ set_out out o v h

-- what decimal's functions write: past the end nothing
puts_sets : (out : List ℕ) (at : ℕ) (bs : List ℕ) → (puts out at bs).0 ≡ sets out at bs
unfolding puts
puts_sets out at [] = refl
puts_sets out at (b ∷ bs) = go (ltb at (length out)) refl (puts_sets (set out at b) (at + 1) bs) (puts_sets out at bs)
  where
    go : (t : Bool) → ltb at (length out) ≡ t → (puts (set out at b) (at + 1) bs).0 ≡ sets (set out at b) (at + 1) bs → (puts out at bs).0 ≡ sets out at bs
        → (cond t (puts (set out at b) (at + 1) bs) (puts out at bs)).0 ≡ sets (set out at b) (suc at) bs
    go true e p q = p ∙ rw (add-one at) refl
    go false e p q =
        let l = ltb-false at (length out) e in
        q ∙ sets_out out at bs l ∙ sym (rw (set_out out at b l) (sets_out out (suc at) bs (omega arith)))

pub put_sets : {out out' bs : List ℕ} {at r : ℕ} → Puts out at bs out' r → out' ≡ sets out at bs
put_sets {out} {out'} {bs} {at} {r} w = ap (λ (x : List ℕ × ℕ). x.0) (sym w.bytes) ∙ puts_sets out at bs

-- ---- writing one after another

pub wrote_length : {out out' bs : List ℕ} {at r : ℕ} → Wrote out at bs out' r → length out' ≡ length out
wrote_length {out} {out'} {bs} {at} w = ap length w.bytes ∙ length-sets out at bs

pub wrote_then : {out a b us vs : List ℕ} {o p q : ℕ} → Wrote out o us a p → Wrote a p vs b q → Wrote out o (us ++ vs) b q
wrote_then {out} {a} {b} {us} {vs} {o} {p} {q} x y = record {
  bytes = y.bytes ∙ ap (λ n. sets a n vs) x.after ∙ ap (λ (l : List ℕ). sets l (o + length us) vs) x.bytes ∙ sym (sets_append out o us vs);
  after = rw (length-append us vs) (let g = x.after in let h = y.after in omega arith);
}

pub wrote_to : {out out' us vs : List ℕ} {at r : ℕ} → us ≡ vs → Wrote out at us out' r → Wrote out at vs out' r
wrote_to {out} {out'} {us} {vs} {at} {r} e w = subst (λ (l : List ℕ). Wrote out at l out' r) e w

-- ---- the width of a number

module _ (n w m : ℕ) (inv : w + length (print_natural m) ≡ 1 + length (print_natural n)) where
  pub width_next : 10 ≤ m → w + 1 + length (print_natural (m / 10)) ≡ 1 + length (print_natural n)
  width_next h = omega (arith, more_digits m h)

  pub width_end : m < 10 → w ≡ length (print_natural n)
  width_end h = omega (arith, one_digit m h)

pub tenth_less : (m : ℕ) → 10 ≤ m → m / 10 + 9 ≤ m
tenth_less m h = let d = div-add-mod' m 10 in omega arith

-- the code's -1 - z
fits_abs : (z : ℤ) → SFits w32 z → nat_abs z ≤ 2147483648
fits_abs (pos n) f = let l = f.sfits in omega arith
fits_abs (negsuc n) f = let l = f.sfits in omega arith

negative_length : (z : ℤ) → lt_z z (pos 0) ≡ true → (n r : ℕ) → n ≡ nat_abs z → r ≡ length (print_natural n) → 1 + r ≡ length (print_number z)
unfolding print_number
negative_length (pos n) h m r e w = absurd (let l = ltb-true n 0 h in omega arith)
negative_length (negsuc n) h m r e w = omega (arith, w ∙ ap (λ (k : ℕ). length (print_natural k)) e)

plain_length : (z : ℤ) → T (non_neg z) → (n r : ℕ) → n ≡ nat_abs z → r ≡ length (print_natural n) → r ≡ length (print_number z)
unfolding print_number
plain_length (pos n) h m r e w = w ∙ ap (λ (k : ℕ). length (print_natural k)) e
plain_length (negsuc n) h m r e w = absurd h

pub negative_width : (z : ℤ) → lt_z z (pos 0) ≡ true → SFits w32 z → (n r : ℕ) → n ≡ nat_abs z → r ≡ length (print_natural n) → (1 + r ≡ length (print_number z)) × (1 + r ≤ 11)
negative_width z h f n r e w = let s = number_short z (fits_abs z f) in let q = negative_length z h n r e w in (q, omega arith)

pub plain_width : (z : ℤ) → T (non_neg z) → SFits w32 z → (n r : ℕ) → n ≡ nat_abs z → r ≡ length (print_natural n) → (r ≡ length (print_number z)) × (r ≤ 11)
plain_width z h f n r e w = let s = number_short z (fits_abs z f) in let q = plain_length z h n r e w in (q, omega arith)

-- ---- the width of numbers: i of them are counted

module _ (part : List ℤ) (w i : ℕ) (inv : w + length (print_more (drop i part)) ≡ length (print_more part)) where
  pub numbers_next : i < length part → (z : ℤ) → z ≡ get_or part i (pos 0) → (a : ℕ) → a ≡ length (print_number z) → w + (a + 1) + length (print_more (drop (i + 1) part)) ≡ length (print_more part)
  numbers_next h z d a e =
      let q : length (print_more (drop i part)) ≡ length (print_number z) + 1 + length (print_more (drop (i + 1) part)) = rw (cons_word part i h, ← d) (more_length z (drop (i + 1) part)) in
      omega arith

  numbers_all : length part ≤ i → w ≡ length (print_more part)
  unfolding print_more
  numbers_all h = let q : length (print_more (drop i part)) ≡ 0 = rw (drop_of_length-le part h) refl in omega arith

  pub numbers_end : length part ≤ i → w - 1 ≡ length (print_numbers part)
  numbers_end h = let q = numbers_all h in omega (arith, numbers_length part)

-- ---- numbers written: i of them are

pub numbers_none : (part : List ℤ) (out : List ℕ) (at : ℕ) → length part ≡ 0 → Wrote out at (print_numbers part) out at
unfolding print_numbers
numbers_none [] out at h = record { bytes = refl; after = omega arith }
numbers_none (z ∷ zs) out at h = absurd (omega arith)

-- what is left to write from a place on is the rest of the whole
pub record Left (out : List ℕ) (o : ℕ) (rest : List ℕ) (out₀ : List ℕ) (at : ℕ) (whole : List ℕ) : Type 0 where
  pub bytes : sets out o rest ≡ sets out₀ at whole
  pub after : o + length rest ≡ at + length whole

pub left_next : {out out' out₀ us vs whole : List ℕ} {o r at : ℕ} → Left out o (us ++ vs) out₀ at whole → Wrote out o us out' r → Left out' r vs out₀ at whole
left_next {out} {out'} {out₀} {us} {vs} {whole} {o} {r} {at} l w = record {
  bytes = ap (λ (x : List ℕ). sets x r vs) w.bytes ∙ ap (λ n. sets (sets out o us) n vs) w.after ∙ sym (sets_append out o us vs) ∙ l.bytes;
  after = let e = w.after in let f = l.after in omega (arith, length-append us vs);
}

pub left_as : {out out₀ us vs whole : List ℕ} {o at : ℕ} → us ≡ vs → Left out o us out₀ at whole → Left out o vs out₀ at whole
left_as {out} {out₀} {us} {vs} {whole} {o} {at} e l = subst (λ (x : List ℕ). Left out o x out₀ at whole) e l

pub left_all : {out out₀ whole : List ℕ} {o at : ℕ} → Left out o [] out₀ at whole → Wrote out₀ at whole out o
left_all l = record { bytes = l.bytes; after = let e = l.after in omega arith }

pub left_start : (out : List ℕ) (at : ℕ) (whole : List ℕ) → Left out at whole out at whole
left_start out at whole = record { bytes = refl; after = refl }

-- the first number, then the others
pub numbers_first : (part : List ℤ) (out : List ℕ) (at : ℕ) (mid out' : List ℕ) (a r : ℕ) → (length part ≡ 0 → ⊥) → (y : ℤ) → y ≡ get_or part 0 (pos 0) → mid ≡ sets out at (print_number y) → a ≡ length (print_number y)
    → Wrote mid (at + a) (print_more (take (length part - 1) (drop 1 part))) out' r → Wrote out at (print_numbers part) out' r
unfolding print_numbers
numbers_first [] out at mid out' a r h y e w s x = absurd (h refl)
numbers_first (z ∷ zs) out at mid out' a r h y e w s x =
    let one : Wrote out at (print_number y) mid (at + a) = record { bytes = w; after = rw s refl } in
    let t : take (suc (length zs) - 1) zs ≡ zs = take_all (suc (length zs) - 1) zs (omega arith) in
    let y : Wrote mid (at + a) (print_more zs) out' r = rw t at x in
    wrote_to (ap (λ (k : ℤ). print_number k ++ print_more zs) e) (wrote_then one y)

module _ (part : List ℤ) (out₀ : List ℕ) (at : ℕ) (whole out : List ℕ) (o i : ℕ) (inv : Left out o (print_more (drop i part)) out₀ at whole) where
  pub numbers_more : i < length part → (mid out' : List ℕ) → mid ≡ sets out o (comma ∷ []) → (z : ℤ) → z ≡ get_or part i (pos 0) → out' ≡ sets mid (o + 1) (print_number z) → (a : ℕ) → a ≡ length (print_number z)
      → Left out' (o + (a + 1)) (print_more (drop (i + 1) part)) out₀ at whole
  unfolding print_more
  numbers_more h mid out' x z d y a s =
      let rest : List ℕ = print_more (drop (i + 1) part) in
      let e : print_more (drop i part) ≡ (comma ∷ []) ++ (print_number z ++ rest) = rw (cons_word part i h, d) refl in
      let one : Wrote out o (comma ∷ []) mid (o + 1) = record { bytes = x; after = refl } in
      let two : Wrote mid (o + 1) (print_number z) out' (o + 1 + a) = record { bytes = y; after = rw s refl } in
      let r : Left out' (o + 1 + a) rest out₀ at whole = left_next (left_next (left_as e inv) one) two in
      let q : o + 1 + a ≡ o + (a + 1) = omega arith in
      subst (λ (n : ℕ). Left out' n rest out₀ at whole) q r

  pub numbers_written : length part ≤ i → Wrote out₀ at whole out o
  unfolding print_more
  numbers_written h = left_all (left_as (rw (drop_of_length-le part h) refl) inv)

-- ---- spaces: those below o are written

pub spaces_start : (out : List ℕ) (at : ℕ) → out ≡ sets out at (spaces (at - at))
spaces_start out at = let e : 0 ≡ at - at = omega arith in ap (λ k. sets out at (spaces k)) e

module _ (out₀ : List ℕ) (at : ℕ) (out : List ℕ) (o : ℕ) (low : at ≤ o) (inv : out ≡ sets out₀ at (spaces (o - at))) where
  pub spaces_next : set out o 32 ≡ sets out₀ at (spaces (o + 1 - at))
  spaces_next =
      let e : o - at + 1 ≡ o + 1 - at = omega arith in
      let f : at + length (spaces (o - at)) ≡ o = omega (arith, length-replicate {A = ℕ} (o - at) 32) in
      let g : sets out₀ at (spaces (o - at) ++ (32 ∷ [])) ≡ set out o 32 = sets_append out₀ at (spaces (o - at)) (32 ∷ []) ∙ ap (λ n. set (sets out₀ at (spaces (o - at))) n 32) f ∙ ap (λ (l : List ℕ). set l o 32) (sym inv) in
      sym g ∙ ap (sets out₀ at) (replicate-append-replicate (o - at) 1 32 ∙ ap spaces e)

  pub spaces_end : (n end : ℕ) → o ≤ at + n → end ≡ min (at + n) (length out₀) → end ≤ o → Wrote out₀ at (spaces n) out (at + n)
  spaces_end n end h m l = record { bytes = go (leb (at + n) o) refl; after = rw (length-replicate {A = ℕ} n 32) refl }
    where
      split : sets out₀ at (spaces n) ≡ sets out o (spaces (at + n - o))
      split =
          let e : o - at + (at + n - o) ≡ n = omega arith in
          let f : at + length (spaces (o - at)) ≡ o = omega (arith, length-replicate {A = ℕ} (o - at) 32) in
          ap (λ k. sets out₀ at (spaces k)) (sym e)
          ∙ ap (sets out₀ at) (sym (replicate-append-replicate (o - at) (at + n - o) 32))
          ∙ sets_append out₀ at (spaces (o - at)) (spaces (at + n - o))
          ∙ ap (λ k. sets (sets out₀ at (spaces (o - at))) k (spaces (at + n - o))) f
          ∙ ap (λ (l : List ℕ). sets l o (spaces (at + n - o))) (sym inv)

      go : (t : Bool) → leb (at + n) o ≡ t → out ≡ sets out₀ at (spaces n)
      go true e = let q = leb-true (at + n) o e in let z : at + n - o ≡ 0 = omega arith in sym (split ∙ ap (λ k. sets out o (spaces k)) z)
      go false e =
          let q = leb-false (at + n) o e in
          let s : length out ≡ length out₀ = ap length inv ∙ length-sets out₀ at (spaces (o - at)) in
          sym (split ∙ sets_out out o (spaces (at + n - o)) (omega arith))
