-- A word read, a number stored; what a turn of each loop leaves to do, and its end. Assumes nothing.
use mathlib.Core.Path.{◌≡◌, refl, sym, ap, ◌∙◌}
use mathlib.Core.List.{List, [], ◌∷◌, ◌++◌, append_assoc, append-nil}
use Prim.Native.Nat.{ℕ, suc, ◌+◌, ◌-◌, ◌≤◌, ◌<◌}
use native.Mathlib.Omega.{arith}
use native.Mathlib.Numerals.{add-one}
use lib.IntN.{ℤ, pos, negsuc, nat_abs}
use lib.ListN.{length, take, drop, get_or, set, length-set, length-drop}
use lib.Seq.{take-suc, take-suc-set, drop-set-lt, get_or-drop, length-take-le}
use lib.Signed.{mag}
use mir.Syntax.{w32}
use mir.Val.{to_z, of_z}
use mir.Facts.{to_z-of_z}
use Rattle.laws.specs.Slices.{Stored, drop_up}
use Rattle.std.proofs.Common.{Result, Ok, Err}
use Rattle.std.specs.Result.{OkIff, result_unwrap_or}
use Rattle.std.specs.Int.{FitsUnsignedBits}
use Rattle.memory.specs.Cleared.{cleared}
use Rattle.memory.specs.Number.{nat}

-- ---- `entry`

number_of : {E : Type 0} (r : Result ℕ E) (z : ℤ) → OkIff r (FitsUnsignedBits 64 z) (nat_abs z) → mag z < 2147483648 → result_unwrap_or r 0 ≡ nat z
unfolding nat
number_of (Ok x) (pos n) h b = h.1
number_of (Ok x) (negsuc n) h b = absurd h.0
number_of (Err e) (pos n) h b = absurd (h (omega arith))
number_of (Err e) (negsuc n) h b = refl

-- the word converted, or 0
pub number_or_none : {E : Type 0} (r : Result ℕ E) (z : ℤ) → OkIff r (FitsUnsignedBits 64 (to_z w32 (of_z w32 z))) (nat_abs (to_z w32 (of_z w32 z))) → mag z < 2147483648 → result_unwrap_or r 0 ≡ nat z
number_or_none r z h b =
    let e : to_z w32 (of_z w32 z) ≡ z = to_z-of_z {w = w32} {z = z} (record { sfits = b }) in
    number_of r z (rw e at h) b

-- ---- `store_number`

pub number_is : (x : ℕ) → x < 2147483648 → to_z w32 x ≡ pos x
number_is x h = to_z-of_z {w = w32} {z = pos x} (record { sfits = omega arith })

-- ---- `clear_words`

pub clear_next : (w : List ℤ) (i to : ℕ) → i < to → cleared (set w i (pos 0)) (i + 1) to ≡ cleared w i to
unfolding cleared
clear_next w i to l =
    let m : to - i ≡ suc (to - (i + 1)) = omega arith in
    let s : i + 1 ≡ suc i = omega arith in
    rw (m, s) refl

pub clear_none : (w : List ℤ) (i to : ℕ) → to ≤ i → cleared w i to ≡ w
unfolding cleared
clear_none w i to l = let m : to - i ≡ 0 = omega arith in rw m refl

-- ---- `copy_words`

pub record Copying (ws : List ℤ) (at : ℕ) (out₀ : List ℤ) (o : ℕ) (out : List ℤ) (i : ℕ) : Type 0 where
  pub size : length out ≡ length out₀
  pub low : take (o + i) out ≡ take o out₀ ++ take i (drop at ws)
  pub high : drop (o + i) out ≡ drop (o + i) out₀

module _ (ws : List ℤ) (at : ℕ) (out₀ : List ℤ) (o : ℕ) where
  pub copying_none : Copying ws at out₀ o out₀ 0
  copying_none = let z : o + 0 ≡ o = omega arith in record { size = refl; low = rw z (sym (append-nil (take o out₀))); high = refl }

  pub copying_next : (out : List ℤ) (i : ℕ) (out' : List ℤ) → at + i < length ws → o + i < length out → out' ≡ set out (o + i) (get_or ws (at + i) (pos 0)) → Copying ws at out₀ o out i → Copying ws at out₀ o out' (i + 1)
  copying_next out i out' h l e c =
      let w = get_or ws (at + i) (pos 0) in
      let n : o + (i + 1) ≡ suc (o + i) = omega arith in
      let j : i + 1 ≡ suc i = add-one i in
      let g : get_or (drop at ws) i (pos 0) ≡ w = get_or-drop at ws i (pos 0) in
      let t : take (suc i) (drop at ws) ≡ take i (drop at ws) ++ (w ∷ []) = take-suc (drop at ws) i (pos 0) (omega (arith, length-drop at ws)) ∙ ap (λ x. take i (drop at ws) ++ (x ∷ [])) g in
      record {
        size = ap length e ∙ length-set out (o + i) w ∙ c.size;
        low = rw (e, n, j, take-suc-set out (o + i) w l, c.low, t) (append_assoc (take o out₀) (take i (drop at ws)) (w ∷ []));
        high = rw (e, n) (drop-set-lt (suc (o + i)) out (o + i) w (omega arith) ∙ drop_up (o + i) (suc (o + i)) out out₀ c.high (omega arith));
      }

  pub copying_end : (out : List ℤ) (i n : ℕ) → i ≡ n → at + n ≤ length ws → Copying ws at out₀ o out i → Stored out₀ o (take n (drop at ws)) out (o + n)
  copying_end out i n e h c = rw (← e) (record {
    above = c.high;
    pushed = record { end = omega (arith, length-take-le i (drop at ws) (omega (arith, length-drop at ws))); words = c.low };
  })
