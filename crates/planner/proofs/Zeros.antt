-- Words stored in front of zeros. Assumes nothing.
use mathlib.Core.Path.{◌≡◌, refl, sym, ap, ◌∙◌}
use mathlib.Core.List.{List, ◌∷◌, ◌++◌, append_assoc}
use Prim.Native.Nat.{ℕ, zero, suc, ◌+◌, ◌-◌, ◌≤◌}
use native.Mathlib.Omega.{arith}
use lib.IntN.{ℤ, pos}
use lib.ListN.{length, take, drop, length-replicate, replicate-append-replicate}
use lib.Seq.{sets, sets-eq}
use Rattle.laws.specs.Slices.{zeros}

drop_zeros : (n k : ℕ) → drop k (zeros n) ≡ zeros (n - k)
drop_zeros n zero = let e : n ≡ n - 0 = omega arith in ap zeros e
drop_zeros zero (suc k) = let e : 0 ≡ 0 - suc k = omega arith in ap zeros e
drop_zeros (suc n) (suc k) = let e : n - k ≡ suc n - suc k = omega arith in drop_zeros n k ∙ ap zeros e

take_zeros : (n k : ℕ) → k ≤ n → take k (zeros n) ≡ zeros k
take_zeros n zero h = refl
take_zeros zero (suc k) h = absurd (omega arith)
take_zeros (suc n) (suc k) h = ap (λ (l : List ℤ). pos 0 ∷ l) (take_zeros n k (omega arith))

sets_zeros : (n : ℕ) (ws : List ℤ) → length ws ≤ n → sets (zeros n) 0 ws ≡ ws ++ zeros (n - length ws)
sets_zeros n ws h =
    let e : n - (0 + length ws) ≡ n - length ws = omega arith in
    sets-eq ws (zeros n) 0 (omega (arith, length-replicate n (pos 0)))
    ∙ ap (λ (l : List ℤ). ws ++ l) (drop_zeros n (0 + length ws) ∙ ap zeros e)

-- words stored in the first m of n zeros
pub sets_part : (n m : ℕ) (ws : List ℤ) → m ≤ n → length ws ≤ m → sets (take m (zeros n)) 0 ws ++ drop m (zeros n) ≡ ws ++ zeros (n - length ws)
sets_part n m ws h k =
    let e : m - length ws + (n - m) ≡ n - length ws = omega arith in
    ap (λ (l : List ℤ). sets l 0 ws ++ drop m (zeros n)) (take_zeros n m h)
    ∙ ap (λ (l : List ℤ). l ++ drop m (zeros n)) (sets_zeros m ws k)
    ∙ ap (λ (l : List ℤ). (ws ++ zeros (m - length ws)) ++ l) (drop_zeros n m)
    ∙ append_assoc ws (zeros (m - length ws)) (zeros (n - m))
    ∙ ap (λ (l : List ℤ). ws ++ l) (replicate-append-replicate (m - length ws) (n - m) (pos 0) ∙ ap zeros e)

-- zeros of some length, and the length known otherwise
pub zeros_again : {l : List ℤ} {m n : ℕ} → length l ≡ m → l ≡ zeros m → length l ≡ n → l ≡ zeros n
zeros_again e z h = z ∙ ap zeros (sym e ∙ h)
