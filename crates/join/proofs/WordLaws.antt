-- Slices compared and copied, and words stored over zeros. Assumes nothing.
use mathlib.Core.Path.{◌≡◌, refl, sym, ap, ◌∙◌}
use mathlib.Core.Bool.{Bool, true, false, not}
use mathlib.Core.List.{List, [], ◌∷◌, ◌++◌}
use Prim.Native.Nat.{ℕ, zero, suc, ◌+◌, ◌-◌, ◌≤◌, ◌<◌}
use native.Mathlib.Omega.{arith}
use lib.IntN.{ℤ, pos}
use lib.ListN.{length, drop, set, length-replicate}
use lib.Seq.{sets, sets-eq, set-set, set_comm}
use Rattle.laws.specs.Same.{same_words, same_is, same_refl}
use Rattle.laws.specs.Writes.{sets_append}
use Rattle.laws.specs.Ints.{apart}
use Rattle.laws.specs.Slices.{zeros, Stored}
use Rattle.std.specs.Ordering.{int_eq}
use Rattle.std.specs.Cmp.Lexicographic.{pointwise}
use Rattle.std.specs.Cmp.Rules.{signed_items}
use Rattle.std.proofs.lemmas.Bool.Decides.{same_from_decides}
use Rattle.std.proofs.lemmas.List.{take-append-drop}

-- ---- the same words: what a test of two slices has told

same_tested : (xs ys : List ℤ) → pointwise int_eq xs ys ≡ same_words xs ys
same_tested xs ys = same_from_decides _ _ (signed_items xs ys) (same_is xs ys, λ e. rw e (same_refl ys))

pub equal_words : (xs ys : List ℤ) → false ≡ not (pointwise int_eq xs ys) → true ≡ same_words xs ys
equal_words xs ys h = not_of _ h ∙ same_tested xs ys
  where
    not_of : (b : Bool) → false ≡ not b → true ≡ b
    not_of true e = refl
    not_of false e = apart (cc)

pub other_words : (xs ys : List ℤ) → true ≡ not (pointwise int_eq xs ys) → false ≡ same_words xs ys
other_words xs ys h = not_of _ h ∙ same_tested xs ys
  where
    not_of : (b : Bool) → true ≡ not b → false ≡ b
    not_of false e = refl
    not_of true e = apart (cc)

-- ---- what was copied

pub copied : (out : List ℤ) (o : ℕ) (us out' : List ℤ) (r : ℕ) → o + length us ≤ length out → Stored out o us out' r → out' ≡ sets out o us
copied out o us out' r l s =
    sym (take-append-drop r out')
    ∙ rw (s.pushed.words, s.above, s.pushed.end) refl
    ∙ sym (sets-eq us out o l)

-- ---- a word of stored words stored anew

set_below : (l : List ℤ) (i : ℕ) (x : ℤ) (o : ℕ) (vs : List ℤ) → i < o → set (sets l o vs) i x ≡ sets (set l i x) o vs
set_below l i x o [] h = refl
set_below l i x o (v ∷ vs) h = set_below (set l o v) i x (suc o) vs (omega arith) ∙ ap (λ m. sets m (suc o) vs) (set_comm l o i v x (λ e. omega arith))

pub stored_anew : (out us : List ℤ) (x y : ℤ) (vs : List ℤ) → set (sets out 0 (us ++ (x ∷ vs))) (length us) y ≡ sets out 0 (us ++ (y ∷ vs))
stored_anew out us x y vs =
    let z : 0 + length us ≡ length us = omega arith in
    let e : (v : ℤ) → sets out 0 (us ++ (v ∷ vs)) ≡ sets (set (sets out 0 us) (length us) v) (suc (length us)) vs = λ v. sets_append out 0 us (v ∷ vs) ∙ ap (λ n. sets (sets out 0 us) n (v ∷ vs)) z in
    ap (λ (l : List ℤ). set l (length us) y) (e x)
    ∙ set_below (set (sets out 0 us) (length us) x) (length us) y (suc (length us)) vs (omega arith)
    ∙ ap (λ (l : List ℤ). sets l (suc (length us)) vs) (set-set (sets out 0 us) (length us) x y)
    ∙ sym (e y)

-- ---- zeros

drop_zeros : (n k : ℕ) → drop k (zeros n) ≡ zeros (n - k)
drop_zeros n zero = let e : n ≡ n - 0 = omega arith in ap zeros e
drop_zeros zero (suc k) = let e : 0 ≡ 0 - suc k = omega arith in ap zeros e
drop_zeros (suc n) (suc k) = let e : n - k ≡ suc n - suc k = omega arith in drop_zeros n k ∙ ap zeros e

pub sets_zeros : (n : ℕ) (ws : List ℤ) → length ws ≤ n → sets (zeros n) 0 ws ≡ ws ++ zeros (n - length ws)
sets_zeros n ws h =
    let e : n - (0 + length ws) ≡ n - length ws = omega arith in
    sets-eq ws (zeros n) 0 (omega (arith, length-replicate n (pos 0)))
    ∙ ap (λ (l : List ℤ). ws ++ l) (drop_zeros n (0 + length ws) ∙ ap zeros e)
