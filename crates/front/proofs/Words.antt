-- Words copied from the work slice, as they are or 0 for a negative one; the words in front of the records from them.
use mathlib.Core.Path.{◌≡◌, refl, ap}
use mathlib.Core.List.{List, [], ◌∷◌}
use Prim.Native.Nat.{ℕ, zero, suc, ◌+◌, ◌-◌, ◌≤◌}
use native.Mathlib.Omega.{arith}
use native.Mathlib.Numerals.{add-one}
use lib.IntN.{ℤ, pos, negsuc}
use lib.ListN.{length, get_or, take, drop}
use lib.Seq.{drop-cons}
use Rattle.std.specs.Int.{int_max}
use mir.Syntax.{w32}
use mir.Val.{SFits, to_z}
use borrow.Author.Tests.{le-leb}
use Rattle.laws.specs.Writes.{cap, Wrote, wrote_none, wrote_then, wrote_length, wrote_to}
use Rattle.memory.specs.Places.{bool_map, int_map, limit}
use Rattle.memory.specs.Number.{nat}
use Rattle.walk.specs.declared.Counters.{Counters}
use Rattle.survey.proofs.Leaves.{pos_is}
use Rattle.front.specs.Front.{naturals, copied, maps_words, front_words}

pub natural_max : (z : ℤ) → int_max z (pos 0) ≡ pos (nat z)
unfolding nat
natural_max (pos zero) = refl
natural_max (pos (suc n)) = rw (le-leb 1 (suc n) (omega arith))
natural_max (negsuc n) = refl

pub naturals_none : (w out : List ℤ) (o i k : ℕ) → k ≡ 0 → o ≤ cap → Wrote out o (naturals w i k) out o
unfolding naturals
naturals_none w out o i k e h = rw e (wrote_none out o h)

pub naturals_more : {out a b : List ℤ} {o p q : ℕ} (w : List ℤ) (i k : ℕ) → (k ≡ 0 → ⊥) → length out ≤ cap → Wrote out o (pos (nat (get_or w i (pos 0))) ∷ []) a p → Wrote a p (naturals w (i + 1) (k - 1)) b q → Wrote out o (naturals w i k) b q
unfolding naturals
naturals_more w i zero z l x y = absurd (z refl)
naturals_more w i (suc k) z l x y =
    let e : suc k - 1 ≡ k = omega arith in
    wrote_then l x (rw (e, add-one i) at y)

-- a part of the slice
pub copied_is : (w : List ℤ) (i k : ℕ) → i + k ≤ length w → take k (drop i w) ≡ copied w i k
unfolding copied
copied_is w i zero h = refl
copied_is w i (suc k) h = rw (drop-cons w i (pos 0) (omega arith)) (ap (λ l. get_or w i (pos 0) ∷ l) (copied_is w (suc i) k (omega arith)))

pub copied_part : (w : List ℤ) {out a : List ℤ} {o p : ℕ} (i k : ℕ) → i + k ≤ length w → Wrote out o (take (i + k - i) (drop i w)) a p → Wrote out o (copied w i k) a p
copied_part w i k h x = let e : i + k - i ≡ k = omega arith in wrote_to (copied_is w i k h) (rw e at x)

pub maps_done : {out a e d : List ℤ} {o p q : ℕ} (w : List ℤ) (b i : ℕ) → length out ≤ cap → Wrote out 0 (copied w 0 b) a o → Wrote a o (copied w bool_map b) e p → Wrote e p (naturals w int_map i) d q → Wrote out 0 (maps_words w b i) d q
maps_done w b i l x y z = wrote_then l x (wrote_then (omega (arith, wrote_length x)) y z)

-- ---- the counts

pub count_fits : (n : ℕ) → n ≤ limit → SFits w32 (pos n)
count_fits n h = record { sfits = omega arith }

-- a count, from its bits
count_word : {out a : List ℤ} {o p : ℕ} (n : ℕ) → n ≤ limit → Wrote out o (to_z w32 n ∷ []) a p → Wrote out o (pos n ∷ []) a p
count_word n h x = wrote_to (ap (λ (z : ℤ). z ∷ []) (pos_is n h)) x

pub front_done : {out a e d : List ℤ} {o p q : ℕ} (w : List ℤ) (b i : ℕ) (c : Counters) → length out ≤ cap → (c.bools ≤ limit) × (c.ints ≤ limit)
    → Wrote out 0 (maps_words w b i) a o → Wrote a o (to_z w32 c.bools ∷ []) e p → Wrote e p (to_z w32 c.ints ∷ []) d q → Wrote out 0 (front_words w b i c) d q
front_done w b i c l k x y z = wrote_then l x (wrote_then (omega (arith, wrote_length x)) (count_word c.bools k.0 y) (count_word c.ints k.1 z))
