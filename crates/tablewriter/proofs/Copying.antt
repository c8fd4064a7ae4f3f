-- Words copied further up. Assumes nothing.
use mathlib.Core.Path.{◌≡◌, sym, ap, ◌∙◌}
use mathlib.Core.List.{List, ◌++◌, append_assoc}
use Prim.Native.Nat.{ℕ, ◌+◌, ◌≤◌}
use native.Mathlib.Omega.{arith}
use lib.IntN.{ℤ}
use lib.ListN.{length, take, drop, length-append, length-drop}
use lib.Seq.{sets, sets-eq, paste, take_at, drop_at, length-take-le}

-- ---- words us stored from a place on

module _ (w us : List ℤ) (to : ℕ) (room : to + length us ≤ length w) where
  parts : sets w to us ≡ take to w ++ (us ++ drop (to + length us) w)
  parts = sets-eq us w to room ∙ append_assoc (take to w) us (drop (to + length us) w)

  front : length (take to w) ≡ to
  front = length-take-le to w (omega arith)

  pub kept_below : take to (sets w to us) ≡ take to w
  kept_below = ap (take to) parts ∙ take_at (take to w) (us ++ drop (to + length us) w) to front

  pub new_words : drop to (sets w to us) ≡ us ++ drop (to + length us) w
  new_words = ap (drop to) parts ∙ drop_at (take to w) (us ++ drop (to + length us) w) to front

  pub kept_above : drop (to + length us) (sets w to us) ≡ drop (to + length us) w
  kept_above =
      let e : length (take to w ++ us) ≡ to + length us = length-append (take to w) us ∙ ap (λ (n : ℕ). n + length us) front in
      ap (drop (to + length us)) (sets-eq us w to room) ∙ drop_at (take to w ++ us) (drop (to + length us) w) (to + length us) e

-- ---- count words are copied further up

pub copied : (w : List ℤ) (from to count : ℕ) → from + count ≤ to → to + count ≤ length w → paste w to (drop from w) count ≡ sets w to (take count (drop from w))
copied w from to count apart room =
    let us = take count (drop from w) in
    let e : length us ≡ count = length-take-le count (drop from w) (omega (arith, length-drop from w)) in
    ap (λ (n : ℕ). take to w ++ us ++ drop (to + n) w) (sym e) ∙ sym (sets-eq us w to (omega (arith, e)))
