-- Laws of the small functions: numbers, words, single terms. Assumes nothing.
use mathlib.Core.Path.{◌≡◌, refl, sym, ap, ◌∙◌}
use mathlib.Core.Bool.{true, false}
use mathlib.Core.List.{List}
use Prim.Native.Nat.{ℕ, zero, suc, ◌+◌, ◌-◌, ◌≤◌, ◌<◌}
use native.Mathlib.Omega.{arith}
use lib.IntN.{ℤ, pos, negsuc, nat_abs, ◌-ℤ◌}
use lib.ListN.{get_or, length-take, get_or-eq_default}
use lib.Seq.{get_or-take}
use lib.Signed.{lt_z, non_neg}
use lib.Dec.{T, eqb}
use borrow.Author.Tests.{ltb-true, ltb-false, le-ltb, ne_eqb}
use mir.Syntax.{w32}
use mir.Val.{SFits}
use Rattle.laws.specs.Bools.{never}
use Rattle.syntax.specs.Words.{max_ints}
use Rattle.memory.specs.Places.{folded_end, int_map}
use Rattle.memory.specs.Number.{nat}
use Rattle.walk.specs.Item.{int_entry, int_number}
use Rattle.walk.specs.Decode.{word, below as index, read_part}
use Rattle.walks.specs.Item.{cell, number_in}
use Rattle.scan.specs.IfLaws.{seen_at}
use Rattle.totals.specs.declared.Lone.TheVariants.{Constant, Number}
use Rattle.totals.specs.Lone.{is_sum, lone_of}

-- ---- a word that holds number plus 1

pub below_one : (z : ℤ) → lt_z z (pos 1) ≡ true → 0 ≡ nat z - 1
unfolding nat
below_one (pos n) h = let l = ltb-true n 1 h in omega arith
below_one (negsuc n) h = refl

pub from_one : (z : ℤ) → lt_z z (pos 1) ≡ false → T (non_neg z)
from_one (pos n) h = tt
from_one (negsuc n) h = never (sym h)

pub one_less : (z : ℤ) → SFits w32 z → lt_z z (pos 1) ≡ false → (1 ≤ nat_abs z) × (nat_abs z - 1 ≡ nat z - 1) × (nat_abs z - 1 < 2147483648)
unfolding nat
one_less (pos n) f h = let l = ltb-false n 1 h in let k = f.sfits in (omega arith, refl, omega arith)
one_less (negsuc n) f h = never (sym h)

pub entry_is : (w : List ℤ) (v r : ℕ) → r ≡ nat (get_or w (int_map + v) (pos 0)) - 1 → r ≡ int_number w v
unfolding int_entry
entry_is w v r e = e

-- ---- an If's cell

turned : (n : ℕ) → negsuc 0 -ℤ negsuc n ≡ pos n
turned n = rw (le-ltb (suc n) 1 (omega arith)) (ap pos (omega arith))

pub turned_fits : (z : ℤ) → SFits w32 z → lt_z z (pos 0) ≡ true → SFits w32 (negsuc 0 -ℤ z)
turned_fits (pos n) f h = absurd (let l = ltb-true n 0 h in omega arith)
turned_fits (negsuc n) f h = let l = f.sfits in rw (turned n) (record { sfits = omega arith })

module _ (w : List ℤ) (at ints : ℕ) (z : ℤ) (e : z ≡ cell w (at + 1)) where
  pub number_constant : z ≡ negsuc 0 → (r : ℕ) → r ≡ ints - 1 → r ≡ number_in (seen_at w at) ints
  number_constant h r i = rw (← e, h) i

  own_of : (x : ℤ) → x ≡ cell w (at + 1) → lt_z x (pos 0) ≡ true → (x ≡ negsuc 0 → ⊥) → nat (negsuc 0 -ℤ x) - 1 ≡ number_in (seen_at w at) ints
  unfolding nat
  own_of (pos n) i h k = absurd (let l = ltb-true n 0 h in omega arith)
  own_of (negsuc zero) i h k = absurd (k refl)
  own_of (negsuc (suc n)) i h k = rw (← i, turned (suc n)) (omega arith)

  pub number_own : lt_z z (pos 0) ≡ true → (z ≡ negsuc 0 → ⊥) → (r : ℕ) → r ≡ nat (negsuc 0 -ℤ z) - 1 → r ≡ number_in (seen_at w at) ints
  number_own h k r i = i ∙ own_of z e h k

  shared_of : (x : ℤ) → x ≡ cell w (at + 1) → lt_z x (pos 0) ≡ false → nat x - 1 ≡ number_in (seen_at w at) ints
  unfolding nat
  shared_of (pos zero) i h = rw (← i) refl
  shared_of (pos (suc n)) i h = rw (← i) (omega arith)
  shared_of (negsuc n) i h = never (sym h)

  pub number_shared : lt_z z (pos 0) ≡ false → (r : ℕ) → r ≡ nat z - 1 → r ≡ number_in (seen_at w at) ints
  number_shared h r i = i ∙ shared_of z e h

-- ---- words

pub word_there : (w : List ℤ) (at : ℕ) → at < folded_end → get_or w at (pos 0) ≡ get_or (read_part w) at (pos 0)
unfolding read_part
word_there w at h = sym (get_or-take folded_end w at (pos 0) h)

pub word_behind : (w : List ℤ) (at : ℕ) → folded_end ≤ at → pos 0 ≡ get_or (read_part w) at (pos 0)
unfolding read_part
word_behind w at h = sym (get_or-eq_default (read_part w) (pos 0) (omega (arith, length-take folded_end w)))

-- ---- what is no sum

pub sum_none : (w : List ℤ) (l at : ℕ) → l ≡ 0 → false ≡ is_sum w l at
unfolding is_sum
sum_none w l at e = rw e refl

pub sum_code : (w : List ℤ) (l at k : ℕ) → (l ≡ 0 → ⊥) → k ≡ word (read_part w) at → eqb k 22 ≡ is_sum w l at
unfolding is_sum
sum_code w zero at k z e = absurd (z refl)
sum_code w (suc l) at k z e = rw e refl

module _ (w : List ℤ) (at ints : ℕ) where
  pub lone_none : (l : ℕ) → l ≡ 0 → Constant (pos 0) ≡ lone_of w l at ints
  unfolding lone_of
  lone_none l e = rw e refl

  module _ (k : ℕ) (hk : k ≡ word (read_part w) at) where
    pub lone_variable : (l x v r : ℕ) → (l ≡ 0 → ⊥) → k ≡ 21 → x ≡ word (read_part w) (at + 1) → v ≡ index max_ints x → r ≡ int_number w v → Number r ≡ lone_of w l at ints
    unfolding lone_of
    lone_variable zero x v r z e hx hv hr = absurd (z refl)
    lone_variable (suc l) x v r z e hx hv hr = rw (← hk, e, ← hx, ← hv) (ap Number hr)

    pub lone_if : (l r : ℕ) → (l ≡ 0 → ⊥) → k ≡ 23 → r ≡ number_in (seen_at w at) ints → Number r ≡ lone_of w l at ints
    unfolding lone_of
    lone_if zero r z e hr = absurd (z refl)
    lone_if (suc l) r z e hr = rw (← hk, e) (ap Number hr)

    pub lone_constant : (l : ℕ) (c : ℤ) → (l ≡ 0 → ⊥) → (k ≡ 21 → ⊥) → (k ≡ 23 → ⊥) → c ≡ get_or (read_part w) (at + 1) (pos 0) → Constant c ≡ lone_of w l at ints
    unfolding lone_of
    lone_constant zero c z a b hc = absurd (z refl)
    lone_constant (suc l) c z a b hc = rw (← hk, ne_eqb k 21 a, ne_eqb k 23 b) (ap Constant hc)
