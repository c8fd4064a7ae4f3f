-- Laws of the small functions: words, modes, nodes, tallies.
use mathlib.Core.Path.{◌≡◌, refl, sym, ap}
use mathlib.Core.Bool.{Bool, true, false, not, cond}
use mathlib.Core.List.{List}
use Prim.Native.Nat.{ℕ, zero, suc, ◌≤◌, ◌<◌, min}
use native.Mathlib.Omega.{arith}
use lib.IntN.{ℤ, pos, neg_ℤ, ◌-ℤ◌, +ℤ_idl}
use lib.ListN.{length, get_or, take, length-take, get_or-eq_default}
use mir.Syntax.{w32}
use mir.Val.{SFits, to_z}
use mir.Facts.{to_z-of_z}
use lib.Seq.{get_or-take}
use lib.Dec.{eqb}
use Rattle.memory.specs.Places.{folded_end, limit}
use Rattle.memory.specs.Number.{nat}
use Rattle.clauses.specs.Clause.{negate_if}
use Rattle.walk.specs.Item.{bump, is_none}
use Rattle.walk.specs.Decode.{word, past, read_part, surveyed, fresh_of, lines_in_of, closed_disj}
use Rattle.walk.specs.declared.Surveyed.{Surveyed}
use Rattle.walk.specs.declared.Node.{Node}
use Rattle.walk.specs.declared.Node.TheVariants.{Join}
use Rattle.walk.proofs.NumberingSteps.{part_length}

-- ---- words

pub word_inside : (w : List ℤ) (at : ℕ) → at < folded_end → nat (get_or w at (pos 0)) ≡ word (read_part w) at
unfolding word read_part
word_inside w at h = ap nat (sym (get_or-take folded_end w at (pos 0) h))

pub word_outside : (w : List ℤ) (at : ℕ) → folded_end ≤ at → 0 ≡ word (read_part w) at
unfolding word read_part nat
word_outside w at h = let l : length (take folded_end w) ≤ at = omega (arith, length-take folded_end w) in rw (get_or-eq_default (take folded_end w) (pos 0) l)

pub past_is : (w : List ℤ) (p q : ℕ) → folded_end ≤ length w → q ≡ min p folded_end → q ≡ past (read_part w) p
past_is w p q h e = omega (arith, part_length w h)

-- ---- nodes

pub constant_not : (x : ℕ) (g : Bool) (q : ℕ) → g ≡ true → Join (eqb x 1) 0 g g q ≡ Join (not (negate_if g (eqb x 1))) 0 g g q
constant_not x g q e = rw e (go (eqb x 1))
  where
    go : (b : Bool) → Join b 0 true true q ≡ Join (not (not b)) 0 true true q
    go true = refl
    go false = refl

pub constant_plain : (x : ℕ) (g : Bool) (q : ℕ) → g ≡ false → Join (not (eqb x 1)) 0 g g q ≡ Join (not (negate_if g (eqb x 1))) 0 g g q
constant_plain x g q e = rw e

-- ---- tallies

pub disj_none : (s : Surveyed) → s.longs ≡ 0 → surveyed s.at s.base s.n s.longs s.lits s.cmps s.lines 1 ≡ closed_disj s
unfolding closed_disj
disj_none s h = rw h

pub disj_long : (s : Surveyed) → (s.longs ≡ 0 → ⊥) → surveyed s.at s.base (bump s.n (fresh_of s)) 1 0 0 (lines_in_of s) (lines_in_of s) ≡ closed_disj s
unfolding closed_disj
disj_long s h = go s.longs refl
  where
    go : (x : ℕ) → s.longs ≡ x → surveyed s.at s.base (bump s.n (fresh_of s)) 1 0 0 (lines_in_of s) (lines_in_of s)
        ≡ cond (is_none x) (surveyed s.at s.base s.n 0 s.lits s.cmps s.lines 1) (surveyed s.at s.base (bump s.n (fresh_of s)) 1 0 0 (lines_in_of s) (lines_in_of s))
    go zero e = absurd (h e)
    go (suc x) e = refl

-- a node known to be a disjunction or not
pub join_is : {N : Node} {c d g h : Bool} {k q : ℕ} → Join c k g h q ≡ N → c ≡ d → Join d k g h q ≡ N
join_is e f = cc

-- ---- stores

pos_fits : (x : ℕ) → x ≤ limit → SFits w32 (pos x)
pos_fits x h = record { sfits = omega arith }

pub pos_is : (x : ℕ) → x ≤ limit → to_z w32 x ≡ pos x
pos_is x h = to_z-of_z (pos_fits x h)

pub minus_is : (x : ℕ) → x ≤ limit → pos 0 -ℤ to_z w32 x ≡ neg_ℤ (pos x)
minus_is x h = rw (pos_is x h) (+ℤ_idl (neg_ℤ (pos x)))
