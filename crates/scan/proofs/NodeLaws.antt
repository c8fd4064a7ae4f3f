-- Laws of nodes.
use mathlib.Core.Path.{◌≡◌, sym, ap, ◌∙◌}
use mathlib.Core.Bool.{Bool, true, not}
use mathlib.Core.List.{List}
use Prim.Native.Nat.{ℕ, ◌+◌, ◌≤◌, ◌<◌, min}
use native.Mathlib.Omega.{arith}
use lib.IntN.{ℤ, pos, negsuc}
use lib.ListN.{length, get_or}
use mir.Syntax.{w32}
use mir.Val.{SFits, of_z, to_z}
use Rattle.laws.specs.Signed.{value_is}
use Rattle.memory.specs.Places.{folded_end}
use Rattle.memory.specs.Number.{nat}
use Rattle.syntax.specs.Words.{max_bools}
use borrow.Author.Tests.{ne_eqb}
use Rattle.walk.specs.Decode.{word, past, below, constant_node, read_part}
use Rattle.walk.specs.declared.Node.{Node}
use Rattle.walk.specs.declared.Node.TheVariants.{Var, Cmp, Not, Join, Cross}
use Rattle.walks.specs.Decode.{node_of}
use Rattle.survey.proofs.Leaves.{word_inside, past_is}

module _ (w : List ℤ) (size : folded_end ≤ length w) (g : Bool) (at : ℕ) (x one two k : ℕ)
    (hx : x ≡ word (read_part w) (at + 1)) (h1 : one ≡ min (at + 1) folded_end) (h2 : two ≡ min (at + 2) folded_end) (hk : k ≡ word (read_part w) at) where
  abbrev Asks : Node → Type 0
  Asks N = N ≡ node_of (read_part w) g at (word (read_part w) at)

  p1 : one ≡ past (read_part w) (at + 1)
  p1 = past_is w (at + 1) one size h1

  p2 : two ≡ past (read_part w) (at + 2)
  p2 = past_is w (at + 2) two size h2

  pub node_const : (N : Node) → k ≡ 10 → N ≡ constant_node x g two → Asks N
  unfolding node_of
  node_const N e h = rw (← hk, e, ← hx, ← p2) h

  pub node_var : (v : ℕ) → k ≡ 11 → v ≡ below max_bools x → Asks (Var v two)
  unfolding node_of
  node_var v e h = rw (h, ← hk, e, ← hx, ← p2)

  pub node_and : k ≡ 12 → Asks (Join g x g g two)
  unfolding node_of
  node_and e = rw (← hk, e, ← hx, ← p2)

  pub node_or : k ≡ 13 → Asks (Join (not g) x g g two)
  unfolding node_of
  node_or e = rw (← hk, e, ← hx, ← p2)

  pub node_not : k ≡ 14 → Asks (Not one)
  unfolding node_of
  node_not e = rw (← hk, e, ← p1)

  pub node_xor : k ≡ 15 → Asks (Cross g one)
  unfolding node_of
  node_xor e = rw (← hk, e, ← p1)

  pub node_iff : k ≡ 16 → Asks (Cross (not g) one)
  unfolding node_of
  node_iff e = rw (← hk, e, ← p1)

  pub node_imp : k ≡ 17 → Asks (Join (not g) 2 (not g) g one)
  unfolding node_of
  node_imp e = rw (← hk, e, ← p1)

  pub node_cmp : k ≡ 18 → Asks (Cmp x two)
  unfolding node_of
  node_cmp e = rw (← hk, e, ← hx, ← p2)

  pub node_other : (k ≡ 10 → ⊥) → (k ≡ 11 → ⊥) → (k ≡ 12 → ⊥) → (k ≡ 13 → ⊥) → (k ≡ 14 → ⊥) → (k ≡ 15 → ⊥) → (k ≡ 16 → ⊥) → (k ≡ 17 → ⊥) → (k ≡ 18 → ⊥) → Asks (Join true 0 g g one)
  unfolding node_of
  node_other a b c d e f i j m = rw (← hk, ne_eqb k 10 a, ne_eqb k 11 b, ne_eqb k 12 c, ne_eqb k 13 d, ne_eqb k 14 e, ne_eqb k 15 f, ne_eqb k 16 i, ne_eqb k 17 j, ne_eqb k 18 m, ← p1)

-- ---- words that are not a code

not_code : (z : ℤ) (k : ℕ) → 0 < k → (of_z w32 z ≡ k → ⊥) → nat z ≡ k → ⊥
unfolding nat
not_code (pos n) k l h e = h e
not_code (negsuc n) k l h e = omega arith

pub no_code_at : (w : List ℤ) (at k : ℕ) → at < folded_end → 0 < k → (of_z w32 (get_or w at (pos 0)) ≡ k → ⊥) → word (read_part w) at ≡ k → ⊥
no_code_at w at k h l ne e = not_code (get_or w at (pos 0)) k l ne (word_inside w at h ∙ e)

-- a word with the bits of a code, which are the code's own
pub code_at : (w : List ℤ) (at k : ℕ) → at < folded_end → to_z w32 k ≡ pos k → SFits w32 (get_or w at (pos 0)) → of_z w32 (get_or w at (pos 0)) ≡ k → word (read_part w) at ≡ k
unfolding nat
code_at w at k h p f e = sym (word_inside w at h) ∙ ap nat (value_is f e ∙ p)
