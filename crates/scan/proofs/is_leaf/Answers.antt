use mathlib.Core.Path.{◌≡◌}
use mathlib.Core.Bool.{true, not}
use Prim.Native.Nat.{ℕ}
use native.Mathlib.Omega.{arith}
use lib.Dec.{eqb}
use borrow.Author.Tests.{eq-eqb}
use Rattle.laws.specs.Bools.{never}
use Rattle.scan.proofs.NodeLaws.{no_code_at}
use Rattle.scan.proofs.is_leaf.Goals as goal

other : (a b : ℕ) → not (eqb a b) ≡ true → a ≡ b → ⊥
other a b h e = never (rw (eq-eqb a b e) at h)

pub returns-then-k-ne22 : goal.returns-then-k-ne22
returns-then-k-ne22 c = λ e. (c.if-left-eq0.false, c.if-q-ge-FOUR_WORDS.false, no_code_at _ _ 22 (omega (arith, c.if-q-ge-FOUR_WORDS.false)) (omega arith) c.if-k-ne22.true, no_code_at _ _ 23 (omega (arith, c.if-q-ge-FOUR_WORDS.false)) (omega arith) (other _ _ e))
