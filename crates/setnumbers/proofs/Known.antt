-- A tie of variables that have literals, as the code finds it, and where its statement ends.
use mathlib.Core.Path.{◌≡◌, sym, ap, ◌∙◌}
use mathlib.Core.Bool.{false}
use mathlib.Core.List.{List}
use Prim.Native.Nat.{ℕ, ◌+◌, ◌≤◌, min}
use native.Mathlib.Omega.{arith}
use lib.IntN.{ℤ}
use lib.ListN.{length}
use Rattle.laws.specs.Ints.{is_zero}
use Rattle.memory.specs.Places.{folded_end}
use Rattle.syntax.specs.Syntax.{Rule, Table, AllDifferent}
use Rattle.syntax.specs.Words.{max_bools}
use Rattle.walk.specs.Item.{bool_at}
use Rattle.walk.specs.Decode.{word, past, below as index, read_part}
use Rattle.walk.proofs.NumberingSteps.{part_length}
use Rattle.setnumbers.specs.KnownTie.{KnownSides, KnownTie, known_end}
use Rattle.stmtwords.specs.Stands.{StmtEnds}
use Rattle.stmtwords.proofs.Ends.{rule_stop, not_here}

module _ (w : List ℤ) (size : folded_end ≤ length w) where
  past_is : (p q : ℕ) → q ≡ min p folded_end → past (read_part w) p ≡ q
  past_is p q e = omega (arith, part_length w size)

  -- i, j: the words of the variables x and y
  pub sides_known : (p q a b i j x y : ℕ) (u v : ℤ) → a ≡ word (read_part w) p → a ≡ 11 → q ≡ min (p + 2) folded_end → b ≡ word (read_part w) q → b ≡ 11
      → i ≡ word (read_part w) (p + 1) → x ≡ index max_bools i → u ≡ bool_at w x → is_zero u ≡ false → j ≡ word (read_part w) (q + 1) → y ≡ index max_bools j → v ≡ bool_at w y → is_zero v ≡ false → KnownSides w p
  sides_known p q a b i j x y u v ha ea hq hb eb hi hx hu zu hj hy hv zv =
      let e = past_is (p + 2) q hq in
      record {
        first = sym ha ∙ ea;
        second = rw e (sym hb ∙ eb);
        left = ap (λ (k : ℕ). is_zero (bool_at w k)) (sym (hx ∙ ap (index max_bools) hi)) ∙ ap is_zero (sym hu) ∙ zu;
        right = rw e (ap (λ (k : ℕ). is_zero (bool_at w k)) (sym (hy ∙ ap (index max_bools) hj)) ∙ ap is_zero (sym hv) ∙ zv);
      }

  -- k: the statement's first word
  pub known_ends : (at k : ℕ) → k ≡ word (read_part w) at → (q : ℕ) → k ≡ 1 → KnownTie w (at + 1) → q ≡ min (at + 6) folded_end → StmtEnds w at q
  known_ends at k hk q z t i (Rule e) h = let x = part_length w size in omega (arith, x, known_end w (at + 1) 0 t, rule_stop w at e h)
  known_ends at k hk q z t i (Table es rows) h = not_here w at k hk (Table es rows) (λ x. omega (arith, z, x)) h
  known_ends at k hk q z t i (AllDifferent es) h = not_here w at k hk (AllDifferent es) (λ x. omega (arith, z, x)) h
