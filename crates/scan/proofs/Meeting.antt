-- Laws of the counters behind a declared variable. e: its entry in the map.
use mathlib.Core.Path.{◌≡◌, sym, ◌∙◌}
use mathlib.Core.List.{List}
use Prim.Native.Nat.{ℕ, ◌+◌}
use lib.IntN.{ℤ, pos}
use lib.ListN.{get_or}
use borrow.Author.Tests.{eq-eqb, ne_eqb}
use Rattle.memory.specs.Places.{bool_map, int_map}
use Rattle.memory.specs.Number.{nat}
use Rattle.walk.specs.Item.{bump, bool_entry, int_entry}
use Rattle.walk.specs.declared.Counters.{Counters}
use Rattle.walks.specs.Item.{counters, more_ints, meets_bool, meets_int}

module _ (w : List ℤ) (v : ℕ) (n : Counters) (e : ℕ) where
  pub bool_new : (k : ℕ) → e ≡ nat (get_or w (bool_map + v) (pos 0)) → e ≡ n.bools + 1 → k ≡ bump n.bools 1 → counters k n.ints ≡ meets_bool w v n
  unfolding meets_bool bool_entry
  bool_new k h i j = rw (eq-eqb _ _ (sym h ∙ i), j)

  pub bool_old : e ≡ nat (get_or w (bool_map + v) (pos 0)) → (e ≡ n.bools + 1 → ⊥) → n ≡ meets_bool w v n
  unfolding meets_bool bool_entry
  bool_old h i = rw (ne_eqb _ _ (λ q. i (h ∙ q)))

  pub int_new : (k : Counters) → e ≡ nat (get_or w (int_map + v) (pos 0)) → e ≡ n.ints + 1 → k ≡ more_ints w 1 n → k ≡ meets_int w v n
  unfolding meets_int int_entry
  int_new k h i j = rw (eq-eqb _ _ (sym h ∙ i)) j

  pub int_old : e ≡ nat (get_or w (int_map + v) (pos 0)) → (e ≡ n.ints + 1 → ⊥) → n ≡ meets_int w v n
  unfolding meets_int int_entry
  int_old h i = rw (ne_eqb _ _ (λ q. i (h ∙ q)))
