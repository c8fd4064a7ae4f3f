use mathlib.Core.Path.{◌≡◌}
use mathlib.Core.List.{List}
use Prim.Native.Nat.{ℕ}
use lib.IntN.{ℤ}
use lib.ListN.{length, drop}
use Rattle.sums.specs.Rising.{Each}
use Rattle.sums.specs.Struct.{terms}
use Rattle.walks.specs.Totals.{Word}
use Rattle.laws.specs.Writes.{Wrote, Open}
use Rattle.output.proofs.Laws.{terms_words}
use Rattle.output.proofs.put_terms.Given as goal

abbrev pub invariant-loop-i : goal.invariant-loop-i
invariant-loop-i l = Open l.out l.p × (length l.out ≡ length l.initial.out) × Each Word (drop l.i (terms l.s)) × ((c : List ℤ) (q : ℕ) → Wrote l.out l.p (terms_words (drop l.i (terms l.s))) c q → Wrote l.initial.out l.o (terms_words (terms l.s)) c q)
