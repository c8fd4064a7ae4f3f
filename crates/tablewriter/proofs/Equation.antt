-- The clause that a column's sum is its number: what the calls ask and give. Assumes nothing.
use mathlib.Core.Path.{◌≡◌, sym, ap, ◌∙◌, subst}
use mathlib.Core.Bool.{false}
use mathlib.Core.List.{List, [], ◌∷◌}
use Prim.Native.Nat.{ℕ, ◌+◌, ◌≤◌, ◌<◌, ◌^◌}
use native.Mathlib.Omega.{arith}
use lib.IntN.{ℤ, pos, negsuc}
use lib.ListN.{length}
use Rattle.laws.specs.Writes.{cap, Wrote, wrote_length, wrote_then, wrote_to}
use Rattle.syntax.specs.Syntax.{Domain, Eq, op_at}
use Rattle.sums.specs.LinearSum.{LinearSum, singleton, mul_sum, sub_sum}
use Rattle.sums.specs.Rising.{terms_of, Each}
use Rattle.sums.proofs.RisingLaws.{singleton_each, sub_sum_each}
use Rattle.sums.proofs.NormLaws.{singleton_load}
use Rattle.sums.specs.Bounds.{size, Room}
use Rattle.sums.specs.Struct.{terms, sum_of, Stands}
use Rattle.sums.specs.declared.LinearSum.{LinearSum as Sum}
use Rattle.sums.proofs.Laws.{stands_sum}
use Rattle.clauses.specs.Clause.{linear}
use Rattle.clauses.specs.Normalize.{negate_op_if}
use Rattle.answer.specs.Answer.{linear_words}
use Rattle.walk.specs.Item.{clause_text}
use Rattle.walk.specs.declared.Counters.{Counters}
use Rattle.walks.specs.Totals.{Word}
use Rattle.scan.specs.Skip.{split_by}
use Rattle.totals.specs.Linear.{Stepping, Linear}
use Rattle.totals.specs.declared.Nested.{Nested}
use Rattle.tablewriter.specs.Columns.{form_at, item_at, Fits}

module _ (w : List ℤ) (p : ℕ) (n : Counters) where
  pub stepping : Fits (form_at w p) → Stepping w 64 (split_by 0) p 0 n
  unfolding split_by
  stepping f = record { domains = f.domains; steps = (f.equated w n 0).steps }

  module _ {r : Nested} (x : Linear w 64 (split_by 0) p 0 n r) where
    stands : (ds : List Domain) → Stands r.sum ((item_at ds w p).total w n)
    unfolding split_by
    stands ds = x.sum ds

    pub less_asked : Fits (form_at w p) → (v : ℕ) → (r.sum.count ≤ 64) × Room (terms r.sum) (terms_of (mul_sum (negsuc 0) (singleton v))) × (size (sum_of r.sum) + 1 < 2 ^ 31)
    less_asked f v =
        let s = stands f.domains in
        let m = (f.equated w n v).minus in
        let e : sum_of r.sum ≡ (item_at f.domains w p).total w n = stands_sum r.sum _ s in
        let l : size ((item_at f.domains w p).total w n) + 1 < 2 ^ 31 = omega (arith, m.light, singleton_load (λ u. 1) v) in (
          s.room,
          subst (λ us. Room us (terms_of (mul_sum (negsuc 0) (singleton v)))) (sym s.same) m.room,
          subst (λ (k : LinearSum). size k + 1 < 2 ^ 31) (sym e) l,
        )

    module _ (v : ℕ) {d : Sum} (y : Stands d (sub_sum (sum_of r.sum) (singleton v))) where
      pub linear_asked : v < 2147483648 → (d.count ≤ 64) × Each Word (terms d)
      linear_asked l = (y.room, subst (λ us. Each Word us) (sym y.same) (sub_sum_each Word (sum_of r.sum) (singleton v) x.words (singleton_each Word v l)))

      pub equation_wrote : {out a b out' : List ℤ} {o i j o' : ℕ} → length out ≤ cap → Wrote out o (pos 0 ∷ []) a i → Wrote a i (pos 1 ∷ []) b j → Wrote b j (linear_words (linear (negate_op_if false (op_at 0)) (sum_of d))) out' o'
          → (ds : List Domain) → Wrote out o (clause_text [] [] 1 (linear_words (linear Eq (sub_sum ((item_at ds w p).total w n) (singleton v))))) out' o'
      unfolding clause_text
      equation_wrote {out} {a} room w₁ w₂ w₃ ds =
          let e : sum_of d ≡ sub_sum ((item_at ds w p).total w n) (singleton v) = stands_sum d _ y ∙ ap (λ (l : LinearSum). sub_sum l (singleton v)) (stands_sum r.sum _ (stands ds)) in
          wrote_then room w₁ (wrote_then (omega (arith, wrote_length w₁, room)) w₂ (wrote_to (ap (λ (l : LinearSum). linear_words (linear Eq l)) e) w₃))
