-- One pair: what the calls ask, and the words of its clause. Assumes nothing.
use mathlib.Core.Path.{◌≡◌, refl, sym, ap, ◌∙◌, subst}
use mathlib.Core.Bool.{true}
use mathlib.Core.List.{List, [], ◌∷◌}
use Prim.Native.Nat.{ℕ, ◌+◌, ◌≤◌, ◌<◌, ◌^◌}
use native.Mathlib.Omega.{arith}
use lib.IntN.{ℤ, pos, negsuc, nat_abs}
use lib.ListN.{length}
use Rattle.laws.specs.Writes.{cap, Wrote, wrote_length, wrote_then, wrote_to}
use Rattle.memory.specs.Places.{limit}
use Rattle.syntax.specs.Syntax.{Domain, Ne}
use Rattle.sums.specs.LinearSum.{LinearSum, sub_sum}
use Rattle.sums.specs.Rising.{Each}
use Rattle.sums.specs.Bounds.{size}
use Rattle.sums.specs.Struct.{terms, sum_of}
use Rattle.sums.proofs.Laws.{stands_sum}
use Rattle.clauses.specs.Clause.{linear}
use Rattle.answer.specs.Answer.{linear_words}
use Rattle.walk.specs.Decode.{word, read_part}
use Rattle.walk.specs.declared.Counters.{Counters}
use Rattle.walks.specs.Tree.{here}
use Rattle.walks.specs.Totals.{Word, Adds, total_of, behind_of}
use Rattle.scan.specs.Skip.{split_by}
use Rattle.scan.specs.IfLaws.{Low}
use Rattle.totals.specs.declared.Nested.{Nested}
use Rattle.totals.specs.Linear.{Stepping, Linear, second, Subtracts, Less}
use Rattle.differing.proofs.Leaves.{leaf_size}
use Rattle.differing.specs.Pair.{leaf_code, leaf_sum, IsLeaf, left_read, right_read, sides_sum, pair_words_are, Pair, Compared, Paired}

module _ (w : List ℤ) (n : Counters) (a b : ℕ) (h : Pair w n a b) where
  -- ---- by the sums

  pub first_asks : (n.bools ≤ limit) × (Low n × Stepping w 64 (split_by 2) a n.bools n)
  unfolding split_by
  first_asks = (h.low.0, (h.low, record { domains = h.fits.domains; steps = h.fits.fits.left }))

  module _ (x : Nested) (o : Linear w 64 (split_by 2) a n.bools n x) where
    right_is : (ds : List Domain) → total_of ds w (second w 64 here b x) x.behind.n ≡ total_of ds w (right_read w n a b).tree (behind_of ds w (left_read w n a b).tree n)
    unfolding split_by
    right_is ds = rw (o.behind.skips.next, o.behind.behind ds) refl

    pub second_asks : Subtracts w 64 (split_by 2) b x
    unfolding split_by
    second_asks =
        let d = h.fits.domains in
        record {
          room = (o.sum d).room;
          low = o.behind.skips.low;
          low_counters = o.behind.low;
          domains = d;
          steps = rw (o.behind.skips.next, o.behind.behind d) h.fits.fits.right;
          minus = rw (right_is d) (subst (λ (l : LinearSum). Adds l (negsuc 0) (total_of d w (right_read w n a b).tree (behind_of d w (left_read w n a b).tree n))) (sym (stands_sum x.sum _ (o.sum d))) h.fits.fits.minus);
          words = o.words;
        }

    module _ (y : Nested) (f : Less w 64 (split_by 2) b x y) where
      pub linear_asks : (y.sum.count ≤ 64) × Each Word (terms y.sum)
      linear_asks = ((f.sum h.fits.domains).room, f.words)

      sum_is : (ds : List Domain) → sum_of y.sum ≡ sides_sum w n a b ds
      unfolding split_by
      sum_is ds = stands_sum y.sum _ (f.sum ds) ∙ ap (λ (l : LinearSum). sub_sum l (total_of ds w (second w 64 here b x) x.behind.n)) (stands_sum x.sum _ (o.sum ds)) ∙ ap (sub_sum (total_of ds w (left_read w n a b).tree n)) (right_is ds)

      pub sums_wrote : {out out' : List ℤ} {o o' : ℕ} → Wrote out o (linear_words (linear Ne (sum_of y.sum))) out' o' → Compared w n a b out o out' o'
      sums_wrote r = record { wrote = λ ds. wrote_to (ap (λ (l : LinearSum). linear_words (linear Ne l)) (sum_is ds)) r }

  -- ---- by constants and variables

  module _ {j m : ℕ} {x y : ℤ} (ca : leaf_code (word (read_part w) a) ≡ true) (cb : leaf_code (word (read_part w) b) ≡ true) (la : IsLeaf w a j x) (lb : IsLeaf w b m y) where
    left_leaf : (ds : List Domain) → total_of ds w (left_read w n a b).tree n ≡ leaf_sum j x
    left_leaf ds = la.sum ca ds here n.bools n

    right_leaf : (ds : List Domain) → total_of ds w (right_read w n a b).tree (behind_of ds w (left_read w n a b).tree n) ≡ leaf_sum m y
    right_leaf ds = lb.sum cb ds here (left_read w n a b).next (behind_of ds w (left_read w n a b).tree n)

    pub leaves_light : nat_abs x + nat_abs y < 2 ^ 31
    leaves_light =
        let d = h.fits.domains in
        omega (arith, leaf_size j x, leaf_size m y, ap size (left_leaf d), ap size (right_leaf d), h.fits.fits.minus.light)

    pub leaves_compared : {out out' : List ℤ} {o o' : ℕ} → Wrote out o (linear_words (linear Ne (sub_sum (leaf_sum j x) (leaf_sum m y)))) out' o' → Compared w n a b out o out' o'
    leaves_compared r = record {
      wrote = λ ds. wrote_to (ap (λ (l : LinearSum). linear_words (linear Ne (sub_sum l (leaf_sum m y)))) (sym (left_leaf ds)) ∙ ap (λ (l : LinearSum). linear_words (linear Ne (sub_sum (total_of ds w (left_read w n a b).tree n) l))) (sym (right_leaf ds))) r;
    }

-- ---- the clause

pub pair_wrote : {w : List ℤ} {n : Counters} {out u v out' : List ℤ} {a b o p q o' : ℕ} → length out ≤ cap → Wrote out o (pos 0 ∷ []) u p → Wrote u p (pos 1 ∷ []) v q → Compared w n a b v q out' o' → Paired w n a b out o out' o'
pair_wrote {w} {n} {a = a} {b = b} l x y z = record {
  wrote = λ ds. wrote_to (sym (pair_words_are w n a b ds)) (wrote_then l x (wrote_then (omega (arith, wrote_length x)) y (z.wrote ds)));
}
