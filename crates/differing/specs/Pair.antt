-- One pair of an AllDifferent: the clause that the expressions at two places differ, as they are read from the folded words of the work slice w, whatever
-- those are. n: the counters before the pair.
use Rattle.std.specs.Prelude.{◌≡◌, Bool, true, false, not, ◌||◌, List, [], ◌∷◌, ℕ, zero, suc, ◌≤◌, ℤ, pos, negsuc, length, eqb}
use Rattle.std.proofs.Math.Path.{refl}
use Rattle.laws.specs.Writes.{Wrote}
use Rattle.memory.specs.Places.{folded_end}
use Rattle.syntax.specs.Syntax.{Domain, Ne}
use Rattle.sums.specs.LinearSum.{Term, term, LinearSum, linear_sum, add_terms, mul_terms, sub_sum}
use Rattle.clauses.specs.Clause.{linear}
use Rattle.answer.specs.Answer.{linear_words}
use Rattle.walk.specs.Decode.{word, read_part}
use Rattle.walk.specs.declared.Counters.{Counters}
use Rattle.walk.specs.Item.{clause_text}
use Rattle.walks.specs.Tree.{Splitting, here}
use Rattle.walks.specs.Decode.{IntRead, decode_int}
use Rattle.walks.specs.Item.{form_int_item, comparison, cmp_item}
use Rattle.walks.specs.Totals.{total_of, behind_of, ComparisonFits}
use Rattle.scan.specs.IfLaws.{Low}

-- ---- a constant or a variable

-- an expression of this code is one
abbrev pub leaf_code : ℕ → Bool
leaf_code k = not (eqb k 22 || eqb k 23)

-- a variable's number plus 1, or 0 for none
abbrev unit_terms : ℕ → List Term
unit_terms zero = []
unit_terms (suc v) = term v (pos 1) ∷ []

abbrev pub leaf_sum : ℕ → ℤ → LinearSum
leaf_sum n c = linear_sum c (unit_terms n)

-- the terms of one less the other
unfoldable pub apart_terms : ℕ → ℕ → List Term
apart_terms m n = add_terms (unit_terms m) (mul_terms (negsuc 0) (unit_terms n))

-- what stands at p, if it is one, at any counters
pub record IsLeaf (w : List ℤ) (p m : ℕ) (c : ℤ) : Type 0 where
  pub sum : leaf_code (word (read_part w) p) ≡ true → (ds : List Domain) (s : Splitting) (base : ℕ) (n : Counters) → total_of ds w (decode_int (read_part w) 64 s p base).tree n ≡ leaf_sum m c
  pub small : m ≤ 2147483648

-- ---- the two sides

module _ (w : List ℤ) (n : Counters) (p q : ℕ) where
  abbrev pub left_read : IntRead
  left_read = decode_int (read_part w) 64 here p n.bools

  abbrev pub right_read : IntRead
  right_read = decode_int (read_part w) 64 here q left_read.next

  -- one less the other; ds: the declared domains
  module _ (ds : List Domain) where
    abbrev pub sides_sum : LinearSum
    sides_sum = sub_sum (total_of ds w left_read.tree n) (total_of ds w right_read.tree (behind_of ds w left_read.tree n))

    -- the words of the clause
    unfoldable pub pair_words : List ℤ
    pair_words = (cmp_item Ne (form_int_item ds left_read.tree) (form_int_item ds right_read.tree) false).text w n []

    pub pair_words_are : pair_words ≡ pos 0 ∷ pos 1 ∷ linear_words (linear Ne sides_sum)
    unfolding pair_words cmp_item comparison clause_text
    pair_words_are = refl

  -- every addition has room; the domains decide nothing
  pub record PairFits : Type 0 where
    pub domains : List Domain
    pub fits : ComparisonFits domains w left_read.tree right_read.tree n

  pub record Pair : Type 0 where
    pub size : folded_end ≤ length w
    pub low : Low n
    pub first : p ≤ folded_end
    pub second : q ≤ folded_end
    pub fits : PairFits

  -- the comparison
  pub record Compared (out : List ℤ) (o : ℕ) (out' : List ℤ) (o' : ℕ) : Type 0 where
    pub wrote : (ds : List Domain) → Wrote out o (linear_words (linear Ne (sides_sum ds))) out' o'

  -- the clause
  pub record Paired (out : List ℤ) (o : ℕ) (out' : List ℤ) (o' : ℕ) : Type 0 where
    pub wrote : (ds : List Domain) → Wrote out o (pair_words ds) out' o'
