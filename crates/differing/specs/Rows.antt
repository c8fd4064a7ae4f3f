-- The pairs of an AllDifferent, one row after the other, as they are read from the folded words of the work slice w: what writing their clauses asks and
-- gives. n: the counters before them, which no pair without Ifs moves.
use Rattle.std.specs.Prelude.{◌≡◌, List, [], ◌++◌, ℕ, zero, suc, ◌+◌, ◌≤◌, ◌<◌, ℤ, length}
use Rattle.laws.specs.Writes.{cap, Wrote}
use Rattle.memory.specs.Places.{folded_end}
use Rattle.syntax.specs.Syntax.{Domain}
use Rattle.walk.specs.Decode.{read_part}
use Rattle.walk.specs.declared.Counters.{Counters}
use Rattle.walks.specs.Tree.{never}
use Rattle.walks.specs.Decode.{decode_int}
use Rattle.scan.specs.IfLaws.{Low}
use Rattle.rows.specs.Emit.{Behind}
use Rattle.differing.specs.Pair.{pair_words, PairFits}

-- behind c clauses, from o on, the words ws of m clauses. The count is exact where the answer is not too long
pub record Puts (out : List ℤ) (o c : ℕ) (ws : List ℤ) (m : ℕ) (out' : List ℤ) (o' c' : ℕ) : Type 0 where
  pub words : Wrote out o ws out' o'
  pub count : o' < cap → c' ≡ c + m
  pub low : c' ≤ o'

-- behind the expression at p
abbrev pub end_at : List ℤ → ℕ → ℕ
end_at w p = (decode_int (read_part w) 64 never p 0).end

module _ (w : List ℤ) (n : Counters) where
  -- ---- a row: the expression at a with each of so many from q on

  unfoldable pub row_words : List Domain → ℕ → ℕ → ℕ → List ℤ
  row_words ds a q zero = []
  row_words ds a q (suc k) = pair_words w n a q ds ++ row_words ds a (end_at w q) k

  unfoldable pub RowFits : ℕ → ℕ → ℕ → Type 0
  RowFits a q zero = Unit {0}
  RowFits a q (suc k) = PairFits w n a q × RowFits a (end_at w q) k

  pub record Row (a p count : ℕ) : Type 0 where
    pub size : folded_end ≤ length w
    pub low : Low n
    pub first : a ≤ folded_end
    pub place : p ≤ folded_end
    pub fits : RowFits a p count

  pub record PutRow (a p count : ℕ) (out : List ℤ) (o k : ℕ) (out' : List ℤ) (o' k' : ℕ) : Type 0 where
    pub puts : (ds : List Domain) → Puts out o k (row_words ds a p count) count out' o' k'
    pub behind : Behind out' o' k'

  -- ---- all rows of so many expressions from p on

  unfoldable pub pairs_words : List Domain → ℕ → ℕ → List ℤ
  pairs_words ds p zero = []
  pairs_words ds p (suc k) = row_words ds p (end_at w p) k ++ pairs_words ds (end_at w p) k

  unfoldable pub PairsFit : ℕ → ℕ → Type 0
  PairsFit p zero = Unit {0}
  PairsFit p (suc k) = RowFits p (end_at w p) k × PairsFit (end_at w p) k

  pub record Pairs (p count : ℕ) : Type 0 where
    pub size : folded_end ≤ length w
    pub low : Low n
    pub place : p ≤ folded_end
    pub fits : PairsFit p count

-- how many pairs
unfoldable pub pair_count : ℕ → ℕ
pair_count zero = 0
pair_count (suc k) = k + pair_count k

pub record PutPairs (w : List ℤ) (n : Counters) (p count : ℕ) (out : List ℤ) (o k : ℕ) (out' : List ℤ) (o' k' : ℕ) : Type 0 where
  pub puts : (ds : List Domain) → Puts out o k (pairs_words w n ds p count) (pair_count count) out' o' k'
  pub behind : Behind out' o' k'
