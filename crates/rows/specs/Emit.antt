-- Clauses written to the output, and how many; what the writing of rows assumes.
use Rattle.std.specs.Prelude.{◌≡◌, true, List, [], ◌∷◌, map, ℕ, ◌+◌, ◌*◌, ◌≤◌, ◌<◌, ℤ, pos, neg_ℤ, length, take, drop}
use Rattle.std.specs.Int.Signed.{lt_z}
use Rattle.laws.specs.Lists.{all, flat}
use Rattle.laws.specs.Writes.{cap, Wrote, Open}
use Rattle.syntax.specs.Words.{max_count, star_word}
use Rattle.syntax.specs.Syntax.{Domain, enumerate, domain_of, Cell}
use Rattle.clauses.specs.Clause.{LinearLit, Clause}
use Rattle.answer.specs.Answer.{linear_words, clause_words}
use Rattle.tables.specs.Tables.{Row, cell_value, plain_table}
use Rattle.sorting.specs.Rows.{rows_of}
use Rattle.sorting.specs.Columns.{EachColumn, Columns, size_from, vars_of, domains_of}
use Rattle.rows.specs.Next.{Holds}

-- the words of a comparison of the variable v with x; op: the operator's number
abbrev pub comparison : ℤ → ℕ → ℤ → List ℤ
comparison op v x = op ∷ neg_ℤ x ∷ pos 1 ∷ pos v ∷ pos 1 ∷ []

abbrev pub linears_words : List LinearLit → List ℤ
linears_words ks = flat (map linear_words ks)

abbrev pub clauses_words : List Clause → List ℤ
clauses_words cs = flat (map clause_words cs)

-- from o on, behind c clauses, the clauses cs. The count is exact where the answer is not too long
pub record Clauses (out : List ℤ) (o c : ℕ) (cs : List Clause) (out' : List ℤ) (o' c' : ℕ) : Type 0 where
  pub words : Wrote out o (clauses_words cs) out' o'
  pub count : o' < cap → c' ≡ c + length cs
  pub low : c' ≤ o'

-- no word is the star's
abbrev pub Starless : List ℤ → Type 0
Starless xs = all (lt_z star_word) xs ≡ true

-- t: m rows of n words that agree in p columns, or all rows; cs: the columns' words
pub record Part (t : List ℤ) (n m p : ℕ) (cs : List ℤ) : Type 0 where
  pub few : m ≤ max_count
  pub some : 0 < m
  pub narrow : n ≤ max_count
  pub words : length t ≡ m * n
  pub prefix : p ≤ n
  pub columns : 3 * n ≤ length cs
  pub each : EachColumn n cs
  pub starless : Starless t

-- the domains have the rows' values, and the columns' words say their sizes
pub record Fitted (ds : List Domain) (cs : List ℤ) (n : ℕ) (rows : List Row) : Type 0 where
  pub holds : (i : ℕ) → i < n → Holds (enumerate (domain_of ds i)) i rows
  pub sized : (i : ℕ) → i < n → length (enumerate (domain_of ds i)) ≡ size_from cs (3 * i)

-- the clauses that F gives for whatever domains fit
pub record Emits (out : List ℤ) (o c : ℕ) (F : List Domain → List Clause) (Fit : List Domain → Type 0) (out' : List ℤ) (o' c' : ℕ) : Type 0 where
  pub place : o' ≤ cap
  pub low : c' ≤ o'
  pub clauses : (ds : List Domain) → Fit ds → Clauses out o c (F ds) out' o' c'

-- the first row of a group, and its rows
abbrev pub group_of : ℕ → ℕ → List ℤ → Row × List Row
group_of n m t = (take n t, rows_of n m t)

-- of one column
abbrev pub Fits : List ℤ → ℕ → List Row → List Domain → Type 0
Fits cs i rows ds = Holds (enumerate (domain_of ds i)) i rows × (length (enumerate (domain_of ds i)) ≡ size_from cs (3 * i))

-- a place behind c clauses, not too far
pub record Behind (out : List ℤ) (o c : ℕ) : Type 0 where
  pub room : Open out o
  pub low : c ≤ o

-- m rows at `at`, and the columns' words
pub record Kept (s : List ℤ) (at n m cols : ℕ) : Type 0 where
  pub few : m ≤ max_count
  pub narrow : n ≤ max_count
  pub within : at + m * n ≤ length s
  pub fits : cols + 3 * n ≤ length s
  pub each : EachColumn n (drop cols s)
  pub starless : Starless (take (m * n) (drop at s))

-- a table's rows at `at`, its columns' words above them
pub record Table (work set : List ℤ) (at n k cols : ℕ) : Type 0 where
  pub few : k ≤ max_count
  pub narrow : n ≤ max_count
  pub under : at + k * n ≤ cols
  pub fits : cols + 3 * n ≤ length work
  pub columns : Columns set n (drop cols work)
  pub starless : Starless (take (k * n) (drop at work))

-- the clauses of its rows, and the work slice afterwards: the rows' words are free, all others stay
pub record Tabled (work work' set : List ℤ) (at n k cols : ℕ) (out : List ℤ) (o c : ℕ) (out' : List ℤ) (o' c' : ℕ) : Type 0 where
  pub clauses : (rows : List (List Cell)) → rows_of n k (drop at work) ≡ map (map cell_value) rows
      → Clauses out o c (plain_table (vars_of n (drop cols work)) (domains_of set n (drop cols work)) rows) out' o' c'
  pub place : o' ≤ cap
  pub low : c' ≤ o'
  pub below : take at work' ≡ take at work
  pub above : drop (at + k * n) work' ≡ drop (at + k * n) work
