-- The state of the normaliser: a log of the emitted numbers, each with what it was made for, and of the clauses added, the newest first.
-- The counters, the maps (NormalizeMap) and the answer's clauses are read off the log.
use Rattle.std.specs.Prelude.{Bool, false, cond, List, [], ◌∷◌, ◌++◌, map, ℕ, suc, eqb, ℤ}
use Rattle.std.proofs.Math.Option.{Option, none, some}
use Rattle.laws.specs.Same.{same_words}
use Rattle.syntax.specs.Syntax.{IfIsRead, Domain, Range, domain_of, IntExpr, BoolExpr, encode_int}
use Rattle.sums.specs.LinearSum.{LinearSum}
use Rattle.clauses.specs.Clause.{negate_if, BoolLit, lit, Clause}

pub data MadeBool : Type 0 where
  -- a declared variable, a member of a disjunction, a side of an Xor or Iff or a condition
  declared : ℕ → MadeBool
  aux : List Clause → MadeBool
  side : BoolExpr → MadeBool

pub data MadeInt : Type 0 where
  -- a declared variable; a column, equal to a sum; an If, equal to one of two sums; a value that follows a literal: where it is false, where it is true
  declared_int : ℕ → MadeInt
  column : LinearSum → Domain → MadeInt
  chosen : IfIsRead → IntExpr → LinearSum → LinearSum → Domain → MadeInt
  binary : IfIsRead → BoolLit → ℤ → ℤ → MadeInt

-- a Boolean gets the next number; merging: a declared variable has another's literal, negated if so; an integer gets the next number;
-- clauses are a statement's (added), or give an If's number its value (defined); an If is known by its number from here on
pub data Made : Type 0 where
  bool : MadeBool → Made
  merged : ℕ → ℕ → Bool → Made
  int : MadeInt → Made
  added : List Clause → Made
  defined : List Clause → Made
  known : IntExpr → ℕ → Made

abbrev pub Log : Type 0
Log = List Made

-- ---- counters

abbrev pub next_bool : Log → ℕ
next_bool [] = 0
next_bool (bool m ∷ s) = suc (next_bool s)
next_bool (merged v w g ∷ s) = next_bool s
next_bool (int m ∷ s) = next_bool s
next_bool (added cs ∷ s) = next_bool s
next_bool (defined cs ∷ s) = next_bool s
next_bool (known e v ∷ s) = next_bool s

abbrev pub next_int : Log → ℕ
next_int [] = 0
next_int (bool m ∷ s) = next_int s
next_int (merged v w g ∷ s) = next_int s
next_int (int m ∷ s) = suc (next_int s)
next_int (added cs ∷ s) = next_int s
next_int (defined cs ∷ s) = next_int s
next_int (known e v ∷ s) = next_int s

-- ---- maps

abbrev pub is_declared : ℕ → MadeBool → Bool
is_declared v (declared w) = eqb v w
is_declared v (aux cs) = false
is_declared v (side e) = false

abbrev pub is_declared_int : ℕ → MadeInt → Bool
is_declared_int v (declared_int w) = eqb v w
is_declared_int v (column l d) = false
is_declared_int v (chosen i e p q d) = false
is_declared_int v (binary i l a b) = false

abbrev pub number_of : BoolLit → ℕ
number_of (lit n g) = n

abbrev pub negate_lit : Bool → BoolLit → BoolLit
negate_lit g (lit n h) = lit n (negate_if g h)

abbrev pub negate_found : Bool → Option BoolLit → Option BoolLit
negate_found g none = none
negate_found g (some l) = some (negate_lit g l)

-- the literal of a declared variable: plain but for a negated tie
unfoldable pub get_bool_var : ℕ → Log → Option BoolLit
get_bool_var v [] = none
get_bool_var v (bool m ∷ s) = cond (is_declared v m) (some (lit (next_bool s) false)) (get_bool_var v s)
get_bool_var v (merged w u g ∷ s) = cond (eqb v w) (negate_found g (get_bool_var u s)) (get_bool_var v s)
get_bool_var v (int m ∷ s) = get_bool_var v s
get_bool_var v (added cs ∷ s) = get_bool_var v s
get_bool_var v (defined cs ∷ s) = get_bool_var v s
get_bool_var v (known e n ∷ s) = get_bool_var v s

unfoldable pub get_int_var : ℕ → Log → Option ℕ
get_int_var v [] = none
get_int_var v (bool m ∷ s) = get_int_var v s
get_int_var v (merged w u g ∷ s) = get_int_var v s
get_int_var v (int m ∷ s) = cond (is_declared_int v m) (some (next_int s)) (get_int_var v s)
get_int_var v (added cs ∷ s) = get_int_var v s
get_int_var v (defined cs ∷ s) = get_int_var v s
get_int_var v (known e n ∷ s) = get_int_var v s

-- int_expr_equivalence: equal expressions have equal words
unfoldable pub get_if : IntExpr → Log → Option ℕ
get_if e [] = none
get_if e (bool m ∷ s) = get_if e s
get_if e (merged v w g ∷ s) = get_if e s
get_if e (int m ∷ s) = get_if e s
get_if e (added cs ∷ s) = get_if e s
get_if e (defined cs ∷ s) = get_if e s
get_if e (known f n ∷ s) = cond (same_words (encode_int e) (encode_int f)) (some n) (get_if e s)

abbrev pub bool_var_at : Option BoolLit → ℕ → Log → BoolLit × Log
bool_var_at (some l) v s = (l, s)
bool_var_at none v s = (lit (next_bool s) false, bool (declared v) ∷ s)

unfoldable pub convert_bool_var : ℕ → Log → BoolLit × Log
convert_bool_var v s = bool_var_at (get_bool_var v s) v s

abbrev pub int_var_at : Option ℕ → ℕ → Log → ℕ × Log
int_var_at (some n) v s = (n, s)
int_var_at none v s = (next_int s, int (declared_int v) ∷ s)

unfoldable pub convert_int_var : ℕ → Log → ℕ × Log
convert_int_var v s = int_var_at (get_int_var v s) v s

-- ---- the emitted integers by rising number; ds: the declared domains

unfoldable pub made_ints : Log → List MadeInt
made_ints [] = []
made_ints (bool m ∷ s) = made_ints s
made_ints (merged v w g ∷ s) = made_ints s
made_ints (int m ∷ s) = made_ints s ++ (m ∷ [])
made_ints (added cs ∷ s) = made_ints s
made_ints (defined cs ∷ s) = made_ints s
made_ints (known e v ∷ s) = made_ints s

-- the domain of one; a binary one's lies between its two values
abbrev pub domain_made : List Domain → MadeInt → Domain
domain_made ds (declared_int v) = domain_of ds v
domain_made ds (column l d) = d
domain_made ds (chosen i e p q d) = d
domain_made ds (binary i l a b) = Range a b

-- their domains
unfoldable pub emitted_domains : List Domain → Log → List Domain
emitted_domains ds s = map (domain_made ds) (made_ints s)

-- ---- the clauses, the oldest first

unfoldable pub clauses_of : Log → List Clause
clauses_of [] = []
clauses_of (bool m ∷ s) = clauses_of s
clauses_of (merged v w g ∷ s) = clauses_of s
clauses_of (int m ∷ s) = clauses_of s
clauses_of (added cs ∷ s) = clauses_of s ++ cs
clauses_of (defined cs ∷ s) = clauses_of s ++ cs
clauses_of (known e v ∷ s) = clauses_of s
