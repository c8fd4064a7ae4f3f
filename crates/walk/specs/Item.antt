-- Words, counters and tallies of the two walks. The maps are words of the work slice, where a number stands as number plus 1 and 0 says that there is none;
-- counters stop at a limit, and the numbers of a set are far below.
use Rattle.std.specs.Prelude.{Bool, true, false, cond, List, [], ◌∷◌, ◌++◌, ℕ, zero, suc, ◌+◌, ◌-◌, min, ℤ, pos, neg_ℤ, nat_abs, length, get_or, set, leb}
use Rattle.laws.specs.Ints.{is_zero}
use Rattle.memory.specs.Places.{bool_map, int_map, limit}
use Rattle.memory.specs.Number.{nat}
use Rattle.walk.specs.declared.Mode.{Mode}
use Rattle.walk.specs.declared.Mode.TheVariants.{Pool, One, Two, Each}

abbrev pub bump : ℕ → ℕ → ℕ
bump n k = min (n + k) limit

abbrev pub is_none : ℕ → Bool
is_none zero = true
is_none (suc n) = false

-- ---- the maps hold number plus 1, or 0

-- a Boolean's word is negative where it is tied to the negation of a number
unfoldable pub bool_at : List ℤ → ℕ → ℤ
bool_at w v = get_or w (bool_map + v) (pos 0)

unfoldable pub bool_entry : List ℤ → ℕ → ℕ
bool_entry w v = nat (get_or w (bool_map + v) (pos 0))

unfoldable pub int_entry : List ℤ → ℕ → ℕ
int_entry w v = nat (get_or w (int_map + v) (pos 0))

-- the number of a declared integer
abbrev pub int_number : List ℤ → ℕ → ℕ
int_number w v = int_entry w v - 1

-- the work slice, and the next Boolean's and the next integer's number
pub record State : Type 0 where
  pub work : List ℤ
  pub bools : ℕ
  pub ints : ℕ

-- convert_bool_var
abbrev pub new_bool : ℕ → State → State
new_bool v s = record { work = set s.work (bool_map + v) (pos (bump s.bools 1)); bools = bump s.bools 1; ints = s.ints }

unfoldable pub meet_bool : ℕ → State → State
meet_bool v s = cond (is_zero (bool_at s.work v)) (new_bool v s) s

-- the word of the literal whose number plus 1 is x
unfoldable pub word_of : ℕ → Bool → ℤ
word_of x g = cond (leb x limit) (cond g (neg_ℤ (pos x)) (pos x)) (pos 0)

-- the literal whose word in the map is z
unfoldable pub signed : ℤ → Bool → ℤ
signed z g = cond (leb (nat_abs z) limit) (cond g (neg_ℤ z) z) (pos 0)

-- the literals' words, the suffix's, the count of the comparisons and their words
unfoldable pub clause_text : List ℤ → List ℤ → ℕ → List ℤ → List ℤ
clause_text ls suf k ks = pos (length ls + length suf) ∷ ls ++ (suf ++ (pos k ∷ ks))

-- ---- tallies

-- of the members of a disjunction: how many are longer, the pool's literals and comparisons, the longer members' clauses
pub record Tally : Type 0 where
  pub longs : ℕ
  pub lits : ℕ
  pub cmps : ℕ
  pub lines : ℕ

abbrev pub tally : ℕ → ℕ → ℕ → ℕ → Tally
tally a b c d = record { longs = a; lits = b; cmps = c; lines = d }

abbrev pub long : ℕ → Tally
long d = tally 1 0 0 d

abbrev pub plus : Tally → Tally → Tally
plus a b = tally (a.longs + b.longs) (a.lits + b.lits) (a.cmps + b.cmps) (bump a.lines b.lines)

abbrev pub mode_in : ℕ → ℕ → ℕ → Mode
mode_in zero l k = Pool
mode_in (suc zero) zero zero = One
mode_in (suc zero) (suc zero) zero = One
mode_in (suc zero) (suc (suc l)) zero = Each
mode_in (suc zero) l (suc k) = Each
mode_in (suc (suc zero)) zero zero = Two
mode_in (suc (suc zero)) zero (suc k) = Each
mode_in (suc (suc zero)) (suc l) k = Each
mode_in (suc (suc (suc x))) l k = Each

abbrev pub mode_of : Tally → Mode
mode_of t = mode_in t.longs t.lits t.cmps

-- its new numbers
abbrev pub fresh_in : Mode → ℕ → ℕ
fresh_in Pool k = 0
fresh_in One k = 0
fresh_in Two k = 1
fresh_in Each k = k

abbrev pub fresh : Tally → ℕ
fresh t = fresh_in (mode_of t) t.longs

-- its clauses
abbrev pub lines_in : Mode → ℕ → ℕ
lines_in Pool l = 1
lines_in One l = l
lines_in Two l = l
lines_in Each l = bump l 1

abbrev pub disj_lines : Tally → ℕ
disj_lines t = lines_in (mode_of t) t.lines

-- a disjunction as a member of another
unfoldable pub closed : Tally → Tally
closed t = cond (is_none t.longs) t (long (disj_lines t))

-- how many clauses a member has
unfoldable pub lines_of : Tally → ℕ
lines_of t = cond (is_none t.longs) 1 t.lines

-- ---- the members of a disjunction

-- what a longer member's clauses get, the k-th, where the block starts at b and the pool's literals are ls
abbrev pub extra : Mode → ℕ → List ℤ → ℕ → List ℤ
extra Pool b ls k = []
extra One b ls k = ls
extra Two b ls k = word_of (b + 1) (is_none k) ∷ []
extra Each b ls k = word_of (b + k + 1) true ∷ []

-- the literals of k numbers from b on
abbrev pub block : ℕ → ℕ → List ℤ
block b zero = []
block b (suc k) = word_of (b + 1) false ∷ block (b + 1) k

-- the pool's clause, of literals ls and c comparisons ks
abbrev pub pool_text : Mode → ℕ → ℕ → List ℤ → ℕ → List ℤ → List ℤ → List ℤ
pool_text Pool b k ls c ks suf = clause_text ls (block b k ++ suf) c ks
pool_text One b k ls c ks suf = []
pool_text Two b k ls c ks suf = []
pool_text Each b k ls c ks suf = clause_text ls (block b k ++ suf) c ks
