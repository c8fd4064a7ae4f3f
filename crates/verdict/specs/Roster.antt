-- A finished roster, checked: one value for every declared variable, the Booleans first, as 0 or 1.
-- Every statement is evaluated in full, as written; stopping at the first broken one gives the same (`stops_same`).
-- ---- the assignment that the values are
use Rattle.std.specs.Prelude.{◌≡◌, refl, Bool, true, false, not, ◌&&◌, ◌||◌, cond, List, [], ◌∷◌, map, ℕ, suc, ◌+◌, ℤ, pos, eqb, length, get_or}
use Rattle.laws.specs.Ints.{eqZ, apart}
use Rattle.laws.specs.Bools.{never}
use Rattle.laws.specs.Lists.{all, below}
use Rattle.syntax.specs.Syntax.{Stmt, Problem}
use Rattle.syntax.specs.Satisfies.{Val, IVal, stmt_holds, in_domains, satisfies}
use Rattle.words.specs.Parse.{Parsed, ok, refuse}
use Rattle.limits.specs.Admitted.{admitted}

abbrev pub bool_of : List ℤ → Val
bool_of values v = eqZ (get_or values v (pos 0)) (pos 1)

abbrev pub int_of : ℕ → List ℤ → IVal
int_of bools values v = get_or values (bools + v) (pos 0)

-- ---- 14: another number of values than variables; 15: a value outside its domain

unfoldable pub right_count : Problem → List ℤ → Bool
right_count p values = eqb (length values) (p.bools + length p.domains)

abbrev pub is_bit : ℤ → Bool
is_bit x = eqZ x (pos 0) || eqZ x (pos 1)

unfoldable pub all_inside : Problem → List ℤ → Bool
all_inside p values = all (λ v. is_bit (get_or values v (pos 0))) (below p.bools) && in_domains p (int_of p.bools values)

-- ---- the answer

pub data Verdict : Type 0 where
  satisfied : Verdict
  broken : ℕ → Verdict
  refused : ℕ → Verdict

-- the first that is false, counted from k
unfoldable pub first_false : ℕ → List Bool → Verdict
first_false k [] = satisfied
first_false k (true ∷ bs) = first_false (suc k) bs
first_false k (false ∷ bs) = broken k

-- whether a statement holds of the values
abbrev pub truth : ℕ → List ℤ → Stmt → Bool
truth bools values = stmt_holds (bool_of values) (int_of bools values) (λ n. false)

-- the first broken statement, by its number from 1
unfoldable pub judged : Problem → List ℤ → Verdict
judged p values = first_false 1 (map (truth p.bools values) p.stmts)

unfoldable pub rostered : Problem → List ℤ → Verdict
rostered p values =
    cond (not (right_count p values)) (refused 14)
    (cond (not (all_inside p values)) (refused 15)
    (judged p values))

unfoldable pub when_admitted : Parsed Problem → List ℤ → Verdict
when_admitted (refuse k) values = refused k
when_admitted (ok p r) values = rostered p values

unfoldable pub check_roster : (set values : List ℤ) (work_length : ℕ) → Verdict
check_roster set values work_length = when_admitted (admitted work_length set) values

-- ---- stopping at the first broken statement gives the same

unfoldable pub first_broken : (Stmt → Bool) → ℕ → List Stmt → Verdict
first_broken f k [] = satisfied
first_broken f k (t ∷ ts) = cond (f t) (first_broken f (suc k) ts) (broken k)

-- a roster that does not satisfy breaks some statement
pub record Breaks (v : Verdict) : Type 0 where
  pub number : ℕ
  pub is : v ≡ broken number
