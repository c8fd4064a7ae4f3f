-- What holds of the definitions of specs/Roster.
use Rattle.std.specs.Prelude.{◌≡◌, refl, Bool, true, false, not, ◌&&◌, ◌||◌, cond, List, [], ◌∷◌, map, ℕ, suc, ◌+◌, ℤ, pos, eqb, length, get_or}
use Rattle.laws.specs.Ints.{eqZ, apart}
use Rattle.laws.specs.Bools.{never}
use Rattle.laws.specs.Lists.{all, below}
use Rattle.syntax.specs.Syntax.{Stmt, Problem}
use Rattle.syntax.specs.Satisfies.{Val, IVal, stmt_holds, in_domains, satisfies}
use Rattle.words.specs.Parse.{Parsed, ok, refuse}
use Rattle.limits.specs.Admitted.{admitted}
use Rattle.verdict.specs.Roster.{Breaks, bool_of, broken, first_broken, first_false, int_of, judged, satisfied, truth}

pub stops_same : (f : Stmt → Bool) (k : ℕ) (ts : List Stmt) → first_broken f k ts ≡ first_false k (map f ts)
unfolding first_broken first_false
stops_same f k [] = refl
stops_same f k (t ∷ ts) = go (f t) (stops_same f (suc k) ts)
  where
    go : (b : Bool) → first_broken f (suc k) ts ≡ first_false (suc k) (map f ts) → cond b (first_broken f (suc k) ts) (broken k) ≡ first_false k (b ∷ map f ts)
    go true h = h
    go false h = refl

-- ---- satisfied: exactly if every statement holds; otherwise some statement is broken

all_satisfied : (f : Stmt → Bool) (k : ℕ) (ts : List Stmt) → all f ts ≡ true → first_false k (map f ts) ≡ satisfied
unfolding first_false
all_satisfied f k [] h = refl
all_satisfied f k (t ∷ ts) h = go (f t) h (all_satisfied f (suc k) ts)
  where
    go : (b : Bool) → b && all f ts ≡ true → (all f ts ≡ true → first_false (suc k) (map f ts) ≡ satisfied) → first_false k (b ∷ map f ts) ≡ satisfied
    go true h r = r h
    go false h r = never h

satisfied_all : (f : Stmt → Bool) (k : ℕ) (ts : List Stmt) → first_false k (map f ts) ≡ satisfied → all f ts ≡ true
unfolding first_false
satisfied_all f k [] h = refl
satisfied_all f k (t ∷ ts) h = go (f t) h (satisfied_all f (suc k) ts)
  where
    go : (b : Bool) → first_false k (b ∷ map f ts) ≡ satisfied → (first_false (suc k) (map f ts) ≡ satisfied → all f ts ≡ true) → b && all f ts ≡ true
    go true h r = r h
    go false h r = apart (cc)

pub judged_satisfied : (p : Problem) (values : List ℤ) → satisfies p (bool_of values) (int_of p.bools values) ≡ true → judged p values ≡ satisfied
unfolding judged satisfies
judged_satisfied p values h = all_satisfied (truth p.bools values) 1 p.stmts h

pub satisfied_judged : (p : Problem) (values : List ℤ) → judged p values ≡ satisfied → satisfies p (bool_of values) (int_of p.bools values) ≡ true
unfolding judged satisfies
satisfied_judged p values h = satisfied_all (truth p.bools values) 1 p.stmts h

some_false : (f : Stmt → Bool) (k : ℕ) (ts : List Stmt) → all f ts ≡ false → Breaks (first_false k (map f ts))
unfolding first_false
some_false f k [] h = apart (cc)
some_false f k (t ∷ ts) h = go (f t) h (some_false f (suc k) ts)
  where
    go : (b : Bool) → b && all f ts ≡ false → (all f ts ≡ false → Breaks (first_false (suc k) (map f ts))) → Breaks (first_false k (b ∷ map f ts))
    go true h r = r h
    go false h r = record { number = k; is = refl }

pub judged_breaks : (p : Problem) (values : List ℤ) → satisfies p (bool_of values) (int_of p.bools values) ≡ false → Breaks (judged p values)
unfolding judged satisfies
judged_breaks p values h = some_false (truth p.bools values) 1 p.stmts h
