-- The clauses of an Or, from the clauses of its members (normalize_disjunction).
use Rattle.std.specs.Prelude.{true, false, List, [], ◌∷◌, ◌++◌, map}
use Rattle.clauses.specs.Clause.{BoolLit, LinearLit, Clause, lit, clause}
use Rattle.clauses.specs.Log.{Log, bool, next_bool, aux}

-- l at the end of each clause
abbrev pub add_bool : BoolLit → Clause → Clause
add_bool l (clause ls ks) = clause (ls ++ (l ∷ [])) ks

abbrev pub add_bool_each : BoolLit → List Clause → List Clause
add_bool_each l cs = map (add_bool l) cs

-- the members sorted: satisfied if one has no clause; else the pool and the longer members
pub data Sorted : Type 0 where
  satisfied : Sorted
  pool : List BoolLit → List LinearLit → List (List Clause) → Sorted

abbrev pub pooled : Clause → Sorted → Sorted
pooled c satisfied = satisfied
pooled (clause ls ks) (pool ms js longer) = pool (ls ++ ms) (ks ++ js) longer

abbrev pub with_longer : List Clause → Sorted → Sorted
with_longer cs satisfied = satisfied
with_longer cs (pool ls ks longer) = pool ls ks (cs ∷ longer)

unfoldable pub sorted : List (List Clause) → Sorted
sorted [] = pool [] [] []
sorted ([] ∷ css) = satisfied
sorted ((c ∷ []) ∷ css) = pooled c (sorted css)
sorted ((c ∷ d ∷ cs) ∷ css) = with_longer (c ∷ d ∷ cs) (sorted css)

abbrev pub Out : Type 0
Out = (List Clause) × Log

abbrev pub Outs : Type 0
Outs = (List (List Clause)) × Log

-- a new variable for each longer member, negated in its clauses, plain in the pool, which comes last
unfoldable pub each_longer : List (List Clause) → List BoolLit → List LinearLit → Log → Out
each_longer [] ls ks s = (clause ls ks ∷ [], s)
each_longer (cs ∷ css) ls ks s =
    let v = next_bool s in
    let r = each_longer css (ls ++ (lit v false ∷ [])) ks (bool (aux cs) ∷ s) in
    (add_bool_each (lit v true) cs ++ r.0, r.1)

unfoldable pub finish_disjunction : List (List Clause) → List BoolLit → List LinearLit → Log → Out
-- one longer member, at most one literal and no comparison
finish_disjunction (a ∷ []) [] [] s = (a, s)
finish_disjunction (a ∷ []) (l ∷ []) [] s = (add_bool_each l a, s)
-- two longer members and an empty pool
finish_disjunction (a ∷ b ∷ []) [] [] s = (add_bool_each (lit (next_bool s) true) a ++ add_bool_each (lit (next_bool s) false) b, bool (aux a) ∷ s)
-- else
finish_disjunction [] ls ks s = each_longer [] ls ks s
finish_disjunction (a ∷ []) (l ∷ m ∷ ls) [] s = each_longer (a ∷ []) (l ∷ m ∷ ls) [] s
finish_disjunction (a ∷ []) ls (k ∷ ks) s = each_longer (a ∷ []) ls (k ∷ ks) s
finish_disjunction (a ∷ b ∷ []) [] (k ∷ ks) s = each_longer (a ∷ b ∷ []) [] (k ∷ ks) s
finish_disjunction (a ∷ b ∷ []) (l ∷ ls) ks s = each_longer (a ∷ b ∷ []) (l ∷ ls) ks s
finish_disjunction (a ∷ b ∷ c ∷ css) ls ks s = each_longer (a ∷ b ∷ c ∷ css) ls ks s

unfoldable pub finish_sorted : Sorted → Log → Out
finish_sorted satisfied s = ([], s)
finish_sorted (pool ls ks longer) s = finish_disjunction longer ls ks s

unfoldable pub normalize_disjunction : List (List Clause) → Log → Out
normalize_disjunction [] s = (clause [] [] ∷ [], s)
normalize_disjunction (cs ∷ []) s = (cs, s)
normalize_disjunction (cs ∷ ds ∷ css) s = finish_sorted (sorted (cs ∷ ds ∷ css)) s
