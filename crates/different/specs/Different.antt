-- AllDifferent as the rules that it stands for: a Ne rule for every pair, and a rule for each value where the values are used up.
use Rattle.std.specs.Prelude.{Bool, false, ◌&&◌, cond, List, [], ◌∷◌, ◌++◌, map, ℕ, ℤ, pos, length}
use Rattle.laws.specs.Ints.{eqZ}
use Rattle.laws.specs.Same.{same_words}
use Rattle.laws.specs.Lists.{all}
use Rattle.syntax.specs.Syntax.{Domain, enumerate, num_candidates, domain_of, Eq, Ne, IntExpr, IConst, IVar, Linear, If, BoolExpr, Or, Cmp, Members, mnil, more}
use Rattle.clauses.specs.Log.{Log}
use Rattle.clauses.specs.Split.{normalize_and_register_expr}

-- ---- its pairs, in the Rust's order: the first with each later one, then the second, and so on

unfoldable pub pair_rules : List IntExpr → List BoolExpr
pair_rules [] = []
pair_rules (e ∷ es) = map (Cmp Ne e) es ++ pair_rules es

-- ---- a value that one of them must have

abbrev pub each_equals : ℤ → List IntExpr → Members
each_equals x [] = mnil
each_equals x (e ∷ es) = more (Cmp Eq e (IConst x)) (each_equals x es)

abbrev pub value_rule : List IntExpr → ℤ → BoolExpr
value_rule es x = Or (each_equals x es)

module _ (ds : List Domain) where
  -- a variable whose domain has n values, those of d, however they are written
  abbrev pub is_like : ℕ → Domain → IntExpr → Bool
  is_like n d (IConst c) = false
  is_like n d (IVar v) = eqZ (num_candidates (domain_of ds v)) (pos n) && same_words (enumerate (domain_of ds v)) (enumerate d)
  is_like n d (Linear ts) = false
  is_like n d (If i c t f) = false

  -- the values of the first, if all n of them are variables like it
  unfoldable pub values_of_first : ℕ → List IntExpr → List ℤ
  values_of_first n [] = []
  values_of_first n (IConst c ∷ es) = []
  values_of_first n (IVar v ∷ es) = cond (all (is_like n (domain_of ds v)) (IVar v ∷ es)) (enumerate (domain_of ds v)) []
  values_of_first n (Linear ts ∷ es) = []
  values_of_first n (If i c t f ∷ es) = []

  -- all are variables with equal domains of exactly that count: its values. (One variable alone with one value is folded to a constant.)
  unfoldable pub values_used_up : List IntExpr → List ℤ
  values_used_up [] = []
  values_used_up (e ∷ []) = []
  values_used_up (e ∷ f ∷ es) = values_of_first (length (e ∷ f ∷ es)) (e ∷ f ∷ es)

  unfoldable pub different_rules : List IntExpr → List BoolExpr
  different_rules es = pair_rules es ++ map (value_rule es) (values_used_up es)

-- ---- rules one after another

unfoldable pub normalize_rules : List Domain → List BoolExpr → Log → Log
normalize_rules ds [] s = s
normalize_rules ds (e ∷ es) s = normalize_rules ds es (normalize_and_register_expr ds e s)
