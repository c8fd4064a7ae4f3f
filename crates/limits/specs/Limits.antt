-- Refusals 9, 10 and 11 of a set that was read, each over the whole set before the next.
use Rattle.std.specs.Prelude.{Bool, false, ◌||◌, cond, List, [], ◌∷◌, ◌++◌, ℕ, suc, ◌+◌, ◌*◌, max, ℤ, pos, nat_abs, ◌+ℤ◌, ◌-ℤ◌, ltb}
use Rattle.laws.specs.Ints.{times_low, times_high, lower, higher}
use Rattle.laws.specs.Lists.{any, different}
use Rattle.syntax.specs.Words.{max_weight, max_comparison_vars, max_column_vars, max_span}
use Rattle.syntax.specs.Syntax.{Domain, Range, Enumerative, lower_bound, upper_bound, domain_of, IntExpr, IConst, IVar, Linear, If, Terms, tnil, tmore, BoolExpr, Const, Var, NVar, And, Or, Not, Xor, Iff, Imp, Cmp, Members, mnil, more, Stmt, Rule, Table, AllDifferent, Problem}

-- a test of every comparison and of every branch of an If, wherever they stand, conditions included
module _ (onCmp : IntExpr → IntExpr → Bool) (onBranch : IntExpr → Bool) where
  unfoldable mutual
    pub any_comparison : BoolExpr → Bool
    any_comparison (Const b) = false
    any_comparison (Var v) = false
    any_comparison (NVar n) = false
    any_comparison (And ms) = any_comparison_members ms
    any_comparison (Or ms) = any_comparison_members ms
    any_comparison (Not e) = any_comparison e
    any_comparison (Xor a b) = any_comparison a || any_comparison b
    any_comparison (Iff a b) = any_comparison a || any_comparison b
    any_comparison (Imp a b) = any_comparison a || any_comparison b
    any_comparison (Cmp o a b) = onCmp a b || (any_inside a || any_inside b)

    pub any_comparison_members : Members → Bool
    any_comparison_members mnil = false
    any_comparison_members (more e ms) = any_comparison e || any_comparison_members ms

    -- what stands inside an integer expression
    pub any_inside : IntExpr → Bool
    any_inside (IConst c) = false
    any_inside (IVar v) = false
    any_inside (Linear ts) = any_inside_terms ts
    any_inside (If i c t f) = any_comparison c || ((onBranch t || any_inside t) || (onBranch f || any_inside f))

    pub any_inside_terms : Terms → Bool
    any_inside_terms tnil = false
    any_inside_terms (tmore k e ts) = any_inside e || any_inside_terms ts

-- a test of each pair: the first with each later one, then the second, and so on
unfoldable pub any_pair : (IntExpr → IntExpr → Bool) → List IntExpr → Bool
any_pair f [] = false
any_pair f (e ∷ es) = any (f e) es || any_pair f es

-- and of every column, and of an AllDifferent's expressions one by one; its pairs are comparisons
module _ (onCmp : IntExpr → IntExpr → Bool) (onBranch onColumn onOne : IntExpr → Bool) where
  unfoldable pub any_part : Stmt → Bool
  any_part (Rule e) = any_comparison onCmp onBranch e
  any_part (Table es rows) = any (λ e. onColumn e || any_inside onCmp onBranch e) es
  any_part (AllDifferent es) = any (λ e. onOne e || any_inside onCmp onBranch e) es || any_pair onCmp es

-- ---- 9: weights

abbrev pub largest : List ℤ → ℕ
largest [] = 0
largest (x ∷ xs) = max (nat_abs x) (largest xs)

abbrev pub domain_weight : Domain → ℕ
domain_weight (Range low high) = max 1 (max (nat_abs low) (nat_abs high))
domain_weight (Enumerative xs) = max 1 (largest xs)

module _ (ds : List Domain) where
  unfoldable mutual
    pub weight : IntExpr → ℕ
    weight (IConst c) = nat_abs c
    weight (IVar v) = domain_weight (domain_of ds v)
    weight (Linear ts) = terms_weight ts
    weight (If i c t f) = max 1 (max (weight t) (weight f))

    pub terms_weight : Terms → ℕ
    terms_weight tnil = 0
    terms_weight (tmore k e ts) = nat_abs k * weight e + terms_weight ts

  -- an expression or a part of it weighs too much
  unfoldable mutual
    pub heavy : IntExpr → Bool
    heavy (IConst c) = ltb max_weight (weight (IConst c))
    heavy (IVar v) = ltb max_weight (weight (IVar v))
    heavy (Linear ts) = ltb max_weight (weight (Linear ts)) || heavy_terms ts
    heavy (If i c t f) = ltb max_weight (weight (If i c t f)) || (heavy t || heavy f)

    pub heavy_terms : Terms → Bool
    heavy_terms tnil = false
    heavy_terms (tmore k e ts) = heavy e || heavy_terms ts

  unfoldable pub heavy_comparison : IntExpr → IntExpr → Bool
  heavy_comparison a b = heavy a || (heavy b || ltb max_weight (weight a + weight b))

-- ---- 10: variables written, and Ifs, each of which becomes one; conditions do not count

unfoldable mutual
  pub written : IntExpr → List ℕ
  written (IConst c) = []
  written (IVar v) = v ∷ []
  written (Linear ts) = written_terms ts
  written (If i c t f) = written t ++ written f

  pub written_terms : Terms → List ℕ
  written_terms tnil = []
  written_terms (tmore k e ts) = written e ++ written_terms ts

unfoldable mutual
  pub ifs : IntExpr → ℕ
  ifs (IConst c) = 0
  ifs (IVar v) = 0
  ifs (Linear ts) = ifs_terms ts
  ifs (If i c t f) = suc (ifs t + ifs f)

  pub ifs_terms : Terms → ℕ
  ifs_terms tnil = 0
  ifs_terms (tmore k e ts) = ifs e + ifs_terms ts

unfoldable pub many_comparison : IntExpr → IntExpr → Bool
many_comparison a b = ltb max_comparison_vars (different (written a ++ written b) + (ifs a + ifs b))

-- a column, or a branch of an If
unfoldable pub many_column : IntExpr → Bool
many_column e = ltb max_column_vars (different (written e) + ifs e)

-- ---- 11: spans, by interval arithmetic

module _ (ds : List Domain) where
  -- lowest and highest value
  unfoldable mutual
    pub interval : IntExpr → ℤ × ℤ
    interval (IConst c) = (c, c)
    interval (IVar v) = (lower_bound (domain_of ds v), upper_bound (domain_of ds v))
    interval (Linear ts) = terms_interval ts
    interval (If i c t f) = (lower (interval t).0 (interval f).0, higher (interval t).1 (interval f).1)

    pub terms_interval : Terms → ℤ × ℤ
    terms_interval tnil = (pos 0, pos 0)
    terms_interval (tmore k e ts) = (
      times_low k (interval e).0 (interval e).1 +ℤ (terms_interval ts).0,
      times_high k (interval e).0 (interval e).1 +ℤ (terms_interval ts).1,
    )

  unfoldable pub span : IntExpr → ℕ
  span e = suc (nat_abs ((interval e).1 -ℤ (interval e).0))

  unfoldable pub wide_column : IntExpr → Bool
  wide_column e = ltb max_span (span e)

-- ---- of a statement. A branch weighs with its If; of an AllDifferent's expression by itself only 9 is asked

abbrev pub heavy_stmt : List Domain → Stmt → Bool
heavy_stmt ds = any_part (heavy_comparison ds) (λ e. false) (heavy ds) (heavy ds)

abbrev pub many_stmt : Stmt → Bool
many_stmt = any_part many_comparison many_column many_column (λ e. false)

abbrev pub wide_stmt : List Domain → Stmt → Bool
wide_stmt ds = any_part (λ a b. false) (λ e. false) (wide_column ds) (λ e. false)

-- ---- the refusal, or 0

unfoldable pub check : Problem → ℕ
check p =
    cond (any (heavy_stmt p.domains) p.stmts) 9
    (cond (any many_stmt p.stmts) 10
    (cond (any (wide_stmt p.domains) p.stmts) 11 0))
