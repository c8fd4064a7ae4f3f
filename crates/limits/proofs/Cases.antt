-- Refusals 9 to 11 of some sets, computed: what lies at each limit is let through, what passes it is refused.
use Rattle.std.specs.Prelude.{◌≡◌, List, [], ◌∷◌, ℕ, zero, suc, ℤ, pos, negsuc}
use Rattle.std.proofs.Math.Path.{refl}
use Rattle.syntax.specs.Syntax.{Domain, Range, Eq, IfIsRead, IntExpr, IConst, IVar, Linear, If, Terms, tnil, tmore, Var, Cmp, Stmt, Rule, Table, AllDifferent}
use Rattle.limits.specs.Limits.{any_comparison, any_pair, any_part, weight, heavy, heavy_comparison, written, ifs, many_comparison, many_column, interval, span, wide_column, check}

-- ---- notation

-- the sum of n variables from v on; n times the variable 0
abbrev variables : ℕ → ℕ → Terms
variables v zero = tnil
variables v (suc n) = tmore (pos 1) (IVar v) (variables (suc v) n)

abbrev often : ℕ → Terms
often zero = tnil
often (suc n) = tmore (pos 1) (IVar 0) (often n)

-- the refusal of a set with the one integer variable 0 over a domain, or with undeclared ones (which count as 0)
unfoldable pub refusal : List Domain → Stmt → ℕ
unfolding any_comparison any_pair any_part weight heavy heavy_comparison written ifs many_comparison many_column interval span wide_column check
refusal ds s = check (record { bools = 0; domains = ds; stmts = s ∷ [] })

abbrev equal : IntExpr → IntExpr → Stmt
equal a b = Rule (Cmp Eq a b)

abbrev one_column : IntExpr → Stmt
one_column e = Table (e ∷ []) []

-- an expression and one term more; one term
abbrev and_term : ℤ → IntExpr → Terms → IntExpr
and_term k e ts = Linear (tmore k e ts)

abbrev times : ℤ → IntExpr → IntExpr
times k e = and_term k e tnil

abbrev number : ℕ → IntExpr
number n = IConst (pos n)

-- ---- 9: weights

pub largest_constant : refusal [] (equal (IConst (pos 1073741823)) (IConst (pos 0))) ≡ 0
unfolding refusal
largest_constant = refl

-- the two sides are weighed together
pub sides_together : refusal [] (equal (IConst (pos 1073741823)) (IConst (pos 1))) ≡ 9
unfolding refusal
sides_together = refl

-- every term of a sum counts, the last one too
pub last_term : refusal [] (equal (Linear (tmore (pos 1) (IConst (pos 1073741823)) (tmore (pos 1) (IConst (pos 1)) tnil))) (IConst (pos 0))) ≡ 9
unfolding refusal
last_term = refl

-- a part is weighed though its coefficient is 0
pub part_under_zero : refusal [] (equal (Linear (tmore (pos 0) (Linear (tmore (pos 2) (IConst (pos 1073741823)) tnil)) tnil)) (IConst (pos 0))) ≡ 9
unfolding refusal
part_under_zero = refl

-- ---- 10: different variables

pub variables_64 : refusal [] (equal (Linear (variables 0 64)) (IConst (pos 0))) ≡ 0
unfolding refusal
variables_64 = refl

pub variables_65 : refusal [] (equal (Linear (variables 0 64)) (IVar 64)) ≡ 10
unfolding refusal
variables_65 = refl

-- occurrences of one variable are not counted
pub one_variable_65_times : refusal [] (equal (Linear (often 64)) (IVar 0)) ≡ 0
unfolding refusal
one_variable_65_times = refl

pub column_63 : refusal [] (one_column (Linear (variables 0 63))) ≡ 0
unfolding refusal
column_63 = refl

pub column_64 : refusal [] (one_column (Linear (variables 0 64))) ≡ 10
unfolding refusal
column_64 = refl

-- ---- 11: spans

pub span_4096 : refusal (Range (pos 0) (pos 4095) ∷ []) (one_column (IVar 0)) ≡ 0
unfolding refusal
span_4096 = refl

pub span_4097 : refusal (Range (pos 0) (pos 4096) ∷ []) (one_column (IVar 0)) ≡ 11
unfolding refusal
span_4097 = refl

-- ---- an If (a variable as its condition where that does not matter)

module _ (i : IfIsRead) where
  abbrev if : IntExpr → IntExpr → IntExpr
  if t f = If i (Var 0) t f

  -- n equal ones
  abbrev equal_ifs : ℕ → Terms
  equal_ifs zero = tnil
  equal_ifs (suc n) = tmore (pos 1) (if (number 1) (number 2)) (equal_ifs n)

  -- a condition that weighs too much; one that writes 65 variables
  abbrev heavy_condition : IntExpr
  heavy_condition = If i (Cmp Eq (number 1073741823) (number 1)) (number 1) (number 0)

  abbrev crowded_condition : IntExpr
  crowded_condition = If i (Cmp Eq (Linear (variables 0 64)) (IVar 64)) (number 1) (number 0)

  -- it weighs as much as its heavier branch, and at least 1
  pub if_of_zeros : refusal [] (equal (times (pos 1073741823) (if (number 0) (number 0))) (number 0)) ≡ 0
  unfolding refusal
  if_of_zeros = refl

  pub if_at_least_1 : refusal [] (equal (times (pos 1073741823) (if (number 0) (number 0))) (number 1)) ≡ 9
  unfolding refusal
  if_at_least_1 = refl

  pub heavier_branch : refusal [] (equal (times (pos 2) (if (number 5) (number 536870911))) (number 1)) ≡ 0
  unfolding refusal
  heavier_branch = refl

  pub heavy_branch : refusal [] (equal (times (pos 2) (if (number 536870912) (number 5))) (number 0)) ≡ 9
  unfolding refusal
  heavy_branch = refl

  pub branches_not_added : refusal [] (equal (if (number 1073741823) (IConst (negsuc 1073741822))) (number 0)) ≡ 0
  unfolding refusal
  branches_not_added = refl

  pub part_of_a_branch : refusal [] (equal (times (pos 0) (if (times (pos 2) (number 1073741823)) (number 0))) (number 0)) ≡ 9
  unfolding refusal
  part_of_a_branch = refl

  -- comparisons are weighed in conditions too
  pub condition_weighed : refusal [] (equal heavy_condition (number 0)) ≡ 9
  unfolding refusal
  condition_weighed = refl

  pub condition_in_a_branch : refusal [] (equal (if (number 0) heavy_condition) (number 0)) ≡ 9
  unfolding refusal
  condition_in_a_branch = refl

  pub condition_of_a_column : refusal [] (one_column heavy_condition) ≡ 9
  unfolding refusal
  condition_of_a_column = refl

  pub condition_of_one : refusal [] (AllDifferent (heavy_condition ∷ [])) ≡ 9
  unfolding refusal
  condition_of_one = refl

  -- it counts as one variable, equal ones each time
  pub variables_63_and_if : refusal [] (equal (and_term (pos 1) (if (number 1) (number 2)) (variables 0 63)) (number 0)) ≡ 0
  unfolding refusal
  variables_63_and_if = refl

  pub variables_64_and_if : refusal [] (equal (and_term (pos 1) (if (number 1) (number 2)) (variables 0 64)) (number 0)) ≡ 10
  unfolding refusal
  variables_64_and_if = refl

  pub equal_ifs_64 : refusal [] (equal (Linear (equal_ifs 64)) (number 0)) ≡ 0
  unfolding refusal
  equal_ifs_64 = refl

  pub equal_ifs_65 : refusal [] (equal (Linear (equal_ifs 65)) (number 0)) ≡ 10
  unfolding refusal
  equal_ifs_65 = refl

  -- besides the variables of its branches; its condition's do not count, but are held by themselves
  pub branch_outside_too : refusal [] (equal (Linear (variables 0 63)) (if (IVar 62) (number 0))) ≡ 0
  unfolding refusal
  branch_outside_too = refl

  pub branch_of_another : refusal [] (equal (Linear (variables 0 63)) (if (IVar 63) (number 0))) ≡ 10
  unfolding refusal
  branch_of_another = refl

  pub condition_not_counted : refusal [] (equal (Linear (variables 0 63)) (If i (Cmp Eq (Linear (variables 63 5)) (number 0)) (number 1) (number 0))) ≡ 0
  unfolding refusal
  condition_not_counted = refl

  pub condition_of_65 : refusal [] (equal (IVar 0) crowded_condition) ≡ 10
  unfolding refusal
  condition_of_65 = refl

  pub column_condition_of_65 : refusal [] (one_column crowded_condition) ≡ 10
  unfolding refusal
  column_condition_of_65 = refl

  pub column_62_and_if : refusal [] (one_column (if (Linear (variables 0 62)) (number 0))) ≡ 0
  unfolding refusal
  column_62_and_if = refl

  pub column_63_and_if : refusal [] (one_column (if (Linear (variables 0 63)) (number 0))) ≡ 10
  unfolding refusal
  column_63_and_if = refl

  -- a branch is held to 63, also where nothing else is
  pub one_branch_63 : refusal [] (AllDifferent (if (Linear (variables 0 63)) (Linear (variables 63 63)) ∷ [])) ≡ 0
  unfolding refusal
  one_branch_63 = refl

  pub one_branch_64 : refusal [] (AllDifferent (if (number 0) (Linear (variables 0 64)) ∷ [])) ≡ 10
  unfolding refusal
  one_branch_64 = refl

  -- its span runs from the lower to the higher end of both; only a column's root is held
  pub if_span_4096 : refusal [] (one_column (if (number 0) (number 4095))) ≡ 0
  unfolding refusal
  if_span_4096 = refl

  pub if_span_4097 : refusal [] (one_column (if (number 4096) (number 0))) ≡ 11
  unfolding refusal
  if_span_4097 = refl

  pub if_span_two_ranges : refusal (Range (pos 0) (pos 2000) ∷ Range (pos 2100) (pos 4096) ∷ []) (one_column (if (IVar 1) (IVar 0))) ≡ 11
  unfolding refusal
  if_span_two_ranges = refl

  pub span_in_a_condition : refusal (Range (pos 0) (pos 5000) ∷ []) (one_column (If i (Cmp Eq (if (IVar 0) (number 9000)) (number 1)) (number 0) (number 1))) ≡ 0
  unfolding refusal
  span_in_a_condition = refl

  pub span_under_zero : refusal (Range (pos 0) (pos 5000) ∷ []) (one_column (times (pos 0) (if (IVar 0) (number 9000)))) ≡ 0
  unfolding refusal
  span_under_zero = refl
