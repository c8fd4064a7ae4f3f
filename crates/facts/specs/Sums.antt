-- Within refusal 9 no sum that the Rust computes leaves i32, for every set that is accepted: the sums of comparisons and columns on the
-- way to them (normalize_int_expr), an AllDifferent's pairs and values among them, each column's difference with its new variable (equivalent_int_var), the products and the bounds of
-- a column's domain after each term (get_domain_linear_sum); of an If both values as a column, and its condition's comparisons. For any emitted numbers of the declared variables and of the Ifs.
use Rattle.std.specs.Prelude.{◌≡◌, Bool, false, cond, ◌||◌, ℤ, pos, negsuc, ◌+ℤ◌, ◌*ℤ◌, ltb, take}
use Rattle.std.proofs.Math.Path.{refl}
use Rattle.std.proofs.Common.{sym, ◌∙◌, take_all}
use Rattle.std.proofs.Math.Bool.{true}
use mathlib.Core.List.{List, [], ◌∷◌, map}
use Prim.Native.Nat.{ℕ, ◌+◌, ◌≤◌, ◌<◌}
use Rattle.std.proofs.Math.Nat.{mul-le-mul_left}
use native.Mathlib.Omega.{arith}
use Rattle.std.proofs.Math.IntN.{nat_abs}
use Rattle.std.proofs.Math.ListN.{length}
use borrow.Author.Tests.{ltb-false, le-ltb}
use Rattle.laws.specs.Bools.{and_l, and_r, never, or_l, or_r, or_no_l, or_no_r}
use Rattle.laws.specs.Ints.{eqZ, natAbs_add, nat_abs_mul}
use Rattle.laws.specs.Order.{eqZ_refl}
use Rattle.laws.specs.Same.{same_is}
use Rattle.laws.specs.Lists.{any, all}
use Rattle.syntax.specs.Words.{max_weight}
use Rattle.syntax.specs.Syntax.{IfIsRead, Domain, Range, Enumerative, lower_bound, upper_bound, num_candidates, enumerate, domain_of, IntExpr, IConst, IVar, Linear, If, Terms, tnil, tmore, BoolExpr, Const, Var, NVar, And, Or, Not, Xor, Iff, Imp, Cmp, Members, mnil, more, Stmt, Rule, Table, AllDifferent, Problem}
use Rattle.syntax.specs.Written.{Any, EveryIntOf, EveryInt, EveryColumnOf, EveryColumn, EveryStmt, EveryStmts, columns_of}
use Rattle.words.specs.Exact.{Each}
use Rattle.read.proofs.Exact.{set_sound}
use Rattle.limits.specs.Limits.{any_comparison, any_comparison_members, any_inside, any_inside_terms, any_pair, any_part, domain_weight, weight, heavy, heavy_terms, heavy_comparison, written, heavy_stmt}
use Rattle.limits.proofs.Light.{value_light, unrefused_light}
use Rattle.limits.proofs.TotalLaws.{lower_small, higher_small}
use Rattle.fold.specs.Fold.{Fixed, constant_folding_stmt as fold-stmt}
use Rattle.fold.specs.Optimize.{settled, optimize}
use Rattle.fold.proofs.Kept.{fold_stmts_every}
use Rattle.fold.proofs.Ends.{optimize_rests}
use Rattle.sums.proofs.Domain.{ordered}
use Rattle.sums.specs.LinearSum.{Term, term, LinearSum, linear_sum, singleton, add_coef, mul_sum, lowest, highest, get_domain_linear_sum}
use Rattle.sums.specs.Rising.{terms_of, constant_of, Among}
use Rattle.sums.specs.Linear.{linear_of, EveryIf}
use Rattle.sums.proofs.NormLaws.{singleton_load, add_coef_norm, mul_sum_load}
use Rattle.sums.specs.Norm.{norm, load}
use Rattle.sums.specs.Bounds.{size, Coefficients, Fits, Every, add_steps, sum_steps, computed, computed_comparison, reach}
use Rattle.sums.proofs.BoundsLaws.{heavy_weight, linear_of_load, linear_of_size, reach_weight, computed_fits, comparison_fits, domain_bounds_fit}
use Rattle.clauses.specs.Normalize.{hull}
use Rattle.tables.specs.Domains.{has, has_range}
use Rattle.different.specs.Different.{is_like, values_of_first, values_used_up}
use Rattle.folded.specs.Folded.{fold_stmt_light}
use Rattle.call.specs.Call.{Accepted}
use Rattle.call.specs.WellRead.{well_declared}
use Rattle.call.proofs.Demand.{domains_ordered}

abbrev pub max_i32 : ℕ
max_i32 = 2147483647

-- its constant and its coefficients are numbers of i32
pub record InI32 (l : LinearSum) : Type 0 where
  pub constant_in : nat_abs (constant_of l) ≤ max_i32
  pub coefficients_in : Coefficients max_i32 (terms_of l)

-- ---- a property of every comparison and of every column of a statement

-- of every pair
abbrev pub EveryPair : (IntExpr → IntExpr → Type 0) → List IntExpr → Type 0
EveryPair P [] = Unit {0}
EveryPair P (e ∷ es) = Each (P e) es × EveryPair P es

-- of each expression with each value
abbrev pub EveryValue : (IntExpr → IntExpr → Type 0) → List IntExpr → List ℤ → Type 0
EveryValue P es xs = Each (λ x. Each (λ e. P e (IConst x)) es) xs

-- P: of two sides; C: of a column, and of an If's value
module _ (P : IntExpr → IntExpr → Type 0) (C : IntExpr → Type 0) where
  unfoldable mutual
    pub EveryComparison : BoolExpr → Type 0
    EveryComparison (Const b) = Unit {0}
    EveryComparison (Var v) = Unit {0}
    EveryComparison (NVar n) = Unit {0}
    EveryComparison (And ms) = EveryMembersComparison ms
    EveryComparison (Or ms) = EveryMembersComparison ms
    EveryComparison (Not e) = EveryComparison e
    EveryComparison (Xor a b) = EveryComparison a × EveryComparison b
    EveryComparison (Iff a b) = EveryComparison a × EveryComparison b
    EveryComparison (Imp a b) = EveryComparison a × EveryComparison b
    EveryComparison (Cmp o a b) = P a b × EveryInside a × EveryInside b

    pub EveryMembersComparison : Members → Type 0
    EveryMembersComparison mnil = Unit {0}
    EveryMembersComparison (more e ms) = EveryComparison e × EveryMembersComparison ms

    -- of what stands inside the Ifs of an integer expression
    pub EveryInside : IntExpr → Type 0
    EveryInside (IConst c) = Unit {0}
    EveryInside (IVar v) = Unit {0}
    EveryInside (Linear ts) = EveryTermInside ts
    EveryInside (If i c t f) = EveryComparison c × C t × EveryInside t × C f × EveryInside f

    pub EveryTermInside : Terms → Type 0
    EveryTermInside tnil = Unit {0}
    EveryTermInside (tmore k e ts) = EveryInside e × EveryTermInside ts

  abbrev pub EveryPart : List Domain → Stmt → Type 0
  EveryPart ds (Rule e) = EveryComparison e
  EveryPart ds (Table es rows) = Each (λ e. C e × EveryInside e) es
  EveryPart ds (AllDifferent es) = Each EveryInside es × EveryPair P es × EveryValue P es (values_used_up ds es)

-- ---- the sums of a column: its own, and with a new variable n

-- x - n, term by term
unfoldable pub computed_difference : (number made : ℕ → ℕ) → IntExpr → ℕ → List LinearSum
computed_difference number made e n = mul_sum (negsuc 0) (singleton n) ∷ sum_steps (linear_of number made 0 e) (mul_sum (negsuc 0) (singleton n))

-- each coefficient times the bounds of its variable's domain
unfoldable pub Products : (ℕ → Domain) → List Term → Type 0
Products domain [] = Unit {0}
Products domain (term v a ∷ ts) = (nat_abs (a *ℤ lower_bound (domain v)) ≤ max_i32) × (nat_abs (a *ℤ upper_bound (domain v)) ≤ max_i32) × Products domain ts

-- the domain of each written variable's number is the variable's, that of each If's number within the If's weight
pub record DomainsOf (ds : List Domain) (number made : ℕ → ℕ) (domain : ℕ → Domain) (e : IntExpr) : Type 0 where
  pub variables : (v : ℕ) → Among (written e) v → domain (number v) ≡ domain_of ds v
  pub ifs : EveryIf (λ n x. reach (domain n) ≤ weight ds x) made 0 e

-- the bounds stay within the weight, as `ifs` asks of an If around e
pub record ColumnIn (ds : List Domain) (number : ℕ → ℕ) (e : IntExpr) : Type 0 where
  pub sums : (made : ℕ → ℕ) → Every InI32 (computed number made 0 e)
  pub difference : (made : ℕ → ℕ) (n : ℕ) → Every InI32 (computed_difference number made e n)
  pub products : (made : ℕ → ℕ) (domain : ℕ → Domain) → DomainsOf ds number made domain e → Products domain (terms_of (linear_of number made 0 e))
  -- after k terms
  pub bounds : (made : ℕ → ℕ) (domain : ℕ → Domain) → DomainsOf ds number made domain e → (k : ℕ)
      → (nat_abs (lowest domain (constant_of (linear_of number made 0 e)) (take k (terms_of (linear_of number made 0 e)))) ≤ weight ds e)
      × (nat_abs (highest domain (constant_of (linear_of number made 0 e)) (take k (terms_of (linear_of number made 0 e)))) ≤ weight ds e)
  pub weight_in : weight ds e ≤ max_i32

abbrev pub ComparisonIn : (ℕ → ℕ) → IntExpr → IntExpr → Type 0
ComparisonIn number a b = (made : ℕ → ℕ) → Every InI32 (computed_comparison number made a b)

-- ---- sums of a small size
