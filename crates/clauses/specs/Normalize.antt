-- The linear sum of an integer expression, and the clauses of a Boolean expression with negation pushed inward. An If gets a number and adds its clauses at once.
use Rattle.std.specs.Prelude.{Bool, true, false, not, ◌&&◌, cond, List, [], ◌∷◌, ◌++◌, ℕ, ℤ, pos}
use Rattle.std.proofs.Math.Option.{Option, none, some}
use Rattle.std.specs.Int.Signed.{lt_z}
use Rattle.laws.specs.Ints.{eqZ, lower, higher}
use Rattle.laws.specs.Lists.{flat}
use Rattle.syntax.specs.Syntax.{IfIsRead, Domain, Range, lower_bound, upper_bound, domain_of, CmpOp, Eq, Ne, Le, Lt, Ge, Gt, IntExpr, IConst, IVar, Linear, If, Terms, tnil, tmore, BoolExpr, Const, Var, NVar, And, Or, Not, Xor, Iff, Imp, Cmp, Members, mnil, more}
use Rattle.sums.specs.LinearSum.{LinearSum, constant, singleton, is_constant, add_sum, mul_sum, sub_sum, get_domain_linear_sum}
use Rattle.sums.specs.Rising.{constant_of}
use Rattle.clauses.specs.Clause.{negate_if, BoolLit, Clause, lit, linear, clause}
use Rattle.clauses.specs.Log.{MadeInt, column, chosen, binary, side, bool, int, added, defined, known, Log, next_bool, next_int, negate_lit, convert_bool_var, convert_int_var, get_if, emitted_domains}
use Rattle.clauses.specs.Disjunction.{Out, Outs, normalize_disjunction}

-- ---- runs: from a log to clauses (or a sum) and the log behind them

abbrev pub Run : Type 0
Run = Log → Out

abbrev pub Runs : Type 0
Runs = Log → Outs

abbrev pub IntOut : Type 0
IntOut = LinearSum × Log

abbrev pub IntRun : Type 0
IntRun = Log → IntOut

-- add_constraint, for each clause of a run: of a statement; of an If
unfoldable pub register : Out → Log
register a = added a.0 ∷ a.1

unfoldable pub define : Out → Log
define a = defined a.0 ∷ a.1

unfoldable pub no_run : Runs
no_run s = ([], s)

unfoldable pub run_then : Run → Runs → Runs
run_then r rs s =
    let a = r s in
    let b = rs a.1 in
    (a.0 ∷ b.0, b.1)

abbrev pub two : Run → Run → Runs
two a b = run_then a (run_then b no_run)

unfoldable pub normalize_conjunction : Runs → Run
normalize_conjunction rs s = let a = rs s in (flat a.0, a.1)

unfoldable pub disjunction_of : Runs → Run
disjunction_of rs s = let a = rs s in normalize_disjunction a.0 a.1

-- both pairs of members first, then their disjunctions
unfoldable pub cross : Runs → Runs → Run
cross p q s =
    let a = p s in
    let b = q a.1 in
    let c = normalize_disjunction a.0 b.1 in
    let d = normalize_disjunction b.0 c.1 in
    (c.0 ++ d.0, d.1)

abbrev pub const_clauses : Bool → List Clause
const_clauses true = []
const_clauses false = clause [] [] ∷ []

abbrev pub lit_clauses : ℕ → Bool → List Clause
lit_clauses n g = clause (lit n g ∷ []) [] ∷ []

unfoldable pub normalize_num : ℕ → Bool → Run
normalize_num n g s = (lit_clauses n g, s)

unfoldable pub normalize_var : ℕ → Bool → Run
normalize_var v g s = let d = convert_bool_var v s in (clause (negate_lit g d.0 ∷ []) [] ∷ [], d.1)

abbrev pub negate_op : CmpOp → CmpOp
negate_op Eq = Ne
negate_op Ne = Eq
negate_op Le = Gt
negate_op Lt = Ge
negate_op Ge = Lt
negate_op Gt = Le

abbrev pub negate_op_if : Bool → CmpOp → CmpOp
negate_op_if false o = o
negate_op_if true o = negate_op o

unfoldable pub normalize_comparison : CmpOp → Bool → IntRun → IntRun → Run
normalize_comparison o g p q s =
    let a = p s in
    let b = q a.1 in
    (clause [] (linear (negate_op_if g o) (sub_sum a.0 b.0) ∷ []) ∷ [], b.1)

unfoldable pub normalize_int_var : ℕ → IntRun
normalize_int_var v s = let d = convert_int_var v s in (singleton d.0, d.1)

-- the sum so far and the next term
unfoldable pub normalize_term : ℤ → IntRun → (LinearSum → IntRun) → LinearSum → IntRun
normalize_term k p q sum s = let a = p s in q (add_sum sum (mul_sum k a.0)) a.1

-- ---- If

-- l = v
abbrev pub equals : LinearSum → ℕ → Clause
equals l v = clause [] (linear Eq (sub_sum l (singleton v)) ∷ [])

-- the literal that a condition has by itself: a variable's
abbrev pub own_literal : BoolExpr → Option (Log → BoolLit × Log)
own_literal (Var v) = some (convert_bool_var v)
own_literal (NVar n) = some (λ s. (lit n false, s))
own_literal (Const b) = none
own_literal (And ms) = none
own_literal (Or ms) = none
own_literal (Not e) = none
own_literal (Xor a b) = none
own_literal (Iff a b) = none
own_literal (Imp a b) = none
own_literal (Cmp o a b) = none

-- any other gets a new number and the clauses of their Iff: p gives the condition's, negated before plain
unfoldable pub condition_literal : Option (Log → BoolLit × Log) → BoolExpr → (Bool → Run) → Log → BoolLit × Log
condition_literal (some f) c p s = f s
condition_literal none c p s =
    let n = next_bool s in
    (lit n false, define (cross (two (normalize_num n false) (p true)) (two (normalize_num n true) (p false)) (bool (side c) ∷ s)))

-- new_binary_int_var: x where l is true, y where not; the lower value stands first, with the literal turned to suit
abbrev pub two_valued : IfIsRead → BoolLit → ℤ → ℤ → MadeInt
two_valued i l x y = cond (lt_z x y) (binary i (negate_lit true l) x y) (cond (eqZ x y) (column (constant x) (Range x x)) (binary i l y x))

-- the domain of either sum
abbrev pub hull : Domain → Domain → Domain
hull a b = Range (lower (lower_bound a) (lower_bound b)) (higher (upper_bound a) (upper_bound b))

-- ds: the declared domains
module _ (ds : List Domain) where
  unfoldable pub domain_of_sum : Log → LinearSum → Domain
  domain_of_sum s l = get_domain_linear_sum (domain_of (emitted_domains ds s)) l

  -- constant branches x and y: two values
  unfoldable pub if_constant : IfIsRead → BoolExpr → (Bool → Run) → ℤ → ℤ → IntRun
  if_constant i c p x y s =
      let l = condition_literal (own_literal c) c p s in
      (singleton (next_int l.1), int (two_valued i l.0 x y) ∷ l.1)

  -- other branches t and f: a new variable v; the condition and t = v, or its negation and f = v
  unfoldable pub if_open : IfIsRead → IntExpr → (Bool → Run) → LinearSum → LinearSum → IntRun
  if_open i e p t f s =
      let v = next_int s in
      let a = p false (int (chosen i e t f (hull (domain_of_sum s t) (domain_of_sum s f))) ∷ s) in
      let b = p true a.1 in
      (singleton v, known e v ∷ define (normalize_disjunction ((a.0 ++ (equals t v ∷ [])) ∷ (b.0 ++ (equals f v ∷ [])) ∷ []) b.1))

  -- e: the If, c its condition, p c's clauses in either polarity; first its branches
  unfoldable pub normalize_if : IfIsRead → Option ℕ → IntExpr → BoolExpr → (Bool → Run) → IntRun → IntRun → IntRun
  normalize_if i (some v) e c p t f s = (singleton v, s)
  normalize_if i none e c p t f s =
      let a = t s in
      let b = f a.1 in
      cond (is_constant a.0 && is_constant b.0) (if_constant i c p (constant_of a.0) (constant_of b.0) b.1) (if_open i e p a.0 b.0 b.1)

  -- ---- normalize_int_expr, normalize_bool_expr; the Bool says whether the expression is negated

  unfoldable mutual
    pub normalize_int_expr : IntExpr → IntRun
    normalize_int_expr (IConst c) = λ s. (constant c, s)
    normalize_int_expr (IVar v) = normalize_int_var v
    normalize_int_expr (Linear ts) = normalize_terms ts (constant (pos 0))
    normalize_int_expr (If i c t f) = λ s. normalize_if i (get_if (If i c t f) s) (If i c t f) c (λ g. normalize_bool_expr c g) (normalize_int_expr t) (normalize_int_expr f) s

    pub normalize_terms : Terms → LinearSum → IntRun
    normalize_terms tnil = λ sum s. (sum, s)
    normalize_terms (tmore k e ts) = normalize_term k (normalize_int_expr e) (normalize_terms ts)

    pub normalize_bool_expr : BoolExpr → Bool → Run
    normalize_bool_expr (Const b) g = λ s. (const_clauses (negate_if g b), s)
    normalize_bool_expr (Var v) g = normalize_var v g
    normalize_bool_expr (NVar n) g = normalize_num n g
    normalize_bool_expr (And ms) false = normalize_conjunction (normalize_members ms false)
    normalize_bool_expr (And ms) true = disjunction_of (normalize_members ms true)
    normalize_bool_expr (Or ms) false = disjunction_of (normalize_members ms false)
    normalize_bool_expr (Or ms) true = normalize_conjunction (normalize_members ms true)
    normalize_bool_expr (Not e) g = normalize_bool_expr e (not g)
    normalize_bool_expr (Xor a b) false = cross (two (normalize_bool_expr a false) (normalize_bool_expr b false)) (two (normalize_bool_expr a true) (normalize_bool_expr b true))
    normalize_bool_expr (Xor a b) true = cross (two (normalize_bool_expr a false) (normalize_bool_expr b true)) (two (normalize_bool_expr a true) (normalize_bool_expr b false))
    normalize_bool_expr (Iff a b) false = cross (two (normalize_bool_expr a false) (normalize_bool_expr b true)) (two (normalize_bool_expr a true) (normalize_bool_expr b false))
    normalize_bool_expr (Iff a b) true = cross (two (normalize_bool_expr a false) (normalize_bool_expr b false)) (two (normalize_bool_expr a true) (normalize_bool_expr b true))
    normalize_bool_expr (Imp a b) false = disjunction_of (two (normalize_bool_expr a true) (normalize_bool_expr b false))
    normalize_bool_expr (Imp a b) true = normalize_conjunction (two (normalize_bool_expr a false) (normalize_bool_expr b true))
    normalize_bool_expr (Cmp o a b) g = normalize_comparison o g (normalize_int_expr a) (normalize_int_expr b)

    pub normalize_members : Members → Bool → Runs
    normalize_members mnil g = no_run
    normalize_members (more e ms) g = run_then (normalize_bool_expr e g) (normalize_members ms g)
