-- The exact clauses of some rules, computed from an empty log: what the theorems on meaning cannot tell from other correct clauses.
-- P2 and P3 of document 01 (new variables of a disjunction are defined one way only), and one case each for a member without clauses,
-- a comparison in the pool, splitting, and a negated comparison of sums; and the rules with an If, in the order of the Rust.
use Rattle.std.specs.Prelude.{◌≡◌, refl, true, false, List, [], ◌∷◌, ℕ, ℤ, pos, negsuc}
use Rattle.laws.specs.Same.{same_words}
use Rattle.syntax.specs.Syntax.{is_read, Domain, Range, CmpOp, Eq, Le, Lt, Ge, Gt, IntExpr, IConst, IVar, Linear, If, tnil, tmore, BoolExpr, Const, Var, And, Or, Not, Xor, Iff, Cmp, mnil, more, encode_int}
use Rattle.sums.specs.LinearSum.{Term, term, linear_sum, constant, singleton, insert_coef, add_coef, add_terms, add_sum, mul_terms, mul_sum, sub_sum, lowest, highest, get_domain_linear_sum}
use Rattle.clauses.specs.Clause.{BoolLit, lit, linear, Clause, clause}
use Rattle.clauses.specs.Log.{MadeInt, declared_int, column, chosen, binary, Log, get_bool_var, get_int_var, get_if, convert_bool_var, convert_int_var, made_ints, emitted_domains, clauses_of}
use Rattle.clauses.specs.Disjunction.{sorted, each_longer, finish_disjunction, finish_sorted, normalize_disjunction}
use Rattle.clauses.specs.Normalize.{normalize_int_var, normalize_term, normalize_int_expr, no_run, run_then, normalize_conjunction, disjunction_of, cross, normalize_var, normalize_comparison, normalize_num, condition_literal, domain_of_sum, if_constant, if_open, normalize_if, normalize_bool_expr, register, define}
use Rattle.clauses.specs.Split.{unsplit, split_one, split_two, split_three, split_sides, tseitin_transformation_bool, register_each, normalize_and_register_expr}

-- ---- notation

abbrev plain : ℕ → BoolLit
plain n = lit n false

abbrev negated : ℕ → BoolLit
negated n = lit n true

abbrev literals : List BoolLit → Clause
literals ls = clause ls []

abbrev both : ℕ → ℕ → BoolExpr
both v w = And (more (Var v) (more (Var w) mnil))

-- the log, and the clauses, of a rule that comes first; ds: the declared domains
unfoldable rule_log : List Domain → BoolExpr → Log
unfolding insert_coef add_coef add_terms add_sum mul_terms mul_sum sub_sum lowest highest get_domain_linear_sum same_words encode_int get_bool_var get_int_var get_if convert_bool_var convert_int_var made_ints emitted_domains sorted each_longer finish_disjunction finish_sorted normalize_disjunction normalize_int_var normalize_term normalize_int_expr no_run run_then normalize_conjunction disjunction_of cross normalize_var normalize_comparison normalize_num condition_literal domain_of_sum if_constant if_open normalize_if normalize_bool_expr unsplit split_one split_two split_three split_sides tseitin_transformation_bool register define register_each normalize_and_register_expr
rule_log ds e = normalize_and_register_expr ds e []

unfoldable pub rule_clauses : BoolExpr → List Clause
unfolding rule_log clauses_of
rule_clauses e = clauses_of (rule_log [] e)

-- ---- disjunctions

-- P2: one new variable (number 4), negated in the first member's clauses, plain in the second's
pub two_longer : rule_clauses (Or (more (both 0 1) (more (both 2 3) mnil)))
    ≡ literals (plain 0 ∷ negated 4 ∷ []) ∷ literals (plain 1 ∷ negated 4 ∷ []) ∷ literals (plain 2 ∷ plain 4 ∷ []) ∷ literals (plain 3 ∷ plain 4 ∷ []) ∷ []
unfolding rule_clauses
two_longer = refl

-- P3: a new variable for each member (6, 7, 8), negated in its clauses and plain in the pool, which comes last
pub three_longer : rule_clauses (Or (more (both 0 1) (more (both 2 3) (more (both 4 5) mnil))))
    ≡ literals (plain 0 ∷ negated 6 ∷ []) ∷ literals (plain 1 ∷ negated 6 ∷ []) ∷ literals (plain 2 ∷ negated 7 ∷ []) ∷ literals (plain 3 ∷ negated 7 ∷ []) ∷ literals (plain 4 ∷ negated 8 ∷ []) ∷ literals (plain 5 ∷ negated 8 ∷ [])
    ∷ literals (plain 6 ∷ plain 7 ∷ plain 8 ∷ []) ∷ []
unfolding rule_clauses
three_longer = refl

-- a member without clauses is true, and so is the disjunction
pub satisfied_member : rule_clauses (Or (more (Var 0) (more (Const true) mnil))) ≡ []
unfolding rule_clauses
satisfied_member = refl

-- one literal goes to the end of each clause of the one longer member; one comparison does not
pub one_literal : rule_clauses (Or (more (both 0 1) (more (Var 2) mnil))) ≡ literals (plain 0 ∷ plain 2 ∷ []) ∷ literals (plain 1 ∷ plain 2 ∷ []) ∷ []
unfolding rule_clauses
one_literal = refl

pub one_comparison : rule_clauses (Or (more (both 0 1) (more (Cmp Eq (IVar 0) (IConst (pos 0))) mnil)))
    ≡ literals (plain 0 ∷ negated 2 ∷ []) ∷ literals (plain 1 ∷ negated 2 ∷ []) ∷ clause (plain 2 ∷ []) (linear Eq (linear_sum (pos 0) (term 0 (pos 1) ∷ [])) ∷ []) ∷ []
unfolding rule_clauses
one_comparison = refl

-- ---- comparisons: not (x ≤ 2 y) is x - 2 y > 0

pub negated_sum : rule_clauses (Not (Cmp Le (IVar 0) (Linear (tmore (pos 2) (IVar 1) tnil)))) ≡ clause [] (linear Gt (linear_sum (pos 0) (term 0 (pos 1) ∷ term 1 (negsuc 1) ∷ [])) ∷ []) ∷ []
unfolding rule_clauses
negated_sum = refl

-- ---- splitting: the sides of the inner Iff get numbers 0 and 1, their ties come first, then the rewritten rule

pub split_rule : rule_clauses (Xor (Var 0) (Iff (Var 1) (Var 2)))
    ≡ literals (plain 2 ∷ negated 0 ∷ []) ∷ literals (negated 2 ∷ plain 0 ∷ []) ∷ literals (plain 3 ∷ negated 1 ∷ []) ∷ literals (negated 3 ∷ plain 1 ∷ [])
    ∷ literals (plain 0 ∷ negated 1 ∷ plain 4 ∷ []) ∷ literals (negated 0 ∷ plain 1 ∷ plain 4 ∷ []) ∷ literals (plain 0 ∷ plain 1 ∷ negated 4 ∷ []) ∷ literals (negated 0 ∷ negated 1 ∷ negated 4 ∷ []) ∷ []
unfolding rule_clauses
split_rule = refl

-- ---- Ifs: the clauses and the emitted integers, as the Rust has them

unfoldable pub rule_answer : List Domain → BoolExpr → (List Clause) × (List MadeInt)
unfolding rule_log made_ints clauses_of
rule_answer ds e = let s = rule_log ds e in (clauses_of s, made_ints s)

-- a comparison of c and terms with 0
abbrev compared : List BoolLit → CmpOp → ℤ → List Term → Clause
compared ls o c ts = clause ls (linear o (linear_sum c ts) ∷ [])

-- constant branches: `Not v` gets a number (0) before v gets its own (1); the new literal stands in front, the negated condition's clauses come first.
-- The lower value stands first, with the literal turned; a variable is its own literal; equal values are one value
pub constant_if : rule_answer [] (Cmp Ge (Linear (tmore (pos 1) (If is_read (Not (Var 0)) (IConst (pos 2)) (IConst (pos 5))) (tmore (pos 1) (If is_read (Var 0) (IConst (pos 3)) (IConst (pos 3))) tnil))) (IConst (pos 6)))
    ≡ (
      literals (plain 0 ∷ plain 1 ∷ []) ∷ literals (negated 0 ∷ negated 1 ∷ []) ∷ compared [] Ge (negsuc 5) (term 0 (pos 1) ∷ term 1 (pos 1) ∷ []) ∷ [],
      binary is_read (negated 0) (pos 2) (pos 5) ∷ column (constant (pos 3)) (Range (pos 3) (pos 3)) ∷ [],
    )
unfolding rule_answer
constant_if = refl

-- an open If: x0 where x1 ≥ 3, else 1
abbrev open_expr : IntExpr
open_expr = If is_read (Cmp Ge (IVar 1) (IConst (pos 3))) (IVar 0) (IConst (pos 1))

-- its number (1) stands between its branches' and its condition's, the plain condition comes first, and the second one is found again
pub open_if : rule_answer (Range (pos 0) (pos 4) ∷ Range (pos 0) (pos 5) ∷ []) (Cmp Ge (Linear (tmore (pos 1) open_expr (tmore (pos 1) open_expr tnil))) (IConst (pos 2)))
    ≡ (
      compared (negated 0 ∷ []) Ge (negsuc 2) (term 2 (pos 1) ∷ []) ∷ compared (negated 0 ∷ []) Eq (pos 0) (term 0 (pos 1) ∷ term 1 (negsuc 0) ∷ [])
          ∷ compared (plain 0 ∷ []) Lt (negsuc 2) (term 2 (pos 1) ∷ []) ∷ compared (plain 0 ∷ []) Eq (pos 1) (term 1 (negsuc 0) ∷ [])
          ∷ compared [] Ge (negsuc 1) (term 1 (pos 2) ∷ []) ∷ [],
      declared_int 0 ∷ chosen is_read open_expr (singleton 0) (constant (pos 1)) (Range (pos 0) (pos 4)) ∷ declared_int 1 ∷ [],
    )
unfolding rule_answer
open_if = refl

-- an Iff or Xor as a condition is split (sides 0 and 1), before those in the branches (2 and 3)
pub split_if : rule_clauses (Cmp Ge (If is_read (Iff (Var 0) (Var 1)) (If is_read (Xor (Var 2) (Var 3)) (IConst (pos 1)) (IConst (pos 2))) (IConst (pos 0))) (IConst (pos 1)))
    ≡ literals (plain 4 ∷ negated 0 ∷ []) ∷ literals (negated 4 ∷ plain 0 ∷ []) ∷ literals (plain 5 ∷ negated 1 ∷ []) ∷ literals (negated 5 ∷ plain 1 ∷ [])
    ∷ literals (plain 6 ∷ negated 2 ∷ []) ∷ literals (negated 6 ∷ plain 2 ∷ []) ∷ literals (plain 7 ∷ negated 3 ∷ []) ∷ literals (negated 7 ∷ plain 3 ∷ [])
    ∷ literals (plain 2 ∷ negated 3 ∷ plain 8 ∷ []) ∷ literals (negated 2 ∷ plain 3 ∷ plain 8 ∷ []) ∷ literals (plain 2 ∷ plain 3 ∷ negated 8 ∷ []) ∷ literals (negated 2 ∷ negated 3 ∷ negated 8 ∷ [])
    ∷ literals (plain 0 ∷ negated 1 ∷ negated 9 ∷ []) ∷ literals (negated 0 ∷ plain 1 ∷ negated 9 ∷ []) ∷ compared (negated 9 ∷ []) Eq (pos 0) (term 0 (pos 1) ∷ term 1 (negsuc 0) ∷ [])
    ∷ literals (plain 0 ∷ plain 1 ∷ plain 9 ∷ []) ∷ literals (negated 0 ∷ negated 1 ∷ plain 9 ∷ []) ∷ compared (plain 9 ∷ []) Eq (pos 0) (term 1 (negsuc 0) ∷ [])
    ∷ compared [] Ge (negsuc 0) (term 1 (pos 1) ∷ []) ∷ []
unfolding rule_clauses
split_if = refl
