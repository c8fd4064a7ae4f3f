-- The answer to a set: what is fixed, the maps, the emitted integers, the clauses; and its words.
use Rattle.std.specs.Prelude.{Bool, true, false, cond, List, [], ◌∷◌, ◌++◌, map, ℕ, suc, ℤ, pos, negsuc, length}
use Rattle.std.proofs.Math.Option.{Option, none, some}
use Rattle.laws.specs.Lists.{below, counted}
use Rattle.syntax.specs.Syntax.{Domain, lower_bound, upper_bound, num_candidates, domain_of, encode_op, Stmt, Rule, Table, AllDifferent, Problem}
use Rattle.fold.specs.Fold.{Fixed}
use Rattle.sums.specs.LinearSum.{Term, term, linear_sum}
use Rattle.clauses.specs.Clause.{BoolLit, lit, LinearLit, linear, Clause, clause}
use Rattle.clauses.specs.Merge.{merge_stmts}
use Rattle.clauses.specs.Log.{MadeInt, declared_int, column, chosen, binary, Log, next_bool, get_bool_var, get_int_var, made_ints, clauses_of}
use Rattle.clauses.specs.Split.{normalize_and_register_expr}
use Rattle.tables.specs.Tables.{normalize_table}
use Rattle.different.specs.Different.{different_rules, normalize_rules}

-- ---- normalize

unfoldable pub normalize_stmt : List Domain → Stmt → Log → Log
normalize_stmt ds (Rule e) s = normalize_and_register_expr ds e s
normalize_stmt ds (Table es rows) s = normalize_table ds es rows s
normalize_stmt ds (AllDifferent es) s = normalize_rules ds (different_rules ds es) s

unfoldable pub normalize_stmts : List Domain → List Stmt → Log → Log
normalize_stmts ds [] s = s
normalize_stmts ds (t ∷ ts) s = normalize_stmts ds ts (normalize_stmt ds t s)

-- ---- the answer

-- an emitted integer: any value of a domain; or one that follows a literal, the first where it is false, the second where it is true
pub data Emitted : Type 0 where
  ranging : Domain → Emitted
  following : BoolLit → ℤ → ℤ → Emitted

abbrev pub emitted_of : List Domain → MadeInt → Emitted
emitted_of ds (declared_int v) = ranging (domain_of ds v)
emitted_of ds (column l d) = ranging d
emitted_of ds (chosen i e p q d) = ranging d
emitted_of ds (binary i l a b) = following l a b

-- by rising number; ds: the declared domains
unfoldable pub emitted : List Domain → Log → List Emitted
emitted ds s = map (emitted_of ds) (made_ints s)

pub record Answer : Type 0 where
  -- of each declared Boolean: its value if fixed; its literal if any
  pub fixed : List (Option Bool)
  pub bool_map : List (Option BoolLit)
  -- of each declared integer
  pub int_map : List (Option ℕ)
  pub emitted_bools : ℕ
  pub emitted_ints : List Emitted
  pub clauses : List Clause

unfoldable pub answer_of : Problem → Fixed → Log → Answer
answer_of p f s = record {
  fixed = map f (below p.bools);
  bool_map = map (λ v. get_bool_var v s) (below p.bools);
  int_map = map (λ v. get_int_var v s) (below (length p.domains));
  emitted_bools = next_bool s;
  emitted_ints = emitted p.domains s;
  clauses = clauses_of s;
}

-- the log from which clauses are made; merge: the caller's choice
unfoldable pub start_log : Bool → List Stmt → Log
start_log merge ss = cond merge (merge_stmts ss []) []

-- f and ss: what the passes left
unfoldable pub normalize : Bool → Problem → Fixed → List Stmt → Answer
normalize merge p f ss = answer_of p f (normalize_stmts p.domains ss (start_log merge ss))

-- ---- the words

abbrev pub fixed_word : Option Bool → ℤ
fixed_word (some false) = pos 0
fixed_word (some true) = pos 1
fixed_word none = pos 2

-- number plus 1, or 0
abbrev pub map_word : Option ℕ → ℤ
map_word (some n) = pos (suc n)
map_word none = pos 0

abbrev pub bool_word : Option BoolLit → ℤ
bool_word (some (lit n false)) = pos (suc n)
bool_word (some (lit n true)) = negsuc n
bool_word none = pos 0

-- number plus 1, negative if negated: negsuc n is -(n + 1)
abbrev pub lit_words : BoolLit → List ℤ
lit_words (lit n false) = pos (suc n) ∷ []
lit_words (lit n true) = negsuc n ∷ []

-- kind 0: lowest, highest, number of values
abbrev pub domain_words : Domain → List ℤ
domain_words d = pos 0 ∷ lower_bound d ∷ upper_bound d ∷ num_candidates d ∷ []

-- kind 1: the literal, the value where it is false, the value where it is true
abbrev pub emitted_words : Emitted → List ℤ
emitted_words (ranging d) = domain_words d
emitted_words (following l a b) = pos 1 ∷ lit_words l ++ (a ∷ b ∷ [])

abbrev pub term_words : Term → List ℤ
term_words (term v a) = pos v ∷ a ∷ []

abbrev pub linear_words : LinearLit → List ℤ
linear_words (linear o (linear_sum c ts)) = encode_op o ∷ c ∷ counted term_words ts

abbrev pub clause_words : Clause → List ℤ
clause_words (clause ls ks) = counted lit_words ls ++ counted linear_words ks

unfoldable pub layout : Answer → List ℤ
layout a =
    map fixed_word a.fixed
    ++ (map bool_word a.bool_map
    ++ (map map_word a.int_map
    ++ (pos a.emitted_bools ∷ (counted emitted_words a.emitted_ints ++ counted clause_words a.clauses))))
