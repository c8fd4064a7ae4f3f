-- What a well-formed set gives the walks: its domains' weights and bounds, declared variables, rows of one width; and the refusal that the walks test.
-- Assumes nothing.
use Rattle.std.specs.Prelude.{◌≡◌, refl, Result, Err, true, cond, ℕ, zero, suc, ◌+◌, ◌≤◌, ◌<◌, max, ℤ, pos, negsuc, nat_abs, ltb, length, take, get_or}
use Rattle.std.proofs.Common.{ap, ◌∙◌, arith, take_all, ltb-true, leb-true}
use mathlib.Core.List.{List, [], ◌∷◌, ◌++◌, map}
use Rattle.std.specs.Int.Signed.{lt_z, le_z}
use Rattle.std.proofs.lemmas.List.Edits.{sets}
use Rattle.laws.specs.Bools.{never}
use Rattle.laws.specs.Lists.{flat}
use Rattle.laws.specs.Order.{leZ_refl, leZ_lt, leZ_trans}
use Rattle.laws.specs.Slices.{Has, has_fits, has_front, has_back, has_word, has_rest, has_sets}
use Rattle.memory.specs.Places.{bounds}
use Rattle.syntax.specs.Words.{min_work_words, max_set_words}
use Rattle.syntax.specs.Syntax.{Domain, Range, Enumerative, lower_bound, upper_bound, last_or, domain_of, encode_domain, Stmt, Rule, Table, AllDifferent, encode_stmt, Problem, encode}
use Rattle.syntax.specs.Written.{None, Any}
use Rattle.words.specs.Exact.{Each}
use Rattle.words.specs.Parse.{Parsed, ok, refuse}
use Rattle.read.specs.Read.{read_set}
use Rattle.reader.specs.Position.{set_at}
use Rattle.reader.specs.declared.Declared.{Declared}
use Rattle.read.specs.WellFormed.{RisingFrom, WellDomain, WellStmt, WellFormed}
use Rattle.read.proofs.Vars.{columns_vars, bool_vars, rows_wide}
use Rattle.domains.specs.Declared.{Domains, bounds_words, bounds_length}
use Rattle.limits.specs.Limits.{largest, domain_weight, check}
use Rattle.limits.specs.Total.{Bounded}
use Rattle.accept.specs.Walk.{Bounds, UsableStmt, UsableStmts, StmtsAt, test_comparison, test_branch, test_column, test_one, check_stmts}

-- ---- domains

last_high : (x : ℤ) (xs : List ℤ) → RisingFrom x xs → le_z x (last_or x xs) ≡ true
last_high x [] h = leZ_refl x
last_high x (y ∷ ys) h = leZ_trans x y (last_or y ys) (leZ_lt x y h.0) (last_high y ys h.1)

between : (x y z : ℤ) → lt_z x y ≡ true → le_z y z ≡ true → nat_abs y ≤ max (nat_abs x) (nat_abs z)
between x (pos b) (pos c) h k = omega (arith, leb-true b c k)
between x (pos b) (negsuc c) h k = never k
between (pos a) (negsuc b) z h k = never h
between (negsuc a) (negsuc b) z h k = omega (arith, ltb-true b a h)

largest_ends : (x : ℤ) (xs : List ℤ) → RisingFrom x xs → max (nat_abs x) (largest xs) ≡ max (nat_abs x) (nat_abs (last_or x xs))
largest_ends x [] h = omega arith
largest_ends x (y ∷ ys) h = omega (arith, largest_ends y ys h.1, between x y (last_or y ys) h.0 (last_high y ys h.1))

weight_ends : (d : Domain) → WellDomain d → domain_weight d ≡ max 1 (max (nat_abs (lower_bound d)) (nat_abs (upper_bound d)))
weight_ends (Range low high) h = refl
weight_ends (Enumerative []) h = absurd (omega (arith, h.0))
weight_ends (Enumerative (x ∷ xs)) h = ap (λ n. max 1 n) (largest_ends x xs h.3)

-- a property of every well-formed domain, and of the domain that stands for an undeclared variable
module _ (P : Domain → Type 0) (to : (d : Domain) → WellDomain d → P d) (other : P (Range (pos 0) (pos 0))) where
  every_domain : (ds : List Domain) → Each WellDomain ds → (v : ℕ) → P (domain_of ds v)
  every_domain [] h v = other
  every_domain (d ∷ ds) h zero = to d h.0
  every_domain (d ∷ ds) h (suc v) = every_domain ds h.1 v

well_bounded : (ds : List Domain) → Each WellDomain ds → Bounded ds
well_bounded ds h = record {
  weights = every_domain (λ d. domain_weight d ≡ max 1 (max (nat_abs (lower_bound d)) (nat_abs (upper_bound d)))) weight_ends refl ds h;
}

-- ---- expressions

module _ (nb ni : ℕ) where
  stmt_usable : (s : Stmt) → WellStmt nb ni s → UsableStmt ni s
  unfolding UsableStmt
  stmt_usable (Rule e) h = bool_vars None Any nb ni (λ v k. tt) 64 e h
  stmt_usable (Table es rows) h = (columns_vars None Any nb ni (λ v k. tt) 64 es h.2, rows_wide (length es) rows h.3)
  stmt_usable (AllDifferent es) h = columns_vars None Any nb ni (λ v k. tt) 64 es h.1

  stmts_usable : (ss : List Stmt) → Each (WellStmt nb ni) ss → UsableStmts ni ss
  unfolding UsableStmts
  stmts_usable [] h = tt
  stmts_usable (s ∷ ss) h = (stmt_usable s h.0, stmts_usable ss h.1)

-- ---- the refusal that the walks test

pub check_is : (p : Problem) → check_stmts p.domains p.stmts ≡ check p
unfolding check_stmts check test_comparison test_branch test_column test_one
check_is p = refl

-- ---- a set's words

pub record SetOf (ws : List ℤ) (p : Problem) : Type 0 where
  pub words : ws ≡ encode p
  pub well : WellFormed p

pub record ReadySet (ws work : List ℤ) : Type 0 where
  pub it : Problem
  pub set_of : SetOf ws it
  pub room : 8448 ≤ length work

-- the refusal, and the table of bounds in the work slice
abbrev pub LimitsPost : List ℤ → List ℤ → List ℤ → ℕ → Type 0
LimitsPost ws work work' r = (p : Problem) → SetOf ws p → (r ≡ check p) × (work' ≡ sets work bounds (bounds_words p.domains))

-- where the domains end
abbrev domains_end : Problem → ℕ
domains_end p = 2 + length (flat (map encode_domain p.domains))

module _ (ws : List ℤ) (p : Problem) (h : SetOf ws p) where
  all_stands : Has ws 0 (encode p)
  all_stands = ap (take (length (encode p))) h.words ∙ take_all (length (encode p)) (encode p) (omega arith)

  behind_count : Has ws 1 (pos (length p.domains) ∷ (flat (map encode_domain p.domains) ++ (pos (length p.stmts) ∷ flat (map encode_stmt p.stmts))))
  unfolding encode
  behind_count = has_rest ws 0 _ _ all_stands

  rest : Has ws 2 (flat (map encode_domain p.domains) ++ (pos (length p.stmts) ∷ flat (map encode_stmt p.stmts)))
  rest = has_rest ws 1 _ _ behind_count

  pub ints_word : get_or ws 1 (pos 0) ≡ pos (length p.domains)
  ints_word = has_word ws 1 _ _ (pos 0) behind_count

  pub domains_stand : Domains ws 2 p.domains
  domains_stand = record { words = has_front ws 2 (flat (map encode_domain p.domains)) _ rest }

  counted_stmts : Has ws (domains_end p) (pos (length p.stmts) ∷ flat (map encode_stmt p.stmts))
  counted_stmts = has_back ws 2 (flat (map encode_domain p.domains)) _ rest

  pub stmts_word : get_or ws (domains_end p) (pos 0) ≡ pos (length p.stmts)
  stmts_word = has_word ws (domains_end p) _ _ (pos 0) counted_stmts

  pub stmts_inside : domains_end p < length ws
  stmts_inside = omega (arith, has_fits ws (domains_end p) _ counted_stmts (omega arith))

  pub stmts_stand : StmtsAt (length p.domains) ws (domains_end p + 1) (length p.stmts) p.stmts
  stmts_stand = record {
    words = has_rest ws (domains_end p) _ _ counted_stmts;
    usable = stmts_usable p.bools (length p.domains) p.stmts h.well.stmts_well;
    size = refl;
  }

  pub table_stands : (work : List ℤ) → 8448 ≤ length work → Bounds (sets work bounds (bounds_words p.domains)) p.domains
  table_stands work l = record {
    words = has_sets work bounds (bounds_words p.domains) (omega (arith, bounds_length p.domains, h.well.few_ints));
    bounded = well_bounded p.domains h.well.domains_well;
  }

-- ---- refusals 1 to 11, for all words and lengths: what the set declares, or the refusal

unfoldable pub unless_refused : Result Declared ℕ → ℕ → Result Declared ℕ
unless_refused s zero = s
unless_refused s (suc k) = Err (suc k)

unfoldable pub limited : Parsed Problem → Result Declared ℕ
limited (refuse k) = Err k
limited (ok p r) = unless_refused (set_at (ok p r)) (check p)

unfoldable pub accepted : ℕ → List ℤ → Result Declared ℕ
accepted n ws = cond (ltb n min_work_words) (Err 1) (cond (ltb max_set_words (length ws)) (Err 2) (limited (read_set ws)))

-- the work slice then: a set that is read leaves the table of its bounds
unfoldable pub table_read : Parsed Problem → List ℤ → List ℤ
table_read (refuse k) work = work
table_read (ok p r) work = sets work bounds (bounds_words p.domains)

unfoldable pub table_after : List ℤ → List ℤ → List ℤ
table_after ws work = cond (ltb (length work) min_work_words) work (cond (ltb max_set_words (length ws)) work (table_read (read_set ws) work))
