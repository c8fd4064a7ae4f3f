-- Demand 3 as types: satisfying, from a set's words; passing, from the answer's words; and what is to be proved of the call.
use Rattle.std.specs.Prelude.{◌≡◌, ◌↔◌, ◌⊎◌, Bool, true, false, List, [], ◌∷◌, ◌++◌, ℕ, ◌<◌, ℤ, length}
use Rattle.syntax.specs.Syntax.{domain_of, in_domain, BoolExpr, Not, Or, Members, mnil, more, Stmt, Rule, Problem}
use Rattle.syntax.specs.Satisfies.{Val, IVal, in_domains, satisfies}
use Rattle.words.specs.Parse.{Parsed, ok, refuse}
use Rattle.read.specs.Read.{read_set}
use Rattle.answer.specs.Passes.{Passes}
use Rattle.call.specs.Call.{Result, compiled, contradiction, refused, call_with}
use Rattle.call.specs.declared.Choices.{Choices}

-- ---- an assignment and a set's words

abbrev pub of_set : {A : Type 0} → A → (Problem → A) → Parsed Problem → A
of_set other f (ok p r) = f p
of_set other f (refuse k) = other

-- every declared integer has a value of its domain
unfoldable pub within : List ℤ → IVal → Bool
within set ε = of_set false (λ p. in_domains p ε) (read_set set)

unfoldable pub satisfied : List ℤ → Val → IVal → Bool
satisfied set δ ε = of_set false (λ p. satisfies p δ ε) (read_set set)

-- ---- an assignment and an answer; how many variables are declared stands in the set's words

unfoldable pub Passed : List ℤ → Result → Val → IVal → Type 0
Passed set (compiled ws) δ ε = Passes (of_set 0 (λ p. p.bools) (read_set set)) (of_set 0 (λ p. length p.domains) (read_set set)) ws δ ε
Passed set contradiction δ ε = ⊥
Passed set (refused k) δ ε = ⊥

abbrev pub NotRefused : Result → Type 0
NotRefused r = (k : ℕ) → r ≡ refused k → ⊥

-- ---- the claim, whatever is chosen: satisfying is passing. A contradiction is passed by none, so it is satisfied by none

abbrev pub Exact : Type 0
Exact = (c : Choices) (set : List ℤ) (out_length work_length : ℕ) → NotRefused (call_with c set out_length work_length) → (δ : Val) (ε : IVal) → within set ε ≡ true → (satisfied set δ ε ≡ true) ↔ Passed set (call_with c set out_length work_length) δ ε

-- ---- its consequences, for sets that declare the same variables, each with a call and choices of its own

-- the same counts, and the same values in each domain, however it is written
pub record SameVariables (p q : Problem) : Type 0 where
  pub bools : q.bools ≡ p.bools
  pub ints : length q.domains ≡ length p.domains
  pub values : (v : ℕ) (x : ℤ) → v < length p.domains → in_domain x (domain_of q.domains v) ≡ in_domain x (domain_of p.domains v)

-- a set with the variables of p and these statements, and a call of it that is not refused
pub record Called (p : Problem) (stmts : List Stmt) : Type 0 where
  pub choices : Choices
  pub set : List ℤ
  pub out_length : ℕ
  pub work_length : ℕ
  pub says : Problem
  pub read : read_set set ≡ ok says []
  pub same : SameVariables p says
  pub states : says.stmts ≡ stmts
  pub answered : NotRefused (call_with choices set out_length work_length)

abbrev pub PassedBy : {p : Problem} {stmts : List Stmt} → Val → IVal → Called p stmts → Type 0
PassedBy δ ε c = Passed c.set (call_with c.choices c.set c.out_length c.work_length) δ ε

-- a call for each member, as a rule of its own
pub data CalledEach (p : Problem) : Members → Type 0 where
  no_call : CalledEach p mnil
  one_more : {e : BoolExpr} {ms : Members} → Called p (Rule e ∷ []) → CalledEach p ms → CalledEach p (more e ms)

abbrev pub PassedBySome : {p : Problem} {ms : Members} → Val → IVal → CalledEach p ms → Type 0
PassedBySome δ ε no_call = ⊥
PassedBySome δ ε (one_more c cs) = PassedBy δ ε c ⊎ PassedBySome δ ε cs

pub record Consequences : Type 0 where
  -- two statement lists joined pass exactly when both do
  pub joined : (p : Problem) (ss ts : List Stmt) (a : Called p ss) (b : Called p ts) (c : Called p (ss ++ ts)) (δ : Val) (ε : IVal) → in_domains p ε ≡ true → PassedBy δ ε c ↔ (PassedBy δ ε a × PassedBy δ ε b)
  -- Not of a rule, exactly when the rule fails
  pub negated : (p : Problem) (e : BoolExpr) (a : Called p (Rule e ∷ [])) (c : Called p (Rule (Not e) ∷ [])) (δ : Val) (ε : IVal) → in_domains p ε ≡ true → PassedBy δ ε c ↔ (PassedBy δ ε a → ⊥)
  -- Or of rules, exactly when one passes
  pub either : (p : Problem) (ms : Members) (cs : CalledEach p ms) (c : Called p (Rule (Or ms) ∷ [])) (δ : Val) (ε : IVal) → in_domains p ε ≡ true → PassedBy δ ε c ↔ PassedBySome δ ε cs
