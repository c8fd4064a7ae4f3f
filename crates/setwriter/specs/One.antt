-- One statement's clauses by a work slice that holds its numbers, in either way of the second walk: what writing a rule or a table asks and gives.
-- n: the counters before the statement; s: the log before it.
use Rattle.std.specs.Prelude.{◌≡◌, List, [], ◌++◌, ℕ, ◌+◌, ◌≤◌, ℤ, length}
use Rattle.memory.specs.Places.{folded_end, limit}
use Rattle.syntax.specs.Syntax.{Domain, BoolExpr, Stmt, Rule, Table, AllDifferent, encode_stmt}
use Rattle.clauses.specs.Log.{Log}
use Rattle.clauses.proofs.Since.{clauses_since}
use Rattle.answer.specs.Answer.{normalize_stmt}
use Rattle.walk.specs.Item.{bump}
use Rattle.walk.specs.declared.Counters.{Counters}
use Rattle.walks.specs.Tree.{below, splits}
use Rattle.walks.specs.Implements.{at, Registers}
use Rattle.walks.specs.SumsFit.{Within}
use Rattle.stages.specs.StatementsParts.{Part}
use Rattle.stages.specs.StatementsRules.{rule_stage}
use Rattle.stmtwords.specs.Stands.{Stands}
use Rattle.tablewriter.specs.Step.{At as TableAt}
use Rattle.rows.specs.Emit.{Clauses}
use Rattle.setwriter.specs.Same.{Same}

-- ---- a rule

-- the part of the rule e at q; neither the records' place nor the longest answer plays a part in what is written
abbrev pub rule_part : List Domain → BoolExpr → ℕ → Part
rule_part ds e q = (rule_stage ds 0 0 e (q + 1)).part

-- its words by the slice are those of the clauses that the log has more
pub record RuleAt (ds : List Domain) (e : BoolExpr) (s : Log) (w : List ℤ) (q : ℕ) (n : Counters) : Type 0 where
  pub stands : Stands w q (Rule e)
  pub within : Within ds e
  pub room : n.bools + splits e below ≤ limit
  pub ints : n.ints ≤ limit
  pub size : folded_end ≤ length w
  pub adds : Registers ((rule_part ds e q).text w n ++ []) (bump ((rule_part ds e q).lines w n) 0) s (normalize_stmt ds (Rule e) s)

pub record SomeRule (w : List ℤ) (q : ℕ) (n : Counters) : Type 0 where
  pub domains : List Domain
  pub rule : BoolExpr
  pub before : Log
  pub it : RuleAt domains rule before w q n

pub record DidRule (ds : List Domain) (e : BoolExpr) (s : Log) (w : List ℤ) (q : ℕ) (n : Counters) (out : List ℤ) (o k : ℕ) (out' : List ℤ) (next : ℕ) (m : Counters) (o' k' : ℕ) : Type 0 where
  pub next_is : next ≡ q + length (encode_stmt (Rule e))
  pub counters : m ≡ (rule_part ds e q).behind w n
  pub clauses : Clauses out o k (clauses_since s (normalize_stmt ds (Rule e) s)) out' o' k'

-- whatever rule stands there
abbrev pub RulePut : List ℤ → ℕ → Counters → List ℤ → ℕ → ℕ → List ℤ → ℕ → Counters → ℕ → ℕ → Type 0
RulePut w q n out o k out' next m o' k' = (ds : List Domain) (e : BoolExpr) (s : Log) → RuleAt ds e s w q n → DidRule ds e s w q n out o k out' next m o' k'

-- ---- a rule or a table

abbrev pub OneAt : List Domain → Log → List ℤ → List ℤ → ℕ → Counters → Stmt → Type 0
OneAt ds s set w q n (Rule e) = RuleAt ds e s w q n
OneAt ds s set w q n (Table es rows) = TableAt (record { domains = ds; exprs = es; rows = rows; before = s }) set w q n
OneAt ds s set w q n (AllDifferent es) = ⊥

pub record SomeOne (set w : List ℤ) (q : ℕ) (n : Counters) : Type 0 where
  pub domains : List Domain
  pub stmt : Stmt
  pub before : Log
  pub it : OneAt domains before set w q n stmt

-- m: the counters behind it
abbrev pub Counted : List Domain → Log → List ℤ → ℕ → Counters → Counters → Stmt → Type 0
Counted ds s w q n m (Rule e) = m ≡ (rule_part ds e q).behind w n
Counted ds s w q n m (Table es rows) = m ≡ at w (normalize_stmt ds (Table es rows) s)
Counted ds s w q n m (AllDifferent es) = Unit {0}

pub record DidOne (ds : List Domain) (t : Stmt) (s : Log) (w : List ℤ) (q : ℕ) (n : Counters) (out : List ℤ) (o k : ℕ) (w' out' : List ℤ) (next : ℕ) (m : Counters) (o' k' : ℕ) : Type 0 where
  pub next_is : next ≡ q + length (encode_stmt t)
  pub counters : Counted ds s w q n m t
  pub clauses : Clauses out o k (clauses_since s (normalize_stmt ds t s)) out' o' k'
  pub same : Same w w'

abbrev pub OnePut : List ℤ → List ℤ → ℕ → Counters → List ℤ → ℕ → ℕ → List ℤ → List ℤ → ℕ → Counters → ℕ → ℕ → Type 0
OnePut set w q n out o k w' out' next m o' k' = (ds : List Domain) (t : Stmt) (s : Log) → OneAt ds s set w q n t → DidOne ds t s w q n out o k w' out' next m o' k'
