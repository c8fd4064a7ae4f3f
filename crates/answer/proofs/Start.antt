-- What is known of the log from which clauses are made, merged or empty.
use Rattle.std.specs.Prelude.{◌≡◌, Bool, true, false, List, [], ℕ}
use Rattle.laws.specs.Lists.{all}
use Rattle.syntax.specs.Syntax.{Domain, Stmt}
use Rattle.syntax.specs.Satisfies.{Val, IVal, stmt_holds}
use Rattle.syntax.specs.Written.{EveryStmts}
use Rattle.clauses.specs.Log.{next_int}
use Rattle.clauses.proofs.Entries.{WellMade}
use Rattle.clauses.proofs.Exist.{TiesHold}
use Rattle.clauses.specs.Merge.{WellMerged}
use Rattle.clauses.proofs.MergeLaws.{merge_well, merge_holds, merged_no_ints}
use Rattle.answer.specs.Answer.{start_log}
use Rattle.answer.proofs.Declared.{merge_made}

pub start_well : (m : Bool) (ss : List Stmt) → WellMerged (start_log m ss)
unfolding start_log
start_well false ss = tt
start_well true ss = merge_well ss [] tt

pub start_ints : (m : Bool) (ss : List Stmt) → next_int (start_log m ss) ≡ 0
start_ints m ss = merged_no_ints (start_log m ss) (start_well m ss)

pub start_made : (ds : List Domain) (P Q : ℕ → Type 0) (m : Bool) (ss : List Stmt) → EveryStmts P Q ss → WellMade ds P Q (start_log m ss)
unfolding start_log
start_made ds P Q false ss h = tt
start_made ds P Q true ss h = merge_made ds P Q ss [] h tt

-- whoever satisfies the statements keeps the ties
pub start_holds : (δ : Val) (ε : IVal) (m : Bool) (ss : List Stmt) → all (stmt_holds δ ε (λ n. false)) ss ≡ true → TiesHold δ (start_log m ss)
unfolding start_log
start_holds δ ε false ss h = tt
start_holds δ ε true ss h = merge_holds δ ε (λ n. false) ss [] h tt
