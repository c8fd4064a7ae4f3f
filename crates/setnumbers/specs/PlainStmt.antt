-- Statements without Ifs: those that stand where no If stands (`plain_stmt`).
use Rattle.std.specs.Prelude.{List, [], ◌∷◌, ℕ, ◌+◌, ◌≤◌, ℤ, length}
use Rattle.std.proofs.Common.{arith, length-append}
use Rattle.std.proofs.Math.IntN.{pos}
use Rattle.laws.specs.Slices.{Has, has_front, has_back}
use Rattle.memory.specs.Places.{folded}
use Rattle.syntax.specs.Syntax.{IntExpr, encode_int, Stmt, Rule, Table, AllDifferent, encode_stmt}
use Rattle.words.specs.Exact.{Each}
use Rattle.walks.specs.Legal.{LegalInt}
use Rattle.stages.specs.StatementsParts.{NoIfs}
use Rattle.stages.specs.StatementsPlaces.{stmts_words, LegalStmt}
use Rattle.stages.specs.Pairs.{sides_words}
use Rattle.stmtwords.specs.NoIf.{NoIf, none_int}

-- no If in an AllDifferent
abbrev pub PlainStmt : Stmt → Type 0
PlainStmt (Rule e) = Unit {0}
PlainStmt (Table es rows) = Unit {0}
PlainStmt (AllDifferent es) = Each NoIf es

module _ (F : List ℤ) (b : ℕ) (none : NoIfs F b) where
  plain_sides : (es : List IntExpr) (p : ℕ) → Each (λ e. LegalInt e 64) es → Has F p (sides_words es) → folded ≤ p → p + length (sides_words es) ≤ b → Each NoIf es
  plain_sides [] p h d l m = tt
  plain_sides (e ∷ es) p h d l m =
      let n = length-append (encode_int e) (sides_words es) in
      (none_int F b none e 64 p (omega arith) h.0 (has_front F p (encode_int e) (sides_words es) d) l (omega (arith, n)), plain_sides es (p + length (encode_int e)) h.1 (has_back F p (encode_int e) (sides_words es) d) (omega arith) (omega (arith, n)))

  pub plain_stmt : (at : ℕ) (t : Stmt) → LegalStmt t → Has F at (encode_stmt t) → folded ≤ at → at + length (encode_stmt t) ≤ b → PlainStmt t
  unfolding encode_stmt
  plain_stmt at (Rule e) h d l m = tt
  plain_stmt at (Table es rows) h d l m = tt
  plain_stmt at (AllDifferent es) h d l m = plain_sides es (at + 2) h (has_back F at (pos 3 ∷ pos (length es) ∷ []) (sides_words es) d) (omega arith) (omega arith)

  pub plain_stmts : (at : ℕ) (ts : List Stmt) → Each LegalStmt ts → Has F at (stmts_words ts) → folded ≤ at → at + length (stmts_words ts) ≤ b → Each PlainStmt ts
  plain_stmts at [] h d l m = tt
  plain_stmts at (t ∷ ts) h d l m =
      let n = length-append (encode_stmt t) (stmts_words ts) in
      (plain_stmt at t h.0 (has_front F at (encode_stmt t) (stmts_words ts) d) l (omega (arith, n)), plain_stmts (at + length (encode_stmt t)) ts h.1 (has_back F at (encode_stmt t) (stmts_words ts) d) (omega arith) (omega (arith, n)))
