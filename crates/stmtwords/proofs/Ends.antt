-- Which statement stands at a place by its first word, and where it ends.
use mathlib.Core.Path.{◌≡◌, refl, ap, ◌∙◌, sym}
use mathlib.Core.Bool.{false}
use mathlib.Core.List.{List}
use Prim.Native.Nat.{ℕ, suc, ◌+◌, ◌*◌, ◌≤◌, ◌<◌}
use native.Mathlib.Omega.{arith}
use lib.IntN.{ℤ, pos}
use lib.ListN.{length}
use Rattle.laws.specs.Slices.{Has, has_fits, has_rest}
use Rattle.memory.specs.Places.{folded_end, limit}
use Rattle.memory.specs.Number.{nat}
use Rattle.syntax.specs.Syntax.{BoolExpr, encode_bool, Stmt, Rule, Table, AllDifferent, encode_stmt}
use Rattle.syntax.specs.Codes.{stmt_code, stmt_code_word}
use Rattle.walk.specs.Decode.{word, read_part}
use Rattle.walk.proofs.NumberingSteps.{part_short}
use Rattle.walks.specs.Tree.{below, splits}
use Rattle.walks.specs.Decode.{decode}
use Rattle.walks.specs.DecodeExact.{rule_stands}
use Rattle.walks.specs.Ends.{decode_end}
use Rattle.stages.specs.Columns.{columns_end}
use Rattle.stages.specs.Room.{splits_low}
use Rattle.scan.specs.Skip.{split_by, Skips}
use Rattle.stmtwords.specs.Stands.{Stands, SomeStmt, SomeTable, SomeDifferent, StmtEnds, TableEnds}
use Rattle.stmtwords.proofs.Words.{columns_stop, table_words, table_stop, different_words}

pub some_word : (t : Stmt) → 0 < length (encode_stmt t)
unfolding encode_stmt
some_word (Rule e) = omega arith
some_word (Table es rows) = omega arith
some_word (AllDifferent es) = omega arith

module _ (w : List ℤ) (at : ℕ) where
  stmt_word : (t : Stmt) → Stands w at t → word (read_part w) at ≡ stmt_code t
  unfolding word nat
  stmt_word t h = ap nat (stmt_code_word (read_part w) at t h.words)

  pub rule_words : (e : BoolExpr) → Stands w at (Rule e) → Has (read_part w) (at + 1) (encode_bool e)
  unfolding encode_stmt
  rule_words e h = has_rest (read_part w) at (pos 1) (encode_bool e) h.words

  pub stmt_inside : (t : Stmt) → Stands w at t → at + length (encode_stmt t) ≤ folded_end
  stmt_inside t h = omega (arith, has_fits (read_part w) at (encode_stmt t) h.words (some_word t), part_short w)

  pub some_inside : SomeStmt w at → at + 1 ≤ folded_end
  some_inside s = omega (arith, some_word s.stmt, stmt_inside s.stmt s.stands)

  pub ends_later : (q : ℕ) → StmtEnds w at q → SomeStmt w at → at < q
  ends_later q e s = omega (arith, e s.stmt s.stands, some_word s.stmt)

  -- a rule is read to its end
  pub rule_stop : (e : BoolExpr) → Stands w at (Rule e) → (decode (read_part w) 64 below false (at + 1) 0).end ≡ at + length (encode_stmt (Rule e))
  rule_stop e h =
      let l : length (encode_stmt (Rule e)) ≡ suc (length (encode_bool e)) = unfold encode_stmt in refl in
      let i : 0 + splits e below ≤ limit = omega (arith, splits_low e below, stmt_inside (Rule e) h, l) in
      let r = rule_stands e (read_part w) 64 (at + 1) 0 h.legal (rule_words e h) i in
      omega (arith, r.end, l)

  -- ---- by the first word k

  module _ (k : ℕ) (hk : k ≡ word (read_part w) at) where
    -- a statement of another code
    pub not_here : {X : Type 0} (t : Stmt) → (k ≡ stmt_code t → ⊥) → Stands w at t → X
    not_here t z h = absurd (z (hk ∙ stmt_word t h))

    pub some_table : SomeStmt w at → (k ≡ 1 → ⊥) → (k ≡ 3 → ⊥) → SomeTable w at
    some_table s y z = go s.stmt s.stands
      where
        go : (t : Stmt) → Stands w at t → SomeTable w at
        go (Rule e) h = not_here (Rule e) y h
        go (Table es rows) h = record { columns = es; cells = rows; stands = h }
        go (AllDifferent es) h = not_here (AllDifferent es) z h

    pub some_different : SomeStmt w at → k ≡ 3 → SomeDifferent w at
    some_different s z = go s.stmt s.stands
      where
        go : (t : Stmt) → Stands w at t → SomeDifferent w at
        go (Rule e) h = not_here (Rule e) (λ q. omega (arith, z, q)) h
        go (Table es rows) h = not_here (Table es rows) (λ q. omega (arith, z, q)) h
        go (AllDifferent es) h = record { exprs = es; stands = h }

    -- a statement that is no rule has a second word
    pub second_inside : SomeStmt w at → (k ≡ 1 → ⊥) → at + 2 ≤ folded_end
    second_inside s y = go s.stmt s.stands
      where
        go : (t : Stmt) → Stands w at t → at + 2 ≤ folded_end
        go (Rule e) h = not_here (Rule e) y h
        go (Table es rows) h = omega (arith, (table_words w at es rows h).inside, (table_words w at es rows h).size)
        go (AllDifferent es) h = omega (arith, (different_words w at es h).inside, (different_words w at es h).size)

    -- ---- the end

    pub rule_ends : (n q b : ℕ) → k ≡ 1 → Skips (read_part w) 64 (split_by 1) (at + 1) n q b → StmtEnds w at q
    unfolding split_by
    rule_ends n q b z s (Rule e) h = s.end false ∙ decode_end (read_part w) 64 below false (at + 1) n ∙ sym (decode_end (read_part w) 64 below false (at + 1) 0) ∙ rule_stop e h
    rule_ends n q b z s (Table es rows) h = not_here (Table es rows) (λ x. omega (arith, z, x)) h
    rule_ends n q b z s (AllDifferent es) h = not_here (AllDifferent es) (λ x. omega (arith, z, x)) h

    pub different_ends : (n p : ℕ) → k ≡ 3 → n ≡ word (read_part w) (at + 1) → p ≡ columns_end (read_part w) n (at + 2) → StmtEnds w at p
    different_ends n p z hn hp (Rule e) h = not_here (Rule e) (λ q. omega (arith, z, q)) h
    different_ends n p z hn hp (Table es rows) h = not_here (Table es rows) (λ q. omega (arith, z, q)) h
    different_ends n p z hn hp (AllDifferent es) h =
        let x = different_words w at es h in
        let s = columns_stop (read_part w) es (at + 2) h.legal x.stands in
        hp ∙ ap (λ (m : ℕ). columns_end (read_part w) m (at + 2)) (hn ∙ x.count) ∙ omega (arith, s, x.size)

    pub table_ends : (n m p : ℕ) → (k ≡ 1 → ⊥) → (k ≡ 3 → ⊥) → n ≡ word (read_part w) (at + 1) → m ≡ word (read_part w) (at + 2) → p ≡ columns_end (read_part w) n (at + 3) → StmtEnds w at (p + m * n)
    table_ends n m p y z hn hm hp (Rule e) h = not_here (Rule e) y h
    table_ends n m p y z hn hm hp (AllDifferent es) h = not_here (AllDifferent es) z h
    table_ends n m p y z hn hm hp (Table es rows) h = table_stop w at es rows h n m p hn hm hp

    pub table_only : (q : ℕ) → (k ≡ 1 → ⊥) → (k ≡ 3 → ⊥) → TableEnds w at q → StmtEnds w at q
    table_only q y z t (Rule e) h = not_here (Rule e) y h
    table_only q y z t (Table es rows) h = t es rows h
    table_only q y z t (AllDifferent es) h = not_here (AllDifferent es) z h
