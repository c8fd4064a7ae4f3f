-- One rule or table by a slice: what its words ask of the functions below, and its clauses behind k others. Assumes nothing.
use mathlib.Core.Path.{◌≡◌, sym, ap, ◌∙◌}
use mathlib.Core.List.{List, append-nil}
use Prim.Native.Nat.{ℕ, ◌+◌, ◌≤◌, min}
use native.Mathlib.Omega.{arith}
use lib.IntN.{ℤ, pos}
use lib.ListN.{length}
use Rattle.laws.specs.Slices.{Has, has_rest}
use Rattle.laws.specs.Writes.{wrote_to}
use Rattle.memory.specs.Places.{folded_end}
use Rattle.memory.specs.Number.{nat}
use Rattle.syntax.specs.Syntax.{Domain, IntExpr, BoolExpr, encode_bool, Cell, Stmt, Rule, Table, AllDifferent, encode_stmt}
use Rattle.syntax.specs.Codes.{stmt_code, stmt_code_word}
use Rattle.clauses.specs.Log.{Log}
use Rattle.clauses.proofs.Since.{since_is}
use Rattle.answer.specs.Answer.{normalize_stmt}
use Rattle.walk.specs.Item.{bump}
use Rattle.walk.specs.Decode.{word, read_part}
use Rattle.walk.specs.declared.Counters.{Counters}
use Rattle.walks.specs.Tree.{below}
use Rattle.walks.specs.DecodeExact.{rule_at}
use Rattle.walks.specs.SumsFit.{rule_fits}
use Rattle.scan.specs.Skip.{Skips}
use Rattle.stmtwords.proofs.Ends.{some_inside}
use Rattle.rulewriter.specs.declared.Tied.{Tied}
use Rattle.rulewriter.specs.Places.{Placed, AllFit}
use Rattle.rulewriter.specs.Ties.{Blocks, behind_rule}
use Rattle.rulewriter.specs.Rules.{rule_asked, rule_listed, rule_ends}
use Rattle.tablewriter.specs.declared.Columned.{Columned}
use Rattle.tablewriter.specs.Step.{SomeAt as SomeTableAt, Did as TableDid}
use Rattle.tablewriter.proofs.Tables.{registers_clauses}
use Rattle.rows.proofs.Looping.{clauses_to}
use Rattle.setwriter.specs.Same.{same_none}
use Rattle.setwriter.specs.One.{RuleAt, SomeRule, DidRule, OneAt, SomeOne, DidOne}

-- ---- a rule

module _ {ds : List Domain} {e : BoolExpr} {s : Log} {w : List ℤ} {q : ℕ} {n : Counters} (h : RuleAt ds e s w q n) where
  words : Has (read_part w) (q + 1) (encode_bool e)
  words = unfold encode_stmt in has_rest (read_part w) q (pos 1) (encode_bool e) h.stands.words

  pub rule_inside : q + 1 ≤ folded_end
  rule_inside = some_inside w q (record { stmt = Rule e; stands = h.stands })

  pub rule_placed : Placed w (q + 1) n.bools n
  rule_placed = record { size = h.size; inside = rule_inside; low_base = omega (arith, h.room); low = (omega (arith, h.room), h.ints) }

  pub rule_fit : AllFit (rule_at (read_part w) 64 (q + 1) n.bools)
  rule_fit = rule_asked w e (q + 1) n h.stands.legal words h.room ds (rule_fits ds e (q + 1) n.bools h.within)

  -- j: the count behind it
  pub rule_did : {out out' : List ℤ} {o k : ℕ} (r : Tied) → Blocks w (rule_at (read_part w) 64 (q + 1) n.bools) (behind_rule w (q + 1) n) out o out' r → Skips (read_part w) 64 below (q + 1) n.bools r.at r.base
      → k ≤ o → {j : ℕ} → j ≡ min (bump k r.lines) r.o → DidRule ds e s w q n out o k out' r.at r.n r.o j
  rule_did r b z l {j} i =
      let x = rule_listed w e (q + 1) n h.stands.legal words h.room ds r b in
      let m : length (encode_stmt (Rule e)) ≡ 1 + length (encode_bool e) = unfold encode_stmt in omega arith in
      let v = wrote_to (sym (append-nil _)) x.wrote in
      record {
        next_is = rule_ends w e (q + 1) n h.stands.legal words h.room r.at r.base z ∙ omega (arith, m);
        counters = x.count;
        clauses = clauses_to (sym (since_is s (normalize_stmt ds (Rule e) s) h.adds.cs h.adds.eq)) (registers_clauses h.adds l v j (omega (arith, i, x.lines)));
      }

-- ---- a rule or a table, by the first word k

module _ (set w : List ℤ) (q : ℕ) (n : Counters) where
  kind_word : (t : Stmt) → Has (read_part w) q (encode_stmt t) → word (read_part w) q ≡ stmt_code t
  unfolding word nat
  kind_word t h = ap nat (stmt_code_word (read_part w) q t h)

  one_word : (ds : List Domain) (t : Stmt) (s : Log) → OneAt ds s set w q n t → word (read_part w) q ≡ stmt_code t
  one_word ds (Rule e) s h = kind_word (Rule e) h.stands.words
  one_word ds (Table es rows) s h = kind_word (Table es rows) h.stands
  one_word ds (AllDifferent es) s h = absurd h

  module _ (k : ℕ) (hk : k ≡ word (read_part w) q) where
    other : {X : Type 0} (ds : List Domain) (t : Stmt) (s : Log) → (k ≡ stmt_code t → ⊥) → OneAt ds s set w q n t → X
    other ds t s z h = absurd (z (hk ∙ one_word ds t s h))

    pub some_rule : SomeOne set w q n → k ≡ 1 → SomeRule w q n
    some_rule x z = go x.stmt x.it
      where
        go : (t : Stmt) → OneAt x.domains x.before set w q n t → SomeRule w q n
        go (Rule e) h = record { domains = x.domains; rule = e; before = x.before; it = h }
        go (Table es rows) h = other x.domains (Table es rows) x.before (λ i. omega (arith, z, i)) h
        go (AllDifferent es) h = absurd h

    pub some_table : SomeOne set w q n → (k ≡ 1 → ⊥) → SomeTableAt set w q n
    some_table x z = go x.stmt x.it
      where
        go : (t : Stmt) → OneAt x.domains x.before set w q n t → SomeTableAt set w q n
        go (Rule e) h = other x.domains (Rule e) x.before z h
        go (Table es rows) h = record { place = record { domains = x.domains; exprs = es; rows = rows; before = x.before }; it = h }
        go (AllDifferent es) h = absurd h

    module _ {out out' : List ℤ} {o j : ℕ} where
      pub one_rule : k ≡ 1 → {next : ℕ} {m : Counters} {o' j' : ℕ} → ((ds : List Domain) (e : BoolExpr) (s : Log) → RuleAt ds e s w q n → DidRule ds e s w q n out o j out' next m o' j')
          → (ds : List Domain) (t : Stmt) (s : Log) → OneAt ds s set w q n t → DidOne ds t s w q n out o j w out' next m o' j'
      one_rule z g ds (Rule e) s h = let d = g ds e s h in record { next_is = d.next_is; counters = d.counters; clauses = d.clauses; same = same_none w }
      one_rule z g ds (Table es rows) s h = other ds (Table es rows) s (λ i. omega (arith, z, i)) h
      one_rule z g ds (AllDifferent es) s h = absurd h

      pub one_table : (k ≡ 1 → ⊥) → {w' : List ℤ} {r : Columned} → ((ds : List Domain) (es : List IntExpr) (rows : List (List Cell)) (s : Log) → OneAt ds s set w q n (Table es rows) → TableDid (record { domains = ds; exprs = es; rows = rows; before = s }) w q out o j w' out' r)
          → (ds : List Domain) (t : Stmt) (s : Log) → OneAt ds s set w q n t → DidOne ds t s w q n out o j w' out' r.next r.n r.at r.clauses
      unfolding normalize_stmt
      one_table z g ds (Rule e) s h = other ds (Rule e) s z h
      one_table z g ds (Table es rows) s h = let d = g ds es rows s h in record { next_is = d.next; counters = d.counters; clauses = d.clauses; same = record { below = d.kept; size = d.size } }
      one_table z g ds (AllDifferent es) s h = absurd h
