-- Laws for the loop over the statements. F: the folded words at entry, which stay.
use mathlib.Core.Path.{◌≡◌, refl, sym, ap, ◌∙◌, subst}
use mathlib.Core.Bool.{Bool, true, false}
use mathlib.Core.List.{List, [], ◌∷◌}
use Prim.Native.Nat.{ℕ, ◌+◌, ◌≤◌, ◌<◌}
use native.Mathlib.Omega.{arith}
use lib.IntN.{ℤ}
use lib.ListN.{length, length-append}
use Rattle.laws.specs.Slices.{Has, has_fits, has_front, has_back}
use Rattle.memory.specs.Places.{folded, folded_end, limit}
use Rattle.syntax.specs.Syntax.{Stmt, encode_stmt, Problem}
use Rattle.words.specs.Exact.{Each}
use Rattle.fold.specs.Fold.{Fixed}
use Rattle.clauses.specs.Log.{Log, next_bool}
use Rattle.clauses.specs.Merge.{merge_stmt, merge_stmts}
use Rattle.answer.specs.Answer.{start_log}
use Rattle.walk.specs.Item.{State}
use Rattle.walk.specs.Decode.{read_part}
use Rattle.walk.proofs.Num.{Numbered}
use Rattle.walk.proofs.NumberingSteps.{part_short, part_word}
use Rattle.statements.specs.Bounds.{merge_grows, start_low}
use Rattle.statements.specs.Whole.{start, start_numbered}
use Rattle.statements.specs.Ties.{meet_ties_at}
use Rattle.statements.specs.Stages.{stmts_words, settled_short, Folded, Started, SomeFolded}
use Rattle.stages.specs.StatementsPlaces.{LegalStmt}
use Rattle.stages.specs.StartLegal.{settled_legal}
use Rattle.stages.specs.StartTies.{stmt_tied}
use Rattle.stmtwords.specs.Stands.{WellRows, Stands, SomeStmt, StmtEnds}
use Rattle.stmtwords.specs.Rows.{settled_rows}
use Rattle.stmtwords.proofs.Ends.{some_word}
use Rattle.merging.specs.Merging.{Aside, Ties, MergedAll}
use Rattle.merging.proofs.Laws.{aside_same, aside_then}

-- ---- before the statement at q: the statements left, the log so far

pub record Left (p : Problem) (ss : List Stmt) (w : List ℤ) (end : ℕ) (w' : List ℤ) (n q : ℕ) (rest : List Stmt) : Type 0 where
  pub log : Log
  pub ends : q + length (stmts_words rest) ≡ end
  pub stands : Has (read_part w) q (stmts_words rest)
  pub legal : Each LegalStmt rest
  pub rows : Each WellRows rest
  pub numbered : Numbered (start w' n) log
  pub logs : merge_stmts rest log ≡ start_log true ss

pub record SomeLeft (p : Problem) (ss : List Stmt) (w : List ℤ) (end : ℕ) (w' : List ℤ) (n q : ℕ) : Type 0 where
  pub rest : List Stmt
  pub left : Left p ss w end w' n q rest

pub record Sofar (w : List ℤ) (end : ℕ) (w' : List ℤ) (n q : ℕ) : Type 0 where
  pub aside : Aside w w'
  pub low : n ≤ limit
  pub some : (p : Problem) (f : Fixed) (ss : List Stmt) → Folded p f ss w → end ≡ folded + length (stmts_words ss) → SomeLeft p ss w end w' n q

pub all_start : (w : List ℤ) (end : ℕ) → Sofar w end w 0 folded
all_start w end = record {
  aside = aside_same w;
  low = omega arith;
  some = λ p f ss h e. record {
    rest = ss;
    left = record {
      log = [];
      ends = sym e;
      stands = h.stands;
      legal = settled_legal p h.set.well f ss h.set.ends;
      rows = settled_rows p h.set.well f ss h.set.ends;
      numbered = start_numbered w h.empty;
      logs = unfold start_log in refl;
    };
  };
}

-- ---- the statement at q

module _ (p : Problem) (f : Fixed) (ss : List Stmt) (w : List ℤ) (h : Folded p f ss w) where
  abbrev F : List ℤ
  F = read_part w

  short : length (stmts_words ss) ≤ 4096
  short = omega (arith, settled_short p f ss h.set)

  module _ (end : ℕ) (w' : List ℤ) (n q : ℕ) where
    module _ (t : Stmt) (ts : List Stmt) (x : Left p ss w end w' n q (t ∷ ts)) where
      here : Has F q (encode_stmt t)
      here = has_front F q (encode_stmt t) (stmts_words ts) x.stands

      inside : q + length (encode_stmt t) ≤ folded_end
      inside = omega (arith, has_fits F q (encode_stmt t) here (some_word t), part_short w)

      stmt_stands : read_part w' ≡ F → Stands w' q t
      stmt_stands part = record { words = rw part here; legal = x.legal.0; rows = x.rows.0 }

      left_next : (w'' : List ℤ) (r q' : ℕ) → q' ≡ q + length (encode_stmt t) → Ties (meet_ties_at F q) w' n w'' r → Left p ss w end w'' r q' ts
      unfolding merge_stmts
      left_next w'' r q' e m =
          let g : next_bool (merge_stmt t x.log) ≤ limit = omega (arith, merge_grows ts (merge_stmt t x.log), ap next_bool x.logs, start_low true ss, short) in
          record {
            log = merge_stmt t x.log;
            ends = omega (arith, e, x.ends, length-append (encode_stmt t) (stmts_words ts));
            stands = rw e (has_back F q (encode_stmt t) (stmts_words ts) x.stands);
            legal = x.legal.1;
            rows = x.rows.1;
            numbered = subst (λ (s : State). Numbered s (merge_stmt t x.log)) (sym m.state) (stmt_tied F (start w' n) x.log x.numbered q t x.legal.0 here g);
            logs = x.logs;
          }

    some_stmt : (rest : List Stmt) → Left p ss w end w' n q rest → read_part w' ≡ F → q < end → SomeStmt w' q
    some_stmt [] x part l = absurd (omega (arith, x.ends))
    some_stmt (t ∷ ts) x part l = record { stmt = t; stands = stmt_stands t ts x part }

    stmt_inside : (rest : List Stmt) → Left p ss w end w' n q rest → q < end → q ≤ folded_end
    stmt_inside [] x l = absurd (omega (arith, x.ends))
    stmt_inside (t ∷ ts) x l = omega (arith, inside t ts x)

    next_left : (rest : List Stmt) → Left p ss w end w' n q rest → read_part w' ≡ F → q < end → (w'' : List ℤ) (r q' : ℕ) → StmtEnds w' q q' → Ties (meet_ties_at (read_part w') q) w' n w'' r → SomeLeft p ss w end w'' r q'
    next_left [] x part l w'' r q' e m = absurd (omega (arith, x.ends))
    next_left (t ∷ ts) x part l w'' r q' e m = record { rest = ts; left = left_next t ts x w'' r q' (e t (stmt_stands t ts x part)) (subst (λ (l : List ℤ). Ties (meet_ties_at l q) w' n w'' r) part m) }

    -- no statement is left
    ready : (rest : List Stmt) → Left p ss w end w' n q rest → read_part w' ≡ F → end ≤ q → Started true p f ss w' n
    unfolding merge_stmts
    ready [] x part l = record {
      set = h.set;
      values = λ v k. part_word w w' part v (omega arith) ∙ h.values v k;
      stands = subst (λ (l : List ℤ). Has l folded (stmts_words ss)) (sym part) h.stands;
      numbered = subst (λ (s : Log). Numbered (start w' n) s) x.logs x.numbered;
    }
    ready (t ∷ ts) x part l = absurd (omega (arith, x.ends, some_word t, length-append (encode_stmt t) (stmts_words ts)))

-- ---- the loop

module _ (w : List ℤ) (end : ℕ) (s : SomeFolded w end) (w' : List ℤ) (n q : ℕ) (x : Sofar w end w' n q) where
  abbrev y : SomeLeft s.it s.stmts w end w' n q
  y = x.some s.it s.fixed s.stmts s.folded s.ends

  pub stmt_here : q < end → SomeStmt w' q
  stmt_here l = some_stmt s.it s.fixed s.stmts w s.folded end w' n q y.rest y.left x.aside.part l

  pub here_inside : q < end → q ≤ folded_end
  here_inside l = stmt_inside s.it s.fixed s.stmts w s.folded end w' n q y.rest y.left l

  pub size_here : folded_end ≤ length w'
  size_here = omega (arith, x.aside.size, s.folded.empty.size)

  pub moved : (q' : ℕ) → q < end → StmtEnds w' q q' → q < q'
  moved q' l e = let t = stmt_here l in omega (arith, e t.stmt t.stands, some_word t.stmt)

  pub all_again : (w'' : List ℤ) (r q' : ℕ) → q < end → StmtEnds w' q q' → Ties (meet_ties_at (read_part w') q) w' n w'' r → Sofar w end w'' r q'
  all_again w'' r q' l e m = record {
    aside = aside_then x.aside m.aside;
    low = m.low;
    some = λ p f ss h i. let z = x.some p f ss h i in next_left p f ss w h end w' n q z.rest z.left x.aside.part l w'' r q' e m;
  }

pub all_done : (w : List ℤ) (end : ℕ) (w' : List ℤ) (n q : ℕ) → Sofar w end w' n q → end ≤ q → MergedAll true w end w' n
all_done w end w' n q x l = record {
  started = λ p f ss h i. let z = x.some p f ss h i in ready p f ss w h end w' n q z.rest z.left x.aside.part l;
  aside = x.aside;
}

-- ---- merging that was not chosen

pub unmerged : (w : List ℤ) (end : ℕ) → MergedAll false w end w 0
unfolding start_log
unmerged w end = record {
  started = λ p f ss h i. record { set = h.set; values = h.values; stands = h.stands; numbered = start_numbered w h.empty };
  aside = aside_same w;
}

pub merged_as : {w w' : List ℤ} {end n : ℕ} (merge chosen : Bool) → merge ≡ chosen → MergedAll chosen w end w' n → MergedAll merge w end w' n
merged_as {w} {w'} {end} {n} merge chosen e m = subst (λ (b : Bool). MergedAll b w end w' n) (sym e) m
