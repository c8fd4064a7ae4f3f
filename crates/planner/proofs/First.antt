-- The first walk over a set whose walks begin at the slice w, with the output's part `out`: what it asks (`asks`); full, the answer is too long
-- (`full_long`); else the state behind it is stages' (`ends_there`), its maps serve the second walk (`mapped`) and the answer is known (`answer`).
use mathlib.Core.Path.{◌≡◌, sym, ap, ◌∙◌, subst}
use mathlib.Core.Bool.{Bool, false}
use mathlib.Core.List.{List, ◌∷◌, ◌++◌}
use Prim.Native.Nat.{ℕ, ◌≤◌, ◌<◌}
use native.Mathlib.Omega.{arith}
use lib.IntN.{ℤ, pos}
use lib.ListN.{length, get_or}
use lib.Seq.{sets}
use Rattle.memory.specs.Places.{folded}
use Rattle.syntax.specs.Words.{max_answer_words, max_bools}
use Rattle.syntax.specs.Syntax.{Domain, Stmt, Problem}
use Rattle.words.specs.Exact.{Each}
use Rattle.fold.specs.Fold.{Fixed}
use Rattle.clauses.specs.Log.{Log, next_int, clauses_of}
use Rattle.answer.specs.Answer.{fixed_word, start_log, layout, normalize}
use Rattle.walk.specs.Decode.{read_part}
use Rattle.walks.specs.Item.{counters, has_ifs}
use Rattle.walks.specs.Meet.{State}
use Rattle.walks.specs.Good.{records_of}
use Rattle.declared.specs.DomainTable.{Declares}
use Rattle.statements.specs.Stages.{log_of}
use Rattle.stages.specs.StatementsPlaces.{Marked}
use Rattle.stages.specs.Start.{start, Begun}
use Rattle.stages.specs.StartFits.{StmtWithin, settled_within}
use Rattle.stages.specs.Whole.{records_from, behind, Walkable, too_long, ended}
use Rattle.stages.specs.WholeSet.{settled_walkable}
use Rattle.numbering.specs.Task.{Kept, Low}
use Rattle.stmtwords.specs.Stands.{WellRows}
use Rattle.stmtwords.specs.Rows.{settled_rows}
use Rattle.setnumbers.specs.Numbered.{StandAll, AsksAll, DoneAll}
use Rattle.numbering.specs.Follow.{Agree, same, full}
use Rattle.setnumbers.specs.Begins.{start_asks, start_agrees}
use Rattle.front.specs.Front.{front_words}
use Rattle.rows.specs.Emit.{clauses_words, Behind}
use Rattle.setwriter.specs.Step.{AllMapped}
use Rattle.setwriter.specs.Whole.{answer_is, by_maps}
use Rattle.planner.specs.Steps.{Prepared}
use Rattle.planner.proofs.Prepared.{kept_stays, prepared_stays, ifs_stay}

module _ (merge : Bool) (p : Problem) (f : Fixed) (ss : List Stmt) (set' w : List ℤ) (end n : ℕ) (out : List ℤ) (h : Prepared p f ss set' w end) (b : Begun (read_part w) (has_ifs w) w n (start_log merge ss)) (small : length out ≤ max_answer_words) where
  abbrev ds : List Domain
  ds = p.domains

  abbrev F : List ℤ
  F = read_part w

  abbrev cap : ℕ
  cap = length out

  abbrev log : Log
  log = log_of merge p ss

  walkable : Walkable p ss F (has_ifs w) cap
  walkable = settled_walkable p f ss h.lent.settled F h.lent.stands (has_ifs w) (subst (λ (e : ℕ). Marked F e (has_ifs w)) h.lent.ends h.lent.marked) cap small

  within : Each (StmtWithin p.domains) ss
  within = settled_within p h.lent.settled.well f ss h.lent.settled.ends h.lent.settled.unrefused

  rows : Each WellRows ss
  rows = settled_rows p h.lent.settled.well f ss h.lent.settled.ends

  stand : StandAll w folded end ss
  stand = record {
    words = h.lent.stands;
    legal = walkable.legal;
    rows = rows;
    stop = h.lent.ends;
  }

  pub asks : AsksAll (records_from p) (length out) folded end (start w out n)
  asks = subst (λ (e : ℕ). AsksAll (records_from p) cap folded e (start w out n)) (sym h.lent.ends) (start_asks merge p f ss F (has_ifs w) cap walkable within rows w n b h.domains out)

  -- ---- behind it

  module _ (st : State) (d : DoneAll (records_from p) (length out) folded end (start w out n) st) where
    agree : Agree cap st (behind p ss F cap (start w out n))
    agree = start_agrees merge p f ss F (has_ifs w) cap walkable within rows w n b h.domains out st (subst (λ (e : ℕ). DoneAll (records_from p) cap folded e (start w out n) st) h.lent.ends d)

    pub kept : Kept (start w out n) st
    kept = (d ss stand).kept

    pub low : Low st
    low = (d ss stand).low

    pub full_long : length out < st.used → length out < length (layout (normalize merge p f ss))
    full_long l = go agree
      where
        go : Agree cap st (behind p ss F cap (start w out n)) → cap < length (layout (normalize merge p f ss))
        go (same e) = too_long merge p f ss F (has_ifs w) cap walkable w n b out (subst (λ (x : State). cap < x.used) e l)
        go (full x e) = too_long merge p f ss F (has_ifs w) cap walkable w n b out (omega (arith, e))

    module _ (u : st.used ≤ length out) where
      ends_there : st ≡ behind p ss F cap (start w out n)
      ends_there = go agree
        where
          go : Agree cap st (behind p ss F cap (start w out n)) → st ≡ behind p ss F cap (start w out n)
          go (same e) = e
          go (full x e) = absurd (omega arith)

      used_there : (behind p ss F cap (start w out n)).used ≤ cap
      used_there = subst (λ (x : State). x.used ≤ cap) ends_there u

      pub numbered : Prepared p f ss set' st.work end
      numbered = prepared_stays h (kept_stays kept)

      pub records : st.out ≡ sets out (records_from p) (records_of p.domains (log_of merge p ss))
      records = ap (λ (x : State). x.out) ends_there ∙ (ended merge p f ss F (has_ifs w) cap walkable w n b out used_there).standing.state.records

      pub ints : st.ints ≡ next_int (log_of merge p ss)
      ints = ap (λ (x : State). x.ints) ends_there ∙ (ended merge p f ss F (has_ifs w) cap walkable w n b out used_there).standing.state.ints

      abbrev Answer : State → Type 0
      Answer x = ((v : ℕ) → v < max_bools → get_or x.work v (pos 0) ≡ fixed_word (f v))
          → layout (normalize merge p f ss) ≡ front_words x.work p.bools (length ds) (counters x.bools x.ints) ++ (records_of ds log ++ (pos (length (clauses_of log)) ∷ clauses_words (clauses_of log)))

      pub answer : layout (normalize merge p f ss) ≡ front_words st.work p.bools (length p.domains) (counters st.bools st.ints) ++ (records_of p.domains (log_of merge p ss) ++ (pos (length (clauses_of (log_of merge p ss))) ∷ clauses_words (clauses_of (log_of merge p ss))))
      answer = subst Answer (sym ends_there) (answer_is merge p f ss F (has_ifs w) cap walkable w n b out used_there) numbered.values

      pub mapped : has_ifs st.work ≡ false → (out' : List ℤ) (o : ℕ) → Behind out' o 0 → AllMapped merge p f ss set' st.work end n out' o
      mapped off out' o r =
          let d' : Declares ds (behind p ss F cap (start w out n)).work = subst (λ (x : State). Declares ds x.work) ends_there numbered.domains in
          let i : has_ifs w ≡ false = sym (ifs_stay (kept_stays kept)) ∙ off in
          subst (λ (x : State). AllMapped merge p f ss set' x.work end n out' o) (sym ends_there)
          (by_maps merge p f ss F (has_ifs w) cap walkable w n b out i used_there h.lent.settled set' h.lent.words end h.lent.ends d' out' o r)
