-- The steps of `write_answer`, for some set and then for every one: the answer's words as they are stored (the records, the words in front of them, the
-- clauses, then their count), and that a number beyond the output's length means a longer answer.
use mathlib.Core.Path.{◌≡◌, sym, ap, ◌∙◌, subst}
use mathlib.Core.Bool.{Bool}
use mathlib.Core.List.{List, [], ◌∷◌, ◌++◌, append-nil}
use Prim.Native.Nat.{ℕ, ◌+◌, ◌*◌, ◌≤◌, ◌<◌}
use native.Mathlib.Omega.{arith}
use lib.IntN.{ℤ, pos}
use lib.ListN.{length, set, length-append}
use lib.Seq.{sets}
use Rattle.laws.specs.Writes.{Wrote, wrote_length, cap}
use Rattle.memory.specs.Places.{folded, maps_end}
use Rattle.syntax.specs.Syntax.{Stmt, Problem}
use Rattle.syntax.specs.Words.{max_bools, max_ints}
use Rattle.fold.specs.Fold.{Fixed}
use Rattle.clauses.specs.Clause.{Clause}
use Rattle.clauses.specs.Log.{Log, clauses_of}
use Rattle.answer.specs.Answer.{start_log, layout, normalize}
use Rattle.walk.specs.Decode.{read_part}
use Rattle.walk.proofs.Texts.{layout_words}
use Rattle.walks.specs.Item.{counters, has_ifs}
use Rattle.walks.specs.Meet.{State}
use Rattle.walks.specs.Good.{records_of, records_length}
use Rattle.walks.specs.Leaves.{words_of}
use Rattle.statements.specs.Stages.{log_of}
use Rattle.stages.specs.Start.{start, Begun}
use Rattle.stages.specs.Whole.{records_from, records_place}
use Rattle.numbering.specs.declared.Room.{Room}
use Rattle.numbering.specs.Task.{Low}
use Rattle.setnumbers.specs.Numbered.{AsksAll, DoneAll}
use Rattle.front.specs.Front.{front_words}
use Rattle.front.proofs.FrontLaws.{front_is}
use Rattle.rows.specs.Emit.{Clauses, clauses_words, Behind}
use Rattle.setwriter.specs.Begin.{SomeSettles, Begins}
use Rattle.setwriter.specs.Whole.{assembled}
use Rattle.planner.specs.Steps.{Prepared, Prepares, Numbered, SomeNumbered, WritesClauses, Writes, SomeWrites, WrittenAnswer}
use Rattle.planner.proofs.Prepared.{begins_stays, settles, prepared_stays, begun}
use Rattle.planner.proofs.First.{asks, kept, low, full_long, numbered, records, ints, answer, mapped}

-- x: the slice as prepared, w': where the walk begins
module _ (merge : Bool) (set' w : List ℤ) (b i end : ℕ) (out x : List ℤ) (pr : Prepares set' w i end x) where
  pub some_settles : SomeWrites set' w b i end out → SomeSettles x end
  some_settles s = record { it = s.it; fixed = s.fixed; stmts = s.stmts; settles = settles (pr s.it s.fixed s.stmts s.writes.held) }

  module _ (w' : List ℤ) (n : ℕ) (bg : Begins merge x end w' n) where
    module _ (p : Problem) (f : Fixed) (ss : List Stmt) (h : Writes p f ss set' w b i end out) where
      opened : Prepared p f ss set' w' end
      opened = prepared_stays (pr p f ss h.held) (begins_stays bg)

      begun_there : Begun (read_part w') (has_ifs w') w' n (start_log merge ss)
      begun_there = begun (pr p f ss h.held) bg

      front_is_long : 2 * b + i + 2 ≡ records_from p
      front_is_long = omega (arith, h.bools, h.held.ints)

    pub some_asks : SomeWrites set' w b i end out → AsksAll (2 * b + i + 2) (length out) folded end (start w' out n)
    some_asks s =
        let p = s.it in
        let f = s.fixed in
        let ss = s.stmts in
        let h = s.writes in
        subst (λ (r : ℕ). AsksAll r (length out) folded end (start w' out n)) (sym (front_is_long p f ss h)) (asks merge p f ss set' w' end n out (opened p f ss h) (begun_there p f ss h) h.part)

    module _ (st : State) (d : DoneAll (2 * b + i + 2) (length out) folded end (start w' out n) st) where
      module _ (p : Problem) (f : Fixed) (ss : List Stmt) (h : Writes p f ss set' w b i end out) where
        done : DoneAll (records_from p) (length out) folded end (start w' out n) st
        done = subst (λ (r : ℕ). DoneAll r (length out) folded end (start w' out n) st) (front_is_long p f ss h) d

      pub some_low : SomeWrites set' w b i end out → Low st
      some_low s = let h = s.writes in low merge s.it s.fixed s.stmts set' w' end n out (opened s.it s.fixed s.stmts h) (begun_there s.it s.fixed s.stmts h) h.part st (done s.it s.fixed s.stmts h)

      -- the first walk is full
      pub answer_full : length out < st.used → (out' : List ℤ) → WrittenAnswer merge set' w b i end out out' st.used
      answer_full l out' p f ss h = record {
        long = λ k. full_long merge p f ss set' w' end n out (opened p f ss h) (begun_there p f ss h) h.part st (done p f ss h) l;
        exact = λ k. absurd (omega arith);
        words = λ k. absurd (omega arith);
      }

      module _ (u : st.used ≤ length out) where
        abbrev before : List ℤ
        before = front_words st.work b i (counters st.bools st.ints)

        abbrev count : ℕ
        count = 2 * b + i + 2 + 4 * st.ints

        module _ (p : Problem) (f : Fixed) (ss : List Stmt) (h : Writes p f ss set' w b i end out) where
          abbrev log : Log
          log = log_of merge p ss

          abbrev cs : List Clause
          cs = clauses_of log

          there : Prepared p f ss set' st.work end
          there = numbered merge p f ss set' w' end n out (opened p f ss h) (begun_there p f ss h) h.part st (done p f ss h) u

          ints_are : length (records_of p.domains log) ≡ 4 * st.ints
          ints_are = omega (arith, records_length p.domains log, ints merge p f ss set' w' end n out (opened p f ss h) (begun_there p f ss h) h.part st (done p f ss h) u)

          before_length : length before ≡ 2 * b + i + 2
          before_length =
              let e = front_is f st.work b i (counters st.bools st.ints) [] (omega (arith, h.bools, there.lent.settled.well.few_bools)) there.values in
              let l : length before ≡ records_from p = ap length (sym (append-nil before) ∙ e) ∙ rw (h.bools, h.held.ints) (records_place p f _ _ _ _) in
              l ∙ sym (front_is_long p f ss h)

          layout_is : layout (normalize merge p f ss) ≡ before ++ (records_of p.domains log ++ (pos (length cs) ∷ clauses_words cs))
          layout_is = rw (h.bools, h.held.ints) (answer merge p f ss set' w' end n out (opened p f ss h) (begun_there p f ss h) h.part st (done p f ss h) u)

          layout_length : length (layout (normalize merge p f ss)) ≡ count + 1 + length (clauses_words cs)
          layout_length = ap length layout_is ∙ omega (arith, length-append before (records_of p.domains log ++ (pos (length cs) ∷ clauses_words cs)), length-append (records_of p.domains log) (pos (length cs) ∷ clauses_words cs), before_length, ints_are)

          words_low : words_of log ≤ length (layout (normalize merge p f ss))
          unfolding words_of
          words_low = omega (arith, layout_length, ap length (layout_words cs), records_length p.domains log, ints_are)

        -- the words in front of the clauses do not fit
        pub answer_short : length out ≤ 2 * b + i + 2 + 4 * st.ints → (out' : List ℤ) → WrittenAnswer merge set' w b i end out out' (2 * b + i + 2 + 4 * st.ints + 1)
        answer_short l out' p f ss h = record {
          long = λ k. omega (arith, layout_length p f ss h);
          exact = λ k. absurd (omega arith);
          words = λ k. absurd (omega arith);
        }

        pub front_asks : SomeWrites set' w b i end out → (b ≤ max_bools) × (i ≤ max_ints) × (maps_end ≤ length st.work) × (length st.out ≤ cap)
        front_asks s =
            let p = s.it in
            let h = s.writes in
            let t = there p s.fixed s.stmts h in
            let k = kept merge p s.fixed s.stmts set' w' end n out (opened p s.fixed s.stmts h) (begun_there p s.fixed s.stmts h) h.part st (done p s.fixed s.stmts h) in
            (omega (arith, h.bools, t.lent.settled.well.few_bools), omega (arith, h.held.ints, t.lent.settled.well.few_ints), omega (arith, t.size), omega (arith, k.room, h.part))

        module _ (fits : 2 * b + i + 2 + 4 * st.ints < length out) (mid : List ℤ) (r : ℕ) (wr : Wrote st.out 0 (front_words st.work b i (counters st.bools st.ints)) mid r) where
          abbrev room : Room
          room = record { records = 2 * b + i + 2; cap = length out }

          module _ (p : Problem) (f : Fixed) (ss : List Stmt) (h : Writes p f ss set' w b i end out) where
            mid_size : length mid ≡ length out
            mid_size = wrote_length wr ∙ (kept merge p f ss set' w' end n out (opened p f ss h) (begun_there p f ss h) h.part st (done p f ss h)).room

            ready : Numbered merge p f ss set' st.work end room n mid (count + 1)
            ready =
                let t = there p f ss h in
                let y : Behind mid (count + 1) 0 = record { room = record { low = omega (arith, h.part); room = omega (arith, mid_size, h.part) }; low = omega arith } in
                record {
                  prepared = t;
                  records = omega (arith, h.bools, h.held.ints, t.lent.settled.well.few_bools, t.lent.settled.well.few_ints);
                  small = h.part;
                  mapped = λ off. mapped merge p f ss set' w' end n out (opened p f ss h) (begun_there p f ss h) h.part st (done p f ss h) u off mid (count + 1) y;
                  behind = y;
                }

          pub some_numbered : SomeWrites set' w b i end out → SomeNumbered merge set' st.work end (record { records = 2 * b + i + 2; cap = length out }) n mid (2 * b + i + 2 + 4 * st.ints + 1)
          some_numbered s = record { it = s.it; fixed = s.fixed; stmts = s.stmts; numbered = ready s.it s.fixed s.stmts s.writes }

          module _ (last : List ℤ) (used o k : ℕ) (wc : WritesClauses merge set' st.work end (record { records = 2 * b + i + 2; cap = length out }) n mid (2 * b + i + 2 + 4 * st.ints + 1) last used o k) where
            -- the second walk is full
            pub answer_overrun : length out < used → WrittenAnswer merge set' w b i end out last used
            answer_overrun l p f ss h = record {
              long = λ m. omega (arith, words_low p f ss h, (wc p f ss (ready p f ss h)).words);
              exact = λ m. absurd (omega arith);
              words = λ m. absurd (omega arith);
            }

            module _ (v : used ≤ length out) where
              module _ (p : Problem) (f : Fixed) (ss : List Stmt) (h : Writes p f ss set' w b i end out) where
                clauses : Clauses mid (count + 1) 0 (cs p f ss h) last o k
                clauses = (wc p f ss (ready p f ss h)).clauses v

                exact : o ≤ length out → o ≡ length (layout (normalize merge p f ss))
                exact l = omega (arith, clauses.words.at, layout_length p f ss h, h.part)

                stored : o ≤ length out → set last count (pos k) ≡ sets out 0 (layout (normalize merge p f ss))
                stored l =
                    let rs = records_of p.domains (log p f ss h) in
                    let ks = clauses_words (cs p f ss h) in
                    let e : k ≡ length (cs p f ss h) = omega (arith, clauses.count (omega (arith, h.part))) in
                    let a : records_from p ≡ length before = sym (before_length p f ss h ∙ front_is_long p f ss h) in
                    ap (λ (l : List ℤ). set l count (pos k)) clauses.words.words
                    ∙ ap (λ (l : List ℤ). set (sets l (count + 1) ks) count (pos k)) wr.words
                    ∙ ap (λ (l : List ℤ). set (sets (sets l 0 before) (count + 1) ks) count (pos k)) (records merge p f ss set' w' end n out (opened p f ss h) (begun_there p f ss h) h.part st (done p f ss h) u)
                    ∙ ap (λ (m : ℕ). set (sets (sets (sets out m rs) 0 before) (count + 1) ks) count (pos k)) a
                    ∙ assembled out before rs (pos k) ks count (omega (arith, before_length p f ss h, ints_are p f ss h))
                    ∙ ap (λ (m : ℕ). sets out 0 (before ++ (rs ++ (pos m ∷ ks)))) e
                    ∙ ap (sets out 0) (sym (layout_is p f ss h))

              pub count_asks : SomeWrites set' w b i end out → o ≤ length out → (2 * b + i + 2 + 4 * st.ints < length last) × (k < 2147483648)
              count_asks s l =
                  let c = clauses s.it s.fixed s.stmts s.writes in
                  (omega (arith, wrote_length c.words, mid_size s.it s.fixed s.stmts s.writes), omega (arith, c.low, s.writes.part))

              pub answer_fits : o ≤ length out → {out' : List ℤ} → out' ≡ set last (2 * b + i + 2 + 4 * st.ints) (pos k) → WrittenAnswer merge set' w b i end out out' o
              answer_fits l e p f ss h = record {
                long = λ m. absurd (omega arith);
                exact = λ m. exact p f ss h l;
                words = λ m. e ∙ stored p f ss h l;
              }

              pub answer_long : length out < o → WrittenAnswer merge set' w b i end out last o
              answer_long l p f ss h = record {
                long = λ m. omega (arith, (clauses p f ss h).words.at, layout_length p f ss h, h.part);
                exact = λ m. absurd (omega arith);
                words = λ m. absurd (omega arith);
              }
