-- One pair numbered again behind its cleared cells, then written unless the walk is full. Assumes nothing.
use mathlib.Core.Path.{◌≡◌, refl, sym, ap, ◌∙◌, subst}
use mathlib.Core.Bool.{true}
use mathlib.Core.List.{List, [], ◌∷◌, append-nil}
use Prim.Native.Nat.{ℕ, ◌≤◌, ◌<◌}
use native.Mathlib.Omega.{arith}
use lib.IntN.{ℤ}
use Rattle.laws.specs.Writes.{wrote_length, wrote_low, wrote_to}
use Rattle.memory.specs.Places.{folded_end}
use Rattle.syntax.specs.Syntax.{Domain}
use Rattle.walk.specs.Item.{bump}
use Rattle.walk.specs.Decode.{read_part}
use Rattle.walk.specs.declared.Counters.{Counters}
use Rattle.walks.specs.Form.{Forms}
use Rattle.walks.specs.Item.{counters, has_ifs, form_items, more_bools}
use Rattle.walks.specs.DecodeExact.{pair_at}
use Rattle.walks.specs.Meet.{State, counters_of, with_work}
use Rattle.walks.specs.Written.{written, written_lines}
use Rattle.stages.specs.StatementsParts.{again_text, again_lines}
use Rattle.declared.specs.DomainTable.{Declares}
use Rattle.numbering.specs.Task.{Low, Ready, Done, Left, left_all, left_next, left_last_at, ready_last, Starts}
use Rattle.stmtwords.specs.Cleared.{Cleared, pair_ifs}
use Rattle.numbering.specs.Rules.{pair_task}
use Rattle.numbering.specs.Tasks.{clear_task, cleared_task}
use Rattle.rulewriter.specs.Places.{Placed, AllFit}
use Rattle.rulewriter.specs.Ties.{Blocks}
use Rattle.rulewriter.specs.Pair.{pair_numbers, blocks_over}
use Rattle.rulewriter.specs.declared.Tied.{Tied}
use Rattle.differing.specs.Again.{Asked, Ahead, Redone, Lines, meet_until, until_more, pair_part, pair_redo}

module _ (rec cap p q : ℕ) (st : State) where
  abbrev ws : List ℤ
  ws = read_part st.work

  -- ---- numbered

  module _ (l : Low st) (w' : List ℤ) (k : Cleared (pair_ifs st.work p q) st.work w') where
    -- its Ifs cleared
    clear_done : Done (clear_task p q) st (with_work w' st)
    unfolding clear_task
    clear_done = record {
      state = λ ds d f. ap (λ (w : List ℤ). with_work w st) k.cells;
      kept = record { part = k.part; behind = k.behind; size = k.size; room = refl };
      low = record { bools = l.bools; ints = l.ints; used = l.used };
    }

    rest : Left (cleared_task rec cap ws p q) st (pair_task rec cap ws p q) (with_work w' st)
    rest = left_next (λ (v : List ℤ). clear_task p q) (left_all (cleared_task rec cap ws p q) st l) clear_done

    pub pair_starts : p ≤ folded_end → Asked (pair_redo rec cap ws p q) st rec → Starts (pair_task rec cap (read_part w') p q) (with_work w' st) rec p 0
    pair_starts i a =
        let r : Ready (cleared_task rec cap ws p q) st = record { domains = a.domains; declares = a.declares; fits = a.asks.first } in
        record {
          size = omega (arith, a.long, k.size);
          inside = i;
          low_base = omega arith;
          records = a.records;
          low = rest.low;
          ready = ready_last (λ (v : List ℤ). pair_task rec cap v p q) r rest;
        }

    pub pair_numbered : (st' : State) → Done (pair_task rec cap (read_part w') p q) (with_work w' st) st' → Done (cleared_task rec cap ws p q) st st'
    pair_numbered st' d = left_last_at (λ (v : List ℤ). pair_task rec cap v p q) rest d

  -- ---- written

  module _ (more : st.used ≤ cap) (st' : State) (y : Done (cleared_task rec cap ws p q) st st') where
    met : (ds : List Domain) → Declares ds st.work → (pair_redo rec cap ws p q).asks ds st → st' ≡ (pair_part rec cap ws ds p q).meet st
    unfolding pair_part
    met ds d h = y.state ds d h.first

    until : (ds : List Domain) → Declares ds st.work → (pair_redo rec cap ws p q).asks ds st → st' ≡ meet_until cap ((pair_redo rec cap ws p q).parts ds) st
    unfolding meet_until
    until ds d h = met ds d h ∙ sym (until_more cap (pair_part rec cap ws ds p q) [] st more)

    module _ (out : List ℤ) (o c : ℕ) (a : Ahead out o c) where
      pub pair_full : cap < st'.used → Redone cap (pair_redo rec cap ws p q) st st' out o c out o c
      pair_full u = record { kept = y.kept; low = y.low; ahead = a; length_same = refl; state = until; text = λ v. absurd (omega arith) }

      abbrev forms : List ℤ → Forms
      forms v = pair_at v 64 p q st.bools

      -- the counters before it
      abbrev n : Counters
      n = counters st.bools st.ints

      pub pair_placed : p ≤ folded_end → Asked (pair_redo rec cap ws p q) st rec → Placed st'.work p st.bools n
      pair_placed i x = record { size = omega (arith, x.long, y.kept.size); inside = i; low_base = x.low.bools; low = (x.low.bools, x.low.ints) }

      pub pair_fit : Asked (pair_redo rec cap ws p q) st rec → AllFit (forms (read_part st'.work))
      pair_fit x = record { domains = x.domains; fits = rw y.kept.part x.asks.second }

      module _ (word : has_ifs st.work ≡ true) (out' : List ℤ) (r : Tied) (b : Blocks st'.work (forms (read_part st'.work)) (more_bools (pair_numbers (read_part st'.work) p q st.bools) n) out o out' r) where
        -- by the words that were read before
        words : Blocks st'.work (forms ws) (more_bools (pair_numbers ws p q st.bools) (counters_of st)) out o out' r
        words = subst (λ (m : Counters). Blocks st'.work (forms ws) (more_bools (pair_numbers ws p q st.bools) m) out o out' r) (rw word refl)
            (subst (λ (v : List ℤ). Blocks st'.work (forms v) (more_bools (pair_numbers v p q st.bools) n) out o out' r) y.kept.part b)

        lines : (ds : List Domain) → Declares ds st.work → (pair_redo rec cap ws p q).asks ds st → Lines out o c (again_text (pair_part rec cap ws ds p q ∷ []) st) (again_lines (pair_part rec cap ws ds p q ∷ []) st) out' r.o (bump c r.lines)
        unfolding again_text again_lines pair_part
        lines ds d h =
            let m = more_bools (pair_numbers ws p q st.bools) (counters_of st) in
            let x = blocks_over ds (forms ws) words in
            let j : st'.work ≡ ((cleared_task rec cap ws p q).meet ds st).work = ap (λ (z : State). z.work) (y.state ds d h.first) in
            record {
              words = wrote_to (ap (λ (w : List ℤ). written (form_items ds (forms ws)) w m) j ∙ sym (append-nil _)) x.wrote;
              count = omega (arith, x.lines, ap (λ (w : List ℤ). written_lines (form_items ds (forms ws)) w m) j);
            }

        pub pair_written : (m : ℕ) → m ≡ bump c r.lines → Redone cap (pair_redo rec cap ws p q) st st' out o c out' r.o m
        pair_written m e =
            let x = words.listed.wrote in
            let s = wrote_length x in
            subst (λ (i : ℕ). Redone cap (pair_redo rec cap ws p q) st st' out o c out' r.o i) (sym e) (record {
              kept = y.kept;
              low = y.low;
              ahead = record { room = record { low = wrote_low x; room = omega (arith, s, a.room.room) }; few = omega arith };
              length_same = s;
              state = until;
              text = λ u ds d h. lines ds d h;
            })
