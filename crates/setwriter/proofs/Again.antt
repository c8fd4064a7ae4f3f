-- The loop over the statements that are numbered again: so far the clauses of those before q are written, and the walk is not full.
use mathlib.Core.Path.{◌≡◌, refl, sym, ap, ◌∙◌, subst}
use mathlib.Core.Bool.{Bool, true}
use mathlib.Core.List.{List, [], ◌∷◌}
use Prim.Native.Nat.{ℕ, ◌+◌, ◌*◌, ◌≤◌, ◌<◌}
use native.Mathlib.Omega.{arith}
use lib.IntN.{ℤ}
use lib.ListN.{length, length-append}
use Rattle.laws.specs.Writes.{wrote_length, wrote_low}
use Rattle.memory.specs.Places.{folded, limit}
use Rattle.syntax.specs.Syntax.{Domain, Stmt, encode_stmt, Problem}
use Rattle.fold.specs.Fold.{Fixed}
use Rattle.clauses.specs.Log.{Log, clauses_of}
use Rattle.answer.specs.Answer.{start_log}
use Rattle.answer.proofs.Start.{start_well}
use Rattle.walk.specs.Decode.{read_part}
use Rattle.walks.specs.Leaves.{words_of, grows_words}
use Rattle.declared.specs.DomainTable.{Declares}
use Rattle.statements.specs.Bounds.{start_low}
use Rattle.statements.specs.Whole.{start_none}
use Rattle.statements.specs.Stages.{log_of, settled_short}
use Rattle.stages.specs.StatementsParts.{Standing, standing_less}
use Rattle.stages.specs.StatementsPlaces.{stmts_words, parted_of}
use Rattle.stages.specs.Start.{start_stands}
use Rattle.numbering.specs.declared.Progress.{Progress}
use Rattle.numbering.specs.declared.Room.{Room}
use Rattle.numbering.specs.Task.{state_of}
use Rattle.rows.specs.Emit.{Clauses, Behind}
use Rattle.rows.proofs.Looping.{clauses_none, clauses_then, clauses_to}
use Rattle.setwriter.specs.Statements.{Lent, Left, left_start, left_first, left_end, first_to, first_long, left_next, first_clauses, left_grows}
use Rattle.setwriter.specs.Step.{Place, after}
use Rattle.setwriter.specs.Again.{Walked, SomeWalked, DidAgain, DoesAgain, Starts}

pub record Sofar (merge : Bool) (p : Problem) (f : Fixed) (ss : List Stmt) (w₀ : List ℤ) (end : ℕ) (room : Room) (low : room.cap < limit) (out₀ : List ℤ) (o₀ : ℕ) (w out : List ℤ) (q : ℕ) (c : Progress) (o k : ℕ) : Type 0 where
  pub rest : List Stmt
  pub log : Log
  pub left : Left merge p f ss (read_part w₀) end q rest log
  pub standing : Standing p.domains (read_part w₀) (parted_of folded ss) room.records room.cap true [] low q (49152 * length (stmts_words rest)) (state_of w [] c) log
  pub used : c.used ≤ words_of log
  pub wrote : Clauses out₀ o₀ 0 (clauses_of log) out o k
  pub domains : Declares p.domains w
  pub size : length w ≡ length w₀

module _ {merge : Bool} {p : Problem} {f : Fixed} {ss : List Stmt} {set w₀ : List ℤ} {end : ℕ} {room : Room} {from : ℕ} {out₀ : List ℤ} {o₀ : ℕ} (h : Starts merge p f ss set w₀ end room from out₀ o₀) where
  abbrev ds : List Domain
  ds = p.domains

  abbrev F : List ℤ
  F = read_part w₀

  abbrev parted : ℕ → Bool
  parted = parted_of folded ss

  pub low : room.cap < limit
  low = omega (arith, h.small)

  abbrev StandingHere : ℕ → ℕ → List ℤ → Progress → Log → Type 0
  StandingHere q n w c s = Standing ds F parted room.records room.cap true [] low q n (state_of w [] c) s

  pub sofar_start : Sofar merge p f ss w₀ end room low out₀ o₀ w₀ out₀ folded (record { bools = from; ints = 0; used = 0 }) o₀ 0
  sofar_start = record {
    rest = ss;
    log = start_log merge ss;
    left = left_start merge p f ss set F end true h.lent;
    standing = start_stands ds F parted room.records room.cap true [] low w₀ from (start_log merge ss) (start_well merge ss) h.begun (49152 * length (stmts_words ss)) (omega (arith, h.small, settled_short p f ss h.lent.settled, h.begun.bools, start_low merge ss));
    used = omega arith;
    wrote = clauses_to (sym (start_none merge ss)) (clauses_none h.room_behind);
    domains = h.domains;
    size = refl;
  }

  module _ {w out : List ℤ} {q : ℕ} {c : Progress} {o k : ℕ} (v : Sofar merge p f ss w₀ end room low out₀ o₀ w out q c o k) where
    pub sofar_behind : Behind out o k
    sofar_behind = record { room = record { low = wrote_low v.wrote.words; room = omega (arith, wrote_length v.wrote.words, h.room_behind.room.room) }; low = v.wrote.low }

    pub sofar_out : length out ≡ length out₀
    sofar_out = wrote_length v.wrote.words

    -- the next statement
    module _ (t : Stmt) (ts : List Stmt) (l : Left merge p f ss F end q (t ∷ ts) v.log) (st : StandingHere q (49152 * length (stmts_words (t ∷ ts))) w c v.log) where
      abbrev place : Place
      place = record { merge = merge; problem = p; fixed = f; stmts = ss; end = end; stmt = t; later = ts; before = v.log }

      abbrev next : ℕ
      next = q + length (encode_stmt t)

      abbrev spare : ℕ
      spare = 49152 * length (stmts_words ts)

      behind : Left merge p f ss F end next ts (after place)
      behind = left_next merge p f ss set F end true h.lent q v.log t ts l

      part : read_part w ≡ F
      part = st.state.words

      walked : Walked place set w q room c spare
      walked =
          let e : F ≡ read_part w = sym part in
          let s' = standing_less ds F parted room.records room.cap true [] low q q (49152 * length (stmts_words (t ∷ ts))) (49152 * length (encode_stmt t) + spare) (state_of w [] c) v.log (omega arith) (omega (arith, length-append (encode_stmt t) (stmts_words ts))) st in
          record {
            stands = record {
              lent = subst (λ (G : List ℤ). Lent p f ss set G end true) e h.lent;
              left = subst (λ (G : List ℤ). Left merge p f ss G end q (t ∷ ts) v.log) e l;
              domains = v.domains;
              word = st.state.word;
              size = st.state.size;
            };
            records = h.records;
            low = low;
            standing = subst (λ (G : List ℤ). Standing ds G parted room.records room.cap true [] low q (49152 * length (encode_stmt t) + spare) (state_of w [] c) v.log) e s';
            used = v.used;
          }

      module _ {w' out' : List ℤ} {e : ℕ} {c' : Progress} {o' k' : ℕ} (d : DidAgain place w q room low spare out o k w' out' e c' o' k') where
        -- full or not
        words : c'.used ≤ words_of (log_of merge p ss)
        words = omega (arith, d.used, grows_words (left_grows merge p f ss set F end true h.lent next (after place) ts behind))

        sizes : (length w' ≡ length w₀) × (length out' ≡ length out₀)
        sizes = (d.size ∙ v.size, d.out_size ∙ sofar_out)

        step : c'.used ≤ room.cap → Sofar merge p f ss w₀ end room low out₀ o₀ w' out' e c' o' k' × ((q < e) × (e ≤ end))
        step u =
            let r = d.rewrote u in
            let i : next ≡ e = sym r.next_is in
            let s' : StandingHere next spare w' c' (after place) = subst (λ (G : List ℤ). Standing ds G parted room.records room.cap true [] low next spare (state_of w' [] c') (after place)) part r.standing in (
              record {
                rest = ts;
                log = after place;
                left = subst (λ (j : ℕ). Left merge p f ss F end j ts (after place)) i behind;
                standing = subst (λ (j : ℕ). StandingHere j spare w' c' (after place)) i s';
                used = d.used;
                wrote = clauses_to (sym (first_clauses merge p f ss set F end true h.lent q v.log t ts l)) (clauses_then h.room_behind.room.room v.wrote r.clauses);
                domains = d.domains ds v.domains;
                size = d.size ∙ v.size;
              },
              (omega (arith, first_long merge p f ss set F end true h.lent q v.log t ts l), omega (arith, first_to merge p f ss set F end true h.lent q v.log t ts l)),
            )

    -- one is left before the end
    first : {X : Type 0} (ts : List Stmt) → q < end → Left merge p f ss F end q ts v.log → StandingHere q (49152 * length (stmts_words ts)) w c v.log
        → ((t : Stmt) (us : List Stmt) → Left merge p f ss F end q (t ∷ us) v.log → StandingHere q (49152 * length (stmts_words (t ∷ us))) w c v.log → X) → X
    first [] i l st g = left_first merge p f ss set F end true h.lent q v.log [] l i (λ t us z. absurd (omega (arith, i, l.place)))
    first (t ∷ us) i l st g = g t us l st

    pub sofar_at : q < end → SomeWalked set w q room c
    sofar_at i = first v.rest i v.left v.standing (λ t ts l st. record { place = place t ts l st; spare = spare t ts l st; it = walked t ts l st })

    module _ {w' out' : List ℤ} {e : ℕ} {c' : Progress} {o' k' : ℕ} (g : DoesAgain set w q room c out o k w' out' e c' o' k') (i : q < end) where
      did : (t : Stmt) (ts : List Stmt) (l : Left merge p f ss F end q (t ∷ ts) v.log) (st : StandingHere q (49152 * length (stmts_words (t ∷ ts))) w c v.log) → DidAgain (place t ts l st) w q room low (spare t ts l st) out o k w' out' e c' o' k'
      unfolding low walked
      did t ts l st = g (place t ts l st) (spare t ts l st) (walked t ts l st)

      pub sofar_words : c'.used ≤ words_of (log_of merge p ss)
      sofar_words = first v.rest i v.left v.standing (λ t ts l st. words t ts l st (did t ts l st))

      pub sofar_sizes : (length w' ≡ length w₀) × (length out' ≡ length out₀)
      sofar_sizes = first v.rest i v.left v.standing (λ t ts l st. sizes t ts l st (did t ts l st))

      pub sofar_next : c'.used ≤ room.cap → Sofar merge p f ss w₀ end room low out₀ o₀ w' out' e c' o' k' × ((q < e) × (e ≤ end))
      sofar_next u = first v.rest i v.left v.standing (λ t ts l st. step t ts l st (did t ts l st) u)

    -- behind all of them
    whole : end ≤ q → v.log ≡ log_of merge p ss
    whole i = left_end merge p f ss set F end true h.lent q v.log v.rest v.left i

    pub sofar_end : end ≤ q → Clauses out₀ o₀ 0 (clauses_of (log_of merge p ss)) out o k
    sofar_end i = clauses_to (ap clauses_of (whole i)) v.wrote

    pub end_words : end ≤ q → c.used ≤ words_of (log_of merge p ss)
    end_words i = omega (arith, v.used, ap words_of (whole i))
