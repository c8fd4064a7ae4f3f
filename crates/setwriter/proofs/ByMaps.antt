-- The loop over the statements by final maps: so far the clauses of those before q are written, and the work slice w has the words of w₀ below the table's place.
use mathlib.Core.Path.{◌≡◌, refl, sym, ap, ◌∙◌, subst}
use mathlib.Core.Bool.{Bool, false}
use mathlib.Core.List.{List, [], ◌∷◌}
use Prim.Native.Nat.{ℕ, ◌+◌, ◌≤◌, ◌<◌}
use native.Mathlib.Omega.{arith}
use lib.IntN.{ℤ}
use lib.ListN.{length}
use Rattle.laws.specs.Writes.{wrote_length, wrote_low}
use Rattle.memory.specs.Places.{folded}
use Rattle.syntax.specs.Syntax.{Domain, Stmt, encode_stmt, Problem}
use Rattle.fold.specs.Fold.{Fixed}
use Rattle.clauses.specs.Log.{Log, clauses_of}
use Rattle.answer.specs.Answer.{start_log}
use Rattle.walk.specs.Decode.{read_part}
use Rattle.walk.proofs.Grow.{Grows}
use Rattle.walk.specs.declared.Counters.{Counters}
use Rattle.walks.specs.Item.{counters}
use Rattle.walks.specs.Implements.{at, ready_back}
use Rattle.statements.specs.Whole.{start_none}
use Rattle.statements.specs.Stages.{log_of}
use Rattle.stages.specs.StatementsParts.{AllOwn}
use Rattle.stages.specs.StatementsPlaces.{parted_of}
use Rattle.stages.specs.Statements.{stmt_stages, stmts_stages, stmt_walk}
use Rattle.stages.specs.StatementsEach.{owned_parts}
use Rattle.rows.specs.Emit.{Clauses, Behind}
use Rattle.rows.proofs.Looping.{clauses_none, clauses_then, clauses_to}
use Rattle.setwriter.specs.Statements.{Lent, Left, end_inside, left_start, left_first, left_end, first_to, first_long, first_words, left_next, first_clauses, left_grows}
use Rattle.setwriter.specs.Same.{Same, same_none, same_then, part_same, ifs_same, declares_same, Declared, ready_same, at_same, owned_same}
use Rattle.setwriter.specs.Step.{Place, after, Mapped, SomeMapped, Did, AllMapped}

module _ (w₀ out₀ : List ℤ) (o₀ : ℕ) (rec cap : ℕ) where
  pub record Sofar (merge : Bool) (p : Problem) (f : Fixed) (ss : List Stmt) (end : ℕ) (w out : List ℤ) (q : ℕ) (n : Counters) (o k : ℕ) : Type 0 where
    pub rest : List Stmt
    pub log : Log
    pub left : Left merge p f ss (read_part w₀) end q rest log
    pub owned : AllOwn w₀ (stmts_stages p.domains rec cap (read_part w₀) q rest) log
    pub number : n ≡ at w₀ log
    pub wrote : Clauses out₀ o₀ 0 (clauses_of log) out o k
    pub same : Same w₀ w

module _ {merge : Bool} {p : Problem} {f : Fixed} {ss : List Stmt} {set w₀ : List ℤ} {end from : ℕ} {out₀ : List ℤ} {o₀ : ℕ} (h : AllMapped merge p f ss set w₀ end from out₀ o₀) where
  abbrev ds : List Domain
  ds = p.domains

  abbrev F : List ℤ
  F = read_part w₀

  abbrev L : Log
  L = log_of merge p ss

  abbrev SofarHere : List ℤ → List ℤ → ℕ → Counters → ℕ → ℕ → Type 0
  SofarHere = Sofar w₀ out₀ o₀ h.rec h.cap merge p f ss end

  pub sofar_start : Sofar w₀ out₀ o₀ h.rec h.cap merge p f ss end w₀ out₀ folded (counters from 0) o₀ 0
  sofar_start = record {
    rest = ss;
    log = start_log merge ss;
    left = left_start merge p f ss set F end false h.lent;
    owned = h.owned;
    number = rw (h.word, h.first) refl;
    wrote = clauses_to (sym (start_none merge ss)) (clauses_none h.room);
    same = same_none w₀;
  }

  module _ {w out : List ℤ} {q : ℕ} {n : Counters} {o k : ℕ} (v : Sofar w₀ out₀ o₀ h.rec h.cap merge p f ss end w out q n o k) where
    pub sofar_behind : Behind out o k
    sofar_behind = record { room = record { low = wrote_low v.wrote.words; room = omega (arith, wrote_length v.wrote.words, h.room.room.room) }; low = v.wrote.low }

    pub sofar_out : length out ≡ length out₀
    sofar_out = wrote_length v.wrote.words

    -- the next statement
    module _ (t : Stmt) (ts : List Stmt) (l : Left merge p f ss F end q (t ∷ ts) v.log) (own : AllOwn w₀ (stmts_stages ds h.rec h.cap F q (t ∷ ts)) v.log) where
      abbrev place : Place
      place = record { merge = merge; problem = p; fixed = f; stmts = ss; end = end; stmt = t; later = ts; before = v.log }

      abbrev next : ℕ
      next = q + length (encode_stmt t)

      behind : Left merge p f ss F end next ts (after place)
      behind = left_next merge p f ss set F end false h.lent q v.log t ts l

      to : next ≤ end
      to = first_to merge p f ss set F end false h.lent q v.log t ts l

      -- up to the whole log
      grows : Grows (after place) L
      grows = left_grows merge p f ss set F end false h.lent next (after place) ts behind

      owns : AllOwn w₀ (stmt_stages ds h.rec h.cap F q t []) v.log × AllOwn w₀ (stmts_stages ds h.rec h.cap F next ts) (after place)
      unfolding stmts_stages
      owns =
          owned_parts ds F (parted_of folded ss) h.rec h.cap false [] h.low end (end_inside merge p f ss set F end false h.lent) h.lent.marked q t ts l.legal l.parted
          (first_words merge p f ss set F end false h.lent q v.log t ts l) l.from to w₀ (stmts_stages ds h.rec h.cap F next ts) v.log own

      here : AllOwn w (stmt_stages ds h.rec h.cap F q t []) v.log
      here =
          let inside = end_inside merge p f ss set F end false h.lent in
          let walks = stmt_walk ds F (parted_of folded ss) h.rec h.cap false [] h.low end inside h.lent.marked q t ts l.legal l.parted (first_words merge p f ss set F end false h.lent q v.log t ts l) l.from to [] tt in
          owned_same ds F (parted_of folded ss) h.rec h.cap false [] h.low v.same q t (omega (arith, to, inside)) walks v.log owns.0

      declared : Declared (after place)
      declared = record { bools = λ x y e. h.declared.bools x y (grows.keep x y e); ints = λ x y e. h.declared.ints x y (grows.keep_int x y e) }

      mapped : Mapped place set w q n
      mapped =
          let e : F ≡ read_part w = sym (part_same v.same) in
          record {
            stands = record {
              lent = subst (λ (G : List ℤ). Lent p f ss set G end false) e h.lent;
              left = subst (λ (G : List ℤ). Left merge p f ss G end q (t ∷ ts) v.log) e l;
              domains = declares_same v.same ds h.domains;
              word = ifs_same v.same ∙ h.word;
              size = omega (arith, h.size, v.same.size);
            };
            rec = h.rec;
            cap = h.cap;
            low = h.low;
            ready = ready_same v.same (after place) declared (ready_back grows h.ready);
            owned = subst (λ (G : List ℤ). AllOwn w (stmt_stages ds h.rec h.cap G q t []) v.log) e here;
            counters = v.number ∙ sym (at_same v.same v.log);
          }

      module _ {w' out' : List ℤ} {e : ℕ} {m : Counters} {o' k' : ℕ} (d : Did place w q out o k w' out' e m o' k') where
        step : SofarHere w' out' e m o' k' × ((q < e) × (e ≤ end))
        step =
            let i : next ≡ e = sym d.next_is in (
              record {
                rest = ts;
                log = after place;
                left = subst (λ (j : ℕ). Left merge p f ss F end j ts (after place)) i behind;
                owned = subst (λ (j : ℕ). AllOwn w₀ (stmts_stages ds h.rec h.cap F j ts) (after place)) i owns.1;
                number = d.counters ∙ at_same v.same (after place);
                wrote = clauses_to (sym (first_clauses merge p f ss set F end false h.lent q v.log t ts l)) (clauses_then h.room.room.room v.wrote d.clauses);
                same = same_then v.same d.same;
              },
              (omega (arith, first_long merge p f ss set F end false h.lent q v.log t ts l), omega (arith, to)),
            )

    -- one is left before the end
    first : {X : Type 0} (ts : List Stmt) → q < end → Left merge p f ss F end q ts v.log → AllOwn w₀ (stmts_stages ds h.rec h.cap F q ts) v.log
        → ((t : Stmt) (us : List Stmt) → Left merge p f ss F end q (t ∷ us) v.log → AllOwn w₀ (stmts_stages ds h.rec h.cap F q (t ∷ us)) v.log → X) → X
    first [] i l own g = left_first merge p f ss set F end false h.lent q v.log [] l i (λ t us z. absurd (omega (arith, i, l.place)))
    first (t ∷ us) i l own g = g t us l own

    pub sofar_at : q < end → SomeMapped set w q n
    sofar_at i = first v.rest i v.left v.owned (λ t ts l own. record { place = place t ts l own; it = mapped t ts l own })

    pub sofar_next : {w' out' : List ℤ} {e : ℕ} {m : Counters} {o' k' : ℕ} → ((x : Place) → Mapped x set w q n → Did x w q out o k w' out' e m o' k') → q < end
        → Sofar w₀ out₀ o₀ h.rec h.cap merge p f ss end w' out' e m o' k' × ((q < e) × (e ≤ end))
    sofar_next g i = first v.rest i v.left v.owned (λ t ts l own. step t ts l own (g (place t ts l own) (mapped t ts l own)))

    pub sofar_end : end ≤ q → Clauses out₀ o₀ 0 (clauses_of (log_of merge p ss)) out o k
    sofar_end i = clauses_to (ap clauses_of (left_end merge p f ss set F end false h.lent q v.log v.rest v.left i)) v.wrote
