-- The statement at q numbered again and written, where Ifs stand: what its numbering and its writing ask, and from what they give to the log behind it.
-- Assumes nothing.
use mathlib.Core.Path.{◌≡◌, refl, sym, ap, ◌∙◌, subst}
use mathlib.Core.Bool.{Bool, true}
use mathlib.Core.List.{List, [], ◌∷◌, ◌++◌}
use Prim.Native.Nat.{ℕ, ◌+◌, ◌*◌, ◌≤◌, ◌<◌}
use native.Mathlib.Omega.{arith}
use lib.IntN.{ℤ}
use lib.ListN.{length}
use Rattle.laws.specs.Slices.{Has}
use Rattle.laws.specs.Writes.{wrote_length}
use Rattle.memory.specs.Places.{folded}
use Rattle.syntax.specs.Syntax.{Domain, IntExpr, BoolExpr, encode_bool, Stmt, Rule, Table, AllDifferent, encode_stmt}
use Rattle.words.specs.Exact.{Each}
use Rattle.clauses.specs.Log.{Log}
use Rattle.clauses.proofs.Since.{clauses_since}
use Rattle.answer.specs.Answer.{normalize_stmt}
use Rattle.walk.specs.Item.{bump}
use Rattle.walk.specs.Decode.{word, read_part}
use Rattle.walk.specs.declared.Counters.{Counters}
use Rattle.walks.specs.Item.{counters}
use Rattle.walks.specs.Meet.{State, counters_of}
use Rattle.walks.specs.Tree.{below}
use Rattle.walks.specs.Implements.{Registers}
use Rattle.walks.specs.Leaves.{words_of}
use Rattle.declared.specs.DomainTable.{Declares}
use Rattle.stages.specs.Room.{splits_low}
use Rattle.stages.specs.StatementsParts.{meet_parts, again_text, again_lines, Stage, parts, Standing}
use Rattle.stages.specs.StatementsPlaces.{parted_of, LegalStmt, PartedFrom}
use Rattle.stages.specs.Statements.{stmt_stages}
use Rattle.stages.specs.StartFits.{StmtWithin}
use Rattle.numbering.specs.declared.Progress.{Progress}
use Rattle.numbering.specs.declared.Room.{Room}
use Rattle.numbering.specs.Declares.{declares_kept}
use Rattle.numbering.specs.Task.{state_of, skip, Kept}
use Rattle.stmtwords.specs.Stands.{Stands as StmtStands, StmtEnds}
use Rattle.numbering.specs.Tasks.{stmt_task}
use Rattle.setnumbers.specs.Numbered.{AsksStmt, DoneStmt}
use Rattle.setnumbers.specs.OneStatement.{stmt_fits, stmt_asks, Numbered, stmt_numbered}
use Rattle.differing.specs.Walked.{Place as PairsPlace, Walked as PairsWalked, SomeWalked as SomePairsWalked, Rewrites}
use Rattle.rows.specs.Emit.{Clauses}
use Rattle.setwriter.specs.Same.{declares_same}
use Rattle.setwriter.specs.SameState.{standing_same}
use Rattle.setwriter.specs.Step.{Place, after}
use Rattle.setwriter.specs.Again.{Walked, DidAgain}
use Rattle.setwriter.specs.TableAsks.{numbered_table}
use Rattle.setwriter.specs.One.{rule_part, RuleAt, OneAt, DidOne}
use Rattle.setwriter.proofs.Places.{inside, stops, words, rows, stands, is_different, not_different, different_over}

no_words : (us : List ℤ) → length us ≡ 0 → us ≡ []
no_words [] h = refl
no_words (u ∷ us) h = absurd (omega (arith, h))

module _ {x : Place} {set w : List ℤ} {q : ℕ} {room : Room} {c : Progress} {n : ℕ} (h : Walked x set w q room c n) where
  abbrev ds : List Domain
  ds = x.problem.domains

  abbrev F : List ℤ
  F = read_part w

  abbrev s : Log
  s = x.before

  abbrev st : State
  st = state_of w [] c

  abbrev parted : ℕ → Bool
  parted = parted_of folded x.stmts

  pub walked_stands : StmtStands w q x.stmt
  walked_stands = stands x set w q true h.stands

  -- ---- its numbering

  pub walked_asks : AsksStmt room.records room.cap q (state_of w [] c)
  walked_asks =
      let l = h.stands.left in
      stmt_asks ds parted room.records room.cap true [] h.low x.end (inside x set w q true h.stands) q x.stmt x.later l.legal l.within.0 l.parted l.from (stops x set w q true h.stands) st h.stands.lent.marked (words x set w q true h.stands) n s h.standing h.used
      h.records (rows x set w q true h.stands) h.stands.domains

  fits : (stmt_task room.records room.cap F q x.stmt skip).fits ds st
  fits =
      let l = h.stands.left in
      stmt_fits ds parted room.records room.cap true [] h.low x.end (inside x set w q true h.stands) q x.stmt x.later l.legal l.within.0 l.parted l.from (stops x set w q true h.stands) st h.stands.lent.marked (words x set w q true h.stands) n s h.standing h.used

  abbrev NumberedHere : State → Type 0
  NumberedHere =
      let l = h.stands.left in
      Numbered ds parted room.records room.cap true [] h.low x.end (inside x set w q true h.stands) q x.stmt x.later l.legal l.within.0 l.parted l.from (stops x set w q true h.stands) st h.stands.lent.marked (words x set w q true h.stands) n s h.standing h.used

  -- ---- behind it: the slice v, the counters d; none: the output, which has no room

  module _ {v none : List ℤ} {d : Progress} (done : DoneStmt room.records room.cap q (state_of w [] c) (state_of v none d)) (empty : length none ≡ 0) where
    kept : Kept st (state_of v none d)
    kept = (done x.stmt walked_stands).kept

    numbered : NumberedHere (state_of v [] d)
    numbered =
        let l = h.stands.left in
        subst (λ (us : List ℤ). NumberedHere (state_of v us d)) (no_words none empty)
        (stmt_numbered ds parted room.records room.cap true [] h.low x.end (inside x set w q true h.stands) q x.stmt x.later l.legal l.within.0 l.parted l.from (stops x set w q true h.stands) st h.stands.lent.marked (words x set w q true h.stands) n s h.standing h.used
        (rows x set w q true h.stands) h.stands.domains (state_of v none d) done)

    declares : (es : List Domain) → Declares es w → Declares es v
    declares es = declares_kept es w v kept.behind

    pub walked_full : room.cap < d.used → {out : List ℤ} {o k next : ℕ} → DidAgain x w q room h.low n out o k v out next d o k
    walked_full l = record { used = numbered.used; rewrote = λ u. absurd (omega (arith, l, u)); domains = declares; size = kept.size; out_size = refl }

    -- ---- its writing, by the slice v and the counters before it

    module _ (u : d.used ≤ room.cap) where
      abbrev stages : Stmt → List Stage
      stages t = stmt_stages ds room.records room.cap F q t []

      abbrev Adds : Stmt → Type 0
      Adds t = Registers (again_text (parts (stages t)) st) (again_lines (parts (stages t)) st) s (normalize_stmt ds t s)

      abbrev Met : Stmt → Type 0
      Met t = state_of v [] d ≡ meet_parts (parts (stages t)) st

      rule_adds : (e : BoolExpr) → Adds (Rule e) → Met (Rule e) → Registers ((rule_part ds e q).text v (counters c.bools c.ints) ++ []) (bump ((rule_part ds e q).lines v (counters c.bools c.ints)) 0) s (normalize_stmt ds (Rule e) s)
      unfolding stmt_stages again_text again_lines meet_parts
      rule_adds e a m =
          let i : counters_of st ≡ counters c.bools c.ints = rw h.stands.word refl in
          let b = subst (λ (y : State). Registers ((rule_part ds e q).text y.work (counters_of st) ++ []) (bump ((rule_part ds e q).lines y.work (counters_of st)) 0) s (normalize_stmt ds (Rule e) s)) (sym m) a in
          subst (λ (k : Counters). Registers ((rule_part ds e q).text v k ++ []) (bump ((rule_part ds e q).lines v k) 0) s (normalize_stmt ds (Rule e) s)) i b

      again_rule : (e : BoolExpr) → x.stmt ≡ Rule e → RuleAt ds e s v q (counters c.bools c.ints)
      again_rule e i =
          let y : StmtStands w q (Rule e) = subst (λ (t : Stmt). StmtStands w q t) i walked_stands in
          let l : length (encode_stmt x.stmt) ≡ 1 + length (encode_bool e) = ap (λ (t : Stmt). length (encode_stmt t)) i ∙ (unfold encode_stmt in omega arith) in
          let g = h.standing.state.room in
          record {
            stands = record { words = subst (λ (G : List ℤ). Has G q (encode_stmt (Rule e))) (sym kept.part) y.words; legal = y.legal; rows = tt };
            within = subst (λ (t : Stmt). StmtWithin ds t) i h.stands.left.within.0;
            room = omega (arith, g, l, splits_low e below);
            ints = omega (arith, g);
            size = omega (arith, kept.size, h.stands.size);
            adds = rule_adds e (subst Adds i (numbered.again u).adds) (subst Met i (numbered.state u));
          }

      pub walked_one : (word (read_part w) q ≡ 3 → ⊥) → OneAt x.problem.domains x.before set v q (counters c.bools c.ints) x.stmt
      walked_one z = go x.stmt refl
        where
          go : (t : Stmt) → x.stmt ≡ t → OneAt ds s set v q (counters c.bools c.ints) t
          go (Rule e) i = again_rule e i
          go (Table es rows) i =
              numbered_table x es rows i set w q room c n h v d u (subst Met i (numbered.state u))
              (subst (λ (t : Stmt). Standing ds F parted room.records room.cap true [] h.low (q + length (encode_stmt t)) n (state_of v [] d) (after x)) i (numbered.standing u)) (declares ds h.stands.domains)
          go (AllDifferent es) i = not_different x set w q true h.stands z es i

      pub walked_did : {out v' out' : List ℤ} {o k next o' k' : ℕ} {m : Counters} → DidOne x.problem.domains x.stmt x.before v q (counters c.bools c.ints) out o k v' out' next m o' k' → DidAgain x w q room h.low n out o k v' out' next d o' k'
      walked_did y = record {
        used = numbered.used;
        rewrote = λ u. record { next_is = y.next_is; standing = standing_same ds F parted room.records room.cap true [] h.low y.same (q + length (encode_stmt x.stmt)) n [] d (after x) (numbered.standing u); clauses = y.clauses };
        domains = λ es k. declares_same y.same es (declares es k);
        size = y.same.size ∙ kept.size;
        out_size = wrote_length y.clauses.words;
      }

  -- ---- an AllDifferent

  module _ (es : List IntExpr) (i : x.stmt ≡ AllDifferent es) where
    abbrev place : PairsPlace
    place = record { domains = ds; exprs = es; later = x.later; parted = parted; end = x.end; before = s }

    pairs_walked : PairsWalked place set w [] q room c n
    pairs_walked =
        let l = h.stands.left in
        record {
          over = different_over x set w q true h.stands es i;
          within = subst (λ (t : Stmt). StmtWithin ds t) i l.within.0;
          declares = h.stands.domains;
          legal = subst (λ (t : Stmt). Each LegalStmt (t ∷ x.later)) i l.legal;
          split = subst (λ (t : Stmt). PartedFrom parted q (t ∷ x.later)) i l.parted;
          words = subst (λ (t : Stmt). Has F q (encode_stmt t)) i (words x set w q true h.stands);
          marked = h.stands.lent.marked;
          from = l.from;
          to = subst (λ (t : Stmt). q + length (encode_stmt t) ≤ x.end) i (stops x set w q true h.stands);
          inside = inside x set w q true h.stands;
          records = h.records;
          low = h.low;
          standing = subst (λ (t : Stmt). Standing ds F parted room.records room.cap true [] h.low q (49152 * length (encode_stmt t) + n) st s) i h.standing;
          used = h.used;
          fits = subst (λ (t : Stmt). (stmt_task room.records room.cap F q t skip).fits ds st) i fits;
        }

    pairs_did : {out v none out' : List ℤ} {d : Progress} {o k next o' k' : ℕ} → Rewrites set w [] q room c out o k v none out' d o' k' → next ≡ q + length (encode_stmt x.stmt) → DidAgain x w q room h.low n out o k v out' next d o' k'
    unfolding pairs_walked
    pairs_did {out} {v} {none} {out'} {d} {o} {k} {next} {o'} {k'} r e =
        let y = r.did place n pairs_walked in
        record {
          used = subst (λ (t : Stmt). d.used ≤ words_of (normalize_stmt ds t s)) (sym i) y.used;
          rewrote = λ u.
              let z = y.rewrote u in
              let a : Standing ds F parted room.records room.cap true [] h.low (q + length (encode_stmt (AllDifferent es))) n (state_of v [] d) (normalize_stmt ds (AllDifferent es) s) =
              subst (λ (us : List ℤ). Standing ds F parted room.records room.cap true [] h.low (q + length (encode_stmt (AllDifferent es))) n (state_of v us d) (normalize_stmt ds (AllDifferent es) s)) (no_words none r.none_size) z.standing in
              record {
                next_is = e;
                standing = subst (λ (t : Stmt). Standing ds F parted room.records room.cap true [] h.low (q + length (encode_stmt t)) n (state_of v [] d) (normalize_stmt ds t s)) (sym i) a;
                clauses = subst (λ (t : Stmt). Clauses out o k (clauses_since s (normalize_stmt ds t s)) out' o' k') (sym i) z.clauses;
              };
          domains = r.domains;
          size = r.size;
          out_size = r.out_size;
        }

  module _ (z : word (read_part w) q ≡ 3) where
    pub pairs_some : SomePairsWalked set w [] q room c
    pairs_some = is_different x set w q true h.stands z (λ es i. record { place = place es i; spare = n; it = pairs_walked es i })

    pub pairs_done : {out v none out' : List ℤ} {d : Progress} {o k next o' k' : ℕ} → Rewrites set w [] q room c out o k v none out' d o' k' → StmtEnds w q next → DidAgain x w q room h.low n out o k v out' next d o' k'
    pairs_done r e = is_different x set w q true h.stands z (λ es i. pairs_did es i r (e x.stmt walked_stands))
