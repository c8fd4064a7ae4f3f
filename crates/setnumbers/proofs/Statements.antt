-- One statement's numbering by its first word, and all of them one after another.
use mathlib.Core.Path.{◌≡◌, refl, sym, ap, ◌∙◌, subst}
use mathlib.Core.Bool.{false, not}
use mathlib.Core.List.{List, [], ◌∷◌}
use Prim.Native.Nat.{ℕ, ◌+◌, ◌≤◌, ◌<◌}
use native.Mathlib.Omega.{arith}
use lib.IntN.{ℤ, pos}
use lib.ListN.{length, drop, get_or, length-append}
use lib.Seq.{get_or-drop}
use lib.Dec.{ltb}
use borrow.Author.Tests.{le-ltb}
use Rattle.laws.specs.Ints.{is_zero}
use Rattle.laws.specs.Slices.{Has, has_front, has_back}
use Rattle.syntax.specs.Syntax.{Stmt, Rule, Table, AllDifferent, encode_stmt}
use Rattle.words.specs.Exact.{Each}
use Rattle.walk.specs.Decode.{word, read_part}
use Rattle.walks.specs.Item.{has_ifs}
use Rattle.walks.specs.Meet.{State}
use Rattle.stages.specs.StatementsPlaces.{stmts_words}
use Rattle.numbering.specs.Declares.{upper}
use Rattle.numbering.specs.Task.{Task, skip, then, Low, kept_same, Done, Left, left_all, left_done, left_next}
use Rattle.numbering.specs.Rules.{rule_task}
use Rattle.stmtwords.specs.Stands.{Stands, SomeStmt, StmtEnds}
use Rattle.setnumbers.specs.PlainStmt.{PlainStmt}
use Rattle.setnumbers.specs.Once.{PlainSides}
use Rattle.numbering.specs.Tasks.{stopping, pairs_task, table_task, stmt_task, stmts_task, stmt_before, stmts_quit}
use Rattle.setnumbers.specs.KnownTie.{KnownTie, known_stays}
use Rattle.setnumbers.specs.Numbered.{Asks, AsksTable, DoneTable, AsksStmt, DoneStmt, StandAll, AsksAll, DoneAll}
use Rattle.stmtwords.proofs.Words.{different_words}
use Rattle.stmtwords.proofs.Ends.{some_word, not_here}
use Rattle.setnumbers.proofs.Numbering.{left_full, left_before, asks_next}

-- ---- a task where the walk is not full

module _ (cap : ℕ) (a : Task) (st : State) (more : st.used ≤ cap) where
  goes_on : ltb cap st.used ≡ false
  goes_on = le-ltb cap st.used more

  asks_on : (rec : ℕ) → Asks (stopping cap a skip) st rec → Asks a st rec
  asks_on rec x = record { long = x.long; records = x.records; low = x.low; ready = record { domains = x.ready.domains; declares = x.ready.declares; fits = (rw goes_on at x.ready.fits).0 } }

  done_on : (st' : State) → Done a st st' → Done (stopping cap a skip) st st'
  done_on st' x = record { state = λ ds d f. rw goes_on (x.state ds d (rw goes_on at f).0); kept = x.kept; low = x.low }

-- ---- one statement; k: its first word

module _ (rec cap at : ℕ) (st : State) (k : ℕ) (hk : k ≡ word (read_part st.work) at) where
  pub rule_asks : st.used ≤ cap → k ≡ 1 → AsksStmt rec cap at st → Asks (rule_task rec cap (read_part st.work) (at + 1)) st rec
  rule_asks more z a = go a.stmt a.stands a.asks
    where
      go : (t : Stmt) → Stands st.work at t → Asks (stmt_task rec cap (read_part st.work) at t skip) st rec → Asks (rule_task rec cap (read_part st.work) (at + 1)) st rec
      go (Rule e) h x = asks_on cap (rule_task rec cap (read_part st.work) (at + 1)) st more rec (unfold stmt_task in x)
      go (Table es rows) h x = not_here st.work at k hk (Table es rows) (λ q. omega (arith, z, q)) h
      go (AllDifferent es) h x = not_here st.work at k hk (AllDifferent es) (λ q. omega (arith, z, q)) h

  pub rule_done : st.used ≤ cap → k ≡ 1 → (st' : State) → Done (rule_task rec cap (read_part st.work) (at + 1)) st st' → DoneStmt rec cap at st st'
  unfolding stmt_task
  rule_done more z st' d (Rule e) h = done_on cap (rule_task rec cap (read_part st.work) (at + 1)) st more st' d
  rule_done more z st' d (Table es rows) h = not_here st.work at k hk (Table es rows) (λ q. omega (arith, z, q)) h
  rule_done more z st' d (AllDifferent es) h = not_here st.work at k hk (AllDifferent es) (λ q. omega (arith, z, q)) h

  -- a tie of variables that have literals
  pub known_done : st.used ≤ cap → k ≡ 1 → Low st → KnownTie st.work (at + 1) → DoneStmt rec cap at st st
  known_done more z l h = rule_done more z st (record { state = λ ds d f. sym (known_stays ds rec cap (at + 1) st l.bools h); kept = kept_same st; low = l })

  module _ (n : ℕ) (hn : n ≡ word (read_part st.work) (at + 1)) where
    pub different_asks : k ≡ 3 → AsksStmt rec cap at st → Asks (pairs_task rec cap (read_part st.work) n (at + 2) skip) st rec
    different_asks z a = go a.stmt a.stands a.asks
      where
        go : (t : Stmt) → Stands st.work at t → Asks (stmt_task rec cap (read_part st.work) at t skip) st rec → Asks (pairs_task rec cap (read_part st.work) n (at + 2) skip) st rec
        go (Rule e) h x = not_here st.work at k hk (Rule e) (λ q. omega (arith, z, q)) h
        go (Table es rows) h x = not_here st.work at k hk (Table es rows) (λ q. omega (arith, z, q)) h
        go (AllDifferent es) h x = subst (λ (m : ℕ). Asks (pairs_task rec cap (read_part st.work) m (at + 2) skip) st rec) (sym (hn ∙ (different_words st.work at es h).count)) (unfold stmt_task in x)

    pub different_plain : k ≡ 3 → AsksStmt rec cap at st → has_ifs st.work ≡ false → PlainSides (read_part st.work) n (at + 2)
    different_plain z a i = go a.stmt a.stands (a.plain i)
      where
        go : (t : Stmt) → Stands st.work at t → PlainStmt t → PlainSides (read_part st.work) n (at + 2)
        go (Rule e) h x = not_here st.work at k hk (Rule e) (λ q. omega (arith, z, q)) h
        go (Table es rows) h x = not_here st.work at k hk (Table es rows) (λ q. omega (arith, z, q)) h
        go (AllDifferent es) h x = let d = different_words st.work at es h in record { exprs = es; count = sym (hn ∙ d.count); sides = record { words = d.stands; legal = h.legal; plain = x } }

    pub different_done : k ≡ 3 → (st' : State) → Done (pairs_task rec cap (read_part st.work) n (at + 2) skip) st st' → DoneStmt rec cap at st st'
    unfolding stmt_task
    different_done z st' d (Rule e) h = not_here st.work at k hk (Rule e) (λ q. omega (arith, z, q)) h
    different_done z st' d (Table es rows) h = not_here st.work at k hk (Table es rows) (λ q. omega (arith, z, q)) h
    different_done z st' d (AllDifferent es) h = subst (λ (m : ℕ). Done (pairs_task rec cap (read_part st.work) m (at + 2) skip) st st') (hn ∙ (different_words st.work at es h).count) d

  pub table_asks : st.used ≤ cap → (k ≡ 1 → ⊥) → (k ≡ 3 → ⊥) → AsksStmt rec cap at st → AsksTable rec cap at st
  table_asks more y z a = go a.stmt a.stands a.asks
    where
      go : (t : Stmt) → Stands st.work at t → Asks (stmt_task rec cap (read_part st.work) at t skip) st rec → AsksTable rec cap at st
      go (Rule e) h x = not_here st.work at k hk (Rule e) y h
      go (Table es rows) h x = record { table = record { columns = es; cells = rows; stands = h }; asks = asks_on cap (table_task rec cap (read_part st.work) at es rows) st more rec (unfold stmt_task in x) }
      go (AllDifferent es) h x = not_here st.work at k hk (AllDifferent es) z h

  pub table_stmt_done : st.used ≤ cap → (k ≡ 1 → ⊥) → (k ≡ 3 → ⊥) → (st' : State) → DoneTable rec cap at st st' → DoneStmt rec cap at st st'
  unfolding stmt_task
  table_stmt_done more y z st' d (Rule e) h = not_here st.work at k hk (Rule e) y h
  table_stmt_done more y z st' d (Table es rows) h = done_on cap (table_task rec cap (read_part st.work) at es rows) st more st' (d es rows h)
  table_stmt_done more y z st' d (AllDifferent es) h = not_here st.work at k hk (AllDifferent es) z h

-- ---- all statements from `from` to `end`

-- the word for Ifs lies behind what is written
ifs_kept : (w w' : List ℤ) → drop upper w' ≡ drop upper w → has_ifs w' ≡ has_ifs w
unfolding has_ifs
ifs_kept w w' e = ap (λ (z : ℤ). not (is_zero z)) (sym (get_or-drop upper w' 0 (pos 0)) ∙ ap (λ (l : List ℤ). get_or l 0 (pos 0)) e ∙ get_or-drop upper w 0 (pos 0))

module _ (rec cap from end : ℕ) (st : State) where
  abbrev all_of : ℕ → List Stmt → Task
  all_of q ts = stmts_task rec cap (read_part st.work) q ts

  pub record Rest (ts : List Stmt) (q : ℕ) (st' : State) : Type 0 where
    pub rest : List Stmt
    pub stand : StandAll st.work q end rest
    pub plain : Each PlainStmt ts → Each PlainStmt rest
    pub left : Left (all_of from ts) st (all_of q rest) st'

  pub record Walking (q : ℕ) (st' : State) : Type 0 where
    pub size : length st'.work ≡ length st.work
    pub room : length st'.out ≡ length st.out
    pub left : (ts : List Stmt) → StandAll st.work from end ts → Rest ts q st'

  pub walking_first : Low st → Walking from st
  walking_first l = record { size = refl; room = refl; left = λ ts h. record { rest = ts; stand = h; plain = λ k. k; left = left_all (all_of from ts) st l } }

  -- the first of those that are left
  record First (ts : List Stmt) (q : ℕ) (st' : State) : Type 0 where
    pub stmt : Stmt
    pub others : List Stmt
    pub stands : Stands st'.work q stmt
    pub plain : Each PlainStmt ts → Each PlainStmt (stmt ∷ others)
    pub behind : StandAll st.work (q + length (encode_stmt stmt)) end others
    pub left : Left (all_of from ts) st (then (stmt_task rec cap (read_part st.work) q stmt skip) (all_of (q + length (encode_stmt stmt)) others)) st'

  first_of : (ts : List Stmt) (q : ℕ) (st' : State) → q < end → Rest ts q st' → First ts q st'
  first_of ts q st' l x = go x.rest x.stand x.plain x.left
    where
      go : (us : List Stmt) → StandAll st.work q end us → (Each PlainStmt ts → Each PlainStmt us) → Left (all_of from ts) st (all_of q us) st' → First ts q st'
      go [] h k y = absurd (omega (arith, h.stop, l))
      go (t ∷ us) h k y =
          let b = q + length (encode_stmt t) in
          let n = length-append (encode_stmt t) (stmts_words us) in
          let w = has_front (read_part st.work) q (encode_stmt t) (stmts_words us) h.words in
          record {
            stmt = t;
            others = us;
            stands = record { words = subst (λ (ws : List ℤ). Has ws q (encode_stmt t)) (sym y.kept.part) w; legal = h.legal.0; rows = h.rows.0 };
            plain = k;
            behind = record { words = has_back (read_part st.work) q (encode_stmt t) (stmts_words us) h.words; legal = h.legal.1; rows = h.rows.1; stop = omega (arith, h.stop, n) };
            left = left_before (all_of from ts) (stmt_task rec cap (read_part st.work) q t skip) (all_of b us) (stmt_task rec cap (read_part st.work) q t (all_of b us)) st st' (stmt_before rec cap (read_part st.work) q t (all_of b us) (stmts_quit rec cap (read_part st.work) b us)) (unfold stmts_task in y);
          }

  module _ (q : ℕ) (st' : State) (l : q < end) (x : Walking q st') where
    pub stmt_asks : AsksAll rec cap from end st → AsksStmt rec cap q st'
    stmt_asks a =
        let f = first_of a.stmts q st' l (x.left a.stmts a.stand) in
        record { stmt = f.stmt; stands = f.stands; plain = λ e. (f.plain (a.plain (sym (ifs_kept st.work st'.work f.left.kept.behind) ∙ e))).0; asks = asks_next (λ ws. stmt_task rec cap ws q f.stmt skip) (all_of from a.stmts) (all_of (q + length (encode_stmt f.stmt)) f.others) st st' rec a.asks f.left }

    pub stmt_some : AsksAll rec cap from end st → SomeStmt st'.work q
    stmt_some a = let f = first_of a.stmts q st' l (x.left a.stmts a.stand) in record { stmt = f.stmt; stands = f.stands }

    pub walking_next : (q' : ℕ) (st'' : State) → StmtEnds st'.work q q' → DoneStmt rec cap q st' st'' → length st''.work ≡ length st'.work → length st''.out ≡ length st'.out → Walking q' st''
    walking_next q' st'' e d s r = record { size = s ∙ x.size; room = r ∙ x.room; left = λ ts h. go ts (first_of ts q st' l (x.left ts h)) }
      where
        go : (ts : List Stmt) → First ts q st' → Rest ts q' st''
        go ts f =
            let b = q + length (encode_stmt f.stmt) in
            let i : b ≡ q' = sym (e f.stmt f.stands) in
            record {
              rest = f.others;
              stand = subst (λ (j : ℕ). StandAll st.work j end f.others) i f.behind;
              plain = λ k. (f.plain k).1;
              left = subst (λ (j : ℕ). Left (all_of from ts) st (all_of j f.others) st'') i (left_next (λ ws. stmt_task rec cap ws q f.stmt skip) f.left (d f.stmt f.stands));
            }

  pub walking_full : (q : ℕ) (st' : State) → cap < st'.used → Walking q st' → DoneAll rec cap from end st st'
  walking_full q st' h x ts k = let r = x.left ts k in left_full cap (all_of from ts) (all_of q r.rest) st st' h (stmts_quit rec cap (read_part st.work) q r.rest) r.left

  pub walking_last : (q : ℕ) (st' : State) → end ≤ q → Walking q st' → DoneAll rec cap from end st st'
  walking_last q st' h x ts k = let r = x.left ts k in go r.rest r.stand r.left
    where
      go : (us : List Stmt) → StandAll st.work q end us → Left (all_of from ts) st (all_of q us) st' → Done (all_of from ts) st st'
      go [] s y = left_done (unfold stmts_task in y)
      go (t ∷ us) s y = absurd (omega (arith, s.stop, h, some_word t, length-append (encode_stmt t) (stmts_words us)))
