-- One folded statement numbered, from a state of the log: what `number_statement` asks of it holds (`stmt_asks`), and it leaves the state of the log behind
-- the statement, or the walk is full (`stmt_numbered`).
use Rattle.std.specs.Prelude.{◌≡◌, refl, Bool, ℕ, ◌+◌, ◌*◌, ◌≤◌, ◌<◌, ℤ}
use Rattle.std.proofs.Common.{sym, subst, arith}
use mathlib.Core.List.{List, [], ◌∷◌}
use Rattle.std.proofs.Math.ListN.{length}
use Rattle.laws.specs.Slices.{Has}
use Rattle.memory.specs.Places.{folded, folded_end, limit}
use Rattle.syntax.specs.Syntax.{Domain, Stmt, encode_stmt}
use Rattle.words.specs.Exact.{Each}
use Rattle.clauses.specs.Log.{Log}
use Rattle.answer.specs.Answer.{normalize_stmt}
use Rattle.walk.specs.Decode.{read_part}
use Rattle.walks.specs.Meet.{State}
use Rattle.walks.specs.Leaves.{words_of}
use Rattle.stages.specs.StatementsParts.{meet_parts, Stage, parts, rooms, Standing, Passed, full as passed_full, good as passed-good, standing_less}
use Rattle.stages.specs.StatementsPlaces.{LegalStmt, PartedFrom, Marked}
use Rattle.stages.specs.Statements.{stmt_stages, stmt_rooms}
use Rattle.stages.specs.StatementsEach.{StmtAgain, stmt_pass}
use Rattle.stages.specs.StartFits.{StmtWithin}
use Rattle.declared.specs.DomainTable.{Declares}
use Rattle.numbering.specs.Task.{skip}
use Rattle.stmtwords.specs.Stands.{WellRows}
use Rattle.setnumbers.specs.PlainStmt.{plain_stmt}
use Rattle.numbering.specs.Tasks.{stmt_task}
use Rattle.numbering.specs.Follow.{Agree, same, full, Followed}
use Rattle.numbering.specs.FollowStatements.{stmt_followed}
use Rattle.setnumbers.specs.Numbered.{standing_low, standing_plain, AsksStmt, DoneStmt}

-- the statement t at q, ts behind it; end: where the statements end; st: the state before it, of the log s
module _ (ds : List Domain) (parted : ℕ → Bool) (rec cap : ℕ) (with_ifs : Bool) (before : List ℤ) (low : cap < limit) (end : ℕ) (inside : end ≤ folded_end)
    (q : ℕ) (t : Stmt) (ts : List Stmt) (legal : Each LegalStmt (t ∷ ts)) (within : StmtWithin ds t) (from : PartedFrom parted q (t ∷ ts)) (start : folded ≤ q) (to : q + length (encode_stmt t) ≤ end)
    (st : State) (marked : Marked (read_part st.work) end with_ifs) (words : Has (read_part st.work) q (encode_stmt t)) (n : ℕ) (s : Log)
    (standing-before : Standing ds (read_part st.work) parted rec cap with_ifs before low q (49152 * length (encode_stmt t) + n) st s) (used-before : st.used ≤ words_of s) where
  abbrev F : List ℤ
  F = read_part st.work

  abbrev own : List Stage
  own = stmt_stages ds rec cap F q t []

  abbrev after : Log
  after = normalize_stmt ds t s

  abbrev met : State
  met = meet_parts (parts own) st

  followed : Followed ds F parted rec cap with_ifs before low (stmt_task rec cap F q t skip) own st
  followed =
      let room : rooms own ≤ 49152 * length (encode_stmt t) + 0 = unfold rooms in stmt_rooms ds rec cap F q t [] (omega (arith, inside, start, to)) in
      let h = standing_less ds F parted rec cap with_ifs before low q q (49152 * length (encode_stmt t) + n) (rooms own + n) st s (omega arith) (omega (arith, room)) standing-before in
      stmt_followed ds F parted rec cap with_ifs before low end inside marked q t ts legal within from words start to n st s h used-before

  pub stmt_fits : (stmt_task rec cap (read_part st.work) q t skip).fits ds st
  stmt_fits = followed.fits

  pub stmt_asks : rec ≤ limit → WellRows t → Declares ds st.work → AsksStmt rec cap q st
  stmt_asks l r d = record {
    stmt = t;
    stands = record { words = words; legal = legal.0; rows = r };
    plain = λ e. plain_stmt F end (standing_plain marked standing-before e) q t legal.0 words start to;
    asks = record { long = standing-before.state.size; records = l; low = standing_low standing-before; ready = record { domains = ds; declares = d; fits = followed.fits } };
  }

  -- where the walk is not full, the state and the log behind the statement
  pub record Numbered (st' : State) : Type 0 where
    pub used : st'.used ≤ words_of (normalize_stmt ds t s)
    pub state : st'.used ≤ cap → st' ≡ meet_parts (parts (stmt_stages ds rec cap (read_part st.work) q t [])) st
    pub standing : st'.used ≤ cap → Standing ds (read_part st.work) parted rec cap with_ifs before low (q + length (encode_stmt t)) n st' (normalize_stmt ds t s)
    pub again : st'.used ≤ cap → StmtAgain ds (read_part st.work) parted rec cap with_ifs before low end inside marked q t ts legal from words start to st s

  abbrev Ends : State → Type 0
  Ends x = Passed ds F parted rec cap with_ifs before low (q + length (encode_stmt t)) n (StmtAgain ds F parted rec cap with_ifs before low end inside marked q t ts legal from words start to st s) x after

  ends : Ends met
  ends = stmt_pass ds F parted rec cap with_ifs before low end inside marked q t ts legal from words start to n st s standing-before used-before

  spent : Ends met → met.used ≤ words_of after
  spent (passed_full x y) = y
  spent (passed-good g y a) = y

  same_numbered : Ends met → Numbered met
  same_numbered (passed_full x y) = record { used = y; state = λ i. refl; standing = λ i. absurd (omega arith); again = λ i. absurd (omega arith) }
  same_numbered (passed-good g y a) = record { used = y; state = λ i. refl; standing = λ i. g; again = λ i. a }

  agree_numbered : (st' : State) → Agree cap st' met → Numbered st'
  agree_numbered st' (same e) = subst Numbered (sym e) (same_numbered ends)
  agree_numbered st' (full x e) = record { used = omega (arith, e, spent ends); state = λ i. absurd (omega arith); standing = λ i. absurd (omega arith); again = λ i. absurd (omega arith) }

  pub stmt_numbered : WellRows t → Declares ds st.work → (st' : State) → DoneStmt rec cap q st st' → Numbered st'
  stmt_numbered r d st' x =
      let e = (x t (record { words = words; legal = legal.0; rows = r })).state ds d followed.fits in
      agree_numbered st' (subst (λ (y : State). Agree cap y met) (sym e) followed.agree)
