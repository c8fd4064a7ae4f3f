-- What numbering folded statements asks and does: the tasks of whatever statements stand there. A state of the log gives it (`all_ask`), and what that is for the
-- log (`all_agree`).
use Rattle.std.specs.Prelude.{◌≡◌, Bool, false, List, ℕ, ◌+◌, ◌≤◌, ◌<◌, ℤ, length}
use Rattle.std.proofs.Common.{sym, ◌∙◌, subst, arith}
use Rattle.laws.specs.Bools.{never}
use Rattle.laws.specs.Slices.{Has}
use Rattle.memory.specs.Places.{folded, folded_end, limit}
use Rattle.syntax.specs.Syntax.{Domain, IntExpr, Cell, Stmt, Table}
use Rattle.syntax.specs.Words.{min_work_words}
use Rattle.words.specs.Exact.{Each}
use Rattle.clauses.specs.Log.{Log}
use Rattle.walk.specs.Decode.{read_part}
use Rattle.walks.specs.Item.{has_ifs}
use Rattle.walks.specs.Meet.{State}
use Rattle.walks.specs.Leaves.{words_of}
use Rattle.stages.specs.StatementsParts.{meet_parts, parts, rooms, NoIfs, Standing}
use Rattle.stages.specs.StatementsPlaces.{stmts_words, LegalStmt, PartedFrom, Marked}
use Rattle.stages.specs.Statements.{stmts_stages}
use Rattle.stages.specs.StartFits.{StmtWithin}
use Rattle.declared.specs.DomainTable.{Declares}
use Rattle.numbering.specs.Task.{Task, skip, Low, Ready, Done}
use Rattle.stmtwords.specs.Stands.{WellRows, Stands, SomeTable}
use Rattle.setnumbers.specs.PlainStmt.{PlainStmt, plain_stmts}
use Rattle.numbering.specs.Tasks.{table_task, stmt_task, stmts_task}
use Rattle.numbering.specs.Follow.{Agree, Followed}
use Rattle.numbering.specs.FollowStatements.{stmts_followed}

pub record Asks (t : Task) (st : State) (rec : ℕ) : Type 0 where
  pub long : min_work_words ≤ length st.work
  pub records : rec ≤ limit
  pub low : Low st
  pub ready : Ready t st

-- some table stands at a place
pub record AsksTable (rec cap at : ℕ) (st : State) : Type 0 where
  pub table : SomeTable st.work at
  pub asks : Asks (table_task rec cap (read_part st.work) at table.columns table.cells) st rec

abbrev pub DoneTable : ℕ → ℕ → ℕ → State → State → Type 0
DoneTable rec cap at st st' = (es : List IntExpr) (rows : List (List Cell)) → Stands st.work at (Table es rows) → Done (table_task rec cap (read_part st.work) at es rows) st st'

-- some statement stands at a place; without Ifs where the word for Ifs is 0
pub record AsksStmt (rec cap at : ℕ) (st : State) : Type 0 where
  pub stmt : Stmt
  pub stands : Stands st.work at stmt
  pub plain : has_ifs st.work ≡ false → PlainStmt stmt
  pub asks : Asks (stmt_task rec cap (read_part st.work) at stmt skip) st rec

abbrev pub DoneStmt : ℕ → ℕ → ℕ → State → State → Type 0
DoneStmt rec cap at st st' = (t : Stmt) → Stands st.work at t → Done (stmt_task rec cap (read_part st.work) at t skip) st st'

-- statements stand from a place to `end`
pub record StandAll (w : List ℤ) (at end : ℕ) (ts : List Stmt) : Type 0 where
  pub words : Has (read_part w) at (stmts_words ts)
  pub legal : Each LegalStmt ts
  pub rows : Each WellRows ts
  pub stop : end ≡ at + length (stmts_words ts)

pub record AsksAll (rec cap at end : ℕ) (st : State) : Type 0 where
  pub stmts : List Stmt
  pub stand : StandAll st.work at end stmts
  pub plain : has_ifs st.work ≡ false → Each PlainStmt stmts
  pub asks : Asks (stmts_task rec cap (read_part st.work) at stmts) st rec

abbrev pub DoneAll : ℕ → ℕ → ℕ → ℕ → State → State → Type 0
DoneAll rec cap at end st st' = (ts : List Stmt) → StandAll st.work at end ts → Done (stmts_task rec cap (read_part st.work) at ts) st st'

-- the counters of a state of the log stay within the limit
module _ {ds : List Domain} {F : List ℤ} {parted : ℕ → Bool} {rec cap : ℕ} {with_ifs : Bool} {before : List ℤ} {low : cap < limit} {from n : ℕ} {st : State} {s : Log} where
  pub standing_low : Standing ds F parted rec cap with_ifs before low from n st s → Low st
  standing_low h = record { bools = omega (arith, h.state.room); ints = omega (arith, h.state.room); used = omega (arith, h.state.used) }

  -- the word for Ifs is 0: none stands
  pub standing_plain : {b : ℕ} → Marked F b with_ifs → Standing ds F parted rec cap with_ifs before low from n st s → has_ifs st.work ≡ false → NoIfs F b
  standing_plain marked h e q x i k l m = never (sym e ∙ h.state.word ∙ marked q x i k l m)

-- from a state of the log s, what is done leaves the state that stages' parts leave, or both walks are full; as in stages, parted and with-ifs
module _ (ds : List Domain) (parted : ℕ → Bool) (rec cap : ℕ) (with_ifs : Bool) (before : List ℤ) (low : cap < limit) (at end : ℕ) (inside : end ≤ folded_end) (st : State) where
  abbrev F : List ℤ
  F = read_part st.work

  module _ (ts : List Stmt) (stand : StandAll st.work at end ts) (within : Each (StmtWithin ds) ts) (from : folded ≤ at) (split : PartedFrom parted at ts) (marked : Marked (read_part st.work) end with_ifs)
      (n : ℕ) (s : Log) (standing : Standing ds (read_part st.work) parted rec cap with_ifs before low at (rooms (stmts_stages ds rec cap (read_part st.work) at ts) + n) st s) (used : st.used ≤ words_of s) where
    followed : Followed ds F parted rec cap with_ifs before low (stmts_task rec cap F at ts) (stmts_stages ds rec cap F at ts) st
    followed = stmts_followed ds F parted rec cap with_ifs before low end inside marked at ts stand.legal within split stand.words from (omega (arith, stand.stop)) n st s standing used

    pub all_ask : rec ≤ limit → Declares ds st.work → AsksAll rec cap at end st
    all_ask l d = record {
      stmts = ts;
      stand = stand;
      plain = λ e. plain_stmts F end (standing_plain marked standing e) at ts stand.legal stand.words from (omega (arith, stand.stop));
      asks = record { long = standing.state.size; records = l; low = standing_low standing; ready = record { domains = ds; declares = d; fits = followed.fits } };
    }

    pub all_agree : Declares ds st.work → (st' : State) → DoneAll rec cap at end st st' → Agree cap st' (meet_parts (parts (stmts_stages ds rec cap (read_part st.work) at ts)) st)
    all_agree d st' x = subst (λ (y : State). Agree cap y (meet_parts (parts (stmts_stages ds rec cap F at ts)) st)) (sym ((x ts stand).state ds d followed.fits)) followed.agree
