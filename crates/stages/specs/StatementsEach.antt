-- One statement after another, as a loop over them takes it: the parts of a statement in front of the others' (`stmt_parts`, `meet_append`, `again_append`,
-- `text_append`), and from the state and the log before a statement to those behind it (`stmt_pass`, `stmt_written`).
use Rattle.std.specs.Prelude.{◌≡◌, Bool, ℕ, ◌+◌, ◌*◌, ◌≤◌, ◌<◌, ℤ}
use Rattle.std.proofs.Math.Path.{refl, ap}
use Rattle.std.proofs.Common.{sym, ◌∙◌, subst, arith}
use mathlib.Core.List.{List, [], ◌∷◌, ◌++◌, append_assoc}
use Rattle.std.proofs.Math.ListN.{length}
use Rattle.laws.specs.Slices.{Has}
use Rattle.memory.specs.Places.{folded, folded_end, limit}
use Rattle.syntax.specs.Syntax.{Domain, IntExpr, encode_int, Stmt, Rule, Table, AllDifferent, encode_stmt}
use Rattle.words.specs.Exact.{Each}
use Rattle.clauses.specs.Log.{Log}
use Rattle.different.specs.Different.{values_used_up}
use Rattle.answer.specs.Answer.{normalize_stmt}
use Rattle.walk.specs.declared.Counters.{Counters}
use Rattle.walks.specs.Meet.{State, counters_of}
use Rattle.walks.specs.Implements.{at, Ready, ready_back, Registers}
use Rattle.walks.specs.Leaves.{words_of}
use Rattle.stages.specs.StatementsParts.{Part, meet_parts, again_text, again_lines, parts_text, parts_lines, Stage, parts, steps, rooms, Chained, UpTo, last_to, AllOwn, AllKnown, Stays, NoIfs, Standing, Passed, full, good, AllWalk, steps_grow, standing_less, AllAgain, parts_pass, parts_written}
use Rattle.stages.specs.StatementsPlaces.{LegalStmt, PartedFrom, Marked}
use Rattle.stages.specs.Pairs.{row_stages, pairs_stages}
use Rattle.stages.specs.Different.{values_stages, different_stages}
use Rattle.stages.specs.Statements.{stmt_stages, stmt_steps, stmt_known, stmt_chains, stmt_up_to, stmt_rooms, stmt_walk}

-- ---- parts in front of others

pub meet_append : (xs ys : List Part) (st : State) → meet_parts (xs ++ ys) st ≡ meet_parts ys (meet_parts xs st)
unfolding meet_parts
meet_append [] ys st = refl
meet_append (x ∷ xs) ys st = meet_append xs ys (x.meet st)

pub again_append : (xs ys : List Part) (st : State) → again_text (xs ++ ys) st ≡ again_text xs st ++ again_text ys (meet_parts xs st)
unfolding meet_parts again_text
again_append [] ys st = refl
again_append (x ∷ xs) ys st = let t = x.text (x.meet st).work (counters_of st) in ap (λ (us : List ℤ). t ++ us) (again_append xs ys (x.meet st)) ∙ sym (append_assoc t (again_text xs (x.meet st)) (again_text ys (meet_parts xs (x.meet st))))

-- the counters behind them
unfoldable pub parts_behind : List Part → List ℤ → Counters → Counters
parts_behind [] w n = n
parts_behind (x ∷ xs) w n = parts_behind xs w (x.behind w n)

pub text_append : (xs ys : List Part) (w : List ℤ) (n : Counters) → parts_text (xs ++ ys) w n ≡ parts_text xs w n ++ parts_text ys w (parts_behind xs w n)
unfolding parts_text parts_behind
text_append [] ys w n = refl
text_append (x ∷ xs) ys w n = ap (λ (us : List ℤ). x.text w n ++ us) (text_append xs ys w (x.behind w n)) ∙ sym (append_assoc (x.text w n) (parts_text xs w (x.behind w n)) (parts_text ys w (parts_behind xs w (x.behind w n))))

-- ---- the stages of a statement in front of others

pub parts_append : (xs ys : List Stage) → parts (xs ++ ys) ≡ parts xs ++ parts ys
parts_append [] ys = refl
parts_append (x ∷ xs) ys = ap (λ (ps : List Part). x.part ∷ ps) (parts_append xs ys)

module _ (ds : List Domain) (rec cap : ℕ) where
  row_front : (stop : ℕ) (a : IntExpr) (p : ℕ) (bs : List IntExpr) (q : ℕ) (xs ys : List Stage) → row_stages ds rec cap stop a p bs q (xs ++ ys) ≡ row_stages ds rec cap stop a p bs q xs ++ ys
  unfolding row_stages
  row_front stop a p [] q xs ys = refl
  row_front stop a p (b ∷ bs) q xs ys = rw (row_front stop a p bs (q + length (encode_int b)) xs ys) refl

  pairs_front : (stop : ℕ) (es : List IntExpr) (p : ℕ) (xs ys : List Stage) → pairs_stages ds rec cap stop es p (xs ++ ys) ≡ pairs_stages ds rec cap stop es p xs ++ ys
  unfolding pairs_stages
  pairs_front stop [] p xs ys = refl
  pairs_front stop (e ∷ es) p xs ys =
      let q = p + length (encode_int e) in
      ap (row_stages ds rec cap stop e p es q) (pairs_front stop es q xs ys) ∙ row_front stop e p es q (pairs_stages ds rec cap stop es q xs) ys

  values_front : (es : List IntExpr) (stop : ℕ) (xs ys : List Stage) (zs : List ℤ) → values_stages ds es stop (xs ++ ys) zs ≡ values_stages ds es stop xs zs ++ ys
  unfolding values_stages
  values_front es stop xs ys [] = refl
  values_front es stop xs ys (z ∷ zs) = rw (values_front es stop xs ys zs) refl

  different_front : (es : List IntExpr) (p stop : ℕ) (ys : List Stage) → different_stages ds rec cap es p stop ys ≡ different_stages ds rec cap es p stop [] ++ ys
  unfolding different_stages
  different_front es p stop ys =
      let zs = values_used_up ds es in
      ap (pairs_stages ds rec cap stop es p) (values_front es stop [] ys zs) ∙ pairs_front stop es p (values_stages ds es stop [] zs) ys

  module _ (F : List ℤ) (at : ℕ) (t : Stmt) where
    pub stmt_front : (ys : List Stage) → stmt_stages ds rec cap F at t ys ≡ stmt_stages ds rec cap F at t [] ++ ys
    stmt_front ys = go t
      where
        go : (t : Stmt) → stmt_stages ds rec cap F at t ys ≡ stmt_stages ds rec cap F at t [] ++ ys
        go (Rule e) = unfold stmt_stages in refl
        go (Table es rows) = unfold stmt_stages in refl
        go (AllDifferent es) = unfold stmt_stages in different_front es (at + 2) (at + length (encode_stmt (AllDifferent es))) ys

    pub stmt_parts : (ys : List Stage) → parts (stmt_stages ds rec cap F at t ys) ≡ parts (stmt_stages ds rec cap F at t []) ++ parts ys
    stmt_parts ys = ap parts (stmt_front ys) ∙ parts_append (stmt_stages ds rec cap F at t []) ys

-- ---- the counters and the columns' own cells, along stages

own_first : (w : List ℤ) (xs ys : List Stage) (s : Log) → AllOwn w (xs ++ ys) s → AllOwn w xs s
unfolding AllOwn
own_first w [] ys s h = tt
own_first w (x ∷ xs) ys s h = (h.0, own_first w xs ys (x.step s) h.1)

own_rest : (w : List ℤ) (xs ys : List Stage) (s : Log) → AllOwn w (xs ++ ys) s → AllOwn w ys (steps xs s)
unfolding AllOwn steps
own_rest w [] ys s h = h
own_rest w (x ∷ xs) ys s h = own_rest w xs ys (x.step s) h.1

pub last_up_to : (a b : ℕ) (xs : List Stage) → a ≤ b → UpTo b xs → last_to a xs ≤ b
last_up_to a b [] l h = l
last_up_to a b (x ∷ xs) l h = last_up_to x.to b xs h.0 h.1

-- ---- as in walks' Rule; b: where the statements end

module _ (ds : List Domain) (F : List ℤ) (parted : ℕ → Bool) (rec cap : ℕ) (with_ifs : Bool) (before : List ℤ) (low : cap < limit) (b : ℕ) (inside : b ≤ folded_end) (marked : Marked F b with_ifs) where
  counts : NoIfs F b → (xs : List Stage) → UpTo b xs → AllWalk ds F parted rec cap with_ifs before low xs → (w : List ℤ) (s : Log) → AllKnown xs s → Ready w (steps xs s) → AllOwn w xs s → parts_behind (parts xs) w (at w s) ≡ at w (steps xs s)
  unfolding parts_behind steps AllOwn AllKnown
  counts i [] l k w s j r o = refl
  counts i (x ∷ xs) l k w s j r o =
      let y = k.0.second (λ q e t h m n. i q e t h m (omega (arith, l.0))) w s j.0 (ready_back (steps_grow ds F parted rec cap with_ifs before low xs k.1 (x.step s)) r) o.0 in
      ap (parts_behind (parts xs) w) y.behind ∙ counts i xs l.1 k.1 w (x.step s) j.1 r o.1

  -- the statement t at a place, ts behind it
  module _ (place : ℕ) (t : Stmt) (ts : List Stmt) (legal : Each LegalStmt (t ∷ ts)) (from : PartedFrom parted place (t ∷ ts)) (words : Has F place (encode_stmt t)) (start : folded ≤ place) (to : place + length (encode_stmt t) ≤ b) where
    abbrev own : List Stage
    own = stmt_stages ds rec cap F place t []

    abbrev rest : ℕ
    rest = place + length (encode_stmt t)

    log_is : (s : Log) → steps own s ≡ normalize_stmt ds t s
    log_is s = stmt_steps ds rec cap F place t [] s ∙ (unfold steps in refl)

    own_known : (s : Log) → AllKnown own s
    own_known s = stmt_known ds rec cap F place t [] s (unfold AllKnown in tt)

    own_walk : AllWalk ds F parted rec cap with_ifs before low own
    own_walk = stmt_walk ds F parted rec cap with_ifs before low b inside marked place t ts legal from words start to [] tt

    own_up_to : (c : ℕ) → rest ≤ c → UpTo c own
    own_up_to c l = stmt_up_to ds rec cap F c place t [] l tt

    -- numbered again and written
    pub record StmtAgain (st : State) (s : Log) : Type 0 where
      pub adds : Registers (again_text (parts (stmt_stages ds rec cap F place t [])) st) (again_lines (parts (stmt_stages ds rec cap F place t [])) st) s (normalize_stmt ds t s)
      pub owned : AllOwn (meet_parts (parts (stmt_stages ds rec cap F place t [])) st).work (stmt_stages ds rec cap F place t []) s
      pub stays : Stays place st.work (meet_parts (parts (stmt_stages ds rec cap F place t [])) st).work

    pub stmt_pass : (n : ℕ) (st : State) (s : Log) → Standing ds F parted rec cap with_ifs before low place (49152 * length (encode_stmt t) + n) st s → st.used ≤ words_of s
        → Passed ds F parted rec cap with_ifs before low (place + length (encode_stmt t)) n (StmtAgain st s) (meet_parts (parts (stmt_stages ds rec cap F place t [])) st) (normalize_stmt ds t s)
    stmt_pass n st s h u = subst (λ (z : Log). Passed ds F parted rec cap with_ifs before low rest n (StmtAgain st s) (meet_parts (parts own) st) z) (log_is s) (go (parts_pass ds F parted rec cap with_ifs before low own own_walk place place chain n st s (own_known s) h' u))
      where
        chain : Chained place place own
        chain = stmt_chains ds rec cap F place t [] (λ i j l m. tt) place place (omega arith) (omega arith)

        room : rooms own ≤ 49152 * length (encode_stmt t) + 0
        room = unfold rooms in stmt_rooms ds rec cap F place t [] (omega (arith, inside, start, to))

        h' : Standing ds F parted rec cap with_ifs before low place (rooms own + n) st s
        h' = standing_less ds F parted rec cap with_ifs before low place place (49152 * length (encode_stmt t) + n) (rooms own + n) st s (omega arith) (omega (arith, room)) h

        again : AllAgain ds F parted rec cap with_ifs before low place own st s → StmtAgain st s
        again x = record { adds = subst (λ (z : Log). Registers (again_text (parts own) st) (again_lines (parts own) st) s z) (log_is s) x.adds; owned = x.owned; stays = x.stays }

        go : Passed ds F parted rec cap with_ifs before low (last_to place own) n (AllAgain ds F parted rec cap with_ifs before low place own st s) (meet_parts (parts own) st) (steps own s) → Passed ds F parted rec cap with_ifs before low rest n (StmtAgain st s) (meet_parts (parts own) st) (steps own s)
        go (full x y) = full x y
        go (good g v x) = good (standing_less ds F parted rec cap with_ifs before low (last_to place own) rest n n (meet_parts (parts own) st) (steps own s) (last_up_to place rest own (omega arith) (own_up_to rest (omega arith))) (omega arith) g) v (again x)

    -- by a slice with the final maps, where no If stands
    pub record StmtWrites (w : List ℤ) (s : Log) : Type 0 where
      pub adds : Registers (parts_text (parts (stmt_stages ds rec cap F place t [])) w (at w s)) (parts_lines (parts (stmt_stages ds rec cap F place t [])) w (at w s)) s (normalize_stmt ds t s)
      pub behind : parts_behind (parts (stmt_stages ds rec cap F place t [])) w (at w s) ≡ at w (normalize_stmt ds t s)

    pub stmt_written : NoIfs F b → (w : List ℤ) (s : Log) → Ready w (normalize_stmt ds t s) → AllOwn w (stmt_stages ds rec cap F place t []) s → StmtWrites w s
    stmt_written i w s r o =
        let r' : Ready w (steps own s) = subst (λ (z : Log). Ready w z) (sym (log_is s)) r in
        let l = own_up_to b to in
        record {
          adds = subst (λ (z : Log). Registers (parts_text (parts own) w (at w s)) (parts_lines (parts own) w (at w s)) s z) (log_is s) (parts_written ds F parted rec cap with_ifs before low b i own l own_walk w s (own_known s) r' o);
          behind = counts i own l own_walk w s (own_known s) r' o ∙ ap (at w) (log_is s);
        }

    -- its own cells, and those of the statements behind it
    pub owned_parts : (w : List ℤ) (ys : List Stage) (s : Log) → AllOwn w (stmt_stages ds rec cap F place t ys) s → AllOwn w (stmt_stages ds rec cap F place t []) s × AllOwn w ys (normalize_stmt ds t s)
    owned_parts w ys s h =
        let h' : AllOwn w (own ++ ys) s = subst (λ (xs : List Stage). AllOwn w xs s) (stmt_front ds rec cap F place t ys) h in
        (own_first w own ys s h', subst (λ (z : Log). AllOwn w ys z) (log_is s) (own_rest w own ys s h'))
