-- The tasks of folded statements follow their parts, so that the walk by the words fits and leaves the state that stages' parts leave, or both are full
-- (`stmts_followed`, for one statement `stmt_followed`). As in stages: F, the folded words, in which the statements stand; b, where they end.
use Rattle.std.specs.Prelude.{◌≡◌, Bool, ℤ}
use Rattle.std.proofs.Math.Path.{refl, ap, subst}
use Rattle.std.proofs.Common.{sym, ◌∙◌}
use mathlib.Core.List.{List, [], ◌∷◌}
use Prim.Native.Nat.{ℕ, zero, suc, ◌+◌, ◌-◌, ◌≤◌, ◌<◌}
use native.Mathlib.Omega.{arith}
use Rattle.std.proofs.Math.IntN.{pos}
use Rattle.std.proofs.Math.ListN.{length, length-append}
use Rattle.laws.specs.Slices.{Has, has_front, has_back, has_rest}
use Rattle.memory.specs.Places.{folded, folded_end, limit}
use Rattle.syntax.specs.Syntax.{Domain, IntExpr, BoolExpr, encode_int, encode_bool, Cell, Stmt, Rule, Table, AllDifferent, encode_stmt}
use Rattle.words.specs.Exact.{Each}
use Rattle.clauses.specs.Log.{Log}
use Rattle.different.specs.Different.{values_used_up}
use Rattle.walk.specs.Decode.{read_part}
use Rattle.walks.specs.Tree.{Place, below, here, splits, splits_int}
use Rattle.walks.specs.Form.{Forms, forms}
use Rattle.walks.specs.Resolve.{rule_trees, pair_trees}
use Rattle.walks.specs.Meet.{State, with_work, more_bools, form_meets}
use Rattle.walks.specs.Legal.{LegalInt, LegalRule}
use Rattle.walks.specs.Leaves.{words_of}
use Rattle.walks.specs.Decode.{decode_int}
use Rattle.walks.specs.DecodeExact.{rule_stands, pair_stands, column_stands}
use Rattle.walks.specs.Clear.{clear_places}
use Rattle.walks.specs.Keys.{keys_int, Every, every_map, every_append, every_left}
use Rattle.walks.specs.KeyAt.{same_places_int, pair_keys}
use Rattle.walks.specs.KeyPlaces.{AgreesWith}
use Rattle.walks.specs.SumsFit.{WithinLater, WithinPairs}
use Rattle.statements.specs.Table.{table_fresh}
use Rattle.statements.specs.Statements.{table_words, table_length}
use Rattle.stages.specs.Room.{splits_low, splits_int_low}
use Rattle.stages.specs.Columns.{column_at, meet_columns}
use Rattle.stages.specs.Table.{meet_table}
use Rattle.stages.specs.StatementsParts.{Stage, rooms, AllKnown, Standing}
use Rattle.stages.specs.StatementsRules.{rule_stage}
use Rattle.stages.specs.StatementsPlaces.{stmts_words, LegalStmt, PartedFrom, parted_rest, Marked, rule_agrees, sides_agree, columns_agree_here}
use Rattle.stages.specs.TableStage.{table_stage}
use Rattle.stages.specs.Pairs.{clear_pair, pair_stage, sides_words, row_stages, pairs_stages, sides_keys, SidesStand, sides_rest, agrees_same}
use Rattle.stages.specs.Different.{value_stage, values_stages, different_stages}
use Rattle.stages.specs.Statements.{stmt_stages, stmts_stages, stmt_known, stmts_known, stmt_chains, stmts_chains, stmt_walk, stmts_walk}
use Rattle.stages.specs.StartFits.{StmtWithin}
use Rattle.numbering.specs.Task.{Task, skip}
use Rattle.numbering.specs.Rules.{rule_task, pair_task}
use Rattle.numbering.specs.Columns.{column_task}
use Rattle.stmtwords.specs.Cleared.{pair_ifs}
use Rattle.stmtwords.specs.PairIfs.{pair_are}
use Rattle.numbering.specs.Tasks.{columns_task, clear_task, cleared_task, row_task, pairs_task, table_task, stmt_task, stmts_task}
use Rattle.numbering.specs.StageFits.{rule_fitting, pair_fitting, table_fitting}
use Rattle.numbering.specs.Follow.{Meeting, Follow, none, one, still, Followed, follow}

-- the numbers taken behind n
taken : (e n k : ℕ) → e ≡ n + k → e - n ≡ k
taken e n k h = omega arith

module _ (ds : List Domain) (F : List ℤ) (parted : ℕ → Bool) (rec cap : ℕ) (with_ifs : Bool) (before : List ℤ) (low : cap < limit) where
  abbrev Meets : Stage → Task → Type 0
  Meets = Meeting ds F parted rec cap with_ifs before low

  abbrev FollowHere : List Stage → Task → Type 1
  FollowHere = Follow ds F parted rec cap with_ifs before low

  -- forms as they are read, behind as many numbers
  forms_met : (f g : Forms) (j k : ℕ) (st : State) → f ≡ g → j ≡ k → form_meets ds rec cap f (more_bools j st) ≡ form_meets ds rec cap g (more_bools k st)
  forms_met f g j k st x y = ap (λ (z : Forms). form_meets ds rec cap z (more_bools j st)) x ∙ ap (λ (i : ℕ). form_meets ds rec cap g (more_bools i st)) y

  -- ---- a rule

  rule_follows : (e : BoolExpr) (p : ℕ) → LegalRule e 64 → Has F p (encode_bool e) → Meets (rule_stage ds rec cap e p) (rule_task rec cap F p)
  unfolding rule_task
  rule_follows e p legal words n st s h =
      let m = st.bools in
      let i : m + splits e below ≤ limit = omega (arith, h.state.room, splits_low e below) in
      let r = rule_stands e F 64 p m legal words i in
      forms_met _ (forms (rule_trees e p m)) _ (splits e below) st r.trees (taken _ m (splits e below) r.next)

  -- ---- a table

  columns_met : (k p : ℕ) (st : State) → (columns_task rec cap F k p).meet ds st ≡ meet_columns ds rec cap F k p st
  unfolding columns_task meet_columns column_task
  columns_met zero p st = refl
  columns_met (suc k) p st = columns_met k (column_at F p).end _

  table_follows : (es : List IntExpr) (rows : List (List Cell)) (at : ℕ) → Meets (table_stage ds rec cap F es rows at) (table_task rec cap F at es rows)
  unfolding meet_table
  table_follows es rows at n st s h = ap (more_bools (table_fresh (length es) rows)) (columns_met (length es) (at + 3) st)

  -- ---- a pair

  pub pair_follows : (a b : IntExpr) (p q stop : ℕ) → LegalInt a 64 → LegalInt b 64 → Has F p (encode_int a) → Has F q (encode_int b) → ((n : ℕ) → Every (AgreesWith parted with_ifs) (pair_keys a b p q n)) → Meets (pair_stage ds rec cap a b p q stop) (cleared_task rec cap F p q)
  unfolding pair_task clear_task clear_pair splits
  pair_follows a b p q stop first second words others agree n st s h =
      let m = st.bools in
      let j = splits_int a here in
      let k = splits_int b here in
      let w = st.work in
      let i : m + j + k ≤ limit = omega (arith, h.state.room, splits_int_low a here, splits_int_low b here) in
      let r = pair_stands a b F 64 p q m first second words others i in
      let e : read_part w ≡ F = h.state.words in
      let da : Has (read_part w) p (encode_int a) = subst (λ (ws : List ℤ). Has ws p (encode_int a)) (sym e) words in
      let db : Has (read_part w) q (encode_int b) = subst (λ (ws : List ℤ). Has ws q (encode_int b)) (sym e) others in
      let c = pair_are w a b p q first second da db m (every_map (λ x y. h.state.word ∙ y.1) (agree m)) in
      let next : (decode_int F 64 here q (decode_int F 64 here p m).next).next ≡ m + (j + k) = ap (λ (x : ℕ). (decode_int F 64 here q x).next) r.middle ∙ r.next ∙ omega arith in
      forms_met _ (forms (pair_trees a b p q m)) _ (j + k) (with_work (clear_places (pair_ifs w p q) w) st) r.trees (taken _ m (j + k) next)
      ∙ ap (λ (ps : List Place). form_meets ds rec cap (forms (pair_trees a b p q m)) (more_bools (j + k) (with_work (clear_places ps w) st))) c

  -- ---- all pairs, in front of what follows

  module _ (stop : ℕ) (end : stop ≤ folded_end) where
    abbrev SidesHere : List IntExpr → ℕ → Type 0
    SidesHere = SidesStand F parted with_ifs stop

    pub side_words : (e : IntExpr) (es : List IntExpr) (p : ℕ) → SidesHere (e ∷ es) p → Has F p (encode_int e)
    side_words e es p h = has_front F p (encode_int e) (sides_words es) h.words

    pub side_end : (e : IntExpr) (es : List IntExpr) (p : ℕ) → SidesHere (e ∷ es) p → (column_at F p).end ≡ p + length (encode_int e)
    side_end e es p h = (column_stands e F 64 p 0 h.legal.0 (side_words e es p h) (omega arith)).end

    pub side_agrees : (e : IntExpr) (es : List IntExpr) (p : ℕ) → SidesHere (e ∷ es) p → (n : ℕ) → Every (AgreesWith parted with_ifs) (keys_int e here p n)
    unfolding sides_keys
    side_agrees e es p h n = agrees_same parted with_ifs (same_places_int e here p 0 n) (every_left (keys_int e here p 0) (sides_keys es (p + length (encode_int e))) h.agree)

    row_follow : (a : IntExpr) (cs : List IntExpr) (p : ℕ) (bs : List IntExpr) (q : ℕ) (xs : List Stage) (u : Task) → SidesHere (a ∷ cs) p → SidesHere bs q → p + length (encode_int a) ≤ q → WithinLater ds a bs → FollowHere xs u → FollowHere (row_stages ds rec cap stop a p bs q xs) (row_task rec cap F p (length bs) q u)
    unfolding row_stages row_task WithinLater
    row_follow a cs p [] q xs u h k l i f = f
    row_follow a cs p (b ∷ bs) q xs u h k l i f =
        let r = q + length (encode_int b) in
        let g = row_follow a cs p bs r xs u h (sides_rest F parted with_ifs stop b bs q k) (omega arith) i.1 f in
        let g' : FollowHere (row_stages ds rec cap stop a p bs r xs) (row_task rec cap F p (length bs) (column_at F q).end u) =
        subst (λ (j : ℕ). FollowHere (row_stages ds rec cap stop a p bs r xs) (row_task rec cap F p (length bs) j u)) (sym (side_end b bs q k)) g in
        let agree : (n : ℕ) → Every (AgreesWith parted with_ifs) (pair_keys a b p q n) = λ n. every_append (side_agrees a cs p h n) (side_agrees b bs q k (n + splits_int a here)) in
        let to : q + length (encode_int b) ≤ stop = omega (arith, k.to, length-append (encode_int b) (sides_words bs)) in
        one (pair_stage ds rec cap a b p q stop) (row_stages ds rec cap stop a p bs r xs) (cleared_task rec cap F p q) (row_task rec cap F p (length bs) (column_at F q).end u) (record {
          fits = pair_fitting ds F parted rec cap with_ifs before low a b p q stop h.legal.0 k.legal.0 i.0 (side_words a cs p h) (side_words b bs q k) h.from l to end agree;
          meet = pair_follows a b p q stop h.legal.0 k.legal.0 (side_words a cs p h) (side_words b bs q k) agree;
        }) g'

    pairs_follow : (es : List IntExpr) (p : ℕ) (xs : List Stage) (u : Task) → SidesHere es p → WithinPairs ds es → FollowHere xs u → FollowHere (pairs_stages ds rec cap stop es p xs) (pairs_task rec cap F (length es) p u)
    unfolding pairs_stages pairs_task WithinPairs
    pairs_follow [] p xs u h i f = f
    pairs_follow (e ∷ es) p xs u h i f =
        let q = p + length (encode_int e) in
        let k = sides_rest F parted with_ifs stop e es p h in
        let g = row_follow e es p es q (pairs_stages ds rec cap stop es q xs) (pairs_task rec cap F (length es) q u) h k (omega arith) i.0 (pairs_follow es q xs u k i.1 f) in
        subst (λ (j : ℕ). FollowHere (row_stages ds rec cap stop e p es q (pairs_stages ds rec cap stop es q xs)) (row_task rec cap F p (length es) j (pairs_task rec cap F (length es) j u))) (sym (side_end e es p h)) g

    -- the values' clauses make no number
    values_follow : (es : List IntExpr) (vs : List ℤ) (xs : List Stage) (u : Task) → FollowHere xs u → FollowHere (values_stages ds es stop xs vs) u
    unfolding values_stages
    values_follow es [] xs u f = f
    values_follow es (v ∷ vs) xs u f = still (value_stage ds es stop v) (values_stages ds es stop xs vs) u (λ st. refl) (values_follow es vs xs u f)

  -- ---- statements

  module _ (b : ℕ) (inside : b ≤ folded_end) (marked : Marked F b with_ifs) where
    stmt_follow : (at : ℕ) (t : Stmt) (ts : List Stmt) → Each LegalStmt (t ∷ ts) → StmtWithin ds t → PartedFrom parted at (t ∷ ts) → Has F at (encode_stmt t) → folded ≤ at → at + length (encode_stmt t) ≤ b → (xs : List Stage) (u : Task) → FollowHere xs u → FollowHere (stmt_stages ds rec cap F at t xs) (stmt_task rec cap F at t u)
    unfolding stmt_stages stmt_task different_stages
    stmt_follow at (Rule e) ts h i k d l m xs u f =
        let n : length (encode_stmt (Rule e)) ≡ 1 + length (encode_bool e) = unfold encode_stmt in omega arith in
        let c : Has F (at + 1) (encode_bool e) = unfold encode_stmt in has_rest F at (pos 1) (encode_bool e) d in
        one (rule_stage ds rec cap e (at + 1)) xs (rule_task rec cap F (at + 1)) u (record {
          fits = rule_fitting ds F parted rec cap with_ifs before low e (at + 1) h.0 i c (omega arith) (omega (arith, n)) (rule_agrees F b with_ifs marked parted at ts e h k c l (omega (arith, n)));
          meet = rule_follows e (at + 1) h.0 c;
        }) f
    stmt_follow at (Table es rows) ts h i k d l m xs u f =
        let n = table_length es rows in
        one (table_stage ds rec cap F es rows at) xs (table_task rec cap F at es rows) u (record {
          fits = table_fitting ds F parted rec cap with_ifs before low es rows at d l (omega arith) h.0 i (columns_agree_here F b with_ifs marked parted at ts es rows h k (table_words F at es rows d) l (omega (arith, n)) m);
          meet = table_follows es rows at;
        }) f
    stmt_follow at (AllDifferent es) ts h i k d l m xs u f =
        let stop = at + length (encode_stmt (AllDifferent es)) in
        let n : length (encode_stmt (AllDifferent es)) ≡ 2 + length (sides_words es) = unfold encode_stmt in omega arith in
        let c : Has F (at + 2) (sides_words es) = unfold encode_stmt in has_back F at (pos 3 ∷ pos (length es) ∷ []) (sides_words es) d in
        let g : SidesStand F parted with_ifs stop es (at + 2) = record { legal = h.0; words = c; from = omega arith; to = omega (arith, n); agree = sides_agree F b with_ifs marked parted at ts es h k c l (omega (arith, n)) } in
        pairs_follow stop (omega arith) es (at + 2) (values_stages ds es stop xs (values_used_up ds es)) u g i (values_follow stop (omega arith) es (values_used_up ds es) xs u f)

    stmts_follow : (at : ℕ) (ts : List Stmt) → Each LegalStmt ts → Each (StmtWithin ds) ts → PartedFrom parted at ts → Has F at (stmts_words ts) → folded ≤ at → at + length (stmts_words ts) ≤ b → FollowHere (stmts_stages ds rec cap F at ts) (stmts_task rec cap F at ts)
    unfolding stmts_stages stmts_task
    stmts_follow at [] h i k d l m = none
    stmts_follow at (t ∷ ts) h i k d l m =
        let rest = at + length (encode_stmt t) in
        let n = length-append (encode_stmt t) (stmts_words ts) in
        stmt_follow at t ts h i.0 k (has_front F at (encode_stmt t) (stmts_words ts) d) l (omega (arith, n)) (stmts_stages ds rec cap F rest ts) (stmts_task rec cap F rest ts)
        (stmts_follow rest ts h.1 i.1 (parted_rest parted at t ts h k) (has_back F at (encode_stmt t) (stmts_words ts) d) (omega arith) (omega (arith, n)))

    -- from the state st of the log s
    pub stmts_followed : (at : ℕ) (ts : List Stmt) → Each LegalStmt ts → Each (StmtWithin ds) ts → PartedFrom parted at ts → Has F at (stmts_words ts) → folded ≤ at → at + length (stmts_words ts) ≤ b → (n : ℕ) (st : State) (s : Log)
        → Standing ds F parted rec cap with_ifs before low at (rooms (stmts_stages ds rec cap F at ts) + n) st s → st.used ≤ words_of s → Followed ds F parted rec cap with_ifs before low (stmts_task rec cap F at ts) (stmts_stages ds rec cap F at ts) st
    stmts_followed at ts h i k d l m n st s g v =
        follow ds F parted rec cap with_ifs before low (stmts_follow at ts h i k d l m) (stmts_walk ds F parted rec cap with_ifs before low b inside marked at ts h k d l m) at at (stmts_chains ds rec cap F at ts at at (omega arith) (omega arith)) n st s (stmts_known ds rec cap F at ts s) g v

    -- one statement
    pub stmt_followed : (at : ℕ) (t : Stmt) (ts : List Stmt) → Each LegalStmt (t ∷ ts) → StmtWithin ds t → PartedFrom parted at (t ∷ ts) → Has F at (encode_stmt t) → folded ≤ at → at + length (encode_stmt t) ≤ b → (n : ℕ) (st : State) (s : Log)
        → Standing ds F parted rec cap with_ifs before low at (rooms (stmt_stages ds rec cap F at t []) + n) st s → st.used ≤ words_of s → Followed ds F parted rec cap with_ifs before low (stmt_task rec cap F at t skip) (stmt_stages ds rec cap F at t []) st
    stmt_followed at t ts h i k d l m n st s g v =
        follow ds F parted rec cap with_ifs before low (stmt_follow at t ts h i k d l m [] skip none) (stmt_walk ds F parted rec cap with_ifs before low b inside marked at t ts h k d l m [] tt) at at (stmt_chains ds rec cap F at t [] (λ i j x y. tt) at at (omega arith) (omega arith)) n st s (stmt_known ds rec cap F at t [] s (unfold AllKnown in tt)) g v
