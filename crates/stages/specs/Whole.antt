-- The answer's words by the two walks with Ifs. Where the first walk is full, the answer is longer than the cap (`too_long`). Else the maps and counters of
-- the work slice, the records that stand in the output and the words of the second walk make up the layout (`answer_words`). The second walk writes the
-- clauses: with each part numbered again from a like start (`again_adds`), or by the maps that the first leaves where no If stands (`by_maps_adds`).
use Rattle.std.specs.Prelude.{◌≡◌, Bool, true, false, ℕ, ◌+◌, ◌*◌, ◌≤◌, ◌<◌, min, ℤ}
use Rattle.std.proofs.Math.Path.{refl, sym, ap, subst}
use Rattle.std.proofs.Common.{◌∙◌, arith, length-append}
use mathlib.Core.List.{List, [], ◌∷◌, ◌++◌, map}
use Rattle.std.proofs.Math.IntN.{pos}
use Rattle.std.proofs.Math.ListN.{length, length-map}
use Rattle.std.proofs.lemmas.List.Edits.{sets}
use Rattle.laws.specs.Bools.{never}
use Rattle.laws.specs.Lists.{flat, below, counted, length_from}
use Rattle.laws.specs.Slices.{Has}
use Rattle.memory.specs.Places.{folded, limit}
use Rattle.syntax.specs.Syntax.{Domain, Stmt, Problem}
use Rattle.syntax.specs.Words.{max_bools, max_answer_words, max_ints}
use Rattle.words.specs.Exact.{Each}
use Rattle.fold.specs.Fold.{Fixed}
use Rattle.clauses.specs.Clause.{lit, Clause, clause}
use Rattle.clauses.specs.Log.{MadeInt, declared_int, column, chosen, binary, Log, next_bool, next_int, get_bool_var, get_int_var, made_ints, emitted_domains, clauses_of}
use Rattle.clauses.proofs.Emitted.{length_emitted}
use Rattle.answer.specs.Answer.{emitted_of, emitted, fixed_word, map_word, bool_word, start_log, lit_words, emitted_words, linear_words, clause_words, layout, answer_of, normalize, normalize_stmts}
use Rattle.answer.proofs.Start.{start_well}
use Rattle.walk.specs.Item.{bool_at, int_entry}
use Rattle.walk.proofs.Texts.{layout as clauses-layout, layout_words}
use Rattle.walk.specs.declared.Counters.{Counters}
use Rattle.walks.specs.Item.{counters}
use Rattle.walks.specs.Meet.{State}
use Rattle.walks.specs.Implements.{at, Ready, Registers}
use Rattle.walks.specs.Plain.{PlainInt}
use Rattle.walks.specs.Constant.{Named}
use Rattle.walks.specs.Good.{made_record, records_of, records_length}
use Rattle.walks.specs.Leaves.{words_of}
use Rattle.walks.specs.Visit.{good_ready}
use Rattle.walks.specs.Walked.{fixed, names}
use Rattle.statements.specs.Bounds.{start_low}
use Rattle.statements.specs.Whole.{entries, words_at, start_none}
use Rattle.stages.specs.StatementsParts.{Stage, parts, meet_parts, again_text, again_lines, parts_text, parts_lines, steps, rooms, Chained, AllKnown, NoIfs, last_to, Standing, Passed, full, good, AllWalk, standing_less, AllAgain, parts_pass, parts_written}
use Rattle.stages.specs.StatementsPlaces.{stmts_words, parted_of, LegalStmt, Marked}
use Rattle.stages.specs.Statements.{stmts_stages, stmts_steps, stmts_known, stmts_chains, stmts_up_to, stmts_rooms, stmts_walk}
use Rattle.stages.specs.Start.{start, Begun, start_stands}

-- ---- the records of a log are those of its answer

module _ (ds : List Domain) where
  record_is : (m : MadeInt) → emitted_words (emitted_of ds m) ≡ made_record ds m
  record_is (declared_int v) = refl
  record_is (column l d) = refl
  record_is (chosen i e p q d) = refl
  record_is (binary i (lit n false) a b) = refl
  record_is (binary i (lit n true) a b) = refl

  records_are : (ms : List MadeInt) → flat (map emitted_words (map (emitted_of ds) ms)) ≡ flat (map (made_record ds) ms)
  records_are [] = refl
  records_are (m ∷ ms) = rw (record_is m, records_are ms) refl

  emitted_count : (s : Log) → length (emitted ds s) ≡ next_int s
  unfolding emitted emitted_domains
  emitted_count s = length-map (made_ints s) (emitted_of ds) ∙ sym (length-map (made_ints s) _) ∙ length_emitted ds s

  emitted_records : (s : Log) → flat (map emitted_words (emitted ds s)) ≡ records_of ds s
  unfolding emitted records_of
  emitted_records s = records_are (made_ints s)

-- what a log takes of the answer stands in it
words_within : (m : Bool) (p : Problem) (f : Fixed) (ss : List Stmt) → words_of (normalize_stmts p.domains ss (start_log m ss)) ≤ length (layout (normalize m p f ss))
unfolding words_of layout normalize answer_of
words_within m p f ss =
    let ds = p.domains in
    let s = normalize_stmts ds ss (start_log m ss) in
    let a : List ℤ = map fixed_word (map f (below p.bools)) in
    let b : List ℤ = map bool_word (map (λ v. get_bool_var v s) (below p.bools)) in
    let c : List ℤ = map map_word (map (λ v. get_int_var v s) (below (length ds))) in
    let d : List ℤ = counted emitted_words (emitted ds s) in
    let e : List ℤ = counted clause_words (clauses_of s) in
    let i : length d ≡ 1 + 4 * next_int s = omega (arith, ap length (emitted_records ds s), records_length ds s) in
    let j : length (flat (map clause_words (clauses_of s))) ≡ length (clauses-layout [] (clauses_of s)) = ap length (sym (layout_words (clauses_of s))) in
    omega (arith, i, j, length-append a (b ++ (c ++ (pos (next_bool s) ∷ (d ++ e)))), length-append b (c ++ (pos (next_bool s) ∷ (d ++ e))), length-append c (pos (next_bool s) ∷ (d ++ e)), length-append d e)

pub clauses_many : (cs : List Clause) → length cs ≤ length (flat (map clause_words cs))
clauses_many [] = omega arith
clauses_many (clause ls ks ∷ cs) = omega (arith, clauses_many cs, length-append (clause_words (clause ls ks)) (flat (map clause_words cs)), length-append (counted lit_words ls) (counted linear_words ks))

-- the number of clauses, as counted up to the limit, is theirs where the answer is not that long
pub count_exact : (m : Bool) (p : Problem) (f : Fixed) (ss : List Stmt) (lines : ℕ) → let cs = clauses_of (normalize_stmts p.domains ss (start_log m ss)) in lines ≡ min (length cs) limit → length (layout (normalize m p f ss)) ≤ limit → lines ≡ length cs
count_exact m p f ss lines h l =
    let s = normalize_stmts p.domains ss (start_log m ss) in
    let i : words_of s ≡ 4 * next_int s + length (clauses-layout [] (clauses_of s)) = unfold words_of in refl in
    omega (arith, i, words_within m p f ss, ap length (layout_words (clauses_of s)), clauses_many (clauses_of s))

-- ---- the walks over a set; ss: the statements that the passes leave of p, F: the folded words

-- the records stand behind the fixed values, the maps and the two counters
abbrev pub records_from : Problem → ℕ
records_from p = 2 * p.bools + length p.domains + 2

-- cap: the longest answer
unfoldable pub set_stages : Problem → List Stmt → List ℤ → ℕ → List Stage
set_stages p ss F cap = stmts_stages p.domains (records_from p) cap F folded ss

-- the state behind the last statement
unfoldable pub behind : Problem → List Stmt → List ℤ → ℕ → State → State
behind p ss F cap st = meet_parts (parts (set_stages p ss F cap)) st

-- what the walks ask of the set; with-ifs: whether an If stands in the folded words
pub record Walkable (p : Problem) (ss : List Stmt) (F : List ℤ) (with_ifs : Bool) (cap : ℕ) : Type 0 where
  pub few_bools : p.bools ≤ max_bools
  pub few_ints : length p.domains ≤ max_ints
  pub legal : Each LegalStmt ss
  pub short : length (stmts_words ss) ≤ 4096
  pub stands : Has F folded (stmts_words ss)
  pub marked : Marked F (folded + length (stmts_words ss)) with_ifs
  pub small : cap ≤ max_answer_words

-- m: merging chosen
abbrev pub log_of : Bool → Problem → List Stmt → Log
log_of m p ss = normalize_stmts p.domains ss (start_log m ss)

-- so many words stand before them; g, h: the words of the maps' entries
pub records_place : (p : Problem) (f : Fixed) (g h : ℕ → ℤ) (a b : ℤ) → length (map fixed_word (map f (below p.bools)) ++ (map g (below p.bools) ++ (map h (below (length p.domains)) ++ (a ∷ b ∷ [])))) ≡ records_from p
records_place p f g h a b =
    let x : List ℤ = map fixed_word (map f (below p.bools)) in
    let y : List ℤ = map g (below p.bools) in
    let z : List ℤ = map h (below (length p.domains)) in
    omega (arith, length-append x (y ++ (z ++ (a ∷ b ∷ []))), length-append y (z ++ (a ∷ b ∷ [])), length-append z (a ∷ b ∷ []), length-map (map f (below p.bools)) fixed_word, length-map (below p.bools) f, length-map (below p.bools) g, length-map (below (length p.domains)) h, length_from 0 p.bools, length_from 0 (length p.domains))

-- the answer from the state behind the first walk, the output before it, and the words of the clauses as written and their number
pub record Answered (m : Bool) (p : Problem) (f : Fixed) (ss : List Stmt) (before : List ℤ) (st : State) (text : List ℤ) (lines : ℕ) : Type 0 where
  pub words : layout (normalize m p f ss)
      ≡ map fixed_word (map f (below p.bools))
      ++ (map (bool_at st.work) (below p.bools)
      ++ (map (λ v. pos (int_entry st.work v)) (below (length p.domains))
      ++ (pos st.bools ∷ (pos st.ints ∷ records_of p.domains (log_of m p ss)) ++ (pos (length (clauses_of (log_of m p ss))) ∷ text))))
  pub count : lines ≡ min (length (clauses_of (log_of m p ss))) limit
  pub records : st.out ≡ sets before (records_from p) (records_of p.domains (log_of m p ss))

module _ (m : Bool) (p : Problem) (f : Fixed) (ss : List Stmt) (F : List ℤ) (with_ifs : Bool) (cap : ℕ) (set : Walkable p ss F with_ifs cap) where
  abbrev ds : List Domain
  ds = p.domains

  abbrev rec : ℕ
  rec = records_from p

  abbrev end : ℕ
  end = folded + length (stmts_words ss)

  abbrev parted : ℕ → Bool
  parted = parted_of folded ss

  abbrev stages : List Stage
  stages = set_stages p ss F cap

  abbrev s0 : Log
  s0 = start_log m ss

  abbrev log : Log
  log = log_of m p ss

  pub cap_low : cap < limit
  cap_low = omega (arith, set.small)

  walk : (before : List ℤ) → AllWalk ds F parted rec cap with_ifs before cap_low stages
  unfolding set_stages
  walk before = stmts_walk ds F parted rec cap with_ifs before cap_low end (omega (arith, set.short)) set.marked folded ss set.legal (λ q l. refl) set.stands (omega arith) (omega arith)

  log_is : steps stages s0 ≡ log
  unfolding set_stages
  log_is = stmts_steps ds rec cap F folded ss s0

  knows : AllKnown stages s0
  unfolding set_stages
  knows = stmts_known ds rec cap F folded ss s0

  chain : Chained folded folded stages
  unfolding set_stages
  chain = stmts_chains ds rec cap F folded ss folded folded (omega arith) (omega arith)

  -- ---- the first walk, from the slice w on; n: how many numbers merging gave

  module _ (w : List ℤ) (n : ℕ) (begun : Begun F with_ifs w n (start_log m ss)) where
    -- with room for each statement by its words, as a loop over them asks (StatementsEach)
    pub begins : (before : List ℤ) → Standing ds F parted rec cap with_ifs before cap_low folded (49152 * length (stmts_words ss)) (start w before n) s0
    begins before = start_stands ds F parted rec cap with_ifs before cap_low w n s0 (start_well m ss) begun (49152 * length (stmts_words ss)) (omega (arith, set.small, set.short, begun.bools, start_low m ss))

    roomy : (before : List ℤ) → Standing ds F parted rec cap with_ifs before cap_low folded (rooms stages + 0) (start w before n) s0
    unfolding set_stages
    roomy before = standing_less ds F parted rec cap with_ifs before cap_low folded folded (49152 * length (stmts_words ss)) (rooms stages + 0) (start w before n) s0 (omega arith) (omega (arith, stmts_rooms ds rec cap F folded ss set.short)) (begins before)

    abbrev Pass : List ℤ → Log → Type 0
    Pass before t = Passed ds F parted rec cap with_ifs before cap_low (last_to folded stages) 0 (AllAgain ds F parted rec cap with_ifs before cap_low folded stages (start w before n) s0) (behind p ss F cap (start w before n)) t

    pass : (before : List ℤ) → Pass before (steps stages s0)
    unfolding behind
    pass before =
        parts_pass ds F parted rec cap with_ifs before cap_low stages (walk before) folded folded chain 0 (start w before n) s0 knows
        (roomy before) (omega arith)

    -- refusal 12
    pub too_long : (before : List ℤ) → cap < (behind p ss F cap (start w before n)).used → cap < length (layout (normalize m p f ss))
    too_long before h = go (pass before)
      where
        go : Pass before (steps stages s0) → cap < length (layout (normalize m p f ss))
        go (full x y) = omega (arith, y, ap words_of log_is, words_within m p f ss)
        go (good g u a) = omega (arith, u, ap words_of log_is, words_within m p f ss)

    -- behind one that is not full
    pub record Ended (before : List ℤ) : Type 0 where
      pub standing : Standing ds F parted rec cap with_ifs before cap_low (last_to folded stages) 0 (behind p ss F cap (start w before n)) log
      pub again : AllAgain ds F parted rec cap with_ifs before cap_low folded stages (start w before n) s0

    pub ended : (before : List ℤ) → (behind p ss F cap (start w before n)).used ≤ cap → Ended before
    ended before h = go (pass before)
      where
        go : Pass before (steps stages s0) → Ended before
        go (full x y) = absurd (omega arith)
        go (good g u a) = record { standing = subst (λ (t : Log). Standing ds F parted rec cap with_ifs before cap_low (last_to folded stages) 0 (behind p ss F cap (start w before n)) t) log_is g; again = a }

    -- ---- the second: each part numbered again, with an empty output

    pub again_adds : (behind p ss F cap (start w [] n)).used ≤ cap → Registers (again_text (parts (set_stages p ss F cap)) (start w [] n)) (again_lines (parts (set_stages p ss F cap)) (start w [] n)) (start_log m ss) (log_of m p ss)
    again_adds h = subst (λ (t : Log). Registers (again_text (parts stages) (start w [] n)) (again_lines (parts stages) (start w [] n)) s0 t) log_is (ended [] h).again.adds

    -- by the maps that the first walk leaves
    pub by_maps_adds : with_ifs ≡ false → (before : List ℤ) → let v = (behind p ss F cap (start w before n)).work in (behind p ss F cap (start w before n)).used ≤ cap
        → Registers (parts_text (parts (set_stages p ss F cap)) v (counters n 0)) (parts_lines (parts (set_stages p ss F cap)) v (counters n 0)) (start_log m ss) (log_of m p ss)
    by_maps_adds off before h =
        let v = (behind p ss F cap (start w before n)).work in
        let e = ended before h in
        let g = e.standing in
        let r : Ready v log = good_ready ds F PlainInt parted g.key (fixed ds) rec cap with_ifs before (Named ds) (names ds) g.places cap_low 0 (behind p ss F cap (start w before n)) log g.state in
        let c : at v s0 ≡ counters n 0 = rw (g.state.word, off, begun.bools) refl in
        let x = parts_written ds F parted rec cap with_ifs before cap_low end none_stands stages (unfold set_stages in stmts_up_to ds rec cap F end folded ss (omega arith)) (walk before) v s0 knows (subst (λ (t : Log). Ready v t) (sym log_is) r) (unfold behind in e.again.owned) in
        let y : Registers (parts_text (parts stages) v (counters n 0)) (parts_lines (parts stages) v (counters n 0)) s0 (steps stages s0) = subst (λ (k : Counters). Registers (parts_text (parts stages) v k) (parts_lines (parts stages) v k) s0 (steps stages s0)) c x in
        subst (λ (t : Log). Registers (parts_text (parts stages) v (counters n 0)) (parts_lines (parts stages) v (counters n 0)) s0 t) log_is y
      where
        none_stands : NoIfs F end
        none_stands q e i t l k = never (sym off ∙ set.marked q e i t l k)

    -- ---- the answer

    -- the clauses that the log has more are all of them
    all_added : (text : List ℤ) (lines : ℕ) → Registers text lines s0 log → (text ≡ flat (map clause_words (clauses_of log))) × (lines ≡ min (length (clauses_of log)) limit)
    all_added text lines r =
        let e : clauses_of log ≡ r.cs = r.eq ∙ ap (λ (cs : List Clause). cs ++ r.cs) (start_none m ss) in
        rw e (r.words ∙ layout_words r.cs, r.lines)

    pub answer_words : (before text : List ℤ) (lines : ℕ) → (behind p ss F cap (start w before n)).used ≤ cap → Registers text lines (start_log m ss) (log_of m p ss) → Answered m p f ss before (behind p ss F cap (start w before n)) text lines
    unfolding layout normalize answer_of
    answer_words before text lines h r =
        let st = behind p ss F cap (start w before n) in
        let k = (ended before h).standing.state in
        let b : map bool_word (map (λ v. get_bool_var v log) (below p.bools)) ≡ map (bool_at st.work) (below p.bools) = words_at (bool_at st.work) (λ v. get_bool_var v log) 0 p.bools (λ v l. k.map v (omega (arith, set.few_bools))) in
        let i : map map_word (map (λ v. get_int_var v log) (below (length ds))) ≡ map (λ v. pos (int_entry st.work v)) (below (length ds)) = entries (int_entry st.work) (λ v. get_int_var v log) 0 (length ds) (λ v l. k.map_int v (omega (arith, set.few_ints))) in
        let t = all_added text lines r in
        record {
          words = rw (b, i, k.bools, k.ints, emitted_count ds log, emitted_records ds log, t.0) refl;
          count = t.1;
          records = k.records;
        }
