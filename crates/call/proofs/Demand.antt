-- Demand 3: for every set that is not refused, an assignment within the domains satisfies every statement exactly when it passes the answer.
use Rattle.std.specs.Prelude.{◌≡◌, ◌↔◌, Bool, true, false, ◌||◌, cond, ℤ}
use Rattle.std.proofs.Math.Path.{refl, sym, ap}
use Rattle.std.proofs.Common.{◌∙◌, arith}
use Rattle.std.proofs.Math.Bool.{false≢true}
use mathlib.Core.List.{List, [], ◌∷◌, map}
use Prim.Native.Nat.{ℕ, zero, suc, ◌<◌}
use Rattle.std.specs.Int.Signed.{lt_z}
use Rattle.std.proofs.Math.Dec.{ltb}
use Rattle.std.proofs.Math.ListN.{length, length-map}
use Rattle.laws.specs.Bools.{and_i}
use Rattle.laws.specs.Lists.{all, any, any_cong, below, length_from}
use Rattle.syntax.specs.Words.{min_work_words, max_set_words, max_answer_words}
use Rattle.syntax.specs.Syntax.{Domain, Range, Enumerative, domain_of, IntExpr, Cell, Stmt, Rule, Table, AllDifferent, Problem}
use Rattle.syntax.specs.Satisfies.{Val, IVal, row_holds, distinct, stmt_holds, in_domains, satisfies}
use Rattle.syntax.specs.Written.{Any, EveryStmt, EveryStmts, Within, every_column_map, every_stmt_map, every_stmts_map, in_domains_within}
use Rattle.words.specs.Parse.{Parsed, ok, refuse}
use Rattle.words.specs.Exact.{Each}
use Rattle.read.specs.Read.{read_set}
use Rattle.read.specs.WellFormed.{RisingFrom, WellDomain, WellFormed}
use Rattle.read.proofs.Exact.{set_sound}
use Rattle.limits.specs.Limits.{check}
use Rattle.fold.specs.Fold.{Fixed, constant_folding_stmt as fold-stmt}
use Rattle.fold.specs.Optimize.{Outcome, inconsistent, settled, optimize}
use Rattle.fold.proofs.Kept.{fold_stmts_every}
use Rattle.fold.proofs.Ends.{optimize_rests}
use Rattle.fold.proofs.Meaning.{optimize_satisfies, optimize_inconsistent}
use Rattle.sums.proofs.Domain.{rising_from, ordered, domain_between}
use Rattle.clauses.specs.Log.{Log}
use Rattle.clauses.specs.Valuation.{Fits, Added, fits_agrees}
use Rattle.clauses.proofs.Grow.{Extends, same, Lawful, lawful_over, clauses_added, added_of, added_on}
use Rattle.clauses.proofs.MergeLaws.{merged_lawful, merged_no_clauses, merged_made}
use Rattle.clauses.proofs.Bounds.{NoNumbers, values_same}
use Rattle.clauses.proofs.RuleMeaning.{Says, says_none, says_then, says_to, read_rule_means}
use Rattle.clauses.proofs.Entries.{WellMade}
use Rattle.clauses.proofs.Ranges.{Inside, Within as WithinBounds, emitted_within}
use Rattle.clauses.proofs.Exist.{values_of, fitting_exists}
use Rattle.tables.proofs.Agree.{row_permits, row_holds_permits}
use Rattle.tables.proofs.ColumnMeaning.{WithinDomain}
use Rattle.tables.proofs.TableMeaning.{table_means}
use Rattle.different.proofs.Meaning.{different_means}
use Rattle.answer.specs.Answer.{Answer, layout, answer_of, normalize_stmt, normalize_stmts, normalize, start_log}
use Rattle.answer.specs.Passes.{Decoded, decode, passes_decoded, passes_with, Passes}
use Rattle.answer.proofs.ReadBack.{view_of, answer_back}
use Rattle.answer.proofs.Declared.{Declared, stmt_well, stmts_well}
use Rattle.answer.proofs.Start.{start_well, start_made, start_holds}
use Rattle.answer.proofs.Carried.{Carried, carried, carries}
use Rattle.call.specs.Call.{Result, compiled, refused, measured, answered, checked, when_read, call_with}
use Rattle.call.specs.Claim.{within, satisfied, Passed, NotRefused, Exact, Consequences}
use Rattle.call.specs.declared.Choices.{Choices}
use Rattle.call.specs.WellRead.{well_declared, Plain, folded_plain}
use Rattle.call.specs.Known.{optimize_known}
use Rattle.call.proofs.Consequences.{consequences}

-- ---- the clauses of all statements mean the statements

module _ (δ : Val) (ε : IVal) (ds : List Domain) where
  abbrev pub truth : Stmt → Bool
  truth = stmt_holds δ ε (λ n. false)

  pub stmt_inside : (t : Stmt) → EveryStmt Any (WithinDomain ds ε) t → EveryStmt Any (Inside ds ε) t
  stmt_inside t h = every_stmt_map Any (WithinDomain ds ε) Any (Inside ds ε) (λ v k. k) (λ v k. domain_between (domain_of ds v) (ε v) k.0 k.1) t h

  pub stmts_inside : (ts : List Stmt) → EveryStmts Any (WithinDomain ds ε) ts → EveryStmts Any (Inside ds ε) ts
  stmts_inside ts h = every_stmts_map Any (WithinDomain ds ε) Any (Inside ds ε) (λ v k. k) (λ v k. domain_between (domain_of ds v) (ε v) k.0 k.1) ts h

  -- a statement as it is read says the same whatever the emitted numbers' values
  table_same : (ρ ρ' : Val) (es : List IntExpr) (rows : List (List Cell)) → NoNumbers es → any (row_holds δ ε ρ es) rows ≡ any (row_holds δ ε ρ' es) rows
  table_same ρ ρ' es rows h =
      any_cong (row_holds δ ε ρ es) (row_holds δ ε ρ' es) rows (λ cs. row_holds_permits δ ε ρ es cs ∙ ap (row_permits cs) (values_same ρ ρ' δ ε es h) ∙ sym (row_holds_permits δ ε ρ' es cs))

  pub stmt_means : (t : Stmt) (s : Log) → Plain t → EveryStmt Any (WithinDomain ds ε) t → Lawful δ ε s → WellMade ds Any (Inside ds ε) s → Says δ ε s (normalize_stmt ds t s) (λ ρ ι. truth t)
  unfolding normalize_stmt EveryStmt stmt_holds
  stmt_means (Rule e) s h k l made = read_rule_means δ ε ds e s (λ n. false) h l
  stmt_means (Table es rows) s h k l made = says_to δ ε s _ _ _ (λ ρ ι. table_same ρ (λ n. false) es rows h.1) (table_means δ ε ds es rows s h.0 h.1 k l made)
  stmt_means (AllDifferent es) s h k l made =
      says_to δ ε s _ _ _ (λ ρ ι. ap distinct (values_same ρ (λ n. false) δ ε es h))
      (different_means δ ε ds es s h (every_column_map Any Any (WithinDomain ds ε) Any Any (Within ds ε) (λ n k. k) (λ v k. k) (λ v h. h.1) es k) l)

  pub stmts_mean : (ts : List Stmt) (s : Log) → Each Plain ts → EveryStmts Any (WithinDomain ds ε) ts → Lawful δ ε s → WellMade ds Any (Inside ds ε) s → Says δ ε s (normalize_stmts ds ts s) (λ ρ ι. all truth ts)
  unfolding normalize_stmts EveryStmts
  stmts_mean [] s h k l made = says_none δ ε s
  stmts_mean (t ∷ ts) s h k l made =
      let p = stmt_means t s h.0 k.0 l made in
      says_then δ ε s _ _ (λ ρ ι. truth t) (λ ρ ι. all truth ts) p (stmts_mean ts (normalize_stmt ds t s) h.1 k.1 (lawful_over l p.grows) (stmt_well ds Any (Inside ds ε) t (stmt_inside t k.0) s made))

-- ---- the domains of a set that was read

rising_is : (x : ℤ) (xs : List ℤ) → RisingFrom x xs → rising_from x xs ≡ true
rising_is x [] h = refl
rising_is x (y ∷ ys) h = and_i (lt_z x y) (rising_from y ys) h.0 (rising_is y ys h.1)

domain_ordered : (d : Domain) → WellDomain d → ordered d ≡ true
domain_ordered (Range low high) h = h.2
domain_ordered (Enumerative []) h = absurd (omega (arith, h.0))
domain_ordered (Enumerative (x ∷ xs)) h = rising_is x xs h.3

pub domains_ordered : (ds : List Domain) → Each WellDomain ds → (v : ℕ) → v < length ds → ordered (domain_of ds v) ≡ true
domains_ordered [] h v k = absurd (omega arith)
domains_ordered (d ∷ ds) h zero k = domain_ordered d h.0
domains_ordered (d ∷ ds) h (suc v) k = domains_ordered ds h.1 v (omega arith)

-- ---- a set that settles: satisfying is passing its answer

module _ (m : Bool) (p : Problem) (well : WellFormed p) (f : Fixed) (ss : List Stmt) (end : optimize p ≡ settled f ss) (δ : Val) (ε : IVal) (inside : in_domains p ε ≡ true) where
  abbrev pub b : ℕ
  b = p.bools

  abbrev pub i : ℕ
  i = length p.domains

  abbrev pub s0 : Log
  s0 = start_log m ss

  abbrev pub end_log : Log
  end_log = normalize_stmts p.domains ss s0

  declared : EveryStmts (λ v. v < b) (λ v. v < i) p.stmts
  declared = well_declared p well

  folded : ss ≡ map (fold-stmt p.domains f) p.stmts
  folded = (optimize_rests p declared f ss end).origin

  pub ss_declared : EveryStmts (λ v. v < b) (λ v. v < i) ss
  ss_declared = rw folded (fold_stmts_every (λ v. v < b) (λ v. v < i) p.domains f p.stmts declared)

  ss_standing : EveryStmts Any (WithinDomain p.domains ε) ss
  ss_standing = every_stmts_map (λ v. v < b) (λ v. v < i) Any (WithinDomain p.domains ε) (λ v h. tt) (λ v h. (domains_ordered p.domains well.domains_well v h, in_domains_within p ε inside v h)) ss ss_declared

  ss_plain : Each Plain ss
  ss_plain = rw folded (folded_plain p.domains f b i p.stmts well.stmts_well)

  pub means : Says δ ε s0 end_log (λ ρ ι. all (truth δ ε p.domains) ss)
  means = stmts_mean δ ε p.domains ss s0 ss_plain ss_standing (merged_lawful (start_well m ss) same) (merged_made p.domains (Inside p.domains ε) s0 (start_well m ss))

  pub grown : Extends δ ε s0 end_log
  grown = means.grows

  -- under fitting values every emitted integer lies between its bounds
  pub within_bounds : (ρ : Val) (ι : IVal) → Fits δ ε ρ ι end_log → WithinBounds p.domains ι end_log
  within_bounds ρ ι f =
      let k = stmts_inside δ ε p.domains ss ss_standing in
      emitted_within δ ε p.domains ρ ι end_log (merged_lawful (start_well m ss) grown) (stmts_well p.domains Any (Inside p.domains ε) ss k s0 (merged_made p.domains (Inside p.domains ε) s0 (start_well m ss))) f

  pub made_declared : Declared p.domains b i end_log
  made_declared = stmts_well p.domains (λ v. v < b) (λ v. v < i) ss ss_declared s0 (start_made p.domains (λ v. v < b) (λ v. v < i) m ss ss_declared)

  -- ---- the answer's words, read back

  decoded : decode b i (layout (answer_of p f end_log)) ≡ view_of (answer_of p f end_log)
  unfolding answer_of
  decoded =
      let a : Answer = answer_of p f end_log in
      let e : length a.fixed ≡ b = length-map (below b) f ∙ length_from 0 b in
      let m : length a.bool_map ≡ b = length-map (below b) _ ∙ length_from 0 b in
      let n : length a.int_map ≡ i = length-map (below i) _ ∙ length_from 0 i in
      rw (e, n) at (answer_back a (m ∙ sym e))

  words : List ℤ
  words = layout (answer_of p f end_log)

  passes_is : (ρ : Val) (ι : IVal) → passes_with b i words δ ε ρ ι ≡ passes_decoded b i (view_of (answer_of p f end_log)) δ ε ρ ι
  unfolding passes_with words
  passes_is ρ ι = ap (λ (d : Decoded). passes_decoded b i d δ ε ρ ι) decoded

  -- ---- both directions

  passing_satisfies : Passes b i words δ ε → satisfies p δ ε ≡ true
  passing_satisfies h =
      let c = carried p f end_log δ ε h.bools h.ints s0 (start_well m ss) grown made_declared (sym (passes_is h.bools h.ints) ∙ h.passing) in
      (optimize_satisfies p declared δ ε inside f ss end).1 (
        λ v x e. c.fixed v x (optimize_known p (λ v. v < i) declared f ss end v x e) e,
        means.sound h.bools h.ints c.agrees (added_of h.bools h.ints means.grows c.added),
      )

  satisfying_passes : satisfies p δ ε ≡ true → Passes b i words δ ε
  satisfying_passes h =
      let ρ : Val = (values_of δ ε end_log).0 in
      let ι : IVal = (values_of δ ε end_log).1 in
      let k = (optimize_satisfies p declared δ ε inside f ss end).0 h in
      let fits : Fits δ ε ρ ι end_log = fitting_exists δ ε (start_holds δ ε m ss k.1) grown in
      let before : Added ρ ι s0 = clauses_added ρ ι s0 (rw (merged_no_clauses s0 (start_well m ss)) refl) in
      let c : Carried b f end_log δ ε ρ ι = record { fixed = λ v x j e. k.0 v x e; agrees = fits_agrees δ ε ρ ι end_log fits; added = added_on ρ ι means.grows before (means.complete ρ ι fits k.1) } in
      record { bools = ρ; ints = ι; passing = passes_is ρ ι ∙ carries p f end_log δ ε ρ ι s0 (start_well m ss) grown made_declared (within_bounds ρ ι fits) c }

-- ---- the call

-- what has to be shown of a result
abbrev Told : List ℤ → Result → Val → IVal → Type 0
Told set r δ ε = (satisfied set δ ε ≡ true) ↔ Passed set r δ ε

module _ (c : Choices) (set : List ℤ) (p : Problem) (r : List ℤ) (read : read_set set ≡ ok p r) (δ : Val) (ε : IVal) (inside : in_domains p ε ≡ true) where
  well : WellFormed p
  well = (set_sound set p r read).1

  satisfied_is : satisfied set δ ε ≡ satisfies p δ ε
  unfolding satisfied
  satisfied_is = rw read refl

  settled_told : (f : Fixed) (ss : List Stmt) → optimize p ≡ settled f ss → Told set (compiled (layout (normalize c.merge p f ss))) δ ε
  unfolding Passed normalize words
  settled_told f ss end = rw read (
    λ h. satisfying_passes c.merge p well f ss end δ ε inside (sym satisfied_is ∙ h),
    λ h. satisfied_is ∙ passing_satisfies c.merge p well f ss end δ ε inside h,
  )

  measured_told : (t : Bool) (ws : List ℤ) → NotRefused (cond t (refused 12) (compiled ws)) → Told set (compiled ws) δ ε → Told set (cond t (refused 12) (compiled ws)) δ ε
  measured_told true ws n h = absurd (n 12 refl)
  measured_told false ws n h = h

  answered_told : (o : ℕ) (x : Outcome) → optimize p ≡ x → NotRefused (answered c o p x) → Told set (answered c o p x) δ ε
  unfolding answered measured Passed
  answered_told o inconsistent e n = (λ h. false≢true (sym (optimize_inconsistent p (well_declared p well) δ ε inside e) ∙ sym satisfied_is ∙ h), λ h. absurd h)
  answered_told o (settled f ss) e n = measured_told (ltb o (length (layout (normalize c.merge p f ss))) || ltb max_answer_words (length (layout (normalize c.merge p f ss)))) (layout (normalize c.merge p f ss)) n (settled_told f ss e)

  checked_told : (o k : ℕ) → NotRefused (checked c o p k) → Told set (checked c o p k) δ ε
  unfolding checked
  checked_told o zero n = answered_told o (optimize p) refl n
  checked_told o (suc k) n = absurd (n (suc k) refl)

read_told : (c : Choices) (set : List ℤ) (o : ℕ) (q : Parsed Problem) → read_set set ≡ q → NotRefused (when_read c o q) → (δ : Val) (ε : IVal) → within set ε ≡ true → Told set (when_read c o q) δ ε
unfolding when_read within
read_told c set o (ok p r) e n δ ε h = checked_told c set p r e δ ε (rw e at h) o (check p) n
read_told c set o (refuse k) e n δ ε h = absurd (n k refl)

-- a refusal that was not given
passed_by : (t : Bool) (k : ℕ) (x : Result) → NotRefused (cond t (refused k) x) → (NotRefused x × (cond t (refused k) x ≡ x))
passed_by true k x n = absurd (n k refl)
passed_by false k x n = (n, refl)

pub demand_3 : Exact
unfolding call_with
demand_3 c set o w n δ ε h =
    let y : Result = when_read c o (read_set set) in
    let x : Result = cond (ltb max_set_words (length set)) (refused 2) y in
    let a = passed_by (ltb w min_work_words) 1 x n in
    let b = passed_by (ltb max_set_words (length set)) 2 y a.0 in
    rw (a.1 ∙ b.1) (read_told c set o (read_set set) refl b.0 δ ε h)

-- the same assignments pass, whatever is chosen
pub chosen_same : (c d : Choices) (set : List ℤ) (o w o' w' : ℕ) → NotRefused (call_with c set o w) → NotRefused (call_with d set o' w') → (δ : Val) (ε : IVal) → within set ε ≡ true
    → Passed set (call_with c set o w) δ ε ↔ Passed set (call_with d set o' w') δ ε
chosen_same c d set o w o' w' n k δ ε h =
    let a = demand_3 c set o w n δ ε h in
    let b = demand_3 d set o' w' k δ ε h in
    (λ x. b.0 (a.1 x), λ x. a.0 (b.1 x))

-- joined lists pass exactly when both do; Not of a rule, exactly when the rule fails; Or of rules, exactly when one passes
pub demand_3_consequences : Consequences
demand_3_consequences = consequences demand_3
