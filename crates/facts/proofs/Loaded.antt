-- Every answer of the call passes a loader's tests (Loads): for all words and lengths.
use Rattle.std.proofs.Math.Path.{◌≡◌, refl}
use Rattle.std.proofs.Common.{sym, ap, ◌∙◌, arith}
use Rattle.std.specs.Prelude.{Bool, false, not, ◌&&◌, ◌||◌, cond, neg_ℤ, ◌-ℤ◌, nat_abs, length}
use Rattle.std.proofs.Math.Bool.{true}
use Rattle.std.proofs.Math.Option.{Option, none, some}
use mathlib.Core.List.{List, [], ◌∷◌, ◌++◌, map, append_assoc, append-nil}
use Prim.Native.Nat.{ℕ, zero, suc, ◌+◌, ◌≤◌, ◌<◌, zero-le}
use Rattle.std.proofs.Math.IntN.{ℤ, pos, +ℤ_invr}
use Rattle.std.specs.Int.Signed.{le_z, lt_z}
use Rattle.std.proofs.Math.Dec.{leb, ltb, eqb-suc-zero}
use Rattle.std.proofs.Math.ListN.{get_or}
use Rattle.std.proofs.lemmas.List.{length-map}
use borrow.Author.Tests.{le-leb, lt-ltb, ltb-true}
use Rattle.laws.specs.Bools.{never, and_l, and_r, and_i, or_l}
use Rattle.laws.specs.Ints.{eqZ, is_zero}
use Rattle.laws.specs.Order.{leZ_refl, leZ_shift, eqZ_refl}
use Rattle.laws.specs.Lists.{any, all, flat, counted, below, below_all, length_from}
use Rattle.syntax.specs.Words.{max_set_words, min_work_words, max_answer_words}
use Rattle.syntax.specs.Syntax.{Domain, Range, Enumerative, lower_bound, num_candidates, in_domain, domain_of, CmpOp, Eq, Ne, Le, Lt, Ge, Gt, encode_op, Stmt, Problem}
use Rattle.syntax.specs.Satisfies.{Val, IVal, in_domains}
use Rattle.words.specs.Parse.{Parsed, ok, refuse}
use Rattle.read.specs.Read.{read_set}
use Rattle.read.specs.WellFormed.{WellFormed}
use Rattle.read.proofs.Exact.{set_sound}
use Rattle.limits.specs.Limits.{check}
use Rattle.fold.specs.Fold.{Fixed}
use Rattle.fold.specs.Optimize.{Outcome, inconsistent, settled, optimize}
use Rattle.sums.specs.LinearSum.{Term, term, linear_sum}
use Rattle.sums.specs.Rising.{Rises}
use Rattle.sums.proofs.Domain.{ordered}
use Rattle.clauses.specs.Clause.{BoolLit, lit, LinearLit, linear, Clause, clause, lit_true}
use Rattle.clauses.specs.Log.{declared, aux, side, bool, merged, int, added, defined, known, Log, next_bool, number_of, get_bool_var, get_int_var, clauses_of}
use Rattle.clauses.proofs.Bounds.{lits_bound, clauses_bound, terms_bound, linears_bound, ints_bound}
use Rattle.clauses.specs.Valuation.{Agrees}
use Rattle.clauses.proofs.Grow.{Extends, get_bool_below, get_int_below, clauses_named, clauses_numbered}
use Rattle.clauses.proofs.Exist.{TiesHold, values_of, fitting_exists}
use Rattle.clauses.specs.Merge.{WellMerged}
use Rattle.clauses.proofs.MergeLaws.{merged_agree, merged_no_clauses}
use Rattle.answer.specs.Answer.{Emitted, ranging, following, emitted, answer_of, bool_word, start_log, normalize, normalize_stmts, layout, fixed_word, map_word, emitted_words, lit_words, term_words, linear_words, clause_words}
use Rattle.answer.specs.Passes.{lit_emitted}
use Rattle.answer.proofs.Records.{length_records}
use Rattle.answer.proofs.Start.{start_well}
use Rattle.call.specs.Call.{Result, compiled, refused, measured, answered, checked, when_read, call_with}
use Rattle.call.specs.declared.Choices.{Choices}
use Rattle.call.specs.Claim.{of_set}
use Rattle.call.proofs.Demand.{domains_ordered, grown, within_bounds, made_declared}
use Rattle.facts.specs.Proper.{ProperLinears, ProperClauses, proper_clauses, stmts_proper}
use Rattle.facts.specs.Sound.{sound_bounds, sound_record, log_sound, merged_no_records}
use Rattle.facts.specs.Loads.{take_word, take_times, take_counted, from_to, take_record, take_range, take_following, take_literal, take_terms, take_comparison, take_clause, loads_with, loads}

-- ---- words, one for each number of a list

module _ {A : Type 0} (fine : ℤ → Bool) (f : A → ℤ) (g : ℕ → A) (h : (v : ℕ) → fine (f (g v)) ≡ true) where
  words_take : (vs : List ℕ) (r : List ℤ) → take_times (take_word fine) (length vs) (map f (map g vs) ++ r) ≡ some r
  unfolding take_times take_word
  words_take [] r = refl
  words_take (v ∷ vs) r = rw (h v) (words_take vs r)

  below_take : (n : ℕ) (r : List ℤ) → take_times (take_word fine) n (map f (map g (below n)) ++ r) ≡ some r
  below_take n r = rw (length_from 0 n) at (words_take (below n) r)

fixed_fine : (o : Option Bool) → from_to 0 2 (fixed_word o) ≡ true
fixed_fine (some true) = refl
fixed_fine (some false) = refl
fixed_fine none = refl

map_fine : (k : ℕ) (o : Option ℕ) → ((n : ℕ) → o ≡ some n → n < k) → from_to 0 k (map_word o) ≡ true
map_fine k (some n) h = and_i (leb 0 (suc n)) (leb (suc n) k) (le-leb 0 (suc n) zero-le) (le-leb (suc n) k (h n refl))
map_fine k none h = and_i (leb 0 0) (leb 0 k) (le-leb 0 0 zero-le) (le-leb 0 k zero-le)

map_literal_fine : (k : ℕ) (o : Option BoolLit) → ((l : BoolLit) → o ≡ some l → number_of l < k) → leb (nat_abs (bool_word o)) k ≡ true
map_literal_fine k (some (lit n false)) h = le-leb (suc n) k (h (lit n false) refl)
map_literal_fine k (some (lit n true)) h = le-leb (suc n) k (h (lit n true) refl)
map_literal_fine k none h = le-leb 0 k zero-le

-- ---- records

some_values : (d : Domain) → sound_bounds d ≡ true → le_z (pos 1) (num_candidates d) ≡ true
some_values (Range low high) h = leZ_shift (pos 0) (high -ℤ low) (pos 1) ∙ ap (λ (z : ℤ). le_z z (high -ℤ low)) (sym (+ℤ_invr low)) ∙ leZ_shift low high (neg_ℤ low) ∙ h
some_values (Enumerative []) h = never h
some_values (Enumerative (x ∷ xs)) h = le-leb 1 (suc (length xs)) (omega arith)

literal_fine : (n bools : ℕ) → not (is_zero (pos (suc n))) && leb (suc n) bools ≡ leb (suc n) bools
literal_fine n bools = rw (eqb-suc-zero n) refl

-- an emitted literal's word
lit_take : (bools : ℕ) (l : BoolLit) (r : List ℤ) → number_of l < bools → take_literal bools (lit_words l ++ r) ≡ some r
unfolding take_literal take_word
lit_take bools (lit n false) r h = rw (literal_fine n bools, le-leb (suc n) bools (omega arith)) refl
lit_take bools (lit n true) r h = rw (le-leb (suc n) bools (omega arith)) refl

lit_below : (bools : ℕ) (l : BoolLit) → lit_emitted bools l ≡ true → number_of l < bools
lit_below bools (lit n g) h = ltb-true n bools h

record_take : (bools : ℕ) (e : Emitted) (r : List ℤ) → sound_record bools e ≡ true → take_record bools (emitted_words e ++ r) ≡ some r
unfolding take_record take_range take_following take_word
record_take bools (ranging d) r h = rw (h, some_values d h) refl
record_take bools (following l a b) r h =
    rw (append_assoc (lit_words l) (a ∷ b ∷ []) r, lit_take bools l (a ∷ b ∷ r) (lit_below bools l (and_l (lit_emitted bools l) (lt_z a b) h)), and_r (lit_emitted bools l) (lt_z a b) h) refl

records_take : (bools : ℕ) (es : List Emitted) (r : List ℤ) → all (sound_record bools) es ≡ true → take_times (take_record bools) (length es) (flat (map emitted_words es) ++ r) ≡ some r
unfolding take_times
records_take bools [] r h = refl
records_take bools (e ∷ es) r h =
    rw (append_assoc (emitted_words e) (flat (map emitted_words es)) r, record_take bools e (flat (map emitted_words es) ++ r) (and_l (sound_record bools e) _ h)) (records_take bools es r (and_r (sound_record bools e) _ h))

-- ---- clauses

module _ (bools ints : ℕ) where
  lits_take : (ls : List BoolLit) (r : List ℤ) → lits_bound ls ≤ bools → take_times (take_literal bools) (length ls) (flat (map lit_words ls) ++ r) ≡ some r
  unfolding take_times
  lits_take [] r h = refl
  lits_take (lit n g ∷ ls) r h = rw (append_assoc (lit_words (lit n g)) (flat (map lit_words ls)) r, lit_take bools (lit n g) (flat (map lit_words ls) ++ r) (omega arith)) (lits_take ls r (omega arith))

  terms_take : (low : ℕ) (ts : List Term) (r : List ℤ) → Rises low ts → terms_bound ts ≤ ints → take_terms ints low (length ts) (flat (map term_words ts) ++ r) ≡ some r
  unfolding take_terms take_word Rises
  terms_take low [] r p h = refl
  terms_take low (term v a ∷ ts) r p h = rw (le-leb low v p.0, lt-ltb v ints (omega arith), p.1) (terms_take (suc v) ts r p.2 (omega arith))

  operator_fine : (o : CmpOp) → from_to 0 5 (encode_op o) ≡ true
  operator_fine Eq = refl
  operator_fine Ne = refl
  operator_fine Le = refl
  operator_fine Lt = refl
  operator_fine Ge = refl
  operator_fine Gt = refl

  linear_take : (k : LinearLit) (r : List ℤ) → ProperLinears (k ∷ []) → linears_bound (k ∷ []) ≤ ints → take_comparison ints (linear_words k ++ r) ≡ some r
  unfolding take_comparison take_word take_counted
  linear_take (linear o (linear_sum c ts)) r p h = rw (operator_fine o) (terms_take 0 ts r p.0 (omega arith))

  linears_take : (ks : List LinearLit) (r : List ℤ) → ProperLinears ks → linears_bound ks ≤ ints → take_times (take_comparison ints) (length ks) (flat (map linear_words ks) ++ r) ≡ some r
  unfolding take_times
  linears_take [] r p h = refl
  linears_take (linear o l ∷ ks) r p h =
      rw (append_assoc (linear_words (linear o l)) (flat (map linear_words ks)) r, linear_take (linear o l) (flat (map linear_words ks) ++ r) (p.0, tt) (omega arith)) (linears_take ks r p.1 (omega arith))

  clause_take : (ls : List BoolLit) (ks : List LinearLit) (r : List ℤ) → lits_bound ls ≤ bools → ProperLinears ks → linears_bound ks ≤ ints → take_clause bools ints (clause_words (clause ls ks) ++ r) ≡ some r
  unfolding take_clause take_counted
  clause_take ls ks r h p k = rw (append_assoc (flat (map lit_words ls)) (counted linear_words ks) r, lits_take ls (counted linear_words ks ++ r) h) (linears_take ks r p k)

  clauses_take : (cs : List Clause) (r : List ℤ) → clauses_bound cs ≤ bools → ProperClauses cs → ints_bound cs ≤ ints → take_times (take_clause bools ints) (length cs) (flat (map clause_words cs) ++ r) ≡ some r
  unfolding take_times
  clauses_take [] r h p k = refl
  clauses_take (clause ls ks ∷ cs) r h p k =
      rw (append_assoc (clause_words (clause ls ks)) (flat (map clause_words cs)) r, clause_take ls ks (flat (map clause_words cs) ++ r) (omega arith) p.0 (omega arith)) (clauses_take cs r (omega arith) p.1 (omega arith))

-- ---- the words of an answer

-- the word n places on stands k places behind xs
word_behind : (xs ys : List ℤ) (k n : ℕ) → n ≡ length xs + k → get_or (xs ++ ys) n (pos 0) ≡ get_or ys k (pos 0)
word_behind [] ys k n e = ap (λ (m : ℕ). get_or ys m (pos 0)) (omega arith)
word_behind (x ∷ xs) ys k zero e = absurd (omega arith)
word_behind (x ∷ xs) ys k (suc n) e = word_behind xs ys k n (omega arith)

-- an assignment within the domains: each variable its lowest value
lowest_in : (d : Domain) → ordered d ≡ true → in_domain (lower_bound d) d ≡ true
lowest_in (Range low high) h = and_i (le_z low low) (le_z low high) (leZ_refl low) h
lowest_in (Enumerative []) h = never h
lowest_in (Enumerative (x ∷ xs)) h = or_l (eqZ x x) (any (eqZ x) xs) (eqZ_refl x)

-- values that keep the ties of a merged log: every number false
abbrev literal_value : Option BoolLit → Bool
literal_value none = false
literal_value (some l) = lit_true (λ n. false) l

module _ (δ : Val) (ε : IVal) (ρ : Val) (ι : IVal) where
  ties_kept : (s : Log) → WellMerged s → Agrees δ ε ρ ι s → TiesHold δ s
  ties_kept [] w a = tt
  ties_kept (bool (declared v) ∷ s) w a = ties_kept s w.1 a.1
  ties_kept (bool (aux cs) ∷ s) w a = absurd w
  ties_kept (bool (side e) ∷ s) w a = absurd w
  ties_kept (merged v u g ∷ s) w a = (a.0, ties_kept s w.1.1 a.1)
  ties_kept (int m ∷ s) w a = absurd w
  ties_kept (added cs ∷ s) w a = absurd w
  ties_kept (defined cs ∷ s) w a = absurd w
  ties_kept (known e v ∷ s) w a = absurd w

module _ (m : Bool) (p : Problem) (well : WellFormed p) (f : Fixed) (ss : List Stmt) (end : optimize p ≡ settled f ss) where
  abbrev b : ℕ
  b = p.bools

  abbrev i : ℕ
  i = length p.domains

  abbrev s0 : Log
  s0 = start_log m ss

  abbrev s : Log
  s = normalize_stmts p.domains ss s0

  abbrev δ : Val
  δ v = literal_value (get_bool_var v s0)

  abbrev ε : IVal
  ε v = lower_bound (domain_of p.domains v)

  inside : in_domains p ε ≡ true
  unfolding in_domains
  inside = below_all _ i (λ v k. lowest_in (domain_of p.domains v) (domains_ordered p.domains well.domains_well v k))

  grows : Extends δ ε s0 s
  grows = grown m p well f ss end δ ε inside

  abbrev ρ : Val
  ρ = (values_of δ ε s).0

  abbrev ι : IVal
  ι = (values_of δ ε s).1

  ties : TiesHold δ s0
  ties = ties_kept δ ε (λ n. false) ε s0 (start_well m ss) (merged_agree δ ε (λ n. false) ε s0 (start_well m ss) (λ v l h. rw h refl))

  -- every emitted integer has a value within its record
  records_sound : all (sound_record (next_bool s)) (emitted p.domains s) ≡ true
  records_sound =
      log_sound p.domains (λ v. v < b) (λ v. v < i) δ ε ρ ι (next_bool s) grows (merged_no_records p.domains s0 (start_well m ss)) (omega arith)
      (made_declared m p well f ss end δ ε inside) (within_bounds m p well f ss end δ ε inside ρ ι (fitting_exists δ ε ties grows))

  abbrev fixed_part : List ℤ
  fixed_part = map fixed_word (map f (below b))

  abbrev bool_part : List ℤ
  bool_part = map bool_word (map (λ v. get_bool_var v s) (below b))

  abbrev int_part : List ℤ
  int_part = map map_word (map (λ v. get_int_var v s) (below i))

  abbrev emitted_ints : List Emitted
  emitted_ints = emitted p.domains s

  abbrev clause_part : List ℤ
  clause_part = counted clause_words (clauses_of s)

  abbrev rest : List ℤ
  rest = pos (next_bool s) ∷ (counted emitted_words emitted_ints ++ clause_part)

  part_length : {A : Type 0} (g : A → ℤ) (h : ℕ → A) (n : ℕ) → length (map g (map h (below n))) ≡ n
  part_length g h n = length-map (map h (below n)) g ∙ length-map (below n) h ∙ length_from 0 n

  -- the word n, k places behind the maps
  word_at : (k n : ℕ) → n ≡ b + (b + i) + k → get_or (fixed_part ++ (bool_part ++ (int_part ++ rest))) n (pos 0) ≡ get_or rest k (pos 0)
  word_at k n e =
      let x = part_length fixed_word f b in
      let y = part_length bool_word (λ v. get_bool_var v s) b in
      let z = part_length map_word (λ v. get_int_var v s) i in
      word_behind fixed_part (bool_part ++ (int_part ++ rest)) (b + i + k) n (omega (arith, x))
      ∙ word_behind bool_part (int_part ++ rest) (i + k) (b + i + k) (omega (arith, y))
      ∙ word_behind int_part rest k (i + k) (omega (arith, z))

  tests_pass : loads_with b i (next_bool s) (length emitted_ints) (fixed_part ++ (bool_part ++ (int_part ++ rest))) ≡ true
  unfolding loads_with take_word take_counted
  tests_pass =
      let none = merged_no_clauses s0 (start_well m ss) in
      let t1 = below_take (from_to 0 2) fixed_word f (λ v. fixed_fine (f v)) b (bool_part ++ (int_part ++ rest)) in
      let t2 = below_take (λ w. leb (nat_abs w) (next_bool s)) bool_word (λ v. get_bool_var v s) (λ v. map_literal_fine (next_bool s) (get_bool_var v s) (get_bool_below s v)) b (int_part ++ rest) in
      let t3 = below_take (from_to 0 (length emitted_ints)) map_word (λ v. get_int_var v s) (λ v. map_fine (length emitted_ints) (get_int_var v s) (λ n e. omega (arith, get_int_below s v n e, length_records p.domains s))) i rest in
      let t4 : leb 0 (next_bool s) ≡ true = le-leb 0 (next_bool s) zero-le in
      let t5 = records_take (next_bool s) emitted_ints clause_part records_sound in
      let proper : ProperClauses (clauses_of s) = proper_clauses (stmts_proper p.domains ss s0) (rw none tt) in
      let t6 : take_times (take_clause (next_bool s) (length emitted_ints)) (length (clauses_of s)) (flat (map clause_words (clauses_of s))) ≡ some [] =
      rw (append-nil (flat (map clause_words (clauses_of s)))) at (clauses_take (next_bool s) (length emitted_ints) (clauses_of s) [] (clauses_named grows none) proper (omega (arith, clauses_numbered grows none, length_records p.domains s))) in
      rw (t1, t2, t3, t4, t5, t6) refl

  layout_loads : loads b i (layout (normalize m p f ss)) ≡ true
  unfolding loads layout normalize answer_of
  layout_loads =
      let bools : get_or (fixed_part ++ (bool_part ++ (int_part ++ rest))) (b + (b + i)) (pos 0) ≡ pos (next_bool s) = word_at 0 (b + (b + i)) (omega arith) in
      let ints : get_or (fixed_part ++ (bool_part ++ (int_part ++ rest))) (suc (b + (b + i))) (pos 0) ≡ pos (length emitted_ints) = word_at 1 (suc (b + (b + i))) (omega arith) in
      rw (bools, ints) tests_pass

-- ---- the call

not_compiled : {X : Type 0} (k : ℕ) (ws : List ℤ) → refused k ≡ compiled ws → X
not_compiled k ws e = let z : ◌≡◌ {A = ℕ} 0 1 = cc in absurd (omega arith)

-- a refusal that was not given
given_on : {X : Type 0} (t : Bool) (k : ℕ) (x : Result) (ws : List ℤ) → cond t (refused k) x ≡ compiled ws → (x ≡ compiled ws → X) → X
given_on true k x ws e go = not_compiled k ws e
given_on false k x ws e go = go e

module _ (c : Choices) (p : Problem) (well : WellFormed p) where
  answered_loads : (o : ℕ) (x : Outcome) (ws : List ℤ) → optimize p ≡ x → answered c o p x ≡ compiled ws → loads p.bools (length p.domains) ws ≡ true
  unfolding answered measured
  answered_loads o inconsistent ws q e = let z : ◌≡◌ {A = ℕ} 0 1 = cc in absurd (omega arith)
  answered_loads o (settled f ss) ws q e =
      let made : List ℤ = layout (normalize c.merge p f ss) in
      given_on (ltb o (length made) || ltb max_answer_words (length made)) 12 (compiled made) ws e
      (λ a. let z : made ≡ ws = cc in rw (← z) (layout_loads c.merge p well f ss q))

  checked_loads : (o k : ℕ) (ws : List ℤ) → checked c o p k ≡ compiled ws → loads p.bools (length p.domains) ws ≡ true
  unfolding checked
  checked_loads o zero ws e = answered_loads o (optimize p) ws refl e
  checked_loads o (suc k) ws e = not_compiled (suc k) ws e

-- how many variables are declared stands in the set's words
abbrev pub bools_of_set : List ℤ → ℕ
bools_of_set set = of_set 0 (λ p. p.bools) (read_set set)

abbrev pub ints_of_set : List ℤ → ℕ
ints_of_set set = of_set 0 (λ p. length p.domains) (read_set set)

read_loads : (c : Choices) (set : List ℤ) (o : ℕ) (q : Parsed Problem) (ws : List ℤ) → read_set set ≡ q → when_read c o q ≡ compiled ws → loads (of_set 0 (λ p. p.bools) q) (of_set 0 (λ p. length p.domains) q) ws ≡ true
unfolding when_read
read_loads c set o (ok p r) ws q e = checked_loads c p (set_sound set p r q).1 o (check p) ws e
read_loads c set o (refuse k) ws q e = not_compiled k ws e

pub answer_loads : (c : Choices) (set : List ℤ) (out_length work_length : ℕ) (ws : List ℤ) → call_with c set out_length work_length ≡ compiled ws → loads (bools_of_set set) (ints_of_set set) ws ≡ true
unfolding call_with
answer_loads c set o w ws e =
    given_on (ltb w min_work_words) 1 _ ws e
    (λ a. given_on (ltb max_set_words (length set)) 2 (when_read c o (read_set set)) ws a (λ d. read_loads c set o (read_set set) ws refl d))
