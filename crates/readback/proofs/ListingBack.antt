-- Reading the listing of a result gives the result back. Assumes nothing.
use Rattle.std.specs.Prelude.{◌≡◌, Bool, true, false, ◌||◌, cond, pos}
use Rattle.std.proofs.Math.Path.{refl, sym, ap}
use Rattle.std.proofs.Common.{◌∙◌, arith}
use mathlib.Core.List.{List, [], ◌∷◌, ◌++◌, map, append_assoc, append-nil}
use Rattle.std.proofs.Math.Option.{Option, none, some}
use Prim.Native.Nat.{ℕ, zero, suc}
use Rattle.std.proofs.Math.IntN.{ℤ}
use Rattle.std.proofs.Math.Dec.{ltb}
use Rattle.std.proofs.Math.ListN.{length, take, drop}
use Rattle.std.proofs.lemmas.List.{length-map}
use Rattle.std.proofs.Math.Seq.{take-append_seam, drop-append_seam}
use Rattle.laws.specs.Lists.{flat, counted, below, length_from}
use Rattle.syntax.specs.Words.{max_set_words, min_work_words, max_answer_words}
use Rattle.syntax.specs.Syntax.{Stmt, Problem, encode}
use Rattle.words.specs.Parse.{Parsed, ok, refuse}
use Rattle.read.specs.Read.{read_set}
use Rattle.read.proofs.Exact.{set_sound}
use Rattle.limits.specs.Limits.{check}
use Rattle.fold.specs.Fold.{Fixed}
use Rattle.fold.specs.Optimize.{Outcome, inconsistent, settled, optimize}
use Rattle.clauses.specs.Clause.{Clause, clause}
use Rattle.answer.specs.Answer.{Emitted, Answer, layout, answer_of, normalize, fixed_word, map_word, bool_word, emitted_words, clause_words}
use Rattle.call.specs.Call.{Result, compiled, contradiction, refused, measured, answered, checked, when_read, call_with}
use Rattle.call.specs.declared.Choices.{Choices}
use Rattle.decimal.specs.Bytes.{line_feed, bools_key, ints_key, fixed_key, emitted_key, domain_key, compiled_line}
use Rattle.decimal.specs.Decimal.{print_natural}
use Rattle.input.specs.ReadText.{split, after, join, Reader}
use Rattle.lines.specs.Lines.{count_word, print_numbers, print_line, times, print_domain, print_clause, total}
use Rattle.text.specs.Listing.{print_clauses, print_emitted, print_compiled, print_answer}
use Rattle.text.specs.declared.Answer.TheVariants as answer
use Rattle.readback.specs.ReadListing.{read_clauses, one_line, each_line, read_compiled, read_refused, read_listing}
use Rattle.readback.proofs.Numbers.{natural_back}
use Rattle.readback.proofs.Split.{split_at, after_key, natural_avoids, part_back}
use Rattle.readback.proofs.Shown.{times_shown, domain_filled, domain_shown, clause_line, clause_text, clause_filled, clause_shown, members_in, total_shown}
use Rattle.readback.proofs.Lines.{line_split, one_back_line, last_text, last_split, clauses_split, clauses_back}
use Rattle.readback.specs.Listed.{print_result}

-- ---- the records

abbrev pub domain_text : Emitted → List ℕ
domain_text e = print_line domain_key (emitted_words e)

join_assoc : (xs ys : List ℤ) (b : Option (List ℤ)) → join (some xs) (join (some ys) b) ≡ join (some (xs ++ ys)) b
join_assoc xs ys none = refl
join_assoc xs ys (some zs) = ap some (sym (append_assoc xs ys zs))

join_none : (b : Option (List ℤ)) → join (some []) b ≡ b
join_none none = refl
join_none (some zs) = refl

domain_read : (d : Emitted) (next : Reader) (rest : List ℕ) → each_line domain_key next (split line_feed (domain_text d ++ rest)) ≡ join (some (emitted_words d)) (each_line domain_key next (split line_feed rest))
unfolding each_line
domain_read d next rest = rw (line_split domain_key refl (emitted_words d) rest, after_key domain_key (print_numbers (emitted_words d)), part_back (emitted_words d)) refl

domains_back : (ds : List Emitted) (next : Reader) (rest : List ℕ) → each_line domain_key next (split line_feed rest) ≡ next (split line_feed rest)
    → each_line domain_key next (split line_feed (flat (map domain_text ds) ++ rest)) ≡ join (some (flat (map emitted_words ds))) (next (split line_feed rest))
domains_back [] next rest h = h ∙ sym (join_none (next (split line_feed rest)))
domains_back (d ∷ ds) next rest h =
    let more : List ℕ = flat (map domain_text ds) ++ rest in
    ap (λ l. each_line domain_key next (split line_feed l)) (append_assoc (domain_text d) (flat (map domain_text ds)) rest)
    ∙ domain_read d next more
    ∙ ap (join (some (emitted_words d))) (domains_back ds next rest h)
    ∙ join_assoc (emitted_words d) (flat (map emitted_words ds)) (next (split line_feed rest))

-- no line of the clauses is a domain's
not_domain : (cs : List Clause) (k t : ℕ) (next : Reader) → each_line domain_key next (split line_feed (flat (map clause_text cs) ++ last_text k t)) ≡ next (split line_feed (flat (map clause_text cs) ++ last_text k t))
unfolding each_line after
not_domain [] k t next = rw (last_split k t) refl
not_domain (c ∷ cs) k t next = rw (clauses_split c cs k t) (go c)
  where
    go : (c : Clause) → each_line domain_key next (clause_line c ∷ split line_feed (flat (map clause_text cs) ++ last_text k t)) ≡ next (clause_line c ∷ split line_feed (flat (map clause_text cs) ++ last_text k t))
    go (clause ls ks) = refl

-- ---- what is printed of an answer's words

module _ (fs ms is : List ℤ) (b i : ℕ) (fs-count : length fs ≡ b) (ms-count : length ms ≡ b) (is-count : length is ≡ i) (eb : ℕ) (ds : List Emitted) (cs : List Clause) where
  abbrev pub clauses_words : List ℤ
  clauses_words = counted clause_words cs

  abbrev pub tail : List ℤ
  tail = pos eb ∷ (counted emitted_words ds ++ clauses_words)

  abbrev pub whole : List ℤ
  whole = fs ++ (ms ++ (is ++ tail))

  abbrev pub clauses_text : List ℕ
  clauses_text = flat (map clause_text cs) ++ last_text (length cs) (members_in cs)

  abbrev pub tail_text : List ℕ
  tail_text = print_line emitted_key (pos eb ∷ pos (length ds) ∷ []) ++ (flat (map domain_text ds) ++ clauses_text)

  clauses_printed : print_clauses clauses_words ≡ clauses_text
  unfolding print_clauses
  clauses_printed =
      let ws : List ℤ = flat (map clause_words cs) in
      let e : times print_clause (length cs) ws ≡ record { text = flat (map clause_text cs); rest = [] } = ap (times print_clause (length cs)) (sym (append-nil ws)) ∙ times_shown print_clause clause_words clause_text clause_filled clause_shown cs [] in
      let f : total (length cs) ws ≡ members_in cs = ap (total (length cs)) (sym (append-nil ws)) ∙ total_shown cs [] in
      rw (e, f) refl

  tail_printed : print_emitted tail ≡ tail_text
  unfolding print_emitted
  tail_printed = rw (times_shown print_domain emitted_words domain_text domain_filled domain_shown ds clauses_words, clauses_printed) refl

  pub compiled_printed : print_compiled b i whole ≡ compiled_line ++ (print_line fixed_key fs ++ (print_line bools_key ms ++ (print_line ints_key is ++ tail_text)))
  unfolding print_compiled
  compiled_printed =
      let t1 : take b whole ≡ fs = rw (← fs-count) (take-append_seam fs (ms ++ (is ++ tail))) in
      let d1 : drop b whole ≡ ms ++ (is ++ tail) = rw (← fs-count) (drop-append_seam fs (ms ++ (is ++ tail))) in
      let t2 : take b (ms ++ (is ++ tail)) ≡ ms = rw (← ms-count) (take-append_seam ms (is ++ tail)) in
      let d2 : drop b (ms ++ (is ++ tail)) ≡ is ++ tail = rw (← ms-count) (drop-append_seam ms (is ++ tail)) in
      let t3 : take i (is ++ tail) ≡ is = rw (← is-count) (take-append_seam is tail) in
      let d3 : drop i (is ++ tail) ≡ tail = rw (← is-count) (drop-append_seam is tail) in
      rw (t1, d1, t2, d2, t3, d3, tail_printed) refl

  -- ---- and read

  tail_back : one_line emitted_key (each_line domain_key read_clauses) (split line_feed tail_text) ≡ some tail
  tail_back =
      one_back_line emitted_key (each_line domain_key read_clauses) refl (pos eb ∷ pos (length ds) ∷ []) (flat (map domain_text ds) ++ clauses_text)
      ∙ ap (join (some (pos eb ∷ pos (length ds) ∷ []))) (domains_back ds read_clauses clauses_text (not_domain cs (length cs) (members_in cs) read_clauses) ∙ ap (join (some (flat (map emitted_words ds)))) (clauses_back cs (length cs)))

  words_back : read_compiled (split line_feed (print_line fixed_key fs ++ (print_line bools_key ms ++ (print_line ints_key is ++ tail_text)))) ≡ some whole
  unfolding read_compiled
  words_back =
      let after_ints : Reader = one_line emitted_key (each_line domain_key read_clauses) in
      let after_bools : Reader = one_line ints_key after_ints in
      let after_fixed : Reader = one_line bools_key after_bools in
      one_back_line fixed_key after_fixed refl fs (print_line bools_key ms ++ (print_line ints_key is ++ tail_text))
      ∙ ap (join (some fs)) (one_back_line bools_key after_bools refl ms (print_line ints_key is ++ tail_text)
      ∙ ap (join (some ms)) (one_back_line ints_key after_ints refl is tail_text ∙ ap (join (some is)) tail_back))

  compiled_back : read_listing (print_compiled b i whole) ≡ some (compiled whole)
  unfolding read_listing
  compiled_back = rw (compiled_printed, after_key compiled_line (print_line fixed_key fs ++ (print_line bools_key ms ++ (print_line ints_key is ++ tail_text))), words_back) refl

-- ---- the results

layout_back : (a : Answer) (b i : ℕ) → length a.fixed ≡ b → length a.bool_map ≡ b → length a.int_map ≡ i → read_listing (print_compiled b i (layout a)) ≡ some (compiled (layout a))
unfolding layout
layout_back a b i f m n =
    compiled_back (map fixed_word a.fixed) (map bool_word a.bool_map) (map map_word a.int_map) b i (length-map a.fixed fixed_word ∙ f) (length-map a.bool_map bool_word ∙ m) (length-map a.int_map map_word ∙ n) a.emitted_bools a.emitted_ints a.clauses

module _ (set : List ℤ) where
  contradiction_back : read_listing (print_result set contradiction) ≡ some contradiction
  unfolding print_result print_answer read_listing after
  contradiction_back = refl

  refused_split : (k : ℕ) → split line_feed (print_natural k ++ (line_feed ∷ [])) ≡ print_natural k ∷ [] ∷ []
  unfolding split
  refused_split k = split_at line_feed (print_natural k) [] (natural_avoids line_feed (λ b l u e. omega arith) k)

  refused_back : (k : ℕ) → read_listing (print_result set (refused k)) ≡ some (refused k)
  unfolding print_result print_answer read_listing after read_refused
  refused_back k = rw (refused_split k, natural_back k) refl

-- ---- the call

abbrev Back : List ℤ → Result → Type 0
Back set r = read_listing (print_result set r) ≡ some r

-- the counts of declared variables are the set's first words, and the answer's maps are as long
module _ (set : List ℤ) (p : Problem) (r : List ℤ) (read : read_set set ≡ ok p r) where
  pub bools_word : count_word set ≡ p.bools
  unfolding encode
  bools_word = ap count_word (set_sound set p r read).0

  pub ints_word : count_word (drop 1 set) ≡ length p.domains
  unfolding encode
  ints_word = ap (λ (ws : List ℤ). count_word (drop 1 ws)) (set_sound set p r read).0

  settled_back : (merge : Bool) (f : Fixed) (ss : List Stmt) → Back set (compiled (layout (normalize merge p f ss)))
  unfolding print_result print_answer normalize answer_of
  settled_back merge f ss =
      let a : Answer = normalize merge p f ss in
      let n : ℕ = p.bools in
      let m : ℕ = length p.domains in
      layout_back a (count_word set) (count_word (drop 1 set))
      (length-map (below n) f ∙ length_from 0 n ∙ sym bools_word)
      (length-map (below n) _ ∙ length_from 0 n ∙ sym bools_word)
      (length-map (below m) _ ∙ length_from 0 m ∙ sym ints_word)

  measured_back : (t : Bool) (ws : List ℤ) → Back set (compiled ws) → Back set (cond t (refused 12) (compiled ws))
  measured_back true ws h = refused_back set 12
  measured_back false ws h = h

  answered_back : (c : Choices) (o : ℕ) (x : Outcome) → Back set (answered c o p x)
  unfolding answered measured
  answered_back c o inconsistent = contradiction_back set
  answered_back c o (settled f ss) = let ws : List ℤ = layout (normalize c.merge p f ss) in measured_back (ltb o (length ws) || ltb max_answer_words (length ws)) ws (settled_back c.merge f ss)

  checked_back : (c : Choices) (o k : ℕ) → Back set (checked c o p k)
  unfolding checked
  checked_back c o zero = answered_back c o (optimize p)
  checked_back c o (suc k) = refused_back set (suc k)

read_back : (c : Choices) (set : List ℤ) (o : ℕ) (q : Parsed Problem) → read_set set ≡ q → Back set (when_read c o q)
unfolding when_read
read_back c set o (ok p r) e = checked_back set p r e c o (check p)
read_back c set o (refuse k) e = refused_back set k

either_back : (set : List ℤ) (t : Bool) (x y : Result) → Back set x → Back set y → Back set (cond t x y)
either_back set true x y h k = h
either_back set false x y h k = k

-- for all words, lengths and choices: the listing of the call's result says the result
pub listing_back : (c : Choices) (set : List ℤ) (out_length work_length : ℕ) → read_listing (print_result set (call_with c set out_length work_length)) ≡ some (call_with c set out_length work_length)
unfolding call_with
listing_back c set o w =
    let q : Result = when_read c o (read_set set) in
    either_back set (ltb w min_work_words) (refused 1) (cond (ltb max_set_words (length set)) (refused 2) q) (refused_back set 1) (either_back set (ltb max_set_words (length set)) (refused 2) q (refused_back set 2) (read_back c set o (read_set set) refl))
