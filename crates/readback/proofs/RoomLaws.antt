-- What holds of the definitions of specs/Room.
use Rattle.std.specs.Prelude.{◌≡◌, Bool, true, false, ◌||◌, cond, ltb, drop}
use Rattle.std.proofs.Math.Path.{refl, sym}
use Rattle.std.proofs.Common.{ap, ◌∙◌, leb-true, ltb-false}
use mathlib.Core.List.{List, [], ◌∷◌, ◌++◌, map}
use Prim.Native.Nat.{ℕ, zero, suc, ◌+◌, ◌*◌, ◌≤◌, ◌<◌}
use native.Mathlib.Omega.{arith}
use Rattle.std.proofs.Math.IntN.{ℤ, pos}
use Rattle.std.proofs.Math.ListN.{length, length-append}
use Rattle.std.proofs.lemmas.List.{length-map}
use Rattle.laws.specs.Bools.{and_l, and_r}
use Rattle.laws.specs.Lists.{all, flat, counted, below, length_from}
use Rattle.syntax.specs.Words.{max_set_words, min_work_words, max_answer_words}
use Rattle.syntax.specs.Syntax.{encode_op, Stmt, Problem}
use Rattle.words.specs.Parse.{Parsed, ok, refuse}
use Rattle.read.specs.Read.{read_set}
use Rattle.limits.specs.Limits.{check}
use Rattle.fold.specs.Fold.{Fixed}
use Rattle.fold.specs.Optimize.{Outcome, inconsistent, settled, optimize}
use Rattle.sums.specs.LinearSum.{linear_sum}
use Rattle.clauses.specs.Clause.{lit, LinearLit, linear, Clause, clause}
use Rattle.answer.specs.Answer.{Emitted, ranging, following, Answer, layout, answer_of, normalize, fixed_word, map_word, bool_word, emitted_words, lit_words, linear_words, clause_words}
use Rattle.call.specs.Call.{Result, compiled, contradiction, refused, measured, answered, checked, when_read, call_with}
use Rattle.call.specs.declared.Choices.{Choices}
use Rattle.decimal.specs.Bytes.{colon, line_feed, bools_key, ints_key, fixed_key, emitted_key, domain_key, clause_key, clauses_key, total_key, compiled_line}
use Rattle.decimal.specs.Decimal.{print_natural, print_number}
use Rattle.decimal.specs.Widths.{natural_short, fitting, number_short}
use Rattle.lines.specs.Lines.{count_word, print_more, print_numbers, print_line}
use Rattle.text.specs.Listing.{print_compiled, print_answer}
use Rattle.readback.proofs.Shown.{terms_words, linear_text, lits_words, lits_length, clause_text, members_in}
use Rattle.readback.proofs.Lines.{last_text}
use Rattle.readback.specs.Listed.{print_result}
use Rattle.readback.proofs.ListingBack.{domain_text, tail_text, clauses_text, compiled_printed, whole, bools_word, ints_word}
use Rattle.readback.specs.Room.{Room, Short, Typed, bytes}

bytes_append : (xs ys : List ℤ) → bytes (xs ++ ys) ≡ bytes xs + bytes ys
unfolding bytes
bytes_append [] ys = omega arith
bytes_append (x ∷ xs) ys = omega (arith, bytes_append xs ys)

bytes_few : (ws : List ℤ) → all fitting ws ≡ true → bytes ws ≤ 12 * length ws
unfolding bytes
bytes_few [] h = omega arith
bytes_few (w ∷ ws) h = let u = number_short w (leb-true _ 2147483648 (and_l (fitting w) (all fitting ws) h)) in let v = bytes_few ws (and_r (fitting w) (all fitting ws) h) in omega arith

more_short : (zs : List ℤ) → length (print_more zs) ≡ bytes zs
unfolding print_more bytes
more_short [] = refl
more_short (z ∷ zs) = omega (arith, length-append (print_number z) (print_more zs), more_short zs)

numbers_short : (zs : List ℤ) → length (print_numbers zs) ≤ bytes zs
unfolding print_numbers bytes
numbers_short [] = omega arith
numbers_short (z ∷ zs) = omega (arith, length-append (print_number z) (print_more zs), more_short zs)

line_short : (key : List ℕ) (zs : List ℤ) → length (print_line key zs) ≤ length key + bytes zs + 1
unfolding print_line
line_short key zs = omega (arith, length-append key (print_numbers zs ++ (line_feed ∷ [])), length-append (print_numbers zs) (line_feed ∷ []), numbers_short zs)

-- ---- no more than the bytes of the words and three for each word

short_append : (us vs : List ℕ) (xs ys : List ℤ) → Short us xs → Short vs ys → Short (us ++ vs) (xs ++ ys)
short_append us vs xs ys h k = omega (arith, h, k, length-append us vs, length-append xs ys, bytes_append xs ys)

module _ {A : Type 0} (text : A → List ℕ) (code : A → List ℤ) (one : (a : A) → Short (text a) (code a)) where
  all_short : (ys : List A) → Short (flat (map text ys)) (flat (map code ys))
  unfolding bytes
  all_short [] = omega arith
  all_short (a ∷ ys) = short_append (text a) (flat (map text ys)) (code a) (flat (map code ys)) (one a) (all_short ys)

domain_short : (e : Emitted) → Short (domain_text e) (emitted_words e)
domain_short (ranging d) = omega (arith, line_short domain_key (emitted_words (ranging d)))
domain_short (following (lit n false) a b) = omega (arith, line_short domain_key (emitted_words (following (lit n false) a b)))
domain_short (following (lit n true) a b) = omega (arith, line_short domain_key (emitted_words (following (lit n true) a b)))

linear_short : (k : LinearLit) → Short (linear_text k) (linear_words k)
unfolding bytes
linear_short (linear o (linear_sum c ts)) =
    let a : List ℕ = print_numbers (encode_op o ∷ []) in
    let b : List ℕ = print_numbers (c ∷ []) in
    let d : List ℕ = print_numbers (terms_words ts) in
    omega (arith, length-append a (colon ∷ (b ++ (colon ∷ d))), length-append b (colon ∷ d), numbers_short (encode_op o ∷ []), numbers_short (c ∷ []), numbers_short (terms_words ts))

clause_short : (c : Clause) → Short (clause_text c) (clause_words c)
unfolding bytes
clause_short (clause ls ks) =
    let a : List ℕ = print_numbers (lits_words ls) in
    let b : List ℕ = flat (map linear_text ks) in
    let xs : List ℤ = counted lit_words ls in
    let ys : List ℤ = counted linear_words ks in
    omega (arith, length-append (clause_key ++ (a ++ b)) (line_feed ∷ []), length-append clause_key (a ++ b), length-append a b, numbers_short (lits_words ls), all_short linear_text linear_words linear_short ks, length-append xs ys, bytes_append xs ys)

-- ---- the answer

-- every literal and every comparison has a word
linears_few : (ks : List LinearLit) → length ks ≤ length (flat (map linear_words ks))
linears_few [] = omega arith
linears_few (linear o (linear_sum c ts) ∷ ks) = omega (arith, linears_few ks, length-append (linear_words (linear o (linear_sum c ts))) (flat (map linear_words ks)))

members_few : (cs : List Clause) → members_in cs ≤ length (flat (map clause_words cs))
members_few [] = omega arith
members_few (clause ls ks ∷ cs) =
    omega (arith, members_few cs, linears_few ks, lits_length ls, length-append (counted lit_words ls) (counted linear_words ks), length-append (clause_words (clause ls ks)) (flat (map clause_words cs)))

last_short : (k t : ℕ) → t ≤ 2147483648 → length (last_text k t) ≤ bytes (pos k ∷ []) + 26
last_short k t h =
    omega (arith, length-append (print_line clauses_key (pos k ∷ [])) (total_key ++ (print_natural t ++ (line_feed ∷ []))), length-append total_key (print_natural t ++ (line_feed ∷ [])), length-append (print_natural t) (line_feed ∷ []), line_short clauses_key (pos k ∷ []), natural_short 9 t (omega (arith, h)))

module _ (fs ms is : List ℤ) (b i : ℕ) (fs-count : length fs ≡ b) (ms-count : length ms ≡ b) (is-count : length is ≡ i) (eb : ℕ) (ds : List Emitted) (cs : List Clause) where
  abbrev words : List ℤ
  words = whole fs ms is b i fs-count ms-count is-count eb ds cs

  abbrev clauses_printed : List ℕ
  clauses_printed = clauses_text fs ms is b i fs-count ms-count is-count eb ds cs

  abbrev printed : List ℕ
  printed = tail_text fs ms is b i fs-count ms-count is-count eb ds cs

  clauses_short : length (flat (map clause_words cs)) ≤ 2147483648 → length clauses_printed ≤ bytes (counted clause_words cs) + 3 * length (counted clause_words cs) + 26
  unfolding bytes
  clauses_short h =
      let t : members_in cs ≤ 2147483648 = omega (arith, members_few cs, h) in
      omega (arith, length-append (flat (map clause_text cs)) (last_text (length cs) (members_in cs)), all_short clause_text clause_words clause_short cs, last_short (length cs) (members_in cs) t)

  tail_short : length (flat (map clause_words cs)) ≤ 2147483648 → length printed ≤ bytes (pos eb ∷ (counted emitted_words ds ++ counted clause_words cs)) + 3 * length (counted emitted_words ds ++ counted clause_words cs) + 35
  unfolding bytes
  tail_short h =
      let emitted : List ℤ = pos eb ∷ pos (length ds) ∷ [] in
      let domains : List ℕ = flat (map domain_text ds) in
      omega (arith, length-append (print_line emitted_key emitted) (domains ++ clauses_printed), length-append domains clauses_printed, line_short emitted_key emitted, all_short domain_text emitted_words domain_short ds, clauses_short h, bytes_append (counted emitted_words ds) (counted clause_words cs), length-append (counted emitted_words ds) (counted clause_words cs))

  answer_short : length words ≤ 16384 → all fitting words ≡ true → length (print_compiled b i words) ≤ 262144
  answer_short h k =
      let tail : List ℤ = pos eb ∷ (counted emitted_words ds ++ counted clause_words cs) in
      let c1 : length words ≡ length fs + length (ms ++ (is ++ tail)) = length-append fs (ms ++ (is ++ tail)) in
      let c2 : length (ms ++ (is ++ tail)) ≡ length ms + length (is ++ tail) = length-append ms (is ++ tail) in
      let c3 : length (is ++ tail) ≡ length is + length tail = length-append is tail in
      let c4 : length (counted emitted_words ds ++ counted clause_words cs) ≡ length (counted emitted_words ds) + length (counted clause_words cs) = length-append (counted emitted_words ds) (counted clause_words cs) in
      let few : length (flat (map clause_words cs)) ≤ 2147483648 = omega arith in
      let e1 : bytes words ≡ bytes fs + bytes (ms ++ (is ++ tail)) = bytes_append fs (ms ++ (is ++ tail)) in
      let e2 : bytes (ms ++ (is ++ tail)) ≡ bytes ms + bytes (is ++ tail) = bytes_append ms (is ++ tail) in
      let e3 : bytes (is ++ tail) ≡ bytes is + bytes tail = bytes_append is tail in
      let l1 : length (print_line fixed_key fs) ≤ bytes fs + 7 = omega (arith, line_short fixed_key fs) in
      let l2 : length (print_line bools_key ms) ≤ bytes ms + 7 = omega (arith, line_short bools_key ms) in
      let l3 : length (print_line ints_key is) ≤ bytes is + 6 = omega (arith, line_short ints_key is) in
      let p3 : List ℕ = print_line ints_key is ++ printed in
      let p2 : List ℕ = print_line bools_key ms ++ p3 in
      let p1 : List ℕ = print_line fixed_key fs ++ p2 in
      let d3 : length p3 ≡ length (print_line ints_key is) + length printed = length-append (print_line ints_key is) printed in
      let d2 : length p2 ≡ length (print_line bools_key ms) + length p3 = length-append (print_line bools_key ms) p3 in
      let d1 : length p1 ≡ length (print_line fixed_key fs) + length p2 = length-append (print_line fixed_key fs) p2 in
      let d0 : length (print_compiled b i words) ≡ 16 + length p1 = ap length (compiled_printed fs ms is b i fs-count ms-count is-count eb ds cs) ∙ length-append compiled_line p1 in
      let all_few : bytes words ≤ 12 * length words = bytes_few words k in
      let rest = tail_short few in
      omega arith

layout_short : (a : Answer) (b i : ℕ) → length a.fixed ≡ b → length a.bool_map ≡ b → length a.int_map ≡ i → length (layout a) ≤ 16384 → all fitting (layout a) ≡ true → length (print_compiled b i (layout a)) ≤ 262144
unfolding layout
layout_short a b i f m n h k =
    answer_short (map fixed_word a.fixed) (map bool_word a.bool_map) (map map_word a.int_map) b i (length-map a.fixed fixed_word ∙ f) (length-map a.bool_map bool_word ∙ m) (length-map a.int_map map_word ∙ n) a.emitted_bools a.emitted_ints a.clauses h k

-- ---- the call

contradiction_room : (set : List ℤ) → Room set contradiction
unfolding print_result print_answer
contradiction_room set q = omega arith

refused_room : (set : List ℤ) (k : ℕ) → Room set (refused k)
unfolding print_result print_answer
refused_room set k q = omega (arith, length-append (print_natural k) (line_feed ∷ []), natural_short 19 k (omega (arith, q)))

module _ (set : List ℤ) (p : Problem) (r : List ℤ) (read : read_set set ≡ ok p r) where
  settled_room : (merge : Bool) (f : Fixed) (ss : List Stmt) → length (layout (normalize merge p f ss)) ≤ 16384 → Room set (compiled (layout (normalize merge p f ss)))
  unfolding print_result print_answer normalize answer_of
  settled_room merge f ss h q =
      let a : Answer = normalize merge p f ss in
      let n : ℕ = p.bools in
      let m : ℕ = length p.domains in
      layout_short a (count_word set) (count_word (drop 1 set))
      (length-map (below n) f ∙ length_from 0 n ∙ sym (bools_word set p r read))
      (length-map (below n) _ ∙ length_from 0 n ∙ sym (bools_word set p r read))
      (length-map (below m) _ ∙ length_from 0 m ∙ sym (ints_word set p r read))
      h q

  module _ (c : Choices) (o : ℕ) (most : o ≤ 16384) where
    measured_room : (ws : List ℤ) (t u : Bool) → ltb o (length ws) ≡ t → (length ws ≤ 16384 → Room set (compiled ws)) → Room set (cond (t || u) (refused 12) (compiled ws))
    measured_room ws true u e h = refused_room set 12
    measured_room ws false true e h = refused_room set 12
    measured_room ws false false e h = let l = ltb-false o (length ws) e in h (omega arith)

    answered_room : (x : Outcome) → Room set (answered c o p x)
    unfolding answered measured
    answered_room inconsistent = contradiction_room set
    answered_room (settled f ss) = let ws : List ℤ = layout (normalize c.merge p f ss) in measured_room ws (ltb o (length ws)) (ltb max_answer_words (length ws)) refl (λ h. settled_room c.merge f ss h)

    checked_room : (k : ℕ) → Room set (checked c o p k)
    unfolding checked
    checked_room zero = answered_room (optimize p)
    checked_room (suc k) = refused_room set (suc k)

read_room : (c : Choices) (set : List ℤ) (o : ℕ) → o ≤ 16384 → (q : Parsed Problem) → read_set set ≡ q → Room set (when_read c o q)
unfolding when_read
read_room c set o m (ok p r) e = checked_room set p r e c o m (check p)
read_room c set o m (refuse k) e = refused_room set k

either_room : (set : List ℤ) (t : Bool) (x y : Result) → Room set x → Room set y → Room set (cond t x y)
either_room set true x y h k = h
either_room set false x y h k = k

-- 262144 bytes have room for the listing of any call with at most 16384 output words
pub listing_room : (c : Choices) (set : List ℤ) (out_length work_length : ℕ) → out_length ≤ 16384 → Typed (call_with c set out_length work_length) → length (print_result set (call_with c set out_length work_length)) ≤ 262144
unfolding call_with
listing_room c set o w m =
    let q : Result = when_read c o (read_set set) in
    either_room set (ltb w min_work_words) (refused 1) (cond (ltb max_set_words (length set)) (refused 2) q) (refused_room set 1) (either_room set (ltb max_set_words (length set)) (refused 2) q (refused_room set 2) (read_room c set o m (read_set set) refl))
