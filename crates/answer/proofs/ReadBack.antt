-- Reading an answer's words back gives what was laid out: the fixed values, the maps, the records and the clauses.
use Rattle.std.specs.Prelude.{◌≡◌, true, false, ℤ, pos, length}
use Rattle.std.proofs.Math.Path.{refl}
use mathlib.Core.List.{List, [], ◌∷◌, ◌++◌, map, append_assoc, append-nil}
use Rattle.laws.specs.Lists.{flat, counted}
use Rattle.syntax.specs.Syntax.{Eq, Ne, Le, Lt, Ge, Gt}
use Rattle.sums.specs.LinearSum.{Term, term, linear_sum}
use Rattle.clauses.specs.Clause.{BoolLit, lit, LinearLit, linear, Clause, clause}
use Rattle.answer.specs.Answer.{Emitted, ranging, following, Answer, layout, fixed_word, map_word, bool_word, emitted_words, lit_words, term_words, linear_words, clause_words}
use Rattle.answer.specs.Passes.{Decoded, decode, decode_word, decode_record, decode_times, decode_counted, decode_lit, decode_term, decode_linear, decode_clause}

module _ {A : Type 0} (f : List ℤ → A × List ℤ) (code : A → List ℤ) (h : (a : A) (r : List ℤ) → f (code a ++ r) ≡ (a, r)) where
  times_back : (ys : List A) (r : List ℤ) → decode_times f (length ys) (flat (map code ys) ++ r) ≡ (ys, r)
  unfolding decode_times
  times_back [] r = refl
  times_back (a ∷ ys) r = rw (append_assoc (code a) (flat (map code ys)) r, h a (flat (map code ys) ++ r), times_back ys r) refl

  counted_back : (ys : List A) (r : List ℤ) → decode_counted f (counted code ys ++ r) ≡ (ys, r)
  unfolding decode_counted
  counted_back ys r = times_back ys r

lit_back : (l : BoolLit) (r : List ℤ) → decode_lit (lit_words l ++ r) ≡ (l, r)
unfolding decode_lit
lit_back (lit n false) r = refl
lit_back (lit n true) r = refl

term_back : (t : Term) (r : List ℤ) → decode_term (term_words t ++ r) ≡ (t, r)
unfolding decode_term
term_back (term v a) r = refl

linear_back : (k : LinearLit) (r : List ℤ) → decode_linear (linear_words k ++ r) ≡ (k, r)
unfolding decode_linear
linear_back (linear Eq (linear_sum c ts)) r = rw (counted_back decode_term term_words term_back ts r) refl
linear_back (linear Ne (linear_sum c ts)) r = rw (counted_back decode_term term_words term_back ts r) refl
linear_back (linear Le (linear_sum c ts)) r = rw (counted_back decode_term term_words term_back ts r) refl
linear_back (linear Lt (linear_sum c ts)) r = rw (counted_back decode_term term_words term_back ts r) refl
linear_back (linear Ge (linear_sum c ts)) r = rw (counted_back decode_term term_words term_back ts r) refl
linear_back (linear Gt (linear_sum c ts)) r = rw (counted_back decode_term term_words term_back ts r) refl

clause_back : (c : Clause) (r : List ℤ) → decode_clause (clause_words c ++ r) ≡ (c, r)
unfolding decode_clause
clause_back (clause ls ks) r = rw (append_assoc (counted lit_words ls) (counted linear_words ks) r, counted_back decode_lit lit_words lit_back ls (counted linear_words ks ++ r), counted_back decode_linear linear_words linear_back ks r) refl

pub clauses_back : (cs : List Clause) (r : List ℤ) → decode_counted decode_clause (counted clause_words cs ++ r) ≡ (cs, r)
clauses_back cs r = counted_back decode_clause clause_words clause_back cs r

-- the whole answer read back
one_word : (w : ℤ) (r : List ℤ) → decode_word ((w ∷ []) ++ r) ≡ (w, r)
unfolding decode_word
one_word w r = refl

words_back : {A : Type 0} (f : A → ℤ) (ys : List A) (r : List ℤ) → decode_times decode_word (length ys) (map f ys ++ r) ≡ (map f ys, r)
unfolding decode_times decode_word
words_back f [] r = refl
words_back f (y ∷ ys) r = rw (words_back f ys r) refl

record_back : (e : Emitted) (r : List ℤ) → decode_record (emitted_words e ++ r) ≡ (emitted_words e, r)
unfolding decode_record decode_times decode_word
record_back (ranging d) r = refl
record_back (following (lit n false) a b) r = refl
record_back (following (lit n true) a b) r = refl

records_times : (es : List Emitted) (r : List ℤ) → decode_times decode_record (length es) (flat (map emitted_words es) ++ r) ≡ (map emitted_words es, r)
unfolding decode_times
records_times [] r = refl
records_times (e ∷ es) r = rw (append_assoc (emitted_words e) (flat (map emitted_words es)) r, record_back e (flat (map emitted_words es) ++ r), records_times es r) refl

records_back : (es : List Emitted) (r : List ℤ) → decode_counted decode_record (counted emitted_words es ++ r) ≡ (map emitted_words es, r)
unfolding decode_counted
records_back es r = records_times es r

-- what an answer says, as its words are decoded
abbrev pub view_of : Answer → Decoded
view_of a = record { fixed = map fixed_word a.fixed; bool_map = map bool_word a.bool_map; int_map = map map_word a.int_map; emitted_bools = a.emitted_bools; records = map emitted_words a.emitted_ints; clauses = a.clauses }

abbrev tail_of : Answer → List ℤ
tail_of a = counted emitted_words a.emitted_ints ++ counted clause_words a.clauses

pub answer_back : (a : Answer) → length a.bool_map ≡ length a.fixed → decode (length a.fixed) (length a.int_map) (layout a) ≡ view_of a
unfolding decode layout
answer_back a h =
    let rest : List ℤ = (pos a.emitted_bools ∷ []) ++ tail_of a in
    let e1 = words_back fixed_word a.fixed (map bool_word a.bool_map ++ (map map_word a.int_map ++ rest)) in
    let e2 : decode_times decode_word (length a.fixed) (map bool_word a.bool_map ++ (map map_word a.int_map ++ rest)) ≡ (map bool_word a.bool_map, map map_word a.int_map ++ rest) = rw (← h) (words_back bool_word a.bool_map (map map_word a.int_map ++ rest)) in
    let e3 = words_back map_word a.int_map rest in
    let e4 = one_word (pos a.emitted_bools) (tail_of a) in
    let e5 = records_back a.emitted_ints (counted clause_words a.clauses) in
    let e6 : decode_counted decode_clause (counted clause_words a.clauses) ≡ (a.clauses, []) = rw (append-nil (counted clause_words a.clauses)) at (clauses_back a.clauses []) in
    rw (e1, e2, e3, e4, e5, e6) refl
