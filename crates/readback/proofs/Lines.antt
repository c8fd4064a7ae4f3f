-- The lines of a listing are read back: domains, clauses, the last two. Assumes nothing.
use Rattle.std.specs.Prelude.{◌≡◌, refl, true, List, [], ◌∷◌, ◌++◌, map, ℕ, ℤ, pos, length}
use Rattle.std.proofs.Common.{sym, ap, ◌∙◌, append_assoc, append-nil, arith, eq-eqb}
use Rattle.std.proofs.Math.Option.{Option, some}
use Rattle.std.proofs.lemmas.List.{length-map}
use Rattle.laws.specs.Lists.{flat}
use Rattle.sums.specs.LinearSum.{linear_sum}
use Rattle.clauses.specs.Clause.{BoolLit, LinearLit, linear, Clause, clause}
use Rattle.answer.specs.Answer.{linear_words, clause_words}
use Rattle.decimal.specs.Bytes.{semicolon, line_feed, clause_key, clauses_key, total_key}
use Rattle.decimal.specs.Decimal.{print_natural}
use Rattle.input.specs.ReadText.{split, after, join, Reader}
use Rattle.lines.specs.Lines.{print_numbers, print_line}
use Rattle.readback.specs.ReadListing.{read_comparisons, read_clause, Tail, read_last, read_tail, read_clauses, one_line}
use Rattle.readback.proofs.Numbers.{natural_back}
use Rattle.readback.proofs.Split.{avoids, split_at, split_end, avoids_append, after_key, natural_avoids, numbers_avoid, part_back, one_back, body_avoids, comparison_back}
use Rattle.readback.proofs.Shown.{terms_words, terms_length, linear_body, linear_text, lits_words, lits_length, clause_line, clause_text, clause_comparisons, members_in}

-- ---- a clause

bodies_avoid : (k : LinearLit) → avoids semicolon (linear_body k) ≡ true
bodies_avoid (linear o (linear_sum c ts)) = body_avoids semicolon (λ b l u e. omega arith) refl refl _ c (terms_words ts)

bodies_split : (xs : List ℕ) (ks : List LinearLit) → avoids semicolon xs ≡ true → split semicolon (xs ++ flat (map linear_text ks)) ≡ xs ∷ map linear_body ks
bodies_split xs [] h = rw (append-nil xs) (split_end semicolon xs h)
bodies_split xs (k ∷ ks) h = split_at semicolon xs (linear_body k ++ flat (map linear_text ks)) h ∙ ap (λ l. xs ∷ l) (bodies_split (linear_body k) ks (bodies_avoid k))

comparisons_back : (ks : List LinearLit) → read_comparisons (map linear_body ks) ≡ some (flat (map linear_words ks))
unfolding read_comparisons
comparisons_back [] = refl
comparisons_back (linear o (linear_sum c ts) ∷ ks) = rw (comparison_back _ c (length ts) (terms_words ts) (terms_length ts), comparisons_back ks) refl

clause_back : (ls : List BoolLit) (ks : List LinearLit) → read_clause (split semicolon (print_numbers (lits_words ls) ++ flat (map linear_text ks))) ≡ some (clause_words (clause ls ks))
unfolding read_clause
clause_back ls ks =
    rw (bodies_split (print_numbers (lits_words ls)) ks (numbers_avoid semicolon (λ b l u e. omega arith) refl (lits_words ls)), part_back (lits_words ls), comparisons_back ks, lits_length ls, length-map ks linear_body) refl

-- ---- lines

-- no line feed stands in a line
linears_avoid : (ks : List LinearLit) → avoids line_feed (flat (map linear_text ks)) ≡ true
linears_avoid [] = refl
linears_avoid (linear o (linear_sum c ts) ∷ ks) = avoids_append line_feed (linear_text (linear o (linear_sum c ts))) (flat (map linear_text ks)) (body_avoids line_feed (λ b l u e. omega arith) refl refl _ c (terms_words ts)) (linears_avoid ks)

clause_avoids : (c : Clause) → avoids line_feed (clause_line c) ≡ true
clause_avoids (clause ls ks) =
    avoids_append line_feed (print_numbers (lits_words ls)) (flat (map linear_text ks)) (numbers_avoid line_feed (λ b l u e. omega arith) refl (lits_words ls)) (linears_avoid ks)

pub line_split : (key : List ℕ) → avoids line_feed key ≡ true → (zs : List ℤ) (rest : List ℕ) → split line_feed (print_line key zs ++ rest) ≡ (key ++ print_numbers zs) ∷ split line_feed rest
unfolding print_line
line_split key h zs rest =
    let e : (key ++ (print_numbers zs ++ (line_feed ∷ []))) ++ rest ≡ (key ++ print_numbers zs) ++ (line_feed ∷ rest) =
    append_assoc key (print_numbers zs ++ (line_feed ∷ [])) rest ∙ ap (λ l. key ++ l) (append_assoc (print_numbers zs) (line_feed ∷ []) rest) ∙ sym (append_assoc key (print_numbers zs) (line_feed ∷ rest)) in
    ap (split line_feed) e ∙ split_at line_feed (key ++ print_numbers zs) rest (avoids_append line_feed key (print_numbers zs) h (numbers_avoid line_feed (λ b l u e. omega arith) refl zs))

pub one_back_line : (key : List ℕ) (next : Reader) → avoids line_feed key ≡ true → (zs : List ℤ) (rest : List ℕ) → one_line key next (split line_feed (print_line key zs ++ rest)) ≡ join (some zs) (next (split line_feed rest))
unfolding one_line
one_back_line key next h zs rest = rw (line_split key h zs rest, after_key key (print_numbers zs), part_back zs) refl

-- ---- the last two lines

-- the number of clauses, and of their literals and comparisons
abbrev pub last_text : ℕ → ℕ → List ℕ
last_text k t = print_line clauses_key (pos k ∷ []) ++ (total_key ++ (print_natural t ++ (line_feed ∷ [])))

pub last_split : (k t : ℕ) → split line_feed (last_text k t) ≡ (clauses_key ++ print_numbers (pos k ∷ [])) ∷ (total_key ++ print_natural t) ∷ [] ∷ []
unfolding split
last_split k t =
    line_split clauses_key refl (pos k ∷ []) (total_key ++ (print_natural t ++ (line_feed ∷ [])))
    ∙ ap (λ l. (clauses_key ++ print_numbers (pos k ∷ [])) ∷ l)
    (ap (split line_feed) (sym (append_assoc total_key (print_natural t) (line_feed ∷ []))) ∙ split_at line_feed (total_key ++ print_natural t) [] (avoids_append line_feed total_key (print_natural t) refl (natural_avoids line_feed (λ b l u e. omega arith) t)))

last_back : (k t : ℕ) → read_tail (split line_feed (last_text k t)) ≡ some (record { words = []; members = 0; count = pos k; total = t })
unfolding read_tail read_last after
last_back k t = rw (last_split k t, one_back (pos k), natural_back t) refl

-- ---- the clauses

abbrev tail_of : List Clause → ℕ → ℕ → Option Tail
tail_of cs k t = some (record { words = flat (map clause_words cs); members = members_in cs; count = pos k; total = t })

clause_read : (ls : List BoolLit) (ks : List LinearLit) (cs : List Clause) (k t : ℕ) (ps : List (List ℕ)) → read_tail ps ≡ tail_of cs k t → read_tail (clause_line (clause ls ks) ∷ ps) ≡ tail_of (clause ls ks ∷ cs) k t
unfolding read_tail
clause_read ls ks cs k t ps h = rw (after_key clause_key (print_numbers (lits_words ls) ++ flat (map linear_text ks)), clause_back ls ks, h, clause_comparisons ls ks) refl

pub clauses_split : (c : Clause) (cs : List Clause) (k t : ℕ) → split line_feed (flat (map clause_text (c ∷ cs)) ++ last_text k t) ≡ clause_line c ∷ split line_feed (flat (map clause_text cs) ++ last_text k t)
clauses_split c cs k t =
    let rest : List ℕ = flat (map clause_text cs) ++ last_text k t in
    ap (split line_feed) (append_assoc (clause_text c) (flat (map clause_text cs)) (last_text k t) ∙ append_assoc (clause_line c) (line_feed ∷ []) rest)
    ∙ split_at line_feed (clause_line c) rest (clause_avoids c)

clauses_tail : (cs : List Clause) (k t : ℕ) → read_tail (split line_feed (flat (map clause_text cs) ++ last_text k t)) ≡ tail_of cs k t
clauses_tail [] k t = last_back k t
clauses_tail (clause ls ks ∷ cs) k t = ap read_tail (clauses_split (clause ls ks) cs k t) ∙ clause_read ls ks cs k t (split line_feed (flat (map clause_text cs) ++ last_text k t)) (clauses_tail cs k t)

pub clauses_back : (cs : List Clause) (k : ℕ) → read_clauses (split line_feed (flat (map clause_text cs) ++ last_text k (members_in cs))) ≡ some (pos k ∷ flat (map clause_words cs))
unfolding read_clauses
clauses_back cs k = rw (clauses_tail cs k (members_in cs), eq-eqb (members_in cs) (members_in cs) refl) refl
