-- What the listing prints of an answer's domains, comparisons and clauses, from the words that they are laid out as. Assumes nothing.
use Rattle.std.specs.Prelude.{◌≡◌, ℕ, suc, ◌+◌, ◌<◌, pos, length, take, drop, true, false}
use Rattle.std.proofs.Math.Path.{refl}
use Rattle.std.proofs.Common.{sym, ap, ◌∙◌, arith}
use mathlib.Core.List.{List, [], ◌∷◌, ◌++◌, map, append_assoc, append-nil}
use Rattle.std.proofs.Math.IntN.{ℤ}
use Rattle.std.proofs.Math.ListN.{length-append}
use Rattle.std.proofs.Math.Seq.{take-append_seam, drop-append_seam}
use Rattle.laws.specs.Lists.{flat, counted}
use Rattle.syntax.specs.Syntax.{encode_op}
use Rattle.sums.specs.LinearSum.{Term, term, linear_sum}
use Rattle.clauses.specs.Clause.{BoolLit, lit, LinearLit, linear, Clause, clause}
use Rattle.answer.specs.Answer.{Emitted, ranging, following, emitted_words, lit_words, term_words, linear_words, clause_words}
use Rattle.decimal.specs.Bytes.{semicolon, line_feed, domain_key, clause_key}
use Rattle.lines.specs.Lines.{Shown, count_word, print_numbers, print_line, times, print_domain, print_comparison, literals, after_literals, print_comparisons, print_clause, summed, members, total}
use Rattle.readback.proofs.Split.{body}

-- ---- several of a kind

times_suc : (f : List ℤ → Shown) (n : ℕ) (ws : List ℤ) → 0 < length ws → times f (suc n) ws ≡ record { text = (f ws).text ++ (times f n (f ws).rest).text; rest = (times f n (f ws).rest).rest }
unfolding times
times_suc f n [] h = absurd (omega arith)
times_suc f n (w ∷ ws) h = refl

module _ {A : Type 0} (f : List ℤ → Shown) (code : A → List ℤ) (text : A → List ℕ) (filled : (a : A) → 0 < length (code a)) (one : (a : A) (r : List ℤ) → f (code a ++ r) ≡ record { text = text a; rest = r }) where
  pub times_shown : (ys : List A) (r : List ℤ) → times f (length ys) (flat (map code ys) ++ r) ≡ record { text = flat (map text ys); rest = r }
  unfolding times
  times_shown [] r = refl
  times_shown (a ∷ ys) r =
      let more : List ℤ = flat (map code ys) ++ r in
      rw (append_assoc (code a) (flat (map code ys)) r) (times_suc f (length ys) (code a ++ more) (omega (arith, filled a, length-append (code a) more)) ∙ rw (one a more, times_shown ys r) refl)

-- ---- a record

pub domain_filled : (e : Emitted) → 0 < length (emitted_words e)
domain_filled (ranging d) = omega arith
domain_filled (following l a b) = omega arith

pub domain_shown : (e : Emitted) (r : List ℤ) → print_domain (emitted_words e ++ r) ≡ record { text = print_line domain_key (emitted_words e); rest = r }
unfolding print_domain
domain_shown (ranging d) r = refl
domain_shown (following (lit n false) a b) r = refl
domain_shown (following (lit n true) a b) r = refl

-- ---- a comparison

abbrev pub terms_words : List Term → List ℤ
terms_words ts = flat (map term_words ts)

pub terms_length : (ts : List Term) → length (terms_words ts) ≡ length ts + length ts
terms_length [] = refl
terms_length (term v a ∷ ts) = omega (arith, terms_length ts)

-- what follows the semicolon
abbrev pub linear_body : LinearLit → List ℕ
linear_body (linear o (linear_sum c ts)) = body (encode_op o) c (terms_words ts)

abbrev pub linear_text : LinearLit → List ℕ
linear_text k = semicolon ∷ linear_body k

linear_filled : (k : LinearLit) → 0 < length (linear_words k)
linear_filled (linear o (linear_sum c ts)) = omega arith

linear_shown : (k : LinearLit) (r : List ℤ) → print_comparison (linear_words k ++ r) ≡ record { text = linear_text k; rest = r }
unfolding print_comparison
linear_shown (linear o (linear_sum c ts)) r =
    let ws : List ℤ = terms_words ts in
    let t : take (length ts + length ts) (ws ++ r) ≡ ws = rw (← terms_length ts) (take-append_seam ws r) in
    let d : drop (length ts + length ts) (ws ++ r) ≡ r = rw (← terms_length ts) (drop-append_seam ws r) in
    rw (t, d) refl

-- ---- a clause

abbrev pub lits_words : List BoolLit → List ℤ
lits_words ls = flat (map lit_words ls)

pub lits_length : (ls : List BoolLit) → length (lits_words ls) ≡ length ls
lits_length [] = refl
lits_length (lit n false ∷ ls) = ap suc (lits_length ls)
lits_length (lit n true ∷ ls) = ap suc (lits_length ls)

-- a line without its line feed
abbrev pub clause_line : Clause → List ℕ
clause_line (clause ls ks) = clause_key ++ (print_numbers (lits_words ls) ++ flat (map linear_text ks))

abbrev pub clause_text : Clause → List ℕ
clause_text c = clause_line c ++ (line_feed ∷ [])

pub clause_filled : (c : Clause) → 0 < length (clause_words c)
clause_filled (clause ls ks) = omega (arith, length-append (counted lit_words ls) (counted linear_words ks))

module _ (ls : List BoolLit) (ks : List LinearLit) (r : List ℤ) where
  abbrev whole : List ℤ
  whole = clause_words (clause ls ks) ++ r

  laid : whole ≡ pos (length ls) ∷ (lits_words ls ++ (pos (length ks) ∷ (flat (map linear_words ks) ++ r)))
  laid = append_assoc (counted lit_words ls) (counted linear_words ks) r

  clause_literals : literals whole ≡ lits_words ls
  clause_literals = rw (laid, ← lits_length ls) (take-append_seam (lits_words ls) (pos (length ks) ∷ (flat (map linear_words ks) ++ r)))

  clause_rest : after_literals whole ≡ pos (length ks) ∷ (flat (map linear_words ks) ++ r)
  clause_rest = rw (laid, ← lits_length ls) (drop-append_seam (lits_words ls) (pos (length ks) ∷ (flat (map linear_words ks) ++ r)))

-- how many comparisons: the word behind the literals
pub clause_comparisons : (ls : List BoolLit) (ks : List LinearLit) → count_word (after_literals (clause_words (clause ls ks))) ≡ length ks
clause_comparisons ls ks = ap (λ (l : List ℤ). count_word (after_literals l)) (sym (append-nil (clause_words (clause ls ks)))) ∙ ap count_word (clause_rest ls ks [])

pub clause_shown : (c : Clause) (r : List ℤ) → print_clause (clause_words c ++ r) ≡ record { text = clause_text c; rest = r }
unfolding print_clause print_comparisons
clause_shown (clause ls ks) r =
    let lits : List ℕ = print_numbers (lits_words ls) in
    let comps : List ℕ = flat (map linear_text ks) in
    let e : clause_key ++ (lits ++ (comps ++ (line_feed ∷ []))) ≡ (clause_key ++ (lits ++ comps)) ++ (line_feed ∷ []) = sym (append_assoc clause_key (lits ++ comps) (line_feed ∷ []) ∙ ap (λ l. clause_key ++ l) (append_assoc lits comps (line_feed ∷ []))) in
    rw (clause_literals ls ks r, clause_rest ls ks r, times_shown print_comparison linear_words linear_text linear_filled linear_shown ks r) (ap (λ (l : List ℕ). record { text = l; rest = r }) e)

-- ---- the number of literals and comparisons

abbrev pub members_in : List Clause → ℕ
members_in [] = 0
members_in (clause ls ks ∷ cs) = length ls + length ks + members_in cs

sum_suc : (f : List ℤ → Shown) (g : List ℤ → ℕ) (n : ℕ) (ws : List ℤ) → 0 < length ws → summed f g (suc n) ws ≡ g ws + summed f g n (f ws).rest
unfolding summed
sum_suc f g n [] h = absurd (omega arith)
sum_suc f g n (w ∷ ws) h = refl

comparisons_shown : (ks : List LinearLit) (r : List ℤ) → summed print_comparison (λ k. 1) (length ks) (flat (map linear_words ks) ++ r) ≡ length ks
unfolding summed
comparisons_shown [] r = refl
comparisons_shown (k ∷ ks) r =
    let c : List ℤ = linear_words k in
    let more : List ℤ = flat (map linear_words ks) ++ r in
    rw (append_assoc c (flat (map linear_words ks)) r)
    (sum_suc print_comparison (λ k. 1) (length ks) (c ++ more) (omega (arith, linear_filled k, length-append c more)) ∙ rw (linear_shown k more) (omega (arith, comparisons_shown ks r)))

members_shown : (ls : List BoolLit) (ks : List LinearLit) (r : List ℤ) → members (clause_words (clause ls ks) ++ r) ≡ length ls + length ks
unfolding members
members_shown ls ks r = rw (clause_literals ls ks r, clause_rest ls ks r, lits_length ls, comparisons_shown ks r) refl

pub total_shown : (cs : List Clause) (r : List ℤ) → total (length cs) (flat (map clause_words cs) ++ r) ≡ members_in cs
unfolding summed
total_shown [] r = refl
total_shown (clause ls ks ∷ cs) r =
    let c : List ℤ = clause_words (clause ls ks) in
    let more : List ℤ = flat (map clause_words cs) ++ r in
    rw (append_assoc c (flat (map clause_words cs)) r)
    (sum_suc print_clause members (length cs) (c ++ more) (omega (arith, clause_filled (clause ls ks), length-append c more)) ∙ rw (members_shown ls ks more, clause_shown (clause ls ks) more, total_shown cs r) refl)
