-- What passing an answer says of the log it was made from: the fixed values, the numbers of the declared variables, the columns' ranges, the clauses;
-- for a log and clauses as normalising makes them, which name emitted numbers only.
use Rattle.std.specs.Prelude.{◌≡◌, refl, Bool, false, not, cond, ℕ, zero, suc, ◌+◌, ◌≤◌, ◌<◌, ℤ, pos, eqb, ltb, length, get_or}
use Rattle.std.proofs.Math.Path.{sym}
use Rattle.std.proofs.Common.{ap, ◌∙◌, arith, eqb-true, lt-ltb}
use Rattle.std.proofs.Math.Bool.{true}
use Rattle.std.proofs.lemmas.Bool.{false≢true}
use Rattle.std.proofs.Math.Option.{Option, none, some}
use mathlib.Core.List.{List, [], ◌∷◌, map}
use Rattle.std.proofs.lemmas.List.{length-map}
use Rattle.laws.specs.Bools.{and_l, and_r, and_i, beq_eq, beq_same}
use Rattle.laws.specs.Order.{eqZ_is, is_eqZ}
use Rattle.laws.specs.Lists.{all, all_append, from, below, all_below, below_all}
use Rattle.syntax.specs.Syntax.{Domain, Range, lower_bound, upper_bound, in_domain, Problem}
use Rattle.syntax.specs.Satisfies.{Val, IVal}
use Rattle.fold.specs.Fold.{Fixed}
use Rattle.sums.specs.LinearSum.{Term, term, LinearSum, linear_sum, get_domain_linear_sum}
use Rattle.clauses.specs.Normalize.{domain_of_sum}
use Rattle.clauses.specs.Clause.{BoolLit, lit, LinearLit, linear, Clause, clause, clause_true, lit_true}
use Rattle.clauses.specs.Log.{declared, aux, side, MadeInt, declared_int, column, chosen, binary, bool, merged, int, added, defined, known, Log, next_bool, next_int, number_of, get_bool_var, get_int_var, made_ints, clauses_of}
use Rattle.clauses.specs.Merge.{WellMerged}
use Rattle.clauses.proofs.MergeLaws.{merged_agree, merged_no_clauses, merged_no_ints}
use Rattle.clauses.proofs.Bounds.{lits_bound, clauses_bound, terms_bound, linears_bound, ints_bound}
use Rattle.clauses.specs.Valuation.{Agrees, Added}
use Rattle.clauses.proofs.Grow.{Extends, get_bool_below, get_int_below, agrees_bool, agrees_int, Held, agrees_of, clauses_added, added_clauses, clauses_named, clauses_numbered}
use Rattle.clauses.proofs.Ranges.{Within}
use Rattle.answer.specs.Answer.{Emitted, ranging, emitted, answer_of, fixed_word, map_word, bool_word, emitted_words}
use Rattle.answer.specs.Passes.{word_of, fixed_agrees, carries_bool, carries_int, between, admits, lit_emitted, term_emitted, linear_emitted, clause_emitted, passes_decoded}
use Rattle.answer.proofs.ReadBack.{view_of}
use Rattle.answer.proofs.Records.{length_records, emitted_at, new_emitted, follows_is, Admitted, admitted_before, agreeing_admitted}
use Rattle.answer.proofs.Declared.{Declared}

-- ---- lists over the numbers below a count

getD_from : {A C : Type 0} (f : A → C) (h : ℕ → A) (i n v : ℕ) (e : C) → v < n → get_or (map f (map h (from i n))) v e ≡ f (h (i + v))
getD_from f h i zero v e k = absurd (omega arith)
getD_from f h i (suc n) zero e k = ap (λ m. f (h m)) (omega arith)
getD_from f h i (suc n) (suc v) e k = getD_from f h (suc i) n v e (omega arith) ∙ ap (λ m. f (h m)) (omega arith)

getD_below : {A C : Type 0} (f : A → C) (h : ℕ → A) (n v : ℕ) (e : C) → v < n → get_or (map f (map h (below n))) v e ≡ f (h v)
getD_below f h n v e k = getD_from f h 0 n v e k ∙ ap (λ m. f (h m)) (omega arith)

-- ---- one variable

-- a fixed variable's word
fixed_is : (o : Option Bool) (x b : Bool) → fixed_agrees (fixed_word o) x ≡ true → o ≡ some b → x ≡ b
fixed_is (some true) true true h e = refl
fixed_is (some true) true false h e = cc
fixed_is (some true) false b h e = absurd (false≢true h)
fixed_is (some false) false false h e = refl
fixed_is (some false) false true h e = cc
fixed_is (some false) true b h e = absurd (false≢true h)
fixed_is none x b h e = let z : ◌≡◌ {A = ℕ} 0 1 = cc in absurd (omega arith)

is_fixed : (o : Option Bool) (x : Bool) → ((b : Bool) → o ≡ some b → x ≡ b) → fixed_agrees (fixed_word o) x ≡ true
is_fixed (some true) x h = h true refl
is_fixed (some false) x h = ap not (h false refl)
is_fixed none x h = refl

not_turn : (a b : Bool) → a ≡ not b → not a ≡ b
not_turn a true h = ap not h
not_turn a false h = ap not h

turn_not : (a b : Bool) → not a ≡ b → a ≡ not b
turn_not true b h = ap not h
turn_not false b h = ap not h

carries_is : (k : ℕ) (o : Option BoolLit) (x : Bool) (ρ : Val) (l : BoolLit) → carries_bool k (bool_word o) x ρ ≡ true → o ≡ some l → lit_true ρ l ≡ x
carries_is k (some (lit m false)) x ρ l h e = let z : lit m false ≡ l = cc in rw (← z) (beq_eq (ρ m) x (and_r (ltb m k) _ h))
carries_is k (some (lit m true)) x ρ l h e = let z : lit m true ≡ l = cc in rw (← z) (not_turn (ρ m) x (beq_eq (ρ m) (not x) (and_r (ltb m k) _ h)))
carries_is k none x ρ l h e = let z : ◌≡◌ {A = ℕ} 0 1 = cc in absurd (omega arith)

is_carried : (k : ℕ) (o : Option BoolLit) (x : Bool) (ρ : Val) → ((l : BoolLit) → o ≡ some l → (number_of l < k) × (lit_true ρ l ≡ x)) → carries_bool k (bool_word o) x ρ ≡ true
is_carried k (some (lit m false)) x ρ h = rw (lt-ltb m k (h (lit m false) refl).0, (h (lit m false) refl).1) (beq_same x)
is_carried k (some (lit m true)) x ρ h = rw (lt-ltb m k (h (lit m true) refl).0, turn_not (ρ m) x (h (lit m true) refl).1) (beq_same (not x))
is_carried k none x ρ h = refl

carries_int_is : (k : ℕ) (o : Option ℕ) (x : ℤ) (ι : IVal) (n : ℕ) → carries_int k (map_word o) x ι ≡ true → o ≡ some n → ι n ≡ x
carries_int_is k (some m) x ι n h e = let z : m ≡ n = cc in rw (← z) (eqZ_is (ι m) x (and_r (ltb m k) _ h))
carries_int_is k none x ι n h e = let z : ◌≡◌ {A = ℕ} 0 1 = cc in absurd (omega arith)

is_carried_int : (k : ℕ) (o : Option ℕ) (x : ℤ) (ι : IVal) → ((n : ℕ) → o ≡ some n → (n < k) × (ι n ≡ x)) → carries_int k (map_word o) x ι ≡ true
is_carried_int k (some m) x ι h = rw (lt-ltb m k (h m refl).0) (is_eqZ (ι m) x (h m refl).1)
is_carried_int k none x ι h = refl

-- ---- clauses whose bounds are the counts name emitted numbers only

lits_emitted : (k : ℕ) (ls : List BoolLit) → lits_bound ls ≤ k → all (lit_emitted k) ls ≡ true
lits_emitted k [] h = refl
lits_emitted k (lit n g ∷ ls) h = and_i (ltb n k) _ (lt-ltb n k (omega arith)) (lits_emitted k ls (omega arith))

terms_emitted : (k : ℕ) (ts : List Term) → terms_bound ts ≤ k → all (term_emitted k) ts ≡ true
terms_emitted k [] h = refl
terms_emitted k (term n a ∷ ts) h = and_i (ltb n k) _ (lt-ltb n k (omega arith)) (terms_emitted k ts (omega arith))

linears_emitted : (k : ℕ) (ks : List LinearLit) → linears_bound ks ≤ k → all (linear_emitted k) ks ≡ true
linears_emitted k [] h = refl
linears_emitted k (linear o (linear_sum c ts) ∷ ks) h = and_i (all (term_emitted k) ts) _ (terms_emitted k ts (omega arith)) (linears_emitted k ks (omega arith))

pub clauses_emitted : (j k : ℕ) (cs : List Clause) → clauses_bound cs ≤ j → ints_bound cs ≤ k → all (clause_emitted j k) cs ≡ true
clauses_emitted j k [] h i = refl
clauses_emitted j k (clause ls ks ∷ cs) h i = and_i (clause_emitted j k (clause ls ks)) _ (and_i (all (lit_emitted j) ls) _ (lits_emitted j ls (omega arith)) (linears_emitted k ks (omega arith))) (clauses_emitted j k cs (omega arith) (omega arith))

-- ---- what records give: a column lies in its range, what follows a literal has the value that the literal gives

range_between : (d : Domain) (x : ℤ) → d ≡ Range (lower_bound d) (upper_bound d) → between (lower_bound d) (upper_bound d) x ≡ in_domain x d
range_between d x e = sym (ap (in_domain x) e)

sum_range : (ds : List Domain) (s : Log) (l : LinearSum) → domain_of_sum ds s l ≡ Range (lower_bound (domain_of_sum ds s l)) (upper_bound (domain_of_sum ds s l))
unfolding domain_of_sum get_domain_linear_sum
sum_range ds s (linear_sum c ts) = refl

module _ (ds : List Domain) (b i : ℕ) (δ : Val) (ε : IVal) (ρ : Val) (ι : IVal) where
  -- k: how many Booleans are emitted
  abbrev before : (k : ℕ) (m : MadeInt) (s : Log) → Admitted ds ρ ι k (int m ∷ s) → Admitted ds ρ ι k s
  before = admitted_before ds ρ ι

  -- a column's range, a literal's value; an If's clauses
  held : (k : ℕ) (s : Log) → Declared ds b i s → Admitted ds ρ ι k s → all (clause_true ρ ι) (clauses_of s) ≡ true → Held ρ ι s
  unfolding emitted made_ints clauses_of
  held k [] d h c = tt
  held k (bool m ∷ s) d h c = (tt, held k s d.1 h c)
  held k (merged v w g ∷ s) d h c = (tt, held k s d.1 h c)
  held k (int (declared_int w) ∷ s) d h c = (tt, held k s d.1 (before k (declared_int w) s h) c)
  held k (int (column l e) ∷ s) d h c = (
    sym (range_between e (ι (next_int s)) (rw d.0 (sum_range ds s l))) ∙ (rw (new_emitted ds (column l e) s) at (h (next_int s) (omega arith))),
    held k s d.1 (before k (column l e) s h) c,
  )
  held k (int (chosen j x p q e) ∷ s) d h c = (tt, held k s d.1 (before k (chosen j x p q e) s h) c)
  held k (int (binary j l x y) ∷ s) d h c = (
    follows_is k ρ l x y (ι (next_int s)) (rw (new_emitted ds (binary j l x y) s) at (h (next_int s) (omega arith))),
    held k s d.1 (before k (binary j l x y) s h) c,
  )
  held k (added cs ∷ s) d h c = let t = sym (all_append (clause_true ρ ι) (clauses_of s) cs) ∙ c in (tt, held k s d.1 h (and_l (all (clause_true ρ ι) (clauses_of s)) _ t))
  held k (defined cs ∷ s) d h c = let t = sym (all_append (clause_true ρ ι) (clauses_of s) cs) ∙ c in (and_r (all (clause_true ρ ι) (clauses_of s)) _ t, held k s d.1 h (and_l (all (clause_true ρ ι) (clauses_of s)) _ t))
  held k (known e v ∷ s) d h c = (tt, held k s d.1 h c)

-- ---- only declared variables have numbers

lookup_known : {X : Type 0} (n : X) (v w m : ℕ) (k o : Option X) → w < m → (o ≡ some n → v < m) → (t : Bool) → eqb v w ≡ t → cond t k o ≡ some n → v < m
lookup_known n v w m k o h old true e q = let z : v ≡ w = eqb-true v w e in omega arith
lookup_known n v w m k o h old false e q = old q

bool_known : (ds : List Domain) (b i : ℕ) (s : Log) → Declared ds b i s → (v : ℕ) (n : BoolLit) → get_bool_var v s ≡ some n → v < b
unfolding get_bool_var
bool_known ds b i [] d v n h = let z : ◌≡◌ {A = ℕ} 0 1 = cc in absurd (omega arith)
bool_known ds b i (bool (declared w) ∷ s) d v n h = lookup_known n v w b _ (get_bool_var v s) d.0 (bool_known ds b i s d.1 v n) (eqb v w) refl h
bool_known ds b i (bool (aux cs) ∷ s) d v n h = bool_known ds b i s d.1 v n h
bool_known ds b i (bool (side e) ∷ s) d v n h = bool_known ds b i s d.1 v n h
bool_known ds b i (merged q r z ∷ s) d v n h = lookup_known n v q b _ (get_bool_var v s) d.0 (bool_known ds b i s d.1 v n) (eqb v q) refl h
bool_known ds b i (int m ∷ s) d v n h = bool_known ds b i s d.1 v n h
bool_known ds b i (added cs ∷ s) d v n h = bool_known ds b i s d.1 v n h
bool_known ds b i (defined cs ∷ s) d v n h = bool_known ds b i s d.1 v n h
bool_known ds b i (known e k ∷ s) d v n h = bool_known ds b i s d.1 v n h

int_known : (ds : List Domain) (b i : ℕ) (s : Log) → Declared ds b i s → (v n : ℕ) → get_int_var v s ≡ some n → v < i
unfolding get_int_var
int_known ds b i [] d v n h = let z : ◌≡◌ {A = ℕ} 0 1 = cc in absurd (omega arith)
int_known ds b i (bool m ∷ s) d v n h = int_known ds b i s d.1 v n h
int_known ds b i (merged q r z ∷ s) d v n h = int_known ds b i s d.1 v n h
int_known ds b i (int (declared_int w) ∷ s) d v n h = lookup_known n v w i _ (get_int_var v s) d.0 (int_known ds b i s d.1 v n) (eqb v w) refl h
int_known ds b i (int (column l e) ∷ s) d v n h = int_known ds b i s d.1 v n h
int_known ds b i (int (chosen j x p q e) ∷ s) d v n h = int_known ds b i s d.1 v n h
int_known ds b i (int (binary j l x y) ∷ s) d v n h = int_known ds b i s d.1 v n h
int_known ds b i (added cs ∷ s) d v n h = int_known ds b i s d.1 v n h
int_known ds b i (defined cs ∷ s) d v n h = int_known ds b i s d.1 v n h
int_known ds b i (known e k ∷ s) d v n h = int_known ds b i s d.1 v n h

words_at : (es : List Emitted) (j : ℕ) → j < length es → get_or (map emitted_words es) j [] ≡ emitted_words (get_or es j (ranging (Range (pos 0) (pos 0))))
words_at [] j k = absurd (omega arith)
words_at (e ∷ es) zero k = refl
words_at (e ∷ es) (suc j) k = words_at es j (omega arith)

-- ---- the answer

-- what passing says
pub record Carried (b : ℕ) (f : Fixed) (s : Log) (δ : Val) (ε : IVal) (ρ : Val) (ι : IVal) : Type 0 where
  pub fixed : (v : ℕ) (x : Bool) → v < b → f v ≡ some x → δ v ≡ x
  pub agrees : Agrees δ ε ρ ι s
  pub added : Added ρ ι s

module _ (p : Problem) (f : Fixed) (s : Log) (δ : Val) (ε : IVal) (ρ : Val) (ι : IVal) where
  abbrev b : ℕ
  b = p.bools

  abbrev i : ℕ
  i = length p.domains

  -- the tests of `passes_decoded`
  abbrev fixed_test : ℕ → Bool
  fixed_test v = fixed_agrees (word_of (map fixed_word (map f (below b))) v) (δ v)

  abbrev records : List (List ℤ)
  records = map emitted_words (emitted p.domains s)

  abbrev bool_test : ℕ → Bool
  bool_test v = carries_bool (next_bool s) (word_of (map bool_word (map (λ v. get_bool_var v s) (below b))) v) (δ v) ρ

  abbrev int_test : ℕ → Bool
  int_test v = carries_int (length records) (word_of (map map_word (map (λ v. get_int_var v s) (below i))) v) (ε v) ι

  abbrev record_test : ℕ → Bool
  record_test j = admits (next_bool s) (get_or records j []) ρ (ι j)

  abbrev emitted_test : Clause → Bool
  emitted_test = clause_emitted (next_bool s) (length records)

  as_many : length records ≡ next_int s
  as_many = length-map (emitted p.domains s) emitted_words ∙ length_records p.domains s

  record_is : (j : ℕ) → j < next_int s → get_or records j [] ≡ emitted_words (emitted_at p.domains s j)
  record_is j k = words_at (emitted p.domains s) j (omega (arith, length_records p.domains s))

  module _ (s0 : Log) (well : WellMerged s0) (grown : Extends δ ε s0 s) (known : Declared p.domains b i s) where
    all_admitted : all record_test (below (length records)) ≡ true → Admitted p.domains ρ ι (next_bool s) s
    all_admitted h j k = rw (record_is j k) at (all_below record_test (length records) j h (omega (arith, as_many)))

    pub carried : passes_decoded b i (view_of (answer_of p f s)) δ ε ρ ι ≡ true → Carried b f s δ ε ρ ι
    unfolding passes_decoded answer_of
    carried h =
        let h2 = and_r (all fixed_test (below b)) _ h in
        let h3 = and_r (all bool_test (below b)) _ h2 in
        let h4 = and_r (all int_test (below i)) _ h3 in
        let true-clauses = and_r (all emitted_test (clauses_of s)) _ (and_r (all record_test (below (length records))) _ h4) in
        record {
          fixed = λ v x k e. fixed_is (f v) (δ v) x (rw (getD_below fixed_word f b v (pos 0) k) at (all_below fixed_test b v (and_l (all fixed_test (below b)) _ h) k)) e;
          agrees = agrees_of δ ε ρ ι grown (merged_agree δ ε ρ ι s0 well)
              (λ v n e. let k : v < b = bool_known p.domains b i s known v n e in carries_is (next_bool s) (get_bool_var v s) (δ v) ρ n (rw (getD_below bool_word (λ v. get_bool_var v s) b v (pos 0) k) at (all_below bool_test b v (and_l (all bool_test (below b)) _ h2) k)) e)
              (λ v n e. let k : v < i = int_known p.domains b i s known v n e in carries_int_is (length records) (get_int_var v s) (ε v) ι n (rw (getD_below map_word (λ v. get_int_var v s) i v (pos 0) k) at (all_below int_test i v (and_l (all int_test (below i)) _ h3) k)) e)
              (held p.domains b i δ ε ρ ι (next_bool s) s known (all_admitted (and_l (all record_test (below (length records))) _ h4)) true-clauses);
          added = clauses_added ρ ι s true-clauses;
        }

    -- the emitted integers lie between their bounds
    pub carries : Within p.domains ι s → Carried b f s δ ε ρ ι → passes_decoded b i (view_of (answer_of p f s)) δ ε ρ ι ≡ true
    unfolding passes_decoded answer_of
    carries within c =
        let t1 : all fixed_test (below b) ≡ true = below_all fixed_test b (λ v k. rw (getD_below fixed_word f b v (pos 0) k) (is_fixed (f v) (δ v) (λ x q. c.fixed v x k q))) in
        let t2 : all bool_test (below b) ≡ true = below_all bool_test b (λ v k. rw (getD_below bool_word (λ v. get_bool_var v s) b v (pos 0) k) (is_carried (next_bool s) (get_bool_var v s) (δ v) ρ (λ n q. (get_bool_below s v n q, agrees_bool δ ε ρ ι s c.agrees v n q)))) in
        let t3 : all int_test (below i) ≡ true = below_all int_test i (λ v k. rw (getD_below map_word (λ v. get_int_var v s) i v (pos 0) k) (is_carried_int (length records) (get_int_var v s) (ε v) ι (λ n q. (omega (arith, get_int_below s v n q, as_many), agrees_int δ ε ρ ι s c.agrees v n q)))) in
        let admitted : Admitted p.domains ρ ι (next_bool s) s = agreeing_admitted p.domains ρ ι δ ε (next_bool s) grown (merged_no_ints s0 well) (omega arith) c.agrees within in
        let t4 : all record_test (below (length records)) ≡ true = below_all record_test (length records) (λ j k. let l : j < next_int s = omega (arith, as_many) in rw (record_is j l) (admitted j l)) in
        let t5 : all emitted_test (clauses_of s) ≡ true = clauses_emitted (next_bool s) (length records) (clauses_of s) (clauses_named grown (merged_no_clauses s0 well)) (omega (arith, as_many, clauses_numbered grown (merged_no_clauses s0 well))) in
        and_i _ _ t1 (and_i _ _ t2 (and_i _ _ t3 (and_i _ _ t4 (and_i _ _ t5 (added_clauses ρ ι δ ε s c.agrees c.added)))))
