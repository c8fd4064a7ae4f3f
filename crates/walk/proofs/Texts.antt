-- The words of a disjunction: writing by mode is the layout of what normalize_disjunction makes.
use Rattle.std.specs.Prelude.{◌≡◌, refl, ℤ, pos, negsuc, length}
use Rattle.std.proofs.Math.Path.{sym}
use Rattle.std.proofs.Common.{ap, ◌∙◌, length-append}
use Rattle.std.proofs.Math.Bool.{true, false}
use mathlib.Core.List.{List, [], ◌∷◌, ◌++◌, append_assoc, append-nil, map}
use Prim.Native.Nat.{ℕ, suc, ◌+◌, ◌≤◌, min}
use native.Mathlib.Omega.{arith}
use Rattle.std.proofs.lemmas.List.{length-map}
use Rattle.laws.specs.Lists.{flat, flat_append}
use Rattle.memory.specs.Places.{limit}
use Rattle.clauses.specs.Clause.{BoolLit, lit, LinearLit, Clause, clause}
use Rattle.clauses.specs.Log.{aux, bool, Log, next_bool, next_int, get_bool_var, get_int_var, clauses_of}
use Rattle.clauses.specs.Disjunction.{add_bool_each, Sorted, satisfied, pool, sorted, each_longer, finish_disjunction, finish_sorted, normalize_disjunction}
use Rattle.answer.specs.Answer.{lit_words, linear_words, clause_words}
use Rattle.walk.specs.Item.{word_of, clause_text, mode_in, fresh_in, lines_in, extra, block, pool_text}
use Rattle.walk.proofs.Grow.{Grows, same, then, grow_aux, lit_word, word_lit}
use Rattle.walk.specs.declared.Mode.TheVariants.{Each}

abbrev pub words : List BoolLit → List ℤ
words = map lit_word

abbrev pub linears : List LinearLit → List ℤ
linears ks = flat (map linear_words ks)

-- the clauses, each with the suffix's words behind its literals
unfoldable pub layout : List ℤ → List Clause → List ℤ
layout suf [] = []
layout suf (clause ls ks ∷ cs) = clause_text (words ls) suf (length ks) (linears ks) ++ layout suf cs

-- ---- with no suffix: the answer's words

lits_words : (ls : List BoolLit) → flat (map lit_words ls) ≡ words ls
lits_words [] = refl
lits_words (lit n false ∷ ls) = ap (λ x. pos (suc n) ∷ x) (lits_words ls)
lits_words (lit n true ∷ ls) = ap (λ x. negsuc n ∷ x) (lits_words ls)

pub layout_words : (cs : List Clause) → layout [] cs ≡ flat (map clause_words cs)
unfolding layout clause_text
layout_words [] = refl
layout_words (clause ls ks ∷ cs) =
    let z : length ls + 0 ≡ length ls = omega arith in
    rw (lits_words ls, layout_words cs, length-map ls lit_word, z)

-- ---- one after another

words_append : (a b : List BoolLit) → words (a ++ b) ≡ words a ++ words b
words_append [] b = refl
words_append (l ∷ a) b = ap (λ x. lit_word l ∷ x) (words_append a b)

pub words_more : (a b : List BoolLit) → words a ++ words b ≡ words (a ++ b)
words_more a b = sym (words_append a b)

map-append : (a b : List LinearLit) → map linear_words (a ++ b) ≡ map linear_words a ++ map linear_words b
map-append [] b = refl
map-append (k ∷ a) b = ap (λ x. linear_words k ∷ x) (map-append a b)

pub linears_more : (a b : List LinearLit) → linears a ++ linears b ≡ linears (a ++ b)
linears_more a b = sym (ap flat (map-append a b) ∙ flat_append (map linear_words a) (map linear_words b))

pub layout_append : (suf : List ℤ) (a b : List Clause) → layout suf (a ++ b) ≡ layout suf a ++ layout suf b
unfolding layout
layout_append suf [] b = refl
layout_append suf (clause ls ks ∷ a) b = rw (layout_append suf a b) (sym (append_assoc (clause_text (words ls) suf (length ks) (linears ks)) (layout suf a) (layout suf b)))

-- a literal at the end, or at the front of the suffix
clause_shift : (ls : List BoolLit) (l : BoolLit) (x : List ℤ) (c : ℕ) (ks : List ℤ) → clause_text (words (ls ++ (l ∷ []))) x c ks ≡ clause_text (words ls) (lit_word l ∷ x) c ks
unfolding clause_text
clause_shift ls l x c ks =
    rw (words_append ls (l ∷ []), length-append (words ls) (lit_word l ∷ []), append_assoc (words ls) (lit_word l ∷ []) (x ++ (pos c ∷ ks)))
    (ap (λ n. pos n ∷ words ls ++ (lit_word l ∷ (x ++ (pos c ∷ ks)))) (omega arith))

pub layout_add : (l : BoolLit) (suf : List ℤ) (cs : List Clause) → layout suf (add_bool_each l cs) ≡ layout (lit_word l ∷ suf) cs
unfolding layout
layout_add l suf [] = refl
layout_add l suf (clause ls ks ∷ cs) = rw (clause_shift ls l suf (length ks) (linears ks), layout_add l suf cs)

-- the longer members one after another, the k-th with the words x k
unfoldable pub long_layout : (ℕ → List ℤ) → List (List Clause) → ℕ → List ℤ → List ℤ
long_layout x [] k suf = []
long_layout x (a ∷ cx) k suf = layout (x k ++ suf) a ++ long_layout x cx (k + 1) suf

-- ---- a new number for each longer member

pub each_length : (cx : List (List Clause)) (ls : List BoolLit) (ks : List LinearLit) (s : Log) → next_bool (each_longer cx ls ks s).1 ≡ length cx + next_bool s
unfolding each_longer
each_length [] ls ks s = omega arith
each_length (a ∷ cx) ls ks s = each_length cx _ ks (bool (aux a) ∷ s) ∙ (omega arith)

each_grows : (cx : List (List Clause)) (ls : List BoolLit) (ks : List LinearLit) (s : Log) → Grows s (each_longer cx ls ks s).1
unfolding each_longer
each_grows [] ls ks s = same
each_grows (a ∷ cx) ls ks s = then (grow_aux a s) (each_grows cx _ ks (bool (aux a) ∷ s))

each_words : (cx : List (List Clause)) (ls : List BoolLit) (ks : List LinearLit) (s : Log) (b j : ℕ) (w suf : List ℤ) → next_bool s ≡ b + j → length cx + next_bool s ≤ limit
    → long_layout (extra Each b w) cx j suf ++ clause_text (words ls) (block (b + j) (length cx) ++ suf) (length ks) (linears ks) ≡ layout suf (each_longer cx ls ks s).0
unfolding each_longer long_layout layout
each_words [] ls ks s b j w suf e h = sym (append-nil _)
each_words (a ∷ cx) ls ks s b j w suf e h =
    let n = next_bool s in
    let p : b + j + 1 ≡ suc n = omega arith in
    let q : b + (j + 1) ≡ b + j + 1 = omega arith in
    let f : word_of (b + j + 1) false ≡ lit_word (lit n false) = ap (λ n. word_of n false) p ∙ word_lit n false (omega arith) in
    let g : word_of (b + j + 1) true ≡ lit_word (lit n true) = ap (λ n. word_of n true) p ∙ word_lit n true (omega arith) in
    rw (
      layout_append suf (add_bool_each (lit n true) a) (each_longer cx (ls ++ (lit n false ∷ [])) ks (bool (aux a) ∷ s)).0,
      layout_add (lit n true) suf a,
      ← each_words cx (ls ++ (lit n false ∷ [])) ks (bool (aux a) ∷ s) b (j + 1) w suf (omega arith) (omega arith),
      clause_shift ls (lit n false) (block (b + (j + 1)) (length cx) ++ suf) (length ks) (linears ks),
      q,
      f,
      g,
    )
    (append_assoc (layout (lit_word (lit n true) ∷ suf) a) _ _)

abbrev pub AllLong : List (List Clause) → Type 0
AllLong [] = Unit {0}
AllLong (a ∷ cx) = (2 ≤ length a) × AllLong cx

-- one member and a pool, two members, each: what `finish_disjunction` makes
module _ (s : Log) (suf : List ℤ) where
  abbrev written : List (List Clause) → List BoolLit → List LinearLit → List ℤ
  written cx ls ks =
      long_layout (extra (mode_in (length cx) (length ls) (length ks)) (next_bool s) (words ls)) cx 0 suf
      ++ pool_text (mode_in (length cx) (length ls) (length ks)) (next_bool s) (length cx) (words ls) (length ks) (linears ks) suf

  each_is : (cx : List (List Clause)) (ls : List BoolLit) (ks : List LinearLit) → length cx + next_bool s ≤ limit
      → long_layout (extra Each (next_bool s) (words ls)) cx 0 suf ++ clause_text (words ls) (block (next_bool s) (length cx) ++ suf) (length ks) (linears ks) ≡ layout suf (each_longer cx ls ks s).0
  each_is cx ls ks h =
      let z : next_bool s + 0 ≡ next_bool s = omega arith in
      ap (λ n. long_layout (extra Each (next_bool s) (words ls)) cx 0 suf ++ clause_text (words ls) (block n (length cx) ++ suf) (length ks) (linears ks)) (sym z)
      ∙ each_words cx ls ks s (next_bool s) 0 (words ls) suf (sym z) h

  pub finish_words : (cx : List (List Clause)) (ls : List BoolLit) (ks : List LinearLit) → next_bool (finish_disjunction cx ls ks s).1 ≤ limit → written cx ls ks ≡ layout suf (finish_disjunction cx ls ks s).0
  unfolding finish_disjunction long_layout layout each_longer
  finish_words [] ls ks h = sym (append-nil _)
  finish_words (a ∷ []) [] [] h = append-nil _ ∙ append-nil _
  finish_words (a ∷ []) (l ∷ []) [] h = append-nil _ ∙ append-nil _ ∙ sym (layout_add l suf a)
  finish_words (a ∷ []) (l ∷ m ∷ ls) [] h = each_is (a ∷ []) (l ∷ m ∷ ls) [] (omega arith)
  finish_words (a ∷ []) ls (k ∷ ks) h = each_is (a ∷ []) ls (k ∷ ks) (omega arith)
  finish_words (a ∷ b ∷ []) [] [] h =
      let n = next_bool s in
      let p : n + 1 ≡ suc n = omega arith in
      rw (p, word_lit n true (omega arith), word_lit n false (omega arith), layout_append suf (add_bool_each (lit n true) a) (add_bool_each (lit n false) b), layout_add (lit n true) suf a, layout_add (lit n false) suf b)
      (simp append-nil)
  finish_words (a ∷ b ∷ []) [] (k ∷ ks) h = each_is (a ∷ b ∷ []) [] (k ∷ ks) (omega (arith, each_length (a ∷ b ∷ []) [] (k ∷ ks) s))
  finish_words (a ∷ b ∷ []) (l ∷ ls) ks h = each_is (a ∷ b ∷ []) (l ∷ ls) ks (omega (arith, each_length (a ∷ b ∷ []) (l ∷ ls) ks s))
  finish_words (a ∷ b ∷ c ∷ cx) ls ks h = each_is (a ∷ b ∷ c ∷ cx) ls ks (omega (arith, each_length (a ∷ b ∷ c ∷ cx) ls ks s))

pub finish_count : (cx : List (List Clause)) (ls : List BoolLit) (ks : List LinearLit) (s : Log) → next_bool (finish_disjunction cx ls ks s).1 ≡ next_bool s + fresh_in (mode_in (length cx) (length ls) (length ks)) (length cx)
unfolding finish_disjunction each_longer
finish_count [] ls ks s = omega arith
finish_count (a ∷ []) [] [] s = omega arith
finish_count (a ∷ []) (l ∷ []) [] s = omega arith
finish_count (a ∷ []) (l ∷ m ∷ ls) [] s = omega arith
finish_count (a ∷ []) ls (k ∷ ks) s = omega arith
finish_count (a ∷ b ∷ []) [] [] s = omega arith
finish_count (a ∷ b ∷ []) [] (k ∷ ks) s = omega arith
finish_count (a ∷ b ∷ []) (l ∷ ls) ks s = omega arith
finish_count (a ∷ b ∷ c ∷ cx) ls ks s = omega (arith, each_length (a ∷ b ∷ c ∷ cx) ls ks s)

pub finish_grows : (cx : List (List Clause)) (ls : List BoolLit) (ks : List LinearLit) (s : Log) → Grows s (finish_disjunction cx ls ks s).1
unfolding finish_disjunction each_longer
finish_grows [] ls ks s = same
finish_grows (a ∷ []) [] [] s = same
finish_grows (a ∷ []) (l ∷ []) [] s = same
finish_grows (a ∷ []) (l ∷ m ∷ ls) [] s = grow_aux a s
finish_grows (a ∷ []) ls (k ∷ ks) s = grow_aux a s
finish_grows (a ∷ b ∷ []) [] [] s = grow_aux a s
finish_grows (a ∷ b ∷ []) [] (k ∷ ks) s = each_grows (a ∷ b ∷ []) [] (k ∷ ks) s
finish_grows (a ∷ b ∷ []) (l ∷ ls) ks s = each_grows (a ∷ b ∷ []) (l ∷ ls) ks s
finish_grows (a ∷ b ∷ c ∷ cx) ls ks s = each_grows (a ∷ b ∷ c ∷ cx) ls ks s

-- ---- how many clauses

abbrev pub lengths : List (List Clause) → ℕ
lengths [] = 0
lengths (a ∷ cx) = length a + lengths cx

length_add : (l : BoolLit) (a : List Clause) → length (add_bool_each l a) ≡ length a
length_add l [] = refl
length_add l (c ∷ a) = ap suc (length_add l a)

each_lines : (cx : List (List Clause)) (ls : List BoolLit) (ks : List LinearLit) (s : Log) → length (each_longer cx ls ks s).0 ≡ lengths cx + 1
unfolding each_longer
each_lines [] ls ks s = refl
each_lines (a ∷ cx) ls ks s =
    length-append (add_bool_each (lit (next_bool s) true) a) _ ∙ (omega (arith, length_add (lit (next_bool s) true) a, each_lines cx (ls ++ (lit (next_bool s) false ∷ [])) ks (bool (aux a) ∷ s)))

pub finish_lines : (cx : List (List Clause)) (ls : List BoolLit) (ks : List LinearLit) (s : Log)
    → min (length (finish_disjunction cx ls ks s).0) limit ≡ lines_in (mode_in (length cx) (length ls) (length ks)) (min (lengths cx) limit)
unfolding finish_disjunction each_longer
finish_lines [] ls ks s = omega arith
finish_lines (a ∷ []) [] [] s = omega arith
finish_lines (a ∷ []) (l ∷ []) [] s = omega (arith, length_add l a)
finish_lines (a ∷ []) (l ∷ m ∷ ls) [] s = omega (arith, each_lines (a ∷ []) (l ∷ m ∷ ls) [] s)
finish_lines (a ∷ []) ls (k ∷ ks) s = omega (arith, each_lines (a ∷ []) ls (k ∷ ks) s)
finish_lines (a ∷ b ∷ []) [] [] s =
    omega (arith, length-append (add_bool_each (lit (next_bool s) true) a) (add_bool_each (lit (next_bool s) false) b), length_add (lit (next_bool s) true) a, length_add (lit (next_bool s) false) b)
finish_lines (a ∷ b ∷ []) [] (k ∷ ks) s = omega (arith, each_lines (a ∷ b ∷ []) [] (k ∷ ks) s)
finish_lines (a ∷ b ∷ []) (l ∷ ls) ks s = omega (arith, each_lines (a ∷ b ∷ []) (l ∷ ls) ks s)
finish_lines (a ∷ b ∷ c ∷ cx) ls ks s = omega (arith, each_lines (a ∷ b ∷ c ∷ cx) ls ks s)

each_long : (a : List Clause) (cx : List (List Clause)) (ls : List BoolLit) (ks : List LinearLit) (s : Log) → 2 ≤ length a → 2 ≤ length (each_longer (a ∷ cx) ls ks s).0
each_long a cx ls ks s h = omega (arith, each_lines (a ∷ cx) ls ks s)

-- with a longer member there are two clauses or more
pub finish_long : (a : List Clause) (cx : List (List Clause)) (ls : List BoolLit) (ks : List LinearLit) (s : Log) → 2 ≤ length a → 2 ≤ length (finish_disjunction (a ∷ cx) ls ks s).0
unfolding finish_disjunction
finish_long a [] [] [] s h = h
finish_long a [] (l ∷ []) [] s h = rw length_add h
finish_long a [] (l ∷ m ∷ ls) [] s h = each_long a [] (l ∷ m ∷ ls) [] s h
finish_long a [] ls (k ∷ ks) s h = each_long a [] ls (k ∷ ks) s h
finish_long a (b ∷ []) [] [] s h = rw (length-append, length_add (lit (next_bool s) true) a) (omega arith)
finish_long a (b ∷ []) [] (k ∷ ks) s h = each_long a (b ∷ []) [] (k ∷ ks) s h
finish_long a (b ∷ []) (l ∷ ls) ks s h = each_long a (b ∷ []) (l ∷ ls) ks s h
finish_long a (b ∷ c ∷ cx) ls ks s h = each_long a (b ∷ c ∷ cx) ls ks s h

-- the two shortest cases of normalize_disjunction are cases of the others
pub disjunction_finish : (css : List (List Clause)) (s : Log) → normalize_disjunction css s ≡ finish_sorted (sorted css) s
unfolding normalize_disjunction finish_sorted sorted finish_disjunction each_longer
disjunction_finish [] s = refl
disjunction_finish ([] ∷ []) s = refl
disjunction_finish ((clause ls ks ∷ []) ∷ []) s = rw (append-nil ls, append-nil ks)
disjunction_finish ((c ∷ d ∷ cs) ∷ []) s = refl
disjunction_finish (cs ∷ ds ∷ css) s = refl

-- ---- the new numbers of a disjunction are no variables'

-- t has only such numbers on top of s
pub data Auxed : Log → Log → Type 0 where
  here : {s : Log} → Auxed s s
  above : {s t : Log} {a : List Clause} → Auxed (bool (aux a) ∷ s) t → Auxed s t

each_auxed : (cx : List (List Clause)) (ls : List BoolLit) (ks : List LinearLit) (s : Log) → Auxed s (each_longer cx ls ks s).1
unfolding each_longer
each_auxed [] ls ks s = here
each_auxed (a ∷ cx) ls ks s = above (each_auxed cx (ls ++ (lit (next_bool s) false ∷ [])) ks (bool (aux a) ∷ s))

finish_auxed : (cx : List (List Clause)) (ls : List BoolLit) (ks : List LinearLit) (s : Log) → Auxed s (finish_disjunction cx ls ks s).1
unfolding finish_disjunction each_longer
finish_auxed [] ls ks s = here
finish_auxed (a ∷ []) [] [] s = here
finish_auxed (a ∷ []) (l ∷ []) [] s = here
finish_auxed (a ∷ []) (l ∷ m ∷ ls) [] s = above here
finish_auxed (a ∷ []) ls (k ∷ ks) s = above here
finish_auxed (a ∷ b ∷ []) [] [] s = above here
finish_auxed (a ∷ b ∷ []) [] (k ∷ ks) s = each_auxed (a ∷ b ∷ []) [] (k ∷ ks) s
finish_auxed (a ∷ b ∷ []) (l ∷ ls) ks s = each_auxed (a ∷ b ∷ []) (l ∷ ls) ks s
finish_auxed (a ∷ b ∷ c ∷ cx) ls ks s = each_auxed (a ∷ b ∷ c ∷ cx) ls ks s

pub disjunction_auxed : (css : List (List Clause)) (s : Log) → Auxed s (normalize_disjunction css s).1
unfolding finish_sorted
disjunction_auxed css s = rw (disjunction_finish css s) (go (sorted css))
  where
    go : (x : Sorted) → Auxed s (finish_sorted x s).1
    go satisfied = here
    go (pool ls ks cx) = finish_auxed cx ls ks s

-- variables keep their numbers, no integer is new, and no clause is added
pub record Untouched (s t : Log) : Type 0 where
  pub ints : next_int t ≡ next_int s
  pub keep : (v : ℕ) → get_bool_var v t ≡ get_bool_var v s
  pub keep_int : (v : ℕ) → get_int_var v t ≡ get_int_var v s
  pub quiet : clauses_of t ≡ clauses_of s

pub auxed_untouched : {s t : Log} → Auxed s t → Untouched s t
unfolding get_bool_var get_int_var clauses_of
auxed_untouched here = record { ints = refl; keep = λ v. refl; keep_int = λ v. refl; quiet = refl }
auxed_untouched (above {s} {t} {a} h) = let u = auxed_untouched h in record { ints = u.ints; keep = λ v. u.keep v; keep_int = λ v. u.keep_int v; quiet = u.quiet }
