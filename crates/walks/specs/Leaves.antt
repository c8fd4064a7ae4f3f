-- The leaves of a tree: they bound the numbers that its disjunctions make (`weight_low`), and each stands in its clauses (`leaves_stay`). What a log's integers
-- and clauses take of the answer grows along every run, and an If that is made adds its condition's leaves. Trees are proper, with no empty disjunction.
use Rattle.std.specs.Prelude.{◌≡◌, Bool, ◌&&◌, ℕ, zero, suc, ◌+◌, ◌*◌, ◌≤◌, min, pos, length}
use Rattle.std.proofs.Math.Path.{refl, ap}
use Rattle.std.proofs.Common.{sym, ◌∙◌, subst, arith, length-append}
use Rattle.std.proofs.Math.Bool.{true, false, cond}
use Rattle.std.proofs.Math.Option.{Option, none}
use mathlib.Core.List.{List, [], ◌∷◌, ◌++◌, append-nil}
use Rattle.std.proofs.lemmas.List.{length-map}
use Rattle.laws.specs.Lists.{flat}
use Rattle.memory.specs.Places.{limit}
use Rattle.syntax.specs.Syntax.{IfIsRead, Domain, IntExpr, BoolExpr, Const, Var, NVar, And, Or, Not, Xor, Iff, Imp, Cmp}
use Rattle.sums.specs.LinearSum.{LinearSum, linear_sum, singleton, is_constant}
use Rattle.sums.specs.Rising.{constant_of}
use Rattle.clauses.specs.Clause.{BoolLit, lit, LinearLit, linear, Clause, clause}
use Rattle.clauses.specs.Log.{MadeInt, chosen, aux, side, bool, int, defined, known, Log, next_bool, next_int, get_if, clauses_of}
use Rattle.clauses.specs.Disjunction.{Out, add_bool_each, Sorted, satisfied, pool, pooled, with_longer, sorted, each_longer, finish_disjunction, finish_sorted, normalize_disjunction}
use Rattle.clauses.specs.Normalize.{Run, Runs, IntOut, own_literal, condition_literal, two_valued, hull, domain_of_sum, if_constant, if_open, normalize_if, define, two, equals, no_run, run_then, normalize_conjunction, disjunction_of, cross as cross-run, lit_clauses, normalize_num, normalize_var, normalize_comparison}
use Rattle.clauses.proofs.Since.{clauses_since, top_adds}
use Rattle.answer.specs.Answer.{linear_words}
use Rattle.walk.specs.Item.{bump, clause_text, Tally, tally, mode_in, fresh_in, fresh, closed}
use Rattle.walk.proofs.Grow.{Grows, then, lit_word}
use Rattle.walk.proofs.Texts.{words, linears, layout, layout_append, disjunction_finish, disjunction_auxed, auxed_untouched}
use Rattle.walks.specs.Tree.{own_var, Place, Tree, var, num, cmp, conj, disj, cross, tied, Trees, nil, cons, size, IntTree, const, ivar, sum, choice, TermTrees, none as no_terms, term, condition_of, run, runs, run_int, run_terms}
use Rattle.walks.specs.Form.{form}
use Rattle.walks.specs.Item.{form_item, tallies, var_item, num_item, cmp_item, conj_item, disj_item, cross_item, tied_item, item, items}
use Rattle.walks.specs.Meet.{form_leaves, leaves, leaves_all}
use Rattle.walks.specs.Grow.{grow_side, grow_defined, grow_known, disjunction_grows, either_grows, condition_grows, run_grow, runs_grow, int_grow, terms_grow}
use Rattle.walks.specs.Implements.{NoNumber, Proper, Propers}

-- ---- leaves, uncapped

unfoldable mutual
  pub exact : Tree → ℕ
  exact (var v g) = 1
  exact (num n g) = 1
  exact (cmp o a b g) = 1
  exact (conj ts) = exact_all ts
  exact (disj ts) = exact_all ts
  exact (cross ts us) = exact_all ts + exact_all us
  exact (tied v t u) = exact t + exact u

  pub exact_all : Trees → ℕ
  exact_all nil = 0
  exact_all (cons t ts) = exact t + exact_all ts

mutual
  unfolding form_leaves form exact

  pub leaves_min : (t : Tree) → leaves t ≡ min (exact t) limit
  leaves_min (var v g) = omega arith
  leaves_min (num n g) = omega arith
  leaves_min (cmp o a b g) = omega arith
  leaves_min (conj ts) = leaves_all_min ts
  leaves_min (disj ts) = leaves_all_min ts
  leaves_min (cross ts us) = omega (arith, leaves_all_min ts, leaves_all_min us)
  leaves_min (tied v t u) = omega (arith, leaves_min t, leaves_min u)

  pub leaves_all_min : (ts : Trees) → leaves_all ts ≡ min (exact_all ts) limit
  leaves_all_min nil = omega arith
  leaves_all_min (cons t ts) = omega (arith, leaves_min t, leaves_all_min ts)

-- as the first walk counts them of a condition in both polarities
pub leaves_low : (c d : Tree) → bump (leaves c) (leaves d) ≤ exact c + exact d
leaves_low c d = omega (arith, leaves_min c, leaves_min d)

-- ---- no empty disjunction, in Ifs either: two conjunctions of two empty ones are proper, have no leaf, and their disjunction makes a number

unfoldable mutual
  pub Leafy : Tree → Type 0
  Leafy (var v g) = Unit {0}
  Leafy (num n g) = Unit {0}
  Leafy (cmp o a b g) = LeafyInt a × LeafyInt b
  Leafy (conj ts) = Leafies ts
  Leafy (disj ts) = (1 ≤ size ts) × Leafies ts
  Leafy (cross ts us) = (1 ≤ size ts) × (1 ≤ size us) × Leafies ts × Leafies us
  Leafy (tied v t u) = Leafy t × Leafy u

  pub Leafies : Trees → Type 0
  Leafies nil = Unit {0}
  Leafies (cons t ts) = Leafy t × Leafies ts

  pub LeafyInt : IntTree → Type 0
  LeafyInt (const c) = Unit {0}
  LeafyInt (ivar v) = Unit {0}
  LeafyInt (sum ts) = LeafyTerms ts
  LeafyInt (choice i p e c d t f) = Leafy c × Leafy d × LeafyInt t × LeafyInt f

  pub LeafyTerms : TermTrees → Type 0
  LeafyTerms no_terms = Unit {0}
  LeafyTerms (term k e ts) = LeafyInt e × LeafyTerms ts

mutual
  unfolding exact Proper Leafy

  pub some_leaf : (t : Tree) → Proper t → Leafy t → 1 ≤ exact t
  some_leaf (var v g) p l = omega arith
  some_leaf (num n g) p l = omega arith
  some_leaf (cmp o a b g) p l = omega arith
  some_leaf (conj ts) p l = omega (arith, some_leaves ts p.1 l, p.0)
  some_leaf (disj ts) p l = omega (arith, some_leaves ts p l.1, l.0)
  some_leaf (cross ts us) p l = omega (arith, some_leaves ts p.0 l.2, l.0)
  some_leaf (tied v t u) p l = omega (arith, some_leaf t p.1 l.0)

  pub some_leaves : (ts : Trees) → Propers ts → Leafies ts → size ts ≤ exact_all ts
  some_leaves nil p l = omega arith
  some_leaves (cons t ts) p l = omega (arith, some_leaf t p.0 l.0, some_leaves ts p.1 l.1)

-- ---- the numbers that disjunctions make

-- what a disjunction's members are worth: a longer one two, a pool's literal or comparison one
abbrev worth : Tally → ℕ
worth t = 2 * t.longs + t.lits + t.cmps

-- the new numbers are paid for by what is worth less as one member
closed_low : (t : Tally) → fresh t + worth (closed t) ≤ worth t
unfolding closed
closed_low t = go t.longs t.lits t.cmps t.lines
  where
    go : (x l k d : ℕ) → fresh_in (mode_in x l k) x + worth (closed (tally x l k d)) ≤ 2 * x + l + k
    go zero l k d = omega arith
    go (suc zero) zero zero d = omega arith
    go (suc zero) (suc zero) zero d = omega arith
    go (suc zero) (suc (suc l)) zero d = omega arith
    go (suc zero) l (suc k) d = omega arith
    go (suc (suc zero)) zero zero d = omega arith
    go (suc (suc zero)) zero (suc k) d = omega arith
    go (suc (suc zero)) (suc l) k d = omega arith
    go (suc (suc (suc x))) l k d = omega arith

closed_some : (t : Tally) → 1 ≤ worth t → 1 ≤ worth (closed t)
unfolding closed
closed_some t h = go t.longs t.lits t.cmps t.lines h
  where
    go : (x l k d : ℕ) → 1 ≤ 2 * x + l + k → 1 ≤ worth (closed (tally x l k d))
    go zero l k d h = h
    go (suc x) l k d h = omega arith

-- ds: the declared domains
module _ (ds : List Domain) where
  -- those outside Ifs
  unfoldable mutual
    pub weight : Tree → ℕ
    weight (var v g) = 0
    weight (num n g) = 0
    weight (cmp o a b g) = 0
    weight (conj ts) = weights ts
    weight (disj ts) = weights ts + fresh (tallies (items ds ts))
    weight (cross ts us) = weights ts + weights us + fresh (tallies (items ds ts)) + fresh (tallies (items ds us))
    weight (tied v t u) = weight t + weight u

    pub weights : Trees → ℕ
    weights nil = 0
    weights (cons t ts) = weight t + weights ts

  mutual
    unfolding exact Proper Leafy weight form_item form tallies var_item num_item cmp_item conj_item disj_item cross_item tied_item

    worth_some : (t : Tree) → Proper t → Leafy t → 1 ≤ worth (item ds t).unit
    worth_some (var v g) p l = omega arith
    worth_some (num n g) p l = omega arith
    worth_some (cmp o a b g) p l = omega arith
    worth_some (conj ts) p l = omega arith
    worth_some (disj ts) p l = closed_some (tallies (items ds ts)) (omega (arith, worths_some ts p l.1, l.0))
    worth_some (cross ts us) p l = omega arith
    worth_some (tied v t u) p l = omega arith

    worths_some : (ts : Trees) → Propers ts → Leafies ts → size ts ≤ worth (tallies (items ds ts))
    worths_some nil p l = omega arith
    worths_some (cons t ts) p l = omega (arith, worth_some t p.0 l.0, worths_some ts p.1 l.1)

  -- a disjunction of members
  fresh_low : (ts : Trees) → Propers ts → Leafies ts → 1 ≤ size ts → fresh (tallies (items ds ts)) + 1 ≤ worth (tallies (items ds ts))
  fresh_low ts p l h = let t = tallies (items ds ts) in omega (arith, closed_low t, closed_some t (omega (arith, worths_some ts p l)))

  mutual
    unfolding exact Proper Leafy weight form_item form tallies var_item num_item cmp_item conj_item disj_item cross_item tied_item

    worth_low : (t : Tree) → Proper t → Leafy t → weight t + worth (item ds t).unit ≤ 2 * exact t
    worth_low (var v g) p l = omega arith
    worth_low (num n g) p l = omega arith
    worth_low (cmp o a b g) p l = omega arith
    worth_low (conj ts) p l = omega (arith, worths_low ts p.1 l, worths_some ts p.1 l, p.0)
    worth_low (disj ts) p l = omega (arith, worths_low ts p l.1, closed_low (tallies (items ds ts)))
    worth_low (cross ts us) p l = omega (arith, worths_low ts p.0 l.2, worths_low us p.1 l.3, fresh_low ts p.0 l.2 l.0, fresh_low us p.1 l.3 l.1)
    worth_low (tied v t u) p l = omega (arith, worth_low t p.1 l.0, worth_low u p.2 l.1, worth_some t p.1 l.0, worth_some u p.2 l.1)

    worths_low : (ts : Trees) → Propers ts → Leafies ts → weights ts + worth (tallies (items ds ts)) ≤ 2 * exact_all ts
    worths_low nil p l = omega arith
    worths_low (cons t ts) p l = omega (arith, worth_low t p.0 l.0, worths_low ts p.1 l.1)

  -- at most two for each leaf
  pub weight_low : (t : Tree) → Proper t → Leafy t → weight t ≤ 2 * exact t
  weight_low t p l = omega (arith, worth_low t p l)

  pub weights_low : (ts : Trees) → Propers ts → Leafies ts → weights ts ≤ 2 * exact_all ts
  weights_low ts p l = omega (arith, worths_low ts p l)

  -- with the disjunction of a number and the tree, as for the condition of an If
  pub beside_low : (n : ℕ) (g : Bool) (t : Tree) → Proper t → Leafy t → weight t + fresh (tallies (num_item n g ∷ item ds t ∷ [])) ≤ 2 * exact t
  unfolding tallies num_item
  beside_low n g t p l = let x = tallies (num_item n g ∷ item ds t ∷ []) in omega (arith, closed_low x, closed_some x (omega arith), worth_low t p l)

-- ---- the literals and comparisons of clauses

unfoldable pub atoms : List Clause → ℕ
atoms [] = 0
atoms (clause ls ks ∷ cs) = length ls + length ks + atoms cs

atoms_append : (a b : List Clause) → atoms (a ++ b) ≡ atoms a + atoms b
unfolding atoms
atoms_append [] b = omega arith
atoms_append (clause ls ks ∷ a) b = omega (arith, atoms_append a b)

atoms_some : (cs : List Clause) → 1 ≤ atoms cs → 1 ≤ length cs
unfolding atoms
atoms_some [] h = h
atoms_some (c ∷ cs) h = omega arith

-- a literal behind each clause
atoms_add : (l : BoolLit) (cs : List Clause) → atoms (add_bool_each l cs) ≡ length cs + atoms cs
unfolding atoms
atoms_add l [] = omega arith
atoms_add l (clause ls ks ∷ cs) = omega (arith, length-append ls (l ∷ []), atoms_add l cs)

-- each has a clause
abbrev EachSome : List (List Clause) → Type 0
EachSome [] = Unit {0}
EachSome (a ∷ cx) = (1 ≤ length a) × EachSome cx

each_atoms : (cx : List (List Clause)) (ls : List BoolLit) (ks : List LinearLit) (s : Log) → length ls + length ks + atoms (flat cx) ≤ atoms (each_longer cx ls ks s).0
unfolding each_longer atoms
each_atoms [] ls ks s = omega arith
each_atoms (a ∷ cx) ls ks s =
    let n = next_bool s in
    let m = ls ++ (lit n false ∷ []) in
    let r = (each_longer cx m ks (bool (aux a) ∷ s)).0 in
    omega (arith, each_atoms cx m ks (bool (aux a) ∷ s), length-append ls (lit n false ∷ []), atoms_append a (flat cx), atoms_append (add_bool_each (lit n true) a) r, atoms_add (lit n true) a)

finish_atoms : (cx : List (List Clause)) (ls : List BoolLit) (ks : List LinearLit) (s : Log) → EachSome cx → length ls + length ks + atoms (flat cx) ≤ atoms (finish_disjunction cx ls ks s).0
unfolding finish_disjunction
finish_atoms [] ls ks s h = each_atoms [] ls ks s
finish_atoms (a ∷ []) [] [] s h = rw (append-nil a) (omega arith)
finish_atoms (a ∷ []) (l ∷ []) [] s h = rw (append-nil a) (omega (arith, atoms_add l a, h.0))
finish_atoms (a ∷ []) (l ∷ m ∷ ls) [] s h = each_atoms (a ∷ []) (l ∷ m ∷ ls) [] s
finish_atoms (a ∷ []) ls (k ∷ ks) s h = each_atoms (a ∷ []) ls (k ∷ ks) s
finish_atoms (a ∷ b ∷ []) [] [] s h =
    let n = next_bool s in
    rw (append-nil b) (omega (arith, atoms_append a b, atoms_append (add_bool_each (lit n true) a) (add_bool_each (lit n false) b), atoms_add (lit n true) a, atoms_add (lit n false) b))
finish_atoms (a ∷ b ∷ []) [] (k ∷ ks) s h = each_atoms (a ∷ b ∷ []) [] (k ∷ ks) s
finish_atoms (a ∷ b ∷ []) (l ∷ ls) ks s h = each_atoms (a ∷ b ∷ []) (l ∷ ls) ks s
finish_atoms (a ∷ b ∷ c ∷ cx) ls ks s h = each_atoms (a ∷ b ∷ c ∷ cx) ls ks s

-- n of them in the pool and the longer members
abbrev Keeps : ℕ → Sorted → Type 0
Keeps n satisfied = ⊥
Keeps n (pool ls ks cx) = (n ≤ length ls + length ks + atoms (flat cx)) × EachSome cx

pooled_keeps : (n : ℕ) (ls : List BoolLit) (ks : List LinearLit) (x : Sorted) → Keeps n x → Keeps (length ls + length ks + n) (pooled (clause ls ks) x)
pooled_keeps n ls ks satisfied h = h
pooled_keeps n ls ks (pool ms js cx) h = (omega (arith, length-append ls ms, length-append ks js, h.0), h.1)

longer_keeps : (n : ℕ) (a : List Clause) (x : Sorted) → 1 ≤ length a → Keeps n x → Keeps (atoms a + n) (with_longer a x)
longer_keeps n a satisfied l h = h
longer_keeps n a (pool ls ks cx) l h = (omega (arith, atoms_append a (flat cx), h.0), (l, h.1))

sorted_atoms : (css : List (List Clause)) → EachSome css → Keeps (atoms (flat css)) (sorted css)
unfolding sorted atoms
sorted_atoms [] h = (omega arith, tt)
sorted_atoms ([] ∷ css) h = absurd (omega (arith, h.0))
sorted_atoms ((clause ls ks ∷ []) ∷ css) h = pooled_keeps (atoms (flat css)) ls ks (sorted css) (sorted_atoms css h.1)
sorted_atoms ((c ∷ d ∷ cs) ∷ css) h = subst (λ n. Keeps n (with_longer (c ∷ d ∷ cs) (sorted css))) (sym (atoms_append (c ∷ d ∷ cs) (flat css))) (longer_keeps (atoms (flat css)) (c ∷ d ∷ cs) (sorted css) (omega arith) (sorted_atoms css h.1))

-- a disjunction keeps them
disjunction_atoms : (css : List (List Clause)) (s : Log) → EachSome css → atoms (flat css) ≤ atoms (normalize_disjunction css s).0
unfolding finish_sorted
disjunction_atoms css s h = rw (disjunction_finish css s) (go (sorted css) (sorted_atoms css h))
  where
    go : (x : Sorted) → Keeps (atoms (flat css)) x → atoms (flat css) ≤ atoms (finish_sorted x s).0
    go satisfied k = absurd k
    go (pool ls ks cx) k = omega (arith, finish_atoms cx ls ks s k.1, k.0)

-- both members of a pair
pair_atoms : (a b : List Clause) (s : Log) → 1 ≤ length a → 1 ≤ length b → atoms a + atoms b ≤ atoms (normalize_disjunction (a ∷ b ∷ []) s).0
unfolding atoms
pair_atoms a b s h k = omega (arith, disjunction_atoms (a ∷ b ∷ []) s (h, (k, tt)), atoms_append a (b ++ []), atoms_append b [])

-- the words of clauses
linears_length : (ks : List LinearLit) → length ks ≤ length (linears ks)
linears_length [] = omega arith
linears_length (linear o (linear_sum c ts) ∷ ks) = omega (arith, linears_length ks, length-append (linear_words (linear o (linear_sum c ts))) (linears ks))

pub atoms_words : (cs : List Clause) → atoms cs ≤ length (layout [] cs)
unfolding atoms layout clause_text
atoms_words [] = omega arith
atoms_words (clause ls ks ∷ cs) =
    let n = pos (length ks) ∷ linears ks in
    let m = pos (length (words ls) + 0) ∷ words ls ++ n in
    omega (arith, atoms_words cs, linears_length ks, length-map ls lit_word, length-append (words ls) n, length-append m (layout [] cs))

-- ---- every leaf stands in the clauses

module _ (ds : List Domain) where
  mutual
    unfolding exact Proper Leafy atoms run normalize_var normalize_num normalize_comparison normalize_conjunction disjunction_of cross-run no_run run_then

    pub leaves_stay : (t : Tree) → Proper t → Leafy t → (s : Log) → exact t ≤ atoms (run ds t s).0
    leaves_stay (var v g) p l s = omega arith
    leaves_stay (num n g) p l s = omega arith
    leaves_stay (cmp o a b g) p l s = omega arith
    leaves_stay (conj ts) p l s = all_stay ts p.1 l s
    leaves_stay (disj ts) p l s = let a = runs ds ts s in omega (arith, all_stay ts p l.1 s, disjunction_atoms a.0 a.1 (all_some ts p l.1 s))
    leaves_stay (cross ts us) p l s =
        let a = runs ds ts s in let b = runs ds us a.1 in let c = normalize_disjunction a.0 b.1 in let d = normalize_disjunction b.0 c.1 in
        omega (arith, all_stay ts p.0 l.2 s, all_stay us p.1 l.3 a.1, disjunction_atoms a.0 b.1 (all_some ts p.0 l.2 s), disjunction_atoms b.0 c.1 (all_some us p.1 l.3 a.1), atoms_append c.0 d.0)
    leaves_stay (tied v t u) p l s =
        let a = run ds t s in let b = run ds u a.1 in
        let c = normalize_disjunction (a.0 ∷ lit_clauses v true ∷ []) b.1 in let d = normalize_disjunction (b.0 ∷ lit_clauses v false ∷ []) c.1 in
        let x = leaves_stay t p.1 l.0 s in
        let y = leaves_stay u p.2 l.1 a.1 in
        let f = atoms_some a.0 (omega (arith, x, some_leaf t p.1 l.0)) in
        let g = atoms_some b.0 (omega (arith, y, some_leaf u p.2 l.1)) in
        omega (arith, x, y, pair_atoms a.0 (lit_clauses v true) b.1 f (omega arith), pair_atoms b.0 (lit_clauses v false) c.1 g (omega arith), atoms_append c.0 d.0)

    pub all_stay : (ts : Trees) → Propers ts → Leafies ts → (s : Log) → exact_all ts ≤ atoms (flat (runs ds ts s).0)
    all_stay nil p l s = omega arith
    all_stay (cons t ts) p l s = let a = run ds t s in omega (arith, leaves_stay t p.0 l.0 s, all_stay ts p.1 l.1 a.1, atoms_append a.0 (flat (runs ds ts a.1).0))

    all_some : (ts : Trees) → Propers ts → Leafies ts → (s : Log) → EachSome (runs ds ts s).0
    all_some nil p l s = tt
    all_some (cons t ts) p l s = (atoms_some (run ds t s).0 (omega (arith, leaves_stay t p.0 l.0 s, some_leaf t p.0 l.0)), all_some ts p.1 l.1 (run ds t s).1)

  pub some_clause : (t : Tree) → Proper t → Leafy t → (s : Log) → 1 ≤ length (run ds t s).0
  some_clause t p l s = atoms_some (run ds t s).0 (omega (arith, leaves_stay t p l s, some_leaf t p l))

  -- ---- those of the clauses that an If adds: other branches, a literal for the condition

  pub open_stay : (c d : Tree) → Proper c → Leafy c → Proper d → Leafy d → (l m : LinearSum) (v : ℕ) (s : Log)
      → let a = run ds c s in let b = run ds d a.1 in exact c + exact d ≤ atoms (normalize_disjunction ((a.0 ++ (equals l v ∷ [])) ∷ (b.0 ++ (equals m v ∷ [])) ∷ []) b.1).0
  open_stay c d p g q h l m v s =
      let a = run ds c s in
      let b = run ds d a.1 in
      let x = a.0 ++ (equals l v ∷ []) in
      let y = b.0 ++ (equals m v ∷ []) in
      let j : 1 ≤ length x = omega (arith, length-append a.0 (equals l v ∷ [])) in
      let k : 1 ≤ length y = omega (arith, length-append b.0 (equals m v ∷ [])) in
      omega (arith, pair_atoms x y b.1 j k, atoms_append a.0 (equals l v ∷ []), atoms_append b.0 (equals m v ∷ []), leaves_stay c p g s, leaves_stay d q h a.1)

  -- n stands for the condition
  abbrev pub condition_run : Tree → Tree → ℕ → Run
  condition_run c d n = cross-run (two (normalize_num n false) (run ds d)) (two (normalize_num n true) (run ds c))

  pub condition_stay : (c d : Tree) → Proper c → Leafy c → Proper d → Leafy d → (n : ℕ) (s : Log) → exact c + exact d ≤ atoms (condition_run c d n s).0
  unfolding cross-run run_then normalize_num no_run
  condition_stay c d p g q h n s =
      let b = run ds d s in
      let a = run ds c b.1 in
      let x = normalize_disjunction (lit_clauses n false ∷ b.0 ∷ []) a.1 in
      let y = normalize_disjunction (lit_clauses n true ∷ a.0 ∷ []) x.1 in
      let j = pair_atoms (lit_clauses n false) b.0 a.1 (omega arith) (some_clause d q h s) in
      let k = pair_atoms (lit_clauses n true) a.0 x.1 (omega arith) (some_clause c p g b.1) in
      omega (arith, j, k, atoms_append x.0 y.0, leaves_stay d q h s, leaves_stay c p g b.1)

-- ---- what a log takes of the answer: four words an integer, and the words of its clauses

unfoldable pub words_of : Log → ℕ
words_of s = 4 * next_int s + length (layout [] (clauses_of s))

pub grows_words : {s t : Log} → Grows s t → words_of s ≤ words_of t
unfolding words_of
grows_words {s} {t} g =
    let cs = clauses_since s t in
    let e : length (layout [] (clauses_of t)) ≡ length (layout [] (clauses_of s)) + length (layout [] cs) =
    ap (λ x. length (layout [] x)) (top_adds g.top) ∙ ap length (layout_append [] (clauses_of s) cs) ∙ length-append (layout [] (clauses_of s)) (layout [] cs) in
    omega (arith, g.ints, e)

-- an integer more; an If's clauses
pub words_int : (m : MadeInt) (s : Log) → words_of (int m ∷ s) ≡ 4 + words_of s
unfolding words_of clauses_of
words_int m s = omega arith

words_known : (e : IntExpr) (v : ℕ) (s : Log) → words_of (known e v ∷ s) ≡ words_of s
unfolding words_of clauses_of
words_known e v s = refl

words_define : (o : Out) → words_of (define o) ≡ words_of o.1 + length (layout [] o.0)
unfolding words_of define clauses_of
words_define o = omega (arith, ap length (layout_append [] (clauses_of o.1) o.0), length-append (layout [] (clauses_of o.1)) (layout [] o.0))

-- the numbers of a disjunction take none
words_disjunction : (css : List (List Clause)) (s : Log) → words_of (normalize_disjunction css s).1 ≡ words_of s
unfolding words_of
words_disjunction css s = let u = auxed_untouched (disjunction_auxed css s) in omega (arith, u.ints, ap (λ x. length (layout [] x)) u.quiet)

words_cross : (p q : Runs) (s : Log) → words_of (cross-run p q s).1 ≡ words_of (q (p s).1).1
unfolding cross-run
words_cross p q s = let a = p s in let b = q a.1 in words_disjunction b.0 (normalize_disjunction a.0 b.1).1 ∙ words_disjunction a.0 b.1

-- ---- along runs

module _ (ds : List Domain) where
  pub run_words : (t : Tree) (s : Log) → words_of s ≤ words_of (run ds t s).1
  run_words t s = grows_words (run_grow ds t s)

  pub runs_words : (ts : Trees) (s : Log) → words_of s ≤ words_of (runs ds ts s).1
  runs_words ts s = grows_words (runs_grow ds ts s)

  pub int_words : (e : IntTree) (s : Log) → words_of s ≤ words_of (run_int ds e s).1
  int_words e s = grows_words (int_grow ds e s)

  pub terms_words : (ts : TermTrees) (l : LinearSum) (s : Log) → words_of s ≤ words_of (run_terms ds ts l s).1
  terms_words ts l s = grows_words (terms_grow ds ts l s)

  -- behind both polarities of the condition, the clauses
  open_defined : (e : IntExpr) (c d : Tree) → Proper c → Leafy c → Proper d → Leafy d → (l m : LinearSum) (v : ℕ) (s : Log)
      → let a = run ds c s in let b = run ds d a.1 in exact c + exact d + words_of b.1 ≤ words_of (known e v ∷ define (normalize_disjunction ((a.0 ++ (equals l v ∷ [])) ∷ (b.0 ++ (equals m v ∷ [])) ∷ []) b.1))
  open_defined e c d p g q h l m v s =
      let a = run ds c s in
      let b = run ds d a.1 in
      let css = (a.0 ++ (equals l v ∷ [])) ∷ (b.0 ++ (equals m v ∷ [])) ∷ [] in
      let o = normalize_disjunction css b.1 in
      omega (arith, open_stay ds c d p g q h l m v s, atoms_words o.0, words_define o, words_disjunction css b.1, words_known e v (define o))

  pub condition_defined : (c d : Tree) → Proper c → Leafy c → Proper d → Leafy d → (n : ℕ) (s : Log) → exact c + exact d + words_of (run ds c (run ds d s).1).1 ≤ words_of (define (condition_run ds c d n s))
  unfolding run_then normalize_num no_run
  condition_defined c d p g q h n s =
      let o = condition_run ds c d n s in
      let e : words_of o.1 ≡ words_of (run ds c (run ds d s).1).1 = words_cross (two (normalize_num n false) (run ds d)) (two (normalize_num n true) (run ds c)) s in
      omega (arith, condition_stay ds c d p g q h n s, atoms_words o.0, words_define o, e)

  -- ---- an If that is made: its branches, then constant or other

  -- the condition, negated where g
  abbrev polarity : Tree → Tree → Bool → Run
  polarity c d g s = cond g (run ds d s) (run ds c s)

  -- arithmetic of the claims below
  four_more : (k n m r : ℕ) → r ≡ 4 + m → k + n ≤ m → 4 + k + n ≤ r
  four_more k n m r e h = omega arith

  four_first : (n m r : ℕ) → m ≡ 4 + n → m ≤ r → 4 + n ≤ r
  four_first n m r e h = omega arith

  four_last : (n m r : ℕ) → r ≡ 4 + m → n ≤ m → 4 + n ≤ r
  four_last n m r e h = omega arith

  four_between : (k n m w r : ℕ) → m ≡ 4 + n → m ≤ w → k + w ≤ r → 4 + k + n ≤ r
  four_between k n m w r e h l = omega arith

  behind_less : (k n m r : ℕ) → n ≤ m → k + m ≤ r → k + n ≤ r
  behind_less k n m r h l = omega arith

  words_to : (n : ℕ) (x y : IntOut) → x ≡ y → n ≤ words_of y.1 → n ≤ words_of x.1
  words_to n x y e h = subst (λ (z : IntOut). n ≤ words_of z.1) (sym e) h

  own_none : (c : BoolExpr) → own_var c ≡ none → NoNumber c → own_literal c ≡ none
  own_none (Var v) e h = absurd (let z : ◌≡◌ {A = ℕ} 0 1 = cc in omega arith)
  own_none (NVar n) e h = absurd h
  own_none (Const b) e h = refl
  own_none (And ms) e h = refl
  own_none (Or ms) e h = refl
  own_none (Not x) e h = refl
  own_none (Xor a b) e h = refl
  own_none (Iff a b) e h = refl
  own_none (Imp a b) e h = refl
  own_none (Cmp o a b) e h = refl

  -- behind the new integer
  open_grows : (e : IntExpr) (c d : Tree) (l m : LinearSum) (v : ℕ) (s : Log)
      → let a = run ds c s in let b = run ds d a.1 in Grows s (known e v ∷ define (normalize_disjunction ((a.0 ++ (equals l v ∷ [])) ∷ (b.0 ++ (equals m v ∷ [])) ∷ []) b.1))
  unfolding define
  open_grows e c d l m v s =
      let a = run ds c s in
      let b = run ds d a.1 in
      let css = (a.0 ++ (equals l v ∷ [])) ∷ (b.0 ++ (equals m v ∷ [])) ∷ [] in
      let o = normalize_disjunction css b.1 in
      then (run_grow ds c s) (then (run_grow ds d a.1) (then (disjunction_grows css b.1) (then (grow_defined o.0 o.1) (grow_known e v (defined o.0 ∷ o.1)))))

  module _ (i : IfIsRead) (p : Place) (e : IntExpr) (c d : Tree) (t f : IntTree) (s : Log) (new : get_if e s ≡ none) where
    -- the branches
    abbrev first : IntOut
    first = run_int ds t s

    abbrev second : IntOut
    second = run_int ds f first.1

    abbrev both_constant : Bool
    both_constant = is_constant first.0 && is_constant second.0

    abbrev made : Log
    made = (run_int ds (choice i p e c d t f) s).1

    -- the new number of a condition; the new integer
    abbrev with_side : Log
    with_side = bool (side (condition_of e)) ∷ second.1

    abbrev with_int : Log
    with_int = int (chosen i e first.0 second.0 (hull (domain_of_sum ds second.1 first.0) (domain_of_sum ds second.1 second.0))) ∷ second.1

    abbrev as_constant : IntOut
    as_constant = if_constant ds i (condition_of e) (polarity c d) (constant_of first.0) (constant_of second.0) second.1

    abbrev as_open : IntOut
    as_open = if_open ds i e (polarity c d) first.0 second.0 second.1

    made_is : (q : Bool) → both_constant ≡ q → run_int ds (choice i p e c d t f) s ≡ cond q as_constant as_open
    unfolding run_int normalize_if
    made_is q k = ap (λ o. normalize_if ds i o e (condition_of e) (polarity c d) (run_int ds t) (run_int ds f) s) new ∙ ap (λ (q : Bool). cond q as_constant as_open) k

    pub choice_constant : both_constant ≡ true → run_int ds (choice i p e c d t f) s ≡ as_constant
    choice_constant k = made_is true k

    pub choice_open : both_constant ≡ false → run_int ds (choice i p e c d t f) s ≡ as_open
    choice_open k = made_is false k

    -- its integer, whatever its condition
    pub made_words : 4 + words_of second.1 ≤ words_of made
    unfolding if_constant if_open
    made_words = go both_constant refl
      where
        go : (q : Bool) → both_constant ≡ q → 4 + words_of second.1 ≤ words_of made
        go true k = words_to _ _ as_constant (made_is true k) (four_last _ _ _ (words_int _ _) (grows_words (condition_grows (condition_of e) (polarity c d) (either_grows (run ds c) (run ds d) (run_grow ds c) (run_grow ds d)) second.1)))
        go false k = words_to _ _ as_open (made_is false k) (four_first _ _ _ (words_int _ second.1) (grows_words (open_grows e c d first.0 second.0 (next_int second.1) with_int)))

    module _ (pc : Proper c) (lc : Leafy c) (pd : Proper d) (ld : Leafy d) where
      -- constant branches, and no declared variable
      module _ (k : both_constant ≡ true) (own : own_var (condition_of e) ≡ none) (no_number : NoNumber (condition_of e)) where
        -- behind the condition in both polarities
        pub constant_behind : 4 + (exact c + exact d) + words_of (run ds c (run ds d with_side).1).1 ≤ words_of made
        unfolding if_constant condition_literal
        constant_behind =
            let at : Option (Log → BoolLit × Log) → IntOut = λ o. let l = condition_literal o (condition_of e) (polarity c d) second.1 in (singleton (next_int l.1), int (two_valued i l.0 (constant_of first.0) (constant_of second.0)) ∷ l.1) in
            words_to _ _ (at none) (choice_constant k ∙ ap at (own_none (condition_of e) own no_number))
            (four_more (exact c + exact d) _ _ _ (words_int _ _) (condition_defined c d pc lc pd ld (next_bool second.1) with_side))

        pub constant_words : 4 + (exact c + exact d) + words_of second.1 ≤ words_of made
        constant_words = behind_less _ _ _ _ (grows_words (then (grow_side (condition_of e) second.1) (then (run_grow ds d with_side) (run_grow ds c (run ds d with_side).1)))) constant_behind

      -- other branches
      module _ (k : both_constant ≡ false) where
        pub open_behind : exact c + exact d + words_of (run ds d (run ds c with_int).1).1 ≤ words_of made
        unfolding if_open
        open_behind = words_to _ _ as_open (choice_open k) (open_defined e c d pc lc pd ld first.0 second.0 (next_int second.1) with_int)

        pub open_words : 4 + (exact c + exact d) + words_of second.1 ≤ words_of made
        open_words = four_between _ _ _ _ _ (words_int _ second.1) (grows_words (then (run_grow ds c with_int) (run_grow ds d (run ds c with_int).1))) open_behind
