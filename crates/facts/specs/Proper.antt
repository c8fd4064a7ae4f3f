-- In every clause that normalising adds to a log, the variables of a comparison rise strictly and no coefficient is 0 (Proper).
use Rattle.std.specs.Prelude.{refl, Bool, not, ◌&&◌, cond, ℤ, pos, neg_ℤ, length}
use Rattle.std.proofs.Math.Bool.{true, false}
use Rattle.std.proofs.Math.Option.{Option, none, some}
use mathlib.Core.List.{List, [], ◌∷◌, ◌++◌, map}
use Prim.Native.Nat.{ℕ, zero, suc, zero-le}
use Rattle.laws.specs.Lists.{any, all, select, keep_if, flat}
use Rattle.syntax.specs.Syntax.{IfIsRead, Domain, domain_of, enumerate, CmpOp, IntExpr, IConst, IVar, Linear, If, Terms, tnil, tmore, BoolExpr, Const, Var, NVar, And, Or, Not, Xor, Iff, Imp, Cmp, Members, mnil, more, Cell, star, value, Stmt, Rule, Table, AllDifferent}
use Rattle.sums.specs.LinearSum.{LinearSum, linear_sum, term, constant, is_constant, add_sum, mul_sum, singleton}
use Rattle.sums.specs.Rising.{constant_of, Rises, Proper}
use Rattle.sums.proofs.RisingLaws.{constant_proper, singleton_proper, add_sum_proper, sub_sum_proper}
use Rattle.clauses.specs.Clause.{BoolLit, lit, LinearLit, linear, Clause, clause, negate_if}
use Rattle.clauses.specs.Log.{declared, aux, side, declared_int, column, chosen, Made, bool, merged, int, added, defined, known, Log, next_bool, next_int, get_bool_var, bool_var_at, convert_bool_var, get_int_var, int_var_at, convert_int_var, get_if, emitted_domains, clauses_of}
use Rattle.clauses.specs.Disjunction.{add_bool_each, Sorted, satisfied, pool, pooled, with_longer, sorted, Out, each_longer, finish_disjunction, finish_sorted, normalize_disjunction}
use Rattle.clauses.specs.Normalize.{IntOut, IntRun, Run, Runs, register, define, no_run, run_then, two, normalize_conjunction, disjunction_of, cross, const_clauses, normalize_num, normalize_var, normalize_comparison, normalize_int_var, normalize_term, equals, own_literal, condition_literal, two_valued, hull, domain_of_sum, if_constant, if_open, normalize_if, normalize_int_expr, normalize_terms, normalize_bool_expr, normalize_members}
use Rattle.clauses.specs.Split.{Split, Splitter, unsplit, split_one, split_two, split_three, split_sides, tseitin_transformation_bool, tseitin_transformation_members, tseitin_transformation_int, tseitin_transformation_terms, register_each, normalize_and_register_expr}
use Rattle.clauses.proofs.Since.{OnTop, here, over}
use Rattle.tables.specs.Tables.{Columns, new_column, old_column, equivalent_int_var, equivalent_int_vars, linear_eq, is_star, star_row, star_table, Row, cell_value, cell_at, sort_rows, within, groups, takes, variable, differs, column_clause, column_clauses, prefixes, plain_clauses, plain_table, normalize_extension_supports, normalize_table}
use Rattle.different.specs.Different.{different_rules, normalize_rules}
use Rattle.answer.specs.Answer.{normalize_stmt, normalize_stmts}

abbrev pub ProperLinears : List LinearLit → Type 0
ProperLinears [] = Unit {0}
ProperLinears (linear o l ∷ ks) = Proper l × ProperLinears ks

abbrev pub ProperClauses : List Clause → Type 0
ProperClauses [] = Unit {0}
ProperClauses (clause ls ks ∷ cs) = ProperLinears ks × ProperClauses cs

abbrev ProperLists : List (List Clause) → Type 0
ProperLists [] = Unit {0}
ProperLists (cs ∷ css) = ProperClauses cs × ProperLists css

-- ---- lists

linears_append : (a b : List LinearLit) → ProperLinears a → ProperLinears b → ProperLinears (a ++ b)
linears_append [] b h k = k
linears_append (linear o l ∷ a) b h k = (h.0, linears_append a b h.1 k)

clauses_append : (a b : List Clause) → ProperClauses a → ProperClauses b → ProperClauses (a ++ b)
clauses_append [] b h k = k
clauses_append (clause ls ks ∷ a) b h k = (h.0, clauses_append a b h.1 k)

clauses_flat : (css : List (List Clause)) → ProperLists css → ProperClauses (flat css)
clauses_flat [] h = tt
clauses_flat (cs ∷ css) h = clauses_append cs (flat css) h.0 (clauses_flat css h.1)

clauses_add : (l : BoolLit) (cs : List Clause) → ProperClauses cs → ProperClauses (add_bool_each l cs)
clauses_add l [] h = tt
clauses_add l (clause ls ks ∷ cs) h = (h.0, clauses_add l cs h.1)

-- ---- logs: t is s with entries on top, each of whose clauses are such

abbrev ProperMade : Made → Type 0
ProperMade (bool m) = Unit {0}
ProperMade (merged v w g) = Unit {0}
ProperMade (int m) = Unit {0}
ProperMade (added cs) = ProperClauses cs
ProperMade (defined cs) = ProperClauses cs
ProperMade (known e v) = Unit {0}

pub data ProperOver (s : Log) : Log → Type 0 where
  unchanged : ProperOver s s
  with_made : {t : Log} (m : Made) → ProperMade m → ProperOver s t → ProperOver s (m ∷ t)

over_then : {s t u : Log} → ProperOver s t → ProperOver t u → ProperOver s u
over_then a unchanged = a
over_then a (with_made m h b) = with_made m h (over_then a b)

pub proper_top : {s t : Log} → ProperOver s t → OnTop s t
proper_top unchanged = here
proper_top (with_made m h a) = over m (proper_top a)

pub proper_clauses : {s t : Log} → ProperOver s t → ProperClauses (clauses_of s) → ProperClauses (clauses_of t)
unfolding clauses_of
proper_clauses unchanged k = k
proper_clauses (with_made (bool m) h a) k = proper_clauses a k
proper_clauses (with_made (merged v w g) h a) k = proper_clauses a k
proper_clauses (with_made (int m) h a) k = proper_clauses a k
proper_clauses (with_made {t} (added cs) h a) k = clauses_append (clauses_of t) cs (proper_clauses a k) h
proper_clauses (with_made {t} (defined cs) h a) k = clauses_append (clauses_of t) cs (proper_clauses a k) h
proper_clauses (with_made (known e v) h a) k = proper_clauses a k

-- ---- what is made from the log s

abbrev ProperOut : Log → Out → Type 0
ProperOut s o = ProperClauses o.0 × ProperOver s o.1

abbrev ProperInt : Log → IntOut → Type 0
ProperInt s o = Proper o.0 × ProperOver s o.1

abbrev ProperRun : Run → Type 0
ProperRun r = (s : Log) → ProperOut s (r s)

abbrev ProperRuns : Runs → Type 0
ProperRuns r = (s : Log) → ProperLists (r s).0 × ProperOver s (r s).1

abbrev ProperIntRun : IntRun → Type 0
ProperIntRun r = (s : Log) → ProperInt s (r s)

-- ---- disjunctions

abbrev ProperSorted : Sorted → Type 0
ProperSorted satisfied = Unit {0}
ProperSorted (pool ls ks longer) = ProperLinears ks × ProperLists longer

pooled_proper : (c : Clause) (x : Sorted) → ProperClauses (c ∷ []) → ProperSorted x → ProperSorted (pooled c x)
pooled_proper c satisfied h k = tt
pooled_proper (clause ls ks) (pool ms js longer) h k = (linears_append ks js h.0 k.0, k.1)

longer_proper : (cs : List Clause) (x : Sorted) → ProperClauses cs → ProperSorted x → ProperSorted (with_longer cs x)
longer_proper cs satisfied h k = tt
longer_proper cs (pool ls ks longer) h k = (k.0, (h, k.1))

first_proper : (c : Clause) (cs : List Clause) → ProperClauses (c ∷ cs) → ProperClauses (c ∷ [])
first_proper (clause ls ks) cs h = (h.0, tt)

sorted_proper : (css : List (List Clause)) → ProperLists css → ProperSorted (sorted css)
unfolding sorted
sorted_proper [] h = (tt, tt)
sorted_proper ([] ∷ css) h = tt
sorted_proper ((c ∷ []) ∷ css) h = pooled_proper c (sorted css) (first_proper c [] h.0) (sorted_proper css h.1)
sorted_proper ((c ∷ d ∷ cs) ∷ css) h = longer_proper (c ∷ d ∷ cs) (sorted css) h.0 (sorted_proper css h.1)

each_proper : (css : List (List Clause)) (ls : List BoolLit) (ks : List LinearLit) → ProperLists css → ProperLinears ks → ProperRun (each_longer css ls ks)
unfolding each_longer
each_proper [] ls ks h k s = ((k, tt), unchanged)
each_proper (cs ∷ css) ls ks h k s =
    let r = each_proper css (ls ++ (lit (next_bool s) false ∷ [])) ks h.1 k (bool (aux cs) ∷ s) in
    (clauses_append (add_bool_each (lit (next_bool s) true) cs) _ (clauses_add (lit (next_bool s) true) cs h.0) r.0, over_then (with_made (bool (aux cs)) tt unchanged) r.1)

finish_proper : (css : List (List Clause)) (ls : List BoolLit) (ks : List LinearLit) → ProperLists css → ProperLinears ks → ProperRun (finish_disjunction css ls ks)
unfolding finish_disjunction
finish_proper [] ls ks h k s = each_proper [] ls ks h k s
finish_proper (a ∷ []) [] [] h k s = (h.0, unchanged)
finish_proper (a ∷ []) (l ∷ []) [] h k s = (clauses_add l a h.0, unchanged)
finish_proper (a ∷ []) (l ∷ m ∷ ls) [] h k s = each_proper (a ∷ []) (l ∷ m ∷ ls) [] h k s
finish_proper (a ∷ []) ls (x ∷ ks) h k s = each_proper (a ∷ []) ls (x ∷ ks) h k s
finish_proper (a ∷ b ∷ []) [] [] h k s = (
  clauses_append (add_bool_each (lit (next_bool s) true) a) _ (clauses_add (lit (next_bool s) true) a h.0) (clauses_add (lit (next_bool s) false) b h.1.0),
  with_made (bool (aux a)) tt unchanged,
)
finish_proper (a ∷ b ∷ []) [] (x ∷ ks) h k s = each_proper (a ∷ b ∷ []) [] (x ∷ ks) h k s
finish_proper (a ∷ b ∷ []) (l ∷ ls) ks h k s = each_proper (a ∷ b ∷ []) (l ∷ ls) ks h k s
finish_proper (a ∷ b ∷ c ∷ css) ls ks h k s = each_proper (a ∷ b ∷ c ∷ css) ls ks h k s

finish_sorted_proper : (x : Sorted) → ProperSorted x → ProperRun (finish_sorted x)
unfolding finish_sorted
finish_sorted_proper satisfied h s = (tt, unchanged)
finish_sorted_proper (pool ls ks longer) h s = finish_proper longer ls ks h.1 h.0 s

disjunction_proper : (css : List (List Clause)) → ProperLists css → ProperRun (normalize_disjunction css)
unfolding normalize_disjunction
disjunction_proper [] h s = ((tt, tt), unchanged)
disjunction_proper (cs ∷ []) h s = (h.0, unchanged)
disjunction_proper (cs ∷ ds ∷ css) h s = finish_sorted_proper (sorted (cs ∷ ds ∷ css)) (sorted_proper (cs ∷ ds ∷ css) h) s

-- ---- runs

const_proper : (b : Bool) → ProperClauses (const_clauses b)
const_proper true = tt
const_proper false = (tt, tt)

conjunction_proper : (r : Runs) → ProperRuns r → ProperRun (normalize_conjunction r)
unfolding normalize_conjunction
conjunction_proper r h s = (clauses_flat (r s).0 (h s).0, (h s).1)

disjunction_of_proper : (r : Runs) → ProperRuns r → ProperRun (disjunction_of r)
unfolding disjunction_of
disjunction_of_proper r h s = let d = disjunction_proper (r s).0 (h s).0 (r s).1 in (d.0, over_then (h s).1 d.1)

no_run_proper : ProperRuns no_run
unfolding no_run
no_run_proper s = (tt, unchanged)

then_proper : (r : Run) (rs : Runs) → ProperRun r → ProperRuns rs → ProperRuns (run_then r rs)
unfolding run_then
then_proper r rs h hs s = (((h s).0, (hs (r s).1).0), over_then (h s).1 (hs (r s).1).1)

two_proper : (r q : Run) → ProperRun r → ProperRun q → ProperRuns (two r q)
two_proper r q h j = then_proper r (run_then q no_run) h (then_proper q no_run j no_run_proper)

cross_proper : (p q : Runs) → ProperRuns p → ProperRuns q → ProperRun (cross p q)
unfolding cross
cross_proper p q h j s =
    let a = p s in
    let b = q a.1 in
    let c = normalize_disjunction a.0 b.1 in
    let x = disjunction_proper a.0 (h s).0 b.1 in
    let y = disjunction_proper b.0 (j a.1).0 c.1 in
    (clauses_append c.0 _ x.0 y.0, over_then (over_then (h s).1 (j a.1).1) (over_then x.1 y.1))

num_proper : (n : ℕ) (g : Bool) → ProperRun (normalize_num n g)
unfolding normalize_num
num_proper n g s = ((tt, tt), unchanged)

bool_var_over : (v : ℕ) (s : Log) → ProperOver s (convert_bool_var v s).1
unfolding convert_bool_var
bool_var_over v s = go (get_bool_var v s)
  where
    go : (o : Option BoolLit) → ProperOver s (bool_var_at o v s).1
    go (some l) = unchanged
    go none = with_made (bool (declared v)) tt unchanged

int_var_over : (v : ℕ) (s : Log) → ProperOver s (convert_int_var v s).1
unfolding convert_int_var
int_var_over v s = go (get_int_var v s)
  where
    go : (o : Option ℕ) → ProperOver s (int_var_at o v s).1
    go (some n) = unchanged
    go none = with_made (int (declared_int v)) tt unchanged

comparison_proper : (o : CmpOp) (g : Bool) (p q : IntRun) → ProperIntRun p → ProperIntRun q → ProperRun (normalize_comparison o g p q)
unfolding normalize_comparison
comparison_proper o g p q h j s = (((sub_sum_proper (p s).0 (q (p s).1).0 (h s).0, tt), tt), over_then (h s).1 (j (p s).1).1)

-- ---- If

-- a condition's literal: its own, or a new one with the clauses of their Iff
abbrev OwnOver : Option (Log → BoolLit × Log) → Type 0
OwnOver none = Unit {0}
OwnOver (some f) = (s : Log) → ProperOver s (f s).1

own_over : (c : BoolExpr) → OwnOver (own_literal c)
own_over (Var v) = bool_var_over v
own_over (NVar n) = λ s. unchanged
own_over (Const b) = tt
own_over (And ms) = tt
own_over (Or ms) = tt
own_over (Not e) = tt
own_over (Xor a b) = tt
own_over (Iff a b) = tt
own_over (Imp a b) = tt
own_over (Cmp o a b) = tt

module _ (p : Bool → Run) (hp : (g : Bool) → ProperRun (p g)) where
  condition_over : (o : Option (Log → BoolLit × Log)) (c : BoolExpr) → OwnOver o → (s : Log) → ProperOver s (condition_literal o c p s).1
  unfolding condition_literal define
  condition_over (some f) c h s = h s
  condition_over none c h s =
      let n : ℕ = next_bool s in
      let x = cross_proper _ _ (two_proper _ _ (num_proper n false) (hp true)) (two_proper _ _ (num_proper n true) (hp false)) (bool (side c) ∷ s) in
      with_made _ x.0 (over_then (with_made (bool (side c)) tt unchanged) x.1)

  module _ (ds : List Domain) (i : IfIsRead) where
    if_constant_proper : (c : BoolExpr) (x y : ℤ) → ProperIntRun (if_constant ds i c p x y)
    unfolding if_constant
    if_constant_proper c x y s =
        let l : BoolLit × Log = condition_literal (own_literal c) c p s in
        (singleton_proper (next_int l.1), with_made (int (two_valued i l.0 x y)) tt (condition_over (own_literal c) c (own_over c) s))

    if_open_proper : (e : IntExpr) (t f : LinearSum) → Proper t → Proper f → ProperIntRun (if_open ds i e p t f)
    unfolding if_open define
    if_open_proper e t f ht hf s =
        let v : ℕ = next_int s in
        let m : Made = int (chosen i e t f (hull (domain_of_sum ds s t) (domain_of_sum ds s f))) in
        let a : Out = p false (m ∷ s) in
        let b : Out = p true a.1 in
        let x = hp false (m ∷ s) in
        let y = hp true a.1 in
        let d = disjunction_proper ((a.0 ++ (equals t v ∷ [])) ∷ (b.0 ++ (equals f v ∷ [])) ∷ [])
        (clauses_append a.0 _ x.0 ((sub_sum_proper t (singleton v) ht, tt), tt), (clauses_append b.0 _ y.0 ((sub_sum_proper f (singleton v) hf, tt), tt), tt)) b.1 in
        (singleton_proper v, with_made (known e v) tt (with_made _ d.0 (over_then (over_then (with_made m tt unchanged) x.1) (over_then y.1 d.1))))

    either_proper : (z : Bool) (s : Log) (a b : IntOut) → ProperInt s a → ProperInt s b → ProperInt s (cond z a b)
    either_proper true s a b h k = h
    either_proper false s a b h k = k

    if_proper : (o : Option ℕ) (e : IntExpr) (c : BoolExpr) (t f : IntRun) → ProperIntRun t → ProperIntRun f → ProperIntRun (normalize_if ds i o e c p t f)
    unfolding normalize_if
    if_proper (some v) e c t f ht hf s = (singleton_proper v, unchanged)
    if_proper none e c t f ht hf s =
        let a : IntOut = t s in
        let b : IntOut = f a.1 in
        let x = ht s in
        let y = hf a.1 in
        let r = either_proper (is_constant a.0 && is_constant b.0) b.1 _ _ (if_constant_proper c (constant_of a.0) (constant_of b.0) b.1) (if_open_proper e a.0 b.0 x.0 y.0 b.1) in
        (r.0, over_then (over_then x.1 y.1) r.1)

-- ---- expressions

module _ (ds : List Domain) where
  mutual
    unfolding normalize_int_expr normalize_int_var normalize_term normalize_var

    int_proper : (e : IntExpr) → ProperIntRun (normalize_int_expr ds e)
    int_proper (IConst c) = λ s. (constant_proper c, unchanged)
    int_proper (IVar v) = λ s. (singleton_proper (convert_int_var v s).0, int_var_over v s)
    int_proper (Linear ts) = λ s. terms_proper ts (constant (pos 0)) s (constant_proper (pos 0))
    int_proper (If i c t f) = λ s. if_proper (λ g. normalize_bool_expr ds c g) (λ g. bool_proper c g) ds i (get_if (If i c t f) s) (If i c t f) c (normalize_int_expr ds t) (normalize_int_expr ds f) (int_proper t) (int_proper f) s

    terms_proper : (ts : Terms) (sum : LinearSum) (s : Log) → Proper sum → ProperInt s (normalize_terms ds ts sum s)
    terms_proper tnil = λ sum s h. (h, unchanged)
    terms_proper (tmore k e ts) = λ sum s h.
        let x : IntOut = normalize_int_expr ds e s in
        let r = terms_proper ts (add_sum sum (mul_sum k x.0)) x.1 (add_sum_proper sum (mul_sum k x.0) h) in
        (r.0, over_then (int_proper e s).1 r.1)

    bool_proper : (e : BoolExpr) (g : Bool) → ProperRun (normalize_bool_expr ds e g)
    bool_proper (Const c) g = λ s. (const_proper (negate_if g c), unchanged)
    bool_proper (Var v) g = λ s. ((tt, tt), bool_var_over v s)
    bool_proper (NVar n) g = num_proper n g
    bool_proper (And ms) false = conjunction_proper (normalize_members ds ms false) (members_proper ms false)
    bool_proper (And ms) true = disjunction_of_proper (normalize_members ds ms true) (members_proper ms true)
    bool_proper (Or ms) false = disjunction_of_proper (normalize_members ds ms false) (members_proper ms false)
    bool_proper (Or ms) true = conjunction_proper (normalize_members ds ms true) (members_proper ms true)
    bool_proper (Not e) g = bool_proper e (not g)
    bool_proper (Xor x y) false = cross_proper _ _ (two_proper _ _ (bool_proper x false) (bool_proper y false)) (two_proper _ _ (bool_proper x true) (bool_proper y true))
    bool_proper (Xor x y) true = cross_proper _ _ (two_proper _ _ (bool_proper x false) (bool_proper y true)) (two_proper _ _ (bool_proper x true) (bool_proper y false))
    bool_proper (Iff x y) false = cross_proper _ _ (two_proper _ _ (bool_proper x false) (bool_proper y true)) (two_proper _ _ (bool_proper x true) (bool_proper y false))
    bool_proper (Iff x y) true = cross_proper _ _ (two_proper _ _ (bool_proper x false) (bool_proper y false)) (two_proper _ _ (bool_proper x true) (bool_proper y true))
    bool_proper (Imp x y) false = disjunction_of_proper _ (two_proper _ _ (bool_proper x true) (bool_proper y false))
    bool_proper (Imp x y) true = conjunction_proper _ (two_proper _ _ (bool_proper x false) (bool_proper y true))
    bool_proper (Cmp o x y) g = comparison_proper o g (normalize_int_expr ds x) (normalize_int_expr ds y) (int_proper x) (int_proper y)

    members_proper : (ms : Members) (g : Bool) → ProperRuns (normalize_members ds ms g)
    members_proper mnil g = no_run_proper
    members_proper (more e ms) g = then_proper _ _ (bool_proper e g) (members_proper ms g)

-- ---- rules

abbrev SplitOver : {A : Type 0} → Splitter A → Type 0
SplitOver p = (s : Log) → ProperOver s (p s).log

unsplit_over : {A : Type 0} (x : A) → SplitOver (unsplit x)
unfolding unsplit
unsplit_over x s = unchanged

one_over : {A B : Type 0} (f : A → B) (p : Splitter A) → SplitOver p → SplitOver (split_one f p)
unfolding split_one
one_over f p h s = h s

two_over : {A B C : Type 0} (f : A → B → C) (p : Splitter A) (q : Splitter B) → SplitOver p → SplitOver q → SplitOver (split_two f p q)
unfolding split_two
two_over f p q h j s = over_then (h s) (j (p s).log)

three_over : {A B C D : Type 0} (f : A → B → C → D) (p : Splitter A) (q : Splitter B) (r : Splitter C) → SplitOver p → SplitOver q → SplitOver r → SplitOver (split_three f p q r)
unfolding split_three
three_over f p q r h j k s = over_then (h s) (over_then (j (p s).log) (k (q (p s).log).log))

sides_over : (f : BoolExpr → BoolExpr → BoolExpr) (x y : BoolExpr) (p q : Splitter BoolExpr) → SplitOver p → SplitOver q → SplitOver (split_sides f x y p q)
unfolding split_sides
sides_over f x y p q h j s =
    let t : Log = bool (side y) ∷ bool (side x) ∷ s in
    over_then (over_then (with_made (bool (side y)) tt (with_made (bool (side x)) tt unchanged)) (h t)) (j (p t).log)

mutual
  unfolding tseitin_transformation_bool

  split_over : (e : BoolExpr) (t : Bool) → SplitOver (tseitin_transformation_bool e t)
  split_over (Const b) t = unsplit_over (Const b)
  split_over (Var v) t = unsplit_over (Var v)
  split_over (NVar n) t = unsplit_over (NVar n)
  split_over (And ms) t = one_over And _ (split_members_over ms t)
  split_over (Or ms) t = one_over Or _ (split_members_over ms t)
  split_over (Not e) t = one_over Not _ (split_over e t)
  split_over (Xor a b) true = sides_over Xor a b _ _ (split_over a true) (split_over b true)
  split_over (Xor a b) false = two_over Xor _ _ (split_over a true) (split_over b true)
  split_over (Iff a b) true = sides_over Iff a b _ _ (split_over a true) (split_over b true)
  split_over (Iff a b) false = two_over Iff _ _ (split_over a true) (split_over b true)
  split_over (Imp a b) t = two_over Imp _ _ (split_over a t) (split_over b t)
  split_over (Cmp o a b) t = two_over (Cmp o) _ _ (split_int_over a) (split_int_over b)

  split_members_over : (ms : Members) (t : Bool) → SplitOver (tseitin_transformation_members ms t)
  split_members_over mnil t = unsplit_over mnil
  split_members_over (more e ms) t = two_over more _ _ (split_over e t) (split_members_over ms t)

  split_int_over : (e : IntExpr) → SplitOver (tseitin_transformation_int e)
  split_int_over (IConst c) = unsplit_over (IConst c)
  split_int_over (IVar v) = unsplit_over (IVar v)
  split_int_over (Linear ts) = one_over Linear _ (split_terms_over ts)
  split_int_over (If i c t f) = three_over (If i) _ _ _ (split_over c true) (split_int_over t) (split_int_over f)

  split_terms_over : (ts : Terms) → SplitOver (tseitin_transformation_terms ts)
  split_terms_over tnil = unsplit_over tnil
  split_terms_over (tmore k e ts) = two_over (tmore k) _ _ (split_int_over e) (split_terms_over ts)

register_proper : (s : Log) (o : Out) → ProperOut s o → ProperOver s (register o)
unfolding register
register_proper s o h = with_made (added o.0) h.0 h.1

each_expr_proper : (ds : List Domain) (es : List BoolExpr) (s : Log) → ProperOver s (register_each ds es s)
unfolding register_each
each_expr_proper ds [] s = unchanged
each_expr_proper ds (e ∷ es) s = over_then (register_proper s (normalize_bool_expr ds e false s) (bool_proper ds e false s)) (each_expr_proper ds es (register (normalize_bool_expr ds e false s)))

rule_proper : (ds : List Domain) (e : BoolExpr) (s : Log) → ProperOver s (normalize_and_register_expr ds e s)
unfolding normalize_and_register_expr
rule_proper ds e s = let c : Split BoolExpr = tseitin_transformation_bool e false s in over_then (split_over e false s) (each_expr_proper ds (c.extra ++ (c.result ∷ [])) c.log)

-- ---- tables

linear_is_proper : (v : ℕ) (c : ℤ) → Proper (linear_sum (neg_ℤ c) (term v (pos 1) ∷ []))
unfolding Rises
linear_is_proper v c = (zero-le, refl, tt)

new_column_proper : (ds : List Domain) (s : Log) (x : IntOut) → ProperInt s x → ProperOver s (new_column ds x).log
unfolding new_column
new_column_proper ds s x h =
    let v : ℕ = next_int x.1 in
    with_made (added (equals x.0 v ∷ [])) ((sub_sum_proper x.0 (singleton v) h.0, tt), tt) (with_made (int (column x.0 (domain_of_sum ds x.1 x.0))) tt h.1)

column_proper : (ds : List Domain) (e : IntExpr) (s : Log) → ProperOver s (equivalent_int_var ds e s).log
unfolding equivalent_int_var old_column
column_proper ds (IVar v) s = int_var_over v s
column_proper ds (IConst c) s = new_column_proper ds s _ (int_proper ds (IConst c) s)
column_proper ds (Linear ts) s = new_column_proper ds s _ (int_proper ds (Linear ts) s)
column_proper ds (If i c t f) s = new_column_proper ds s _ (int_proper ds (If i c t f) s)

columns_proper : (ds : List Domain) (es : List IntExpr) (s : Log) → ProperOver s (equivalent_int_vars ds es s).log
unfolding equivalent_int_vars
columns_proper ds [] s = unchanged
columns_proper ds (e ∷ es) s = over_then (column_proper ds e s) (columns_proper ds es (equivalent_int_var ds e s).log)

star_row_proper : (vs : List ℕ) (cs : List Cell) → ProperClauses (star_row vs cs)
unfolding star_row
star_row_proper [] cs = tt
star_row_proper (v ∷ vs) [] = tt
star_row_proper (v ∷ vs) (star ∷ cs) = star_row_proper vs cs
star_row_proper (v ∷ vs) (value x ∷ cs) = ((linear_is_proper v x, tt), star_row_proper vs cs)

star_rows_proper : (vs : List ℕ) (rows : List (List Cell)) → ProperLists (map (star_row vs) rows)
star_rows_proper vs [] = tt
star_rows_proper vs (r ∷ rows) = (star_row_proper vs r, star_rows_proper vs rows)

equalities_proper : (v : ℕ) (xs : List ℤ) → ProperLinears (map (linear_eq v) xs)
equalities_proper v [] = tt
equalities_proper v (x ∷ xs) = (linear_is_proper v x, equalities_proper v xs)

module _ (vs : List ℕ) (ds : List Domain) where
  differs_proper : (p : ℕ) (r : Row) → ProperLinears (differs vs ds p r)
  unfolding differs
  differs_proper zero r = tt
  differs_proper (suc p) r = linears_append (differs vs ds p r) _ (differs_proper p r) (linear_is_proper (variable vs ds p) (cell_at r p), tt)

  kept_proper : (t : Bool) (c : Clause) (cs : List Clause) → ProperClauses (c ∷ []) → ProperClauses cs → ProperClauses (keep_if t c cs)
  kept_proper true (clause ls ks) cs h k = (h.0, k)
  kept_proper false c cs h k = k

  column_clauses_proper : (p i m : ℕ) (g : Row × List Row) → ProperClauses (column_clauses vs ds p i m g)
  unfolding column_clauses
  column_clauses_proper p i zero g = tt
  column_clauses_proper p i (suc m) g = kept_proper (not (all (takes i g.1) (enumerate (domain_of ds i)))) (column_clause vs ds p i g) (column_clauses vs ds p (suc i) m g)
      (unfold column_clause in (linears_append (differs vs ds p g.0) _ (differs_proper p g.0) (equalities_proper (variable vs ds i) (select (takes i g.1) (enumerate (domain_of ds i)))), tt))
      (column_clauses_proper p (suc i) m g)

  groups_proper : (p m : ℕ) (gs : List (Row × List Row)) → ProperClauses (flat (map (column_clauses vs ds p p m) gs))
  groups_proper p m [] = tt
  groups_proper p m (g ∷ gs) = clauses_append (column_clauses vs ds p p m g) _ (column_clauses_proper p p m g) (groups_proper p m gs)

  prefixes_proper : (p m : ℕ) (rows : List Row) → ProperClauses (prefixes vs ds p m rows)
  unfolding prefixes
  prefixes_proper p zero rows = tt
  prefixes_proper p (suc m) rows = clauses_append (flat (map (column_clauses vs ds p p (suc m)) (groups p zero rows))) _ (groups_proper p (suc m) (groups p zero rows)) (prefixes_proper (suc p) m rows)

  plain_proper : (rows : List Row) → ProperClauses (plain_clauses vs ds rows)
  unfolding plain_clauses
  plain_proper [] = (tt, tt)
  plain_proper (r ∷ rows) = prefixes_proper 0 (length vs) (r ∷ rows)

supports_proper : (ds : List Domain) (vs : List ℕ) (rows : List (List Cell)) → ProperRun (normalize_extension_supports ds vs rows)
unfolding normalize_extension_supports
supports_proper ds vs rows s = go (any (any is_star) rows)
  where
    domains : List Domain
    domains = map (domain_of (emitted_domains ds s)) vs

    go : (t : Bool) → ProperOut s (cond t (star_table vs rows s) (plain_table vs domains rows, s))
    go true = unfold star_table in disjunction_proper (map (star_row vs) rows) (star_rows_proper vs rows) s
    go false = unfold plain_table in (plain_proper vs domains (select (within domains) (sort_rows (map (map cell_value) rows))), unchanged)

table_proper : (ds : List Domain) (es : List IntExpr) (rows : List (List Cell)) (s : Log) → ProperOver s (normalize_table ds es rows s)
unfolding normalize_table
table_proper ds es rows s =
    let c : Columns = equivalent_int_vars ds es s in
    over_then (columns_proper ds es s) (register_proper c.log _ (supports_proper ds c.vars rows c.log))

-- ---- statements

rules_proper : (ds : List Domain) (es : List BoolExpr) (s : Log) → ProperOver s (normalize_rules ds es s)
unfolding normalize_rules
rules_proper ds [] s = unchanged
rules_proper ds (e ∷ es) s = over_then (rule_proper ds e s) (rules_proper ds es (normalize_and_register_expr ds e s))

pub stmt_proper : (ds : List Domain) (t : Stmt) (s : Log) → ProperOver s (normalize_stmt ds t s)
unfolding normalize_stmt
stmt_proper ds (Rule e) s = rule_proper ds e s
stmt_proper ds (Table es rows) s = table_proper ds es rows s
stmt_proper ds (AllDifferent es) s = rules_proper ds (different_rules ds es) s

pub stmts_proper : (ds : List Domain) (ts : List Stmt) (s : Log) → ProperOver s (normalize_stmts ds ts s)
unfolding normalize_stmts
stmts_proper ds [] s = unchanged
stmts_proper ds (t ∷ ts) s = over_then (stmt_proper ds t s) (stmts_proper ds ts (normalize_stmt ds t s))
