-- Logs grow along every run of a tree: what walk's Grow lacks for the entries that Ifs make, the growth of runs made of runs, and of trees.
use Rattle.std.specs.Prelude.{◌≡◌, refl, Bool, ◌&&◌, cond, ℕ, ℤ, pos}
use Rattle.std.proofs.Math.Bool.{true, false}
use Rattle.std.proofs.Math.Option.{Option, none, some}
use mathlib.Core.List.{List, [], ◌∷◌, ◌++◌}
use Rattle.std.proofs.Common.{arith}
use Rattle.std.specs.Int.Signed.{lt_z}
use Rattle.laws.specs.Ints.{eqZ}
use Rattle.syntax.specs.Syntax.{IfIsRead, Domain, Range, CmpOp, IntExpr, BoolExpr, Const, Var, NVar, And, Or, Not, Xor, Iff, Imp, Cmp}
use Rattle.sums.specs.LinearSum.{LinearSum, constant, is_constant, add_sum, mul_sum}
use Rattle.sums.specs.Rising.{constant_of}
use Rattle.clauses.specs.Clause.{Clause, BoolLit}
use Rattle.clauses.specs.Log.{side, MadeInt, column, chosen, binary, is_declared_int, negate_lit, next_int, bool, int, defined, known, Log, next_bool, get_bool_var, get_int_var, get_if, bool_var_at, int_var_at, convert_bool_var, convert_int_var}
use Rattle.clauses.specs.Disjunction.{Sorted, satisfied, pool, sorted, finish_sorted, normalize_disjunction}
use Rattle.clauses.specs.Normalize.{Run, Runs, IntRun, register, define, no_run, run_then, two, normalize_conjunction, disjunction_of, cross as cross-run, normalize_num, normalize_var, normalize_comparison, normalize_int_var, normalize_term, equals, own_literal, condition_literal, two_valued, hull, domain_of_sum, if_constant, if_open, normalize_if}
use Rattle.clauses.proofs.Since.{here, over}
use Rattle.walk.proofs.Grow.{Grows, same, then, grow_added, grow_declared, grow_declared_int}
use Rattle.walk.proofs.Texts.{finish_grows, disjunction_finish}
use Rattle.walks.specs.Tree.{Tree, var, num, cmp, conj, disj, cross, tied, Trees, nil, cons, IntTree, const, ivar, sum, choice, TermTrees, none as no_terms, term, condition_of, run, runs, run_int, run_terms, registers}

-- ---- entries that are no declared variable's

pub grow_side : (c : BoolExpr) (s : Log) → Grows s (bool (side c) ∷ s)
unfolding get_bool_var get_int_var
grow_side c s = record { bools = omega arith; ints = omega arith; keep = λ v n h. h; keep_int = λ v n h. h; top = over (bool (side c)) here }

pub grow_defined : (cs : List Clause) (s : Log) → Grows s (defined cs ∷ s)
unfolding get_bool_var get_int_var
grow_defined cs s = record { bools = omega arith; ints = omega arith; keep = λ v n h. h; keep_int = λ v n h. h; top = over (defined cs) here }

pub grow_known : (e : IntExpr) (k : ℕ) (s : Log) → Grows s (known e k ∷ s)
unfolding get_bool_var get_int_var
grow_known e k s = record { bools = omega arith; ints = omega arith; keep = λ v n h. h; keep_int = λ v n h. h; top = over (known e k) here }

pub grow_int : (m : MadeInt) (s : Log) → ((v : ℕ) → is_declared_int v m ≡ false) → Grows s (int m ∷ s)
unfolding get_bool_var get_int_var
grow_int m s q = record { bools = omega arith; ints = omega arith; keep = λ v n h. h; keep_int = λ v n h. rw (q v) h; top = over (int m) here }

pub two_valued_made : (i : IfIsRead) (l : BoolLit) (x y : ℤ) (v : ℕ) → is_declared_int v (two_valued i l x y) ≡ false
two_valued_made i l x y v = go (lt_z x y) (eqZ x y)
  where
    go : (a b : Bool) → is_declared_int v (cond a (binary i (negate_lit true l) x y) (cond b (column (constant x) (Range x x)) (binary i l y x))) ≡ false
    go true b = refl
    go false true = refl
    go false false = refl

-- ---- declared variables

pub bool_var_grows : (v : ℕ) (s : Log) → Grows s (convert_bool_var v s).1
unfolding convert_bool_var
bool_var_grows v s = go (get_bool_var v s) refl
  where
    go : (o : Option BoolLit) → get_bool_var v s ≡ o → Grows s (bool_var_at o v s).1
    go (some l) e = same
    go none e = grow_declared v s e

pub int_var_grows : (v : ℕ) (s : Log) → Grows s (convert_int_var v s).1
unfolding convert_int_var
int_var_grows v s = go (get_int_var v s) refl
  where
    go : (o : Option ℕ) → get_int_var v s ≡ o → Grows s (int_var_at o v s).1
    go (some n) e = same
    go none e = grow_declared_int v s e

-- ---- runs of runs

abbrev pub RunGrows : Run → Type 0
RunGrows r = (s : Log) → Grows s (r s).1

abbrev pub RunsGrow : Runs → Type 0
RunsGrow r = (s : Log) → Grows s (r s).1

abbrev pub IntGrows : IntRun → Type 0
IntGrows r = (s : Log) → Grows s (r s).1

pub no_run_grows : RunsGrow no_run
unfolding no_run
no_run_grows s = same

pub then_grows : (r : Run) (rs : Runs) → RunGrows r → RunsGrow rs → RunsGrow (run_then r rs)
unfolding run_then
then_grows r rs g h s = then (g s) (h (r s).1)

pub two_grow : (r q : Run) → RunGrows r → RunGrows q → RunsGrow (two r q)
two_grow r q g h = then_grows r (run_then q no_run) g (then_grows q no_run h no_run_grows)

pub conj_grows : (rs : Runs) → RunsGrow rs → RunGrows (normalize_conjunction rs)
unfolding normalize_conjunction
conj_grows rs g s = g s

pub disjunction_grows : (css : List (List Clause)) (s : Log) → Grows s (normalize_disjunction css s).1
unfolding finish_sorted
disjunction_grows css s = rw (disjunction_finish css s) (go (sorted css))
  where
    go : (x : Sorted) → Grows s (finish_sorted x s).1
    go satisfied = same
    go (pool ls ks cx) = finish_grows cx ls ks s

pub disj_grows : (rs : Runs) → RunsGrow rs → RunGrows (disjunction_of rs)
unfolding disjunction_of
disj_grows rs g s = then (g s) (disjunction_grows (rs s).0 (rs s).1)

pub cross_grows : (rs qs : Runs) → RunsGrow rs → RunsGrow qs → RunGrows (cross-run rs qs)
unfolding cross-run
cross_grows rs qs g h s =
    let a = rs s in let b = qs a.1 in let c = normalize_disjunction a.0 b.1 in
    then (g s) (then (h a.1) (then (disjunction_grows a.0 b.1) (disjunction_grows b.0 c.1)))

pub num_grows : (n : ℕ) (g : Bool) → RunGrows (normalize_num n g)
unfolding normalize_num
num_grows n g s = same

pub var_grows : (v : ℕ) (g : Bool) → RunGrows (normalize_var v g)
unfolding normalize_var
var_grows v g s = bool_var_grows v s

pub comparison_grows : (o : CmpOp) (g : Bool) (p q : IntRun) → IntGrows p → IntGrows q → RunGrows (normalize_comparison o g p q)
unfolding normalize_comparison
comparison_grows o g p q h k s = then (h s) (k (p s).1)

pub ivar_grows : (v : ℕ) → IntGrows (normalize_int_var v)
unfolding normalize_int_var
ivar_grows v s = int_var_grows v s

pub term_grows : (k : ℤ) (p : IntRun) (q : LinearSum → IntRun) → IntGrows p → ((l : LinearSum) → IntGrows (q l)) → (l : LinearSum) → IntGrows (normalize_term k p q l)
unfolding normalize_term
term_grows k p q g h l s = then (g s) (h (add_sum l (mul_sum k (p s).0)) (p s).1)

-- the condition's two polarities
pub either_grows : (r q : Run) → RunGrows r → RunGrows q → (g : Bool) → RunGrows (λ s. cond g (q s) (r s))
either_grows r q g h true = h
either_grows r q g h false = g

-- ---- Ifs

pub literal_grows : (c : BoolExpr) (p : Bool → Run) → ((g : Bool) → RunGrows (p g)) → (s : Log) → Grows s (condition_literal none c p s).1
unfolding condition_literal define
literal_grows c p g s =
    let n = next_bool s in
    let x = two (normalize_num n false) (p true) in
    let y = two (normalize_num n true) (p false) in
    let z = bool (side c) ∷ s in
    then (grow_side c s) (then (cross_grows x y (two_grow _ _ (num_grows n false) (g true)) (two_grow _ _ (num_grows n true) (g false)) z) (grow_defined (cross-run x y z).0 (cross-run x y z).1))

pub condition_grows : (c : BoolExpr) (p : Bool → Run) → ((g : Bool) → RunGrows (p g)) → (s : Log) → Grows s (condition_literal (own_literal c) c p s).1
unfolding condition_literal
condition_grows (Var v) p g s = bool_var_grows v s
condition_grows (NVar n) p g s = same
condition_grows (Const b) p g s = literal_grows (Const b) p g s
condition_grows (And ms) p g s = literal_grows (And ms) p g s
condition_grows (Or ms) p g s = literal_grows (Or ms) p g s
condition_grows (Not e) p g s = literal_grows (Not e) p g s
condition_grows (Xor a b) p g s = literal_grows (Xor a b) p g s
condition_grows (Iff a b) p g s = literal_grows (Iff a b) p g s
condition_grows (Imp a b) p g s = literal_grows (Imp a b) p g s
condition_grows (Cmp o a b) p g s = literal_grows (Cmp o a b) p g s

-- ds: the declared domains
module _ (ds : List Domain) where
  pub if_constant_grows : (i : IfIsRead) (c : BoolExpr) (p : Bool → Run) (x y : ℤ) → ((g : Bool) → RunGrows (p g)) → IntGrows (if_constant ds i c p x y)
  unfolding if_constant
  if_constant_grows i c p x y g s =
      let l = condition_literal (own_literal c) c p s in
      then (condition_grows c p g s) (grow_int (two_valued i l.0 x y) l.1 (two_valued_made i l.0 x y))

  -- behind the new integer of an If with branches t and f
  pub opened_grows : (i : IfIsRead) (e : IntExpr) (p : Bool → Run) (t f : LinearSum) → ((g : Bool) → RunGrows (p g)) → (s : Log)
      → Grows (int (chosen i e t f (hull (domain_of_sum ds s t) (domain_of_sum ds s f))) ∷ s) (if_open ds i e p t f s).1
  unfolding if_open define
  opened_grows i e p t f g s =
      let v = next_int s in
      let z = int (chosen i e t f (hull (domain_of_sum ds s t) (domain_of_sum ds s f))) ∷ s in
      let a = p false z in
      let b = p true a.1 in
      let css = (a.0 ++ (equals t v ∷ [])) ∷ (b.0 ++ (equals f v ∷ [])) ∷ [] in
      let o = normalize_disjunction css b.1 in
      then (g false z) (then (g true a.1) (then (disjunction_grows css b.1) (then (grow_defined o.0 o.1) (grow_known e v (defined o.0 ∷ o.1)))))

  pub if_open_grows : (i : IfIsRead) (e : IntExpr) (p : Bool → Run) (t f : LinearSum) → ((g : Bool) → RunGrows (p g)) → IntGrows (if_open ds i e p t f)
  if_open_grows i e p t f g s = then (grow_int _ s (λ k. refl)) (opened_grows i e p t f g s)

  pub if_grows : (i : IfIsRead) (e : IntExpr) (c : BoolExpr) (p : Bool → Run) (t f : IntRun) → ((g : Bool) → RunGrows (p g)) → IntGrows t → IntGrows f → (o : Option ℕ) → IntGrows (normalize_if ds i o e c p t f)
  unfolding normalize_if
  if_grows i e c p t f g h k (some v) s = same
  if_grows i e c p t f g h k none s = then (h s) (then (k a.1) (go (is_constant a.0 && is_constant b.0)))
    where
      a : LinearSum × Log
      a = t s

      b : LinearSum × Log
      b = f a.1

      go : (x : Bool) → Grows b.1 (cond x (if_constant ds i c p (constant_of a.0) (constant_of b.0) b.1) (if_open ds i e p a.0 b.0 b.1)).1
      go true = if_constant_grows i c p (constant_of a.0) (constant_of b.0) g b.1
      go false = if_open_grows i e p a.0 b.0 g b.1

  -- ---- trees

  mutual
    unfolding run

    pub run_grow : (t : Tree) (s : Log) → Grows s (run ds t s).1
    run_grow (var v g) s = var_grows v g s
    run_grow (num n g) s = num_grows n g s
    run_grow (cmp o a b g) s = comparison_grows o g (run_int ds a) (run_int ds b) (λ z. int_grow a z) (λ z. int_grow b z) s
    run_grow (conj ts) s = conj_grows (runs ds ts) (λ z. runs_grow ts z) s
    run_grow (disj ts) s = disj_grows (runs ds ts) (λ z. runs_grow ts z) s
    run_grow (cross ts us) s = cross_grows (runs ds ts) (runs ds us) (λ z. runs_grow ts z) (λ z. runs_grow us z) s
    run_grow (tied v t u) s =
        cross_grows (two (run ds t) (normalize_num v true)) (two (run ds u) (normalize_num v false)) (two_grow _ _ (λ z. run_grow t z) (num_grows v true)) (two_grow _ _ (λ z. run_grow u z) (num_grows v false)) s

    pub runs_grow : (ts : Trees) (s : Log) → Grows s (runs ds ts s).1
    runs_grow nil s = no_run_grows s
    runs_grow (cons t ts) s = then_grows (run ds t) (runs ds ts) (λ z. run_grow t z) (λ z. runs_grow ts z) s

    pub int_grow : (e : IntTree) (s : Log) → Grows s (run_int ds e s).1
    int_grow (const c) s = same
    int_grow (ivar v) s = ivar_grows v s
    int_grow (sum ts) s = terms_grow ts (constant (pos 0)) s
    int_grow (choice i p e c d t f) s =
        if_grows i e (condition_of e) (λ g z. cond g (run ds d z) (run ds c z)) (run_int ds t) (run_int ds f)
        (either_grows (run ds c) (run ds d) (λ z. run_grow c z) (λ z. run_grow d z)) (λ z. int_grow t z) (λ z. int_grow f z) (get_if e s) s

    pub terms_grow : (ts : TermTrees) (l : LinearSum) (s : Log) → Grows s (run_terms ds ts l s).1
    terms_grow no_terms l s = same
    terms_grow (term k e ts) l s = term_grows k (run_int ds e) (run_terms ds ts) (λ z. int_grow e z) (λ m z. terms_grow ts m z) l s

  -- trees whose clauses are added one after another
  pub registers_grow : (ts : Trees) (s : Log) → Grows s (registers ds ts s)
  unfolding registers register
  registers_grow nil s = same
  registers_grow (cons t ts) s = then (run_grow t s) (then (grow_added (run ds t s).0 (run ds t s).1) (registers_grow ts (register (run ds t s))))

  -- behind the first of them
  pub register_grow : (t : Tree) (ts : Trees) (s : Log) → Grows (run ds t s).1 (registers ds (cons t ts) s)
  unfolding registers register
  register_grow t ts s = then (grow_added (run ds t s).0 (run ds t s).1) (registers_grow ts (register (run ds t s)))
