-- A rule or a column with negation pushed inward and splitting done: a tree of leaves, conjunctions, disjunctions and crosses, the sides tied
-- to their numbers, and the trees of its comparisons' integer expressions with their Ifs; and the clauses of a tree, as the Rust makes them.
use Rattle.std.specs.Prelude.{Bool, true, false, not, cond, List, ℕ, suc, ◌+◌, ℤ, pos, length}
use Rattle.std.proofs.Math.Option.{Option, none as nothing, some}
use Rattle.syntax.specs.Syntax.{IfIsRead, Domain, CmpOp, IntExpr, IConst, IVar, Linear, If, Terms, tnil, tmore, BoolExpr, Const, Var, NVar, And, Or, Not, Xor, Iff, Imp, Cmp, Members, mnil, more, encode_int, encode_bool}
use Rattle.sums.specs.LinearSum.{LinearSum, constant}
use Rattle.clauses.specs.Clause.{negate_if}
use Rattle.clauses.specs.Log.{Log, get_if}
use Rattle.walk.specs.Item.{is_none}
use Rattle.clauses.specs.Normalize.{Run, Runs, IntRun, register, no_run, run_then, two, normalize_conjunction, disjunction_of, cross as cross-run, normalize_num, normalize_var, normalize_comparison, normalize_int_var, normalize_term, normalize_if}

-- where an If stands, how many words it has, and whether nothing in it is split, so that equal words are the same If
pub record Place : Type 0 where
  pub at : ℕ
  pub size : ℕ
  pub whole : Bool

-- a declared variable; an emitted number; a comparison; each with whether it is negated. tied v a b: a number, and its side, plain and negated.
-- choice i p e c d t f: the If e as it is looked up, its condition plain and negated, its branches
mutual
  pub data Tree : Type 0 where
    var num : ℕ → Bool → Tree
    cmp : CmpOp → IntTree → IntTree → Bool → Tree
    conj disj : Trees → Tree
    cross : Trees → Trees → Tree
    tied : ℕ → Tree → Tree → Tree

  pub data Trees : Type 0 where
    nil : Trees
    cons : Tree → Trees → Trees

  pub data IntTree : Type 0 where
    const : ℤ → IntTree
    ivar : ℕ → IntTree
    sum : TermTrees → IntTree
    choice : IfIsRead → Place → IntExpr → Tree → Tree → IntTree → IntTree → IntTree

  pub data TermTrees : Type 0 where
    none : TermTrees
    term : ℤ → IntTree → TermTrees → TermTrees

abbrev pub pair : Tree → Tree → Trees
pair a b = cons a (cons b nil)

abbrev pub size : Trees → ℕ
size nil = 0
size (cons t ts) = suc (size ts)

abbrev pub append : Trees → Trees → Trees
append nil us = us
append (cons t ts) us = cons t (append ts us)

-- a disjunction where d
abbrev pub joined : Bool → Trees → Tree
joined false ts = conj ts
joined true ts = disj ts

-- ---- splitting

-- of an Xor or Iff here: it is not split, nor is one below it (columns); it is not split, one below it is; it is split
pub data Splitting : Type 0 where
  never below here : Splitting

-- inside an Xor, an Iff or an If
abbrev pub inner : Splitting → Splitting
inner never = never
inner below = here
inner here = here

-- how many numbers the splitting of an Xor or Iff takes by itself
abbrev pub own_splits : Splitting → ℕ
own_splits never = 0
own_splits below = 0
own_splits here = 2

unfoldable mutual
  pub splits : BoolExpr → Splitting → ℕ
  splits (Const b) m = 0
  splits (Var v) m = 0
  splits (NVar n) m = 0
  splits (And ms) m = splits_members ms m
  splits (Or ms) m = splits_members ms m
  splits (Not e) m = splits e m
  splits (Xor a b) m = own_splits m + (splits a (inner m) + splits b (inner m))
  splits (Iff a b) m = own_splits m + (splits a (inner m) + splits b (inner m))
  splits (Imp a b) m = splits a m + splits b m
  splits (Cmp o a b) m = splits_int a (inner m) + splits_int b (inner m)

  pub splits_members : Members → Splitting → ℕ
  splits_members mnil m = 0
  splits_members (more e ms) m = splits e m + splits_members ms m

  pub splits_int : IntExpr → Splitting → ℕ
  splits_int (IConst c) m = 0
  splits_int (IVar v) m = 0
  splits_int (Linear ts) m = splits_terms ts m
  splits_int (If i c t f) m = splits c m + (splits_int t m + splits_int f m)

  pub splits_terms : Terms → Splitting → ℕ
  splits_terms tnil m = 0
  splits_terms (tmore k e ts) m = splits_int e m + splits_terms ts m

-- an Xor or Iff split: its sides' numbers in their place
abbrev pub rewritten : (BoolExpr → BoolExpr → BoolExpr) → Splitting → ℕ → BoolExpr → BoolExpr → BoolExpr
rewritten f never n a b = f a b
rewritten f below n a b = f a b
rewritten f here n a b = f (NVar n) (NVar (suc n))

-- the rewritten expression, its numbers from n on
unfoldable mutual
  pub split_of : BoolExpr → Splitting → ℕ → BoolExpr
  split_of (Const b) m n = Const b
  split_of (Var v) m n = Var v
  split_of (NVar k) m n = NVar k
  split_of (And ms) m n = And (split_members ms m n)
  split_of (Or ms) m n = Or (split_members ms m n)
  split_of (Not e) m n = Not (split_of e m n)
  split_of (Xor a b) m n = rewritten Xor m n (split_of a (inner m) n) (split_of b (inner m) (n + splits a (inner m)))
  split_of (Iff a b) m n = rewritten Iff m n (split_of a (inner m) n) (split_of b (inner m) (n + splits a (inner m)))
  split_of (Imp a b) m n = Imp (split_of a m n) (split_of b m (n + splits a m))
  split_of (Cmp o a b) m n = Cmp o (split_int a (inner m) n) (split_int b (inner m) (n + splits_int a (inner m)))

  pub split_members : Members → Splitting → ℕ → Members
  split_members mnil m n = mnil
  split_members (more e ms) m n = more (split_of e m n) (split_members ms m (n + splits e m))

  pub split_int : IntExpr → Splitting → ℕ → IntExpr
  split_int (IConst c) m n = IConst c
  split_int (IVar v) m n = IVar v
  split_int (Linear ts) m n = Linear (split_terms ts m n)
  split_int (If i c t f) m n = If i (split_of c m n) (split_int t m (n + splits c m)) (split_int f m (n + splits c m + splits_int t m))

  pub split_terms : Terms → Splitting → ℕ → Terms
  split_terms tnil m n = tnil
  split_terms (tmore k e ts) m n = tmore k (split_int e m n) (split_terms ts m (n + splits_int e m))

-- ---- the tree of an expression

-- a and b by the first sign, then by the second
abbrev pub crossed : (Bool → Tree) → (Bool → Tree) → Bool → Tree
crossed a b h = cross (pair (a false) (b h)) (pair (a true) (b (not h)))

-- an Xor or Iff: of its sides, or of their numbers
abbrev pub crossed_at : Splitting → ℕ → (Bool → Tree) → (Bool → Tree) → Bool → Tree
crossed_at never n a b h = crossed a b h
crossed_at below n a b h = crossed a b h
crossed_at here n a b h = crossed (num n) (num (suc n)) h

-- of an If at a place, in which the splitting takes k numbers
abbrev pub place_of : ℕ → BoolExpr → IntExpr → IntExpr → ℕ → Place
place_of at c t f k = record {
  at = at;
  size = 1 + length (encode_bool c) + length (encode_int t) + length (encode_int f);
  whole = is_none k;
}

-- e at a place, the splitting's next number n, negated if g
unfoldable mutual
  pub resolve : BoolExpr → Splitting → ℕ → ℕ → Bool → Tree
  resolve (Const b) m at n g = joined (not (negate_if g b)) nil
  resolve (Var v) m at n g = var v g
  resolve (NVar k) m at n g = num k g
  resolve (And ms) m at n g = joined g (resolves ms m (at + 2) n g)
  resolve (Or ms) m at n g = joined (not g) (resolves ms m (at + 2) n g)
  resolve (Not e) m at n g = resolve e m (at + 1) n (not g)
  resolve (Xor a b) m at n g = crossed_at m n (λ h. resolve a (inner m) (at + 1) n h) (λ h. resolve b (inner m) (at + 1 + length (encode_bool a)) (n + splits a (inner m)) h) g
  resolve (Iff a b) m at n g = crossed_at m n (λ h. resolve a (inner m) (at + 1) n h) (λ h. resolve b (inner m) (at + 1 + length (encode_bool a)) (n + splits a (inner m)) h) (not g)
  resolve (Imp a b) m at n g = joined (not g) (pair (resolve a m (at + 1) n (not g)) (resolve b m (at + 1 + length (encode_bool a)) (n + splits a m) g))
  resolve (Cmp o a b) m at n g = cmp o (resolve_int a (inner m) (at + 2) n) (resolve_int b (inner m) (at + 2 + length (encode_int a)) (n + splits_int a (inner m))) g

  pub resolves : Members → Splitting → ℕ → ℕ → Bool → Trees
  resolves mnil m at n g = nil
  resolves (more e ms) m at n g = cons (resolve e m at n g) (resolves ms m (at + length (encode_bool e)) (n + splits e m) g)

  pub resolve_int : IntExpr → Splitting → ℕ → ℕ → IntTree
  resolve_int (IConst c) m at n = const c
  resolve_int (IVar v) m at n = ivar v
  resolve_int (Linear ts) m at n = sum (resolve_terms ts m (at + 2) n)
  resolve_int (If i c t f) m at n = choice i (place_of at c t f (splits c m + (splits_int t m + splits_int f m))) (split_int (If i c t f) m n)
      (resolve c m (at + 1) n false) (resolve c m (at + 1) n true)
      (resolve_int t m (at + 1 + length (encode_bool c)) (n + splits c m))
      (resolve_int f m (at + 1 + length (encode_bool c) + length (encode_int t)) (n + splits c m + splits_int t m))

  pub resolve_terms : Terms → Splitting → ℕ → ℕ → TermTrees
  resolve_terms tnil m at n = none
  resolve_terms (tmore k e ts) m at n = term k (resolve_int e m (at + 1) n) (resolve_terms ts m (at + 1 + length (encode_int e)) (n + splits_int e m))

-- the side e of a split Xor or Iff, tied to the number v
abbrev pub tie : ℕ → BoolExpr → ℕ → ℕ → Tree
tie v e at n = tied v (resolve e here at n false) (resolve e here at n true)

-- ---- the extras

-- of each side of an Xor or Iff its own extras, and its tie where it is split
abbrev pub sides_tied : Splitting → Trees → Tree → Trees → Tree → Trees
sides_tied never ts t us u = append ts us
sides_tied below ts t us u = append ts us
sides_tied here ts t us u = append (append ts (cons t nil)) (append us (cons u nil))

unfoldable mutual
  pub ties : BoolExpr → Splitting → ℕ → ℕ → Trees
  ties (Const b) m at n = nil
  ties (Var v) m at n = nil
  ties (NVar k) m at n = nil
  ties (And ms) m at n = ties_members ms m (at + 2) n
  ties (Or ms) m at n = ties_members ms m (at + 2) n
  ties (Not e) m at n = ties e m (at + 1) n
  ties (Xor a b) m at n =
      let k = own_splits m + n in
      let q = at + 1 + length (encode_bool a) in
      sides_tied m (ties a (inner m) (at + 1) k) (tie n a (at + 1) k) (ties b (inner m) q (k + splits a (inner m))) (tie (suc n) b q (k + splits a (inner m)))
  ties (Iff a b) m at n =
      let k = own_splits m + n in
      let q = at + 1 + length (encode_bool a) in
      sides_tied m (ties a (inner m) (at + 1) k) (tie n a (at + 1) k) (ties b (inner m) q (k + splits a (inner m))) (tie (suc n) b q (k + splits a (inner m)))
  ties (Imp a b) m at n = append (ties a m (at + 1) n) (ties b m (at + 1 + length (encode_bool a)) (n + splits a m))
  ties (Cmp o a b) m at n = append (ties_int a (inner m) (at + 2) n) (ties_int b (inner m) (at + 2 + length (encode_int a)) (n + splits_int a (inner m)))

  pub ties_members : Members → Splitting → ℕ → ℕ → Trees
  ties_members mnil m at n = nil
  ties_members (more e ms) m at n = append (ties e m at n) (ties_members ms m (at + length (encode_bool e)) (n + splits e m))

  pub ties_int : IntExpr → Splitting → ℕ → ℕ → Trees
  ties_int (IConst c) m at n = nil
  ties_int (IVar v) m at n = nil
  ties_int (Linear ts) m at n = ties_terms ts m (at + 2) n
  ties_int (If i c t f) m at n =
      let p = at + 1 + length (encode_bool c) in
      append (ties c m (at + 1) n) (append (ties_int t m p (n + splits c m)) (ties_int f m (p + length (encode_int t)) (n + splits c m + splits_int t m)))

  pub ties_terms : Terms → Splitting → ℕ → ℕ → Trees
  ties_terms tnil m at n = nil
  ties_terms (tmore k e ts) m at n = append (ties_int e m (at + 1) n) (ties_terms ts m (at + 1 + length (encode_int e)) (n + splits_int e m))

-- ---- the clauses of a tree; ds: the declared domains

-- an If's condition
abbrev pub condition_of : IntExpr → BoolExpr
condition_of (IConst c) = Const true
condition_of (IVar v) = Const true
condition_of (Linear ts) = Const true
condition_of (If i c t f) = c

-- the condition that is a declared variable
abbrev pub own_var : BoolExpr → Option ℕ
own_var (Var v) = some v
own_var (Const b) = nothing
own_var (NVar n) = nothing
own_var (And ms) = nothing
own_var (Or ms) = nothing
own_var (Not e) = nothing
own_var (Xor a b) = nothing
own_var (Iff a b) = nothing
own_var (Imp a b) = nothing
own_var (Cmp o a b) = nothing

module _ (ds : List Domain) where
  unfoldable mutual
    pub run : Tree → Run
    run (var v g) = normalize_var v g
    run (num n g) = normalize_num n g
    run (cmp o a b g) = normalize_comparison o g (run_int a) (run_int b)
    run (conj ts) = normalize_conjunction (runs ts)
    run (disj ts) = disjunction_of (runs ts)
    run (cross ts us) = cross-run (runs ts) (runs us)
    run (tied v a b) = cross-run (two (run a) (normalize_num v true)) (two (run b) (normalize_num v false))

    pub runs : Trees → Runs
    runs nil = no_run
    runs (cons t ts) = run_then (run t) (runs ts)

    pub run_int : IntTree → IntRun
    run_int (const c) = λ s. (constant c, s)
    run_int (ivar v) = normalize_int_var v
    run_int (sum ts) = run_terms ts (constant (pos 0))
    run_int (choice i p e c d t f) = λ s. normalize_if ds i (get_if e s) e (condition_of e) (λ g s. cond g (run d s) (run c s)) (run_int t) (run_int f) s

    pub run_terms : TermTrees → LinearSum → IntRun
    run_terms none = λ l s. (l, s)
    run_terms (term k e ts) = normalize_term k (run_int e) (run_terms ts)

  -- the clauses of one after another are added
  unfoldable pub registers : Trees → Log → Log
  registers nil s = s
  registers (cons t ts) s = registers ts (register (run t s))
