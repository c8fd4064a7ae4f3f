-- A set as read stands within 64 levels (`well_shallow`).
use Rattle.std.specs.Prelude.{List, [], ◌∷◌, ℕ, suc, ◌-◌, ◌≤◌, ◌<◌, max}
use Rattle.std.proofs.Common.{arith}
use Rattle.syntax.specs.Syntax.{IntExpr, IConst, IVar, Linear, If, Terms, tnil, tmore, BoolExpr, Const, Var, NVar, And, Or, Not, Xor, Iff, Imp, Cmp, Members, mnil, more, Stmt, Rule, Table, AllDifferent}
use Rattle.syntax.specs.Depth.{depth_int, depth_terms, depth, depth_members}
use Rattle.words.specs.Exact.{Each}
use Rattle.read.specs.WellFormed.{WellInt, WellTerms, WellBool, WellMembers, WellStmt}

-- within 64 levels
abbrev pub Shallow : Stmt → Type 0
Shallow (Rule e) = depth e ≤ 64
Shallow (Table es rows) = Each (λ e. depth_int e ≤ 64) es
Shallow (AllDifferent es) = Each (λ e. depth_int e ≤ 64) es

three_levels : (a b c l : ℕ) → 0 < l → a ≤ l - 1 → b ≤ l - 1 → c ≤ l - 1 → suc (max a (max b c)) ≤ l
three_levels a b c l h i j k = omega arith

-- nb, ni: how many variables are declared
module _ (nb ni : ℕ) where
  mutual
    unfolding WellInt depth_int

    int_depth : (l : ℕ) (e : IntExpr) → WellInt nb ni l e → depth_int e ≤ l
    int_depth l (IConst c) h = omega (arith, h.0)
    int_depth l (IVar v) h = omega (arith, h.0)
    int_depth l (Linear ts) h = omega (arith, h.0, terms_depth (l - 1) ts h.2)
    int_depth l (If i c t f) h = three_levels (depth c) (depth_int t) (depth_int f) l h.0 (bool_depth (l - 1) c h.1) (int_depth (l - 1) t h.2) (int_depth (l - 1) f h.3)

    terms_depth : (l : ℕ) (ts : Terms) → WellTerms nb ni l ts → depth_terms ts ≤ l
    terms_depth l tnil h = omega arith
    terms_depth l (tmore k e ts) h = omega (arith, int_depth l e h.1, terms_depth l ts h.2)

    bool_depth : (l : ℕ) (e : BoolExpr) → WellBool nb ni l e → depth e ≤ l
    bool_depth l (Const b) h = omega (arith, h)
    bool_depth l (Var v) h = omega (arith, h.0)
    bool_depth l (NVar n) h = absurd h
    bool_depth l (And ms) h = omega (arith, h.0, members_depth (l - 1) ms h.2)
    bool_depth l (Or ms) h = omega (arith, h.0, members_depth (l - 1) ms h.2)
    bool_depth l (Not e) h = omega (arith, h.0, bool_depth (l - 1) e h.1)
    bool_depth l (Xor a b) h = omega (arith, h.0, bool_depth (l - 1) a h.1, bool_depth (l - 1) b h.2)
    bool_depth l (Iff a b) h = omega (arith, h.0, bool_depth (l - 1) a h.1, bool_depth (l - 1) b h.2)
    bool_depth l (Imp a b) h = omega (arith, h.0, bool_depth (l - 1) a h.1, bool_depth (l - 1) b h.2)
    bool_depth l (Cmp o a b) h = omega (arith, h.0, int_depth (l - 1) a h.1, int_depth (l - 1) b h.2)

    members_depth : (l : ℕ) (ms : Members) → WellMembers nb ni l ms → depth_members ms ≤ l
    members_depth l mnil h = omega arith
    members_depth l (more e ms) h = omega (arith, bool_depth l e h.0, members_depth l ms h.1)

  columns_depth : (es : List IntExpr) → Each (WellInt nb ni 64) es → Each (λ e. depth_int e ≤ 64) es
  columns_depth [] h = tt
  columns_depth (e ∷ es) h = (int_depth 64 e h.0, columns_depth es h.1)

  pub well_shallow : (ss : List Stmt) → Each (WellStmt nb ni) ss → Each Shallow ss
  well_shallow [] h = tt
  well_shallow (Rule e ∷ ss) h = (bool_depth 64 e h.0, well_shallow ss h.1)
  well_shallow (Table es rows ∷ ss) h = (columns_depth es h.0.2, well_shallow ss h.1)
  well_shallow (AllDifferent es ∷ ss) h = (columns_depth es h.0.1, well_shallow ss h.1)
