-- What reading gives the later theorems: a well-formed set writes declared variables only and names no emitted number, also after folding;
-- its rows are as wide as their tables, and its domains are ordered.
use Rattle.std.specs.Prelude.{◌≡◌, refl, true, ℕ, ◌≤◌, ◌<◌, length}
use mathlib.Core.List.{List, [], ◌∷◌, map}
use Rattle.std.proofs.Common.{arith, eq-eqb}
use Rattle.std.proofs.lemmas.List.{length-map}
use Rattle.laws.specs.Bools.{and_i}
use Rattle.laws.specs.Lists.{all}
use Rattle.syntax.specs.Syntax.{Domain, IntExpr, IConst, IVar, Linear, If, Terms, tnil, tmore, BoolExpr, Const, Var, NVar, And, Or, Not, Xor, Iff, Imp, Cmp, Members, mnil, more, Cell, Stmt, Rule, Table, AllDifferent, Problem}
use Rattle.syntax.specs.Written.{EveryStmt, EveryStmts, EveryOf, EveryIntOf, EveryTermOf, EveryColumnOf, Any, None, EveryMemberOf}
use Rattle.words.specs.Exact.{Each}
use Rattle.read.specs.WellFormed.{WellInt, WellRow, WellStmt, WellFormed}
use Rattle.read.proofs.Vars.{columns_vars, bool_vars}
use Rattle.fold.specs.Fold.{Fixed, constant_folding_int as fold-int, constant_folding_bool as fold, constant_folding_stmt as fold-stmt}
use Rattle.fold.proofs.Kept.{fold_columns_every, fold_every}
use Rattle.clauses.proofs.Bounds.{expr_bound, members_bound, int_bound, terms_numbers, NoNumbers}
use Rattle.tables.proofs.Agree.{wide}

-- ---- declared variables

module _ (nb ni : ℕ) where
  stmts_ready : (ss : List Stmt) → Each (WellStmt nb ni) ss → EveryStmts (λ v. v < nb) (λ v. v < ni) ss
  unfolding EveryStmts EveryStmt
  stmts_ready [] h = tt
  stmts_ready (Rule e ∷ ss) h = (bool_vars Any (λ v. v < nb) nb ni (λ v k. k) 64 e h.0, stmts_ready ss h.1)
  stmts_ready (Table es rows ∷ ss) h = (columns_vars Any (λ v. v < nb) nb ni (λ v k. k) 64 es h.0.2, stmts_ready ss h.1)
  stmts_ready (AllDifferent es ∷ ss) h = (columns_vars Any (λ v. v < nb) nb ni (λ v k. k) 64 es h.0.1, stmts_ready ss h.1)

pub well_declared : (p : Problem) → WellFormed p → EveryStmts (λ v. v < p.bools) (λ v. v < length p.domains) p.stmts
well_declared p w = stmts_ready p.bools (length p.domains) p.stmts w.stmts_well

-- ---- no emitted number: reading gives none, folding brings none in

module _ (P Q : ℕ → Type 0) where
  mutual
    unfolding EveryOf expr_bound

    unnamed : (e : BoolExpr) → EveryOf None P Q e → expr_bound e ≤ 0
    unnamed (Const b) h = omega arith
    unnamed (Var v) h = omega arith
    unnamed (NVar n) h = absurd h
    unnamed (And ms) h = members_unnamed ms h
    unnamed (Or ms) h = members_unnamed ms h
    unnamed (Not e) h = unnamed e h
    unnamed (Xor a b) h = omega (arith, unnamed a h.0, unnamed b h.1)
    unnamed (Iff a b) h = omega (arith, unnamed a h.0, unnamed b h.1)
    unnamed (Imp a b) h = omega (arith, unnamed a h.0, unnamed b h.1)
    unnamed (Cmp o a b) h = omega (arith, int_unnamed a h.0, int_unnamed b h.1)

    members_unnamed : (ms : Members) → EveryMemberOf None P Q ms → members_bound ms ≤ 0
    members_unnamed mnil h = omega arith
    members_unnamed (more e ms) h = omega (arith, unnamed e h.0, members_unnamed ms h.1)

    int_unnamed : (e : IntExpr) → EveryIntOf None P Q e → int_bound e ≤ 0
    int_unnamed (IConst c) h = omega arith
    int_unnamed (IVar v) h = omega arith
    int_unnamed (Linear ts) h = terms_unnamed ts h
    int_unnamed (If i c t f) h = omega (arith, unnamed c h.0, int_unnamed t h.1.0, int_unnamed f h.1.1)

    terms_unnamed : (ts : Terms) → EveryTermOf None P Q ts → terms_numbers ts ≤ 0
    terms_unnamed tnil h = omega arith
    terms_unnamed (tmore k e ts) h = omega (arith, int_unnamed e h.0, terms_unnamed ts h.1)

  columns_unnamed : (es : List IntExpr) → EveryColumnOf None P Q es → NoNumbers es
  unfolding EveryColumnOf
  columns_unnamed [] h = tt
  columns_unnamed (e ∷ es) h = (int_unnamed e h.0, columns_unnamed es h.1)

-- ---- statements name no emitted number, rows are as wide as their tables

abbrev pub Plain : Stmt → Type 0
Plain (Rule e) = expr_bound e ≤ 0
Plain (Table es rows) = (all (wide (length es)) rows ≡ true) × NoNumbers es
Plain (AllDifferent es) = NoNumbers es

pub rows_wide : (n : ℕ) (rows : List (List Cell)) → Each (WellRow n) rows → all (wide n) rows ≡ true
rows_wide n [] h = refl
rows_wide n (r ∷ rows) h = and_i (wide n r) (all (wide n) rows) (eq-eqb (length r) n h.0.0) (rows_wide n rows h.1)

folded_unnamed : (ds : List Domain) (f : Fixed) (nb ni : ℕ) (es : List IntExpr) → Each (WellInt nb ni 64) es → NoNumbers (map (fold-int ds f) es)
folded_unnamed ds f nb ni es h = columns_unnamed (λ v. v < nb) (λ v. v < ni) (map (fold-int ds f) es) (fold_columns_every None (λ v. v < nb) (λ v. v < ni) ds f es (columns_vars None (λ v. v < nb) nb ni (λ v k. k) 64 es h))

fold_plain : (ds : List Domain) (f : Fixed) (nb ni : ℕ) (s : Stmt) → WellStmt nb ni s → Plain (fold-stmt ds f s)
unfolding fold-stmt
fold_plain ds f nb ni (Rule e) h = unnamed (λ v. v < nb) (λ v. v < ni) (fold ds f e) (fold_every None (λ v. v < nb) (λ v. v < ni) ds f e (bool_vars None (λ v. v < nb) nb ni (λ v k. k) 64 e h))
fold_plain ds f nb ni (Table es rows) h = (rw (length-map es (fold-int ds f)) (rows_wide (length es) rows h.3), folded_unnamed ds f nb ni es h.2)
fold_plain ds f nb ni (AllDifferent es) h = folded_unnamed ds f nb ni es h.1

pub folded_plain : (ds : List Domain) (f : Fixed) (nb ni : ℕ) (ss : List Stmt) → Each (WellStmt nb ni) ss → Each Plain (map (fold-stmt ds f) ss)
folded_plain ds f nb ni [] h = tt
folded_plain ds f nb ni (s ∷ ss) h = (fold_plain ds f nb ni s h.0, folded_plain ds f nb ni ss h.1)
