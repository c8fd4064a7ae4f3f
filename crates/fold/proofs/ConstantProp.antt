-- Requiring keeps the assignments: one that has the fixed values and satisfies what is required has the values fixed then,
-- so it meets no contradiction. Assumes nothing.
use Rattle.std.specs.Prelude.{◌≡◌, refl, Bool, false, not, ◌||◌, cond, ℕ, eqb}
use Rattle.std.proofs.Common.{sym, ◌∙◌, eqb-true}
use Rattle.std.proofs.Math.Bool.{true}
use Rattle.std.specs.Bool.{beq}
use Rattle.std.proofs.Math.Option.{Option, none, some}
use mathlib.Core.List.{List, [], ◌∷◌}
use Rattle.laws.specs.Bools.{and_l, and_r, never, or_no_l, or_no_r}
use Rattle.laws.specs.Lists.{all}
use Rattle.syntax.specs.Syntax.{BoolExpr, Const, Var, NVar, And, Or, Not, Xor, Iff, Imp, Cmp, Members, mnil, more, Stmt, Rule, Table, AllDifferent}
use Rattle.syntax.specs.Satisfies.{Val, IVal, holds, holds_all, holds_any, stmt_holds}
use Rattle.fold.specs.Fold.{Fixed}
use Rattle.fold.specs.Optimize.{Status, unsatisfiable, updated, fix, set_infeasible, worst, and_then, constant_prop_bool as prop, constant_prop_members as prop-members, constant_prop_stmts as prop-stmts}
use Rattle.fold.proofs.FoldMeaning.{Agrees}

pub not_flip : (x w : Bool) → not x ≡ w → x ≡ not w
not_flip true w h = cc
not_flip false w h = cc

imp_false_l : (a b : Bool) → not a || b ≡ false → a ≡ true
imp_false_l true b h = refl
imp_false_l false b h = sym h

imp_false_r : (a b : Bool) → not a || b ≡ false → b ≡ false
imp_false_r true b h = h
imp_false_r false b h = never (sym h)

module _ (δ : Val) (ε : IVal) (ρ : Val) where
  abbrev pub Has : Status → Type 0
  Has unsatisfiable = ⊥
  Has (updated c g) = Agrees δ g

  worst_has : (c : Bool) (s : Status) → Has s → Has (worst c s)
  worst_has c unsatisfiable h = h
  worst_has c (updated d g) h = h

  then_has : (s : Status) (next : Fixed → Status) → Has s → ((g : Fixed) → Agrees δ g → Has (next g)) → Has (and_then s next)
  then_has unsatisfiable next h k = h
  then_has (updated c g) next h k = worst_has c (next g) (k g h)

  same_has : (f : Fixed) (b want : Bool) → Agrees δ f → b ≡ want → Has (cond (beq b want) (updated false f) unsatisfiable)
  same_has f true true h e = h
  same_has f true false h e = never (sym e)
  same_has f false true h e = never e
  same_has f false false h e = h

  fix_agrees : (f : Fixed) (v : ℕ) (b : Bool) → Agrees δ f → δ v ≡ b → Agrees δ (fix f v b)
  fix_agrees f v b h e u c = go (eqb u v) refl
    where
      go : (t : Bool) → eqb u v ≡ t → cond t (some b) (f u) ≡ some c → δ u ≡ c
      go false p q = h u c q
      go true p q = let z : u ≡ v = eqb-true u v p in cc

  var_has : (k : Option Bool) (f : Fixed) (v : ℕ) (want : Bool) → f v ≡ k → Agrees δ f → δ v ≡ want → Has (set_infeasible k v want f)
  var_has none f v want q h e = fix_agrees f v want h e
  var_has (some b) f v want q h e = same_has f b want h (sym (h v b q) ∙ e)

  -- every member is the value
  abbrev AllAre : Bool → Members → Type 0
  AllAre w mnil = Unit {0}
  AllAre w (more e ms) = (holds δ ε ρ e ≡ w) × AllAre w ms

  all_true : (ms : Members) → holds_all δ ε ρ ms ≡ true → AllAre true ms
  unfolding holds
  all_true mnil h = tt
  all_true (more e ms) h = (and_l (holds δ ε ρ e) (holds_all δ ε ρ ms) h, all_true ms (and_r (holds δ ε ρ e) (holds_all δ ε ρ ms) h))

  all_false : (ms : Members) → holds_any δ ε ρ ms ≡ false → AllAre false ms
  unfolding holds
  all_false mnil h = tt
  all_false (more e ms) h = (or_no_l (holds δ ε ρ e) (holds_any δ ε ρ ms) h, all_false ms (or_no_r (holds δ ε ρ e) (holds_any δ ε ρ ms) h))

  mutual
    unfolding prop holds

    prop_has : (e : BoolExpr) (want : Bool) (f : Fixed) → Agrees δ f → holds δ ε ρ e ≡ want → Has (prop e want f)
    prop_has (Const c) want = λ f h e. same_has f c want h e
    prop_has (Var v) want = λ f h e. var_has (f v) f v want refl h e
    prop_has (NVar n) want = λ f h e. h
    prop_has (And ms) true = λ f h e. prop_members_have ms true f h (all_true ms e)
    prop_has (And ms) false = λ f h e. h
    prop_has (Or ms) true = λ f h e. h
    prop_has (Or ms) false = λ f h e. prop_members_have ms false f h (all_false ms e)
    prop_has (Not e) want = λ f h q. prop_has e (not want) f h (not_flip (holds δ ε ρ e) want q)
    prop_has (Xor a b) want = λ f h e. h
    prop_has (Iff a b) want = λ f h e. h
    prop_has (Imp a b) true = λ f h e. h
    prop_has (Imp a b) false = λ f h e. then_has (prop a true f) (prop b false) (prop_has a true f h (imp_false_l (holds δ ε ρ a) (holds δ ε ρ b) e)) (λ g k. prop_has b false g k (imp_false_r (holds δ ε ρ a) (holds δ ε ρ b) e))
    prop_has (Cmp o a b) want = λ f h e. h

    prop_members_have : (ms : Members) (want : Bool) (f : Fixed) → Agrees δ f → AllAre want ms → Has (prop-members ms want f)
    prop_members_have mnil want = λ f h e. h
    prop_members_have (more e ms) want = λ f h q. then_has (prop e want f) (prop-members ms want) (prop_has e want f h q.0) (λ g k. prop_members_have ms want g k q.1)

  -- all statements hold
  abbrev pub Hold : List Stmt → Type 0
  Hold ss = all (stmt_holds δ ε ρ) ss ≡ true

  pub prop_stmts_have : (ss : List Stmt) (f : Fixed) → Agrees δ f → Hold ss → Has (prop-stmts ss f)
  unfolding prop-stmts stmt_holds
  prop_stmts_have [] f h e = h
  prop_stmts_have (Rule e ∷ ss) f h q = then_has (prop e true f) (prop-stmts ss) (prop_has e true f h (and_l (holds δ ε ρ e) (all (stmt_holds δ ε ρ) ss) q)) (λ g k. prop_stmts_have ss g k (and_r (holds δ ε ρ e) (all (stmt_holds δ ε ρ) ss) q))
  prop_stmts_have (Table es rows ∷ ss) f h q = prop_stmts_have ss f h (and_r (stmt_holds δ ε ρ (Table es rows)) (all (stmt_holds δ ε ρ) ss) q)
  prop_stmts_have (AllDifferent es ∷ ss) f h q = prop_stmts_have ss f h (and_r (stmt_holds δ ε ρ (AllDifferent es)) (all (stmt_holds δ ε ρ) ss) q)
