-- What holds of the definitions of specs/Merge.
use Rattle.std.specs.Prelude.{◌≡◌, Bool, not, cond, ℕ, eqb}
use Rattle.std.proofs.Math.Path.{refl}
use Rattle.std.proofs.Common.{sym, ap, ◌∙◌, eqb-true, eq-eqb}
use Rattle.std.proofs.Math.Bool.{true, false}
use Rattle.std.specs.Bool.{beq}
use Rattle.std.proofs.Math.Option.{Option, none, some}
use mathlib.Core.List.{List, [], ◌∷◌}
use Rattle.laws.specs.Bools.{and_l, and_r, beq_eq, never}
use Rattle.laws.specs.Lists.{all}
use Rattle.syntax.specs.Written.{Any}
use Rattle.clauses.proofs.Entries.{WellMade}
use Rattle.syntax.specs.Syntax.{Domain, IntExpr, BoolExpr, Const, Var, NVar, And, Or, Not, Xor, Iff, Imp, Cmp, Stmt, Rule, Table, AllDifferent}
use Rattle.syntax.specs.Satisfies.{Val, IVal, holds, stmt_holds}
use Rattle.clauses.specs.Clause.{negate_if, BoolLit, lit, lit_true}
use Rattle.clauses.specs.Log.{declared, aux, side, bool, merged, int, added, defined, known, Log, next_bool, next_int, negate_lit, get_bool_var, get_if, clauses_of}
use Rattle.clauses.specs.Valuation.{Agrees, negated_true}
use Rattle.clauses.proofs.Grow.{Extends, Lawful}
use Rattle.clauses.proofs.Exist.{TiesHold}
use Rattle.clauses.specs.Merge.{WellMerged, as_var, merge_rule, merge_stmts, tie, tie_found}

module _ (δ : Val) where
  found_hold : (o p : Option BoolLit) (x y : ℕ) (g : Bool) (s : Log) → δ y ≡ negate_if g (δ x) → δ x ≡ negate_if g (δ y) → TiesHold δ s → TiesHold δ (tie_found o p x y g s)
  found_hold (some l) (some m) x y g s a b h = h
  found_hold (some l) none x y g s a b h = (a, h)
  found_hold none (some m) x y g s a b h = (b, h)
  found_hold none none x y g s a b h = (a, h)

  apart_hold : (t : Bool) (s r : Log) → TiesHold δ s → TiesHold δ r → TiesHold δ (cond t s r)
  apart_hold true s r h k = h
  apart_hold false s r h k = k

  -- what as-var finds has the expression's value
  abbrev Is : Option ℕ → Bool → Type 0
  Is none b = Unit {0}
  Is (some v) b = δ v ≡ b

  tie_holds : (x y : Option ℕ) (g : Bool) (s : Log) (a b : Bool) → Is x a → Is y b → b ≡ negate_if g a → a ≡ negate_if g b → TiesHold δ s → TiesHold δ (tie x y g s)
  unfolding tie
  tie_holds none y g s a b p q e f h = h
  tie_holds (some x) none g s a b p q e f h = h
  tie_holds (some x) (some y) g s a b p q e f h = apart_hold (eqb x y) s _ h (found_hold (get_bool_var x s) (get_bool_var y s) x y g s (rw (p, q) e) (rw (p, q) f) h)

  module _ (ε : IVal) (ρ : Val) where
    var_is : (e : BoolExpr) → Is (as_var e) (holds δ ε ρ e)
    unfolding holds
    var_is (Const b) = tt
    var_is (Var v) = refl
    var_is (NVar n) = tt
    var_is (And ms) = tt
    var_is (Or ms) = tt
    var_is (Not e) = tt
    var_is (Xor a b) = tt
    var_is (Iff a b) = tt
    var_is (Imp a b) = tt
    var_is (Cmp o a b) = tt

    not_same : (a b : Bool) → not (beq a b) ≡ true → (b ≡ not a) × (a ≡ not b)
    not_same true true h = never h
    not_same true false h = (refl, refl)
    not_same false true h = (refl, refl)
    not_same false false h = never h

    rule_holds : (e : BoolExpr) (s : Log) → holds δ ε ρ e ≡ true → TiesHold δ s → TiesHold δ (merge_rule e s)
    unfolding merge_rule holds
    rule_holds (Const b) s h t = t
    rule_holds (Var v) s h t = t
    rule_holds (NVar n) s h t = t
    rule_holds (And ms) s h t = t
    rule_holds (Or ms) s h t = t
    rule_holds (Not e) s h t = t
    rule_holds (Xor a b) s h t = let n = not_same (holds δ ε ρ a) (holds δ ε ρ b) h in tie_holds (as_var a) (as_var b) true s (holds δ ε ρ a) (holds δ ε ρ b) (var_is a) (var_is b) n.0 n.1 t
    rule_holds (Iff a b) s h t = let e = beq_eq (holds δ ε ρ a) (holds δ ε ρ b) h in tie_holds (as_var a) (as_var b) false s (holds δ ε ρ a) (holds δ ε ρ b) (var_is a) (var_is b) (sym e) e t
    rule_holds (Imp a b) s h t = t
    rule_holds (Cmp o a b) s h t = t

    pub merge_holds : (ss : List Stmt) (s : Log) → all (stmt_holds δ ε ρ) ss ≡ true → TiesHold δ s → TiesHold δ (merge_stmts ss s)
    unfolding merge_stmts stmt_holds
    merge_holds [] s h t = t
    merge_holds (Rule e ∷ ss) s h t = merge_holds ss (merge_rule e s) (and_r (holds δ ε ρ e) _ h) (rule_holds e s (and_l (holds δ ε ρ e) _ h) t)
    merge_holds (Table es rows ∷ ss) s h t = merge_holds ss s (and_r (stmt_holds δ ε ρ (Table es rows)) _ h) t
    merge_holds (AllDifferent es ∷ ss) s h t = merge_holds ss s (and_r (stmt_holds δ ε ρ (AllDifferent es)) _ h) t

-- ---- what the maps say of each variable is what each entry says

-- a lookup that is not of the newest
past : {X : Type 0} (k : X) (n : X) (v w : ℕ) (o p : Option X) → (v ≡ w → o ≡ p) → p ≡ none → o ≡ some n → (q : Option X) (b : Bool) → eqb v w ≡ b → cond b q o ≡ some n
past k n v w o p f l h q false e = h
past k n v w o p f l h q true e = let z : o ≡ p = f (eqb-true v w e) in cc

pub merged_agree : (δ : Val) (ε : IVal) (ρ : Val) (ι : IVal) (s : Log) → WellMerged s → ((v : ℕ) (l : BoolLit) → get_bool_var v s ≡ some l → lit_true ρ l ≡ δ v) → Agrees δ ε ρ ι s
unfolding get_bool_var
merged_agree δ ε ρ ι [] w f = tt
merged_agree δ ε ρ ι (bool (declared v) ∷ s) w f = (f v (lit (next_bool s) false) (rw (eq-eqb v v refl) refl), merged_agree δ ε ρ ι s w.1 (λ u l h. f u l (past l l u v (get_bool_var u s) (get_bool_var v s) (λ q. rw q refl) w.0 h _ (eqb u v) refl)))
merged_agree δ ε ρ ι (merged v u g ∷ s) w f =
    let l : BoolLit = w.1.0.literal in
    let has : get_bool_var u s ≡ some l = w.1.0.has in
    let there : lit_true ρ (negate_lit g l) ≡ δ v = f v (negate_lit g l) (rw (eq-eqb v v refl, has) refl) in
    let other : lit_true ρ l ≡ δ u = f u l (past l l u v (get_bool_var u s) (get_bool_var v s) (λ q. rw q refl) w.0 has _ (eqb u v) refl) in
    (sym there ∙ negated_true ρ g l ∙ ap (negate_if g) other, merged_agree δ ε ρ ι s w.1.1 (λ x m h. f x m (past m m x v (get_bool_var x s) (get_bool_var v s) (λ q. rw q refl) w.0 h _ (eqb x v) refl)))
merged_agree δ ε ρ ι (bool (aux cs) ∷ s) w f = absurd w
merged_agree δ ε ρ ι (bool (side e) ∷ s) w f = absurd w
merged_agree δ ε ρ ι (int m ∷ s) w f = absurd w
merged_agree δ ε ρ ι (added cs ∷ s) w f = absurd w
merged_agree δ ε ρ ι (defined cs ∷ s) w f = absurd w
merged_agree δ ε ρ ι (known e n ∷ s) w f = absurd w

-- ---- the pass gives such a log

found_well : (x y : ℕ) (g : Bool) (s : Log) (a b : Option BoolLit) → get_bool_var x s ≡ a → get_bool_var y s ≡ b → eqb x y ≡ false → WellMerged s → WellMerged (tie_found a b x y g s)
unfolding get_bool_var
found_well x y g s (some l) (some m) p q d w = w
found_well x y g s (some l) none p q d w = (q, (record { literal = l; has = p }, w))
found_well x y g s none (some m) p q d w = (p, (record { literal = m; has = q }, w))
found_well x y g s none none p q d w =
    let e : eqb y x ≡ false = flip x y d in
    (rw e q, (record { literal = lit (next_bool s) false; has = rw (eq-eqb x x refl) refl }, (p, w)))
  where
    flip : (x y : ℕ) → eqb x y ≡ false → eqb y x ≡ false
    flip x y h = go (eqb y x) refl
      where
        go : (t : Bool) → eqb y x ≡ t → t ≡ false
        go false e = refl
        go true e = sym (eq-eqb x y (sym (eqb-true y x e))) ∙ h

tie_well : (a b : Option ℕ) (g : Bool) (s : Log) → WellMerged s → WellMerged (tie a b g s)
unfolding tie
tie_well none b g s w = w
tie_well (some x) none g s w = w
tie_well (some x) (some y) g s w = go (eqb x y) refl
  where
    go : (t : Bool) → eqb x y ≡ t → WellMerged (cond t s (tie_found (get_bool_var x s) (get_bool_var y s) x y g s))
    go true e = w
    go false e = found_well x y g s (get_bool_var x s) (get_bool_var y s) refl refl e w

rule_well : (e : BoolExpr) (s : Log) → WellMerged s → WellMerged (merge_rule e s)
unfolding merge_rule
rule_well (Const b) s w = w
rule_well (Var v) s w = w
rule_well (NVar n) s w = w
rule_well (And ms) s w = w
rule_well (Or ms) s w = w
rule_well (Not e) s w = w
rule_well (Xor a b) s w = tie_well (as_var a) (as_var b) true s w
rule_well (Iff a b) s w = tie_well (as_var a) (as_var b) false s w
rule_well (Imp a b) s w = w
rule_well (Cmp o a b) s w = w

pub merge_well : (ss : List Stmt) (s : Log) → WellMerged s → WellMerged (merge_stmts ss s)
unfolding merge_stmts
merge_well [] s w = w
merge_well (Rule e ∷ ss) s w = merge_well ss (merge_rule e s) (rule_well e s w)
merge_well (Table es rows ∷ ss) s w = merge_well ss s w
merge_well (AllDifferent es ∷ ss) s w = merge_well ss s w

-- ---- it has no integers

pub merged_no_ints : (s : Log) → WellMerged s → next_int s ≡ 0
merged_no_ints [] w = refl
merged_no_ints (bool (declared v) ∷ s) w = merged_no_ints s w.1
merged_no_ints (merged v u g ∷ s) w = merged_no_ints s w.1.1
merged_no_ints (bool (aux cs) ∷ s) w = absurd w
merged_no_ints (bool (side e) ∷ s) w = absurd w
merged_no_ints (int m ∷ s) w = absurd w
merged_no_ints (added cs ∷ s) w = absurd w
merged_no_ints (defined cs ∷ s) w = absurd w
merged_no_ints (known e n ∷ s) w = absurd w

pub merged_no_clauses : (s : Log) → WellMerged s → clauses_of s ≡ []
unfolding clauses_of
merged_no_clauses [] w = refl
merged_no_clauses (bool (declared v) ∷ s) w = merged_no_clauses s w.1
merged_no_clauses (bool (aux cs) ∷ s) w = absurd w
merged_no_clauses (bool (side e) ∷ s) w = absurd w
merged_no_clauses (merged v u g ∷ s) w = merged_no_clauses s w.1.1
merged_no_clauses (int m ∷ s) w = absurd w
merged_no_clauses (added cs ∷ s) w = absurd w
merged_no_clauses (defined cs ∷ s) w = absurd w
merged_no_clauses (known e n ∷ s) w = absurd w

pub merged_no_ifs : (s : Log) → WellMerged s → (e : IntExpr) → get_if e s ≡ none
unfolding get_if
merged_no_ifs [] w x = refl
merged_no_ifs (bool (declared v) ∷ s) w x = merged_no_ifs s w.1 x
merged_no_ifs (bool (aux cs) ∷ s) w x = absurd w
merged_no_ifs (bool (side e) ∷ s) w x = absurd w
merged_no_ifs (merged v u g ∷ s) w x = merged_no_ifs s w.1.1 x
merged_no_ifs (int m ∷ s) w x = absurd w
merged_no_ifs (added cs ∷ s) w x = absurd w
merged_no_ifs (defined cs ∷ s) w x = absurd w
merged_no_ifs (known e n ∷ s) w x = absurd w

-- whatever grows from it is lawful
pub merged_lawful : {δ : Val} {ε : IVal} {s0 s : Log} → WellMerged s0 → Extends δ ε s0 s → Lawful δ ε s
merged_lawful {s0 = s0} w g = record { start = s0; empty = merged_no_ints s0 w; fresh = merged_no_ifs s0 w; grows = g }

-- and well made, whatever is asked of integers
pub merged_made : (ds : List Domain) (Q : ℕ → Type 0) (s : Log) → WellMerged s → WellMade ds Any Q s
merged_made ds Q [] w = tt
merged_made ds Q (bool (declared v) ∷ s) w = (tt, merged_made ds Q s w.1)
merged_made ds Q (bool (aux cs) ∷ s) w = absurd w
merged_made ds Q (bool (side e) ∷ s) w = absurd w
merged_made ds Q (merged v u g ∷ s) w = (tt, merged_made ds Q s w.1.1)
merged_made ds Q (int m ∷ s) w = absurd w
merged_made ds Q (added cs ∷ s) w = absurd w
merged_made ds Q (defined cs ∷ s) w = absurd w
merged_made ds Q (known e n ∷ s) w = absurd w
