-- The passes end: with one pass more than there are open variables the last pass changes nothing, and more passes give the same.
-- Assumes that the statements write only Booleans below B.
use Rattle.std.specs.Prelude.{◌≡◌, Bool, false, not, ◌||◌, cond, eqb}
use Rattle.std.proofs.Math.Path.{refl}
use Rattle.std.proofs.Common.{sym, ◌∙◌, arith, eqb-true}
use Rattle.std.proofs.Math.Bool.{true}
use Rattle.std.specs.Bool.{beq}
use Rattle.std.proofs.Math.Option.{Option, none, some}
use mathlib.Core.List.{List, [], ◌∷◌, map}
use Prim.Native.Nat.{ℕ, zero, suc, ◌+◌, ◌≤◌, ◌<◌}
use Rattle.std.proofs.Math.ListN.{length}
use Rattle.std.proofs.lemmas.Bool.{eqb-false}
use Rattle.laws.specs.Bools.{or_no_l, or_no_r, never}
use Rattle.syntax.specs.Syntax.{Domain, BoolExpr, Const, Var, NVar, And, Or, Not, Xor, Iff, Imp, Cmp, Members, mnil, more, Stmt, Rule, Table, AllDifferent, Problem}
use Rattle.syntax.specs.Written.{Every, EveryMember, EveryStmt, EveryStmts, AllDeclared, any_stmts, EveryOf}
use Rattle.fold.specs.Fold.{Fixed, constant_folding_stmt as fold-stmt}
use Rattle.fold.specs.Optimize.{Status, unsatisfiable, updated, fix, set_infeasible, worst, and_then, constant_prop_bool as prop, constant_prop_members as prop-members, constant_prop_stmts as prop-stmts, Outcome, inconsistent, settled, next_pass, passes, optimize}
use Rattle.fold.proofs.Refold.{Extends, refold_stmts}
use Rattle.fold.proofs.Kept.{fold_stmts_every}

-- ---- what requiring does to the fixed values

-- a relation of the values before, whether one changed, and the values after, that every step has. P: of each variable fixed
pub record Steps (P : ℕ → Type 0) (R : Fixed → Bool → Fixed → Type 0) : Type 0 where
  pub idle : (f : Fixed) → R f false f
  pub one : (f : Fixed) (v : ℕ) (b : Bool) → f v ≡ none → P v → R f true (fix f v b)
  pub then : (f g h : Fixed) (c d : Bool) → R f c g → R g d h → R f (c || d) h

abbrev pub After : (Fixed → Bool → Fixed → Type 0) → Fixed → Status → Type 0
After R f unsatisfiable = Unit {0}
After R f (updated c g) = R f c g

module _ (P Q : ℕ → Type 0) (R : Fixed → Bool → Fixed → Type 0) (steps : Steps P R) where
  worst_after : (c : Bool) (f g : Fixed) (s : Status) → R f c g → After R g s → After R f (worst c s)
  worst_after c f g unsatisfiable r a = tt
  worst_after c f g (updated d h) r a = steps.then f g h c d r a

  then_after : (f : Fixed) (s : Status) (next : Fixed → Status) → After R f s → ((g : Fixed) → After R g (next g)) → After R f (and_then s next)
  then_after f unsatisfiable next a k = tt
  then_after f (updated c g) next a k = worst_after c f g (next g) a (k g)

  same_after : (t : Bool) (f : Fixed) → After R f (cond t (updated false f) unsatisfiable)
  same_after true f = steps.idle f
  same_after false f = tt

  var_after : (k : Option Bool) (v : ℕ) (want : Bool) (f : Fixed) → f v ≡ k → P v → After R f (set_infeasible k v want f)
  var_after none v want f h p = steps.one f v want h p
  var_after (some b) v want f h p = same_after (beq b want) f

  mutual
    unfolding prop EveryOf

    pub prop_after : (e : BoolExpr) (want : Bool) (f : Fixed) → Every P Q e → After R f (prop e want f)
    prop_after (Const c) want = λ f h. same_after (beq c want) f
    prop_after (Var v) want = λ f h. var_after (f v) v want f refl h
    prop_after (NVar n) want = λ f h. steps.idle f
    prop_after (And ms) true = λ f h. prop_members_after ms true f h
    prop_after (And ms) false = λ f h. steps.idle f
    prop_after (Or ms) true = λ f h. steps.idle f
    prop_after (Or ms) false = λ f h. prop_members_after ms false f h
    prop_after (Not e) want = λ f h. prop_after e (not want) f h
    prop_after (Xor a b) want = λ f h. steps.idle f
    prop_after (Iff a b) want = λ f h. steps.idle f
    prop_after (Imp a b) true = λ f h. steps.idle f
    prop_after (Imp a b) false = λ f h. then_after f (prop a true f) (prop b false) (prop_after a true f h.0) (λ g. prop_after b false g h.1)
    prop_after (Cmp o a b) want = λ f h. steps.idle f

    prop_members_after : (ms : Members) (want : Bool) (f : Fixed) → EveryMember P Q ms → After R f (prop-members ms want f)
    prop_members_after mnil want = λ f h. steps.idle f
    prop_members_after (more e ms) want = λ f h. then_after f (prop e want f) (prop-members ms want) (prop_after e want f h.0) (λ g. prop_members_after ms want g h.1)

  pub prop_stmts_after : (ss : List Stmt) (f : Fixed) → EveryStmts P Q ss → After R f (prop-stmts ss f)
  unfolding prop-stmts EveryStmts EveryStmt
  prop_stmts_after [] f h = steps.idle f
  prop_stmts_after (Rule e ∷ ss) f h = then_after f (prop e true f) (prop-stmts ss) (prop_after e true f h.0) (λ g. prop_stmts_after ss g h.1)
  prop_stmts_after (Table es rows ∷ ss) f h = prop_stmts_after ss f h.1
  prop_stmts_after (AllDifferent es ∷ ss) f h = prop_stmts_after ss f h.1

-- ---- what is fixed stays fixed, and where nothing changed all is as it was

fix_extends : (f : Fixed) (v : ℕ) (b : Bool) → f v ≡ none → Extends f (fix f v b)
fix_extends f v b h u c q = go (eqb u v) refl
  where
    go : (t : Bool) → eqb u v ≡ t → cond t (some b) (f u) ≡ some c
    go false e = q
    go true e = let z : u ≡ v = eqb-true u v e in cc

extends_steps : Steps (λ v. Unit {0}) (λ f c g. Extends f g)
extends_steps = record {
  idle = λ f v b h. h;
  one = λ f v b h p. fix_extends f v b h;
  then = λ f g h c d p q v b e. q v b (p v b e);
}

pub prop_extends : (ss : List Stmt) (f g : Fixed) (c : Bool) → prop-stmts ss f ≡ updated c g → Extends f g
prop_extends ss f g c h =
    let a = prop_stmts_after (λ v. Unit {0}) (λ v. Unit {0}) (λ f c g. Extends f g) extends_steps ss f (any_stmts ss) in
    rw h at a

pub still_steps : Steps (λ v. Unit {0}) (λ f c g. c ≡ false → g ≡ f)
still_steps = record {
  idle = λ f e. refl;
  one = λ f v b h p e. never (sym e);
  then = λ f g h c d p q e. q (or_no_r c d e) ∙ p (or_no_l c d e);
}

prop_still : (ss : List Stmt) (f g : Fixed) → prop-stmts ss f ≡ updated false g → g ≡ f
prop_still ss f g h =
    let a = prop_stmts_after (λ v. Unit {0}) (λ v. Unit {0}) (λ f c g. c ≡ false → g ≡ f) still_steps ss f (any_stmts ss) in
    (rw h at a) refl

-- ---- each change leaves fewer variables open

abbrev is_open : Option Bool → ℕ
is_open none = 1
is_open (some b) = 0

-- how many of the first n variables are open
abbrev pub opens : ℕ → Fixed → ℕ
opens zero f = 0
opens (suc n) f = opens n f + is_open (f n)

is_open_most : (k : Option Bool) → is_open k ≤ 1
is_open_most none = omega arith
is_open_most (some b) = omega arith

pub opens_most : (n : ℕ) (f : Fixed) → opens n f ≤ n
opens_most zero f = omega arith
opens_most (suc n) f = omega (arith, opens_most n f, is_open_most (f n))

-- more values leave no more variables open
pub opens_extends : (n : ℕ) (f g : Fixed) → Extends f g → opens n g ≤ opens n f
opens_extends zero f g x = omega arith
opens_extends (suc n) f g x = omega (arith, opens_extends n f g x, go (f n) refl)
  where
    go : (k : Option Bool) → f n ≡ k → is_open (g n) ≤ is_open (f n)
    go none e = rw e (is_open_most (g n))
    go (some b) e = rw (e, x n b e) (omega arith)

fix_other : (f : Fixed) (v w : ℕ) (b : Bool) → (w ≡ v → ⊥) → fix f v b w ≡ f w
fix_other f v w b ne = go (eqb w v) refl
  where
    go : (t : Bool) → eqb w v ≡ t → cond t (some b) (f w) ≡ f w
    go false e = refl
    go true e = absurd (ne (eqb-true w v e))

opens_above : (n : ℕ) (f : Fixed) (v : ℕ) (b : Bool) → n ≤ v → opens n (fix f v b) ≡ opens n f
opens_above zero f v b h = refl
opens_above (suc n) f v b h = rw (opens_above n f v b (omega arith), fix_other f v n b (omega arith)) refl

opens_fix : (n : ℕ) (f : Fixed) (v : ℕ) (b : Bool) → f v ≡ none → v < n → suc (opens n (fix f v b)) ≡ opens n f
opens_fix zero f v b h l = absurd (omega arith)
opens_fix (suc n) f v b h l = go (eqb n v) refl (λ k. opens_fix n f v b h k)
  where
    go : (t : Bool) → eqb n v ≡ t → (v < n → suc (opens n (fix f v b)) ≡ opens n f) → suc (opens n (fix f v b) + is_open (cond t (some b) (f n))) ≡ opens n f + is_open (f n)
    go true e ih =
        let z : n ≡ v = eqb-true n v e in
        let k : f n ≡ none = cc in
        rw (opens_above n f v b (omega arith), k) (omega arith)
    go false e ih = let ne = eqb-false n v e in let k : v < n = omega arith in omega (arith, ih k)

abbrev bit : Bool → ℕ
bit true = 1
bit false = 0

module _ (B : ℕ) where
  -- a change leaves one open variable fewer at least
  abbrev pub Fewer : Fixed → Bool → Fixed → Type 0
  Fewer f c g = opens B g + bit c ≤ opens B f

  pub fewer_steps : Steps (λ v. v < B) Fewer
  fewer_steps = record {
    idle = λ f. omega arith;
    one = λ f v b h l. omega (arith, opens_fix B f v b h l);
    then = λ f g h c d p q. both f g h c d p q;
  }
    where
      both : (f g h : Fixed) (c d : Bool) → Fewer f c g → Fewer g d h → Fewer f (c || d) h
      both f g h true d p q = omega arith
      both f g h false d p q = omega arith

-- ---- the passes

-- the statements are folded under the values, and requiring them fixes nothing more
pub record Rests (ds : List Domain) (ss : List Stmt) (f : Fixed) (folded : List Stmt) : Type 0 where
  pub origin : folded ≡ map (fold-stmt ds f) ss
  pub still : prop-stmts folded f ≡ updated false f

abbrev pub Ended : List Domain → List Stmt → Outcome → Type 0
Ended ds ss inconsistent = Unit {0}
Ended ds ss (settled f folded) = Rests ds ss f folded

module _ (B : ℕ) (Q : ℕ → Type 0) (ds : List Domain) (all-ss : List Stmt) where
  -- folding ss is folding all-ss, under f and under all that extends it
  abbrev Same : Fixed → List Stmt → Type 0
  Same f ss = (g : Fixed) → Extends f g → map (fold-stmt ds g) ss ≡ map (fold-stmt ds g) all-ss

  same_folded : (f g : Fixed) (ss : List Stmt) → Same f ss → Extends f g → Same g (map (fold-stmt ds f) ss)
  same_folded f g ss h e k d = refold_stmts ds k f (λ v b q. d v b (e v b q)) ss ∙ h k (λ v b q. d v b (e v b q))

  next_ends : (n : ℕ) (f : Fixed) (folded : List Stmt) (s : Status) (again : Fixed → Outcome) → prop-stmts folded f ≡ s → folded ≡ map (fold-stmt ds f) all-ss → opens B f ≤ n → After (Fewer B) f s → ((g : Fixed) → Extends f g → opens B g < n → Ended ds all-ss (again g)) → Ended ds all-ss (next_pass s folded again)
  next_ends n f folded unsatisfiable again h o l a k = tt
  next_ends n f folded (updated false g) again h o l a k =
      let z : g ≡ f = prop_still folded f g h in
      record { origin = rw z o; still = rw z (rw z at h) }
  next_ends n f folded (updated true g) again h o l a k = k g (prop_extends folded f g true h) (omega arith)

  pub passes_end : (n : ℕ) (f : Fixed) (ss : List Stmt) → EveryStmts (λ v. v < B) Q ss → Same f ss → opens B f < n → Ended ds all-ss (passes ds n f ss)
  unfolding passes
  passes_end zero f ss w h l = absurd (omega arith)
  passes_end (suc n) f ss w h l =
      let folded = map (fold-stmt ds f) ss in
      let w' = fold_stmts_every (λ v. v < B) Q ds f ss w in
      next_ends n f folded (prop-stmts folded f) (λ g. passes ds n g folded) refl (h f (λ v b q. q)) (omega arith) (prop_stmts_after (λ v. v < B) Q (Fewer B) (fewer_steps B) folded f w') (λ g e k. passes_end n g folded w' (same_folded f g ss h e) k)

module _ (B : ℕ) (Q : ℕ → Type 0) (ds : List Domain) where
  next_more : (n : ℕ) (f : Fixed) (folded : List Stmt) (s : Status) (again again' : Fixed → Outcome) → opens B f ≤ n → After (Fewer B) f s → ((g : Fixed) → opens B g < n → again g ≡ again' g) → next_pass s folded again ≡ next_pass s folded again'
  next_more n f folded unsatisfiable again again' l a k = refl
  next_more n f folded (updated false g) again again' l a k = refl
  next_more n f folded (updated true g) again again' l a k = k g (omega arith)

  passes_more : (m n : ℕ) (f : Fixed) (ss : List Stmt) → EveryStmts (λ v. v < B) Q ss → opens B f < n → n ≤ m → passes ds m f ss ≡ passes ds n f ss
  unfolding passes
  passes_more m zero f ss w l k = absurd (omega arith)
  passes_more zero (suc n) f ss w l k = absurd (omega arith)
  passes_more (suc m) (suc n) f ss w l k =
      let folded = map (fold-stmt ds f) ss in
      let w' = fold_stmts_every (λ v. v < B) Q ds f ss w in
      next_more n f folded (prop-stmts folded f) (λ g. passes ds m g folded) (λ g. passes ds n g folded) (omega arith) (prop_stmts_after (λ v. v < B) Q (Fewer B) (fewer_steps B) folded f w') (λ g j. passes_more m n g folded w' j (omega arith))

-- a pass may fold the original statements: folded ones give the same
pub passes_original : (ds : List Domain) (n : ℕ) (f g : Fixed) (ss : List Stmt) → Extends f g → passes ds (suc n) g (map (fold-stmt ds f) ss) ≡ passes ds (suc n) g ss
unfolding passes
passes_original ds n f g ss e = rw (refold_stmts ds g f e ss) refl

-- ---- the whole

module _ (p : Problem) (declared : AllDeclared p) where
  pub optimize_rests : (f : Fixed) (ss : List Stmt) → optimize p ≡ settled f ss → Rests p.domains p.stmts f ss
  unfolding optimize
  optimize_rests f ss h =
      let r = passes_end p.bools (λ v. v < length p.domains) p.domains p.stmts (suc p.bools) (λ v. none) p.stmts declared (λ g e. refl) (omega (arith, opens_most p.bools (λ v. none))) in
      rw h at r

  pub optimize_more : (n : ℕ) → p.bools < n → passes p.domains n (λ v. none) p.stmts ≡ optimize p
  unfolding optimize
  optimize_more n l = passes_more p.bools (λ v. v < length p.domains) p.domains n (suc p.bools) (λ v. none) p.stmts declared (omega (arith, opens_most p.bools (λ v. none))) l
