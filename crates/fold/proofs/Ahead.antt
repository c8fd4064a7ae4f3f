-- The passes may be run ahead: single statements folded and required in between, in any order, leave their end as it is,
-- for requiring is monotone and the end is the least values at rest. Assumes, of the end alone, that the statements write only Booleans below B.
use Rattle.std.specs.Prelude.{◌≡◌, Bool, not, ◌||◌, cond, eqb}
use Rattle.std.proofs.Math.Path.{refl, sym, ap}
use Rattle.std.proofs.Common.{◌∙◌, arith, eqb-true}
use Rattle.std.proofs.Math.Bool.{true, false}
use Rattle.std.specs.Bool.{beq}
use Rattle.std.proofs.Math.Option.{Option, none, some}
use mathlib.Core.List.{List, [], ◌∷◌, ◌++◌, map}
use Prim.Native.Nat.{ℕ, zero, suc, ◌<◌}
use Rattle.laws.specs.Bools.{or_no_l, or_no_r, never}
use Rattle.syntax.specs.Syntax.{Domain, BoolExpr, Const, Var, NVar, And, Or, Not, Xor, Iff, Imp, Cmp, Members, mnil, more, Stmt, Rule, Table, AllDifferent}
use Rattle.syntax.specs.Written.{EveryStmts, any_bool}
use Rattle.fold.specs.Fold.{Fixed, op_imp, action, act, fold_binary, has_const, kept, fold_not, fold_var, constant_folding_bool as fold, constant_folding_members as fold-members, constant_folding_stmt as fold-stmt}
use Rattle.fold.specs.Optimize.{Status, unsatisfiable, updated, fix, set_infeasible, worst, and_then, constant_prop_bool as prop, constant_prop_members as prop-members, constant_prop_stmts as prop-stmts, Outcome, inconsistent, settled, next_pass, passes}
use Rattle.fold.proofs.Refold.{Extends, const_or, refold_stmt, refold_stmts}
use Rattle.fold.proofs.ConstantProp.{not_flip}
use Rattle.fold.proofs.Forms.{list_of, join, fold_list, list_folding}
use Rattle.fold.proofs.Ends.{After, prop_after, prop_extends, still_steps, opens, opens_extends, Rests, passes_end}

-- ---- a single statement

-- requiring one statement: a table fixes nothing, nor does AllDifferent
abbrev pub prop_stmt : Stmt → Fixed → Status
prop_stmt (Rule e) = prop e true
prop_stmt (Table es rows) = λ f. updated false f
prop_stmt (AllDifferent es) = λ f. updated false f

idle_first : (s : Status) → s ≡ worst false s
idle_first unsatisfiable = refl
idle_first (updated c g) = refl

pub prop_stmts_more : (s : Stmt) (ss : List Stmt) (f : Fixed) → prop-stmts (s ∷ ss) f ≡ and_then (prop_stmt s f) (prop-stmts ss)
unfolding prop-stmts
prop_stmts_more (Rule e) ss f = refl
prop_stmts_more (Table es rows) ss f = idle_first (prop-stmts ss f)
prop_stmts_more (AllDifferent es) ss f = idle_first (prop-stmts ss f)

-- ---- values at rest

-- requiring the statements folded under g fixes nothing more
abbrev pub AtRest : List Domain → List Stmt → Fixed → Type 0
AtRest ds ss g = prop-stmts (map (fold-stmt ds g) ss) g ≡ updated false g

-- h has no more than any values at rest that have all of f
abbrev pub Below : List Domain → List Stmt → Fixed → Fixed → Type 0
Below ds ss f h = (g : Fixed) → Extends f g → AtRest ds ss g → Extends h g

-- no values at rest have all of f
abbrev pub NoRest : List Domain → List Stmt → Fixed → Type 0
NoRest ds ss f = (g : Fixed) → Extends f g → AtRest ds ss g → ⊥

-- ---- what fixes nothing, in parts

-- requiring fixes nothing and finds no contradiction
abbrev Quiet : Fixed → Status → Type 0
Quiet g s = s ≡ updated false g

-- whether a variable changed, or a contradiction was found
abbrev moved : Status → Bool
moved unsatisfiable = true
moved (updated c g) = c

then_quiet : (g : Fixed) (s : Status) (next : Fixed → Status) → After (λ f c g. c ≡ false → g ≡ f) g s → Quiet g (and_then s next) → Quiet g s × Quiet g (next g)
then_quiet g unsatisfiable next a q = never (sym (ap moved q))
then_quiet g (updated c h) next a q = go (next h) refl q
  where
    go : (t : Status) → next h ≡ t → Quiet g (worst c t) → Quiet g (updated c h) × Quiet g (next g)
    go unsatisfiable e q = never (sym (ap moved q))
    go (updated d k) e q =
        let m : c || d ≡ false = ap moved q in
        let z : c ≡ false = or_no_l c d m in
        let y : d ≡ false = or_no_r c d m in
        let x : h ≡ g = a z in
        let w : k ≡ g = cc in
        (cc, cc)

quiet_then : (g : Fixed) (e : BoolExpr) (want : Bool) (next : Fixed → Status) → Quiet g (and_then (prop e want g) next) → Quiet g (prop e want g) × Quiet g (next g)
quiet_then g e want next q = then_quiet g (prop e want g) next (prop_after (λ v. Unit {0}) (λ v. Unit {0}) (λ f c g. c ≡ false → g ≡ f) still_steps e want g (any_bool e)) q

const_quiet : (g : Fixed) (c want : Bool) → Quiet g (cond (beq c want) (updated false g) unsatisfiable) → c ≡ want
const_quiet g true true q = refl
const_quiet g true false q = never (sym (ap moved q))
const_quiet g false true q = never (sym (ap moved q))
const_quiet g false false q = refl

quiet_const : (g : Fixed) (c want : Bool) → c ≡ want → Quiet g (cond (beq c want) (updated false g) unsatisfiable)
quiet_const g true true e = refl
quiet_const g true false e = never (sym e)
quiet_const g false true e = never e
quiet_const g false false e = refl

-- ---- And and Or

prop_list : (b : Bool) (ms : Members) (f : Fixed) → prop (list_of b ms) (not b) f ≡ prop-members ms (not b) f
unfolding prop
prop_list false ms f = refl
prop_list true ms f = refl

then_same : (s : Status) (next next' : Fixed → Status) → ((g : Fixed) → next g ≡ next' g) → and_then s next ≡ and_then s next'
then_same unsatisfiable next next' h = refl
then_same (updated c g) next next' h = ap (worst c) (h g)

-- the members dropped are idle
prop_kept : (b : Bool) (ms : Members) → has_const b ms ≡ false → (g : Fixed) → prop-members (kept ms) (not b) g ≡ prop-members ms (not b) g
unfolding prop has_const kept
prop_kept b mnil h g = refl
prop_kept b (more e ms) h g = const_or e
    (λ c q.
    let p : beq b c || has_const b ms ≡ false = rw q at h in
    rw q (prop_kept b ms (or_no_r (beq b c) (has_const b ms) p) g ∙ idle_first (prop-members ms (not b) g) ∙ rw (quiet_const g c (not b) (other b c (or_no_l (beq b c) (has_const b ms) p))) refl))
    (λ q. let p : has_const b ms ≡ false = rw q at h in rw q (then_same (prop e (not b) g) (prop-members (kept ms) (not b)) (prop-members ms (not b)) (prop_kept b ms p)))
  where
    other : (b c : Bool) → beq b c ≡ false → c ≡ not b
    other true true h = h
    other true false h = refl
    other false true h = refl
    other false false h = sym h

prop_join : (b : Bool) (ms : Members) (g : Fixed) → Quiet g (prop (join b ms) (not b) g) → Quiet g (prop-members ms (not b) g)
unfolding prop
prop_join b mnil g q = refl
prop_join b (more e mnil) g q = rw q refl
prop_join b (more e (more e' ms)) g q = sym (prop_list b (more e (more e' ms)) g) ∙ q

list_quiet : (b : Bool) (ms : Members) (g : Fixed) → Quiet g (prop (fold_list b ms) (not b) g) → Quiet g (prop-members ms (not b) g)
unfolding fold_list prop
list_quiet b ms g q = go (has_const b ms) refl q
  where
    go : (t : Bool) → has_const b ms ≡ t → Quiet g (prop (cond t (Const b) (join b (kept ms))) (not b) g) → Quiet g (prop-members ms (not b) g)
    go true h q = never (flip b (const_quiet g b (not b) q))
      where
        flip : (b : Bool) → b ≡ not b → false ≡ true
        flip true e = sym e
        flip false e = e
    go false h q = sym (prop_kept b ms h g) ∙ prop_join b (kept ms) g q

-- ---- Not and Imp

not_quiet : (e : BoolExpr) (want : Bool) (g : Fixed) → Quiet g (prop (fold_not e) want g) → Quiet g (prop e (not want) g)
unfolding fold_not prop
not_quiet e want g q = const_or e (λ c h. rw h (quiet_const g c (not want) (not_flip c want (const_quiet g (not c) want (rw h at q))))) (λ h. rw h at q)

imp_quiet : (a b : BoolExpr) (g : Fixed) → Quiet g (prop (fold_binary op_imp a b) false g) → Quiet g (prop a true g) × Quiet g (prop b false g)
unfolding fold_binary prop
imp_quiet a b g q = const_or a
    (λ c ea. const_or b (λ d eb. rw (ea, eb) (both c d (rw (ea, eb) at q))) (λ eb. rw ea (left_known c (rw (ea, eb) at q))))
    (λ ea. const_or b (λ d eb. rw eb (right_known d (rw (ea, eb) at q))) (λ eb. quiet_then g a true (prop b false) (rw (ea, eb) at q)))
  where
    both : (c d : Bool) → Quiet g (prop (act (action op_imp (some c) (some d)) op_imp (Const c) (Const d)) false g) → Quiet g (prop (Const c) true g) × Quiet g (prop (Const d) false g)
    both true true q = never (sym (ap moved q))
    both true false q = (refl, refl)
    both false true q = never (sym (ap moved q))
    both false false q = never (sym (ap moved q))

    left_known : (c : Bool) → Quiet g (prop (act (action op_imp (some c) none) op_imp (Const c) b) false g) → Quiet g (prop (Const c) true g) × Quiet g (prop b false g)
    left_known true q = (refl, q)
    left_known false q = never (sym (ap moved q))

    right_known : (d : Bool) → Quiet g (prop (act (action op_imp none (some d)) op_imp a (Const d)) false g) → Quiet g (prop a true g) × Quiet g (prop (Const d) false g)
    right_known true q = never (sym (ap moved q))
    right_known false q = (q, refl)

-- ---- requiring is monotone: below g, what is quiet under g stays below g

module _ (ds : List Domain) (g : Fixed) where
  -- no contradiction, and values that g has too
  abbrev Under : Status → Type 0
  Under unsatisfiable = ⊥
  Under (updated c r) = Extends r g

  worst_under : (c : Bool) (s : Status) → Under s → Under (worst c s)
  worst_under c unsatisfiable h = h
  worst_under c (updated d r) h = h

  then_under : (s : Status) (next : Fixed → Status) → Under s → ((r : Fixed) → Extends r g → Under (next r)) → Under (and_then s next)
  then_under unsatisfiable next h k = h
  then_under (updated c r) next h k = worst_under c (next r) (k r h)

  const_under : (r : Fixed) (c want : Bool) → c ≡ want → Extends r g → Under (cond (beq c want) (updated false r) unsatisfiable)
  const_under r c want e x = rw (quiet_const r c want e) x

  fix_under : (r : Fixed) (v : ℕ) (b : Bool) → g v ≡ some b → Extends r g → Extends (fix r v b) g
  fix_under r v b h x u c = go (eqb u v) refl
    where
      go : (t : Bool) → eqb u v ≡ t → cond t (some b) (r u) ≡ some c → g u ≡ some c
      go false e q = x u c q
      go true e q = let z : u ≡ v = eqb-true u v e in cc

  set_under : (k : Option Bool) (r : Fixed) (v : ℕ) (want : Bool) → r v ≡ k → g v ≡ some want → Extends r g → Under (set_infeasible k v want r)
  set_under none r v want e h x = fix_under r v want h x
  set_under (some b) r v want e h x = let z : g v ≡ some b = x v b e in let y : b ≡ want = cc in const_under r b want y x

  var_quiet : (v : ℕ) (want : Bool) → Quiet g (prop (fold_var (g v) v) want g) → g v ≡ some want
  unfolding prop
  var_quiet v want q = go (g v) refl q
    where
      go : (k : Option Bool) → g v ≡ k → Quiet g (prop (fold_var k v) want g) → g v ≡ some want
      go none e q = let m : true ≡ false = ap moved (rw e at q) in never (sym m)
      go (some b) e q = let z : b ≡ want = const_quiet g b want q in cc

  mutual
    unfolding prop fold

    prop_under : (e : BoolExpr) (want : Bool) (r : Fixed) → Quiet g (prop (fold ds g e) want g) → Extends r g → Under (prop e want r)
    prop_under (Const c) want = λ r q x. const_under r c want (const_quiet g c want q) x
    prop_under (Var v) want = λ r q x. set_under (r v) r v want refl (var_quiet v want q) x
    prop_under (NVar n) want = λ r q x. x
    prop_under (And ms) true = λ r q x. members_under ms true r (list_quiet false (fold-members ds g ms) g (rw (list_folding ds g false ms) at q)) x
    prop_under (And ms) false = λ r q x. x
    prop_under (Or ms) true = λ r q x. x
    prop_under (Or ms) false = λ r q x. members_under ms false r (list_quiet true (fold-members ds g ms) g (rw (list_folding ds g true ms) at q)) x
    prop_under (Not e) want = λ r q x. prop_under e (not want) r (not_quiet (fold ds g e) want g q) x
    prop_under (Xor a b) want = λ r q x. x
    prop_under (Iff a b) want = λ r q x. x
    prop_under (Imp a b) true = λ r q x. x
    prop_under (Imp a b) false = λ r q x.
        let p = imp_quiet (fold ds g a) (fold ds g b) g q in
        then_under (prop a true r) (prop b false) (prop_under a true r p.0 x) (λ k y. prop_under b false k p.1 y)
    prop_under (Cmp o a b) want = λ r q x. x

    members_under : (ms : Members) (want : Bool) (r : Fixed) → Quiet g (prop-members (fold-members ds g ms) want g) → Extends r g → Under (prop-members ms want r)
    members_under mnil want = λ r q x. x
    members_under (more e ms) want = λ r q x.
        let p = quiet_then g (fold ds g e) want (prop-members (fold-members ds g ms) want) q in
        then_under (prop e want r) (prop-members ms want) (prop_under e want r p.0 x) (λ k y. members_under ms want k p.1 y)

  stmt_under : (s : Stmt) (r : Fixed) → Quiet g (prop_stmt (fold-stmt ds g s) g) → Extends r g → Under (prop_stmt s r)
  unfolding fold-stmt
  stmt_under (Rule e) r q x = prop_under e true r q x
  stmt_under (Table es rows) r q x = x
  stmt_under (AllDifferent es) r q x = x

  folded_under : (s : Stmt) (f r : Fixed) → Quiet g (prop_stmt (fold-stmt ds g s) g) → Extends f g → Extends r g → Under (prop_stmt (fold-stmt ds f s) r)
  folded_under s f r q y x = stmt_under (fold-stmt ds f s) r (rw (refold_stmt ds g f y s) q) x

  -- each statement is quiet where all are
  rest_more : (s : Stmt) (ss : List Stmt) → AtRest ds (s ∷ ss) g → Quiet g (prop_stmt (fold-stmt ds g s) g) × AtRest ds ss g
  unfolding fold-stmt
  rest_more (Rule e) ss q = quiet_then g (fold ds g e) true (prop-stmts (map (fold-stmt ds g) ss)) (sym (prop_stmts_more (Rule (fold ds g e)) (map (fold-stmt ds g) ss) g) ∙ q)
  rest_more (Table es rows) ss q = (refl, idle_first (prop-stmts (map (fold-stmt ds g) ss) g) ∙ sym (prop_stmts_more (fold-stmt ds g (Table es rows)) (map (fold-stmt ds g) ss) g) ∙ q)
  rest_more (AllDifferent es) ss q = (refl, idle_first (prop-stmts (map (fold-stmt ds g) ss) g) ∙ sym (prop_stmts_more (fold-stmt ds g (AllDifferent es)) (map (fold-stmt ds g) ss) g) ∙ q)

  rest_at : (before : List Stmt) (s : Stmt) (after : List Stmt) → AtRest ds (before ++ (s ∷ after)) g → Quiet g (prop_stmt (fold-stmt ds g s) g)
  rest_at [] s after q = (rest_more s after q).0
  rest_at (t ∷ before) s after q = rest_at before s after (rest_more t (before ++ (s ∷ after)) q).1

  -- a whole pass
  pass_under : (ss : List Stmt) (f r : Fixed) → AtRest ds ss g → Extends f g → Extends r g → Under (prop-stmts (map (fold-stmt ds f) ss) r)
  unfolding prop-stmts
  pass_under [] f r q y x = x
  pass_under (s ∷ ss) f r q y x =
      let p = rest_more s ss q in
      rw (prop_stmts_more (fold-stmt ds f s) (map (fold-stmt ds f) ss) r) (then_under (prop_stmt (fold-stmt ds f s) r) (prop-stmts (map (fold-stmt ds f) ss)) (folded_under s f r p.0 y x) (λ k z. pass_under ss f k p.1 y z))

  -- ---- all passes

  -- the passes settle, at values that g has too
  abbrev Reaches : Outcome → Type 0
  Reaches inconsistent = ⊥
  Reaches (settled k folded) = Extends k g

  next_reaches : (folded : List Stmt) (s : Status) (again : Fixed → Outcome) → Under s → ((k : Fixed) → Extends k g → Reaches (again k)) → Reaches (next_pass s folded again)
  next_reaches folded unsatisfiable again u h = u
  next_reaches folded (updated false k) again u h = u
  next_reaches folded (updated true k) again u h = h k u

  passes_reach : (n : ℕ) (f : Fixed) (ss : List Stmt) → Extends f g → AtRest ds ss g → Reaches (passes ds n f ss)
  unfolding passes
  passes_reach zero f ss x q = x
  passes_reach (suc n) f ss x q =
      let folded = map (fold-stmt ds f) ss in
      let q' : AtRest ds folded g = rw (refold_stmts ds g f x ss) q in
      next_reaches folded (prop-stmts folded f) (λ k. passes ds n k folded) (pass_under ss f f q x x) (λ k y. passes_reach n k folded y q')

-- ---- a step: one of the statements, folded and required under h

module _ (ds : List Domain) (before : List Stmt) (s : Stmt) (after : List Stmt) (f h : Fixed) where
  step_under : (g : Fixed) → Below ds (before ++ (s ∷ after)) f h → Extends f g → AtRest ds (before ++ (s ∷ after)) g → Under ds g (prop_stmt (fold-stmt ds h s) h)
  step_under g b x q = folded_under ds g s h h (rest_at ds g before s after q) (b g x q) (b g x q)

  -- the values grow, and stay below all at rest
  pub step_below : (h' : Fixed) (c : Bool) → Below ds (before ++ (s ∷ after)) f h → prop_stmt (fold-stmt ds h s) h ≡ updated c h' → Extends h h' × Below ds (before ++ (s ∷ after)) f h'
  unfolding prop-stmts
  step_below h' c b e = (stmt_extends, λ g x q. let u = step_under g b x q in rw e at u)
    where
      stmt_extends : Extends h h'
      stmt_extends = prop_extends (fold-stmt ds h s ∷ []) h h' (c || false) (prop_stmts_more (fold-stmt ds h s) [] h ∙ ap (λ (t : Status). and_then t (prop-stmts [])) e)

  -- a contradiction: no values at rest have all of f
  pub step_none : Below ds (before ++ (s ∷ after)) f h → prop_stmt (fold-stmt ds h s) h ≡ unsatisfiable → NoRest ds (before ++ (s ∷ after)) f
  step_none b e g x q = let u = step_under g b x q in rw e at u

-- ---- the passes may start from there

-- the passes settle, if they do, at values that have all of f
abbrev Grown : Fixed → Outcome → Type 0
Grown f inconsistent = Unit {0}
Grown f (settled k folded) = Extends f k

grown_more : (f g : Fixed) (o : Outcome) → Extends f g → Grown g o → Grown f o
grown_more f g inconsistent x y = tt
grown_more f g (settled k folded) x y = λ v b q. y v b (x v b q)

next_grown : (f : Fixed) (folded : List Stmt) (s : Status) (again : Fixed → Outcome) → prop-stmts folded f ≡ s → ((g : Fixed) → Grown g (again g)) → Grown f (next_pass s folded again)
next_grown f folded unsatisfiable again e h = tt
next_grown f folded (updated false g) again e h = prop_extends folded f g false e
next_grown f folded (updated true g) again e h = grown_more f g (again g) (prop_extends folded f g true e) (h g)

passes_grown : (ds : List Domain) (n : ℕ) (f : Fixed) (ss : List Stmt) → Grown f (passes ds n f ss)
unfolding passes
passes_grown ds zero f ss = λ v b q. q
passes_grown ds (suc n) f ss =
    let folded = map (fold-stmt ds f) ss in
    next_grown f folded (prop-stmts folded f) (λ g. passes ds n g folded) refl (λ g. passes_grown ds n g folded)

extends_both : (f g : Fixed) → Extends f g → Extends g f → f ≡ g
extends_both f g x y = λ i. λ v. go v (f v) (g v) refl refl i
  where
    go : (v : ℕ) (k l : Option Bool) → f v ≡ k → g v ≡ l → f v ≡ g v
    go v (some b) l p q = p ∙ sym (x v b p)
    go v none (some b) p q = y v b q ∙ sym q
    go v none none p q = p ∙ sym q

module _ (B : ℕ) (Q : ℕ → Type 0) (ds : List Domain) (ss : List Stmt) (low : EveryStmts (λ v. v < B) Q ss) (n : ℕ) where
  -- where the passes from f settle: at rest, with all of f
  record Settles (f k : Fixed) (folded : List Stmt) : Type 0 where
    grown : Extends f k
    rests : AtRest ds ss k
    origin : folded ≡ map (fold-stmt ds k) ss

  settles : (f k : Fixed) (folded : List Stmt) → opens B f < n → passes ds n f ss ≡ settled k folded → Settles f k folded
  settles f k folded l e =
      let r = passes_end B Q ds ss n f ss low (λ g x. refl) l in
      let r' : Rests ds ss k folded = rw e at r in
      let x = passes_grown ds n f ss in
      record { grown = rw e at x; rests = rw (sym r'.origin) r'.still; origin = r'.origin }

  -- where no values at rest have all of f, the passes meet a contradiction
  pub passes_none : (f : Fixed) → opens B f < n → NoRest ds ss f → passes ds n f ss ≡ inconsistent
  passes_none f l h = go (passes ds n f ss) refl
    where
      go : (o : Outcome) → passes ds n f ss ≡ o → o ≡ inconsistent
      go inconsistent e = refl
      go (settled k folded) e = let s = settles f k folded l e in absurd (h k s.grown s.rests)

  -- from values that are ahead, but below all at rest, the passes end as from f
  pub passes_ahead : (f h : Fixed) → opens B f < n → Extends f h → Below ds ss f h → passes ds n f ss ≡ passes ds n h ss
  passes_ahead f h l x b = go (passes ds n f ss) (passes ds n h ss) refl refl
    where
      l' : opens B h < n
      l' = omega (arith, opens_extends B f h x)

      -- the passes from f stay below where those from h settle, and the other way round
      f_reaches : (m : Fixed) (folded : List Stmt) → Settles h m folded → Reaches ds m (passes ds n f ss)
      f_reaches m folded s = passes_reach ds m n f ss (λ v c q. s.grown v c (x v c q)) s.rests

      h_reaches : (k : Fixed) (folded : List Stmt) → Settles f k folded → Reaches ds k (passes ds n h ss)
      h_reaches k folded s = passes_reach ds k n h ss (b k s.grown s.rests) s.rests

      go : (o o' : Outcome) → passes ds n f ss ≡ o → passes ds n h ss ≡ o' → o ≡ o'
      go inconsistent inconsistent e e' = refl
      go inconsistent (settled m folded') e e' = let r = f_reaches m folded' (settles h m folded' l' e') in absurd (rw e at r)
      go (settled k folded) inconsistent e e' = let r = h_reaches k folded (settles f k folded l e) in absurd (rw e' at r)
      go (settled k folded) (settled m folded') e e' =
          let s = settles f k folded l e in
          let s' = settles h m folded' l' e' in
          let r = f_reaches m folded' s' in
          let r' = h_reaches k folded s in
          let z : k ≡ m = extends_both k m (rw e at r) (rw e' at r') in
          let y : folded ≡ folded' = s.origin ∙ ap (λ (g : Fixed). map (fold-stmt ds g) ss) z ∙ sym s'.origin in
          cc
