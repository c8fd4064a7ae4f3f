-- The shape of a folded rule: a constant stands only at its root, And and Or have two members at least.
-- Where the passes settle, a root constant is true, and a comparison's sides and a table's columns are folded.
use Rattle.std.specs.Prelude.{◌≡◌, Bool, cond, ℕ, ◌≤◌}
use Rattle.std.proofs.Math.Path.{refl}
use Rattle.std.proofs.Math.Bool.{true, false}
use Rattle.std.proofs.Math.Option.{Option, none, some}
use mathlib.Core.List.{List, [], ◌∷◌, map}
use native.Mathlib.Omega.{arith}
use Rattle.syntax.specs.Syntax.{Domain, BoolExpr, Const, Var, NVar, And, Or, Not, Xor, Iff, Imp, Cmp, Members, mnil, more, count_members, Stmt, Rule, Table, AllDifferent, Problem}
use Rattle.syntax.specs.Written.{AllDeclared}
use Rattle.fold.specs.Fold.{Fixed, is_const, Op, op_xor, op_iff, op_imp, action, act, fold_binary, has_const, kept, join_and, join_or, fold_and, fold_or, fold_not, fold_var, constant_folding_int as fold-int, constant_folding_bool as fold, constant_folding_members as fold-members, constant_folding_stmt as fold-stmt}
use Rattle.fold.specs.Optimize.{Status, unsatisfiable, updated, worst, and_then, constant_prop_bool as prop, constant_prop_stmts as prop-stmts, settled, optimize}
use Rattle.fold.proofs.Refold.{const_or, refold_int, refold_columns}
use Rattle.fold.proofs.Ends.{Rests, optimize_rests}

module _ (ds : List Domain) (f : Fixed) where
  -- no constant anywhere, two members at least, integers folded
  unfoldable mutual
    pub Solid : BoolExpr → Type 0
    Solid (Const b) = ⊥
    Solid (Var v) = Unit {0}
    Solid (NVar n) = Unit {0}
    Solid (And ms) = (2 ≤ count_members ms) × SolidMembers ms
    Solid (Or ms) = (2 ≤ count_members ms) × SolidMembers ms
    Solid (Not e) = Solid e
    Solid (Xor a b) = Solid a × Solid b
    Solid (Iff a b) = Solid a × Solid b
    Solid (Imp a b) = Solid a × Solid b
    Solid (Cmp o a b) = (fold-int ds f a ≡ a) × (fold-int ds f b ≡ b)

    pub SolidMembers : Members → Type 0
    SolidMembers mnil = Unit {0}
    SolidMembers (more e ms) = Solid e × SolidMembers ms

  -- a constant, or solid
  abbrev Root : Option Bool → BoolExpr → Type 0
  Root (some b) e = Unit {0}
  Root none e = Solid e

  abbrev pub Folded : BoolExpr → Type 0
  Folded e = Root (is_const e) e

  unfoldable pub FoldedMembers : Members → Type 0
  FoldedMembers mnil = Unit {0}
  FoldedMembers (more e ms) = Folded e × FoldedMembers ms

  solid : (e : BoolExpr) → Folded e → is_const e ≡ none → Solid e
  solid e h q = rw q at h

  solid_folded : (e : BoolExpr) → Solid e → Folded e
  solid_folded e h = const_or e (λ b q. rw q tt) (λ q. rw q h)

  -- ---- the steps of folding

  known_folded : (o : Op) (c d : Bool) → Folded (fold_binary o (Const c) (Const d))
  unfolding fold_binary
  known_folded op_xor false false = tt
  known_folded op_xor false true = tt
  known_folded op_xor true false = tt
  known_folded op_xor true true = tt
  known_folded op_iff false false = tt
  known_folded op_iff false true = tt
  known_folded op_iff true false = tt
  known_folded op_iff true true = tt
  known_folded op_imp false false = tt
  known_folded op_imp false true = tt
  known_folded op_imp true false = tt
  known_folded op_imp true true = tt

  left_folded : (o : Op) (c : Bool) (e : BoolExpr) → Solid e → Folded (act (action o (some c) none) o (Const c) e)
  unfolding Solid
  left_folded op_xor false e h = solid_folded e h
  left_folded op_xor true e h = h
  left_folded op_iff false e h = h
  left_folded op_iff true e h = solid_folded e h
  left_folded op_imp false e h = tt
  left_folded op_imp true e h = solid_folded e h

  right_folded : (o : Op) (c : Bool) (e : BoolExpr) → Solid e → Folded (act (action o none (some c)) o e (Const c))
  unfolding Solid
  right_folded op_xor false e h = solid_folded e h
  right_folded op_xor true e h = h
  right_folded op_iff false e h = h
  right_folded op_iff true e h = solid_folded e h
  right_folded op_imp false e h = h
  right_folded op_imp true e h = tt

  unknown_folded : (o : Op) (a b : BoolExpr) → Solid a → Solid b → Folded (act (action o none none) o a b)
  unfolding Solid
  unknown_folded op_xor a b h g = (h, g)
  unknown_folded op_iff a b h g = (h, g)
  unknown_folded op_imp a b h g = (h, g)

  binary_folded : (o : Op) (a b : BoolExpr) → Folded a → Folded b → Folded (fold_binary o a b)
  unfolding fold_binary
  binary_folded o a b h g =
      const_or a
      (λ c p. const_or b (λ d q. rw (p, q) (known_folded o c d)) (λ q. let s = solid b g q in rw (p, q) (left_folded o c b s)))
      (λ p. let r = solid a h p in const_or b (λ d q. rw (q, p) (right_folded o d a r)) (λ q. let s = solid b g q in rw (p, q) (unknown_folded o a b r s)))

  not_folded : (e : BoolExpr) → Folded e → Folded (fold_not e)
  unfolding fold_not Solid
  not_folded e h = const_or e (λ b q. rw q tt) (λ q. let s = solid e h q in rw q s)

  kept_solid : (ms : Members) → FoldedMembers ms → SolidMembers (kept ms)
  unfolding kept FoldedMembers Solid
  kept_solid mnil h = tt
  kept_solid (more e ms) h =
      let rest = kept_solid ms h.1 in
      const_or e (λ b q. rw q rest) (λ q. let s = solid e h.0 q in rw q (s, rest))

  join_and_folded : (ms : Members) → SolidMembers ms → Folded (join_and ms)
  unfolding Solid
  join_and_folded mnil h = tt
  join_and_folded (more e mnil) h = solid_folded e h.0
  join_and_folded (more e (more e' ms)) h = (omega arith, h)

  join_or_folded : (ms : Members) → SolidMembers ms → Folded (join_or ms)
  unfolding Solid
  join_or_folded mnil h = tt
  join_or_folded (more e mnil) h = solid_folded e h.0
  join_or_folded (more e (more e' ms)) h = (omega arith, h)

  and_folded : (ms : Members) → FoldedMembers ms → Folded (fold_and ms)
  unfolding fold_and
  and_folded ms h = go (has_const false ms)
    where
      go : (t : Bool) → Folded (cond t (Const false) (join_and (kept ms)))
      go true = tt
      go false = join_and_folded (kept ms) (kept_solid ms h)

  or_folded : (ms : Members) → FoldedMembers ms → Folded (fold_or ms)
  unfolding fold_or
  or_folded ms h = go (has_const true ms)
    where
      go : (t : Bool) → Folded (cond t (Const true) (join_or (kept ms)))
      go true = tt
      go false = join_or_folded (kept ms) (kept_solid ms h)

  var_folded : (k : Option Bool) (v : ℕ) → Folded (fold_var k v)
  unfolding Solid
  var_folded none v = tt
  var_folded (some b) v = tt

  mutual
    unfolding fold Solid FoldedMembers

    pub fold_folded : (e : BoolExpr) → Folded (fold ds f e)
    fold_folded (Const b) = tt
    fold_folded (Var v) = var_folded (f v) v
    fold_folded (NVar n) = tt
    fold_folded (And ms) = and_folded (fold-members ds f ms) (fold_members_folded ms)
    fold_folded (Or ms) = or_folded (fold-members ds f ms) (fold_members_folded ms)
    fold_folded (Not e) = not_folded (fold ds f e) (fold_folded e)
    fold_folded (Xor a b) = binary_folded op_xor (fold ds f a) (fold ds f b) (fold_folded a) (fold_folded b)
    fold_folded (Iff a b) = binary_folded op_iff (fold ds f a) (fold ds f b) (fold_folded a) (fold_folded b)
    fold_folded (Imp a b) = binary_folded op_imp (fold ds f a) (fold ds f b) (fold_folded a) (fold_folded b)
    fold_folded (Cmp o a b) = (refold_int ds f f (λ v b q. q) a, refold_int ds f f (λ v b q. q) b)

    fold_members_folded : (ms : Members) → FoldedMembers (fold-members ds f ms)
    fold_members_folded mnil = tt
    fold_members_folded (more e ms) = (fold_folded e, fold_members_folded ms)

  -- ---- where the passes settle

  -- the constant true, or solid
  abbrev SettledRoot : Option Bool → BoolExpr → Type 0
  SettledRoot (some b) e = b ≡ true
  SettledRoot none e = Solid e

  unfoldable pub SettledStmts : List Stmt → Type 0
  SettledStmts [] = Unit {0}
  SettledStmts (Rule e ∷ ss) = SettledRoot (is_const e) e × SettledStmts ss
  SettledStmts (Table es rows ∷ ss) = (map (fold-int ds f) es ≡ es) × SettledStmts ss
  SettledStmts (AllDifferent es ∷ ss) = (map (fold-int ds f) es ≡ es) × SettledStmts ss

  -- requiring met no contradiction
  abbrev Satisfiable : Status → Type 0
  Satisfiable unsatisfiable = ⊥
  Satisfiable (updated c g) = Unit {0}

  then_fine : {X : Type 0} (s : Status) (next : Fixed → Status) → Satisfiable (and_then s next) → ((g : Fixed) → Satisfiable s → Satisfiable (next g) → X) → X
  then_fine unsatisfiable next h k = absurd h
  then_fine (updated c g) next h k = k g tt (go (next g) h)
    where
      go : (t : Status) → Satisfiable (worst c t) → Satisfiable t
      go unsatisfiable q = q
      go (updated d g') q = tt

  root_true : (b : Bool) (f : Fixed) → Satisfiable (prop (Const b) true f) → b ≡ true
  unfolding prop
  root_true true f h = refl
  root_true false f h = absurd h

  root_settled : (e : BoolExpr) (g : Fixed) → Folded e → Satisfiable (prop e true g) → SettledRoot (is_const e) e
  root_settled e g h fine = const_or e (λ b q. let r = root_true b g (rw q at fine) in rw q r) (λ q. let s = solid e h q in rw q s)

  settled_stmts : (ss : List Stmt) (g : Fixed) → Satisfiable (prop-stmts (map (fold-stmt ds f) ss) g) → SettledStmts (map (fold-stmt ds f) ss)
  unfolding prop-stmts fold-stmt SettledStmts
  settled_stmts [] g fine = tt
  settled_stmts (Rule e ∷ ss) g fine = then_fine (prop (fold ds f e) true g) (prop-stmts (map (fold-stmt ds f) ss)) fine (λ g' a b. (root_settled (fold ds f e) g (fold_folded e) a, settled_stmts ss g' b))
  settled_stmts (Table es rows ∷ ss) g fine = (refold_columns ds f f (λ v b q. q) es, settled_stmts ss g fine)
  settled_stmts (AllDifferent es ∷ ss) g fine = (refold_columns ds f f (λ v b q. q) es, settled_stmts ss g fine)

  pub settled_shape : (ss folded : List Stmt) → Rests ds ss f folded → SettledStmts folded
  settled_shape ss folded r =
      let h : prop-stmts (map (fold-stmt ds f) ss) f ≡ updated false f = rw r.origin at r.still in
      rw r.origin (settled_stmts ss f (rw h tt))

module _ (p : Problem) (declared : AllDeclared p) (f : Fixed) (ss : List Stmt) (end : optimize p ≡ settled f ss) where
  pub optimize_shape : SettledStmts p.domains f ss
  optimize_shape = settled_shape p.domains f p.stmts ss (optimize_rests p declared f ss end)
