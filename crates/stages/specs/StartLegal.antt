-- What the passes leave of a set as read is legal for the walks (`settled_legal`): rules are true or solid, integers are folded, so that the condition of an
-- If is no constant; levels, declared variables and the absence of emitted numbers are those of reading.
use Rattle.std.specs.Prelude.{◌≡◌, Bool, ℕ, suc, ◌-◌, ◌≤◌, ◌<◌, max, ℤ, pos}
use Rattle.std.proofs.Math.Path.{refl, ap, subst}
use Rattle.std.proofs.Common.{sym, arith}
use Rattle.std.proofs.Math.Bool.{true, false, cond}
use Rattle.std.proofs.lemmas.Bool.{false≢true}
use Rattle.std.proofs.Math.Option.{Option, none, some}
use mathlib.Core.List.{List, [], ◌∷◌, map}
use Rattle.std.proofs.Math.ListN.{length, length-append}
use Rattle.laws.specs.Ints.{eqZ}
use Rattle.syntax.specs.Syntax.{IfIsRead, Domain, IntExpr, IConst, IVar, Linear, If, Terms, tnil, tmore, BoolExpr, Const, Var, NVar, And, Or, Not, Xor, Iff, Imp, Cmp, Members, mnil, more, encode_int, encode_terms, Stmt, Rule, Table, AllDifferent, Problem}
use Rattle.syntax.specs.Depth.{depth_int, depth_terms, depth, depth_members}
use Rattle.syntax.specs.Written.{Any, EveryIntOf, EveryTermOf, EveryOf, EveryMemberOf, EveryColumnOf, EveryStmt, EveryStmts, every_stmts_map}
use Rattle.syntax.specs.Words.{max_bools, max_ints}
use Rattle.words.specs.Exact.{Each}
use Rattle.read.specs.WellFormed.{WellFormed}
use Rattle.fold.specs.Fold.{Fixed, is_const, fold_if, constant_folding_int as fold-int, constant_folding_terms as fold-terms, constant_folding_bool as fold, constant_folding_stmt as fold-stmt}
use Rattle.fold.specs.Optimize.{settled, optimize}
use Rattle.fold.proofs.Ends.{optimize_rests}
use Rattle.fold.proofs.Shape.{Solid, SolidMembers, fold_folded, SettledStmts, settled_shape}
use Rattle.fold.proofs.Kept.{if_length, fold_int_size, fold_int_depth, fold_depth}
use Rattle.clauses.proofs.Bounds.{expr_bound, members_bound, int_bound, terms_numbers, NoNumbers}
use Rattle.call.specs.WellRead.{well_declared, Plain}
use Rattle.walks.specs.Thirds.{most_first, most_second, most_third}
use Rattle.walks.specs.Legal.{LegalInt, LegalTerms, Legal, LegalMembers, LegalRule, true_rule, legal_rule}
use Rattle.statements.specs.Settled.{settled_declared, settled_plain}
use Rattle.stages.specs.StatementsPlaces.{LegalStmt}
use Rattle.stages.specs.StartDepth.{Shallow, well_shallow}

under : (k l : ℕ) → suc k ≤ l → (0 < l) × (k ≤ l - 1)
under k l h = (omega arith, omega arith)

-- f: the fixed values
module _ (ds : List Domain) (f : Fixed) where
  -- ---- a folded sum has folded terms, a folded If folded parts and an unknown condition

  sum_longer : (k : ℤ) (e : IntExpr) → length (encode_int e) < length (encode_int (Linear (tmore k e tnil)))
  unfolding encode_int
  sum_longer k e = omega (arith, length-append (encode_int e) (encode_terms tnil))

  sum_folded : (ts : Terms) → fold-int ds f (Linear ts) ≡ Linear ts → fold-terms ds f ts ≡ ts
  unfolding fold-int
  sum_folded tnil h = refl
  sum_folded (tmore k e tnil) h = go (eqZ k (pos 1)) h
    where
      go : (b : Bool) → cond b (fold-int ds f e) (Linear (tmore k (fold-int ds f e) tnil)) ≡ Linear (tmore k e tnil) → tmore k (fold-int ds f e) tnil ≡ tmore k e tnil
      go true q = absurd (omega (arith, ap (λ x. length (encode_int x)) q, fold_int_size ds f e, sum_longer k e))
      go false q = cc
  sum_folded (tmore k e (tmore l g ts)) h = cc

  record Parts (c : BoolExpr) (t e : IntExpr) : Type 0 where
    pub condition : Solid ds f c
    pub first : fold-int ds f t ≡ t
    pub second : fold-int ds f e ≡ e

  if_folded : (i : IfIsRead) (c : BoolExpr) (t e : IntExpr) → fold-int ds f (If i c t e) ≡ If i c t e → Parts c t e
  unfolding fold-int
  if_folded i c t e h = go (is_const (fold ds f c)) refl h
    where
      go : (o : Option Bool) → is_const (fold ds f c) ≡ o → fold_if o i (fold ds f c) (fold-int ds f t) (fold-int ds f e) ≡ If i c t e → Parts c t e
      go none n q =
          let d : fold ds f c ≡ c = cc in
          let s : Solid ds f (fold ds f c) = rw n at (fold_folded ds f c) in
          record { condition = subst (Solid ds f) d s; first = cc; second = cc }
      go (some true) n q = absurd (omega (arith, ap (λ x. length (encode_int x)) q, fold_int_size ds f t, if_length i c t e))
      go (some false) n q = absurd (omega (arith, ap (λ x. length (encode_int x)) q, fold_int_size ds f e, if_length i c t e))

  terms_first : (k : ℤ) (e : IntExpr) (ts : Terms) → fold-terms ds f (tmore k e ts) ≡ tmore k e ts → (fold-int ds f e ≡ e) × (fold-terms ds f ts ≡ ts)
  unfolding fold-int
  terms_first k e ts h = (cc, cc)

  -- ---- legal

  abbrev Small : BoolExpr → Type 0
  Small e = EveryOf Any (λ v. v < max_bools) (λ v. v < max_ints) e

  abbrev SmallInt : IntExpr → Type 0
  SmallInt e = EveryIntOf Any (λ v. v < max_bools) (λ v. v < max_ints) e

  mutual
    unfolding Solid Legal EveryOf depth expr_bound

    solid_legal : (e : BoolExpr) (l : ℕ) → Solid ds f e → EveryOf Any (λ v. v < max_bools) (λ v. v < max_ints) e → expr_bound e ≤ 0 → depth e ≤ l → Legal e l
    solid_legal (Const b) l s v n d = s
    solid_legal (Var v) l s h n d = (omega arith, h)
    solid_legal (NVar k) l s v n d = absurd (omega arith)
    solid_legal (And ms) l s v n d = (omega arith, s.0, solids_legal ms (l - 1) s.1 v n (omega arith))
    solid_legal (Or ms) l s v n d = (omega arith, s.0, solids_legal ms (l - 1) s.1 v n (omega arith))
    solid_legal (Not e) l s v n d = (omega arith, solid_legal e (l - 1) s v n (omega arith))
    solid_legal (Xor a b) l s v n d = (omega arith, solid_legal a (l - 1) s.0 v.0 (omega arith) (omega arith), solid_legal b (l - 1) s.1 v.1 (omega arith) (omega arith))
    solid_legal (Iff a b) l s v n d = (omega arith, solid_legal a (l - 1) s.0 v.0 (omega arith) (omega arith), solid_legal b (l - 1) s.1 v.1 (omega arith) (omega arith))
    solid_legal (Imp a b) l s v n d = (omega arith, solid_legal a (l - 1) s.0 v.0 (omega arith) (omega arith), solid_legal b (l - 1) s.1 v.1 (omega arith) (omega arith))
    solid_legal (Cmp o a b) l s v n d = (omega arith, int_legal a (l - 1) s.0 v.0 (omega arith) (omega arith), int_legal b (l - 1) s.1 v.1 (omega arith) (omega arith))

    solids_legal : (ms : Members) (l : ℕ) → SolidMembers ds f ms → EveryMemberOf Any (λ v. v < max_bools) (λ v. v < max_ints) ms → members_bound ms ≤ 0 → depth_members ms ≤ l → LegalMembers ms l
    solids_legal mnil l s v n d = tt
    solids_legal (more e ms) l s v n d = (solid_legal e l s.0 v.0 (omega arith) (omega arith), solids_legal ms l s.1 v.1 (omega arith) (omega arith))

    int_legal : (e : IntExpr) (l : ℕ) → fold-int ds f e ≡ e → EveryIntOf Any (λ v. v < max_bools) (λ v. v < max_ints) e → int_bound e ≤ 0 → depth_int e ≤ l → LegalInt e l
    int_legal (IConst c) l q v n d = omega arith
    int_legal (IVar v) l q h n d = (omega arith, h)
    int_legal (Linear ts) l q v n d = (omega arith, terms_legal ts (l - 1) (sum_folded ts q) v n (omega arith))
    int_legal (If i c t e) l q v n d =
        let p = if_folded i c t e q in
        let a = depth c in let x = depth_int t in let y = depth_int e in
        let b = expr_bound c in let g = int_bound t in let h = int_bound e in
        let m = under (max a (max x y)) l d in
        (m.0, solid_legal c (l - 1) p.condition v.0 (most_first b g h 0 n) (most_first a x y (l - 1) m.1), int_legal t (l - 1) p.first v.1.0 (most_second b g h 0 n) (most_second a x y (l - 1) m.1), int_legal e (l - 1) p.second v.1.1 (most_third b g h 0 n) (most_third a x y (l - 1) m.1))

    terms_legal : (ts : Terms) (l : ℕ) → fold-terms ds f ts ≡ ts → EveryTermOf Any (λ v. v < max_bools) (λ v. v < max_ints) ts → terms_numbers ts ≤ 0 → depth_terms ts ≤ l → LegalTerms ts l
    terms_legal tnil l q v n d = tt
    terms_legal (tmore k e ts) l q v n d = let p = terms_first k e ts q in (int_legal e l p.0 v.0 (omega arith) (omega arith), terms_legal ts l p.1 v.1 (omega arith) (omega arith))

  -- ---- statements

  -- a rule that settled: true, or solid
  abbrev SettledRoot : Option Bool → BoolExpr → Type 0
  SettledRoot (some b) e = b ≡ true
  SettledRoot none e = Solid ds f e

  root_legal : (e : BoolExpr) → SettledRoot (is_const e) e → Small e → expr_bound e ≤ 0 → depth e ≤ 64 → LegalRule e 64
  root_legal (Const true) s v n d = true_rule {l = 64} (omega arith)
  root_legal (Const false) s v n d = absurd (false≢true s)
  root_legal (Var x) s v n d = legal_rule (solid_legal (Var x) 64 s v n d)
  root_legal (NVar k) s v n d = legal_rule (solid_legal (NVar k) 64 s v n d)
  root_legal (And ms) s v n d = legal_rule (solid_legal (And ms) 64 s v n d)
  root_legal (Or ms) s v n d = legal_rule (solid_legal (Or ms) 64 s v n d)
  root_legal (Not e) s v n d = legal_rule (solid_legal (Not e) 64 s v n d)
  root_legal (Xor a b) s v n d = legal_rule (solid_legal (Xor a b) 64 s v n d)
  root_legal (Iff a b) s v n d = legal_rule (solid_legal (Iff a b) 64 s v n d)
  root_legal (Imp a b) s v n d = legal_rule (solid_legal (Imp a b) 64 s v n d)
  root_legal (Cmp o a b) s v n d = legal_rule (solid_legal (Cmp o a b) 64 s v n d)

  columns_legal : (es : List IntExpr) → map (fold-int ds f) es ≡ es → EveryColumnOf Any (λ v. v < max_bools) (λ v. v < max_ints) es → NoNumbers es → Each (λ e. depth_int e ≤ 64) es → Each (λ e. LegalInt e 64) es
  unfolding EveryColumnOf
  columns_legal [] q v n d = tt
  columns_legal (e ∷ es) q v n d =
      let a : fold-int ds f e ≡ e = cc in
      let b : map (fold-int ds f) es ≡ es = cc in
      (int_legal e 64 a v.0 n.0 d.0, columns_legal es b v.1 n.1 d.1)

  pub stmts_legal : (ss : List Stmt) → SettledStmts ds f ss → EveryStmts (λ v. v < max_bools) (λ v. v < max_ints) ss → Each Plain ss → Each Shallow ss → Each LegalStmt ss
  unfolding SettledStmts EveryStmts EveryStmt
  stmts_legal [] s v n d = tt
  stmts_legal (Rule e ∷ ss) s v n d = (root_legal e s.0 v.0 n.0 d.0, stmts_legal ss s.1 v.1 n.1 d.1)
  stmts_legal (Table es rows ∷ ss) s v n d = (columns_legal es s.0 v.0 n.0.1 d.0, stmts_legal ss s.1 v.1 n.1 d.1)
  stmts_legal (AllDifferent es ∷ ss) s v n d = (columns_legal es s.0 v.0 n.0 d.0, stmts_legal ss s.1 v.1 n.1 d.1)

  -- folding adds no level
  columns_shallow : (es : List IntExpr) → Each (λ e. depth_int e ≤ 64) es → Each (λ e. depth_int e ≤ 64) (map (fold-int ds f) es)
  columns_shallow [] h = tt
  columns_shallow (e ∷ es) h = (omega (arith, fold_int_depth ds f e, h.0), columns_shallow es h.1)

  folded_shallow : (ss : List Stmt) → Each Shallow ss → Each Shallow (map (fold-stmt ds f) ss)
  unfolding fold-stmt
  folded_shallow [] h = tt
  folded_shallow (Rule e ∷ ss) h = (omega (arith, fold_depth ds f e, h.0), folded_shallow ss h.1)
  folded_shallow (Table es rows ∷ ss) h = (columns_shallow es h.0, folded_shallow ss h.1)
  folded_shallow (AllDifferent es ∷ ss) h = (columns_shallow es h.0, folded_shallow ss h.1)

-- ---- of a set that settles

pub settled_legal : (p : Problem) → WellFormed p → (f : Fixed) (ss : List Stmt) → optimize p ≡ settled f ss → Each LegalStmt ss
settled_legal p well f ss end =
    let rests = optimize_rests p (well_declared p well) f ss end in
    let d : Each Shallow ss = subst (λ (ts : List Stmt). Each Shallow ts) (sym rests.origin) (folded_shallow p.domains f p.stmts (well_shallow p.bools (length p.domains) p.stmts well.stmts_well)) in
    stmts_legal p.domains f ss (settled_shape p.domains f p.stmts ss rests)
    (every_stmts_map (λ v. v < p.bools) (λ v. v < length p.domains) (λ v. v < max_bools) (λ v. v < max_ints) (λ v h. omega (arith, well.few_bools)) (λ v h. omega (arith, well.few_ints)) ss (settled_declared p well f ss end)) (settled_plain p well f ss end) d
